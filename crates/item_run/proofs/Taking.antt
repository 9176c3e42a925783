-- PDCP takes what comes of items: a data PDU is handed up or waits, and a status report speaks of what was submitted.
use Rattle.std.proofs.Common.{◌≡◌, inl, inr, ℕ, ◌+◌, ◌-◌, ◌%◌, ◌<◌, ◌≤◌, true, false, List, length, Some, is_some, sym, ◌∙◌, ap, subst, arith}
use Rattle.std.proofs.lemmas.Option.{same_Some}
use Rattle.link_base.specs.declared.limits.TheConstants.{COUNT_END}
use Rattle.link_base.specs.declared.names.Key.{Key}
use Rattle.link_base.specs.declared.names.SnSize.{SnSize}
use Rattle.link_base.specs.SequenceNumbers.{modulus, most_unconfirmed}
use Rattle.bearer_map.specs.declared.rows.BearerRow.{BearerRow}
use Rattle.pdcp_law.proofs.Reported.{tests_reports}
use Rattle.pdcp_pdu.specs.Pdcp.{Sdu, Report as ReportPdu, IsPdcp, IsPdcpFault}
use Rattle.pdcp_model.specs.declared.answers.PdcpHeard.{PdcpHeard}
use Rattle.pdcp_model.specs.Receiver.{Receiver, Hears}
use Rattle.pdcp_model.specs.Sender.{Sender, is_reported, IsBeyond}
use Rattle.node_model.specs.declared.answers.NodeHeard.{NodeHeard}
use Rattle.node_model.specs.Ends.{HearsReport, HearsPdcp, data_pdu, report, neither, heard_as}
use Rattle.node_model.specs.Names.{NodeName, back, sink, source}
use Rattle.node_model.specs.State.{Incoming, Node, Outgoing, incoming, outgoing}
use Rattle.node_model.specs.Tables.{first_count}
use Rattle.chain_model.specs.State.{Chain, node_at, receiving_at, sender_at}
use Rattle.item_chain.specs.Foundations.{PduLaws}
use Rattle.item_chain.specs.View.{view}
use Rattle.item_chain.specs.Stands.{row_of, IncomingFits, OutgoingFits, Ghost, Stands}
use Rattle.item_chain.proofs.Receives.{some_is, Took, hears_count}
use Rattle.item_chain.proofs.Taken.{back_source}
use Rattle.item_run.proofs.Coming.{Came}
use Rattle.item_run.proofs.Honest.{its_keys, inc, out, inc_fits, out_fits, inc_is, out_is, first_in, size_in, unheard_above, bearer, its_row, spelt, spells, OfData, of_data, of_report}
use Rattle.item_run.proofs.Strange.{is_strange}

module _ (l : PduLaws) (g : Ghost) (c : Chain) (st : Stands g (view c)) (name : NodeName) (key : Key) (pdu : List ℕ) (came : Came g (view c) st name key pdu) where
  abbrev its : BearerRow
  its = bearer l g c st name key pdu came

  the_row : row_of c.tables key.remote key.drb ≡ Some its
  the_row = its_row l g c st name key pdu came

  -- a data PDU
  data_taken : (sn : ℕ) (body : List ℕ) → IsPdcp (receiving_at c key).receiver.size (Sdu sn body) pdu → (answer : PdcpHeard) (new : Receiver)
      → Hears (receiving_at c key).receiver sn body answer new → is_strange (heard_as key answer) ≡ false
  data_taken sn body is answer new hears = by (hears_count (g.chain.heard key) r fits.fits m body below fresh last answer new as_count)
    where
      d : OfData l g c st name key pdu came sn body
      d = of_data l g c st name key pdu came sn body is

      r : Receiver
      r = (inc g c st key its the_row).receiver

      fits : IncomingFits c.tables g.chain.path g.chain.heard g.chain.wanted (sink key) key (inc g c st key its the_row)
      fits = inc_fits g c st key its the_row

      same : receiving_at c key ≡ inc g c st key its the_row
      same = inc_is g c st key its the_row

      first : r.first ≡ first_count its key.way
      first = ap (λ (j : Incoming). j.receiver.first) (sym same) ∙ first_in g c st key its the_row

      size : r.size ≡ its.pdcp
      size = ap (λ (j : Incoming). j.receiver.size) (sym same) ∙ size_in g c st key its the_row

      from : r.handed ≤ d.count
      from = omega (arith, unheard_above g c st key its the_row d.count d.unheard, ap (λ (j : Incoming). j.receiver.handed) same)

      m : ℕ
      m = d.count - r.handed

      at : r.handed + m ≡ d.count
      at = omega (arith, from)

      below : m < most_unconfirmed r.size
      below = omega (arith, from, d.few, ap (λ (j : Incoming). j.receiver.handed) same, ap most_unconfirmed size)

      fresh : is_some (g.chain.heard key (r.handed + m)) ≡ false
      fresh = ap (λ (n : ℕ). is_some (g.chain.heard key n)) at ∙ d.unheard

      last : r.first + (r.handed + m) < COUNT_END
      last =
          let f = out_fits g c st key its the_row in
          omega (arith, at, first, f.first, ap (λ (b : BearerRow). first_count b key.way) (same_Some f.row its (sym f.its_row ∙ the_row)), f.few, d.submitted.0, f.fits.long)

      as_count : Hears r ((r.first + (r.handed + m)) % modulus r.size) body answer new
      as_count = subst (λ (n : ℕ). Hears r n body answer new)
          (d.its_sn ∙ ap (λ (f : ℕ). (f + d.count) % modulus its.pdcp) (sym first) ∙ ap (λ (n : ℕ). (r.first + n) % modulus its.pdcp) (sym at)
          ∙ ap (λ (z : SnSize). (r.first + (r.handed + m)) % modulus z) (sym size))
          (subst (λ (j : Incoming). Hears j.receiver sn body answer new) same hears)

      by : Took (g.chain.heard key) r fits.fits m body below fresh answer new → is_strange (heard_as key answer) ≡ false
      by (Took.waits is kept handed) = ap (λ (x : PdcpHeard). is_strange (heard_as key x)) is
      by (Took.up sdus is kept handed ups) = ap (λ (x : PdcpHeard). is_strange (heard_as key x)) is

  -- a status report
  none_beyond : (fmc : ℕ) (bits : List ℕ) → IsPdcp (receiving_at c key).receiver.size (ReportPdu fmc bits) pdu → IsBeyond (sender_at c (back key)) fmc bits → ⊥
  none_beyond fmc bits is beyond = by (subst (λ (s : Sender). IsBeyond s fmc bits) (out_is g c st (back key) its the_row) beyond)
    where
      s : Sender
      s = (out g c st (back key) its the_row).sender

      fits : OutgoingFits c.tables g.chain.sender (source (back key)) (back key) (out g c st (back key) its the_row)
      fits = out_fits g c st (back key) its the_row

      first : s.first ≡ first_count its (back key).way
      first = fits.first ∙ ap (λ (b : BearerRow). first_count b (back key).way) (same_Some fits.row its (sym fits.its_row ∙ the_row))

      submitted : (n : ℕ) → is_reported fmc bits (s.first + n) ≡ true → n < length s.kept
      submitted n says =
          let heard = some_is (g.chain.heard (back key) n) (of_report l g c st name key pdu came fmc bits is n (ap (λ (f : ℕ). is_reported fmc bits (f + n)) (sym first) ∙ says)) in
          omega (arith, ((its_keys g c st (back key)).submitted n heard.0 heard.1).0, fits.fits.long)

      by : IsBeyond s fmc bits → ⊥
      by (inl low) = let last = length s.kept in omega (arith, submitted last ((tests_reports fmc bits (s.first + last)).1 (inl low)))
      by (inr b) =
          let n : ℕ = b.0 - s.first in
          let at : s.first + n ≡ b.0 = omega (arith, b.1) in
          omega (arith, submitted n (ap (is_reported fmc bits) at ∙ (tests_reports fmc bits b.0).1 b.2), b.1)

  -- whatever it is
  pub pdcp_fine : (N : Node) → N.incoming ≡ (node_at c (sink key)).incoming → N.outgoing ≡ (node_at c (sink key)).outgoing → (answer : NodeHeard) (new : Node)
      → HearsPdcp N key pdu answer new → is_strange answer ≡ false
  pdcp_fine N ins outs answer new h = by h
    where
      receives : incoming N key ≡ receiving_at c key
      receives = ap (λ (is : List Incoming). incoming (record N { incoming = is }) key) ins

      sends : (outgoing N (back key)).sender ≡ sender_at c (back key)
      sends = ap (λ (os : List Outgoing). (outgoing (record N { outgoing = os }) (back key)).sender) outs
          ∙ ap (λ (x : NodeName). (outgoing (node_at c x) (back key)).sender) (sym (back_source key))

      report_fine : (fmc : ℕ) (bits : List ℕ) → IsPdcp (incoming N key).receiver.size (ReportPdu fmc bits) pdu → HearsReport N (back key) fmc bits answer new
          → is_strange answer ≡ false
      report_fine fmc bits is (inl taken) = ap is_strange taken.1
      report_fine fmc bits is (inr beyond) = absurd (none_beyond fmc bits (subst (λ (j : Incoming). IsPdcp j.receiver.size (ReportPdu fmc bits) pdu) receives is)
          (subst (λ (s : Sender). IsBeyond s fmc bits) sends beyond.0))

      by : HearsPdcp N key pdu answer new → is_strange answer ≡ false
      by (data_pdu sn sdu is s) = ap is_strange s.says ∙ data_taken sn sdu (subst (λ (j : Incoming). IsPdcp j.receiver.size (Sdu sn sdu) pdu) receives is) s.heard s.receiver
          (subst (λ (j : Incoming). Hears j.receiver sn sdu s.heard s.receiver) receives s.hears)
      by (report fmc bits is s) = report_fine fmc bits is s
      by (neither fault is says same) = absurd (no_fault fault (subst (λ (j : Incoming). IsPdcpFault j.receiver.size pdu fault) receives is))
        where
          no_fault : (fault : _) → IsPdcpFault (receiving_at c key).receiver.size pdu fault → ⊥
          no_fault fault is = l.no_fault its.pdcp (spelt l g c st name key pdu came).pdu pdu fault (spells l g c st name key pdu came)
              (subst (λ (z : SnSize). IsPdcpFault z pdu fault) (size_in g c st key its the_row) is)
