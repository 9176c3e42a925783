-- A line is honest to both keys of each bearer where a ghost stands for the chain before it.
use Rattle.std.proofs.Common.{◌≡◌, inl, inr, ℕ, ◌+◌, ◌-◌, ◌%◌, ◌<◌, ◌≤◌, true, false, List, [], length, Option, Some, None, is_some, refl, sym, ◌∙◌, ap, subst, arith}
use Rattle.std.specs.List.{slice_index_or}
use Rattle.std.specs.Option.{unwrap_or}
use Rattle.std.proofs.lemmas.Bool.{cases_lt, true≢false}
use Rattle.std.proofs.lemmas.Option.{none-some, same_Some}
use Rattle.link_base.specs.declared.names.Key.{Key}
use Rattle.link_base.specs.declared.names.Remote.{Remote}
use Rattle.link_base.specs.declared.names.SnSize.{SnSize}
use Rattle.link_base.specs.SequenceNumbers.{modulus, most_unconfirmed}
use Rattle.bearer_map.specs.declared.rows.BearerRow.{BearerRow}
use Rattle.rlc_model.specs.Sides.{flip}
use Rattle.pdcp_pdu.specs.Pdcp.{Pdcp, Sdu, Report as ReportPdu, IsPdcp}
use Rattle.pdcp_model.specs.HandUp.{Hearing}
use Rattle.pdcp_model.specs.Receiver.{stored_at}
use Rattle.pdcp_model.specs.Sender.{Sender, kept_at, is_reported}
use Rattle.script_text.specs.History.{Entry}
use Rattle.node_model.specs.Names.{NodeName, back, sink, source}
use Rattle.node_model.specs.State.{Incoming, Outgoing, no_incoming, no_outgoing}
use Rattle.node_model.specs.Tables.{first_count}
use Rattle.chain_model.specs.Book.{submitted, handed}
use Rattle.chain_model.specs.Draining.{Moment}
use Rattle.chain_model.specs.State.{Chain, sender_at, receiving_at}
use Rattle.book_law.specs.Confirmations.{AckedBy, ReportedBy}
use Rattle.book_law.specs.Hearings.{HearsBy}
use Rattle.book_law.specs.Honest.{IsOfSubmitted, HasCount, IsHonestLine}
use Rattle.book_law.specs.Kept.{KeepsSdus}
use Rattle.item_law.specs.State.{Content, Data, Report, Item, Tables as ItemTables, Chain as ItemChain, way_with}
use Rattle.item_law.specs.HandUps.{IsHandUp}
use Rattle.item_law.proofs.Inductive.{reaches_inv}
use Rattle.item_law.proofs.kept.Invariant.{KeyFits, IsSubmitted, state_of}
use Rattle.item_law.proofs.laws.Handed.{live_in_window}
use Rattle.item_law.proofs.laws.OneCopy.{live_unheard}
use Rattle.item_chain.specs.Foundations.{PduLaws}
use Rattle.item_chain.specs.View.{view}
use Rattle.item_chain.specs.Stands.{row_of, row_limit, IsPdu, item_tables, IsSpelt, OutgoingFits, IncomingFits, calm, Ghost, Stands}
use Rattle.item_chain.proofs.Confirms.{IsDone}
use Rattle.item_chain.proofs.Arrives.{hand_up}
use Rattle.item_chain.proofs.Receives.{none_is}
use Rattle.item_chain.proofs.Taken.{key_is, same_sn, same_body, same_fmc, same_map, no_both, flip_twice}
use Rattle.item_run.proofs.Coming.{Came, completes_came, acked_done}

module _ (g : Ghost) (c : Chain) (st : Stands g (view c)) where
  abbrev a : ItemChain
  a = g.chain

  abbrev T : ItemTables
  T = item_tables c.tables

  pub its_keys : (key : Key) → KeyFits (state_of T a (λ r. false) key) a.items a.spot key
  its_keys key = (reaches_inv T (calm a) st.reaches).keys key refl

  -- both ends of a key of a bearer
  module _ (key : Key) (row : BearerRow) (its_row : row_of c.tables key.remote key.drb ≡ Some row) where
    abbrev pub inc : Incoming
    inc = (st.ends.receives key row its_row).0

    abbrev pub out : Outgoing
    out = (st.ends.sends key row its_row).0

    pub inc_fits : IncomingFits c.tables a.path a.heard a.wanted (sink key) key inc
    inc_fits = st.ends.incomings (sink key) key inc (st.ends.receives key row its_row).1

    pub out_fits : OutgoingFits c.tables a.sender (source key) key out
    out_fits = st.ends.outgoings (source key) key out (st.ends.sends key row its_row).1

    pub inc_is : receiving_at c key ≡ inc
    inc_is = ap (λ (o : Option Incoming). unwrap_or o (no_incoming key)) (st.ends.receives key row its_row).1

    pub out_is : sender_at c key ≡ out.sender
    out_is = ap (λ (o : Option Outgoing). (unwrap_or o (no_outgoing key)).sender) (st.ends.sends key row its_row).1

    pub first_in : (receiving_at c key).receiver.first ≡ first_count row key.way
    first_in = ap (λ (j : Incoming). j.receiver.first) inc_is ∙ inc_fits.first
        ∙ ap (λ (b : BearerRow). first_count b key.way) (same_Some inc_fits.row row (sym inc_fits.its_row ∙ its_row))

    pub size_in : (receiving_at c key).receiver.size ≡ row.pdcp
    size_in = ap (λ (j : Incoming). j.receiver.size) inc_is ∙ inc_fits.size ∙ ap (λ (b : BearerRow). b.pdcp) (same_Some inc_fits.row row (sym inc_fits.its_row ∙ its_row))

    -- what was heard the receiver has
    pub heard_has : (n : ℕ) → is_some (a.heard key n) ≡ true → HasCount (receiving_at c key).receiver (first_count row key.way + n)
    heard_has n heard = subst (λ (j : Incoming). HasCount j.receiver (first_count row key.way + n)) (sym inc_is) (elim (cases_lt n inc.receiver.handed) [
      | inl low ↦ inl (omega (arith, low, first))
      | inr high ↦
          let m : ℕ = n - inc.receiver.handed in
          let at : n ≡ inc.receiver.handed + m = omega (arith, high) in
          let stored : is_some (stored_at inc.receiver m) ≡ true = sym (inc_fits.fits.stored m) ∙ ap (λ (k : ℕ). is_some (a.heard key k)) (sym at) ∙ heard in
          inr (m, omega (arith, at, first), λ none. true≢false (sym stored ∙ ap (λ (o : Option (List ℕ)). is_some o) none))
    ])
      where
        first : inc.receiver.first ≡ first_count row key.way
        first = ap (λ (j : Incoming). j.receiver.first) (sym inc_is) ∙ first_in

    -- what it handed up is the hand-up of what was heard
    pub record HandUps : Type 0 where
      pub up : List (List ℕ)
      pub long : length up ≡ (receiving_at c key).receiver.handed
      pub is : IsHandUp (a.heard key) up

    pub hand_ups : HandUps
    hand_ups =
        let r = inc.receiver in
        let ups = hand_up (a.heard key) r.handed inc_fits.fits.up in
        record {
          up = ups.0;
          long = ups.1 ∙ ap (λ (j : Incoming). j.receiver.handed) (sym inc_is);
          is = record {
            run = λ n lt. ups.2 n (omega (arith, lt, ups.1));
            stops = ap (a.heard key) ups.1 ∙ none_is (a.heard key r.handed) (ap (λ (n : ℕ). is_some (a.heard key n)) (let same : r.handed ≡ r.handed + 0 = omega arith in same)
                ∙ inc_fits.fits.stored 0 ∙ ap (λ (o : Option (List ℕ)). is_some o) inc_fits.fits.stops);
          };
        }

    -- what wasn't heard it hasn't handed up
    pub unheard_above : (n : ℕ) → is_some (a.heard key n) ≡ false → (receiving_at c key).receiver.handed ≤ n
    unheard_above n unheard = elim (cases_lt n inc.receiver.handed) [
      | inl low ↦ absurd (true≢false (sym (inc_fits.fits.up n low) ∙ unheard))
      | inr high ↦ omega (arith, high, ap (λ (j : Incoming). j.receiver.handed) inc_is)
    ]

    -- what isn't confirmed the sender keeps, as it was submitted
    pub unconfirmed_kept : (n : ℕ) → n < length (a.sender key).submitted → ((a.sender key).confirmed n ≡ true → ⊥)
        → kept_at (sender_at c key) n ≡ Some (slice_index_or (a.sender key).submitted n [])
    unconfirmed_kept n lt not = ap (λ (s : Sender). kept_at s n) out_is ∙ by (kept_at out.sender n) refl
      where
        by : (o : Option (List ℕ)) → kept_at out.sender n ≡ o → kept_at out.sender n ≡ Some (slice_index_or (a.sender key).submitted n [])
        by None is = absurd (not ((out_fits.fits.confirmed n (omega (arith, lt, out_fits.fits.long))).1 is))
        by (Some sdu) is = is ∙ ap (λ (s : List ℕ). Some s) (sym (out_fits.fits.sdus n sdu is))

module _ (l : PduLaws) (g : Ghost) (c : Chain) (st : Stands g (view c)) (name : NodeName) (key : Key) (pdu : List ℕ) (came : Came g (view c) st name key pdu) where
  abbrev pub i : Item
  i = came.its.item

  abbrev pub spelt : IsSpelt c.tables i (g.spell came.number)
  spelt = st.spelt came.number i came.its.its

  abbrev pub bearer : BearerRow
  bearer = spelt.row

  pub its_row : row_of c.tables key.remote key.drb ≡ Some bearer
  its_row = ap (λ (r : Remote). row_of c.tables r key.drb) (sym came.its.remote) ∙ ap (row_of c.tables i.key.remote) (sym came.its.drb) ∙ spelt.its_row

  pub spells : IsPdcp bearer.pdcp spelt.pdu pdu
  spells = subst (IsPdcp bearer.pdcp spelt.pdu) (sym came.its.spelled) (l.one_spelling.0 bearer.pdcp spelt.pdu spelt.fits).0

  -- what is read is what is spelt
  reads : (q : Pdcp) → IsPdcp (receiving_at c key).receiver.size q pdu → q ≡ spelt.pdu
  reads q is = l.one_reading bearer.pdcp q spelt.pdu pdu (subst (λ (z : SnSize). IsPdcp z q pdu) (size_in g c st key bearer its_row) is) spells

  -- a data PDU is that of an SDU that isn't heard, with the SN of its COUNT
  pub record OfData (sn : ℕ) (body : List ℕ) : Type 0 where
    pub count : ℕ
    pub submitted : IsSubmitted (g.chain.sender key) count body
    pub unheard : is_some (g.chain.heard key count) ≡ false
    pub few : count < (receiving_at c key).receiver.handed + most_unconfirmed bearer.pdcp
    pub its_sn : sn ≡ (first_count bearer key.way + count) % modulus bearer.pdcp
    pub its_key : i.key ≡ key
    pub content : i.content ≡ Data count body

  pub of_data : (sn : ℕ) (body : List ℕ) → IsPdcp (receiving_at c key).receiver.size (Sdu sn body) pdu → OfData sn body
  of_data sn body is = by i.content refl
    where
      by : (content : Content) → i.content ≡ content → OfData sn body
      by (Report named) content =
          let r = subst (λ (x : Content). IsPdu bearer i.key.way x spelt.pdu) content spelt.is_pdu in
          absurd (no_both sn r.0 body r.1 (reads (Sdu sn body) is ∙ r.2))
      by (Data n y) content =
          let is_pdu = subst (λ (x : Content). IsPdu bearer i.key.way x spelt.pdu) content spelt.is_pdu in
          let same = reads (Sdu sn body) is ∙ is_pdu in
          let its_key : i.key ≡ key = key_is i.key key came.its.remote came.its.drb (ap (way_with i.key.way) (sym content) ∙ came.its.way) in
          let unheard = live_unheard (item_tables c.tables) (calm g.chain) st.reaches came.number i n y refl came.its.live content in
          let ups = hand_ups g c st key bearer its_row in
          let win = live_in_window (item_tables c.tables) (calm g.chain) st.reaches came.number i n y ups.up refl came.its.live content
          (subst (λ (k : Key). IsHandUp (g.chain.heard k) ups.up) (sym its_key) ups.is) in
          let submitted = (its_keys g c st i.key).sdus came.number i n y (record { is = came.its.its; key = refl }) content in
          record {
            count = n;
            submitted = subst (λ (k : Key). IsSubmitted (g.chain.sender k) n body) its_key
                (subst (IsSubmitted (g.chain.sender i.key) n) (sym (same_body sn _ body y same)) submitted);
            unheard = ap (λ (k : Key). is_some (g.chain.heard k n)) (sym its_key) ∙ unheard;
            few = omega (arith, win.1, ups.long, ap row_limit spelt.its_row);
            its_sn = same_sn sn _ body y same ∙ ap (λ (k : Key). (first_count bearer k.way + n) % modulus bearer.pdcp) its_key;
            its_key = its_key;
            content = content ∙ ap (Data n) (sym (same_body sn _ body y same));
          }

  -- a status report tells of what was heard
  pub of_report : (fmc : ℕ) (bits : List ℕ) → IsPdcp (receiving_at c key).receiver.size (ReportPdu fmc bits) pdu → (n : ℕ)
      → is_reported fmc bits (first_count bearer (back key).way + n) ≡ true → is_some (g.chain.heard (back key) n) ≡ true
  of_report fmc bits is n says = by i.content refl
    where
      by : (content : Content) → i.content ≡ content → is_some (g.chain.heard (back key) n) ≡ true
      by (Data m y) content =
          let is_pdu = subst (λ (x : Content). IsPdu bearer i.key.way x spelt.pdu) content spelt.is_pdu in
          absurd (no_both _ fmc y bits (sym is_pdu ∙ sym (reads (ReportPdu fmc bits) is)))
      by (Report named) content =
          let r = subst (λ (x : Content). IsPdu bearer i.key.way x spelt.pdu) content spelt.is_pdu in
          let same = reads (ReportPdu fmc bits) is ∙ r.2 in
          let its_way : i.key.way ≡ flip key.way = sym (flip_twice i.key.way) ∙ ap flip (ap (way_with i.key.way) (sym content) ∙ came.its.way) in
          let its_key : i.key ≡ back key = key_is i.key (back key) came.its.remote came.its.drb its_way in
          let named_it : named n ≡ true = r.3 n ∙ ap (λ (z : ℕ). is_reported z r.1 (first_count bearer i.key.way + n)) (sym (same_fmc fmc r.0 bits r.1 same))
          ∙ ap (λ (z : List ℕ). is_reported fmc z (first_count bearer i.key.way + n)) (sym (same_map fmc r.0 bits r.1 same))
          ∙ ap (λ (k : Key). is_reported fmc bits (first_count bearer k.way + n)) its_key ∙ says in
          ap (λ (k : Key). is_some (g.chain.heard k n)) (sym its_key)
          ∙ (its_keys g c st i.key).named came.number i named n (record { is = came.its.its; key = refl }) content named_it

module _ (l : PduLaws) (g : Ghost) (m : Moment) (st : Stands g (view m.before)) where
  abbrev c : Chain
  c = m.before

  hears_honestly : (h : List Entry) (row : BearerRow) (key : Key) → KeepsSdus row key.way (submitted key h) (sender_at c key)
      → (receiving_at c key).receiver.handed ≡ length (handed key h) → (hearing : Hearing) → HearsBy key m hearing → IsOfSubmitted row key h hearing
  hears_honestly h row key keeps number hearing x =
      let came = completes_came g m st key x.body x.completes in
      let d = of_data l g c st (sink key) key x.body came hearing.sn hearing.sdu x.reads in
      let the_row = its_row l g c st (sink key) key x.body came in
      let its : BearerRow = bearer l g c st (sink key) key x.body came in
      let fits = out_fits g c st key its the_row in
      let sender = out_is g c st key its the_row in
      let same_row : its ≡ fits.row = same_Some its fits.row (sym the_row ∙ fits.its_row) in
      let kept = unconfirmed_kept g c st key its the_row d.count d.submitted.0
      (λ is. true≢false (sym ((its_keys g c st key).confirmed d.count is) ∙ d.unheard)) in
      let mine = keeps.each d.count _ kept in
      let first : first_count its key.way ≡ first_count row key.way = ap (λ (b : BearerRow). first_count b key.way) same_row ∙ sym fits.first
      ∙ ap (λ (s : Sender). s.first) (sym sender) ∙ keeps.first in
      let size : its.pdcp ≡ row.pdcp = ap (λ (b : BearerRow). b.pdcp) same_row ∙ sym fits.size ∙ ap (λ (s : Sender). s.size) (sym sender) ∙ keeps.size in
      record {
        number = d.count;
        below = mine.0;
        sdu = d.submitted.1 ∙ mine.1;
        sn = d.its_sn ∙ ap (λ (f : ℕ). (f + d.count) % modulus its.pdcp) first ∙ ap (λ (z : SnSize). (first_count row key.way + d.count) % modulus z) size;
        recent = omega (arith, number, unheard_above g c st key its the_row d.count d.unheard);
      }

  acks_honestly : (key : Key) (count : ℕ) → AckedBy key m count → HasCount (receiving_at c key).receiver count
  acks_honestly key count x = by (acked_done g m st (source key) x.tags x.marks x.comes x.remote x.drb x.direct x.tag x.among)
    where
      by : IsDone c.tables g.chain.items g.chain.spot (source key) x.tag → HasCount (receiving_at c key).receiver count
      by (inl none) = absurd (none-some count (sym none ∙ x.its_count))
      by (inr d) =
          let its_key : d.i.key ≡ key = sym d.key ∙ x.its_key in
          let heard = (its_keys g c st d.i.key).direct d.n d.i d.c d.x (record { is = d.is; key = refl }) d.content d.goal d.arrived in
          let has = heard_has g c st d.i.key d.row d.its_row d.c heard in
          subst (λ (k : Key). HasCount (receiving_at c k).receiver count) its_key
          (subst (HasCount (receiving_at c d.i.key).receiver) (same_Some _ count (sym d.count ∙ x.its_count)) has)

  reports_honestly : (key : Key) (count : ℕ) → ReportedBy key m count → HasCount (receiving_at c key).receiver count
  reports_honestly key count x =
      subst (λ (k : Key). HasCount (receiving_at c k).receiver count) x.its_other (elim (cases_lt count (first_count its (back x.other).way)) [
        | inl low ↦ inl (omega (arith, low, first_in g c st (back x.other) its the_row))
        | inr high ↦
            let n : ℕ = count - first_count its (back x.other).way in
            let at : first_count its (back x.other).way + n ≡ count = omega (arith, high) in
            let heard = of_report l g c st (sink x.other) x.other x.body came x.fmc x.bits x.reads n (ap (is_reported x.fmc x.bits) at ∙ x.says) in
            subst (HasCount (receiving_at c (back x.other)).receiver) at (heard_has g c st (back x.other) its the_row n heard)
      ])
    where
      came : Came g (view c) st (sink x.other) x.other x.body
      came = completes_came g m st x.other x.body x.completes

      its : BearerRow
      its = bearer l g c st (sink x.other) x.other x.body came

      the_row : row_of c.tables x.other.remote x.other.drb ≡ Some its
      the_row = its_row l g c st (sink x.other) x.other x.body came

  pub honest_line : (h : List Entry) (row : BearerRow) (key : Key) → KeepsSdus row key.way (submitted key h) (sender_at c key)
      → (receiving_at c key).receiver.handed ≡ length (handed key h) → IsHonestLine row key h m
  honest_line h row key keeps number = record {
    heard = hears_honestly h row key keeps number;
    confirmed = λ count by. elim by [
      | inl x ↦ acks_honestly key count x
      | inr x ↦ reports_honestly key count x
    ];
  }
