-- A line is honest to both keys of each bearer, where what holds of a chain on direct ports holds before it.
use Rattle.std.proofs.Common.{◌≡◌, inl, inr, ℕ, ◌+◌, ◌%◌, List, length, refl, sym, ◌∙◌, ap, subst, arith}
use Rattle.std.proofs.lemmas.Bool.{cases_lt}
use Rattle.link_base.specs.declared.names.Drb.{Drb}
use Rattle.link_base.specs.declared.names.Key.{Key}
use Rattle.link_base.specs.declared.names.PortName.{PortName}
use Rattle.link_base.specs.declared.names.PortName.TheVariants.{Direct}
use Rattle.link_base.specs.declared.names.Remote.{Remote}
use Rattle.link_base.specs.declared.names.Side.{Side}
use Rattle.link_base.specs.declared.names.Side.TheVariants.{Low, High}
use Rattle.link_base.specs.SequenceNumbers.{modulus}
use Rattle.link_base.specs.declared.names.SnSize.{SnSize}
use Rattle.bearer_map.specs.declared.rows.BearerRow.{BearerRow}
use Rattle.rlc_model.specs.declared.hop.HopHeard.TheVariants.{Amd}
use Rattle.rlc_model.specs.declared.receiver.Heard.TheVariants.{Complete}
use Rattle.rlc_model.specs.Sides.{across, hearer_of}
use Rattle.pdcp_pdu.specs.Pdcp.{Sdu, Report, IsPdcp}
use Rattle.pdcp_model.specs.Sender.{Sender, kept_at}
use Rattle.pdcp_model.specs.Receiver.{Receiver}
use Rattle.pdcp_model.specs.HandUp.{Hearing}
use Rattle.script_text.specs.History.{Entry}
use Rattle.node_model.specs.Names.{owner, sink, back}
use Rattle.node_model.specs.State.{Node, outgoing, incoming}
use Rattle.node_model.specs.Tables.{first_count}
use Rattle.chain_model.specs.Book.{submitted, handed}
use Rattle.chain_model.specs.Draining.{Moment}
use Rattle.chain_model.specs.Lines.{hearer}
use Rattle.chain_model.specs.State.{Chain, node_at, sender_at, receiving_at}
use Rattle.chain_law.specs.Entities.{RlcFits}
use Rattle.book_law.specs.Confirmations.{AckedBy, ReportedBy}
use Rattle.book_law.specs.Hearings.{EntityHears, CompletesPdcp, HearsBy}
use Rattle.book_law.specs.Honest.{IsOfSubmitted, HasCount, IsHonestLine}
use Rattle.book_law.specs.Kept.{KeepsSdus}
use Rattle.direct_run_law.specs.Foundations.{HopLaws, CallLaws, BookLaws, PdcpLaws}
use Rattle.direct_run_law.proofs.Ends.{Half, sent, heard}
use Rattle.direct_run_law.proofs.Pdcp.{report_no_data, waits_read, recent}
use Rattle.direct_run_law.proofs.Hearing.{carried, tag_had, report_had, back_heard}
use Rattle.direct_run_law.proofs.Leading.{leads_direct}
use Rattle.direct_run_law.proofs.Chains.{Holds, half_on}
use Rattle.direct_run_law.proofs.Delivering.{AreBooked, AtPort, at_port}

-- the ends of a bearer in the chain's words
sender_is : (c : Chain) (remote : Remote) (drb : Drb) (at : Side)
    → (outgoing (node_at c (owner (across at) (Direct remote drb))) (sent remote drb (across at))).sender ≡ sender_at c (heard remote drb at)
sender_is c remote drb Low = refl
sender_is c remote drb High = refl

pub receiver_is : (c : Chain) (remote : Remote) (drb : Drb) (at : Side)
    → (incoming (node_at c (owner at (Direct remote drb))) (heard remote drb at)).receiver ≡ (receiving_at c (heard remote drb at)).receiver
receiver_is c remote drb Low = refl
receiver_is c remote drb High = refl

far_is : (c : Chain) (remote : Remote) (drb : Drb) (at : Side)
    → (incoming (node_at c (owner (across at) (Direct remote drb))) (heard remote drb (across at))).receiver ≡ (receiving_at c (sent remote drb at)).receiver
far_is c remote drb Low = refl
far_is c remote drb High = refl

module _
    (hops : HopLaws) (calls : CallLaws) (books : BookLaws) (pdus : PdcpLaws) (m : Moment) (fits : RlcFits m.before) (h : Holds m.before) (are : AreBooked m.before)
    (row : BearerRow) (key : Key) (g : List Entry)
    (keeps : KeepsSdus row key.way (submitted key g) (sender_at m.before key)) (number : (receiving_at m.before key).receiver.handed ≡ length (handed key g)) where
  abbrev c : Chain
  c = m.before

  -- what comes for a key comes over the bearer's direct port
  record Comes (of : Key) (body : List ℕ) (x : CompletesPdcp of m body) : Type 0 where
    pub remote : Remote
    pub drb : Drb
    pub its_key : of ≡ heard remote drb (hearer_of x.comes.pdu.way)
    pub its_body : body ≡ x.whole
    pub port : AtPort hops calls books pdus c fits h are x.comes.ticket x.comes.pdu x.comes.shown remote drb x.comes.entity
    pub receiver : (incoming (hearer x.comes.pdu c) (heard remote drb (hearer_of x.comes.pdu.way))).receiver ≡ (receiving_at c of).receiver

  comes : (of : Key) (body : List ℕ) (x : CompletesPdcp of m body) → Comes of body x
  comes of body x =
      let y = x.comes in
      let at : Side = hearer_of y.pdu.way in
      let l = leads_direct c.tables (hearer y.pdu c) (h.ends (owner at y.pdu.port)).attached x.whole of body at y.pdu.port x.leads in
      record {
        remote = l.remote;
        drb = l.drb;
        its_key = l.its_key;
        its_body = l.its_body;
        port = at_port hops calls books pdus c fits h are y.ticket y.pdu y.shown l.remote l.drb l.direct y.side y.entity y.its y.taken;
        receiver = ap (λ (p : PortName). (incoming (node_at c (owner at p)) (heard l.remote l.drb at)).receiver) l.direct ∙ receiver_is c l.remote l.drb at ∙ ap
            (λ (k : Key). (receiving_at c k).receiver) (sym l.its_key);
      }

  hears_honestly : (hearing : Hearing) → HearsBy key m hearing → IsOfSubmitted row key g hearing
  hears_honestly hearing x =
      elim (carried calls books pdus c.tables n z.remote z.drb at y.entity o y.pdu.bytes p.j.row p.completed p.told p.booked p.there p.both x.completes.number x.completes.whole y.tx y.rx y.hears) [
        | inr w ↦ absurd (report_no_data o.receiver.size r.size w.2.fmc hearing.sn w.2.bits hearing.sdu (subst (IsPdcp r.size (Sdu hearing.sn hearing.sdu)) w.2.spelt reads))
        | inl w ↦
            let read = waits_read books pdus p.j.row (heard z.remote z.drb at) o.sender r p.booked p.both.1.size p.both.1.first w.2 x.completes.whole w.4 hearing.sn hearing.sdu reads in
            let late = recent books pdus p.j.row (heard z.remote z.drb at) o.sender r p.booked p.both.1.size p.both.1.first w.2 x.completes.whole w.4 in
            let its = keeps.each w.2 hearing.sdu (ap (λ (s : Sender). kept_at s w.2) (sym sends) ∙ read.1) in
            record {
              number = w.2;
              below = its.0;
              sdu = its.1;
              sn = read.0 ∙ ap (λ (s : Sender). (s.first + w.2) % modulus s.size) sends ∙ ap (λ (f : ℕ). (f + w.2) % modulus (sender_at c key).size) keeps.first
                  ∙ ap (λ (size : SnSize). (first_count row key.way + w.2) % modulus size) keeps.size;
              recent = omega (arith, late, p.booked.number, number, ap (λ (q : Receiver). q.handed) z.receiver);
            }
      ]
    where
      y : EntityHears (sink key) m (Amd (Complete x.completes.number x.completes.whole))
      y = x.completes.comes

      at : Side
      at = hearer_of y.pdu.way

      n : Node
      n = hearer y.pdu c

      z : Comes key x.body x.completes
      z = comes key x.body x.completes

      p : AtPort hops calls books pdus c fits h are y.ticket y.pdu y.shown z.remote z.drb y.entity
      p = z.port

      o : Half
      o = half_on c z.remote z.drb (across at) (p.j.entity (across at))

      r : Receiver
      r = (incoming n (heard z.remote z.drb at)).receiver

      reads : IsPdcp r.size (Sdu hearing.sn hearing.sdu) x.completes.whole
      reads = subst (IsPdcp r.size (Sdu hearing.sn hearing.sdu)) z.its_body (subst (λ (q : Receiver). IsPdcp q.size (Sdu hearing.sn hearing.sdu) x.body) (sym z.receiver) x.reads)

      sends : o.sender ≡ sender_at c key
      sends = sender_is c z.remote z.drb at ∙ ap (sender_at c) (sym z.its_key)

  acks_honestly : (count : ℕ) → AckedBy key m count → HasCount (receiving_at c key).receiver count
  acks_honestly count x =
      let y = x.comes in
      let at : Side = hearer_of y.pdu.way in
      let p = at_port hops calls books pdus c fits h are y.ticket y.pdu y.shown x.remote x.drb x.direct y.side y.entity y.its y.taken in
      let t = tag_had calls books pdus c.tables (hearer y.pdu c) x.remote x.drb at y.entity
      (half_on c x.remote x.drb (across at) (p.j.entity (across at))) y.pdu.bytes p.j.row p.completed p.told p.booked p.there p.both
      x.tags x.marks y.tx y.rx y.hears x.tag x.among count x.its_count in
      subst (λ (q : Receiver). HasCount q count) (far_is c x.remote x.drb at ∙ ap (λ (k : Key). (receiving_at c k).receiver) (sym t.0 ∙ x.its_key)) t.1

  reports_honestly : (count : ℕ) → ReportedBy key m count → HasCount (receiving_at c key).receiver count
  reports_honestly count x =
      let had = report_had calls books pdus c.tables
      (hearer y.pdu c) z.remote z.drb at y.entity o y.pdu.bytes p.j.row p.completed p.told p.booked p.there p.both x.completes.number x.completes.whole y.tx y.rx y.hears x.fmc x.bits reads in
      elim (cases_lt count o.receiver.first) [
        | inl low ↦ subst (λ (q : Receiver). HasCount q count) far (inl (omega (arith, low)))
        | inr high ↦ subst (λ (q : Receiver). HasCount q count) far (had.3 count high x.says)
      ]
    where
      y : EntityHears (sink x.other) m (Amd (Complete x.completes.number x.completes.whole))
      y = x.completes.comes

      at : Side
      at = hearer_of y.pdu.way

      z : Comes x.other x.body x.completes
      z = comes x.other x.body x.completes

      p : AtPort hops calls books pdus c fits h are y.ticket y.pdu y.shown z.remote z.drb y.entity
      p = z.port

      o : Half
      o = half_on c z.remote z.drb (across at) (p.j.entity (across at))

      r : Receiver
      r = (incoming (hearer y.pdu c) (heard z.remote z.drb at)).receiver

      far : o.receiver ≡ (receiving_at c key).receiver
      far = far_is c z.remote z.drb at ∙ ap (λ (k : Key). (receiving_at c k).receiver) (sym (back_heard z.remote z.drb at) ∙ ap back (sym z.its_key) ∙ x.its_other)

      reads : IsPdcp r.size (Report x.fmc x.bits) x.completes.whole
      reads = subst (IsPdcp r.size (Report x.fmc x.bits)) z.its_body (subst (λ (q : Receiver). IsPdcp q.size (Report x.fmc x.bits) x.body) (sym z.receiver) x.reads)

  pub honest_line : IsHonestLine row key g m
  honest_line = record {
    heard = hears_honestly;
    confirmed = λ count by. elim by [
      | inl x ↦ acks_honestly count x
      | inr x ↦ reports_honestly count x
    ];
  }
