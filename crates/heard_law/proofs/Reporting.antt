-- A STATUS PDU that a side sends is true of what was delivered to it.
use Rattle.std.proofs.Common.{◌≡◌, inl, inr, ℕ, ◌+◌, ◌%◌, ◌==◌, Bool, true, false, cond, List, [], ◌∷◌, ◌++◌, length, drop, get_or, map, Option, Some, None, option_and_then, refl, sym, ◌∙◌, ap, subst}
use Rattle.std.specs.List.{AllByRecursion}
use Rattle.std.proofs.lemmas.Bool.{cases_Bool, false≢true}
use Rattle.std.proofs.lemmas.Option.{none-some, same_Some}
use Rattle.link_base.specs.declared.names.PortName.{PortName}
use Rattle.link_base.specs.declared.names.Side.{Side}
use Rattle.link_base.specs.declared.names.SnSize.{SnSize}
use Rattle.link_base.specs.declared.names.Way.{Way}
use Rattle.bearer_map.specs.Contents.{Contents}
use Rattle.rlc_status.specs.declared.status.Status.{Status}
use Rattle.rlc_status.specs.Says.{Names, SaysMissing}
use Rattle.rlc_status.specs.Format.{IsStatus, status_bytes}
use Rattle.link_base.specs.SequenceNumbers.{modulus}
use Rattle.rlc_model.specs.declared.hop.HopGrant.{HopGrant}
use Rattle.rlc_model.specs.declared.hop.HopGrant.TheVariants as grants
use Rattle.rlc_model.specs.declared.hop.Pdu.{Pdu}
use Rattle.rlc_model.specs.Hop.{sent_from, GrantsHop}
use Rattle.rlc_model.specs.Made.{WritesStatus, IsTrueOf}
use Rattle.rlc_model.specs.Rx.{Rx}
use Rattle.rlc_model.specs.Sides.{Entity, flip, way_from, sender_of}
use Rattle.rlc_law.specs.Hop.{Hop}
use Rattle.rlc_law.specs.Ports.{Port, hop_of}
use Rattle.script_text.specs.declared.event.Event.{Event}
use Rattle.script_text.specs.declared.line.Line.{Line}
use Rattle.script_text.specs.declared.line.Line.TheVariants.{Grant}
use Rattle.script_text.specs.declared.reply.Reply.{Reply}
use Rattle.script_text.specs.History.{Entry}
use Rattle.node_model.specs.State.{entity_of}
use Rattle.chain_model.specs.Carried.{IsTrueOfDelivered, SendsTrue, ReportsTruly}
use Rattle.chain_model.specs.Draining.{Moment, entry_of}
use Rattle.chain_model.specs.Heard.{HopOf}
use Rattle.chain_model.specs.Lines.{Unless, grant_refusal, Granted, Sends}
use Rattle.chain_model.specs.Runs.{entries}
use Rattle.chain_model.specs.Sizes.{port_size}
use Rattle.chain_model.specs.State.{Chain, entity_on}
use Rattle.chain_model.specs.Steps.{Does}
use Rattle.chain_model.specs.Told.{air_entry, entry_after, side_epoch}
use Rattle.chain_law.proofs.Chains.{Holds}
use Rattle.chain_law.proofs.Tables.{TablesApart}
use Rattle.book_law.specs.Past.{Goes, steps, drained, ended, Passes, IsDeclaration, AreTables}
use Rattle.book_law.proofs.Tables.{tables_stay}
use Rattle.node_model.proofs.Finding.{each_right}
use Rattle.heard_law.specs.Foundations.{HeardLaws}
use Rattle.heard_law.specs.Receiving.{hop_at, HasDelivered}
use Rattle.heard_law.specs.Reporting.{ReportsAreTrue}
use Rattle.heard_law.specs.Telling.{Tells}
use Rattle.heard_law.proofs.Air.{is_grant, sends_none, grant_refused}
use Rattle.heard_law.proofs.Hops.{has_delivered}
use Rattle.heard_law.proofs.Logged.{logged, behind_lines, told_behind}
use Rattle.heard_law.proofs.Receivers.{port_log}
use Rattle.heard_law.proofs.Runs.{past, tables, apart}

-- what a STATUS says of a receiver that has what was delivered is true of that
module _ (over : HopOf) (h : List Entry) (rx : Rx) (size : rx.size ≡ over.size) (has : HasDelivered over h rx) (ack : ℕ) (status : Status) (is : IsTrueOf rx ack status) where
  named : (n : ℕ) → Names over.size ack status n → Names rx.size ack status n
  named n names = subst (λ (z : SnSize). Names z ack status n) (sym size) names

  true_of_delivered : IsTrueOfDelivered over h ack status
  true_of_delivered = record {
    received = λ n says. (has.done n).0 (is.complete n says.0 (λ names. says.1 (subst (λ (z : SnSize). Names z ack status n) size names)));
    named = λ n below names sdu heard. is.incomplete n below (named n names) ((has.done n).1 (sdu, heard));
    missing = λ n p below names within.
        let open_n = is.incomplete n below (named n names) in
        let so = is.missing n p below (named n names) (λ l known. within l ((has.ends n l open_n).0 known)) in
        let held = has.held n p open_n in (
          λ says. held.0 (so.0 (subst (λ (z : SnSize). SaysMissing z ack status n p) (sym size) says)),
          λ none. subst (λ (z : SnSize). SaysMissing z ack status n p) size (so.1 (held.1 none)),
        );
  }

module _ (laws : HeardLaws) (t : Contents) (h : List Entry) (c : Chain) (tables : c.tables ≡ t) (told : Tells h c) (holds : Holds (logged t h) c) where
  -- a STATUS that a side sends
  status_true : (side : Side) (port : PortName) (entity : Entity) → entity_on c side port ≡ Some entity → (octets number : ℕ) (status : Status) (rx : Rx)
      → WritesStatus entity.rx octets number status rx
      → SendsTrue t h (sent_from port side (side_epoch side port h) true number (status_bytes entity.rx.size status))
  status_true side port entity is octets number status rx writes = record {
    status = status;
    reads = subst (λ (z : SnSize). IsStatus z status (status_bytes entity.rx.size status)) size (laws.spelling entity.rx.size status made.1).1;
    its_ack = writes.ack ∙ ap (λ (z : SnSize). number % modulus z) size;
    is_true = true_of_delivered (hop_at t port (flip (way_from side)) (side_epoch side port h)) h entity.rx size has number status made.0;
  }
    where
      its : (p : Port) × (holds.stands.ports port entity.epoch ≡ Some p) × Rattle.rlc_law.specs.Ports.IsSide p side entity.tx entity.rx
      its = holds.stands.sides.open_port side port entity is

      hop : Hop
      hop = hop_of its.0 (flip (way_from side))

      size : entity.rx.size ≡ port_size t port
      size = ap (λ (r : Rx). r.size) its.2.its_rx ∙ (holds.stands.sides.sizes port entity.epoch its.0 its.1 (flip (way_from side))).1
          ∙ ap (λ (u : Contents). port_size u port) tables

      made : IsTrueOf entity.rx number status × Rattle.rlc_status.specs.Format.StatusFits entity.rx.size status
      made =
          let m = laws.makes_true (hop_of its.0 (flip (way_from side))) (holds.stands.fits.reaches port entity.epoch its.0 its.1 (flip (way_from side))) octets number status rx
          (subst (λ (r : Rx). WritesStatus r octets number status rx) its.2.its_rx writes) in
          (subst (λ (r : Rx). IsTrueOf r number status) (sym its.2.its_rx) m.0, subst (λ (r : Rx). Rattle.rlc_status.specs.Format.StatusFits r.size status) (sym its.2.its_rx) m.1)

      has : HasDelivered (hop_at t port (flip (way_from side)) (side_epoch side port h)) h entity.rx
      has = subst (λ (epoch : ℕ). HasDelivered (hop_at t port (flip (way_from side)) epoch) h entity.rx) (told.epochs side port entity is)
          (subst (HasDelivered (hop_at t port (flip (way_from side)) entity.epoch) h) (sym its.2.its_rx)
          (has_delivered laws (hop_of its.0 (flip (way_from side))) (hop_at t port (flip (way_from side)) entity.epoch) h
          (port_log t h c holds port (flip (way_from side)) entity.epoch its.0 its.1)))

  module _ (mid : Chain) (ticket : ℕ) (pdu : Pdu) (status : pdu.status ≡ true) where
    -- a grant that shows a STATUS
    granted : (port : PortName) (way : Way) (octets : ℕ) (own : List Event) (reply : Reply) → Granted c port way octets own reply mid
        → entry_after h (Grant port way octets) reply ticket None ≡ Some pdu → SendsTrue t h pdu
    granted port way octets own reply g shown = by g.answer g.grants.grants g.sends
      where
        is_open : entity_on c (sender_of way) port ≡ Some g.grants.entity
        is_open = ap (option_and_then entity_of) g.grants.its.here ∙ g.grants.its.is_open

        by : (answer : HopGrant) → GrantsHop g.grants.entity.tx g.grants.entity.rx octets answer g.grants.tx g.grants.rx → Sends c g.node port way g.epoch answer reply mid
            → SendsTrue t h pdu
        by grants.Idle x s = absurd (none-some pdu (ap (λ (r : Reply). entry_after h (Grant port way octets) r ticket None) (sym s.0) ∙ shown))
        by (grants.Small need) x s = absurd (none-some pdu (ap (λ (r : Reply). entry_after h (Grant port way octets) r ticket None) (sym s.0) ∙ shown))
        by (grants.Sent kind number bytes) x s = sent (length c.air + 1 == ticket) kind x (ap (λ (r : Reply). entry_after h (Grant port way octets) r ticket None) (sym s.0) ∙ shown)
          where
            sent : (b : Bool) (kind : Bool) → GrantsHop g.grants.entity.tx g.grants.entity.rx octets (grants.Sent kind number bytes) g.grants.tx g.grants.rx
                → cond b (Some (sent_from port (sender_of way) (side_epoch (sender_of way) port h) kind number bytes)) None ≡ Some pdu → SendsTrue t h pdu
            sent false kind x e = absurd (none-some pdu e)
            sent true false x e = absurd (false≢true (ap (λ (p : Pdu). p.status) (same_Some _ pdu e) ∙ status))
            sent true true x e = subst (SendsTrue t h) (ap (λ (bytes : List ℕ). sent_from port (sender_of way) (side_epoch (sender_of way) port h) true number bytes) (sym x.2)
                ∙ same_Some _ pdu e)
                (status_true (sender_of way) port g.grants.entity is_open octets number x.0 g.grants.rx x.1)

    does_true : (line : Line) (own : List Event) (reply : Reply) → Does c line own reply mid → entry_after h line reply ticket None ≡ Some pdu → SendsTrue t h pdu
    does_true line own reply d shown = elim (cases_Bool (is_grant c mid line)) [
      | inr other ↦ absurd (none-some pdu (sym (sends_none c mid line reply other h ticket None) ∙ shown))
      | inl grant ↦ by line grant d shown
    ]
      where
        by : (line : Line) → is_grant c mid line ≡ true → Does c line own reply mid → entry_after h line reply ticket None ≡ Some pdu → SendsTrue t h pdu
        by (Grant port way octets) grant d shown = unless (grant_refusal c port way) refl d
          where
            unless : (o : Option Reply) → grant_refusal c port way ≡ o → Unless o c own reply mid (Granted c port way octets own reply mid) → SendsTrue t h pdu
            unless None is g = granted port way octets own reply g shown
            unless (Some r) is u = absurd (none-some pdu (sym (grant_refused c mid port way octets r is h ticket None)
                ∙ ap (λ (x : Reply). entry_after h (Grant port way octets) x ticket None) (sym u.1) ∙ shown))
        by line grant d shown = absurd (false≢true grant)

-- lists that begin alike go on alike
same_cons : {T : Type 0} (x y : T) (xs ys : List T) → x ∷ xs ≡ y ∷ ys → (x ≡ y) × (xs ≡ ys)
same_cons x y xs ys e = (ap (λ (l : List _). get_or l 0 x) e, ap (drop 1) e)

module _ (laws : HeardLaws) (t : Contents) (rows : TablesApart t) (are : AreTables t) (declared : List Entry) (all : AllByRecursion IsDeclaration declared) where
  line_true : (ms : List Moment) (m : Moment) (new : Chain) → Passes t ms m.before → Goes m.before m.entry new → (ticket : ℕ) (pdu : Pdu)
      → air_entry (map entry_of ms ++ declared) ticket ≡ None
      → air_entry (m.entry ∷ map entry_of ms ++ declared) ticket ≡ Some pdu → pdu.status ≡ true → SendsTrue t (map entry_of ms ++ declared) pdu
  line_true ms m new passes goes ticket pdu none shown status = by goes
    where
      now : entry_after (map entry_of ms ++ declared) m.entry.line m.entry.reply ticket None ≡ Some pdu
      now = ap (entry_after (map entry_of ms ++ declared) m.entry.line m.entry.reply ticket) (sym none) ∙ shown

      by : Goes m.before m.entry new → SendsTrue t (map entry_of ms ++ declared) pdu
      by (steps s) = does_true laws t (map entry_of ms ++ declared) m.before (tables_stay t ms m.before passes) (told_behind laws t rows are declared all ms m.before passes)
          (behind_lines laws t rows are declared all ms m.before passes).holds s.mid ticket pdu status m.entry.line s.own m.entry.reply s.does now
      by (drained line shows is whole) = absurd (none-some pdu (sym (sends_none m.before new m.entry.line m.entry.reply (ap (is_grant m.before new) line)
          (map entry_of ms ++ declared) ticket None) ∙ now))
      by (ended line shows says is) = absurd (none-some pdu (sym (sends_none m.before new m.entry.line m.entry.reply (ap (is_grant m.before new) line)
          (map entry_of ms ++ declared) ticket None) ∙ now))

  -- lines that declare tables send nothing
  declared_none : (h : List Entry) (e : Entry) → IsDeclaration e → (ticket : ℕ) (before : Option Pdu) → entry_after h e.line e.reply ticket before ≡ before
  declared_none h e is ticket before = by e.line is.part
    where
      by : (line : Line) → (Rattle.script_text.specs.Lines.part_of line ≡ Rattle.script_text.specs.declared.stage.Part.TheVariants.Running → ⊥)
          → entry_after h line e.reply ticket before ≡ before
      by (Grant port way octets) not_running = absurd (not_running refl)
      by line not_running = refl

  all_true : (ms : List Moment) (c : Chain) → Passes t ms c → ReportsTruly t (map entry_of ms ++ declared)
  all_true [] c passes later before e ticket pdu is none shown status =
      absurd (none-some pdu (sym (declared_none before e (each_right IsDeclaration later (e ∷ before) (subst (AllByRecursion IsDeclaration) is all)).0 ticket
      (air_entry before ticket) ∙ none) ∙ shown))
  all_true (m ∷ ms) c (passes, goes) [] before e ticket pdu is none shown status =
      let same = same_cons m.entry e (map entry_of ms ++ declared) before is in
      subst (λ (h : List Entry). SendsTrue t h pdu) same.1
      (line_true ms m c passes goes ticket pdu (ap (λ (h : List Entry). air_entry h ticket) same.1 ∙ none)
      (ap (λ (x : Entry). air_entry (x ∷ map entry_of ms ++ declared) ticket) same.0 ∙ ap (λ (h : List Entry). air_entry (e ∷ h) ticket) same.1 ∙ shown) status)
  all_true (m ∷ ms) c (passes, goes) (x ∷ later) before e ticket pdu is none shown status =
      all_true ms m.before passes later before e ticket pdu (same_cons m.entry x (map entry_of ms ++ declared) (later ++ e ∷ before) is).1 none shown status

pub reports_are_true : HeardLaws → ReportsAreTrue
reports_are_true laws h stage c leads =
    let p = past laws h stage c leads in
    subst (λ (u : Contents). ReportsTruly u (entries h)) (sym (tables laws h stage c leads)) (subst (ReportsTruly p.tables) (sym p.are)
    (all_true laws p.tables (apart laws h stage c leads) p.are_tables p.declared p.declare p.moments c p.passes))
