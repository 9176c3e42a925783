-- The numbers of each hop begin in their order, behind each line.
use Rattle.std.proofs.Common.{◌≡◌, inl, inr, ℕ, ◌+◌, ◌<◌, ◌≤◌, ◌==◌, Bool, true, false, cond, List, [], ◌∷◌, ◌++◌, length, map, Option, Some, None, option_and_then, refl, sym, ◌∙◌, ap, subst, arith, lt-ltb}
use Rattle.std.specs.List.{AllByRecursion}
use Rattle.std.proofs.lemmas.Bool.{cases_Bool, cond-true, cond-false, true≢false, false≢true, eqb-true, eq-eqb, ne_eqb, ltb-true}
use Rattle.std.proofs.lemmas.Option.{none-some, same_Some}
use Rattle.std.proofs.lemmas.List.{length_push}
use Rattle.link_base.specs.declared.names.Node.{Node as NodeKind}
use Rattle.link_base.specs.declared.names.PortName.{PortName}
use Rattle.link_base.specs.declared.names.Remote.{Remote}
use Rattle.link_base.specs.declared.names.Side.{Side}
use Rattle.link_base.specs.declared.names.Way.{Way}
use Rattle.bearer_map.specs.Contents.{Contents}
use Rattle.rlc_pdu.specs.Amd.{Amd}
use Rattle.rlc_model.specs.declared.hop.HopGrant.{HopGrant}
use Rattle.rlc_model.specs.declared.hop.HopGrant.TheVariants as grants
use Rattle.rlc_model.specs.declared.hop.Pdu.{Pdu}
use Rattle.rlc_model.specs.Hop.{sent_from}
use Rattle.rlc_model.specs.Sides.{Entity, way_from, sender_of}
use Rattle.rlc_model.specs.Tx.{Tx, Kept, kept_at, tx_next, is_sent, IsSent, Sends as SendsPdu}
use Rattle.rlc_law.specs.Hop.{Hop, Reaches, Grant as GrantEvent, sends as hop_sends}
use Rattle.rlc_law.specs.Ports.{Port, hop_of, IsSide}
use Rattle.rlc_law.proofs.Base.{kept_below}
use Rattle.rlc_law.proofs.Order.{reaches_ordered}
use Rattle.rlc_law.proofs.Pieces.{sends_some}
use Rattle.rlc_law.proofs.Runs.{reaches_more}
use Rattle.script_text.specs.declared.event.Event.{Event}
use Rattle.script_text.specs.declared.line.Line.{Line}
use Rattle.script_text.specs.declared.line.Line.TheVariants.{Grant, Apply}
use Rattle.script_text.specs.declared.reply.Reply.{Reply}
use Rattle.script_text.specs.History.{Entry}
use Rattle.node_model.specs.Names.{NodeName, AtRelay, owner}
use Rattle.node_model.specs.Sides.{GrantsSide}
use Rattle.node_model.specs.State.{Node, entity_of}
use Rattle.node_model.proofs.Names.{owner_side}
use Rattle.chain_model.specs.Draining.{Moment, entry_of}
use Rattle.chain_model.specs.Heard.{HopOf, GoesOver, Delivered}
use Rattle.chain_model.specs.Lines.{Unless, grant_refusal, Sends, Granted, apply_refusal, Applies}
use Rattle.chain_model.specs.State.{Chain, node_at, entity_on}
use Rattle.chain_model.specs.Steps.{Does}
use Rattle.chain_model.specs.Told.{air_entry, entry_after, side_epoch}
use Rattle.chain_law.proofs.Chains.{Holds, node_fits}
use Rattle.chain_law.proofs.Tables.{TablesApart}
use Rattle.book_law.specs.Past.{Goes, steps, drained, ended, Passes, IsDeclaration, AreTables}
use Rattle.heard_law.specs.Receiving.{hop_at}
use Rattle.heard_law.specs.Telling.{Tells}
use Rattle.heard_law.proofs.Air.{SendsNone, is_grant as is_sending, sends_none, grant_refused}
use Rattle.heard_law.proofs.Logged.{logged, none_declared, behind_lines as heard_behind, told_behind}
use Rattle.heard_law.proofs.Receivers.{port_log}
use Rattle.carried_law.specs.Foundations.{SentLaws}
use Rattle.carried_law.specs.Order.{BeginInOrder}
use Rattle.carried_law.proofs.Keeping.{BeginsWith, grants_keep}
use Rattle.carried_law.proofs.Lines.{ChainKeeps, is_apply, is_grant, not_granted, sends_keep, does_keep, fed_keep}
use Rattle.carried_law.proofs.Sent.{none_shown, nothing_kept}
use Rattle.carried_law.proofs.Switching.{applies_side, applies_air}

-- the history shows a data PDU of a number of a hop by this ticket
pub record IsShown (hop : HopOf) (h : List Entry) (n ticket : ℕ) : Type 0 where
  pub pdu : Pdu
  pub shown : air_entry h ticket ≡ Some pdu
  pub is_data : pdu.status ≡ false
  pub over : GoesOver hop pdu
  pub its_number : pdu.number ≡ n

-- by some ticket it does
abbrev HasShown : HopOf → List Entry → ℕ → Type 0
HasShown hop h n = (ticket : ℕ) × IsShown hop h n ticket

-- each PDU shown has a ticket that was made, what is delivered was shown, so was each number of which an open transmitter has sent a byte, and numbers
-- begin in their order
pub record AreOrdered (t : Contents) (h : List Entry) (c : Chain) : Type 0 where
  pub made : (ticket : ℕ) (pdu : Pdu) → air_entry h ticket ≡ Some pdu → ticket ≤ length c.air
  pub delivered : (hop : HopOf) (n : ℕ) (fields : Amd) → Delivered hop h n fields → HasShown hop h n
  pub begun : (side : Side) (port : PortName) (e : Entity) → entity_on c side port ≡ Some e → (n : ℕ) (k : Kept) → kept_at e.tx n ≡ Some k → 0 < length k.flags
      → HasShown (hop_at t port (way_from side) e.epoch) h n
  pub in_order : (ticket : ℕ) (pdu : Pdu) (n : ℕ) → air_entry h ticket ≡ Some pdu → pdu.status ≡ false → pdu.number ≡ n + 1
      → (earlier : ℕ) × (earlier < ticket) × IsShown (hop_at t pdu.port pdu.way pdu.epoch) h n earlier

-- what a history shows it shows behind a line that leaves it
shown_on : (h g : List Entry) (hop : HopOf) (n ticket : ℕ) → ((pdu : Pdu) → air_entry h ticket ≡ Some pdu → air_entry g ticket ≡ Some pdu) → IsShown hop h n ticket
    → IsShown hop g n ticket
shown_on h g hop n ticket stays s = record { pdu = s.pdu; shown = stays s.pdu s.shown; is_data = s.is_data; over = s.over; its_number = s.its_number }

delivered_on : (h : List Entry) (e : Entry) → ((ticket : ℕ) (pdu : Pdu) → air_entry h ticket ≡ Some pdu → air_entry (e ∷ h) ticket ≡ Some pdu)
    → ((hop : HopOf) (n : ℕ) (fields : Amd) → Delivered hop h n fields → HasShown hop h n)
    → (hop : HopOf) (n : ℕ) (fields : Amd) → Delivered hop (e ∷ h) n fields → HasShown hop (e ∷ h) n
delivered_on h e stays so hop n fields (inl now) =
    (now.ticket, record { pdu = now.pdu; shown = stays now.ticket now.pdu now.shown; is_data = now.is_data; over = now.over; its_number = now.its_number })
delivered_on h e stays so hop n fields (inr before) =
    let s = so hop n fields before in
    (s.0, shown_on h (e ∷ h) hop n s.0 (stays s.0) s.1)

module _ (t : Contents) where
  -- a number that an open transmitter has confirmed was shown: its PDUs were delivered
  confirmed_shown : SentLaws → (h : List Entry) (c : Chain) → Holds (logged t h) c → AreOrdered t h c → (side : Side) (port : PortName) (e : Entity)
      → entity_on c side port ≡ Some e → (n : ℕ) → n < tx_next e.tx → kept_at e.tx n ≡ None → HasShown (hop_at t port (way_from side) e.epoch) h n
  confirmed_shown laws h c holds o side port e is n low none =
      subst (HasShown (hop_at t port (way_from side) e.epoch) h) end.2
      (o.delivered (hop_at t port (way_from side) e.epoch) (end.0).number (end.0).view
      (((port_log t h c holds port (way_from side) e.epoch its.0 its.1).log end.0).0 end.1))
    where
      its : (p : Port) × (holds.stands.ports port e.epoch ≡ Some p) × IsSide p side e.tx e.rx
      its = holds.stands.sides.open_port side port e is

      hop : Hop
      hop = hop_of its.0 (way_from side)

      can : Reaches hop
      can = holds.stands.fits.reaches port e.epoch its.0 its.1 (way_from side)

      tx : e.tx ≡ hop.tx
      tx = its.2.its_tx

      below : n < length hop.given
      below = omega (arith, low, ap tx_next tx, (laws.heard.ports.in_order hop can).0)

      end : Rattle.rlc_model.specs.Heard.HasEnd hop.heard n (length (Rattle.rlc_law.specs.Hop.given_at hop n))
      end = ((laws.heard.complete hop can n below).0 (laws.confirms hop can n below (ap (λ (u : Tx). kept_at u n) (sym tx) ∙ none)).0).end

  -- transmitters keep what they kept, and each number that begins is shown
  ordered_on : {May : NodeName → PortName → List ℕ → Type 0} {Begins : NodeName → PortName → ℕ → Type 0} (h : List Entry) (old new : Chain) → ChainKeeps May Begins old new
      → ((x : NodeName) (q : PortName) (n : ℕ) → Begins x q n → ⊥) → AreOrdered t h old → AreOrdered t h new
  ordered_on h old new keeps none o = record {
    made = λ ticket pdu shown. omega (arith, o.made ticket pdu shown, keeps.air);
    delivered = o.delivered;
    begun = λ side q e is n k at some.
        let was = (keeps.nodes (owner side q)).sides q e is in
        elim (was.3.kept n k at) [
          | inr new ↦ absurd (none (owner side q) q n (new.begun some))
          | inl x ↦ elim (x.begun some) [
            | inr begins ↦ absurd (none (owner side q) q n begins)
            | inl yet ↦ subst (λ (epoch : ℕ). HasShown (hop_at t q (way_from side) epoch) h n) (sym was.2) (o.begun side q was.0 was.1 n x.was x.here yet)
          ]
        ];
    in_order = o.in_order;
  }

  -- a line sends none
  ordered_none : (h : List Entry) (e : Entry) (c : Chain) → SendsNone e.line e.reply → AreOrdered t h c → AreOrdered t (e ∷ h) c
  ordered_none h e c none o = record {
    made = λ ticket pdu shown. o.made ticket pdu (was ticket pdu shown);
    delivered = delivered_on h e stays o.delivered;
    begun = λ side q x is n k at some.
        let s = o.begun side q x is n k at some in
        (s.0, shown_on h (e ∷ h) (hop_at t q (way_from side) x.epoch) n s.0 (stays s.0) s.1);
    in_order = λ ticket pdu n shown data_pdu number.
        let s = o.in_order ticket pdu n (was ticket pdu shown) data_pdu number in
        (s.0, s.1, shown_on h (e ∷ h) (hop_at t pdu.port pdu.way pdu.epoch) n s.0 (stays s.0) s.2);
  }
    where
      stays : (ticket : ℕ) (pdu : Pdu) → air_entry h ticket ≡ Some pdu → air_entry (e ∷ h) ticket ≡ Some pdu
      stays ticket pdu shown = none h ticket (air_entry h ticket) ∙ shown

      was : (ticket : ℕ) (pdu : Pdu) → air_entry (e ∷ h) ticket ≡ Some pdu → air_entry h ticket ≡ Some pdu
      was ticket pdu shown = sym (none h ticket (air_entry h ticket)) ∙ shown

  -- a grant
  module _ (laws : SentLaws) (h : List Entry) (old mid : Chain) (told : Tells h old) (holds : Holds (logged t h) old) (o : AreOrdered t h old) (port : PortName) (way : Way)
      (octets : ℕ) (own events : List Event) (reply : Reply) where
    abbrev entry : Entry
    entry = record { line = Grant port way octets; events = events; reply = reply }

    abbrev at : NodeName
    at = owner (sender_of way) port

    -- a PDU is sent
    module _ (epoch : ℕ) (node : Node) (status : Bool) (number : ℕ) (bytes : List ℕ) (g : GrantsSide (node_at old at) port octets epoch (grants.Sent status number bytes) node)
        (s : Sends old node port way epoch (grants.Sent status number bytes) reply mid) where
      abbrev last : Pdu
      last = sent_from port (sender_of way) (side_epoch (sender_of way) port h) status number bytes

      abbrev hop : HopOf
      hop = hop_at t port (way_from (sender_of way)) (side_epoch (sender_of way) port h)

      said : (ticket : ℕ) → air_entry (entry ∷ h) ticket ≡ cond (length old.air + 1 == ticket) (Some last) (air_entry h ticket)
      said ticket = ap (λ (r : Reply). entry_after h (Grant port way octets) r ticket (air_entry h ticket)) s.0

      stays : (ticket : ℕ) (pdu : Pdu) → air_entry h ticket ≡ Some pdu → air_entry (entry ∷ h) ticket ≡ Some pdu
      stays ticket pdu shown = said ticket ∙ cond-false (length old.air + 1 == ticket) (Some last) (air_entry h ticket)
          (ne_eqb (length old.air + 1) ticket (λ e. omega (arith, e, o.made ticket pdu shown))) ∙ shown

      still : (over : HopOf) (n : ℕ) → HasShown over h n → HasShown over (entry ∷ h) n
      still over n x = (x.0, shown_on h (entry ∷ h) over n x.0 (stays x.0) x.1)

      is_open : entity_on old (sender_of way) port ≡ Some g.entity
      is_open = ap (option_and_then entity_of) g.its.here ∙ g.its.is_open

      its_epoch : g.entity.epoch ≡ side_epoch (sender_of way) port h
      its_epoch = told.epochs (sender_of way) port g.entity is_open

      keeps : ChainKeeps (λ x q sdu. Unit {0}) (λ x q n. (x ≡ at) × (q ≡ port) × BeginsWith (grants.Sent status number bytes) n) old mid
      keeps = sends_keep old mid port way epoch node (grants_keep (node_at old at) port octets epoch (grants.Sent status number bytes) node (λ n begins. (refl, refl, begins)) g)
          (grants.Sent status number bytes) reply s

      longer : length mid.air ≡ length old.air + 1
      longer = ap (λ (c : Chain). length c.air) s.1 ∙ length_push old.air (Some (sent_from port (sender_of way) epoch status number bytes))

      -- the number that begins is shown, and behind a data PDU of the number below
      module _ (begins_so : (n : ℕ) → BeginsWith (grants.Sent status number bytes) n → IsShown hop (entry ∷ h) n (length old.air + 1))
          (below_so : (n : ℕ) → status ≡ false → number ≡ n + 1 → HasShown hop h n) where
        begins_at : (side : Side) (q : PortName) (e was : Entity) → entity_on old side q ≡ Some was → e.epoch ≡ was.epoch → (n : ℕ)
            → (owner side q ≡ at) × (q ≡ port) × BeginsWith (grants.Sent status number bytes) n → HasShown (hop_at t q (way_from side) e.epoch) (entry ∷ h) n
        begins_at side q e was here same n (mine, its_port, begins) =
            let its_side : side ≡ sender_of way = owner_side side (sender_of way) port (ap (owner side) (sym its_port) ∙ mine) in
            let entity : was ≡ g.entity = same_Some was g.entity (sym here ∙ ap (λ (x : Side). entity_on old x q) its_side ∙ ap (entity_on old (sender_of way)) its_port ∙ is_open) in (
              length old.air + 1,
              subst (λ (x : PortName). IsShown (hop_at t x (way_from side) e.epoch) (entry ∷ h) n (length old.air + 1)) (sym its_port)
                  (subst (λ (x : Side). IsShown (hop_at t port (way_from x) e.epoch) (entry ∷ h) n (length old.air + 1)) (sym its_side)
                  (subst (λ (x : ℕ). IsShown (hop_at t port (way_from (sender_of way)) x) (entry ∷ h) n (length old.air + 1))
                  (sym (same ∙ ap (λ (x : Entity). x.epoch) entity ∙ its_epoch)) (begins_so n begins))),
            )

        sent_ordered : AreOrdered t (entry ∷ h) mid
        sent_ordered = record {
          made = λ ticket pdu shown. elim (cases_Bool (length old.air + 1 == ticket)) [
            | inl this ↦ omega (arith, eqb-true (length old.air + 1) ticket this, longer)
            | inr other ↦ omega (
              arith,
              keeps.air,
              o.made ticket pdu (sym (cond-false (length old.air + 1 == ticket) (Some last) (air_entry h ticket) other) ∙ sym (said ticket) ∙ shown),
            )
          ];
          delivered = delivered_on h entry stays o.delivered;
          begun = λ side q e is n k here some.
              let was = (keeps.nodes (owner side q)).sides q e is in
              elim (was.3.kept n k here) [
                | inr new ↦ begins_at side q e was.0 was.1 was.2 n (new.begun some)
                | inl x ↦ elim (x.begun some) [
                  | inr now ↦ begins_at side q e was.0 was.1 was.2 n now
                  | inl yet ↦ subst (λ (epoch : ℕ). HasShown (hop_at t q (way_from side) epoch) (entry ∷ h) n) (sym was.2)
                      (still (hop_at t q (way_from side) was.0.epoch) n (o.begun side q was.0 was.1 n x.was x.here yet))
                ]
              ];
          in_order = λ ticket pdu n shown data_pdu is. elim (cases_Bool (length old.air + 1 == ticket)) [
            | inl this ↦
                let same : last ≡ pdu = same_Some last pdu (sym (cond-true (length old.air + 1 == ticket) (Some last) (air_entry h ticket) this) ∙ sym (said ticket) ∙ shown) in
                let below = below_so n (ap (λ (p : Pdu). p.status) same ∙ data_pdu) (ap (λ (p : Pdu). p.number) same ∙ is) in (
                  below.0,
                  omega (arith, eqb-true (length old.air + 1) ticket this, o.made below.0 below.1.pdu below.1.shown),
                  subst (λ (p : Pdu). IsShown (hop_at t p.port p.way p.epoch) (entry ∷ h) n below.0) same (shown_on h (entry ∷ h) hop n below.0 (stays below.0) below.1),
                )
            | inr other ↦
                let before = o.in_order ticket pdu n (sym (cond-false (length old.air + 1 == ticket) (Some last) (air_entry h ticket) other) ∙ sym (said ticket) ∙ shown) data_pdu is in
                (before.0, before.1, shown_on h (entry ∷ h) (hop_at t pdu.port pdu.way pdu.epoch) n before.0 (stays before.0) before.2)
          ];
        }

    -- a data PDU is sent
    module _ (epoch : ℕ) (node : Node) (number : ℕ) (bytes : List ℕ) (g : GrantsSide (node_at old at) port octets epoch (grants.Sent false number bytes) node)
        (s : Sends old node port way epoch (grants.Sent false number bytes) reply mid) where
      abbrev x : HopOf
      x = hop epoch node false number bytes g s

      now_shown : IsShown x (entry ∷ h) number (length old.air + 1)
      now_shown = record {
        pdu = last epoch node false number bytes g s;
        shown = said epoch node false number bytes g s (length old.air + 1)
            ∙ cond-true (length old.air + 1 == length old.air + 1) (Some (last epoch node false number bytes g s)) (air_entry h (length old.air + 1))
            (eq-eqb (length old.air + 1) (length old.air + 1) refl);
        is_data = refl;
        over = record { port = refl; way = refl; epoch = refl };
        its_number = refl;
      }

      open_now : entity_on old (sender_of way) port ≡ Some g.entity
      open_now = is_open epoch node false number bytes g s

      -- the number below was shown
      below_shown : (n : ℕ) → number ≡ n + 1 → HasShown x h n
      below_shown n is = subst (λ (epoch : ℕ). HasShown (hop_at t port (way_from (sender_of way)) epoch) h n) (its_epoch epoch node false number bytes g s)
          (by (kept_at g.entity.tx n) refl)
        where
          sent : SendsPdu g.entity.tx octets number g.grants.1.0 g.tx
          sent = g.grants.1.2

          its : (p : Port) × (holds.stands.ports port g.entity.epoch ≡ Some p) × IsSide p (sender_of way) g.entity.tx g.entity.rx
          its = holds.stands.sides.open_port (sender_of way) port g.entity open_now

          from : Hop
          from = hop_of its.0 (way_from (sender_of way))

          behind : Hop
          behind = record from { tx = g.tx; pdus = record { number = number; view = g.grants.1.0 } ∷ from.pdus }

          can : Reaches behind
          can = reaches_more from (GrantEvent octets) behind (holds.stands.fits.reaches port g.entity.epoch its.0 its.1 (way_from (sender_of way)))
              (hop_sends number g.grants.1.0 g.tx (subst (λ (u : Tx). SendsPdu u octets number g.grants.1.0 g.tx) its.2.its_tx sent))

          now_sent : IsSent g.tx (n + 1)
          now_sent = subst (IsSent g.tx) is (
            kept_below g.tx number (record sent.kept { flags = sent.flags }) sent.this,
            ap is_sent sent.this ∙ lt-ltb 0 (length sent.flags) (omega (arith, sent.clears.long, sends_some g.entity.tx octets number g.grants.1.0 g.tx sent)),
          )

          below : IsSent g.tx n
          below = (reaches_ordered behind can).closed n now_sent

          other : kept_at g.tx n ≡ kept_at g.entity.tx n
          other = sent.others n (λ e. omega (arith, e, is))

          by : (k : Option Kept) → kept_at g.entity.tx n ≡ k → HasShown (hop_at t port (way_from (sender_of way)) g.entity.epoch) h n
          by None here = confirmed_shown laws h old holds o (sender_of way) port g.entity open_now n (omega (arith, below.0, sent.long)) here
          by (Some k) here = o.begun (sender_of way) port g.entity open_now n k here (ltb-true 0 (length k.flags) (sym (ap is_sent (other ∙ here)) ∙ below.1))

      data_ordered : AreOrdered t (entry ∷ h) mid
      data_ordered = sent_ordered epoch node false number bytes g s (λ n begins. subst (λ (m : ℕ). IsShown x (entry ∷ h) m (length old.air + 1)) (sym begins) now_shown)
          (λ n data_pdu is. below_shown n is)

    silent : (r : Reply) → reply ≡ r → SendsNone (Grant port way octets) r → mid ≡ old → AreOrdered t (entry ∷ h) mid
    silent r is none stays = ordered_none h entry mid (subst (SendsNone (Grant port way octets)) (sym is) none) (subst (AreOrdered t h) (sym stays) o)

    granted : (epoch : ℕ) (node : Node) (answer : HopGrant) → GrantsSide (node_at old at) port octets epoch answer node → Sends old node port way epoch answer reply mid
        → AreOrdered t (entry ∷ h) mid
    granted epoch node (grants.Sent true number bytes) g s = sent_ordered epoch node true number bytes g s (λ n begins. absurd begins) (λ n data_pdu is. absurd (true≢false data_pdu))
    granted epoch node (grants.Sent false number bytes) g s = data_ordered epoch node number bytes g s
    granted epoch node grants.Idle g s = silent _ s.0 (λ h ticket before. refl) s.1
    granted epoch node (grants.Small need) g s = silent _ s.0 (λ h ticket before. refl) s.1

    grants_ordered : Unless (grant_refusal old port way) old own reply mid (Granted old port way octets own reply mid) → AreOrdered t (entry ∷ h) mid
    grants_ordered = by (grant_refusal old port way) refl
      where
        by : (refusal : Option Reply) → grant_refusal old port way ≡ refusal → Unless refusal old own reply mid (Granted old port way octets own reply mid)
            → AreOrdered t (entry ∷ h) mid
        by None is g = granted g.epoch g.node g.answer g.grants g.sends
        by (Some r) is u = silent r u.1 (grant_refused old mid port way octets r is) u.2

  -- a node applies a plan
  applies_ordered : (h : List Entry) (old mid : Chain) (remote : Remote) (kind : NodeKind) (own events : List Event) (reply : Reply)
      → Unless (apply_refusal old remote kind) old own reply mid (Applies old remote kind own reply mid) → AreOrdered t h old
      → AreOrdered t (record { line = Apply remote kind; events = events; reply = reply } ∷ h) mid
  applies_ordered h old mid remote kind own events reply d o =
      ordered_none h (record { line = Apply remote kind; events = events; reply = reply }) mid (λ h ticket before. refl) (by (apply_refusal old remote kind) d)
    where
      by : (refusal : Option Reply) → Unless refusal old own reply mid (Applies old remote kind own reply mid) → AreOrdered t h mid
      by (Some r) u = subst (AreOrdered t h) (sym u.2) o
      by None a = record {
        made = λ ticket pdu shown. omega (arith, o.made ticket pdu shown, ap (λ (l : List (Option Pdu)). length l) (applies_air old mid remote kind own reply a));
        delivered = o.delivered;
        begun = λ side q e is n k at some. elim (applies_side old mid remote kind own reply a side q e is) [
          | inl was ↦ o.begun side q e was n k at some
          | inr new ↦ absurd (none-some k (sym (ap (λ (e : Entity). kept_at e.tx n) new.3) ∙ at))
        ];
        in_order = o.in_order;
      }

  module _ (laws : SentLaws) where
    -- a line, before the nodes feed
    does_ordered : (h : List Entry) (old mid : Chain) → Tells h old → Holds (logged t h) old → (line : Line) (own events : List Event) (reply : Reply)
        → Does old line own reply mid → AreOrdered t h old → AreOrdered t (record { line = line; events = events; reply = reply } ∷ h) mid
    does_ordered h old mid told holds line own events reply d o = elim (cases_Bool (is_apply line)) [
      | inl is ↦ apply line is d
      | inr no_apply ↦ elim (cases_Bool (is_grant line)) [
        | inl is ↦ grant line is d
        | inr no_grant ↦ ordered_none h (record { line = line; events = events; reply = reply }) mid (sends_none old mid line reply (not_granted old mid line no_grant))
            (ordered_on h old mid (does_keep {May = λ x q sdu. Unit {0}} {Begins = λ x q n. ⊥} old mid laws (node_fits old holds AtRelay) line (λ is q sdu. tt) own reply
            no_apply no_grant d) (λ x q n begins. begins) o)
      ]
    ]
      where
        apply : (line : Line) → is_apply line ≡ true → Does old line own reply mid → AreOrdered t (record { line = line; events = events; reply = reply } ∷ h) mid
        apply (Apply remote kind) is d = applies_ordered h old mid remote kind own events reply d o
        apply line is d = absurd (false≢true is)

        grant : (line : Line) → is_grant line ≡ true → Does old line own reply mid → AreOrdered t (record { line = line; events = events; reply = reply } ∷ h) mid
        grant (Grant port way octets) is d = grants_ordered laws h old mid told holds o port way octets own events reply d
        grant line is d = absurd (false≢true is)

    rests : (h : List Entry) (e : Entry) (old new : Chain) → is_sending old new e.line ≡ false → new ≡ old → AreOrdered t h old → AreOrdered t (e ∷ h) new
    rests h e old new no_grant is o = subst (AreOrdered t (e ∷ h)) (sym is) (ordered_none h e old (sends_none old new e.line e.reply no_grant) o)

    goes_ordered : (h : List Entry) (m : Moment) (new : Chain) → Tells h m.before → Holds (logged t h) m.before → Goes m.before m.entry new → AreOrdered t h m.before
        → AreOrdered t (m.entry ∷ h) new
    goes_ordered h m new told holds (steps s) o = subst (AreOrdered t (m.entry ∷ h)) (sym s.is) (ordered_on (m.entry ∷ h) s.mid (record s.mid { nodes = s.nodes })
        (fed_keep s.mid s.given s.nodes s.feeds {May = λ x q sdu. Unit {0}} {Begins = λ x q n. ⊥} (λ x q sdu fed. tt)) (λ x q n begins. begins)
        (does_ordered h m.before s.mid told holds m.entry.line s.own m.entry.events m.entry.reply s.does o))
    goes_ordered h m new told holds (drained line none is whole) o = rests h m.entry m.before new (ap (is_sending m.before new) line) is o
    goes_ordered h m new told holds (ended line none says is) o = rests h m.entry m.before new (ap (is_sending m.before new) line) is o

    module _ (apart : TablesApart t) (are : AreTables t) (declared : List Entry) (all : AllByRecursion IsDeclaration declared) where
      ordered_lines : (ms : List Moment) (c : Chain) → Passes t ms c → AreOrdered t (map entry_of ms ++ declared) c
      ordered_lines [] c is = subst (AreOrdered t declared) (sym is) (record {
        made = λ ticket pdu shown. absurd (none-some pdu (sym (none_shown declared all ticket) ∙ shown));
        delivered = λ hop n fields d. absurd (none_declared hop declared all n fields d);
        begun = λ side q e is n k at some. absurd (nothing_kept t side q e is n k at);
        in_order = λ ticket pdu n shown. absurd (none-some pdu (sym (none_shown declared all ticket) ∙ shown));
      })
      ordered_lines (m ∷ ms) c (before, goes) = goes_ordered (map entry_of ms ++ declared) m c (told_behind laws.heard t apart are declared all ms m.before before)
          (heard_behind laws.heard t apart are declared all ms m.before before).holds goes (ordered_lines ms m.before before)

      pub begins_in_order : (ms : List Moment) (c : Chain) → Passes t ms c → BeginInOrder (map entry_of ms ++ declared)
      begins_in_order ms c passes ticket pdu n shown data_pdu number =
          let x = (ordered_lines ms c passes).in_order ticket pdu n shown data_pdu number in
          (x.0, x.2.pdu, x.1, x.2.shown, x.2.is_data, x.2.over.port, x.2.over.way, x.2.over.epoch, x.2.its_number)
