-- A PDU comes to a node: what holds of a chain on direct ports is kept.
use Rattle.std.proofs.Common.{◌≡◌, inl, inr, ℕ, Bool, true, false, cond, List, Option, Some, None, option_and_then, refl, sym, ◌∙◌, ap, subst, Contains}
use Rattle.std.proofs.lemmas.Option.{none-some, same_Some}
use Rattle.link_base.specs.declared.names.Drb.{Drb}
use Rattle.link_base.specs.declared.names.Key.{Key}
use Rattle.link_base.specs.declared.names.PortName.{PortName}
use Rattle.link_base.specs.declared.names.PortName.TheVariants.{Direct}
use Rattle.link_base.specs.declared.names.Remote.{Remote}
use Rattle.link_base.specs.declared.names.Side.{Side}
use Rattle.link_base.specs.declared.rlc_words.Tag.{Tag}
use Rattle.rlc_model.specs.declared.hop.AirFault.{AirFault}
use Rattle.rlc_model.specs.declared.hop.HopHeard.{HopHeard}
use Rattle.rlc_model.specs.declared.hop.HopHeard.TheVariants.{Amd, Status}
use Rattle.rlc_model.specs.declared.hop.Pdu.{Pdu}
use Rattle.rlc_model.specs.declared.receiver.Heard.TheVariants.{Complete}
use Rattle.rlc_model.specs.declared.transmitter.StatusHeard.TheVariants.{Acked}
use Rattle.rlc_model.specs.Hop.{on_air, side_fault, HearsHop}
use Rattle.rlc_model.specs.Rx.{Rx, Done, got}
use Rattle.rlc_model.specs.Sides.{Entity, across, hearer_of}
use Rattle.rlc_model.specs.Tx.{Tx, Kept, kept_at as rlc_kept_at}
use Rattle.script_text.specs.declared.event.Event.{Event}
use Rattle.script_text.specs.declared.reply.Reply.{Reply}
use Rattle.node_model.specs.declared.answers.NodeHeard.{NodeHeard}
use Rattle.node_model.specs.declared.answers.NodeHeard.TheVariants.{Air}
use Rattle.node_model.specs.Hearing.{hear_refusal, entity_fault, Follows, side_refusal, HearsSide, HearsUnless}
use Rattle.node_model.specs.Names.{owner}
use Rattle.node_model.specs.Sides.{IsOpen}
use Rattle.node_model.specs.State.{PortSide, Incoming, Node, side_at, entity_of, outgoing, incoming, incoming_at, set_entity}
use Rattle.node_model.proofs.Names.{owner_side}
use Rattle.chain_model.specs.Lines.{hearer, is_handed_over, Comes, Delivers}
use Rattle.chain_model.specs.State.{Chain, node_at, set_node, entity_on}
use Rattle.chain_law.specs.Entities.{RlcFits}
use Rattle.chain_law.proofs.Nodes.{side_name, side_set}
use Rattle.chain_law.proofs.Leaving.{Stands, follows_stand, same_entity, same_itself, same_then}
use Rattle.book_law.specs.Honest.{HasCount}
use Rattle.direct_run_law.specs.Foundations.{HopLaws, CallLaws, BookLaws, PdcpLaws}
use Rattle.direct_run_law.proofs.Ends.{Half, sent, heard, half, Both, Goes, goes_nowhere, goes_entity}
use Rattle.direct_run_law.proofs.Pdcp.{IsBooked}
use Rattle.direct_run_law.proofs.Hops.{completes, acked}
use Rattle.direct_run_law.proofs.Hearing.{follows_own, tag_had}
use Rattle.direct_run_law.proofs.Beside.{follows_other}
use Rattle.direct_run_law.proofs.Chains.{Holds, Joined, half_on, holds_set}
use Rattle.direct_run_law.proofs.Lines.{closed_set}

-- the PDCP ends of each bearer whose direct port is open: what they hold is booked, and the end that hears is there
pub record AreBooked (c : Chain) : Type 0 where
  pub booked : (remote : Remote) (drb : Drb) (j : Joined c remote drb) (at : Side)
      → IsBooked j.row (heard remote drb at) (outgoing (node_at c (owner (across at) (Direct remote drb))) (sent remote drb (across at))).sender
      (incoming (node_at c (owner at (Direct remote drb))) (heard remote drb at)).receiver
  pub there : (remote : Remote) (drb : Drb) (j : Joined c remote drb) (at : Side)
      → (i : Incoming) × (incoming_at (node_at c (owner at (Direct remote drb))) (heard remote drb at) ≡ Some i)

-- what is not refused is in the side's epoch and not too old
pub not_faulty : (pdu : Pdu) (sides : Option PortSide) (side : PortSide) (e : Entity) → hear_refusal pdu sides ≡ None → sides ≡ Some side → side.entity ≡ Some e
    → side_fault pdu (Some e.epoch) e.tx e.rx ≡ None
not_faulty pdu sides side e none here is_open =
    by (side_fault pdu (Some e.epoch) e.tx e.rx) refl
  where
    refusal : side_refusal pdu side (side_fault pdu (Some e.epoch) e.tx e.rx) ≡ None
    refusal = ap (λ (o : Option Entity). side_refusal pdu side (entity_fault pdu o)) (sym is_open) ∙ ap (hear_refusal pdu) (sym here) ∙ none

    by : (o : Option AirFault) → side_fault pdu (Some e.epoch) e.tx e.rx ≡ o → o ≡ None
    by None is = refl
    by (Some fault) is = absurd (none-some (Air fault) (sym refusal ∙ ap (side_refusal pdu side) is))

module _
    (hops : HopLaws) (calls : CallLaws) (books : BookLaws) (pdus : PdcpLaws) (c : Chain) (fits : RlcFits c) (h : Holds c) (are : AreBooked c) (ticket : ℕ) (pdu : Pdu)
    (shown : on_air c.air ticket ≡ Some pdu) where
  abbrev at : Side
  at = hearer_of pdu.way

  abbrev n : Node
  n = hearer pdu c

  -- the port to which the PDU comes is a bearer's direct port
  pub record AtPort (remote : Remote) (drb : Drb) (e : Entity) : Type 0 where
    pub j : Joined c remote drb
    pub both : Both remote drb at (half remote drb at n e) (half_on c remote drb (across at) (j.entity (across at)))
    pub booked : IsBooked j.row (heard remote drb at) (half_on c remote drb (across at) (j.entity (across at))).sender (incoming n (heard remote drb at)).receiver
    pub there : (i : Incoming) × (incoming_at n (heard remote drb at) ≡ Some i)
    pub completed : (number : ℕ) (whole : List ℕ) (tx : Tx) (rx : Rx) → HearsHop e.tx e.rx pdu.bytes (Amd (Complete number whole)) tx rx
        → (k : Kept) × (rlc_kept_at (j.entity (across at)).tx number ≡ Some k) × (k.sdu ≡ whole)
    pub told : (tags : List Tag) (marks : List ℕ) (tx : Tx) (rx : Rx) → HearsHop e.tx e.rx pdu.bytes (Status (Acked tags marks)) tx rx → (tag : Tag) → Contains tags tag
        → (i : ℕ) × (k : Kept) × (rlc_kept_at e.tx i ≡ Some k) × (tag ≡ k.tag) × (got (j.entity (across at)).rx i ≡ Done)

  pub at_port : (remote : Remote) (drb : Drb) → pdu.port ≡ Direct remote drb → (side : PortSide) (e : Entity) → IsOpen n pdu.port side e
      → hear_refusal pdu (side_at n pdu.port) ≡ None → AtPort remote drb e
  at_port remote drb is side e its taken = elim (h.each remote drb) [
    | inr closed ↦ absurd (none-some e (sym (closed at) ∙ ap (entity_on c at) (sym is) ∙ here))
    | inl j ↦
        let f : Entity = j.entity (across at) in
        let e_is : j.entity at ≡ e = same_Some (j.entity at) e (sym (j.is_open at) ∙ ap (entity_on c at) (sym is) ∙ here) in
        let far : entity_on c (across at) pdu.port ≡ Some f = ap (entity_on c (across at)) is ∙ j.is_open (across at) in
        let epochs : f.epoch ≡ e.epoch = j.epoch (across at) ∙ sym (j.epoch at) ∙ ap (λ (x : Entity). x.epoch) e_is in
        let fresh = not_faulty pdu (side_at n pdu.port) side e taken its.here its.is_open in
        record {
          j = j;
          both = subst (λ (p : PortName). Both remote drb at (half remote drb at (node_at c (owner at p)) e) (half_on c remote drb (across at) f)) (sym is)
              (subst (λ (x : Entity). Both remote drb at (half_on c remote drb at x) (half_on c remote drb (across at) f)) e_is (j.both at));
          booked = subst (λ (p : PortName). IsBooked j.row (heard remote drb at) (half_on c remote drb (across at) f).sender
              (incoming (node_at c (owner at p)) (heard remote drb at)).receiver) (sym is) (are.booked remote drb j at);
          there = subst (λ (p : PortName). (i : Incoming) × (incoming_at (node_at c (owner at p)) (heard remote drb at) ≡ Some i)) (sym is) (are.there remote drb j at);
          completed = completes hops calls c fits ticket pdu shown e f here far epochs fresh;
          told = acked hops calls c fits ticket pdu shown e f here far epochs fresh;
        }
  ]
    where
      here : entity_on c at pdu.port ≡ Some e
      here = ap (option_and_then entity_of) its.here ∙ its.is_open

  -- a PDU is heard at an open side
  module _ (answer : NodeHeard) (new : Node) (taken : hear_refusal pdu (side_at n pdu.port) ≡ None) (x : HearsSide c.tables n at pdu.port pdu.bytes answer new) where
    abbrev now : Entity
    now = record x.entity { tx = x.tx; rx = x.rx }

    abbrev n1 : Node
    n1 = set_entity n x.side now

    abbrev side1 : PortSide
    side1 = record x.side { entity = Some now }

    follows : Follows c.tables n1 at side1 x.hop answer new
    follows = subst (λ (e : Entity). Follows c.tables (set_entity n x.side e) at (record x.side { entity = Some e }) x.hop answer new) x.its_entity x.follows

    named : side1.name ≡ pdu.port
    named = sym (side_name n pdu.port x.side x.its.here)

    stand : Stands c.tables n1 pdu.port side1 (side_set n pdu.port x.side side1 x.its.here refl).here new
    stand = follows_stand c.tables n1 pdu.port side1 (side_set n pdu.port x.side side1 x.its.here refl).here at x.hop answer new follows

    module _ (remote : Remote) (drb : Drb) where
      own : Direct remote drb ≡ pdu.port → (j : Joined c remote drb)
          → Both remote drb at (half remote drb at n x.entity) (half_on c remote drb (across at) (j.entity (across at)))
          → Both remote drb at (half remote drb at new now) (half_on c remote drb (across at) (j.entity (across at)))
      own is j both =
          let p = at_port remote drb (sym is) x.side x.entity x.its taken in
          let same : p.j.entity (across at) ≡ j.entity (across at) = same_Some (p.j.entity (across at)) (j.entity (across at))
          (sym (p.j.is_open (across at)) ∙ j.is_open (across at)) in
          subst (λ (f : Entity). Both remote drb at (half remote drb at new now) (half_on c remote drb (across at) f)) same
          (follows_own calls books pdus c.tables n remote drb at x.entity
          (half_on c remote drb (across at) (p.j.entity (across at))) pdu.bytes p.j.row p.completed p.told p.booked p.there p.both
          x.side x.tx x.rx x.hop answer new side1 (named ∙ sym is) x.hears follows)

      goes : (side : Side) → owner side (Direct remote drb) ≡ owner at pdu.port → (j : Joined c remote drb)
          → Goes remote drb side (half_on c remote drb (across side) (j.entity (across side))) n new
      goes side here j = goes_entity remote drb side o n pdu.port x.side x.entity now new x.its.here x.its.is_open refl stand.entities
          (λ is. subst (λ (s : Side). Both remote drb s (half remote drb s n x.entity) (half_on c remote drb (across s) (j.entity (across s))) → Both remote drb s
          (half remote drb s new now) (half_on c remote drb (across s) (j.entity (across s))))
          (sym (owner_side side at (Direct remote drb) (here ∙ ap (owner at) (sym is)))) (own is j))
          (λ apart e. follows_other c.tables n1 (h.ends (owner at pdu.port)).attached remote drb side e o pdu.port apart at side1 named x.hop answer new (had apart) follows)
        where
          o : Half
          o = half_on c remote drb (across side) (j.entity (across side))

          had : (Direct remote drb ≡ pdu.port → ⊥) → (tags : List Tag) (marks : List ℕ) → x.hop ≡ Status (Acked tags marks) → (r : Remote) (d : Drb) → pdu.port ≡ Direct r d
              → (tag : Tag) → Contains tags tag → (count : ℕ) → tag.count ≡ Some count → tag.key ≡ sent remote drb side → HasCount o.receiver count
          had apart tags marks is r d direct tag among count its key =
              let p = at_port r d direct x.side x.entity x.its taken in
              let t = tag_had calls books pdus c.tables n r d at x.entity
              (half_on c r d (across at) (p.j.entity (across at))) pdu.bytes p.j.row p.completed p.told p.booked p.there p.both
              tags marks x.tx x.rx (subst (λ (hop : HopHeard). HearsHop x.entity.tx x.entity.rx pdu.bytes hop x.tx x.rx) is x.hears) tag among count its in
              absurd (apart (ap (λ (k : Key). Direct k.remote k.drb) (sym key ∙ t.0) ∙ sym direct))

    side_hears : Holds (set_node c new)
    side_hears = holds_set c (owner at pdu.port) new (same_then n n1 new (same_entity n x.side now) stand.same)
        (λ remote drb side own closed. stand.entities (Direct remote drb) ∙ closed_set n pdu.port (Direct remote drb) x.side x.entity now x.its.here x.its.is_open closed)
        (λ remote drb side own j. goes remote drb side own j) h

  hears_hold : (refusal : Option NodeHeard) → hear_refusal pdu (side_at n pdu.port) ≡ refusal → (answer : NodeHeard) (new : Node)
      → HearsUnless refusal c.tables n at pdu answer new → Holds (set_node c new)
  hears_hold (Some refusal) is answer new (says, same) = subst (λ (m : Node). Holds (set_node c m)) (sym same)
      (holds_set c (owner at pdu.port) n (same_itself n) (λ remote drb side own closed. closed) (λ remote drb side own j. goes_nowhere remote drb side _ n n refl) h)
  hears_hold None is answer new x = side_hears answer new is x

  pub comes_hold : (events : List Event) (reply : Reply) (new : Chain) (behind : Chain → Chain) → ((d : Chain) → Holds d → Holds (behind d)) → Comes c pdu events reply new behind
      → Holds new
  comes_hold events reply new behind keeps x = subst Holds (sym x.is) (by (is_handed_over x.answer))
    where
      by : (b : Bool) → Holds (cond b (behind (set_node c x.node)) c)
      by true = keeps (set_node c x.node) (hears_hold (hear_refusal pdu (side_at n pdu.port)) refl x.answer x.node x.hears)
      by false = h

pub delivers_hold : (hops : HopLaws) (calls : CallLaws) (books : BookLaws) (pdus : PdcpLaws) (c : Chain) (fits : RlcFits c) (h : Holds c) (are : AreBooked c) (ticket : ℕ)
    (events : List Event) (reply : Reply) (new : Chain) (behind : Chain → Chain)
    → ((d : Chain) → Holds d → Holds (behind d)) → Delivers c (on_air c.air ticket) events reply new behind → Holds new
delivers_hold hops calls books pdus c fits h are ticket events reply new behind keeps = by (on_air c.air ticket) refl
  where
    by : (o : Option Pdu) → on_air c.air ticket ≡ o → Delivers c o events reply new behind → Holds new
    by None is x = subst Holds (sym x.2) h
    by (Some pdu) is x = comes_hold hops calls books pdus c fits h are ticket pdu is events reply new behind keeps x
