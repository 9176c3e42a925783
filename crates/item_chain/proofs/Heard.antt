-- Whatever PDU a node hears: what its port has made, and what comes of it but where an SDU completes or RLC confirms.
use Rattle.std.proofs.Common.{◌≡◌, ℕ, Bool, true, false, cond, not, List, Option, Some, None, Result, refl, sym, ◌∙◌, ap, subst}
use Rattle.std.proofs.lemmas.Option.{none-some, same_Some}
use Rattle.link_base.specs.declared.discard.Discard.{Discard}
use Rattle.link_base.specs.declared.names.PortName.{PortName}
use Rattle.link_base.specs.declared.names.PortName.TheVariants.{Direct, Pc5, Uu}
use Rattle.link_base.specs.declared.names.Side.{Side}
use Rattle.link_base.specs.declared.names.Side.TheVariants.{Low, High}
use Rattle.link_base.specs.declared.rlc_words.Tag.{Tag}
use Rattle.rlc_model.specs.declared.hop.AirFault.{AirFault}
use Rattle.rlc_model.specs.declared.hop.HopHeard.{HopHeard}
use Rattle.rlc_model.specs.declared.hop.HopHeard.TheVariants.{Amd, Status, BadAmd, BadStatus}
use Rattle.rlc_model.specs.declared.hop.Pdu.{Pdu}
use Rattle.rlc_model.specs.declared.receiver.Heard.{Heard}
use Rattle.rlc_model.specs.declared.receiver.Heard.TheVariants as heard
use Rattle.rlc_model.specs.declared.transmitter.StatusHeard.{StatusHeard}
use Rattle.rlc_model.specs.declared.transmitter.StatusHeard.TheVariants as told
use Rattle.rlc_model.specs.Hop.{on_air, side_fault, HearsHop}
use Rattle.rlc_model.specs.Rx.{Rx}
use Rattle.rlc_model.specs.Sides.{Entity, hearer_of}
use Rattle.rlc_model.specs.Tx.{Tx}
use Rattle.rlc_law.specs.Ports.{Port}
use Rattle.rlc_law.specs.PortLaws.{HearLeaves, HearsDataMade, HearsStatusMade}
use Rattle.rlc_law.proofs.Opening.{side_hears}
use Rattle.node_model.specs.declared.answers.NodeHeard.{NodeHeard}
use Rattle.node_model.specs.declared.answers.NodeHeard.TheVariants.{Air, Held}
use Rattle.node_model.specs.declared.parcel.Parcel.{Parcel}
use Rattle.node_model.specs.Names.{is_port, owner}
use Rattle.node_model.specs.State.{PortSide, Node, side_at, set_entity}
use Rattle.node_model.specs.Routing.{Target, Leads}
use Rattle.node_model.specs.Hearing.{entity_fault, slot_fault, side_refusal, hear_refusal, Passes, Follows, HearsSide, HearsUnless, HearsPdu}
use Rattle.node_model.specs.Ends.{confirm_tags}
use Rattle.chain_model.specs.State.{Chain, node_at, set_node}
use Rattle.chain_law.specs.Entities.{port_settings}
use Rattle.chain_law.proofs.Nodes.{side_name}
use Rattle.item_chain.specs.View.{view, is_side, put_at}
use Rattle.item_chain.specs.Stands.{Ghost, Stands, Refines}
use Rattle.item_chain.proofs.Calls.{open_there}
use Rattle.item_chain.proofs.Ports.{own}
use Rattle.item_chain.proofs.Views.{entity_set}
use Rattle.item_chain.proofs.Hearing.{data_stays, status_moves}

-- a PDU that isn't refused comes to an open side in its epoch which it isn't too old for; and if it is a data PDU, the side's slot is empty
pub record IsHandedOver (pdu : Pdu) (n : Node) : Type 0 where
  pub side : PortSide
  pub here : side_at n pdu.port ≡ Some side
  pub entity : Entity
  pub is_open : side.entity ≡ Some entity
  pub fresh : side_fault pdu (Some entity.epoch) entity.tx entity.rx ≡ None
  pub free : pdu.status ≡ false → side.slot ≡ None

slot_free : (pdu : Pdu) (o : Option Parcel) → slot_fault pdu o ≡ None → pdu.status ≡ false → o ≡ None
slot_free pdu None e is = refl
slot_free pdu (Some x) e is = absurd (none-some Held (sym e ∙ ap (λ (b : Bool). cond (not b) (Some Held) None) is))

pub handed_over : (pdu : Pdu) (n : Node) → hear_refusal pdu (side_at n pdu.port) ≡ None → IsHandedOver pdu n
handed_over pdu n none = by_side (side_at n pdu.port) refl none
  where
    by_fault : (side : PortSide) → side_at n pdu.port ≡ Some side → (e : Entity) → side.entity ≡ Some e → (f : Option AirFault) → side_fault pdu (Some e.epoch) e.tx e.rx ≡ f
        → side_refusal pdu side f ≡ None → IsHandedOver pdu n
    by_fault side here e is_open None fresh none = record { side = side; here = here; entity = e; is_open = is_open; fresh = fresh; free = slot_free pdu side.slot none }
    by_fault side here e is_open (Some f) fresh none = absurd (none-some (Air f) (sym none))

    by_entity : (side : PortSide) → side_at n pdu.port ≡ Some side → (o : Option Entity) → side.entity ≡ o → side_refusal pdu side (entity_fault pdu o) ≡ None → IsHandedOver pdu n
    by_entity side here None is none = absurd (none-some _ (sym none))
    by_entity side here (Some e) is none = by_fault side here e is (side_fault pdu (Some e.epoch) e.tx e.rx) refl none

    by_side : (o : Option PortSide) → side_at n pdu.port ≡ o → hear_refusal pdu o ≡ None → IsHandedOver pdu n
    by_side None is none = absurd (none-some _ (sym none))
    by_side (Some side) is none = by_entity side is side.entity refl none

-- what the side of a PDU hears is what its port has made
module _ (g : Ghost) (old : Chain) (st : Stands g (view old)) (ticket : ℕ) (pdu : Pdu) (on : on_air old.air ticket ≡ Some pdu)
    (may : IsHandedOver pdu (node_at old (owner (hearer_of pdu.way) pdu.port))) where
  abbrev pub at : Side
  at = hearer_of pdu.way

  pub its_open : (view old).entity at pdu.port ≡ Some may.entity
  its_open = open_there old at pdu.port may.side may.entity may.here may.is_open

  pub as_made : (answer : HopHeard) (tx : Tx) (rx : Rx) → HearsHop may.entity.tx may.entity.rx pdu.bytes answer tx rx
      → HearLeaves (own g (view old) st at pdu.port may.entity its_open).0 pdu.way pdu.status pdu.number pdu.bytes answer tx rx
  as_made answer tx rx hears =
      let x = side_hears (port_settings old.tables) g.ports g.epochs (view old).entity old.air st.ports st.sides ticket pdu on may.entity its_open may.fresh answer tx rx hears in
      let mine = own g (view old) st at pdu.port may.entity its_open in
      subst (λ (port : Port). HearLeaves port pdu.way pdu.status pdu.number pdu.bytes answer tx rx) (same_Some x.0 mine.0 (sym x.1 ∙ mine.1)) x.2

module _ (g : Ghost) (old : Chain) (st : Stands g (view old)) (ticket : ℕ) (pdu : Pdu) (on : on_air old.air ticket ≡ Some pdu)
    (may : IsHandedOver pdu (node_at old (owner (hearer_of pdu.way) pdu.port))) where
  abbrev N : Node
  N = node_at old (owner (hearer_of pdu.way) pdu.port)

  abbrev e : Entity
  e = may.entity

  abbrev mine : Port
  mine = (own g (view old) st (hearer_of pdu.way) pdu.port e (its_open g old st ticket pdu on may)).0

  -- the node and its side with the entity behind
  abbrev pub node_with : Tx → Rx → Node
  node_with tx rx = set_entity N may.side (record e { tx = tx; rx = rx })

  abbrev pub side_with : Tx → Rx → PortSide
  side_with tx rx = record may.side { entity = Some (record e { tx = tx; rx = rx }) }

  -- a chain whose node is this stands for what comes of the items
  abbrev pub Comes : Node → Type 0
  Comes node = Refines old.tables g (view (set_node old node))

  -- an SDU that completes goes where it leads
  abbrev pub Completes : Type 0
  Completes = (k : ℕ) (sdu : List ℕ) (tx : Tx) (rx : Rx) → HearsDataMade mine pdu.way pdu.number pdu.bytes (heard.Complete k sdu) tx rx → pdu.status ≡ false
      → (target : Result Target Discard) → Leads old.tables N (hearer_of pdu.way) pdu.port sdu target → (answer : NodeHeard) (node : Node)
      → Passes (node_with tx rx) (side_with tx rx) sdu target answer node → Comes node

  -- what RLC confirms is confirmed
  abbrev pub Confirms : Type 0
  Confirms = (tags : List Tag) (marks : List ℕ) (tx : Tx) (rx : Rx) → HearsStatusMade mine pdu.way pdu.number pdu.bytes (told.Acked tags marks) tx rx → pdu.status ≡ true
      → Comes (confirm_tags (node_with tx rx) pdu.port tags)

  -- the entity alone changes
  pub entity_only : (x : Entity) → Refines old.tables g (record (view old) { entity = put_at is_side is_port (view old).entity (hearer_of pdu.way) pdu.port (Some x) })
      → Comes (set_entity N may.side x)
  entity_only x done = subst (Refines old.tables g) (sym (entity_set old (hearer_of pdu.way) pdu.port may.side may.here x)) done

  -- where an SDU leads doesn't hang on entities
  same_leads : (tx : Tx) (rx : Rx) (sdu : List ℕ) (target : Result Target Discard) (s : Side) (p : PortName) → Leads old.tables (node_with tx rx) s p sdu target
      → Leads old.tables N s p sdu target
  same_leads tx rx sdu target s (Direct r d) l = l
  same_leads tx rx sdu target Low (Pc5 r c) l = l
  same_leads tx rx sdu target High (Pc5 r c) l = l
  same_leads tx rx sdu target Low (Uu c) l = l
  same_leads tx rx sdu target High (Uu c) l = l

  pub its_leads : (tx : Tx) (rx : Rx) (sdu : List ℕ) (target : Result Target Discard) → Leads old.tables (node_with tx rx) (hearer_of pdu.way) may.side.name sdu target
      → Leads old.tables N (hearer_of pdu.way) pdu.port sdu target
  its_leads tx rx sdu target l = subst (λ (p : PortName). Leads old.tables N (hearer_of pdu.way) p sdu target) (sym (side_name N pdu.port may.side may.here))
      (same_leads tx rx sdu target (hearer_of pdu.way) may.side.name l)

  module _ (completes : Completes) (confirms : Confirms) where
    data_same : (tx : Tx) (rx : Rx) (a : Heard) → HearsDataMade mine pdu.way pdu.number pdu.bytes a tx rx → ((k : ℕ) (sdu : List ℕ) → a ≡ heard.Complete k sdu → ⊥) → (node : Node)
        → node ≡ node_with tx rx → Comes node
    data_same tx rx a h none node is = subst Comes (sym is)
        (entity_only _ (data_stays g (view old) st pdu.way pdu.port e (its_open g old st ticket pdu on may) pdu.number pdu.bytes tx rx a h none))

    status_same : (tx : Tx) (rx : Rx) (a : StatusHeard) → HearsStatusMade mine pdu.way pdu.number pdu.bytes a tx rx → (node : Node) → node ≡ node_with tx rx → Comes node
    status_same tx rx a h node is = subst Comes (sym is)
        (entity_only _ (status_moves g (view old) st pdu.way pdu.port e (its_open g old st ticket pdu on may) pdu.number pdu.bytes tx rx a h))

    -- whatever is heard
    followed : (kind : Bool) → pdu.status ≡ kind → (hop : HopHeard) (tx : Tx) (rx : Rx) → HearLeaves mine pdu.way kind pdu.number pdu.bytes hop tx rx
        → (answer : NodeHeard) (node : Node) → Follows old.tables (node_with tx rx) (hearer_of pdu.way) (side_with tx rx) hop answer node → Comes node
    followed false is (Amd (heard.Complete k sdu)) tx rx h answer node f = completes k sdu tx rx h is f.0 (its_leads tx rx sdu f.0 f.1) answer node f.2
    followed false is (Amd heard.Stored) tx rx h answer node f = data_same tx rx heard.Stored h (λ k sdu no_one. cc) node f.1
    followed false is (Amd heard.Repeat) tx rx h answer node f = data_same tx rx heard.Repeat h (λ k sdu no_one. cc) node f.1
    followed false is (Amd heard.Outside) tx rx h answer node f = data_same tx rx heard.Outside h (λ k sdu no_one. cc) node f.1
    followed false is (Amd heard.Conflict) tx rx h answer node f = data_same tx rx heard.Conflict h (λ k sdu no_one. cc) node f.1
    followed false is (Status s) tx rx h answer node f = absurd h
    followed false is (BadAmd fault) tx rx h answer node f = absurd h
    followed false is (BadStatus fault) tx rx h answer node f = absurd h
    followed true is (Status (told.Acked tags marks)) tx rx h answer node f =
        subst Comes (sym (f.1 ∙ ap (λ (p : PortName). confirm_tags (node_with tx rx) p tags) (sym (side_name N pdu.port may.side may.here)))) (confirms tags marks tx rx h is)
    followed true is (Status (told.Old ack next)) tx rx h answer node f = status_same tx rx (told.Old ack next) h node f.1
    followed true is (Status (told.Beyond ack most)) tx rx h answer node f = status_same tx rx (told.Beyond ack most) h node f.1
    followed true is (Amd a) tx rx h answer node f = absurd h
    followed true is (BadAmd fault) tx rx h answer node f = absurd h
    followed true is (BadStatus fault) tx rx h answer node f = absurd h

    -- the side that hears is the one that the PDU was handed to
    pub node_hears : (answer : NodeHeard) (node : Node) → HearsSide old.tables N (hearer_of pdu.way) pdu.port pdu.bytes answer node → Comes node
    node_hears answer node s =
        let same_side : s.side ≡ may.side = same_Some s.side may.side (sym s.its.here ∙ may.here) in
        let same_entity : s.entity ≡ e = same_Some s.entity e (sym s.its.is_open ∙ ap (λ (x : PortSide). x.entity) same_side ∙ may.is_open) in
        let hears = subst (λ (x : Entity). HearsHop x.tx x.rx pdu.bytes s.hop s.tx s.rx) same_entity s.hears in
        let is_behind : s.behind ≡ record e { tx = s.tx; rx = s.rx } = s.its_entity ∙ ap (λ (x : Entity). record x { tx = s.tx; rx = s.rx }) same_entity in
        followed pdu.status refl s.hop s.tx s.rx (as_made g old st ticket pdu on may s.hop s.tx s.rx hears) answer node
        (subst (λ (b : Entity). Follows old.tables (set_entity N may.side b) (hearer_of pdu.way) (record may.side { entity = Some b }) s.hop answer node) is_behind
        (subst (λ (p : PortSide). Follows old.tables (set_entity N p s.behind) (hearer_of pdu.way) (record p { entity = Some s.behind }) s.hop answer node) same_side
        s.follows))

    -- a ghost stands for whatever comes of a PDU that is handed over
    pub pdu_hears : (answer : NodeHeard) (node : Node) → hear_refusal pdu (side_at N pdu.port) ≡ None → HearsPdu old.tables N (hearer_of pdu.way) pdu answer node → Comes node
    pdu_hears answer node none x = node_hears answer node (subst (λ (r : Option NodeHeard). HearsUnless r old.tables N (hearer_of pdu.way) pdu answer node) none x)
