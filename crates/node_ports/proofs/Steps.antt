-- What a step of a side at its place is for the node that has the table.
use Rattle.std.proofs.Common.{◌≡◌, ℕ, Bool, true, false, List, get_or, set, Option, Some, inl, inr, sym, ◌∙◌, ap, subst}
use Rattle.std.specs.Prelude.{option_and_then}
use Rattle.std.proofs.lemmas.Bool.{true≢false}
use Rattle.std.proofs.lemmas.List.{get_or_default, set-get_or}
use Rattle.link_base.specs.declared.names.PortName.{PortName}
use Rattle.rlc_model.specs.declared.hop.HopGrant.{HopGrant}
use Rattle.rlc_model.specs.declared.hop.HopGrant.TheVariants.{Sent, Idle, Small}
use Rattle.rlc_model.specs.declared.hop.HopHeard.{HopHeard}
use Rattle.rlc_model.specs.Hop.{GrantsHop}
use Rattle.rlc_model.specs.Rx.{Rx}
use Rattle.rlc_model.specs.Tx.{Tx}
use Rattle.rlc_model.specs.Sides.{Entity}
use Rattle.node_model.specs.declared.answers.PortGrant.{PortGrant}
use Rattle.node_model.specs.declared.answers.PortGrant.TheVariants.{NoPort, Hop}
use Rattle.node_model.specs.Names.{replaced, is_port}
use Rattle.node_model.specs.State.{PortSide, Node, side_at, entity_of, set_entity}
use Rattle.node_model.specs.Sides.{IsOpen, GrantsPort}
use Rattle.node_ports.specs.Entities.{GrantsEntity}
use Rattle.node_ports.specs.Sides.{GrantsAt, HearsAt, is_sent}
use Rattle.node_ports.specs.Table.{IsPlace, side_in}
use Rattle.node_ports.specs.Calls.{HearsPort}

-- an entity with another transmitter and receiver, in its epoch
pub in_epoch : (old new : Entity) → new.epoch ≡ old.epoch → new ≡ record old { tx = new.tx; rx = new.rx }
in_epoch old new e = ap (λ (n : ℕ). let x : Entity = record { tx = new.tx; rx = new.rx; epoch = n } in x) e

-- where nothing is sent the transmitter and the receiver are as they were
hop_still : (tx : Tx) (rx : Rx) (octets epoch : ℕ) (grant : HopGrant) (tx' : Tx) (rx' : Rx) → GrantsHop tx rx octets grant tx' rx' → is_sent (Hop epoch grant) ≡ false → (tx' ≡ tx) × (rx' ≡ rx)
hop_still tx rx octets epoch (Sent status number bytes) tx' rx' g none = absurd (true≢false none)
hop_still tx rx octets epoch Idle tx' rx' g none = (g.1.2, g.2)
hop_still tx rx octets epoch (Small need) tx' rx' (inl g) none = (g.2, g.1.2)
hop_still tx rx octets epoch (Small need) tx' rx' (inr g) none = (g.1.7, g.2)

-- and so is the entity
entity_still : (old new : Entity) (octets epoch : ℕ) (grant : HopGrant) → GrantsEntity old octets grant new → is_sent (Hop epoch grant) ≡ false → new ≡ old
entity_still old new octets epoch grant g none =
    let hop = hop_still old.tx old.rx octets epoch grant new.tx new.rx g.0 none in
    in_epoch old new g.1 ∙ ap (λ (t : Tx). let x : Entity = record old { tx = t; rx = new.rx } in x) hop.0 ∙ ap (λ (r : Rx). let x : Entity = record old { rx = r } in x) hop.1

module _ (n : Node) (sides : List PortSide) (port : PortName) (place : ℕ) (p : IsPlace sides port place) (same : n.ports ≡ sides) (side : PortSide) (here : side ≡ get_or sides place side) where
  -- the side at the place is the port's
  its : p.side ≡ side
  its = p.here ∙ (get_or_default sides place p.side side p.within ∙ sym here)

  found : side_at n port ≡ Some side
  found = subst (λ (xs : List PortSide). side_in xs port ≡ Some side) (sym same) (p.found ∙ ap (λ (s : PortSide). Some s) its)

  name : side.name ≡ port
  name = subst (λ (s : PortSide). s.name ≡ port) its p.name

  pub opens : (entity : Entity) → side.entity ≡ Some entity → IsOpen n port side entity
  opens entity is = record { here = found; is_open = is }

  -- to set the entity of the side is to write at the place
  pub sets : (entity : Entity) → record n { ports = set sides place (record side { entity = Some entity }) } ≡ set_entity n side entity
  sets entity =
      let new : PortSide = record side { entity = Some entity } in
      let written : set sides place new ≡ replaced (λ (x : PortSide). is_port side.name x.name) new n.ports =
      sym (ap (λ (xs : List PortSide). replaced (λ (x : PortSide). is_port side.name x.name) new xs) same ∙ (ap (λ (q : PortName). replaced (λ (x : PortSide). is_port q x.name) new sides) name ∙ p.replaces new)) in
      ap (λ (xs : List PortSide). let m : Node = record n { ports = xs } in m) written

  -- to write the same side is to change nothing
  pub kept : record n { ports = set sides place side } ≡ n
  kept = ap (λ (xs : List PortSide). let m : Node = record n { ports = xs } in m) (subst (λ (s : PortSide). set sides place s ≡ sides) (sym here) (set-get_or sides place side) ∙ sym same)

  pub grants : (octets : ℕ) (answer : PortGrant) (new : PortSide) → GrantsAt side octets answer new → GrantsPort n port octets answer (record n { ports = set sides place new })
  grants octets NoPort new g =
      (ap (λ (s : Option PortSide). option_and_then entity_of s) found ∙ g.0, subst (λ (s : PortSide). record n { ports = set sides place s } ≡ n) (sym g.1) kept)
  grants octets (Hop epoch grant) new g = record {
    side = side;
    entity = g.entity;
    its = opens g.entity g.is_open;
    its_epoch = g.steps.1;
    tx = g.behind.tx;
    rx = g.behind.rx;
    grants = g.steps.0.0;
    is = subst (λ (s : PortSide). record n { ports = set sides place s } ≡ set_entity n side (record g.entity { tx = g.behind.tx; rx = g.behind.rx })) (sym g.is)
        (sets g.behind ∙ ap (set_entity n side) (in_epoch g.entity g.behind g.steps.0.1));
  }

  -- a grant by which nothing is sent changes nothing
  pub still : (octets : ℕ) (answer : PortGrant) (new : PortSide) → GrantsAt side octets answer new → is_sent answer ≡ false → set sides place new ≡ sides
  still octets NoPort new g none = subst (λ (s : PortSide). set sides place s ≡ sides) (sym g.1) (subst (λ (s : PortSide). set sides place s ≡ sides) (sym here) (set-get_or sides place side))
  still octets (Hop epoch grant) new g none =
      let same : new ≡ side = g.is ∙ ap (λ (e : Entity). let s : PortSide = record side { entity = Some e } in s) (entity_still g.entity g.behind octets epoch grant g.steps.0 none)
      ∙ ap (λ (e : Option Entity). let s : PortSide = record side { entity = e } in s) (sym g.is_open) in
      subst (λ (s : PortSide). set sides place s ≡ sides) (sym same) (subst (λ (s : PortSide). set sides place s ≡ sides) (sym here) (set-get_or sides place side))

  pub hears : (bytes : List ℕ) (answer : HopHeard) (new : PortSide) → HearsAt side bytes answer new → HearsPort n port bytes answer (record n { ports = set sides place new })
  hears bytes answer new h = record {
    side = side;
    entity = h.entity;
    its = opens h.entity h.is_open;
    tx = h.behind.tx;
    rx = h.behind.rx;
    hears = h.steps.0;
    is = subst (λ (s : PortSide). record n { ports = set sides place s } ≡ set_entity n side (record h.entity { tx = h.behind.tx; rx = h.behind.rx })) (sym h.is)
        (sets h.behind ∙ ap (set_entity n side) (in_epoch h.entity h.behind h.steps.1));
  }
