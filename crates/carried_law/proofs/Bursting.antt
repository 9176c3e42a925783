-- What a burst leaves of the SDUs that the relay's transmitters keep.
use Rattle.std.proofs.Common.{◌≡◌, inl, inr, ℕ, List, [], ◌∷◌, map, find, Option, Some, None, option_and_then, refl, sym, ◌∙◌, ap, subst}
use Rattle.std.specs.List.{AllByRecursion, AllZip}
use Rattle.std.proofs.lemmas.Bool.{cases_Bool, cond-true, cond-false}
use Rattle.std.proofs.lemmas.Option.{same_Some}
use Rattle.link_base.specs.declared.names.PortName.{PortName}
use Rattle.rlc_model.specs.declared.hop.Pdu.{Pdu}
use Rattle.rlc_model.specs.Sides.{Entity}
use Rattle.rlc_model.specs.Tx.{Tx}
use Rattle.script_text.specs.declared.event.Event.{Event}
use Rattle.script_text.specs.declared.reply.Reply.{Reply}
use Rattle.node_model.specs.declared.parcel.Parcel.{Parcel}
use Rattle.node_model.specs.Names.{AtRelay, is_port}
use Rattle.node_model.specs.Relaying.{parcel_tag}
use Rattle.node_model.specs.State.{PortSide, Node, side_at, entity_of, entity_at, set_side}
use Rattle.node_model.proofs.Names.{port_is}
use Rattle.chain_model.specs.Bursts.{inbox, with_side, Treats, Ingests, ends, stops, pushes, hears, Ingress, Egress, GivesEach, GivesAll, Emits, behind_ingress, behind_egress, all_put, Bursts}
use Rattle.chain_model.specs.Lines.{queue_capacity, Comes}
use Rattle.chain_model.specs.State.{Chain, node_at}
use Rattle.chain_law.proofs.Bursts.{all_found}
use Rattle.chain_law.proofs.Chains.{node_name, node_set, node_there}
use Rattle.chain_law.proofs.Nodes.{NodeFits, side_name, side_set}
use Rattle.carried_law.proofs.Keeping.{KeepsSdus, sdus_themselves, sdus_then, given_sdus, SideKeeps, side_itself, side_then, NodeKeeps}

module _ (May : PortName → List ℕ → Type 0) (Begins : PortName → ℕ → Type 0) where
  -- a side of a port keeps its name, and what its transmitter kept
  pub record SideGoes (was now : PortSide) : Type 0 where
    pub name : now.name ≡ was.name
    pub keeps : SideKeeps (May was.name) (Begins was.name) was.entity now.entity

  side_goes : (was now : PortSide) → now.name ≡ was.name → (later : PortSide) → SideGoes was now → SideGoes now later → SideGoes was later
  side_goes was now name later a b = record {
    name = b.name ∙ name;
    keeps = side_then was.entity now.entity later.entity a.keeps
        (subst (λ (q : PortName). SideKeeps (May q) (Begins q) now.entity later.entity) name b.keeps);
  }

  -- the side of a name among sides that go on
  sides_go : (q : PortName) (xs ys : List PortSide) → AllZip SideGoes xs ys
      → SideKeeps (May q) (Begins q) (option_and_then entity_of (find (λ (s : PortSide). is_port q s.name) xs))
      (option_and_then entity_of (find (λ (s : PortSide). is_port q s.name) ys))
  sides_go q [] [] all = side_itself None None refl
  sides_go q (x ∷ xs) (y ∷ ys) all = elim (cases_Bool (is_port q x.name)) [
    | inl this ↦ subst
        (λ (o : Option PortSide). SideKeeps (May q) (Begins q) (option_and_then entity_of o) (option_and_then entity_of (find (λ (s : PortSide). is_port q s.name) (y ∷ ys))))
        (sym (cond-true (is_port q x.name) (Some x) (find (λ (s : PortSide). is_port q s.name) xs) this))
        (subst (λ (o : Option PortSide). SideKeeps (May q) (Begins q) x.entity (option_and_then entity_of o))
        (sym (cond-true (is_port q y.name) (Some y) (find (λ (s : PortSide). is_port q s.name) ys) (ap (is_port q) all.0.name ∙ this)))
        (subst (λ (z : PortName). SideKeeps (May z) (Begins z) x.entity y.entity) (sym (port_is q x.name this)) all.0.keeps))
    | inr other ↦ subst
        (λ (o : Option PortSide). SideKeeps (May q) (Begins q) (option_and_then entity_of o) (option_and_then entity_of (find (λ (s : PortSide). is_port q s.name) (y ∷ ys))))
        (sym (cond-false (is_port q x.name) (Some x) (find (λ (s : PortSide). is_port q s.name) xs) other))
        (subst (λ (o : Option PortSide). SideKeeps (May q) (Begins q) (option_and_then entity_of (find (λ (s : PortSide). is_port q s.name) xs)) (option_and_then entity_of o))
        (sym (cond-false (is_port q y.name) (Some y) (find (λ (s : PortSide). is_port q s.name) ys) (ap (is_port q) all.0.name ∙ other))) (sides_go q xs ys all.1))
  ]
  sides_go q [] (y ∷ ys) all = absurd all
  sides_go q (x ∷ xs) [] all = absurd all

  -- where each PDU that comes to a node leaves what is kept
  module _ (c : Chain) (comes : (old : Chain) (pdu : Pdu) (events : List Event) (reply : Reply) (new : Chain) → Comes old pdu events reply new (λ d. d)
      → NodeKeeps May Begins (node_at old AtRelay) (node_at new AtRelay)) where
    abbrev pub relay : Node
    relay = node_at c AtRelay

    -- the relay has a side of this name
    abbrev pub Has : PortSide → Type 0
    Has s = (was : PortSide) × (side_at relay s.name ≡ Some was)

    -- the relay with this side is found with it
    pub with_side_found : (side : PortSide) → Has side → side_at (node_at (with_side c side) AtRelay) side.name ≡ Some side
    with_side_found side has =
        ap (λ (n : Node). side_at n side.name) (node_set c AtRelay (set_side relay side) (node_name c AtRelay) relay (node_there c AtRelay side.name has.0 has.1))
        ∙ (side_set relay side.name has.0 side has.1 (side_name relay side.name has.0 has.1)).here

    treats_go : (pdu : Pdu) (side : PortSide) (reply : Reply) (new : PortSide) → Has side → Treats c pdu side reply new → SideGoes side new
    treats_go pdu side reply new has t = record {
      name = sym (side_name (node_at t.1 AtRelay) side.name new t.3);
      keeps = subst (λ (o : Option PortSide). SideKeeps (May side.name) (Begins side.name) (option_and_then entity_of o) new.entity) (with_side_found side has)
          (subst (λ (o : Option PortSide). SideKeeps (May side.name) (Begins side.name) (entity_at (node_at (with_side c side) AtRelay) side.name) (option_and_then entity_of o))
          t.3 ((comes (with_side c side) pdu t.0 reply t.1 t.2).sides side.name));
    }

    pub ingests_go : {side new : PortSide} {tickets left : List ℕ} {heard : List Event} {put : List Parcel} → Has side → Ingests c side tickets heard put left new
        → SideGoes side new
    ingests_go {side} has (ends none) = record { name = refl; keeps = side_itself side.entity side.entity refl }
    ingests_go {side} has (stops full) = record { name = refl; keeps = side_itself side.entity side.entity refl }
    ingests_go {side} {new} has (pushes parcel full more) =
        let s = ingests_go {side = record side { slot = None }} {new = new} has more in
        record { name = s.name; keeps = s.keeps }
    ingests_go {side} {new} has (hears {mid = mid} ticket pdu reply none on treats more) =
        let first = treats_go pdu side reply mid has treats in
        side_goes side mid first.name new first (ingests_go {side = mid} {new = new} (has.0, ap (side_at relay) first.name ∙ has.1) more)

  -- the relay may give all that it holds
  module _ (every : (q : PortName) (sdu : List ℕ) → May q sdu) where
    -- a transmitter is given SDUs
    given_each : (q : PortName) (tx u : Tx) (parcels : List Parcel) → GivesEach tx parcels u → KeepsSdus (May q) (Begins q) tx u
    given_each q tx u [] g = subst (KeepsSdus (May q) (Begins q) tx) (sym g) (sdus_themselves tx)
    given_each q tx u (parcel ∷ parcels) g = sdus_then tx g.1 u (given_sdus tx g.1 (parcel_tag parcel) parcel.sdu g.0 g.2 (every q parcel.sdu)) (given_each q g.1 u parcels g.3)

    given_all : (q : PortName) (o now : Option Entity) (parcels : List Parcel) → GivesAll o parcels now → SideKeeps (May q) (Begins q) o now
    given_all q None now parcels g = side_itself None now g.1
    given_all q (Some entity) now parcels g = λ e is.
        let same : record entity { tx = g.0 } ≡ e = same_Some (record entity { tx = g.0 }) e (sym g.2 ∙ is) in (
          entity,
          refl,
          ap (λ (x : Entity). x.epoch) (sym same),
          subst (λ (x : Entity). KeepsSdus (May q) (Begins q) entity.tx x.tx) same (given_each q entity.tx g.0 parcels g.1),
        )

    -- and so each line of a burst
    module _ (c : Chain) (comes : (old : Chain) (pdu : Pdu) (events : List Event) (reply : Reply) (new : Chain) → Comes old pdu events reply new (λ d. d)
        → NodeKeeps May Begins (node_at old AtRelay) (node_at new AtRelay)) where
      emits_go : (cap : ℕ) (put : List Parcel) (side : PortSide) (e : Egress) → Emits cap put side e → SideGoes side e.behind
      emits_go cap put side e x = record { name = ap (λ (s : PortSide). s.name) x.is; keeps = given_all side.name side.entity e.behind.entity e.taken x.gives }

      all_go : (cap : ℕ) (put : List Parcel) (ports : List PortSide) (ingresses : List Ingress) (egresses : List Egress)
          → AllByRecursion (λ (s : PortSide). side_at (relay c comes) s.name ≡ Some s) ports
          → AllZip (λ (side : PortSide) (i : Ingress). Ingests c side (inbox c side.name) i.heard i.put i.left i.behind) ports ingresses
          → AllZip (Emits cap put) (map behind_ingress ingresses) egresses → AllZip SideGoes ports (map behind_egress egresses)
      all_go cap put [] [] [] all first second = tt
      all_go cap put (s ∷ ss) (i ∷ is) (e ∷ es) all first second =
          let a = ingests_go c comes {side = s} {new = i.behind} (s, all.0) first.0 in
          (side_goes s i.behind a.name e.behind a (emits_go cap put i.behind e second.0), all_go cap put ss is es all.1 first.1 second.1)
      all_go cap put [] [] (e ∷ es) all first second = absurd second
      all_go cap put [] (i ∷ is) es all first second = absurd first
      all_go cap put (s ∷ ss) [] es all first second = absurd first
      all_go cap put (s ∷ ss) (i ∷ is) [] all first second = absurd second

      pub burst_keeps : NodeFits (relay c comes) → (events : List Event) (reply : Reply) (new : Chain) (b : Bursts c events reply new)
          → NodeKeeps May Begins (relay c comes) (record (relay c comes) { ports = map behind_egress b.egresses })
      burst_keeps fits events reply new b = record {
        name = refl;
        outs = refl;
        ins = refl;
        sides = λ q. sides_go q (relay c comes).ports (map behind_egress b.egresses)
            (all_go (queue_capacity c) (all_put b.ingresses) (relay c comes).ports b.ingresses b.egresses (all_found (relay c comes).ports fits.apart) b.ingest b.emit);
      }
