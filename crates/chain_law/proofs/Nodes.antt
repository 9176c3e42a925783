-- What holds of the SDUs that a node has, and what its sides and senders are behind a change.
use Rattle.std.proofs.Common.{◌≡◌, ℕ, Bool, true, false, cond, List, [], ◌∷◌, map, Option, Some, None, refl, sym, ◌∙◌, ap, subst}
use Rattle.std.specs.List.{AllByRecursion}
use Rattle.std.proofs.lemmas.Option.{none-some}
use Rattle.std.specs.Option.{unwrap_or}
use Rattle.link_base.specs.declared.names.Key.{Key}
use Rattle.link_base.specs.declared.names.PortName.{PortName}
use Rattle.rlc_model.specs.Sides.{Entity}
use Rattle.rlc_model.specs.Tx.{Tx}
use Rattle.rlc_model.specs.Rx.{Rx}
use Rattle.rlc_law.specs.Ports.{Port, IsSide}
use Rattle.link_base.specs.declared.names.Side.{Side}
use Rattle.pdcp_pdu.specs.Pdcp.{IsBody}
use Rattle.pdcp_model.specs.Sender.{Sender, kept_at}
use Rattle.node_model.specs.declared.parcel.Parcel.{Parcel}
use Rattle.node_model.specs.Names.{NodeName, is_port, is_key, owner, replaced}
use Rattle.node_model.specs.State.{PortSide, Outgoing, Incoming, Node, side_at, set_side, set_entity, outgoing, outgoing_at, no_outgoing, set_outgoing, set_incoming}
use Rattle.chain_law.specs.Entities.{IsSdu}
use Rattle.node_model.proofs.Names.{port_is, port_refl, port_apart}
use Rattle.node_model.proofs.Finding.{find_passes, find_hit, find_miss, each_found, each_replaced}
use Rattle.chain_law.proofs.Pairs.{Pairwise}
use Rattle.chain_law.proofs.Stands.{SideChanges, NodeMoves, rests, changes, calls, follow, Moved, shown}

-- an SDU on its way through the relay is one that RLC can take
abbrev pub ParcelFits : Parcel → Type 0
ParcelFits parcel = IsSdu parcel.sdu

-- so are those in the slot and in the queue of a side
pub record SideFits (s : PortSide) : Type 0 where
  pub slot : (parcel : Parcel) → s.slot ≡ Some parcel → ParcelFits parcel
  pub queue : AllByRecursion ParcelFits s.queue

-- each SDU that a sender keeps is one that PDCP can take
abbrev pub SenderFits : Sender → Type 0
SenderFits s = (n : ℕ) (sdu : List ℕ) → kept_at s n ≡ Some sdu → IsBody sdu

abbrev pub OutgoingFits : Outgoing → Type 0
OutgoingFits o = SenderFits o.sender

-- the name of a side's port, and two names that aren't one
abbrev pub port_of : PortSide → PortName
port_of s = s.name

abbrev pub Differ : PortName → PortName → Type 0
Differ p q = p ≡ q → ⊥

-- the node has a side of the port
abbrev pub IsOwned : NodeName → PortName → Type 0
IsOwned node port = (side : Side) × (owner side port ≡ node)

-- so is what a node has, no two of its ports have one name, and of each the node has a side
pub record NodeFits (n : Node) : Type 0 where
  pub ports : AllByRecursion SideFits n.ports
  pub outgoing : AllByRecursion OutgoingFits n.outgoing
  pub apart : Pairwise Differ (map port_of n.ports)
  pub owned : AllByRecursion (IsOwned n.name) (map port_of n.ports)

-- a side that is set leaves the names as they are
names_set : (now : PortSide) (ports : List PortSide) → map port_of (replaced (λ (x : PortSide). is_port now.name x.name) now ports) ≡ map port_of ports
names_set now [] = refl
names_set now (s ∷ ss) = ap (λ (names : List PortName). port_of (cond (is_port now.name s.name) now s) ∷ names) (names_set now ss)
    ∙ ap (λ (p : PortName). p ∷ map port_of ss) (by (is_port now.name s.name) refl)
  where
    by : (b : Bool) → is_port now.name s.name ≡ b → port_of (cond b now s) ≡ s.name
    by true is = port_is now.name s.name is
    by false is = refl

-- a side that a node has is one of that name
pub side_name : (n : Node) (port : PortName) (s : PortSide) → side_at n port ≡ Some s → port ≡ s.name
side_name n port s e = port_is port s.name (find_passes (λ (x : PortSide). is_port port x.name) n.ports s e)

-- a side that is set is found under its name, and the others are as before
pub side_set : (n : Node) (port : PortName) (was now : PortSide) → side_at n port ≡ Some was → now.name ≡ was.name → SideChanges n port now (set_side n now)
side_set n port was now there same_name = record {
  here = find_hit (λ (x : PortSide). is_port port x.name) (λ (x : PortSide). is_port now.name x.name) now (λ x. ap (λ (p : PortName). is_port p x.name) its)
      (ap (is_port port) (sym its) ∙ port_refl port) n.ports was there;
  others = λ q ne.
      find_miss (λ (x : PortSide). is_port q x.name) (λ (x : PortSide). is_port now.name x.name) now
      (λ x mine. port_apart q x.name (λ e. ne (e ∙ sym (port_is now.name x.name mine) ∙ sym its))) (port_apart q now.name (λ e. ne (e ∙ sym its))) n.ports;
}
  where
    its : port ≡ now.name
    its = side_name n port was there ∙ sym same_name

-- what a node's side and its sender have, where each has it
pub side_fits : (n : Node) (port : PortName) (s : PortSide) → NodeFits n → side_at n port ≡ Some s → SideFits s
side_fits n port s fits there = each_found SideFits (λ (x : PortSide). is_port port x.name) n.ports s fits.ports there

pub outgoing_fits : (n : Node) (key : Key) → NodeFits n → OutgoingFits (outgoing n key)
outgoing_fits n key fits = go (outgoing_at n key) refl
  where
    go : (o : Option Outgoing) → outgoing_at n key ≡ o → OutgoingFits (unwrap_or o (no_outgoing key))
    go None is = λ m sdu e. absurd (none-some sdu e)
    go (Some o) is = each_found OutgoingFits (λ (x : Outgoing). is_key key x.key) n.outgoing o fits.outgoing is

pub fits_side : (n : Node) (s : PortSide) → NodeFits n → SideFits s → NodeFits (set_side n s)
fits_side n s fits is = record {
  ports = each_replaced SideFits (λ (x : PortSide). is_port s.name x.name) s is n.ports fits.ports;
  outgoing = fits.outgoing;
  apart = subst (Pairwise Differ) (sym (names_set s n.ports)) fits.apart;
  owned = subst (AllByRecursion (IsOwned n.name)) (sym (names_set s n.ports)) fits.owned;
}

pub fits_outgoing : (n : Node) (o : Outgoing) → NodeFits n → OutgoingFits o → NodeFits (set_outgoing n o)
fits_outgoing n o fits is = record {
  ports = fits.ports;
  outgoing = each_replaced OutgoingFits
      (λ (x : Outgoing). is_key o.key x.key) o is n.outgoing fits.outgoing;
  apart = fits.apart;
  owned = fits.owned;
}

pub fits_incoming : (n : Node) (i : Incoming) → NodeFits n → NodeFits (set_incoming n i)
fits_incoming n i fits = record { ports = fits.ports; outgoing = fits.outgoing; apart = fits.apart; owned = fits.owned }

-- a side's SDUs stay with another entity
pub called_fits : (n : Node) (port : PortName) (side : PortSide) (entity : Option Entity) → NodeFits n → side_at n port ≡ Some side → SideFits (record side { entity = entity })
called_fits n port side entity fits here = let was = side_fits n port side fits here in record { slot = was.slot; queue = was.queue }

-- a node comes to another of its name whose SDUs fit too, by moves of its sides
pub record Goes (n m : Node) : Type 0 where
  pub moves : NodeMoves n m
  pub fits : NodeFits m
  pub name : m.name ≡ n.name

pub goes_nowhere : (n m : Node) → NodeFits n → m ≡ n → Goes n m
goes_nowhere n m fits same = record { moves = rests (λ q. ap (λ (x : Node). side_at x q) same); fits = subst NodeFits (sym same) fits; name = ap (λ (x : Node). x.name) same }

pub goes_on : {n mid m : Node} → Goes n mid → Goes mid m → Goes n m
goes_on first second = record { moves = follow first.moves second.moves; fits = second.fits; name = second.name ∙ first.name }

-- a sender or a receiving end changes
pub goes_outgoing : (n : Node) (o : Outgoing) → NodeFits n → OutgoingFits o → Goes n (set_outgoing n o)
goes_outgoing n o fits is = record { moves = rests (λ q. refl); fits = fits_outgoing n o fits is; name = refl }

pub goes_incoming : (n : Node) (i : Incoming) → NodeFits n → Goes n (set_incoming n i)
goes_incoming n i fits = record { moves = rests (λ q. refl); fits = fits_incoming n i fits; name = refl }

-- a side changes but for its entity and size
pub goes_changed : (n : Node) (port : PortName) (was now : PortSide) → NodeFits n → side_at n port ≡ Some was → now.name ≡ was.name → shown now ≡ shown was → SideFits now
    → Goes n (set_side n now)
goes_changed n port was now fits here same_name same is = record {
  moves = changes port was now here same
      (side_set n port was now here same_name);
  fits = fits_side n now fits is;
  name = refl;
}

-- the entity of a side is called, and so the side becomes this
pub goes_called_as : (n : Node) (port : PortName) (was now : PortSide) (entity : Entity) (tx : Tx) (rx : Rx) → NodeFits n → side_at n port ≡ Some was → was.entity ≡ Some entity
    → ((at : Side) (p : Port) → IsSide p at entity.tx entity.rx → Moved p at tx rx) → now.name ≡ was.name → now.size ≡ was.size
    → now.entity ≡ Some (record entity { tx = tx; rx = rx }) → SideFits now → Goes n (set_side n now)
goes_called_as n port was now entity tx rx fits here is_open mover same_name same_size its is = record {
  moves = calls port was now entity tx rx here is_open same_size its mover (side_set n port was now here same_name);
  fits = fits_side n now fits is;
  name = refl;
}

pub goes_called : (n : Node) (port : PortName) (side : PortSide) (entity : Entity) (tx : Tx) (rx : Rx) → NodeFits n → side_at n port ≡ Some side → side.entity ≡ Some entity
    → ((at : Side) (p : Port) → IsSide p at entity.tx entity.rx → Moved p at tx rx) → Goes n (set_entity n side (record entity { tx = tx; rx = rx }))
goes_called n port side entity tx rx fits here is_open mover =
    goes_called_as n port side (record side { entity = Some (record entity { tx = tx; rx = rx }) }) entity tx rx fits here is_open mover refl refl refl
    (called_fits n port side (Some (record entity { tx = tx; rx = rx })) fits here)
