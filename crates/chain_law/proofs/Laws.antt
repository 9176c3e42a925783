-- What follows of a chain of which what is proved of each run holds.
use Rattle.std.proofs.Common.{◌≡◌, inl, inr, ℕ, zero, suc, ◌+◌, ◌≤◌, List, [], ◌∷◌, length, slice_get, Some, sym, ◌∙◌, ap, subst, arith}
use Rattle.std.specs.List.{AllByRecursion}
use Rattle.std.proofs.lemmas.Option.{none-some, same_Some}
use Rattle.link_base.specs.declared.names.SnSize.{SnSize}
use Rattle.link_base.specs.SequenceNumbers.{window}
use Rattle.rlc_model.specs.Rx.{Rx, rx_next}
use Rattle.rlc_model.specs.Sides.{way_from, flip}
use Rattle.rlc_model.specs.Tx.{Tx, tx_next, tx_next_ack}
use Rattle.rlc_law.specs.Hop.{Hop}
use Rattle.rlc_law.specs.Ports.{Port, hop_of}
use Rattle.node_model.specs.declared.parcel.Parcel.{Parcel}
use Rattle.node_model.specs.Names.{NodeName, source}
use Rattle.node_model.specs.State.{Node, side_at, set_side}
use Rattle.chain_model.specs.State.{Chain, node_at, set_node}
use Rattle.chain_law.specs.Entities.{RlcFits, IsSdu, port_settings}
use Rattle.chain_law.specs.Foundations.{RlcLaws}
use Rattle.chain_law.specs.Laws.{ComesUp, EntitiesAreThoseOfPorts, NumbersStayWithinTickets, HearsWhatWasGiven, ParcelsAreSdus, KeptAreBodies, OneSideChanges}
use Rattle.node_model.proofs.Names.{cases_node}
use Rattle.chain_law.proofs.Chains.{Holds, node_fits, node_name, node_there, node_set, node_kept}
use Rattle.chain_law.proofs.Hearing.{leaves_well}
use Rattle.chain_law.proofs.Nodes.{ParcelFits, side_fits, side_set, outgoing_fits}
use Rattle.chain_law.proofs.Opened.{opened_holds}
use Rattle.chain_law.proofs.Runs.{AnyTicket, never_said, nothing_into, does_hold, step_holds, comes_keep}
use Rattle.chain_law.proofs.Stands.{Logs, nothing_said}

pub rlc_fits : {q : Logs} (c : Chain) → Holds q c → RlcFits c
rlc_fits c h = record {
  ports = h.stands.ports;
  epochs = h.stands.epochs;
  fits = h.stands.fits;
  opened = h.stands.opened;
  sides = h.stands.sides;
  few = h.stands.few;
  fresh = λ remote plan is side name of. omega (arith, h.stands.within side name, h.fresh remote plan is side name of);
}

-- what holds of each chain that comes up
pub comes_hold : (l : RlcLaws) {c : Chain} → ComesUp c → Holds nothing_said c
comes_hold l = comes_keep (Holds nothing_said) (λ t. opened_holds t (λ name epoch way. tt))
    (λ old line events reply new h s. step_holds l AnyTicket never_said old line events reply new s (nothing_into old line s.own) h)
    (λ old line events reply new h d. does_hold l AnyTicket never_said old line events reply new (nothing_into old line events) h d)

pub entities_are_those_of_ports : RlcLaws → EntitiesAreThoseOfPorts
entities_are_those_of_ports l c up = rlc_fits c (comes_hold l up)

pub numbers_stay_within_tickets : RlcLaws → NumbersStayWithinTickets
numbers_stay_within_tickets l c up side name e is = record {
  acked = omega (arith, sends.0, few (way_from side), ap tx_next_ack its.2.its_tx);
  given = omega (arith, sends.1, few (way_from side), ap tx_next its.2.its_tx, ap (λ (s : SnSize). window s) (ap (λ (t : Tx). t.size) its.2.its_tx));
  heard = omega (arith, hears.1, hears.2, few (flip (way_from side)), ap rx_next its.2.its_rx, same_window);
  tickets = holds.tickets;
}
  where
    holds : Holds nothing_said c
    holds = comes_hold l up

    its : (port : Port) × (holds.stands.ports name e.epoch ≡ Some port) × Rattle.rlc_law.specs.Ports.IsSide port side e.tx e.rx
    its = holds.stands.sides.open_port side name e is

    few : (way : _) → length (hop_of its.0 way).pdus ≤ length c.air
    few way = holds.stands.few name e.epoch its.0 way its.1

    sends : (tx_next_ack (hop_of its.0 (way_from side)).tx ≤ length (hop_of its.0 (way_from side)).pdus)
        × (tx_next (hop_of its.0 (way_from side)).tx ≤ length (hop_of its.0 (way_from side)).pdus + window (hop_of its.0 (way_from side)).tx.size)
        × (rx_next (hop_of its.0 (way_from side)).rx ≤ tx_next (hop_of its.0 (way_from side)).tx)
    sends = l.bounded (hop_of its.0 (way_from side)) (holds.stands.fits.reaches name e.epoch its.0 its.1 (way_from side))

    back : Hop
    back = hop_of its.0 (flip (way_from side))

    hears : (tx_next_ack back.tx ≤ length back.pdus) × (tx_next back.tx ≤ length back.pdus + window back.tx.size) × (rx_next back.rx ≤ tx_next back.tx)
    hears = l.bounded back (holds.stands.fits.reaches name e.epoch its.0 its.1 (flip (way_from side)))

    same_window : ◌≡◌ {A = ℕ} (window back.tx.size) (window e.rx.size)
    same_window =
        let sizes = holds.stands.sides.sizes name e.epoch its.0 its.1 (flip (way_from side)) in
        ap (λ (s : SnSize). window s) (sizes.0 ∙ sym sizes.1 ∙ ap (λ (r : Rx). r.size) (sym its.2.its_rx))

pub hears_what_was_given : RlcLaws → HearsWhatWasGiven
hears_what_was_given l c f ticket pdu on e is none answer tx rx hears =
    let heard = l.side_hears (port_settings c.tables) f.ports f.epochs _ c.air f.fits f.sides ticket pdu on e is none answer tx rx hears in
    (heard.0, heard.1, heard.2, leaves_well l heard.0 pdu.way pdu.status pdu.number pdu.bytes answer tx rx (f.fits.reaches pdu.port e.epoch heard.0 heard.1) heard.2)

-- each of a queue has what each has
at_place : (parcels : List Parcel) (place : ℕ) (parcel : Parcel) → AllByRecursion ParcelFits parcels → slice_get parcels place ≡ Some parcel → IsSdu parcel.sdu
at_place [] place parcel all e = absurd (none-some parcel e)
at_place (x ∷ xs) zero parcel all e = subst ParcelFits (same_Some x parcel e) all.0
at_place (x ∷ xs) (suc place) parcel all e = at_place xs place parcel all.1 e

pub parcels_are_sdus : RlcLaws → ParcelsAreSdus
parcels_are_sdus l c up node port s is =
    let fits = side_fits (node_at c node) port s (node_fits c (comes_hold l up) node) is in
    (fits.slot, λ place parcel e. at_place s.queue place parcel fits.queue e)

pub kept_are_bodies : RlcLaws → KeptAreBodies
kept_are_bodies l c up key = outgoing_fits (node_at c (source key)) key (node_fits c (comes_hold l up) (source key))

pub one_side_changes : OneSideChanges
one_side_changes c node port was now there same = record {
  here = ap (λ (n : Node). side_at n port) is_set ∙ sc.here;
  others = λ x q ne. elim (cases_node x node) [
    | inr other ↦ ap (λ (n : Node). side_at n q) (node_kept c node n name x other)
    | inl this ↦ ap (λ (x : NodeName). side_at (node_at (set_node c n) x) q) this ∙ ap (λ (n : Node). side_at n q) is_set ∙ sc.others q (λ e. ne (this, e))
        ∙ ap (λ (x : NodeName). side_at (node_at c x) q) (sym this)
  ];
}
  where
    n : Node
    n = set_side (node_at c node) now

    name : n.name ≡ node
    name = node_name c node

    is_set : node_at (set_node c n) node ≡ n
    is_set = node_set c node n name (node_at c node) (node_there c node port was there)

    sc : Rattle.chain_law.proofs.Stands.SideChanges (node_at c node) port now n
    sc = side_set (node_at c node) port was now there same
