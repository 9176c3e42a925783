-- A data PDU or a STATUS PDU is heard at an open side, and its port moves.
use Rattle.std.proofs.Common.{◌≡◌, ℕ, List, ◌∷◌, Some, refl, sym, ◌∙◌, ap}
use Rattle.link_base.specs.declared.names.PortName.{PortName}
use Rattle.link_base.specs.declared.names.Way.{Way}
use Rattle.link_base.specs.declared.names.Way.TheVariants.{Ul, Dl}
use Rattle.rlc_model.specs.declared.receiver.Heard.{Heard}
use Rattle.rlc_model.specs.declared.receiver.Heard.TheVariants.{Complete}
use Rattle.rlc_model.specs.declared.transmitter.StatusHeard.{StatusHeard}
use Rattle.rlc_model.specs.Heard.{Data}
use Rattle.rlc_model.specs.Rx.{Rx, got}
use Rattle.rlc_model.specs.Sides.{Entity, flip, way_from, hearer_of}
use Rattle.rlc_model.specs.Tx.{Tx}
use Rattle.rlc_law.specs.Hop.{Hop, Completion, Deliver, DeliverStatus, Happens, delivers, Reaches, completed_after}
use Rattle.rlc_law.specs.Ports.{Port, hop_of}
use Rattle.rlc_law.specs.PortLaws.{HearsDataMade, HearsStatusMade}
use Rattle.rlc_law.proofs.Runs.{reaches_more}
use Rattle.rlc_law.proofs.Safety.{completes_as_given}
use Rattle.node_model.specs.Names.{is_port}
use Rattle.item_place.specs.Places.{Link, at, leave}
use Rattle.item_place.specs.HopFits.{HopFits}
use Rattle.item_place.proofs.Completing.{its_item, leaves}
use Rattle.item_chain.specs.View.{View, is_side, put_at}
use Rattle.item_chain.specs.Stands.{Ghost, Stands, rests, Refines}
use Rattle.item_chain.proofs.Ports.{own, ports_after, port_moves, given_after}
use Rattle.item_chain.proofs.Quiet.{SameSdus, same_fits, same_done, acknowledge_quiet}

-- a side that hears a way has the receiver of that way's hop
pub hears_way : (w : Way) → flip (way_from (hearer_of w)) ≡ w
hears_way Ul = refl
hears_way Dl = refl

-- a delivery changes the receiver and what is told of it
delivered_is : (old new : Hop) (d : Data) → Happens old (Deliver d) new → new ≡ record old { rx = new.rx; completed = new.completed; heard = d ∷ old.heard }
delivered_is old new d (delivers answer r among fresh hears) = refl

module _ (g : Ghost) (v : View) (st : Stands g v) (way : Way) (name : PortName) (e : Entity) (is_open : v.entity (hearer_of way) name ≡ Some e) (number : ℕ) (bytes : List ℕ)
    (tx : Tx) (rx : Rx) where
  abbrev pub its : Port
  its = (own g v st (hearer_of way) name e is_open).0

  old_fits : (w : Way) → HopFits g.spell (hop_of its w) (g.layout.box (Link name w e.epoch))
  old_fits = st.hops name e.epoch its (own g v st (hearer_of way) name e is_open).1

  module _ (answer : Heard) (h : HearsDataMade its way number bytes answer tx rx) where
    abbrev before : Hop
    before = hop_of its way

    abbrev behind : Hop
    behind = hop_of h.behind way

    rx_is : rx ≡ behind.rx
    rx_is = h.moves.here.its_rx ∙ ap (λ (w : Way). (hop_of h.behind w).rx) (hears_way way)

    heard_is : behind ≡ record before { rx = rx; completed = completed_after answer before.completed; heard = h.heard ∷ before.heard }
    heard_is = delivered_is before behind h.heard h.moves.moves.happens
        ∙ ap (λ (r : Rx). record before { rx = r; completed = behind.completed; heard = h.heard ∷ before.heard }) (sym rx_is)
        ∙ ap (λ (c : List Completion). record before { rx = rx; completed = c; heard = h.heard ∷ before.heard }) h.completed

    -- it completes nothing
    pub data_stays : ((x : ℕ) (sdu : List ℕ) → answer ≡ Complete x sdu → ⊥) → Refines v.tables g
        (record v { entity = put_at is_side is_port v.entity (hearer_of way) name (Some (record e { tx = tx; rx = rx })) })
    data_stays none = record {
      ghost = record g { ports = ports_after g v st (hearer_of way) name e is_open way (Deliver h.heard) tx rx h.behind h.moves };
      goes = rests;
      given = given_after g v st (hearer_of way) name e is_open way (Deliver h.heard) tx rx h.behind h.moves;
      stands = port_moves g v st (hearer_of way) name e is_open way (Deliver h.heard) tx rx h.behind h.moves tt
          (same_fits g.spell before behind (g.layout.box (Link name way e.epoch)) same (old_fits way));
    }
      where
        same : SameSdus before behind
        same = record {
          given = ap (λ (x : Hop). x.given) heard_is;
          done = λ k.
              let one = same_done before.rx rx h.heard.view answer none h.hears k in
              ((λ d. one.0 (ap (λ (r : Rx). got r k) rx_is ∙ d)), (λ d. sym (ap (λ (r : Rx). got r k) rx_is) ∙ one.1 d));
        }

  -- it completes an SDU: its item stands on the hop, and leaves it
  module _ (x : ℕ) (sdu : List ℕ) (h : HearsDataMade its way number bytes (Complete x sdu) tx rx) where
    came : Reaches (hop_of h.behind way)
    came = reaches_more (hop_of its way) (Deliver h.heard) (hop_of h.behind way) (st.ports.reaches name e.epoch its (own g v st (hearer_of way) name e is_open).1 way)
        h.moves.moves.happens

    pub item_heard : (n : ℕ) × (at (g.layout.box (Link name way e.epoch)) x ≡ Some n) × (sdu ≡ g.spell n)
    item_heard = its_item completes_as_given g.spell (hop_of its way) (hop_of h.behind way) (g.layout.box (Link name way e.epoch)) came (old_fits way) h.heard x sdu rx h.hears
        (heard_is (Complete x sdu) h)

    pub hop_left : HopFits g.spell (hop_of h.behind way) (leave (g.layout.box (Link name way e.epoch)) x)
    hop_left = leaves completes_as_given g.spell (hop_of its way) (hop_of h.behind way) (g.layout.box (Link name way e.epoch)) came (old_fits way) h.heard x sdu rx h.hears
        (heard_is (Complete x sdu) h)

  -- a STATUS is heard
  pub status_stands : (answer : StatusHeard) (h : HearsStatusMade its way number bytes answer tx rx)
      → Stands (record g { ports = ports_after g v st (hearer_of way) name e is_open (flip way) (DeliverStatus h.heard) tx rx h.behind h.moves })
      (record v { entity = put_at is_side is_port v.entity (hearer_of way) name (Some (record e { tx = tx; rx = rx })) })
  status_stands answer h = port_moves g v st (hearer_of way) name e is_open (flip way) (DeliverStatus h.heard) tx rx h.behind h.moves tt
      (same_fits g.spell (hop_of its (flip way)) (hop_of h.behind (flip way)) (g.layout.box (Link name (flip way) e.epoch))
      (acknowledge_quiet (hop_of its (flip way)) (hop_of h.behind (flip way)) h.heard h.moves.moves.happens) (old_fits (flip way)))

  pub status_moves : (answer : StatusHeard) → HearsStatusMade its way number bytes answer tx rx
      → Refines v.tables g (record v { entity = put_at is_side is_port v.entity (hearer_of way) name (Some (record e { tx = tx; rx = rx })) })
  status_moves answer h = record {
    ghost = record g { ports = ports_after g v st (hearer_of way) name e is_open (flip way) (DeliverStatus h.heard) tx rx h.behind h.moves };
    goes = rests;
    given = given_after g v st (hearer_of way) name e is_open (flip way) (DeliverStatus h.heard) tx rx h.behind h.moves;
    stands = status_stands answer h;
  }
