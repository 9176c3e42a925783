-- An SDU completes at a side: its item goes into the slot of the port, or leaves the hop for good.
use Rattle.std.proofs.Common.{◌≡◌, inl, inr, ℕ, false, List, [], Option, Some, None, refl, sym, ◌∙◌, ap, subst}
use Rattle.std.proofs.lemmas.Option.{none-some, same_Some}
use Rattle.link_base.specs.declared.names.Key.{Key}
use Rattle.link_base.specs.declared.names.PortName.{PortName}
use Rattle.link_base.specs.declared.names.Remote.{Remote}
use Rattle.link_base.specs.declared.names.Way.{Way}
use Rattle.rlc_model.specs.declared.receiver.Heard.TheVariants.{Complete}
use Rattle.rlc_model.specs.Rx.{Rx}
use Rattle.rlc_model.specs.Sides.{Entity, hearer_of}
use Rattle.rlc_model.specs.Tx.{Tx}
use Rattle.rlc_law.specs.Hop.{Deliver}
use Rattle.rlc_law.specs.Ports.{Port, hop_of}
use Rattle.rlc_law.specs.PortLaws.{HearsDataMade}
use Rattle.node_model.specs.declared.parcel.Parcel.{Parcel}
use Rattle.node_model.specs.Names.{NodeName, is_port}
use Rattle.node_model.specs.State.{Incoming, Outgoing}
use Rattle.item_law.specs.State.{Sdu, Spot, InSlot, Arrived, is_number, put, is_on_its_way}
use Rattle.item_law.specs.State.{Chain as ItemChain, Sender as ItemSender}
use Rattle.item_law.specs.Steps.{Step}
use Rattle.item_law.proofs.base.Puts.{put_same, put_other, cases_same}
use Rattle.item_place.specs.Places.{Station, is_station, Link, Ingress, Egress, Box, at, leave, moved, slot}
use Rattle.item_place.specs.HopFits.{HopFits}
use Rattle.item_place.proofs.Boxes.{of_station}
use Rattle.item_place.proofs.Moving.{moves_on}
use Rattle.item_place.proofs.Leaving.{leaves_on}
use Rattle.item_chain.specs.View.{View, is_side, put_at}
use Rattle.item_chain.specs.Stands.{FitsDirect, IsParcel, RowFits, as_list, IsQueued, EndsFit, item_tables, Ghost, Stands, Refines, IsOfSlot}
use Rattle.item_chain.proofs.Puts.{of_port}
use Rattle.item_chain.proofs.Ports.{own, ports_after, sides_after, air_after, unopened_after, hops_after, directs_after}
use Rattle.item_chain.proofs.Ports.{direct_quiet, paths_after, openings_after, link_port, link_epoch, given_after}
use Rattle.item_chain.proofs.Rows.{row_to, row_other, row_stays, box_from, box_other, parcel_keeps}
use Rattle.item_chain.proofs.Pushes.{ingress_is, ingress_egress, link_ingress, link_egress}
use Rattle.item_chain.proofs.Hearing.{its, item_heard, hop_left}
use Rattle.item_chain.proofs.Tags.{OnlyArrives, direct_left, direct_spot, standing}
use Rattle.item_chain.proofs.Goings.{one_step, reaches_on}

module _ (g : Ghost) (v : View) (st : Stands g v) (way : Way) (name : PortName) (e : Entity) (is_open : v.entity (hearer_of way) name ≡ Some e) (number : ℕ) (bytes : List ℕ)
    (tx : Tx) (rx : Rx)
    (x : ℕ) (sdu : List ℕ) (h : HearsDataMade (its g v st way name e is_open number bytes tx rx) way number bytes (Complete x sdu) tx rx) where
  abbrev A : Station
  A = Link name way e.epoch

  -- the item that stands there
  abbrev pub n : ℕ
  n = (item_heard g v st way name e is_open number bytes tx rx x sdu h).0

  pub spells : sdu ≡ g.spell n
  spells = (item_heard g v st way name e is_open number bytes tx rx x sdu h).2

  pub stood : at (g.layout.box A) x ≡ Some n
  stood = (item_heard g v st way name e is_open number bytes tx rx x sdu h).1

  -- a port that was not opened is not this one
  not_here : (q : PortName) (w : Way) (f : ℕ) → g.ports q f ≡ None → Link q w f ≡ A → ⊥
  not_here q w f none same = none-some (own g v st (hearer_of way) name e is_open).0
      (sym none ∙ ap (λ (q : PortName). g.ports q f) (link_port q name w way f e.epoch same) ∙ ap (g.ports name) (link_epoch q name w way f e.epoch same)
      ∙ (own g v st (hearer_of way) name e is_open).1)

  -- it had not arrived
  moves : g.chain.spot n ≡ Arrived → ⊥
  moves = let was = st.layout.stands A x n stood in standing v.tables was.0 (g.chain.spot n) A was.2

  -- the direct ports fit where it goes, from this hop and into a box that is no hop
  directs : (box : Station → Box) (to : Spot) → OnlyArrives name to → ((p : PortName) (w : Way) (f : ℕ) → (Link p w f ≡ A → ⊥) → box (Link p w f) ≡ g.layout.box (Link p w f))
      → box A ≡ leave (g.layout.box A) x
      → (p : PortName) (f : ℕ) (port : Port) → ports_after g v st (hearer_of way) name e is_open way (Deliver h.heard) tx rx h.behind h.moves p f ≡ Some port → (w : Way)
      → FitsDirect p w v.tables g.chain.items (put is_number g.chain.spot n to) (box (Link p w f)) (hop_of port w).tx
  directs box to only others this = directs_after g v st (hearer_of way) name e is_open way (Deliver h.heard) tx rx h.behind h.moves g.chain.items
      (put is_number g.chain.spot n to) box
      (subst (λ (b : Box). FitsDirect name way v.tables g.chain.items (put is_number g.chain.spot n to) b (hop_of h.behind way).tx) (sym this)
      (direct_left v.tables g.chain.items g.chain.spot way name (g.layout.box A) (hop_of h.behind way).tx x n to stood moves only
      (direct_quiet g v st (hearer_of way) name e is_open way (Deliver h.heard) tx rx h.behind h.moves g.chain.items g.chain.spot (g.layout.box A) tt
      (st.directs name e.epoch (own g v st (hearer_of way) name e is_open).0 (own g v st (hearer_of way) name e is_open).1 way))))
      (λ p f port is w ne. subst (λ (b : Box). FitsDirect p w v.tables g.chain.items (put is_number g.chain.spot n to) b (hop_of port w).tx) (sym (others p w f ne))
      (direct_spot v.tables g.chain.items g.chain.spot w p (g.layout.box (Link p w f)) (hop_of port w).tx n to moves (st.directs p f port is w)))

  -- it goes into the slot
  module _ (free : v.slot name ≡ None) (to : Parcel) (q : Remote) (no_arrival : OnlyArrives name (InSlot q))
      (step : Step (item_tables v.tables) g.chain (record g.chain { spot = put is_number g.chain.spot n (InSlot q) }))
      (its_own : IsOfSlot name to)
      (parcel : IsParcel v.tables g.chain.items (put is_number g.chain.spot n (InSlot q)) g.spell to n) where
    abbrev B : Station
    B = Ingress name

    abbrev P : Parcel → ℕ → Type 0
    P = IsParcel v.tables g.chain.items g.chain.spot g.spell

    abbrev Q : Parcel → ℕ → Type 0
    Q = IsParcel v.tables g.chain.items (put is_number g.chain.spot n (InSlot q)) g.spell

    abbrev box : Station → Box
    box = moved g.layout.box A x B n

    apart : A ≡ B → ⊥
    apart = link_ingress name name way e.epoch

    keeps : (y : Parcel) (l : ℕ) → (l ≡ n → ⊥) → P y l → Q y l
    keeps y l ne w = parcel_keeps v.tables g.chain.items g.chain.spot g.spell n (InSlot q) y l ne w

    abbrev slot_after : PortName → Option Parcel
    slot_after = put is_port v.slot name (Some to)

    slots : (p : PortName) → RowFits Q (box (Ingress p)) (as_list (slot_after p))
    slots p = elim (cases_same of_port p name) [
      | inl same ↦ subst (λ (p : PortName). RowFits Q (box (Ingress p)) (as_list (slot_after p))) (sym same)
          (subst (λ (o : Option Parcel). RowFits Q (box B) (as_list o)) (sym (put_same of_port v.slot name (Some to)))
          (row_to g.layout.box A x B n apart stood st.layout.once P Q keeps [] to parcel
          (subst (λ (o : Option Parcel). RowFits P (g.layout.box B) (as_list o)) free (st.places.slots name))))
      | inr ne ↦ subst (λ (o : Option Parcel). RowFits Q (box (Ingress p)) (as_list o)) (sym (put_other of_port v.slot name (Some to) p ne))
          (row_other g.layout.box A x B n apart stood st.layout.once P Q keeps (Ingress p) (as_list (v.slot p)) (λ s. link_ingress name p way e.epoch (sym s))
          (λ s. ne (ingress_is p name s)) (st.places.slots p))
    ]

    queues : (p : PortName) → RowFits (IsQueued Q p) (box (Egress p)) (v.queue p)
    queues p = row_other g.layout.box A x B n apart stood st.layout.once (IsQueued P p) (IsQueued Q p) (λ y m ne w. (w.0, keeps y m ne w.1))
        (Egress p) (v.queue p) (λ s. link_egress name p way e.epoch (sym s)) (λ s. ingress_egress name p (sym s)) (st.places.queues p)

    owns : (p : PortName) (y : Parcel) → slot_after p ≡ Some y → IsOfSlot p y
    owns p y is = elim (cases_same of_port p name) [
      | inl same ↦ subst (λ (z : Parcel). IsOfSlot p z) (same_Some to y (sym (ap slot_after same ∙ put_same of_port v.slot name (Some to)) ∙ is))
          (subst (λ (q : PortName). IsOfSlot q to) (sym same) its_own)
      | inr ne ↦ st.places.own p y (sym (put_other of_port v.slot name (Some to) p ne) ∙ is)
    ]

    pub slotted : Refines v.tables g (record v { entity = put_at is_side is_port v.entity (hearer_of way) name (Some (record e { tx = tx; rx = rx })); slot = slot_after })
    slotted = record {
      ghost = record g {
        chain = record g.chain { spot = put is_number g.chain.spot n (InSlot q) };
        layout = record g.layout { box = box };
        ports = ports_after g v st (hearer_of way) name e is_open way (Deliver h.heard) tx rx h.behind h.moves;
      };
      goes = one_step (item_tables v.tables) g.chain (record g.chain { spot = put is_number g.chain.spot n (InSlot q) }) step;
      given = given_after g v st (hearer_of way) name e is_open way (Deliver h.heard) tx rx h.behind h.moves;
      stands = record {
        good = st.good;
        reaches = reaches_on (item_tables v.tables) g.chain (record g.chain { spot = put is_number g.chain.spot n (InSlot q) }) st.reaches step;
        layout = moves_on v.tables g.layout g.chain.items g.chain.spot st.layout A x B n stood (InSlot q) (λ i is. slot name q refl refl);
        spelt = st.spelt;
        lengths = st.lengths;
        ports = air_after g v st (hearer_of way) name e is_open way (Deliver h.heard) tx rx h.behind h.moves;
        sides = sides_after g v st (hearer_of way) name e is_open way (Deliver h.heard) tx rx h.behind h.moves;
        hops = hops_after g v st (hearer_of way) name e is_open way (Deliver h.heard) tx rx h.behind h.moves g.spell box
            (subst (HopFits g.spell (hop_of h.behind way)) (sym (box_from g.layout.box A x B n apart)) (hop_left g v st way name e is_open number bytes tx rx x sdu h))
            (λ p f port is w ne. subst (HopFits g.spell (hop_of port w)) (sym (box_other g.layout.box A x B n apart (Link p w f) ne (link_ingress p name w f)))
            (st.hops p f port is w));
        directs = directs box (InSlot q) no_arrival (λ p w f ne. box_other g.layout.box A x B n apart (Link p w f) ne (link_ingress p name w f))
            (box_from g.layout.box A x B n apart);
        unopened = λ p f none w.
            let was = unopened_after g v st (hearer_of way) name e is_open way (Deliver h.heard) tx rx h.behind h.moves p f none in
            ap (λ (b : Box). b.log) (box_other g.layout.box A x B n apart (Link p w f) (not_here p w f was) (link_ingress p name w f)) ∙ st.unopened p f was w;
        places = record { slots = slots; queues = queues; own = owns };
        paths = paths_after g v st (hearer_of way) name e is_open way (Deliver h.heard) tx rx h.behind h.moves;
        openings = openings_after g v st (hearer_of way) name e is_open way (Deliver h.heard) tx rx h.behind h.moves;
        ends = st.ends;
      };
    }

  -- it arrives, or is lost
  module _ (X : Spot) (only : OnlyArrives name X) (still : is_on_its_way X ≡ false) (sender : Key → ItemSender) (heard : Key → ℕ → Option Sdu)
      (out : NodeName → Key → Option Outgoing) (inc : NodeName → Key → Option Incoming)
      (step : Step (item_tables v.tables) g.chain (record g.chain { spot = put is_number g.chain.spot n X; sender = sender; heard = heard }))
      (ends : EndsFit v.tables g.chain.path sender heard g.chain.wanted out inc) where
    abbrev after : ItemChain
    after = record g.chain { spot = put is_number g.chain.spot n X; sender = sender; heard = heard }

    abbrev PL : Parcel → ℕ → Type 0
    PL = IsParcel v.tables g.chain.items g.chain.spot g.spell

    abbrev QL : Parcel → ℕ → Type 0
    QL = IsParcel v.tables g.chain.items after.spot g.spell

    abbrev box_left : Station → Box
    box_left = put is_station g.layout.box A (leave (g.layout.box A) x)

    stay : (y : Parcel) (l : ℕ) → (l ≡ n → ⊥) → PL y l → QL y l
    stay y l ne w = parcel_keeps v.tables g.chain.items g.chain.spot g.spell n X y l ne w

    pub left : Refines v.tables g (record v {
      entity = put_at is_side is_port v.entity (hearer_of way) name (Some (record e { tx = tx; rx = rx }));
      outgoing = out;
      incoming =
          inc;
    })
    left = record {
      ghost = record g {
        chain = after;
        layout = record g.layout { box = box_left };
        ports =
            ports_after g v st (hearer_of way) name e is_open way (Deliver h.heard) tx rx h.behind h.moves;
      };
      goes = one_step (item_tables v.tables) g.chain after step;
      given = given_after g v st (hearer_of way) name e is_open way (Deliver h.heard) tx rx h.behind h.moves;
      stands = record {
        good = st.good;
        reaches = reaches_on (item_tables v.tables) g.chain after st.reaches step;
        layout = leaves_on v.tables g.layout g.chain.items g.chain.spot st.layout A x n stood X still;
        spelt = st.spelt;
        lengths = st.lengths;
        ports = air_after g v st (hearer_of way) name e is_open way (Deliver h.heard) tx rx h.behind h.moves;
        sides = sides_after g v st (hearer_of way) name e is_open way (Deliver h.heard) tx rx h.behind h.moves;
        hops = hops_after g v st (hearer_of way) name e is_open way (Deliver h.heard) tx rx h.behind h.moves g.spell box_left
            (subst (HopFits g.spell (hop_of h.behind way)) (sym (put_same of_station g.layout.box A (leave (g.layout.box A) x)))
            (hop_left g v st way name e is_open number bytes tx rx x sdu h))
            (λ p f port is w ne. subst (HopFits g.spell (hop_of port w)) (sym (put_other of_station g.layout.box A (leave (g.layout.box A) x) (Link p w f) ne))
            (st.hops p f port is w));
        directs = directs box_left X only (λ p w f ne. put_other of_station g.layout.box A (leave (g.layout.box A) x) (Link p w f) ne)
            (put_same of_station g.layout.box A (leave (g.layout.box A) x));
        unopened = λ p f none w.
            let was = unopened_after g v st (hearer_of way) name e is_open way (Deliver h.heard) tx rx h.behind h.moves p f none in
            ap (λ (b : Box). b.log) (put_other of_station g.layout.box A (leave (g.layout.box A) x) (Link p w f) (not_here p w f was)) ∙ st.unopened p f was w;
        places = record {
          slots = λ p. row_stays g.layout.box A x n stood st.layout.once PL QL stay (Ingress p) (as_list (v.slot p)) (λ s. link_ingress name p way e.epoch (sym s))
              (st.places.slots p);
          queues = λ p. row_stays g.layout.box A x n stood st.layout.once (IsQueued PL p) (IsQueued QL p) (λ y l ne w. (w.0, stay y l ne w.1)) (Egress p) (v.queue p)
              (λ s. link_egress name p way e.epoch (sym s)) (st.places.queues p);
          own = st.places.own;
        };
        paths = paths_after g v st (hearer_of way) name e is_open way (Deliver h.heard) tx rx h.behind h.moves;
        openings = openings_after g v st (hearer_of way) name e is_open way (Deliver h.heard) tx rx h.behind h.moves;
        ends = ends;
      };
    }
