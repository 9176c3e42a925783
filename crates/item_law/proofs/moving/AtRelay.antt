-- Items at the relay.
use Rattle.std.proofs.Common.{◌≡◌, ℕ, Bool, true, false, Some, refl, sym, ◌∙◌, ap, subst, arith}
use Rattle.item_law.specs.State.{Remote, LocalId, Way, Ul, Dl, AtRelay, ToRelay, Tables, Item, Spot, OnFirstHop, InSlot, InQueue, OnSecondHop, Lost, Path, Chain, is_number, put, way_of, epoch_at, goal_at, is_over_relay, Reserves, HasRow, SameUu, is_on_its_way, is_off_pc5}
use Rattle.item_law.specs.Steps.{IsOpenAtRelay, RelayRoutes}
use Rattle.item_law.proofs.base.Apart.{relay_goal, same_id, not_arrived, same_uu, one_item}
use Rattle.item_law.proofs.base.Nodes.{epoch_old, none_applied, not_ahead, reserves_at}
use Rattle.item_law.proofs.kept.Invariant.{is_past_relay, Route, OnPc5, ItemFits, OfHop, OwnFits, Inv}
use Rattle.item_law.proofs.moving.Moves.{owned, owner, own_goal, keeps_move, keeps_lost}

pushed_route : (path : Remote → Path) (i : Item) (w : Way) (q : Remote) → Route path i (InSlot q) w → Route path i (InQueue q) w
pushed_route path i Ul q h = h.0
pushed_route path i Dl q h = h

pub queue_own : (path : Remote → Path) (i : Item) (w : Way) (q : Remote) → Route path i (InQueue q) w → q ≡ i.key.remote
queue_own path i Ul q h = h
queue_own path i Dl q h = h.0

module _ {t : Tables} {s : Chain} {tainted broken : Remote → Bool} (inv : Inv t s tainted broken) where
  module _ (n : ℕ) (i : Item) (u : LocalId) (is : s.items n ≡ Some i) (at : s.spot n ≡ OnFirstHop) (id : i.goal ≡ ToRelay u) where
    first_off : way_of i ≡ Dl → is_off_pc5 (s.spot n) (way_of i) ≡ true
    first_off e = ap (λ (w : Way). is_off_pc5 (s.spot n) w) e ∙ ap (λ (x : Spot). is_off_pc5 x Dl) at

    slot_route : (w : Way) (q : Remote) → way_of i ≡ w → RelayRoutes t s i w q → Route s.path i (InSlot q) w
    slot_route Ul q h routes = (routes.0, routes.1)
    slot_route Dl q h routes = (owned inv n i is q u AtRelay (first_off h) id (routes.0 ∙ id), routes.0)

    slot_own : (w : Way) (q : Remote) → way_of i ≡ w → RelayRoutes t s i w q → (r : Remote) → Reserves (s.path r) u → r ≡ i.key.remote
    slot_own Ul q h routes r res = inv.ids.apart r i.key.remote u res (subst (λ (q : Remote). Reserves (s.path q) u) routes.0 (reserves_at (s.path q) AtRelay u (routes.1 ∙ id)))
    slot_own Dl q h routes r res = (inv.each n i is).own u r (first_off h) id res

    slot_now : (w : Way) → way_of i ≡ w → IsOpenAtRelay s i w → tainted i.key.remote ≡ false → Reserves (s.path i.key.remote) u → i.epoch ≡ (s.path i.key.remote).epoch
    slot_now Ul h is_open clean res = (not_ahead (s.path i.key.remote) AtRelay i.epoch (inv.own n i is clean).limit is_open.0).1
    slot_now Dl h is_open clean res = (inv.own n i is clean).now u (first_off h) id res

    one_id : (v : LocalId) → i.goal ≡ ToRelay v → v ≡ u
    one_id v e = same_id v u (sym e ∙ id)

    pub keeps_complete_relay : (q : Remote) → IsOpenAtRelay s i (way_of i) → RelayRoutes t s i (way_of i) q
        → Inv t (record s { spot = put is_number s.spot n (InSlot q) }) tainted broken
    keeps_complete_relay q is_open routes = keeps_move inv n (InSlot q) (record {
      each = λ j js. subst (λ (j : Item). ItemFits t s.path j (InSlot q)) (one_item s.items n i j is js) (record {
        route = slot_route (way_of i) q refl routes;
        over = λ e. ap is_over_relay id;
        own = λ v r e id' res. slot_own (way_of i) q refl routes r (subst (λ (v : LocalId). Reserves (s.path r) v) (one_id v id') res);
        pc5 = tt;
        row = (inv.each n i is).row;
      });
      own = λ j js. subst (λ (j : Item). tainted j.key.remote ≡ false → OwnFits (s.path j.key.remote) j (InSlot q)) (one_item s.items n i j is js) (λ clean. record {
        limit = (inv.own n i is clean).limit;
        goal = (inv.own n i is clean).goal;
        now = λ v e id' res. slot_now (way_of i) refl is_open clean (subst (λ (v : LocalId). Reserves (s.path i.key.remote) v) (one_id v id') res);
        second = tt;
      });
      back = λ e. ap is_on_its_way at;
      ends = not_arrived (InSlot q) refl;
      on = λ j js clean no_plan now moves. refl;
    })

    pub relays_own : (w : Way) (q : Remote) → way_of i ≡ w → RelayRoutes t s i w q → q ≡ i.key.remote
    relays_own Ul q h routes = routes.0
    relays_own Dl q h routes = owned inv n i is q u AtRelay (first_off h) id (routes.0 ∙ id)

    -- the relay routes what bears an identity that it attaches
    pub relay_takes : (w : Way) (q : Remote) → way_of i ≡ w → tainted i.key.remote ≡ false → IsOpenAtRelay s i w → goal_at (s.path q) AtRelay ≡ ToRelay u → RelayRoutes t s i w q
    relay_takes Ul q h clean is_open has =
        let past = not_ahead (s.path i.key.remote) AtRelay i.epoch (inv.own n i is clean).limit is_open.0 in
        let own : q ≡ i.key.remote = inv.ids.apart q i.key.remote u (reserves_at (s.path q) AtRelay u has)
        (reserves_at (s.path i.key.remote) AtRelay u (own_goal inv n i is clean AtRelay past.1 past.0 ∙ id)) in
        (own, has ∙ sym id, subst (λ (r : Remote). HasRow t r i.key.drb) (sym own) ((inv.each n i is).row u id))
    relay_takes Dl q h clean is_open has =
        let own = owned inv n i is q u AtRelay (first_off h) id has in
        (has ∙ sym id, subst (λ (r : Remote). SameUu t i.key.remote r i.key.drb) (sym own) (same_uu t i.key.remote i.key.drb ((inv.each n i is).row u id)))

    pub keeps_discard_relay : IsOpenAtRelay s i (way_of i) → ((q : Remote) → RelayRoutes t s i (way_of i) q → ⊥)
        → Inv t (record s { spot = put is_number s.spot n Lost }) tainted broken
    keeps_discard_relay is_open none = keeps_lost inv n i is (λ clean no_plan now.
        let attached = own_goal inv n i is clean AtRelay now (none_applied (s.path i.key.remote) AtRelay no_plan) in
        none i.key.remote (relay_takes (way_of i) i.key.remote refl clean is_open (attached ∙ id)))

  pub keeps_push : (n : ℕ) (q : Remote) → s.spot n ≡ InSlot q → Inv t (record s { spot = put is_number s.spot n (InQueue q) }) tainted broken
  keeps_push n q at = keeps_move inv n (InQueue q) (record {
    each = λ i is. let f = inv.each n i is in record {
      route = pushed_route s.path i (way_of i) q (subst (λ (x : Spot). Route s.path i x (way_of i)) at f.route);
      over = λ e. f.over (ap is_past_relay at);
      own = λ u r e. f.own u r (ap (λ (x : Spot). is_off_pc5 x (way_of i)) at);
      pc5 = tt;
      row = f.row;
    };
    own = λ i is clean. let f = inv.own n i is clean in
        record { limit = f.limit; goal = f.goal; now = λ u e. f.now u (ap (λ (x : Spot). is_off_pc5 x (way_of i)) at); second = tt };
    back = λ e. ap is_on_its_way at;
    ends = not_arrived (InQueue q) refl;
    on = λ i is clean no_plan now moves. refl;
  })

  module _ (n : ℕ) (q : Remote) (at : s.spot n ≡ InQueue q) where
    queue_off : (i : Item) → is_off_pc5 (s.spot n) (way_of i) ≡ true
    queue_off i = ap (λ (x : Spot). is_off_pc5 x (way_of i)) at

    pulled_second : (i : Item) (w : Way) → s.items n ≡ Some i → tainted i.key.remote ≡ false → Route s.path i (InQueue q) w
        → OfHop i (OnSecondHop q (epoch_at (s.path q) AtRelay)) w
    pulled_second i Ul is clean route = tt
    pulled_second i Dl is clean route =
        let its = relay_goal i.goal ((inv.each n i is).over (ap is_past_relay at)) in
        let own = owner inv n i is clean q its.0 AtRelay (queue_off i) its.1 (route.1 ∙ its.1) in
        own.now ∙ sym (epoch_old (s.path i.key.remote) AtRelay own.old) ∙ ap (λ (r : Remote). epoch_at (s.path r) AtRelay) (sym own.own)

    pulled_pc5 : (i : Item) (w : Way) → Route s.path i (InQueue q) w → OnPc5 s.path i (OnSecondHop q (epoch_at (s.path q) AtRelay)) w
    pulled_pc5 i Ul route = tt
    pulled_pc5 i Dl route = record { before = omega arith; same = λ e. route.1 }

    pub keeps_pull : Inv t (record s { spot = put is_number s.spot n (OnSecondHop q (epoch_at (s.path q) AtRelay)) }) tainted broken
    keeps_pull = keeps_move inv n (OnSecondHop q (epoch_at (s.path q) AtRelay)) (record {
      each = λ i is. let f = inv.each n i is in record {
        route = queue_own s.path i (way_of i) q (subst (λ (x : Spot). Route s.path i x (way_of i)) at f.route);
        over = λ e. f.over (ap is_past_relay at);
        own = λ u r e. f.own u r (queue_off i);
        pc5 = pulled_pc5 i (way_of i) (subst (λ (x : Spot). Route s.path i x (way_of i)) at f.route);
        row = f.row;
      };
      own = λ i is clean. let f = inv.own n i is clean in
          record {
            limit = f.limit;
            goal = f.goal;
            now = λ u e. f.now u (queue_off i);
            second = pulled_second i (way_of i) is clean (subst (λ (x : Spot). Route s.path i x (way_of i)) at (inv.each n i is).route);
          };
      back = λ e. ap is_on_its_way at;
      ends = not_arrived (OnSecondHop q (epoch_at (s.path q) AtRelay)) refl;
      on = λ i is clean no_plan now moves. refl;
    })
