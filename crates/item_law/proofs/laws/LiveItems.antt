-- An item of a clean remote that is live is on its way, of this epoch, and goes to an end that has not applied; with no plan open the other way round too.
use Rattle.std.proofs.Common.{◌≡◌, ℕ, Bool, true, false, Some, None, refl, sym, ◌∙◌, ap}
use Rattle.std.proofs.lemmas.Bool.{false≢true}
use Rattle.item_law.specs.State.{Remote, LocalId, Key, Way, Ul, Dl, Node, AtRemote, AtRelay, AtGnb, Goal, ToDirect, ToRelay, Tables, Item, Spot, OnFirstHop, InSlot, InQueue, OnSecondHop, Arrived, Lost, Chain, sink, way_of, has_applied, epoch_at, goal_at, is_over_relay, is_on_its_way, is_off_pc5}
use Rattle.item_law.specs.Live.{IsOpenDown, LiveOverRelay, LiveDirect, LiveTowards, Live}
use Rattle.item_law.proofs.base.Nodes.{epoch_old, none_applied, not_ahead, not_applied}
use Rattle.item_law.proofs.kept.Invariant.{is_past_relay, IsMoving, Inv}
use Rattle.item_law.proofs.moving.Moves.{owner, own_goal}
use Rattle.item_law.proofs.moving.AtEnd.{to_own, of_hop, at_hop}

pub record IsNow (s : Chain) (n : ℕ) (i : Item) : Type 0 where
  pub now : i.epoch ≡ (s.path i.key.remote).epoch
  pub moves : is_on_its_way (s.spot n) ≡ true
  pub old : has_applied (s.path i.key.remote) (sink (way_of i)) ≡ false

module _ {t : Tables} {s : Chain} {tainted broken : Remote → Bool} (inv : Inv t s tainted broken) (n : ℕ) (i : Item) (is : s.items n ≡ Some i)
    (clean : tainted i.key.remote ≡ false) where
  by_way : (w : Way) → way_of i ≡ w → i.epoch ≡ (s.path i.key.remote).epoch → is_on_its_way (s.spot n) ≡ true → has_applied (s.path i.key.remote) (sink w) ≡ false → IsNow s n i
  by_way w h now moves old = record { now = now; moves = moves; old = ap (λ (w : Way). has_applied (s.path i.key.remote) (sink w)) h ∙ old }

  -- what a node that attaches the identity makes of an item on a Uu hop, in a slot or in a queue
  by_owner : (w : Way) (u : LocalId) (x : Spot) → way_of i ≡ w → s.spot n ≡ x → i.goal ≡ ToRelay u → is_off_pc5 x w ≡ true → is_on_its_way x ≡ true
      → goal_at (s.path i.key.remote) (sink w) ≡ ToRelay u → IsNow s n i
  by_owner w u x h at id off moves has =
      let own = owner inv n i is clean i.key.remote u (sink w) (ap (is_off_pc5 (s.spot n)) h ∙ ap (λ (x : Spot). is_off_pc5 x w) at ∙ off) id has in
      by_way w h own.now (ap is_on_its_way at ∙ moves) own.old

  over_now : (u : LocalId) (x : Spot) (w : Way) → i.goal ≡ ToRelay u → way_of i ≡ w → s.spot n ≡ x → LiveOverRelay s i u x w → IsNow s n i
  over_now u OnFirstHop Ul id h at live =
      let fit = inv.own n i is clean in
      let past = not_ahead (s.path i.key.remote) AtRelay i.epoch fit.limit live.0 in
      by_way Ul h past.1 (ap is_on_its_way at) (not_applied (s.path i.key.remote) AtGnb u (inv.ids.fresh i.key.remote u) (sym (fit.goal past.1) ∙ id) live.2)
  over_now u OnFirstHop Dl id h at live = by_owner Dl u OnFirstHop h at id refl refl live.1.1
  over_now u (InSlot q) Ul id h at live = by_owner Ul u (InSlot q) h at id refl refl live
  over_now u (InSlot q) Dl id h at live = by_owner Dl u (InSlot q) h at id refl refl live.1
  over_now u (InQueue q) Ul id h at live = by_owner Ul u (InQueue q) h at id refl refl live
  over_now u (InQueue q) Dl id h at live = by_owner Dl u (InQueue q) h at id refl refl live.1
  over_now u (OnSecondHop q e) Ul id h at live = by_owner Ul u (OnSecondHop q e) h at id refl refl live
  over_now u (OnSecondHop q e) Dl id h at live = let past = at_hop inv n i q e is at clean AtRemote h live.0 in by_way Dl h past.1 (ap is_on_its_way at) past.0
  over_now u Arrived w id h at live = absurd live
  over_now u Lost w id h at live = absurd live

  direct_now : (x : Spot) → s.spot n ≡ x → LiveDirect s i x → IsNow s n i
  direct_now OnFirstHop at live =
      let past = not_ahead (s.path i.key.remote) (sink (way_of i)) i.epoch (inv.own n i is clean).limit live.0 in
      record { now = past.1; moves = ap is_on_its_way at; old = past.0 }
  direct_now (InSlot q) at live = absurd live
  direct_now (InQueue q) at live = absurd live
  direct_now (OnSecondHop q e) at live = absurd live
  direct_now Arrived at live = absurd live
  direct_now Lost at live = absurd live

  by_now : (g : Goal) → i.goal ≡ g → LiveTowards s i (s.spot n) g → IsNow s n i
  by_now ToDirect id live = direct_now (s.spot n) refl live
  by_now (ToRelay u) id live = over_now u (s.spot n) (way_of i) id refl refl live

  ---- with no plan open, an item of this epoch that is on its way is live

  module _ (no_plan : (s.path i.key.remote).plan ≡ None) (now : i.epoch ≡ (s.path i.key.remote).epoch) where
    has_goal : (nd : Node) → goal_at (s.path i.key.remote) nd ≡ i.goal
    has_goal nd = own_goal inv n i is clean nd now (none_applied (s.path i.key.remote) nd no_plan)

    at_epoch : (nd : Node) → epoch_at (s.path i.key.remote) nd ≡ i.epoch
    at_epoch nd = epoch_old (s.path i.key.remote) nd (none_applied (s.path i.key.remote) nd no_plan) ∙ sym now

    down_open : (u : LocalId) → i.goal ≡ ToRelay u → IsOpenDown (s.path i.key.remote) (ToRelay u)
    down_open u id = (at_epoch AtRemote ∙ sym (at_epoch AtRelay), has_goal AtRemote ∙ id)

    live_over : (u : LocalId) (x : Spot) (w : Way) → i.goal ≡ ToRelay u → way_of i ≡ w → s.spot n ≡ x → is_on_its_way x ≡ true → LiveOverRelay s i u x w
    live_over u OnFirstHop Ul id h at m = (at_epoch AtRelay, has_goal AtRelay ∙ id, has_goal AtGnb ∙ id)
    live_over u OnFirstHop Dl id h at m = (has_goal AtRelay ∙ id, down_open u id)
    live_over u (InSlot q) Ul id h at m = has_goal AtGnb ∙ id
    live_over u (InSlot q) Dl id h at m = down_open u id
    live_over u (InQueue q) Ul id h at m = has_goal AtGnb ∙ id
    live_over u (InQueue q) Dl id h at m = down_open u id
    live_over u (OnSecondHop q e) Ul id h at m = has_goal AtGnb ∙ id
    live_over u (OnSecondHop q e) Dl id h at m =
        (ap (λ (r : Remote). epoch_at (s.path r) AtRemote) (to_own inv n i q e is at) ∙ at_epoch AtRemote ∙ of_hop inv n i q e is at clean h, has_goal AtRemote ∙ id)
    live_over u Arrived w id h at m = absurd (false≢true m)
    live_over u Lost w id h at m = absurd (false≢true m)

    not_past : (x : Spot) → s.spot n ≡ x → i.goal ≡ ToDirect → is_past_relay x ≡ true → ⊥
    not_past x at id h = false≢true (sym (ap is_over_relay id) ∙ (inv.each n i is).over (ap is_past_relay at ∙ h))

    live_direct : (x : Spot) → s.spot n ≡ x → i.goal ≡ ToDirect → is_on_its_way x ≡ true → LiveDirect s i x
    live_direct OnFirstHop at id m = (at_epoch (sink (way_of i)), has_goal (sink (way_of i)) ∙ id)
    live_direct (InSlot q) at id m = absurd (not_past (InSlot q) at id refl)
    live_direct (InQueue q) at id m = absurd (not_past (InQueue q) at id refl)
    live_direct (OnSecondHop q e) at id m = absurd (not_past (OnSecondHop q e) at id refl)
    live_direct Arrived at id m = absurd (false≢true m)
    live_direct Lost at id m = absurd (false≢true m)

    live_towards : (g : Goal) → i.goal ≡ g → is_on_its_way (s.spot n) ≡ true → LiveTowards s i (s.spot n) g
    live_towards ToDirect id m = live_direct (s.spot n) refl id m
    live_towards (ToRelay u) id m = live_over u (s.spot n) (way_of i) id refl refl m

module _ {t : Tables} {s : Chain} {tainted broken : Remote → Bool} (inv : Inv t s tainted broken) where
  pub live_now : (n : ℕ) (i : Item) → tainted i.key.remote ≡ false → Live s n i → IsNow s n i
  live_now n i clean l = by_now inv n i l.is clean i.goal refl l.live

  pub moving_live : (k : Key) (n : ℕ) (i : Item) → tainted k.remote ≡ false → (s.path k.remote).plan ≡ None → IsMoving (s.path k.remote) s.items s.spot k n i → Live s n i
  moving_live k n i clean no_plan g = record {
    is = g.of.is;
    live = live_towards inv n i g.of.is (ap (λ (k : Key). tainted k.remote) g.of.key ∙ clean) (ap (λ (k : Key). (s.path k.remote).plan) g.of.key ∙ no_plan)
        (g.now ∙ ap (λ (k : Key). (s.path k.remote).epoch) (sym g.of.key)) i.goal refl g.moves;
  }
