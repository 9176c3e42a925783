-- Whose an item is; and one item changes its spot.
use Rattle.std.proofs.Common.{◌≡◌, ℕ, Bool, true, false, Some, None, refl, sym, ◌∙◌, ap, subst}
use Rattle.std.proofs.lemmas.Bool.{false≢true}
use Rattle.item_law.specs.State.{Remote, LocalId, Node, Key, ToRelay, Tables, Item, Spot, Arrived, Lost, Path, Chain, is_number, put, way_of, has_applied, goal_at, is_on_its_way, is_off_pc5}
use Rattle.item_law.proofs.base.Puts.{of_number, put_all}
use Rattle.item_law.proofs.base.Apart.{not_arrived, one_item}
use Rattle.item_law.proofs.base.Nodes.{goal_old, not_applied, reserves_at}
use Rattle.item_law.proofs.kept.Invariant.{ItemFits, OwnFits, IsOf, state_of, Inv}
use Rattle.item_law.proofs.kept.Changes.{key_goes, same_path, same_sender}

pub record IsOwn (path : Remote → Path) (i : Item) (q : Remote) (nd : Node) : Type 0 where
  pub own : q ≡ i.key.remote
  pub now : i.epoch ≡ (path i.key.remote).epoch
  pub old : has_applied (path i.key.remote) nd ≡ false

---- whose an item is

module _ {t : Tables} {s : Chain} {tainted broken : Remote → Bool} (inv : Inv t s tainted broken) (n : ℕ) (i : Item) (is : s.items n ≡ Some i) where
  -- of any remote: what a node takes for q from a Uu hop, a slot or a queue is of q
  pub owned : (q : Remote) (u : LocalId) (nd : Node) → is_off_pc5 (s.spot n) (way_of i) ≡ true → i.goal ≡ ToRelay u → goal_at (s.path q) nd ≡ ToRelay u → q ≡ i.key.remote
  owned q u nd uu id has = (inv.each n i is).own u q uu id (reserves_at (s.path q) nd u has)

  module _ (clean : tainted i.key.remote ≡ false) where
    fit : OwnFits (s.path i.key.remote) i (s.spot n)
    fit = inv.own n i is clean

    pub owner : (q : Remote) (u : LocalId) (nd : Node) → is_off_pc5 (s.spot n) (way_of i) ≡ true → i.goal ≡ ToRelay u → goal_at (s.path q) nd ≡ ToRelay u → IsOwn s.path i q nd
    owner q u nd uu id has =
        let own : q ≡ i.key.remote = owned q u nd uu id has in
        let here : goal_at (s.path i.key.remote) nd ≡ ToRelay u = ap (λ (r : Remote). goal_at (s.path r) nd) (sym own) ∙ has in
        let now : i.epoch ≡ (s.path i.key.remote).epoch = fit.now u uu id (reserves_at (s.path i.key.remote) nd u here) in
        record { own = own; now = now; old = not_applied (s.path i.key.remote) nd u (inv.ids.fresh i.key.remote u) (sym (fit.goal now) ∙ id) here }

    pub own_goal : (nd : Node) → i.epoch ≡ (s.path i.key.remote).epoch → has_applied (s.path i.key.remote) nd ≡ false → goal_at (s.path i.key.remote) nd ≡ i.goal
    own_goal nd now old = goal_old (s.path i.key.remote) nd old ∙ sym (fit.goal now)

---- one item changes its stage

module _ {t : Tables} {s : Chain} {tainted broken : Remote → Bool} (inv : Inv t s tainted broken) (n : ℕ) (b : Spot) where
  -- what the new stage has to meet
  pub record MayGo : Type 0 where
    pub each : (i : Item) → s.items n ≡ Some i → ItemFits t s.path i b
    pub own : (i : Item) → s.items n ≡ Some i → tainted i.key.remote ≡ false → OwnFits (s.path i.key.remote) i b
    pub back : is_on_its_way b ≡ true → is_on_its_way (s.spot n) ≡ true
    pub ends : b ≡ Arrived → ⊥
    pub on : (i : Item) → s.items n ≡ Some i → tainted i.key.remote ≡ false → (s.path i.key.remote).plan ≡ None → i.epoch ≡ (s.path i.key.remote).epoch
        → is_on_its_way (s.spot n) ≡ true → is_on_its_way b ≡ true

  pub keeps_move : MayGo → Inv t (record s { spot = put is_number s.spot n b }) tainted broken
  keeps_move go = record {
    ids = inv.ids;
    each = put_all of_number (λ m x. (i : Item) → s.items m ≡ Some i → ItemFits t s.path i x) s.spot n b go.each (λ m ne. inv.each m);
    own = put_all of_number (λ m x. (i : Item) → s.items m ≡ Some i → tainted i.key.remote ≡ false → OwnFits (s.path i.key.remote) i x) s.spot n b go.own (λ m ne. inv.own m);
    keys = λ k clean. let at = state_of t s broken k in key_goes at at.path at.broken at.sender at.wanted s.items s.spot (put is_number s.spot n b) k
        (same_path at.path at.broken k) (same_sender at at.path s.items s.spot k (inv.keys k clean) (inv.keys k clean).waits)
        (record {
          moved = put_all of_number (λ m x. (i : Item) → IsOf s.items k m i → is_on_its_way x ≡ true → is_on_its_way (s.spot m) ≡ true) s.spot n b (λ i o. go.back)
              (λ m ne i o e. e);
          arrived = put_all of_number (λ m x. (i : Item) → IsOf s.items k m i → x ≡ Arrived → s.spot m ≡ Arrived) s.spot n b (λ i o e. absurd (go.ends e)) (λ m ne i o e. e);
          still = put_all of_number (λ m x. (i : Item) → IsOf s.items k m i → (s.path k.remote).plan ≡ None → broken k.remote ≡ false → i.epoch ≡ (s.path k.remote).epoch
              → is_on_its_way (s.spot m) ≡ true → is_on_its_way x ≡ true) s.spot n b
              (λ i o no_plan ok now moves. go.on i o.is (ap (λ (k : Key). tainted k.remote) o.key ∙ clean) (ap (λ (k : Key). (s.path k.remote).plan) o.key ∙ no_plan)
              (now ∙ ap (λ (k : Key). (s.path k.remote).epoch) (sym o.key)) moves)
              (λ m ne i o no_plan ok now moves. moves);
        })
        (λ h e. h) (inv.keys k clean);
  }

-- an item that is lost
pub lost_fits : {t : Tables} {path : Remote → Path} {i : Item} {x : Spot} → ItemFits t path i x → ItemFits t path i Lost
lost_fits fit = record { route = tt; over = λ e. absurd (false≢true e); own = λ u r e. absurd (false≢true e); pc5 = tt; row = fit.row }

pub lost_own : {p : Path} {i : Item} {x : Spot} → OwnFits p i x → OwnFits p i Lost
lost_own fit = record { limit = fit.limit; goal = fit.goal; now = λ u e. absurd (false≢true e); second = tt }

-- an item is lost that was not live, or of a tainted remote
pub keeps_lost : {t : Tables} {s : Chain} {tainted broken : Remote → Bool} (inv : Inv t s tainted broken) (n : ℕ) (i : Item) → s.items n ≡ Some i
    → (tainted i.key.remote ≡ false → (s.path i.key.remote).plan ≡ None → i.epoch ≡ (s.path i.key.remote).epoch → ⊥)
    → Inv t (record s { spot = put is_number s.spot n Lost }) tainted broken
keeps_lost {s = s} {tainted = tainted} inv n i is dead = keeps_move inv n Lost (record {
  each = λ j js. lost_fits (inv.each n j js);
  own = λ j js clean. lost_own (inv.own n j js clean);
  back = λ e. absurd (false≢true e);
  ends = not_arrived Lost refl;
  on = λ j js. subst (λ (j : Item). tainted j.key.remote ≡ false → (s.path j.key.remote).plan ≡ None → j.epoch ≡ (s.path j.key.remote).epoch → is_on_its_way (s.spot n) ≡ true
      → is_on_its_way Lost ≡ true)
      (one_item s.items n i j is js) (λ clean no_plan now moves. absurd (dead clean no_plan now));
})
