-- A plan opens, and nodes apply it.
use Rattle.std.proofs.Common.{◌≡◌, ◌⊎◌, inr, Bool, true, false, None, refl, sym, ◌∙◌, subst}
use Rattle.std.proofs.lemmas.Bool.{false≢true}
use Rattle.item_law.specs.State.{Remote, LocalId, Way, Ul, Dl, Node, AtRemote, AtRelay, AtGnb, Goal, ToRelay, Tables, Item, Spot, OnFirstHop, InSlot, InQueue, OnSecondHop, Arrived, Lost, Path, Chain, source, way_of, applied_at, has_applied, goal_at, AsksFor}
use Rattle.item_law.specs.Steps.{MayPlan, new_plan, planned}
use Rattle.item_law.proofs.base.Nodes.{goal_old, none_applied}
use Rattle.item_law.proofs.kept.Invariant.{Route, state_of, Inv}
use Rattle.item_law.proofs.kept.Changes.{same_sender, same_spots}
use Rattle.item_law.proofs.switching.Plans.{each_path, plan_path, paths, keeps_switch}

-- a route, where the relay's goals are as before
pub route_kept : (path path' : Remote → Path) (i : Item) (x : Spot) (w : Way) → ((q : Remote) → goal_at (path' q) AtRelay ≡ goal_at (path q) AtRelay) → Route path i x w
    → Route path' i x w
route_kept path path' i OnFirstHop w same h = tt
route_kept path path' i (InSlot q) w same h = (h.0, same q ∙ h.1)
route_kept path path' i (InQueue q) Ul same h = h
route_kept path path' i (InQueue q) Dl same h = (h.0, same q ∙ h.1)
route_kept path path' i (OnSecondHop q e) w same h = h
route_kept path path' i Arrived w same h = tt
route_kept path path' i Lost w same h = tt

---- a plan opens

new_applied : (g : Goal) (nd : Node) → applied_at (new_plan g) nd ≡ false
new_applied g AtRemote = refl
new_applied g AtRelay = refl
new_applied g AtGnb = refl

module _ {t : Tables} {s : Chain} {tainted broken : Remote → Bool} (inv : Inv t s tainted broken) (r : Remote) (goal : Goal) (none : (s.path r).plan ≡ None)
    (may : MayPlan t s r goal) where
  kept : (nd : Node) → has_applied (s.path r) nd ≡ true → (applied_at (new_plan goal) nd ≡ true) × (goal_at (s.path r) nd ≡ goal)
  kept nd e = absurd (false≢true (sym (none_applied (s.path r) nd none) ∙ e))

  free : (u : LocalId) → goal ≡ ToRelay u → AsksFor (s.path r) u ⊎ MayPlan t s r (ToRelay u)
  free u e = inr (subst (MayPlan t s r) e may)

  abbrev new_paths : Remote → Path
  new_paths = paths inv r (new_plan goal) kept free

  same_applied : (nd : Node) (q : Remote) → has_applied (new_paths q) nd ≡ has_applied (s.path q) nd
  same_applied nd = each_path s.path r (plan_path inv r (new_plan goal) kept free) (λ a b. has_applied b nd ≡ has_applied a nd)
      (new_applied goal nd ∙ sym (none_applied (s.path r) nd none)) (λ p. refl)

  same_relay : (q : Remote) → goal_at (new_paths q) AtRelay ≡ goal_at (s.path q) AtRelay
  same_relay = each_path s.path r (plan_path inv r (new_plan goal) kept free) (λ a b. goal_at b AtRelay ≡ goal_at a AtRelay)
      (sym (goal_old (s.path r) AtRelay (none_applied (s.path r) AtRelay none))) (λ p. refl)

  pub keeps_plan : Inv t (planned s r goal) tainted broken
  keeps_plan = keeps_switch inv r (new_plan goal) kept free {sender = s.sender} {wanted = s.wanted} {spot = s.spot} (record {
    route = λ n i is. route_kept s.path new_paths i (s.spot n) (way_of i) same_relay (inv.each n i is).route;
    second = λ n i is h. h;
    pc5 = λ n i is h. h;
    past = λ n e. e;
    off = λ n w e. e;
    senders = λ k clean. same_sender (state_of t s broken k) (new_paths k.remote) s.items s.spot k (inv.keys k clean)
        (λ e. (inv.keys k clean).waits (sym (same_applied (source k.way) k.remote) ∙ e));
    spots = λ k. same_spots (s.path k.remote) (new_paths k.remote) (broken k.remote) s.items s.spot k;
    wants = λ k h e. h;
  })
