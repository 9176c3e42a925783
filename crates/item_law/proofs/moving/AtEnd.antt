-- Items at the ends.
use Rattle.std.proofs.Common.{◌≡◌, ℕ, Bool, true, false, Some, None, refl, sym, ◌∙◌, ap, subst}
use Rattle.item_law.specs.State.{Remote, LocalId, Way, Ul, Dl, Node, AtRemote, AtGnb, ToRelay, Tables, Item, Spot, OnSecondHop, Lost, Chain, is_number, put, sink, way_of, has_applied, epoch_at, goal_at, HasRow, SameUu, is_off_pc5}
use Rattle.item_law.specs.Steps.{IsOpenAtEnd, EndRoutes}
use Rattle.item_law.proofs.base.Apart.{relay_goal, same_uu}
use Rattle.item_law.proofs.base.Nodes.{none_applied, not_ahead}
use Rattle.item_law.proofs.kept.Invariant.{is_past_relay, Route, OfHop, Inv}
use Rattle.item_law.proofs.moving.Moves.{owned, owner, own_goal, keeps_lost}

module _ {t : Tables} {s : Chain} {tainted broken : Remote → Bool} (inv : Inv t s tainted broken) (n : ℕ) (i : Item) (to : Remote) (e : ℕ) (is : s.items n ≡ Some i)
    (at : s.spot n ≡ OnSecondHop to e) where
  its_goal : (u : LocalId) × (i.goal ≡ ToRelay u)
  its_goal = relay_goal i.goal ((inv.each n i is).over (ap is_past_relay at))

  its_row : HasRow t i.key.remote i.key.drb
  its_row = (inv.each n i is).row its_goal.0 its_goal.1

  pub to_own : to ≡ i.key.remote
  to_own = subst (λ (x : Spot). Route s.path i x (way_of i)) at (inv.each n i is).route

  second_off : way_of i ≡ Ul → is_off_pc5 (s.spot n) (way_of i) ≡ true
  second_off h = ap (is_off_pc5 (s.spot n)) h ∙ ap (λ (x : Spot). is_off_pc5 x Ul) at

  -- what an end takes is its own, of any remote
  pub takes_own : (w : Way) (q : Remote) → way_of i ≡ w → EndRoutes t s i w to q → q ≡ i.key.remote
  takes_own Ul q h routes = owned inv n i is q its_goal.0 AtGnb (second_off h) its_goal.1 (routes.0 ∙ its_goal.1)
  takes_own Dl q h routes = routes.0 ∙ to_own

  -- the gNB takes what bears an identity that it attaches
  pub gnb_takes : (q : Remote) → way_of i ≡ Ul → goal_at (s.path q) AtGnb ≡ i.goal → EndRoutes t s i Ul to q
  gnb_takes q h has = (
    has,
    subst (λ (r : Remote). SameUu t to r i.key.drb) (sym (owned inv n i is q its_goal.0 AtGnb (second_off h) its_goal.1 (has ∙ its_goal.1)))
        (subst (λ (r : Remote). SameUu t r i.key.remote i.key.drb) (sym to_own) (same_uu t i.key.remote i.key.drb its_row)),
  )

  module _ (clean : tainted i.key.remote ≡ false) where
    -- downlink it is of the hop's epoch, and a node in that epoch has not applied
    pub of_hop : way_of i ≡ Dl → i.epoch ≡ e
    of_hop h = subst (OfHop i (OnSecondHop to e)) h (subst (λ (x : Spot). OfHop i x (way_of i)) at (inv.own n i is clean).second)

    pub at_hop : (nd : Node) → way_of i ≡ Dl → epoch_at (s.path to) nd ≡ e → (has_applied (s.path i.key.remote) nd ≡ false) × (i.epoch ≡ (s.path i.key.remote).epoch)
    at_hop nd h same = not_ahead (s.path i.key.remote) nd i.epoch (inv.own n i is clean).limit (ap (λ (r : Remote). epoch_at (s.path r) nd) (sym to_own) ∙ same ∙ sym (of_hop h))

    -- a remote takes all that it hears
    pub remote_takes : way_of i ≡ Dl → IsOpenAtEnd s Dl to e → EndRoutes t s i Dl to to
    remote_takes h is_open = let past = at_hop AtRemote h is_open.0 in (
      refl,
      subst (λ (r : Remote). goal_at (s.path r) AtRemote ≡ i.goal) (sym to_own) (own_goal inv n i is clean AtRemote past.1 past.0),
      subst (λ (r : Remote). HasRow t r i.key.drb) (sym to_own) its_row,
    )

    -- what an end takes is of this epoch, and the end has not applied
    pub takes_now : (w : Way) (q : Remote) → way_of i ≡ w → IsOpenAtEnd s w to e → EndRoutes t s i w to q → (i.epoch ≡ (s.path i.key.remote).epoch)
        × (has_applied (s.path i.key.remote) (sink w) ≡ false)
    takes_now Ul q h is_open routes = let own = owner inv n i is clean q its_goal.0 AtGnb (second_off h) its_goal.1 (routes.0 ∙ its_goal.1) in (own.now, own.old)
    takes_now Dl q h is_open routes = let past = at_hop AtRemote h is_open.0 in (past.1, past.0)

    takes_some : (w : Way) → way_of i ≡ w → IsOpenAtEnd s w to e → (s.path i.key.remote).plan ≡ None → i.epoch ≡ (s.path i.key.remote).epoch → (q : Remote) × EndRoutes t s i w to q
    takes_some Ul h is_open no_plan now = (i.key.remote, gnb_takes i.key.remote h (own_goal inv n i is clean AtGnb now (none_applied (s.path i.key.remote) AtGnb no_plan)))
    takes_some Dl h is_open no_plan now = (to, remote_takes h is_open)

  pub keeps_discard_end : IsOpenAtEnd s (way_of i) to e → ((q : Remote) → EndRoutes t s i (way_of i) to q → ⊥)
      → Inv t (record s { spot = put is_number s.spot n Lost }) tainted broken
  keeps_discard_end is_open none = keeps_lost inv n i is (λ clean no_plan now. let some = takes_some clean (way_of i) refl is_open no_plan now in none some.0 some.1)
