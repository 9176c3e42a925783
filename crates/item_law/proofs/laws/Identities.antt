-- The laws of identities and of path switches, from the invariant.
use Rattle.std.proofs.Common.{◌≡◌, ◌⊎◌, inl, inr, ℕ, Bool, true, false, Option, Some, refl, sym, ◌∙◌, ap, subst, arith}
use Rattle.std.proofs.lemmas.Bool.{true≢false}
use Rattle.item_law.specs.State.{Remote, LocalId, Way, Ul, Dl, AtRemote, AtRelay, ToRelay, Tables, Item, Spot, OnFirstHop, InSlot, InQueue, OnSecondHop, Arrived, Lost, Plan, Chain, source, way_of, applied_in, Reserves, is_off_pc5}
use Rattle.item_law.specs.Live.{HeldAt}
use Rattle.item_law.specs.Switches.{IdsApart, IdsHaveRows, HeldForOwner, BearsAttached, HeldAsAttached, AppliedWaits, NothingOfPlan, NothingUnderPlan, PlannedIdIsFree}
use Rattle.item_law.proofs.base.Nodes.{reserves_at, not_ahead}
use Rattle.item_law.proofs.kept.Invariant.{Route, OnPc5, Inv}
use Rattle.item_law.proofs.Inductive.{reaches_inv}
use Rattle.item_law.proofs.moving.AtEnd.{to_own, of_hop, at_hop}

pub ids_apart : IdsApart
ids_apart t w run = (reaches_inv t w run).ids.apart

pub ids_have_rows : IdsHaveRows
ids_have_rows t w run = (reaches_inv t w run).ids.rows

module _ {t : Tables} {s : Chain} {tainted broken : Remote → Bool} (inv : Inv t s tainted broken) (n : ℕ) (i : Item) (u : LocalId) (is : s.items n ≡ Some i)
    (id : i.goal ≡ ToRelay u) where
  its_route : (x : Spot) (w : Way) → s.spot n ≡ x → way_of i ≡ w → Route s.path i x w
  its_route x w at h = subst (Route s.path i x) h (subst (λ (x : Spot). Route s.path i x (way_of i)) at (inv.each n i is).route)

  its_pc5 : (x : Spot) (w : Way) → s.spot n ≡ x → way_of i ≡ w → OnPc5 s.path i x w
  its_pc5 x w at h = subst (OnPc5 s.path i x) h (subst (λ (x : Spot). OnPc5 s.path i x (way_of i)) at (inv.each n i is).pc5)

  off : (x : Spot) (w : Way) → s.spot n ≡ x → way_of i ≡ w → is_off_pc5 x w ≡ true → is_off_pc5 (s.spot n) (way_of i) ≡ true
  off x w at h e = ap (is_off_pc5 (s.spot n)) h ∙ ap (λ (x : Spot). is_off_pc5 x w) at ∙ e

  -- what is held is on a Uu hop, in a slot or in a queue, or its remote has the identity
  held_by : (x : Spot) (w : Way) → s.spot n ≡ x → way_of i ≡ w → HeldAt s i x w → (is_off_pc5 (s.spot n) (way_of i) ≡ true) ⊎ Reserves (s.path i.key.remote) u
  held_by OnFirstHop Ul at h held = inr (reserves_at (s.path i.key.remote) AtRemote u ((its_pc5 OnFirstHop Ul at h).same held ∙ id))
  held_by OnFirstHop Dl at h held = inl (off OnFirstHop Dl at h refl)
  held_by (InSlot q) w at h held = inl (off (InSlot q) w at h refl)
  held_by (InQueue q) w at h held = inl (off (InQueue q) w at h refl)
  held_by (OnSecondHop q e) Ul at h held = inl (off (OnSecondHop q e) Ul at h refl)
  held_by (OnSecondHop q e) Dl at h held =
      inr (subst (λ (q : Remote). Reserves (s.path q) u) (its_route (OnSecondHop q e) Dl at h)
      (reserves_at (s.path q) AtRelay u ((its_pc5 (OnSecondHop q e) Dl at h).same held ∙ id)))
  held_by Arrived w at h held = absurd held
  held_by Lost w at h held = absurd held

  owner_of : HeldAt s i (s.spot n) (way_of i) → (r : Remote) → Reserves (s.path r) u → i.key.remote ≡ r
  owner_of held r res = elim (held_by (s.spot n) (way_of i) refl refl held) [
    | inl e ↦ sym ((inv.each n i is).own u r e id res)
    | inr own ↦ inv.ids.apart i.key.remote r u own res
  ]

  attached : (x : Spot) (w : Way) → s.spot n ≡ x → way_of i ≡ w → HeldAt s i x w → BearsAttached s u i x w
  attached OnFirstHop Ul at h held = (its_pc5 OnFirstHop Ul at h).same held ∙ id
  attached OnFirstHop Dl at h held = tt
  attached (InSlot q) w at h held = (its_route (InSlot q) w at h).1 ∙ id
  attached (InQueue q) Ul at h held = tt
  attached (InQueue q) Dl at h held = (its_route (InQueue q) Dl at h).1 ∙ id
  attached (OnSecondHop q e) Ul at h held = tt
  attached (OnSecondHop q e) Dl at h held = (its_pc5 (OnSecondHop q e) Dl at h).same held ∙ id
  attached Arrived w at h held = absurd held
  attached Lost w at h held = absurd held

  module _ (clean : tainted i.key.remote ≡ false) where
    held_now : (x : Spot) (w : Way) → s.spot n ≡ x → way_of i ≡ w → HeldAt s i x w → Reserves (s.path i.key.remote) u → i.epoch ≡ (s.path i.key.remote).epoch
    held_now OnFirstHop Ul at h held res = (not_ahead (s.path i.key.remote) AtRemote i.epoch (inv.own n i is clean).limit held).1
    held_now OnFirstHop Dl at h held res = (inv.own n i is clean).now u (off OnFirstHop Dl at h refl) id res
    held_now (InSlot q) w at h held res = (inv.own n i is clean).now u (off (InSlot q) w at h refl) id res
    held_now (InQueue q) w at h held res = (inv.own n i is clean).now u (off (InQueue q) w at h refl) id res
    held_now (OnSecondHop q e) Ul at h held res = (inv.own n i is clean).now u (off (OnSecondHop q e) Ul at h refl) id res
    held_now (OnSecondHop q e) Dl at h held res = (at_hop inv n i q e is at clean AtRelay h held).1
    held_now Arrived w at h held res = absurd held
    held_now Lost w at h held res = absurd held

    given_with : HeldAt s i (s.spot n) (way_of i) → Reserves (s.path i.key.remote) u → ((s.path i.key.remote).goal ≡ ToRelay u) × (i.epoch ≡ (s.path i.key.remote).epoch)
    given_with held res = let now = held_now (s.spot n) (way_of i) refl refl held res in (sym ((inv.own n i is clean).goal now) ∙ id, now)

pub held_for_owner : HeldForOwner
held_for_owner t w run n i u r held res =
    let inv = reaches_inv t w run in
    let own : i.key.remote ≡ r = owner_of inv n i u held.is held.goal held.held r res in (
      own,
      λ clean. subst (λ (q : Remote). ((w.chain.path q).goal ≡ ToRelay u) × (i.epoch ≡ (w.chain.path q).epoch)) own
          (given_with inv n i u held.is held.goal (ap w.tainted own ∙ clean) held.held (subst (λ (q : Remote). Reserves (w.chain.path q) u) (sym own) res)),
    )

pub held_as_attached : HeldAsAttached
held_as_attached t w run n i u held = attached (reaches_inv t w run) n i u held.is held.goal (w.chain.spot n) (way_of i) refl refl held.held

pub applied_waits : AppliedWaits
applied_waits t w run k p clean is a = ((reaches_inv t w run).keys k clean).waits (ap (λ (o : Option Plan). applied_in o (source k.way)) is ∙ a)

pub nothing_of_plan : NothingOfPlan
nothing_of_plan t w run n i clean is =
    let inv = reaches_inv t w run in
    let limit = (inv.own n i is clean).limit in (
      limit,
      λ q e h at. let own = to_own inv n i q e is at in (own, omega (arith, limit, of_hop inv n i q e is at clean h, ap (λ (q : Remote). (w.chain.path q).epoch) own)),
    )

pub nothing_under_plan : NothingUnderPlan
nothing_under_plan t w run r p u clean is asks n i held =
    let own = held_for_owner t w run n i u r held (inr (p, is, asks)) in
    (reaches_inv t w run).ids.fresh r u (own.1 clean).0 (p, is, asks)

pub planned_id_is_free : PlannedIdIsFree
planned_id_is_free t w run r u may =
    let inv = reaches_inv t w run in (
      λ q nd has. may.1 q (reserves_at (w.chain.path q) nd u has),
      λ n i held. elim (held_by inv n i u held.is held.goal (w.chain.spot n) (way_of i) refl refl held.held) [
        | inl e ↦ true≢false (sym e ∙ may.2 n i held.is held.goal)
        | inr own ↦ may.1 i.key.remote own
      ],
    )
