-- A node applies the open plan of a remote.
use Rattle.std.proofs.Common.{◌≡◌, ◌⊎◌, inl, inr, ℕ, Bool, true, false, cond, ◌&&◌, Option, Some, None, refl, sym, ◌∙◌, ap, subst, arith}
use Rattle.std.proofs.lemmas.Bool.{false≢true, true≢false, cond-false, cond_both, and_parts, and_from, and_left}
use Rattle.item_law.specs.State.{Remote, LocalId, Key, Way, Ul, Dl, Node, AtRemote, AtRelay, AtGnb, Goal, ToRelay, is_remote, is_way, Tables, Item, Spot, OnFirstHop, InSlot, InQueue, OnSecondHop, Arrived, Lost, Plan, Path, Sender, Chain, source, way_of, applied_at, applied_in, has_applied, goal_in, goal_at, AsksFor, is_on_its_way, is_off_pc5}
use Rattle.item_law.specs.Steps.{MayPlan, mark, begin_waits, drop_wanted, purged, applied_by}
use Rattle.item_law.proofs.base.Puts.{of_way, of_remote, is_same, is_other, cases_same, put_other}
use Rattle.std.proofs.lemmas.Option.{same_Some}
use Rattle.item_law.proofs.base.Apart.{is_arrived}
use Rattle.item_law.proofs.base.Nodes.{goal_new}
use Rattle.item_law.proofs.kept.Invariant.{is_past_relay, Route, OnPc5, OfHop, state_of, Inv}
use Rattle.item_law.proofs.kept.Changes.{SenderGoes, same_sender, same_spots}
use Rattle.item_law.proofs.moving.AtRelay.{queue_own}
use Rattle.item_law.proofs.switching.Plans.{now_at, each_path, plan_path, paths, no_plan, keeps_switch}
use Rattle.item_law.proofs.switching.Opening.{route_kept}

---- marks

mark_asks : (p : Plan) (nd : Node) → (mark p nd).asks ≡ p.asks
mark_asks p AtRemote = refl
mark_asks p AtRelay = refl
mark_asks p AtGnb = refl

mark_here : (p : Plan) (nd : Node) → applied_at (mark p nd) nd ≡ true
mark_here p AtRemote = refl
mark_here p AtRelay = refl
mark_here p AtGnb = refl

-- marking takes no mark back
mark_kept : (p : Plan) (nd other : Node) → applied_at p other ≡ true → applied_at (mark p nd) other ≡ true
mark_kept p AtRemote AtRemote e = refl
mark_kept p AtRemote AtRelay e = e
mark_kept p AtRemote AtGnb e = e
mark_kept p AtRelay AtRemote e = e
mark_kept p AtRelay AtRelay e = refl
mark_kept p AtRelay AtGnb e = e
mark_kept p AtGnb AtRemote e = e
mark_kept p AtGnb AtRelay e = e
mark_kept p AtGnb AtGnb e = refl

-- an end that is another one than that which applies
mark_else : (p : Plan) (v w : Way) → (v ≡ w → ⊥) → applied_at (mark p (source w)) (source v) ≡ applied_at p (source v)
mark_else p Ul Ul ne = absurd (ne refl)
mark_else p Ul Dl ne = refl
mark_else p Dl Ul ne = refl
mark_else p Dl Dl ne = absurd (ne refl)

mark_end_relay : (p : Plan) (w : Way) → applied_at (mark p (source w)) AtRelay ≡ applied_at p AtRelay
mark_end_relay p Ul = refl
mark_end_relay p Dl = refl

mark_relay_end : (p : Plan) (w : Way) → applied_at (mark p AtRelay) (source w) ≡ applied_at p (source w)
mark_relay_end p Ul = refl
mark_relay_end p Dl = refl

---- keys of a remote and a way

is_for : (w : Way) (r : Remote) (k : Key) → (is_remote k.remote r && is_way k.way w) ≡ true → (k.remote ≡ r) × (k.way ≡ w)
is_for w r k e = let p = and_parts _ _ e in (of_remote.same k.remote r p.0, of_way.same k.way w p.1)

wants_still : (w : Way) (r : Remote) (wanted : Key → Bool) (k : Key) → (k.remote ≡ r → ⊥) → wanted k ≡ true → drop_wanted w r wanted k ≡ true
wants_still w r wanted k ne h = cond_both (is_remote k.remote r && is_way k.way w) false (wanted k) (λ b. b ≡ true) (λ e. absurd (ne (is_for w r k e).0)) (λ e. h)

---- what the purge leaves

purged_past : (r : Remote) (o : Option Item) (x : Spot) → is_past_relay (purged r x o) ≡ true → is_past_relay x ≡ true
purged_past r o OnFirstHop e = e
purged_past r o (InSlot q) e = refl
purged_past r o (InQueue q) e = refl
purged_past r o (OnSecondHop q e') e = refl
purged_past r o Arrived e = e
purged_past r o Lost e = e

purged_off : (r : Remote) (o : Option Item) (x : Spot) (w : Way) → is_off_pc5 (purged r x o) w ≡ true → is_off_pc5 x w ≡ true
purged_off r o OnFirstHop w e = e
purged_off r o (InSlot q) w e = refl
purged_off r o (InQueue q) w e = refl
purged_off r o (OnSecondHop q e') w e = e
purged_off r o Arrived w e = e
purged_off r o Lost w e = e

purged_moves : (r : Remote) (o : Option Item) (x : Spot) → is_on_its_way (purged r x o) ≡ true → is_on_its_way x ≡ true
purged_moves r o OnFirstHop e = refl
purged_moves r o (InSlot q) e = refl
purged_moves r o (InQueue q) e = refl
purged_moves r o (OnSecondHop q e') e = refl
purged_moves r o Arrived e = e
purged_moves r o Lost e = e

purged_arrived : (r : Remote) (o : Option Item) (x : Spot) → is_arrived (purged r x o) ≡ true → x ≡ Arrived
purged_arrived r o OnFirstHop e = absurd (false≢true e)
purged_arrived r o (InSlot q) e = absurd (false≢true (sym (cond_both (is_remote q r) Lost (InSlot q) (λ x. is_arrived x ≡ false) (λ h. refl) (λ h. refl)) ∙ e))
purged_arrived r None (InQueue q) e = absurd (false≢true e)
purged_arrived r (Some i) (InQueue q) e =
    absurd (false≢true (sym (cond_both (is_remote q r && is_way (way_of i) Dl) Lost (InQueue q) (λ x. is_arrived x ≡ false) (λ h. refl) (λ h. refl)) ∙ e))
purged_arrived r o (OnSecondHop q e') e = absurd (false≢true e)
purged_arrived r o Arrived e = refl
purged_arrived r o Lost e = absurd (false≢true e)

purged_second : (r : Remote) (i : Item) (x : Spot) (w : Way) → OfHop i x w → OfHop i (purged r x (Some i)) w
purged_second r i OnFirstHop w h = tt
purged_second r i (InSlot q) w h = cond_both (is_remote q r) Lost (InSlot q) (λ x. OfHop i x w) (λ e. tt) (λ e. tt)
purged_second r i (InQueue q) w h = cond_both (is_remote q r && is_way (way_of i) Dl) Lost (InQueue q) (λ x. OfHop i x w) (λ e. tt) (λ e. tt)
purged_second r i (OnSecondHop q e) w h = h
purged_second r i Arrived w h = tt
purged_second r i Lost w h = tt

purged_pc5 : (path : Remote → Path) (r : Remote) (i : Item) (x : Spot) (w : Way) → OnPc5 path i x w → OnPc5 path i (purged r x (Some i)) w
purged_pc5 path r i OnFirstHop w h = h
purged_pc5 path r i (InSlot q) w h = cond_both (is_remote q r) Lost (InSlot q) (λ x. OnPc5 path i x w) (λ e. tt) (λ e. tt)
purged_pc5 path r i (InQueue q) w h = cond_both (is_remote q r && is_way (way_of i) Dl) Lost (InQueue q) (λ x. OnPc5 path i x w) (λ e. tt) (λ e. tt)
purged_pc5 path r i (OnSecondHop q e) w h = h
purged_pc5 path r i Arrived w h = tt
purged_pc5 path r i Lost w h = tt

-- the purge leaves the items of other remotes
left_still : (path : Remote → Path) (r : Remote) (i : Item) (x : Spot) (w : Way) → Route path i x w → (i.key.remote ≡ r → ⊥) → is_on_its_way x ≡ true
    → is_on_its_way (purged r x (Some i)) ≡ true
left_still path r i OnFirstHop w fit ne e = refl
left_still path r i (InSlot q) w fit ne e = ap is_on_its_way (cond-false (is_remote q r) Lost (InSlot q) (is_other of_remote q r (λ same. ne (sym fit.0 ∙ same))))
left_still path r i (InQueue q) w fit ne e =
    ap is_on_its_way (cond-false (is_remote q r && is_way (way_of i) Dl) Lost (InQueue q)
    (and_left (is_remote q r) (is_way (way_of i) Dl) (is_other of_remote q r (λ same. ne (sym (queue_own path i w q fit) ∙ same)))))
left_still path r i (OnSecondHop q e') w fit ne e = refl
left_still path r i Arrived w fit ne e = absurd (false≢true e)
left_still path r i Lost w fit ne e = absurd (false≢true e)

---- a node applies

module _ {t : Tables} {s : Chain} {tainted broken : Remote → Bool} (inv : Inv t s tainted broken) (r : Remote) (p : Plan) (is : (s.path r).plan ≡ Some p) where
  module _ (nd : Node) where
    kept : (other : Node) → has_applied (s.path r) other ≡ true → (applied_at (mark p nd) other ≡ true) × (goal_at (s.path r) other ≡ (mark p nd).asks)
    kept other e =
        let g = goal_new (s.path r) other e in
        (mark_kept p nd other (ap (λ (o : Option Plan). applied_in o other) (sym is) ∙ e), g.2 ∙ ap (λ (q : Plan). q.asks) (same_Some g.0 p (sym g.1 ∙ is)) ∙ sym (mark_asks p nd))

    free : (u : LocalId) → (mark p nd).asks ≡ ToRelay u → AsksFor (s.path r) u ⊎ MayPlan t s r (ToRelay u)
    free u e = inl (p, is, sym (mark_asks p nd) ∙ e)

    abbrev marked : Remote → Path
    marked = paths inv r (mark p nd) kept free

    abbrev marked_path : Path
    marked_path = plan_path inv r (mark p nd) kept free

  ---- at the end from which items of way w come, to which those of way v go

  module _ (w v : Way) where
    abbrev ends : Remote → Path
    ends = marked (source w)

    here : (k : Key) → k.remote ≡ r → k.way ≡ w → has_applied (ends k.remote) (source k.way) ≡ true
    here k e f = ap (λ (x : Path). has_applied x (source k.way)) (now_at s.path r (marked_path (source w)) k.remote e)
        ∙ ap (λ (v : Way). applied_at (mark p (source w)) (source v)) f ∙ mark_here p (source w)

    elsewhere : (k : Key) → ((k.remote ≡ r) × (k.way ≡ w) → ⊥) → has_applied (ends k.remote) (source k.way) ≡ true → has_applied (s.path k.remote) (source k.way) ≡ true
    elsewhere k ne a = elim (cases_same of_remote k.remote r) [
      | inl e ↦ ap (λ (q : Remote). has_applied (s.path q) (source k.way)) e ∙ ap (λ (o : Option Plan). applied_in o (source k.way)) is ∙ sym (mark_else p k.way w (λ f. ne (e, f)))
          ∙ ap (λ (x : Path). has_applied x (source k.way)) (sym (now_at s.path r (marked_path (source w)) k.remote e)) ∙ a
      | inr other ↦ ap (λ (x : Path). has_applied x (source k.way)) (sym (put_other of_remote s.path r (marked_path (source w)) k.remote other)) ∙ a
    ]

    end_sender : (k : Key) → tainted k.remote ≡ false → SenderGoes (t.limit k.remote k.drb) (ends k.remote) k (s.sender k) (begin_waits w r s.sender k) (s.heard k)
    end_sender k clean =
        let fit = inv.keys k clean in
        cond_both (is_remote k.remote r && is_way k.way w) (record (s.sender k) { waits = true }) (s.sender k)
        (λ (a : Sender). SenderGoes (t.limit k.remote k.drb) (ends k.remote) k (s.sender k) a (s.heard k))
        (λ e. record {
          waits = λ a. refl;
          same_wait = λ a. absurd (false≢true (sym a ∙ here k (is_for w r k e).0 (is_for w r k e).1));
          goes = λ e. absurd (true≢false e);
          place = omega arith;
          within = fit.place;
          few = record { n = fit.few.n; first = fit.few.first; few = fit.few.few };
          kept = λ c x h. h;
          confirmed = fit.confirmed;
          more = λ c h. h;
          passes = λ c w lt. inl lt;
        })
        (λ e. same_sender (state_of t s broken k) (ends k.remote) s.items s.spot k fit
        (λ a. fit.waits (elsewhere k (λ both. false≢true (sym e ∙ and_from _ _ (is_same of_remote k.remote r both.0) (is_same of_way k.way w both.1))) a)))

    end_relay : (q : Remote) → goal_at (ends q) AtRelay ≡ goal_at (s.path q) AtRelay
    end_relay = each_path s.path r (marked_path (source w)) (λ a b. goal_at b AtRelay ≡ goal_at a AtRelay)
        (ap (λ (b : Bool). cond b (mark p (source w)).asks (s.path r).goal) (mark_end_relay p w) ∙ ap (λ (a : Goal). cond p.at_relay a (s.path r).goal) (mark_asks p (source w))
        ∙ ap (λ (o : Option Plan). goal_in (s.path r).goal o AtRelay) (sym is))
        (λ q. refl)

    keeps_end : Inv t (record s { path = ends; sender = begin_waits w r s.sender; wanted = drop_wanted v r s.wanted }) tainted broken
    keeps_end = keeps_switch inv r (mark p (source w)) (kept (source w))
        (free (source w)) {sender = begin_waits w r s.sender} {wanted = drop_wanted v r s.wanted} {spot = s.spot} (record {
          route = λ n i js. route_kept s.path ends i (s.spot n) (way_of i) end_relay (inv.each n i js).route;
          second = λ n i js h. h;
          pc5 = λ n i js h. h;
          past = λ n e. e;
          off = λ n w e. e;
          senders = end_sender;
          spots = λ k. same_spots (s.path k.remote) (ends k.remote) (broken k.remote) s.items s.spot k;
          wants = λ k h e. wants_still v r s.wanted k (no_plan inv r (mark p (source w)) (kept (source w)) (free (source w)) k.remote e).0 h;
        })

  ---- at the relay

  abbrev relays : Remote → Path
  relays = marked AtRelay

  relay_other : (q : Remote) → (q ≡ r → ⊥) → goal_at (relays q) AtRelay ≡ goal_at (s.path q) AtRelay
  relay_other q ne = ap (λ (x : Path). goal_at x AtRelay) (put_other of_remote s.path r (marked_path AtRelay) q ne)

  left_route : (i : Item) (x : Spot) (w : Way) → way_of i ≡ w → Route s.path i x w → Route relays i (purged r x (Some i)) w
  left_route i OnFirstHop w h fit = tt
  left_route i (InSlot q) w h fit =
      cond_both (is_remote q r) Lost (InSlot q) (λ x. Route relays i x w) (λ e. tt)
      (λ ne. (fit.0, relay_other q (λ same. false≢true (sym ne ∙ is_same of_remote q r same)) ∙ fit.1))
  left_route i (InQueue q) Ul h fit = cond_both (is_remote q r && is_way (way_of i) Dl) Lost (InQueue q) (λ x. Route relays i x Ul) (λ e. tt) (λ e. fit)
  left_route i (InQueue q) Dl h fit = cond_both (is_remote q r && is_way (way_of i) Dl) Lost (InQueue q) (λ x. Route relays i x Dl) (λ e. tt)
      (λ ne. (fit.0, relay_other q (λ same. false≢true (sym ne ∙ and_from _ _ (is_same of_remote q r same) (ap (λ (w : Way). is_way w Dl) h))) ∙ fit.1))
  left_route i (OnSecondHop q e) w h fit = fit
  left_route i Arrived w h fit = tt
  left_route i Lost w h fit = tt

  relay_applied : (w : Way) (q : Remote) → has_applied (relays q) (source w) ≡ has_applied (s.path q) (source w)
  relay_applied w = each_path s.path r (marked_path AtRelay) (λ a b. has_applied b (source w) ≡ has_applied a (source w))
      (mark_relay_end p w ∙ ap (λ (o : Option Plan). applied_in o (source w)) (sym is)) (λ q. refl)

  -- what holds of what the purge leaves of an item that is there
  left_of : (P : Spot → Type 0) (n : ℕ) (i : Item) → s.items n ≡ Some i → P (purged r (s.spot n) (Some i)) → P (purged r (s.spot n) (s.items n))
  left_of P n i js h = subst (λ (o : Option Item). P (purged r (s.spot n) o)) (sym js) h

  keeps_purge : Inv t (applied_by s r p AtRelay) tainted broken
  keeps_purge = keeps_switch inv r (mark p AtRelay) (kept AtRelay) (free AtRelay) {sender = s.sender} {wanted = s.wanted} {spot = λ n. purged r (s.spot n) (s.items n)} (record {
    route = λ n i js. left_of (λ (x : Spot). Route relays i x (way_of i)) n i js (left_route i (s.spot n) (way_of i) refl (inv.each n i js).route);
    second = λ n i js h. left_of (λ (x : Spot). OfHop i x (way_of i)) n i js (purged_second r i (s.spot n) (way_of i) h);
    pc5 = λ n i js h. left_of (λ (x : Spot). OnPc5 relays i x (way_of i)) n i js (purged_pc5 relays r i (s.spot n) (way_of i) h);
    past = λ n e. purged_past r (s.items n) (s.spot n) e;
    off = λ n w e. purged_off r (s.items n) (s.spot n) w e;
    senders = λ k clean. same_sender (state_of t s broken k) (relays k.remote) s.items s.spot k (inv.keys k clean)
        (λ e. (inv.keys k clean).waits (sym (relay_applied k.way k.remote) ∙ e));
    spots = λ k. record {
      moved = λ n i o. purged_moves r (s.items n) (s.spot n);
      arrived = λ n i o e. purged_arrived r (s.items n) (s.spot n) (ap is_arrived e);
      still = λ n i o none ok now moves. left_of (λ (x : Spot). is_on_its_way x ≡ true) n i o.is
          (left_still s.path r i (s.spot n) (way_of i) (inv.each n i o.is).route
          (λ e. (no_plan inv r (mark p AtRelay) (kept AtRelay) (free AtRelay) k.remote none).0 (ap (λ (k : Key). k.remote) (sym o.key) ∙ e)) moves);
    };
    wants = λ k h e. h;
  })

  pub keeps_applied : (nd : Node) → Inv t (applied_by s r p nd) tainted broken
  keeps_applied AtRemote = keeps_end Ul Dl
  keeps_applied AtRelay = keeps_purge
  keeps_applied AtGnb = keeps_end Dl Ul
