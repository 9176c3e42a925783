-- Each thing that happens keeps the invariant, and so each world of a run has it.
use Rattle.std.proofs.Common.{◌≡◌, ◌≢◌, ◌⊎◌, inl, inr, ℕ, ◌+◌, Bool, true, false, List, [], ◌∷◌, length, Some, None, refl, sym, ◌∙◌, ap, subst, arith}
use Rattle.std.specs.Option.{is_some}
use Rattle.std.proofs.lemmas.Bool.{false≢true, cond_both}
use Rattle.std.proofs.lemmas.Option.{none-some}
use Rattle.item_law.specs.State.{Remote, LocalId, Key, Node, AtRemote, AtRelay, AtGnb, ToRelay, is_remote, Tables, Content, Data, Report, Item, Plan, Path, Sender, Chain, put, source, sink, way_of, has_applied, Reserves, TablesFit, is_on_its_way}
use Rattle.item_law.specs.Steps.{Arrives, key_for, new_plan, mark, all_applied, applied_by, closed, after_apply, Step, submit, skip, give_data, want_report, give_report, complete_direct, confirm_direct, complete_relay, discard_relay, push, pull, complete_end, discard_end, plan, apply}
use Rattle.item_law.specs.World.{World, Happens, steps, inject_up, inject_down, fail, Begins, IsRun, Reaches}
use Rattle.item_law.proofs.base.Puts.{of_remote, put_all, put_same, put_other}
use Rattle.item_law.proofs.base.Nodes.{not_ahead}
use Rattle.item_law.proofs.kept.Invariant.{Inv}
use Rattle.item_law.proofs.moving.AtRelay.{keeps_complete_relay, keeps_discard_relay, keeps_push, keeps_pull}
use Rattle.item_law.proofs.moving.AtEnd.{takes_own, takes_now, keeps_discard_end}
use Rattle.item_law.proofs.moving.Arrives.{keeps_arrives}
use Rattle.item_law.proofs.giving.Senders.{keeps_submit, keeps_skip, keeps_confirm, keeps_want, keeps_fail}
use Rattle.item_law.proofs.giving.Gives.{keeps_give_data, keeps_give_report}
use Rattle.item_law.proofs.giving.Injected.{keeps_inject_up, keeps_inject_down}
use Rattle.item_law.proofs.switching.Opening.{keeps_plan}
use Rattle.item_law.proofs.switching.Applying.{keeps_applied}
use Rattle.item_law.proofs.switching.Closing.{keeps_close}

-- where more is broken, less is said
broken_more : {t : Tables} {s : Chain} {tainted b b' : Remote → Bool} → ((r : Remote) → b' r ≡ false → b r ≡ false) → Inv t s tainted b → Inv t s tainted b'
broken_more less inv = record {
  ids = inv.ids;
  each = inv.each;
  own = inv.own;
  keys = λ k clean. let f = inv.keys k clean in record {
    waits = f.waits;
    place = f.place;
    few = f.few;
    once = f.once;
    sent = f.sent;
    sdus = f.sdus;
    confirmed = f.confirmed;
    beyond = f.beyond;
    submitted = f.submitted;
    named = f.named;
    direct = f.direct;
    unheard = f.unheard;
    reports = f.reports;
    waiting = λ no_plan ok. f.waiting no_plan (less _ ok);
    given = λ c no_plan ok. f.given c no_plan (less _ ok);
  };
}

-- what a step leaves: the invariant with what was broken, or with one remote broken no more whose plan it closed
abbrev Kept : Tables → Chain → Chain → (Remote → Bool) → (Remote → Bool) → Type 0
Kept t old new tainted broken = (b : Remote → Bool) × ((r : Remote) → (b r ≡ false) ⊎ ((b r ≡ broken r) × ((new.path r).plan ≡ None → (old.path r).plan ≡ None)))
    × Inv t new tainted b

module _ {t : Tables} {old : Chain} {tainted broken : Remote → Bool} (inv : Inv t old tainted broken) where
  -- a step that leaves the paths
  same_paths : (new : Chain) → new.path ≡ old.path → Inv t new tainted broken → Kept t old new tainted broken
  same_paths new same kept = (broken, (λ r. inr (refl, λ e. ap (λ (p : Remote → Path). (p r).plan) (sym same) ∙ e)), kept)

  arrives_path : (n : ℕ) (k : Key) (w : Content) (new : Chain) → Arrives old n k w new → new.path ≡ old.path
  arrives_path n k (Data c x) new e = ap (λ (s : Chain). s.path) e
  arrives_path n k (Report f) new e = ap (λ (s : Chain). s.path) e.2

  at_end : (new made : Chain) → new ≡ made → made.path ≡ old.path → Inv t made tainted broken → Kept t old new tainted broken
  at_end new made e same kept = same_paths new (ap (λ (s : Chain). s.path) e ∙ same) (subst (λ (s : Chain). Inv t s tainted broken) (sym e) kept)

  module _ (r : Remote) (p : Plan) (is : (old.path r).plan ≡ Some p) where
    applied_path : (nd : Node) → (applied_by old r p nd).path ≡ put is_remote old.path r (record (old.path r) { plan = Some (mark p nd) })
    applied_path AtRemote = refl
    applied_path AtRelay = refl
    applied_path AtGnb = refl

    applied_plan : (nd : Node) → ((applied_by old r p nd).path r).plan ≡ Some (mark p nd)
    applied_plan nd = ap (λ (q : Remote → Path). (q r).plan) (applied_path nd)
        ∙ ap (λ (x : Path). x.plan) (put_same of_remote old.path r (record (old.path r) { plan = Some (mark p nd) }))

    applied_none : (nd : Node) (q : Remote) → ((applied_by old r p nd).path q).plan ≡ None → (old.path q).plan ≡ None
    applied_none nd q e = put_all of_remote (λ q x. x.plan ≡ None → (old.path q).plan ≡ None) old.path r (record (old.path r) { plan = Some (mark p nd) })
        (λ h. absurd (none-some (mark p nd) (sym h))) (λ q ne h. h) q
        (ap (λ (x : Remote → Path). (x q).plan) (sym (applied_path nd)) ∙ e)

    abbrev done : Node → Chain
    done nd = closed (applied_by old r p nd) r (mark p nd)

    abbrev next : Node → Path
    next nd = record { epoch = ((applied_by old r p nd).path r).epoch + 1; goal = (mark p nd).asks; plan = None }

    closed_none : (nd : Node) (q : Remote) → (q ≡ r → ⊥) → ((done nd).path q).plan ≡ None → (old.path q).plan ≡ None
    closed_none nd q ne e = applied_none nd q (ap (λ (x : Path). x.plan) (sym (put_other of_remote (applied_by old r p nd).path r (next nd) q ne)) ∙ e)

    closed_kept : (nd : Node) → all_applied (mark p nd) ≡ true → Kept t old (done nd) tainted broken
    closed_kept nd all = (
      put is_remote broken r false,
      put_all of_remote (λ q b. (b ≡ false) ⊎ ((b ≡ broken q) × (((done nd).path q).plan ≡ None → (old.path q).plan ≡ None))) broken r false (inl refl)
          (λ q ne. inr (refl, closed_none nd q ne)),
      keeps_close (keeps_applied inv r p is nd) r (mark p nd) (applied_plan nd) all,
    )

    keeps_apply : (nd : Node) → Kept t old (after_apply old r p nd) tainted broken
    keeps_apply nd = cond_both (all_applied (mark p nd)) (done nd) (applied_by old r p nd) (λ s. Kept t old s tainted broken)
        (closed_kept nd) (λ some. (broken, (λ q. inr (refl, applied_none nd q)), keeps_applied inv r p is nd))

  keeps_base : (new : Chain) → Step t old new → Kept t old new tainted broken
  keeps_base new (submit k sdu n first room e) = at_end new _ e refl (keeps_submit inv k sdu n first room)
  keeps_base new (skip k lt is e) = at_end new _ e refl (keeps_skip inv k lt is)
  keeps_base new (give_data n k free bearer goes has kept e) = at_end new _ e refl (keeps_give_data inv n k free bearer goes has kept)
  keeps_base new (want_report k e) = at_end new _ e refl (keeps_want inv k)
  keeps_base new (give_report n k free bearer wants not e) = at_end new _ e refl (keeps_give_report inv n k free bearer not)
  keeps_base new (complete_direct n i is at id is_open arrives) = same_paths new (arrives_path n i.key i.content new arrives)
      (keeps_arrives inv n i is (λ clean. let past = not_ahead (old.path i.key.remote) (sink (way_of i)) i.epoch (inv.own n i is clean).limit is_open.0 in (past.1, past.0))
      (ap is_on_its_way at) i.content new refl arrives)
  keeps_base new (confirm_direct n i c x is at id content e) =
      at_end new _ e refl (keeps_confirm inv i.key c (λ clean. (inv.keys i.key clean).direct n i c x (record { is = is; key = refl }) content id at))
  keeps_base new (complete_relay n i u q is at id is_open routes e) = at_end new _ e refl (keeps_complete_relay inv n i u is at id q is_open routes)
  keeps_base new (discard_relay n i u is at id is_open none e) = at_end new _ e refl (keeps_discard_relay inv n i u is at id is_open none)
  keeps_base new (push n q at e) = at_end new _ e refl (keeps_push inv n q at)
  keeps_base new (pull n q at e) = at_end new _ e refl (keeps_pull inv n q at)
  keeps_base new (complete_end n i to e q is at is_open routes arrives) = same_paths new (arrives_path n (key_for q i) i.content new arrives)
      (keeps_arrives inv n i is (λ clean. takes_now inv n i to e is at clean (way_of i) q refl is_open routes) (ap is_on_its_way at) i.content new refl
      (subst (λ (r : Remote). Arrives old n (key_for r i) i.content new) (takes_own inv n i to e is at (way_of i) q refl routes) arrives))
  keeps_base new (discard_end n i to e is at is_open none eq) = at_end new _ eq refl (keeps_discard_end inv n i to e is at is_open none)
  keeps_base new (plan r goal none may e) = subst (λ (s : Chain). Kept t old s tainted broken) (sym e) (
    broken,
    (λ q. inr (
      refl,
      put_all of_remote (λ q x. x.plan ≡ None → (old.path q).plan ≡ None) old.path r (record (old.path r) { plan = Some (new_plan goal) }) (λ h. none)
          (λ q ne h. h) q,
    )),
    keeps_plan inv r goal none may,
  )
  keeps_base new (apply r p nd is not e) = subst (λ (s : Chain). Kept t old s tainted broken) (sym e) (keeps_apply r p is nd)

pub keeps : (t : Tables) (old new : World) → Inv t old.chain old.tainted old.broken → Happens t old new → Inv t new.chain new.tainted new.broken
keeps t old new inv (steps step same mends) =
    let kept = keeps_base inv new.chain step in
    subst (λ (x : Remote → Bool). Inv t new.chain x new.broken) (sym same) (broken_more (λ r ok. less (kept.0 r) (old.broken r) r (kept.1 r) (mends r ok)) kept.2)
  where
    less : (b c : Bool) (r : Remote) → (b ≡ false) ⊎ ((b ≡ c) × ((new.chain.path r).plan ≡ None → (old.chain.path r).plan ≡ None))
        → (c ≡ false) ⊎ (((old.chain.path r).plan ≢ None) × ((new.chain.path r).plan ≡ None)) → b ≡ false
    less b c r (inl e) h = e
    less b c r (inr e) (inl h) = e.0 ∙ h
    less b c r (inr e) (inr h) = absurd (h.0 (e.1 h.1))
keeps t old new inv (inject_up r n i inj e) = subst (λ (w : World). Inv t w.chain w.tainted w.broken) (sym e) (keeps_inject_up inv r n i inj)
keeps t old new inv (inject_down r s others e) = subst (λ (w : World). Inv t w.chain w.tainted w.broken) (sym e) (keeps_inject_down inv r s others)
keeps t old new inv (fail lost breaks fails e) = subst (λ (w : World). Inv t w.chain w.tainted w.broken) (sym e) (keeps_fail inv lost breaks fails)

---- runs

module _ (t : Tables) (fits : TablesFit t) (w : World) (begins : Begins t w) where
  no_item : (n : ℕ) (i : Item) → w.chain.items n ≡ Some i → ⊥
  no_item n i is = none-some i (sym (begins.opens.items n) ∙ is)

  opens_goal : (r : Remote) (u : LocalId) → Reserves (w.chain.path r) u → t.goal r ≡ ToRelay u
  opens_goal r u (inl g) = sym (ap (λ (p : Path). p.goal) (begins.opens.path r)) ∙ g
  opens_goal r u (inr a) = absurd (none-some a.0 (sym (ap (λ (p : Path). p.plan) (begins.opens.path r)) ∙ a.1))

  pub begins_inv : Inv t w.chain w.tainted w.broken
  begins_inv = record {
    ids = record {
      apart = λ r q u x y. fits.apart r q u (opens_goal r u x) (opens_goal q u y);
      fresh = λ r u g a. none-some a.0 (sym (ap (λ (p : Path). p.plan) (begins.opens.path r)) ∙ a.1);
      rows = λ r u d x. fits.rows r d u (opens_goal r u x);
    };
    each = λ n i is. absurd (no_item n i is);
    own = λ n i is. absurd (no_item n i is);
    keys = λ k clean.
        let a : w.chain.sender k ≡ record { submitted = []; confirmed = λ c. false; place = 0; waits = false } = begins.opens.sender k in
        let none : (c : ℕ) → is_some (w.chain.heard k c) ≡ true → ⊥ = λ c h. false≢true (sym (ap is_some (begins.opens.heard k c)) ∙ h) in
        record {
          waits = λ e. absurd (false≢true (sym (ap (λ (p : Path). has_applied p (source k.way)) (begins.opens.path k.remote)) ∙ e));
          place = omega (arith, ap (λ (a : Sender). a.place) a);
          few = record { n = 0; first = λ c lt. absurd (omega arith); few = omega (arith, ap (λ (a : Sender). length a.submitted) a) };
          once = λ n m i j c x y o. absurd (no_item n i o.is);
          sent = λ n i c x o. absurd (no_item n i o.is);
          sdus = λ n i c x o. absurd (no_item n i o.is);
          confirmed = λ c e. absurd (false≢true (sym (ap (λ (a : Sender). a.confirmed c) a) ∙ e));
          beyond = λ c w le h. absurd (none c h);
          submitted = λ c x h. absurd (none-some x (sym (begins.opens.heard k c) ∙ h));
          named = λ n i f c o. absurd (no_item n i o.is);
          direct = λ n i c x o. absurd (no_item n i o.is);
          unheard = λ n i c x o. absurd (no_item n i o.is);
          reports = λ n i f o. absurd (no_item n i o.is);
          waiting = λ no_plan ok h. absurd (false≢true (sym (ap (λ (a : Sender). a.waits) a) ∙ h));
          given = λ c no_plan ok h below. absurd (omega (arith, below, ap (λ (a : Sender). a.place) a));
        };
  }

run_inv : (t : Tables) → TablesFit t → (w : World) (before : List World) → IsRun t (w ∷ before) → Inv t w.chain w.tainted w.broken
run_inv t fits w [] run = begins_inv t fits w run
run_inv t fits w (v ∷ vs) run = keeps t v w (run_inv t fits v vs run.1) run.0

pub reaches_inv : (t : Tables) (w : World) → Reaches t w → Inv t w.chain w.tainted w.broken
reaches_inv t w r = run_inv t r.fits w r.before r.run
