-- The third node has applied a plan, and the plan closes.
use Rattle.std.proofs.Common.{◌≡◌, ◌⊎◌, inl, inr, ℕ, ◌+◌, ◌≤◌, Bool, true, false, Option, Some, None, refl, sym, ◌∙◌, ap, subst, arith}
use Rattle.std.proofs.lemmas.Bool.{true≢false, cond-true, cond-false, and_parts}
use Rattle.std.proofs.lemmas.Option.{none-some, same_Some}
use Rattle.item_law.specs.State.{Remote, LocalId, Key, Node, AtRemote, AtRelay, AtGnb, is_remote, Tables, Item, Spot, Plan, Path, Chain, put, source, way_of, applied_at, applied_in, has_applied, goal_at, AsksFor, Reserves}
use Rattle.item_law.specs.Steps.{all_applied, closed}
use Rattle.item_law.proofs.base.Puts.{of_remote, is_same, is_other, cases_same, put_other}
use Rattle.item_law.proofs.base.Nodes.{goal_new, epoch_new, Rises, rises_same}
use Rattle.item_law.proofs.kept.Invariant.{IdsFit, OwnFits, state_of, IsOf, KeyFits, Inv}
use Rattle.item_law.proofs.switching.Plans.{now_at, each_path, pc5_kept}
use Rattle.item_law.proofs.switching.Opening.{route_kept}

all_by : (m : Plan) (nd : Node) → all_applied m ≡ true → applied_at m nd ≡ true
all_by m AtRemote e = (and_parts _ _ e).0
all_by m AtRelay e = (and_parts _ _ (and_parts _ _ e).1).0
all_by m AtGnb e = (and_parts _ _ (and_parts _ _ e).1).1

module _ {t : Tables} {s : Chain} {tainted broken : Remote → Bool} (inv : Inv t s tainted broken) (r : Remote) (m : Plan) (is : (s.path r).plan ≡ Some m)
    (all : all_applied m ≡ true) where
  abbrev next : Path
  next = record { epoch = (s.path r).epoch + 1; goal = m.asks; plan = None }

  abbrev after : Remote → Path
  after = put is_remote s.path r next

  at_r : (q : Remote) → q ≡ r → after q ≡ next
  at_r = now_at s.path r next

  at_other : (q : Remote) → (q ≡ r → ⊥) → after q ≡ s.path q
  at_other = put_other of_remote s.path r next

  r_applied : (nd : Node) (q : Remote) → q ≡ r → has_applied (s.path q) nd ≡ true
  r_applied nd q e = ap (λ (q : Remote). has_applied (s.path q) nd) e ∙ ap (λ (o : Option Plan). applied_in o nd) is ∙ all_by m nd all

  -- an identity that is reserved now was reserved by the same remote: as the plan's for r
  after_reserves : (q : Remote) (u : LocalId) → Reserves (after q) u → ((q ≡ r) × AsksFor (s.path q) u) ⊎ ((q ≡ r → ⊥) × Reserves (s.path q) u)
  after_reserves q u res = elim (cases_same of_remote q r) [
    | inl e ↦ inl (e, was (subst (λ (x : Path). Reserves x u) (at_r q e) res) e)
    | inr ne ↦ inr (ne, subst (λ (x : Path). Reserves x u) (at_other q ne) res)
  ]
    where
      was : Reserves next u → q ≡ r → AsksFor (s.path q) u
      was (inl g) e = (m, ap (λ (q : Remote). (s.path q).plan) e ∙ is, g)
      was (inr a) e = absurd (none-some a.0 a.1)

  reserved : (q : Remote) (u : LocalId) → Reserves (after q) u → Reserves (s.path q) u
  reserved q u res = elim (after_reserves q u res) [
    | inl x ↦ inr x.1
    | inr x ↦ x.1
  ]

  close_ids : IdsFit t after
  close_ids = record {
    apart = λ a b u x y. inv.ids.apart a b u (reserved a u x) (reserved b u y);
    fresh = λ q u g asks. elim (cases_same of_remote q r) [
      | inl e ↦ none-some asks.0 (sym (ap (λ (x : Path). x.plan) (at_r q e)) ∙ asks.1)
      | inr ne ↦ inv.ids.fresh q u (sym (ap (λ (x : Path). x.goal) (at_other q ne)) ∙ g) (asks.0, sym (ap (λ (x : Path). x.plan) (at_other q ne)) ∙ asks.1, asks.2)
    ];
    rows = λ q u d x. inv.ids.rows q u d (reserved q u x);
  }

  grows : (q : Remote) → (s.path q).epoch ≤ (after q).epoch
  grows = each_path s.path r next (λ p x. p.epoch ≤ x.epoch) (omega arith) (λ p. omega arith)

  -- all nodes are where the plan asked them to be
  next_goal : (nd : Node) → m.asks ≡ goal_at (s.path r) nd
  next_goal nd = let g = goal_new (s.path r) nd (r_applied nd r refl) in ap (λ (x : Plan). x.asks) (same_Some m g.0 (sym is ∙ g.1)) ∙ sym g.2

  same_relay : (q : Remote) → goal_at (after q) AtRelay ≡ goal_at (s.path q) AtRelay
  same_relay = each_path s.path r next (λ p x. goal_at x AtRelay ≡ goal_at p AtRelay) (next_goal AtRelay) (λ p. refl)

  rises : (q : Remote) → Rises (s.path q) (after q)
  rises = each_path s.path r next Rises (λ nd. (omega (arith, epoch_new (s.path r) nd (r_applied nd r refl)), λ e. next_goal nd)) rises_same

  is_next : (q : Remote) → q ≡ r → (after q).epoch ≡ (s.path q).epoch + 1
  is_next q e = ap (λ (x : Path). x.epoch) (at_r q e) ∙ ap (λ (q : Remote). (s.path q).epoch + 1) (sym e)

  own_close : (i : Item) (x : Spot) → OwnFits (s.path i.key.remote) i x → OwnFits (after i.key.remote) i x
  own_close i x f = let q = i.key.remote in record {
    limit = omega (arith, f.limit, grows q);
    goal = λ e. elim (cases_same of_remote q r) [
      | inl same ↦ absurd (omega (arith, f.limit, e, is_next q same))
      | inr ne ↦ f.goal (e ∙ ap (λ (x : Path). x.epoch) (at_other q ne)) ∙ sym (ap (λ (x : Path). x.goal) (at_other q ne))
    ];
    now = λ u e id res. elim (after_reserves q u res) [
      | inl y ↦ absurd (inv.ids.fresh q u (sym (f.goal (f.now u e id (inr y.1))) ∙ id) y.1)
      | inr y ↦ f.now u e id y.1 ∙ sym (ap (λ (x : Path). x.epoch) (at_other q y.0))
    ];
    second = f.second;
  }

  -- a key of r: nothing is of the new epoch yet, it waits, and a report is wanted
  key_of_r : (k : Key) → k.remote ≡ r → (b : Bool) → tainted k.remote ≡ false
      → KeyFits (record (state_of t s broken k) { path = after k.remote; broken = b; wanted = true }) s.items s.spot k
  key_of_r k same b clean =
      let fit = inv.keys k clean in
      let must : (s.sender k).waits ≡ true = fit.waits (r_applied (source k.way) k.remote same) in
      record {
        waits = λ e. must;
        place = fit.place;
        few = fit.few;
        once = fit.once;
        sdus = fit.sdus;
        confirmed = fit.confirmed;
        beyond = fit.beyond;
        submitted = fit.submitted;
        named = fit.named;
        direct = fit.direct;
        sent = λ n i c x o w e. absurd (none_now n i o e);
        unheard = λ n i c x o w e. absurd (none_now n i o e);
        reports = λ n i f o w e. absurd (none_now n i o e);
        waiting = λ no_plan ok w. inl refl;
        given = λ c no_plan ok w. absurd (true≢false (sym must ∙ w));
      }
    where
      none_now : (n : ℕ) (i : Item) → IsOf s.items k n i → i.epoch ≡ (after k.remote).epoch → ⊥
      none_now n i o e =
          let fit = inv.own n i o.is (ap (λ (k : Key). tainted k.remote) o.key ∙ clean) in
          absurd (omega (arith, fit.limit, ap (λ (k : Key). (s.path k.remote).epoch) o.key, e, is_next k.remote same))

  pub keeps_close : Inv t (closed s r m) tainted (put is_remote broken r false)
  keeps_close = record {
    ids = close_ids;
    each = λ n i js. let f = inv.each n i js in record {
      route = route_kept s.path after i (s.spot n) (way_of i) same_relay f.route;
      over = f.over;
      own = λ u q e id res. f.own u q e id (reserved q u res);
      pc5 = pc5_kept s.path after i (s.spot n) (way_of i) rises f.pc5;
      row = f.row;
    };
    own = λ n i js clean. own_close i (s.spot n) (inv.own n i js clean);
    keys = λ k clean. let b : Bool = put is_remote broken r false k.remote in elim (cases_same of_remote k.remote r) [
      | inl same ↦ subst (λ (w : Bool). KeyFits (record (state_of t s broken k) { path = after k.remote; broken = b; wanted = w }) s.items s.spot k)
          (sym (cond-true (is_remote k.remote r) true (s.wanted k) (is_same of_remote k.remote r same))) (key_of_r k same b clean)
      | inr ne ↦ subst (λ (w : Bool). KeyFits (record (state_of t s broken k) { path = after k.remote; broken = b; wanted = w }) s.items s.spot k)
          (sym (cond-false (is_remote k.remote r) true (s.wanted k) (is_other of_remote k.remote r ne)))
          (subst (λ (b : Bool). KeyFits (record (state_of t s broken k) { path = after k.remote; broken = b }) s.items s.spot k)
          (sym (put_other of_remote broken r false k.remote ne))
          (subst (λ (p : Path). KeyFits (record (state_of t s broken k) { path = p }) s.items s.spot k) (sym (at_other k.remote ne)) (inv.keys k clean)))
    ];
  }
