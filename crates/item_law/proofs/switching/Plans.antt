-- Another plan of one remote is open: what that does to paths, identities, items and keys.
use Rattle.std.proofs.Common.{◌≡◌, ◌⊎◌, inl, inr, ℕ, Bool, true, false, Some, None, refl, sym, ◌∙◌, ap, subst, arith}
use Rattle.std.proofs.lemmas.Bool.{true≢false}
use Rattle.std.proofs.lemmas.Option.{none-some, same_Some}
use Rattle.item_law.specs.State.{Remote, LocalId, Key, Way, Ul, Dl, Node, AtRemote, AtRelay, Goal, ToRelay, is_remote, Tables, Item, Spot, OnFirstHop, InSlot, InQueue, OnSecondHop, Arrived, Lost, Plan, Path, Sender, Chain, put, source, way_of, applied_at, has_applied, epoch_at, goal_at, AsksFor, Reserves, HasRow, is_off_pc5}
use Rattle.item_law.specs.Steps.{MayPlan}
use Rattle.item_law.proofs.base.Puts.{of_remote, cases_same, put_all, put_same, put_other}
use Rattle.item_law.proofs.base.Nodes.{Rises, rises_same, not_back, rises_with}
use Rattle.item_law.proofs.kept.Invariant.{IdsFit, is_past_relay, Route, IsOpened, OnPc5, OfHop, state_of, Inv}
use Rattle.item_law.proofs.kept.Changes.{SenderGoes, SpotsGo, key_goes}

---- the path of one remote

module _ (path : Remote → Path) (r : Remote) (p : Path) where
  pub now_at : (q : Remote) → q ≡ r → put is_remote path r p q ≡ p
  now_at q e = ap (put is_remote path r p) e ∙ put_same of_remote path r p

  pub each_path : (P : Path → Path → Type 0) → P (path r) p → ((q : Path) → P q q) → (q : Remote) → P (path q) (put is_remote path r p q)
  each_path P here there = put_all of_remote (λ q x. P (path q) x) path r p here (λ q ne. there (path q))

---- PC5 hops, as nodes go on

opened_kept : (p p' : Path) (nd : Node) (e : ℕ) (g : Goal) → Rises p p' → IsOpened p nd e g → IsOpened p' nd e g
opened_kept p p' nd e g rises o = record {
  before = omega (arith, o.before, (rises nd).0);
  same = λ is. let here : epoch_at p nd ≡ e = omega (arith, o.before, (rises nd).0, is) in (rises nd).1 (is ∙ sym here) ∙ o.same here;
}

pub pc5_kept : (path path' : Remote → Path) (i : Item) (x : Spot) (w : Way) → ((q : Remote) → Rises (path q) (path' q)) → OnPc5 path i x w → OnPc5 path' i x w
pc5_kept path path' i OnFirstHop Ul rises h = opened_kept (path i.key.remote) (path' i.key.remote) AtRemote i.epoch i.goal (rises i.key.remote) h
pc5_kept path path' i OnFirstHop Dl rises h = tt
pc5_kept path path' i (InSlot q) w rises h = tt
pc5_kept path path' i (InQueue q) w rises h = tt
pc5_kept path path' i (OnSecondHop q e) Ul rises h = tt
pc5_kept path path' i (OnSecondHop q e) Dl rises h = opened_kept (path q) (path' q) AtRelay e i.goal (rises q) h
pc5_kept path path' i Arrived w rises h = tt
pc5_kept path path' i Lost w rises h = tt

---- the plan of one remote

-- m is open at r. It takes no mark back and asks nothing else, and what it asks for was asked for, or is free
module _ {t : Tables} {s : Chain} {tainted broken : Remote → Bool} (inv : Inv t s tainted broken) (r : Remote) (m : Plan)
    (kept : (nd : Node) → has_applied (s.path r) nd ≡ true → (applied_at m nd ≡ true) × (goal_at (s.path r) nd ≡ m.asks))
    (free : (u : LocalId) → m.asks ≡ ToRelay u → AsksFor (s.path r) u ⊎ MayPlan t s r (ToRelay u)) where
  abbrev pub plan_path : Path
  plan_path = record (s.path r) { plan = Some m }

  abbrev pub paths : Remote → Path
  paths = put is_remote s.path r plan_path

  epochs : (q : Remote) → (paths q).epoch ≡ (s.path q).epoch
  epochs = each_path s.path r plan_path (λ a b. b.epoch ≡ a.epoch) refl (λ p. refl)

  goals : (q : Remote) → (paths q).goal ≡ (s.path q).goal
  goals = each_path s.path r plan_path (λ a b. b.goal ≡ a.goal) refl (λ p. refl)

  old : (q : Remote) (nd : Node) → has_applied (paths q) nd ≡ false → has_applied (s.path q) nd ≡ false
  old = each_path s.path r plan_path (λ a b. (nd : Node) → has_applied b nd ≡ false → has_applied a nd ≡ false) (not_back (s.path r) m kept) (λ p nd e. e)

  rises : (q : Remote) → Rises (s.path q) (paths q)
  rises = each_path s.path r plan_path Rises (rises_with (s.path r) m kept) rises_same

  -- a remote with no plan open is another one
  pub no_plan : (q : Remote) → (paths q).plan ≡ None → (q ≡ r → ⊥) × ((s.path q).plan ≡ None)
  no_plan q e = elim (cases_same of_remote q r) [
    | inl same ↦ absurd (none-some m (sym e ∙ ap (λ (x : Path). x.plan) (now_at s.path r plan_path q same)))
    | inr ne ↦ (ne, sym (ap (λ (x : Path). x.plan) (put_other of_remote s.path r plan_path q ne)) ∙ e)
  ]

  -- what is asked for now was asked for, or is new for r
  asks : (q : Remote) (u : LocalId) → AsksFor (paths q) u → AsksFor (s.path q) u ⊎ ((q ≡ r) × MayPlan t s r (ToRelay u))
  asks q u a = elim (cases_same of_remote q r) [
    | inl same ↦ elim (free u (ap (λ (p : Plan). p.asks) (same_Some m a.0 (sym (ap (λ (x : Path). x.plan) (now_at s.path r plan_path q same)) ∙ a.1)) ∙ a.2)) [
      | inl x ↦ inl (subst (λ (q : Remote). AsksFor (s.path q) u) (sym same) x)
      | inr x ↦ inr (same, x)
    ]
    | inr ne ↦ inl (a.0, sym (ap (λ (x : Path). x.plan) (put_other of_remote s.path r plan_path q ne)) ∙ a.1, a.2)
  ]

  reserves : (q : Remote) (u : LocalId) → Reserves (paths q) u → Reserves (s.path q) u ⊎ ((q ≡ r) × MayPlan t s r (ToRelay u))
  reserves q u (inl g) = inl (inl (sym (goals q) ∙ g))
  reserves q u (inr a) = elim (asks q u a) [
    | inl x ↦ inl (inr x)
    | inr x ↦ inr x
  ]

  ids : IdsFit t paths
  ids = record {
    apart = λ a b u x y. elim (reserves a u x) [
      | inl x ↦ elim (reserves b u y) [
        | inl y ↦ inv.ids.apart a b u x y
        | inr y ↦ absurd (y.1.1 a x)
      ]
      | inr x ↦ elim (reserves b u y) [
        | inl y ↦ absurd (x.1.1 b y)
        | inr y ↦ x.0 ∙ sym y.0
      ]
    ];
    fresh = λ q u g a. elim (asks q u a) [
      | inl x ↦ inv.ids.fresh q u (sym (goals q) ∙ g) x
      | inr x ↦ x.1.1 q (inl (sym (goals q) ∙ g))
    ];
    rows = λ q u d x bearer. elim (reserves q u x) [
      | inl x ↦ inv.ids.rows q u d x bearer
      | inr x ↦ subst (λ (q : Remote). HasRow t q d) (sym x.0) (x.1.0 d (subst (λ (q : Remote). t.bearer q d ≡ true) x.0 bearer))
    ];
  }

  -- what else may change with the plan
  pub record Switches (sender : Key → Sender) (wanted : Key → Bool) (spot : ℕ → Spot) : Type 0 where
    pub route : (n : ℕ) (i : Item) → s.items n ≡ Some i → Route paths i (spot n) (way_of i)
    pub second : (n : ℕ) (i : Item) → s.items n ≡ Some i → OfHop i (s.spot n) (way_of i) → OfHop i (spot n) (way_of i)
    pub pc5 : (n : ℕ) (i : Item) → s.items n ≡ Some i → OnPc5 paths i (s.spot n) (way_of i) → OnPc5 paths i (spot n) (way_of i)
    pub past : (n : ℕ) → is_past_relay (spot n) ≡ true → is_past_relay (s.spot n) ≡ true
    pub off : (n : ℕ) (w : Way) → is_off_pc5 (spot n) w ≡ true → is_off_pc5 (s.spot n) w ≡ true
    pub senders : (k : Key) → tainted k.remote ≡ false → SenderGoes (t.limit k.remote k.drb) (paths k.remote) k (s.sender k) (sender k) (s.heard k)
    pub spots : (k : Key) → SpotsGo (s.path k.remote) (paths k.remote) (broken k.remote) s.items s.spot spot k
    pub wants : (k : Key) → s.wanted k ≡ true → (paths k.remote).plan ≡ None → wanted k ≡ true

  module _ {sender : Key → Sender} {wanted : Key → Bool} {spot : ℕ → Spot} (sw : Switches sender wanted spot) where
    -- what is on a Uu hop, in a slot or in a queue has an identity that was reserved, if it is reserved now
    was : (n : ℕ) (i : Item) (u : LocalId) (q : Remote) → s.items n ≡ Some i → is_off_pc5 (spot n) (way_of i) ≡ true → i.goal ≡ ToRelay u → Reserves (paths q) u
        → Reserves (s.path q) u
    was n i u q is off id res = elim (reserves q u res) [
      | inl x ↦ x
      | inr x ↦ absurd (true≢false (sym (sw.off n (way_of i) off) ∙ x.1.2 n i is id))
    ]

    pub keeps_switch : Inv t (record s { path = paths; sender = sender; wanted = wanted; spot = spot }) tainted broken
    keeps_switch = record {
      ids = ids;
      each = λ n i is. let f = inv.each n i is in record {
        route = sw.route n i is;
        over = λ e. f.over (sw.past n e);
        own = λ u q off id res. f.own u q (sw.off n (way_of i) off) id (was n i u q is off id res);
        pc5 = sw.pc5 n i is (pc5_kept s.path paths i (s.spot n) (way_of i) rises f.pc5);
        row = f.row;
      };
      own = λ n i is clean. let f = inv.own n i is clean in record {
        limit = omega (arith, f.limit, epochs i.key.remote);
        goal = λ e. f.goal (e ∙ epochs i.key.remote) ∙ sym (goals i.key.remote);
        now = λ u off id res. f.now u (sw.off n (way_of i) off) id (was n i u i.key.remote is off id res) ∙ sym (epochs i.key.remote);
        second = sw.second n i is f.second;
      };
      keys = λ k clean. key_goes (state_of t s broken k) (paths k.remote) (broken k.remote) (sender k) (wanted k) s.items s.spot spot k
          (record { now = epochs k.remote; old = old k.remote (source k.way); ends = λ e f. ((no_plan k.remote e).1, f) }) (sw.senders k clean) (sw.spots k) (sw.wants k)
          (inv.keys k clean);
    }
