-- Where the nodes of a remote are.
use Rattle.std.proofs.Common.{◌≡◌, inl, inr, ℕ, ◌+◌, ◌≤◌, true, false, Option, Some, None, refl, sym, ◌∙◌, ap, arith}
use Rattle.std.proofs.lemmas.Bool.{false≢true, cases_Bool, cond-true, cond-false}
use Rattle.item_law.specs.State.{LocalId, Node, Goal, ToRelay, Plan, Path, applied_at, applied_in, has_applied, epoch_at, goal_in, goal_at, AsksFor, Reserves}

---- one remote's path

goal_in_old : (g : Goal) (o : Option Plan) (nd : Node) → applied_in o nd ≡ false → goal_in g o nd ≡ g
goal_in_old g None nd e = refl
goal_in_old g (Some p) nd e = cond-false (applied_at p nd) p.asks g e

pub goal_old : (p : Path) (nd : Node) → has_applied p nd ≡ false → goal_at p nd ≡ p.goal
goal_old p nd e = goal_in_old p.goal p.plan nd e

pub none_applied : (p : Path) (nd : Node) → p.plan ≡ None → has_applied p nd ≡ false
none_applied p nd e = ap (λ (o : Option Plan). applied_in o nd) e

goal_in_new : (g : Goal) (o : Option Plan) (nd : Node) → applied_in o nd ≡ true → (q : Plan) × (o ≡ Some q) × (goal_in g o nd ≡ q.asks)
goal_in_new g None nd e = absurd (false≢true e)
goal_in_new g (Some p) nd e = (p, refl, cond-true (applied_at p nd) p.asks g e)

pub goal_new : (p : Path) (nd : Node) → has_applied p nd ≡ true → (q : Plan) × (p.plan ≡ Some q) × (goal_at p nd ≡ q.asks)
goal_new p nd e = goal_in_new p.goal p.plan nd e

pub reserves_at : (p : Path) (nd : Node) (u : LocalId) → goal_at p nd ≡ ToRelay u → Reserves p u
reserves_at p nd u is = elim (cases_Bool (has_applied p nd)) [
  | inl e ↦ let g = goal_new p nd e in inr (g.0, g.1, sym g.2 ∙ is)
  | inr e ↦ inl (sym (goal_old p nd e) ∙ is)
]

pub epoch_old : (p : Path) (nd : Node) → has_applied p nd ≡ false → epoch_at p nd ≡ p.epoch
epoch_old p nd e = cond-false (has_applied p nd) (p.epoch + 1) p.epoch e

pub epoch_new : (p : Path) (nd : Node) → has_applied p nd ≡ true → epoch_at p nd ≡ p.epoch + 1
epoch_new p nd e = cond-true (has_applied p nd) (p.epoch + 1) p.epoch e

-- no node goes back, and one that stays in its epoch keeps its goal
abbrev pub Rises : Path → Path → Type 0
Rises p p' = (nd : Node) → (epoch_at p nd ≤ epoch_at p' nd) × (epoch_at p' nd ≡ epoch_at p nd → goal_at p' nd ≡ goal_at p nd)

pub rises_same : (p : Path) → Rises p p
rises_same p nd = (omega arith, λ e. refl)

-- the open plan changes, and takes no mark back
module _ (p : Path) (m : Plan) (kept : (nd : Node) → has_applied p nd ≡ true → (applied_at m nd ≡ true) × (goal_at p nd ≡ m.asks)) where
  abbrev with : Path
  with = record p { plan = Some m }

  pub not_back : (nd : Node) → applied_at m nd ≡ false → has_applied p nd ≡ false
  not_back nd e = elim (cases_Bool (has_applied p nd)) [
    | inl a ↦ absurd (false≢true (sym e ∙ (kept nd a).0))
    | inr a ↦ a
  ]

  pub rises_with : Rises p with
  rises_with nd = elim (cases_Bool (applied_at m nd)) [
    | inl a ↦ elim (cases_Bool (has_applied p nd)) [
      | inl b ↦ (omega (arith, epoch_new p nd b, epoch_new with nd a), λ e. cond-true (applied_at m nd) m.asks p.goal a ∙ sym (kept nd b).1)
      | inr b ↦ (omega (arith, epoch_old p nd b, epoch_new with nd a), λ e. absurd (omega (arith, e, epoch_old p nd b, epoch_new with nd a)))
    ]
    | inr a ↦ let b = not_back nd a in (omega (arith, epoch_old p nd b, epoch_old with nd a), λ e. goal_old with nd a ∙ sym (goal_old p nd b))
  ]

-- a node that stands in an epoch in which something was given has not applied
pub not_ahead : (p : Path) (nd : Node) (e : ℕ) → e ≤ p.epoch → epoch_at p nd ≡ e → (has_applied p nd ≡ false) × (e ≡ p.epoch)
not_ahead p nd e le is = elim (cases_Bool (has_applied p nd)) [
  | inl a ↦ absurd (omega (arith, epoch_new p nd a))
  | inr a ↦ (a, sym is ∙ epoch_old p nd a)
]

-- a node that has the old id has not applied
pub not_applied : (p : Path) (nd : Node) (u : LocalId) → (p.goal ≡ ToRelay u → AsksFor p u → ⊥) → p.goal ≡ ToRelay u → goal_at p nd ≡ ToRelay u → has_applied p nd ≡ false
not_applied p nd u fresh old is = elim (cases_Bool (has_applied p nd)) [
  | inl a ↦ let g = goal_new p nd a in absurd (fresh old (g.0, g.1, sym g.2 ∙ is))
  | inr a ↦ a
]
