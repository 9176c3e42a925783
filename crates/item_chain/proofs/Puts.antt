-- Tables with one value changed.
use mathlib.Core.Path.{fun_ext}
use Rattle.std.proofs.Common.{◌≡◌, ◌⊎◌, inl, inr, Bool, true, ◌&&◌, refl, sym, ◌∙◌, subst}
use Rattle.std.proofs.lemmas.Bool.{cases_Bool, and_parts, and_from, cond-true, cond-false}
use Rattle.link_base.specs.declared.names.Side.{Side}
use Rattle.link_base.specs.declared.names.Side.TheVariants.{Low, High}
use Rattle.rlc_law.specs.Ports.{Changes}
use Rattle.node_model.specs.Names.{is_node, is_port}
use Rattle.node_model.proofs.Names.{node_is, node_refl, port_is, port_refl}
use Rattle.item_law.specs.State.{put}
use Rattle.item_law.proofs.base.Puts.{Decides, cases_same, put_same, put_other, put_all}
use Rattle.item_chain.specs.View.{is_side, put_at}
use Rattle.std.proofs.lemmas.Bool.{false≢true}

side_is : (a b : Side) → is_side a b ≡ true → a ≡ b
side_is Low Low e = refl
side_is High High e = refl
side_is Low High e = absurd (false≢true e)
side_is High Low e = absurd (false≢true e)

side_refl : (a : Side) → is_side a a ≡ true
side_refl Low = refl
side_refl High = refl

pub of_side : Decides is_side
of_side = record { same = side_is; self = side_refl }

pub of_node : Decides is_node
of_node = record { same = node_is; self = node_refl }

pub of_port : Decides is_port
of_port = record { same = port_is; self = port_refl }

module _ {R C : Type 0} {is_row : R → R → Bool} {is_column : C → C → Bool} (rows : Decides is_row) (columns : Decides is_column) where
  pub cases_both : (r s : R) (c d : C) → ((s ≡ r) × (d ≡ c)) ⊎ ((s ≡ r) × (d ≡ c) → ⊥)
  cases_both r s c d = elim (cases_same rows s r) [
    | inl e ↦ elim (cases_same columns d c) [
      | inl f ↦ inl (e, f)
      | inr ne ↦ inr (λ p. ne p.1)
    ]
    | inr ne ↦ inr (λ p. ne p.0)
  ]

  module _ {X : Type 0} (f : R → C → X) (r : R) (c : C) (x : X) where
    pub at_here : put_at is_row is_column f r c x r c ≡ x
    at_here = cond-true (is_row r r && is_column c c) x (f r c) (and_from _ _ (rows.self r) (columns.self c))

    pub at_other : (s : R) (d : C) → ((s ≡ r) × (d ≡ c) → ⊥) → put_at is_row is_column f r c x s d ≡ f s d
    at_other s d ne = elim (cases_Bool (is_row s r && is_column d c)) [
      | inl e ↦ let p = and_parts _ _ e in absurd (ne (rows.same s r p.0, columns.same d c p.1))
      | inr e ↦ cond-false (is_row s r && is_column d c) x (f s d) e
    ]

    -- what holds of the new value, and of each other one, holds of all
    pub at_all : (P : R → C → X → Type 0) → P r c x → ((s : R) (d : C) → ((s ≡ r) × (d ≡ c) → ⊥) → P s d (f s d)) → (s : R) (d : C) → P s d (put_at is_row is_column f r c x s d)
    at_all P new old s d = elim (cases_both r s c d) [
      | inl e ↦ subst (λ (s : R). P s d (put_at is_row is_column f r c x s d)) (sym e.0)
          (subst (λ (d : C). P r d (put_at is_row is_column f r c x r d)) (sym e.1) (subst (P r c) (sym at_here) new))
      | inr ne ↦ subst (P s d) (sym (at_other s d ne)) (old s d ne)
    ]

    pub at_changes : Changes f r c x (put_at is_row is_column f r c x)
    at_changes = record { here = at_here; others = at_other }

  -- a value that is put where it stands changes nothing
  pub at_same : {X : Type 0} (f : R → C → X) (r : R) (c : C) (x : X) → f r c ≡ x → (s : R) (d : C) → put_at is_row is_column f r c x s d ≡ f s d
  at_same f r c x is = at_all f r c x (λ s d y. y ≡ f s d) (sym is) (λ s d ne. refl)

-- a value that is put twice, and one that is put where it stands
pub put_twice : {K X : Type 0} {is : K → K → Bool} (test : Decides is) (f : K → X) (k : K) (x y : X) → put is (put is f k x) k y ≡ put is f k y
put_twice {K = K} {is = is} test f k x y = fun_ext (λ l. sym (put_all test (λ l z. z ≡ put is (put is f k x) k y l) f k y (sym (put_same test (put is f k x) k y))
    (λ l ne. sym (put_other test (put is f k x) k y l ne ∙ put_other test f k x l ne)) l))

pub put_own : {K X : Type 0} {is : K → K → Bool} (test : Decides is) (f : K → X) (k : K) (x : X) → f k ≡ x → put is f k x ≡ f
put_own {K = K} {is = is} test f k x e = fun_ext (λ l. put_all test (λ l z. z ≡ f l) f k x (sym e) (λ l ne. refl) l)
