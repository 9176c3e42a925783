-- Lists in strict order that are made of others.
use Rattle.std.proofs.Common.{◌≡◌, ℕ, ◌<◌, Bool, true, List, [], ◌∷◌, ◌++◌, map, inl, inr}
use Rattle.std.specs.List.{AllByRecursion, filter}
use Rattle.std.proofs.lemmas.Bool.{cases_Bool}
use Rattle.bearer_map.specs.Order.{IsAscending}
use Rattle.node_model.specs.Rows.{AreOrdered}

pub all_of : {T : Type 0} (P : T → Type 0) (xs : List T) → ((x : T) → P x) → AllByRecursion P xs
all_of P [] each = tt
all_of P (x ∷ xs) each = (each x, all_of P xs each)

pub all_weaker : {T : Type 0} (P Q : T → Type 0) (xs : List T) → ((x : T) → P x → Q x) → AllByRecursion P xs → AllByRecursion Q xs
all_weaker P Q [] each all = tt
all_weaker P Q (x ∷ xs) each all = (each x all.0, all_weaker P Q xs each all.1)

pub all_append : {T : Type 0} (P : T → Type 0) (xs ys : List T) → AllByRecursion P xs → AllByRecursion P ys → AllByRecursion P (xs ++ ys)
all_append P [] ys left right = right
all_append P (x ∷ xs) ys left right = (left.0, all_append P xs ys left.1 right)

pub all_map : {S T : Type 0} (f : S → T) (P : T → Type 0) (xs : List S) → AllByRecursion (λ x. P (f x)) xs → AllByRecursion P (map f xs)
all_map f P [] all = tt
all_map f P (x ∷ xs) all = (all.0, all_map f P xs all.1)

module _ {T : Type 0} (p : T → Bool) where
  pub all_filter : (P : T → Type 0) (xs : List T) → AllByRecursion P xs → AllByRecursion P (filter p xs)
  all_filter P [] all = tt
  all_filter P (x ∷ xs) all = elim (cases_Bool (p x)) [
    | inl passes ↦ rw passes (all.0, all_filter P xs all.1)
    | inr fails ↦ rw fails (all_filter P xs all.1)
  ]

  pub all_pass : (xs : List T) → AllByRecursion (λ x. p x ≡ true) (filter p xs)
  all_pass [] = tt
  all_pass (x ∷ xs) = elim (cases_Bool (p x)) [
    | inl passes ↦ rw passes (passes, all_pass xs)
    | inr fails ↦ rw fails (all_pass xs)
  ]

  pub filter_ascends : (rank : T → ℕ) (xs : List T) → IsAscending rank xs → IsAscending rank (filter p xs)
  filter_ascends rank [] up = tt
  filter_ascends rank (x ∷ xs) up = elim (cases_Bool (p x)) [
    | inl passes ↦ rw passes (all_filter (λ y. rank x < rank y) xs up.0, filter_ascends rank xs up.1)
    | inr fails ↦ rw fails (filter_ascends rank xs up.1)
  ]

module _ {T : Type 0} (before : T → T → Bool) where
  -- all of the first list stand before all of the second
  pub ordered_append : (P Q : T → Type 0) (xs ys : List T) → ((x y : T) → P x → Q y → before x y ≡ true) → AllByRecursion P xs → AllByRecursion Q ys
      → AreOrdered before xs → AreOrdered before ys → AreOrdered before (xs ++ ys)
  ordered_append P Q [] ys apart left right up up' = up'
  ordered_append P Q (x ∷ xs) ys apart left right up up' =
      (all_append (λ y. before x y ≡ true) xs ys up.0 (all_weaker Q (λ y. before x y ≡ true) ys (λ y is. apart x y left.0 is) right), ordered_append P Q xs ys apart left.1 right up.1 up')

  module _ {S : Type 0} (rank : S → ℕ) (P : S → Type 0) (f : S → T) (rises : (a b : S) → P a → P b → rank a < rank b → before (f a) (f b) ≡ true) where
    above : (x : S) (xs : List S) → P x → AllByRecursion P xs → AllByRecursion (λ y. rank x < rank y) xs → AllByRecursion (λ t. before (f x) t ≡ true) (map f xs)
    above x [] is all up = tt
    above x (y ∷ xs) is all up = (rises x y is all.0 up.0, above x xs is all.1 up.1)

    pub ordered_map : (xs : List S) → AllByRecursion P xs → IsAscending rank xs → AreOrdered before (map f xs)
    ordered_map [] all up = tt
    ordered_map (x ∷ xs) all up = (above x xs all.0 all.1 up.0, ordered_map xs all.1 up.1)
