-- Lists: what is found in them, what holds of each of their items, and both of a list of which items were replaced.
use Rattle.std.proofs.Common.{◌≡◌, ◌⊎◌, inl, inr, Bool, true, false, cond, List, [], ◌∷◌, ◌++◌, map, filter, flat_map, find, Option, Some, None, option_map, refl, sym, ◌∙◌, ap, subst}
use Rattle.std.specs.List.{AllByRecursion}
use Rattle.std.proofs.lemmas.Bool.{cases_Bool, cond-true, cond-false, true≢false}
use Rattle.std.proofs.lemmas.Option.{same_Some, none-some}
use Rattle.node_model.specs.Names.{replaced}

-- what is found passes the test
pub find_passes : {T : Type 0} (test : T → Bool) (xs : List T) (y : T) → find test xs ≡ Some y → test y ≡ true
find_passes test [] y e = absurd (none-some y e)
find_passes test (x ∷ xs) y e = elim (cases_Bool (test x)) [
  | inl p ↦ ap test (sym (same_Some x y (sym (cond-true (test x) (Some x) (find test xs) p) ∙ e))) ∙ p
  | inr n ↦ find_passes test xs y (sym (cond-false (test x) (Some x) (find test xs) n) ∙ e)
]

-- a list with one item replaced: a test that the replaced items pass finds the new item; one that neither they nor it pass finds what it found
module _ {T : Type 0} (test mine : T → Bool) (item : T) where
  pub find_hit : ((x : T) → test x ≡ mine x) → test item ≡ true → (xs : List T) (y : T) → find test xs ≡ Some y → find test (replaced mine item xs) ≡ Some item
  find_hit same is [] y e = absurd (none-some y e)
  find_hit same is (x ∷ xs) y e = elim (cases_Bool (mine x)) [
    | inl m ↦ ap (λ (z : T). cond (test z) (Some z) (find test (replaced mine item xs))) (cond-true (mine x) item x m)
        ∙ cond-true (test item) (Some item) (find test (replaced mine item xs)) is
    | inr n ↦ ap (λ (z : T). cond (test z) (Some z) (find test (replaced mine item xs))) (cond-false (mine x) item x n)
        ∙ cond-false (test x) (Some x) (find test (replaced mine item xs)) (same x ∙ n)
        ∙ find_hit same is xs y (sym (cond-false (test x) (Some x) (find test xs) (same x ∙ n)) ∙ e)
  ]

  pub find_miss : ((x : T) → mine x ≡ true → test x ≡ false) → test item ≡ false → (xs : List T) → find test (replaced mine item xs) ≡ find test xs
  find_miss apart is [] = refl
  find_miss apart is (x ∷ xs) = elim (cases_Bool (mine x)) [
    | inl m ↦ ap (λ (z : T). cond (test z) (Some z) (find test (replaced mine item xs))) (cond-true (mine x) item x m)
        ∙ cond-false (test item) (Some item) (find test (replaced mine item xs)) is
        ∙ find_miss apart is xs ∙ sym (cond-false (test x) (Some x) (find test xs) (apart x m))
    | inr n ↦ ap (λ (z : T). cond (test z) (Some z) (find test (replaced mine item xs))) (cond-false (mine x) item x n)
        ∙ ap (λ (o : Option T). cond (test x) (Some x) o) (find_miss apart is xs)
  ]

-- none is found in a list with items replaced where none was found
pub find_none : {T : Type 0} (test : T → Bool) (item : T) (xs : List T) → find test xs ≡ None → replaced test item xs ≡ xs
find_none test item [] e = refl
find_none test item (x ∷ xs) e = elim (cases_Bool (test x)) [
  | inl p ↦ absurd (none-some x (sym e ∙ cond-true (test x) (Some x) (find test xs) p))
  | inr n ↦ ap (λ (z : _). z ∷ replaced test item xs) (cond-false (test x) item x n)
      ∙ ap (λ ys. x ∷ ys) (find_none test item xs (sym (cond-false (test x) (Some x) (find test xs) n) ∙ e))
]

-- what is found of two lists is found in one of them
pub find_append : {T : Type 0} (test : T → Bool) (xs ys : List T) (y : T) → find test (xs ++ ys) ≡ Some y → (find test xs ≡ Some y) ⊎ (find test ys ≡ Some y)
find_append test [] ys y e = inr e
find_append test (x ∷ xs) ys y e = elim (cases_Bool (test x)) [
  | inl p ↦ inl (cond-true (test x) (Some x) (find test xs) p ∙ sym (cond-true (test x) (Some x) (find test (xs ++ ys)) p) ∙ e)
  | inr n ↦ elim (find_append test xs ys y (sym (cond-false (test x) (Some x) (find test (xs ++ ys)) n) ∙ e)) [
    | inl here ↦ inl (cond-false (test x) (Some x) (find test xs) n ∙ here)
    | inr there ↦ inr there
  ]
]

-- what is found of many lists is found in one of them
pub find_flat : {X T : Type 0} (test : T → Bool) (f : X → List T) (xs : List X) (y : T) → find test (flat_map f xs) ≡ Some y → (x : X) × (find test (f x) ≡ Some y)
find_flat test f [] y e = absurd (none-some y e)
find_flat test f (x ∷ xs) y e = elim (find_append test (f x) (flat_map f xs) y e) [
  | inl here ↦ (x, here)
  | inr there ↦ find_flat test f xs y there
]

-- of items that were made of others, what is found is made of the first one that gives an item which passes
pub find_map : {X T : Type 0} (make : X → T) (test : T → Bool) (xs : List X) → find test (map make xs) ≡ option_map make (find (λ x. test (make x)) xs)
find_map make test [] = refl
find_map make test (x ∷ xs) = elim (cases_Bool (test (make x))) [
  | inl p ↦ cond-true (test (make x)) (Some (make x)) (find test (map make xs)) p ∙ ap (option_map make) (sym (cond-true (test (make x)) (Some x) (find (λ y. test (make y)) xs) p))
  | inr n ↦ cond-false (test (make x)) (Some (make x)) (find test (map make xs)) n ∙ find_map make test xs
      ∙ ap (option_map make) (sym (cond-false (test (make x)) (Some x) (find (λ y. test (make y)) xs) n))
]

-- what is found of items that were picked, where all that pass or none were, is what is found of all
pub find_picked : {T : Type 0} (picks test : T → Bool) → ((a b : T) → test a ≡ true → test b ≡ true → picks a ≡ picks b) → (xs : List T) (y : T)
    → find test (filter picks xs) ≡ Some y → (find test xs ≡ Some y) × (picks y ≡ true)
find_picked picks test one [] y e = absurd (none-some y e)
find_picked {T} picks test one (x ∷ xs) y e = elim (cases_Bool (picks x)) [
  | inl picked ↦
      let here : find test (x ∷ filter picks xs) ≡ Some y = sym (ap (find test) (cond-true (picks x) (x ∷ filter picks xs) (filter picks xs) picked)) ∙ e in
      elim (cases_Bool (test x)) [
        | inl p ↦
            let same : x ≡ y = same_Some x y (sym (cond-true (test x) (Some x) (find test (filter picks xs)) p) ∙ here) in
            (cond-true (test x) (Some x) (find test xs) p ∙ ap (λ (x : T). Some x) same, ap picks (sym same) ∙ picked)
        | inr n ↦ let rest = find_picked picks test one xs y (sym (cond-false (test x) (Some x) (find test (filter picks xs)) n) ∙ here) in
            (cond-false (test x) (Some x) (find test xs) n ∙ rest.0, rest.1)
      ]
  | inr left ↦
      let rest = find_picked picks test one xs y (sym (ap (find test) (cond-false (picks x) (x ∷ filter picks xs) (filter picks xs) left)) ∙ e) in
      elim (cases_Bool (test x)) [
        | inl p ↦ absurd (true≢false (sym rest.1 ∙ one y x (find_passes test xs y rest.0) p ∙ left))
        | inr n ↦ (cond-false (test x) (Some x) (find test xs) n ∙ rest.0, rest.1)
      ]
]

module _ {T : Type 0} (P : T → Type 0) where
  -- what is found has what each has
  pub each_found : (test : T → Bool) (xs : List T) (y : T) → AllByRecursion P xs → find test xs ≡ Some y → P y
  each_found test [] y all e = absurd (none-some y e)
  each_found test (x ∷ xs) y all e = elim (cases_Bool (test x)) [
    | inl p ↦ subst P (same_Some x y (sym (cond-true (test x) (Some x) (find test xs) p) ∙ e)) all.0
    | inr n ↦ each_found test xs y all.1 (sym (cond-false (test x) (Some x) (find test xs) n) ∙ e)
  ]

  -- each of two lists has what each of both has
  pub each_append : (xs ys : List T) → AllByRecursion P xs → AllByRecursion P ys → AllByRecursion P (xs ++ ys)
  each_append [] ys all more = more
  each_append (x ∷ xs) ys all more = (all.0, each_append xs ys all.1 more)

  pub each_left : (xs ys : List T) → AllByRecursion P (xs ++ ys) → AllByRecursion P xs
  each_left [] ys all = tt
  each_left (x ∷ xs) ys all = (all.0, each_left xs ys all.1)

  pub each_right : (xs ys : List T) → AllByRecursion P (xs ++ ys) → AllByRecursion P ys
  each_right [] ys all = all
  each_right (x ∷ xs) ys all = each_right xs ys all.1

  pub each_replaced : (test : T → Bool) (item : T) → P item → (xs : List T) → AllByRecursion P xs → AllByRecursion P (replaced test item xs)
  each_replaced test item is [] all = tt
  each_replaced test item is (x ∷ xs) all = (by (test x), each_replaced test item is xs all.1)
    where
      by : (b : Bool) → P (cond b item x)
      by true = is
      by false = all.0

  -- each item of a list that was made of another has it, where what an item is made of gives it
  pub each_map : {X : Type 0} (Q : X → Type 0) (make : X → T) → ((x : X) → Q x → P (make x)) → (xs : List X) → AllByRecursion Q xs → AllByRecursion P (map make xs)
  each_map Q make gives [] all = tt
  each_map Q make gives (x ∷ xs) all = (gives x all.0, each_map Q make gives xs all.1)

  pub each_made : {X : Type 0} (make : X → T) → ((x : X) → P (make x)) → (xs : List X) → AllByRecursion P (map make xs)
  each_made make gives [] = tt
  each_made make gives (x ∷ xs) = (gives x, each_made make gives xs)

  pub each_flat : {X : Type 0} (make : X → List T) → ((x : X) → AllByRecursion P (make x)) → (xs : List X) → AllByRecursion P (flat_map make xs)
  each_flat make gives [] = tt
  each_flat make gives (x ∷ xs) = each_append (make x) (flat_map make xs) (gives x) (each_flat make gives xs)

-- tests that agree find the same
pub find_same : {T : Type 0} (test other : T → Bool) → ((x : T) → test x ≡ other x) → (xs : List T) → find test xs ≡ find other xs
find_same test other same [] = refl
find_same test other same (x ∷ xs) = ap (λ (b : Bool). cond b (Some x) (find test xs)) (same x) ∙ ap (cond (other x) (Some x)) (find_same test other same xs)

-- what is found of items that were changed, but for what the test sees, is what was found, changed
pub find_maps : {T : Type 0} (test : T → Bool) (change : T → T) → ((x : T) → test (change x) ≡ test x) → (xs : List T) (x : T) → find test xs ≡ Some x → find test (map change xs) ≡ Some (change x)
find_maps test change same xs x e = find_map change test xs ∙ ap (option_map change) (find_same (λ y. test (change y)) test same xs ∙ e)
