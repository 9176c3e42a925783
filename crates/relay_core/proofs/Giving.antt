-- Items that are visited in turn, each of which takes what is given at its place.
use Rattle.std.proofs.Common.{◌≡◌, ◌≢◌, inl, inr, ℕ, zero, suc, ◌+◌, ◌<◌, ◌≤◌, List, [], ◌∷◌, length, get_or, set, refl, sym, ◌∙◌, ap, arith}
use Rattle.std.proofs.lemmas.Bool.{cases_eq}
use Rattle.std.proofs.lemmas.List.{same_lists, get_or-set_same, get_or-set_other, get_or_default, length-set}
use Rattle.relay_core.specs.Switching.{each_given}

-- those before the place have taken theirs, and from the place on all are as they were
pub record AreGiven {X Y : Type 0} (give : Y → X → X) (old new : List X) (given left : List Y) (place : ℕ) : Type 0 where
  pub long : length new ≡ length old
  pub also : length left ≡ length given
  pub before : (k : ℕ) (d : X) (e : Y) → k < place → k < length old → k < length given → get_or new k d ≡ give (get_or given k e) (get_or old k d)
  pub behind : (k : ℕ) (d : X) → place ≤ k → get_or new k d ≡ get_or old k d
  pub untaken : (k : ℕ) (e : Y) → place ≤ k → get_or left k e ≡ get_or given k e

pub none_given : {X Y : Type 0} (give : Y → X → X) (old : List X) (given : List Y) → AreGiven give old old given given 0
none_given give old given = record {
  long = refl;
  also = refl;
  before = λ k d e lt within there. absurd (omega arith);
  behind = λ k d le. refl;
  untaken = λ k e le. refl;
}

pub one_more : {X Y : Type 0} (give : Y → X → X) (old new : List X) (given left : List Y) (place : ℕ) (d y : X) (e z : Y) → place < length new → place < length left
    → y ≡ give (get_or left place e) (get_or new place d) → AreGiven give old new given left place → AreGiven give old (set new place y) given (set left place z) (place + 1)
one_more {X} {Y} give old new given left place d y e z lt also is w = record {
  long = length-set new place y ∙ w.long;
  also = length-set left place z ∙ w.also;
  before = λ k f g below within there. elim (cases_eq k place) [
    | inl here ↦
        let there_too : place < length given = omega (arith, also, w.also) in
        let within_too : place < length old = omega (arith, lt, w.long) in
        let taken : get_or left place e ≡ get_or given k g = w.untaken place e (omega arith) ∙ get_or_default given place e g there_too ∙ ap (λ (n : ℕ). get_or given n g) (sym here) in
        let was : get_or new place d ≡ get_or old k f = w.behind place d (omega arith) ∙ get_or_default old place d f within_too ∙ ap (λ (n : ℕ). get_or old n f) (sym here) in
        ap (λ (n : ℕ). get_or (set new place y) n f) here ∙ get_or-set_same new place y f lt ∙ is
        ∙ ap (λ (o : Y). give o (get_or new place d)) taken ∙ ap (give (get_or given k g)) was
    | inr other ↦ get_or-set_other new place k y f other ∙ w.before k f g (let ne : k ≢ place = other in omega arith) within there
  ];
  behind = λ k f le. get_or-set_other new place k y f (λ (same : k ≡ place). absurd (omega (arith, same, le))) ∙ w.behind k f (omega arith);
  untaken = λ k g le. get_or-set_other left place k z g (λ (same : k ≡ place). absurd (omega (arith, same, le))) ∙ w.untaken k g (omega arith);
}

module _ {X Y : Type 0} (give : Y → X → X) where
  length_given : (ys : List Y) (xs : List X) → length (each_given give ys xs) ≡ length xs
  length_given [] xs = refl
  length_given (y ∷ ys) [] = refl
  length_given (y ∷ ys) (x ∷ xs) = ap suc (length_given ys xs)

  at_given : (ys : List Y) (xs : List X) (k : ℕ) (e : Y) (d : X) → k < length ys → k < length xs → get_or (each_given give ys xs) k d ≡ give (get_or ys k e) (get_or xs k d)
  at_given [] xs k e d lt within = absurd (omega (arith, lt))
  at_given (y ∷ ys) [] k e d lt within = absurd (omega (arith, within))
  at_given (y ∷ ys) (x ∷ xs) zero e d lt within = refl
  at_given (y ∷ ys) (x ∷ xs) (suc k) e d lt within = at_given ys xs k e d (omega (arith, lt)) (omega (arith, within))

  pub all_given : (old new : List X) (given left : List Y) (place : ℕ) (e : Y) → length new ≤ place → length given ≡ length old → AreGiven give old new given left place
      → new ≡ each_given give given old
  all_given old new given left place e le same w = same_lists new (each_given give given old) (w.long ∙ sym (length_given given old)) (λ k d lt.
      let within : k < length old = omega (arith, lt, w.long) in
      let there : k < length given = omega (arith, within, same) in
      w.before k d e (omega arith) within there ∙ sym (at_given given old k e d there within))
