-- Ports that are visited in turn, each of which is changed in its place.
use Rattle.std.proofs.Common.{◌≡◌, ◌≢◌, inl, inr, ℕ, ◌+◌, ◌<◌, ◌≤◌, List, length, get_or, set, map, refl, sym, ◌∙◌, ap, arith}
use Rattle.std.proofs.Math.ListN.{get_or-map}
use Rattle.std.proofs.lemmas.Bool.{cases_eq}
use Rattle.std.proofs.lemmas.List.{same_lists, get_or-set_same, get_or-set_other, get_or_default, length-set, length-map}

-- those before the place are changed, and from the place on all are as they were
pub record AreChanged {X : Type 0} (f : X → X) (old new : List X) (place : ℕ) : Type 0 where
  pub long : length new ≡ length old
  pub before : (k : ℕ) (d : X) → k < place → k < length old → get_or new k d ≡ f (get_or old k d)
  pub behind : (k : ℕ) (d : X) → place ≤ k → get_or new k d ≡ get_or old k d

pub none_changed : {X : Type 0} (f : X → X) (old : List X) → AreChanged f old old 0
none_changed f old = record { long = refl; before = λ k d lt within. absurd (omega arith); behind = λ k d le. refl }

pub one_more : {X : Type 0} (f : X → X) (old new : List X) (place : ℕ) (d y : X) → place < length new → y ≡ f (get_or new place d) → AreChanged f old new place
    → AreChanged f old (set new place y) (place + 1)
one_more {X} f old new place d y lt is w = record {
  long = length-set new place y ∙ w.long;
  before = λ k e below within. elim (cases_eq k place) [
    | inl here ↦
        let lt_old : place < length old = omega (arith, lt, w.long) in
        ap (λ (n : ℕ). get_or (set new place y) n e) here ∙ get_or-set_same new place y e lt
        ∙ is ∙ ap f (w.behind place d (omega arith) ∙ get_or_default old place d e lt_old ∙ ap (λ (n : ℕ). get_or old n e) (sym here))
    | inr other ↦ get_or-set_other new place k y e other ∙ w.before k e (let ne : k ≢ place = other in omega arith) within
  ];
  behind = λ k e le. get_or-set_other new place k y e (λ (same : k ≡ place). absurd (omega (arith, same, le))) ∙ w.behind k e (omega arith);
}

pub all_changed : {X : Type 0} (f : X → X) (old new : List X) (place : ℕ) → length new ≤ place → AreChanged f old new place → new ≡ map f old
all_changed {X} f old new place le w = same_lists new (map f old) (w.long ∙ sym (length-map old f)) (λ k d lt.
    let within : k < length old = omega (arith, lt, w.long) in
    w.before k d (omega arith) within ∙ (sym (get_or-map f old k d) ∙ get_or_default (map f old) k (f d) d (omega (arith, within, length-map old f))))
