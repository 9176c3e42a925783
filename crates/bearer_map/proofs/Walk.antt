-- A walk over a list that writes f of each element in its place.
use Rattle.std.proofs.Common.{◌≡◌, ℕ, suc, ◌+◌, ◌-◌, ◌<◌, ◌≤◌, List, [], ◌∷◌, ◌++◌, length, get_or, set, take, drop, map, sym, ◌∙◌, ap, add-one, arith, length-drop, drop-cons}
use Rattle.std.proofs.lemmas.List.{take_more_set, map_more, take_all, drop-set-lt}
use Rattle.std.proofs.Math.ListN.{drop_of_length-le}

-- those before the place are written, and from the place on all are as they were
pub record IsWalk {X : Type 0} (f : X → X) (old new : List X) (place : ℕ) : Type 0 where
  pub front : take place new ≡ map f (take place old)
  pub back : drop place new ≡ drop place old

pub walk_goes : {X : Type 0} (f : X → X) (old new : List X) (place : ℕ) (d y : X) → place < length new → y ≡ f (get_or new place d) → IsWalk f old new place → IsWalk f old (set new place y) (place + 1)
walk_goes {X} f old new place d y lt is w =
    let lens : length new - place ≡ length old - place = sym (length-drop place new) ∙ (ap length w.back ∙ length-drop place old) in
    let lt_old : place < length old = omega arith in
    let here : get_or new place d ∷ drop (suc place) new ≡ get_or old place d ∷ drop (suc place) old = sym (drop-cons new place d lt) ∙ (w.back ∙ drop-cons old place d lt_old) in
    let same : get_or new place d ≡ get_or old place d = cc in
    let rest : drop (suc place) new ≡ drop (suc place) old = cc in
    let written : y ≡ f (get_or old place d) = is ∙ ap f same in
    record {
      front = take_more_set new place y lt ∙ (ap (λ (xs : List X). xs ++ y ∷ []) w.front ∙ (ap (λ (x : X). map f (take place old) ++ x ∷ []) written ∙ sym (map_more f old place d lt_old)));
      back = drop-set-lt (place + 1) new place y (omega arith) ∙ (ap (λ (n : ℕ). drop n new) (add-one place) ∙ (rest ∙ ap (λ (n : ℕ). drop n old) (sym (add-one place))));
    }

pub walk_ends : {X : Type 0} (f : X → X) (old new : List X) (place : ℕ) → length new ≤ place → IsWalk f old new place → new ≡ map f old
walk_ends {X} f old new place le w =
    let none : drop place old ≡ [] = sym w.back ∙ drop_of_length-le new le in
    let le_old : length old ≤ place = omega (arith, length-drop place old, ap length none) in
    sym (take_all place new le) ∙ (w.front ∙ ap (λ (xs : List X). map f xs) (take_all place old le_old))
