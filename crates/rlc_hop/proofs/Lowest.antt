-- How many items a list has, and its longest front in which each place is None.
use Rattle.std.proofs.Common.{◌≡◌, ℕ, zero, suc, ◌+◌, ◌-◌, ◌<◌, ◌≤◌, ◌⊎◌, inl, inr, cond, true, false, List, [], ◌∷◌, ◌++◌, length, get_or, Option, Some, None, is_some, count_by, refl, sym, ◌∙◌, ap, subst, arith}
use Rattle.std.specs.List.{prefix_len}
use Rattle.std.specs.Option.{is_none}
use Rattle.std.proofs.Math.Dec.{eqb-suc-zero}
use Rattle.std.proofs.Math.ListN.{set}
use Rattle.std.proofs.lemmas.List.Sums.{sum_by_push, prefix_len-le-length, prefix_len_passes, prefix_len_stops}
use Rattle.std.proofs.lemmas.Bool.{cases_lt}
use Rattle.rlc_model.specs.declared.hop.Pdu.{Pdu}
use Rattle.rlc_model.specs.Hop.{on_air, IsLowest}

-- how many items are there with one more
pub count_push : {X : Type 0} (l : List (Option X)) (x : X) → count_by is_some (l ++ Some x ∷ []) ≡ count_by is_some l + 1
count_push l x = sum_by_push (λ o. cond (is_some o) 1 0) l (Some x)

-- one more item doesn't change the front
pub front_push : {X : Type 0} (l : List (Option X)) (x : X) → prefix_len is_none (l ++ Some x ∷ []) ≡ prefix_len is_none l
front_push [] x = refl
front_push (None ∷ l) x = ap (λ n. 1 + n) (front_push l x)
front_push (Some y ∷ l) x = refl

-- an item that goes doesn't make the front shorter
pub front_off : {X : Type 0} (l : List (Option X)) (i : ℕ) → prefix_len is_none l ≤ prefix_len is_none (set l i None)
front_off [] i = omega arith
front_off (Some y ∷ l) i = omega arith
front_off (None ∷ l) zero = omega arith
front_off (None ∷ l) (suc i) = omega (arith, front_off l i)

-- a loop that goes along the front, and its end
pub front_more : {X : Type 0} (l : List (Option X)) (i : ℕ) (d : Option X) → i ≤ prefix_len is_none l → i < length l → is_none (get_or l i d) ≡ true → i + 1 ≤ prefix_len is_none l
front_more l i d within inside none = elim (cases_lt i (prefix_len is_none l)) [
  | inl below ↦ omega arith
  | inr over ↦
      let stops : is_none (get_or l (prefix_len is_none l) d) ≡ false = prefix_len_stops is_none l d (omega arith) in
      let same : i ≡ prefix_len is_none l = omega arith in
      cc
]

pub front_end : {X : Type 0} (l : List (Option X)) (i : ℕ) (d : Option X) → i ≤ prefix_len is_none l → (length l ≤ i) ⊎ (is_none (get_or l i d) ≡ false) → i ≡ prefix_len is_none l
front_end l i d within (inl over) = omega (arith, prefix_len-le-length is_none l)
front_end l i d within (inr some) = elim (cases_lt i (prefix_len is_none l)) [
  | inl below ↦ let passes : is_none (get_or l i d) ≡ true = prefix_len_passes is_none l i d below in cc
  | inr over ↦ omega arith
]

-- where there is an item, the front ends before the list does
pub front_stops : {X : Type 0} (l : List (Option X)) → 0 < count_by is_some l → prefix_len is_none l < length l
front_stops [] some = absurd (omega arith)
front_stops (Some y ∷ l) some = omega arith
front_stops (None ∷ l) some = let h = front_stops l some in omega arith

none_is : {X : Type 0} (o : Option X) → is_none o ≡ true → o ≡ None
none_is None none = refl
none_is (Some x) none = cc

on_air_at : (air : List (Option Pdu)) (n : ℕ) → on_air air (suc n) ≡ get_or air n None
on_air_at air n = let e : suc n - 1 ≡ n = omega arith in rw (eqb-suc-zero n, e) refl

below_lowest : (air : List (Option Pdu)) (lower : ℕ) → lower < suc (prefix_len is_none air) → on_air air lower ≡ None
below_lowest air zero under = refl
below_lowest air (suc n) under = on_air_at air n ∙ none_is (get_or air n None) (prefix_len_passes is_none air n None (omega arith))

-- the lowest ticket on the air stands behind the front
pub front_lowest : (air : List (Option Pdu)) → 0 < count_by is_some air → IsLowest air (prefix_len is_none air + 1)
front_lowest air some =
    let e : suc (prefix_len is_none air) ≡ prefix_len is_none air + 1 = omega arith in
    subst (IsLowest air) e (record {
      here = λ gone.
          let stops : is_none (get_or air (prefix_len is_none air) None) ≡ false = prefix_len_stops is_none air None (front_stops air some) in
          let passes : is_none (get_or air (prefix_len is_none air) None) ≡ true = ap is_none (sym (on_air_at air (prefix_len is_none air)) ∙ gone) in
          cc;
      below = below_lowest air;
    })
