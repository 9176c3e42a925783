-- Sets of numbers in order.
use Rattle.std.proofs.Common.{◌≡◌, ◌≢◌, ◌⊎◌, ◌↔◌, inl, inr, ℕ, zero, suc, ◌<◌, ◌≤◌, Bool, true, false, List, ◌∷◌, refl, sym, ◌∙◌, subst, arith}
use Rattle.std.specs.List.{Contains}
use Rattle.std.specs.BTreeSet.{BTreeSet, contains, Updates}
use Rattle.std.specs.List.Sorted.{IsStrictlyIncreasing}
use Rattle.std.specs.Ordering.{nat_cmp, eq_by_cmp}
use Rattle.std.specs.Bool.{IsTrue, MatchBool}
use Rattle.std.proofs.lemmas.List.Kept.{AllPairs-from_increasing}
use Rattle.std.specs.Cmp.{nat_cmp_total}
use Rattle.std.proofs.lemmas.Bool.{both_ways, cases_eq, false_from_ne_true}
use Rattle.std.proofs.lemmas.Map.Lookups.{exact_unsigned}
use Rattle.std.proofs.lemmas.Map.Views.{btree_set_contains_iff, tells_apart}
use Rattle.rlc_law.proofs.Unique.{rising_one}
use Rattle.rlc_am_rx.specs.Polling.{AddsIf, Drops, DropsOne, HasBelow}

-- the first number, and those behind it
pub contains_head : (x : ℕ) (xs : List ℕ) → Contains (x ∷ xs) x
contains_head x xs = (0, omega arith, refl)

pub contains_tail : (x k : ℕ) (xs : List ℕ) → Contains xs k → Contains (x ∷ xs) k
contains_tail x k xs h = (suc h.0, omega (arith, h.1), h.2)

pub contains_split : (x k : ℕ) (xs : List ℕ) → Contains (x ∷ xs) k → (x ≡ k) ⊎ Contains xs k
contains_split x k xs (zero, lt, is) = inl is
contains_split x k xs (suc i, lt, is) = inr (i, omega (arith, lt), is)

-- what a set has once a number is added or taken away
module _ (s n : BTreeSet ℕ) (number : ℕ) (b : Bool) (u : Updates nat_cmp s n number b) where
  has : (m : BTreeSet ℕ) (k : ℕ) → IsTrue (contains nat_cmp m k) ↔ Contains m.keys k
  has m k = btree_set_contains_iff nat_cmp_total exact_unsigned m k

  same : (k : ℕ) → k ≢ number → contains nat_cmp n k ≡ contains nat_cmp s k
  same k other = u.2 k (false_from_ne_true (eq_by_cmp nat_cmp number k) (λ at. other (sym (tells_apart exact_unsigned number k at))))

  pub stays : (k : ℕ) → k ≢ number → Contains n.keys k ↔ Contains s.keys k
  stays k other = (λ h. (has s k).0 (sym (same k other) ∙ (has n k).1 h), λ h. (has n k).0 (same k other ∙ (has s k).1 h))

  pub added : b ≡ true → Contains n.keys number
  added is = (has n number).0 (u.1 ∙ is)

  pub gone : b ≡ false → Contains n.keys number → ⊥
  gone is h = both_ways b is (sym u.1 ∙ (has n number).1 h)

-- a number that is new isn't there before
pub absent : (s : BTreeSet ℕ) (number : ℕ) → contains nat_cmp s number ≡ false → Contains s.keys number → ⊥
absent s number is h = both_ways (contains nat_cmp s number) is ((btree_set_contains_iff nat_cmp_total exact_unsigned s number).1 h)

pub adds : (s n : BTreeSet ℕ) (number : ℕ) (poll : Bool) → poll ≡ true → Updates nat_cmp s n number true → AddsIf s.keys poll number n.keys
adds s n number poll polled u k = elim (cases_eq k number) [
  | inl here ↦ (λ h. inr (polled, here), λ h. subst (Contains n.keys) (sym here) (added s n number true u refl))
  | inr other ↦ (
    λ h. inl ((stays s n number true u k other).0 h),
    λ h. elim h [ inl old ↦ (stays s n number true u k other).1 old | inr this ↦ absurd (other this.1) ],
  )
]

pub drops_one : (s n : BTreeSet ℕ) (number : ℕ) → Updates nat_cmp s n number false → DropsOne s.keys number n.keys
drops_one s n number u k = elim (cases_eq k number) [
  | inl here ↦ (λ h. absurd (gone s n number false u refl (subst (Contains n.keys) here h)), λ h. absurd (h.1 here))
  | inr other ↦ (λ h. ((stays s n number false u k other).0 h, other), λ h. (stays s n number false u k other).1 h.0)
]

-- a new number that is taken back leaves the numbers as before
pub taken_back : (old added new : List ℕ) (poll fresh : Bool) (number : ℕ) → IsStrictlyIncreasing old → IsStrictlyIncreasing new
    → AddsIf old poll number added → MatchBool fresh (Contains old number → ⊥) (added ≡ old)
    → MatchBool fresh (DropsOne added number new) (new ≡ added) → new ≡ old
taken_back old added new poll false number rises rises_new adds same back = back ∙ same
taken_back old added new poll true number rises rises_new adds fresh back = rising_one new old rises_new rises to from
  where
    to : (k : ℕ) → Contains new k → Contains old k
    to k h = let was = (back k).0 h in elim ((adds k).0 was.0) [ inl had ↦ had | inr this ↦ absurd (was.1 this.1) ]

    from : (k : ℕ) → Contains old k → Contains new k
    from k h = (back k).1 ((adds k).1 (inl h), λ is. fresh (subst (Contains old) is h))

-- of numbers that rise none is below the first
pub none_below : (x until : ℕ) (xs : List ℕ) → IsStrictlyIncreasing (x ∷ xs) → until ≤ x → HasBelow (x ∷ xs) until → ⊥
none_below x until xs rises le (k, (zero, lt, is), below) = omega (arith, is)
none_below x until xs rises le (k, (suc i, lt, is), below) = omega
    (arith, is, AllPairs-from_increasing (x ∷ xs) rises 0 (suc i) k (omega arith) lt)

-- dropping the first, which is below a number, and then the others below it
pub pops_drops : (first until : ℕ) (xs new : List ℕ) → first < until → Drops xs until new → Drops (first ∷ xs) until new
pops_drops first until xs new low drops k = (to, from)
  where
    to : Contains new k → Contains (first ∷ xs) k × (k < until → ⊥)
    to h = let d = (drops k).0 h in (contains_tail first k xs d.0, d.1)

    from : Contains (first ∷ xs) k × (k < until → ⊥) → Contains new k
    from h = elim (contains_split first k xs h.0) [ inl same ↦ absurd (h.1 (omega (arith, same))) | inr old ↦ (drops k).1 (old, h.1) ]

-- nothing is dropped where none is below
pub nothing_drops : (until : ℕ) (xs : List ℕ) → (HasBelow xs until → ⊥) → Drops xs until xs
nothing_drops until xs none k = (λ h. (h, λ lt. none (k, h, lt)), λ h. h.0)
