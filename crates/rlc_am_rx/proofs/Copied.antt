-- Bytes copied over a part of a list.
use Rattle.std.proofs.Common.{◌≡◌, inl, inr, ℕ, ◌+◌, ◌-◌, ◌<◌, ◌≤◌, Bool, List, ◌++◌, length, take, drop, get_or, ◌∙◌, ap, arith}
use Rattle.std.proofs.Math.ListN.{get_or-append}
use Rattle.std.proofs.lemmas.Bool.{both_ways, cases_lt}
use Rattle.std.proofs.lemmas.List.{get_or-append_right, get_or-take, get_or-drop, length-append, length-take-le, length-drop}
use Rattle.byte_spans.specs.Spans.{has, Has, Lacks, IsFirstGap}

-- ys in the place of the k bytes from the a-th on
abbrev pub copied : ℕ → ℕ → List ℕ → List ℕ → List ℕ
copied a k xs ys = take a xs ++ (ys ++ drop k (drop a xs))

module _ (a k : ℕ) (xs ys : List ℕ) (inside : a + k ≤ length xs) (long : length ys ≡ k) where
  front : length (take a xs) ≡ a
  front = length-take-le a xs (omega (arith, inside))

  before : (p : ℕ) → p < a → get_or (copied a k xs ys) p 0 ≡ get_or xs p 0
  before p lt = get_or-append (take a xs) (ys ++ drop k (drop a xs)) 0 p (omega (arith, lt, front)) ∙ get_or-take a xs p 0 lt

  within : (p : ℕ) → a ≤ p → p < a + k → get_or (copied a k xs ys) p 0 ≡ get_or ys (p - a) 0
  within p ge lt = get_or-append_right (take a xs) (ys ++ drop k (drop a xs)) a p 0 front ge
      ∙ get_or-append ys (drop k (drop a xs)) 0 (p - a) (omega (arith, ge, lt, long))

  behind : (p : ℕ) → a + k ≤ p → get_or (copied a k xs ys) p 0 ≡ get_or xs p 0
  behind p ge = get_or-append_right (take a xs) (ys ++ drop k (drop a xs)) a p 0 front (omega (arith, ge))
      ∙ get_or-append_right ys (drop k (drop a xs)) k (p - a) 0 long (omega (arith, ge))
      ∙ get_or-drop k (drop a xs) (p - a - k) 0 ∙ get_or-drop a xs (k + (p - a - k)) 0
      ∙ ap (λ (q : ℕ). get_or xs q 0) (omega (arith, ge))

  pub copied_long : length (copied a k xs ys) ≡ length xs
  copied_long = omega (
    arith,
    front,
    long,
    inside,
    length-append (take a xs) (ys ++ drop k (drop a xs)),
    length-append ys (drop k (drop a xs)),
    length-drop k (drop a xs),
    length-drop a xs,
  )

-- the part of a body that goes into the first gap
module _ (held : List Bool) (bytes body : List ℕ) (from at until start stop : ℕ) (gap : IsFirstGap held at until start stop)
    (low : from ≤ at) (inside : until ≤ length bytes) (ends : until ≤ from + length body) where
  abbrev pub piece : List ℕ
  piece = take (stop - from - (start - from)) (drop (start - from) body)

  pub piece_long : length piece ≡ stop - start
  piece_long = length-take-le (stop - from - (start - from)) (drop (start - from) body)
      (omega (arith, length-drop (start - from) body, gap.some, gap.after, gap.within, low, ends))
      ∙ omega (arith, gap.some, gap.after, low)

  fits : start + (stop - start) ≤ length bytes
  fits = omega (arith, gap.some, gap.within, inside)

  pub gap_placed : (p : ℕ) → (from ≤ p → p < at → Lacks held p → get_or bytes p 0 ≡ get_or body (p - from) 0)
      → from ≤ p → p < stop → Lacks held p → get_or (copied start (stop - start) bytes piece) p 0 ≡ get_or body (p - from) 0
  gap_placed p was ge lt lacks = elim (cases_lt p start) [
    | inl low_p ↦ elim (cases_lt p at) [
      | inl done ↦ before start (stop - start) bytes piece fits piece_long p low_p ∙ was ge done lacks
      | inr on ↦ absurd (both_ways (has held p) lacks (gap.before p on low_p))
    ]
    | inr in_gap ↦ within start (stop - start) bytes piece fits piece_long p in_gap (omega (arith, lt, gap.some))
        ∙ get_or-take (stop - from - (start - from)) (drop (start - from) body) (p - start) 0 (omega (arith, lt, in_gap, gap.after, low))
        ∙ get_or-drop (start - from) body (p - start) 0
        ∙ ap (λ (q : ℕ). get_or body q 0) (omega (arith, in_gap, gap.after, low))
  ]

  pub gap_kept : (p : ℕ) → Has held p → get_or (copied start (stop - start) bytes piece) p 0 ≡ get_or bytes p 0
  gap_kept p is = elim (cases_lt p start) [
    | inl low_p ↦ before start (stop - start) bytes piece fits piece_long p low_p
    | inr ge ↦ elim (cases_lt p stop) [
      | inl in_gap ↦ absurd (both_ways (has held p) (gap.gap p ge in_gap) is)
      | inr past ↦ behind start (stop - start) bytes piece fits piece_long p (omega (arith, past, gap.some))
    ]
  ]

  pub gap_long : length (copied start (stop - start) bytes piece) ≡ length bytes
  gap_long = copied_long start (stop - start) bytes piece fits piece_long
