-- The flags that ranges stand for.
use Rattle.std.proofs.Common.{◌≡◌, ℕ, ◌≤◌, Bool, false, List, length, map, get_or, sym, ◌∙◌, inl, inr, arith}
use Rattle.std.specs.List.{range_with_len}
use Rattle.std.proofs.lemmas.Bool.{cases_lt}
use Rattle.std.proofs.lemmas.List.{get_or_past}
use Rattle.std.proofs.lemmas.List.FromFn.{length-map-range_with_len, get_or-map-range_with_len}
use Rattle.link_base.specs.declared.limits.TheConstants.{LONGEST_RLC_SDU}
use Rattle.byte_spans.specs.declared.ranges.Range.{Range}
use Rattle.byte_spans.specs.Spans.{has}
use Rattle.byte_spans.specs.Ranges.{in_one, AreRanges, flags_of}
use Rattle.byte_spans.proofs.Order.{none_above}

-- there is a flag for each place that there can be
pub number_of_flags : (ranges : List Range) → length (flags_of ranges) ≡ LONGEST_RLC_SDU
unfolding flags_of
number_of_flags ranges = length-map-range_with_len (in_one ranges) 0 LONGEST_RLC_SDU

at_place : (f : ℕ → Bool) (n p : ℕ) → (n ≤ p → f p ≡ false) → get_or (map f (range_with_len 0 n)) p false ≡ f p
at_place f n p past = elim (cases_lt p n) [
  | inl lt ↦ get_or-map-range_with_len f 0 n p p false lt (omega arith)
  | inr le ↦ get_or_past (map f (range_with_len 0 n)) p false (omega (arith, length-map-range_with_len f 0 n)) ∙ sym (past le)
]

-- the flag of a place says whether a range has it
pub has_flags : (ranges : List Range) → AreRanges ranges → (p : ℕ) → has (flags_of ranges) p ≡ in_one ranges p
unfolding flags_of
has_flags ranges apart p = at_place (in_one ranges) LONGEST_RLC_SDU p (none_above 0 LONGEST_RLC_SDU ranges apart p)
