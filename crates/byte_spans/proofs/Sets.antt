-- What sets are by their ranges.
use Rattle.std.proofs.Common.{◌≡◌, ℕ, ◌+◌, ◌-◌, ◌<◌, ◌≤◌, ◌&&◌, ◌||◌, List, [], ◌∷◌, ◌++◌, length, get_or, drop, leb, ltb, arith, sym, ap, ◌∙◌, subst}
use Rattle.std.proofs.lemmas.Bool.Decides.{nat_tests}
use Rattle.link_base.specs.declared.limits.TheConstants.{LONGEST_RLC_SDU}
use Rattle.byte_spans.specs.declared.ranges.Range.{Range}
use Rattle.byte_spans.specs.Spans.{has, Has, Lacks, IsEmpty, Adds, Removes, HasOnly, IsFirstRun, IsEnd, HasTwoRuns}
use Rattle.byte_spans.specs.Ranges.{in_one, AreRanges, flags_of, number_ended, joined_with, below, above}
use Rattle.byte_spans.proofs.Order.{nowhere, within, none_below}
use Rattle.byte_spans.proofs.Flags.{number_of_flags, has_flags}
use Rattle.byte_spans.proofs.Counting.{counts, none_counted, none_from, apart_from, apart_behind, low_from, in_from, in_range}
use Rattle.byte_spans.proofs.Joining.{in_joined, joined_apart}
use Rattle.byte_spans.proofs.Cutting.{in_cut, cut_apart}

-- no range: the empty set
pub empty_of_none : (xs : List Range) → length xs ≡ 0 → IsEmpty (flags_of xs)
empty_of_none [] none = record { flags = number_of_flags []; none = has_flags [] tt }
empty_of_none (x ∷ xs) none = absurd (omega (arith, none))

-- each range has its first place
pub has_start : (xs : List Range) → AreRanges xs → (k : ℕ) → k < length xs → Has (flags_of xs) (get_or xs k nowhere).start
has_start xs apart k lt =
    let bounds = within 0 LONGEST_RLC_SDU xs apart k nowhere lt in
    has_flags xs apart (get_or xs k nowhere).start ∙ in_range xs k nowhere (get_or xs k nowhere).start lt (omega arith) (omega arith)

-- the place behind the first range is in none
lacks_first_end : (xs : List Range) → AreRanges xs → 0 < length xs → Lacks (flags_of xs) (get_or xs 0 nowhere).end
lacks_first_end xs apart some =
    let place = (get_or xs 0 nowhere).end in
    let from = in_from xs 0 nowhere place some in
    let none = none_below (place + 1) LONGEST_RLC_SDU (drop 1 xs) (apart_behind 0 LONGEST_RLC_SDU xs apart 0 nowhere some) place (omega arith) in
    has_flags xs apart place ∙ grind (arith, nat_tests)

-- the first range is the first run
pub first_run : (xs : List Range) → AreRanges xs → 0 < length xs → IsFirstRun (flags_of xs) (get_or xs 0 nowhere).start (get_or xs 0 nowhere).end
first_run xs apart some = record {
  some = (within 0 LONGEST_RLC_SDU xs apart 0 nowhere some).1;
  before = λ place before. has_flags xs apart place ∙ none_below (get_or xs 0 nowhere).start LONGEST_RLC_SDU xs (apart_from 0 LONGEST_RLC_SDU xs apart 0 nowhere some) place before;
  run = λ place after before. has_flags xs apart place ∙ in_range xs 0 nowhere place some after before;
  stops = lacks_first_end xs apart some;
}

-- two ranges are two runs
pub two_runs : (xs : List Range) → AreRanges xs → 1 < length xs → HasTwoRuns (flags_of xs)
two_runs xs apart two =
    let first = within 0 LONGEST_RLC_SDU xs apart 0 nowhere (omega arith) in
    let next = low_from _ LONGEST_RLC_SDU xs 1 nowhere (apart_behind 0 LONGEST_RLC_SDU xs apart 0 nowhere (omega arith)) two in
    record {
      low = (get_or xs 0 nowhere).start;
      between = (get_or xs 0 nowhere).end;
      high = (get_or xs 1 nowhere).start;
      rises = (first.1, omega arith);
      places = (has_start xs apart 0 (omega arith), lacks_first_end xs apart (omega arith), has_start xs apart 1 two);
    }

-- the last range ends the set
pub ends : (xs : List Range) → AreRanges xs → (n : ℕ) → length xs ≡ n + 1 → IsEnd (flags_of xs) (get_or xs n nowhere).end
ends xs apart n long =
    let end = (get_or xs n nowhere).end in
    let bounds = within 0 LONGEST_RLC_SDU xs apart n nowhere (omega arith) in
    let all : n + 1 ≡ number_ended xs end = counts 0 LONGEST_RLC_SDU xs apart end (n + 1) nowhere (omega arith) (λ _. let e : n + 1 - 1 ≡ n = omega arith in omega (arith, ap (λ k. (get_or xs k nowhere).end) e)) (λ lt. absurd (omega arith)) in
    record {
      above = λ place above. has_flags xs apart place ∙ none_counted xs end (n + 1) place all above ∙ none_from xs (n + 1) place (omega arith);
      last = λ some. has_flags xs apart (end - 1) ∙ in_range xs n nowhere (end - 1) (omega arith) (omega arith) (omega arith);
    }

-- one range is a set of its places alone
pub only_one : (from to : ℕ) → from < to → to ≤ LONGEST_RLC_SDU → (xs : List Range) → xs ≡ record { start = from; end = to } ∷ [] → AreRanges xs × HasOnly (flags_of xs) from to
only_one from to some most xs is =
    let one : List Range = record { start = from; end = to } ∷ [] in
    let apart : AreRanges one = (omega arith, some, most, tt) in
    subst (λ l. AreRanges l × HasOnly (flags_of l) from to) (sym is) (
      apart,
      record {
        flags = number_of_flags one;
        within = λ place after before. has_flags one apart place ∙ grind (arith, nat_tests);
        below = λ place before. has_flags one apart place ∙ grind (arith, nat_tests);
        above = λ place after. has_flags one apart place ∙ grind (arith, nat_tests);
      },
    )

-- a range joined with the others adds its places
pub adds : (xs : List Range) → AreRanges xs → (from to : ℕ) → from < to → to ≤ LONGEST_RLC_SDU → (ys : List Range) → ys ≡ joined_with (record { start = from; end = to }) xs
    → AreRanges ys × Adds (flags_of xs) (flags_of ys) from to
adds xs apart from to some most ys is =
    let range : Range = record { start = from; end = to } in
    let new : AreRanges ys = subst AreRanges (sym is) (joined_apart 0 LONGEST_RLC_SDU range xs apart (omega arith) some most) in
    let places : (p : ℕ) → has (flags_of ys) p ≡ ((leb from p && ltb p to) || has (flags_of xs) p) =
    λ p. has_flags ys new p ∙ ap (λ l. in_one l p) is ∙ in_joined 0 LONGEST_RLC_SDU range xs apart some p ∙ ap (λ b. (leb from p && ltb p to) || b) (sym (has_flags xs apart p)) in (
      new,
      record {
        flags = number_of_flags ys;
        within = λ place after before. places place ∙ grind (arith, nat_tests);
        below = λ place before. places place ∙ grind (arith, nat_tests);
        above = λ place after. places place ∙ grind (arith, nat_tests);
      },
    )

-- what is left of the ranges below and above is the set without the places between
pub removes : (xs : List Range) → AreRanges xs → (from to : ℕ) → from < to → (ys : List Range) → ys ≡ below xs from ++ above xs to
    → AreRanges ys × Removes (flags_of xs) (flags_of ys) from to
removes xs apart from to some ys is =
    let new : AreRanges ys = subst AreRanges (sym is) (cut_apart 0 LONGEST_RLC_SDU xs from to apart some) in
    let places : (p : ℕ) → has (flags_of ys) p ≡ ((ltb p from || leb to p) && has (flags_of xs) p) =
    λ p. has_flags ys new p ∙ ap (λ l. in_one l p) is ∙ in_cut 0 LONGEST_RLC_SDU xs from to apart p ∙ ap (λ b. (ltb p from || leb to p) && b) (sym (has_flags xs apart p)) in (
      new,
      record {
        flags = number_of_flags ys;
        within = λ place after before. places place ∙ grind (arith, nat_tests);
        below = λ place before. places place ∙ grind (arith, nat_tests);
        above = λ place after. places place ∙ grind (arith, nat_tests);
      },
    )
