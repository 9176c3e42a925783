-- A range joined with those that it meets or touches.
use Rattle.std.proofs.Common.{◌≡◌, ℕ, ◌+◌, ◌-◌, ◌<◌, ◌≤◌, true, false, ◌&&◌, ◌||◌, List, [], ◌∷◌, ◌++◌, length, get_or, take, drop, leb, ltb, arith, refl, sym, ap, ◌∙◌, subst, inl, inr}
use Rattle.std.proofs.lemmas.Bool.{cases_lt}
use Rattle.std.proofs.lemmas.Bool.Decides.{nat_tests}
use Rattle.byte_spans.specs.declared.ranges.Range.{Range}
use Rattle.byte_spans.specs.Ranges.{in_one, AreApart, AreRanges, flags_of, number_ended, joined_with, hull}
use Rattle.std.proofs.lemmas.List.{drop_more, drop_all}
use Rattle.link_base.specs.declared.limits.TheConstants.{LONGEST_RLC_SDU}
use Rattle.byte_spans.specs.Spans.{LacksAll}
use Rattle.byte_spans.proofs.Order.{nowhere, loosened, counted_on, ends_rise, none_below}
use Rattle.byte_spans.proofs.Flags.{has_flags}
use Rattle.byte_spans.proofs.Counting.{counts_past, none_counted, apart_from, none_from}

-- they have the places of both
pub in_joined : (low high : ℕ) (r : Range) (xs : List Range) → AreApart low xs high → r.start < r.end → (p : ℕ) → in_one (joined_with r xs) p ≡ ((leb r.start p && ltb p r.end) || in_one xs p)
in_joined low high r [] apart some p = refl
in_joined low high r (x ∷ xs) apart some p =
    let rest = in_joined (x.end + 1) high r xs apart.3 some p in
    let more = in_joined (x.end + 1) high (hull r x) xs apart.3 (omega arith) p in
    grind (arith, nat_tests)

-- and lie apart
pub joined_apart : (low high : ℕ) (r : Range) (xs : List Range) → AreApart low xs high → low ≤ r.start → r.start < r.end → r.end ≤ high → AreApart low (joined_with r xs) high
joined_apart low high r [] apart least some most = (least, some, most, tt)
joined_apart low high r (x ∷ xs) apart least some most =
    elim (cases_lt x.end r.start) [
      | inl before ↦
          let t : ltb x.end r.start ≡ true = grind (arith, nat_tests) in
          rw t (apart.0, apart.1, apart.2, joined_apart (x.end + 1) high r xs apart.3 (omega arith) some most)
      | inr meets ↦
          let t : ltb x.end r.start ≡ false = grind (arith, nat_tests) in
          rw t (elim (cases_lt r.end x.start) [
            | inl behind ↦ let u : ltb r.end x.start ≡ true = grind (arith, nat_tests) in rw u (least, some, most, (omega arith, apart.1, apart.2, apart.3))
            | inr touches ↦ let u : ltb r.end x.start ≡ false = grind (arith, nat_tests) in rw u (joined_apart low high (hull r x) xs (loosened (x.end + 1) low high xs (omega arith) apart.3) (omega arith) (omega arith) (omega arith))
          ])
    ]

-- those that end before it stay
pub joined_past : (low high : ℕ) (r : Range) (xs : List Range) → AreApart low xs high → joined_with r xs ≡ take (number_ended xs (r.start - 1)) xs ++ joined_with r (drop (number_ended xs (r.start - 1)) xs)
joined_past low high r [] apart = refl
joined_past low high r (x ∷ xs) apart =
    elim (cases_lt (r.start - 1) x.end) [
      | inl past ↦ let t : leb x.end (r.start - 1) ≡ false = grind (arith, nat_tests) in rw t refl
      | inr before ↦
          let t : leb x.end (r.start - 1) ≡ true = grind (arith, nat_tests) in
          let u : ltb x.end r.start ≡ true = grind (arith, nat_tests) in
          rw (t, u, counted_on (number_ended xs (r.start - 1))) (ap (λ l. x ∷ l) (joined_past (x.end + 1) high r xs apart.3))
    ]

-- of a range joined with those from `first` up to but without `stop`
pub record IsJoining (xs : List Range) (first : ℕ) (range : Range) (stop : ℕ) (joined : Range) : Type 0 where
  pub counted : first ≡ number_ended xs (range.start - 1)
  pub joins : joined_with joined (drop stop xs) ≡ joined_with range (drop first xs)
  pub starts : joined.start ≤ range.start
  pub none : stop ≡ first → joined ≡ range

-- the next range is joined where it meets or touches
joins_next : (range next : Range) (rest : List Range) → range.start ≤ next.end → next.start ≤ range.end
    → joined_with range (next ∷ rest) ≡ joined_with (hull range next) rest
joins_next range next rest starts meets =
    let t : ltb next.end range.start ≡ false = grind (arith, nat_tests) in
    let u : ltb range.end next.start ≡ false = grind (arith, nat_tests) in
    simp (t, u)

-- and stays where it lies beyond
stays_beyond : (range next : Range) (rest : List Range) → range.start ≤ next.end → range.end < next.start
    → joined_with range (next ∷ rest) ≡ range ∷ next ∷ rest
stays_beyond range next rest starts beyond =
    let t : ltb next.end range.start ≡ false = grind (arith, nat_tests) in
    let u : ltb range.end next.start ≡ true = grind (arith, nat_tests) in
    simp (t, u)

module _ (xs : List Range) (apart : AreRanges xs) (range joined : Range) (first stop : ℕ) (joining : IsJoining xs first range stop joined) (le : first ≤ stop) where
  -- a range from `first` on ends no lower than the range that is joined starts
  reaches : stop < length xs → joined.start ≤ (get_or xs stop nowhere).end
  reaches lt =
      let past = counts_past xs (range.start - 1) first nowhere joining.counted (omega arith) in
      let rises = ends_rise 0 LONGEST_RLC_SDU xs apart first stop nowhere le lt in
      omega (arith, joining.starts)

  -- one more range is joined
  pub joining_more : stop < length xs → (get_or xs stop nowhere).start ≤ joined.end → IsJoining xs first range (stop + 1) (hull joined (get_or xs stop nowhere))
  joining_more lt meets = record {
    counted = joining.counted;
    joins = sym (joins_next joined (get_or xs stop nowhere) (drop (stop + 1) xs) (reaches lt) meets) ∙ sym (ap (joined_with joined) (drop_more xs stop nowhere lt)) ∙ joining.joins;
    starts = omega (arith, joining.starts);
    none = λ same. absurd (omega (arith, same));
  }

  -- the ranges from `stop` on stay
  pub joining_ends : (stop < length xs → joined.end < (get_or xs stop nowhere).start) → take first xs ++ joined ∷ drop stop xs ≡ joined_with range xs
  joining_ends beyond =
      ap (λ l. take first xs ++ l) (last ∙ joining.joins)
      ∙ subst (λ n. take n xs ++ joined_with range (drop n xs) ≡ joined_with range xs) (sym joining.counted) (sym (joined_past 0 LONGEST_RLC_SDU range xs apart))
    where
      last : joined ∷ drop stop xs ≡ joined_with joined (drop stop xs)
      last = elim (cases_lt stop (length xs)) [
        | inl lt ↦
            ap (λ l. joined ∷ l) (drop_more xs stop nowhere lt)
            ∙ sym (stays_beyond joined (get_or xs stop nowhere) (drop (stop + 1) xs) (reaches lt) (beyond lt))
            ∙ sym (ap (joined_with joined) (drop_more xs stop nowhere lt))
        | inr ends ↦ subst (λ l. joined ∷ l ≡ joined_with joined l) (sym (drop_all stop xs ends)) refl
      ]

-- where none is joined, no place of the range or beside it is in one
pub none_beside : (xs : List Range) → AreRanges xs → (range : Range) (first : ℕ) → first ≡ number_ended xs (range.start - 1) → (first < length xs → range.end < (get_or xs first nowhere).start)
    → LacksAll (flags_of xs) (range.start - 1) (range.end + 1)
none_beside xs apart range first is beyond = λ place after before.
    has_flags xs apart place ∙ none_counted xs (range.start - 1) first place is after
    ∙ elim (cases_lt first (length xs)) [
      | inl lt ↦
          let past = beyond lt in
          none_below (get_or xs first nowhere).start LONGEST_RLC_SDU (drop first xs) (apart_from 0 LONGEST_RLC_SDU xs apart first nowhere lt) place (omega arith)
      | inr ends ↦ none_from xs first place ends
    ]
