-- Elements written one group behind the other.
use Rattle.std.proofs.Common.{◌≡◌, ◌≢◌, inl, inr, ℕ, ◌+◌, ◌-◌, ◌<◌, ◌≤◌, List, [], ◌∷◌, ◌++◌, length, take, drop, append_assoc, None, sym, ◌∙◌, ap, subst, arith}
use Rattle.std.proofs.lemmas.Bool.{cases_lt}
use Rattle.std.proofs.Math.Seq.{drop-append_seam, take-append_seam, take-length}
use Rattle.std.proofs.lemmas.List.{append-nil, length-append}
use Rattle.link_base.specs.declared.limits.TheConstants.{LONGEST_RLC_SDU}
use Rattle.rlc_status.specs.declared.status.Nack.{Nack}
use Rattle.rlc_status.specs.Format.{nacks_len}
use Rattle.rlc_model.specs.Numbers.{IsFirst}
use Rattle.rlc_model.specs.Rx.{Rx, Got, held_at, len_of}
use Rattle.rlc_model.specs.Made.{Gaps, Group, IsMissing, IsWithin, WritesNacks, last_place}
use Rattle.rlc_model.specs.Made.Gaps.{full, inner, last}
use Rattle.rlc_model.specs.Made.WritesNacks.{all, stops, group}
use Rattle.rlc_am_rx.specs.Elements.{gap_of, AddsGaps, AddsInnerGaps}

-- numbers that aren't missing may stand in front
pub first_behind : (P : ℕ → Type 0) (x z y : ℕ) → x ≤ z → ((n : ℕ) → x ≤ n → n < z → P n → ⊥) → IsFirst P z y → IsFirst P x y
first_behind P x z y le none f = record {
  from = omega (arith, le, f.from);
  has = f.has;
  none = λ n ge lt. elim (cases_lt n z) [ inl below ↦ none n ge below | inr behind ↦ f.none n behind lt ];
}

pub writes_behind : (r : Rx) (octets x z : ℕ) (nacks : List Nack) (a : ℕ) → x ≤ z → ((n : ℕ) → x ≤ n → n < z → IsMissing r n → ⊥)
    → WritesNacks r octets z nacks a → WritesNacks r octets x nacks a
writes_behind r octets x z nacks a le none (all nothing) = all
    (λ n ge. elim (cases_lt n z) [ inl below ↦ none n ge below | inr behind ↦ nothing n behind ])
writes_behind r octets x z nacks a le none (stops m y es first is more) = stops m y es
    (first_behind (IsMissing r) x z m le none first) is more
writes_behind r octets x z nacks a le none (group m y es first is fits rest) = group m y es
    (first_behind (IsMissing r) x z m le none first) is fits rest

-- a missing number is the first from itself on
pub first_here : (P : ℕ → Type 0) (x : ℕ) → P x → IsFirst P x x
first_here P x has = record { from = omega arith; has = has; none = λ n ge lt p. omega (arith, ge, lt) }

-- places that are held may stand in front of the gaps
pub gaps_behind : (sn : ℕ) (g : Got) (p z : ℕ) (nacks : List Nack) → p ≤ z → ((q : ℕ) → p ≤ q → q < z → held_at g q ≢ None)
    → Gaps sn g z nacks → Gaps sn g p nacks
gaps_behind sn g p z nacks le held (full every) = full
    (λ q ge within. elim (cases_lt q z) [ inl below ↦ held q ge below | inr behind ↦ every q behind within ])
gaps_behind sn g p z nacks le held (inner x y first next rest) = inner x y
    (first_behind (λ q. held_at g q ≡ None) p z x le held first) next rest
gaps_behind sn g p z nacks le held (last x first within above) = last x
    (first_behind (λ q. held_at g q ≡ None) p z x le held first) within above

-- elements were added for each gap before the place `from`
pub record GapsSoFar (sn : ℕ) (g : Got) (from : ℕ) (old new : List Nack) : Type 0 where
  pub added : List Nack
  pub adds : new ≡ old ++ added
  pub gaps : (rest : List Nack) → Gaps sn g from rest → Gaps sn g 0 (added ++ rest)

pub gaps_begin : (sn : ℕ) (g : Got) (from : ℕ) (old : List Nack) → ((q : ℕ) → q < from → held_at g q ≢ None) → GapsSoFar sn g from old old
gaps_begin sn g from old held = record {
  added = [];
  adds = sym (append-nil old);
  gaps = λ rest gaps. gaps_behind sn g 0 from rest (omega arith) (λ q ge lt. held q lt) gaps;
}

-- behind places that are held
pub gaps_so_far : (sn : ℕ) (g : Got) (p z : ℕ) (old nacks : List Nack) → p ≤ z → ((q : ℕ) → p ≤ q → q < z → held_at g q ≢ None)
    → GapsSoFar sn g p old nacks → GapsSoFar sn g z old nacks
gaps_so_far sn g p z old nacks le held so_far = record {
  added = so_far.added;
  adds = so_far.adds;
  gaps = λ rest gaps. so_far.gaps rest (gaps_behind sn g p z rest le held gaps);
}

-- the gap from `from` up to but without `to`
pub gaps_on : (sn : ℕ) (g : Got) (from to : ℕ) (old nacks new : List Nack) → from < to → ((q : ℕ) → from ≤ q → q < to → held_at g q ≡ None)
    → held_at g to ≢ None → new ≡ nacks ++ gap_of sn from (to - 1) ∷ [] → GapsSoFar sn g from old nacks → GapsSoFar sn g to old new
gaps_on sn g from to old nacks new some none holds pushed so_far = record {
  added = so_far.added ++ gap_of sn from (to - 1) ∷ [];
  adds = pushed ∙ ap (λ (l : List Nack). l ++ gap_of sn from (to - 1) ∷ []) so_far.adds
      ∙ append_assoc old so_far.added (gap_of sn from (to - 1) ∷ []);
  gaps = λ rest gaps. subst (Gaps sn g 0) (sym (append_assoc so_far.added (gap_of sn from (to - 1) ∷ []) rest))
      (so_far.gaps (gap_of sn from (to - 1) ∷ rest)
      (inner from to (first_here (λ q. held_at g q ≡ None) from (none from (omega arith) some)) (record {
        from = omega (arith, some);
        has = holds;
        none = λ n ge lt is. is (none n ge lt);
      })
      gaps));
}

-- behind the last byte held is a gap, or none
pub gaps_all : (sn : ℕ) (g : Got) (end : ℕ) (old nacks new : List Nack) (tail : List Nack) → AddsInnerGaps sn g end old nacks
    → new ≡ nacks ++ tail → Gaps sn g end tail → AddsGaps sn g old new
gaps_all sn g end old nacks new tail is pushed gaps = record {
  added = is.added ++ tail;
  adds = pushed ∙ ap (λ (l : List Nack). l ++ tail) is.adds ∙ append_assoc old is.added tail;
  gaps = is.gaps tail gaps;
}

pub gap_to_end : (sn : ℕ) (g : Got) (end to : ℕ) → ((p : ℕ) → end ≤ p → held_at g p ≡ None) → IsWithin g end → to ≡ last_place (len_of g)
    → Gaps sn g end (gap_of sn end to ∷ [])
gap_to_end sn g end to above within is = subst (λ (k : ℕ). Gaps sn g end (gap_of sn end k ∷ [])) (sym is)
    (last end (first_here (λ q. held_at g q ≡ None) end (above end (omega arith))) within above)

pub no_gap : (sn : ℕ) (g : Got) (end : ℕ) → ((p : ℕ) → end ≤ p → IsWithin g p → ⊥) → Gaps sn g end []
no_gap sn g end past = full (λ q ge within. absurd (past q ge within))

-- a group that fits
pub writes_on : (r : Rx) (start octets left rest_left number y next : ℕ) (old nacks added : List Nack) → number ≤ y
    → Group r number y added → IsMissing r number → rest_left + nacks_len r.size added ≡ left
    → y ≤ next → ((n : ℕ) → y ≤ n → n < next → IsMissing r n → ⊥) → nacks ≡ old ++ added
    → ((rest : List Nack) (a : ℕ) → WritesNacks r left number rest a → WritesNacks r octets start (old ++ rest) a) → (rest : List Nack)
    (a : ℕ) → WritesNacks r rest_left next rest a → WritesNacks r octets start (nacks ++ rest) a
writes_on r start octets left rest_left number y next old nacks added later speaks missing fits le none is so_far rest a w =
    let on : WritesNacks r left number (added ++ rest) a = group number y added (first_here (IsMissing r) number missing) speaks
    (omega (arith, fits))
    (subst (λ (k : ℕ). WritesNacks r k y rest a) (omega (arith, fits)) (writes_behind r rest_left y next rest a le none w)) in
    subst (λ (l : List Nack). WritesNacks r octets start l a) (sym (ap (λ (l : List Nack). l ++ rest) is ∙ append_assoc old added rest))
    (so_far (added ++ rest) a on)

-- a group that doesn't
pub writes_stop : (r : Rx) (start octets left number y : ℕ) (old added : List Nack) → Group r number y added → IsMissing r number
    → left < nacks_len r.size added
    → ((rest : List Nack) (a : ℕ) → WritesNacks r left number rest a → WritesNacks r octets start (old ++ rest) a) → WritesNacks r octets start old number
writes_stop r start octets left number y old added speaks missing more so_far =
    subst (λ (l : List Nack). WritesNacks r octets start l number) (append-nil old)
    (so_far [] number (stops number y added (first_here (IsMissing r) number missing) speaks more))

-- no number is missing any more
pub writes_end : (r : Rx) (start octets left number : ℕ) (old : List Nack) → r.rx_highest_status ≤ number
    → ((rest : List Nack) (a : ℕ) → WritesNacks r left number rest a → WritesNacks r octets start
    (old ++ rest) a) → WritesNacks r octets start old r.rx_highest_status
writes_end r start octets left number old le so_far =
    subst (λ (l : List Nack). WritesNacks r octets start l r.rx_highest_status) (append-nil old)
    (so_far [] r.rx_highest_status (all (λ n ge missing. omega (arith, ge, le, missing.0))))

-- all gaps before the last byte held are added
pub gaps_inner : (sn : ℕ) (g : Got) (end : ℕ) (old new : List Nack) → ((p : ℕ) → end ≤ p → held_at g p ≡ None)
    → end ≤ LONGEST_RLC_SDU → GapsSoFar sn g end old new → AddsInnerGaps sn g end old new
gaps_inner sn g end old new above short so_far = record { above = above; short = short; added = so_far.added; adds = so_far.adds; gaps = so_far.gaps }

-- the elements behind those that were there before, and these
pub added_behind : (new old added slice : List Nack) (len : ℕ) → new ≡ old ++ added → len ≡ length old → slice ≡ new
    → take (length slice - len) (drop len slice) ≡ added
added_behind new old added slice len is same whole =
    let rest : drop len slice ≡ added = ap (λ (l : List Nack). drop len l) (whole ∙ is) ∙ ap (λ (k : ℕ). drop k (old ++ added)) same
    ∙ drop-append_seam old added in
    ap (λ (l : List Nack). take (length slice - len) l) rest
    ∙ ap (λ (k : ℕ). take k added) (omega (arith, ap (λ (l : List Nack). length l) (whole ∙ is), length-append old added, same))
    ∙ take-length added

pub added_before : (new old added : List Nack) (len : ℕ) → new ≡ old ++ added → len ≡ length old → take len new ≡ old
added_before new old added len is same = ap (λ (l : List Nack). take len l) is ∙ ap (λ (k : ℕ). take k (old ++ added)) same
    ∙ take-append_seam old added
