-- What a STATUS tells: the tags of SDUs that are confirmed, and the marks.
use Rattle.std.proofs.Common.{◌≡◌, inl, inr, ℕ, zero, suc, ◌+◌, ◌<◌, true, false, Bool, List, [], ◌∷◌, ◌++◌, length, take, get_or, count_by, is_some, cond, Option, Some, None, refl, sym, ◌∙◌, ap, subst, arith, append_assoc}
use Rattle.std.specs.List.{Contains}
use Rattle.std.specs.Bool.{then_some}
use Rattle.std.specs.Option.{option_to_list}
use Rattle.std.specs.List.Sorted.{IsStrictlyIncreasing}
use Rattle.std.proofs.lemmas.Bool.{cases_lt, false≢true}
use Rattle.std.proofs.lemmas.List.{append-nil, length_push, get_or_append_left, get_or_default}
use Rattle.std.proofs.lemmas.List.Elements.{Contains-append_left, Contains-push, Contains-push_cases}
use Rattle.std.proofs.lemmas.List.Sums.{sum_by-cons}
use Rattle.std.proofs.Math.Seq.{get_or-append_seam}
use Rattle.std.proofs.lemmas.Option.{none-some}
use Rattle.link_base.specs.declared.rlc_words.Tag.{Tag}
use Rattle.rlc_model.specs.Tx.{Kept, at}
use Rattle.rlc_model.specs.Retransmission.{confirmed_tags}
use Rattle.rlc_am_tx.specs.declared.naming.Naming.{Naming}
use Rattle.rlc_am_tx.specs.Acknowledging.{confirmed_tag, marks_at, told_tags, AreMarks}
use Rattle.rlc_am_tx.specs.Naming.{named_at}

told_suc : (kept_sdus : List (Option Kept)) (names : List Naming) (i : ℕ) → i < length kept_sdus → i < length names → told_tags (take (suc i) kept_sdus) (take (suc i) names) ≡ told_tags (take i kept_sdus) (take i names) ++ option_to_list (confirmed_tag (named_at names i).named (at kept_sdus i))
told_suc [] names i lt lt' = absurd (omega (arith, lt))
told_suc (o ∷ kept_sdus) [] i lt lt' = absurd (omega (arith, lt'))
told_suc (o ∷ kept_sdus) (x ∷ names) zero lt lt' = append-nil (option_to_list (confirmed_tag x.named o))
told_suc (o ∷ kept_sdus) (x ∷ names) (suc i) lt lt' = ap (λ (l : List Tag). option_to_list (confirmed_tag x.named o) ++ l) (told_suc kept_sdus names i (omega (arith, lt)) (omega (arith, lt'))) ∙ sym (append_assoc (option_to_list (confirmed_tag x.named o)) (told_tags (take i kept_sdus) (take i names)) (option_to_list (confirmed_tag (named_at names i).named (at kept_sdus i))))

-- one more SDU
pub told_more : (kept_sdus : List (Option Kept)) (names : List Naming) (i : ℕ) → i < length kept_sdus → i < length names → told_tags (take (i + 1) kept_sdus) (take (i + 1) names) ≡ told_tags (take i kept_sdus) (take i names) ++ option_to_list (confirmed_tag (named_at names i).named (at kept_sdus i))
told_more kept_sdus names i lt lt' =
    let e : suc i ≡ i + 1 = omega arith in
    subst (λ n. told_tags (take n kept_sdus) (take n names) ≡ told_tags (take i kept_sdus) (take i names) ++ option_to_list (confirmed_tag (named_at names i).named (at kept_sdus i))) e (told_suc kept_sdus names i lt lt')

-- a list that rises still does with a greater number behind it
rise_push : (xs : List ℕ) (x : ℕ) → IsStrictlyIncreasing xs → ((n : ℕ) → Contains xs n → n < x) → IsStrictlyIncreasing (xs ++ x ∷ [])
rise_push xs x rise less k lt =
    let long = length_push xs x in
    let in_k : k < length xs = omega (arith, lt, long) in
    elim (cases_lt (k + 1) (length xs)) [
      | inl inside ↦ let a = get_or_append_left xs (x ∷ []) 0 k in_k in let b = get_or_append_left xs (x ∷ []) 0 (k + 1) inside in omega (arith, a, b, rise k inside)
      | inr last ↦
          let e : k + 1 ≡ length xs = omega (arith, lt, long, last) in
          let a = get_or_append_left xs (x ∷ []) 0 k in_k in
          let b : get_or (xs ++ x ∷ []) (k + 1) 0 ≡ x = ap (λ m. get_or (xs ++ x ∷ []) m 0) e ∙ get_or-append_seam xs x [] 0 in
          omega (arith, a, b, less (get_or xs k 0) (k, in_k, get_or_default xs k (get_or xs k 0) 0 in_k))
    ]

pub marks_begin : (threshold base : ℕ) (kept_sdus : List (Option Kept)) (names : List Naming) → AreMarks threshold base kept_sdus names 0 []
marks_begin threshold base kept_sdus names = record {
  rise = λ k lt. absurd (omega (arith, lt));
  each = λ n. (λ h. absurd (omega (arith, h.1)), λ h. absurd (omega (arith, h.1)));
}

-- one more SDU
pub marks_next : (threshold base : ℕ) (kept_sdus : List (Option Kept)) (names : List Naming) (i : ℕ) (marks : List ℕ) (mark : Bool) → AreMarks threshold base kept_sdus names i marks → mark ≡ marks_at threshold kept_sdus names i → AreMarks threshold base kept_sdus names (i + 1) (marks ++ option_to_list (then_some mark (base + i)))
marks_next threshold base kept_sdus names i marks true a is = record {
  rise = rise_push marks (base + i) a.rise (λ n h. let w = (a.each n).0 h in omega (arith, w.1, w.2));
  each = λ n. (
    λ h. elim (Contains-push_cases marks (base + i) n h) [
      | inl before ↦ let w = (a.each n).0 before in (w.0, omega (arith, w.1), w.2, w.3)
      | inr here ↦ (i, omega arith, sym here, sym is)
    ],
    λ w. elim (cases_lt w.0 i) [
      | inl lt ↦ Contains-append_left marks ((base + i) ∷ []) n ((a.each n).1 (w.0, lt, w.2, w.3))
      | inr ge ↦ let e : base + i ≡ n = omega (arith, ge, w.1, w.2) in subst (Contains (marks ++ (base + i) ∷ [])) e (Contains-push marks (base + i))
    ],
  );
}
marks_next threshold base kept_sdus names i marks false a is = subst (AreMarks threshold base kept_sdus names (i + 1)) (sym (append-nil marks)) (record {
  rise = a.rise;
  each = λ n. (
    λ h. let w = (a.each n).0 h in (w.0, omega (arith, w.1), w.2, w.3),
    λ w. elim (cases_lt w.0 i) [
      | inl lt ↦ (a.each n).1 (w.0, lt, w.2, w.3)
      | inr ge ↦ let e : i ≡ w.0 = omega (arith, ge, w.1) in absurd (false≢true (is ∙ ap (marks_at threshold kept_sdus names) e ∙ w.3))
    ],
  );
})

-- how many tags there are
pub tags_count : (xs ys : List (Option Kept)) → length ys ≡ length xs → ((i : ℕ) → at xs i ≡ None → at ys i ≡ None) → count_by is_some ys + length (confirmed_tags xs ys) ≡ count_by is_some xs
tags_count [] [] long none = refl
tags_count [] (y ∷ ys) long none = absurd (omega (arith, long))
tags_count (x ∷ xs) [] long none = absurd (omega (arith, long))
tags_count (None ∷ xs) (None ∷ ys) long none = tags_count xs ys (omega (arith, long)) (λ i. none (suc i))
tags_count (None ∷ xs) (Some j ∷ ys) long none = absurd (none-some j (sym (none zero refl)))
tags_count (Some k ∷ xs) (None ∷ ys) long none = omega (arith, tags_count xs ys (omega (arith, long)) (λ i. none (suc i)), sum_by-cons (λ (o : Option Kept). cond (is_some o) 1 0) (Some k) xs, sum_by-cons (λ (o : Option Kept). cond (is_some o) 1 0) None ys)
tags_count (Some k ∷ xs) (Some j ∷ ys) long none = omega (arith, tags_count xs ys (omega (arith, long)) (λ i. none (suc i)), sum_by-cons (λ (o : Option Kept). cond (is_some o) 1 0) (Some k) xs, sum_by-cons (λ (o : Option Kept). cond (is_some o) 1 0) (Some j) ys)
