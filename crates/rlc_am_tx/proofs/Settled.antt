-- The SDUs of a buffer behind a STATUS that is carried out.
use Rattle.std.proofs.Common.{◌≡◌, ◌↔◌, inl, inr, ℕ, zero, suc, ◌+◌, ◌-◌, ◌<◌, ◌≤◌, true, false, Bool, List, [], ◌∷◌, ◌++◌, length, take, count_by, is_some, Option, Some, None, refl, sym, ◌∙◌, ap, subst, arith}
use Rattle.std.specs.Bool.{MatchBool}
use Rattle.std.specs.List.{Contains}
use Rattle.std.specs.Option.{option_to_list}
use Rattle.std.proofs.lemmas.Bool.{cases_lt, false≢true}
use Rattle.std.proofs.lemmas.Option.{none-some, same_Some}
use Rattle.link_base.specs.declared.names.SnSize.{SnSize}
use Rattle.link_base.specs.declared.rlc_words.Tag.{Tag}
use Rattle.rlc_status.specs.declared.status.Status.{Status}
use Rattle.rlc_status.specs.Says.{Names}
use Rattle.rlc_model.specs.Tx.{Kept, at}
use Rattle.rlc_model.specs.Retransmission.{UpdatesKept, confirmed_tags}
use Rattle.rlc_am_tx.specs.declared.naming.Naming.{Naming}
use Rattle.rlc_am_tx.specs.Acknowledging.{confirmed_tag, is_mark, marks_at, renewed, settled_by, settled, told_tags, Plans, UpdatesAll}
use Rattle.rlc_am_tx.specs.Buffer.{kept_from}
use Rattle.rlc_am_tx.specs.Flags.{is_set, IsSetOfSent, FitsSent, HasFresh, HasNoFresh, flags_with, comes_to}
use Rattle.rlc_am_tx.specs.Naming.{named_at, pends_with, IsNamingOf}
use Rattle.rlc_am_tx.proofs.Flagged.{flag_taken, taken_long}
use Rattle.rlc_am_tx.proofs.Numbers.{kept_below, kept_item, kept_long}
use Rattle.rlc_am_tx.proofs.Planned.{item_of}
use Rattle.rlc_am_tx.proofs.NamedBytes.{counts_of, fits_of}

-- the flags of an SDU that is considered for retransmission
pub with_at : (k : Kept) (o : Option (List Bool)) → FitsSent k o → (p : ℕ) → is_set (flags_with k o) p ≡ pends_with (Some k) o p
with_at k None fits p = refl
with_at k (Some set) fits p = flag_taken set (length k.flags) fits p

pub with_long : (k : Kept) (o : Option (List Bool)) → FitsSent k o → length (flags_with k o) ≡ length k.flags
with_long k None fits = refl
with_long k (Some set) fits = taken_long set (length k.flags) fits

with_fresh : (k : Kept) (o : Option Kept) (x : Naming) (p : Option (List Bool)) → o ≡ Some k → p ≡ x.pending → IsNamingOf o x → MatchBool (is_some p) (HasFresh k.flags (flags_with k p)) (HasNoFresh k.flags (flags_with k p))
with_fresh k o x None is e n = λ p on. on
with_fresh k o x (Some set) is e n =
    let w = n set (sym e) in
    let same : w.kept ≡ k = same_Some w.kept k (sym w.is ∙ is) in
    let fits : IsSetOfSent set (length k.flags) = subst (λ (y : Kept). IsSetOfSent set (length y.flags)) same w.fits in
    let fresh : HasFresh k.flags set = subst (λ (y : Kept). HasFresh y.flags set) same w.fresh in
    (fresh.0, fresh.1, flag_taken set (length k.flags) fits fresh.0 ∙ fresh.2)

-- what becomes of a SDU
pub data Settles (threshold : ℕ) (x : Naming) (old new : Option Kept) : Type 0 where
  absent : old ≡ None → new ≡ None → Settles threshold x old new
  received : (k : Kept) → old ≡ Some k → x.named ≡ false → new ≡ None → Settles threshold x old new
  lacking : (k : Kept) → old ≡ Some k → x.named ≡ true → new ≡ Some (renewed threshold k x.pending) → Settles threshold x old new

pub settles : (threshold : ℕ) (x : Naming) (old new : Option Kept) → new ≡ settled threshold x old → Settles threshold x old new
settles threshold x old new is = go old refl x.named refl
  where
    go : (o : Option Kept) → old ≡ o → (b : Bool) → x.named ≡ b → Settles threshold x old new
    go None e true n = absent e (is ∙ ap (settled threshold x) e)
    go None e false n = absent e (is ∙ ap (settled threshold x) e)
    go (Some k) e true n = lacking k e n (is ∙ ap (settled threshold x) e ∙ ap (λ (b : Bool). settled_by b (renewed threshold k x.pending)) n)
    go (Some k) e false n = received k e n (is ∙ ap (settled threshold x) e ∙ ap (λ (b : Bool). settled_by b (renewed threshold k x.pending)) n)

-- SDUs that stay have no tags
tags_none : (xs ys : List (Option Kept)) → ((i : ℕ) → at ys i ≡ at xs i) → confirmed_tags xs ys ≡ []
tags_none [] ys same = refl
tags_none (x ∷ xs) [] same = refl
tags_none (None ∷ xs) (y ∷ ys) same = tags_none xs ys (λ i. same (suc i))
tags_none (Some k ∷ xs) (None ∷ ys) same = absurd (none-some k (same zero))
tags_none (Some k ∷ xs) (Some j ∷ ys) same = tags_none xs ys (λ i. same (suc i))

tag_none : (b : Bool) → option_to_list (confirmed_tag b None) ≡ []
tag_none true = refl
tag_none false = refl

told_step : (threshold : ℕ) (o : Option Kept) (x : Naming) (y : Option Kept) (tags : List Tag) (kept_sdus new : List (Option Kept)) → Settles threshold x o y → tags ≡ confirmed_tags kept_sdus new → option_to_list (confirmed_tag x.named o) ++ tags ≡ confirmed_tags (o ∷ kept_sdus) (y ∷ new)
told_step threshold o x y tags kept_sdus new (absent old none) e = ap (λ (p : Option Kept). option_to_list (confirmed_tag x.named p) ++ tags) old ∙ ap (λ (l : List Tag). l ++ tags) (tag_none x.named) ∙ e ∙ sym (ap (λ (p : Option Kept). confirmed_tags (p ∷ kept_sdus) (y ∷ new)) old)
told_step threshold o x y tags kept_sdus new (received k old named none) e =
    ap (λ (b : Bool). option_to_list (confirmed_tag b o) ++ tags) named ∙ ap (λ (p : Option Kept). option_to_list (confirmed_tag false p) ++ tags) old ∙ ap (λ (l : List Tag). k.tag ∷ l) e ∙ sym (ap (λ (p : Option Kept). confirmed_tags (p ∷ kept_sdus) (y ∷ new)) old ∙ ap (λ (p : Option Kept). confirmed_tags (Some k ∷ kept_sdus) (p ∷ new)) none)
told_step threshold o x y tags kept_sdus new (lacking k old named some) e =
    ap (λ (b : Bool). option_to_list (confirmed_tag b o) ++ tags) named ∙ e ∙ sym (ap (λ (p : Option Kept). confirmed_tags (p ∷ kept_sdus) (y ∷ new)) old ∙ ap (λ (p : Option Kept). confirmed_tags (Some k ∷ kept_sdus) (p ∷ new)) some)

-- the tags that are told are those of what is confirmed
pub told_confirmed : (threshold : ℕ) (kept_sdus : List (Option Kept)) (names : List Naming) (new : List (Option Kept)) (c : ℕ) → c ≤ length names → length new ≡ length kept_sdus → ((i : ℕ) → i < c → at new i ≡ settled threshold (named_at names i) (at kept_sdus i)) → ((i : ℕ) → c ≤ i → at new i ≡ at kept_sdus i) → told_tags (take c kept_sdus) (take c names) ≡ confirmed_tags kept_sdus new
told_confirmed threshold kept_sdus names new zero le long each rest = sym (tags_none kept_sdus new (λ i. rest i (omega arith)))
told_confirmed threshold [] names new (suc c) le long each rest = refl
told_confirmed threshold (o ∷ kept_sdus) [] new (suc c) le long each rest = absurd (omega (arith, le))
told_confirmed threshold (o ∷ kept_sdus) (x ∷ names) [] (suc c) le long each rest = absurd (omega (arith, long))
told_confirmed threshold (o ∷ kept_sdus) (x ∷ names) (y ∷ new) (suc c) le long each rest =
    told_step threshold o x y (told_tags (take c kept_sdus) (take c names)) kept_sdus new (settles threshold x o y (each zero (omega arith))) (told_confirmed threshold kept_sdus names new c (omega (arith, le)) (omega (arith, long)) (λ i lt. each (suc i) (omega (arith, lt))) (λ i ge. rest (suc i) (omega (arith, ge))))

-- numbers below the first SDU have no tags
pub kept_tags : (base : ℕ) (xs ys : List (Option Kept)) → confirmed_tags (kept_from base xs) (kept_from base ys) ≡ confirmed_tags xs ys
kept_tags zero xs ys = refl
kept_tags (suc base) xs ys = kept_tags base xs ys

kept_count : (base : ℕ) (xs : List (Option Kept)) → count_by is_some (kept_from base xs) ≡ count_by is_some xs
kept_count zero xs = refl
kept_count (suc base) xs = kept_count base xs

module _ (base : ℕ) (kept_sdus : List (Option Kept)) (size : SnSize) (ack threshold : ℕ) (s : Status) (names : List Naming) (tags : List Tag) (marks : List ℕ) (p : Plans kept_sdus base size ack threshold s names tags marks) (new : List (Option Kept)) (from : base ≤ ack) (enough : ack ≤ base + length names)
    (each : (i : ℕ) → i < ack - base → at new i ≡ settled threshold (named_at names i) (at kept_sdus i)) (rest : (i : ℕ) → ack - base ≤ i → at new i ≡ at kept_sdus i) (long : length new ≡ length kept_sdus) where
  mark_is : (i : ℕ) → i < ack - base → (k : Kept) → at kept_sdus i ≡ Some k → (named_at names i).named ≡ true → Contains marks (base + i) ↔ (comes_to threshold k.retx_count (is_some (named_at names i).pending) ≡ true)
  mark_is i lt k is named =
      let told : marks_at threshold kept_sdus names i ≡ comes_to threshold k.retx_count (is_some (named_at names i).pending) = ap (λ (o : Option Kept). is_mark threshold o (named_at names i).named (is_some (named_at names i).pending)) is ∙ ap (λ (b : Bool). is_mark threshold (Some k) b (is_some (named_at names i).pending)) named in (
        λ h. let w = (p.its_marks.each (base + i)).0 h in let same : w.0 ≡ i = omega (arith, w.2) in sym told ∙ ap (marks_at threshold kept_sdus names) (sym same) ∙ w.3,
        λ h. (p.its_marks.each (base + i)).1 (i, lt, refl, told ∙ h),
      )

  kept_updates : (i : ℕ) → i < ack - base → UpdatesKept size threshold ack s (base + i) marks (at kept_sdus i) (at new i)
  kept_updates i lt = elim (settles threshold (named_at names i) (at kept_sdus i) (at new i) (each i lt)) [
    | absent old none ↦ UpdatesKept.rest (inr old) (none ∙ sym old)
    | received k old named none ↦ UpdatesKept.confirmed k old (omega (arith, lt, from), λ h. false≢true (sym named ∙ (p.numbers i).1 h)) none
    | lacking k old named some ↦
        let x = named_at names i in
        let fits = fits_of k (at kept_sdus i) x x.pending old refl (p.fits i) in
        UpdatesKept.missing k (renewed threshold k x.pending) old (omega (arith, lt, from)) ((p.numbers i).0 named) some (record {
          tag = refl;
          sdu = refl;
          long = with_long k x.pending fits;
          pends = λ q q_lt. (
            λ h. elim ((p.places i q k old q_lt).0 (sym (with_at k x.pending fits q) ∙ h)) [ inl was ↦ inl was | inr w ↦ inr (omega (arith, lt, from), w) ],
            λ h. with_at k x.pending fits q ∙ (p.places i q k old q_lt).1 (elim h [ inl was ↦ inl was | inr w ↦ inr w.1 ]),
          );
          counts = counts_of threshold k (renewed threshold k x.pending) (is_some x.pending) (comes_to threshold k.retx_count (is_some x.pending)) (Contains marks (base + i)) (with_fresh k (at kept_sdus i) x x.pending old refl (p.fits i)) refl refl (mark_is i lt k old named);
        })
  ]

  abbrev l0 : List (Option Kept)
  l0 = kept_from base kept_sdus

  abbrev l3 : List (Option Kept)
  l3 = kept_from base new

  each_updates : (n : ℕ) → UpdatesKept size threshold ack s n marks (at l0 n) (at l3 n)
  each_updates n = elim (cases_lt n base) [
    | inl lt ↦ UpdatesKept.rest (inr (kept_below base kept_sdus n lt)) (kept_below base new n lt ∙ sym (kept_below base kept_sdus n lt))
    | inr ge ↦ elim (cases_lt (n - base) (ack - base)) [
      | inr past ↦ UpdatesKept.rest (inl (omega (arith, past, ge, from))) (kept_item base new n ge ∙ rest (n - base) past ∙ sym (kept_item base kept_sdus n ge))
      | inl lt ↦
          let back : base + (n - base) ≡ n = omega (arith, ge) in
          subst (λ m. UpdatesKept size threshold ack s m marks (at l0 n) (at l3 n)) back
          (subst (λ (o : Option Kept). UpdatesKept size threshold ack s (base + (n - base)) marks o (at l3 n)) (sym (kept_item base kept_sdus n ge))
          (subst (UpdatesKept size threshold ack s (base + (n - base)) marks (at kept_sdus (n - base))) (sym (kept_item base new n ge)) (kept_updates (n - base) lt)))
    ]
  ]

  only_mark : (n i : ℕ) → i < ack - base → n ≡ base + i → marks_at threshold kept_sdus names i ≡ true → (o : Option Kept) → at kept_sdus i ≡ o → (b : Bool) → (named_at names i).named ≡ b → (k : Kept) × (at l0 n ≡ Some k) × (n < ack) × Names size ack s n
  only_mark n i lt n_is mark None is b e = absurd (false≢true (sym (ap (λ (o : Option Kept). is_mark threshold o (named_at names i).named (is_some (named_at names i).pending)) is) ∙ mark))
  only_mark n i lt n_is mark (Some k) is false e = absurd (false≢true (sym (ap (λ (o : Option Kept). is_mark threshold o (named_at names i).named (is_some (named_at names i).pending)) is ∙ ap (λ (x : Bool). is_mark threshold (Some k) x (is_some (named_at names i).pending)) e) ∙ mark))
  only_mark n i lt n_is mark (Some k) is true e = (k, ap (at l0) n_is ∙ item_of base kept_sdus i ∙ is, omega (arith, lt, from, n_is), subst (Names size ack s) (sym n_is) ((p.numbers i).0 e))

  only_marks : (n : ℕ) → Contains marks n → (k : Kept) × (at l0 n ≡ Some k) × (n < ack) × Names size ack s n
  only_marks n h = let w = (p.its_marks.each n).0 h in only_mark n w.0 w.1 w.2 w.3 (at kept_sdus w.0) refl (named_at names w.0).named refl

  pub its_tags : tags ≡ confirmed_tags kept_sdus new
  its_tags = p.its_tags ∙ told_confirmed threshold kept_sdus names new (ack - base) (omega (arith, enough)) long each rest

  pub updates : UpdatesAll size threshold ack s l0 tags marks l3
  updates = record {
    each = each_updates;
    marks_only = only_marks;
    marks_rise = p.its_marks.rise;
    long = omega (arith, kept_long base new, kept_long base kept_sdus, long);
    its_tags = its_tags ∙ sym (kept_tags base kept_sdus new);
  }
