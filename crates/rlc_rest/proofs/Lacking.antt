-- What a receiver lacks, and what waits for transmission.
use Rattle.std.proofs.Common.{◌≡◌, ◌≢◌, ◌⊎◌, inl, inr, ⊎_elim, ℕ, zero, suc, ◌-◌, ◌<◌, ◌≤◌, Bool, true, false, cond, not, nat_lt, ◌&&◌, ◌||◌, List, length, get_or, Option, Some, None, refl, sym, ◌∙◌, ap, arith, lt-ltb, true≢false}
use Rattle.std.specs.Option.{is_none}
use Rattle.std.proofs.lemmas.Bool.{cases_Bool, cases_lt, cases_eq, false≢true, and_parts, or_cases, not-true, ltb-false}
use Rattle.rlc_model.specs.Tx.{Tx, Kept, kept_at, is_pending, is_unsent, PendingWaits, UnsentWaits}
use Rattle.rlc_model.specs.Rx.{Rx, Got, Done, Part, got, held_at, len_of, is_done}
use Rattle.rlc_model.specs.Made.{IsWithin}
use Rattle.rlc_law.specs.Hop.{Hop}
use Rattle.rlc_rest.specs.Rest.{sdu_len, is_sent_at, lacks, waits_at, useful}
use Rattle.rlc_law.proofs.Base.{kept_below}
use Rattle.rlc_rest.proofs.Totals.{some_total}
use Rattle.rlc_law.proofs.Invariant.{at, Invariant}

-- a place that isn't held of an SDU that isn't complete is lacked
pub lacks_held : (g : Got) (p : ℕ) → g ≢ Done → held_at g p ≡ None → lacks g p ≡ true
lacks_held Done p open_g none = absurd (open_g refl)
lacks_held (Part held len) p open_g none = ap is_none none

-- a place that isn't lacked is held, or all of the SDU is got
pub held_lacks : (g : Got) (p : ℕ) → lacks g p ≡ false → (g ≡ Done) ⊎ (held_at g p ≢ None)
held_lacks Done p e = inl refl
held_lacks (Part held len) p e = inr (λ none. true≢false (sym (ap is_none none) ∙ e))

-- of what is got whole nothing is lacked
pub lacks_not_done : (g : Got) (p : ℕ) → lacks g p ≡ true → g ≢ Done
lacks_not_done g p e is = false≢true (sym (ap (λ (g : Got). lacks g p) is) ∙ e)

-- what is lacked isn't held
pub lacks_none : (g : Got) (p : ℕ) → lacks g p ≡ true → held_at g p ≡ None
lacks_none Done p e = refl
lacks_none (Part held len) p e = go (get_or held p None) e
  where
    go : (o : Option ℕ) → is_none o ≡ true → o ≡ None
    go None e = refl
    go (Some b) e = absurd (false≢true e)

-- what the test doesn't call complete isn't
pub not_done : (g : Got) → is_done g ≡ false → g ≢ Done
not_done g e is = true≢false (sym (ap is_done is) ∙ e)

-- from a up to but without k nothing is lacked, or one place is
pub range_or_one : (g : Got) (a k : ℕ) → ((p : ℕ) → a ≤ p → p < k → lacks g p ≡ false) ⊎ ((p : ℕ) × (a ≤ p) × (p < k) × (lacks g p ≡ true))
range_or_one g a zero = inl (λ p le lt. absurd (omega arith))
range_or_one g a (suc k) = elim (range_or_one g a k) [
  | inr one ↦ inr (one.0, one.1, omega (arith, one.2), one.3)
  | inl all ↦ elim (cases_lt k a) [
    | inl before ↦ inl (λ p le lt. all p le (omega arith))
    | inr at_k ↦ elim (cases_Bool (lacks g k)) [
      | inl one ↦ inr (k, at_k, omega arith, one)
      | inr here ↦ inl (λ p le lt. elim (cases_eq p k) [
        | inl e ↦ ap (lacks g) e ∙ here
        | inr ne ↦ all p le (omega arith)
      ])
    ]
  ]
]

-- where no place of an SDU is lacked, and its number isn't complete, its length is known
known_len : (h : Hop) → Invariant h → (n : ℕ) (k : Kept) → kept_at h.tx n ≡ Some k → got h.rx n ≢ Done → ((p : ℕ) → p < length k.sdu → lacks (got h.rx n) p ≡ false) → len_of (got h.rx n) ≡ None → ⊥
known_len h inv n k is open_n all none =
    let long : length k.sdu ≡ length (at h.given n) = ap (λ (l : List ℕ). length l) (inv.tx.sdu n k is) in
    let some : 0 < length k.sdu = omega (arith, long, (inv.sdus n (omega (arith, kept_below h.tx n k is, inv.tx.long))).0) in
    elim (held_lacks (got h.rx n) (length k.sdu - 1) (all (length k.sdu - 1) (omega arith))) [
      | inl done ↦ open_n done
      | inr held ↦ inv.rx.ends n (length k.sdu - 1) held (omega (arith, some, long)) none
    ]

-- of an unconfirmed number that isn't complete a place is lacked
pub lacks_one : (h : Hop) → Invariant h → (n : ℕ) (k : Kept) → kept_at h.tx n ≡ Some k → got h.rx n ≢ Done → (p : ℕ) × (p < length k.sdu) × (lacks (got h.rx n) p ≡ true)
lacks_one h inv n k is open_n = elim (range_or_one (got h.rx n) 0 (length k.sdu)) [
  | inr one ↦ (one.0, one.2, one.3)
  | inl all_from ↦ let all : (p : ℕ) → p < length k.sdu → lacks (got h.rx n) p ≡ false = λ p lt. all_from p (omega arith) lt in absurd (inv.sound.parts.lacks n open_n (λ p within. ⊎_elim (λ done. absurd (open_n done)) (λ held. held) (held_lacks (got h.rx n) p (all p (inside all p within (len_of (got h.rx n)) refl)))))
]
  where
    inside : ((p : ℕ) → p < length k.sdu → lacks (got h.rx n) p ≡ false) → (p : ℕ) → IsWithin (got h.rx n) p → (o : Option ℕ) → len_of (got h.rx n) ≡ o → p < length k.sdu
    inside all p within None e = absurd (known_len h inv n k is open_n all e)
    inside all p within (Some l) e = omega (arith, within l e, inv.rx.len n l e, ap (λ (l : List ℕ). length l) (inv.tx.sdu n k is))

-- no place stays where nothing stays
waits_none : (t : Tx) (n p : ℕ) → (PendingWaits t → ⊥) → (UnsentWaits t → ⊥) → p < sdu_len (kept_at t n) → waits_at (kept_at t n) p ≡ true → ⊥
waits_none t n p none_pending none_unsent lt w = go (kept_at t n) refl lt w
  where
    go : (o : Option Kept) → kept_at t n ≡ o → p < sdu_len o → waits_at o p ≡ true → ⊥
    go None e lt w = absurd (omega arith)
    go (Some k) e lt w = elim (or_cases (is_pending (Some k) p) (not (is_sent_at (Some k) p)) w) [
      | inl pends ↦ none_pending (n, p, ap (λ (o : Option Kept). is_pending o p) e ∙ pends)
      | inr later ↦ none_unsent (n, ap is_unsent e ∙ lt-ltb (length k.flags) (length k.sdu) (omega (arith, ltb-false p (length k.flags) (not-true (nat_lt p (length k.flags)) later))))
    ]

-- where nothing waits, nothing useful does
pub no_useful : (t : Tx) (r : Rx) → (PendingWaits t → ⊥) → (UnsentWaits t → ⊥) → 0 < useful t r → ⊥
no_useful t r none_pending none_unsent some =
    let u = some_total (λ o g p. lacks g p && waits_at o p) t r some in
    waits_none t u.0 u.1 none_pending none_unsent u.3 (and_parts (lacks (got r u.0) u.1) (waits_at (kept_at t u.0) u.1) u.4).1

-- the stage where nothing useful waits and no poll is owed
pub stage_two : (a b c d o : Bool) → a ≡ false → b ≡ false → o ≡ false → cond (a || (b && c)) 0 (cond o (cond d 1 3) 2) ≡ (let two : ℕ = 2 in two)
stage_two false false c d false ea eb eo = refl
stage_two true b c d o ea eb eo = absurd (false≢true (sym ea))
stage_two false true c d o ea eb eo = absurd (false≢true (sym eb))
stage_two false false c d true ea eb eo = absurd (false≢true (sym eo))

-- the stage where a poll is owed and the lowest unconfirmed number is complete
pub stage_one : (x o d : Bool) → o ≡ true → d ≡ true → cond x 0 (cond o (cond d 1 3) 2) ≤ 1
stage_one true o d eo ed = omega arith
stage_one false true true eo ed = omega arith
stage_one false true false eo ed = absurd (false≢true ed)
stage_one false false d eo ed = absurd (false≢true eo)

-- the stage where something useful waits
pub stage_zero : (a y : Bool) (n : ℕ) → a ≡ true → cond (a || y) 0 n ≤ 0
stage_zero true y n e = omega arith
stage_zero false y n e = absurd (false≢true e)
