-- Hexadecimal text, a piece and a digit at a time.
use Rattle.std.proofs.Common.{◌≡◌, ℕ, zero, suc, ◌+◌, ◌*◌, ◌/◌, ◌%◌, ◌<◌, ◌≤◌, ◌==◌, cond, Bool, true, List, [], ◌∷◌, ◌++◌, length, take, drop, slice_index, Some, Ok, refl, sym, ap, ◌∙◌, arith, lit<, inl, inr}
use Rattle.std.specs.Prelude.{nat_lt, ◌&&◌}
use Rattle.std.specs.List.{list_all}
use Rattle.std.proofs.lemmas.Bool.{and_parts, cases_lt, eqb-true, ltb-true}
use Rattle.std.proofs.lemmas.List.{append-nil, append_assoc, drop_all}
use Rattle.std.specs.Str.{IsAscii}
use Rattle.hex.specs.Hex.{encode_with, encode_lower, lower_digits, hex_digit_value, pair_value, value_at, digit_or_error}

pub encode_with-append : (t xs ys : List ℕ) → encode_with t (xs ++ ys) ≡ encode_with t xs ++ encode_with t ys
unfolding encode_with
encode_with-append t [] ys = refl
encode_with-append t (x ∷ xs) ys = ap (λ (zs : List ℕ). slice_index t (x / 16) ∷ slice_index t (x % 16) ∷ zs) (encode_with-append t xs ys)

-- the text of all bytes is written once none is left
pub encode_end : (t input output : List ℕ) (i : ℕ) → length input ≤ i
    → take (2 * i) output ++ encode_with t (drop i input) ≡ encode_with t input
    → take (2 * i) output ≡ encode_with t input
unfolding encode_with
encode_end t input output i h inv =
    let d = drop_all i input h in
    rw (d, append-nil) at inv

-- the digit of a value below 16, by a test of all of them
abbrev digit_of : ℕ → ℕ
digit_of n = cond (nat_lt n 10) (48 + n) (87 + n)

abbrev are_digits_below : ℕ → Bool
are_digits_below zero = true
are_digits_below (suc n) = (digit_of n == slice_index lower_digits n) && are_digits_below n

below : (n k : ℕ) → are_digits_below n ≡ true → k < n → digit_of k ≡ slice_index lower_digits k
below zero k h lt = absurd (omega arith)
below (suc n) k h lt =
    let parts = and_parts (digit_of n == slice_index lower_digits n) (are_digits_below n) h in
    elim (cases_lt k n) [
      | inl less ↦ below n k parts.1 less
      | inr top ↦
          let e : k ≡ n = omega arith in
          rw e (eqb-true (digit_of n) (slice_index lower_digits n) parts.0)
    ]

pub digit_is : (n : ℕ) → n < 16 → digit_of n ≡ slice_index lower_digits n
digit_is n lt = below 16 n refl lt

pub pair_read : (high low i a b : ℕ) → hex_digit_value high ≡ Some a → hex_digit_value low ≡ Some b → pair_value high low i ≡ Ok (a * 16 + b)
pair_read high low i a b ha hb =
    let va : value_at high i ≡ Ok a = ap (digit_or_error high i) ha in
    let vb : value_at low (i + 1) ≡ Ok b = ap (digit_or_error low (i + 1)) hb in
    rw (va, vb) refl

-- the text of a piece and then of the rest
pub pieces : (out new front piece rest whole : List ℕ) → piece ++ rest ≡ whole → new ≡ out ++ encode_lower piece
    → out ++ encode_lower whole ≡ front → new ++ encode_lower rest ≡ front
pieces out new front piece rest whole is made inv =
    ap (λ (xs : List ℕ). xs ++ encode_lower rest) made ∙ (append_assoc out (encode_lower piece) (encode_lower rest)
    ∙ (ap (λ (xs : List ℕ). out ++ xs) (sym (encode_with-append lower_digits piece rest)) ∙ (ap (λ (xs : List ℕ). out ++ encode_lower xs) is ∙ inv)))

pub last_piece : (out front rest : List ℕ) → length rest ≡ 0 → out ++ encode_lower rest ≡ front → out ≡ front
unfolding encode_with
last_piece out front [] e inv = sym (append-nil out) ∙ inv
last_piece out front (x ∷ rest) e inv = absurd (omega (arith, e))

are_ascii : (bs : List ℕ) → list_all (λ b. nat_lt b 128) bs ≡ true → IsAscii bs
are_ascii [] e i = lit< tt
are_ascii (b ∷ bs) e zero = ltb-true b 128 (and_parts (nat_lt b 128) (list_all (λ b. nat_lt b 128) bs) e).0
are_ascii (b ∷ bs) e (suc i) = are_ascii bs (and_parts (nat_lt b 128) (list_all (λ b. nat_lt b 128) bs) e).1 i

pub ascii_digits : IsAscii lower_digits
ascii_digits = are_ascii lower_digits refl
