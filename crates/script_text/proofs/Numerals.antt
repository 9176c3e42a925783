-- Numbers in decimal, as they are read.
use Rattle.std.proofs.Common.{◌≡◌, ℕ, zero, suc, ◌<◌, ◌^◌, List, Result, Ok, Err, true, sym, ◌∙◌, ap, refl, arith, lit<, MatchOption, ◌≢◌}
use Rattle.std.specs.Result.{result_ok}
use Rattle.std.specs.Str.{all_ascii_digits, IsUtf8, IsAscii}
use Rattle.std.specs.Str.Parse.{ParsesUnsigned, digits_value}
use Rattle.std.specs.Fmt.{decimal}
use Rattle.std.proofs.lemmas.Str.{IsUtf8-from_ascii}
use Rattle.std.proofs.lemmas.Str.Parse.{IsNumeralModel, numerals_by_value, tells_all_ascii_digits, parse_plain}
use Rattle.std.proofs.lemmas.Fmt.{decimal-digits_value, parse-decimal, decimal_nonempty, first_decimal, decimal_digit, digits_decimal}
use Rattle.std.specs.Prelude.{Bool, false, not, ◌&&◌, ◌||◌, ◌==◌, nat_lt, nat_le, length, slice_index, [], ◌∷◌}
use Rattle.std.specs.List.{list_all}
use Rattle.std.specs.Char.{is_ascii_digit}
use Rattle.std.proofs.lemmas.Bool.{lt-ltb, eq-eqb, eqb-true, ltb-true, leb-true, and_parts}
use Rattle.script_text.specs.Words.{IsPlainHead, is_numeral}

pub own : IsNumeralModel (λ ds. all_ascii_digits ds ≡ true) (digits_value 10)
own = numerals_by_value _ tells_all_ascii_digits

pub plain_head : (n : ℕ) → n < 2 ^ 64 → IsPlainHead (decimal n)
plain_head zero small = rw (decimal_digit 0 (lit< tt)) (record { some = omega arith; no_sign = λ e. absurd (omega (arith, e)); no_zero = λ _. refl })
plain_head (suc n) small =
    let first = first_decimal (suc n) (omega arith) small in
    record { some = decimal_nonempty (suc n) small; no_sign = λ e. omega (arith, first, e); no_zero = λ e. absurd (omega (arith, first, e)) }

same_digits : (ds : List ℕ) → all_ascii_digits ds ≡ list_all is_ascii_digit ds
same_digits [] = refl
same_digits (d ∷ ds) = ap (λ (b : Bool). is_ascii_digit d && b) (same_digits ds)

all_of : (a b c : Bool) → a ≡ true → b ≡ true → c ≡ true → ((a && b) && c) ≡ true
all_of true true true x y z = refl
all_of true true false x y z = z
all_of true false c x y z = absurd cc
all_of false b c x y z = absurd cc

either : (a b : Bool) → (b ≡ true → a ≡ true) → (a || not b) ≡ true
either true b f = refl
either false true f = absurd (let same = f refl in cc)
either false false f = refl

pub numeral : (n : ℕ) → n < 2 ^ 64 → is_numeral (decimal n) ≡ true
numeral n small =
    let h = plain_head n small in
    all_of _ _ _ (lt-ltb 0 _ h.some) (sym (same_digits (decimal n)) ∙ digits_decimal own n small) (either _ _ (λ e. eq-eqb _ _ (h.no_zero (eqb-true _ _ e))))

pub number_read : {E : Type 0} (word : List ℕ) (r : Result ℕ E) → IsPlainHead word → ParsesUnsigned 64 10 word r → MatchOption (result_ok r) ((n : ℕ) → n < 2 ^ 64 → word ≢ decimal n) (λ n. word ≡ decimal n)
number_read {E = E} word (Ok n) h p =
    let q = parse_plain own {E = E} 64 word (Ok n) p h.no_sign in
    sym (decimal-digits_value own word q.0.0 q.0.1 h.no_zero q.0.2) ∙ ap decimal (sym q.1)
number_read {E = E} word (Err e) h p = λ n small is. let k = parse-decimal {E = E} 64 n word (Err e) small small is p in cc

-- the first digit of a number
first_digit : (word : List ℕ) → list_all is_ascii_digit word ≡ true → 0 < length word → is_ascii_digit (slice_index word 0) ≡ true
first_digit [] e some = absurd (omega (arith, some))
first_digit (b ∷ word) e some = (and_parts (is_ascii_digit b) (list_all is_ascii_digit word) e).0

is_one : (a b : Bool) → (a || not b) ≡ true → b ≡ true → a ≡ true
is_one true b e x = refl
is_one false true e x = absurd cc
is_one false false e x = absurd cc

pub head_of : (word : List ℕ) → is_numeral word ≡ true → IsPlainHead word
head_of word e =
    let parts = and_parts (nat_lt 0 (length word) && list_all is_ascii_digit word) ((length word == 1) || not (slice_index word 0 == 48)) e in
    let digits = and_parts (nat_lt 0 (length word)) (list_all is_ascii_digit word) parts.0 in
    let some : 0 < length word = ltb-true 0 (length word) digits.0 in
    let first = and_parts (nat_le 48 (slice_index word 0)) (nat_le (slice_index word 0) 57) (first_digit word digits.1 some) in
    let low = leb-true 48 (slice_index word 0) first.0 in
    record {
      some = some;
      no_sign = λ sign. omega (arith, low, sign);
      no_zero = λ zero_first. eqb-true (length word) 1 (is_one (length word == 1) (slice_index word 0 == 48) parts.1 (eq-eqb (slice_index word 0) 48 zero_first));
    }

ascii : (word : List ℕ) → list_all is_ascii_digit word ≡ true → IsAscii word
ascii [] e i = lit< tt
ascii (b ∷ word) e zero =
    let parts = and_parts (is_ascii_digit b) (list_all is_ascii_digit word) e in
    let high = leb-true b 57 (and_parts (nat_le 48 b) (nat_le b 57) parts.0).1 in
    omega (arith, high)
ascii (b ∷ word) e (suc i) = ascii word (and_parts (is_ascii_digit b) (list_all is_ascii_digit word) e).1 i

pub utf8_numeral : (word : List ℕ) → is_numeral word ≡ true → IsUtf8 word
utf8_numeral word e =
    let parts = and_parts (nat_lt 0 (length word) && list_all is_ascii_digit word) ((length word == 1) || not (slice_index word 0 == 48)) e in
    IsUtf8-from_ascii word (ascii word (and_parts (nat_lt 0 (length word)) (list_all is_ascii_digit word) parts.0).1)
