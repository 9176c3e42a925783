-- A receiving side has one status report.
use Rattle.std.proofs.Common.{◌≡◌, ◌≢◌, ◌⊎◌, inl, inr, ℕ, zero, suc, ◌+◌, ◌-◌, ◌*◌, ◌/◌, ◌%◌, ◌^◌, ◌<◌, ◌≤◌, List, [], length, get_or, None, refl, sym, ◌∙◌, ap, arith}
use native.Mathlib.Nat.{zero-div}
use Rattle.std.proofs.lemmas.Bool.{cases_lt}
use Rattle.std.proofs.lemmas.List.{get_or_past, ext_get_or}
use Rattle.pdcp_pdu.specs.Reports.{bit_of}
use Rattle.pdcp_model.specs.Receiver.{Receiver, stored_at, IsReport}

-- an octet is known by its bits
one_octet : (a b : ℕ) → a < 256 → b < 256 → ((j : ℕ) → j < 8 → a / 2 ^ (7 - j) % 2 ≡ b / 2 ^ (7 - j) % 2) → a ≡ b
one_octet a b low low' bits =
    let b7 : a / 128 % 2 ≡ b / 128 % 2 = bits 0 (omega arith) in
    let b6 : a / 64 % 2 ≡ b / 64 % 2 = bits 1 (omega arith) in
    let b5 : a / 32 % 2 ≡ b / 32 % 2 = bits 2 (omega arith) in
    let b4 : a / 16 % 2 ≡ b / 16 % 2 = bits 3 (omega arith) in
    let b3 : a / 8 % 2 ≡ b / 8 % 2 = bits 4 (omega arith) in
    let b2 : a / 4 % 2 ≡ b / 4 % 2 = bits 5 (omega arith) in
    let b1 : a / 2 % 2 ≡ b / 2 % 2 = bits 6 (omega arith) in
    let b0 : a / 1 % 2 ≡ b / 1 % 2 = bits 7 (omega arith) in
    omega (arith, low, low', b7, b6, b5, b4, b3, b2, b1, b0)

-- each bit of a bitmap is one of an octet
bit_at : (map : List ℕ) (i j : ℕ) → j < 8 → bit_of map (8 * i + j + 1) ≡ get_or map i 0 / 2 ^ (7 - j) % 2
bit_at map i j low =
    let octet : (8 * i + j + 1 - 1) / 8 ≡ i = omega (arith, low) in
    let bit : (8 * i + j + 1 - 1) % 8 ≡ j = omega (arith, low) in
    ap (λ (k : ℕ). get_or map k 0 / 2 ^ (7 - (8 * i + j + 1 - 1) % 8) % 2) octet ∙ ap (λ (k : ℕ). get_or map i 0 / 2 ^ (7 - k) % 2) bit

-- a bit that is 1 is one of the bitmap
bit_within : (map : List ℕ) (n : ℕ) → 1 ≤ n → bit_of map n ≡ 1 → n ≤ length map * 8
bit_within map n from is = elim (cases_lt (length map * 8) n) [
  | inl past ↦
      let none : get_or map ((n - 1) / 8) 0 ≡ 0 = get_or_past map ((n - 1) / 8) 0 (omega (arith, past)) in
      let zero_bit : bit_of map n ≡ 0 / 2 ^ (7 - (n - 1) % 8) % 2 = ap (λ (x : ℕ). x / 2 ^ (7 - (n - 1) % 8) % 2) none in
      let no_bit : bit_of map n ≡ 0 = zero_bit ∙ ap (λ (x : ℕ). x % 2) (zero-div (2 ^ (7 - (n - 1) % 8))) in
      absurd (omega (arith, no_bit, is))
  | inr le ↦ le
]

-- of two bits one is 1 where the other is
one_bit : (a b : ℕ) → a < 2 → b < 2 → (a ≡ 1 → b ≡ 1) → (b ≡ 1 → a ≡ 1) → a ≡ b
one_bit zero zero low low' f g = refl
one_bit zero (suc b) low low' f g = let one : suc b ≡ 1 = omega (arith, low') in absurd (omega (arith, g one))
one_bit (suc a) zero low low' f g = let one : suc a ≡ 1 = omega (arith, low) in absurd (omega (arith, f one))
one_bit (suc a) (suc b) low low' f g = omega (arith, low, low')

module _ (r : Receiver) (fmc fmc' : ℕ) (map map' : List ℕ) (p : IsReport r fmc map) (q : IsReport r fmc' map') where
  -- the bitmap of the one isn't longer than that of the other
  no_longer : (map' ≡ []) ⊎ ((n : ℕ) × (stored_at r n ≢ None) × (length map' * 8 < n + 8)) → length map' ≤ length map
  no_longer (inl none) = omega (arith, ap (λ (xs : List ℕ). length xs) none)
  no_longer (inr (zero, stored, short)) = omega (arith, short)
  no_longer (inr (suc n, stored, short)) = omega (arith, short, bit_within map (suc n) (omega arith) ((p.bits (suc n) (omega arith)).1 stored))

  -- they have the same bits
  same_bit : (n : ℕ) → 1 ≤ n → bit_of map n ≡ bit_of map' n
  same_bit n from = one_bit (bit_of map n) (bit_of map' n) (omega arith) (omega arith) (λ e. (q.bits n from).1 ((p.bits n from).0 e))
      (λ e. (p.bits n from).1 ((q.bits n from).0 e))

-- there is one report
pub one_report : (r : Receiver) (fmc fmc' : ℕ) (map map' : List ℕ) → IsReport r fmc map → IsReport r fmc' map' → (fmc ≡ fmc') × (map ≡ map')
one_report r fmc fmc' map map' p q = (p.its_fmc ∙ sym q.its_fmc, ext_get_or 0 map map' long each)
  where
    long : length map ≡ length map'
    long = omega (arith, no_longer r fmc fmc' map map' p q q.ends, no_longer r fmc' fmc map' map q p p.ends)

    each : (i : ℕ) → i < length map → get_or map i 0 ≡ get_or map' i 0
    each i lt = one_octet (get_or map i 0) (get_or map' i 0) (p.octets i 0 lt) (q.octets i 0 (omega (arith, lt, long)))
        (λ j low. sym (bit_at map i j low) ∙ same_bit r fmc fmc' map map' p q (8 * i + j + 1) (omega arith) ∙ bit_at map' i j low)
