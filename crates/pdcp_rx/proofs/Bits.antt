-- Octets made of bits.
use mir.Val.{bool_byte}
use Rattle.std.proofs.Common.{◌≡◌, ℕ, zero, suc, ◌+◌, ◌*◌, ◌/◌, ◌%◌, ◌^◌, ◌<◌, ◌≤◌, Bool, true, false, if◌then◌else◌, List, Option, sym, ◌∙◌, ap, arith}
use Rattle.std.proofs.Math.Nat.{pow-suc, div-div-eq-div-mul}
use Rattle.std.proofs.Math.Pow.{pow_mono}
use Rattle.pdcp_rx.specs.Store.{waits, bits_from}

-- a bit is 0 or 1
pub bit_small : (b : Bool) → (if b then 1 else 0) < 2
bit_small true = omega arith
bit_small false = omega arith

-- so many bits make a number below that power of 2
pub bits_below : (stored : List (Option (List ℕ))) (from n : ℕ) → bits_from stored from n < 2 ^ n
bits_below stored from zero = omega arith
bits_below stored from (suc n) = omega (arith, bits_below stored from n, pow-suc 2 n, bit_small (waits stored (from + n)))

-- fewer than eight make one below 128
pub bits_short : (stored : List (Option (List ℕ))) (from n : ℕ) → n < 8 → bits_from stored from n < 128
bits_short stored from n lt =
    let le : n ≤ 7 = omega (arith, lt) in
    omega (arith, bits_below stored from n, pow_mono {i = n} {j = 7} le)

-- without its last bit a number is half of it
half : (x b : ℕ) → b < 2 → (2 * x + b) / 2 ≡ x
half x b lt = omega arith

-- of n bits as a number, that of the place k has n - 1 - k behind it, and tells whether an SDU waits there
pub bit_read : (stored : List (Option (List ℕ))) (from n k behind : ℕ) → n ≡ k + 1 + behind → bits_from stored from n / 2 ^ behind % 2 ≡ (if waits stored (from + k) then 1 else 0)
bit_read stored from zero k behind e = absurd (omega arith)
bit_read stored from (suc n) k zero e =
    let last : n ≡ k = omega (arith, e) in
    let rest : (2 * bits_from stored from n + (if waits stored (from + n) then 1 else 0)) / 2 ^ 0 % 2 ≡ (if waits stored (from + n) then 1 else 0) = omega (arith, bit_small (waits stored (from + n))) in
    rest ∙ ap (λ (i : ℕ). if◌then◌else◌ {A = ℕ} (waits stored (from + i)) 1 0) last
bit_read stored from (suc n) k (suc behind) e =
    let x = bits_from stored from n in
    let y = bits_from stored from (suc n) in
    let pow : 2 ^ suc behind ≡ 2 * 2 ^ behind = omega (arith, pow-suc 2 behind) in
    let shorter : y / 2 ^ suc behind ≡ x / 2 ^ behind =
    ap (λ (p : ℕ). y / p) pow ∙ sym (div-div-eq-div-mul y 2 (2 ^ behind)) ∙ ap (λ (q : ℕ). q / 2 ^ behind) (half x _ (bit_small (waits stored (from + n)))) in
    ap (λ (q : ℕ). q % 2) shorter ∙ bit_read stored from n k behind (omega (arith, e))

-- a flag as a number is 0 or 1
pub flag_small : (b : Bool) (n : ℕ) → n ≡ bool_byte b → n < 2
flag_small true n e = omega (arith, e)
flag_small false n e = omega (arith, e)
