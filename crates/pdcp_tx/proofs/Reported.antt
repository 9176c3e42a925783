-- The bits of octets and of a bitmap.
use Rattle.std.proofs.Common.{◌≡◌, ◌⊎◌, inl, inr, ℕ, zero, suc, ◌+◌, ◌-◌, ◌*◌, ◌/◌, ◌%◌, ◌^◌, ◌<◌, ◌≤◌, ◌==◌, max, not, ◌||◌, Bool, true, false, List, [], ◌∷◌, slice_index, drop, refl, sym, ◌∙◌, ap, subst, arith}
use Rattle.std.specs.Bool.{MatchBool}
use Rattle.std.specs.List.{list_any}
use Rattle.std.proofs.lemmas.Bool.{cases_eq, false≢true}
use Rattle.std.proofs.lemmas.Bool.Decides.{nat_tests}
use Rattle.std.proofs.lemmas.List.{get_or-drop}
use Rattle.std.proofs.lemmas.Nat.Bits.{bit_at-zero}
use Rattle.std.proofs.lemmas.Nat.{one_shl, mod-pow-add, pow_pos}
use Rattle.pdcp_pdu.specs.Reports.{bit_of}
use Rattle.pdcp_tx.specs.Reported.{HasBitFrom, HasOneBelow, SpeaksFrom}

-- the last bits of a number, and the one before them
last_bits : (octet bits : ℕ) → octet % 2 ^ (1 + bits) ≡ (octet / 2 ^ bits % 2) * 2 ^ bits + octet % 2 ^ bits
last_bits octet bits = mod-pow-add octet 1 bits

bit_is : (octet bits : ℕ) → ((octet / 2 ^ bits % 2 ≡ 0) × (octet % 2 ^ (1 + bits) ≡ octet % 2 ^ bits)) ⊎ ((octet / 2 ^ bits % 2 ≡ 1) × (octet % 2 ^ (1 + bits) ≡ 2 ^ bits + octet % 2 ^ bits))
bit_is octet bits = elim (cases_eq (octet / 2 ^ bits % 2) 0) [
  | inl off ↦ inl (off, last_bits octet bits ∙ ap {B = ℕ} (λ b. b * 2 ^ bits + octet % 2 ^ bits) off ∙ omega arith)
  | inr on ↦
      let one : octet / 2 ^ bits % 2 ≡ 1 = omega (arith, on) in
      inr (one, last_bits octet bits ∙ ap {B = ℕ} (λ b. b * 2 ^ bits + octet % 2 ^ bits) one ∙ omega arith)
]

-- where the last bits are 0 none of them is 1, and else one is
pub none_below : (octet bits : ℕ) → octet % 2 ^ bits ≡ 0 → HasOneBelow octet bits → ⊥
none_below octet zero is has = omega (arith, has.1)
none_below octet (suc bits) is has =
    let split : octet % 2 ^ (1 + bits) ≡ 0 = ap {B = ℕ} (λ n. octet % 2 ^ n) (omega arith) ∙ is in
    elim (bit_is octet bits) [
      | inl off ↦ elim (cases_eq has.0 bits) [
        | inl this ↦ omega (arith, sym (ap (λ b. octet / 2 ^ b % 2) this) ∙ has.2, off.0)
        | inr other ↦ none_below octet bits (sym off.1 ∙ split) (has.0, omega (arith, has.1, other), has.2)
      ]
      | inr on ↦ omega (arith, on.1, split, pow_pos bits)
    ]

pub some_below : (octet bits : ℕ) → 0 < octet % 2 ^ bits → HasOneBelow octet bits
some_below octet zero some = absurd (omega (arith, some))
some_below octet (suc bits) some =
    let split : 0 < octet % 2 ^ (1 + bits) = subst (λ n. 0 < octet % 2 ^ n) (omega arith) some in
    elim (bit_is octet bits) [
      | inl off ↦ let below = some_below octet bits (subst (λ n. 0 < n) off.1 split) in (below.0, omega (arith, below.1), below.2)
      | inr on ↦ (bits, omega arith, on.0)
    ]

pub tests_below : (octet bits : ℕ) → bits ≤ 8 → MatchBool (not (octet % (1 * 2 ^ bits % 2 ^ 16) == 0)) (HasOneBelow octet bits) (HasOneBelow octet bits → ⊥)
tests_below octet bits le =
    let M : Bool → Type 0 = λ b. MatchBool b (HasOneBelow octet bits) (HasOneBelow octet bits → ⊥) in
    let shifted : 1 * 2 ^ bits % 2 ^ 16 ≡ 2 ^ bits = one_shl bits 16 (omega (arith, le)) in
    subst (λ m. M (not (octet % m == 0))) (sym shifted) (elim (cases_eq (octet % 2 ^ bits) 0) [
      | inl off ↦ let no_bit : not (octet % 2 ^ bits == 0) ≡ false = grind (arith, nat_tests) in subst M (sym no_bit) (none_below octet bits off)
      | inr on ↦ let a_bit : not (octet % 2 ^ bits == 0) ≡ true = grind (arith, nat_tests) in subst M (sym a_bit) (some_below octet bits (omega (arith, on)))
    ])

-- the octet of a bit of a bitmap, and its place there
bit_in : (map : List ℕ) (index bit n : ℕ) → bit < 8 → n ≡ index * 8 + (7 - bit) + 1 → bit_of map n ≡ slice_index map index / 2 ^ bit % 2
bit_in map index bit n lt is =
    let octet : (n - 1) / 8 ≡ index = omega (arith, is, lt) in
    let place : 7 - (n - 1) % 8 ≡ bit = omega (arith, is, lt) in
    ap (λ i. slice_index map i / 2 ^ (7 - (n - 1) % 8) % 2) octet ∙ ap (λ b. slice_index map index / 2 ^ b % 2) place

-- a bit of the octet of this bit, not before it
pub from_first : (map : List ℕ) (number : ℕ) → 1 ≤ number → HasOneBelow (slice_index map ((number - 1) / 8)) (8 - (number - 1) % 8) → HasBitFrom map number
from_first map number some has =
    let index = (number - 1) / 8 in
    let n = index * 8 + (7 - has.0) + 1 in
    (n, omega (arith, has.1, some), bit_in map index has.0 n (omega (arith, has.1)) refl ∙ has.2)

-- one of octets isn't 0, or each is
any_place : (octets : List ℕ) → list_any (λ octet. not (octet == 0)) octets ≡ true → (i : ℕ) × (0 < slice_index octets i)
any_place [] has = absurd (false≢true has)
any_place (zero ∷ octets) has = let rest = any_place octets has in (suc rest.0, rest.1)
any_place (suc x ∷ octets) has = (0, omega arith)

any_none : (octets : List ℕ) → list_any (λ octet. not (octet == 0)) octets ≡ false → (i : ℕ) → slice_index octets i ≡ 0
any_none [] none i = refl
any_none (zero ∷ octets) none zero = refl
any_none (zero ∷ octets) none (suc i) = any_none octets none i
any_none (suc x ∷ octets) none i = let on : not (suc x == 0) ≡ true = grind (arith, nat_tests) in absurd (false≢true (sym none ∙ ap (λ b. b || list_any (λ octet. not (octet == 0)) octets) on))

-- a bit of an octet behind it
pub from_rest : (map : List ℕ) (number : ℕ) → 1 ≤ number → ((i : ℕ) → slice_index map i < 256) → list_any (λ octet. not (octet == 0)) (drop ((number - 1) / 8 + 1) map) ≡ true → HasBitFrom map number
from_rest map number some fits has =
    let index = (number - 1) / 8 in
    let one = any_place (drop (index + 1) map) has in
    let at = index + 1 + one.0 in
    let value : slice_index (drop (index + 1) map) one.0 ≡ slice_index map at = get_or-drop (index + 1) map one.0 0 in
    let bit = some_below (slice_index map at) 8 (omega (arith, one.1, value, fits at)) in
    let n = at * 8 + (7 - bit.0) + 1 in
    (n, omega (arith, bit.1, some), bit_in map at bit.0 n (omega (arith, bit.1)) refl ∙ bit.2)

pub none_from : (map : List ℕ) (number : ℕ) → 1 ≤ number → (HasOneBelow (slice_index map ((number - 1) / 8)) (8 - (number - 1) % 8) → ⊥) → list_any (λ octet. not (octet == 0)) (drop ((number - 1) / 8 + 1) map) ≡ false → HasBitFrom map number → ⊥
none_from map number some first rest has =
    let n = has.0 in
    let index = (n - 1) / 8 in
    let bit = 7 - (n - 1) % 8 in
    elim (cases_eq index ((number - 1) / 8)) [
      | inl same ↦ first (bit, omega (arith, has.1, same, some), ap (λ i. slice_index map i / 2 ^ bit % 2) (sym same) ∙ has.2)
      | inr behind ↦
          let from : (number - 1) / 8 + 1 ≤ index = omega (arith, has.1, behind) in
          let k = (number - 1) / 8 + 1 in
          let i = index - k in
          let here : k + i ≡ index = omega (arith, from) in
          let off : slice_index map index ≡ 0 = ap (λ m. slice_index map m) (sym here) ∙ sym (get_or-drop k map i 0) ∙ any_none (drop k map) rest i in
          omega (arith, sym has.2 ∙ ap {B = ℕ} (λ x. x / 2 ^ bit % 2) off ∙ bit_at-zero bit)
    ]

pub tests_from : (map : List ℕ) (number : ℕ) (b : Bool) → 1 ≤ number → ((i : ℕ) → slice_index map i < 256) → (HasOneBelow (slice_index map ((number - 1) / 8)) (8 - (number - 1) % 8) → ⊥) → b ≡ list_any (λ octet. not (octet == 0)) (drop ((number - 1) / 8 + 1) map) → MatchBool b (HasBitFrom map number) (HasBitFrom map number → ⊥)
tests_from map number true some fits first is = from_rest map number some fits (sym is)
tests_from map number false some fits first is = none_from map number some first (sym is)

-- a report speaks of the COUNTs of these bits
pub speaks_of : (next fmc n : ℕ) (map : List ℕ) (b : Bool) → fmc ≤ next → n ≡ max (next - fmc) 1 → MatchBool b (HasBitFrom map n) (HasBitFrom map n → ⊥) → MatchBool b (SpeaksFrom next fmc map) (SpeaksFrom next fmc map → ⊥)
speaks_of next fmc n map true le is has =
    let count = fmc + has.0 in
    inr (count, omega (arith, has.1, is), inr (omega (arith, has.1, is), ap (bit_of map) same ∙ has.2))
  where
    same : fmc + has.0 - fmc ≡ has.0
    same = omega arith
speaks_of next fmc n map false le is none = λ speaks. elim speaks [
  | inl above ↦ omega (arith, above, le)
  | inr named ↦ elim named.2 [
    | inl below ↦ omega (arith, below, named.1, le)
    | inr bit ↦ none (named.0 - fmc, omega (arith, bit.0, named.1, is), bit.1)
  ]
]
