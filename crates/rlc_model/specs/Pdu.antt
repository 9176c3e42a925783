-- Data PDUs as pieces of an SDU (TS 38.322 clauses 6.2.2.4, 6.2.3.4 and 6.2.3.5).
use Rattle.std.specs.Prelude.{◌≡◌, ◌↔◌, ℕ, ◌+◌, ◌-◌, ◌%◌, ◌<◌, ◌≤◌, Bool, true, false, if◌then◌else◌, nat_lt, ◌==◌, List, length, take, drop, slice_get, slice_index, Option, None}
use Rattle.link_base.specs.declared.names.SnSize.{SnSize}
use Rattle.link_base.specs.SequenceNumbers.{modulus}
use Rattle.rlc_pdu.specs.declared.amd.Si.{Si}
use Rattle.rlc_pdu.specs.declared.amd.Si.TheVariants.{Whole, First, Last, Middle}
use Rattle.rlc_pdu.specs.Amd.{Amd}

-- one more than the place of its last byte in the SDU
abbrev pub end_of : Amd → ℕ
end_of v = v.so + length v.body

-- whether it has the last byte of its SDU
abbrev pub is_end : Si → Bool
is_end Whole = true
is_end First = false
is_end Last = true
is_end Middle = false

-- the SI of a segment, by whether it has the first and whether it has the last byte of its SDU
abbrev pub si_of : Bool → Bool → Si
si_of true true = Whole
si_of true false = First
si_of false true = Last
si_of false false = Middle

-- the byte that it has for a place of the SDU
abbrev pub byte_at : Amd → ℕ → Option ℕ
byte_at v p = if nat_lt p v.so then None else slice_get v.body (p - v.so)

-- it has bytes of the SDU at their place, and says that it ends the SDU exactly where it does
pub record IsPiece (sdu : List ℕ) (v : Amd) : Type 0 where
  pub some : 0 < length v.body
  pub within : end_of v ≤ length sdu
  pub bytes : (i : ℕ) → i < length v.body → slice_index v.body i ≡ slice_index sdu (v.so + i)
  pub last : is_end v.si ≡ true ↔ end_of v ≡ length sdu

-- the piece of the SDU of this number from the place a up to but without e
abbrev pub piece : SnSize → ℕ → List ℕ → ℕ → ℕ → Bool → Amd
piece size number sdu a e poll = record { sn = number % modulus size; poll = poll; si = si_of (a == 0) (e == length sdu); so = a; body = take (e - a) (drop a sdu) }
