-- What a data PDU brings to its number.
use Rattle.std.proofs.Common.{◌≡◌, ◌≢◌, ◌⊎◌, inl, inr, ℕ, ◌+◌, ◌-◌, ◌<◌, nat_lt, List, length, get_or, slice_get, Option, Some, None, refl, sym, ◌∙◌, ap, arith, lt-ltb, le-ltb}
use Rattle.std.proofs.lemmas.Bool.{cases_lt, cond-true, cond-false}
use Rattle.std.proofs.lemmas.Option.{none-some, slice_get_within, get_or_from_slice_get}
use Rattle.rlc_pdu.specs.Amd.{Amd}
use Rattle.rlc_model.specs.Pdu.{IsPiece, end_of, byte_at}
use Rattle.rlc_model.specs.Rx.{first_of}

-- what is not None is something
pub held_some : (o : Option ℕ) → o ≢ None → (b : ℕ) × (o ≡ Some b)
held_some None h = absurd (h refl)
held_some (Some b) h = (b, refl)

-- the first of two bytes that is there is one of them
pub first_cases : (o q : Option ℕ) (b : ℕ) → first_of o q ≡ Some b → (o ≡ Some b) ⊎ (q ≡ Some b)
first_cases None q b e = inr e
first_cases (Some x) q b e = inl e

-- a byte of the PDU lies before its end
pub byte_below : (v : Amd) (p b : ℕ) → byte_at v p ≡ Some b → p < end_of v
byte_below v p b is = elim (cases_lt p v.so) [
  | inl lt ↦ omega arith
  | inr le ↦
      let read : slice_get v.body (p - v.so) ≡ Some b = sym (cond-false (nat_lt p v.so) None (slice_get v.body (p - v.so)) (le-ltb p v.so le)) ∙ is in
      omega (arith, slice_get_within v.body (p - v.so) b read)
]

-- the bytes of a piece are those of its SDU
pub piece_byte : (sdu : List ℕ) (v : Amd) (p b : ℕ) → IsPiece sdu v → byte_at v p ≡ Some b → (p < length sdu) × (b ≡ get_or sdu p 0)
piece_byte sdu v p b piece is = elim (cases_lt p v.so) [
  | inl lt ↦ absurd (none-some b (sym (cond-true (nat_lt p v.so) None (slice_get v.body (p - v.so)) (lt-ltb p v.so lt)) ∙ is))
  | inr le ↦
      let read : slice_get v.body (p - v.so) ≡ Some b = sym (cond-false (nat_lt p v.so) None (slice_get v.body (p - v.so)) (le-ltb p v.so le)) ∙ is in
      let within : p - v.so < length v.body = slice_get_within v.body (p - v.so) b read in
      let place : v.so + (p - v.so) ≡ p = omega arith in
      (omega (arith, piece.within), sym (get_or_from_slice_get v.body (p - v.so) b 0 read) ∙ piece.bytes (p - v.so) within ∙ ap (λ i. get_or sdu i 0) place)
]
