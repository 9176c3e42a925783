-- What is heard of a number: the set of the bytes and ends of all PDUs delivered, without window, store or order.
use Rattle.std.specs.Prelude.{◌≡◌, ℕ, ◌<◌, true, List, length, slice_index, Some, Contains}
use Rattle.rlc_pdu.specs.Amd.{Amd}
use Rattle.rlc_model.specs.Pdu.{end_of, is_end, byte_at}

-- a data PDU, and the number that its SN stands for
pub record Data : Type 0 where
  pub number : ℕ
  pub view : Amd

-- the set of triples of number, place and byte has this one
abbrev pub HasByte : List Data → ℕ → ℕ → ℕ → Type 0
HasByte heard n p b = (d : Data) × Contains heard d × (d.number ≡ n) × (byte_at d.view p ≡ Some b)

-- a whole SDU or a last segment of the number ends at this length
abbrev pub HasEnd : List Data → ℕ → ℕ → Type 0
HasEnd heard n l = (d : Data) × Contains heard d × (d.number ≡ n) × (is_end d.view.si ≡ true) × (end_of d.view ≡ l)

-- the number is heard as this SDU: its end, and a byte for each of its places
pub record HeardAs (heard : List Data) (n : ℕ) (sdu : List ℕ) : Type 0 where
  pub end : HasEnd heard n (length sdu)
  pub bytes : (p : ℕ) → p < length sdu → HasByte heard n p (slice_index sdu p)
