-- The octets that are written are as many as the sum says.
use Rattle.std.proofs.Common.{◌≡◌, ℕ, ◌*◌, List, [], ◌∷◌, ◌++◌, length, Option, Some, None, refl, arith, length-append}
use Rattle.std.specs.Prelude.{is_some}
use Rattle.std.proofs.lemmas.List.Sums.{sum_by-cons}
use Rattle.link_base.specs.declared.names.SnSize.{SnSize}
use Rattle.link_base.specs.declared.names.SnSize.TheVariants.{S12, S18}
use Rattle.rlc_status.specs.declared.status.Nack.{Nack}
use Rattle.rlc_status.specs.declared.status.Status.{Status}
use Rattle.rlc_status.specs.Format.{bit, e1_before, header_of, nack_head_of, octets_of_part, octets_of_range, nack_of, nacks_of, status_bytes, nack_head_len, nack_len, nacks_len, status_len}

-- a header has 3 octets
length-header_of : (size : SnSize) (ack e1 : ℕ) → length (header_of size ack e1) ≡ 3
length-header_of S12 ack e1 = refl
length-header_of S18 ack e1 = refl

-- an element has 2 or 3 before its part and its range
length-nack_head_of : (size : SnSize) (sn e1 e2 e3 : ℕ) → length (nack_head_of size sn e1 e2 e3) ≡ nack_head_len size
length-nack_head_of S12 sn e1 e2 e3 = refl
length-nack_head_of S18 sn e1 e2 e3 = refl

-- a part has 4
length-part_of : (part : Option (ℕ × ℕ)) → length (octets_of_part part) ≡ 4 * bit (is_some part)
length-part_of None = refl
length-part_of (Some part) = refl

-- a range has 1
length-range_of : (range : Option ℕ) → length (octets_of_range range) ≡ bit (is_some range)
length-range_of None = refl
length-range_of (Some range) = refl

-- an element has the sum of these
length-nack_of : (size : SnSize) (nack : Nack) (e1 : ℕ) → length (nack_of size nack e1) ≡ nack_len size nack
length-nack_of size nack e1 =
    let head = nack_head_of size nack.sn e1 (bit (is_some nack.part)) (bit (is_some nack.range)) in
    omega (arith, length-append (head ++ octets_of_part nack.part) (octets_of_range nack.range), length-append head (octets_of_part nack.part), length-nack_head_of size nack.sn e1 (bit (is_some nack.part)) (bit (is_some nack.range)), length-part_of nack.part, length-range_of nack.range)

-- elements have the sum over all
length-nacks_of : (size : SnSize) (nacks : List Nack) → length (nacks_of size nacks) ≡ nacks_len size nacks
length-nacks_of size [] = refl
length-nacks_of size (nack ∷ nacks) =
    omega (arith, length-append (nack_of size nack (e1_before nacks)) (nacks_of size nacks), length-nack_of size nack (e1_before nacks), length-nacks_of size nacks, sum_by-cons (nack_len size) nack nacks)

-- and a STATUS has 3 more
pub length-bytes_of : (size : SnSize) (status : Status) → length (status_bytes size status) ≡ status_len size status
length-bytes_of size status = omega (arith, length-append (header_of size status.ack (e1_before status.nacks)) (nacks_of size status.nacks), length-header_of size status.ack (e1_before status.nacks), length-nacks_of size status.nacks)
