-- The octets that are written spell the STATUS, and no others with reserved bits 0 do.
use Rattle.std.proofs.Common.{ℕ, ◌<◌, Bool, true, false, List, [], ◌∷◌, ◌++◌, Option, Some, None, refl, append_assoc, arith}
use Rattle.std.specs.Prelude.{is_some}
use Rattle.link_base.specs.declared.names.SnSize.{SnSize}
use Rattle.link_base.specs.declared.names.SnSize.TheVariants.{S12, S18}
use Rattle.link_base.specs.SequenceNumbers.{modulus}
use Rattle.rlc_status.specs.declared.status.Nack.{Nack}
use Rattle.rlc_status.specs.declared.status.Status.{Status}
use Rattle.rlc_status.specs.Format.{NackFits, AllFit, StatusFits, bit, IsFree, IsZero, IsHeader, IsNackHead, IsPart, IsRange, SpellsNack, IsNack, IsNacks, IsStatus, IsPlainStatus, e1_before, header_of, nack_head_of, octets_of_part, octets_of_range, nack_of, nacks_of, status_bytes}

-- E1 is a bit
e1_below : (nacks : List Nack) → e1_before nacks < 2
e1_below [] = omega arith
e1_below (nack ∷ nacks) = omega arith

-- so are E2 and E3
bit_below : (b : Bool) → bit b < 2
bit_below true = omega arith
bit_below false = omega arith

-- the header that is written is spelt so
header_is : (size : SnSize) (ack e1 : ℕ) → ack < modulus size → e1 < 2 → IsHeader IsZero size ack e1 (header_of size ack e1)
header_is S12 ack e1 lt one = (record { dc = omega arith; cpt = omega arith }, omega arith, omega arith, omega arith)
header_is S18 ack e1 lt one = (record { dc = omega arith; cpt = omega arith }, omega arith, omega arith, omega arith)

-- so are the first octets of an element
head_is : (size : SnSize) (sn e1 e2 e3 : ℕ) → e1 < 2 → e2 < 2 → e3 < 2 → IsNackHead IsZero size sn e1 e2 e3 (nack_head_of size sn e1 e2 e3)
head_is S12 sn e1 e2 e3 x y z = (omega arith, omega arith, omega arith, omega arith, omega arith)
head_is S18 sn e1 e2 e3 x y z = (omega arith, omega arith, omega arith, omega arith, omega arith)

-- its part
part_is : (part : Option (ℕ × ℕ)) → IsPart part (octets_of_part part)
part_is None = tt
part_is (Some part) = (omega arith, omega arith)

-- its range
range_is : (range : Option ℕ) → IsRange range (octets_of_range range)
range_is None = tt
range_is (Some range) = refl

-- the element
nack_is : (size : SnSize) (nack : Nack) (e1 : ℕ) → NackFits size nack → e1 < 2 → IsNack IsZero size nack e1 (nack_of size nack e1)
nack_is size nack e1 fits one =
    let head = nack_head_of size nack.sn e1 (bit (is_some nack.part)) (bit (is_some nack.range)) in
    record {
      spelt = record {
        front = head;
        rest = octets_of_part nack.part ++ octets_of_range nack.range;
        both = append_assoc head (octets_of_part nack.part) (octets_of_range nack.range);
        first = head_is size nack.sn e1 _ _ one (bit_below (is_some nack.part)) (bit_below (is_some nack.range));
        second = record { front = octets_of_part nack.part; rest = octets_of_range nack.range; both = refl; first = part_is nack.part; second = range_is nack.range };
      };
      range = λ e. absurd (omega (arith, (fits.range 0 e).0));
      order = fits.order;
    }

-- all elements
nacks_are : (size : SnSize) (nacks : List Nack) → AllFit size nacks → IsNacks IsZero size nacks (nacks_of size nacks)
nacks_are size [] fits = refl
nacks_are size (nack ∷ nacks) fits = record { front = nack_of size nack (e1_before nacks); rest = nacks_of size nacks; both = refl; first = nack_is size nack _ fits.0 (e1_below nacks); second = nacks_are size nacks fits.1 }

-- and the STATUS
pub plain : (size : SnSize) (s : Status) → StatusFits size s → IsPlainStatus size s (status_bytes size s)
plain size s fits = record { front = header_of size s.ack (e1_before s.nacks); rest = nacks_of size s.nacks; both = refl; first = header_is size s.ack _ fits.0 (e1_below s.nacks); second = nacks_are size s.nacks fits.1 }

-- a header with reserved bits 0 is a header
header_free : (size : SnSize) (ack e1 : ℕ) (octets : List ℕ) → IsHeader IsZero size ack e1 octets → IsHeader IsFree size ack e1 octets
header_free S12 ack e1 (a ∷ b ∷ c ∷ []) h = (h.0, h.1, h.2, tt)
header_free S18 ack e1 (a ∷ b ∷ c ∷ []) h = (h.0, h.1, h.2, tt)
header_free size ack e1 octets h = absurd h

-- the same of the first octets of an element
head_free : (size : SnSize) (sn e1 e2 e3 : ℕ) (octets : List ℕ) → IsNackHead IsZero size sn e1 e2 e3 octets → IsNackHead IsFree size sn e1 e2 e3 octets
head_free S12 sn e1 e2 e3 (a ∷ b ∷ []) h = (h.0, h.1, h.2, h.3, tt)
head_free S18 sn e1 e2 e3 (a ∷ b ∷ c ∷ []) h = (h.0, h.1, h.2, h.3, tt)
head_free size sn e1 e2 e3 octets h = absurd h

-- of elements
nacks_free : (size : SnSize) (nacks : List Nack) (octets : List ℕ) → IsNacks IsZero size nacks octets → IsNacks IsFree size nacks octets
nacks_free size [] octets t = t
nacks_free size (nack ∷ nacks) octets t =
    let s = t.first.spelt in
    let spelt : SpellsNack IsFree size nack (e1_before nacks) t.front = record { front = s.front; rest = s.rest; both = s.both; first = head_free size _ _ _ _ s.front s.first; second = s.second } in
    record { front = t.front; rest = t.rest; both = t.both; first = record { spelt = spelt; range = t.first.range; order = t.first.order }; second = nacks_free size nacks t.rest t.second }

-- and of a STATUS
pub is_free : (size : SnSize) (s : Status) (octets : List ℕ) → IsPlainStatus size s octets → IsStatus size s octets
is_free size s octets t = record { front = t.front; rest = t.rest; both = t.both; first = header_free size _ _ t.front t.first; second = nacks_free size s.nacks t.rest t.second }
