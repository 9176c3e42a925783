-- What octets below 256 spell fits its format, and with reserved bits 0 they are the ones that are written.
use Rattle.std.proofs.Common.{◌≡◌, ◌≢◌, ℕ, zero, suc, ◌+◌, ◌*◌, ◌/◌, ◌%◌, ◌<◌, ◌≤◌, List, [], ◌∷◌, ◌++◌, Option, Some, None, refl, sym, ap, subst, ◌∙◌, append_assoc, arith}
use Rattle.std.specs.Prelude.{is_some}
use Rattle.std.specs.List.{AllByRecursion}
use Rattle.std.proofs.lemmas.List.Elements.{recursion_from_All}
use Rattle.link_base.specs.declared.names.SnSize.{SnSize}
use Rattle.link_base.specs.declared.names.SnSize.TheVariants.{S12, S18}
use Rattle.link_base.specs.SequenceNumbers.{modulus}
use Rattle.rlc_status.specs.declared.status.Nack.{Nack}
use Rattle.rlc_status.specs.declared.status.Status.{Status}
use Rattle.rlc_status.specs.Format.{AllFit, StatusFits, bit, Then, IsFree, IsZero, IsHeader, IsNackHead, IsPart, IsRange, SpellsNack, IsNacks, IsStatus, IsPlainStatus, e1_before, header_of, nack_head_of, octets_of_part, octets_of_range, nack_of, nacks_of, status_bytes}
use Rattle.link_base.specs.Octets.{AreOctets}

-- the same, by recursion
abbrev AreBelow : List ℕ → Type 0
AreBelow octets = AllByRecursion (λ octet. octet < 256) octets

-- of a list in two parts
parts : (front rest : List ℕ) → AreBelow (front ++ rest) → AreBelow front × AreBelow rest
parts [] rest all = (tt, all)
parts (o ∷ front) rest all = let others = parts front rest all.1 in ((all.0, others.0), others.1)

-- of octets in two parts
both : (P Q : List ℕ → Type 0) (octets : List ℕ) (t : Then P Q octets) → AreBelow octets → AreBelow t.front × AreBelow t.rest
both P Q octets t all = parts t.front t.rest (subst AreBelow t.both all)

-- the octets of a header with reserved bits 0
header_octets : (size : SnSize) (ack e1 : ℕ) (octets : List ℕ) → IsHeader IsZero size ack e1 octets → AreBelow octets → octets ≡ header_of size ack e1
header_octets S12 ack e1 (a ∷ b ∷ c ∷ []) h all =
    let first : a ≡ ack / 256 = omega (arith, h.0.dc, h.0.cpt, h.1, all.0, all.1.0) in
    let second : b ≡ ack % 256 = omega (arith, h.1, all.1.0) in
    let third : c ≡ e1 * 128 = omega (arith, h.2, h.3, all.1.1.0) in
    cc
header_octets S18 ack e1 (a ∷ b ∷ c ∷ []) h all =
    let first : a ≡ ack / 16384 = omega (arith, h.0.dc, h.0.cpt, h.1, all.0, all.1.0, all.1.1.0) in
    let second : b ≡ ack / 64 % 256 = omega (arith, h.1, all.1.0, all.1.1.0) in
    let third : c ≡ ack % 64 * 4 + e1 * 2 = omega (arith, h.1, h.2, h.3, all.1.1.0) in
    cc
header_octets size ack e1 octets h all = absurd h

-- the same of the first octets of an element
head_octets : (size : SnSize) (sn e1 e2 e3 : ℕ) (octets : List ℕ) → IsNackHead IsZero size sn e1 e2 e3 octets → AreBelow octets → octets ≡ nack_head_of size sn e1 e2 e3
head_octets S12 sn e1 e2 e3 (a ∷ b ∷ []) h all =
    let first : a ≡ sn / 16 = omega (arith, h.0, all.1.0) in
    let second : b ≡ sn % 16 * 16 + e1 * 8 + e2 * 4 + e3 * 2 = omega (arith, h.0, h.1, h.2, h.3, h.4, all.1.0) in
    cc
head_octets S18 sn e1 e2 e3 (a ∷ b ∷ c ∷ []) h all =
    let first : a ≡ sn / 1024 = omega (arith, h.0, all.1.0, all.1.1.0) in
    let second : b ≡ sn / 4 % 256 = omega (arith, h.0, all.1.0, all.1.1.0) in
    let third : c ≡ sn % 4 * 64 + e1 * 32 + e2 * 16 + e3 * 8 = omega (arith, h.0, h.1, h.2, h.3, h.4, all.1.1.0) in
    cc
head_octets size sn e1 e2 e3 octets h all = absurd h

-- of a part
part_octets : (part : Option (ℕ × ℕ)) (octets : List ℕ) → IsPart part octets → AreBelow octets → octets ≡ octets_of_part part
part_octets None [] h all = refl
part_octets (Some p) (a ∷ b ∷ c ∷ d ∷ []) h all =
    let first : a ≡ p.0 / 256 = omega (arith, h.0, all.1.0) in
    let second : b ≡ p.0 % 256 = omega (arith, h.0, all.1.0) in
    let third : c ≡ p.1 / 256 = omega (arith, h.1, all.1.1.1.0) in
    let fourth : d ≡ p.1 % 256 = omega (arith, h.1, all.1.1.1.0) in
    cc
part_octets part octets h all = absurd h

-- of a range
range_octets : (range : Option ℕ) (octets : List ℕ) → IsRange range octets → octets ≡ octets_of_range range
range_octets None [] h = refl
range_octets (Some k) (a ∷ []) h = cc
range_octets range octets h = absurd h

-- of an element
nack_octets : (size : SnSize) (nack : Nack) (e1 : ℕ) (octets : List ℕ) → SpellsNack IsZero size nack e1 octets → AreBelow octets → octets ≡ nack_of size nack e1
nack_octets size nack e1 octets s all =
    let t = s.second in
    let first = both _ _ octets s all in
    let second = both _ _ s.rest t first.1 in
    let head = head_octets size _ _ _ _ s.front s.first first.0 in
    let part = part_octets nack.part t.front t.first second.0 in
    let range = range_octets nack.range t.rest t.second in
    s.both ∙ ap (λ (r : List ℕ). s.front ++ r) t.both ∙ sym (append_assoc s.front t.front t.rest) ∙ ap (λ (x : List ℕ). x ++ t.front ++ t.rest) head ∙ ap (λ (x : List ℕ). nack_head_of size nack.sn e1 (bit (is_some nack.part)) (bit (is_some nack.range)) ++ x ++ t.rest) part
    ∙ ap (λ (x : List ℕ). nack_head_of size nack.sn e1 (bit (is_some nack.part)) (bit (is_some nack.range)) ++ octets_of_part nack.part ++ x) range

-- of elements
nacks_octets : (size : SnSize) (nacks : List Nack) (octets : List ℕ) → IsNacks IsZero size nacks octets → AreBelow octets → octets ≡ nacks_of size nacks
nacks_octets size [] octets t all = t
nacks_octets size (nack ∷ nacks) octets t all =
    let cut = both _ _ octets t all in
    t.both ∙ ap (λ (x : List ℕ). x ++ t.rest) (nack_octets size nack _ t.front t.first.spelt cut.0) ∙ ap (λ (x : List ℕ). nack_of size nack (e1_before nacks) ++ x) (nacks_octets size nacks t.rest t.second cut.1)

-- of a STATUS
pub plain_octets : (size : SnSize) (s : Status) (octets : List ℕ) → AreOctets octets → IsPlainStatus size s octets → octets ≡ status_bytes size s
plain_octets size s octets all t =
    let cut = both _ _ octets t (recursion_from_All (λ octet. octet < 256) octets all) in
    t.both ∙ ap (λ (x : List ℕ). x ++ t.rest) (header_octets size _ _ t.front t.first cut.0) ∙ ap (λ (x : List ℕ). header_of size s.ack (e1_before s.nacks) ++ x) (nacks_octets size s.nacks t.rest t.second cut.1)

-- ACK_SN fits
header_fits : (size : SnSize) (ack e1 : ℕ) (octets : List ℕ) → IsHeader IsFree size ack e1 octets → AreBelow octets → ack < modulus size
header_fits S12 ack e1 (a ∷ b ∷ c ∷ []) h all = omega (arith, h.1, all.1.0)
header_fits S18 ack e1 (a ∷ b ∷ c ∷ []) h all = omega (arith, h.1, all.1.0, all.1.1.0)
header_fits size ack e1 octets h all = absurd h

-- NACK_SN fits
head_fits : (size : SnSize) (sn e1 e2 e3 : ℕ) (octets : List ℕ) → IsNackHead IsFree size sn e1 e2 e3 octets → AreBelow octets → sn < modulus size
head_fits S12 sn e1 e2 e3 (a ∷ b ∷ []) h all = omega (arith, h.0, all.0, all.1.0)
head_fits S18 sn e1 e2 e3 (a ∷ b ∷ c ∷ []) h all = omega (arith, h.0, all.0, all.1.0, all.1.1.0)
head_fits size sn e1 e2 e3 octets h all = absurd h

-- SOstart and SOend fit
part_fits : (part : Option (ℕ × ℕ)) (octets : List ℕ) → IsPart part octets → AreBelow octets → (x y : ℕ) → part ≡ Some (x, y) → (x < 65536) × (y < 65536)
part_fits None [] h all x y e = absurd cc
part_fits (Some p) (a ∷ b ∷ c ∷ d ∷ []) h all x y e =
    let start : p.0 ≡ x = cc in
    let end : p.1 ≡ y = cc in
    (omega (arith, h.0, all.0, all.1.0), omega (arith, h.1, all.1.1.0, all.1.1.1.0))
part_fits part octets h all x y e = absurd h

-- a range fits
range_fits : (range : Option ℕ) (octets : List ℕ) → IsRange range octets → AreBelow octets → range ≢ Some 0 → (k : ℕ) → range ≡ Some k → (1 ≤ k) × (k ≤ 255)
range_fits range octets h all some zero e = absurd (some e)
range_fits None [] h all some (suc k) e = absurd cc
range_fits (Some r) (a ∷ []) h all some (suc k) e =
    let same : r ≡ suc k = cc in
    (omega arith, omega (arith, h, all.0))
range_fits range octets h all some (suc k) e = absurd h

-- elements fit
nacks_fit : (size : SnSize) (nacks : List Nack) (octets : List ℕ) → IsNacks IsFree size nacks octets → AreBelow octets → AllFit size nacks
nacks_fit size [] octets t all = tt
nacks_fit size (nack ∷ nacks) octets t all =
    let s = t.first.spelt in
    let cut = both _ _ octets t all in
    let first = both _ _ t.front s cut.0 in
    let second = both _ _ s.rest s.second first.1 in (
      record {
        sn = head_fits size _ _ _ _ s.front s.first first.0;
        range = range_fits nack.range s.second.rest s.second.second second.1 t.first.range;
        part = part_fits nack.part s.second.front s.second.first second.0;
        order = t.first.order;
      },
      nacks_fit size nacks t.rest t.second cut.1,
    )

-- what is spelt fits
pub spelt_fits : (size : SnSize) (s : Status) (octets : List ℕ) → AreOctets octets → IsStatus size s octets → StatusFits size s
spelt_fits size s octets all t =
    let cut = both _ _ octets t (recursion_from_All (λ octet. octet < 256) octets all) in
    (header_fits size _ _ t.front t.first cut.0, nacks_fit size s.nacks t.rest t.second cut.1)
