-- Octets have one reading: they spell at most one STATUS, whatever follows it.
use Rattle.std.proofs.Common.{◌≡◌, ℕ, Bool, true, false, List, [], ◌∷◌, ◌++◌, Option, Some, None, refl, sym, ap, ◌∙◌, append_assoc, arith}
use Rattle.std.specs.Prelude.{is_some}
use Rattle.link_base.specs.declared.names.SnSize.{SnSize}
use Rattle.link_base.specs.declared.names.SnSize.TheVariants.{S12, S18}
use Rattle.rlc_status.specs.declared.status.Nack.{Nack}
use Rattle.rlc_status.specs.declared.status.Status.{Status}
use Rattle.rlc_status.specs.Format.{bit, Then, IsFree, IsHeader, IsNackHead, IsPart, IsRange, SpellsNack, IsNacks, IsStatus, e1_before}

-- a bit tells whether something follows
bit_one : (a b : Bool) → bit a ≡ bit b → a ≡ b
bit_one true true e = refl
bit_one false false e = refl
bit_one a b e = absurd (omega (arith, e))

same_part : (p q : ℕ × ℕ) → p.0 ≡ q.0 → p.1 ≡ q.1 → Some p ≡ Some q
same_part p q x y = ap (λ (n : ℕ). Some (n, p.1)) x ∙ ap (λ (n : ℕ). Some (q.0, n)) y

same_nack : (n m : Nack) → n.sn ≡ m.sn → n.part ≡ m.part → n.range ≡ m.range → n ≡ m
same_nack n m x y z =
    ap (λ (sn : ℕ). record { sn = sn; part = n.part; range = n.range }) x
    ∙ ap (λ (part : Option (ℕ × ℕ)). record { sn = m.sn; part = part; range = n.range }) y
    ∙ ap (λ (range : Option ℕ). record { sn = m.sn; part = m.part; range = range }) z

same_status : (s t : Status) → s.ack ≡ t.ack → s.nacks ≡ t.nacks → s ≡ t
same_status s t x y = ap (λ (ack : ℕ). record { ack = ack; nacks = s.nacks }) x ∙ ap (λ (nacks : List Nack). record { ack = t.ack; nacks = nacks }) y

same_list : (n m : Nack) (ns ms : List Nack) → n ≡ m → ns ≡ ms → n ∷ ns ≡ m ∷ ms
same_list n m ns ms x y = cc

-- what follows the front, where more octets stand behind
pub behind : (P Q : List ℕ → Type 0) (octets rest : List ℕ) (t : Then P Q octets) → octets ++ rest ≡ t.front ++ (t.rest ++ rest)
behind P Q octets rest t = ap (λ (x : List ℕ). x ++ rest) t.both ∙ append_assoc t.front t.rest rest

-- no header begins another one
pub header_one : (size : SnSize) (ack ack' e1 e1' : ℕ) (front front' rest rest' : List ℕ) → IsHeader IsFree size ack e1 front → IsHeader IsFree size ack' e1' front' → front ++ rest ≡ front' ++ rest' → (ack ≡ ack') × (e1 ≡ e1') × (rest ≡ rest')
header_one S12 ack ack' e1 e1' (a ∷ b ∷ c ∷ []) (a' ∷ b' ∷ c' ∷ []) rest rest' h h' same =
    let first : a ≡ a' = cc in
    let second : b ≡ b' = cc in
    let third : c ≡ c' = cc in
    let others : rest ≡ rest' = cc in
    (omega (arith, h.1, h'.1), omega (arith, h.2, h'.2), others)
header_one S18 ack ack' e1 e1' (a ∷ b ∷ c ∷ []) (a' ∷ b' ∷ c' ∷ []) rest rest' h h' same =
    let first : a ≡ a' = cc in
    let second : b ≡ b' = cc in
    let third : c ≡ c' = cc in
    let others : rest ≡ rest' = cc in
    (omega (arith, h.1, h'.1), omega (arith, h.2, h'.2), others)
header_one S12 ack ack' e1 e1' (a ∷ b ∷ c ∷ []) front' rest rest' h h' same = absurd h'
header_one S18 ack ack' e1 e1' (a ∷ b ∷ c ∷ []) front' rest rest' h h' same = absurd h'
header_one size ack ack' e1 e1' front front' rest rest' h h' same = absurd h

-- nor do the first octets of an element
head_one : (size : SnSize) (sn sn' e1 e1' e2 e2' e3 e3' : ℕ) (front front' rest rest' : List ℕ) → IsNackHead IsFree size sn e1 e2 e3 front → IsNackHead IsFree size sn' e1' e2' e3' front' → front ++ rest ≡ front' ++ rest'
    → (sn ≡ sn') × (e1 ≡ e1') × (e2 ≡ e2') × (e3 ≡ e3') × (rest ≡ rest')
head_one S12 sn sn' e1 e1' e2 e2' e3 e3' (a ∷ b ∷ []) (a' ∷ b' ∷ []) rest rest' h h' same =
    let first : a ≡ a' = cc in
    let second : b ≡ b' = cc in
    let others : rest ≡ rest' = cc in
    (omega (arith, h.0, h'.0), omega (arith, h.1, h'.1), omega (arith, h.2, h'.2), omega (arith, h.3, h'.3), others)
head_one S18 sn sn' e1 e1' e2 e2' e3 e3' (a ∷ b ∷ c ∷ []) (a' ∷ b' ∷ c' ∷ []) rest rest' h h' same =
    let first : a ≡ a' = cc in
    let second : b ≡ b' = cc in
    let third : c ≡ c' = cc in
    let others : rest ≡ rest' = cc in
    (omega (arith, h.0, h'.0), omega (arith, h.1, h'.1), omega (arith, h.2, h'.2), omega (arith, h.3, h'.3), others)
head_one S12 sn sn' e1 e1' e2 e2' e3 e3' (a ∷ b ∷ []) front' rest rest' h h' same = absurd h'
head_one S18 sn sn' e1 e1' e2 e2' e3 e3' (a ∷ b ∷ c ∷ []) front' rest rest' h h' same = absurd h'
head_one size sn sn' e1 e1' e2 e2' e3 e3' front front' rest rest' h h' same = absurd h

-- nor a part, where both have one or neither does
part_one : (part part' : Option (ℕ × ℕ)) (front front' rest rest' : List ℕ) → IsPart part front → IsPart part' front' → is_some part ≡ is_some part' → front ++ rest ≡ front' ++ rest' → (part ≡ part') × (rest ≡ rest')
part_one None None [] [] rest rest' h h' alike same = (refl, same)
part_one (Some p) (Some p') (a ∷ b ∷ c ∷ d ∷ []) (a' ∷ b' ∷ c' ∷ d' ∷ []) rest rest' h h' alike same =
    (same_part p p' (cc) (cc), cc)
part_one None (Some p') front front' rest rest' h h' alike same = absurd cc
part_one (Some p) None front front' rest rest' h h' alike same = absurd cc
part_one None None [] front' rest rest' h h' alike same = absurd h'
part_one (Some p) (Some p') (a ∷ b ∷ c ∷ d ∷ []) front' rest rest' h h' alike same = absurd h'
part_one part part' front front' rest rest' h h' alike same = absurd h

-- nor a range
range_one : (range range' : Option ℕ) (front front' rest rest' : List ℕ) → IsRange range front → IsRange range' front' → is_some range ≡ is_some range' → front ++ rest ≡ front' ++ rest' → (range ≡ range') × (rest ≡ rest')
range_one None None [] [] rest rest' h h' alike same = (refl, same)
range_one (Some k) (Some k') (a ∷ []) (a' ∷ []) rest rest' h h' alike same = (cc, cc)
range_one None (Some k') front front' rest rest' h h' alike same = absurd cc
range_one (Some k) None front front' rest rest' h h' alike same = absurd cc
range_one None None [] front' rest rest' h h' alike same = absurd h'
range_one (Some k) (Some k') (a ∷ []) front' rest rest' h h' alike same = absurd h'
range_one range range' front front' rest rest' h h' alike same = absurd h

-- nor an element
pub nack_one : (size : SnSize) (nack nack' : Nack) (e1 e1' : ℕ) (front front' rest rest' : List ℕ) → SpellsNack IsFree size nack e1 front → SpellsNack IsFree size nack' e1' front' → front ++ rest ≡ front' ++ rest'
    → (nack ≡ nack') × (e1 ≡ e1') × (rest ≡ rest')
nack_one size nack nack' e1 e1' front front' rest rest' s s' same =
    let heads = head_one size _ _ _ _ _ _ _ _ s.front s'.front _ _ s.first s'.first (sym (behind _ _ front rest s) ∙ same ∙ behind _ _ front' rest' s') in
    let parts = part_one nack.part nack'.part s.second.front s'.second.front _ _ s.second.first s'.second.first (bit_one _ _ heads.2) (sym (behind _ _ s.rest rest s.second) ∙ heads.4 ∙ behind _ _ s'.rest rest' s'.second) in
    let ranges = range_one nack.range nack'.range s.second.rest s'.second.rest rest rest' s.second.second s'.second.second (bit_one _ _ heads.3) parts.1 in
    (same_nack nack nack' heads.0 parts.0 ranges.0, heads.1, ranges.1)

-- nor elements
pub nacks_one : (size : SnSize) (nacks nacks' : List Nack) (front front' rest rest' : List ℕ) → IsNacks IsFree size nacks front → IsNacks IsFree size nacks' front' → e1_before nacks ≡ e1_before nacks' → front ++ rest ≡ front' ++ rest'
    → (nacks ≡ nacks') × (rest ≡ rest')
nacks_one size [] [] front front' rest rest' t t' alike same = (refl, ap (λ (x : List ℕ). x ++ rest) (sym t) ∙ same ∙ ap (λ (x : List ℕ). x ++ rest') t')
nacks_one size (n ∷ nacks) (n' ∷ nacks') front front' rest rest' t t' alike same =
    let first = nack_one size n n' _ _ t.front t'.front _ _ t.first.spelt t'.first.spelt (sym (behind _ _ front rest t) ∙ same ∙ behind _ _ front' rest' t') in
    let others = nacks_one size nacks nacks' t.rest t'.rest rest rest' t.second t'.second first.1 first.2 in
    (same_list n n' nacks nacks' first.0 others.0, others.1)
nacks_one size nacks nacks' front front' rest rest' t t' alike same = absurd (omega (arith, alike))

-- nor a STATUS
pub status_one : (size : SnSize) (status status' : Status) (front front' rest rest' : List ℕ) → IsStatus size status front → IsStatus size status' front' → front ++ rest ≡ front' ++ rest' → (status ≡ status') × (rest ≡ rest')
status_one size status status' front front' rest rest' t t' same =
    let headers = header_one size _ _ _ _ t.front t'.front _ _ t.first t'.first (sym (behind _ _ front rest t) ∙ same ∙ behind _ _ front' rest' t') in
    let all = nacks_one size status.nacks status'.nacks t.rest t'.rest rest rest' t.second t'.second headers.1 headers.2 in
    (same_status status status' headers.0 all.0, all.1)

-- so octets spell at most one
pub one_reading : (size : SnSize) (status status' : Status) (octets : List ℕ) → IsStatus size status octets → IsStatus size status' octets → status ≡ status'
one_reading size status status' octets t t' = (status_one size status status' octets octets [] [] t t' refl).0
