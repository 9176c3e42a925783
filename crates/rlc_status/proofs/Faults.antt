-- Octets have at most one fault, and none where they spell a STATUS.
use Rattle.std.proofs.Common.{◌≡◌, ℕ, ◌+◌, ◌*◌, ◌<◌, ◌≤◌, List, [], ◌∷◌, ◌++◌, length, Option, Some, None, refl, sym, ap, subst, ◌∙◌, arith, length-append, inl, inr}
use Rattle.std.specs.Prelude.{◌⊎◌, is_some, unwrap_or}
use Rattle.std.proofs.lemmas.List.{append-nil}
use Rattle.link_base.specs.declared.names.SnSize.{SnSize}
use Rattle.link_base.specs.declared.names.SnSize.TheVariants.{S12, S18}
use Rattle.rlc_status.specs.declared.status.Nack.{Nack}
use Rattle.rlc_status.specs.declared.status.Status.{Status}
use Rattle.rlc_status.specs.declared.fault.StatusFault.{StatusFault}
use Rattle.rlc_status.specs.declared.fault.StatusFault.TheVariants.{Short, IsData, ReservedType, ZeroRange, BackPart, Trailing}
use Rattle.rlc_status.specs.Format.{bit, Then, IsFree, IsHeader, IsHeaderFault, IsNackHead, IsPart, IsRange, SpellsNack, IsNack, IsNacks, IsStatus, e1_before, IsWrongNack, nack_len_at, IsNackFault, IsFaultBehind, IsStatusFault}
use Rattle.rlc_status.specs.Format.IsStatusFault.{of_header, of_nack, of_end}
use Rattle.rlc_status.proofs.Unique.{behind, header_one, nack_one, status_one}

-- E2 and E3 tell the length
pub len_at : (size : SnSize) (sn e1 e2 e3 : ℕ) (front rest : List ℕ) → IsNackHead IsFree size sn e1 e2 e3 front → nack_len_at size (front ++ rest) ≡ length front + 4 * e2 + e3
len_at S12 sn e1 e2 e3 (a ∷ b ∷ []) rest h = omega (arith, h.2, h.3)
len_at S18 sn e1 e2 e3 (a ∷ b ∷ c ∷ []) rest h = omega (arith, h.2, h.3)
len_at size sn e1 e2 e3 front rest h = absurd h

-- a part has four octets
pub part_len : (part : Option (ℕ × ℕ)) (front : List ℕ) → IsPart part front → length front ≡ 4 * bit (is_some part)
part_len None [] h = refl
part_len (Some p) (a ∷ b ∷ c ∷ d ∷ []) h = refl
part_len part front h = absurd h

-- a range has one
range_len : (range : Option ℕ) (front : List ℕ) → IsRange range front → length front ≡ bit (is_some range)
range_len None [] h = refl
range_len (Some k) (a ∷ []) h = refl
range_len range front h = absurd h

-- a spelt element is whole
whole : (size : SnSize) (nack : Nack) (e1 : ℕ) (front rest : List ℕ) → SpellsNack IsFree size nack e1 front → nack_len_at size (front ++ rest) ≤ length (front ++ rest)
whole size nack e1 front rest s =
    let t = s.second in
    let heads : length (front ++ rest) ≡ length s.front + length (s.rest ++ rest) = ap length (behind _ _ front rest s) ∙ length-append s.front (s.rest ++ rest) in
    let parts : length (s.rest ++ rest) ≡ length t.front + length (t.rest ++ rest) = ap length (behind _ _ s.rest rest t) ∙ length-append t.front (t.rest ++ rest) in
    let ranges : length (t.rest ++ rest) ≡ length t.rest + length rest = length-append t.rest rest in
    let at : nack_len_at size (front ++ rest) ≡ length s.front + 4 * bit (is_some nack.part) + bit (is_some nack.range) = ap (nack_len_at size) (behind _ _ front rest s) ∙ len_at size _ _ _ _ s.front (s.rest ++ rest) s.first in
    omega (arith, heads, parts, ranges, at, part_len nack.part t.front t.first, range_len nack.range t.rest t.second)

-- no right element is wrong
right : (size : SnSize) (nack : Nack) (e1 : ℕ) (front : List ℕ) (fault : StatusFault) → IsNack IsFree size nack e1 front → IsWrongNack nack fault → ⊥
right size nack e1 front ZeroRange n w = n.range w
right size nack e1 front BackPart n w = absurd (omega (arith, w.4, n.order w.0 w.1 w.2 w.3))
right size nack e1 front fault n w = absurd w

-- an element is wrong in one way at most
wrong_one : (nack : Nack) (f g : StatusFault) → IsWrongNack nack f → IsWrongNack nack g → f ≡ g
wrong_one nack ZeroRange ZeroRange w w' = refl
wrong_one nack BackPart BackPart w w' = refl
wrong_one nack ZeroRange BackPart w w' = absurd (omega (arith, sym (ap (λ (r : Option ℕ). unwrap_or r 1) w) ∙ w'.3))
wrong_one nack BackPart ZeroRange w w' = absurd (omega (arith, sym (ap (λ (r : Option ℕ). unwrap_or r 1) w') ∙ w.3))
wrong_one nack ZeroRange g w w' = absurd w'
wrong_one nack BackPart g w w' = absurd w'
wrong_one nack f g w w' = absurd w

-- the octets begin with a whole element that is wrong
abbrev BeginsWrong : SnSize → List ℕ → StatusFault → Type 0
BeginsWrong size octets fault = (nack : Nack) × (e1 : ℕ) × IsWrongNack nack fault × Then (SpellsNack IsFree size nack e1) (λ rest. Unit {0}) octets

-- the element at the front isn't whole, or is whole and wrong
by_whole : (size : SnSize) (octets : List ℕ) (fault : StatusFault) → IsNackFault size octets fault → ((fault ≡ Short) × (length octets < nack_len_at size octets)) ⊎ BeginsWrong size octets fault
by_whole size octets Short w = inl (refl, w)
by_whole size octets fault w = inr w

-- and not both
not_short : (size : SnSize) (nack : Nack) (e1 : ℕ) (octets : List ℕ) (Q : List ℕ → Type 0) → Then (SpellsNack IsFree size nack e1) Q octets → length octets < nack_len_at size octets → ⊥
not_short size nack e1 octets Q t short = absurd (omega (arith, subst (λ (o : List ℕ). nack_len_at size o ≤ length o) (sym t.both) (whole size nack e1 t.front t.rest t.first)))

-- a right element has no fault
no_nack_fault : (size : SnSize) (nack : Nack) (e1 : ℕ) (octets : List ℕ) (fault : StatusFault) (Q : List ℕ → Type 0) → Then (IsNack IsFree size nack e1) Q octets → IsNackFault size octets fault → ⊥
no_nack_fault size nack e1 octets fault Q t w =
    elim (by_whole size octets fault w) [
      | inl short ↦ absurd (not_short size nack e1 octets Q (record { front = t.front; rest = t.rest; both = t.both; first = t.first.spelt; second = t.second }) short.1)
      | inr wrong ↦ right size nack e1 t.front fault t.first (subst (λ (n : Nack). IsWrongNack n fault) (nack_one size wrong.0 nack _ _ _ _ _ _ wrong.3.first t.first.spelt (sym wrong.3.both ∙ t.both)).0 wrong.2)
    ]

-- the element at the front has one fault at most
nack_fault_one : (size : SnSize) (octets : List ℕ) (f g : StatusFault) → IsNackFault size octets f → IsNackFault size octets g → f ≡ g
nack_fault_one size octets f g w w' =
    elim (by_whole size octets f w) [
      | inl short ↦ elim (by_whole size octets g w') [
        | inl short' ↦ short.0 ∙ sym short'.0
        | inr wrong' ↦ absurd (not_short size wrong'.0 wrong'.1 octets _ wrong'.3 short.1)
      ]
      | inr wrong ↦ elim (by_whole size octets g w') [
        | inl short' ↦ absurd (not_short size wrong.0 wrong.1 octets _ wrong.3 short'.1)
        | inr wrong' ↦ wrong_one wrong'.0 f g (subst (λ (n : Nack). IsWrongNack n f) (nack_one size wrong.0 wrong'.0 _ _ _ _ _ _ wrong.3.first wrong'.3.first (sym wrong.3.both ∙ wrong'.3.both)).0 wrong.2) wrong'.2
      ]
    ]

-- so has the first element that isn't right
behind_one : (size : SnSize) (nacks nacks' : List Nack) (f g : StatusFault) (octets : List ℕ) → IsFaultBehind size nacks f octets → IsFaultBehind size nacks' g octets → f ≡ g
behind_one size [] [] f g octets w w' = nack_fault_one size octets f g w w'
behind_one size [] (n' ∷ nacks') f g octets w t' = absurd (no_nack_fault size n' 1 octets f _ t' w)
behind_one size (n ∷ nacks) [] f g octets t w' = absurd (no_nack_fault size n 1 octets g _ t w')
behind_one size (n ∷ nacks) (n' ∷ nacks') f g octets t t' =
    let first = nack_one size n n' _ _ t.front t'.front _ _ t.first.spelt t'.first.spelt (sym t.both ∙ t'.both) in
    behind_one size nacks nacks' f g t'.rest (subst (λ (o : List ℕ). IsFaultBehind size nacks f o) first.2 t.second) t'.second

-- there is none where all elements are right, whatever stands behind them
no_behind : (size : SnSize) (nacks nacks' : List Nack) (fault : StatusFault) (front rest octets : List ℕ) → IsNacks IsFree size nacks front → e1_before nacks ≡ 1 → octets ≡ front ++ rest → IsFaultBehind size nacks' fault octets → ⊥
no_behind size [] nacks' fault front rest octets t one both w = absurd (omega (arith, one))
no_behind size (n ∷ nacks) [] fault front rest octets t one both w =
    no_nack_fault size n _ octets fault (λ r. Unit {0}) (record { front = t.front; rest = t.rest ++ rest; both = both ∙ behind _ _ front rest t; first = t.first; second = tt }) w
no_behind size (n ∷ nacks) (n' ∷ nacks') fault front rest octets t one both t' =
    let first = nack_one size n n' _ _ t.front t'.front _ _ t.first.spelt t'.first.spelt (sym (behind _ _ front rest t) ∙ sym both ∙ t'.both) in
    no_behind size nacks nacks' fault t.rest rest t'.rest t.second first.1 (sym first.2) t'.second

-- a header has no fault, whatever stands behind it
header_right : (size : SnSize) (ack e1 : ℕ) (front rest : List ℕ) (fault : StatusFault) → IsHeader IsFree size ack e1 front → IsHeaderFault (front ++ rest) fault → ⊥
header_right S12 ack e1 (a ∷ b ∷ c ∷ []) rest IsData h w = absurd (omega (arith, h.0.dc))
header_right S18 ack e1 (a ∷ b ∷ c ∷ []) rest IsData h w = absurd (omega (arith, h.0.dc))
header_right S12 ack e1 (a ∷ b ∷ c ∷ []) rest ReservedType h w = w.1 h.0.cpt
header_right S18 ack e1 (a ∷ b ∷ c ∷ []) rest ReservedType h w = w.1 h.0.cpt
header_right S12 ack e1 (a ∷ b ∷ c ∷ []) rest Short h w = absurd (omega (arith, w.1))
header_right S18 ack e1 (a ∷ b ∷ c ∷ []) rest Short h w = absurd (omega (arith, w.1))
header_right S12 ack e1 (a ∷ b ∷ c ∷ []) rest fault h w = absurd w
header_right S18 ack e1 (a ∷ b ∷ c ∷ []) rest fault h w = absurd w
header_right size ack e1 front rest fault h w = absurd h

-- the first octets have one fault at most
header_fault_one : (octets : List ℕ) (f g : StatusFault) → IsHeaderFault octets f → IsHeaderFault octets g → f ≡ g
header_fault_one [] Short Short w w' = refl
header_fault_one (a ∷ octets) IsData IsData w w' = refl
header_fault_one (a ∷ octets) ReservedType ReservedType w w' = refl
header_fault_one (a ∷ octets) Short Short w w' = refl
header_fault_one (a ∷ octets) IsData ReservedType w w' = absurd (omega (arith, w'.0))
header_fault_one (a ∷ octets) ReservedType IsData w w' = absurd (omega (arith, w.0))
header_fault_one (a ∷ octets) IsData Short w w' = absurd (omega (arith, w'.0.dc))
header_fault_one (a ∷ octets) Short IsData w w' = absurd (omega (arith, w.0.dc))
header_fault_one (a ∷ octets) ReservedType Short w w' = absurd (w.1 w'.0.cpt)
header_fault_one (a ∷ octets) Short ReservedType w w' = absurd (w'.1 w.0.cpt)
header_fault_one [] Short g w w' = absurd w'
header_fault_one (a ∷ octets) IsData g w w' = absurd w'
header_fault_one (a ∷ octets) ReservedType g w w' = absurd w'
header_fault_one (a ∷ octets) Short g w w' = absurd w'
header_fault_one octets f g w w' = absurd w

-- the same where it stands in front of others
after_header : (size : SnSize) (ack e1 : ℕ) (octets : List ℕ) (Q : List ℕ → Type 0) (fault : StatusFault) → Then (IsHeader IsFree size ack e1) Q octets → IsHeaderFault octets fault → ⊥
after_header size ack e1 octets Q fault t w = header_right size ack e1 t.front t.rest fault t.first (subst (λ (o : List ℕ). IsHeaderFault o fault) t.both w)

-- no element of a STATUS has a fault, whatever stands behind it
in_status : (size : SnSize) (status : Status) (ack : ℕ) (nacks : List Nack) (fault : StatusFault) (front rest octets : List ℕ) → IsStatus size status front → octets ≡ front ++ rest → Then (IsHeader IsFree size ack 1) (λ o. IsFaultBehind size nacks fault o) octets → ⊥
in_status size status ack nacks fault front rest octets t both t' =
    let headers = header_one size _ _ _ _ t.front t'.front _ _ t.first t'.first (sym (behind _ _ front rest t) ∙ sym both ∙ t'.both) in
    no_behind size status.nacks nacks fault t.rest rest t'.rest t.second headers.1 (sym headers.2) t'.second

-- a STATUS has no fault
pub no_fault : (size : SnSize) (status : Status) (octets : List ℕ) (fault : StatusFault) → IsStatus size status octets → IsStatusFault size octets fault → ⊥
no_fault size status octets fault t (of_header w) = after_header size _ _ octets _ fault t w
no_fault size status octets fault t (of_nack ack nacks w) = in_status size status ack nacks fault octets [] octets t (sym (append-nil octets)) w
no_fault size status octets Trailing t (of_end other w) =
    let none : [] ≡ w.rest = (status_one size status other octets w.front [] w.rest t w.first (append-nil octets ∙ w.both)).1 in
    absurd (omega (arith, ap length none, w.second))

-- octets have one fault at most
pub one_fault : (size : SnSize) (octets : List ℕ) (f g : StatusFault) → IsStatusFault size octets f → IsStatusFault size octets g → f ≡ g
one_fault size octets f g (of_header w) (of_header w') = header_fault_one octets f g w w'
one_fault size octets f g (of_header w) (of_nack ack' nacks' w') = absurd (after_header size _ _ octets _ f w' w)
one_fault size octets f Trailing (of_header w) (of_end status' w') = absurd (header_right size _ _ w'.first.front (w'.first.rest ++ w'.rest) f w'.first.first (subst (λ (o : List ℕ). IsHeaderFault o f) (w'.both ∙ behind _ _ w'.front w'.rest w'.first) w))
one_fault size octets f g (of_nack ack nacks w) (of_header w') = absurd (after_header size _ _ octets _ g w w')
one_fault size octets f g (of_nack ack nacks w) (of_nack ack' nacks' w') =
    let headers = header_one size _ _ _ _ w.front w'.front _ _ w.first w'.first (sym w.both ∙ w'.both) in
    behind_one size nacks nacks' f g w'.rest (subst (λ (o : List ℕ). IsFaultBehind size nacks f o) headers.2 w.second) w'.second
one_fault size octets f Trailing (of_nack ack nacks w) (of_end status' w') = absurd (in_status size status' ack nacks f w'.front w'.rest octets w'.first w'.both w)
one_fault size octets Trailing g (of_end status w) (of_header w') = absurd (header_right size _ _ w.first.front (w.first.rest ++ w.rest) g w.first.first (subst (λ (o : List ℕ). IsHeaderFault o g) (w.both ∙ behind _ _ w.front w.rest w.first) w'))
one_fault size octets Trailing g (of_end status w) (of_nack ack' nacks' w') = absurd (in_status size status ack' nacks' g w.front w.rest octets w.first w.both w')
one_fault size octets Trailing Trailing (of_end status w) (of_end status' w') = refl
