-- Octets spell a STATUS or have a fault.
use Rattle.std.proofs.Common.{◌≡◌, ◌≢◌, ℕ, zero, suc, ◌+◌, ◌*◌, ◌<◌, ◌≤◌, Bool, true, false, List, [], ◌∷◌, ◌++◌, length, take, drop, Option, Some, None, refl, sym, ap, ◌∙◌, append_assoc, arith, length-append, length-drop, inl, inr}
use Rattle.std.specs.Prelude.{◌⊎◌, is_some, unwrap_or}
use Rattle.std.proofs.lemmas.Bool.{cases_lt, cases_eq}
use Rattle.link_base.specs.declared.names.SnSize.{SnSize}
use Rattle.link_base.specs.declared.names.SnSize.TheVariants.{S12, S18}
use Rattle.rlc_status.specs.declared.status.Nack.{Nack}
use Rattle.rlc_status.specs.declared.status.Status.{Status}
use Rattle.rlc_status.specs.declared.fault.StatusFault.{StatusFault}
use Rattle.rlc_status.specs.declared.fault.StatusFault.TheVariants.{Short, IsData, ReservedType, ZeroRange, BackPart, Trailing}
use Rattle.rlc_status.specs.Format.{bit, bits, Then, IsFree, IsStatusType, IsHeader, IsHeaderFault, IsNackHead, IsPart, IsRange, SpellsNack, IsNack, IsStatus, IsWrongNack, nack_len_at, IsNackFault, IsStatusFault}
use Rattle.rlc_status.specs.Format.IsStatusFault.{of_header}
use Rattle.rlc_status.proofs.Faults.{len_at, part_len}
use Rattle.rlc_status.proofs.Reading.{HasRead, begins, goes_on, ends, trails, fails}

-- a bit is that of a Bool
bit_of : (n : ℕ) → n < 2 → (b : Bool) × (n ≡ bit b)
bit_of zero lt = (false, refl)
bit_of (suc zero) lt = (true, refl)
bit_of (suc (suc n)) lt = absurd (omega (arith, lt))

-- any octets
abbrev Any : List ℕ → Type 0
Any octets = Unit {0}

-- the first octets of an element are there, or there are too few
head_or : (size : SnSize) (octets : List ℕ) → ((sn : ℕ) × (e1 : Bool) × (e2 : Bool) × (e3 : Bool) × Then (IsNackHead IsFree size sn (bit e1) (bit e2) (bit e3)) Any octets) ⊎ (length octets < nack_len_at size octets)
head_or S12 [] = inr (omega arith)
head_or S12 (a ∷ []) = inr (omega arith)
head_or S12 (a ∷ b ∷ rest) =
    let x = bit_of (bits b 3 3) (omega arith) in
    let y = bit_of (bits b 2 2) (omega arith) in
    let z = bit_of (bits b 1 1) (omega arith) in
    inl (a * 16 + bits b 7 4, x.0, y.0, z.0, record { front = a ∷ b ∷ []; rest = rest; both = refl; first = (refl, sym x.1, sym y.1, sym z.1, tt); second = tt })
head_or S18 [] = inr (omega arith)
head_or S18 (a ∷ []) = inr (omega arith)
head_or S18 (a ∷ b ∷ []) = inr (omega arith)
head_or S18 (a ∷ b ∷ c ∷ rest) =
    let x = bit_of (bits c 5 5) (omega arith) in
    let y = bit_of (bits c 4 4) (omega arith) in
    let z = bit_of (bits c 3 3) (omega arith) in
    inl (a * 1024 + b * 4 + bits c 7 6, x.0, y.0, z.0, record { front = a ∷ b ∷ c ∷ []; rest = rest; both = refl; first = (refl, sym x.1, sym y.1, sym z.1, tt); second = tt })

-- the same of a part
part_or : (e2 : Bool) (octets : List ℕ) → ((part : Option (ℕ × ℕ)) × (is_some part ≡ e2) × Then (IsPart part) Any octets) ⊎ (length octets < 4 * bit e2)
part_or false octets = inl (None, refl, record { front = []; rest = octets; both = refl; first = tt; second = tt })
part_or true [] = inr (omega arith)
part_or true (a ∷ []) = inr (omega arith)
part_or true (a ∷ b ∷ []) = inr (omega arith)
part_or true (a ∷ b ∷ c ∷ []) = inr (omega arith)
part_or true (a ∷ b ∷ c ∷ d ∷ rest) = inl (Some (a * 256 + b, c * 256 + d), refl, record { front = a ∷ b ∷ c ∷ d ∷ []; rest = rest; both = refl; first = (refl, refl); second = tt })

-- and of a range
range_or : (e3 : Bool) (octets : List ℕ) → ((range : Option ℕ) × (is_some range ≡ e3) × Then (IsRange range) Any octets) ⊎ (length octets < bit e3)
range_or false octets = inl (None, refl, record { front = []; rest = octets; both = refl; first = tt; second = tt })
range_or true [] = inr (omega arith)
range_or true (a ∷ rest) = inl (Some a, refl, record { front = a ∷ []; rest = rest; both = refl; first = refl; second = tt })

-- and of all of an element
spelt_or : (size : SnSize) (octets : List ℕ) → ((nack : Nack) × (e1 : Bool) × Then (SpellsNack IsFree size nack (bit e1)) Any octets) ⊎ (length octets < nack_len_at size octets)
spelt_or size octets =
    elim (head_or size octets) [
      | inr short ↦ inr short
      | inl h ↦
          let t = h.4 in
          let long : nack_len_at size octets ≡ length t.front + 4 * bit h.2 + bit h.3 = ap (nack_len_at size) t.both ∙ len_at size _ _ _ _ t.front t.rest t.first in
          let all : length octets ≡ length t.front + length t.rest = ap length t.both ∙ length-append t.front t.rest in
          elim (part_or h.2 t.rest) [
            | inr short ↦ inr (omega arith)
            | inl p ↦
                let u = p.2 in
                let behind : length t.rest ≡ length u.front + length u.rest = ap length u.both ∙ length-append u.front u.rest in
                let front : length u.front ≡ 4 * bit h.2 = part_len p.0 u.front u.first ∙ ap (λ (b : Bool). 4 * bit b) p.1 in
                elim (range_or h.3 u.rest) [
                  | inr short ↦ inr (omega arith)
                  | inl r ↦
                      let v = r.2 in
                      inl (
                        record { sn = h.0; part = p.0; range = r.0 },
                        h.1,
                        record {
                          front = t.front ++ (u.front ++ v.front);
                          rest = v.rest;
                          both = t.both ∙ ap (λ (x : List ℕ). t.front ++ x) (u.both ∙ ap (λ (x : List ℕ). u.front ++ x) v.both ∙ sym (append_assoc u.front v.front v.rest)) ∙ sym (append_assoc t.front (u.front ++ v.front) v.rest);
                          first = record { front = t.front; rest = u.front ++ v.front; both = refl; first = rw (p.1, r.1) t.first; second = record { front = u.front; rest = v.front; both = refl; first = u.first; second = v.first } };
                          second = tt;
                        },
                      )
                ]
          ]
    ]

-- an element is right
abbrev IsRight : Nack → Type 0
IsRight nack = (nack.range ≢ Some 0) × ((x y : ℕ) → nack.part ≡ Some (x, y) → unwrap_or nack.range 1 ≡ 1 → x ≤ y)

-- a range is 0 or not
zero_or : (range : Option ℕ) → (range ≡ Some 0) ⊎ (range ≢ Some 0)
zero_or None = inr (λ e. cc)
zero_or (Some zero) = inl refl
zero_or (Some (suc k)) = inr (λ e. absurd (omega (arith, ap (λ (r : Option ℕ). unwrap_or r 0) e)))

-- where it isn't, the element is right or its part runs backwards
order_or : (nack : Nack) → nack.range ≢ Some 0 → (part : Option (ℕ × ℕ)) → nack.part ≡ part → IsRight nack ⊎ IsWrongNack nack BackPart
order_or nack some None p = inl (some, λ x y e one. absurd cc)
order_or nack some (Some q) p =
    elim (cases_lt q.1 q.0) [
      | inr le ↦ inl (some, λ x y e one. let start : q.0 ≡ x = cc in let end : q.1 ≡ y = cc in omega arith)
      | inl lt ↦ elim (cases_eq (unwrap_or nack.range 1) 1) [
        | inl one ↦ inr (q.0, q.1, p, one, lt)
        | inr other ↦ inl (some, λ x y e one. absurd (other one))
      ]
    ]

-- a right element stands at the front, or one with a fault
nack_or : (size : SnSize) (octets : List ℕ) → ((nack : Nack) × (e1 : Bool) × Then (IsNack IsFree size nack (bit e1)) Any octets) ⊎ ((fault : StatusFault) × IsNackFault size octets fault)
nack_or size octets =
    elim (spelt_or size octets) [
      | inr short ↦ inr (Short, short)
      | inl s ↦ elim (zero_or s.0.range) [
        | inl none ↦ inr (ZeroRange, (s.0, bit s.1, none, s.2))
        | inr some ↦ elim (order_or s.0 some s.0.part refl) [
          | inl right ↦ inl (s.0, s.1, record { front = s.2.front; rest = s.2.rest; both = s.2.both; first = record { spelt = s.2.first; range = right.0; order = right.1 }; second = tt })
          | inr wrong ↦ inr (BackPart, (s.0, bit s.1, wrong, s.2))
        ]
      ]
    ]

-- an element has an octet
has_octet : (size : SnSize) (sn e1 e2 e3 : ℕ) (octets : List ℕ) → IsNackHead IsFree size sn e1 e2 e3 octets → 0 < length octets
has_octet S12 sn e1 e2 e3 (a ∷ b ∷ []) h = omega arith
has_octet S18 sn e1 e2 e3 (a ∷ b ∷ c ∷ []) h = omega arith
has_octet size sn e1 e2 e3 octets h = absurd h

-- so less is left behind it
shorter : (size : SnSize) (nack : Nack) (e1 : ℕ) (octets : List ℕ) (t : Then (IsNack IsFree size nack e1) Any octets) → length t.rest < length octets
shorter size nack e1 octets t =
    let s = t.first.spelt in
    omega (arith, ap length t.both ∙ length-append t.front t.rest, ap length s.both ∙ length-append s.front s.rest, has_octet size _ _ _ _ s.front s.first)

-- a STATUS or a fault
abbrev Reads : SnSize → List ℕ → Type 0
Reads size octets = ((s : Status) × IsStatus size s octets) ⊎ ((fault : StatusFault) × IsStatusFault size octets fault)

-- what is left to read is read to its end, or to the first fault
rest_or : (fuel : ℕ) (size : SnSize) (ack : ℕ) (nacks : List Nack) (more : Bool) (rest octets : List ℕ) → length rest ≤ fuel → HasRead size ack nacks more rest octets → Reads size octets
rest_or fuel size ack nacks false [] octets lt was = inl (record { ack = ack; nacks = nacks }, ends size ack nacks [] octets was refl)
rest_or fuel size ack nacks false (o ∷ rest) octets lt was = inr (Trailing, trails size ack nacks (o ∷ rest) octets was (omega arith))
rest_or zero size ack nacks true rest octets lt was =
    elim (nack_or size rest) [
      | inl one ↦ absurd (omega (arith, lt, shorter size one.0 (bit one.1) rest one.2))
      | inr wrong ↦ inr (wrong.0, fails size ack nacks rest octets wrong.0 was wrong.1)
    ]
rest_or (suc fuel) size ack nacks true rest octets lt was =
    elim (nack_or size rest) [
      | inl one ↦
          let t = one.2 in
          rest_or fuel size ack (nacks ++ one.0 ∷ []) one.1 t.rest octets (omega (arith, lt, shorter size one.0 (bit one.1) rest t)) (goes_on size ack nacks one.0 one.1 rest t.rest octets was (record { front = t.front; rest = t.rest; both = t.both; first = t.first; second = refl }))
      | inr wrong ↦ inr (wrong.0, fails size ack nacks rest octets wrong.0 was wrong.1)
    ]

-- a header or a fault of it
abbrev HeaderOr : SnSize → List ℕ → Type 0
HeaderOr size octets = ((ack : ℕ) × (more : Bool) × IsHeader IsFree size ack (bit more) (take 3 octets)) ⊎ ((fault : StatusFault) × IsHeaderFault octets fault)

-- behind a right type the header is there, or there are too few octets
fields_or : (size : SnSize) (a : ℕ) (octets : List ℕ) → IsStatusType a → HeaderOr size (a ∷ octets)
fields_or size a [] right = inr (Short, (right, omega arith))
fields_or size a (b ∷ []) right = inr (Short, (right, omega arith))
fields_or S12 a (b ∷ c ∷ rest) right = let e1 = bit_of (bits c 7 7) (omega arith) in inl (bits a 3 0 * 256 + b, e1.0, (right, refl, sym e1.1, tt))
fields_or S18 a (b ∷ c ∷ rest) right = let e1 = bit_of (bits c 1 1) (omega arith) in inl (bits a 3 0 * 16384 + b * 64 + bits c 7 2, e1.0, (right, refl, sym e1.1, tt))

-- the header is there, or has a fault
header_or : (size : SnSize) (octets : List ℕ) → HeaderOr size octets
header_or size [] = inr (Short, tt)
header_or size (a ∷ octets) =
    elim (cases_eq (bits a 7 7) 0) [
      | inr one ↦ inr (IsData, omega arith)
      | inl dc ↦ elim (cases_eq (bits a 6 4) 0) [
        | inr reserved ↦ inr (ReservedType, (dc, reserved))
        | inl cpt ↦ fields_or size a octets (record { dc = dc; cpt = cpt })
      ]
    ]

-- all octets
pub read_or_refused : (size : SnSize) (octets : List ℕ) → Reads size octets
read_or_refused size octets =
    elim (header_or size octets) [
      | inl h ↦ rest_or (length octets) size h.0 [] h.1 (drop 3 octets) octets (omega (arith, length-drop 3 octets)) (begins size h.0 h.1 (drop 3 octets) octets h.2 refl)
      | inr wrong ↦ inr (wrong.0, of_header wrong.1)
    ]
