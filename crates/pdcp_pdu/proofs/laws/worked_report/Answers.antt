use Rattle.std.proofs.Common.{◌≡◌, ℕ, zero, suc, ◌-◌, ◌/◌, ◌%◌, ◌^◌, ◌<◌, ◌≤◌, List, [], ◌∷◌, get_or, refl, ap, inl, inr, arith}
use Rattle.std.specs.Prelude.{◌⊎◌}
use Rattle.std.proofs.Math.Nat.{zero-div}
use Rattle.std.proofs.lemmas.List.{get_or_past}
use Rattle.pdcp_pdu.specs.Reports.{bit_of}
use Rattle.pdcp_pdu.proofs.laws.worked_report.Goals as goal

abbrev octets : List ℕ
octets = 192 ∷ []

-- behind the bitmap no bit is 1
past : (number : ℕ) → 9 ≤ number → bit_of octets number ≡ 1 → ⊥
past number le one =
    let none : get_or octets ((number - 1) / 8) 0 ≡ 0 = get_or_past octets ((number - 1) / 8) 0 (omega arith) in
    let bit : bit_of octets number ≡ 0 = rw none (ap (λ (n : ℕ). n % 2) (zero-div (2 ^ (7 - (number - 1) % 8)))) in
    omega (arith, bit, one)

-- of the numbers from 1 to 8 the bits 1 and 2 are 1
said : (count : ℕ) → 0 < count → bit_of octets (count - 0) ≡ 1 → (count ≡ 1) ⊎ (count ≡ 2)
said zero lt bit = absurd (omega arith)
said (suc zero) lt bit = inl refl
said (suc (suc zero)) lt bit = inr refl
said (suc (suc (suc zero))) lt bit = absurd cc
said (suc (suc (suc (suc zero)))) lt bit = absurd cc
said (suc (suc (suc (suc (suc zero))))) lt bit = absurd cc
said (suc (suc (suc (suc (suc (suc zero)))))) lt bit = absurd cc
said (suc (suc (suc (suc (suc (suc (suc zero))))))) lt bit = absurd cc
said (suc (suc (suc (suc (suc (suc (suc (suc zero)))))))) lt bit = absurd cc
said (suc (suc (suc (suc (suc (suc (suc (suc (suc n))))))))) lt bit = absurd (past (suc (suc (suc (suc (suc (suc (suc (suc (suc n)))))))) - 0) (omega arith) bit)

pub returns : goal.returns
returns c = λ count. (
  (λ r. elim r [ inl lt ↦ absurd (omega arith) | inr x ↦ said count x.0 x.1 ]),
  (λ e. elim e [ inl e ↦ rw e (inr (omega arith, refl)) | inr e ↦ rw e (inr (omega arith, refl)) ]),
)
