-- The COUNT that an SN stands for.
use Rattle.std.proofs.Common.{◌≡◌, ◌⊎◌, inl, inr, ℕ, ◌+◌, ◌-◌, ◌*◌, ◌%◌, ◌<◌, ◌≤◌, refl, sym, ◌∙◌, arith}
use Rattle.std.proofs.lemmas.Bool.{cases_lt}
use Rattle.link_base.specs.declared.names.SnSize.{SnSize}
use Rattle.link_base.specs.declared.names.SnSize.TheVariants.{S12, S18}
use Rattle.link_base.specs.SequenceNumbers.{modulus, window, Near, OneIsNear}

-- at most one number lies near a base
pub one_near : OneIsNear
one_near S12 sn base m n p q = omega (arith, p, q)
one_near S18 sn base m n p q = omega (arith, p, q)

-- a number of the base's cycle has the SN
same_cycle : (size : SnSize) (sn base : ℕ) → sn < modulus size → let n = base - base % modulus size + sn in (n % modulus size ≡ sn) × (base < n + modulus size) × (n < base + modulus size)
same_cycle S12 sn base lt = (omega arith, omega arith, omega arith)
same_cycle S18 sn base lt = (omega arith, omega arith, omega arith)

-- so has the number of the next cycle
next_cycle : (size : SnSize) (n : ℕ) → (n + modulus size) % modulus size ≡ n % modulus size
next_cycle S12 n = omega arith
next_cycle S18 n = omega arith

-- and that of the cycle before
last_cycle : (size : SnSize) (n : ℕ) → modulus size ≤ n → (n - modulus size) % modulus size ≡ n % modulus size
last_cycle S12 n le = omega arith
last_cycle S18 n le = omega arith

-- a number of the first cycle is its SN
first_cycle : (size : SnSize) (n : ℕ) → n < modulus size → n % modulus size ≡ n
first_cycle S12 n lt = omega arith
first_cycle S18 n lt = omega arith

-- a window is half of the numbers of a cycle
two_windows : (size : SnSize) → modulus size ≡ 2 * window size
two_windows S12 = refl
two_windows S18 = refl

-- one number lies near a base, or none does
pub near_or_none : (size : SnSize) (sn base : ℕ) → sn < modulus size → ((count : ℕ) × Near size sn base count) ⊎ ((count : ℕ) → Near size sn base count → ⊥)
near_or_none size sn base lt =
    let n = base - base % modulus size + sn in
    let same = same_cycle size sn base lt in
    let half = two_windows size in
    elim (cases_lt (n + window size) base) [
      | inl low ↦ inl (n + modulus size, record { same = next_cycle size n ∙ same.0; low = omega (arith, low, same.1, half); high = omega (arith, low, same.1, half) })
      | inr within ↦ elim (cases_lt n (base + window size)) [
        | inl near ↦ inl (n, record { same = same.0; low = within; high = near })
        | inr high ↦ elim (cases_lt n (modulus size)) [
          | inl none ↦ inr (λ count c.
              let small : count < modulus size = omega (arith, c.high, high, none) in
              omega (arith, c.high, high, sym (first_cycle size count small) ∙ c.same ∙ sym same.0 ∙ first_cycle size n none))
          | inr some ↦ inl (n - modulus size, record { same = last_cycle size n some ∙ same.0; low = omega (arith, some, high, same.2, half); high = omega (arith, some, high, same.2, half) })
        ]
      ]
    ]
