-- What a STATUS says, where its ACK_SN stands for the number a (TS 38.322 clauses 5.3.2, 5.3.4, 6.2.2.5 and 6.2.3).
use Rattle.std.specs.Prelude.{◌≡◌, ◌⊎◌, ℕ, ◌+◌, ◌%◌, ◌<◌, ◌≤◌, List, [], ◌∷◌, Option, Some, None, unwrap_or}
use Rattle.link_base.specs.declared.names.SnSize.{SnSize}
use Rattle.link_base.specs.SequenceNumbers.{modulus}
use Rattle.rlc_status.specs.declared.status.Nack.{Nack}
use Rattle.rlc_status.specs.declared.status.Status.{Status}

-- m is the greatest number below a with this sequence number
pub record IsGreatest (size : SnSize) (a sn m : ℕ) : Type 0 where
  pub below : m < a
  pub same : m % modulus size ≡ sn
  pub last : a ≤ m + modulus size

-- how many numbers an element names
abbrev pub count : Nack → ℕ
count nack = unwrap_or nack.range 1

-- the part begins at or before the place
abbrev pub starts_by : Option (ℕ × ℕ) → ℕ → Type 0
starts_by None p = Unit {0}
starts_by (Some part) p = part.0 ≤ p

-- the part ends at or behind the place; 65,535 is the end of the SDU
abbrev pub ends_behind : Option (ℕ × ℕ) → ℕ → Type 0
ends_behind None p = Unit {0}
ends_behind (Some part) p = (part.1 ≡ 65535) ⊎ (p ≤ part.1)

-- the element names the number n
pub record NamesNumber (size : SnSize) (a : ℕ) (nack : Nack) (n : ℕ) : Type 0 where
  pub first : ℕ
  pub is : IsGreatest size a nack.sn first
  pub from : first ≤ n
  pub to : n < first + count nack

-- the element names the place p of the number n: SOstart counts in its first number, SOend in its last
pub record NamesPlace (size : SnSize) (a : ℕ) (nack : Nack) (n p : ℕ) : Type 0 where
  pub number : NamesNumber size a nack n
  pub start : n ≡ number.first → starts_by nack.part p
  pub stop : n + 1 ≡ number.first + count nack → ends_behind nack.part p

-- some element has P
abbrev pub Some_has : (Nack → Type 0) → List Nack → Type 0
Some_has P [] = ⊥
Some_has P (nack ∷ nacks) = P nack ⊎ Some_has P nacks

-- some element names the number n
abbrev pub Names : SnSize → ℕ → Status → ℕ → Type 0
Names size a status n = Some_has (λ nack. NamesNumber size a nack n) status.nacks

-- all of the number n is said received
abbrev pub SaysReceived : SnSize → ℕ → Status → ℕ → Type 0
SaysReceived size a status n = (n < a) × (Names size a status n → ⊥)

-- the byte at the place p of the number n is said missing
abbrev pub SaysMissing : SnSize → ℕ → Status → ℕ → ℕ → Type 0
SaysMissing size a status n p = (n < a) × Some_has (λ nack. NamesPlace size a nack n p) status.nacks
