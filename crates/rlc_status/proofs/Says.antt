-- What the STATUS 0003800010 says, where its ACK_SN stands for 3.
use Rattle.std.proofs.Common.{◌≡◌, ℕ, ◌<◌, [], ◌∷◌, None, refl, subst, arith, inl, inr}
use Rattle.link_base.specs.declared.names.SnSize.TheVariants.{S12}
use Rattle.rlc_status.specs.declared.status.Nack.{Nack}
use Rattle.rlc_status.specs.declared.status.Status.{Status}
use Rattle.rlc_status.specs.Format.{IsStatus, StatusFits}
use Rattle.rlc_status.specs.Says.{NamesNumber, SaysReceived, SaysMissing}
use Rattle.rlc_status.proofs.Unique.{one_reading}
use Rattle.rlc_status.proofs.Spelling.{plain, is_free}

-- its one element
abbrev element : Nack
element = record { sn = 1; part = None; range = None }

-- its fields
abbrev worked : Status
worked = record { ack = 3; nacks = element ∷ [] }

-- the format can hold them
fits : StatusFits S12 worked
fits = (omega arith, (record { sn = omega arith; range = λ k e. absurd cc; part = λ x y e. absurd cc; order = λ x y e. absurd cc }, tt))

-- the element names number 1 alone
only_one : (n : ℕ) → NamesNumber S12 3 element n → n ≡ 1
only_one n names = omega (arith, names.is.below, names.is.same, names.from, names.to)

-- what is to be shown of it
abbrev Says : Status → Type 0
Says s = SaysReceived S12 3 s 0 × ((place : ℕ) → SaysMissing S12 3 s 1 place) × SaysReceived S12 3 s 2

-- another number is said received
received : (n : ℕ) → n < 3 → (n ≡ 1 → ⊥) → SaysReceived S12 3 worked n
received n lt other = (lt, λ some. elim some [ inl names ↦ other (only_one n names) | inr none ↦ none ])

-- each place of number 1 is said missing
missing : (place : ℕ) → SaysMissing S12 3 worked 1 place
missing place = (omega arith, inl (record { number = record { first = 1; is = record { below = omega arith; same = refl; last = omega arith }; from = omega arith; to = omega arith }; start = λ e. tt; stop = λ e. tt }))

-- the octets spell no other STATUS
pub worked_says : (s : Status) → IsStatus S12 s (0 ∷ 3 ∷ 128 ∷ 0 ∷ 16 ∷ []) → Says s
worked_says s t = subst Says (one_reading S12 worked s _ (is_free S12 worked _ (plain S12 worked fits)) t) (received 0 (omega arith) (λ e. absurd (omega (arith, e))), missing, received 2 (omega arith) (λ e. absurd (omega (arith, e))))
