-- What a status report says from a COUNT on (TS 38.323 clauses 6.2.3.1, 6.3.9 and 6.3.10).
use Rattle.std.specs.Prelude.{◌≡◌, ◌⊎◌, ℕ, ◌/◌, ◌%◌, ◌^◌, ◌<◌, ◌≤◌, List}
use Rattle.pdcp_pdu.specs.Reports.{bit_of, Reports}

-- a bit of a bitmap from this one on is 1
abbrev pub HasBitFrom : List ℕ → ℕ → Type 0
HasBitFrom map number = (n : ℕ) × (number ≤ n) × (bit_of map n ≡ 1)

-- one of the last so many bits of an octet is 1
abbrev pub HasOneBelow : ℕ → ℕ → Type 0
HasOneBelow octet bits = (bit : ℕ) × (bit < bits) × (octet / 2 ^ bit % 2 ≡ 1)

-- a status report speaks of a COUNT from this one on: FMC lies above it, or the report says that one was received
abbrev pub SpeaksFrom : ℕ → ℕ → List ℕ → Type 0
SpeaksFrom next fmc map = (next < fmc) ⊎ ((count : ℕ) × (next ≤ count) × Reports fmc map count)
