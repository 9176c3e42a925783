-- What a status report says (TS 38.323 clauses 6.2.3.1, 6.3.9 and 6.3.10).
use Rattle.std.specs.Prelude.{◌≡◌, ℕ, ◌-◌, ◌/◌, ◌%◌, ◌^◌, ◌<◌, ◌⊎◌, ◌↔◌, List, [], ◌∷◌, slice_index}

-- a bit of a bitmap, counted from 1 and from bit 7 of the first octet; behind the bitmap each is 0
abbrev pub bit_of : List ℕ → ℕ → ℕ
bit_of map number = slice_index map ((number - 1) / 8) / 2 ^ (7 - (number - 1) % 8) % 2

-- the report says that the SDU with this COUNT was received: it lies below FMC, or its bit is 1.
-- It says so of a COUNT that isn't below its bearer's first one
abbrev pub Reports : ℕ → List ℕ → ℕ → Type 0
Reports fmc map count = (count < fmc) ⊎ ((fmc < count) × (bit_of map (count - fmc) ≡ 1))

-- a report with FMC 0 and the bitmap 11000000 says that COUNTs 1 and 2 were received, and no others
abbrev pub WorkedReport : Type 0
WorkedReport = (count : ℕ) → Reports 0 (192 ∷ []) count ↔ ((count ≡ 1) ⊎ (count ≡ 2))
