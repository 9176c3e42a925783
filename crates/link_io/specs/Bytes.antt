-- What calls do to the bytes of a source or a sink, where these are told.
use Rattle.std.specs.Prelude.{◌≡◌, ℕ, ◌≤◌, List, length, take, is_some}
use Rattle.std.specs.declared.option.Option.{Option}
use Rattle.std.specs.Io.KnownBytes.{Appends, Consumes}

-- no call changes whether the bytes are told
abbrev pub IsAsTold : Option (List ℕ) → Option (List ℕ) → Type 0
IsAsTold old new = is_some new ≡ is_some old

-- a front of the bytes was written, and nothing else
abbrev pub AppendsFront : Option (List ℕ) → Option (List ℕ) → List ℕ → Type 0
AppendsFront old new bytes = (n : ℕ) × Appends old new (take n bytes)

-- at most so many of the bytes that were left were read, from the front, and nothing else was taken
abbrev pub ConsumesAtMost : Option (List ℕ) → Option (List ℕ) → ℕ → Type 0
ConsumesAtMost old new limit = (bytes : List ℕ) × (length bytes ≤ limit) × Consumes old new bytes
