-- A sink that stands in memory.
use Rattle.std.specs.Prelude.{◌≡◌, ℕ, min, List, length, take, ◌++◌, true, false, Result, Ok, Err}
use Rattle.link_io.specs.Calls.{Calls, next_fails, after_call, after_fault}
use Rattle.link_io.specs.declared.sink.WriteFault.{WriteFault}
use Rattle.link_io.specs.declared.sink.WriteFault.TheVariants.{Failed, Memory}

-- the bytes that were written, and the calls
pub record SinkState : Type 0 where
  pub written : List ℕ
  pub calls : Calls

-- a write fails where its call is to fail, and else takes as many bytes as the piece allows, if memory is left for them
abbrev pub WritesPiece : SinkState → SinkState → Result ℕ WriteFault → List ℕ → Type 0
WritesPiece old new (Err Failed) bytes = (next_fails old.calls ≡ true) × (new ≡ record { written = old.written; calls = after_fault old.calls })
WritesPiece old new (Err Memory) bytes = (next_fails old.calls ≡ false) × (new ≡ record { written = old.written; calls = after_call old.calls })
WritesPiece old new (Ok count) bytes =
    (next_fails old.calls ≡ false) × (count ≡ min (length bytes) old.calls.piece)
    × (new ≡ record { written = old.written ++ take count bytes; calls = after_call old.calls })
