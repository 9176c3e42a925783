-- A source that stands in memory.
use Rattle.std.specs.Prelude.{◌≡◌, ℕ, min, List, length, take, drop, true, false, Result, Ok, Err}
use Rattle.link_io.specs.Calls.{Calls, next_fails, after_call, after_fault}
use Rattle.link_io.specs.declared.source.Failed.{Failed}

-- the bytes that are left to read, and the calls
pub record SourceState : Type 0 where
  pub left : List ℕ
  pub calls : Calls

-- a read fails where its call is to fail, and else gives the next bytes, as many as the buffer, the piece and the rest allow
abbrev pub ReadsPiece : SourceState → SourceState → Result ℕ Failed → List ℕ → Type 0
ReadsPiece old new (Err _) buf = (next_fails old.calls ≡ true) × (new ≡ record { left = old.left; calls = after_fault old.calls })
ReadsPiece old new (Ok count) buf =
    (next_fails old.calls ≡ false) × (count ≡ min (length old.left) (min (length buf) old.calls.piece))
    × (take count buf ≡ take count old.left) × (new ≡ record { left = drop count old.left; calls = after_call old.calls })
