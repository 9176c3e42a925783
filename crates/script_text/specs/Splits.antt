-- How the bytes of a script fall into lines.
use Rattle.std.specs.Prelude.{◌≡◌, ◌≢◌, ◌⊎◌, ℕ, ◌+◌, ◌<◌, ◌≤◌, List, [], ◌∷◌, ◌++◌, length, take, EachIndex, slice_index}
use Rattle.script_text.specs.declared.limits.TheConstants.{LONGEST_LINE, LONGEST_SCRIPT}
use Rattle.script_text.specs.declared.next_line.NextLine.{NextLine}
use Rattle.script_text.specs.declared.next_line.NextLine.TheVariants.{Line, Long, TooLong, End}

-- the byte isn't among these
abbrev pub HasNo : ℕ → List ℕ → Type 0
HasNo byte bytes = EachIndex bytes (λ k. slice_index bytes k ≢ byte)

-- no byte is an LF
abbrev pub HasNoLf : List ℕ → Type 0
HasNoLf bytes = HasNo 10 bytes

-- the bytes are a line, and what stands behind it: an LF ends it, or the bytes do
pub record Splits (bytes line after : List ℕ) : Type 0 where
  pub one : HasNoLf line
  pub ends : (bytes ≡ line ++ 10 ∷ after) ⊎ ((bytes ≡ line) × (after ≡ []) × (0 < length line))

-- behind so many bytes of a script stand 65,537 without an LF, all within the first 16,777,216
pub record IsLong (used : ℕ) (bytes : List ℕ) : Type 0 where
  pub room : used + LONGEST_LINE < LONGEST_SCRIPT
  pub enough : LONGEST_LINE < length bytes
  pub one : HasNoLf (take (LONGEST_LINE + 1) bytes)

-- the next line, with its LF, ends past byte 16,777,216, and isn't long before
pub record IsTooLong (used : ℕ) (bytes : List ℕ) : Type 0 where
  pub past : LONGEST_SCRIPT < used + length bytes
  pub near : LONGEST_SCRIPT ≤ used + LONGEST_LINE
  pub left : ℕ
  pub place : used + left ≡ LONGEST_SCRIPT
  pub one : HasNoLf (take left bytes)

-- the line ends in time: it has at most 65,536 bytes, and with its LF ends at or before byte 16,777,216
pub record EndsInTime (used : ℕ) (bytes line after : List ℕ) : Type 0 where
  pub short : length line ≤ LONGEST_LINE
  pub within : used + length bytes ≤ LONGEST_SCRIPT + length after

-- what stands next behind so many bytes of a script
abbrev pub IsNextLine : ℕ → List ℕ → NextLine → Type 0
IsNextLine used bytes (Line line after) = Splits bytes line.now after.now × EndsInTime used bytes line.now after.now
IsNextLine used bytes Long = IsLong used bytes
IsNextLine used bytes TooLong = IsTooLong used bytes
IsNextLine used bytes End = bytes ≡ []
