-- Pieces of SDUs that are next for transmission (TS 38.322 clauses 5.2.3.1.1 and 5.3.2).
use Rattle.std.specs.Prelude.{◌≡◌, ◌≢◌, ◌⊎◌, ℕ, ◌+◌, ◌<◌, ◌≤◌, Bool, true, false, List, length, Option, Some}
use Rattle.link_base.specs.declared.limits.TheConstants.{LONGEST_RLC_SDU}
use Rattle.rlc_model.specs.Numbers.{IsFirst, IsFirstRun}
use Rattle.rlc_model.specs.Tx.{Kept, at, is_pending, is_unsent, HasPending, IsNextOf, Clears}
use Rattle.rlc_am_tx.specs.declared.pieces.Piece.{Piece}
use Rattle.rlc_am_tx.specs.Buffer.{sdu_of, sent_of}

-- each number with pending bytes is the first one or waits, and each number that waits has some
pub record AreWaiting (l : List (Option Kept)) (first : ℕ) (Waits : ℕ → Type 0) : Type 0 where
  pub each : (n p : ℕ) → is_pending (at l n) p ≡ true → (n ≡ first) ⊎ Waits n
  pub only : (n : ℕ) → Waits n → HasPending l n

-- the piece is the first maximal run of pending bytes of this number
pub record IsPendingAt (l : List (Option Kept)) (number : ℕ) (piece : Piece) : Type 0 where
  pub number_is : piece.number ≡ number
  pub kept : Kept
  pub is : at l number ≡ Some kept
  pub run : IsFirstRun kept.flags piece.from piece.to
  pub within : piece.to ≤ length kept.flags

-- the same of the lowest number that has pending bytes
pub record IsPendingPiece (l : List (Option Kept)) (piece : Piece) : Type 0 where
  pub here : IsPendingAt l piece.number piece
  pub first : IsFirst (HasPending l) 0 piece.number

-- the piece is next
abbrev pub IsNextPiece : List (Option Kept) → Piece → Type 0
IsNextPiece l piece = (k : Kept) × IsNextOf l piece.number k piece.from piece.to

-- it is the unsent bytes of the lowest number that has some
pub record IsUnsentPiece (l : List (Option Kept)) (piece : Piece) : Type 0 where
  pub kept : Kept
  pub is : at l piece.number ≡ Some kept
  pub first : IsFirst (λ n. is_unsent (at l n) ≡ true) 0 piece.number
  pub from : piece.from ≡ length kept.flags
  pub to : piece.to ≡ length kept.sdu

-- the piece has a byte, and lies within its SDU, which has at most 9,005
pub record IsInside (l : List (Option Kept)) (piece : Piece) : Type 0 where
  pub some : piece.from < piece.to
  pub within : piece.to ≤ length (sdu_of (at l piece.number))
  pub long : length (sdu_of (at l piece.number)) ≤ LONGEST_RLC_SDU
  pub after : piece.from ≤ sent_of (at l piece.number)

-- the bytes of an SDU from the place a up to but without e are sent now
pub record MarksKept (old : Option Kept) (a e : ℕ) (new : Option Kept) : Type 0 where
  pub kept : Kept
  pub flags : List Bool
  pub was : old ≡ Some kept
  pub clears : Clears kept.flags a e flags
  pub is : new ≡ Some (record kept { flags = flags })

-- the same of a number, and nothing else changes
pub record MarksSent (old : List (Option Kept)) (m a e : ℕ) (new : List (Option Kept)) : Type 0 where
  pub kept_sdu : MarksKept (at old m) a e (at new m)
  pub others : (n : ℕ) → n ≢ m → at new n ≡ at old n
  pub long : length new ≡ length old

-- the lowest number with unsent bytes is the next one where all its bytes are sent now, and else stays
pub data MovesUnsent (unsent number : ℕ) (whole : Bool) (new : ℕ) : Type 0 where
  moves : number ≡ unsent → whole ≡ true → new ≡ unsent + 1 → MovesUnsent unsent number whole new
  stays : (number ≢ unsent) ⊎ (whole ≡ false) → new ≡ unsent → MovesUnsent unsent number whole new
