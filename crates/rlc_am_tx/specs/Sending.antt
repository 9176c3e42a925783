-- Sending a piece of an SDU (TS 38.322 clauses 5.2.3.1.1 and 5.3.3.2).
use Rattle.std.specs.Prelude.{◌≡◌, ℕ, ◌-◌, ◌<◌, Bool, true, false, List, Option}
use Rattle.link_base.specs.declared.names.SnSize.{SnSize}
use Rattle.link_base.specs.SequenceNumbers.{modulus}
use Rattle.rlc_pdu.specs.Amd.{Amd, amd_bytes}
use Rattle.rlc_model.specs.Pdu.{piece}
use Rattle.rlc_model.specs.Tx.{Tx, Kept, kept_at, SameSettings, Counters}
use Rattle.rlc_am_tx.specs.declared.pieces.Piece.{Piece}
use Rattle.rlc_am_tx.specs.Buffer.{sdu_of, sent_of}
use Rattle.rlc_am_tx.specs.Pieces.{MarksSent}

-- the PDU of a piece of an SDU up to but without the place `end`, without a poll
abbrev pub plain_piece : SnSize → Option Kept → Piece → ℕ → Amd
plain_piece size o p end = piece size p.number (sdu_of o) p.from end false

-- the PDU of a piece up to but without the place `end`
abbrev pub piece_of : Tx → Piece → ℕ → Bool → Amd
piece_of t p end poll = piece t.size p.number (sdu_of (kept_at t p.number)) p.from end poll

-- the bytes are those of this PDU, and the transmitter sent it
pub record SendsPiece (old : Tx) (p : Piece) (end : ℕ) (bytes : List ℕ) (new : Tx) : Type 0 where
  pub poll : Bool
  pub spelt : bytes ≡ amd_bytes old.size (piece_of old p end poll)
  pub marks : MarksSent old.kept p.number p.from end new.kept
  pub same : SameSettings old new
  pub counters : Counters old new (end - sent_of (kept_at old p.number)) poll

-- the new octets are those of the same PDU with a poll
abbrev pub AddsPoll : List ℕ → List ℕ → Type 0
AddsPoll old new = (size : SnSize) (v : Amd) → v.sn < modulus size → v.poll ≡ false → old ≡ amd_bytes size v → new ≡ amd_bytes size (record v { poll = true })
