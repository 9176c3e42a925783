-- What holds of a transmitter whatever STATUS it hears.
use Rattle.std.specs.Prelude.{◌≡◌, ◌↔◌, ℕ, ◌+◌, ◌<◌, ◌≤◌, List, length, Some, None}
use Rattle.link_base.specs.declared.rlc_words.Tag.{Tag}
use Rattle.link_base.specs.SequenceNumbers.{Near}
use Rattle.rlc_status.specs.declared.status.Status.{Status}
use Rattle.rlc_status.specs.Format.{StatusFits}
use Rattle.rlc_status.specs.Says.{SaysReceived}
use Rattle.rlc_model.specs.declared.transmitter.TxGrant.{TxGrant}
use Rattle.rlc_model.specs.declared.transmitter.TxGrant.TheVariants.{Sent}
use Rattle.rlc_model.specs.declared.transmitter.StatusHeard.{StatusHeard}
use Rattle.rlc_model.specs.declared.transmitter.StatusHeard.TheVariants.{Acked}
use Rattle.rlc_model.specs.Tx.{Tx, Kept, kept_at, tx_next, tx_next_ack, Gives, Grants}
use Rattle.rlc_model.specs.Retransmission.{HearsStatus, ExpiresPoll}

-- the calls of a transmitter, with any STATUS that its format can hold
pub data TransmitterCall (old new : Tx) : Type 0 where
  gives : (tag : Tag) (sdu : List ℕ) (number : ℕ) → 0 < length sdu → Gives old tag sdu number new → TransmitterCall old new
  grants : (n : ℕ) (answer : TxGrant) → Grants old n answer new → TransmitterCall old new
  hears_status : (s : Status) (answer : StatusHeard) → StatusFits old.size s → HearsStatus old s answer new → TransmitterCall old new
  expires_poll : (marks : List ℕ) → ExpiresPoll old marks new → TransmitterCall old new

-- a PDU has at most the octets granted
abbrev pub SendsWithin : Type 0
SendsWithin = (old : Tx) (n number : ℕ) (bytes : List ℕ) (new : Tx) → Grants old n (Sent number bytes) new → length bytes ≤ n

-- a STATUS that is carried out confirms exactly the unconfirmed numbers that it says received
abbrev pub ConfirmsReceived : Type 0
ConfirmsReceived = (old : Tx) (s : Status) (tags : List Tag) (marks : List ℕ) (new : Tx) → HearsStatus old s (Acked tags marks) new
    → (a : ℕ) → Near old.size s.ack (tx_next_ack old + 1) a → (n : ℕ) (k : Kept) → kept_at old n ≡ Some k → (kept_at new n ≡ None) ↔ SaysReceived old.size a s n

-- what is confirmed stays so, and no number is given anew; so each tag is told once
abbrev pub StaysConfirmed : Type 0
StaysConfirmed = (old new : Tx) → TransmitterCall old new → (tx_next old ≤ tx_next new) × ((n : ℕ) → n < tx_next old → kept_at old n ≡ None → kept_at new n ≡ None)
