-- One hop in one way: a transmitter, a receiver, and the air between them, which loses, repeats and reorders PDUs.
use Rattle.std.specs.Prelude.{◌≡◌, ℕ, ◌<◌, ◌≤◌, true, false, List, [], ◌∷◌, ◌++◌, length, slice_index_or, Contains}
use Rattle.link_base.specs.declared.names.SnSize.{SnSize}
use Rattle.link_base.specs.declared.rlc_words.Tag.{Tag}
use Rattle.link_base.specs.declared.limits.TheConstants.{LONGEST_RLC_SDU}
use Rattle.rlc_pdu.specs.Amd.{Amd}
use Rattle.rlc_status.specs.declared.status.Status.{Status}
use Rattle.rlc_model.specs.declared.receiver.Heard.{Heard}
use Rattle.rlc_model.specs.declared.receiver.Heard.TheVariants.{Stored, Complete, Repeat, Outside, Conflict}
use Rattle.rlc_model.specs.declared.transmitter.StatusHeard.{StatusHeard}
use Rattle.rlc_model.specs.Heard.{Data}
use Rattle.rlc_model.specs.Tx.{Tx, empty_tx, tx_next_ack, Gives, Sends}
use Rattle.rlc_model.specs.Retransmission.{HearsStatus, ExpiresPoll}
use Rattle.rlc_model.specs.Rx.{Rx, empty_rx, rx_next, Hears, ExpiresReassembly, ExpiresProhibit}
use Rattle.rlc_model.specs.Made.{WritesStatus}
use Rattle.rlc_model.specs.Air.{IsFresh}

-- a STATUS, and the number that its ACK_SN stands for
pub record StatusMade : Type 0 where
  pub ack : ℕ
  pub status : Status

-- an SDU that was handed up under its number
pub record Completion : Type 0 where
  pub number : ℕ
  pub sdu : List ℕ

-- given has the SDUs by number; pdus and statuses have all PDUs ever made, completed what was handed up and heard the data PDUs
-- delivered, the last first
pub record Hop : Type 0 where
  pub tx : Tx
  pub rx : Rx
  pub given : List (List ℕ)
  pub pdus : List Data
  pub statuses : List StatusMade
  pub completed : List Completion
  pub heard : List Data

abbrev pub start : SnSize → ℕ → ℕ → ℕ → Hop
start size poll_pdu poll_byte max_retx_threshold = record { tx = empty_tx size poll_pdu poll_byte max_retx_threshold; rx = empty_rx size; given = []; pdus = []; statuses = []; completed = []; heard = [] }

-- the SDU given under a number
abbrev pub given_at : Hop → ℕ → List ℕ
given_at h n = slice_index_or h.given n []

-- what can happen. A loss is a delivery that never comes, and a repeat is one that comes again
pub data Event : Type 0 where
  Give : (tag : Tag) (sdu : List ℕ) → Event
  Grant : (n : ℕ) → Event
  GrantStatus : (n : ℕ) → Event
  Deliver : (d : Data) → Event
  DeliverStatus : (t : StatusMade) → Event
  ExpirePoll : Event
  ExpireReassembly : Event
  ExpireProhibit : Event

abbrev pub completed_after : Heard → List Completion → List Completion
completed_after (Complete x sdu) completed = record { number = x; sdu = sdu } ∷ completed
completed_after Stored completed = completed
completed_after Repeat completed = completed
completed_after Outside completed = completed
completed_after Conflict completed = completed

-- an event takes the hop from old to a new one. A PDU that was made can be delivered as long as it isn't stale
pub data Happens (old : Hop) : Event → Hop → Type 0 where
  gives : {tag : Tag} {sdu : List ℕ} (number : ℕ) (t : Tx) → 0 < length sdu → length sdu ≤ LONGEST_RLC_SDU → Gives old.tx tag sdu number t → Happens old (Give tag sdu) (record old { tx = t; given = old.given ++ sdu ∷ [] })
  sends : {n : ℕ} (m : ℕ) (v : Amd) (t : Tx) → Sends old.tx n m v t → Happens old (Grant n) (record old { tx = t; pdus = record { number = m; view = v } ∷ old.pdus })
  makes_status : {n : ℕ} (a : ℕ) (s : Status) (r : Rx) → WritesStatus old.rx n a s r → Happens old (GrantStatus n) (record old { rx = r; statuses = record { ack = a; status = s } ∷ old.statuses })
  delivers : {d : Data} (answer : Heard) (r : Rx) → Contains old.pdus d → IsFresh old.rx.size false d.number (rx_next old.rx) → Hears old.rx d.view answer r → Happens old (Deliver d) (record old { rx = r; completed = completed_after answer old.completed; heard = d ∷ old.heard })
  acknowledges : {t : StatusMade} (answer : StatusHeard) (x : Tx) → Contains old.statuses t → IsFresh old.tx.size true t.ack (tx_next_ack old.tx) → HearsStatus old.tx t.status answer x → Happens old (DeliverStatus t) (record old { tx = x })
  expires_poll : (marks : List ℕ) (t : Tx) → ExpiresPoll old.tx marks t → Happens old ExpirePoll (record old { tx = t })
  expires_reassembly : (r : Rx) → ExpiresReassembly old.rx r → Happens old ExpireReassembly (record old { rx = r })
  expires_prohibit : (r : Rx) → ExpiresProhibit old.rx r → Happens old ExpireProhibit (record old { rx = r })

-- a run of events, the last first
abbrev pub Run : Hop → List Event → Hop → Type 0
Run first [] last = last ≡ first
Run first (e ∷ es) last = (mid : Hop) × Run first es mid × Happens mid e last

-- the hop can come to h
pub record Reaches (h : Hop) : Type 0 where
  pub size : SnSize
  pub poll_pdu : ℕ
  pub poll_byte : ℕ
  pub max_retx_threshold : ℕ
  pub events : List Event
  pub run : Run (start size poll_pdu poll_byte max_retx_threshold) events h
