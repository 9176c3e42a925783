-- Each step has at most one outcome.
use Rattle.std.specs.Prelude.{◌≡◌, ℕ, List}
use Rattle.link_base.specs.declared.rlc_words.Tag.{Tag}
use Rattle.rlc_pdu.specs.Amd.{Amd}
use Rattle.rlc_status.specs.declared.status.Status.{Status}
use Rattle.rlc_model.specs.declared.receiver.Heard.{Heard}
use Rattle.rlc_model.specs.declared.receiver.Made.{Made}
use Rattle.rlc_model.specs.declared.transmitter.TxGrant.{TxGrant}
use Rattle.rlc_model.specs.declared.transmitter.StatusHeard.{StatusHeard}
use Rattle.rlc_model.specs.Tx.{Tx, Gives, Grants}
use Rattle.rlc_model.specs.Retransmission.{HearsStatus, ExpiresPoll}
use Rattle.rlc_model.specs.Rx.{Rx, Got, got, is_done, held_at, len_of, rx_next_highest, Hears, ExpiresReassembly}
use Rattle.rlc_model.specs.Made.{Makes}
use Rattle.rlc_law.specs.Receiver.{IsSound}

-- the same is got of an SDU, place by place
pub record SameGot (g h : Got) : Type 0 where
  pub done : is_done g ≡ is_done h
  pub held : (p : ℕ) → held_at g p ≡ held_at h p
  pub len : len_of g ≡ len_of h

-- two receivers that nothing tells apart
pub record SameReceiver (a b : Rx) : Type 0 where
  pub size : a.size ≡ b.size
  pub each : (n : ℕ) → SameGot (got a n) (got b n)
  pub highest : rx_next_highest a ≡ rx_next_highest b
  pub highest_status : a.rx_highest_status ≡ b.rx_highest_status
  pub trigger : a.rx_next_status_trigger ≡ b.rx_next_status_trigger
  pub triggered : a.status_triggered ≡ b.status_triggered
  pub polls : a.delayed_polls ≡ b.delayed_polls
  pub prohibit : a.status_prohibit_runs ≡ b.status_prohibit_runs

-- hearing a data PDU has one answer, and leaves one receiver
abbrev pub OneHearing : Type 0
OneHearing = (old : Rx) (v : Amd) (a b : Heard) (r s : Rx) → Hears old v a r → Hears old v b s → (a ≡ b) × SameReceiver r s

-- making a STATUS has one answer and leaves one receiver, where it is sound
abbrev pub OneReport : Type 0
OneReport = (old : Rx) → IsSound old → (n : ℕ) (a b : Made) (r s : Rx) → Makes old n a r → Makes old n b s → (a ≡ b) × (r ≡ s)

-- the expiry of t-Reassembly leaves one receiver
abbrev pub OneReassemblyExpiry : Type 0
OneReassemblyExpiry = (old r s : Rx) → ExpiresReassembly old r → ExpiresReassembly old s → r ≡ s

-- giving has one number, and leaves one transmitter
abbrev pub OneGiving : Type 0
OneGiving = (old : Tx) (tag : Tag) (sdu : List ℕ) (m n : ℕ) (r s : Tx) → Gives old tag sdu m r → Gives old tag sdu n s → (m ≡ n) × (r ≡ s)

-- a grant has one answer, and leaves one transmitter
abbrev pub OneGrant : Type 0
OneGrant = (old : Tx) (n : ℕ) (a b : TxGrant) (r s : Tx) → Grants old n a r → Grants old n b s → (a ≡ b) × (r ≡ s)

-- hearing a STATUS has one answer, and leaves one transmitter
abbrev pub OneStatusHearing : Type 0
OneStatusHearing = (old : Tx) (status : Status) (a b : StatusHeard) (r s : Tx) → HearsStatus old status a r → HearsStatus old status b s → (a ≡ b) × (r ≡ s)

-- the expiry of t-PollRetransmit has one list of marks, and leaves one transmitter
abbrev pub OnePollExpiry : Type 0
OnePollExpiry = (old : Tx) (marks other_marks : List ℕ) (r s : Tx) → ExpiresPoll old marks r → ExpiresPoll old other_marks s → (marks ≡ other_marks) × (r ≡ s)
