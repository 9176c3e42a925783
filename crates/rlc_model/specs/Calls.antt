-- What the calls of an RLC entity do, where their Rust types are not those of the steps (TS 38.322).
use Rattle.std.specs.Prelude.{◌≡◌, ℕ, ◌+◌, ◌<◌, ◌≤◌, Bool, true, false, List, [], ◌∷◌, length, Option, Some, None}
use Rattle.std.specs.List.{prefix_len}
use Rattle.std.specs.Option.{is_none}
use Rattle.link_base.specs.declared.names.LocalId.{LocalId}
use Rattle.link_base.specs.declared.names.SnSize.{SnSize}
use Rattle.link_base.specs.declared.rlc_words.Expired.{Expired}
use Rattle.link_base.specs.declared.rlc_words.Expired.TheVariants.{Done, Marked, Stopped}
use Rattle.rlc_pdu.specs.declared.amd.AmdView.{AmdView}
use Rattle.rlc_pdu.specs.Amd.{amd_of}
use Rattle.rlc_model.specs.declared.receiver.Heard.{Heard}
use Rattle.rlc_model.specs.Rx.{Rx, Hears, ExpiresReassembly, ExpiresProhibit}
use Rattle.link_base.specs.SequenceNumbers.{Near}
use Rattle.rlc_status.specs.declared.status.Status.{Status}
use Rattle.rlc_status.specs.Says.{Names, SaysReceived, SaysMissing}
use Rattle.rlc_model.specs.Tx.{Tx, Kept, at, kept_at, tx_next_ack, is_pending, header, SomePending, SomeUnsent, IsNext}
use Rattle.rlc_model.specs.Retransmission.{IsBeyond, ExpiresPoll}

-- a receiver hears a data PDU (5.2.3.2.2)
abbrev pub HearsAs : Rx → AmdView → Heard → Rx → Type 0
HearsAs old pdu answer new = Hears old (amd_of pdu) answer new

-- t-Reassembly is to run out; no count comes to a threshold then (5.2.3.2.4)
abbrev pub ExpiresReassemblyAs : Rx → Expired → Rx → Type 0
ExpiresReassemblyAs old Done new = ExpiresReassembly old new
ExpiresReassemblyAs old (Marked n) new = ⊥
ExpiresReassemblyAs old Stopped new = (old.rx_next_status_trigger ≡ None) × (new ≡ old)

-- t-StatusProhibit is to run out (5.3.4)
abbrev pub ExpiresProhibitAs : Rx → Expired → Rx → Type 0
ExpiresProhibitAs old Done new = ExpiresProhibit old new
ExpiresProhibitAs old (Marked n) new = ⊥
ExpiresProhibitAs old Stopped new = (old.status_prohibit_runs ≡ false) × (new ≡ old)

-- t-PollRetransmit is to run out; a mark is the number whose count came to its threshold (5.3.3.4)
abbrev pub ExpiresPollAs : Tx → Expired → Tx → Type 0
ExpiresPollAs old Done new = ExpiresPoll old [] new
ExpiresPollAs old (Marked n) new = ExpiresPoll old (n ∷ []) new
ExpiresPollAs old Stopped new = (old.poll_retransmit_runs ≡ false) × (new ≡ old)

-- a grant of n octets is to send a PDU: a byte waits, and n has more octets than the header of what is next. Only that takes memory
-- (5.2.3.1.1)
abbrev pub GrantTakesMemory : Tx → ℕ → Type 0
GrantTakesMemory t n = (m : ℕ) × (k : Kept) × (a : ℕ) × (b : ℕ) × IsNext t m k a b × (header t.size a < n)

-- carrying out a STATUS whose ACK stands for a makes something grow: an SDU is confirmed, whose tag is told; a byte that was sent
-- becomes pending; a number is a mark though no byte becomes pending; or a poll is owed and nothing waits, so that the lowest
-- unconfirmed number becomes pending, unless it is confirmed (5.2.3.1.1, 5.3.2 and 5.3.3.4)
pub data Grows (size : SnSize) (max_retx_threshold : ℕ) (poll_owed : Bool) (l : List (Option Kept)) (s : Status) (a : ℕ) : Type 0 where
  confirms : (n : ℕ) (k : Kept) → at l n ≡ Some k → SaysReceived size a s n → Grows size max_retx_threshold poll_owed l s a
  pends : (n p : ℕ) (k : Kept) → at l n ≡ Some k → SaysMissing size a s n p → p < length k.flags → is_pending (Some k) p ≡ false → Grows size max_retx_threshold poll_owed l s a
  marks : (n : ℕ) (k : Kept) → at l n ≡ Some k → n < a → Names size a s n → k.retx_count ≡ None → max_retx_threshold ≡ 0 → Grows size max_retx_threshold poll_owed l s a
  wakes : poll_owed ≡ true → (SomePending l → ⊥) → (SomeUnsent l → ⊥) → prefix_len is_none l < length l → Grows size max_retx_threshold poll_owed l s a

-- a STATUS is carried out, being neither beyond what was sent nor old, and makes something grow. Only that takes memory
pub record StatusTakesMemory (t : Tx) (s : Status) : Type 0 where
  pub fine : IsBeyond t s → ⊥
  pub a : ℕ
  pub ack : Near t.size s.ack (tx_next_ack t + 1) a
  pub current : tx_next_ack t ≤ a
  pub grows : Grows t.size t.max_retx_threshold t.poll_owed t.kept s a

-- an SDU that is not confirmed bears this local identity
abbrev pub Bears : Tx → LocalId → Type 0
Bears t ue = (n : ℕ) × (k : Kept) × (kept_at t n ≡ Some k) × (k.tag.ue ≡ Some ue)
