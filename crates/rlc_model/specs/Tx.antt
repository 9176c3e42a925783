-- The transmitting side of an RLC entity: what it holds, giving an SDU and sending a PDU (TS 38.322 clauses 5.2.3.1, 5.3.3 and 7.1).
use Rattle.std.specs.Prelude.{◌≡◌, ◌≢◌, ◌⊎◌, ◌↔◌, ℕ, ◌+◌, ◌-◌, ◌<◌, ◌≤◌, min, max, Bool, true, false, if◌then◌else◌, nat_lt, List, [], ◌∷◌, ◌++◌, length, slice_index_or, count_by, Option, Some, None, is_some}
use Rattle.std.specs.List.{prefix_len}
use Rattle.std.specs.Option.{is_none}
use Rattle.link_base.specs.declared.names.SnSize.{SnSize}
use Rattle.link_base.specs.declared.rlc_words.Tag.{Tag}
use Rattle.link_base.specs.SequenceNumbers.{window}
use Rattle.rlc_pdu.specs.Amd.{Amd, amd_bytes, sn_end}
use Rattle.rlc_model.specs.declared.transmitter.TxGrant.{TxGrant}
use Rattle.rlc_model.specs.declared.transmitter.TxGrant.TheVariants.{Sent, Idle, Small}
use Rattle.rlc_model.specs.Numbers.{IsFirst, IsFirstRun}
use Rattle.rlc_model.specs.Pdu.{piece}

-- an SDU that is not confirmed: its tag, its bytes, for each byte sent so far whether it is pending for retransmission, and RETX_COUNT
-- where it is defined (clauses 5.3.2 and 7.1)
pub record Kept : Type 0 where
  pub tag : Tag
  pub sdu : List ℕ
  pub flags : List Bool
  pub retx_count : Option ℕ

-- what a transmitter holds (clauses 5.2.3.1.1, 7.1, 7.3 and 7.4): pollPDU and pollByte, 0 for never; maxRetxThreshold; the SDU of each
-- number given so far, or None once it is confirmed; PDU_WITHOUT_POLL; BYTE_WITHOUT_POLL; POLL_SN; whether a poll is owed since
-- t-PollRetransmit ran out; whether that timer runs
pub record Tx : Type 0 where
  pub size : SnSize
  pub poll_pdu : ℕ
  pub poll_byte : ℕ
  pub max_retx_threshold : ℕ
  pub kept : List (Option Kept)
  pub pdu_without_poll : ℕ
  pub byte_without_poll : ℕ
  pub poll_sn : Option ℕ
  pub poll_owed : Bool
  pub poll_retransmit_runs : Bool

-- a transmitter that was given nothing
abbrev pub empty_tx : SnSize → ℕ → ℕ → ℕ → Tx
empty_tx size poll_pdu poll_byte max_retx_threshold = record { size = size; poll_pdu = poll_pdu; poll_byte = poll_byte; max_retx_threshold = max_retx_threshold; kept = []; pdu_without_poll = 0; byte_without_poll = 0; poll_sn = None; poll_owed = false; poll_retransmit_runs = false }

-- of a list that has for each number its SDU, or None where that is confirmed: the SDU of a number, or None where it was not given either
abbrev pub at : List (Option Kept) → ℕ → Option Kept
at l n = slice_index_or l n None

-- the SDU of a number, or None where it is confirmed or was not given
abbrev pub kept_at : Tx → ℕ → Option Kept
kept_at t n = at t.kept n

-- TX_Next: the number of the next SDU given (7.1)
abbrev pub tx_next : Tx → ℕ
tx_next t = length t.kept

-- TX_Next_Ack: the lowest number that is not confirmed, or TX_Next (7.1)
abbrev pub tx_next_ack : Tx → ℕ
tx_next_ack t = prefix_len is_none t.kept

-- how many more SDUs the transmitting window takes where these are given (5.2.3.1.1 and 7.2)
abbrev pub room_of : SnSize → List (Option Kept) → ℕ
room_of size l = prefix_len is_none l + window size - length l

-- the same of a transmitter
abbrev pub room : Tx → ℕ
room t = room_of t.size t.kept

-- how many SDUs are not confirmed
abbrev pub unconfirmed : Tx → ℕ
unconfirmed t = count_by is_some t.kept

-- the byte at this place is pending
abbrev pub is_pending : Option Kept → ℕ → Bool
is_pending None p = false
is_pending (Some k) p = slice_index_or k.flags p false

-- a byte is not sent yet
abbrev pub is_unsent : Option Kept → Bool
is_unsent None = false
is_unsent (Some k) = nat_lt (length k.flags) (length k.sdu)

-- a byte was sent; of a confirmed SDU all were
abbrev pub is_sent : Option Kept → Bool
is_sent None = true
is_sent (Some k) = nat_lt 0 (length k.flags)

-- a number has a byte that waits for retransmission
abbrev pub HasPending : List (Option Kept) → ℕ → Type 0
HasPending l n = (p : ℕ) × (is_pending (at l n) p ≡ true)

-- some number has
abbrev pub SomePending : List (Option Kept) → Type 0
SomePending l = (n : ℕ) × (p : ℕ) × (is_pending (at l n) p ≡ true)

-- some number has a byte that waits for its first transmission
abbrev pub SomeUnsent : List (Option Kept) → Type 0
SomeUnsent l = (n : ℕ) × (is_unsent (at l n) ≡ true)

-- a byte waits for retransmission
abbrev pub PendingWaits : Tx → Type 0
PendingWaits t = SomePending t.kept

-- a byte waits for its first transmission
abbrev pub UnsentWaits : Tx → Type 0
UnsentWaits t = SomeUnsent t.kept

-- a number was given, and a byte of it was sent
abbrev pub HasBeenSent : List (Option Kept) → ℕ → Type 0
HasBeenSent l n = (n < length l) × (is_sent (at l n) ≡ true)

-- a byte of the number was sent
abbrev pub IsSent : Tx → ℕ → Type 0
IsSent t n = HasBeenSent t.kept n

-- c is one more than the greatest number of which a byte was sent, or 0
pub record IsBegunCount (l : List (Option Kept)) (c : ℕ) : Type 0 where
  pub above : (n : ℕ) → HasBeenSent l n → n < c
  pub last : (c ≡ 0) ⊎ HasBeenSent l (c - 1)

-- the same of a transmitter
abbrev pub IsSentCount : Tx → ℕ → Type 0
IsSentCount t c = IsBegunCount t.kept c

-- what a transmitter is configured with stays
pub record SameSettings (old new : Tx) : Type 0 where
  pub size : new.size ≡ old.size
  pub poll_pdu : new.poll_pdu ≡ old.poll_pdu
  pub poll_byte : new.poll_byte ≡ old.poll_byte
  pub max_retx_threshold : new.max_retx_threshold ≡ old.max_retx_threshold

-- a transmitter is given an SDU, which gets the number TX_Next (5.2.3.1.1)
pub record Gives (old : Tx) (tag : Tag) (sdu : List ℕ) (number : ℕ) (new : Tx) : Type 0 where
  pub has_room : 0 < room old
  pub its_number : number ≡ tx_next old
  pub is : new ≡ record old { kept = old.kept ++ Some (record { tag = tag; sdu = sdu; flags = []; retx_count = None }) ∷ [] }

-- the octets of the header of a PDU that begins at the place a (6.2.2.4)
abbrev pub header : SnSize → ℕ → ℕ
header size a = if nat_lt 0 a then sn_end size + 2 else sn_end size

-- of the number m the bytes from the place a up to but without b are next: the first maximal pending run of the lowest number that has
-- pending bytes, or where there is none the unsent bytes of the lowest number that has some (5.2.3.1.1 and 5.3.2)
pub data IsNextOf (l : List (Option Kept)) (m : ℕ) (k : Kept) (a b : ℕ) : Type 0 where
  pending : IsFirst (HasPending l) 0 m → at l m ≡ Some k → IsFirstRun k.flags a b → IsNextOf l m k a b
  unsent : (SomePending l → ⊥) → IsFirst (λ n. is_unsent (at l n) ≡ true) 0 m → at l m ≡ Some k → a ≡ length k.flags → b ≡ length k.sdu → IsNextOf l m k a b

-- the same of a transmitter
abbrev pub IsNext : Tx → ℕ → Kept → ℕ → ℕ → Type 0
IsNext t m k a b = IsNextOf t.kept m k a b

-- the flags once the bytes from a up to but without e were sent: there is one for each byte up to e, and none of these is pending
pub record Clears (old : List Bool) (a e : ℕ) (new : List Bool) : Type 0 where
  pub long : length new ≡ max (length old) e
  pub sent : (p : ℕ) → a ≤ p → p < e → slice_index_or new p false ≡ false
  pub rest : (p : ℕ) → (p < a) ⊎ (e ≤ p) → slice_index_or new p false ≡ slice_index_or old p false

-- a PDU has its P bit, where so many fresh ones of its bytes were unsent: pollPDU, pollByte, PDU_WITHOUT_POLL, BYTE_WITHOUT_POLL and
-- whether a poll is owed are those before it, and the SDUs those behind it (5.3.3.2)
pub data HasPoll (poll_pdu poll_byte pdu_without_poll byte_without_poll : ℕ) (poll_owed : Bool) (size : SnSize) (l : List (Option Kept)) (fresh : ℕ) : Type 0 where
  by_pdus : 0 < fresh → 0 < poll_pdu → poll_pdu ≤ pdu_without_poll + 1 → HasPoll poll_pdu poll_byte pdu_without_poll byte_without_poll poll_owed size l fresh
  by_bytes : 0 < fresh → 0 < poll_byte → poll_byte ≤ byte_without_poll + fresh → HasPoll poll_pdu poll_byte pdu_without_poll byte_without_poll poll_owed size l fresh
  nothing_waits : (SomeUnsent l → ⊥) → (SomePending l → ⊥) → HasPoll poll_pdu poll_byte pdu_without_poll byte_without_poll poll_owed size l fresh
  full : (SomeUnsent l → ⊥) → room_of size l ≡ 0 → HasPoll poll_pdu poll_byte pdu_without_poll byte_without_poll poll_owed size l fresh
  owed : poll_owed ≡ true → HasPoll poll_pdu poll_byte pdu_without_poll byte_without_poll poll_owed size l fresh

-- the same, where old and new are the transmitter before and behind the PDU
abbrev pub IsPolled : Tx → Tx → ℕ → Type 0
IsPolled old new fresh = HasPoll old.poll_pdu old.poll_byte old.pdu_without_poll old.byte_without_poll old.poll_owed new.size new.kept fresh

-- behind a PDU with a poll the counters are 0, no poll is owed, POLL_SN is the highest number of which a byte was sent, and
-- t-PollRetransmit runs (5.3.3.2)
pub record BeginsPoll (new : Tx) : Type 0 where
  pub pdu_without_poll : new.pdu_without_poll ≡ 0
  pub byte_without_poll : new.byte_without_poll ≡ 0
  pub poll_owed : new.poll_owed ≡ false
  pub runs : new.poll_retransmit_runs ≡ true
  pub highest : ℕ
  pub poll_sn : new.poll_sn ≡ Some highest
  pub is_highest : IsSentCount new (highest + 1)

-- behind a PDU without one the counters have grown by the PDU and its bytes, where so many fresh ones were unsent (5.3.3.2)
pub record CountsPoll (old new : Tx) (fresh : ℕ) : Type 0 where
  pub pdu_without_poll : new.pdu_without_poll ≡ old.pdu_without_poll + min fresh 1
  pub byte_without_poll : new.byte_without_poll ≡ old.byte_without_poll + fresh
  pub poll_owed : new.poll_owed ≡ old.poll_owed
  pub runs : new.poll_retransmit_runs ≡ old.poll_retransmit_runs
  pub poll_sn : new.poll_sn ≡ old.poll_sn

-- what a PDU does to the variables of polling (5.3.3.2)
pub record Counters (old new : Tx) (fresh : ℕ) (poll : Bool) : Type 0 where
  pub polled : poll ≡ true ↔ IsPolled old new fresh
  pub begins : poll ≡ true → BeginsPoll new
  pub counts : poll ≡ false → CountsPoll old new fresh

-- a grant of n octets sends the PDU v, the piece of number m from the place a up to but without e (5.2.3.1.1)
pub record Sends (old : Tx) (n m : ℕ) (v : Amd) (new : Tx) : Type 0 where
  pub kept : Kept
  pub flags : List Bool
  pub a : ℕ
  pub b : ℕ
  pub e : ℕ
  pub next : IsNext old m kept a b
  pub fits : header old.size a < n
  pub end : e ≡ min b (a + n - header old.size a)
  pub view : v ≡ piece old.size m kept.sdu a e v.poll
  pub clears : Clears kept.flags a e flags
  pub this : kept_at new m ≡ Some (record kept { flags = flags })
  pub others : (k : ℕ) → k ≢ m → kept_at new k ≡ kept_at old k
  pub long : length new.kept ≡ length old.kept
  pub same : SameSettings old new
  pub counters : Counters old new (e - length kept.flags) v.poll

-- a transmitter is granted one PDU of at most n octets: it sends one; or nothing waits; or the header of what is next and one byte have
-- more octets (5.2.3.1.1)
abbrev pub Grants : Tx → ℕ → TxGrant → Tx → Type 0
Grants old n (Sent number bytes) new = (v : Amd) × (bytes ≡ amd_bytes old.size v) × Sends old n number v new
Grants old n Idle new = (PendingWaits old → ⊥) × (UnsentWaits old → ⊥) × (new ≡ old)
Grants old n (Small need) new = (m : ℕ) × (k : Kept) × (a : ℕ) × (b : ℕ) × IsNext old m k a b × (need ≡ header old.size a + 1) × (n < need) × (new ≡ old)
