-- The receiving side of an RLC entity: what it holds, and its steps (TS 38.322 clauses 5.2.3.2, 5.3.4 and 7.1).
use Rattle.std.specs.Prelude.{◌≡◌, ◌≢◌, ◌⊎◌, ◌↔◌, ℕ, ◌+◌, ◌<◌, ◌≤◌, max, Bool, true, false, if◌then◌else◌, not, ◌&&◌, ◌||◌, List, [], length, slice_index, slice_index_or, Option, Some, None, Contains}
use Rattle.std.specs.List.{prefix_len}
use Rattle.std.specs.List.Sorted.{IsStrictlyIncreasing}
use Rattle.link_base.specs.declared.names.SnSize.{SnSize}
use Rattle.link_base.specs.SequenceNumbers.{window, Near}
use Rattle.rlc_pdu.specs.Amd.{Amd}
use Rattle.rlc_model.specs.declared.receiver.Heard.{Heard}
use Rattle.rlc_model.specs.declared.receiver.Heard.TheVariants.{Stored, Complete, Repeat, Outside, Conflict}
use Rattle.rlc_model.specs.Numbers.{IsFirst}
use Rattle.rlc_model.specs.Pdu.{end_of, is_end, byte_at}

-- what is got of an SDU: all of it, or the bytes held by place and the length where that is known
pub data Got : Type 0 where
  Done : Got
  Part : (held : List (Option ℕ)) (len : Option ℕ) → Got

-- what a receiver holds (clauses 5.2.3.2.1, 7.1 and 7.3): what is got of each number below RX_Next_Highest; RX_Highest_Status;
-- RX_Next_Status_Trigger, which is there while t-Reassembly runs; whether a STATUS is triggered; the numbers of the polls that have
-- not triggered one yet, rising; whether t-StatusProhibit runs
pub record Rx : Type 0 where
  pub size : SnSize
  pub received : List Got
  pub rx_highest_status : ℕ
  pub rx_next_status_trigger : Option ℕ
  pub status_triggered : Bool
  pub delayed_polls : List ℕ
  pub status_prohibit_runs : Bool

-- a receiver that has heard nothing
abbrev pub empty_rx : SnSize → Rx
empty_rx size = record { size = size; received = []; rx_highest_status = 0; rx_next_status_trigger = None; status_triggered = false; delayed_polls = []; status_prohibit_runs = false }

-- what is got of a number; nothing from RX_Next_Highest on
abbrev pub got : Rx → ℕ → Got
got r n = slice_index_or r.received n (Part [] None)

-- all of the SDU is got
abbrev pub is_done : Got → Bool
is_done Done = true
is_done (Part held len) = false

-- the byte held at a place of an SDU that is not complete
abbrev pub held_at : Got → ℕ → Option ℕ
held_at Done p = None
held_at (Part held len) p = slice_index_or held p None

-- the length of an SDU that is not complete, where it is known
abbrev pub len_of : Got → Option ℕ
len_of Done = None
len_of (Part held len) = len

-- RX_Next: the first number that is not complete (7.1)
abbrev pub rx_next : Rx → ℕ
rx_next r = prefix_len is_done r.received

-- RX_Next_Highest: one more than the highest number of which something was heard, or 0 (7.1)
abbrev pub rx_next_highest : Rx → ℕ
rx_next_highest r = length r.received

-- a STATUS is triggered and not prohibited (5.3.4)
abbrev pub status_due : Rx → Bool
status_due r = r.status_triggered && not r.status_prohibit_runs

-- a byte is missing before the last byte held
abbrev pub HasGap : Got → Type 0
HasGap g = (p q : ℕ) × (p < q) × (held_at g p ≡ None) × (held_at g q ≢ None)

-- a data PDU brings nothing new of an SDU that is not complete: its bytes are held, and the SDU's end is known or not in it (5.2.3.2.2)
abbrev pub BringsNothing : Got → Amd → Type 0
BringsNothing g v = ((p : ℕ) → v.so ≤ p → p < end_of v → held_at g p ≢ None) × (is_end v.si ≡ false ⊎ len_of g ≢ None)

-- a data PDU brings nothing new of its number x: x is complete, or the PDU brings nothing new of its SDU (5.2.3.2.2)
abbrev pub IsRepeat : Rx → ℕ → Amd → Type 0
IsRepeat r x v = (x < rx_next r) ⊎ (got r x ≡ Done) ⊎ BringsNothing (got r x) v

-- a data PDU disagrees with what is got about the SDU's end: it gives another length, or a length at or below a place held; it has a
-- byte past the known length; or it is a segment that ends there and isn't the last (5.2.3.2.2)
pub data IsConflict (g : Got) (v : Amd) : Type 0 where
  other_length : (l : ℕ) → is_end v.si ≡ true → len_of g ≡ Some l → l ≢ end_of v → IsConflict g v
  held_past : (p : ℕ) → is_end v.si ≡ true → end_of v ≤ p → held_at g p ≢ None → IsConflict g v
  past_length : (l : ℕ) → len_of g ≡ Some l → l < end_of v → IsConflict g v
  no_last : is_end v.si ≡ false → len_of g ≡ Some (end_of v) → IsConflict g v

-- the first of two bytes that is there
abbrev pub first_of : Option ℕ → Option ℕ → Option ℕ
first_of (Some b) c = Some b
first_of None c = c

-- the bytes held and the length once the PDU is placed: a byte held before keeps its first copy (5.2.3.2.2)
pub record Places (old : Got) (v : Amd) (held : List (Option ℕ)) (len : Option ℕ) : Type 0 where
  pub bytes : (p : ℕ) → slice_index_or held p None ≡ first_of (held_at old p) (byte_at v p)
  pub its_length : len ≡ (if is_end v.si then Some (end_of v) else len_of old)

-- the length is known and all bytes up to it are held
abbrev pub IsFull : List (Option ℕ) → Option ℕ → Type 0
IsFull held len = (l : ℕ) × (len ≡ Some l) × ((p : ℕ) → p < l → slice_index_or held p None ≢ None)

-- the length is known, and the bytes held up to it are those of the SDU (5.2.3.2.3)
pub record Covers (held : List (Option ℕ)) (len : Option ℕ) (sdu : List ℕ) : Type 0 where
  pub known : len ≡ Some (length sdu)
  pub bytes : (p : ℕ) → p < length sdu → slice_index_or held p None ≡ Some (slice_index sdu p)

-- what is got of x becomes g, of the others it stays, and RX_Next_Highest is above x (5.2.3.2.3)
pub record Enters (old : Rx) (x : ℕ) (g : Got) (new : Rx) : Type 0 where
  pub this : got new x ≡ g
  pub others : (n : ℕ) → n ≢ x → got new n ≡ got old n
  pub long : rx_next_highest new ≡ max (rx_next_highest old) (x + 1)

-- t-Reassembly runs on with this trigger: it lies above RX_Next and at most a window above it, and where it is RX_Next + 1 a byte of
-- RX_Next is missing before the last one held (5.2.3.2.3)
pub record RunsOnFrom (next : ℕ) (size : SnSize) (has_gap : Type 0) (trigger : ℕ) : Type 0 where
  pub above : next < trigger
  pub within : trigger ≤ next + window size
  pub gap : trigger ≡ next + 1 → has_gap

abbrev pub RunsOn : Rx → ℕ → Type 0
RunsOn r trigger = RunsOnFrom (rx_next r) r.size (HasGap (got r (rx_next r))) trigger

-- t-Reassembly has to run for x: RX_Next_Highest is above x + 1, or it is x + 1 and a byte of x is missing before the last one held
-- (5.2.3.2.3 and 5.2.3.2.4)
abbrev pub HasToRunBelow : ℕ → ℕ → Type 0 → Type 0
HasToRunBelow highest x has_gap = (x + 1 < highest) ⊎ ((highest ≡ x + 1) × has_gap)

abbrev pub HasToRun : Rx → ℕ → Type 0
HasToRun r x = HasToRunBelow (rx_next_highest r) x (HasGap (got r x))

-- t-Reassembly after a PDU was placed: it runs on with its trigger, else it starts with RX_Next_Highest as its trigger where it has to
-- run for RX_Next, else it rests (5.2.3.2.3)
pub data TriggerMoves (before : Option ℕ) (on : ℕ → Type 0) (has_to : Type 0) (highest : ℕ) (after : Option ℕ) : Type 0 where
  runs_on : (t : ℕ) → before ≡ Some t → on t → after ≡ Some t → TriggerMoves before on has_to highest after
  starts : ((t : ℕ) → before ≡ Some t → on t → ⊥) → has_to → after ≡ Some highest → TriggerMoves before on has_to highest after
  rests : ((t : ℕ) → before ≡ Some t → on t → ⊥) → (has_to → ⊥) → after ≡ None → TriggerMoves before on has_to highest after

abbrev pub Reassembles : Option ℕ → Rx → Type 0
Reassembles before new = TriggerMoves before (RunsOn new) (HasToRun new (rx_next new)) (rx_next_highest new) new.rx_next_status_trigger

-- a poll of this number triggers a STATUS: the number is below RX_Highest_Status, or not below the receiving window's end (5.3.4)
abbrev pub IsDue : Rx → ℕ → Type 0
IsDue r x = (x < r.rx_highest_status) ⊎ (rx_next r + window r.size ≤ x)

-- the poll at x, where there is one, and those delayed before: each triggers a STATUS once it is due, and is delayed until then (5.3.4)
pub record Polls (old : Rx) (x : ℕ) (poll : Bool) (new : Rx) : Type 0 where
  pub triggers : new.status_triggered ≡ true ↔ ((old.status_triggered ≡ true) ⊎ ((poll ≡ true) × IsDue new x) ⊎ ((k : ℕ) × Contains old.delayed_polls k × IsDue new k))
  pub delays : (k : ℕ) → Contains new.delayed_polls k ↔ ((Contains old.delayed_polls k ⊎ ((poll ≡ true) × (k ≡ x))) × (IsDue new k → ⊥))
  pub rises : IsStrictlyIncreasing new.delayed_polls

-- a poll of a PDU that changes nothing else triggers a STATUS at once (5.3.4)
abbrev pub PollsAtOnce : Rx → Amd → Rx → Type 0
PollsAtOnce old v new = new ≡ record old { status_triggered = old.status_triggered || v.poll }

-- a data PDU is to be placed: it has a number near RX_Next, brings something new of it, and doesn't disagree with what is got (5.2.3.2.2)
pub record IsToBePlaced (r : Rx) (v : Amd) : Type 0 where
  pub number : ℕ
  pub near : Near r.size v.sn (rx_next r) number
  pub news : IsRepeat r number v → ⊥
  pub agrees : IsConflict (got r number) v → ⊥

-- a data PDU of number x is placed, and its SDU isn't complete (5.2.3.2.3)
pub record Stores (old : Rx) (x : ℕ) (v : Amd) (new : Rx) : Type 0 where
  pub held : List (Option ℕ)
  pub len : Option ℕ
  pub places : Places (got old x) v held len
  pub partial : IsFull held len → ⊥
  pub enters : Enters old x (Part held len) new
  pub highest_status : new.rx_highest_status ≡ old.rx_highest_status
  pub size : new.size ≡ old.size
  pub prohibit : new.status_prohibit_runs ≡ old.status_prohibit_runs
  pub reassembly : Reassembles old.rx_next_status_trigger new
  pub polls : Polls old x v.poll new

-- a data PDU of number x is placed and makes its SDU complete. RX_Highest_Status, where it is x, goes on to the next number that isn't
-- complete (5.2.3.2.3)
pub record Completes (old : Rx) (x : ℕ) (v : Amd) (sdu : List ℕ) (new : Rx) : Type 0 where
  pub held : List (Option ℕ)
  pub len : Option ℕ
  pub places : Places (got old x) v held len
  pub covers : Covers held len sdu
  pub enters : Enters old x Done new
  pub highest_status : ((x ≡ old.rx_highest_status) × IsFirst (λ n. got new n ≢ Done) (x + 1) new.rx_highest_status) ⊎ ((x ≢ old.rx_highest_status) × (new.rx_highest_status ≡ old.rx_highest_status))
  pub size : new.size ≡ old.size
  pub prohibit : new.status_prohibit_runs ≡ old.status_prohibit_runs
  pub reassembly : Reassembles old.rx_next_status_trigger new
  pub polls : Polls old x v.poll new

-- a receiver hears a data PDU: no number near RX_Next has its SN; or it brings nothing new; or it disagrees with what is got; or it is
-- placed (5.2.3.2.2)
abbrev pub Hears : Rx → Amd → Heard → Rx → Type 0
Hears old v Outside new = ((x : ℕ) → Near old.size v.sn (rx_next old) x → ⊥) × PollsAtOnce old v new
Hears old v Repeat new = (x : ℕ) × Near old.size v.sn (rx_next old) x × IsRepeat old x v × PollsAtOnce old v new
Hears old v Conflict new = (x : ℕ) × Near old.size v.sn (rx_next old) x × (IsRepeat old x v → ⊥) × IsConflict (got old x) v × PollsAtOnce old v new
Hears old v Stored new = (x : ℕ) × Near old.size v.sn (rx_next old) x × (IsRepeat old x v → ⊥) × (IsConflict (got old x) v → ⊥) × Stores old x v new
Hears old v (Complete x sdu) new = Near old.size v.sn (rx_next old) x × (IsRepeat old x v → ⊥) × (IsConflict (got old x) v → ⊥) × Completes old x v sdu new

-- t-Reassembly runs out: RX_Highest_Status goes on to the first number from the trigger on that isn't complete, and a STATUS is
-- triggered. The timer starts again with RX_Next_Highest as its trigger where it has to run for RX_Highest_Status (5.2.3.2.4)
pub record ExpiresReassembly (old new : Rx) : Type 0 where
  pub trigger : ℕ
  pub runs : old.rx_next_status_trigger ≡ Some trigger
  pub highest_status : IsFirst (λ n. got old n ≢ Done) trigger new.rx_highest_status
  pub reassembly : (HasToRun old new.rx_highest_status × (new.rx_next_status_trigger ≡ Some (rx_next_highest old))) ⊎ ((HasToRun old new.rx_highest_status → ⊥) × (new.rx_next_status_trigger ≡ None))
  pub is : new ≡ record old { rx_highest_status = new.rx_highest_status; status_triggered = true; rx_next_status_trigger = new.rx_next_status_trigger; delayed_polls = new.delayed_polls }
  pub delays : (k : ℕ) → Contains new.delayed_polls k ↔ (Contains old.delayed_polls k × (IsDue new k → ⊥))
  pub rises : IsStrictlyIncreasing new.delayed_polls

-- t-StatusProhibit runs out (5.3.4)
pub record ExpiresProhibit (old new : Rx) : Type 0 where
  pub runs : old.status_prohibit_runs ≡ true
  pub is : new ≡ record old { status_prohibit_runs = false }
