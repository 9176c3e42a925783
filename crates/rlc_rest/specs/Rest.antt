-- What one way of a hop has still to do: a number that falls with each move that brings it nearer to its end.
use Rattle.std.specs.Prelude.{◌≡◌, ℕ, zero, suc, ◌+◌, ◌*◌, ◌^◌, ◌<◌, Bool, true, false, if◌then◌else◌, nat_lt, not, ◌&&◌, ◌||◌, List, length, slice_index_or, Option, Some, None, is_none}
use Rattle.rlc_pdu.specs.Amd.{Amd}
use Rattle.rlc_status.specs.declared.status.Status.{Status}
use Rattle.rlc_model.specs.declared.receiver.Heard.{Heard}
use Rattle.rlc_model.specs.declared.transmitter.StatusHeard.{StatusHeard}
use Rattle.rlc_model.specs.Tx.{Tx, Kept, kept_at, tx_next, tx_next_ack, unconfirmed, is_pending, PendingWaits, UnsentWaits, Sends}
use Rattle.rlc_model.specs.Retransmission.{HearsStatus, ExpiresPoll}
use Rattle.rlc_model.specs.Rx.{Rx, Got, Done, Part, got, is_done, Hears, ExpiresProhibit}
use Rattle.rlc_model.specs.Made.{WritesStatus}
use Rattle.rlc_law.specs.Hop.{Hop, Reaches}

-- 1 where a test passes
abbrev pub one_if : Bool → ℕ
one_if b = if b then 1 else 0

-- how many numbers below one pass a test
abbrev pub count_below : (ℕ → Bool) → ℕ → ℕ
count_below f zero = 0
count_below f (suc k) = one_if (f k) + count_below f k

-- the sum of f over the numbers below one
abbrev pub sum_below : (ℕ → ℕ) → ℕ → ℕ
sum_below f zero = 0
sum_below f (suc k) = f k + sum_below f k

-- the length of an SDU that is kept
abbrev pub sdu_len : Option Kept → ℕ
sdu_len None = 0
sdu_len (Some k) = length k.sdu

-- the byte at this place was sent
abbrev pub is_sent_at : Option Kept → ℕ → Bool
is_sent_at None p = true
is_sent_at (Some k) p = nat_lt p (length k.flags)

-- the receiver lacks the byte at this place
abbrev pub lacks : Got → ℕ → Bool
lacks Done p = false
lacks (Part held len) p = is_none (slice_index_or held p None)

-- the byte at this place waits for transmission
abbrev pub waits_at : Option Kept → ℕ → Bool
waits_at o p = is_pending o p || not (is_sent_at o p)

-- how many places of the SDUs that are kept pass a test
abbrev pub total : (Option Kept → Got → ℕ → Bool) → Tx → Rx → ℕ
total f t r = sum_below (λ n. count_below (f (kept_at t n) (got r n)) (sdu_len (kept_at t n))) (tx_next t)

-- how many places the receiver lacks
abbrev pub missing : Tx → Rx → ℕ
missing = total (λ o g p. lacks g p)

-- how many bytes are kept
abbrev pub bytes : Tx → Rx → ℕ
bytes = total (λ o g p. true)

-- how many are pending
abbrev pub pendings : Tx → Rx → ℕ
pendings = total (λ o g p. is_pending o p)

-- lacked, and nothing waits that will bring it
abbrev pub forgotten : Tx → Rx → ℕ
forgotten = total (λ o g p. lacks g p && not (waits_at o p))

-- lacked, and waiting for transmission
abbrev pub useful : Tx → Rx → ℕ
useful = total (λ o g p. lacks g p && waits_at o p)

-- how far the next PDU that brings something new is: 0 where one waits, or a STATUS is triggered that will confirm the lowest
-- unconfirmed number; else 1 or 3 where a poll is owed, by whether that number is complete; else 2
abbrev pub distance : Tx → Rx → ℕ
distance t r = if nat_lt 0 (useful t r) || (r.status_triggered && is_done (got r (tx_next_ack t))) then 0 else (if t.poll_owed then (if is_done (got r (tx_next_ack t)) then 1 else 3) else 2)

-- what only falls
abbrev pub major : Tx → Rx → ℕ
major t r = unconfirmed t + missing t r

-- above all that the smaller part can come to
abbrev pub scale : Tx → Rx → ℕ
scale t r = 3145732 + 12 * bytes t r

-- what falls while no byte is new and nothing is confirmed
abbrev pub minor : Tx → Rx → ℕ
minor t r = distance t r * 1048576 + 4 * pendings t r + 8 * forgotten t r + (if r.status_triggered then 2 else 0) + (if r.status_prohibit_runs then 1 else 0)

-- what one way of the hop has still to do
abbrev pub rest : Tx → Rx → ℕ
rest t r = major t r * scale t r + minor t r

-- a data PDU is sent and heard at once
abbrev pub DataFalls : Type 0
DataFalls = (h : Hop) → Reaches h → (n m : ℕ) (v : Amd) (t : Tx) (answer : Heard) (r : Rx) → Sends h.tx n m v t → Hears h.rx v answer r → rest t r < rest h.tx h.rx

-- a STATUS is made and heard at once
abbrev pub StatusFalls : Type 0
StatusFalls = (h : Hop) → Reaches h → (n a : ℕ) (s : Status) (r : Rx) (answer : StatusHeard) (t : Tx) → WritesStatus h.rx n a s r → HearsStatus h.tx s answer t → rest t r < rest h.tx h.rx

-- the poll timer runs out where nothing waits, no STATUS is triggered and an SDU is unconfirmed
abbrev pub PollFalls : Type 0
PollFalls = (h : Hop) → Reaches h → (PendingWaits h.tx → ⊥) → (UnsentWaits h.tx → ⊥) → h.rx.status_triggered ≡ false → tx_next_ack h.tx < tx_next h.tx → (marks : List ℕ) (t : Tx) → ExpiresPoll h.tx marks t → rest t h.rx < rest h.tx h.rx

-- the prohibit timer runs out
abbrev pub ProhibitFalls : Type 0
ProhibitFalls = (t : Tx) (old new : Rx) → ExpiresProhibit old new → rest t new < rest t old

-- what is left of one way is below 2^65
abbrev pub RestBounded : Type 0
RestBounded = (h : Hop) → Reaches h → rest h.tx h.rx < 2 ^ 65

-- how many SDUs were given and not handed up
abbrev pub not_up : Tx → Rx → ℕ
not_up t r = count_below (λ n. not (is_done (got r n))) (tx_next t)

-- each SDU given was handed up, or is one of these
abbrev pub SdusCounted : Type 0
SdusCounted = (h : Hop) → Reaches h → not_up h.tx h.rx + length h.completed ≡ length h.given
