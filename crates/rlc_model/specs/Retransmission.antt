-- A transmitter hears a STATUS, or its poll timer runs out (TS 38.322 clauses 5.2.3.1, 5.3.2, 5.3.3.3 and 5.3.3.4).
use Rattle.std.specs.Prelude.{◌≡◌, ◌≢◌, ◌⊎◌, ◌↔◌, ℕ, ◌+◌, ◌-◌, ◌<◌, ◌≤◌, min, true, false, List, [], ◌∷◌, ◌++◌, length, slice_index_or, Contains, Option, Some, None}
use Rattle.std.specs.List.Sorted.{IsStrictlyIncreasing}
use Rattle.link_base.specs.declared.names.SnSize.{SnSize}
use Rattle.link_base.specs.declared.rlc_words.Tag.{Tag}
use Rattle.link_base.specs.SequenceNumbers.{Near}
use Rattle.rlc_status.specs.declared.status.Nack.{Nack}
use Rattle.rlc_status.specs.declared.status.Status.{Status}
use Rattle.rlc_status.specs.Says.{IsGreatest, count, Some_has, Names, SaysReceived, SaysMissing}
use Rattle.rlc_model.specs.declared.transmitter.StatusHeard.{StatusHeard}
use Rattle.rlc_model.specs.declared.transmitter.StatusHeard.TheVariants.{Acked, Old, Beyond}
use Rattle.rlc_model.specs.Tx.{Tx, Kept, at, kept_at, tx_next, tx_next_ack, is_unsent, PendingWaits, UnsentWaits, IsBegunCount, IsSentCount, SameSettings}

-- RETX_COUNT of an SDU that is considered for retransmission: it becomes 0 where it was undefined, else it grows by one where a byte
-- became pending that was not, else it stays. The number is a mark where the count comes to maxRetxThreshold; a count above that is
-- never asked for, so all of these are kept as one (5.3.2)
pub data Counts (max_retx_threshold : ℕ) (old new : Kept) (is_mark : Type 0) : Type 0 where
  first : old.retx_count ≡ None → new.retx_count ≡ Some 0 → (is_mark ↔ max_retx_threshold ≡ 0) → Counts max_retx_threshold old new is_mark
  again : (c p : ℕ) → old.retx_count ≡ Some c → slice_index_or old.flags p false ≡ false → slice_index_or new.flags p false ≡ true
      → new.retx_count ≡ Some (min (c + 1) (max_retx_threshold + 1)) → (is_mark ↔ max_retx_threshold ≡ c + 1) → Counts max_retx_threshold old new is_mark
  stays : (c : ℕ) → old.retx_count ≡ Some c → ((p : ℕ) → slice_index_or new.flags p false ≡ true → slice_index_or old.flags p false ≡ true)
      → new.retx_count ≡ Some c → (is_mark → ⊥) → Counts max_retx_threshold old new is_mark

-- the bytes named that were sent become pending, and RETX_COUNT follows (5.3.2)
pub record BecomesPending (max_retx_threshold : ℕ) (named : ℕ → Type 0) (old new : Kept) (is_mark : Type 0) : Type 0 where
  pub tag : new.tag ≡ old.tag
  pub sdu : new.sdu ≡ old.sdu
  pub long : length new.flags ≡ length old.flags
  pub pends : (p : ℕ) → p < length old.flags → (slice_index_or new.flags p false ≡ true) ↔ (slice_index_or old.flags p false ≡ true) ⊎ named p
  pub counts : Counts max_retx_threshold old new is_mark

-- no byte waits, and all bytes of the lowest unconfirmed number become pending (5.3.3.4)
pub record LowestPends (old : Tx) (marks : List ℕ) (new : Tx) : Type 0 where
  pub none_pending : PendingWaits old → ⊥
  pub none_unsent : UnsentWaits old → ⊥
  pub before : Kept
  pub behind : Kept
  pub was : kept_at old (tx_next_ack old) ≡ Some before
  pub is : kept_at new (tx_next_ack old) ≡ Some behind
  pub becomes : BecomesPending old.max_retx_threshold (λ p. Unit {0}) before behind (marks ≡ tx_next_ack old ∷ [])
  pub its_marks : (marks ≡ []) ⊎ (marks ≡ tx_next_ack old ∷ [])
  pub others : (n : ℕ) → n ≢ tx_next_ack old → kept_at new n ≡ kept_at old n
  pub long : length new.kept ≡ length old.kept
  pub same : new ≡ record old { kept = new.kept }

-- where no byte waits and a number is unconfirmed, the lowest one is considered for retransmission; else nothing changes (5.3.3.4)
pub data RetransmitsLowest (old : Tx) (marks : List ℕ) (new : Tx) : Type 0 where
  stays : PendingWaits old ⊎ UnsentWaits old ⊎ (tx_next_ack old ≡ tx_next old) → marks ≡ [] → new ≡ old → RetransmitsLowest old marks new
  retransmits : LowestPends old marks new → RetransmitsLowest old marks new

-- the part of an element begins at or behind the end of an SDU that is not confirmed, the first one named
pub record BeginsPast (size : SnSize) (l : List (Option Kept)) (a : ℕ) (e : Nack) : Type 0 where
  pub number : ℕ
  pub unconfirmed : Kept
  pub start : ℕ
  pub end : ℕ
  pub is : IsGreatest size a e.sn number
  pub part : e.part ≡ Some (start, end)
  pub kept : at l number ≡ Some unconfirmed
  pub past : length unconfirmed.sdu ≤ start

-- the part of an element ends at or behind the end of an SDU that is not confirmed, the last one named, and SOend doesn't stand for
-- that end
pub record EndsPast (size : SnSize) (l : List (Option Kept)) (a : ℕ) (e : Nack) : Type 0 where
  pub number : ℕ
  pub unconfirmed : Kept
  pub start : ℕ
  pub end : ℕ
  pub is : IsGreatest size a e.sn number
  pub part : e.part ≡ Some (start, end)
  pub kept : at l (number + count e - 1) ≡ Some unconfirmed
  pub past : length unconfirmed.sdu ≤ end
  pub explicit : end ≢ 65535

-- a STATUS whose ACK stands for a speaks of what was not sent: a is above what was sent; an element names a number below 0, or one that
-- isn't below a; a part of an unconfirmed SDU begins or ends behind it; or a number is said received whose bytes weren't all sent (5.3.2)
pub data SpeaksBeyond (size : SnSize) (l : List (Option Kept)) (s : Status) (a : ℕ) : Type 0 where
  above : (c : ℕ) → IsBegunCount l c → c < a → SpeaksBeyond size l s a
  below_zero : Some_has (λ e. (m : ℕ) → IsGreatest size a e.sn m → ⊥) s.nacks → SpeaksBeyond size l s a
  past_ack : Some_has (λ e. (m : ℕ) × IsGreatest size a e.sn m × (a < m + count e)) s.nacks → SpeaksBeyond size l s a
  begins_past : Some_has (BeginsPast size l a) s.nacks → SpeaksBeyond size l s a
  ends_past : Some_has (EndsPast size l a) s.nacks → SpeaksBeyond size l s a
  not_sent : (n : ℕ) → SaysReceived size a s n → is_unsent (at l n) ≡ true → SpeaksBeyond size l s a

-- the same of a transmitter
abbrev pub IsBeyondAt : Tx → Status → ℕ → Type 0
IsBeyondAt t s a = SpeaksBeyond t.size t.kept s a

-- a STATUS speaks of what was not sent: no number near TX_Next_Ack + 1 has its ACK_SN, or it does with the number that has (5.3.2)
pub data IsBeyond (t : Tx) (s : Status) : Type 0 where
  no_number : ((a : ℕ) → Near t.size s.ack (tx_next_ack t + 1) a → ⊥) → IsBeyond t s
  beyond_at : (a : ℕ) → Near t.size s.ack (tx_next_ack t + 1) a → IsBeyondAt t s a → IsBeyond t s

-- what a STATUS does to the number n: it is confirmed where it is said received; else, below the ACK, its bytes said missing become
-- pending; else it stays (5.2.3.1.1 and 5.3.2)
pub data UpdatesKept (size : SnSize) (max_retx_threshold a : ℕ) (s : Status) (n : ℕ) (marks : List ℕ) (old new : Option Kept) : Type 0 where
  confirmed : (k : Kept) → old ≡ Some k → SaysReceived size a s n → new ≡ None → UpdatesKept size max_retx_threshold a s n marks old new
  missing : (k k' : Kept) → old ≡ Some k → n < a → Names size a s n → new ≡ Some k' → BecomesPending max_retx_threshold (SaysMissing size a s n) k k' (Contains marks n) → UpdatesKept size max_retx_threshold a s n marks old new
  rest : (a ≤ n) ⊎ (old ≡ None) → new ≡ old → UpdatesKept size max_retx_threshold a s n marks old new

-- the same of a transmitter before it
abbrev pub UpdatesSdu : Tx → ℕ → Status → ℕ → List ℕ → Option Kept → Type 0
UpdatesSdu old a s n marks new = UpdatesKept old.size old.max_retx_threshold a s n marks (kept_at old n) new

-- what a STATUS does to all numbers, and to t-PollRetransmit, which stops where POLL_SN is below the ACK (5.3.3.3)
pub record Updates (old : Tx) (a : ℕ) (s : Status) (marks : List ℕ) (new : Tx) : Type 0 where
  pub each : (n : ℕ) → UpdatesSdu old a s n marks (kept_at new n)
  pub marks_only : (n : ℕ) → Contains marks n → (k : Kept) × (kept_at old n ≡ Some k) × (n < a) × Names old.size a s n
  pub marks_rise : IsStrictlyIncreasing marks
  pub long : length new.kept ≡ length old.kept
  pub same : SameSettings old new
  pub pdu_without_poll : new.pdu_without_poll ≡ old.pdu_without_poll
  pub byte_without_poll : new.byte_without_poll ≡ old.byte_without_poll
  pub poll_owed : new.poll_owed ≡ old.poll_owed
  pub poll_sn : new.poll_sn ≡ old.poll_sn
  pub timer : ((h : ℕ) × (old.poll_sn ≡ Some h) × (h < a) × (new.poll_retransmit_runs ≡ false)) ⊎ (((h : ℕ) → old.poll_sn ≡ Some h → a ≤ h) × (new.poll_retransmit_runs ≡ old.poll_retransmit_runs))

-- the tags of the SDUs newly confirmed, by number
abbrev pub confirmed_tags : List (Option Kept) → List (Option Kept) → List Tag
confirmed_tags [] news = []
confirmed_tags (o ∷ olds) [] = []
confirmed_tags (None ∷ olds) (n ∷ news) = confirmed_tags olds news
confirmed_tags (Some k ∷ olds) (None ∷ news) = k.tag ∷ confirmed_tags olds news
confirmed_tags (Some k ∷ olds) (Some n ∷ news) = confirmed_tags olds news

-- a STATUS is carried out, where a is the number of its ACK. At last, where a poll is owed, the lowest unconfirmed number becomes
-- pending if nothing else waits; mid stands before that (5.2.3.1.1, 5.3.2 and 5.3.3)
pub record Acknowledges (old : Tx) (s : Status) (tags : List Tag) (marks : List ℕ) (new : Tx) : Type 0 where
  pub fine : IsBeyond old s → ⊥
  pub a : ℕ
  pub ack : Near old.size s.ack (tx_next_ack old + 1) a
  pub current : tx_next_ack old ≤ a
  pub its_tags : tags ≡ confirmed_tags old.kept new.kept
  pub mid : Tx
  pub missing_marks : List ℕ
  pub lowest_marks : List ℕ
  pub its_marks : marks ≡ missing_marks ++ lowest_marks
  pub updates : Updates old a s missing_marks mid
  pub lowest : (mid.poll_owed ≡ true → RetransmitsLowest mid lowest_marks new) × (mid.poll_owed ≡ false → (lowest_marks ≡ []) × (new ≡ mid))

-- a transmitter hears a STATUS: it is carried out; or its ACK is below TX_Next_Ack; or it speaks of what was not sent (5.3.2)
abbrev pub HearsStatus : Tx → Status → StatusHeard → Tx → Type 0
HearsStatus old s (Acked tags marks) new = Acknowledges old s tags marks new
HearsStatus old s (Old a next) new = (IsBeyond old s → ⊥) × Near old.size s.ack (tx_next_ack old + 1) a × (next ≡ tx_next_ack old) × (a < next) × (new ≡ old)
HearsStatus old s (Beyond ack sent) new = IsBeyond old s × (ack ≡ s.ack) × IsSentCount old sent × (new ≡ old)

-- t-PollRetransmit runs out: a poll is owed, and where nothing waits the lowest unconfirmed number becomes pending (5.3.3.4)
pub record ExpiresPoll (old : Tx) (marks : List ℕ) (new : Tx) : Type 0 where
  pub runs : old.poll_retransmit_runs ≡ true
  pub mid : Tx
  pub stopped : mid ≡ record old { poll_retransmit_runs = false; poll_owed = true }
  pub lowest : RetransmitsLowest mid marks new
