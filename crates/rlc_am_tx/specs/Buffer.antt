-- A list that has for each number its SDU, or None where it is confirmed (TS 38.322 clauses 5.2.3.1 and 5.3.2).
use Rattle.std.specs.Prelude.{◌≡◌, ℕ, ◌<◌, ◌≤◌, true, false, List, [], ◌++◌, length, replicate, sum_by, Option, Some, None}
use Rattle.std.specs.List.{prefix_len}
use Rattle.std.specs.Option.{is_none}
use Rattle.link_base.specs.declared.limits.TheConstants.{LONGEST_RLC_SDU}
use Rattle.link_base.specs.declared.names.LocalId.{LocalId}
use Rattle.rlc_model.specs.Tx.{Kept, at, is_unsent, is_pending, SomePending, SomeUnsent}

-- numbers below the first SDU are confirmed
abbrev pub kept_from : ℕ → List (Option Kept) → List (Option Kept)
kept_from next_ack kept_sdus = replicate next_ack None ++ kept_sdus

-- an SDU that is not confirmed has a tag with this local identity
abbrev pub BearsOne : Option Kept → LocalId → Type 0
BearsOne None ue = ⊥
BearsOne (Some k) ue = k.tag.ue ≡ Some ue

-- the same of one of the list
abbrev pub BearsIn : List (Option Kept) → LocalId → Type 0
BearsIn l ue = (n : ℕ) × (k : Kept) × (at l n ≡ Some k) × (k.tag.ue ≡ Some ue)

-- a byte of an SDU is pending
abbrev pub IsPending : Option Kept → Type 0
IsPending o = (p : ℕ) × (is_pending o p ≡ true)

-- none is
abbrev pub IsIdle : Option Kept → Type 0
IsIdle o = (p : ℕ) → is_pending o p ≡ false

-- no number has pending bytes
abbrev pub NonePending : List (Option Kept) → Type 0
NonePending l = (n p : ℕ) → is_pending (at l n) p ≡ false

-- none has bytes that were never sent
abbrev pub NoneUnsent : List (Option Kept) → Type 0
NoneUnsent l = (n : ℕ) → is_unsent (at l n) ≡ false

-- an SDU has 1 to 9,005 bytes, and no more were sent than it has
pub record IsSdu (k : Kept) : Type 0 where
  pub some : 0 < length k.sdu
  pub long : length k.sdu ≤ LONGEST_RLC_SDU
  pub sent : length k.flags ≤ length k.sdu

-- SDUs are sent in the order of their numbers: all bytes of those below `unsent` were sent, and no byte of those above it
pub record IsInOrder (l : List (Option Kept)) (unsent : ℕ) : Type 0 where
  pub sdus : (n : ℕ) (k : Kept) → at l n ≡ Some k → IsSdu k
  pub limit : unsent ≤ length l
  pub below : (n : ℕ) → n < unsent → is_unsent (at l n) ≡ false
  pub from : (n : ℕ) → unsent ≤ n → n < length l → is_unsent (at l n) ≡ true
  pub above : (n : ℕ) (k : Kept) → unsent < n → at l n ≡ Some k → length k.flags ≡ 0

-- the bytes of an SDU, or none where it is confirmed
abbrev pub sdu_of : Option Kept → List ℕ
sdu_of None = []
sdu_of (Some k) = k.sdu

-- how many bytes of an SDU were sent, or none where it is confirmed
abbrev pub sent_of : Option Kept → ℕ
sent_of None = 0
sent_of (Some k) = length k.flags

-- a number has an SDU that has no byte at this place
abbrev pub EndsBy : List (Option Kept) → ℕ → ℕ → Type 0
EndsBy l n place = (k : Kept) × (at l n ≡ Some k) × (length k.sdu ≤ place)

-- as many bytes of an SDU were sent, of a confirmed one at most
abbrev pub most_sent : Option Kept → ℕ
most_sent None = LONGEST_RLC_SDU
most_sent (Some k) = length k.flags

-- the same of all SDUs
abbrev pub all_sent : List (Option Kept) → ℕ
all_sent l = sum_by most_sent l

-- an SDU is not confirmed, and no byte waits
pub record IsIdleList (l : List (Option Kept)) : Type 0 where
  pub some : prefix_len is_none l < length l
  pub pending : SomePending l → ⊥
  pub unsent : SomeUnsent l → ⊥
