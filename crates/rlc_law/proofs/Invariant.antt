-- What each step of a hop keeps.
use Rattle.std.proofs.Common.{◌≡◌, ◌≢◌, ◌⊎◌, ℕ, ◌+◌, ◌%◌, ◌<◌, ◌≤◌, List, [], length, get_or, Some, None}
use Rattle.link_base.specs.declared.names.SnSize.{SnSize}
use Rattle.link_base.specs.SequenceNumbers.{window, modulus}
use Rattle.rlc_status.specs.Says.{IsGreatest, SaysReceived, count}
use Rattle.rlc_pdu.specs.Amd.{AmdFits}
use Rattle.rlc_model.specs.Pdu.{IsPiece}
use Rattle.rlc_status.specs.declared.status.Nack.{Nack}
use Rattle.rlc_status.specs.Format.{StatusFits}
use Rattle.rlc_model.specs.Heard.{Data}
use Rattle.rlc_model.specs.Tx.{Tx, Kept, kept_at, tx_next}
use Rattle.rlc_model.specs.Rx.{Rx, Done, got, held_at, len_of, rx_next_highest}
use Rattle.rlc_law.specs.Hop.{Hop, StatusMade, Completion}
use Rattle.std.specs.List.{Contains, AllPairs}
use Rattle.rlc_law.specs.Receiver.{IsSound}
use Rattle.rlc_law.proofs.Elements.{Each}

-- the SDU given under a number
abbrev pub at : List (List ℕ) → ℕ → List ℕ
at given n = get_or given n []

-- each SDU that is kept is the one given, and the window is kept
pub record TxFits (t : Tx) (given : List (List ℕ)) : Type 0 where
  pub long : length given ≡ tx_next t
  pub sdu : (n : ℕ) (k : Kept) → kept_at t n ≡ Some k → k.sdu ≡ at given n
  pub sent : (n : ℕ) (k : Kept) → kept_at t n ≡ Some k → length k.flags ≤ length k.sdu
  pub within : (n : ℕ) (k : Kept) → kept_at t n ≡ Some k → tx_next t ≤ n + window t.size

-- what is held are bytes of the SDUs given
pub record RxFits (r : Rx) (given : List (List ℕ)) : Type 0 where
  pub long : rx_next_highest r ≤ length given
  pub held : (n p b : ℕ) → held_at (got r n) p ≡ Some b → (p < length (at given n)) × (b ≡ get_or (at given n) p 0)
  pub len : (n l : ℕ) → len_of (got r n) ≡ Some l → l ≡ length (at given n)
  pub ends : (n p : ℕ) → held_at (got r n) p ≢ None → p + 1 ≡ length (at given n) → len_of (got r n) ≢ None

-- each PDU is a piece of the SDU given under its number, and fits its format
pub record IsSentAs (size : SnSize) (given : List (List ℕ)) (d : Data) : Type 0 where
  pub number : d.number < length given
  pub sn : d.view.sn ≡ d.number % modulus size
  pub piece : IsPiece (at given d.number) d.view
  pub fits : AmdFits size d.view

-- all data PDUs are such
abbrev pub PdusFit : SnSize → List (List ℕ) → List Data → Type 0
PdusFit size given pdus = (d : Data) → Contains pdus d → IsSentAs size given d

-- what is confirmed is complete
abbrev pub Confirms : Tx → Rx → Type 0
Confirms t r = (n : ℕ) → n < tx_next t → kept_at t n ≡ None → got r n ≡ Done

-- what was handed up is what is complete, once each
pub record CompletedFit (r : Rx) (given : List (List ℕ)) (completed : List Completion) : Type 0 where
  pub each : (u : Completion) → Contains completed u → (got r u.number ≡ Done) × (u.sdu ≡ at given u.number)
  pub all : (n : ℕ) → got r n ≡ Done → Contains completed (record { number = n; sdu = at given n })
  pub once : AllPairs (λ u w. u.number ≢ w.number) completed

-- what an element of a STATUS names is there
pub record NamesGiven (z : SnSize) (given : List (List ℕ)) (a : ℕ) (e : Nack) : Type 0 where
  pub first : ℕ
  pub is : IsGreatest z a e.sn first
  pub inside : first + count e ≤ a
  pub part : (x y : ℕ) → e.part ≡ Some (x, y) → (count e ≡ 1) × (x < length (at given first)) × ((y ≡ 65535) ⊎ (y < length (at given first)))

-- what a STATUS said received is complete
pub record StatusHolds (r : Rx) (given : List (List ℕ)) (t : StatusMade) : Type 0 where
  pub ack : t.ack ≤ length given
  pub sn : t.status.ack ≡ t.ack % modulus r.size
  pub fits : StatusFits r.size t.status
  pub named : Each (NamesGiven r.size given t.ack) t.status.nacks
  pub received : (n : ℕ) → SaysReceived r.size t.ack t.status n → got r n ≡ Done

-- all STATUS PDUs are such
abbrev pub StatusesFit : Rx → List (List ℕ) → List StatusMade → Type 0
StatusesFit r given statuses = (t : StatusMade) → Contains statuses t → StatusHolds r given t

pub record Invariant (h : Hop) : Type 0 where
  pub size : h.rx.size ≡ h.tx.size
  pub tx : TxFits h.tx h.given
  pub rx : RxFits h.rx h.given
  pub sound : IsSound h.rx
  pub sdus : (n : ℕ) → n < length h.given → (0 < length (at h.given n)) × (length (at h.given n) ≤ 9005)
  pub pdus : PdusFit h.tx.size h.given h.pdus
  pub confirms : Confirms h.tx h.rx
  pub completed : CompletedFit h.rx h.given h.completed
  pub statuses : StatusesFit h.rx h.given h.statuses
