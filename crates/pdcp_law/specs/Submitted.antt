-- What was submitted goes up, in order (TS 38.323 clause 5.2.2.1).
use Rattle.std.specs.Prelude.{◌≡◌, ℕ, ◌+◌, ◌<◌, ◌≤◌, List, [], ◌∷◌, ◌++◌, length, take, slice_index_or}
use Rattle.link_base.specs.declared.names.SnSize.{SnSize}
use Rattle.link_base.specs.SequenceNumbers.{Near}
use Rattle.pdcp_model.specs.Receiver.{Receiver, rx_deliv}
use Rattle.pdcp_model.specs.HandUp.{Hearing, IsHeardAs, HandUp, HasHeard}

-- of SDUs submitted from the first COUNT on, the one with this COUNT
pub record IsSubmittedAs (first : ℕ) (submitted : List (List ℕ)) (count : ℕ) (sdu : List ℕ) : Type 0 where
  pub number : ℕ
  pub below : number < length submitted
  pub its_count : count ≡ first + number
  pub its_sdu : sdu ≡ slice_index_or submitted number []

-- behind other data PDUs one is heard of an SDU submitted: its SN is that of the SDU's COUNT, which is near as many as were handed up before
pub record IsOfSubmitted (size : SnSize) (first : ℕ) (submitted : List (List ℕ)) (before : List Hearing) (h : Hearing) : Type 0 where
  pub count : ℕ
  pub is : IsSubmittedAs first submitted count h.sdu
  pub handed : List (List ℕ)
  pub hand_up : HandUp size first before handed
  pub near : Near size h.sn (first + length handed) count

-- of data PDUs, the last first, each was heard of an SDU submitted
abbrev pub AreOfSubmitted : SnSize → ℕ → List (List ℕ) → List Hearing → Type 0
AreOfSubmitted size first submitted [] = Unit {0}
AreOfSubmitted size first submitted (h ∷ hs) = AreOfSubmitted size first submitted hs × IsOfSubmitted size first submitted hs h

-- they still are once more was submitted
abbrev pub MoreMayBeSubmitted : Type 0
MoreMayBeSubmitted = (size : SnSize) (first : ℕ) (submitted more : List (List ℕ)) (hs : List Hearing) → AreOfSubmitted size first submitted hs → AreOfSubmitted size first (submitted ++ more) hs

-- they are with one more, where its COUNT is near RX_DELIV of the receiving side that heard the others
abbrev pub OneMoreIsHeard : Type 0
OneMoreIsHeard = (size : SnSize) (first : ℕ) (submitted : List (List ℕ)) (hs : List Hearing) (sdus : List (List ℕ)) (r : Receiver) (h : Hearing) (count : ℕ)
    → HasHeard size first hs sdus r → AreOfSubmitted size first submitted hs → IsSubmittedAs first submitted count h.sdu → Near size h.sn (rx_deliv r) count → AreOfSubmitted size first submitted (h ∷ hs)

-- then each COUNT was heard as the SDU that was submitted with it
abbrev pub HeardAsSubmitted : Type 0
HeardAsSubmitted = (size : SnSize) (first : ℕ) (submitted : List (List ℕ)) (hs : List Hearing) → AreOfSubmitted size first submitted hs
    → (count : ℕ) (sdu : List ℕ) → IsHeardAs size first hs count sdu → IsSubmittedAs first submitted count sdu

-- and what is handed up are the SDUs submitted, in order from the first
abbrev pub GoesUpAsSubmitted : Type 0
GoesUpAsSubmitted = (size : SnSize) (first : ℕ) (submitted : List (List ℕ)) (hs : List Hearing) → AreOfSubmitted size first submitted hs
    → (sdus : List (List ℕ)) → HandUp size first hs sdus → (length sdus ≤ length submitted) × (sdus ≡ take (length sdus) submitted)
