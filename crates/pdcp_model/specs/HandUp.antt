-- What is handed up of a bearer in one way, from the list of all data PDUs heard: no store and no RX_DELIV (TS 38.323 clauses 5.2.2.1 and 7.1).
use Rattle.std.specs.Prelude.{◌≡◌, ◌⊎◌, ℕ, ◌+◌, ◌<◌, ◌≤◌, List, [], ◌∷◌, ◌++◌, length, slice_index_or}
use Rattle.link_base.specs.declared.names.SnSize.{SnSize}
use Rattle.link_base.specs.declared.limits.TheConstants.{COUNT_END}
use Rattle.link_base.specs.SequenceNumbers.{Near}
use Rattle.pdcp_model.specs.declared.answers.PdcpHeard.{PdcpHeard}
use Rattle.pdcp_model.specs.declared.answers.PdcpHeard.TheVariants.{Up}
use Rattle.pdcp_model.specs.Receiver.{Receiver, new_receiver, Hears}

-- a data PDU that was heard: its SN and its SDU
pub record Hearing : Type 0 where
  pub sn : ℕ
  pub sdu : List ℕ

-- the COUNT of an SN near a base: it is no lower than the bearer's first one, and there is an end of COUNTs (7.1)
pub record IsCount (size : SnSize) (first sn base count : ℕ) : Type 0 where
  pub near : Near size sn base count
  pub from : first ≤ count
  pub within : count < COUNT_END

-- these SDUs are those of a map from COUNTs to SDUs, from the first COUNT on without a gap, and as many as there are
pub record IsLongestRun (first : ℕ) (IsSdu : ℕ → List ℕ → Type 0) (sdus : List (List ℕ)) : Type 0 where
  pub each : (n : ℕ) → n < length sdus → IsSdu (first + n) (slice_index_or sdus n [])
  pub gap : (sdu : List ℕ) → IsSdu (first + length sdus) sdu → ⊥

-- of data PDUs, the last first, the first one of this COUNT had this SDU. The COUNT of each is the one near as many as were handed up before it
abbrev pub IsHeardAs : SnSize → ℕ → List Hearing → ℕ → List ℕ → Type 0
IsHeardAs size first [] count sdu = ⊥
IsHeardAs size first (h ∷ hs) count sdu =
    IsHeardAs size first hs count sdu
    ⊎ (((other : List ℕ) → IsHeardAs size first hs count other → ⊥) × (sdu ≡ h.sdu)
    × (handed : List (List ℕ)) × IsLongestRun first (IsHeardAs size first hs) handed × IsCount size first h.sn (first + length handed) count)

-- of data PDUs, one of this COUNT was heard
abbrev pub IsHeard : SnSize → ℕ → List Hearing → ℕ → Type 0
IsHeard size first hs count = (sdu : List ℕ) × IsHeardAs size first hs count sdu

-- what is handed up of data PDUs: the SDUs of the longest run of COUNTs from the first one on that were heard
abbrev pub HandUp : SnSize → ℕ → List Hearing → List (List ℕ) → Type 0
HandUp size first hs sdus = IsLongestRun first (IsHeardAs size first hs) sdus

-- the SDUs that an answer hands up
abbrev pub handed_by : PdcpHeard → List (List ℕ)
handed_by (Up sdus) = sdus
handed_by answer = []

-- a receiving side that began with nothing has heard these data PDUs, the last first, and has handed up these SDUs
abbrev pub HasHeard : SnSize → ℕ → List Hearing → List (List ℕ) → Receiver → Type 0
HasHeard size first [] sdus r = (sdus ≡ []) × (r ≡ new_receiver size first)
HasHeard size first (h ∷ hs) sdus r =
    (before : Receiver) × (earlier : List (List ℕ)) × HasHeard size first hs earlier before
    × (answer : PdcpHeard) × Hears before h.sn h.sdu answer r × (sdus ≡ earlier ++ handed_by answer)
