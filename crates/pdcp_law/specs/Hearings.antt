-- Laws of a receiving side (TS 38.323 clauses 5.2.2.1 and 5.4.1).
use Rattle.std.specs.Prelude.{◌≡◌, ◌↔◌, ℕ, ◌<◌, ◌≤◌, true, List, ◌∷◌, length}
use Rattle.link_base.specs.declared.names.SnSize.{SnSize}
use Rattle.link_base.specs.SequenceNumbers.{modulus}
use Rattle.pdcp_pdu.specs.Reports.{Reports}
use Rattle.pdcp_model.specs.declared.answers.PdcpHeard.{PdcpHeard}
use Rattle.pdcp_model.specs.Receiver.{Receiver, rx_deliv, Hears, IsReport}
use Rattle.pdcp_model.specs.Sender.{is_reported}
use Rattle.pdcp_model.specs.HandUp.{Hearing, IsCount, IsHeard, HandUp, HasHeard}

-- an SDU that comes with an SN has at most one answer, and leaves one receiving side
abbrev pub OneHearing : Type 0
OneHearing = (old : Receiver) (sn : ℕ) (sdu : List ℕ) (a b : PdcpHeard) (r s : Receiver) → Hears old sn sdu a r → Hears old sn sdu b s → (a ≡ b) × (r ≡ s)

-- it has one
abbrev pub SomeHearing : Type 0
SomeHearing = (old : Receiver) (sn : ℕ) (sdu : List ℕ) → sn < modulus old.size → (a : PdcpHeard) × (r : Receiver) × Hears old sn sdu a r

-- what a receiving side has handed up is what is handed up of all that it heard
abbrev pub HandsUpTheHandUp : Type 0
HandsUpTheHandUp = (size : SnSize) (first : ℕ) (hs : List Hearing) (sdus : List (List ℕ)) (r : Receiver) → HasHeard size first hs sdus r
    → HandUp size first hs sdus × (r.handed ≡ length sdus) × (r.size ≡ size) × (r.first ≡ first)

-- where an SDU comes with an SN that has a COUNT, this COUNT is heard from then on
abbrev pub EachIsHeard : Type 0
EachIsHeard = (size : SnSize) (first : ℕ) (hs : List Hearing) (sdus : List (List ℕ)) (r : Receiver) → HasHeard size first hs sdus r
    → (h : Hearing) (count : ℕ) → IsCount size first h.sn (rx_deliv r) count → IsHeard size first (h ∷ hs) count

-- the status report of a receiving side says of each COUNT from the first one on that it was received exactly where it was heard
abbrev pub ReportsWhatWasHeard : Type 0
ReportsWhatWasHeard = (size : SnSize) (first : ℕ) (hs : List Hearing) (sdus : List (List ℕ)) (r : Receiver) (fmc : ℕ) (map : List ℕ) → HasHeard size first hs sdus r → IsReport r fmc map
    → (count : ℕ) → first ≤ count → Reports fmc map count ↔ IsHeard size first hs count

-- the test whether a report says that an SDU was received tells it
abbrev pub TestsReports : Type 0
TestsReports = (fmc : ℕ) (map : List ℕ) (count : ℕ) → (is_reported fmc map count ≡ true) ↔ Reports fmc map count
