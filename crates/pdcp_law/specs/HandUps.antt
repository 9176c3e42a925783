-- Laws of what is handed up of all that was heard (TS 38.323 clause 5.2.2.1).
use Rattle.std.specs.Prelude.{◌≡◌, ℕ, ◌<◌, List, All}
use Rattle.link_base.specs.declared.names.SnSize.{SnSize}
use Rattle.link_base.specs.SequenceNumbers.{modulus}
use Rattle.pdcp_model.specs.HandUp.{Hearing, IsHeardAs, HandUp}

-- a COUNT was heard as one SDU
abbrev pub OneSdu : Type 0
OneSdu = (size : SnSize) (first : ℕ) (hs : List Hearing) (count : ℕ) (s t : List ℕ) → IsHeardAs size first hs count s → IsHeardAs size first hs count t → s ≡ t

-- at most one list is handed up
abbrev pub OneHandUp : Type 0
OneHandUp = (size : SnSize) (first : ℕ) (hs : List Hearing) (a b : List (List ℕ)) → HandUp size first hs a → HandUp size first hs b → a ≡ b

-- and one is, where each SN is of the size
abbrev pub SomeHandUp : Type 0
SomeHandUp = (size : SnSize) (first : ℕ) (hs : List Hearing) → All (λ (h : Hearing). h.sn < modulus size) hs → (sdus : List (List ℕ)) × HandUp size first hs sdus
