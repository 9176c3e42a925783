-- What a STATUS that is heard names of SDUs, before it is carried out (TS 38.322 clause 5.3.2).
use Rattle.std.specs.Prelude.{◌≡◌, ◌⊎◌, ◌↔◌, ℕ, ◌+◌, ◌<◌, Bool, true, false, List, length, slice_index_or, Option, Some, None}
use Rattle.link_base.specs.declared.names.SnSize.{SnSize}
use Rattle.rlc_status.specs.declared.status.Nack.{Nack}
use Rattle.rlc_status.specs.Says.{Some_has, NamesNumber, NamesPlace}
use Rattle.rlc_model.specs.Tx.{Kept, at, is_pending}
use Rattle.rlc_am_tx.specs.declared.naming.Naming.{Naming}
use Rattle.rlc_am_tx.specs.Elements.{HoldsNumber, HoldsPlace}
use Rattle.rlc_am_tx.specs.Flags.{is_set, HasFresh, IsSetOfSent}

-- nothing is named
abbrev pub not_named : Naming
not_named = record { named = false; pending = None }

-- what is named of an SDU, by its SDU
abbrev pub named_at : List Naming → ℕ → Naming
named_at names i = slice_index_or names i not_named

-- the byte at this place is to be pending, where the pending bytes become those of a set
abbrev pub pends_with : Option Kept → Option (List Bool) → ℕ → Bool
pends_with o None p = is_pending o p
pends_with o (Some set) p = is_set set p

-- the set has bytes of the SDU that were sent, one of which isn't pending
pub record IsNewSet (o : Option Kept) (set : List Bool) : Type 0 where
  pub kept : Kept
  pub is : o ≡ Some kept
  pub fits : IsSetOfSent set (length kept.flags)
  pub fresh : HasFresh kept.flags set

-- there is a set only where a byte is named that isn't pending
abbrev pub IsNamingOf : Option Kept → Naming → Type 0
IsNamingOf o x = (set : List Bool) → x.pending ≡ Some set → IsNewSet o set

-- these places of an SDU are named too
abbrev pub NamesMore : Option Kept → (ℕ → Type 0) → Naming → Naming → Type 0
NamesMore o Places old new = (k : Kept) → o ≡ Some k → (p : ℕ) → p < length k.flags → (pends_with o new.pending p ≡ true) ↔ (pends_with o old.pending p ≡ true) ⊎ Places p

-- one of these places, or of those named before, is that of a byte that was sent and isn't pending
pub record CanName (o : Option Kept) (Places : ℕ → Type 0) (x : Naming) : Type 0 where
  pub kept : Kept
  pub is : o ≡ Some kept
  pub place : ℕ
  pub sent : place < length kept.flags
  pub idle : is_set kept.flags place ≡ false
  pub why : (pends_with o x.pending place ≡ true) ⊎ Places place

-- what is named of each SDU has the form above
abbrev pub AreNamingsOf : List (Option Kept) → List Naming → Type 0
AreNamingsOf kept_sdus names = (i : ℕ) → IsNamingOf (at kept_sdus i) (named_at names i)

-- these numbers are named too, and of each these places
pub record NamesAll (kept_sdus : List (Option Kept)) (Numbers : ℕ → Type 0) (Places : ℕ → ℕ → Type 0) (old new : List Naming) : Type 0 where
  pub numbers : (i : ℕ) → (named_at new i).named ≡ true ↔ ((named_at old i).named ≡ true) ⊎ Numbers i
  pub places : (i : ℕ) → NamesMore (at kept_sdus i) (Places i) (named_at old i) (named_at new i)
  pub fits : AreNamingsOf kept_sdus new

-- what an element names of the numbers from `base` on, where `first` is its first one
abbrev pub ByElement : List (Option Kept) → ℕ → ℕ → Nack → List Naming → List Naming → Type 0
ByElement kept_sdus base first nack old new =
    NamesAll kept_sdus (λ i. HoldsNumber nack first (base + i)) (λ i p. HoldsNumber nack first (base + i) × HoldsPlace nack first (base + i) p) old new

-- what elements do
abbrev pub ByElements : List (Option Kept) → ℕ → SnSize → ℕ → List Nack → List Naming → List Naming → Type 0
ByElements kept_sdus base size ack nacks old new =
    NamesAll kept_sdus (λ i. Some_has (λ e. NamesNumber size ack e (base + i)) nacks) (λ i p. Some_has (λ e. NamesPlace size ack e (base + i) p) nacks) old new

-- of some SDU a place is one of these, or of those named before, whose byte was sent and isn't pending
abbrev pub CanNameOne : List (Option Kept) → (ℕ → ℕ → Type 0) → List Naming → Type 0
CanNameOne kept_sdus Places names = (i : ℕ) × CanName (at kept_sdus i) (Places i) (named_at names i)

-- while no STATUS is carried out nothing is named
abbrev pub AreForgotten : List Naming → Type 0
AreForgotten names = (i : ℕ) → named_at names i ≡ not_named
