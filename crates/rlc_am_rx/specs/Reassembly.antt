-- What is got of the SDUs from RX_Next on (TS 38.322 clause 5.2.3.2).
use Rattle.std.specs.Prelude.{◌≡◌, ◌≢◌, ◌⊎◌, ℕ, ◌+◌, ◌-◌, Bool, List, [], map, slice_index_or, Option, Some, None}
use Rattle.std.specs.Bool.{MatchBool}
use Rattle.rlc_pdu.specs.Amd.{Amd}
use Rattle.rlc_model.specs.Numbers.{IsFirst}
use Rattle.rlc_model.specs.Rx.{Got, Places, IsFull, Covers}
use Rattle.rlc_model.specs.Rx.Got.{Done, Part}
use Rattle.rlc_am_rx.specs.Assembly.{got_of_pieces}
use Rattle.rlc_am_rx.specs.declared.reassembly.Entry.{Entry}
use Rattle.rlc_am_rx.specs.declared.reassembly.Entry.TheVariants as entry

-- what is got of an SDU
abbrev pub got_of : Entry → Got
got_of entry.Untouched = Part [] None
got_of (entry.Partly assembly) = got_of_pieces assembly.value
got_of entry.Done = Done

-- what is got of a place, which is nothing behind the list
abbrev pub got_at : List Entry → ℕ → Got
got_at entries at = slice_index_or (map got_of entries) at (Part [] None)

-- the PDU is placed, and the SDU isn't complete
pub record PlacesPart (old : Got) (v : Amd) (new : Got) : Type 0 where
  pub held : List (Option ℕ)
  pub len : Option ℕ
  pub places : Places old v held len
  pub partial : IsFull held len → ⊥
  pub is : new ≡ Part held len

-- the PDU is placed and makes the SDU complete
pub record PlacesWhole (old : Got) (v : Amd) (sdu : List ℕ) (new : Got) : Type 0 where
  pub held : List (Option ℕ)
  pub len : Option ℕ
  pub places : Places old v held len
  pub covers : Covers held len sdu
  pub is : new ≡ Done

-- the PDU is placed, with the SDU where that makes it complete
abbrev pub PlacesSdu : Got → Amd → Option (List ℕ) → Got → Type 0
PlacesSdu old v None new = PlacesPart old v new
PlacesSdu old v (Some sdu) new = PlacesWhole old v sdu new

-- t-Reassembly starts with RX_Next_Highest as its trigger where it has to run, and else doesn't run
abbrev pub StartsFrom : Type 0 → ℕ → Option ℕ → Type 0
StartsFrom has_to highest after = (has_to × (after ≡ Some highest)) ⊎ ((has_to → ⊥) × (after ≡ None))

-- RX_Highest_Status once a PDU of the number n was placed: where it is n and n is complete now, it goes on to the next number that isn't.
-- The first entry is that of `next` (5.2.3.2.3)
abbrev pub MovesStatus : ℕ → List Entry → ℕ → Bool → ℕ → ℕ → Type 0
MovesStatus next entries n complete old new =
    MatchBool complete (((n ≡ old) × IsFirst (λ m. got_at entries (m - next) ≢ Done) (n + 1) new) ⊎ ((n ≢ old) × (new ≡ old))) (new ≡ old)
