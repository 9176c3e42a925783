-- What is held of one SDU that is not complete (TS 38.322 clause 5.2.3.2).
use Rattle.std.specs.Prelude.{◌≡◌, ◌≢◌, ℕ, ◌+◌, ◌-◌, ◌<◌, ◌≤◌, Bool, if◌then◌else◌, List, [], ◌∷◌, length, slice_index, Option, Some, None}
use Rattle.byte_spans.specs.Spans.{Has, Lacks}
use Rattle.rlc_model.specs.Rx.{Got, held_at}
use Rattle.rlc_model.specs.Rx.Got.{Part}
use Rattle.rlc_am_rx.specs.declared.assembly.Assembly.TheInside.{Inside}

-- the bytes held of an SDU by place, and its length where that is known
pub record Pieces : Type 0 where
  pub held : List (Option ℕ)
  pub len : Option ℕ

-- what is got of an SDU of which these pieces are held
abbrev pub got_of_pieces : Pieces → Got
got_of_pieces p = Part p.held p.len

-- the byte of each place that is held
abbrev pub bytes_held : List ℕ → List Bool → List (Option ℕ)
bytes_held bytes [] = []
bytes_held [] (flag ∷ held) = (if flag then Some 0 else None) ∷ bytes_held [] held
bytes_held (b ∷ bytes) (flag ∷ held) = (if flag then Some b else None) ∷ bytes_held bytes held

-- what is seen of the fields
abbrev pub pieces_of : Inside → Pieces
pieces_of a = record { held = bytes_held a.bytes.items a.held; len = a.length }

-- there is a byte for each place held
abbrev pub IsAssembly : Inside → Type 0
IsAssembly a = (p : ℕ) → Has a.held p → p < length a.bytes.items

-- a place from this one on is held
abbrev pub HoldsFrom : Got → ℕ → Type 0
HoldsFrom g to = (p : ℕ) × (to ≤ p) × (held_at g p ≢ None)

-- none is
abbrev pub LacksFrom : Got → ℕ → Type 0
LacksFrom g to = (p : ℕ) → to ≤ p → held_at g p ≡ None

-- the places from `from` on have the bytes of a body, but for those held before; these keep theirs
pub record WritesBytes (held : List Bool) (from : ℕ) (body old new : List ℕ) : Type 0 where
  pub long : from + length body ≤ length new
  pub bytes : (p : ℕ) → from ≤ p → p < from + length body → Lacks held p → slice_index new p ≡ slice_index body (p - from)
