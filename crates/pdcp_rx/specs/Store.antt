-- The SDUs that wait, by place: how far their COUNT is above RX_DELIV.
use Rattle.std.specs.Prelude.{◌≡◌, ℕ, zero, suc, ◌+◌, ◌*◌, ◌<◌, ◌≤◌, Bool, if◌then◌else◌, List, [], ◌∷◌, length, slice_index, slice_index_or, Option, Some, None}
use Rattle.std.specs.Option.{is_some}
use Rattle.pdcp_model.specs.Receiver.{run}

-- an SDU waits at this place
abbrev pub waits : List (Option (List ℕ)) → ℕ → Bool
waits stored at = is_some (slice_index_or stored at None)

-- the SDU at the front is taken off, or no SDU waits there and nothing is
abbrev pub TakesFront : List (Option (List ℕ)) → Option (List ℕ) → List (Option (List ℕ)) → Type 0
TakesFront old None new = (run old ≡ []) × (new ≡ old)
TakesFront old (Some sdu) new = old ≡ Some sdu ∷ new

-- so many bits as a number, the first one first: 1 where an SDU waits at its place, from this place on
abbrev pub bits_from : List (Option (List ℕ)) → ℕ → ℕ → ℕ
bits_from stored from zero = 0
bits_from stored from (suc n) = 2 * bits_from stored from n + (if waits stored (from + n) then 1 else 0)

-- an octet for each eight places behind the first one, as many as there are SDUs for
pub record IsBitmap (stored : List (Option (List ℕ))) (map : List ℕ) : Type 0 where
  pub enough : length stored ≤ length map * 8 + 1
  pub few : length map * 8 < length stored + 7
  pub octets : (i : ℕ) → i < length map → slice_index map i ≡ bits_from stored (8 * i + 1) 8
