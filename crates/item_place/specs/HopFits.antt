-- A hop whose SDUs are the octets of a box's items.
use Rattle.std.specs.Prelude.{◌≡◌, ◌↔◌, ℕ, true, List, length, slice_get, Some}
use Rattle.rlc_model.specs.Rx.{Done, got}
use Rattle.rlc_law.specs.Hop.{Hop, given_at}
use Rattle.item_place.specs.Places.{Box}

-- the numbers of the hop are the positions of the box: the SDU given under each has the octets of its item, and an item has left where its number is
-- complete at the receiver
pub record HopFits (spell : ℕ → List ℕ) (h : Hop) (b : Box) : Type 0 where
  pub long : length b.log ≡ length h.given
  pub sdus : (k n : ℕ) → slice_get b.log k ≡ Some n → given_at h k ≡ spell n
  pub left : (k : ℕ) → b.left k ≡ true ↔ got h.rx k ≡ Done
