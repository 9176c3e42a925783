-- The queue of an egress.
use Rattle.std.specs.Prelude.{ℕ, List}
use Rattle.node_model.specs.declared.parcel.Parcel.{Parcel}

-- the SDUs that wait, the oldest first, and how many may
pub record Queue : Type 0 where
  pub parcels : List Parcel
  pub capacity : ℕ
