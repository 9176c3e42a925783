-- What holds of the fields of the air.
use Rattle.std.specs.Prelude.{◌≡◌, count_by, is_some}
use Rattle.std.specs.List.{prefix_len}
use Rattle.std.specs.Option.{is_none}
use Rattle.rlc_hop.specs.declared.air.Air.TheInside.{Inside}

-- how many PDUs are on the air, and how many tickets lie below the lowest one there, are kept
pub record AreCounted (a : Inside) : Type 0 where
  pub on_air : a.on_air ≡ count_by is_some a.pdus.items
  pub below : a.below ≡ prefix_len is_none a.pdus.items
