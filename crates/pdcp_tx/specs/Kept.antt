-- What the fields of the SDUs kept stand for.
use Rattle.std.specs.Prelude.{◌≡◌, ℕ, ◌+◌, ◌^◌, ◌<◌, List, ◌++◌, length, replicate, Option, None}
use Rattle.std.specs.List.{prefix_len}
use Rattle.std.specs.Option.{is_none}
use Rattle.pdcp_tx.specs.declared.kept_sdus.KeptSdus.TheInside.{Inside}

-- numbers below the first SDU are confirmed
abbrev pub kept_from : ℕ → List (Option (List ℕ)) → List (Option (List ℕ))
kept_from confirmed sdus = replicate confirmed None ++ sdus

abbrev pub kept_of : Inside → List (Option (List ℕ))
kept_of a = kept_from a.confirmed a.sdus.items

-- the first SDU isn't confirmed, and there are no more SDUs than COUNTs
pub record IsKept (a : Inside) : Type 0 where
  pub front : prefix_len is_none a.sdus.items ≡ 0
  pub small : a.confirmed + length a.sdus.items < 2 ^ 32
