-- What the fields of an SDU that is not confirmed stand for.
use Rattle.std.specs.Prelude.{◌≤◌, take, IfSome}
use Rattle.rlc_model.specs.Tx.{Kept}
use Rattle.rlc_am_tx.specs.Flags.{IsSetOfSent}
use Rattle.rlc_am_tx.specs.declared.kept_sdu.KeptSdu.TheInside.{Inside}

-- there is a flag for each byte sent
abbrev pub kept_inside : Inside → Kept
kept_inside a = record { tag = a.tag; sdu = a.sdu; flags = take a.sent a.pending; retx_count = a.retx_count }

-- only bytes that were sent are pending, and RETX_COUNT is at most one above the greatest maxRetxThreshold
pub record IsKeptSdu (a : Inside) : Type 0 where
  pub pending : IsSetOfSent a.pending a.sent
  pub count : IfSome a.retx_count (λ c. c ≤ 256)
