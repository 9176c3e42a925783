use Rattle.std.proofs.Common.{◌≡◌, ◌++◌, length, take, drop}
use Rattle.pdcp_model.specs.Sender.{is_reported, still_kept}
use Rattle.pdcp_tx.proofs.kept_sdus.discard_reported.Given as goal

abbrev pub invariant-loop-index : goal.invariant-loop-index
invariant-loop-index l = record {
  done : l.sdus.items ≡ still_kept (is_reported l.fmc l.map) l.count (take l.index l.initial.sdus.items) ++ drop l.index l.initial.sdus.items;
  long : length l.sdus.items ≡ length l.initial.sdus.items;
}
