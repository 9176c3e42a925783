use Rattle.std.proofs.Common.{◌≡◌}
use Rattle.pdcp_rx.specs.Store.{bits_from}
use Rattle.pdcp_rx.proofs.store.octet_from.Given as goal

abbrev pub invariant-loop-at : goal.invariant-loop-at
invariant-loop-at l = l.octet ≡ bits_from l.stored.items l.from l.at
