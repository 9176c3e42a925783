use Rattle.std.proofs.Common.{inl, inr, length, arith}
use Rattle.std.proofs.lemmas.Bool.{cases_lt}
use Rattle.std.proofs.lemmas.Bool.Decides.{nat_tests}
use Rattle.pdcp_rx.proofs.Reports.{none_behind, some_behind}
use Rattle.pdcp_rx.proofs.receiver.PdcpRx.can_report.Goals as goal

pub returns : goal.returns
returns c = rw (← c.self.view_is) (elim (cases_lt 65536 (length c.self.inside.stored.items)) [
  | inl lt ↦ rw (some_behind 65536 c.self.inside.stored.items c.self.invariant.last lt) (grind (arith, nat_tests))
  | inr le ↦ rw (none_behind 65536 c.self.inside.stored.items le) (grind (arith, nat_tests))
])
