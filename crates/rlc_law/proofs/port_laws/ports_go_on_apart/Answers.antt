use Rattle.rlc_law.proofs.Crossing.{one_changes, ports_keep, epochs_keep}
use Rattle.rlc_law.proofs.Opening.{nothing_fits}
use Rattle.rlc_law.proofs.port_laws.ports_go_on_apart.Goals as goal

pub returns-clause-change : goal.returns-clause-change
returns-clause-change c = one_changes

pub returns-clause-keep : goal.returns-clause-keep
returns-clause-keep c = ports_keep

pub returns-clause-epochs : goal.returns-clause-epochs
returns-clause-epochs c = epochs_keep

pub returns-clause-starts : goal.returns-clause-starts
returns-clause-starts c = nothing_fits
