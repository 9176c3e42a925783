use Rattle.rlc_rest.proofs.Progressing.{each_call}
use Rattle.rlc_rest.proofs.Running.{progresses}
use Rattle.rlc_rest.proofs.laws.transmitter_progresses.Goals as goal

pub returns-clause-each_call : goal.returns-clause-each_call
returns-clause-each_call c = each_call

pub returns-clause-every_run : goal.returns-clause-every_run
returns-clause-every_run c = progresses
