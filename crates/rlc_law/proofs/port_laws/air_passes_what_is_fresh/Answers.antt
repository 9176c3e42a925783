use Rattle.rlc_law.proofs.Fresh.{passes_fresh}
use Rattle.rlc_law.proofs.Moving.{fresh_when_made}
use Rattle.rlc_law.proofs.port_laws.air_passes_what_is_fresh.Goals as goal

pub returns-clause-passes : goal.returns-clause-passes
returns-clause-passes c = passes_fresh

pub returns-clause-just_made : goal.returns-clause-just_made
returns-clause-just_made c = fresh_when_made
