use Rattle.rlc_law.proofs.Safety.{completes_as_given, completes_once, confirms_complete}
use Rattle.rlc_law.proofs.hop_laws.hop_is_reliable.Goals as goal

pub returns-clause-as_given : goal.returns-clause-as_given
returns-clause-as_given c = completes_as_given

pub returns-clause-once : goal.returns-clause-once
returns-clause-once c = completes_once

pub returns-clause-confirms : goal.returns-clause-confirms
returns-clause-confirms c = confirms_complete
