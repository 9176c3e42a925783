use Rattle.rlc_law.proofs.Safety.{gives_in_order, keeps_given}
use Rattle.rlc_law.proofs.hop_laws.sdus_are_kept_as_given.Goals as goal

pub returns-clause-order : goal.returns-clause-order
returns-clause-order c = gives_in_order

pub returns-clause-kept : goal.returns-clause-kept
returns-clause-kept c = keeps_given
