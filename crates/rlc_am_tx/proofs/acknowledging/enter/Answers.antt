use Rattle.std.proofs.Common.{inl, sym, ◌∙◌}
use Rattle.rlc_am_tx.proofs.Waiting.{same_contains}
use Rattle.rlc_am_tx.proofs.acknowledging.enter.Goals as goal

pub returns-in_err-insert-clause-kept : goal.returns-in_err-insert-clause-kept
returns-in_err-insert-clause-kept c n is = same_contains c.args.waiting.now c.insert.new.self c.in_err-insert.ensures.err n ∙ is

pub returns-in_err-insert-clause-only : goal.returns-in_err-insert-clause-only
returns-in_err-insert-clause-only c n is = inl (sym (same_contains c.args.waiting.now c.insert.new.self c.in_err-insert.ensures.err n) ∙ is)
