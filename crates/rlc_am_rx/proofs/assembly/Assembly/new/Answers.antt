use Rattle.std.proofs.Common.{◌∙◌}
use Rattle.rlc_am_rx.proofs.Held.{bytes_held_at, lacks_none}
use Rattle.rlc_am_rx.proofs.assembly.Assembly.new.Goals as goal

pub returns-clause-held : goal.returns-clause-held
returns-clause-held c = λ p. bytes_held_at c.new.result.items c.in_ok-new.field-0 p
    ∙ lacks_none c.new.result.items c.in_ok-new.field-0 p (c.in_ok-new.ensures.none p)
