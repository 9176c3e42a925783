use Rattle.std.proofs.Common.{[], subst}
use Rattle.script_text.specs.declared.line.Line.TheVariants.{Pull}
use Rattle.chain_model.specs.Telling.{pull_reply}
use Rattle.node_model.specs.Names.{AtRelay}
use Rattle.chain_model.specs.State.{Chain}
use Rattle.chain_model.specs.Steps.{Does}
use Rattle.chain_core.proofs.Carrying.{chain_at, moved, pulls}
use Rattle.chain_core.proofs.chain.Chain.pull.Goals as goal

pub pull-requires : goal.pull-requires
pull-requires c = (rw (← c.self.view_is) at c.requires) AtRelay c.args.port

pub returns : goal.returns
returns c =
    let n = c.self.inside.nodes in
    let air = c.self.inside.air in
    rw (← c.self.view_is, c.pull_reply.ensures) (subst (λ (d : Chain). Does (chain_at n air) (Pull c.args.port) [] (pull_reply c.in_ok-answer.answer) d) (moved n c.pull.new.self air c.pull.ensures.tables)
    (pulls (chain_at n air) c.args.port c.in_ok-answer.answer c.pull.new.self.nodes c.in_ok-answer.ensures.pulls))
