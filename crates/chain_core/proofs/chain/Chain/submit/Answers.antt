use Rattle.std.proofs.Common.{[], subst, rules}
use Rattle.script_text.specs.declared.line.Line.TheVariants.{Submit}
use Rattle.script_text.specs.declared.reply.Reply.TheVariants.{OkNumber}
use Rattle.chain_model.specs.State.{Chain}
use Rattle.chain_model.specs.Steps.{Does}
use Rattle.chain_core.proofs.Carrying.{chain_at, moved, submits}
use Rattle.chain_core.proofs.chain.Chain.submit.Goals as goal

pub returns : goal.returns
returns c =
    let n = c.self.inside.nodes in
    let air = c.self.inside.air in
    rw (← c.self.view_is, c.from.ensures) (subst (λ (d : Chain). Does (chain_at n air) (Submit c.args.key c.args.sdu.now) [] (OkNumber c.in-Ok.count) d) (moved n c.submit.new.self air c.submit.ensures.tables)
    (submits (chain_at n air) c.args.key c.args.sdu.now c.in-Ok.count c.submit.new.self.nodes (search rules) c.in-Ok.ensures.ok))
