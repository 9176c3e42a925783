use Rattle.std.proofs.Common.{[], subst}
use Rattle.script_text.specs.declared.line.Line.TheVariants.{Push}
use Rattle.chain_model.specs.Telling.{push_reply}
use Rattle.chain_model.specs.State.{Chain}
use Rattle.chain_model.specs.Steps.{Does}
use Rattle.chain_core.proofs.Carrying.{chain_at, moved, pushes}
use Rattle.chain_core.proofs.chain.Chain.push.Goals as goal

pub returns : goal.returns
returns c =
    let n = c.self.inside.nodes in
    let air = c.self.inside.air in
    rw (← c.self.view_is, c.push_reply.ensures) (subst (λ (d : Chain). Does (chain_at n air) (Push c.args.port) [] (push_reply c.push.result) d) (moved n c.push.new.self air c.push.ensures.tables)
    (pushes (chain_at n air) c.args.port c.push.result c.push.new.self.nodes c.push.ensures.pushes))
