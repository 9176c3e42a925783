use Rattle.std.proofs.Common.{[], subst, rules}
use Rattle.script_text.specs.declared.line.Line.TheVariants.{Report}
use Rattle.script_text.specs.declared.reply.Reply.TheVariants.{Ok}
use Rattle.chain_model.specs.State.{Chain}
use Rattle.chain_model.specs.Steps.{Does}
use Rattle.chain_core.proofs.Carrying.{chain_at, moved, reports, no_plan_open}
use Rattle.chain_core.proofs.chain.Chain.report.Goals as goal

pub returns : goal.returns
returns c =
    let n = c.self.inside.nodes in
    let air = c.self.inside.air in
    rw (← c.self.view_is) (subst (λ (d : Chain). Does (chain_at n air) (Report c.args.key) [] Ok d) (moved n c.want_report.new.self air c.want_report.ensures.tables)
    (reports (chain_at n air) c.args.key c.want_report.new.self.nodes (search rules) (no_plan_open n.tables.remotes c.args.key.remote) c.want_report.ensures.wants))
