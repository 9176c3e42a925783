use Rattle.std.proofs.Common.{subst, rules}
use Rattle.script_text.specs.declared.line.Line.TheVariants.{Expire}
use Rattle.chain_model.specs.State.{Chain}
use Rattle.chain_core.specs.Chain.{Carries}
use Rattle.chain_core.proofs.Carrying.{chain_at, moved, expires}
use Rattle.chain_core.proofs.chain.Chain.expire.Goals as goal

pub returns : goal.returns
returns c =
    let n = c.self.inside.nodes in
    let air = c.self.inside.air in
    rw (← c.self.view_is)
    (subst (λ (d : Chain). Carries (chain_at n air) (Expire c.args.port c.args.side c.args.timer) c.args.log.now c.tell_expired.new.log c.in_ok-reply.reply d) (moved n c.expire.new.self air c.expire.ensures.tables)
    (expires (chain_at n air) c.args.port c.args.side c.args.timer c.in-Some.expired c.expire.new.self.nodes c.args.log.now c.tell_expired.new.log c.in_ok-reply.reply (search rules) (search rules)))
