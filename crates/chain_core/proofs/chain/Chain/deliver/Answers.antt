use Rattle.std.proofs.Common.{◌≡◌, false, true, ap, subst, rules}
use Rattle.rlc_model.specs.Sides.{hearer_of}
use Rattle.node_model.specs.Names.{owner}
use Rattle.script_text.specs.declared.line.Line.TheVariants.{Deliver}
use Rattle.chain_model.specs.Lines.{without}
use Rattle.chain_model.specs.State.{Chain}
use Rattle.chain_core.specs.Chain.{Carries}
use Rattle.chain_core.proofs.Carrying.{chain_at, with_nodes, moved, carries_heard, delivers, stays, watches_it}
use Rattle.chain_core.proofs.chain.Chain.deliver.Goals as goal

pub come-requires : goal.come-requires
come-requires c = (rw (← c.self.view_is) at c.requires.small) (owner (hearer_of c.in-Some.pdu.now.way) c.in-Some.pdu.now.port) c.in-Some.pdu.now.port

pub returns-then-not-is_heard-clause-carries : goal.returns-then-not-is_heard-clause-carries
returns-then-not-is_heard-clause-carries c =
    let n = c.self.inside.nodes in
    let air = c.self.inside.air in
    let t = c.args.ticket in
    let pdu = c.in-Some.pdu.now in
    let m = c.come.new.nodes in
    let v = c.in_ok-carried.field-0 in
    let a = c.in_ok-carried.ensures in
    let refused : v.is_heard ≡ false = search rules in
    rw (← c.self.view_is) (subst (λ (d : Chain). Carries (chain_at n air) (Deliver t) c.args.log.now c.come.new.log v.carried.reply d) (moved n m air a.2.tables)
    (carries_heard (chain_at n air) (Deliver t) t pdu (without t) c.args.log.now c.come.new.log a.0 v.carried.reply (with_nodes (chain_at n air) m.nodes) (λ events does. does) c.in-Some.ensures.found
    (stays n m air pdu a.0 v.carried.reply v a.2 t refused) a.1))

pub returns-then-not-is_heard-clause-watches : goal.returns-then-not-is_heard-clause-watches
returns-then-not-is_heard-clause-watches c =
    let n = c.self.inside.nodes in
    let air = c.self.inside.air in
    let v = c.in_ok-carried.field-0 in
    let a = c.in_ok-carried.ensures in
    rw (← c.self.view_is) (watches_it n c.come.new.nodes air (rw (← c.self.view_is) at c.requires.tags) c.in-Some.pdu.now a.0 v.carried.reply v a.2 air)

pub returns-clause-carries : goal.returns-clause-carries
returns-clause-carries c =
    let n = c.self.inside.nodes in
    let air = c.self.inside.air in
    let t = c.args.ticket in
    let pdu = c.in-Some.pdu.now in
    let m = c.come.new.nodes in
    let v = c.in_ok-carried.field-0 in
    let a = c.in_ok-carried.ensures in
    let heard : v.is_heard ≡ true = search rules in
    rw (← c.self.view_is, c.take.ensures.off) (subst (λ (d : Chain). Carries (chain_at n air) (Deliver t) c.args.log.now c.come.new.log v.carried.reply d) (ap (without t) (moved n m air a.2.tables))
    (carries_heard (chain_at n air) (Deliver t) t pdu (without t) c.args.log.now c.come.new.log a.0 v.carried.reply (without t (with_nodes (chain_at n air) m.nodes)) (λ events does. does) c.in-Some.ensures.found
    (delivers n m air pdu a.0 v.carried.reply v a.2 t heard) a.1))

pub returns-clause-watches : goal.returns-clause-watches
returns-clause-watches c =
    let n = c.self.inside.nodes in
    let air = c.self.inside.air in
    let v = c.in_ok-carried.field-0 in
    let a = c.in_ok-carried.ensures in
    rw (← c.self.view_is) (watches_it n c.come.new.nodes air (rw (← c.self.view_is) at c.requires.tags) c.in-Some.pdu.now a.0 v.carried.reply v a.2 c.take.new.self)
