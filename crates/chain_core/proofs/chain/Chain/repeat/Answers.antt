use Rattle.std.proofs.Common.{subst}
use Rattle.node_model.specs.Names.{owner}
use Rattle.rlc_model.specs.Sides.{hearer_of}
use Rattle.script_text.specs.declared.line.Line.TheVariants.{Repeat}
use Rattle.chain_model.specs.State.{Chain}
use Rattle.chain_core.specs.Chain.{Carries}
use Rattle.chain_core.proofs.Carrying.{chain_at, with_nodes, moved, carries_heard, repeats, watches_it}
use Rattle.chain_core.proofs.chain.Chain.repeat.Goals as goal

pub come-requires : goal.come-requires
come-requires c = (rw (← c.self.view_is) at c.requires.small) (owner (hearer_of c.in-Some.pdu.now.way) c.in-Some.pdu.now.port) c.in-Some.pdu.now.port

pub returns-clause-carries : goal.returns-clause-carries
returns-clause-carries c =
    let n = c.self.inside.nodes in
    let air = c.self.inside.air in
    let t = c.args.ticket in
    let pdu = c.in-Some.pdu.now in
    let m = c.come.new.nodes in
    let v = c.in_ok-arrival.arrival in
    let a = c.in_ok-arrival.ensures in
    rw (← c.self.view_is) (subst (λ (d : Chain). Carries (chain_at n air) (Repeat t) c.args.log.now c.come.new.log v.carried.reply d) (moved n m air a.2.tables)
    (carries_heard (chain_at n air) (Repeat t) t pdu (λ x. x) c.args.log.now c.come.new.log a.0 v.carried.reply (with_nodes (chain_at n air) m.nodes) (λ events does. does) c.in-Some.ensures.found
    (repeats n m air pdu a.0 v.carried.reply v a.2) a.1))

pub returns-clause-watches : goal.returns-clause-watches
returns-clause-watches c =
    let n = c.self.inside.nodes in
    let air = c.self.inside.air in
    let v = c.in_ok-arrival.arrival in
    let a = c.in_ok-arrival.ensures in
    rw (← c.self.view_is) (watches_it n c.come.new.nodes air (rw (← c.self.view_is) at c.requires.tags) c.in-Some.pdu.now a.0 v.carried.reply v a.2 air)
