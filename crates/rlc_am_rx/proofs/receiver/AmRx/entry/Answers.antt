use Rattle.std.proofs.Common.{◌≤◌, ◌-◌, arith}
use Rattle.rlc_am_rx.proofs.State.{next_at, entry_at, got_some, got_none}
use Rattle.rlc_am_rx.proofs.receiver.AmRx.entry.Goals as goal

pub overflow_sub-number : goal.overflow_sub-number
overflow_sub-number c = omega (arith, c.requires, next_at c.self.inside c.args.self.now c.self.invariant c.self.view_is)

pub returns-clause-some : goal.returns-clause-some
returns-clause-some c =
    let a = c.self.inside in
    let from : a.rx_next ≤ c.args.number = omega (arith, c.requires, next_at a c.args.self.now c.self.invariant c.self.view_is) in
    got_some a.entries.items (c.args.number - a.rx_next) _ _ c.get.result a.entries.ok.0 (entry_at a c.args.self.now c.self.invariant c.self.view_is c.args.number from)
    c.get.ensures.variant c.get.ensures.lookup

pub returns-clause-none : goal.returns-clause-none
returns-clause-none c =
    let a = c.self.inside in
    let from : a.rx_next ≤ c.args.number = omega (arith, c.requires, next_at a c.args.self.now c.self.invariant c.self.view_is) in
    got_none a.entries.items (c.args.number - a.rx_next) _ _ c.get.result a.entries.ok.0 (entry_at a c.args.self.now c.self.invariant c.self.view_is c.args.number from)
    c.get.ensures.variant
