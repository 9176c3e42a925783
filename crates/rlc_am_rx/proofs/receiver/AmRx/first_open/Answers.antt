use Rattle.std.proofs.Common.{◌≤◌, arith}
use Rattle.rlc_am_rx.proofs.State.{next_at, first_at}
use Rattle.rlc_am_rx.proofs.receiver.AmRx.first_open.Goals as goal

pub overflow_sub-number : goal.overflow_sub-number
overflow_sub-number c = omega (arith, c.requires, next_at c.self.inside c.args.self.now c.self.invariant c.self.view_is)

pub returns : goal.returns
returns c =
    let a = c.self.inside in
    let from : a.rx_next ≤ c.args.number = omega (arith, c.requires, next_at a c.args.self.now c.self.invariant c.self.view_is) in
    let first = c.first_open.ensures in
    first_at a c.args.self.now c.self.invariant.entries c.self.view_is c.args.number c.first_open.result from first.after first.before first.here
