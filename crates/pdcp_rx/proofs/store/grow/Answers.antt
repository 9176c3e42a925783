use Rattle.std.proofs.Common.{◌≡◌, ◌-◌, length, arith}
use Rattle.pdcp_rx.proofs.store.grow.Goals as goal

pub returns-clause-ok : goal.returns-clause-ok
returns-clause-ok c =
    let i = c.loop-stored.invariant in
    let many : length c.loop-stored.stored.items - length c.reserve.new.self.items ≡ c.args.len - length c.reserve.new.self.items = omega arith in
    rw (← c.reserve.ensures.items, ← many) i.gaps
