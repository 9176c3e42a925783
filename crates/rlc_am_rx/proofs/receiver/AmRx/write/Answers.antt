use Rattle.std.proofs.Common.{◌≡◌, length, arith}
use Rattle.rlc_law.proofs.Base.{at_rx_next}
use Rattle.rlc_model.specs.Rx.{rx_next}
use Rattle.rlc_am_rx.proofs.Writing.{writes_on, writes_stop, writes_end, added_behind, added_before}
use Rattle.rlc_am_rx.proofs.receiver.AmRx.write.Goals as goal

pub loop-number-init : goal.loop-number-init
loop-number-init c = record {
  from = omega (arith, c.next-number.ensures);
  open_number = rw c.next-number.ensures (at_rx_next c.args.self.now);
  writes = λ rest a w. rw (c.new-nacks.ensures.items, ← c.next-number.ensures) w;
}

pub returns-in_default-clause-ok : goal.returns-in_default-clause-ok
returns-in_default-clause-ok c =
    let r = c.args.self.now in
    let g = c.in_ok-end.ensures in
    let old = c.loop-number.nacks.items in
    let same : c.len-len.result ≡ length old = omega (arith, c.len-len.ensures, c.loop-number.nacks.ok) in
    let added = added_behind c.add_group.new.nacks.items old g.added c.deref.result.now c.len-len.result g.adds same c.deref.ensures.value in
    rw (c.from_vec.ensures, c.truncate.ensures.items, added_before c.add_group.new.nacks.items old g.added c.len-len.result g.adds same)
    (writes_stop r _ c.args.octets c.loop-number.left c.loop-number.number c.in_ok-end.end old g.added g.group
    (omega (arith, c.loop-number-test.true, c.highest_status.ensures.value), c.loop-number.invariant.open_number)
    (rw (← added, ← c.size.ensures) c.in_default.ensures.none) c.loop-number.invariant.writes)

pub loop-number-preserved : goal.loop-number-preserved
loop-number-preserved c =
    let r = c.args.self.now in
    let i = c.loop-number.invariant in
    let g = c.in_ok-end.ensures in
    let old = c.loop-number.nacks.items in
    let same : c.len-len.result ≡ length old = omega (arith, c.len-len.ensures, c.loop-number.nacks.ok) in
    let added = added_behind c.add_group.new.nacks.items old g.added c.deref.result.now c.len-len.result g.adds same c.deref.ensures.value in
    let first = c.first_open-number.ensures in
    record {
      from = omega (arith, i.from, g.on, first.from);
      open_number = first.has;
      writes = writes_on r (rx_next r) c.args.octets c.loop-number.left c.in-Some.rest c.loop-number.number c.in_ok-end.end c.first_open-number.result old c.add_group.new.nacks.items g.added (omega (arith, g.on)) g.group
          (omega (arith, c.loop-number-test.true, c.highest_status.ensures.value), i.open_number)
          (rw (← added, ← c.size.ensures) c.in-Some.ensures.some) first.from
          (λ n ge lt missing. first.none n ge lt missing.1) g.adds i.writes;
    }

pub returns-clause-ok : goal.returns-clause-ok
returns-clause-ok c = rw (c.from_vec-2.ensures, c.highest_status-2.ensures.value)
    (writes_end c.args.self.now _ c.args.octets c.loop-number.left c.loop-number.number c.loop-number.nacks.items
    (omega (arith, c.loop-number-test.false, c.highest_status.ensures.value)) c.loop-number.invariant.writes)
