use Rattle.std.proofs.Common.{sym, ◌∙◌, ap, inl, inr, not, None}
use Rattle.std.specs.Option.{is_none}
use Rattle.rlc_hop.proofs.Lowest.{front_more, front_end}
use Rattle.rlc_hop.proofs.air.lowest_place.Goals as goal

pub loop-place-preserved : goal.loop-place-preserved
loop-place-preserved c = front_more c.args.pdus.now c.loop-place.place c.index-pdus-place.result c.loop-place.invariant c.loop-place-test.true (ap is_none (sym c.index-pdus-place.is) ∙ ap not c.if-is_none.ensures)

pub returns-else-is_none : goal.returns-else-is_none
returns-else-is_none c = front_end c.args.pdus.now c.loop-place.place c.index-pdus-place.result c.loop-place.invariant (inr (ap is_none (sym c.index-pdus-place.is) ∙ ap not c.if-is_none.ensures))

pub returns-after-loop-place : goal.returns-after-loop-place
returns-after-loop-place c = front_end c.args.pdus.now c.loop-place.place None c.loop-place.invariant (inl c.loop-place-test.false)
