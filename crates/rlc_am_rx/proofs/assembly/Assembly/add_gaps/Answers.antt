use Rattle.std.proofs.Common.{[], ◌∷◌, sym}
use Rattle.rlc_am_rx.specs.Assembly.{got_of_pieces}
use Rattle.std.proofs.lemmas.List.{append-nil}
use Rattle.rlc_am_rx.specs.Elements.{gap_of}
use Rattle.rlc_am_rx.proofs.Writing.{gaps_all, gap_to_end, no_gap}
use Rattle.rlc_am_rx.proofs.assembly.Assembly.add_gaps.Goals as goal

pub returns-in_ok-push : goal.returns-in_ok-push
returns-in_ok-push c =
    let inner = c.in_ok-end.ensures in
    gaps_all c.args.sn (got_of_pieces c.args.self.now) c.in_ok-end.end c.args.nacks.now.items c.add_inner_gaps.new.nacks.items c.push.new.self.items
    (gap_of c.args.sn c.in_ok-end.end c.in-Some.last ∷ []) inner
    (rw (← c.gap.ensures) c.in_ok-push.ensures.items)
    (gap_to_end c.args.sn (got_of_pieces c.args.self.now) c.in_ok-end.end c.in-Some.last inner.above c.in-Some.ensures.some.0 c.in-Some.ensures.some.1)

pub returns-in_default : goal.returns-in_default
returns-in_default c =
    let new = c.add_inner_gaps.new.nacks.items in
    gaps_all c.args.sn (got_of_pieces c.args.self.now) c.in_ok-end.end c.args.nacks.now.items new new [] c.in_ok-end.ensures (sym (append-nil new))
    (no_gap c.args.sn (got_of_pieces c.args.self.now) c.in_ok-end.end c.in_default.ensures.none)
