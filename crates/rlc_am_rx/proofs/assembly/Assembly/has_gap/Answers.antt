use Rattle.std.proofs.Common.{◌≡◌, false, arith}
use Rattle.rlc_model.specs.Rx.{HasGap}
use Rattle.rlc_am_rx.specs.Assembly.{got_of_pieces}
use Rattle.rlc_am_rx.proofs.Held.{is_true_where, seen_is, starts_late, ends_early, none_late}
use Rattle.rlc_am_rx.proofs.assembly.Assembly.has_gap.Goals as goal

pub returns-then-start-gt0 : goal.returns-then-start-gt0
returns-then-start-gt0 c =
    let a = c.self.inside in
    starts_late (got_of_pieces c.args.self.now) a.bytes.items a.held (seen_is a c.args.self.now c.self.view_is) c.in-Some.start c.in-Some.stop c.in-Some.ensures.run c.if-start-gt0.true

pub returns-else-start-gt0 : goal.returns-else-start-gt0
returns-else-start-gt0 c =
    let a = c.self.inside in
    let first : c.in-Some.start ≡ 0 = omega (arith, c.if-start-gt0.false) in
    ends_early (got_of_pieces c.args.self.now) a.bytes.items a.held (seen_is a c.args.self.now c.self.view_is) c.in-Some.start c.in-Some.stop c.end.result c.in-Some.ensures.run first c.end.ensures

pub returns-in-None : goal.returns-in-None
returns-in-None c =
    let a = c.self.inside in
    is_true_where false (HasGap (got_of_pieces c.args.self.now)) (none_late (got_of_pieces c.args.self.now) a.bytes.items a.held (seen_is a c.args.self.now c.self.view_is) c.in-None.ensures.none)
