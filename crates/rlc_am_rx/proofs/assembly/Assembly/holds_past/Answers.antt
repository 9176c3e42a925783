use Rattle.std.proofs.Common.{sym, ◌∙◌}
use Rattle.rlc_am_rx.specs.Assembly.{got_of_pieces}
use Rattle.rlc_am_rx.proofs.Held.{seen_is, holds_past_is}
use Rattle.rlc_am_rx.proofs.assembly.Assembly.holds_past.Goals as goal

pub returns-then-is_end : goal.returns-then-is_end
returns-then-is_end c =
    let a = c.self.inside in
    holds_past_is (got_of_pieces c.args.self.now) a.bytes.items a.held (seen_is a c.args.self.now c.self.view_is) c.args.si c.args.to c.end.result
    (sym c.is_end.ensures ∙ c.if-is_end.true) c.end.ensures
