use Rattle.rlc_am_rx.specs.Assembly.{got_of_pieces}
use Rattle.rlc_am_rx.proofs.Held.{seen_is, some_held_is}
use Rattle.rlc_am_rx.proofs.assembly.Assembly.holds_some.Goals as goal

pub returns : goal.returns
returns c =
    let a = c.self.inside in
    some_held_is (got_of_pieces c.args.self.now) a.bytes.items a.held (seen_is a c.args.self.now c.self.view_is) c.end.result c.end.ensures
