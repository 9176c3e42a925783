use Rattle.rlc_pdu.specs.Amd.{amd_of}
use Rattle.rlc_am_rx.specs.Assembly.{got_of_pieces}
use Rattle.rlc_am_rx.proofs.Held.{seen_is, repeat_is}
use Rattle.rlc_am_rx.proofs.assembly.Assembly.is_repeat.Goals as goal

pub returns : goal.returns
returns c =
    let a = c.self.inside in
    repeat_is (got_of_pieces c.args.self.now) a.bytes.items a.held (seen_is a c.args.self.now c.self.view_is)
    (amd_of c.args.pdu.now) c.covers.result c.from.result c.end_of.result c.from.ensures c.end_of.ensures
    c.if-lacks_length.ensures c.covers.ensures
