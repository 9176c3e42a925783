use Rattle.std.proofs.Common.{◌∙◌}
use Rattle.rlc_am_rx.proofs.Held.{seen_is, covers_is}
use Rattle.rlc_am_rx.proofs.assembly.Assembly.into_sdu.Goals as goal

pub returns : goal.returns
returns c =
    let a = c.self.inside in
    let h = c.args.self in
    rw (c.from_vec.ensures ∙ c.truncate.ensures.items)
    (covers_is h.held h.len c.args.length c.requires.known a.bytes.items a.held (seen_is a h c.self.view_is) c.self.invariant c.requires.full)
