use Rattle.std.proofs.Common.{◌∙◌, sym, ap}
use Rattle.rlc_am_rx.specs.Assembly.{Pieces}
use Rattle.rlc_am_rx.proofs.Held.{seen_is, full_is, not_full}
use Rattle.rlc_am_rx.proofs.assembly.Assembly.whole.Goals as goal

pub returns-then-covers-clause-some : goal.returns-then-covers-clause-some
returns-then-covers-clause-some c =
    let a = c.self.inside in
    let h = c.args.self.now in
    let known = sym (ap (λ (k : Pieces). k.len) c.self.view_is) ∙ c.in_ok-length.was in
    (known, full_is h.held h.len c.in_ok-length.length known a.bytes.items a.held (seen_is a h c.self.view_is) c.if-covers.ensures)

pub returns-else-covers-clause-none : goal.returns-else-covers-clause-none
returns-else-covers-clause-none c =
    let a = c.self.inside in
    let h = c.args.self.now in
    let known = sym (ap (λ (k : Pieces). k.len) c.self.view_is) ∙ c.in_ok-length.was in
    not_full h.held h.len c.in_ok-length.length known a.bytes.items a.held (seen_is a h c.self.view_is) c.if-covers.ensures
