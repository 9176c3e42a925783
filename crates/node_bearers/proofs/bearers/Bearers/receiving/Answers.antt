use Rattle.std.proofs.Common.{sym, ◌∙◌, ap}
use Rattle.link_base.specs.declared.names.Key.{Key}
use Rattle.link_base.specs.declared.names.Way.{Way}
use Rattle.rlc_model.specs.Sides.{flip}
use Rattle.node_bearers.specs.Bearer.{incoming_of}
use Rattle.node_bearers.proofs.Table.{its_key, received, none_received}
use Rattle.node_bearers.proofs.bearers.Bearers.receiving.Goals as goal

pub returns-clause-some : goal.returns-clause-some
returns-clause-some c =
    let a = c.self.inside in
    let b = c.index.result.now in
    let rows = a.rows.items in
    let place = c.in_ok-place.place in
    let at = rw (c.deref.ensures.value, c.other.ensures) at c.in_ok-place.ensures.some in
    let way = ap (λ (k : Key). k.way) (its_key c.args.key a.sends b rows place c.self.invariant c.index.ensures (flip a.sends) at) in
    rw (← c.self.view_is) (received c.args.key a.sends b rows place c.self.invariant c.index.ensures at ∙ ap (λ (w : Way). incoming_of w b) (sym way))

pub returns-in_err-place-clause-none : goal.returns-in_err-place-clause-none
returns-in_err-place-clause-none c =
    let a = c.self.inside in
    let none = rw (c.deref.ensures.value, c.other.ensures) at c.in_err-place.ensures.none in
    rw (c.from_residual.ensures, ← c.self.view_is) (none_received a.sends c.args.key a.rows.items none)
