use Rattle.std.proofs.Common.{false, refl}
use Rattle.rlc_model.specs.Sides.{flip}
use Rattle.node_model.specs.Feeding.{in_key}
use Rattle.node_bearers.specs.Bearer.{incoming_of}
use Rattle.node_bearers.proofs.Table.{within, names_at, sets_received, stays_in_order}
use Rattle.node_bearers.proofs.bearers.Bearers.drop_report.Goals as goal

pub invariant_of-self : goal.invariant_of-self
invariant_of-self c =
    let a = c.self.inside in
    let lt = within (incoming_of (flip a.sends)) a.rows.items c.args.place (rw (← c.self.view_is) at c.requires) in
    stays_in_order c.index_mut-bearer.result.now _ a.rows.items c.args.place c.self.invariant lt c.index_mut-bearer.ensures.value refl refl

pub returns : goal.returns
returns c =
    let a = c.self.inside in
    let b = c.index_mut-bearer.result.now in
    let rows = a.rows.items in
    let place = c.args.place in
    rw (← c.self.view_is) (λ key is.
    sets_received key a.sends b rows place c.self.invariant c.index_mut-bearer.ensures.value (record b { wanted = false }) (λ i. record i { wanted = false })
    (names_at (incoming_of (flip a.sends)) in_key key rows place is) refl refl refl)
