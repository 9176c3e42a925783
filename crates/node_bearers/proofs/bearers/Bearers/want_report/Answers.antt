use Rattle.std.proofs.Common.{true, refl, sym, ap}
use Rattle.node_model.specs.State.{Incoming, incoming}
use Rattle.node_bearers.specs.Table.{node_with}
use Rattle.node_bearers.proofs.Table.{stays_in_order, sets_received, none_received, none_set_received}
use Rattle.node_bearers.proofs.bearers.Bearers.want_report.Goals as goal

pub returns-in_default : goal.returns-in_default
returns-in_default c =
    let a = c.self.inside in
    let rows = a.rows.items in
    let none = rw (c.deref.ensures.value, c.other.ensures) at c.in_default.ensures.none in
    let key_is = ap (λ (i : Incoming). i.key) (none_received a.sends c.args.key rows none) in
    rw (← c.self.view_is) (sym (none_set_received a.sends c.args.key rows (record (incoming (node_with a.sends rows) c.args.key) { wanted = true }) key_is none))

pub invariant_of-self : goal.invariant_of-self
invariant_of-self c =
    let at = rw c.deref.ensures.value at c.in-Some.ensures.some in
    stays_in_order c.index_mut-bearer.result.now _ c.self.inside.rows.items c.in-Some.place c.self.invariant at.0 c.index_mut-bearer.ensures.value refl refl

pub returns : goal.returns
returns c =
    let a = c.self.inside in
    let b = c.index_mut-bearer.result.now in
    let at = rw (c.deref.ensures.value, c.other.ensures) at c.in-Some.ensures.some in
    rw (← c.self.view_is)
    (sets_received c.args.key a.sends b a.rows.items c.in-Some.place c.self.invariant c.index_mut-bearer.ensures.value (record b { wanted = true }) (λ i. record i { wanted = true }) at refl refl refl)
