use Rattle.std.proofs.Common.{◌==◌, set, refl, sym, ◌∙◌, ap}
use Rattle.pdcp_model.specs.Sender.{confirms}
use Rattle.node_model.specs.State.{Outgoing, outgoing}
use Rattle.node_bearers.specs.declared.bearer.Bearer.{Bearer}
use Rattle.node_bearers.specs.Bearer.{confirms_count}
use Rattle.node_bearers.specs.Table.{node_with}
use Rattle.node_bearers.proofs.Table.{none_sent, none_set_sent, sets_sent, stays_in_order}
use Rattle.node_bearers.proofs.bearers.Bearers.confirm_tag.Goals as goal

pub returns-in_default-place_of : goal.returns-in_default-place_of
returns-in_default-place_of c =
    let a = c.self.inside in
    let rows = a.rows.items in
    let key = c.args.tag.now.key in
    let none = rw c.deref.ensures.value at c.in_default-place_of.ensures.none in
    let key_is = ap (λ (o : Outgoing). o.key) (none_sent a.sends key rows none) in
    let o = outgoing (node_with a.sends rows) key in
    rw (c.in-Some.is, ← c.self.view_is) (sym (none_set_sent a.sends key rows (record o { sender = confirms o.sender (λ other. other == c.in-Some.count) }) key_is none))

pub invariant_of-self : goal.invariant_of-self
invariant_of-self c =
    let at = rw c.deref.ensures.value at c.in-Some-place_of.ensures.some in
    stays_in_order c.index_mut-bearer.result.now c.confirm.new.self c.self.inside.rows.items c.in-Some-place_of.place c.self.invariant at.0 c.index_mut-bearer.ensures.value
    (ap (λ (b : Bearer). b.remote) c.confirm.ensures) (ap (λ (b : Bearer). b.drb) c.confirm.ensures)

pub returns : goal.returns
returns c =
    let a = c.self.inside in
    let b = c.index_mut-bearer.result.now in
    let rows = a.rows.items in
    let place = c.in-Some-place_of.place in
    let count = c.in-Some.count in
    let at = rw c.deref.ensures.value at c.in-Some-place_of.ensures.some in
    rw (c.in-Some.is, ← c.self.view_is)
    (ap (λ (x : Bearer). node_with a.sends (set rows place x)) c.confirm.ensures
    ∙ sets_sent c.args.tag.now.key a.sends b rows place c.self.invariant c.index_mut-bearer.ensures.value (confirms_count b count) (λ o. record o { sender = confirms o.sender (λ other. other == count) }) at refl refl refl)
