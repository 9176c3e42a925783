use Rattle.std.proofs.Common.{Option, IsSome, refl, sym, ◌∙◌, ap, subst}
use Rattle.std.proofs.lemmas.Bool.{false≢true}
use Rattle.std.proofs.lemmas.Result.{err_from_is_err_and}
use Rattle.pdcp_model.specs.Sender.{Sender}
use Rattle.pdcp_tx.specs.Calls.{Accepts, Refuses}
use Rattle.node_model.specs.State.{Node, Outgoing, outgoing_at}
use Rattle.node_bearers.proofs.Table.{stays_in_order, sent, sets_sent, none_found_sent}
use Rattle.node_bearers.proofs.bearers.Bearers.submit.Goals as goal

pub unreachable-requires : goal.unreachable-requires
unreachable-requires c =
    let a = c.self.inside in
    let none = rw c.deref.ensures.value at c.in_default.ensures.none in
    false≢true (subst (λ (o : Option Outgoing). IsSome o) (ap (λ (n : Node). outgoing_at n c.args.key) (sym c.self.view_is) ∙ none_found_sent a.sends c.args.key a.rows.items none) c.requires)

pub returns-in_err-count-clause-fault : goal.returns-in_err-count-clause-fault
returns-in_err-count-clause-fault c =
    let a = c.self.inside in
    let b = c.index_mut-bearer.result.now in
    let at = rw c.deref.ensures.value at c.in-Some.ensures.some in
    let tx_is = ap (λ (o : Outgoing). o.sender) (sent c.args.key a.sends b a.rows.items c.in-Some.place c.self.invariant c.index_mut-bearer.ensures.value at) in
    let p = err_from_is_err_and c.from_residual.result c.from_residual.ensures.1 in
    rw (p.1, p.2, ← c.self.view_is) (subst (λ (s : Sender). Refuses s c.args.sdu.now c.in_err-count.field-0.0) (sym tx_is) c.in_err-count.ensures.fault)

pub invariant_of-self-2 : goal.invariant_of-self-2
invariant_of-self-2 c =
    let at = rw c.deref.ensures.value at c.in-Some.ensures.some in
    stays_in_order c.index_mut-bearer.result.now _ c.self.inside.rows.items c.in-Some.place c.self.invariant at.0 c.index_mut-bearer.ensures.value refl refl

pub returns-clause-ok : goal.returns-clause-ok
returns-clause-ok c =
    let a = c.self.inside in
    let b = c.index_mut-bearer.result.now in
    let rows = a.rows.items in
    let place = c.in-Some.place in
    let tx = c.submit.new.self in
    let at = rw c.deref.ensures.value at c.in-Some.ensures.some in
    let here = c.index_mut-bearer.ensures.value in
    let tx_is = ap (λ (o : Outgoing). o.sender) (sent c.args.key a.sends b rows place c.self.invariant here at) in
    rw (← c.self.view_is) (
      tx,
      subst (λ (s : Sender). Accepts s c.args.sdu.now c.in_ok-count.count tx) (sym tx_is) c.in_ok-count.ensures.ok,
      sets_sent c.args.key a.sends b rows place c.self.invariant here (record b { tx = tx }) (λ o. record o { sender = tx }) at refl refl refl,
    )
