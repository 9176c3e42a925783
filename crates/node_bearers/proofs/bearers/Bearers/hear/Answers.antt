use Rattle.std.proofs.Common.{Option, IsSome, refl, sym, ◌∙◌, ap, subst}
use Rattle.std.proofs.lemmas.Bool.{false≢true}
use Rattle.std.proofs.lemmas.Result.{err_from_is_err_and}
use Rattle.pdcp_model.specs.Receiver.{Receiver}
use Rattle.node_model.specs.State.{Node, Incoming, incoming_at}
use Rattle.node_bearers.specs.Hearing.{IsNews}
use Rattle.node_bearers.proofs.Table.{stays_in_order, received, none_found_received}
use Rattle.node_bearers.proofs.Heard.{hears_pdcp, name_stays}
use Rattle.node_bearers.proofs.bearers.Bearers.hear.Goals as goal

pub unreachable-requires : goal.unreachable-requires
unreachable-requires c =
    let a = c.self.inside in
    let none = rw (c.deref.ensures.value, c.other.ensures) at c.in_default.ensures.none in
    false≢true (subst (λ (o : Option Incoming). IsSome o) (ap (λ (n : Node). incoming_at n c.args.key) (sym c.self.view_is) ∙ none_found_received a.sends c.args.key a.rows.items none) c.requires)

pub returns-in_err-answer-clause-memory : goal.returns-in_err-answer-clause-memory
returns-in_err-answer-clause-memory c =
    let a = c.self.inside in
    let b = c.index_mut-bearer.result.now in
    let at = rw (c.deref.ensures.value, c.other.ensures) at c.in-Some.ensures.some in
    let rx_is = ap (λ (i : Incoming). i.receiver) (received c.args.key a.sends b a.rows.items c.in-Some.place c.self.invariant c.index_mut-bearer.ensures.value at) in
    let p = err_from_is_err_and c.from_residual.result c.from_residual.ensures.1 in
    rw (p.1, ← c.self.view_is) (subst (λ (r : Receiver). IsNews r c.args.pdu.now) (sym rx_is) c.in_err-answer.ensures.memory)

pub invariant_of-self-2 : goal.invariant_of-self-2
invariant_of-self-2 c =
    let b = c.index_mut-bearer.result.now in
    let at = rw c.deref.ensures.value at c.in-Some.ensures.some in
    let name = name_stays b c.args.key c.args.pdu.now c.in_ok-answer.answer c.hear.new.self c.in_ok-answer.ensures.ok in
    stays_in_order b c.hear.new.self c.self.inside.rows.items c.in-Some.place c.self.invariant at.0 c.index_mut-bearer.ensures.value name.0 name.1

pub returns-clause-ok : goal.returns-clause-ok
returns-clause-ok c =
    let a = c.self.inside in
    let b = c.index_mut-bearer.result.now in
    let at = rw (c.deref.ensures.value, c.other.ensures) at c.in-Some.ensures.some in
    rw (← c.self.view_is)
    (hears_pdcp c.args.key a.sends b a.rows.items c.in-Some.place c.self.invariant c.index_mut-bearer.ensures.value at c.args.pdu.now c.in_ok-answer.answer c.hear.new.self c.in_ok-answer.ensures.ok)
