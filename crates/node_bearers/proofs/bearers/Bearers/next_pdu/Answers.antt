use Rattle.std.proofs.Common.{refl, sym, ◌∙◌, ap, subst}
use Rattle.std.proofs.lemmas.Result.{err_from_is_err_and}
use Rattle.pdcp_model.specs.Sender.{has_next}
use Rattle.pdcp_tx.specs.Calls.{GivesNext}
use Rattle.node_model.specs.State.{Outgoing}
use Rattle.node_model.specs.Feeding.{out_key}
use Rattle.node_bearers.specs.Bearer.{outgoing_of}
use Rattle.node_bearers.proofs.Table.{within, names_at, sent, sets_sent, stays_in_order}
use Rattle.node_bearers.proofs.bearers.Bearers.next_pdu.Goals as goal

pub returns-in_err-pdu-clause-memory : goal.returns-in_err-pdu-clause-memory
returns-in_err-pdu-clause-memory c =
    let a = c.self.inside in
    let b = c.index_mut-bearer.result.now in
    let p = err_from_is_err_and c.from_residual.result c.from_residual.ensures.1 in
    rw (p.1, ← c.self.view_is) (λ key is.
    ap (λ (o : Outgoing). has_next o.sender)
    (sent key a.sends b a.rows.items c.args.place c.self.invariant c.index_mut-bearer.ensures.value (names_at (outgoing_of a.sends) out_key key a.rows.items c.args.place is))
    ∙ c.in_err-pdu.ensures.memory)

pub invariant_of-self-2 : goal.invariant_of-self-2
invariant_of-self-2 c =
    let a = c.self.inside in
    let lt = within (outgoing_of a.sends) a.rows.items c.args.place (rw (← c.self.view_is) at c.requires) in
    stays_in_order c.index_mut-bearer.result.now _ a.rows.items c.args.place c.self.invariant lt c.index_mut-bearer.ensures.value refl refl

pub returns-clause-ok : goal.returns-clause-ok
returns-clause-ok c =
    let a = c.self.inside in
    let b = c.index_mut-bearer.result.now in
    let rows = a.rows.items in
    let place = c.args.place in
    let tx = c.next_pdu.new.self in
    let here = c.index_mut-bearer.ensures.value in
    rw (← c.self.view_is) (λ key is.
    let at = names_at (outgoing_of a.sends) out_key key rows place is in (
      tx,
      subst (λ (o : Outgoing). GivesNext o.sender c.in_ok-pdu.pdu tx) (sym (sent key a.sends b rows place c.self.invariant here at)) c.in_ok-pdu.ensures.ok,
      sets_sent key a.sends b rows place c.self.invariant here (record b { tx = tx }) (λ o. record o { sender = tx }) at refl refl refl,
    ))
