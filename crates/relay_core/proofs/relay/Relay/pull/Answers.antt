use Rattle.std.proofs.Common.{◌≡◌, ℕ, List, length, true, false, Some, None, is_some, Option, refl, sym, ◌∙◌, ap, subst, arith}
use Rattle.std.specs.Prelude.{option_and_then}
use Rattle.std.proofs.lemmas.Result.{err_from_is_err_and}
use Rattle.rlc_model.specs.Tx.{Tx}
use Rattle.node_model.specs.State.{Node}
use Rattle.node_model.specs.Relaying.{PullsPort, pull_refusal}
use Rattle.relay_core.specs.Ports.{sides_of}
use Rattle.relay_core.specs.Relay.{relay_with}
use Rattle.relay_core.proofs.AtPlace.{seen_in_order, none_seen, within_egresses, stands_out, same_ingress, its_pair, stay_egress}
use Rattle.relay_core.proofs.Moving.{can_pull, pulls_port, pulls_pair, small_tx}
use Rattle.relay_core.proofs.relay.Relay.pull.Goals as goal

pub row_of-requires : goal.row_of-requires
row_of-requires c = seen_in_order c.self.invariant.ports c.deref.result.now c.deref.ensures.value

pub returns-in_default-clause-ok : goal.returns-in_default-clause-ok
returns-in_default-clause-ok c = rw (← c.self.view_is) (ap pull_refusal (none_seen c.self.invariant.ports c.deref.result.now c.deref.ensures.value c.args.port c.in_default.ensures.none), refl)

pub index_mut-requires : goal.index_mut-requires
index_mut-requires c = omega (arith, c.self.inside.egress.ok.0, within_egresses c.self.invariant.ports c.deref.result.now c.deref.ensures.value c.args.port c.in-Some.place c.in-Some.ensures.found)

pub pull-requires-clause-sdus : goal.pull-requires-clause-sdus
pull-requires-clause-sdus c =
    (its_pair (stands_out c.self.invariant.ports c.deref.result.now c.deref.ensures.value c.args.port c.in-Some.place c.in-Some.ensures.found c.index_mut.result.now c.index_mut.ensures.value)).in_queue

pub pull-requires-clause-small : goal.pull-requires-clause-small
pull-requires-clause-small c =
    let a = c.self.inside in
    let s = stands_out c.self.invariant.ports c.deref.result.now c.deref.ensures.value c.args.port c.in-Some.place c.in-Some.ensures.found c.index_mut.result.now c.index_mut.ensures.value in
    small_tx s (relay_with (sides_of a.ingress.items a.egress.items) a.ids) refl (rw (← c.self.view_is) at c.requires)

pub returns-in_err-reply-clause-memory : goal.returns-in_err-reply-clause-memory
returns-in_err-reply-clause-memory c =
    let a = c.self.inside in
    let s = stands_out c.self.invariant.ports c.deref.result.now c.deref.ensures.value c.args.port c.in-Some.place c.in-Some.ensures.found c.index_mut.result.now c.index_mut.ensures.value in
    let p = err_from_is_err_and c.from_residual.result c.from_residual.ensures.1 in
    rw (p.1, ← c.self.view_is) (can_pull s (relay_with (sides_of a.ingress.items a.egress.items) a.ids) refl c.in_err-reply.ensures.memory)

pub invariant_of-self-2 : goal.invariant_of-self-2
invariant_of-self-2 c =
    let a = c.self.inside in
    let s = stands_out c.self.invariant.ports c.deref.result.now c.deref.ensures.value c.args.port c.in-Some.place c.in-Some.ensures.found c.index_mut.result.now c.index_mut.ensures.value in
    record {
      ports = stay_egress s c.pull.new.egress (pulls_pair s (relay_with (sides_of a.ingress.items a.egress.items) a.ids) refl c.in_ok-reply.reply c.pull.new.egress c.in_ok-reply.ensures.ok);
      leads = c.self.invariant.leads;
    }

pub returns-clause-ok : goal.returns-clause-ok
returns-clause-ok c =
    let a = c.self.inside in
    let n = relay_with (sides_of a.ingress.items a.egress.items) a.ids in
    let s = stands_out c.self.invariant.ports c.deref.result.now c.deref.ensures.value c.args.port c.in-Some.place c.in-Some.ensures.found c.index_mut.result.now c.index_mut.ensures.value in
    rw (← c.self.view_is) (pulls_port s n refl c.in_ok-reply.reply c.pull.new.egress c.in_ok-reply.ensures.ok)
