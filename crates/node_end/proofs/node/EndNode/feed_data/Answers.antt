use Rattle.std.proofs.Common.{List, map, refl, sym, ◌∙◌, ap, subst, arith}
use Rattle.std.proofs.lemmas.Result.{err_from_is_err_and}
use Rattle.link_base.specs.declared.names.Key.{Key}
use Rattle.bearer_map.specs.declared.ids.Attachment.{Attachment}
use Rattle.node_model.specs.State.{id_in}
use Rattle.node_model.specs.Feeding.{FeedsData, out_key}
use Rattle.node_model.specs.Feeding.FeedsData.{rests as no_more}
use Rattle.node_end.specs.Node.{name_of, end_with, node_of}
use Rattle.node_end.specs.Feeding.{StopsGiving}
use Rattle.node_end.specs.Feeding.GivesSome.{none}
use Rattle.node_end.proofs.Fed.{and_false}
use Rattle.node_end.proofs.Over.{route_fits}
use Rattle.node_end.proofs.Rooms.{numbers_at}
use Rattle.node_end.proofs.Feeds.{no_hop, rests, rests_empty, stops_before, stops_behind, goes_on, sends_still, one_key}
use Rattle.node_end.proofs.node.EndNode.feed_data.Goals as goal

pub returns-then-not-has_next_at-clause-ok : goal.returns-then-not-has_next_at-clause-ok
returns-then-not-has_next_at-clause-ok c = λ key is.
    let empty = sym (c.has_next_at.ensures key is) ∙ c.if-not-has_next_at.true in
    no_more {n = node_of c.args.self.now} (rw empty refl)

pub returns-in_default-clause-ok : goal.returns-in_default-clause-ok
returns-in_default-clause-ok c = λ key is.
    let e = c.args.self.now in
    let n = node_of e in
    let missing = rw c.id_of-ue.ensures at (sym c.port_on.ensures ∙ c.in_default.is) in
    subst (λ (k : Key). FeedsData e.tables k n n) (one_key (map out_key e.bearers.outgoing) c.args.place c.key-key.result key c.key-key.ensures.sent is)
    (no_more {n = n} (rw (no_hop e.tables n c.key-key.result missing) (and_false _)))

pub loop-room-init : goal.loop-room-init
loop-room-init c = record {
  giving = record {
    some = none;
    left = c.room-room.ensures;
    hop = rw c.id_of-ue.ensures at (sym c.port_on.ensures ∙ c.in-Some.is);
    keys = record { name = refl; attached = refl; sent = refl; received = refl };
    numbers = c.requires.numbers;
    is_end = c.requires.end;
    there = c.key-key.ensures.sender;
    named = c.key-key.ensures.sent_key;
  };
  same = record { tables = refl; ids = refl; remote = refl };
}

pub returns-then-not-has_next_at-2-clause-ok : goal.returns-then-not-has_next_at-2-clause-ok
returns-then-not-has_next_at-2-clause-ok c = λ key is.
    let e = c.args.self.now in
    let loop = c.loop-room.self in
    let going = c.loop-room.invariant.giving in
    let sent = c.key-key.result in
    let empty = sym (c.has_next_at-in-loop-room.ensures sent (sends_still (node_of e) (node_of loop) c.args.place sent going.keys c.key-key.ensures.sent)) ∙ c.if-not-has_next_at-2.true in
    subst (λ (k : Key). FeedsData e.tables k (node_of e) (node_of loop)) (one_key (map out_key e.bearers.outgoing) c.args.place sent key c.key-key.ensures.sent is)
    (rests_empty e.tables sent c.in-Some.port (node_of e) (name_of loop.remote) loop.ports loop.ids loop.bearers c.loop-room.room going empty)

pub returns-in_err-count-clause-err : goal.returns-in_err-count-clause-err
returns-in_err-count-clause-err c =
    let e = c.args.self.now in
    let loop = c.loop-room.self in
    let going = c.loop-room.invariant.giving in
    let sent = c.key-key.result in
    let p = err_from_is_err_and c.from_residual.result c.from_residual.ensures.1 in
    let has = sym (c.has_next_at-in-loop-room.ensures sent (sends_still (node_of e) (node_of loop) c.args.place sent going.keys c.key-key.ensures.sent)) ∙ c.if-not-has_next_at-2.false in
    rw p.1 (λ key is.
    subst (λ (k : Key). StopsGiving e.tables k (node_of e) (end_with (name_of loop.remote) loop.ports loop.ids c.next_pdu.new.self)) (one_key (map out_key e.bearers.outgoing) c.args.place sent key c.key-key.ensures.sent is)
    (stops_before e.tables sent c.in-Some.port (node_of e) (name_of loop.remote) loop.ports loop.ids loop.bearers c.loop-room.room going c.next_pdu.new.self c.in_err-count.ensures.err c.loop-room-test.true has))

pub under-requires-clause-from_1 : goal.under-requires-clause-from_1
under-requires-clause-from_1 c = λ some. (route_fits c.args.self.now.tables c.id_of-ue.result c.key-key.result c.in-Some.port c.requires.end.routes (sym c.port_on.ensures ∙ c.in-Some.is) some).0

pub under-requires-clause-to_32 : goal.under-requires-clause-to_32
under-requires-clause-to_32 c = λ some. (route_fits c.args.self.now.tables c.id_of-ue.result c.key-key.result c.in-Some.port c.requires.end.routes (sym c.port_on.ensures ∙ c.in-Some.is) some).1

pub give-requires-clause-small : goal.give-requires-clause-small
give-requires-clause-small c = λ entity is. numbers_at (node_of c.loop-room.self) c.in-Some.port entity c.loop-room.invariant.giving.numbers is

pub returns-in_err-pdu-clause-err : goal.returns-in_err-pdu-clause-err
returns-in_err-pdu-clause-err c =
    let e = c.args.self.now in
    let loop = c.loop-room.self in
    let going = c.loop-room.invariant.giving in
    let sent = c.key-key.result in
    let p = err_from_is_err_and c.from_residual-in_err-pdu.result c.from_residual-in_err-pdu.ensures.1 in
    let given = rw c.in-Some-2.is at (c.in_ok-count.ensures.ok sent (sends_still (node_of e) (node_of loop) c.args.place sent going.keys c.key-key.ensures.sent)) in
    rw p.1 (λ key is.
    subst (λ (k : Key). StopsGiving e.tables k (node_of e) (end_with (name_of loop.remote) loop.ports loop.ids c.next_pdu.new.self)) (one_key (map out_key e.bearers.outgoing) c.args.place sent key c.key-key.ensures.sent is)
    (stops_behind e.tables sent c.in-Some.port (node_of e) (name_of loop.remote) loop.ports loop.ids loop.bearers c.loop-room.room going c.in-Some-2.count c.in-Some-2.pdu c.next_pdu.new.self given loop.ports refl c.loop-room-test.true).0)

pub returns-in_err-pdu-clause-keys : goal.returns-in_err-pdu-clause-keys
returns-in_err-pdu-clause-keys c =
    let e = c.args.self.now in
    let loop = c.loop-room.self in
    let going = c.loop-room.invariant.giving in
    let sent = c.key-key.result in
    let given = rw c.in-Some-2.is at (c.in_ok-count.ensures.ok sent (sends_still (node_of e) (node_of loop) c.args.place sent going.keys c.key-key.ensures.sent)) in
    (stops_behind e.tables sent c.in-Some.port (node_of e) (name_of loop.remote) loop.ports loop.ids loop.bearers c.loop-room.room going c.in-Some-2.count c.in-Some-2.pdu c.next_pdu.new.self given loop.ports refl c.loop-room-test.true).1

pub returns-in_err-pdu-clause-end : goal.returns-in_err-pdu-clause-end
returns-in_err-pdu-clause-end c =
    let e = c.args.self.now in
    let loop = c.loop-room.self in
    let going = c.loop-room.invariant.giving in
    let sent = c.key-key.result in
    let given = rw c.in-Some-2.is at (c.in_ok-count.ensures.ok sent (sends_still (node_of e) (node_of loop) c.args.place sent going.keys c.key-key.ensures.sent)) in
    (stops_behind e.tables sent c.in-Some.port (node_of e) (name_of loop.remote) loop.ports loop.ids loop.bearers c.loop-room.room going c.in-Some-2.count c.in-Some-2.pdu c.next_pdu.new.self given loop.ports refl c.loop-room-test.true).2

pub returns-in_err-give-clause-err : goal.returns-in_err-give-clause-err
returns-in_err-give-clause-err c =
    let e = c.args.self.now in
    let loop = c.loop-room.self in
    let going = c.loop-room.invariant.giving in
    let sent = c.key-key.result in
    let p = err_from_is_err_and c.from_residual-in_err-give.result c.from_residual-in_err-give.ensures.1 in
    let given = rw c.in-Some-2.is at (c.in_ok-count.ensures.ok sent (sends_still (node_of e) (node_of loop) c.args.place sent going.keys c.key-key.ensures.sent)) in
    rw p.1 (λ key is.
    subst (λ (k : Key). StopsGiving e.tables k (node_of e) (end_with (name_of loop.remote) c.give.new.self loop.ids c.next_pdu.new.self)) (one_key (map out_key e.bearers.outgoing) c.args.place sent key c.key-key.ensures.sent is)
    (stops_behind e.tables sent c.in-Some.port (node_of e) (name_of loop.remote) loop.ports loop.ids loop.bearers c.loop-room.room going c.in-Some-2.count c.in-Some-2.pdu c.next_pdu.new.self given c.give.new.self c.in_err-give.ensures.err
    c.loop-room-test.true).0)

pub returns-in_err-give-clause-keys : goal.returns-in_err-give-clause-keys
returns-in_err-give-clause-keys c =
    let e = c.args.self.now in
    let loop = c.loop-room.self in
    let going = c.loop-room.invariant.giving in
    let sent = c.key-key.result in
    let given = rw c.in-Some-2.is at (c.in_ok-count.ensures.ok sent (sends_still (node_of e) (node_of loop) c.args.place sent going.keys c.key-key.ensures.sent)) in
    (stops_behind e.tables sent c.in-Some.port (node_of e) (name_of loop.remote) loop.ports loop.ids loop.bearers c.loop-room.room going c.in-Some-2.count c.in-Some-2.pdu c.next_pdu.new.self given c.give.new.self c.in_err-give.ensures.err
    c.loop-room-test.true).1

pub returns-in_err-give-clause-end : goal.returns-in_err-give-clause-end
returns-in_err-give-clause-end c =
    let e = c.args.self.now in
    let loop = c.loop-room.self in
    let going = c.loop-room.invariant.giving in
    let sent = c.key-key.result in
    let given = rw c.in-Some-2.is at (c.in_ok-count.ensures.ok sent (sends_still (node_of e) (node_of loop) c.args.place sent going.keys c.key-key.ensures.sent)) in
    (stops_behind e.tables sent c.in-Some.port (node_of e) (name_of loop.remote) loop.ports loop.ids loop.bearers c.loop-room.room going c.in-Some-2.count c.in-Some-2.pdu c.next_pdu.new.self given c.give.new.self c.in_err-give.ensures.err
    c.loop-room-test.true).2

pub loop-room-preserved : goal.loop-room-preserved
loop-room-preserved c =
    let e = c.args.self.now in
    let loop = c.loop-room.self in
    let going = c.loop-room.invariant.giving in
    let same = c.loop-room.invariant.same in
    let sent = c.key-key.result in
    let given = rw c.in-Some-2.is at (c.in_ok-count.ensures.ok sent (sends_still (node_of e) (node_of loop) c.args.place sent going.keys c.key-key.ensures.sent)) in
    let ue_is = c.id_of-ue.ensures ∙ ap (λ (ids : List Attachment). id_in ids sent.remote) (sym same.ids) in
    record {
      giving = goes_on e.tables sent c.in-Some.port (node_of e) (name_of loop.remote) loop.ports loop.ids loop.bearers c.loop-room.room going c.in-Some-2.count c.in-Some-2.pdu c.next_pdu.new.self given c.give.new.self c.id_of-ue.result ue_is
          c.in_ok-pdu.pdu c.in_ok-pdu.ensures (c.in_ok-give.ensures.ok (node_of loop) refl) c.loop-room-test.true;
      same = record { tables = same.tables; ids = same.ids; remote = same.remote };
    }

pub returns-clause-ok : goal.returns-clause-ok
returns-clause-ok c = λ key is.
    let e = c.args.self.now in
    let loop = c.loop-room.self in
    let sent = c.key-key.result in
    subst (λ (k : Key). FeedsData e.tables k (node_of e) (node_of loop)) (one_key (map out_key e.bearers.outgoing) c.args.place sent key c.key-key.ensures.sent is)
    (rests e.tables sent c.in-Some.port (node_of e) (name_of loop.remote) loop.ports loop.ids loop.bearers c.loop-room.room c.loop-room.invariant.giving (omega (arith, c.loop-room-test.false)))
