use Rattle.std.proofs.Common.{[], ◌∷◌, map, inl, inr, refl, sym, ◌∙◌, ap, subst, arith}
use Rattle.std.proofs.lemmas.List.{append-nil}
use Rattle.link_base.specs.declared.names.Key.{Key}
use Rattle.node_model.specs.Names.{back}
use Rattle.node_model.specs.State.{Node}
use Rattle.node_model.specs.Feeding.{has_room, in_key, out_key}
use Rattle.node_model.specs.Feeding.FeedsReport.{dropped as drops}
use Rattle.node_end.specs.Node.{name_of, end_with, with_ends, node_of}
use Rattle.node_end.specs.Ports.{IsEnd}
use Rattle.node_end.specs.Feeding.{FeedsReportOf}
use Rattle.node_end.proofs.Names.{in_keys_kept}
use Rattle.node_end.proofs.Over.{route_fits}
use Rattle.node_end.proofs.Rooms.{numbers_at}
use Rattle.node_end.proofs.Fed.{rests_report}
use Rattle.node_end.proofs.Feeds.{back_back, no_hop, no_space, one_key, receiver_end, report_end, report_given, report_numbers}
use Rattle.node_end.proofs.node.EndNode.feed_report.Goals as goal

pub returns-then-not-wants_report_at-clause-ok : goal.returns-then-not-wants_report_at-clause-ok
returns-then-not-wants_report_at-clause-ok c = λ key is.
    let e = c.args.self.now in
    let quiet = sym (c.wants_report_at.ensures key is) ∙ c.if-not-wants_report_at.true in
    ([], rests_report e.tables (node_of e) key (inl quiet), sym (append-nil c.args.given.now))

pub returns-then-not-can_report-clause-ok : goal.returns-then-not-can_report-clause-ok
returns-then-not-can_report-clause-ok c = λ key is.
    let e = c.args.self.now in
    let n = node_of e in
    let about = back c.key-sent.result in
    let wants = sym (c.wants_report_at.ensures about c.key-sent.ensures.received) ∙ c.if-not-wants_report_at.false in
    let cannot = sym (c.can_report.ensures about c.key-sent.ensures.received) ∙ c.if-not-can_report.true in
    subst (λ (k : Key). FeedsReportOf e.tables n k c.args.given.now c.args.given.now (with_ends n c.drop_report.new.self))
    (one_key (map in_key e.bearers.incoming) c.args.place about key c.key-sent.ensures.received is)
    ([], drops wants cannot refl (ap (with_ends n) (c.drop_report.ensures about c.key-sent.ensures.received)), sym (append-nil c.args.given.now))

pub returns-then-not-can_report-clause-keys : goal.returns-then-not-can_report-clause-keys
returns-then-not-can_report-clause-keys c =
    let ends = c.args.self.now.bearers in
    let dropped = c.drop_report.ensures (back c.key-sent.result) c.key-sent.ensures.received in
    record {
      name = refl;
      attached = refl;
      sent = ap (λ (m : Node). map out_key m.outgoing) dropped;
      received = ap (λ (m : Node). map in_key m.incoming) dropped ∙ in_keys_kept ends _;
    }

pub returns-then-not-can_report-clause-end : goal.returns-then-not-can_report-clause-end
returns-then-not-can_report-clause-end c =
    let e = c.args.self.now in
    let n = node_of e in
    subst (λ (m : Node). IsEnd e.tables (with_ends n m)) (sym (c.drop_report.ensures (back c.key-sent.result) c.key-sent.ensures.received)) (receiver_end e.tables n _ c.requires.end)

pub returns-in_default-clause-ok : goal.returns-in_default-clause-ok
returns-in_default-clause-ok c = λ key is.
    let e = c.args.self.now in
    let n = node_of e in
    let sent = c.key-sent.result in
    let about = back sent in
    let can = sym (c.can_report.ensures about c.key-sent.ensures.received) ∙ c.if-not-can_report.false in
    let none = rw c.id_of-ue.ensures at (sym c.port_on.ensures ∙ c.in_default.is) in
    subst (λ (k : Key). FeedsReportOf e.tables n k c.args.given.now c.args.given.now n)
    (one_key (map in_key e.bearers.incoming) c.args.place about key c.key-sent.ensures.received is)
    ([], rests_report e.tables n about (inr (inl (can, ap (has_room e.tables n) (back_back sent) ∙ no_hop e.tables n sent none))), sym (append-nil c.args.given.now))

pub returns-then-room-eq0-clause-ok : goal.returns-then-room-eq0-clause-ok
returns-then-room-eq0-clause-ok c = λ key is.
    let e = c.args.self.now in
    let n = node_of e in
    let sent = c.key-sent.result in
    let about = back sent in
    let can = sym (c.can_report.ensures about c.key-sent.ensures.received) ∙ c.if-not-can_report.false in
    let hop = rw c.id_of-ue.ensures at (sym c.port_on.ensures ∙ c.in-Some.is) in
    subst (λ (k : Key). FeedsReportOf e.tables n k c.args.given.now c.args.given.now n)
    (one_key (map in_key e.bearers.incoming) c.args.place about key c.key-sent.ensures.received is)
    ([], rests_report e.tables n about (inr (inl (can, ap (has_room e.tables n) (back_back sent) ∙ no_space e.tables n sent c.in-Some.port hop (sym c.room.ensures ∙ c.if-room-eq0.true)))), sym (append-nil c.args.given.now))

pub under-requires-clause-from_1 : goal.under-requires-clause-from_1
under-requires-clause-from_1 c = λ some.
    let e = c.args.self.now in
    (route_fits e.tables c.id_of-ue.result c.key-sent.result c.in-Some.port c.requires.end.routes (sym c.port_on.ensures ∙ c.in-Some.is) some).0

pub under-requires-clause-to_32 : goal.under-requires-clause-to_32
under-requires-clause-to_32 c = λ some.
    let e = c.args.self.now in
    (route_fits e.tables c.id_of-ue.result c.key-sent.result c.in-Some.port c.requires.end.routes (sym c.port_on.ensures ∙ c.in-Some.is) some).1

pub give-requires-clause-small : goal.give-requires-clause-small
give-requires-clause-small c = λ entity is. numbers_at (node_of c.args.self.now) c.in-Some.port entity c.requires.numbers is

pub returns-clause-ok : goal.returns-clause-ok
returns-clause-ok c = λ key is.
    let e = c.args.self.now in
    let n = node_of e in
    let sent = c.key-sent.result in
    let about = back sent in
    let hop = rw c.id_of-ue.ensures at (sym c.port_on.ensures ∙ c.in-Some.is) in
    let spells = c.in_ok-report.ensures about c.key-sent.ensures.received in
    let given = c.report_given.ensures about c.key-sent.ensures.received in
    let g = rw c.back-key.ensures at (c.in_ok-give.ensures.ok n refl) in
    let wants = sym (c.wants_report_at.ensures about c.key-sent.ensures.received) ∙ c.if-not-wants_report_at.false in
    let can = sym (c.can_report.ensures about c.key-sent.ensures.received) ∙ c.if-not-can_report.false in
    let pushed = rw c.back-key.ensures at c.in_ok-push.ensures.ok in
    subst (λ (k : Key). FeedsReportOf e.tables n k c.args.given.now c.push.new.self (end_with (name_of e.remote) c.give.new.self e.ids c.report_given.new.self))
    (one_key (map in_key e.bearers.incoming) c.args.place about key c.key-sent.ensures.received is) (
      about ∷ [],
      report_given e.tables (name_of e.remote) e.ports e.ids e.bearers sent c.in-Some.port hop c.key-sent.ensures.received_key c.in_ok-report.report spells c.give.new.self c.id_of-ue.result c.id_of-ue.ensures c.in_ok-pdu.pdu c.in_ok-pdu.ensures g
          c.report_given.new.self wants can (omega (arith, c.room.ensures, c.if-room-eq0.false)) given,
      pushed,
    )

pub returns-clause-numbers : goal.returns-clause-numbers
returns-clause-numbers c =
    let e = c.args.self.now in
    let n = node_of e in
    let sent = c.key-sent.result in
    let hop = rw c.id_of-ue.ensures at (sym c.port_on.ensures ∙ c.in-Some.is) in
    let spells = c.in_ok-report.ensures (back sent) c.key-sent.ensures.received in
    let g = rw c.back-key.ensures at (c.in_ok-give.ensures.ok n refl) in
    report_numbers e.tables (name_of e.remote) e.ports e.ids e.bearers sent c.in-Some.port hop c.key-sent.ensures.received_key c.in_ok-report.report spells c.give.new.self c.id_of-ue.result c.id_of-ue.ensures c.in_ok-pdu.pdu c.in_ok-pdu.ensures g c.requires.numbers

pub returns-clause-keys : goal.returns-clause-keys
returns-clause-keys c =
    let given = c.report_given.ensures (back c.key-sent.result) c.key-sent.ensures.received in
    record {
      name = refl;
      attached = refl;
      sent = ap (λ (m : Node). map out_key m.outgoing) given;
      received = ap (λ (m : Node). map in_key m.incoming) given ∙ in_keys_kept c.args.self.now.bearers _;
    }

pub returns-clause-end : goal.returns-clause-end
returns-clause-end c =
    let e = c.args.self.now in
    let n = node_of e in
    let sent = c.key-sent.result in
    let hop = rw c.id_of-ue.ensures at (sym c.port_on.ensures ∙ c.in-Some.is) in
    let spells = c.in_ok-report.ensures (back sent) c.key-sent.ensures.received in
    let given = c.report_given.ensures (back sent) c.key-sent.ensures.received in
    let g = rw c.back-key.ensures at (c.in_ok-give.ensures.ok n refl) in
    report_end e.tables (name_of e.remote) e.ports e.ids e.bearers sent c.in-Some.port hop c.key-sent.ensures.received_key c.in_ok-report.report spells c.give.new.self c.id_of-ue.result c.id_of-ue.ensures c.in_ok-pdu.pdu c.in_ok-pdu.ensures g
    c.report_given.new.self given c.requires.end
