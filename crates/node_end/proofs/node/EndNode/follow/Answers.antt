use Rattle.std.proofs.Common.{refl, sym, ◌∙◌, ap, subst}
use Rattle.std.proofs.lemmas.Bool.{false≢true}
use Rattle.node_model.specs.State.{Node}
use Rattle.node_model.specs.Ends.{confirm_tags}
use Rattle.node_end.specs.Fed.{IsKeyFed}
use Rattle.node_end.specs.Feeding.{KeepsKeys}
use Rattle.node_end.specs.Hearing.{acked_tags}
use Rattle.node_end.specs.Node.{node_of, side_of, with_ends}
use Rattle.node_end.specs.Ports.{IsEnd, is_over}
use Rattle.node_end.proofs.Ends.{still_end}
use Rattle.node_end.proofs.Fed.{KeepsFed, confirming_fed, hears_elsewhere, keeps_fed, same_fed}
use Rattle.node_end.proofs.Heard.{confirms_by, follows_status, hears_keeps, is_received, lifts_hearing, passes, tags_keep, tags_ports}
use Rattle.node_end.proofs.Over.{back_over}
use Rattle.node_end.proofs.node.EndNode.follow.Goals as goal

pub hear-requires : goal.hear-requires
hear-requires c = is_received c.in-Ok.addressed.key c.args.self.now.bearers.incoming c.in-Ok.ensures.received

pub returns-in-Ok-clause-ok : goal.returns-in-Ok-clause-ok
returns-in-Ok-clause-ok c = λ side name.
    let e = c.args.self.now in
    let n = node_of e in
    let arm = c.in-Amd-Complete in
    let to = c.in-Ok.addressed in
    let answer = c.in_ok-answer-in-Ok.answer in
    let leads = rw c.as_slice.ensures at c.in-Ok.ensures.leads in
    rw (arm.is, arm.field-0-is)
    (passes e.tables n (side_of n.name) c.args.port side to.key to.pdu.now arm.field-0-0 arm.sdu answer (with_ends n c.hear.new.self) name leads
    (lifts_hearing n e.bearers to.key to.pdu.now answer c.hear.new.self c.in_ok-answer-in-Ok.ensures.ok))

pub returns-in-Ok-clause-keys : goal.returns-in-Ok-clause-keys
returns-in-Ok-clause-keys c =
    let e = c.args.self.now in
    let n = node_of e in
    let to = c.in-Ok.addressed in
    let answer = c.in_ok-answer-in-Ok.answer in
    hears_keeps n to.key to.pdu.now answer (with_ends n c.hear.new.self) (lifts_hearing n e.bearers to.key to.pdu.now answer c.hear.new.self c.in_ok-answer-in-Ok.ensures.ok)

pub returns-in-Ok-clause-end : goal.returns-in-Ok-clause-end
returns-in-Ok-clause-end c =
    let e = c.args.self.now in
    let n = node_of e in
    let to = c.in-Ok.addressed in
    let answer = c.in_ok-answer-in-Ok.answer in
    let keys = hears_keeps n to.key to.pdu.now answer (with_ends n c.hear.new.self) (lifts_hearing n e.bearers to.key to.pdu.now answer c.hear.new.self c.in_ok-answer-in-Ok.ensures.ok) in
    still_end e.tables n (with_ends n c.hear.new.self) refl refl keys.received refl c.requires.end

pub returns-in-Ok-clause-fed : goal.returns-in-Ok-clause-fed
returns-in-Ok-clause-fed c = λ k apart fed.
    let e = c.args.self.now in
    let t = e.tables in
    let n = node_of e in
    let to = c.in-Ok.addressed in
    let answer = c.in_ok-answer-in-Ok.answer in
    let over = c.in-Ok.ensures.over in
    hears_elsewhere t k n to.key to.pdu.now answer (with_ends n c.hear.new.self) (lifts_hearing n e.bearers to.key to.pdu.now answer c.hear.new.self c.in_ok-answer-in-Ok.ensures.ok)
    (λ same. false≢true (sym apart ∙ ap (is_over t c.args.port) (sym same) ∙ over))
    (λ same. false≢true (sym apart ∙ ap (is_over t c.args.port) (sym same) ∙ back_over t c.args.port to.key ∙ over)) fed

pub returns-in-Status-clause-ok : goal.returns-in-Status-clause-ok
returns-in-Status-clause-ok c = λ side name.
    let e = c.args.self.now in
    let n = node_of e in
    rw c.in-Status.is (follows_status e.tables n (side_of n.name) c.args.port side c.in-Status.status (node_of c.confirm.new.self) name c.confirm.ensures.confirms)

pub returns-in-Status-clause-keys : goal.returns-in-Status-clause-keys
returns-in-Status-clause-keys c =
    let n = node_of c.args.self.now in
    subst (λ (m : Node). KeepsKeys n m) (sym c.confirm.ensures.confirms) (tags_keep n c.args.port (acked_tags c.in-Status.status))

pub returns-in-Status-clause-end : goal.returns-in-Status-clause-end
returns-in-Status-clause-end c =
    let e = c.args.self.now in
    let n = node_of e in
    let tags = acked_tags c.in-Status.status in
    let keys = tags_keep n c.args.port tags in
    subst (λ (m : Node). IsEnd e.tables m) (sym c.confirm.ensures.confirms)
    (still_end e.tables n (confirm_tags n c.args.port tags) keys.name keys.attached keys.received (tags_ports n c.args.port tags) c.requires.end)

pub returns-in-Status-clause-fed : goal.returns-in-Status-clause-fed
returns-in-Status-clause-fed c = λ k apart fed.
    let e = c.args.self.now in
    let n = node_of e in
    let tags = acked_tags c.in-Status.status in
    let keeps = confirms_by n c.args.port tags (λ m. KeepsFed e.tables n m) (same_fed e.tables n n refl) (confirming_fed e.tables n tags) in
    subst (λ (m : Node). IsKeyFed e.tables m k) (sym c.confirm.ensures.confirms) (keeps_fed e.tables n (confirm_tags n c.args.port tags) keeps k fed)
