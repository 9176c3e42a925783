use Rattle.std.proofs.Common.{true, List, map, refl, sym, ap, subst}
use Rattle.std.proofs.lemmas.Result.{err_from_is_err_and}
use Rattle.link_base.specs.declared.names.PortName.{PortName}
use Rattle.node_model.specs.State.{Node, PortSide}
use Rattle.node_model.specs.Feeding.{in_key}
use Rattle.node_end.specs.Hearing.StopsHearing.{before}
use Rattle.node_end.specs.Node.{name_of, node_of, side_of}
use Rattle.node_end.specs.Ports.{HasPort, IsEnd}
use Rattle.node_end.proofs.Ends.{end_set, own_side}
use Rattle.node_end.proofs.Fed.{its_name, side_elsewhere}
use Rattle.node_end.proofs.Heard.{hears_pdu, stops_between}
use Rattle.node_end.proofs.node.EndNode.hear.Goals as goal

pub returns-in_err-hop-clause-err : goal.returns-in_err-hop-clause-err
returns-in_err-hop-clause-err c =
    let n = node_of c.args.self.now in
    let p = err_from_is_err_and c.from_residual.result c.from_residual.ensures.1 in
    rw p.1 (before (rw c.as_slice.ensures at c.in_err-hop.ensures.memory) (ap (λ (ports : List PortSide). record n { ports = ports }) c.in_err-hop.ensures.err))

pub follow-requires-clause-port : goal.follow-requires-clause-port
follow-requires-clause-port c =
    let e = c.args.self.now in
    let n = node_of e in
    let h = c.in_ok-hop.ensures.ok n refl in
    subst (λ (p : PortName). HasPort (name_of e.remote) e.ids (map in_key e.bearers.incoming) true p) (sym (its_name n c.args.pdu.now.port h.side h.its.here))
    (own_side e.tables n c.args.pdu.now.port h.side h.entity h.its c.requires.end)

pub follow-requires-clause-end : goal.follow-requires-clause-end
follow-requires-clause-end c =
    let e = c.args.self.now in
    let n = node_of e in
    let h = c.in_ok-hop.ensures.ok n refl in
    subst (λ (m : Node). IsEnd e.tables m) (sym h.is) (end_set e.tables n c.args.pdu.now.port h.side h.entity h.its c.requires.end _)

pub returns-in_err-answer-clause-err : goal.returns-in_err-answer-clause-err
returns-in_err-answer-clause-err c =
    let e = c.args.self.now in
    let n = node_of e in
    let mid = record n { ports = c.hear_hop.new.self } in
    let h = rw c.as_slice.ensures at (c.in_ok-hop.ensures.ok n refl) in
    let p = err_from_is_err_and c.from_residual-in_err-answer.result c.from_residual-in_err-answer.ensures.1 in
    rw (p.1, c.in_err-answer.ensures.err) (stops_between e.tables n (side_of n.name) c.args.pdu.now c.in_ok-hop.hop mid h c.in_err-answer.ensures.memory)

pub returns-in_err-answer-clause-fed : goal.returns-in_err-answer-clause-fed
returns-in_err-answer-clause-fed c = λ k apart fed.
    let e = c.args.self.now in
    let n = node_of e in
    let h = c.in_ok-hop.ensures.ok n refl in
    c.follow.ensures.fed k apart (side_elsewhere e.tables k n c.args.pdu.now.port h.side _ h.its.here (record n { ports = c.hear_hop.new.self }) h.is apart fed)

pub returns-clause-ok : goal.returns-clause-ok
returns-clause-ok c =
    let e = c.args.self.now in
    let n = node_of e in
    let mid = record n { ports = c.hear_hop.new.self } in
    let h = rw c.as_slice.ensures at (c.in_ok-hop.ensures.ok n refl) in
    hears_pdu e.tables n (side_of n.name) c.args.pdu.now c.in_ok-hop.hop mid c.in_ok-answer.answer (node_of c.follow.new.self) c.requires.heard h c.in_ok-answer.ensures.ok

pub returns-clause-fed : goal.returns-clause-fed
returns-clause-fed c = λ k apart fed.
    let e = c.args.self.now in
    let n = node_of e in
    let h = c.in_ok-hop.ensures.ok n refl in
    c.follow.ensures.fed k apart (side_elsewhere e.tables k n c.args.pdu.now.port h.side _ h.its.here (record n { ports = c.hear_hop.new.self }) h.is apart fed)
