use Rattle.std.proofs.Common.{◌≡◌, List, get_or, sym, ◌∙◌, subst, rules}
use Rattle.node_model.specs.State.{PortSide}
use Rattle.node_ports.specs.Table.{IsPlace}
use Rattle.node_ports.proofs.Steps.{hears}
use Rattle.node_ports.proofs.ports.Ports.hear_hop.Goals as goal

pub returns-clause-ok : goal.returns-clause-ok
returns-clause-ok c = λ n same.
    let p : IsPlace c.self.inside.sides.items c.args.port c.in-Some.place = subst (λ (xs : List PortSide). IsPlace xs c.args.port c.in-Some.place) c.deref.ensures.value c.in-Some.ensures.found in
    let here : c.index_mut.result.now ≡ get_or c.self.inside.sides.items c.in-Some.place c.index_mut.result.now = search rules in
    hears n c.self.inside.sides.items c.args.port c.in-Some.place p (same ∙ sym c.self.view_is) c.index_mut.result.now here c.args.bytes.now c.in_ok-answer.answer c.hear.new.self c.in_ok-answer.ensures.ok
