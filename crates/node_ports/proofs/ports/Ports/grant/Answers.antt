use Rattle.std.proofs.Common.{◌≡◌, List, get_or, refl, sym, ◌∙◌, subst, rules}
use Rattle.node_model.specs.Names.{AtGnb}
use Rattle.node_model.specs.State.{PortSide, no_node}
use Rattle.node_ports.specs.Table.{IsPlace}
use Rattle.node_ports.proofs.Steps.{grants, still}
use Rattle.node_ports.proofs.ports.Ports.grant.Goals as goal

pub returns-clause-ok : goal.returns-clause-ok
returns-clause-ok c = λ n same.
    let p : IsPlace c.self.inside.sides.items c.args.port c.in-Some.place = subst (λ (xs : List PortSide). IsPlace xs c.args.port c.in-Some.place) c.deref.ensures.value c.in-Some.ensures.found in
    let here : c.index_mut.result.now ≡ get_or c.self.inside.sides.items c.in-Some.place c.index_mut.result.now = search rules in
    grants n c.self.inside.sides.items c.args.port c.in-Some.place p (same ∙ sym c.self.view_is) c.index_mut.result.now here c.args.octets c.in_ok-answer.answer c.grant.new.self c.in_ok-answer.ensures.ok

pub returns-clause-still : goal.returns-clause-still
returns-clause-still c =
    let p : IsPlace c.self.inside.sides.items c.args.port c.in-Some.place = subst (λ (xs : List PortSide). IsPlace xs c.args.port c.in-Some.place) c.deref.ensures.value c.in-Some.ensures.found in
    let here : c.index_mut.result.now ≡ get_or c.self.inside.sides.items c.in-Some.place c.index_mut.result.now = search rules in
    λ none. still (record (no_node AtGnb) { ports = c.self.inside.sides.items }) c.self.inside.sides.items c.args.port c.in-Some.place p refl c.index_mut.result.now here c.args.octets c.in_ok-answer.answer c.grant.new.self c.in_ok-answer.ensures.ok none ∙ c.self.view_is
