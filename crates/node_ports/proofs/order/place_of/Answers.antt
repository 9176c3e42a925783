use Rattle.node_ports.proofs.Places.{row_is, none_is}
use Rattle.node_ports.proofs.order.place_of.Goals as goal

pub returns-clause-found : goal.returns-clause-found
returns-clause-found c = row_is c.one_row_has_a_name.ensures.sides c.args.sides.now c.args.port c.requires c.in-Some.place c.in-Some.ensures.found

pub returns-in_default-clause-none : goal.returns-in_default-clause-none
returns-in_default-clause-none c = none_is c.one_row_has_a_name.ensures.sides c.args.sides.now c.args.port c.requires c.in_default.ensures.none
