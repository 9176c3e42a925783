use Rattle.path_switch.proofs.Places.{found_place, found_none}
use Rattle.path_switch.proofs.rows.place_of.Goals as goal

pub returns-clause-found : goal.returns-clause-found
returns-clause-found c = found_place c.args.rows.now c.args.remote c.requires c.first_of.result c.first_of.ensures

pub returns-clause-none : goal.returns-clause-none
returns-clause-none c = found_none c.args.rows.now c.args.remote c.requires c.first_of.result c.first_of.ensures
