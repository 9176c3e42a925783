use Rattle.rlc_law.proofs.Opening.{sides_keep, call_fits, side_hears}
use Rattle.rlc_law.proofs.port_laws.open_sides_are_those_of_ports.Goals as goal

pub returns-clause-keep : goal.returns-clause-keep
returns-clause-keep c = sides_keep

pub returns-clause-hears : goal.returns-clause-hears
returns-clause-hears c = side_hears

pub returns-clause-calls : goal.returns-clause-calls
returns-clause-calls c = call_fits
