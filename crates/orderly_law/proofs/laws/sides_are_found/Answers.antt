use Rattle.orderly_law.proofs.Found.{sides_are_found as are_found}
use Rattle.orderly_law.proofs.laws.sides_are_found.Goals as goal

pub returns : goal.returns
returns c = are_found c.laws_of_ports.ensures
