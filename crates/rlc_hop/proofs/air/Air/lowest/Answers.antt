use Rattle.std.proofs.Common.{◌<◌, is_some, count_by, sym, arith}
use Rattle.std.proofs.lemmas.Bool.Decides.{nat_tests}
use Rattle.rlc_hop.proofs.Lowest.{front_stops, front_lowest}
use Rattle.rlc_hop.proofs.air.Air.lowest.Goals as goal

pub overflow_add-result : goal.overflow_add-result
overflow_add-result c =
    let pdus = c.self.inside.pdus.items in
    let some : 0 < count_by is_some pdus = grind (arith, nat_tests) in
    let stops = front_stops pdus some in
    omega (arith, c.self.inside.pdus.ok.0, c.self.inside.pdus.ok.1)

pub returns-clause-lowest : goal.returns-clause-lowest
returns-clause-lowest c =
    let pdus = c.self.inside.pdus.items in
    let some : 0 < count_by is_some pdus = grind (arith, nat_tests) in
    rw (sym c.self.view_is, c.self.invariant.below) (front_lowest pdus some)
