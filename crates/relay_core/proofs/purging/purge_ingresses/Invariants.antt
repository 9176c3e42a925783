use Rattle.std.proofs.Common.{◌≡◌, take}
use Rattle.std.specs.List.{sum_by}
use Rattle.relay_core.specs.Switching.{fitting, purged_ingress, dropped_in_slot}
use Rattle.relay_core.proofs.Walk.{AreChanged}
use Rattle.relay_core.proofs.purging.purge_ingresses.Given as goal

abbrev pub invariant-loop-port : goal.invariant-loop-port
invariant-loop-port l =
    AreChanged (purged_ingress l.remote) l.fn.ports l.ports l.port-index × (l.dropped ≡ fitting (sum_by (dropped_in_slot l.remote) (take l.port-index l.fn.ports)))
