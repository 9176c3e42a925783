use Rattle.std.proofs.Common.{◌≡◌, take}
use Rattle.std.specs.List.{sum_by}
use Rattle.relay_core.specs.Switching.{fitting, purged_egress, dropped_in_queue}
use Rattle.relay_core.proofs.Walk.{AreChanged}
use Rattle.relay_core.proofs.purging.purge_egresses.Given as goal

abbrev pub invariant-loop-port : goal.invariant-loop-port
invariant-loop-port l =
    AreChanged (purged_egress l.remote) l.fn.ports l.ports l.port-index × (l.dropped ≡ fitting (sum_by (dropped_in_queue l.remote) (take l.port-index l.fn.ports)))
