use Rattle.node_end.specs.Ports.{is_mapped}
use Rattle.node_end.proofs.Covering.{Gathers}
use Rattle.node_end.proofs.served.channel_at.Given as goal

abbrev pub invariant-loop-place : goal.invariant-loop-place
invariant-loop-place l = Gathers l.bearers (is_mapped l.maps l.port) l.places.items l.place
