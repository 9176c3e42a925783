use Rattle.std.proofs.Common.{◌≤◌, ◌-◌, length}
use Rattle.std.specs.List.{prefix_len}
use Rattle.std.specs.Option.{is_none}
use Rattle.rlc_hop.proofs.air.lowest_place.Given as goal

abbrev pub invariant-loop-place : goal.invariant-loop-place
invariant-loop-place l = l.place ≤ prefix_len is_none l.pdus

abbrev pub decreases-loop-place : goal.decreases-loop-place
decreases-loop-place l = length l.pdus - l.place
