use Rattle.std.proofs.Common.{◌≡◌}
use Rattle.chain_core.proofs.Feeding.{FedBelow}
use Rattle.chain_core.proofs.nodes.Nodes.feed.Given as goal

abbrev pub invariant-loop-place : goal.invariant-loop-place
invariant-loop-place l = record {
  tables : l.self-inside.tables ≡ l.initial.self-inside.tables;
  relay : l.self-inside.relay ≡ l.initial.self-inside.relay;
  fed : FedBelow l.initial.self-inside.tables l.initial.self-inside.relay l.initial.self-inside.ends.items l.self-inside.ends.items l.place l.given;
}
