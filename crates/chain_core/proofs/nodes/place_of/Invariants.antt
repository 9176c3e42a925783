use Rattle.std.proofs.Common.{◌≡◌, ◌≢◌, ℕ, ◌<◌, length, get_or}
use Rattle.chain_core.specs.Nodes.{no_end}
use Rattle.node_end.specs.Node.{name_of}
use Rattle.chain_core.proofs.nodes.place_of.Given as goal

abbrev pub invariant-loop-place : goal.invariant-loop-place
invariant-loop-place l = record {
  before : (place : ℕ) → place < l.place → (get_or l.ends place (no_end (name_of l.remote))).node.name ≢ name_of l.remote;
  end : l.place-end ≡ length l.ends;
}
