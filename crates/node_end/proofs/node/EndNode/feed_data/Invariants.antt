use Rattle.node_end.specs.Node.{IsSameEnd, node_of}
use Rattle.node_end.proofs.Feeds.{IsGiving}
use Rattle.node_end.proofs.node.EndNode.feed_data.Given as goal

abbrev pub invariant-loop-room : goal.invariant-loop-room
invariant-loop-room l = record {
  giving : IsGiving l.initial.self.tables l.key l.port (node_of l.initial.self) (node_of l.self) l.room;
  same : IsSameEnd l.initial.self l.self;
}

abbrev pub decreases-loop-room : goal.decreases-loop-room
decreases-loop-room l = l.room
