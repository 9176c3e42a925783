use Rattle.node_end.specs.Feeding.{HaveNumbersLeft}
use Rattle.node_end.specs.Node.{IsSameEnd, node_of}
use Rattle.node_end.specs.Ports.{IsEnd}
use Rattle.node_end.proofs.Passes.{DataFed, ReportsFed}
use Rattle.node_end.proofs.node.EndNode.feed_places.Given as goal

abbrev pub invariant-loop-place : goal.invariant-loop-place
invariant-loop-place l = record {
  fed : ReportsFed l.initial.self.tables (node_of l.initial.self) (node_of l.self) l.places l.given l.place-index;
  numbers : HaveNumbersLeft (node_of l.self);
  is_end : IsEnd l.initial.self.tables (node_of l.self);
  same : IsSameEnd l.initial.self l.self;
}

abbrev pub invariant-loop-place-2 : goal.invariant-loop-place-2
invariant-loop-place-2 l = record {
  fed : DataFed l.initial.self.tables (node_of l.initial.self) (node_of l.self) l.places l.place-index;
  numbers : HaveNumbersLeft (node_of l.self);
  is_end : IsEnd l.initial.self.tables (node_of l.self);
  same : IsSameEnd l.initial.self l.self;
}
