-- What callers see of an end, and what always holds of it.
use Rattle.node_model.specs.State.{TabledNode}
use Rattle.node_end.specs.declared.end.End.TheInside.{Inside}
use Rattle.node_end.specs.Fed.{OthersAreFed, KnowsPlaces}
use Rattle.node_end.specs.Node.{node_of, tabled}
use Rattle.node_end.specs.Ports.{IsEnd}

-- what callers see of the fields
abbrev pub seen : Inside → TabledNode
seen a = tabled a.node

-- it is an end, it knows the places of bearers, and of all bearers but those to be fed it has nothing to give
pub record IsKept (a : Inside) : Type 0 where
  pub is_end : IsEnd a.node.tables (node_of a.node)
  pub places : KnowsPlaces a.node.tables (node_of a.node) a.served
  pub fed : OthersAreFed a.node.tables a.to_feed (node_of a.node)
