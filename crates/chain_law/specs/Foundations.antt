-- The laws of hops and ports on which the laws of chains stand.
use Rattle.rlc_law.specs.Laws.{GivesInOrder, NumbersBounded}
use Rattle.rlc_law.specs.PortLaws.{OneChanges, PortsKeep, SidesKeep, CallFits, SideHears, GrantMoves, GiveMoves, ExpireMoves}

-- what rlc_law proves of them
pub record RlcLaws : Type 0 where
  pub one_changes : OneChanges
  pub ports_keep : PortsKeep
  pub sides_keep : SidesKeep
  pub call_fits : CallFits
  pub side_hears : SideHears
  pub grant_moves : GrantMoves
  pub give_moves : GiveMoves
  pub expire_moves : ExpireMoves
  pub in_order : GivesInOrder
  pub bounded : NumbersBounded
