-- The laws of runs on which the laws of calls stand.
use Rattle.chain_law.specs.Laws.{NumbersStayWithinTickets}
use Rattle.book_law.specs.Laws.{EachRunIsPast, TablesStay, OfEachLine, HasBothEnds}
use Rattle.orderly_law.specs.Laws.{SidesAreFound}
use Rattle.tag_law.specs.Laws.{DirectPortsKeepTheirTags}
use Rattle.table_law.specs.Laws.{TablesAreSound}

-- what book_law, chain_law, orderly_law, tag_law and table_law prove of each run
pub record RunLaws : Type 0 where
  pub past : EachRunIsPast
  pub tables : TablesStay
  pub ends : OfEachLine HasBothEnds
  pub numbers : NumbersStayWithinTickets
  pub found : SidesAreFound
  pub tags : DirectPortsKeepTheirTags
  pub sound : TablesAreSound
