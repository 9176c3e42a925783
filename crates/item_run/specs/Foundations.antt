-- The laws of other crates on which those of runs stand.
use Rattle.table_law.specs.Laws.{TablesAreSound, TablesAreMapped}
use Rattle.book_law.specs.Laws.{EachRunIsPast, TablesStay, OfEachLine, KeepsBook, HandUpsAreTold, HonestRunKeepsBook}

-- what book_law proves of the lines of a run
pub record BookLaws : Type 0 where
  pub past : EachRunIsPast
  pub tables : TablesStay
  pub keeps : OfEachLine KeepsBook
  pub hand_ups : HandUpsAreTold
  pub honest : HonestRunKeepsBook

-- what table_law proves of the tables of runs
pub record TableLaws : Type 0 where
  pub sound : TablesAreSound
  pub mapped : TablesAreMapped
