-- The laws of PDUs and of runs on which the laws of this crate stand.
use Rattle.book_law.specs.Laws.{EachRunIsPast}
use Rattle.pdcp_pdu.specs.Laws.{OneReading, NoFaultWhereRead, OneSpellingWithoutReservedBits}

-- what pdcp_pdu proves of them
pub record PduLaws : Type 0 where
  pub one_reading : OneReading
  pub no_fault : NoFaultWhereRead
  pub one_spelling : OneSpellingWithoutReservedBits

-- what book_law proves of runs
pub record RunLaws : Type 0 where
  pub past : EachRunIsPast
