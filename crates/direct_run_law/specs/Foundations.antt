-- The laws of hops, of entities, of PDCP and of books on which the laws of direct runs stand.
use Rattle.rlc_law.specs.Laws.{GivesInOrder, KeepsGiven, ConfirmsComplete}
use Rattle.rlc_law.specs.PortLaws.{MovesOn}
use Rattle.pdcp_pdu.specs.Laws.{OneReading, NoFaultWhereRead, OneSpellingWithoutReservedBits}
use Rattle.pdcp_law.specs.HandUps.{OneHandUp}
use Rattle.pdcp_law.specs.Hearings.{HandsUpTheHandUp}
use Rattle.chain_law.specs.Calls.{HearingKeeps, GrantingKeeps, ExpiryKeeps}
use Rattle.chain_law.specs.Laws.{EntitiesAreThoseOfPorts, HearsWhatWasGiven}
use Rattle.book_law.specs.Laws.{EachRunIsPast, TablesStay, OfEachLine, HasBothEnds, KeepsBook, TellsConfirmed, HandUpsAreTold, HasWhatWasHeard, HearingKeepsCounts, ReportsTellCounts, HonestRunKeepsBook}

-- what rlc_law proves of hops
pub record HopLaws : Type 0 where
  pub moves_on : MovesOn
  pub in_order : GivesInOrder
  pub kept : KeepsGiven
  pub confirms : ConfirmsComplete

-- what chain_law proves of entities and of their calls
pub record CallLaws : Type 0 where
  pub entities : EntitiesAreThoseOfPorts
  pub hears : HearsWhatWasGiven
  pub hearing : HearingKeeps
  pub granting : GrantingKeeps
  pub expiry : ExpiryKeeps

-- what book_law proves of the lines of a run
pub record BookLaws : Type 0 where
  pub past : EachRunIsPast
  pub tables : TablesStay
  pub ends : OfEachLine HasBothEnds
  pub keeps : OfEachLine KeepsBook
  pub tells : OfEachLine TellsConfirmed
  pub hand_ups : HandUpsAreTold
  pub has_heard : HasWhatWasHeard
  pub keeps_counts : HearingKeepsCounts
  pub reports : ReportsTellCounts
  pub honest : HonestRunKeepsBook

-- what pdcp_pdu proves of PDCP PDUs, and pdcp_law of what is handed up
pub record PdcpLaws : Type 0 where
  pub reading : OneReading
  pub no_fault : NoFaultWhereRead
  pub spelling : OneSpellingWithoutReservedBits
  pub hand_up : OneHandUp
  pub goes_up : HandsUpTheHandUp
