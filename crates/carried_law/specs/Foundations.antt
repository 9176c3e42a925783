-- The laws of PDUs, hops and entities, and of what the ends of bearers hear, on which the laws of what is sent stand.
use Rattle.rlc_law.specs.Laws.{KeepsGiven, ConfirmsComplete}
use Rattle.pdcp_law.specs.Hearings.{TestsReports}
use Rattle.book_law.specs.Laws.{OfEachLine, KeepsBook, HasWhatWasHeard, ReportsTellCounts}
use Rattle.heard_law.specs.Foundations.{HeardLaws, HearingLaws}
use Rattle.heard_law.specs.HandingUp.{EachIsOrderly}

-- what rlc_pdu, rlc_status, rlc_law and chain_law prove of PDUs, hops and entities
pub record SentLaws : Type 0 where
  pub heard : HeardLaws
  pub kept : KeepsGiven
  pub confirms : ConfirmsComplete

-- what book_law, orderly_law and pdcp_law prove of what the ends of bearers have, hear and report
pub record EndLaws : Type 0 where
  pub keeps : OfEachLine KeepsBook
  pub reports : ReportsTellCounts
  pub has_heard : HasWhatWasHeard
  pub hearings : HearingLaws
  pub orderly : EachIsOrderly
  pub tests : TestsReports
