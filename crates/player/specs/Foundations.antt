-- The laws on which a run stands.
use Rattle.book_law.specs.Laws.{OfEachRun, KeepsBook, TellsConfirmed, RunsTellHandUps}
use Rattle.carried_law.specs.Carrying.{RunsAreCarried}
use Rattle.heard_law.specs.HandingUp.{HandUpsAreExact}
use Rattle.heard_law.specs.Reporting.{ReportsAreTrue}
use Rattle.item_run.specs.Laws.{OfItemRuns, OfStandingRuns, KeepsBooks, HasSoundReplies, HandsUpAllWhenQuiet}
use Rattle.call_law.specs.Laws.{ChainsCanBeOpened, StepsCanBeCarriedOut}

-- what is proved of the next line of a run: its tables can open a chain, and the chain can carry it out
pub record LineLaws : Type 0 where
  pub opens : ChainsCanBeOpened
  pub steps : StepsCanBeCarriedOut

-- what is proved of each run: it keeps the book of each bearer, which the ends of the bearer tell; it hands up what delivered PDUs complete; its data PDUs
-- carry what its ends gave; its STATUS PDUs are true; some replies never come; and a quiet chain has handed up all
pub record RunLaws : Type 0 where
  pub keeps : OfEachRun KeepsBook
  pub tells : OfEachRun TellsConfirmed
  pub hand_ups : RunsTellHandUps
  pub books : OfItemRuns KeepsBooks
  pub replies : OfStandingRuns HasSoundReplies
  pub quiet : OfStandingRuns HandsUpAllWhenQuiet
  pub exact : HandUpsAreExact
  pub pdus : RunsAreCarried
  pub reports : ReportsAreTrue
