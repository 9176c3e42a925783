-- The laws of hops and of chains on which the laws of what is heard stand.
use Rattle.rlc_pdu.specs.Laws.{OneReading, ReadsBack}
use Rattle.rlc_status.specs.Laws.{OneSpelling}
use Rattle.rlc_law.specs.Laws.{SendsPieces, MakesTrue, CompletesHeard, HeardAsGiven, HoldsHeard, KnowsHeardEnd}
use Rattle.rlc_law.specs.PortLaws.{MovesOn}
use Rattle.pdcp_pdu.specs.Laws.{OneReading as OnePdcpReading, NoFaultWhereRead}
use Rattle.pdcp_law.specs.Hearings.{HandsUpTheHandUp}
use Rattle.node_law.specs.OneOutcome.{OneTarget}
use Rattle.book_law.specs.Laws.{HandUpsAreTold}
use Rattle.chain_law.specs.Calls.{HearingKeeps}
use Rattle.chain_law.specs.Foundations.{RlcLaws}

-- what pdcp_pdu, pdcp_law, node_law and book_law prove of what a bearer's receiving end hears
pub record HearingLaws : Type 0 where
  pub one_reading : OnePdcpReading
  pub no_fault : NoFaultWhereRead
  pub goes_up : HandsUpTheHandUp
  pub one_target : OneTarget
  pub hand_ups : HandUpsAreTold

-- what rlc_pdu, rlc_status, rlc_law and chain_law prove of hops and of entities
pub record HeardLaws : Type 0 where
  pub ports : RlcLaws
  pub reading : OneReading
  pub reads_back : ReadsBack
  pub pieces : SendsPieces
  pub moves_on : MovesOn
  pub complete : CompletesHeard
  pub as_given : HeardAsGiven
  pub holds : HoldsHeard
  pub ends : KnowsHeardEnd
  pub hearing : HearingKeeps
  pub makes_true : MakesTrue
  pub spelling : OneSpelling
