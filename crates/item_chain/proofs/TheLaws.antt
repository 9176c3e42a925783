-- The laws of the refinement.
use Rattle.std.proofs.Common.{refl}
use Rattle.script_text.specs.declared.line.Line.TheVariants.{Grant, Submit, Deliver, Repeat, Lose, Stage, Expire, Push, Pull, Report, Plan as PlanLine, Apply}
use Rattle.rlc_model.specs.Hop.{on_air}
use Rattle.chain_model.specs.Lines.{stage_refusal, without}
use Rattle.item_chain.specs.Foundations.{PduLaws}
use Rattle.item_chain.specs.Laws.{LinesGoByItemSteps, OpenedChainsStand}
use Rattle.link_base.specs.declared.names.Node.TheVariants as kinds
use Rattle.item_chain.proofs.Applies.{remote_applies, gnb_applies}
use Rattle.item_chain.proofs.Calls.{grant_refines, expire_refines}
use Rattle.item_chain.proofs.Tickets.{loses_refines, stage_refines}
use Rattle.item_chain.proofs.Plans.{plan_refines}
use Rattle.item_chain.proofs.Purges.{relay_applies}
use Rattle.item_chain.proofs.Pushes.{push_refines}
use Rattle.item_chain.proofs.Pulls.{pull_refines}
use Rattle.item_chain.proofs.Comes.{delivers, goes_without}
use Rattle.item_chain.proofs.Opened.{first_ghost, first_opens, opened_stands}
use Rattle.item_chain.proofs.Submits.{submit_refines}
use Rattle.item_chain.proofs.Wants.{wants_refines}

pub lines_go_by_item_steps : PduLaws → LinesGoByItemSteps
lines_go_by_item_steps l g old st (Submit key sdu) events reply new is does = submit_refines g old st key sdu events reply new does
lines_go_by_item_steps l g old st (Deliver ticket) events reply new is does = delivers l g old st ticket (on_air old.air ticket) refl events reply new (without ticket)
    (goes_without l g old st ticket) does
lines_go_by_item_steps l g old st (Repeat ticket) events reply new is does = delivers l g old st ticket (on_air old.air ticket) refl events reply new (λ c. c) (λ c r. r) does
lines_go_by_item_steps l g old st (Lose ticket) events reply new is does = loses_refines g old st (on_air old.air ticket) ticket events reply new does
lines_go_by_item_steps l g old st (Stage ticket) events reply new is does = stage_refines g old st (stage_refusal (on_air old.air ticket)) ticket events reply new does
lines_go_by_item_steps l g old st (Grant port way octets) events reply new is does = grant_refines g old st port way octets events reply new does
lines_go_by_item_steps l g old st (Expire port at timer) events reply new is does = expire_refines g old st port at timer events reply new does
lines_go_by_item_steps l g old st (Push port) events reply new is does = push_refines g old st port events reply new does
lines_go_by_item_steps l g old st (Pull port) events reply new is does = pull_refines g old st port events reply new does
lines_go_by_item_steps l g old st (Report key) events reply new is does = wants_refines g old st key events reply new does
lines_go_by_item_steps l g old st (PlanLine remote goal) events reply new is does = plan_refines g old st remote goal events reply new does
lines_go_by_item_steps l g old st (Apply remote kinds.Remote) events reply new is does = remote_applies g old st remote events reply new does
lines_go_by_item_steps l g old st (Apply remote kinds.Relay) events reply new is does = relay_applies g old st remote events reply new does
lines_go_by_item_steps l g old st (Apply remote kinds.Gnb) events reply new is does = gnb_applies g old st remote events reply new does
lines_go_by_item_steps l g old st line events reply new is does = absurd is

pub opened_chains_stand : OpenedChainsStand
opened_chains_stand t good are = (first_ghost t, first_opens t, opened_stands t good are)
