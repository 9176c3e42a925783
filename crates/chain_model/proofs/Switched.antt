-- The worked run of a path switch.
use Rattle.std.proofs.Common.{ℕ, Bool, true, false, List, [], ◌∷◌, Some, None, refl, arith}
use Rattle.std.specs.declared.result.Result.TheVariants.{Ok as OkOf}
use Rattle.link_base.specs.declared.names.Goal.TheVariants.{Direct as ToDirect}
use Rattle.link_base.specs.declared.names.Key.{Key}
use Rattle.link_base.specs.declared.names.Node.TheVariants as kinds
use Rattle.link_base.specs.declared.names.SnSize.TheVariants.{S12}
use Rattle.link_base.specs.declared.names.Way.TheVariants.{Dl}
use Rattle.link_base.specs.declared.rlc_words.Tag.{Tag}
use Rattle.rlc_model.specs.declared.hop.Pdu.{Pdu}
use Rattle.rlc_model.specs.Tx.{Tx}
use Rattle.pdcp_model.specs.Sender.{Sender, new_sender}
use Rattle.pdcp_model.specs.Receiver.{new_receiver}
use Rattle.script_text.specs.declared.line.Line.TheVariants.{Grant, Deliver, Plan as PlanLine, Apply}
use Rattle.script_text.specs.declared.event.Event.TheVariants.{Rep}
use Rattle.script_text.specs.declared.reply.Reply.TheVariants.{Ok, OkNumber, OkReport, Air}
use Rattle.node_model.specs.declared.answers.NodeHeard.TheVariants as answers
use Rattle.node_model.specs.Names.{back}
use Rattle.node_model.specs.State.{Incoming}
use Rattle.node_model.specs.Routing.{ToPdcp}
use Rattle.chain_model.specs.declared.plan.Plan.{Plan}
use Rattle.chain_model.specs.Steps.{Step}
use Rattle.chain_model.specs.Worked.{remote, key, pc5, direct, tables, SwitchesPath}
use Rattle.chain_model.proofs.Sending.{kept, tx_of}
use Rattle.chain_model.proofs.Receiving.{octets, heard, hears_first}
use Rattle.chain_model.proofs.Fed.{feeds_then, feeds_data, feeds_report}
use Rattle.chain_model.proofs.Acts.{gives, rests, delivers_sdu, report_comes, reports_next}
use Rattle.chain_model.proofs.WorkedChain.{closed, entity, opened_side, end_of, Snap, remote_of, relay_of, gnb_of, chain, no_tx, no_rx, waiting, sent, sends_first, remote_feeds, gnb_feeds}
use Rattle.chain_model.proofs.OverRelay.{sdu, s3, in_slot}

-- the plan, by who has applied it
abbrev plan_of : Bool → Bool → Bool → Plan
plan_of at_remote at_relay at_gnb = record { remote = remote; goal = ToDirect; epoch = 1; at_remote = at_remote; at_relay = at_relay; at_gnb = at_gnb }

-- the remote's sender, which has the SDU still, and the gNB's, which has nothing
abbrev sender : ℕ → Bool → Sender
sender place waits = record { size = S12; first = 0; kept = Some sdu ∷ []; place = place; waits = waits }

abbrev no_sender : Sender
no_sender = record (new_sender S12 0) { waits = true }

-- a receiving end that has heard nothing
abbrev no_end : Key → Bool → Bool → Incoming
no_end key wanted held_back = end_of key (new_receiver S12 0) wanted held_back 0

-- a report that nothing was heard, and what the transmitters keep beside it and beside the SDU
abbrev report_of : List ℕ
report_of = 0 ∷ 0 ∷ 0 ∷ 0 ∷ 0 ∷ []

abbrev report_tag : Key → Tag
report_tag key = record { key = key; count = None; ue = None }

abbrev data_tag : Tag
data_tag = record { key = key; count = Some 0; ue = None }

-- the gNB's report on the air
abbrev on_air : Pdu
on_air = record { port = direct; way = Dl; epoch = 1; status = false; number = 0; bytes = octets 0 true report_of }

-- the remote's transmitter with its own report and the SDU
abbrev both : Tx
both = tx_of (Some (kept (report_tag (back key)) report_of [] None) ∷ Some (kept data_tag (128 ∷ 0 ∷ sdu) [] None) ∷ []) 0 0 None false

-- the chain behind each line; m4 and m6 are before the ends feed
abbrev p1 : Snap
p1 = record s3 { plan = plan_of false false false }

abbrev p2 : Snap
p2 = record p1 {
  remote_direct = opened_side direct 1 no_tx no_rx;
  remote_pc5 = closed pc5;
  remote_attached = [];
  remote_sender = sender 1 true;
  remote_end = no_end (back key) false true;
  plan = plan_of true false false;
}

abbrev p3 : Snap
p3 = record p2 { gnb_direct = opened_side direct 1 no_tx no_rx; gnb_attached = []; gnb_sender = no_sender; gnb_end = no_end key false true; plan = plan_of true false true }

abbrev m4 : Snap
m4 = record p3 { relay_pc5 = closed pc5; relay_attached = []; remote_end = no_end (back key) true false; gnb_end = no_end key true false; plan = plan_of true true true }

abbrev p4 : Snap
p4 = record m4 {
  remote_direct = opened_side direct 1 (waiting (report_tag (back key)) report_of) no_rx;
  remote_end = no_end (back key) false false;
  gnb_direct = opened_side direct 1 (waiting (report_tag key) report_of) no_rx;
  gnb_end = no_end key false false;
}

abbrev p5 : Snap
p5 = record p4 { gnb_direct = opened_side direct 1 (sent (report_tag key) report_of) no_rx; air = None ∷ Some on_air ∷ [] }

abbrev m6 : Snap
m6 = record p5 { remote_direct = opened_side direct 1 (waiting (report_tag (back key)) report_of) heard; remote_sender = sender 0 false; air = None ∷ None ∷ [] }

abbrev p6 : Snap
p6 = record m6 { remote_direct = opened_side direct 1 both heard; remote_sender = sender 1 false }

-- the plan is opened, and two nodes apply it
plans : Step (chain s3) (PlanLine remote ToDirect) [] (OkNumber 1) (chain p1)
plans = rests (chain s3) (chain p1) [] (record { last = s3.plan; its = refl; shows = refl; says = refl; is = refl }) refl refl

applies_remote : Step (chain p1) (Apply remote kinds.Remote) [] Ok (chain p2)
applies_remote = rests (chain p1) (chain p2) [] (record { plan = p1.plan; its = refl; shows = refl; says = refl; is = refl }) refl refl

applies_gnb : Step (chain p2) (Apply remote kinds.Gnb) [] Ok (chain p3)
applies_gnb = rests (chain p2) (chain p3) [] (record { plan = p2.plan; its = refl; shows = refl; says = refl; is = refl }) refl refl

-- with the third a report is wanted at both ends, and given
applies_relay : Step (chain p3) (Apply remote kinds.Relay) (Rep key ∷ Rep (back key) ∷ []) (OkNumber 1) (chain p4)
applies_relay = gives (chain p3) (chain m4) [] (back key ∷ key ∷ []) (chain p4).nodes (record { plan = p3.plan; its = refl; shows = refl; says = refl; is = refl })
    (feeds_then tables (remote_of m4) (remote_of p4) (relay_of p4 ∷ gnb_of m4 ∷ []) (relay_of p4 ∷ gnb_of p4 ∷ []) (back key ∷ []) (key ∷ [])
    (feeds_report tables (remote_of m4) (back key) direct m4.remote_direct (entity 1 no_tx no_rx) refl refl (omega arith) refl refl refl refl refl
    (reports_next (new_receiver S12 0) refl) refl refl)
    (gnb_feeds m4 p4 (key ∷ []) refl
    (feeds_report tables (gnb_of m4) key direct m4.gnb_direct (entity 1 no_tx no_rx) refl refl (omega arith) refl refl refl refl refl
    (reports_next (new_receiver S12 0) refl) refl refl))) refl

-- the gNB's report goes over the direct port
grants_report : Step (chain p4) (Grant direct Dl 100) [] (Air 2 false 0 (octets 0 true report_of)) (chain p5)
grants_report = rests (chain p4) (chain p5) []
    (sends_first (chain p4) direct Dl p4.gnb_direct 1 (report_tag key) report_of no_rx refl refl refl refl (omega arith) (omega arith) refl refl refl refl) refl refl

-- with it the remote's sender goes on, and gives the SDU again
delivers_report : Step (chain p5) (Deliver 2) [] OkReport (chain p6)
delivers_report = gives (chain p5) (chain m6) [] [] (chain p6).nodes
    (delivers_sdu (chain p5) 2 on_air p5.remote_direct (entity 1 (waiting (report_tag (back key)) report_of) no_rx) heard true report_of
    (OkOf (ToPdcp (back key) report_of)) (answers.Report key 0) (remote_of m6) [] OkReport
    refl refl refl refl refl refl (omega arith) (omega arith) (omega arith) (hears_first report_of (omega arith)) refl
    (report_comes (record (remote_of m6) { outgoing = record { key = key; sender = p5.remote_sender } ∷ [] }) (back key) 0 (omega arith)) (refl, refl) refl)
    (remote_feeds m6 p6 []
    (feeds_data tables (remote_of m6) key direct m6.remote_direct (entity 1 (waiting (report_tag (back key)) report_of) heard) refl refl (omega arith) sdu refl refl refl
    refl refl refl) refl) refl

pub switches_path : SwitchesPath
switches_path = (
  chain s3,
  in_slot,
  chain p1,
  chain p2,
  chain p3,
  chain p4,
  chain p5,
  chain p6,
  plans,
  applies_remote,
  applies_gnb,
  applies_relay,
  grants_report,
  delivers_report,
  refl,
)
