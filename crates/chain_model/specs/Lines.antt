-- How each line behind go is answered, and what it leaves before the ends feed: the first refusal that holds, and then nothing changes; else
-- what the nodes do.
use Rattle.std.specs.Prelude.{◌≡◌, ℕ, ◌+◌, ◌==◌, Bool, true, false, not, List, [], ◌∷◌, ◌++◌, length, map, nat_le, count_by, Option, Some, None, is_some, is_none, option_map, if◌then◌else◌}
use Rattle.std.specs.List.{list_any}
use Rattle.link_base.specs.declared.names.Remote.{Remote}
use Rattle.link_base.specs.declared.names.Goal.{Goal}
use Rattle.link_base.specs.declared.names.Key.{Key}
use Rattle.link_base.specs.declared.names.Node.{Node as NodeKind}
use Rattle.link_base.specs.declared.names.Node.TheVariants as kinds
use Rattle.link_base.specs.declared.names.PortName.{PortName}
use Rattle.link_base.specs.declared.names.Side.{Side}
use Rattle.link_base.specs.declared.names.Timer.{Timer}
use Rattle.link_base.specs.declared.names.Way.{Way}
use Rattle.link_base.specs.declared.rlc_words.Expired.{Expired}
use Rattle.rlc_model.specs.declared.hop.Pdu.{Pdu}
use Rattle.rlc_model.specs.declared.hop.HopGrant.{HopGrant}
use Rattle.rlc_model.specs.declared.hop.HopGrant.TheVariants as grant
use Rattle.rlc_model.specs.Sides.{sender_of, hearer_of, way_from}
use Rattle.rlc_model.specs.Hop.{off_air, sent_from}
use Rattle.pdcp_model.specs.declared.answers.SubmitFault.{SubmitFault}
use Rattle.pdcp_model.specs.Sender.{accepts, tx_next}
use Rattle.script_text.specs.declared.event.Event.{Event}
use Rattle.script_text.specs.declared.reply.Reply.{Reply}
use Rattle.script_text.specs.declared.reply.Reply.TheVariants.{Ok, OkNumber, NoBearer, NoRemote, NoPort, NoAir, NotRelay, NoTable, NoPlan, Already, IsStatus, AirFull, Worn, Idle, Small, Air, PlanOpen, IdBusy}
use Rattle.node_model.specs.declared.answers.NodeHeard.{NodeHeard}
use Rattle.node_model.specs.declared.answers.NodeHeard.TheVariants as answers
use Rattle.node_model.specs.declared.answers.PushReply.{PushReply}
use Rattle.node_model.specs.declared.answers.PullReply.{PullReply}
use Rattle.node_model.specs.Names.{AtRelay, is_node, owner, node_of}
use Rattle.node_model.specs.State.{Node}
use Rattle.node_model.specs.Tables.{settings, has_remote, has_bearer, has_path}
use Rattle.node_model.specs.Sides.{GrantsSide, ExpiresSide}
use Rattle.node_model.specs.Hearing.{HearsPdu}
use Rattle.node_model.specs.Relaying.{PushesPort, PullsPort}
use Rattle.node_model.specs.Switching.{node_after, node_closed, dropped}
use Rattle.chain_model.specs.declared.plan.Plan.{Plan}
use Rattle.chain_model.specs.State.{Chain, node_at, set_node, plan_at, set_plan, sender_at, set_sender, receiving_at, set_receiving, entity_on}
use Rattle.chain_model.specs.Plans.{has_applied, marks, is_open, next_plan, busy_place}
use Rattle.chain_model.specs.Telling.{TellsSubmit, TellsHeard, TellsExpired, push_reply, pull_reply}

-- where there is a refusal it is the reply, and nothing changes; else this holds
abbrev pub Unless : Option Reply → Chain → List Event → Reply → Chain → Type 0 → Type 0
Unless (Some refusal) old events reply new done = (events ≡ []) × (reply ≡ refusal) × (new ≡ old)
Unless None old events reply new done = done

-- the first refusal of two
abbrev pub or_else : Option Reply → Option Reply → Option Reply
or_else None second = second
or_else (Some first) second = Some first

-- a submission is refused: there is no such bearer
abbrev pub submit_refusal : Chain → Key → Option Reply
submit_refusal c key = if not (has_bearer c.tables key.remote key.drb) then Some NoBearer else None

-- the sender refuses an SDU for a fault, or accepts it with the COUNT TX_NEXT (TS 38.323 clause 5.2.1)
abbrev pub Submits : Option SubmitFault → Chain → Key → List ℕ → List Event → Reply → Chain → Type 0
Submits (Some fault) old key sdu events reply new = (events ≡ []) × TellsSubmit fault reply × (new ≡ old)
Submits None old key sdu events reply new = (events ≡ []) × (reply ≡ OkNumber (tx_next (sender_at old key))) × (new ≡ set_sender old key (accepts (sender_at old key) sdu))

-- a grant is refused: the side isn't there or isn't open, 16,384 PDUs are on the air, 2^61 tickets were made
abbrev pub grant_refusal : Chain → PortName → Way → Option Reply
grant_refusal c port way =
    if is_none (entity_on c (sender_of way) port) then Some NoPort
    else if nat_le 16384 (count_by is_some c.air) then Some AirFull
    else if nat_le 2305843009213693952 (length c.air) then Some Worn
    else None

-- what becomes of a grant, where node is the sending node behind it: a PDU that is sent goes on the air with the next ticket; else nothing changes
abbrev pub Sends : Chain → Node → PortName → Way → ℕ → HopGrant → Reply → Chain → Type 0
Sends old node port way epoch (grant.Sent status number bytes) reply new =
    (reply ≡ Air (length old.air + 1) status number bytes) × (new ≡ record (set_node old node) { air = old.air ++ Some (sent_from port (sender_of way) epoch status number bytes) ∷ [] })
Sends old node port way epoch grant.Idle reply new = (reply ≡ Idle) × (new ≡ old)
Sends old node port way epoch (grant.Small need) reply new = (reply ≡ Small need) × (new ≡ old)

-- the side that sends in this way may send one PDU (TS 38.322 clauses 5.2.3.1 and 5.3.4)
pub record Granted (old : Chain) (port : PortName) (way : Way) (octets : ℕ) (events : List Event) (reply : Reply) (new : Chain) : Type 0 where
  pub epoch : ℕ
  pub answer : HopGrant
  pub node : Node
  pub grants : GrantsSide (node_at old (owner (sender_of way) port)) port octets epoch answer node
  pub shows : events ≡ []
  pub sends : Sends old node port way epoch answer reply new

-- the node that has the side to which a PDU goes
abbrev pub hearer : Pdu → Chain → Node
hearer pdu c = node_at c (owner (hearer_of pdu.way) pdu.port)

-- the PDU was handed over: the node has the port, the port is open in the PDU's epoch, the PDU isn't too old, and it isn't held
abbrev pub is_handed_over : NodeHeard → Bool
is_handed_over answers.NoPort = false
is_handed_over (answers.Air fault) = false
is_handed_over answers.Held = false
is_handed_over answer = true

-- the PDU of a ticket is on the air no more
abbrev pub without : ℕ → Chain → Chain
without ticket c = record c { air = off_air c.air ticket }

-- a PDU on the air comes to the node that it goes to, and if it is handed over the chain is then changed so
pub record Comes (old : Chain) (pdu : Pdu) (events : List Event) (reply : Reply) (new : Chain) (behind : Chain → Chain) : Type 0 where
  pub answer : NodeHeard
  pub node : Node
  pub hears : HearsPdu old.tables (hearer pdu old) (hearer_of pdu.way) pdu answer node
  pub tells : TellsHeard pdu.port (way_from (hearer_of pdu.way)) answer events reply
  pub is : new ≡ (if is_handed_over answer then behind (set_node old node) else old)

-- the PDU of a ticket comes to its node, where it is on the air
abbrev pub Delivers : Chain → Option Pdu → List Event → Reply → Chain → (Chain → Chain) → Type 0
Delivers old None events reply new behind = (events ≡ []) × (reply ≡ NoAir) × (new ≡ old)
Delivers old (Some pdu) events reply new behind = Comes old pdu events reply new behind

-- the PDU of a ticket is lost, where it is on the air
abbrev pub Loses : Chain → Option Pdu → ℕ → List Event → Reply → Chain → Type 0
Loses old None ticket events reply new = (events ≡ []) × (reply ≡ NoAir) × (new ≡ old)
Loses old (Some pdu) ticket events reply new = (events ≡ []) × (reply ≡ Ok) × (new ≡ without ticket old)

-- a ticket isn't staged: the PDU isn't on the air, it is a STATUS PDU, or it doesn't go to the relay
abbrev pub stage_refusal : Option Pdu → Option Reply
stage_refusal None = Some NoAir
stage_refusal (Some pdu) = if pdu.status then Some IsStatus else if not (is_node AtRelay (owner (hearer_of pdu.way) pdu.port)) then Some NotRelay else None

-- the tickets staged, with this one once
abbrev pub with_ticket : ℕ → List ℕ → List ℕ
with_ticket ticket staged = if list_any (λ t. t == ticket) staged then staged else staged ++ ticket ∷ []

-- the ticket is staged for the next burst
abbrev pub Stages : Chain → ℕ → List Event → Reply → Chain → Type 0
Stages old ticket events reply new = (events ≡ []) × (reply ≡ Ok) × (new ≡ record old { staged = with_ticket ticket old.staged })

-- a timer can't run out: the side isn't there or isn't open
abbrev pub expire_refusal : Chain → PortName → Side → Option Reply
expire_refusal c port at = if is_none (entity_on c at port) then Some NoPort else None

-- a timer of a side is to run out (TS 38.322 clause 7.3)
pub record Expires (old : Chain) (port : PortName) (at : Side) (timer : Timer) (events : List Event) (reply : Reply) (new : Chain) : Type 0 where
  pub expired : Expired
  pub node : Node
  pub expires : ExpiresSide (node_at old (owner at port)) port timer expired node
  pub tells : TellsExpired port (way_from at) expired events reply
  pub is : new ≡ set_node old node

-- how many SDUs a queue of the relay holds at most
abbrev pub queue_capacity : Chain → ℕ
queue_capacity c = (settings c.tables).queue

-- the relay is to move the SDU in a slot to its queue
pub record PushesAt (old : Chain) (port : PortName) (events : List Event) (reply : Reply) (new : Chain) : Type 0 where
  pub answer : PushReply
  pub node : Node
  pub pushes : PushesPort (queue_capacity old) (node_at old AtRelay) port answer node
  pub shows : events ≡ []
  pub says : reply ≡ push_reply answer
  pub is : new ≡ set_node old node

-- the relay is to move the SDU at the front of a queue to the queue's transmitter
pub record PullsAt (old : Chain) (port : PortName) (events : List Event) (reply : Reply) (new : Chain) : Type 0 where
  pub answer : PullReply
  pub node : Node
  pub pulls : PullsPort (node_at old AtRelay) port answer node
  pub shows : events ≡ []
  pub says : reply ≡ pull_reply answer
  pub is : new ≡ set_node old node

-- a plan of the remote is open
abbrev pub open_refusal : Option Plan → Option Reply
open_refusal None = None
open_refusal (Some p) = if is_open p then Some (PlanOpen p.remote) else None

-- a report is refused: there is no such bearer, or a plan of its remote is open
abbrev pub report_refusal : Chain → Key → Option Reply
report_refusal c key = if not (has_bearer c.tables key.remote key.drb) then Some NoBearer else open_refusal (plan_at c key.remote)

-- a status report about the key is wanted at the end that receives it (TS 38.323 clause 5.4.1)
abbrev pub Wants : Chain → Key → List Event → Reply → Chain → Type 0
Wants old key events reply new = (events ≡ []) × (reply ≡ Ok) × (new ≡ set_receiving old key (record (receiving_at old key) { wanted = true }))

-- a plan is refused: there is no such remote; a plan of it is open; a bearer has no channels; the local identity is in use
abbrev pub plan_refusal : Chain → Remote → Goal → Option Reply
plan_refusal c remote goal =
    if not (has_remote c.tables remote) then Some NoRemote
    else or_else (open_refusal (plan_at c remote))
    (if not (has_path c.tables remote goal) then Some NoTable
    else option_map (λ place. IdBusy place) (busy_place c goal))

-- the next plan of a remote is opened
pub record Plans (old : Chain) (remote : Remote) (goal : Goal) (events : List Event) (reply : Reply) (new : Chain) : Type 0 where
  pub last : Plan
  pub its : plan_at old remote ≡ Some last
  pub shows : events ≡ []
  pub says : reply ≡ OkNumber (next_plan last goal).epoch
  pub is : new ≡ set_plan old (next_plan last goal)

-- a node can't apply a plan: none is open, or the node has applied it
abbrev pub node_refusal : Option Plan → NodeKind → Option Reply
node_refusal None kind = Some NoPlan
node_refusal (Some p) kind = if not (is_open p) then Some NoPlan else if has_applied p kind then Some Already else None

-- applying is refused: there is no such remote, or the node can't apply its plan
abbrev pub apply_refusal : Chain → Remote → NodeKind → Option Reply
apply_refusal c remote kind = if not (has_remote c.tables remote) then Some NoRemote else node_refusal (plan_at c remote) kind

-- how a node replies that applies a plan: the relay, how many SDUs it dropped
abbrev pub applied_reply : NodeKind → Remote → Node → Reply
applied_reply kinds.Remote remote n = Ok
applied_reply kinds.Relay remote n = OkNumber (dropped remote n)
applied_reply kinds.Gnb remote n = Ok

-- with the third apply the plan is closed, and each node learns it
abbrev pub closed : Remote → Bool → Chain → Chain
closed remote is_still_open c = if is_still_open then c else record c { nodes = map (node_closed remote) c.nodes }

-- a node applies the open plan of a remote
pub record Applies (old : Chain) (remote : Remote) (kind : NodeKind) (events : List Event) (reply : Reply) (new : Chain) : Type 0 where
  pub plan : Plan
  pub its : plan_at old remote ≡ Some plan
  pub shows : events ≡ []
  pub says : reply ≡ applied_reply kind remote (node_at old (node_of kind remote))
  pub is : new ≡ closed remote (is_open (marks plan kind)) (set_plan (set_node old (node_after (settings old.tables) remote plan.goal plan.epoch (node_at old (node_of kind remote)))) (marks plan kind))
