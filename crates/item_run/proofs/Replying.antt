-- The replies to lines before the ends feed: none is one that never comes, but that an SDU is discarded whose UE ID the node doesn't attach.
use Rattle.std.proofs.Common.{◌≡◌, ◌⊎◌, inl, inr, ℕ, Bool, true, false, cond, not, nat_le, List, length, count_by, Option, Some, None, is_none, is_some, option_map, refl, ◌∙◌, ap, subst}
use Rattle.link_base.specs.declared.discard.Discard.TheVariants.{UnknownUe}
use Rattle.link_base.specs.declared.names.Goal.{Goal}
use Rattle.link_base.specs.declared.names.Key.{Key}
use Rattle.link_base.specs.declared.names.Node.{Node as NodeKind}
use Rattle.link_base.specs.declared.names.Node.TheVariants as kinds
use Rattle.link_base.specs.declared.names.Place.{Place}
use Rattle.link_base.specs.declared.names.PortName.{PortName}
use Rattle.link_base.specs.declared.names.Remote.{Remote}
use Rattle.link_base.specs.declared.names.Way.{Way}
use Rattle.link_base.specs.declared.rlc_words.Expired.{Expired}
use Rattle.link_base.specs.declared.rlc_words.Expired.TheVariants as expiry
use Rattle.rlc_model.specs.declared.hop.HopGrant.{HopGrant}
use Rattle.rlc_model.specs.declared.hop.HopGrant.TheVariants as grants
use Rattle.rlc_model.specs.declared.hop.Pdu.{Pdu}
use Rattle.rlc_model.specs.Hop.{on_air}
use Rattle.rlc_model.specs.Sides.{hearer_of, sender_of, way_from}
use Rattle.pdcp_model.specs.declared.answers.SubmitFault.{SubmitFault}
use Rattle.pdcp_model.specs.declared.answers.SubmitFault.TheVariants as faults
use Rattle.pdcp_model.specs.Sender.{submit_fault}
use Rattle.script_text.specs.declared.event.Event.{Event}
use Rattle.script_text.specs.declared.line.Line.{Line}
use Rattle.script_text.specs.declared.line.Line.TheVariants.{Submit, Grant, Deliver, Repeat, Lose, Stage, Expire, Push, Pull, Report, Plan as PlanLine, Apply}
use Rattle.script_text.specs.declared.reply.Reply.{Reply}
use Rattle.script_text.specs.declared.reply.Reply.TheVariants.{NoBearer, NoRemote, NoPort, AirFull, Worn, IsStatus, NotRelay, PlanOpen, NoTable, IdBusy, NoPlan, Already, Discard}
use Rattle.node_model.specs.declared.answers.NodeHeard.{NodeHeard}
use Rattle.node_model.specs.declared.answers.PushReply.{PushReply}
use Rattle.node_model.specs.declared.answers.PushReply.TheVariants as pushed
use Rattle.node_model.specs.declared.answers.PullReply.{PullReply}
use Rattle.node_model.specs.declared.answers.PullReply.TheVariants as pulled
use Rattle.node_model.specs.Names.{AtRelay, is_node, node_of, owner}
use Rattle.node_model.specs.State.{Node}
use Rattle.node_model.specs.Tables.{has_bearer, has_path, has_remote}
use Rattle.chain_model.specs.declared.plan.Plan.{Plan}
use Rattle.chain_model.specs.Draining.{Moment}
use Rattle.chain_model.specs.Lines.{Unless, or_else, submit_refusal, Submits, grant_refusal, Sends, Granted, Delivers, without, Loses, stage_refusal, Stages, expire_refusal, Expires, open_refusal, report_refusal, Wants, plan_refusal, Plans, node_refusal, apply_refusal, applied_reply, Applies}
use Rattle.chain_model.specs.Plans.{has_applied, is_open, busy_place}
use Rattle.chain_model.specs.State.{Chain, entity_on, node_at, plan_at, sender_at}
use Rattle.chain_model.specs.Steps.{Does}
use Rattle.chain_model.specs.Telling.{TellsSubmit, TellsHeard, TellsExpired, push_reply, pull_reply}
use Rattle.item_chain.specs.Foundations.{PduLaws}
use Rattle.item_law.specs.State.{Item, goal_at}
use Rattle.book_law.specs.Hearings.{coming}
use Rattle.item_chain.specs.Laws.{IsItemLine}
use Rattle.item_chain.specs.View.{view}
use Rattle.item_chain.specs.Stands.{Ghost, Stands}
use Rattle.item_run.specs.Discards.{HearsUnattached}
use Rattle.item_run.specs.Replies.{never_comes}
use Rattle.item_run.proofs.Fine.{hears_fine}
use Rattle.item_run.proofs.Coming.{may_hear}
use Rattle.item_run.proofs.Strange.{heard_sound}

-- a refusal, where there is one, is a reply that may come
abbrev IsFine : Option Reply → Type 0
IsFine None = Unit {0}
IsFine (Some reply) = never_comes reply ≡ false

fine_choice : (b : Bool) (first second : Option Reply) → IsFine first → IsFine second → IsFine (cond b first second)
fine_choice true first second one two = one
fine_choice false first second one two = two

grant_fine : (c : Chain) (port : PortName) (way : Way) → IsFine (grant_refusal c port way)
grant_fine c port way = fine_choice (is_none (entity_on c (sender_of way) port)) (Some NoPort) _ refl
    (fine_choice (nat_le 16384 (count_by is_some c.air)) (Some AirFull) _ refl (fine_choice (nat_le 2305843009213693952 (length c.air)) (Some Worn) None refl tt))

stage_fine : (o : Option Pdu) → IsFine (stage_refusal o)
stage_fine None = refl
stage_fine (Some pdu) = fine_choice pdu.status (Some IsStatus) _ refl (fine_choice (not (is_node AtRelay (owner (hearer_of pdu.way) pdu.port))) (Some NotRelay) None refl tt)

open_fine : (o : Option Plan) → IsFine (open_refusal o)
open_fine None = tt
open_fine (Some p) = fine_choice (is_open p) (Some (PlanOpen p.remote)) None refl tt

first_fine : (first second : Option Reply) → IsFine first → IsFine second → IsFine (or_else first second)
first_fine None second one two = two
first_fine (Some reply) second one two = one

busy_fine : (o : Option Place) → IsFine (option_map (λ (place : Place). IdBusy place) o)
busy_fine None = tt
busy_fine (Some place) = refl

plan_fine : (c : Chain) (remote : Remote) (goal : Goal) → IsFine (plan_refusal c remote goal)
plan_fine c remote goal = fine_choice (not (has_remote c.tables remote)) (Some NoRemote) _ refl
    (first_fine (open_refusal (plan_at c remote)) _ (open_fine (plan_at c remote))
    (fine_choice (not (has_path c.tables remote goal)) (Some NoTable) _ refl (busy_fine (busy_place c goal))))

node_fine : (o : Option Plan) (kind : NodeKind) → IsFine (node_refusal o kind)
node_fine None kind = refl
node_fine (Some p) kind = fine_choice (not (is_open p)) (Some NoPlan) _ refl (fine_choice (has_applied p kind) (Some Already) None refl tt)

apply_fine : (c : Chain) (remote : Remote) (kind : NodeKind) → IsFine (apply_refusal c remote kind)
apply_fine c remote kind = fine_choice (not (has_remote c.tables remote)) (Some NoRemote) _ refl (node_fine (plan_at c remote) kind)

applied_fine : (kind : NodeKind) (remote : Remote) (n : Node) → never_comes (applied_reply kind remote n) ≡ false
applied_fine kinds.Remote remote n = refl
applied_fine kinds.Relay remote n = refl
applied_fine kinds.Gnb remote n = refl

-- by a line an SDU is discarded whose UE ID the node doesn't attach, and whose item's remote isn't on the item's path at some node
pub record IsDiscarded (g : Ghost) (m : Moment) : Type 0 where
  pub hears : HearsUnattached m
  pub number : ℕ
  pub item : Item
  pub is : g.chain.items number ≡ Some item
  pub kind : NodeKind
  pub off_path : goal_at (g.chain.path item.key.remote) kind ≡ item.goal → ⊥

-- the reply is none that never comes, or an SDU is discarded so
abbrev pub IsFineReply : Ghost → Moment → Reply → Type 0
IsFineReply g m reply = (never_comes reply ≡ false) ⊎ ((reply ≡ Discard UnknownUe) × IsDiscarded g m)

module _ (m : Moment) (mid : Chain) where
  abbrev old : Chain
  old = m.before

  unless : (refusal : Option Reply) → IsFine refusal → (own : List Event) (reply : Reply) (done : Type 0) → (done → never_comes reply ≡ false)
      → Unless refusal old own reply mid done → never_comes reply ≡ false
  unless (Some r) fine own reply done does u = ap never_comes u.1 ∙ fine
  unless None fine own reply done does x = does x

  tells_submit : (fault : SubmitFault) (reply : Reply) → TellsSubmit fault reply → never_comes reply ≡ false
  tells_submit faults.Empty reply is = ap never_comes is
  tells_submit faults.Long reply is = ap never_comes is
  tells_submit faults.Spent reply is = ap never_comes is
  tells_submit (faults.Full n) reply is = ap never_comes is
  tells_submit faults.Memory reply is = absurd is

  submits : (fault : Option SubmitFault) (key : Key) (sdu : List ℕ) (own : List Event) (reply : Reply) → Submits fault old key sdu own reply mid → never_comes reply ≡ false
  submits (Some fault) key sdu own reply s = tells_submit fault reply s.1
  submits None key sdu own reply s = ap never_comes s.1

  sends : (node : Node) (port : PortName) (way : Way) (epoch : ℕ) (answer : HopGrant) (reply : Reply) → Sends old node port way epoch answer reply mid → never_comes reply ≡ false
  sends node port way epoch (grants.Sent status number bytes) reply s = ap never_comes s.0
  sends node port way epoch grants.Idle reply s = ap never_comes s.0
  sends node port way epoch (grants.Small need) reply s = ap never_comes s.0

  loses : (o : Option Pdu) (ticket : ℕ) (own : List Event) (reply : Reply) → Loses old o ticket own reply mid → never_comes reply ≡ false
  loses None ticket own reply d = ap never_comes d.1
  loses (Some pdu) ticket own reply d = ap never_comes d.1

  expired : (port : PortName) (way : Way) (e : Expired) (own : List Event) (reply : Reply) → TellsExpired port way e own reply → never_comes reply ≡ false
  expired port way expiry.Done own reply t = ap never_comes t.1
  expired port way (expiry.Marked n) own reply t = ap never_comes t.1
  expired port way expiry.Stopped own reply t = ap never_comes t.1

  push_fine : (answer : PushReply) → never_comes (push_reply answer) ≡ false
  push_fine (pushed.Done port) = refl
  push_fine pushed.NoPort = refl
  push_fine pushed.Nothing = refl
  push_fine pushed.QueueFull = refl

  pull_fine : (answer : PullReply) → never_comes (pull_reply answer) ≡ false
  pull_fine (pulled.Done number) = refl
  pull_fine pulled.NoPort = refl
  pull_fine pulled.Empty = refl
  pull_fine pulled.Stalled = refl

  module _ (l : PduLaws) (g : Ghost) (st : Stands g (view old)) where
    comes : (ticket : ℕ) → coming m.entry.line ≡ Some ticket → (o : Option Pdu) → on_air old.air ticket ≡ o → (own : List Event) (reply : Reply) (behind : Chain → Chain)
        → Delivers old o own reply mid behind → IsFineReply g m reply
    comes ticket its None on own reply behind d = inl (ap never_comes d.1)
    comes ticket its (Some pdu) on own reply behind d = elim (hears_fine l g old st ticket pdu on d.answer d.node d.hears) [
      | inl fine ↦ inl (heard_sound pdu.port (way_from (hearer_of pdu.way)) d.answer own reply d.tells fine)
      | inr x ↦
          let may = may_hear g old st ticket pdu on x.1 in
          let nowhere = x.2 in
          inr (
            (subst (λ (answer : NodeHeard). TellsHeard pdu.port (way_from (hearer_of pdu.way)) answer own reply) x.0 d.tells).1,
            record {
              hears = record {
                name = owner (hearer_of pdu.way) pdu.port;
                number = nowhere.number;
                whole = nowhere.whole;
                comes = record {
                  ticket = ticket;
                  line = its;
                  pdu = pdu;
                  shown = on;
                  at_node = refl;
                  taken = x.1;
                  side = may.side;
                  entity = may.entity;
                  its = record { here = may.here; is_open = may.is_open };
                  tx = nowhere.tx;
                  rx = nowhere.rx;
                  hears = nowhere.hears;
                };
                header = nowhere.unknown.header;
                reads = nowhere.unknown.reads;
                unattached = nowhere.unknown.unattached;
              };
              number = nowhere.unknown.number;
              item = nowhere.unknown.item;
              is = nowhere.unknown.is;
              kind = nowhere.unknown.kind;
              off_path = nowhere.unknown.off_path;
            },
          )
    ]

    pub does_fine : (line : Line) → m.entry.line ≡ line → (own : List Event) (reply : Reply) → IsItemLine line → Does old line own reply mid → IsFineReply g m reply
    does_fine (Submit key sdu) its own reply is d = inl (unless (submit_refusal old key)
        (fine_choice (not (has_bearer old.tables key.remote key.drb)) (Some NoBearer) None refl tt) own reply _
        (submits (submit_fault (sender_at old key) sdu) key sdu own reply) d)
    does_fine (Grant port way octets) its own reply is d = inl (unless (grant_refusal old port way) (grant_fine old port way) own reply (Granted old port way octets own reply mid)
        (λ x. sends x.node port way x.epoch x.answer reply x.sends) d)
    does_fine (Deliver ticket) its own reply is d = comes ticket (ap coming its) (on_air old.air ticket) refl own reply (without ticket) d
    does_fine (Repeat ticket) its own reply is d = comes ticket (ap coming its) (on_air old.air ticket) refl own reply (λ c. c) d
    does_fine (Lose ticket) its own reply is d = inl (loses (on_air old.air ticket) ticket own reply d)
    does_fine (Stage ticket) its own reply is d = inl (unless (stage_refusal (on_air old.air ticket)) (stage_fine (on_air old.air ticket)) own reply
        (Stages old ticket own reply mid) (λ x. ap never_comes x.1) d)
    does_fine (Expire port at timer) its own reply is d = inl (unless (expire_refusal old port at)
        (fine_choice (is_none (entity_on old at port)) (Some NoPort) None refl tt) own reply
        (Expires old port at timer own reply mid) (λ x. expired port (way_from at) x.expired own reply x.tells) d)
    does_fine (Push port) its own reply is d = inl (ap never_comes d.says ∙ push_fine d.answer)
    does_fine (Pull port) its own reply is d = inl (ap never_comes d.says ∙ pull_fine d.answer)
    does_fine (Report key) its own reply is d = inl (unless (report_refusal old key)
        (fine_choice (not (has_bearer old.tables key.remote key.drb)) (Some NoBearer) (open_refusal (plan_at old key.remote)) refl (open_fine (plan_at old key.remote))) own reply
        (Wants old key own reply mid) (λ x. ap never_comes x.1) d)
    does_fine (PlanLine remote goal) its own reply is d = inl (unless (plan_refusal old remote goal) (plan_fine old remote goal) own reply (Plans old remote goal own reply mid)
        (λ x. ap never_comes x.says) d)
    does_fine (Apply remote kind) its own reply is d = inl (unless (apply_refusal old remote kind) (apply_fine old remote kind) own reply (Applies old remote kind own reply mid)
        (λ x. ap never_comes x.says ∙ applied_fine kind remote (node_at old (node_of kind remote))) d)
    does_fine line its own reply is d = absurd is
