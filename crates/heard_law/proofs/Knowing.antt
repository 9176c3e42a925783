-- What a history tells of a chain's plans, of what its nodes attach and of the epochs of sides; and that lines but plan and apply keep it.
use Rattle.std.proofs.Common.{◌≡◌, ℕ, ◌+◌, Bool, true, false, cond, List, [], ◌∷◌, find, Option, Some, None, refl, sym, ◌∙◌, ap}
use Rattle.std.proofs.lemmas.Bool.{cond-false, true≢false}
use Rattle.link_base.specs.declared.names.Goal.{Goal}
use Rattle.link_base.specs.declared.names.Key.{Key}
use Rattle.link_base.specs.declared.names.Node.{Node as NodeKind}
use Rattle.link_base.specs.declared.names.PortName.{PortName}
use Rattle.link_base.specs.declared.names.PortName.TheVariants.{Direct, Pc5, Uu}
use Rattle.link_base.specs.declared.names.Remote.{Remote}
use Rattle.link_base.specs.declared.names.Side.{Side}
use Rattle.bearer_map.specs.declared.ids.Attachment.{Attachment}
use Rattle.bearer_map.specs.Contents.{Contents}
use Rattle.rlc_model.specs.declared.hop.Pdu.{Pdu}
use Rattle.rlc_model.specs.declared.hop.HopGrant.{HopGrant}
use Rattle.rlc_model.specs.declared.hop.HopGrant.TheVariants as grants
use Rattle.rlc_model.specs.Hop.{on_air}
use Rattle.pdcp_model.specs.declared.answers.SubmitFault.{SubmitFault}
use Rattle.pdcp_model.specs.Sender.{submit_fault}
use Rattle.script_text.specs.declared.line.Line.{Line}
use Rattle.script_text.specs.declared.line.Line.TheVariants.{Submit, Grant, Deliver, Repeat, Lose, Stage, Expire, Push, Pull, Burst, Report, Plan as PlanLine, Apply}
use Rattle.script_text.specs.declared.event.Event.{Event}
use Rattle.script_text.specs.declared.reply.Reply.{Reply}
use Rattle.script_text.specs.History.{Entry}
use Rattle.node_model.specs.Names.{NodeName, is_remote, is_of, owner}
use Rattle.node_model.proofs.Names.{remote_refl}
use Rattle.node_model.specs.Opening.{attachments}
use Rattle.node_model.specs.State.{Node}
use Rattle.chain_model.specs.declared.plan.Plan.{Plan}
use Rattle.chain_model.specs.State.{Chain, node_at, set_node, plan_at, sender_at}
use Rattle.chain_model.specs.Lines.{Unless, submit_refusal, Submits, grant_refusal, Sends, Granted, is_handed_over, Delivers, without, Loses, stage_refusal, Stages, expire_refusal, Expires, report_refusal, Wants}
use Rattle.chain_model.specs.Steps.{Does}
use Rattle.chain_model.specs.Told.{last_goal, planned_by, applies, epoch_at, path_at, kind_of, side_epoch}
use Rattle.chain_law.specs.Entities.{next_epoch}
use Rattle.heard_law.specs.Telling.{has_node, of_remote}
use Rattle.heard_law.proofs.Attached.{can_attach}
use Rattle.heard_law.proofs.Standing.{Standing, epoch_in}
use Rattle.heard_law.proofs.Still.{Still}

-- the plan of a remote asks for the path of which the history tells last, and its epoch and marks are those of the plans that nodes have applied
pub record PlanTold (t : Contents) (h : List Entry) (r : Remote) (p : Plan) : Type 0 where
  pub goal : p.goal ≡ last_goal t r h
  pub epochs : (k : NodeKind) → epoch_at k r h + 1 ≡ next_epoch p k

-- what the history tells that a node attaches to a remote
abbrev pub told_to : Contents → NodeName → Remote → List Entry → List Attachment
told_to t x r h = cond (can_attach t x r) (attachments r (path_at t (kind_of x) r h)) []

-- the history tells so of plans, attachments and epochs
pub record Knows (t : Contents) (h : List Entry) (c : Chain) : Type 0 where
  pub plans : (r : Remote) (p : Plan) → plan_at c r ≡ Some p → PlanTold t h r p
  pub attached : (x : NodeName) → has_node t x ≡ true → (r : Remote) → of_remote r (node_at c x).attached ≡ told_to t x r h
  pub epochs : (side : Side) (q : PortName) (n : ℕ) → epoch_in (node_at c (owner side q)) q ≡ Some n → n ≡ side_epoch side q h

-- a history tells the same where plans stay and nodes stand as before
pub knows_beside : {t : Contents} {h : List Entry} (old new : Chain) → new.plans ≡ old.plans → Still old new → Knows t h old → Knows t h new
knows_beside {t} {h} old new plans still k = record {
  plans = λ r p is. k.plans r p (sym (ap (find (λ (p : Plan). is_remote r p.remote)) plans) ∙ is);
  attached = λ x has r. ap (λ (s : Standing). of_remote r s.attached) (still (Direct r (record { 0 = 0 })) x) ∙ k.attached x has r;
  epochs = λ side q n is. k.epochs side q n (sym (ap (λ (s : Standing). s.epoch) (still q (owner side q))) ∙ is);
}

-- a line tells neither of a plan nor of an apply
pub record IsQuiet (line : Line) (reply : Reply) : Type 0 where
  pub plans : (r : Remote) (g : Goal) → planned_by r line reply g ≡ g
  pub applies_none : (k : NodeKind) (r : Remote) → applies k r line reply ≡ false

-- what stays of a kind of node and a remote where it didn't apply a plan of the remote
module _ (t : Contents) (h : List Entry) (e : Entry) (k : NodeKind) (r : Remote) (none : applies k r e.line e.reply ≡ false) where
  pub epoch_stays : epoch_at k r (e ∷ h) ≡ epoch_at k r h
  epoch_stays = cond-false (applies k r e.line e.reply) (epoch_at k r h + 1) (epoch_at k r h) none

  pub path_stays : path_at t k r (e ∷ h) ≡ path_at t k r h
  path_stays = cond-false (applies k r e.line e.reply) (last_goal t r h) (path_at t k r h) none

-- the remote of a port's plans; none of a Uu port
pub side_epoch_stays : (h : List Entry) (e : Entry) (side : Side) (q : PortName)
    → ((r : Remote) → is_of r q ≡ true → applies (kind_of (owner side q)) r e.line e.reply ≡ false) → side_epoch side q (e ∷ h) ≡ side_epoch side q h
side_epoch_stays h e side (Direct r d) none = cond-false (applies (kind_of (owner side (Direct r d))) r e.line e.reply) _ _ (none r (remote_refl r))
side_epoch_stays h e side (Pc5 r d) none = cond-false (applies (kind_of (owner side (Pc5 r d))) r e.line e.reply) _ _ (none r (remote_refl r))
side_epoch_stays h e side (Uu chan) none = refl

-- behind a line that is quiet it tells the same
pub knows_told : {t : Contents} {h : List Entry} {c : Chain} (e : Entry) → IsQuiet e.line e.reply → Knows t h c → Knows t (e ∷ h) c
knows_told {t} {h} e quiet k = record {
  plans = λ r p is. let was = k.plans r p is in record {
    goal = was.goal ∙ sym (quiet.plans r (last_goal t r h));
    epochs = λ kind. ap (λ (n : ℕ). n + 1) (epoch_stays t h e kind r (quiet.applies_none kind r)) ∙ was.epochs kind;
  };
  attached = λ x has r. k.attached x has r ∙ sym (ap (λ (g : Goal). cond (can_attach t x r) (attachments r g) []) (path_stays t h e (kind_of x) r (quiet.applies_none (kind_of x) r)));
  epochs = λ side q n is. k.epochs side q n is ∙ sym (side_epoch_stays h e side q (λ r of. quiet.applies_none (kind_of (owner side q)) r));
}

-- a plan or an apply
abbrev pub is_switch : Line → Bool
is_switch (PlanLine remote goal) = true
is_switch (Apply remote kind) = true
is_switch line = false

pub quiet_line : (line : Line) (reply : Reply) → is_switch line ≡ false → IsQuiet line reply
quiet_line (PlanLine remote goal) reply it = absurd (true≢false it)
quiet_line (Apply remote kind) reply it = absurd (true≢false it)
quiet_line line reply it = record { plans = λ r g. refl; applies_none = λ k r. refl }

-- all other lines leave the plans
abbrev pub plans_of : Chain → List Plan
plans_of c = c.plans

module _ (old mid : Chain) where
  unless : (refusal : Option Reply) (own : List Event) (reply : Reply) (done : Type 0) → (done → mid.plans ≡ old.plans) → Unless refusal old own reply mid done
      → mid.plans ≡ old.plans
  unless (Some r) own reply done does (shows, says, is) = ap plans_of is
  unless None own reply done does x = does x

  sends : (node : Node) (port : PortName) (way : _) (epoch : ℕ) (answer : HopGrant) (reply : Reply) → Sends old node port way epoch answer reply mid → mid.plans ≡ old.plans
  sends node port way epoch (grants.Sent status number bytes) reply s = ap plans_of s.1
  sends node port way epoch grants.Idle reply s = ap plans_of s.1
  sends node port way epoch (grants.Small need) reply s = ap plans_of s.1

  submits : (fault : Option SubmitFault) (key : Key) (sdu : List ℕ) (own : List Event) (reply : Reply) → Submits fault old key sdu own reply mid → mid.plans ≡ old.plans
  submits (Some fault) key sdu own reply s = ap plans_of s.2
  submits None key sdu own reply s = ap plans_of s.2

  delivers : (o : Option Pdu) (own : List Event) (reply : Reply) (behind : Chain → Chain) → ((c : Chain) → (behind c).plans ≡ c.plans) → Delivers old o own reply mid behind
      → mid.plans ≡ old.plans
  delivers None own reply behind same d = ap plans_of d.2
  delivers (Some pdu) own reply behind same d = ap plans_of d.is ∙ by (is_handed_over d.answer)
    where
      by : (b : Bool) → (cond b (behind (set_node old d.node)) old).plans ≡ old.plans
      by true = same (set_node old d.node)
      by false = refl

  loses : (o : Option Pdu) (ticket : ℕ) (own : List Event) (reply : Reply) → Loses old o ticket own reply mid → mid.plans ≡ old.plans
  loses None ticket own reply d = ap plans_of d.2
  loses (Some pdu) ticket own reply d = ap plans_of d.2

  pub does_plans : (line : Line) (own : List Event) (reply : Reply) → is_switch line ≡ false → Does old line own reply mid → mid.plans ≡ old.plans
  does_plans (Submit key sdu) own reply it d = unless (submit_refusal old key) own reply _ (submits (submit_fault (sender_at old key) sdu) key sdu own reply) d
  does_plans (Grant port way octets) own reply it d = unless (grant_refusal old port way) own reply (Granted old port way octets own reply mid) (λ g. sends g.node port way g.epoch g.answer reply g.sends) d
  does_plans (Deliver ticket) own reply it d = delivers (on_air old.air ticket) own reply (without ticket) (λ c. refl) d
  does_plans (Repeat ticket) own reply it d = delivers (on_air old.air ticket) own reply (λ c. c) (λ c. refl) d
  does_plans (Lose ticket) own reply it d = loses (on_air old.air ticket) ticket own reply d
  does_plans (Stage ticket) own reply it d = unless (stage_refusal (on_air old.air ticket)) own reply (Stages old ticket own reply mid) (λ x. ap plans_of x.2) d
  does_plans (Expire port at timer) own reply it d = unless (expire_refusal old port at) own reply (Expires old port at timer own reply mid) (λ x. ap plans_of x.is) d
  does_plans (Push port) own reply it d = ap plans_of d.is
  does_plans (Pull port) own reply it d = ap plans_of d.is
  does_plans Burst own reply it d = ap plans_of d.is
  does_plans (Report key) own reply it d = unless (report_refusal old key) own reply (Wants old key own reply mid) (λ x. ap plans_of x.2) d
  does_plans (PlanLine remote goal) own reply it d = absurd (true≢false it)
  does_plans (Apply remote kind) own reply it d = absurd (true≢false it)
  does_plans line own reply it d = absurd d
