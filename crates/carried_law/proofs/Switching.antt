-- What an apply leaves: a side of a port is as it was, or opens anew in the epoch of the remote's plan, to which the history hadn't come.
use Rattle.std.proofs.Common.{◌≡◌, ◌⊎◌, inl, inr, ℕ, ◌+◌, ◌≤◌, Bool, true, false, cond, not, List, ◌∷◌, find, Option, Some, None, option_map, option_and_then, refl, sym, ◌∙◌, ap, arith}
use Rattle.std.specs.Option.{unwrap_or}
use Rattle.std.proofs.lemmas.Bool.{cases_Bool, cond-true, cond-false, false≢true}
use Rattle.std.proofs.lemmas.Option.{none-some, same_Some}
use Rattle.link_base.specs.declared.names.Goal.{Goal}
use Rattle.link_base.specs.declared.names.Node.{Node as NodeKind}
use Rattle.link_base.specs.declared.names.Node.TheVariants as kinds
use Rattle.link_base.specs.declared.names.PortName.{PortName}
use Rattle.link_base.specs.declared.names.PortName.TheVariants.{Direct, Pc5, Uu}
use Rattle.link_base.specs.declared.names.Remote.{Remote}
use Rattle.link_base.specs.declared.names.Side.{Side}
use Rattle.link_base.specs.declared.names.SnSize.{SnSize}
use Rattle.bearer_map.specs.Contents.{Contents}
use Rattle.bearer_map.specs.declared.settings.Settings.{Settings}
use Rattle.rlc_model.specs.Sides.{Entity}
use Rattle.script_text.specs.declared.event.Event.{Event}
use Rattle.script_text.specs.declared.reply.Reply.{Reply}
use Rattle.script_text.specs.declared.reply.Reply.TheVariants.{NoRemote, NoPlan, Already}
use Rattle.script_text.specs.History.{Entry}
use Rattle.node_model.specs.Names.{NodeName, is_node, is_of, is_port, node_of, owner}
use Rattle.node_model.specs.Opening.{new_entity}
use Rattle.node_model.specs.State.{PortSide, Node, no_node, side_at, entity_of, entity_at}
use Rattle.node_model.specs.Switching.{side_after, node_after, node_closed}
use Rattle.node_model.specs.Tables.{settings, has_remote, is_open_on}
use Rattle.node_model.proofs.Finding.{find_none, find_map}
use Rattle.node_model.proofs.Names.{cases_node, remote_is}
use Rattle.chain_model.proofs.Lookups.{cases_found}
use Rattle.chain_model.specs.declared.plan.Plan.{Plan}
use Rattle.chain_model.specs.Lines.{node_refusal, apply_refusal, closed, Applies}
use Rattle.chain_model.specs.Plans.{has_applied, is_open, marks}
use Rattle.chain_model.specs.State.{Chain, node_at, set_node, plan_at, set_plan, entity_on}
use Rattle.chain_model.specs.Told.{kind_of, applies, epoch_at, side_epoch}
use Rattle.chain_law.proofs.Chains.{node_in, node_name, node_set, node_kept}
use Rattle.chain_law.proofs.Nodes.{side_name}
use Rattle.heard_law.proofs.Knowing.{Knows}

-- a node's side behind an apply
pub applied_side : (s : Settings) (remote : Remote) (goal : Goal) (epoch : ℕ) (n : Node) (q : PortName) (e : Entity) → entity_at (node_after s remote goal epoch n) q ≡ Some e
    → (entity_at n q ≡ Some e) ⊎ ((is_of remote q ≡ true) × (size : SnSize) × (e ≡ new_entity s size epoch))
applied_side s remote goal epoch n q e is = by (side_at n q) refl
  where
    now : entity_at (node_after s remote goal epoch n) q ≡ option_and_then entity_of (option_map (side_after s remote goal epoch) (side_at n q))
    now = ap (option_and_then entity_of) (find_map (side_after s remote goal epoch) (λ (x : PortSide). is_port q x.name) n.ports)

    opens : (b : Bool) (size : SnSize) → cond b (Some (new_entity s size epoch)) None ≡ Some e → e ≡ new_entity s size epoch
    opens true size e_is = sym (same_Some (new_entity s size epoch) e e_is)
    opens false size e_is = absurd (none-some e e_is)

    by : (o : Option PortSide) → side_at n q ≡ o → (entity_at n q ≡ Some e) ⊎ ((is_of remote q ≡ true) × (size : SnSize) × (e ≡ new_entity s size epoch))
    by None at = absurd (none-some e (sym (ap (λ (o : Option PortSide). option_and_then entity_of (option_map (side_after s remote goal epoch) o)) at) ∙ sym now ∙ is))
    by (Some x) at =
        let its : cond (is_of remote x.name) (cond (is_open_on goal x.name) (Some (new_entity s x.size epoch)) None) x.entity ≡ Some e
        = sym (ap (λ (o : Option PortSide). option_and_then entity_of (option_map (side_after s remote goal epoch) o)) at) ∙ sym now ∙ is in
        elim (cases_Bool (is_of remote x.name)) [
          | inl own ↦ inr (ap (is_of remote) (side_name n q x at) ∙ own, x.size, opens (is_open_on goal x.name) x.size (sym (cond-true (is_of remote x.name) _ x.entity own) ∙ its))
          | inr other ↦ inl (ap (option_and_then entity_of) at ∙ sym (cond-false (is_of remote x.name) _ x.entity other) ∙ its)
        ]

-- nodes that learn that a plan is closed keep their sides
pub closed_ports : (remote : Remote) (b : Bool) (c : Chain) (x : NodeName) → (node_at (closed remote b c) x).ports ≡ (node_at c x).ports
closed_ports remote true c x = refl
closed_ports remote false c x = ap (λ (o : Option Node). (unwrap_or o (no_node x)).ports) (find_map (node_closed remote) (λ (n : Node). is_node x n.name) c.nodes)
    ∙ by (find (λ (n : Node). is_node x n.name) c.nodes)
  where
    by : (o : Option Node) → (unwrap_or (option_map (node_closed remote) o) (no_node x)).ports ≡ (unwrap_or o (no_node x)).ports
    by None = refl
    by (Some n) = refl

closed_side : (remote : Remote) (b : Bool) (c : Chain) (x : NodeName) (q : PortName) → entity_at (node_at (closed remote b c) x) q ≡ entity_at (node_at c x) q
closed_side remote b c x q = ap (λ (ports : List PortSide). option_and_then entity_of (find (λ (s : PortSide). is_port q s.name) ports)) (closed_ports remote b c x)

-- an apply makes no ticket
pub applies_air : (old mid : Chain) (remote : Remote) (kind : NodeKind) (own : List Event) (reply : Reply) → Applies old remote kind own reply mid → mid.air ≡ old.air
applies_air old mid remote kind own reply a = ap (λ (c : Chain). c.air) a.is ∙ by (is_open (marks a.plan kind))
  where
    by : (b : Bool) → (closed remote b (set_plan (set_node old (node_after (settings old.tables) remote a.plan.goal a.plan.epoch (node_at old (node_of kind remote))))
        (marks a.plan kind))).air ≡ old.air
    by true = refl
    by false = refl

-- a side behind an apply
pub applies_side : (old mid : Chain) (remote : Remote) (kind : NodeKind) (own : List Event) (reply : Reply) (a : Applies old remote kind own reply mid) (side : Side) (q : PortName) (e : Entity)
    → entity_on mid side q ≡ Some e → (entity_on old side q ≡ Some e)
    ⊎ ((is_of remote q ≡ true) × (owner side q ≡ node_of kind remote) × (size : SnSize) × (e ≡ new_entity (settings old.tables) size a.plan.epoch))
applies_side old mid remote kind own reply a side q e is = elim (cases_node x y) [
  | inr ne ↦ inl (ap (λ (n : Node). entity_at n q) (sym (node_kept old y m name x ne)) ∙ here)
  | inl this ↦ elim (cases_found (find (λ (n : Node). is_node y n.name) old.nodes)) [
    | inr none ↦ inl (ap (λ (ns : List Node). entity_at (node_in ns x) q) (sym (find_none (λ (n : Node). is_node m.name n.name) m old.nodes
        (ap (λ (z : NodeName). find (λ (n : Node). is_node z n.name) old.nodes) name ∙ none))) ∙ here)
    | inl there ↦ elim (applied_side (settings old.tables) remote a.plan.goal a.plan.epoch (node_at old y) q e
        (ap (λ (n : Node). entity_at n q) (sym (ap (node_at (set_node old m)) this ∙ node_set old y m name there.0 there.1)) ∙ here)) [
          | inl was ↦ inl (ap (λ (z : NodeName). entity_at (node_at old z) q) this ∙ was)
          | inr new ↦ inr (new.0, this, new.1, new.2)
        ]
  ]
]
  where
    x : NodeName
    x = owner side q

    y : NodeName
    y = node_of kind remote

    m : Node
    m = node_after (settings old.tables) remote a.plan.goal a.plan.epoch (node_at old y)

    name : m.name ≡ y
    name = node_name old y

    here : entity_at (node_at (set_node old m) x) q ≡ Some e
    here = sym (closed_side remote (is_open (marks a.plan kind)) (set_plan (set_node old m) (marks a.plan kind)) x q)
        ∙ ap (λ (c : Chain). entity_at (node_at c x) q) (sym a.is) ∙ is

-- the epoch in which a side of a remote's port stands at a node of its own
kind_is : (k : NodeKind) (r : Remote) → kind_of (node_of k r) ≡ k
kind_is kinds.Remote r = refl
kind_is kinds.Relay r = refl
kind_is kinds.Gnb r = refl

pub own_epoch : (h : List Entry) (side : Side) (q : PortName) (remote : Remote) (kind : NodeKind) → is_of remote q ≡ true → owner side q ≡ node_of kind remote
    → side_epoch side q h ≡ epoch_at kind remote h
own_epoch h side (Direct r d) remote kind of own = ap (λ (x : Remote). epoch_at (kind_of (owner side (Direct r d))) x h) (sym (remote_is remote r of))
    ∙ ap (λ (k : NodeKind). epoch_at k remote h) (ap kind_of own ∙ kind_is kind remote)
own_epoch h side (Pc5 r c) remote kind of own = ap (λ (x : Remote). epoch_at (kind_of (owner side (Pc5 r c))) x h) (sym (remote_is remote r of))
    ∙ ap (λ (k : NodeKind). epoch_at k remote h) (ap kind_of own ∙ kind_is kind remote)
own_epoch h side (Uu c) remote kind of own = absurd (false≢true of)

-- epochs don't fall
pub epoch_rises : (e : Entry) (h : List Entry) (side : Side) (q : PortName) → side_epoch side q h ≤ side_epoch side q (e ∷ h)
epoch_rises e h side q = by q
  where
    rises : (b : Bool) (n : ℕ) → n ≤ cond b (n + 1) n
    rises true n = omega arith
    rises false n = omega arith

    by : (q : PortName) → side_epoch side q h ≤ side_epoch side q (e ∷ h)
    by (Direct r d) = rises (applies (kind_of (owner side (Direct r d))) r e.line e.reply) (epoch_at (kind_of (owner side (Direct r d))) r h)
    by (Pc5 r c) = rises (applies (kind_of (owner side (Pc5 r c))) r e.line e.reply) (epoch_at (kind_of (owner side (Pc5 r c))) r h)
    by (Uu c) = omega arith

-- a plan that a node applies is of an epoch to which the node hadn't come
pub plan_later : (t : Contents) (h : List Entry) (old : Chain) → Knows t h old → (remote : Remote) (kind : NodeKind) → apply_refusal old remote kind ≡ None
    → (plan : Plan) → plan_at old remote ≡ Some plan → plan.epoch ≡ epoch_at kind remote h + 1
plan_later t h old knows remote kind none plan is = sym ((knows.plans remote plan is).epochs kind ∙ next (has_applied plan kind) (unapplied (not (has_remote old.tables remote)) (plan_at old remote) is none))
  where
    next : (b : Bool) → b ≡ false → cond b (plan.epoch + 1) plan.epoch ≡ plan.epoch
    next b f = cond-false b (plan.epoch + 1) plan.epoch f

    last : (a b : Bool) → cond a (Some NoPlan) (cond b (Some Already) None) ≡ None → b ≡ false
    last true b e = absurd (none-some NoPlan (sym e))
    last false true e = absurd (none-some Already (sym e))
    last false false e = refl

    unapplied : (a : Bool) (o : Option Plan) → o ≡ Some plan → cond a (Some NoRemote) (node_refusal o kind) ≡ None → has_applied plan kind ≡ false
    unapplied true o at e = absurd (none-some NoRemote (sym e))
    unapplied false None at e = absurd (none-some plan at)
    unapplied false (Some p) at e = ap (λ (p : Plan). has_applied p kind) (sym (same_Some p plan at)) ∙ last (not (is_open p)) (has_applied p kind) e
