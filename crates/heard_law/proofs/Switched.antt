-- The lines plan and apply keep what a history tells of plans, attachments and epochs.
use Rattle.std.proofs.Common.{◌≡◌, inl, inr, ℕ, ◌+◌, Bool, true, false, cond, not, ◌&&◌, List, [], ◌∷◌, map, Option, Some, None, option_map, option_and_then, refl, sym, ◌∙◌, ap, subst}
use Rattle.std.specs.Option.{unwrap_or}
use Rattle.std.proofs.lemmas.Bool.{cases_Bool, cond-true, cond-false, true≢false, false≢true, and_parts, and_from}
use Rattle.std.proofs.lemmas.Option.{none-some, same_Some}
use Rattle.link_base.specs.declared.names.Goal.{Goal}
use Rattle.link_base.specs.declared.names.Node.{Node as NodeKind}
use Rattle.link_base.specs.declared.names.Node.TheVariants as kinds
use Rattle.link_base.specs.declared.names.PortName.{PortName}
use Rattle.link_base.specs.declared.names.PortName.TheVariants.{Direct, Pc5, Uu}
use Rattle.link_base.specs.declared.names.Remote.{Remote}
use Rattle.link_base.specs.declared.names.Side.{Side}
use Rattle.link_base.specs.declared.names.Side.TheVariants.{Low, High}
use Rattle.bearer_map.specs.declared.settings.Settings.{Settings}
use Rattle.bearer_map.specs.Contents.{Contents}
use Rattle.script_text.specs.declared.line.Line.TheVariants.{Plan as PlanLine, Apply}
use Rattle.script_text.specs.declared.event.Event.{Event}
use Rattle.script_text.specs.declared.reply.Reply.{Reply}
use Rattle.script_text.specs.declared.reply.Reply.TheVariants.{OkNumber, NoRemote, NoTable, PlanOpen, IdBusy, NoPlan, Already}
use Rattle.script_text.specs.History.{Entry}
use Rattle.node_model.specs.Names.{NodeName, AtRemote, AtRelay, AtGnb, is_port, is_remote, is_of, owner, node_of}
use Rattle.node_model.specs.Opening.{new_entity, attachments}
use Rattle.node_model.specs.State.{PortSide, Node, side_at, entity_of, no_node}
use Rattle.node_model.specs.Switching.{side_after, node_after, node_closed}
use Rattle.node_model.specs.Tables.{settings, has_remote, has_path, is_open_on}
use Rattle.node_model.proofs.Finding.{find_map, find_passes}
use Rattle.node_model.proofs.Names.{remote_is, remote_refl, remote_apart, port_is, cases_node, cases_remote}
use Rattle.chain_model.specs.declared.plan.Plan.{Plan}
use Rattle.chain_model.specs.Plans.{has_applied, marks, is_open, next_plan, busy_place}
use Rattle.chain_model.specs.State.{Chain, node_at, set_node, plan_at, set_plan}
use Rattle.chain_model.specs.Lines.{Unless, or_else, open_refusal, plan_refusal, Plans, node_refusal, apply_refusal, applied_reply, closed, Applies}
use Rattle.chain_model.specs.Places.{find_node}
use Rattle.chain_model.specs.Told.{last_goal, is_kind, is_accepted, applies, epoch_at, path_at, kind_of, side_epoch}
use Rattle.chain_model.proofs.Lookups.{sets_nodes, set_here}
use Rattle.chain_law.specs.Entities.{next_epoch}
use Rattle.chain_law.proofs.Applying.{not_applied}
use Rattle.chain_law.proofs.Lines.{plan_was}
use Rattle.heard_law.specs.Telling.{has_node, of_remote}
use Rattle.heard_law.proofs.Attached.{can_attach, of_switched}
use Rattle.heard_law.proofs.Knowing.{PlanTold, told_to, Knows, knows_beside, knows_told, IsQuiet, epoch_stays, path_stays, side_epoch_stays}
use Rattle.heard_law.proofs.Standing.{epoch_of, epoch_in, ends_stay}
use Rattle.heard_law.proofs.Still.{still_map}

-- kinds that are one
kind_is : (a b : NodeKind) → is_kind a b ≡ true → a ≡ b
kind_is kinds.Remote kinds.Remote is = refl
kind_is kinds.Relay kinds.Relay is = refl
kind_is kinds.Gnb kinds.Gnb is = refl
kind_is kinds.Remote kinds.Relay is = absurd (false≢true is)
kind_is kinds.Remote kinds.Gnb is = absurd (false≢true is)
kind_is kinds.Relay kinds.Remote is = absurd (false≢true is)
kind_is kinds.Relay kinds.Gnb is = absurd (false≢true is)
kind_is kinds.Gnb kinds.Remote is = absurd (false≢true is)
kind_is kinds.Gnb kinds.Relay is = absurd (false≢true is)

kind_refl : (k : NodeKind) → is_kind k k ≡ true
kind_refl kinds.Remote = refl
kind_refl kinds.Relay = refl
kind_refl kinds.Gnb = refl

kind_of_node : (k : NodeKind) (r : Remote) → kind_of (node_of k r) ≡ k
kind_of_node kinds.Remote r = refl
kind_of_node kinds.Relay r = refl
kind_of_node kinds.Gnb r = refl

-- a node that can attach something to a remote is the remote's node of its kind
attaches_node : (t : Contents) (x : NodeName) (r : Remote) → can_attach t x r ≡ true → node_of (kind_of x) r ≡ x
attaches_node t (AtRemote q) r can = ap AtRemote (remote_is r q can)
attaches_node t AtRelay r can = refl
attaches_node t AtGnb r can = refl

-- so is the owner of a side of a remote's port
owns_node : (side : Side) (q : PortName) (r : Remote) → is_of r q ≡ true → node_of (kind_of (owner side q)) r ≡ owner side q
owns_node Low (Direct x d) r of = ap AtRemote (remote_is r x of)
owns_node High (Direct x d) r of = refl
owns_node Low (Pc5 x c) r of = ap AtRemote (remote_is r x of)
owns_node High (Pc5 x c) r of = refl
owns_node side (Uu c) r of = absurd (false≢true of)

-- the epoch in which such a side stands
epoch_of_side : (h : List Entry) (side : Side) (q : PortName) (r : Remote) → is_of r q ≡ true → side_epoch side q h ≡ epoch_at (kind_of (owner side q)) r h
epoch_of_side h side (Direct x d) r of = ap (λ (y : Remote). epoch_at (kind_of (owner side (Direct x d))) y h) (sym (remote_is r x of))
epoch_of_side h side (Pc5 x c) r of = ap (λ (y : Remote). epoch_at (kind_of (owner side (Pc5 x c))) y h) (sym (remote_is r x of))
epoch_of_side h side (Uu c) r of = absurd (false≢true of)

-- what a node that applies a plan does to the sides of a port
module _ (s : Settings) (remote : Remote) (goal : Goal) (epoch : ℕ) (n : Node) (q : PortName) where
  abbrev found : Option PortSide
  found = side_at n q

  abbrev behind : Option PortSide → Option ℕ
  behind o = option_map epoch_of (option_and_then entity_of (option_map (side_after s remote goal epoch) o))

  changed : epoch_in (node_after s remote goal epoch n) q ≡ behind found
  changed = ap (λ (o : Option PortSide). option_map epoch_of (option_and_then entity_of o)) (find_map (side_after s remote goal epoch) (λ (x : PortSide). is_port q x.name) n.ports)

  its_name : (x : PortSide) → found ≡ Some x → q ≡ x.name
  its_name x is = port_is q x.name (find_passes (λ (y : PortSide). is_port q y.name) n.ports x is)

  -- a side of the remote's own that is open now is in the plan's epoch
  own_epoch : is_of remote q ≡ true → (e : ℕ) → epoch_in (node_after s remote goal epoch n) q ≡ Some e → e ≡ epoch
  own_epoch of e is = by found refl
    where
      opens : (b : Bool) (size : _) → option_map epoch_of (cond b (Some (new_entity s size epoch)) None) ≡ Some e → e ≡ epoch
      opens true size e_is = sym (same_Some epoch e e_is)
      opens false size e_is = absurd (none-some e e_is)

      by : (o : Option PortSide) → found ≡ o → e ≡ epoch
      by None at = absurd (none-some e (sym (changed ∙ ap behind at) ∙ is))
      by (Some x) at =
          let mine : is_of remote x.name ≡ true = ap (is_of remote) (sym (its_name x at)) ∙ of in
          opens (is_open_on goal x.name) x.size
          (sym (ap (λ (b : Bool). option_map epoch_of (cond b (cond (is_open_on goal x.name) (Some (new_entity s x.size epoch)) None) x.entity)) mine)
          ∙ sym (changed ∙ ap behind at) ∙ is)

  -- any other is in the epoch in which it was
  other_epoch : is_of remote q ≡ false → epoch_in (node_after s remote goal epoch n) q ≡ epoch_in n q
  other_epoch of = changed ∙ by found refl
    where
      by : (o : Option PortSide) → found ≡ o → behind o ≡ option_map epoch_of (option_and_then entity_of o)
      by None at = refl
      by (Some x) at = ap (λ (b : Bool). option_map epoch_of (cond b (cond (is_open_on goal x.name) (Some (new_entity s x.size epoch)) None) x.entity)) (ap (is_of remote) (sym (its_name x at)) ∙ of)

-- a plan that is marked
marked_remote : (p : Plan) (k : NodeKind) → (marks p k).remote ≡ p.remote
marked_remote p kinds.Remote = refl
marked_remote p kinds.Relay = refl
marked_remote p kinds.Gnb = refl

marked_goal : (p : Plan) (k : NodeKind) → (marks p k).goal ≡ p.goal
marked_goal p kinds.Remote = refl
marked_goal p kinds.Relay = refl
marked_goal p kinds.Gnb = refl

marked_epoch : (p : Plan) (k : NodeKind) → next_epoch (marks p k) k ≡ p.epoch + 1
marked_epoch p kinds.Remote = refl
marked_epoch p kinds.Relay = refl
marked_epoch p kinds.Gnb = refl

marked_other : (p : Plan) (k other : NodeKind) → is_kind other k ≡ false → next_epoch (marks p k) other ≡ next_epoch p other
marked_other p kinds.Remote kinds.Remote ne = absurd (true≢false ne)
marked_other p kinds.Remote kinds.Relay ne = refl
marked_other p kinds.Remote kinds.Gnb ne = refl
marked_other p kinds.Relay kinds.Remote ne = refl
marked_other p kinds.Relay kinds.Relay ne = absurd (true≢false ne)
marked_other p kinds.Relay kinds.Gnb ne = refl
marked_other p kinds.Gnb kinds.Remote ne = refl
marked_other p kinds.Gnb kinds.Relay ne = refl
marked_other p kinds.Gnb kinds.Gnb ne = absurd (true≢false ne)

applied_accepted : (k : NodeKind) (r : Remote) (n : Node) → is_accepted (applied_reply k r n) ≡ true
applied_accepted kinds.Remote r n = refl
applied_accepted kinds.Relay r n = refl
applied_accepted kinds.Gnb r n = refl

-- an apply that isn't refused is of a remote of the tables
known_remote : (c : Chain) (remote : Remote) (kind : NodeKind) → apply_refusal c remote kind ≡ None → has_remote c.tables remote ≡ true
known_remote c remote kind = by (has_remote c.tables remote)
  where
    by : (b : Bool) → cond (not b) (Some NoRemote) (node_refusal (plan_at c remote) kind) ≡ None → b ≡ true
    by true none = refl
    by false none = absurd (none-some NoRemote (sym none))

-- the chain has each node of the tables
abbrev pub HasNodes : Contents → Chain → Type 0
HasNodes t c = (x : NodeName) → has_node t x ≡ true → (n : Node) × (find_node c x ≡ Some n)

-- a node applies a plan
module _ (t : Contents) (h : List Entry) (old : Chain) (tables : old.tables ≡ t) (nodes : HasNodes t old) (k : Knows t h old) (remote : Remote) (kind : NodeKind) (own events : List Event) (reply : Reply) (new : Chain)
    (none : apply_refusal old remote kind ≡ None) (a : Applies old remote kind own reply new) where
  abbrev e : Entry
  e = record { line = Apply remote kind; events = events; reply = reply }

  abbrev y : NodeName
  y = node_of kind remote

  abbrev now : Node
  now = node_after (settings old.tables) remote a.plan.goal a.plan.epoch (node_at old y)

  abbrev mid : Chain
  mid = set_plan (set_node old now) (marks a.plan kind)

  known : has_remote t remote ≡ true
  known = ap (λ (x : Contents). has_remote x remote) (sym tables) ∙ known_remote old remote kind none

  there : (n : Node) × (find_node old y ≡ Some n)
  there = nodes y (by kind)
    where
      by : (kind : NodeKind) → has_node t (node_of kind remote) ≡ true
      by kinds.Remote = known
      by kinds.Relay = refl
      by kinds.Gnb = refl

  now_name : now.name ≡ y
  now_name = sets_nodes.named old y

  at_own : node_at mid y ≡ now
  at_own = set_here old y now there.0 refl there.1

  at_other : (x : NodeName) → (x ≡ y → ⊥) → node_at mid x ≡ node_at old x
  at_other x ne = ap (λ (o : Option Node). unwrap_or o (no_node x)) (sets_nodes.others old now x (λ is. ne (sym is ∙ now_name)))

  accepted : is_accepted reply ≡ true
  accepted = ap is_accepted a.says ∙ applied_accepted kind remote (node_at old y)

  applies_own : applies kind remote e.line e.reply ≡ true
  applies_own = and_from _ _ (remote_refl remote) (and_from _ _ (kind_refl kind) accepted)

  -- no other node applied a plan, nor this one one of another remote
  applies_other : (other : NodeKind) (r : Remote) → (node_of other r ≡ y → r ≡ remote → ⊥) → applies other r e.line e.reply ≡ false
  applies_other other r ne = elim (cases_Bool (applies other r e.line e.reply)) [
    | inr no_apply ↦ no_apply
    | inl is ↦
        let parts = and_parts _ _ is in
        let same = remote_is r remote parts.0 in
        absurd (ne (ap (λ (q : Remote). node_of other q) same ∙ ap (λ (o : NodeKind). node_of o remote) (kind_is other kind (and_parts _ _ parts.1).0)) same)
  ]

  plan_told : PlanTold t h remote a.plan
  plan_told = k.plans remote a.plan a.its

  not_yet : epoch_at kind remote h + 1 ≡ a.plan.epoch
  not_yet = plan_told.epochs kind ∙ cond-false (has_applied a.plan kind) (a.plan.epoch + 1) a.plan.epoch (not_applied old remote kind a.plan a.its none)

  own_epoch_now : epoch_at kind remote (e ∷ h) ≡ a.plan.epoch
  own_epoch_now = cond-true (applies kind remote e.line e.reply) (epoch_at kind remote h + 1) (epoch_at kind remote h) applies_own ∙ not_yet

  own_path_now : path_at t kind remote (e ∷ h) ≡ a.plan.goal
  own_path_now = cond-true (applies kind remote e.line e.reply) (last_goal t remote h) (path_at t kind remote h) applies_own ∙ sym plan_told.goal

  plans_now : (r : Remote) (p : Plan) → plan_at mid r ≡ Some p → PlanTold t (e ∷ h) r p
  plans_now r p is = elim (plan_was (set_node old now) remote a.plan (marks a.plan kind) a.its (marked_remote a.plan kind) r p is) [
    | inl this ↦ subst (λ (x : Plan). PlanTold t (e ∷ h) r x) (sym this.1) (subst (λ (x : Remote). PlanTold t (e ∷ h) x (marks a.plan kind)) (sym this.0) (record {
      goal = marked_goal a.plan kind ∙ plan_told.goal;
      epochs = λ other. elim (cases_Bool (is_kind other kind)) [
        | inl same ↦ subst (λ (o : NodeKind). epoch_at o remote (e ∷ h) + 1 ≡ next_epoch (marks a.plan kind) o) (sym (kind_is other kind same)) (ap (λ (n : ℕ). n + 1) own_epoch_now ∙ sym (marked_epoch a.plan kind))
        | inr ne ↦ ap (λ (n : ℕ). n + 1) (epoch_stays t h e other remote (ap (λ (b : Bool). is_remote remote remote && (b && is_accepted reply)) ne ∙ ap (λ (b : Bool). b && false) (remote_refl remote)))
            ∙ plan_told.epochs other ∙ sym (marked_other a.plan kind other ne)
      ];
    }))
    | inr other ↦
        let was = k.plans r p other.1 in record {
          goal = was.goal;
          epochs = λ kd. ap (λ (n : ℕ). n + 1) (epoch_stays t h e kd r (applies_other kd r (λ x same. other.0 same))) ∙ was.epochs kd;
        }
  ]

  -- what is told of a node and a remote where the node didn't apply a plan of the remote
  same_told : (x : NodeName) (r : Remote) → (x ≡ y → r ≡ remote → ⊥) → told_to t x r (e ∷ h) ≡ told_to t x r h
  same_told x r ne = elim (cases_Bool (can_attach t x r)) [
    | inl can ↦ ap (λ (g : Goal). cond (can_attach t x r) (attachments r g) []) (path_stays t h e (kind_of x) r (applies_other (kind_of x) r (λ is same. ne (sym (attaches_node t x r can) ∙ is) same)))
    | inr not_can ↦ cond-false (can_attach t x r) (attachments r (path_at t (kind_of x) r (e ∷ h))) [] not_can ∙ sym (cond-false (can_attach t x r) (attachments r (path_at t (kind_of x) r h)) [] not_can)
  ]

  can_own : can_attach t y remote ≡ true
  can_own = by kind
    where
      by : (kind : NodeKind) → can_attach t (node_of kind remote) remote ≡ true
      by kinds.Remote = remote_refl remote
      by kinds.Relay = known
      by kinds.Gnb = known

  attached_own : has_node t y ≡ true → (r : Remote) → of_remote r (node_at mid y).attached ≡ told_to t y r (e ∷ h)
  attached_own has r = ap (λ (n : Node). of_remote r n.attached) at_own ∙ of_switched r remote a.plan.goal (node_at old y).attached ∙ elim (cases_remote r remote) [
    | inl same ↦ subst (λ (x : Remote). cond (is_remote x remote) (attachments x a.plan.goal) (of_remote x (node_at old y).attached) ≡ told_to t y x (e ∷ h)) (sym same)
        (cond-true (is_remote remote remote) (attachments remote a.plan.goal) (of_remote remote (node_at old y).attached) (remote_refl remote)
        ∙ ap (attachments remote) (sym own_path_now) ∙ ap (λ (o : NodeKind). attachments remote (path_at t o remote (e ∷ h))) (sym (kind_of_node kind remote))
        ∙ sym (cond-true (can_attach t y remote) (attachments remote (path_at t (kind_of y) remote (e ∷ h))) [] can_own))
    | inr ne ↦ cond-false (is_remote r remote) (attachments r a.plan.goal) (of_remote r (node_at old y).attached) (remote_apart r remote ne) ∙ k.attached y has r ∙ sym (same_told y r (λ is same. ne same))
  ]

  attached_now : (x : NodeName) → has_node t x ≡ true → (r : Remote) → of_remote r (node_at mid x).attached ≡ told_to t x r (e ∷ h)
  attached_now x has r = elim (cases_node x y) [
    | inl is ↦ subst (λ (z : NodeName). of_remote r (node_at mid z).attached ≡ told_to t z r (e ∷ h)) (sym is) (attached_own (ap (has_node t) (sym is) ∙ has) r)
    | inr ne ↦ ap (λ (n : Node). of_remote r n.attached) (at_other x ne) ∙ k.attached x has r ∙ sym (same_told x r (λ is same. ne is))
  ]

  -- a side is in the epoch in which it was, where its node didn't apply a plan of its remote
  epochs_same : (side : Side) (q : PortName) (n : ℕ) → (owner side q ≡ y → is_of remote q ≡ true → ⊥) → epoch_in (node_at old (owner side q)) q ≡ Some n
      → n ≡ side_epoch side q (e ∷ h)
  epochs_same side q n ne is = k.epochs side q n is ∙ sym (side_epoch_stays h e side q (λ r of. applies_other (kind_of (owner side q)) r
      (λ at same. ne (sym (owns_node side q r of) ∙ at) (ap (λ (x : Remote). is_of x q) (sym same) ∙ of))))

  epochs_now : (side : Side) (q : PortName) (n : ℕ) → epoch_in (node_at mid (owner side q)) q ≡ Some n → n ≡ side_epoch side q (e ∷ h)
  epochs_now side q n is = elim (cases_node (owner side q) y) [
    | inr ne ↦ epochs_same side q n (λ at of. ne at) (sym (ap (λ (m : Node). epoch_in m q) (at_other (owner side q) ne)) ∙ is)
    | inl at ↦
        let here : epoch_in now q ≡ Some n = sym (ap (λ (x : NodeName). epoch_in (node_at mid x) q) at ∙ ap (λ (m : Node). epoch_in m q) at_own) ∙ is in
        elim (cases_Bool (is_of remote q)) [
          | inl of ↦
              own_epoch (settings old.tables) remote a.plan.goal a.plan.epoch (node_at old y) q of n here ∙ sym own_epoch_now
              ∙ ap (λ (o : NodeKind). epoch_at o remote (e ∷ h)) (sym (kind_of_node kind remote) ∙ ap kind_of (sym at)) ∙ sym (epoch_of_side (e ∷ h) side q remote of)
          | inr of ↦ epochs_same side q n (λ x mine. true≢false (sym mine ∙ of))
              (ap (λ (x : NodeName). epoch_in (node_at old x) q) at ∙ sym (other_epoch (settings old.tables) remote a.plan.goal a.plan.epoch (node_at old y) q of) ∙ here)
        ]
  ]

  pub applied_knows : Knows t (e ∷ h) new
  applied_knows = subst (Knows t (e ∷ h)) (sym a.is) (close (is_open (marks a.plan kind)))
    where
      marked : Knows t (e ∷ h) mid
      marked = record { plans = plans_now; attached = attached_now; epochs = epochs_now }

      close : (b : Bool) → Knows t (e ∷ h) (closed remote b mid)
      close true = marked
      close false = knows_beside mid (record mid { nodes = map (node_closed remote) mid.nodes }) refl (still_map mid (node_closed remote) (λ n. ends_stay n (node_closed remote n) refl refl refl)) marked

-- a plan is opened
last_closed : (c : Chain) (remote : Remote) (goal : Goal) (last : Plan) → plan_at c remote ≡ Some last → plan_refusal c remote goal ≡ None → is_open last ≡ false
last_closed c remote goal last its none = first (not (has_remote c.tables remote)) none
  where
    opened : (b : Bool) (rest : Option Reply) → is_open last ≡ b → or_else (cond b (Some (PlanOpen last.remote)) None) rest ≡ None → is_open last ≡ false
    opened true rest is e = absurd (none-some _ (sym e))
    opened false rest is e = is

    first : (b : Bool) → cond b (Some NoRemote) (or_else (open_refusal (plan_at c remote)) (cond (not (has_path c.tables remote goal)) (Some NoTable) (option_map (λ place. IdBusy place) (busy_place c goal)))) ≡ None → is_open last ≡ false
    first true e = absurd (none-some _ (sym e))
    first false e = opened (is_open last) _ refl (ap (λ (p : Option Plan). or_else (open_refusal p) (cond (not (has_path c.tables remote goal)) (Some NoTable) (option_map (λ place. IdBusy place) (busy_place c goal)))) (sym its) ∙ e)

-- each node has applied a plan that is closed
all_applied : (p : Plan) → is_open p ≡ false → (k : NodeKind) → next_epoch p k ≡ p.epoch + 1
all_applied p shut = by p.at_remote p.at_relay p.at_gnb refl refl refl shut
  where
    by : (a b c : Bool) → p.at_remote ≡ a → p.at_relay ≡ b → p.at_gnb ≡ c → not (a && (b && c)) ≡ false → (k : NodeKind) → next_epoch p k ≡ p.epoch + 1
    by true true true x y z e kinds.Remote = cond-true p.at_remote (p.epoch + 1) p.epoch x
    by true true true x y z e kinds.Relay = cond-true p.at_relay (p.epoch + 1) p.epoch y
    by true true true x y z e kinds.Gnb = cond-true p.at_gnb (p.epoch + 1) p.epoch z
    by false b c x y z e k = absurd (true≢false e)
    by true false c x y z e k = absurd (true≢false e)
    by true true false x y z e k = absurd (true≢false e)

next_none : (p : Plan) (goal : Goal) (k : NodeKind) → next_epoch (next_plan p goal) k ≡ p.epoch + 1
next_none p goal kinds.Remote = refl
next_none p goal kinds.Relay = refl
next_none p goal kinds.Gnb = refl

pub planned_knows : (t : Contents) (h : List Entry) (old : Chain) → Knows t h old → (remote : Remote) (goal : Goal) (own events : List Event) (reply : Reply) (new : Chain)
    → plan_refusal old remote goal ≡ None → Plans old remote goal own reply new → Knows t (record { line = PlanLine remote goal; events = events; reply = reply } ∷ h) new
planned_knows t h old k remote goal own events reply new none p = subst (λ (r : Reply). Knows t (record { line = PlanLine remote goal; events = events; reply = r } ∷ h) new) (sym p.says)
    (subst (Knows t (e ∷ h)) (sym p.is) (record {
      plans = λ r q is. elim (plan_was old remote p.last (next_plan p.last goal) p.its refl r q is) [
        | inl this ↦ subst (λ (x : Plan). PlanTold t (e ∷ h) r x) (sym this.1) (subst (λ (x : Remote). PlanTold t (e ∷ h) x (next_plan p.last goal)) (sym this.0) (record {
          goal = sym (cond-true (is_remote remote remote) goal (last_goal t remote h) (remote_refl remote));
          epochs = λ kd. last_told.epochs kd ∙ all_applied p.last shut kd ∙ sym (next_none p.last goal kd);
        }))
        | inr other ↦
            let was = k.plans r q other.1 in record {
              goal = was.goal ∙ sym (cond-false (is_remote r remote) goal (last_goal t r h) (remote_apart r remote other.0));
              epochs = was.epochs;
            }
      ];
      attached = k.attached;
      epochs = λ side q n is. k.epochs side q n is ∙ sym (side_epoch_stays h e side q (λ r of. refl));
    }))
  where
    e : Entry
    e = record { line = PlanLine remote goal; events = events; reply = OkNumber (next_plan p.last goal).epoch }

    last_told : PlanTold t h remote p.last
    last_told = k.plans remote p.last p.its

    shut : is_open p.last ≡ false
    shut = last_closed old remote goal p.last p.its none

-- a line that is refused is quiet
refused_plan : (c : Chain) (remote : Remote) (goal : Goal) (r : Reply) → plan_refusal c remote goal ≡ Some r → IsQuiet (PlanLine remote goal) r
refused_plan c remote goal r = first (not (has_remote c.tables remote)) (plan_at c remote) (not (has_path c.tables remote goal)) (busy_place c goal)
  where
    says : (x : Reply) → IsQuiet (PlanLine remote goal) x → Some x ≡ Some r → IsQuiet (PlanLine remote goal) r
    says x quiet e = subst (IsQuiet (PlanLine remote goal)) (same_Some x r e) quiet

    rest : (b : Bool) (place : Option _) → cond b (Some NoTable) (option_map (λ place. IdBusy place) place) ≡ Some r → IsQuiet (PlanLine remote goal) r
    rest true place e = says NoTable (record { plans = λ r g. refl; applies_none = λ k r. refl }) e
    rest false None e = absurd (none-some r e)
    rest false (Some place) e = says (IdBusy place) (record { plans = λ r g. refl; applies_none = λ k r. refl }) e

    opened : (x : Bool) (p : Plan) (b : Bool) (place : Option _)
        → or_else (cond x (Some (PlanOpen p.remote)) None) (cond b (Some NoTable) (option_map (λ place. IdBusy place) place)) ≡ Some r → IsQuiet (PlanLine remote goal) r
    opened true p b place e = says (PlanOpen p.remote) (record { plans = λ r g. refl; applies_none = λ k r. refl }) e
    opened false p b place e = rest b place e

    first : (a : Bool) (p : Option Plan) (b : Bool) (place : Option _)
        → cond a (Some NoRemote) (or_else (open_refusal p) (cond b (Some NoTable) (option_map (λ place. IdBusy place) place))) ≡ Some r → IsQuiet (PlanLine remote goal) r
    first true p b place e = says NoRemote (record { plans = λ r g. refl; applies_none = λ k r. refl }) e
    first false None b place e = rest b place e
    first false (Some p) b place e = opened (is_open p) p b place e

refused_apply : (c : Chain) (remote : Remote) (kind : NodeKind) (r : Reply) → apply_refusal c remote kind ≡ Some r → IsQuiet (Apply remote kind) r
refused_apply c remote kind r = first (not (has_remote c.tables remote)) (plan_at c remote)
  where
    -- a reply that doesn't accept
    says : (x : Reply) → is_accepted x ≡ false → Some x ≡ Some r → IsQuiet (Apply remote kind) r
    says x refused e = record {
      plans = λ q g. refl;
      applies_none = λ k q. ap (λ (b : Bool). is_remote q remote && (is_kind k kind && b)) (ap is_accepted (sym (same_Some x r e)) ∙ refused) ∙ none (is_remote q remote) (is_kind k kind);
    }
      where
        none : (a b : Bool) → (a && (b && false)) ≡ false
        none true true = refl
        none true false = refl
        none false b = refl

    last : (b : Bool) → cond b (Some Already) None ≡ Some r → IsQuiet (Apply remote kind) r
    last true e = says Already refl e
    last false e = absurd (none-some r e)

    second : (a b : Bool) → cond a (Some NoPlan) (cond b (Some Already) None) ≡ Some r → IsQuiet (Apply remote kind) r
    second true b e = says NoPlan refl e
    second false b e = last b e

    first : (a : Bool) (p : Option Plan) → cond a (Some NoRemote) (node_refusal p kind) ≡ Some r → IsQuiet (Apply remote kind) r
    first true p e = says NoRemote refl e
    first false None e = says NoPlan refl e
    first false (Some p) e = second (not (is_open p)) (has_applied p kind) e

pub plan_knows : (t : Contents) (h : List Entry) (old : Chain) → Knows t h old → (remote : Remote) (goal : Goal) (own events : List Event) (reply : Reply) (new : Chain)
    → Unless (plan_refusal old remote goal) old own reply new (Plans old remote goal own reply new) → Knows t (record { line = PlanLine remote goal; events = events; reply = reply } ∷ h) new
plan_knows t h old k remote goal own events reply new = by (plan_refusal old remote goal) refl
  where
    by : (o : Option Reply) → plan_refusal old remote goal ≡ o → Unless o old own reply new (Plans old remote goal own reply new)
        → Knows t (record { line = PlanLine remote goal; events = events; reply = reply } ∷ h) new
    by None is p = planned_knows t h old k remote goal own events reply new is p
    by (Some r) is u = subst (Knows t (record { line = PlanLine remote goal; events = events; reply = reply } ∷ h)) (sym u.2)
        (knows_told (record { line = PlanLine remote goal; events = events; reply = reply }) (subst (IsQuiet (PlanLine remote goal)) (sym u.1) (refused_plan old remote goal r is)) k)

pub apply_knows : (t : Contents) (h : List Entry) (old : Chain) → old.tables ≡ t → HasNodes t old → Knows t h old
    → (remote : Remote) (kind : NodeKind) (own events : List Event) (reply : Reply) (new : Chain)
    → Unless (apply_refusal old remote kind) old own reply new (Applies old remote kind own reply new) → Knows t (record { line = Apply remote kind; events = events; reply = reply } ∷ h) new
apply_knows t h old tables nodes k remote kind own events reply new = by (apply_refusal old remote kind) refl
  where
    by : (o : Option Reply) → apply_refusal old remote kind ≡ o → Unless o old own reply new (Applies old remote kind own reply new)
        → Knows t (record { line = Apply remote kind; events = events; reply = reply } ∷ h) new
    by None is a = applied_knows t h old tables nodes k remote kind own events reply new is a
    by (Some r) is u = subst (Knows t (record { line = Apply remote kind; events = events; reply = reply } ∷ h)) (sym u.2)
        (knows_told (record { line = Apply remote kind; events = events; reply = reply }) (subst (IsQuiet (Apply remote kind)) (sym u.1) (refused_apply old remote kind r is)) k)
