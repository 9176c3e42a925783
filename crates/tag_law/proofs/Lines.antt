-- Each line keeps what each step of a node keeps, at the ends.
use Rattle.std.proofs.Common.{◌≡◌, ◌⊎◌, inl, inr, ℕ, Bool, true, false, cond, List, [], ◌∷◌, map, find, Option, Some, None, option_map, unwrap_or, refl, sym, ◌∙◌, ap, subst}
use Rattle.std.proofs.lemmas.Bool.{cases_Bool, cond-true, cond-false}
use Rattle.link_base.specs.declared.names.Drb.{Drb}
use Rattle.link_base.specs.declared.names.Goal.{Goal}
use Rattle.link_base.specs.declared.names.Key.{Key}
use Rattle.link_base.specs.declared.names.Node.{Node as NodeKind}
use Rattle.link_base.specs.declared.names.PortName.{PortName}
use Rattle.link_base.specs.declared.names.PortName.TheVariants.{Direct}
use Rattle.link_base.specs.declared.names.Remote.{Remote}
use Rattle.link_base.specs.declared.names.Side.{Side}
use Rattle.link_base.specs.declared.names.Side.TheVariants.{Low, High}
use Rattle.link_base.specs.declared.names.Timer.{Timer}
use Rattle.link_base.specs.declared.names.Way.{Way}
use Rattle.link_base.specs.declared.rlc_words.Expired.{Expired}
use Rattle.bearer_map.specs.declared.settings.Settings.{Settings}
use Rattle.bearer_map.specs.Contents.{Contents}
use Rattle.rlc_model.specs.declared.hop.HopGrant.{HopGrant}
use Rattle.rlc_model.specs.declared.hop.HopGrant.TheVariants as grants
use Rattle.rlc_model.specs.declared.hop.Pdu.{Pdu}
use Rattle.rlc_model.specs.Hop.{on_air}
use Rattle.rlc_model.specs.Sides.{sender_of, hearer_of}
use Rattle.pdcp_model.specs.declared.answers.SubmitFault.{SubmitFault}
use Rattle.pdcp_model.specs.Sender.{submit_fault, accepts}
use Rattle.script_text.specs.declared.event.Event.{Event}
use Rattle.script_text.specs.declared.line.Line.{Line}
use Rattle.script_text.specs.declared.line.Line.TheVariants.{Submit, Grant, Deliver, Repeat, Lose, Stage, Expire, Push, Pull, Burst, Report, Plan as PlanLine, Apply}
use Rattle.script_text.specs.declared.reply.Reply.{Reply}
use Rattle.node_model.specs.declared.answers.NodeHeard.{NodeHeard}
use Rattle.node_model.specs.Feeding.{Feeds}
use Rattle.node_model.specs.Hearing.{HearsPdu}
use Rattle.node_model.specs.Names.{NodeName, AtRemote, AtRelay, AtGnb, is_node, node_of, owner, source, sink}
use Rattle.node_model.specs.Sides.{GrantsSide, ExpiresSide}
use Rattle.node_model.specs.State.{Incoming, Node, Outgoing, no_node, outgoing, set_incoming, set_outgoing}
use Rattle.node_model.specs.Relaying.{PushesPort, PullsPort}
use Rattle.node_model.specs.Switching.{node_after, node_closed}
use Rattle.node_model.specs.declared.answers.PullReply.{PullReply}
use Rattle.node_model.specs.declared.answers.PullReply.TheVariants as pulled
use Rattle.node_model.specs.declared.answers.PushReply.{PushReply}
use Rattle.node_model.specs.declared.answers.PushReply.TheVariants as pushed
use Rattle.node_model.specs.Tables.{settings}
use Rattle.node_model.proofs.Finding.{find_map, find_none}
use Rattle.node_model.proofs.Names.{cases_node}
use Rattle.chain_model.proofs.Lookups.{cases_found}
use Rattle.chain_model.specs.Lines.{Unless, submit_refusal, Submits, grant_refusal, Granted, Sends, Comes, Delivers, without, Loses, stage_refusal, Stages}
use Rattle.chain_model.specs.Lines.{expire_refusal, Expires, report_refusal, Wants, plan_refusal, Plans, apply_refusal, Applies, closed, is_handed_over, queue_capacity}
use Rattle.chain_model.specs.Plans.{is_open, marks}
use Rattle.chain_model.specs.State.{Chain, opened, node_at, set_node, set_plan, sender_at}
use Rattle.chain_model.specs.Bursts.{behind_egress}
use Rattle.chain_model.specs.Steps.{Does, FeedsAll, Step}
use Rattle.chain_law.specs.Laws.{ComesUp}
use Rattle.chain_law.proofs.Runs.{comes_keep}
use Rattle.chain_law.proofs.Tables.{TablesApart}
use Rattle.chain_law.proofs.Chains.{node_in, node_name, node_set, node_kept}
use Rattle.direct_run_law.proofs.Feeding.{feeds_rests}
use Rattle.tag_law.proofs.Nodes.{heard_same}

-- what holds of a node of each name holds of each end
abbrev pub EndsHave : (NodeName → Node → Type 0) → Chain → Type 0
EndsHave P c = (x : NodeName) → (x ≡ AtRelay → ⊥) → P x (node_at c x)

-- a direct port has no side at the relay
abbrev IsAtRelay : NodeName → Type 0
IsAtRelay AtRelay = Unit {0}
IsAtRelay AtGnb = ⊥
IsAtRelay (AtRemote r) = ⊥

pub not_relay : (side : Side) (remote : Remote) (drb : Drb) → owner side (Direct remote drb) ≡ AtRelay → ⊥
not_relay Low remote drb e = subst IsAtRelay (sym e) tt
not_relay High remote drb e = subst IsAtRelay (sym e) tt

-- a node keeps it at each of its steps
pub record NodeSteps (P : NodeName → Node → Type 0) : Type 0 where
  pub submit : (x : NodeName) (n : Node) (key : Key) (sdu : List ℕ) → P x n → P x (set_outgoing n (record (outgoing n key) { sender = accepts (outgoing n key).sender sdu }))
  pub grant : (x : NodeName) (old : Node) (port : PortName) (octets epoch : ℕ) (answer : HopGrant) (new : Node) → GrantsSide old port octets epoch answer new → P x old → P x new
  pub expire : (x : NodeName) (old : Node) (port : PortName) (timer : Timer) (expired : Expired) (new : Node) → ExpiresSide old port timer expired new → P x old → P x new
  pub hear : (x : NodeName) (t : Contents) (old : Node) (at : Side) (pdu : Pdu) (answer : NodeHeard) (new : Node) → HearsPdu t old at pdu answer new → P x old → P x new
  pub receive : (x : NodeName) (n : Node) (i : Incoming) → P x n → P x (set_incoming n i)
  pub apply : (x : NodeName) (s : Settings) (remote : Remote) (goal : Goal) (epoch : ℕ) (n : Node) → P x n → P x (node_after s remote goal epoch n)
  pub close : (x : NodeName) (remote : Remote) (n : Node) → P x n → P x (node_closed remote n)
  pub feed : (x : NodeName) (t : Contents) (old : Node) (given : List Key) (new : Node) → Feeds t old given new → P x old → P x new

-- what holds of each end holds of each behind a line
module _ (P : NodeName → Node → Type 0) (steps : NodeSteps P) where
  abbrev Ends : Chain → Type 0
  Ends = EndsHave P

  same_have : (x : NodeName) (old new : Node) → new ≡ old → P x old → P x new
  same_have x old new is has = subst (P x) (sym is) has

  -- the same nodes
  nodes_have : (old new : Chain) → new.nodes ≡ old.nodes → Ends old → Ends new
  nodes_have old new same has x end = subst (λ (ns : List Node). P x (node_in ns x)) (sym same) (has x end)

  chain_has : (old new : Chain) → new ≡ old → Ends old → Ends new
  chain_has old new is has = subst Ends (sym is) has

  -- a node is set which has it, or which is the relay
  set_have : (c : Chain) (y : NodeName) (m : Node) → m.name ≡ y → ((y ≡ AtRelay → ⊥) → P y m) → Ends c → Ends (set_node c m)
  set_have c y m name mine has x end = elim (cases_node x y) [
    | inr ne ↦ same_have x (node_at c x) (node_at (set_node c m) x) (node_kept c y m name x ne) (has x end)
    | inl this ↦ subst (λ (z : NodeName). (z ≡ AtRelay → ⊥) → P z (node_at (set_node c m) z)) (sym this) (λ apart. elim
        (cases_found (find (λ (n : Node). is_node y n.name) c.nodes)) [
          | inl there ↦ same_have y m (node_at (set_node c m) y) (node_set c y m name there.0 there.1) (mine apart)
          | inr none ↦ nodes_have c (set_node c m) (find_none (λ (n : Node). is_node m.name n.name) m c.nodes
              (ap (λ (z : NodeName). find (λ (n : Node). is_node z n.name) c.nodes) name ∙ none)) has y apart
        ]) end
  ]

  module _ (old : Chain) (has : Ends old) where
    unless_have : (refusal : Option Reply) (events : List Event) (reply : Reply) (new : Chain) (done : Type 0) → (done → Ends new)
        → Unless refusal old events reply new done → Ends new
    unless_have (Some refusal) events reply new done keeps u = chain_has old new u.2 has
    unless_have None events reply new done keeps u = keeps u

    submits_have : (fault : Option SubmitFault) (key : Key) (sdu : List ℕ) (events : List Event) (reply : Reply) (new : Chain) → Submits fault old key sdu events reply new
        → Ends new
    submits_have (Some fault) key sdu events reply new s = chain_has old new s.2 has
    submits_have None key sdu events reply new s =
        let n = node_at old (source key) in
        let o : Outgoing = record (outgoing n key) { sender = accepts (outgoing n key).sender sdu } in
        subst Ends (sym s.2) (set_have old (source key) (set_outgoing n o) (node_name old (source key))
        (λ end. steps.submit (source key) n key sdu (has (source key) end)) has)

    sends_have : (node : Node) (port : PortName) (way : Way) (epoch : ℕ) (answer : HopGrant) (reply : Reply) (new : Chain) → Ends (set_node old node)
        → Sends old node port way epoch answer reply new → Ends new
    sends_have node port way epoch (grants.Sent status number bytes) reply new set s = nodes_have (set_node old node) new (ap (λ (c : Chain). c.nodes) s.1) set
    sends_have node port way epoch grants.Idle reply new set s = chain_has old new s.1 has
    sends_have node port way epoch (grants.Small need) reply new set s = chain_has old new s.1 has

    granted : (port : PortName) (way : Way) (octets : ℕ) (events : List Event) (reply : Reply) (new : Chain) → Granted old port way octets events reply new → Ends new
    granted port way octets events reply new g =
        let y = owner (sender_of way) port in
        sends_have g.node port way g.epoch g.answer reply new
        (set_have old y g.node (ap (λ (m : Node). m.name) g.grants.is ∙ node_name old y)
        (λ end. steps.grant y (node_at old y) port octets g.epoch g.answer g.node g.grants (has y end)) has) g.sends

    comes_have : (pdu : Pdu) (events : List Event) (reply : Reply) (new : Chain) (behind : Chain → Chain) → ((c : Chain) → Ends c → Ends (behind c))
        → Comes old pdu events reply new behind → Ends new
    comes_have pdu events reply new behind stays c = subst Ends (sym c.is) (by (is_handed_over c.answer))
      where
        y : NodeName
        y = owner (hearer_of pdu.way) pdu.port

        by : (b : Bool) → Ends (cond b (behind (set_node old c.node)) old)
        by true = stays (set_node old c.node) (set_have old y c.node ((heard_same old.tables (node_at old y) (hearer_of pdu.way) pdu c.answer c.node c.hears).name
            ∙ node_name old y)
            (λ end. steps.hear y old.tables (node_at old y) (hearer_of pdu.way) pdu c.answer c.node c.hears (has y end)) has)
        by false = has

    delivers_have : (o : Option Pdu) (events : List Event) (reply : Reply) (new : Chain) (behind : Chain → Chain) → ((c : Chain) → Ends c → Ends (behind c))
        → Delivers old o events reply new behind → Ends new
    delivers_have None events reply new behind stays d = chain_has old new d.2 has
    delivers_have (Some pdu) events reply new behind stays d = comes_have pdu events reply new behind stays d

    loses_have : (o : Option Pdu) (ticket : ℕ) (events : List Event) (reply : Reply) (new : Chain) → Loses old o ticket events reply new → Ends new
    loses_have None ticket events reply new l = chain_has old new l.2 has
    loses_have (Some pdu) ticket events reply new l = nodes_have old new (ap (λ (c : Chain). c.nodes) l.2) has

    -- the relay may change as it likes
    relay_have : (m : Node) (new : Chain) → m.name ≡ AtRelay → new.nodes ≡ (set_node old m).nodes → Ends new
    relay_have m new name same = nodes_have (set_node old m) new same (set_have old AtRelay m name (λ end. absurd (end refl)) has)

    -- nodes learn that a plan is closed
    closed_have : (remote : Remote) (b : Bool) (c : Chain) → Ends c → Ends (closed remote b c)
    closed_have remote true c has x end = has x end
    closed_have remote false c has x end =
        same_have x (by (find (λ (n : Node). is_node x n.name) c.nodes)) (node_at (closed remote false c) x)
        (ap (λ (o : Option Node). unwrap_or o (no_node x)) (find_map (node_closed remote) (λ (n : Node). is_node x n.name) c.nodes)) (alike (find
        (λ (n : Node). is_node x n.name) c.nodes) (has x end))
      where
        by : Option Node → Node
        by o = unwrap_or (option_map (node_closed remote) o) (no_node x)

        alike : (o : Option Node) → P x (unwrap_or o (no_node x)) → P x (by o)
        alike None had = had
        alike (Some n) had = steps.close x remote n had

    applies_have : (remote : Remote) (kind : NodeKind) (events : List Event) (reply : Reply) (new : Chain) → Applies old remote kind events reply new → Ends new
    applies_have remote kind events reply new a =
        let y = node_of kind remote in
        let m = node_after (settings old.tables) remote a.plan.goal a.plan.epoch (node_at old y) in
        let set = set_have old y m (node_name old y) (λ end. steps.apply y (settings old.tables) remote a.plan.goal a.plan.epoch (node_at old y) (has y end)) has in
        subst Ends (sym a.is) (closed_have remote (is_open (marks a.plan kind)) (set_plan (set_node old m) (marks a.plan kind)) (nodes_have (set_node old m) (set_plan
        (set_node old m) (marks a.plan kind)) refl set))

    -- whatever a line does before the nodes feed
    pub does_have : (line : Line) (events : List Event) (reply : Reply) (new : Chain) → Does old line events reply new → Ends new
    does_have (Submit key sdu) events reply new d = unless_have (submit_refusal old key) events reply new _ (submits_have (submit_fault
        (sender_at old key) sdu) key sdu events reply new) d
    does_have (Grant port way octets) events reply new d = unless_have (grant_refusal old port way) events reply new _ (granted port way octets events reply new) d
    does_have (Deliver ticket) events reply new d = delivers_have (on_air old.air ticket) events reply new (without ticket) (λ c has. nodes_have c (without ticket c) refl has) d
    does_have (Repeat ticket) events reply new d = delivers_have (on_air old.air ticket) events reply new (λ c. c) (λ c has. has) d
    does_have (Lose ticket) events reply new d = loses_have (on_air old.air ticket) ticket events reply new d
    does_have (Stage ticket) events reply new d = unless_have (stage_refusal (on_air old.air ticket)) events reply new _
        (λ (s : Stages old ticket events reply new). nodes_have old new (ap (λ (c : Chain). c.nodes) s.2) has) d
    does_have (Expire port at timer) events reply new d = unless_have (expire_refusal old port at) events reply new _
        (λ (e : Expires old port at timer events reply new).
        let y = owner at port in
        subst Ends (sym e.is) (set_have old y e.node (ap (λ (m : Node). m.name) e.expires.is ∙ node_name old y)
        (λ end. steps.expire y (node_at old y) port timer e.expired e.node e.expires (has y end)) has)) d
    does_have (Push port) events reply new d = relay_have d.node new (push_name d.answer d.pushes ∙ node_name old AtRelay) (ap (λ (c : Chain). c.nodes) d.is)
      where
        push_name : (answer : PushReply) → PushesPort (queue_capacity old) (node_at old AtRelay) port answer d.node → d.node.name ≡ (node_at old AtRelay).name
        push_name (pushed.Done egress) p = ap (λ (m : Node). m.name) p.1.is ∙ ap (λ (m : Node). m.name) p.1.empties
        push_name pushed.NoPort p = ap (λ (m : Node). m.name) p.1
        push_name pushed.Nothing p = ap (λ (m : Node). m.name) p.1
        push_name pushed.QueueFull p = ap (λ (m : Node). m.name) p.1
    does_have (Pull port) events reply new d = relay_have d.node new (pull_name d.answer d.pulls ∙ node_name old AtRelay) (ap (λ (c : Chain). c.nodes) d.is)
      where
        pull_name : (answer : PullReply) → PullsPort (node_at old AtRelay) port answer d.node → d.node.name ≡ (node_at old AtRelay).name
        pull_name (pulled.Done number) p = ap (λ (m : Node). m.name) p.1.is
        pull_name pulled.NoPort p = ap (λ (m : Node). m.name) p.1
        pull_name pulled.Empty p = ap (λ (m : Node). m.name) p.1
        pull_name pulled.Stalled p = ap (λ (m : Node). m.name) p.1
    does_have Burst events reply new d = relay_have (record (node_at old AtRelay) { ports = map behind_egress d.egresses }) new (node_name old AtRelay) (ap
        (λ (c : Chain). c.nodes) d.is)
    does_have (Report key) events reply new d = unless_have (report_refusal old key) events reply new _
        (λ (w : Wants old key events reply new). subst Ends (sym w.2)
        (set_have old (sink key) _ (node_name old (sink key)) (λ end. steps.receive (sink key) (node_at old (sink key)) _ (has (sink key) end)) has)) d
    does_have (PlanLine remote goal) events reply new d = unless_have (plan_refusal old remote goal) events reply new _
        (λ (p : Plans old remote goal events reply new). nodes_have old new (ap (λ (c : Chain). c.nodes) p.is) has) d
    does_have (Apply remote kind) events reply new d = unless_have (apply_refusal old remote kind) events reply new _ (applies_have remote kind events reply new) d
    does_have line events reply new d = absurd d

  -- all nodes feed
  fed_node : (t : Contents) (x : NodeName) (ns : List Node) (given : List Key) (ms : List Node) → FeedsAll t ns given ms → P x (node_in ns x) → P x (node_in ms x)
  fed_node t x [] given ms f has = same_have x (no_node x) (node_in ms x) (ap (λ (l : List Node). node_in l x) f.1) has
  fed_node t x (n ∷ ns) given ms (m, rest, first, more, one, others, are, is) has =
      subst (λ (l : List Node). P x (node_in l x)) (sym is) (by (cases_Bool (is_node x n.name)) (fed_node t x ns more rest others))
    where
      name : m.name ≡ n.name
      name = (feeds_rests t n first m one).same.name

      found : (n : Node) (ns : List Node) → is_node x n.name ≡ true → node_in (n ∷ ns) x ≡ n
      found n ns p = ap (λ (o : Option Node). unwrap_or o (no_node x)) (cond-true (is_node x n.name) (Some n) (find (λ (y : Node). is_node x y.name) ns) p)

      passed : (n : Node) (ns : List Node) → is_node x n.name ≡ false → node_in (n ∷ ns) x ≡ node_in ns x
      passed n ns p = ap (λ (o : Option Node). unwrap_or o (no_node x)) (cond-false (is_node x n.name) (Some n) (find (λ (y : Node). is_node x y.name) ns) p)

      by : (is_node x n.name ≡ true) ⊎ (is_node x n.name ≡ false) → (P x (node_in ns x) → P x (node_in rest x)) → P x (node_in (m ∷ rest) x)
      by (inl mine) later = same_have x m (node_in (m ∷ rest) x) (found m rest (ap (is_node x) name ∙ mine))
          (steps.feed x t n first m one (same_have x (node_in (n ∷ ns) x) n (sym (found n ns mine)) has))
      by (inr other) later = same_have x (node_in rest x) (node_in (m ∷ rest) x) (passed m rest (ap (is_node x) name ∙ other))
          (later (same_have x (node_in (n ∷ ns) x) (node_in ns x) (sym (passed n ns other)) has))

  pub step_have : (old : Chain) (line : Line) (events : List Event) (reply : Reply) (new : Chain) → Ends old → Step old line events reply new → Ends new
  step_have old line events reply new has s =
      subst Ends (sym s.is) (λ x end. fed_node s.mid.tables x s.mid.nodes s.given s.nodes s.feeds (does_have old has line s.own reply s.mid s.does x end))

  -- so it holds of each end of each chain that comes up
  pub ends_have : ((t : Contents) → TablesApart t → Ends (opened t)) → {c : Chain} → ComesUp c → Ends c
  ends_have opens = comes_keep Ends opens (λ old line events reply new has step. step_have old line events reply new has step)
      (λ old line events reply new has does. does_have old has line events reply new does)
