-- What a line does has one outcome.
use Rattle.std.proofs.Common.{◌≡◌, ℕ, ◌+◌, Bool, true, false, if◌then◌else◌, List, [], ◌∷◌, ◌++◌, length, Option, Some, None, refl, sym, ◌∙◌, ap, subst}
use Rattle.std.proofs.lemmas.Bool.{false≢true}
use Rattle.std.proofs.lemmas.Option.{same_Some}
use Rattle.link_base.specs.declared.names.Goal.{Goal}
use Rattle.link_base.specs.declared.names.Key.{Key}
use Rattle.link_base.specs.declared.names.Node.{Node as NodeKind}
use Rattle.link_base.specs.declared.names.Node.TheVariants as kinds
use Rattle.link_base.specs.declared.names.PortName.{PortName}
use Rattle.link_base.specs.declared.names.Remote.{Remote}
use Rattle.link_base.specs.declared.names.Side.{Side}
use Rattle.link_base.specs.declared.names.Timer.{Timer}
use Rattle.link_base.specs.declared.names.Way.{Way}
use Rattle.link_base.specs.declared.rlc_words.Expired.{Expired}
use Rattle.bearer_map.specs.Contents.{Contents}
use Rattle.rlc_model.specs.declared.hop.Pdu.{Pdu}
use Rattle.rlc_model.specs.declared.hop.HopGrant.{HopGrant}
use Rattle.rlc_model.specs.declared.hop.HopGrant.TheVariants as grant
use Rattle.rlc_model.specs.Sides.{sender_of, hearer_of, way_from}
use Rattle.rlc_model.specs.Hop.{on_air, off_air, sent_from}
use Rattle.pdcp_model.specs.declared.answers.SubmitFault.{SubmitFault}
use Rattle.pdcp_model.specs.Sender.{Sender, submit_fault, accepts, tx_next}
use Rattle.script_text.specs.declared.event.Event.{Event}
use Rattle.script_text.specs.declared.line.Line.{Line}
use Rattle.script_text.specs.declared.line.Line.TheVariants.{Submit, Grant, Deliver, Repeat, Lose, Stage, Expire, Push, Pull, Burst, Report, Plan as PlanLine, Apply}
use Rattle.script_text.specs.declared.reply.Reply.{Reply}
use Rattle.script_text.specs.declared.reply.Reply.TheVariants.{OkNumber, Air}
use Rattle.node_model.specs.declared.answers.NodeHeard.{NodeHeard}
use Rattle.node_model.specs.Hearing.{HearsPdu}
use Rattle.node_model.specs.Names.{AtRelay, is_remote, owner, source, sink, node_of, replaced}
use Rattle.node_model.specs.Relaying.{PushesPort}
use Rattle.node_model.specs.State.{Outgoing, Incoming, Node}
use Rattle.node_model.specs.Tables.{settings}
use Rattle.node_model.specs.Switching.{node_after, node_closed}
use Rattle.node_law.specs.Alike.{SameNode}
use Rattle.node_law.specs.OneOutcome.{NodesHearAlike}
use Rattle.node_law.proofs.Alike.{out_too, in_too, out_set, in_set}
use Rattle.node_law.proofs.StepsAlike.{grants_alike, expires_alike, pushes_alike, pulls_alike, applies_alike, closes_alike, dropped_alike}
use Rattle.chain_model.specs.declared.plan.Plan.{Plan}
use Rattle.chain_model.specs.State.{Chain, node_at, set_node, set_plan, sender_at}
use Rattle.chain_model.specs.Plans.{marks, is_open, next_plan}
use Rattle.chain_model.specs.Telling.{TellsHeard, TellsExpired, push_reply, pull_reply}
use Rattle.chain_model.specs.Lines.{Unless, submit_refusal, Submits, grant_refusal, Sends, Granted, hearer, is_handed_over, without, Comes, Delivers, Loses, stage_refusal, with_ticket, Stages, expire_refusal, Expires, queue_capacity, PushesAt, PullsAt, report_refusal, Wants, plan_refusal, Plans, apply_refusal, applied_reply, closed, Applies}
use Rattle.chain_model.specs.Steps.{Does}
use Rattle.step_law.specs.OneStep.{SameChain, IsOrderly, is_burst}
use Rattle.step_law.proofs.Chains.{node_set, node_too, sender_too, all_learn}
use Rattle.step_law.proofs.Refused.{plan_too, submit_too, grant_too, expire_too, report_too, planned_too, applied_too}
use Rattle.step_law.proofs.Tells.{one_submit, one_heard, one_expired}

-- two outcomes are one
abbrev pub AreOne : List Event → List Event → Reply → Reply → Chain → Chain → Type 0
AreOne es fs a b m n = (es ≡ fs) × (a ≡ b) × SameChain m n

-- what becomes chains that nothing tells apart is such
alike_are : {m n c d : Chain} → m ≡ c → n ≡ d → SameChain c d → SameChain m n
alike_are {m = m} {n = n} {c = c} p q same = subst (λ (z : Chain). SameChain z n) (sym p) (subst (SameChain c) (sym q) same)

-- what is told alike and leaves chains that are alike is one outcome
alike : {es fs xs : List Event} {a b : Reply} {m n c d : Chain} → es ≡ xs → fs ≡ xs → a ≡ b → m ≡ c → n ≡ d → SameChain c d → AreOne es fs a b m n
alike p q r s u same = (p ∙ sym q, r, alike_are s u same)

module _ (old other : Chain) (e : SameChain old other) where
  -- a refusal is one outcome, and else what is done is one
  unless : (refusal refused : Option Reply) → refusal ≡ refused → (es fs : List Event) (a b : Reply) (m n : Chain) (done done' : Type 0) → (done → done' → AreOne es fs a b m n)
      → Unless refusal old es a m done → Unless refused other fs b n done' → AreOne es fs a b m n
  unless refusal refused same es fs a b m n done done' one p q = by refused (subst (λ (o : Option Reply). Unless o old es a m done) same p) q
    where
      by : (refusal : Option Reply) → Unless refusal old es a m done → Unless refusal other fs b n done' → AreOne es fs a b m n
      by (Some refusal) p q = alike p.0 q.0 (p.1 ∙ sym q.1) p.2 q.2 e
      by None p q = one p q

  -- a submission
  submits : (key : Key) (sdu : List ℕ) (es fs : List Event) (a b : Reply) (m n : Chain) → Submits (submit_fault (sender_at old key) sdu) old key sdu es a m
      → Submits (submit_fault (sender_at other key) sdu) other key sdu fs b n → AreOne es fs a b m n
  submits key sdu es fs a b m n p q =
      by (submit_fault (sender_at other key) sdu) (subst (λ (o : Option SubmitFault). Submits o old key sdu es a m)
      (ap (λ (s : Sender). submit_fault s sdu) (sender_too old other e key)) p) q
    where
      at : SameNode (node_at old (source key)) (node_at other (source key))
      at = node_too old other e (source key)

      by : (fault : Option SubmitFault) → Submits fault old key sdu es a m → Submits fault other key sdu fs b n → AreOne es fs a b m n
      by (Some fault) p q = alike p.0 q.0 (one_submit fault a b p.1 q.1) p.2 q.2 e
      by None p q = alike p.0 q.0 (p.1 ∙ ap (λ (s : Sender). OkNumber (tx_next s)) (sender_too old other e key) ∙ sym q.1) p.2 q.2
          (node_set old other e _ _ (out_set (node_at old (source key)) (node_at other (source key)) at _ _
          (ap (λ (o : Outgoing). record o { sender = accepts o.sender sdu }) (out_too (node_at old (source key)) (node_at other (source key)) at key))))

  -- what becomes of a grant
  sends : (x y : Node) → SameNode x y → (port : PortName) (way : Way) (epoch : ℕ) (answer : HopGrant) (a b : Reply) (m n : Chain)
      → Sends old x port way epoch answer a m → Sends other y port way epoch answer b n → (a ≡ b) × SameChain m n
  sends x y same port way epoch (grant.Sent status number bytes) a b m n p q =
      let set = node_set old other e x y same in (
        p.0 ∙ ap (λ (air : List (Option Pdu)). Air (length air + 1) status number bytes) e.air ∙ sym q.0,
        alike_are p.1 q.1 (record {
          tables = set.tables;
          nodes = set.nodes;
          plans = set.plans;
          air = ap (λ (air : List (Option Pdu)). air ++ Some (sent_from port (sender_of way) epoch status number bytes) ∷ []) e.air;
          staged = set.staged;
        }),
      )
  sends x y same port way epoch grant.Idle a b m n p q = (p.0 ∙ sym q.0, alike_are p.1 q.1 e)
  sends x y same port way epoch (grant.Small need) a b m n p q = (p.0 ∙ sym q.0, alike_are p.1 q.1 e)

  -- a loss
  off_alike : (ticket : ℕ) (x y : Chain) → SameChain x y → SameChain (without ticket x) (without ticket y)
  off_alike ticket x y e = record { tables = e.tables; nodes = e.nodes; plans = e.plans; air = ap (λ (air : List (Option Pdu)). off_air air ticket) e.air; staged = e.staged }

  loses : (o : Option Pdu) (ticket : ℕ) (es fs : List Event) (a b : Reply) (m n : Chain) → Loses old o ticket es a m → Loses other o ticket fs b n → AreOne es fs a b m n
  loses None ticket es fs a b m n p q = alike p.0 q.0 (p.1 ∙ sym q.1) p.2 q.2 e
  loses (Some pdu) ticket es fs a b m n p q = alike p.0 q.0 (p.1 ∙ sym q.1) p.2 q.2 (off_alike ticket old other e)

  -- a timer
  expires : (port : PortName) (at : Side) (timer : Timer) (es fs : List Event) (a b : Reply) (m n : Chain) → Expires old port at timer es a m
      → Expires other port at timer fs b n → AreOne es fs a b m n
  expires port at timer es fs a b m n p q =
      let x = owner at port in
      let one = expires_alike (node_at old x) (node_at other x) (node_too old other e x) port timer p.expired q.expired p.node q.node p.expires q.expires in
      let told = one_expired port (way_from at) q.expired es fs a b (subst (λ (x : Expired). TellsExpired port (way_from at) x es a) one.0 p.tells) q.tells in
      (told.0, told.1, alike_are p.is q.is (node_set old other e p.node q.node one.1))

  -- a push and a pull
  pushes : (port : PortName) (es fs : List Event) (a b : Reply) (m n : Chain) → PushesAt old port es a m → PushesAt other port fs b n → AreOne es fs a b m n
  pushes port es fs a b m n p q =
      let one = pushes_alike (node_at old AtRelay) (node_at other AtRelay) (node_too old other e AtRelay) (queue_capacity other) port p.answer q.answer p.node q.node
      (subst (λ (t : Contents). PushesPort (settings t).queue (node_at old AtRelay) port p.answer p.node) e.tables p.pushes) q.pushes in
      alike p.shows q.shows (p.says ∙ ap push_reply one.0 ∙ sym q.says) p.is q.is (node_set old other e p.node q.node one.1)

  pulls : (port : PortName) (es fs : List Event) (a b : Reply) (m n : Chain) → PullsAt old port es a m → PullsAt other port fs b n → AreOne es fs a b m n
  pulls port es fs a b m n p q =
      let one = pulls_alike (node_at old AtRelay) (node_at other AtRelay) (node_too old other e AtRelay) port p.answer q.answer p.node q.node p.pulls q.pulls in
      alike p.shows q.shows (p.says ∙ ap pull_reply one.0 ∙ sym q.says) p.is q.is (node_set old other e p.node q.node one.1)

  -- a report
  wants : (key : Key) (es fs : List Event) (a b : Reply) (m n : Chain) → Wants old key es a m → Wants other key fs b n → AreOne es fs a b m n
  wants key es fs a b m n p q = alike p.0 q.0 (p.1 ∙ sym q.1) p.2 q.2
      (node_set old other e _ _ (in_set (node_at old (sink key)) (node_at other (sink key)) (node_too old other e (sink key)) _ _
      (ap (λ (i : Incoming). record i { wanted = true }) (in_too (node_at old (sink key)) (node_at other (sink key)) (node_too old other e (sink key)) key))))

  -- a plan, and who applies it
  planned : (p q : Plan) → p ≡ q → (c d : Chain) → SameChain c d → SameChain (set_plan c p) (set_plan d q)
  planned p q same c d e = record {
    tables = e.tables;
    nodes = e.nodes;
    plans = ap (λ (ps : List Plan). replaced (λ (x : Plan). is_remote p.remote x.remote) p ps) e.plans
        ∙ ap (λ (z : Plan). replaced (λ (x : Plan). is_remote z.remote x.remote) z d.plans) same;
    air = e.air;
    staged = e.staged;
  }

  plans : (remote : Remote) (goal : Goal) (es fs : List Event) (a b : Reply) (m n : Chain) → Plans old remote goal es a m → Plans other remote goal fs b n → AreOne es fs a b m n
  plans remote goal es fs a b m n p q =
      let last : p.last ≡ q.last = same_Some p.last q.last (sym p.its ∙ plan_too old other e remote ∙ q.its) in
      alike p.shows q.shows (p.says ∙ ap (λ (x : Plan). OkNumber (next_plan x goal).epoch) last ∙ sym q.says) p.is q.is
      (planned (next_plan p.last goal) (next_plan q.last goal) (ap (λ (x : Plan). next_plan x goal) last) old other e)

  closes : (remote : Remote) (still_open : Bool) (c d : Chain) → SameChain c d → SameChain (closed remote still_open c) (closed remote still_open d)
  closes remote true c d e = e
  closes remote false c d e = record {
    tables = e.tables;
    nodes = all_learn (node_closed remote) (closes_alike remote) c.nodes d.nodes e.nodes;
    plans = e.plans;
    air = e.air;
    staged = e.staged;
  }

  replies : (remote : Remote) (kind : NodeKind) (x y : Node) → SameNode x y → applied_reply kind remote x ≡ applied_reply kind remote y
  replies remote kinds.Remote x y same = refl
  replies remote kinds.Relay x y same = ap (λ (n : ℕ). OkNumber n) (dropped_alike remote x y same)
  replies remote kinds.Gnb x y same = refl

  -- the chain once a node has applied this plan
  abbrev applied : Chain → Remote → NodeKind → Plan → Chain
  applied c remote kind x = closed remote (is_open (marks x kind))
      (set_plan (set_node c (node_after (settings c.tables) remote x.goal x.epoch (node_at c (node_of kind remote)))) (marks x kind))

  applied_alike : (remote : Remote) (kind : NodeKind) (x : Plan) → SameChain (applied old remote kind x) (applied other remote kind x)
  applied_alike remote kind x =
      let y = node_of kind remote in
      let m = node_after (settings old.tables) remote x.goal x.epoch (node_at old y) in
      let now : SameNode m (node_after (settings other.tables) remote x.goal x.epoch (node_at other y)) =
      subst (λ (t : Contents). SameNode m (node_after (settings t) remote x.goal x.epoch (node_at other y))) e.tables
      (applies_alike (settings old.tables) remote x.goal x.epoch (node_at old y) (node_at other y) (node_too old other e y)) in
      closes remote (is_open (marks x kind)) _ _ (planned (marks x kind) (marks x kind) refl _ _
      (node_set old other e m (node_after (settings other.tables) remote x.goal x.epoch (node_at other y)) now))

  applies : (remote : Remote) (kind : NodeKind) (es fs : List Event) (a b : Reply) (m n : Chain) → Applies old remote kind es a m → Applies other remote kind fs b n
      → AreOne es fs a b m n
  applies remote kind es fs a b m n p q =
      let y = node_of kind remote in
      let plan : p.plan ≡ q.plan = same_Some p.plan q.plan (sym p.its ∙ plan_too old other e remote ∙ q.its) in
      alike p.shows q.shows (p.says ∙ replies remote kind (node_at old y) (node_at other y) (node_too old other e y) ∙ sym q.says) (p.is ∙ ap (applied old remote kind) plan) q.is
      (applied_alike remote kind q.plan)

  -- a ticket is staged
  stages : (ticket : ℕ) (es fs : List Event) (a b : Reply) (m n : Chain) → Stages old ticket es a m → Stages other ticket fs b n → AreOne es fs a b m n
  stages ticket es fs a b m n p q = alike p.0 q.0 (p.1 ∙ sym q.1) p.2 q.2
      (record { tables = e.tables; nodes = e.nodes; plans = e.plans; air = e.air; staged = ap (with_ticket ticket) e.staged })

  module _ (fine : IsOrderly other) where
    -- a grant
    grants : (port : PortName) (way : Way) (octets : ℕ) (es fs : List Event) (a b : Reply) (m n : Chain) → Granted old port way octets es a m
        → Granted other port way octets fs b n → AreOne es fs a b m n
    grants port way octets es fs a b m n p q =
        let at = owner (sender_of way) port in
        let one = grants_alike (node_at old at) (node_at other at) (node_too old other e at)
        (fine.sound at) port octets p.epoch q.epoch p.answer q.answer p.node q.node p.grants q.grants in
        let same = sends p.node q.node one.2 port way q.epoch q.answer a b m n
        (subst (λ (x : HopGrant). Sends old p.node port way q.epoch x a m) one.1 (subst (λ (x : ℕ). Sends old p.node port way x p.answer a m) one.0 p.sends)) q.sends in
        (p.shows ∙ sym q.shows, same.0, same.1)

    -- a PDU comes to its node; behind keeps chains alike
    comes : NodesHearAlike → (pdu : Pdu) (behind : Chain → Chain) → ((x y : Chain) → SameChain x y → SameChain (behind x) (behind y))
        → (es fs : List Event) (a b : Reply) (m n : Chain)
        → Comes old pdu es a m behind → Comes other pdu fs b n behind → AreOne es fs a b m n
    comes hearing pdu behind keeps es fs a b m n p q =
        let at = owner (hearer_of pdu.way) pdu.port in
        let way = way_from (hearer_of pdu.way) in
        let one = hearing other.tables (hearer pdu old) (hearer pdu other) (node_too old other e at) (hearer_of pdu.way) pdu p.answer q.answer p.node q.node fine.rows (fine.ids at)
        (subst (λ (t : Contents). HearsPdu t (hearer pdu old) (hearer_of pdu.way) pdu p.answer p.node) e.tables p.hears) q.hears in
        let told = one_heard pdu.port way q.answer es fs a b (subst (λ (x : NodeHeard). TellsHeard pdu.port way x es a) one.0 p.tells) q.tells in
        (told.0, told.1, left p.node q.node one.1 (is_handed_over p.answer) (is_handed_over q.answer) (ap is_handed_over one.0) m n p.is q.is)
      where
        left : (x y : Node) → SameNode x y → (c d : Bool) → c ≡ d → (m n : Chain) → m ≡ (if c then behind (set_node old x) else old)
            → n ≡ (if d then behind (set_node other y) else other) → SameChain m n
        left x y same c d is m n p q = alike_are p q (subst (λ (z : Bool). SameChain (if c then behind (set_node old x) else old)
            (if z then behind (set_node other y) else other)) is (go c))
          where
            go : (c : Bool) → SameChain (if c then behind (set_node old x) else old) (if c then behind (set_node other y) else other)
            go true = keeps (set_node old x) (set_node other y) (node_set old other e x y same)
            go false = e

    delivers : NodesHearAlike → (ticket : ℕ) (behind : Chain → Chain) → ((x y : Chain) → SameChain x y → SameChain (behind x) (behind y))
        → (es fs : List Event) (a b : Reply) (m n : Chain)
        → Delivers old (on_air old.air ticket) es a m behind → Delivers other (on_air other.air ticket) fs b n behind → AreOne es fs a b m n
    delivers hearing ticket behind keeps es fs a b m n p q =
        by (on_air other.air ticket) (subst (λ (air : List (Option Pdu)). Delivers old (on_air air ticket) es a m behind) e.air p) q
      where
        by : (o : Option Pdu) → Delivers old o es a m behind → Delivers other o fs b n behind → AreOne es fs a b m n
        by None p q = alike p.0 q.0 (p.1 ∙ sym q.1) p.2 q.2 e
        by (Some pdu) p q = comes hearing pdu behind keeps es fs a b m n p q

    -- each line
    pub one_does : NodesHearAlike → (line : Line) → is_burst line ≡ false → (es fs : List Event) (a b : Reply) (m n : Chain) → Does old line es a m → Does other line fs b n
        → AreOne es fs a b m n
    one_does hearing (Submit key sdu) it es fs a b m n p q =
        unless (submit_refusal old key) (submit_refusal other key) (submit_too old other e key) es fs a b m n _ _ (submits key sdu es fs a b m n) p q
    one_does hearing (Grant port way octets) it es fs a b m n p q =
        unless (grant_refusal old port way) (grant_refusal other port way) (grant_too old other e port way) es fs a b m n
        (Granted old port way octets es a m) (Granted other port way octets fs b n) (grants port way octets es fs a b m n) p q
    one_does hearing (Deliver ticket) it es fs a b m n p q = delivers hearing ticket (without ticket) (off_alike ticket) es fs a b m n p q
    one_does hearing (Repeat ticket) it es fs a b m n p q = delivers hearing ticket (λ c. c) (λ x y same. same) es fs a b m n p q
    one_does hearing (Lose ticket) it es fs a b m n p q =
        loses (on_air other.air ticket) ticket es fs a b m n (subst (λ (air : List (Option Pdu)). Loses old (on_air air ticket) ticket es a m) e.air p) q
    one_does hearing (Stage ticket) it es fs a b m n p q =
        unless (stage_refusal (on_air old.air ticket)) (stage_refusal (on_air other.air ticket))
        (ap (λ (air : List (Option Pdu)). stage_refusal (on_air air ticket)) e.air) es fs a b m n
        (Stages old ticket es a m) (Stages other ticket fs b n) (stages ticket es fs a b m n) p q
    one_does hearing (Expire port at timer) it es fs a b m n p q =
        unless (expire_refusal old port at) (expire_refusal other port at) (expire_too old other e port at) es fs a b m n
        (Expires old port at timer es a m) (Expires other port at timer fs b n) (expires port at timer es fs a b m n) p q
    one_does hearing (Push port) it es fs a b m n p q = pushes port es fs a b m n p q
    one_does hearing (Pull port) it es fs a b m n p q = pulls port es fs a b m n p q
    one_does hearing Burst it es fs a b m n p q = absurd (false≢true (sym it))
    one_does hearing (Report key) it es fs a b m n p q =
        unless (report_refusal old key) (report_refusal other key) (report_too old other e key) es fs a b m n
        (Wants old key es a m) (Wants other key fs b n) (wants key es fs a b m n) p q
    one_does hearing (PlanLine remote goal) it es fs a b m n p q =
        unless (plan_refusal old remote goal) (plan_refusal other remote goal) (planned_too old other e remote goal) es fs a b m n
        (Plans old remote goal es a m) (Plans other remote goal fs b n) (plans remote goal es fs a b m n) p q
    one_does hearing (Apply remote kind) it es fs a b m n p q =
        unless (apply_refusal old remote kind) (apply_refusal other remote kind) (applied_too old other e remote kind) es fs a b m n
        (Applies old remote kind es a m) (Applies other remote kind fs b n) (applies remote kind es fs a b m n) p q
    one_does hearing line it es fs a b m n p q = absurd p
