-- What the relay holds was heard: so it is behind each line.
use Rattle.std.proofs.Common.{◌≡◌, inl, inr, ℕ, ◌+◌, Bool, true, false, ◌||◌, List, [], ◌∷◌, map, find, Option, Some, None, refl, sym, ◌∙◌, ap, subst}
use Rattle.std.specs.List.{AllByRecursion, list_any}
use Rattle.std.proofs.lemmas.Bool.{cond-true, false≢true, and_from}
use Rattle.link_base.specs.declared.names.Key.{Key}
use Rattle.link_base.specs.declared.names.Node.{Node as NodeKind}
use Rattle.link_base.specs.declared.names.Node.TheVariants as kinds
use Rattle.link_base.specs.declared.names.PortName.{PortName}
use Rattle.link_base.specs.declared.names.Remote.{Remote}
use Rattle.link_base.specs.declared.names.Way.{Way}
use Rattle.bearer_map.specs.Contents.{Contents}
use Rattle.rlc_model.specs.declared.hop.HopGrant.{HopGrant}
use Rattle.rlc_model.specs.declared.hop.HopGrant.TheVariants as grants
use Rattle.rlc_model.specs.declared.hop.Pdu.{Pdu}
use Rattle.rlc_model.specs.Hop.{on_air}
use Rattle.rlc_model.specs.Sides.{hearer_of, sender_of}
use Rattle.pdcp_model.specs.declared.answers.SubmitFault.{SubmitFault}
use Rattle.pdcp_model.specs.Sender.{submit_fault}
use Rattle.script_text.specs.declared.line.Line.{Line}
use Rattle.script_text.specs.declared.line.Line.TheVariants.{Submit, Grant, Deliver, Repeat, Lose, Stage, Expire, Push, Pull, Burst, Report, Plan as PlanLine, Apply}
use Rattle.script_text.specs.declared.reply.Reply.{Reply}
use Rattle.script_text.specs.History.{Entry}
use Rattle.node_model.specs.declared.answers.PullReply.{PullReply}
use Rattle.node_model.specs.declared.answers.PullReply.TheVariants as pulled
use Rattle.node_model.specs.declared.answers.PushReply.{PushReply}
use Rattle.node_model.specs.declared.answers.PushReply.TheVariants as pushed
use Rattle.node_model.specs.Feeding.{in_key, out_key, Feeds, FeedsReports, FeedsEach}
use Rattle.node_model.specs.Hearing.{hear_refusal}
use Rattle.node_model.specs.Names.{NodeName, AtRelay, is_node, node_of, owner, source, sink}
use Rattle.node_model.specs.Relaying.{PushesPort, PullsPort}
use Rattle.node_model.specs.State.{Node, side_at, entity_at}
use Rattle.node_model.specs.Switching.{node_after}
use Rattle.node_model.specs.Tables.{settings}
use Rattle.node_model.proofs.Finding.{find_none}
use Rattle.node_model.proofs.Names.{remote_refl}
use Rattle.chain_model.proofs.Lookups.{cases_found}
use Rattle.chain_model.specs.Bursts.{behind_egress, Bursts}
use Rattle.chain_model.specs.Lines.{Unless, submit_refusal, Submits, grant_refusal, Sends, Granted, Delivers, without, Loses, stage_refusal, Stages, expire_refusal, Expires, queue_capacity, report_refusal, Wants, plan_refusal, Plans, apply_refusal, applied_reply, Applies}
use Rattle.chain_model.specs.Plans.{is_open, marks}
use Rattle.chain_model.specs.State.{Chain, node_at, set_node, set_plan, sender_at}
use Rattle.chain_model.specs.Steps.{Does, Step}
use Rattle.chain_model.specs.Told.{epoch_at, applies, is_accepted, line_hears, event_hears, hears_ticket}
use Rattle.chain_law.proofs.Chains.{Holds, view, node_in, node_fits, node_name, node_set, node_kept}
use Rattle.chain_law.proofs.Nodes.{NodeFits}
use Rattle.chain_law.proofs.Stands.{Stands}
use Rattle.book_law.specs.Hearings.{coming}
use Rattle.heard_law.specs.Telling.{Tells}
use Rattle.heard_law.proofs.Knowing.{Knows}
use Rattle.heard_law.proofs.Logged.{logged, comes_logged}
use Rattle.heard_law.proofs.Staged.{AreForRelay}
use Rattle.heard_law.proofs.Tickets.{own_events}
use Rattle.carried_law.specs.Foundations.{SentLaws}
use Rattle.carried_law.proofs.Coming.{CameLists, comes_lists, filled}
use Rattle.carried_law.proofs.Emitting.{bursts_carry}
use Rattle.carried_law.proofs.Holding.{Fills, SameLists, lists_ports, lists_same, set_lists, grants_lists, expires_lists}
use Rattle.carried_law.proofs.Ingesting.{attached}
use Rattle.carried_law.proofs.Keeping.{SideKeeps}
use Rattle.carried_law.proofs.Lines.{ChainKeeps, is_apply, is_grant, gives_held, fed_in, does_keep, grant_keeps}
use Rattle.carried_law.proofs.Moving.{stays, fills, relays_on, relays_rest, relays_ports, carries_ports, carries_then, pushes_carry, pulls_carry, applies_carry}
use Rattle.carried_law.proofs.Own.{OwnKeys, EachOwn, HasRow, ends_apart, does_own}
use Rattle.carried_law.proofs.Relayed.{Relays, Carries}
use Rattle.carried_law.proofs.Switching.{closed_ports, plan_later}

-- the relay feeds nothing
no_keys : (t : Contents) (end : Key → NodeName) (apart : (key : Key) → end key ≡ AtRelay → ⊥) (keys : List Key) → AllByRecursion (λ (key : Key). (end key ≡ AtRelay)
    × HasRow t key) keys
    → keys ≡ []
no_keys t end apart [] all = refl
no_keys t end apart (key ∷ keys) all = absurd (apart key all.0.0)

feeds_nothing : (t : Contents) (tables : Contents) (n : Node) (given : List Key) (m : Node) → OwnKeys t AtRelay n → Feeds tables n given m → m ≡ n
feeds_nothing t tables n given m own f =
    let first : f.mid ≡ n = reports (map in_key n.incoming) (no_keys t sink (λ key. ends_apart (hearer_of key.way) key.remote key.drb) (map in_key n.incoming) own.ins) f.reports in
    data_pdus (map out_key f.mid.outgoing) (ap (λ (x : Node). map out_key x.outgoing) first
    ∙ no_keys t source (λ key. ends_apart (sender_of key.way) key.remote key.drb) (map out_key n.outgoing) own.outs) f.data_pdus ∙ first
  where
    reports : (keys : List Key) → keys ≡ [] → FeedsReports tables n keys given f.mid → f.mid ≡ n
    reports keys none x = (subst (λ (l : List Key). FeedsReports tables n l given f.mid) none x).1

    data_pdus : (keys : List Key) → keys ≡ [] → FeedsEach tables f.mid keys m → m ≡ f.mid
    data_pdus keys none x = subst (λ (l : List Key). FeedsEach tables f.mid l m) none x

module _ (laws : SentLaws) (t : Contents) (h : List Entry) (e : Entry) (old new : Chain) (told : Tells h old) (knows : Knows t h old)
    (s : Step old e.line e.events e.reply new) (staged : AreForRelay old) (tables : old.tables ≡ t) (holds : Holds (logged t h) old) (r : Relays t h (node_at old AtRelay)) where
  abbrev n : Node
  n = node_at old AtRelay

  abbrev now : Node
  now = node_at s.mid AtRelay

  abbrev g : List Entry
  g = e ∷ h

  fits : NodeFits n
  fits = node_fits old holds AtRelay

  as_before : s.mid ≡ old → Carries r g now
  as_before is = relays_ports r e now (ap (λ (c : Chain). (node_at c AtRelay).ports) is)

  keeps_sides : ChainKeeps (λ y q sdu. ⊥) (λ y q k. Unit {0}) old s.mid → (q : PortName) → SideKeeps (λ sdu. ⊥) (λ k. Unit {0}) (entity_at n q) (entity_at now q)
  keeps_sides keeps q = (keeps.nodes AtRelay).sides q

  -- a node is set that has in its slots and queues what it had
  set_same : (c : Chain) → s.mid ≡ c → (y : NodeName) (m : Node) → m.name ≡ y → SameLists (node_at old y) m → c.nodes ≡ (set_node old m).nodes → SameLists n now
  set_same c is y m name same nodes = subst (SameLists n) (sym (ap (λ (d : Chain). node_at d AtRelay) is
      ∙ ap (λ (ns : List Node). node_in ns AtRelay) nodes)) (set_lists old y m name same AtRelay)

  -- where the relay is set it is found, if there is one
  set_relay : (m : Node) → m.name ≡ AtRelay → s.mid.nodes ≡ (set_node old m).nodes → Carries r g m → Carries r g now
  set_relay m name nodes c = elim (cases_found (find (λ (x : Node). is_node AtRelay x.name) old.nodes)) [
    | inl there ↦ carries_ports r g m c now (ap (λ (x : Node). x.ports) (ap (λ (ns : List Node). node_in ns AtRelay) nodes ∙ node_set old AtRelay m name there.0 there.1))
    | inr none ↦ relays_ports r e now (ap (λ (ns : List Node). (node_in ns AtRelay).ports) (nodes ∙ find_none (λ (x : Node). is_node m.name x.name) m old.nodes
        (ap (λ (z : NodeName). find (λ (x : Node). is_node z x.name) old.nodes) name ∙ none)))
  ]

  -- a PDU comes
  delivers : (ticket : ℕ) → coming e.line ≡ Some ticket → (keeps : (q : PortName) → SideKeeps (λ sdu. ⊥) (λ k. Unit {0}) (entity_at n q) (entity_at now q)) → (o : Option Pdu)
      → on_air old.air ticket ≡ o → (behind : Chain → Chain) → ((c : Chain) → (behind c).nodes ≡ c.nodes) → Delivers old o s.own e.reply s.mid behind → Carries r g now
  delivers ticket line keeps None on behind same d = as_before d.2
  delivers ticket line keeps (Some pdu) on behind same d = relays_on r e now keeps came.queues (λ i. elim (came.slots i) [
    | inl stayed ↦ stays (λ parcel at. sym stayed ∙ at)
    | inr (at, parcel, is, f) ↦
        let x = filled laws.heard t h e h g (subst (λ (u : Contents). Stands (logged t h) u (view old) holds.limit old.air) tables holds.stands) ticket pdu on n
        (ap (λ (y : NodeName). entity_at (node_at old y) pdu.port) at) (attached laws t h e old new told s staged tables holds) at
        (λ data_pdu. (comes_logged h e old new told s staged laws.heard t tables ticket pdu line on).taken
        (ap (λ (y : NodeName). hear_refusal pdu (side_at (node_at old y) pdu.port)) at ∙ f.none) data_pdu)
        (λ hop number fields was. was) (λ hop number fields was. was) i parcel
        (subst (λ (u : Contents). Fills u n (hearer_of pdu.way) pdu i parcel) tables f) in
        fills (record { parcel = parcel; passed = x.0.passed }) is x.0.held x.1 x.0.now
  ])
    where
      came : CameLists old pdu s.mid
      came = comes_lists old pdu s.own e.reply s.mid behind same d

  -- an SDU is pushed or pulled
  first : Carries r g n
  first = relays_ports r e n refl

  pushes : (port : PortName) (answer : PushReply) (node : Node) → PushesPort (queue_capacity old) n port answer node → s.mid ≡ set_node old node → Carries r g now
  pushes port (pushed.Done egress) node p is = set_relay node (ap (λ (x : Node). x.name) p.1.is ∙ ap (λ (x : Node). x.name) p.1.empties
      ∙ node_name old AtRelay) (ap (λ (c : Chain). c.nodes) is)
      (carries_then r g n first g node (pushes_carry first.relays port egress node p.1))
  pushes port pushed.NoPort node p is = set_relay node (ap (λ (x : Node). x.name) p.1 ∙ node_name old AtRelay) (ap (λ (c : Chain). c.nodes) is)
      (relays_ports r e node (ap (λ (x : Node). x.ports) p.1))
  pushes port pushed.Nothing node p is = set_relay node (ap (λ (x : Node). x.name) p.1 ∙ node_name old AtRelay) (ap (λ (c : Chain). c.nodes) is)
      (relays_ports r e node (ap (λ (x : Node). x.ports) p.1))
  pushes port pushed.QueueFull node p is = set_relay node (ap (λ (x : Node). x.name) p.1 ∙ node_name old AtRelay) (ap (λ (c : Chain). c.nodes) is)
      (relays_ports r e node (ap (λ (x : Node). x.ports) p.1))

  pulls : (port : PortName) (answer : PullReply) (node : Node) → PullsPort n port answer node → s.mid ≡ set_node old node → Carries r g now
  pulls port (pulled.Done number) node p is = set_relay node (ap (λ (x : Node). x.name) p.1.is ∙ node_name old AtRelay) (ap (λ (c : Chain). c.nodes) is)
      (carries_then r g n first g node (pulls_carry first.relays port number node p.1))
  pulls port pulled.NoPort node p is = set_relay node (ap (λ (x : Node). x.name) p.1 ∙ node_name old AtRelay) (ap (λ (c : Chain). c.nodes) is)
      (relays_ports r e node (ap (λ (x : Node). x.ports) p.1))
  pulls port pulled.Empty node p is = set_relay node (ap (λ (x : Node). x.name) p.1 ∙ node_name old AtRelay) (ap (λ (c : Chain). c.nodes) is)
      (relays_ports r e node (ap (λ (x : Node). x.ports) p.1))
  pulls port pulled.Stalled node p is = set_relay node (ap (λ (x : Node). x.name) p.1 ∙ node_name old AtRelay) (ap (λ (c : Chain). c.nodes) is)
      (relays_ports r e node (ap (λ (x : Node). x.ports) p.1))

  -- a burst
  bursts : e.line ≡ Burst → Bursts old s.own e.reply s.mid → Carries r g now
  bursts line b = set_relay (record n { ports = map behind_egress b.egresses }) (node_name old AtRelay) (ap (λ (c : Chain). c.nodes) b.is)
      (bursts_carry laws t h e old new told s staged tables holds r s.own e.reply s.mid b (λ ticket shows. shown_by ticket ∙ shows))
    where
      shown_by : (ticket : ℕ) → hears_ticket e ticket ≡ list_any (event_hears ticket) s.own
      shown_by ticket = ap (λ (line : Line). line_hears line e.reply ticket || list_any (event_hears ticket) e.events) line ∙ own_events old new e s ticket

  -- a plan is applied
  applied : (remote : Remote) (kind : NodeKind) → e.line ≡ Apply remote kind → apply_refusal old remote kind ≡ None → Applies old remote kind s.own e.reply s.mid → Carries r g now
  applied remote kind line none a = by kind refl
    where
      m : Node
      m = node_after (settings old.tables) remote a.plan.goal a.plan.epoch (node_at old (node_of kind remote))

      name : m.name ≡ node_of kind remote
      name = node_name old (node_of kind remote)

      ports : now.ports ≡ (node_at (set_node old m) AtRelay).ports
      ports = ap (λ (c : Chain). (node_at c AtRelay).ports) a.is ∙ closed_ports remote (is_open (marks a.plan kind)) (set_plan (set_node old m) (marks a.plan kind)) AtRelay

      elsewhere : (AtRelay ≡ node_of kind remote → ⊥) → Carries r g now
      elsewhere ne = relays_ports r e now (ports ∙ ap (λ (x : Node). x.ports) (node_kept old (node_of kind remote) m name AtRelay ne))

      other : NodeName → Bool
      other AtRelay = true
      other x = false

      epoch : kind ≡ kinds.Relay → epoch_at kinds.Relay remote (e ∷ h) ≡ epoch_at kinds.Relay remote h + 1
      epoch is = cond-true (applies kinds.Relay remote e.line e.reply) (epoch_at kinds.Relay remote h + 1) (epoch_at kinds.Relay remote h)
          (ap (λ (l : Line). applies kinds.Relay remote l e.reply) (line ∙ ap (Apply remote) is)
          ∙ and_from _ _ (remote_refl remote) (and_from _ _ refl (ap is_accepted a.says ∙ accepts kind is)))
        where
          accepts : (kind : NodeKind) → kind ≡ kinds.Relay → is_accepted (applied_reply kind remote (node_at old (node_of kind remote))) ≡ true
          accepts kinds.Remote is = refl
          accepts kinds.Relay is = refl
          accepts kinds.Gnb is = refl

      at_relay : kind ≡ kinds.Relay → Carries r g now
      at_relay is = elim (cases_found (find (λ (x : Node). is_node AtRelay x.name) old.nodes)) [
        | inl there ↦ carries_ports r g mine
            (applies_carry r e (settings old.tables) remote a.plan.goal a.plan.epoch
            (subst (λ (k : NodeKind). a.plan.epoch ≡ epoch_at k remote h + 1) is (plan_later t h old knows remote kind none a.plan a.its)) (epoch is)) now
            (ports ∙ ap (λ (x : Node). x.ports) (node_set old AtRelay m (name ∙ at) there.0 there.1)
            ∙ ap (λ (y : NodeName). (node_after (settings old.tables) remote a.plan.goal a.plan.epoch (node_at old y)).ports) at)
        | inr absent ↦ relays_ports r e now (ports ∙ ap (λ (ns : List Node). (node_in ns AtRelay).ports) (find_none (λ (x : Node). is_node m.name x.name) m old.nodes
            (ap (λ (z : NodeName). find (λ (x : Node). is_node z x.name) old.nodes) (name ∙ at) ∙ absent)))
      ]
        where
          at : node_of kind remote ≡ AtRelay
          at = ap (λ (k : NodeKind). node_of k remote) is

          mine : Node
          mine = node_after (settings old.tables) remote a.plan.goal a.plan.epoch n

      by : (k : NodeKind) → kind ≡ k → Carries r g now
      by kinds.Relay is = at_relay is
      by kinds.Remote is = elsewhere (λ same. false≢true (ap other (sym (same ∙ ap (λ (k : NodeKind). node_of k remote) is))))
      by kinds.Gnb is = elsewhere (λ same. false≢true (ap other (sym (same ∙ ap (λ (k : NodeKind). node_of k remote) is))))

  chain_kept : (line : Line) → is_apply line ≡ false → is_grant line ≡ false → gives_held line ≡ false → Does old line s.own e.reply s.mid
      → (q : PortName) → SideKeeps (λ sdu. ⊥) (λ k. Unit {0}) (entity_at n q) (entity_at now q)
  chain_kept line no_apply no_grant no_gift d = keeps_sides (does_keep old s.mid laws fits line (λ gives. absurd (false≢true (sym no_gift
      ∙ gives))) s.own e.reply no_apply no_grant d)

  submits : (fault : Option SubmitFault) (key : Key) (sdu : List ℕ) → Submits fault old key sdu s.own e.reply s.mid → SameLists n now
  submits (Some fault) key sdu x = lists_same n now (ap (λ (c : Chain). node_at c AtRelay) x.2)
  submits None key sdu x = set_same _ x.2 (source key) _ (node_name old (source key)) (lists_ports (node_at old (source key)) _ refl) refl

  grants_go : (port : PortName) (way : Way) (octets : ℕ) → Granted old port way octets s.own e.reply s.mid → SameLists n now
  grants_go port way octets x = by x.answer x.sends
    where
      by : (answer : HopGrant) → Sends old x.node port way x.epoch answer e.reply s.mid → SameLists n now
      by (grants.Sent status number bytes) sent = set_same _ sent.1 (owner (sender_of way) port) x.node (ap (λ (m : Node). m.name) x.grants.is
          ∙ node_name old (owner (sender_of way) port))
          (grants_lists (node_at old (owner (sender_of way) port)) port octets x.epoch x.answer x.node x.grants) refl
      by grants.Idle sent = lists_same n now (ap (λ (c : Chain). node_at c AtRelay) sent.1)
      by (grants.Small need) sent = lists_same n now (ap (λ (c : Chain). node_at c AtRelay) sent.1)

  loses : (o : Option Pdu) (ticket : ℕ) → Loses old o ticket s.own e.reply s.mid → SameLists n now
  loses None ticket x = lists_same n now (ap (λ (c : Chain). node_at c AtRelay) x.2)
  loses (Some pdu) ticket x = lists_same n now (ap (λ (c : Chain). node_at c AtRelay) x.2)

  either : (refusal : Option Reply) (done : Type 0) → (done → SameLists n now) → Unless refusal old s.own e.reply s.mid done → SameLists n now
  either (Some refusal) done does u = lists_same n now (ap (λ (c : Chain). node_at c AtRelay) u.2)
  either None done does x = does x

  -- whatever a line does before the nodes feed
  does_relays : (line : Line) → e.line ≡ line → Does old line s.own e.reply s.mid → Carries r g now
  does_relays (Submit key sdu) is d = relays_rest r e now (chain_kept (Submit key sdu) refl refl refl d)
      (either (submit_refusal old key) _ (submits (submit_fault (sender_at old key) sdu) key sdu) d)
  does_relays (Grant port way octets) is d = relays_rest r e now
      (keeps_sides (grant_keeps {May = λ y q sdu. ⊥} {Begins = λ y q k. Unit {0}} old s.mid (λ y q k. tt) port way octets s.own e.reply d))
      (either (grant_refusal old port way) _ (grants_go port way octets) d)
  does_relays (Deliver ticket) is d = delivers ticket (ap coming is) (chain_kept (Deliver ticket) refl refl refl d) (on_air old.air ticket) refl (without ticket) (λ c. refl) d
  does_relays (Repeat ticket) is d = delivers ticket (ap coming is) (chain_kept (Repeat ticket) refl refl refl d) (on_air old.air ticket) refl (λ c. c) (λ c. refl) d
  does_relays (Lose ticket) is d = relays_rest r e now (chain_kept (Lose ticket) refl refl refl d) (loses (on_air old.air ticket) ticket d)
  does_relays (Stage ticket) is d = relays_rest r e now (chain_kept (Stage ticket) refl refl refl d)
      (either (stage_refusal (on_air old.air ticket)) (Stages old ticket s.own e.reply s.mid) (λ x. lists_same n now (ap (λ (c : Chain). node_at c AtRelay) x.2)) d)
  does_relays (Expire port at timer) is d = relays_rest r e now (chain_kept (Expire port at timer) refl refl refl d)
      (either (expire_refusal old port at) (Expires old port at timer s.own e.reply s.mid) (λ x. set_same (set_node old x.node) x.is (owner at port) x.node
      (ap (λ (m : Node). m.name) x.expires.is ∙ node_name old (owner at port)) (expires_lists (node_at old (owner at port)) port timer x.expired x.node x.expires) refl) d)
  does_relays (Push port) is d = pushes port d.answer d.node d.pushes d.is
  does_relays (Pull port) is d = pulls port d.answer d.node d.pulls d.is
  does_relays Burst is d = bursts is d
  does_relays (Report key) is d = relays_rest r e now (chain_kept (Report key) refl refl refl d)
      (either (report_refusal old key) (Wants old key s.own e.reply s.mid) (λ x. set_same _ x.2 (sink key) _ (node_name old (sink key)) (lists_ports (node_at old
      (sink key)) _ refl) refl) d)
  does_relays (PlanLine remote goal) is d = relays_rest r e now (chain_kept (PlanLine remote goal) refl refl refl d)
      (either (plan_refusal old remote goal) (Plans old remote goal s.own e.reply s.mid) (λ x. lists_same n now (ap (λ (c : Chain). node_at c AtRelay) x.is)) d)
  does_relays (Apply remote kind) is d = by (apply_refusal old remote kind) refl d
    where
      by : (refusal : Option Reply) → apply_refusal old remote kind ≡ refusal → Unless refusal old s.own e.reply s.mid (Applies old remote kind s.own e.reply s.mid)
          → Carries r g now
      by (Some refusal) none u = as_before u.2
      by None none a = applied remote kind is none a
  does_relays line is d = absurd d

  pub mid_relays : Carries r g now
  mid_relays = does_relays e.line refl s.does

  -- the relay feeds nothing, and so it stays
  pub fed_relay : EachOwn t old → node_at new AtRelay ≡ now
  fed_relay each = ap (λ (c : Chain). node_at c AtRelay) s.is ∙ elim (fed_in s.mid.tables AtRelay s.mid.nodes s.given s.nodes s.feeds) [
    | inl fed ↦ feeds_nothing t s.mid.tables now fed.0 (node_in s.nodes AtRelay) (does_own laws t old s.mid fits e.line s.own e.reply s.does each AtRelay) fed.1
    | inr same ↦ same
  ]
