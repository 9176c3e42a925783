-- What a step of one of its nodes is for the chain: a line that is carried out, or refused.
use Rattle.std.proofs.Common.{◌≡◌, inl, inr, ℕ, Bool, true, false, not, if◌then◌else◌, List, [], ◌∷◌, ◌++◌, length, map, find, Option, Some, None, is_none, option_and_then, ◌+◌, refl, sym, ◌∙◌, ap, subst}
use Rattle.std.specs.Prelude.{option_map, IfSome}
use Rattle.std.proofs.lemmas.Bool.{cases_Bool, cond-true, cond-false, false≢true, true≢false}
use Rattle.link_base.specs.declared.names.Key.{Key}
use Rattle.link_base.specs.declared.names.PortName.{PortName}
use Rattle.link_base.specs.declared.names.PortName.TheVariants.{Direct, Pc5, Uu}
use Rattle.link_base.specs.declared.names.Remote.{Remote}
use Rattle.link_base.specs.declared.names.Side.{Side}
use Rattle.link_base.specs.declared.names.Timer.{Timer}
use Rattle.link_base.specs.declared.names.Way.{Way}
use Rattle.link_base.specs.declared.names.Way.TheVariants.{Ul, Dl}
use Rattle.link_base.specs.declared.rlc_words.Expired.{Expired}
use Rattle.bearer_map.specs.declared.rows.RemoteRow.{RemoteRow}
use Rattle.rlc_model.specs.declared.hop.HopGrant.TheVariants.{Sent}
use Rattle.rlc_model.specs.declared.hop.Pdu.{Pdu}
use Rattle.rlc_model.specs.Hop.{on_air}
use Rattle.rlc_model.specs.Sides.{Entity, sender_of, hearer_of, way_from}
use Rattle.pdcp_model.specs.declared.answers.SubmitFault.{SubmitFault}
use Rattle.pdcp_model.specs.declared.answers.SubmitFault.TheVariants as faults
use Rattle.pdcp_model.specs.Sender.{Sender, confirmed, submit_fault}
use Rattle.pdcp_tx.specs.Calls.{Refuses}
use Rattle.script_text.specs.declared.event.Event.{Event}
use Rattle.script_text.specs.declared.line.Line.{Line}
use Rattle.script_text.specs.declared.line.Line.TheVariants.{Submit, Expire, Push, Pull, Report}
use Rattle.script_text.specs.declared.reply.Reply.{Reply}
use Rattle.script_text.specs.declared.reply.Reply.TheVariants as replies
use Rattle.bearer_map.specs.Contents.{Contents}
use Rattle.node_model.specs.Hearing.{HearsPdu}
use Rattle.node_model.specs.declared.answers.NodeHeard.{NodeHeard}
use Rattle.node_model.specs.declared.answers.PortGrant.TheVariants.{Hop}
use Rattle.node_model.specs.declared.answers.NodeHeard.TheVariants as answers
use Rattle.node_model.specs.declared.answers.PushReply.{PushReply}
use Rattle.node_model.specs.declared.answers.PullReply.{PullReply}
use Rattle.node_model.specs.Relaying.{PushesPort, PullsPort}
use Rattle.node_model.specs.Names.{NodeName, AtRelay, is_node, is_remote, replaced, owner, source, sink}
use Rattle.node_model.specs.State.{PortSide, Node, entity_of, entity_at, outgoing, set_outgoing}
use Rattle.node_model.specs.Sides.{IsOpen, GrantsPort, ExpiresPort}
use Rattle.node_model.specs.Tables.{has_bearer}
use Rattle.node_bearers.specs.Calls.{Submits}
use Rattle.chain_model.specs.declared.plan.Plan.{Plan}
use Rattle.chain_model.specs.State.{Chain, node_at, set_node, sender_at, plan_at, first_plan}
use Rattle.chain_model.specs.Lines.{Unless, open_refusal, Granted, Comes, Delivers, without, is_handed_over, queue_capacity}
use Rattle.chain_model.specs.Steps.{Does}
use Rattle.chain_model.specs.Telling.{TellsSubmit, TellsExpired, TellsHeard, push_reply, pull_reply}
use Rattle.chain_model.proofs.Lookups.{view_same}
use Rattle.chain_core.specs.declared.confirming.Watched.{Watched}
use Rattle.chain_core.specs.declared.lines.Arrival.{Arrival}
use Rattle.chain_core.specs.Chain.{Carries, Arrives}
use Rattle.chain_core.specs.Confirming.{HaveOwnTags, Watches, key_sent, its_key, sent_over, watch_of}
use Rattle.chain_core.specs.Nodes.{NodesOfTables, node_in, Moves, WantsReport}
use Rattle.chain_core.specs.Told.{Tells}
use Rattle.chain_core.proofs.Raising.{number_at, may_raise, TellsNumber, KeepsOwnTags, pdu_confirms}

-- the chain that nodes and an air are
abbrev pub chain_at : NodesOfTables → List (Option Pdu) → Chain
chain_at n air = record { tables = n.tables; nodes = n.nodes; plans = map first_plan n.tables.remotes; air = air; staged = [] }

-- the chain with these nodes
abbrev pub with_nodes : Chain → List Node → Chain
with_nodes c nodes = record c { nodes = nodes }

-- the chain with these PDUs on the air
abbrev pub with_air : List (Option Pdu) → Chain → Chain
with_air air c = record c { air = air }

-- the chain of other nodes with the same tables
pub moved : (n m : NodesOfTables) (air : List (Option Pdu)) → m.tables ≡ n.tables → with_nodes (chain_at n air) m.nodes ≡ chain_at m air
moved n m air same = ap (λ (t : Contents). chain_at (record { tables = t; nodes = m.nodes }) air) (sym same)

-- a node in the place of the one of its name
pub sets : (c : Chain) (name : NodeName) (n : Node) (nodes : List Node) → n.name ≡ name → nodes ≡ replaced (λ (x : Node). is_node name x.name) n c.nodes → with_nodes c nodes ≡ set_node c n
sets c name n nodes same is = ap (with_nodes c) (is ∙ ap (λ (m : NodeName). replaced (λ (x : Node). is_node m x.name) n c.nodes) (sym same))

-- a line that isn't refused, and one that is
module _ (refusal : Option Reply) (old : Chain) (events : List Event) (reply : Reply) (new : Chain) (done : Type 0) where
  pub unless_none : refusal ≡ None → done → Unless refusal old events reply new done
  unless_none is d = subst (λ (r : Option Reply). Unless r old events reply new done) (sym is) d

  pub unless_some : (first : Reply) → refusal ≡ Some first → events ≡ [] → reply ≡ first → new ≡ old → Unless refusal old events reply new done
  unless_some first is shows says same = subst (λ (r : Option Reply). Unless r old events reply new done) (sym is) (shows, says, same)

-- a test of a refusal
abbrev refuses : Reply → Option Reply → Bool → Option Reply
refuses reply next b = if b then Some reply else next

module _ (c : Chain) (key : Key) (sdu : List ℕ) where
  -- there is no such bearer
  pub submits_nowhere : has_bearer c.tables key.remote key.drb ≡ false → Does c (Submit key sdu) [] replies.NoBearer c
  submits_nowhere none = unless_some _ c [] replies.NoBearer c _ replies.NoBearer (ap (λ (b : Bool). refuses replies.NoBearer None (not b)) none) refl refl refl

  -- the sender accepts the SDU
  pub submits : (count : ℕ) (nodes : List Node) → has_bearer c.tables key.remote key.drb ≡ true → Moves (source key) (λ old new. Submits old key sdu count new) c.nodes nodes
      → Does c (Submit key sdu) [] (replies.OkNumber count) (with_nodes c nodes)
  submits count nodes has (n, (sender, (fault, its, is_sender), is), same, set) =
      let done = subst (λ (f : Option SubmitFault). Rattle.chain_model.specs.Lines.Submits f c key sdu [] (replies.OkNumber count) (with_nodes c nodes)) (sym fault)
      (refl, ap (λ (n : ℕ). replies.OkNumber n) its, sets c (source key) n nodes same set ∙ ap (set_node c) (is ∙ ap (λ (s : Sender). set_outgoing (node_at c (source key)) (record (outgoing (node_at c (source key)) key) { sender = s })) is_sender)) in
      unless_none _ c [] (replies.OkNumber count) (with_nodes c nodes) _ (ap (λ (b : Bool). refuses replies.NoBearer None (not b)) has) done

  -- the sender refuses it for a fault
  pub submit_fails : (fault : SubmitFault) (reply : Reply) → has_bearer c.tables key.remote key.drb ≡ true → Refuses (sender_at c key) sdu fault → TellsSubmit fault reply
      → Does c (Submit key sdu) [] reply c
  submit_fails fault reply has refused told =
      unless_none _ c [] reply c _ (ap (λ (b : Bool). refuses replies.NoBearer None (not b)) has)
      (subst (λ (f : Option SubmitFault). Rattle.chain_model.specs.Lines.Submits f c key sdu [] reply c) (sym (some fault refused told)) (refl, told, refl))
    where
      some : (fault : SubmitFault) → Refuses (sender_at c key) sdu fault → TellsSubmit fault reply → submit_fault (sender_at c key) sdu ≡ Some fault
      some faults.Empty refused told = refused
      some faults.Long refused told = refused
      some faults.Spent refused told = refused
      some (faults.Full n) refused told = refused
      some faults.Memory refused told = absurd told

-- no plan of a remote is open where none was made
pub no_plan_open : (rows : List RemoteRow) (remote : Remote) → open_refusal (find (λ (p : Plan). is_remote remote p.remote) (map first_plan rows)) ≡ None
no_plan_open [] remote = refl
no_plan_open (row ∷ rows) remote = elim (cases_Bool (is_remote remote row.remote)) [
  | inl same ↦ ap open_refusal (cond-true (is_remote remote row.remote) (Some (first_plan row)) (find (λ (p : Plan). is_remote remote p.remote) (map first_plan rows)) same)
  | inr apart ↦ ap open_refusal (cond-false (is_remote remote row.remote) (Some (first_plan row)) (find (λ (p : Plan). is_remote remote p.remote) (map first_plan rows)) apart)
      ∙ no_plan_open rows remote
]

-- a status report is wanted
pub reports : (c : Chain) (key : Key) (nodes : List Node) → has_bearer c.tables key.remote key.drb ≡ true → open_refusal (plan_at c key.remote) ≡ None
    → Moves (sink key) (WantsReport key) c.nodes nodes → Does c (Report key) [] replies.Ok (with_nodes c nodes)
reports c key nodes has none (n, is, same, set) =
    unless_none _ c [] replies.Ok (with_nodes c nodes) _ (ap (λ (b : Bool). refuses replies.NoBearer (open_refusal (plan_at c key.remote)) (not b)) has ∙ none)
    (refl, refl, sets c (sink key) n nodes same set ∙ ap (set_node c) is)

-- the entity of a side that is open
its_entity : (n : Node) (port : PortName) (side : PortSide) (entity : Entity) → IsOpen n port side entity → entity_at n port ≡ Some entity
its_entity n port side entity its = ap (λ (s : Option PortSide). option_and_then entity_of s) its.here ∙ its.is_open

-- a timer of a side that is open is to run out
pub expires : (c : Chain) (port : PortName) (side : Side) (timer : Timer) (expired : Expired) (nodes : List Node) (log log' : List Event) (reply : Reply)
    → Moves (owner side port) (λ old new. ExpiresPort old port timer (Some expired) new) c.nodes nodes → Tells log log' (TellsExpired port (way_from side) expired) reply
    → Carries c (Expire port side timer) log log' reply (with_nodes c nodes)
expires c port side timer expired nodes log log' reply (n, step, same, set) (own, adds, tells) = record {
  own = own;
  does = unless_none _ c own reply (with_nodes c nodes) _
      (ap (λ (e : Option Entity). refuses replies.NoPort None (is_none e)) (its_entity (node_at c (owner side port)) port step.side step.entity step.its))
      (record { expired = expired; node = n; expires = step; tells = tells; is = sets c (owner side port) n nodes same set });
  adds = adds;
}

-- the way in which the side sends that sends in a way
way_of_sender : (way : Way) → way_from (sender_of way) ≡ way
way_of_sender Ul = refl
way_of_sender Dl = refl

-- a PDU is sent, and goes on the air
pub sends : (c : Chain) (port : PortName) (way : Way) (octets epoch : ℕ) (status : Bool) (number : ℕ) (bytes : List ℕ) (nodes : List Node) (ticket : ℕ) (air : List (Option Pdu))
    → Moves (owner (sender_of way) port) (λ old new. GrantsPort old port octets (Hop epoch (Sent status number bytes)) new) c.nodes nodes
    → ticket ≡ length c.air + 1
    → air ≡ c.air ++ Some (record { port = port; way = way; epoch = epoch; status = status; number = number; bytes = bytes }) ∷ []
    → Granted c port way octets [] (replies.Air ticket status number bytes) (record c { nodes = nodes; air = air })
sends c port way octets epoch status number bytes nodes ticket air (n, step, same, set) its_ticket its_air = record {
  epoch = epoch;
  answer = Sent status number bytes;
  node = n;
  grants = step;
  shows = refl;
  sends = (
    ap (λ (t : ℕ). replies.Air t status number bytes) its_ticket,
    ap (λ (d : Chain). let e : Chain = record d { air = air } in e) (sets c (owner (sender_of way) port) n nodes same set)
        ∙ ap (λ (a : List (Option Pdu)). let e : Chain = record (set_node c n) { air = a } in e)
        (its_air ∙ ap (λ (w : Way). c.air ++ Some (record { port = port; way = w; epoch = epoch; status = status; number = number; bytes = bytes }) ∷ []) (sym (way_of_sender way))),
  );
}

-- the relay moves an SDU
pub pushes : (c : Chain) (port : PortName) (answer : PushReply) (nodes : List Node) → Moves AtRelay (λ old new. PushesPort (queue_capacity c) old port answer new) c.nodes nodes
    → Does c (Push port) [] (push_reply answer) (with_nodes c nodes)
pushes c port answer nodes (n, step, same, set) = record { answer = answer; node = n; pushes = step; shows = refl; says = refl; is = sets c AtRelay n nodes same set }

pub pulls : (c : Chain) (port : PortName) (answer : PullReply) (nodes : List Node) → Moves AtRelay (λ old new. PullsPort old port answer new) c.nodes nodes
    → Does c (Pull port) [] (pull_reply answer) (with_nodes c nodes)
pulls c port answer nodes (n, step, same, set) = record { answer = answer; node = n; pulls = step; shows = refl; says = refl; is = sets c AtRelay n nodes same set }

-- a PDU that is on the air comes to its node, and then stays on the air or is taken off it
module _ (old new : NodesOfTables) (air : List (Option Pdu)) (pdu : Pdu) (events : List Event) (reply : Reply) (arrival : Arrival) (a : Arrives old pdu events reply arrival new) where
  abbrev c : Chain
  c = chain_at old air

  abbrev is_heard : Bool
  is_heard = arrival.is_heard

  abbrev nodes : List Node
  nodes = new.nodes

  set_here : is_heard ≡ true → with_nodes c nodes ≡ set_node c a.node
  set_here heard = sets c (owner (hearer_of pdu.way) pdu.port) a.node nodes a.its_name (a.moved heard)

  comes : (behind : Chain → Chain) (new : Chain) → (is_heard ≡ true → new ≡ behind (set_node c a.node)) → (is_heard ≡ false → new ≡ c) → Comes c pdu events reply new behind
  comes behind new heard refused = record {
    answer = a.answer;
    node = a.node;
    hears = a.hears;
    tells = a.tells;
    is = elim (cases_Bool is_heard) [
      | inl it ↦ heard it ∙ sym (cond-true (is_handed_over a.answer) (behind (set_node c a.node)) c (sym a.heard ∙ it))
      | inr left ↦ refused left ∙ sym (cond-false (is_handed_over a.answer) (behind (set_node c a.node)) c (sym a.heard ∙ left))
    ];
  }

  pub repeats : Comes c pdu events reply (with_nodes c nodes) (λ x. x)
  repeats = comes (λ x. x) (with_nodes c nodes) set_here (λ refused. ap (with_nodes c) (a.still refused))

  pub stays : (ticket : ℕ) → is_heard ≡ false → Comes c pdu events reply (with_nodes c nodes) (without ticket)
  stays ticket refused = comes (without ticket) (with_nodes c nodes) (λ heard. absurd (false≢true (sym refused ∙ heard))) (λ refused. ap (with_nodes c) (a.still refused))

  pub delivers : (ticket : ℕ) → is_heard ≡ true → Comes c pdu events reply (without ticket (with_nodes c nodes)) (without ticket)
  delivers ticket heard = comes (without ticket) (without ticket (with_nodes c nodes)) (λ heard. ap (without ticket) (set_here heard)) (λ refused. absurd (false≢true (sym refused ∙ heard)))

-- a line by which the PDU of a ticket comes to its node is carried out
pub carries_heard : (c : Chain) (line : Line) (ticket : ℕ) (pdu : Pdu) (behind : Chain → Chain) (log log' own : List Event) (reply : Reply) (new : Chain)
    → ((events : List Event) → Delivers c (on_air c.air ticket) events reply new behind → Does c line events reply new)
    → on_air c.air ticket ≡ Some pdu → Comes c pdu own reply new behind → log' ≡ log ++ own → Carries c line log log' reply new
carries_heard c line ticket pdu behind log log' own reply new does found comes adds = record {
  own = own;
  does = does own (subst (λ (p : Option Pdu). Delivers c p own reply new behind) (sym found) comes);
  adds = adds;
}

-- a PDU came to a node, whose answer is told
pub arrives : (old : NodesOfTables) (pdu : Pdu) (side : Side) (way : Way) (sent : Option Watched) (heard : NodeHeard) (log log' : List Event) (reply : Reply) (arrival : Arrival) (new : NodesOfTables)
    → side ≡ hearer_of pdu.way → way ≡ way_from side → sent ≡ sent_over old.nodes side pdu.port → Moves (owner side pdu.port) (λ o n. HearsPdu old.tables o side pdu heard n) old.nodes new.nodes
    → new.tables ≡ old.tables → (is_handed_over heard ≡ false → new ≡ old) → Tells log log' (TellsHeard pdu.port way heard) reply
    → arrival.is_heard ≡ is_handed_over heard → arrival.carried.watch ≡ watch_of heard sent
    → Tells log log' (λ events reply. Arrives old pdu events reply arrival new) reply
arrives old pdu side way sent heard log log' reply arrival new is_side is_way is_sent moves tables refused (events, adds, tells) its watch =
    let m : Moves (owner (hearer_of pdu.way) pdu.port) (λ o n. HearsPdu old.tables o (hearer_of pdu.way) pdu heard n) old.nodes new.nodes =
    subst (λ (s : Side). Moves (owner s pdu.port) (λ o n. HearsPdu old.tables o s pdu heard n) old.nodes new.nodes) is_side moves in (
      events,
      adds,
      record {
        answer = heard;
        node = m.0;
        hears = m.1;
        tells = subst (λ (w : Way). TellsHeard pdu.port w heard events reply) (is_way ∙ ap way_from is_side) tells;
        its_name = m.2;
        watches = watch ∙ ap (watch_of heard) (is_sent ∙ ap (λ (s : Side). sent_over old.nodes s pdu.port) is_side);
        heard = its;
        tables = tables;
        moved = λ it. m.3;
        still = λ left. ap (λ (n : NodesOfTables). n.nodes) (refused (sym its ∙ left));
      },
    )

-- what a PDU that comes to its node may confirm
module _ (old new : NodesOfTables) (air : List (Option Pdu)) (own : HaveOwnTags (chain_at old air)) (pdu : Pdu) (events : List Event) (reply : Reply) (arrival : Arrival)
    (a : Arrives old pdu events reply arrival new) where
  abbrev side : Side
  side = hearer_of pdu.way

  abbrev was : Chain
  was = chain_at old air

  abbrev node : Node
  node = node_at was (owner side pdu.port)

  -- the key that its port sends, with its number
  sent_before : IfSome (sent_over old.nodes side pdu.port) (λ w. w.before ≡ confirmed (sender_at was w.key))
  sent_before = by pdu.port
    where
      by : (port : PortName) → IfSome (sent_over old.nodes side port) (λ w. w.before ≡ confirmed (sender_at was w.key))
      by (Direct remote drb) = refl
      by (Pc5 remote chan) = tt
      by (Uu chan) = tt

  sent_key : option_map its_key (sent_over old.nodes side pdu.port) ≡ key_sent side pdu.port
  sent_key = by pdu.port
    where
      by : (port : PortName) → option_map its_key (sent_over old.nodes side port) ≡ key_sent side port
      by (Direct remote drb) = refl
      by (Pc5 remote chan) = refl
      by (Uu chan) = refl

  watched_before : (answer : NodeHeard) → TellsNumber side pdu.port node answer → IfSome (watch_of answer (sent_over old.nodes side pdu.port)) (λ w. w.before ≡ confirmed (sender_at was w.key))
  watched_before (answers.Report key number) tells = tells.0 ∙ ap (λ (name : NodeName). number_at (node_at was name) key) (sym tells.1)
  watched_before answers.NoPort tells = sent_before
  watched_before (answers.Air fault) tells = sent_before
  watched_before answers.Held tells = sent_before
  watched_before (answers.Slot egress) tells = sent_before
  watched_before (answers.Up key sdus) tells = sent_before
  watched_before answers.Waiting tells = sent_before
  watched_before answers.Old tells = sent_before
  watched_before answers.Twice tells = sent_before
  watched_before answers.NoCount tells = sent_before
  watched_before (answers.Discard name) tells = sent_before
  watched_before (answers.Hop h) tells = sent_before

  watched_key : (answer : NodeHeard) → option_map its_key (watch_of answer (sent_over old.nodes side pdu.port)) ≡ may_raise side pdu.port answer
  watched_key (answers.Report key number) = refl
  watched_key answers.NoPort = sent_key
  watched_key (answers.Air fault) = sent_key
  watched_key answers.Held = sent_key
  watched_key (answers.Slot egress) = sent_key
  watched_key (answers.Up key sdus) = sent_key
  watched_key answers.Waiting = sent_key
  watched_key answers.Old = sent_key
  watched_key answers.Twice = sent_key
  watched_key answers.NoCount = sent_key
  watched_key (answers.Discard name) = sent_key
  watched_key (answers.Hop h) = sent_key

  -- a PDU that isn't handed over is answered by no report
  refused_before : (answer : NodeHeard) → is_handed_over answer ≡ false → TellsNumber side pdu.port node answer
  refused_before (answers.Report key number) refused = absurd (true≢false refused)
  refused_before answers.NoPort refused = tt
  refused_before (answers.Air fault) refused = tt
  refused_before answers.Held refused = tt
  refused_before (answers.Slot egress) refused = tt
  refused_before (answers.Up key sdus) refused = tt
  refused_before answers.Waiting refused = tt
  refused_before answers.Old refused = tt
  refused_before answers.Twice refused = tt
  refused_before answers.NoCount refused = tt
  refused_before (answers.Discard name) refused = tt
  refused_before (answers.Hop h) refused = tt

  own_tags : (port : PortName) → KeepsOwnTags (node_at was (owner side port)) side port
  own_tags (Direct remote drb) = own side remote drb
  own_tags (Pc5 remote chan) = tt
  own_tags (Uu chan) = tt

  -- the numbers where the PDU was handed over, and where it wasn't
  pub watches_it : (air' : List (Option Pdu)) → Watches was arrival.carried.watch (chain_at new air')
  watches_it air' = subst (λ (w : Option Watched). Watches was w (chain_at new air')) (sym a.watches) (elim (cases_Bool arrival.is_heard) [
    | inl it ↦
        let confirms = pdu_confirms old.tables node side pdu (own_tags pdu.port) a.answer a.node (sym a.heard ∙ it) a.hears in
        record {
          tables = a.tables;
          before = watched_before a.answer confirms.tells;
          others = λ k ne. ap (λ (ns : List Node). number_at (node_in ns (source k)) k) (a.moved it ∙ ap (λ (name : NodeName). replaced (λ (x : Node). is_node name x.name) a.node old.nodes) (sym a.its_name))
              ∙ view_same (λ (m : Node). number_at m k) was a.node
              (confirms.keeps.others k (λ e. ne (watched_key a.answer ∙ e)) ∙ ap (λ (name : NodeName). number_at (node_at was name) k) (sym a.its_name)) (source k);
        }
    | inr left ↦ record {
      tables = a.tables;
      before = watched_before a.answer (refused_before a.answer (sym a.heard ∙ left));
      others = λ k ne. ap (λ (ns : List Node). number_at (node_in ns (source k)) k) (a.still left);
    }
  ])
