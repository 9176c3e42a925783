-- Each line but those that hear a PDU keeps what holds of a chain on direct ports.
use Rattle.std.proofs.Common.{◌≡◌, inl, inr, ℕ, Bool, true, false, List, [], ◌∷◌, ◌++◌, length, map, Option, Some, None, option_and_then, refl, sym, ◌∙◌, ap, subst, arith}
use Rattle.std.specs.List.{AllZip}
use Rattle.std.proofs.lemmas.Bool.{cases_lt, true≢false}
use Rattle.std.proofs.lemmas.Option.{none-some}
use Rattle.std.proofs.lemmas.List.{get_or_append_left, get_or_past}
use Rattle.link_base.specs.declared.names.Drb.{Drb}
use Rattle.link_base.specs.declared.names.Key.{Key}
use Rattle.link_base.specs.declared.names.PortName.{PortName}
use Rattle.link_base.specs.declared.names.PortName.TheVariants.{Direct}
use Rattle.link_base.specs.declared.names.Remote.{Remote}
use Rattle.link_base.specs.declared.names.Side.{Side}
use Rattle.link_base.specs.declared.names.Side.TheVariants.{Low, High}
use Rattle.link_base.specs.declared.names.Timer.{Timer}
use Rattle.link_base.specs.declared.names.Way.{Way}
use Rattle.rlc_model.specs.declared.hop.HopGrant.{HopGrant}
use Rattle.rlc_model.specs.declared.hop.HopGrant.TheVariants as grant
use Rattle.rlc_model.specs.declared.hop.Pdu.{Pdu}
use Rattle.rlc_model.specs.Rx.{Rx}
use Rattle.rlc_model.specs.Sides.{Entity, across, sender_of}
use Rattle.rlc_model.specs.Tx.{Tx, tx_next}
use Rattle.pdcp_model.specs.declared.answers.SubmitFault.{SubmitFault}
use Rattle.pdcp_model.specs.Sender.{Sender, accepts}
use Rattle.pdcp_model.specs.Receiver.{Receiver}
use Rattle.script_text.specs.declared.event.Event.{Event}
use Rattle.script_text.specs.declared.reply.Reply.{Reply}
use Rattle.node_model.specs.declared.parcel.Parcel.{Parcel}
use Rattle.node_model.specs.declared.answers.PushReply.{PushReply}
use Rattle.node_model.specs.declared.answers.PushReply.TheVariants as pushed
use Rattle.node_model.specs.declared.answers.PullReply.{PullReply}
use Rattle.node_model.specs.declared.answers.PullReply.TheVariants as pulled
use Rattle.node_model.specs.Names.{NodeName, AtRelay, owner, source, sink, is_node}
use Rattle.node_model.specs.Relaying.{PushesPort, PullsPort}
use Rattle.node_model.specs.Sides.{IsOpen}
use Rattle.node_model.specs.State.{PortSide, Outgoing, Incoming, Node, side_at, entity_at, entity_of, outgoing, incoming, set_side, set_entity, set_outgoing, set_incoming}
use Rattle.node_model.proofs.Names.{cases_key, cases_port}
use Rattle.chain_model.proofs.Lookups.{incoming_key, outgoing_key}
use Rattle.chain_model.specs.Bursts.{Ingress, Egress, Ingests, Emits, Bursts, all_put, inbox, behind_ingress, behind_egress}
use Rattle.chain_model.specs.Lines.{Unless, Submits, Granted, Sends, Loses, without, Stages, Expires, PushesAt, PullsAt, queue_capacity, Wants}
use Rattle.chain_model.specs.State.{Chain, node_at, set_node, sender_at}
use Rattle.chain_law.specs.Calls.{KeepsTags, CompletesNone}
use Rattle.chain_law.proofs.Nodes.{port_of, side_name}
use Rattle.chain_law.proofs.Leaving.{NodeSame, entity_other, in_same, out_kept, same_entity, same_in, same_itself, same_out, same_side, same_then}
use Rattle.direct_run_law.specs.Foundations.{CallLaws}
use Rattle.direct_run_law.proofs.Carried.{Fits, SenderKeeps, fits_still, keeps_itself, grows_itself, tags_themselves, none_itself}
use Rattle.direct_run_law.proofs.Ends.{Half, sent, heard, Goes, goes_rows, goes_entity}
use Rattle.direct_run_law.proofs.Hops.{granted_long, expired_long}
use Rattle.direct_run_law.proofs.Confirming.{out_keeps}
use Rattle.direct_run_law.proofs.Chains.{Holds, half_on, holds_beside, holds_set}

-- a side that is closed stays so where another's entity is set
pub closed_set : (n : Node) (port q : PortName) (side : PortSide) (entity now : Entity) → side_at n port ≡ Some side → side.entity ≡ Some entity → entity_at n q ≡ None
    → entity_at (set_entity n side now) q ≡ None
closed_set n port q side entity now here is_open none = elim (cases_port q port) [
  | inl is ↦ absurd (none-some entity (sym none ∙ ap (entity_at n) is ∙ ap (option_and_then entity_of) here ∙ is_open))
  | inr ne ↦ entity_other n port q side now here ne ∙ none
]

-- an entity is called so that it completes nothing and tells no tag
pub calls_hold : (c : Chain) (x : NodeName) (port : PortName) (side : PortSide) (entity : Entity) (tx : Tx) (rx : Rx) → IsOpen (node_at c x) port side entity
    → KeepsTags entity.tx tx → tx_next tx ≡ tx_next entity.tx → CompletesNone entity.rx rx
    → Holds c → Holds (set_node c (set_entity (node_at c x) side (record entity { tx = tx; rx = rx })))
calls_hold c x port side entity tx rx its tags long none = holds_set c x (set_entity n side now) (same_entity n side now)
    (λ remote drb at own closed. closed_set n port (Direct remote drb) side entity now its.here its.is_open closed)
    (λ remote drb at own j. goes remote drb at (half_on c remote drb (across at) (j.entity (across at))))
  where
    n : Node
    n = node_at c x

    now : Entity
    now = record entity { tx = tx; rx = rx }

    goes : (remote : Remote) (drb : Drb) (at : Side) (o : Half) → Goes remote drb at o n (set_entity n side now)
    goes remote drb at o = goes_entity remote drb at o n port side entity now (set_entity n side now) its.here its.is_open refl (λ q. refl)
        (λ is fits. (
          fits_still (sent remote drb at) o.receiver _ _ _ _ (keeps_itself o.receiver (outgoing n (sent remote drb at)).sender)
              (grows_itself (incoming n (heard remote drb at)).receiver) entity.tx tx o.rx o.rx tags (omega (arith, long)) (none_itself o.rx) fits.0,
          fits_still (heard remote drb at) (incoming n (heard remote drb at)).receiver _ _ _ _ (keeps_itself (incoming n (heard remote drb at)).receiver o.sender)
              (grows_itself o.receiver) o.tx o.tx entity.rx rx (tags_themselves o.tx) (omega arith) none fits.1,
        ))
        (λ ne e fits. fits)

-- where there is a refusal nothing changes
pub unless_holds : (refusal : Option Reply) (old : Chain) (events : List Event) (reply : Reply) (new : Chain) (done : Type 0) → Holds old → (done → Holds new)
    → Unless refusal old events reply new done → Holds new
unless_holds (Some r) old events reply new done h goes u = subst Holds (sym u.2) h
unless_holds None old events reply new done h goes u = goes u

module _ (calls : CallLaws) where
  pub granted_holds : (old : Chain) (port : PortName) (way : Way) (octets : ℕ) (events : List Event) (reply : Reply) (new : Chain) → Holds old
      → Granted old port way octets events reply new → Holds new
  granted_holds old port way octets events reply new h g = by g.answer g.sends
    where
      kept : KeepsTags g.grants.entity.tx g.grants.tx × CompletesNone g.grants.entity.rx g.grants.rx
      kept = calls.granting g.grants.entity.tx g.grants.entity.rx octets g.answer g.grants.tx g.grants.rx g.grants.grants

      called : Holds (set_node old g.node)
      called = subst (λ (m : Node). Holds (set_node old m)) (sym g.grants.is)
          (calls_hold old (owner (sender_of way) port) port g.grants.side g.grants.entity g.grants.tx g.grants.rx g.grants.its kept.0
          (granted_long g.grants.entity.tx g.grants.entity.rx octets g.answer g.grants.tx g.grants.rx g.grants.grants) kept.1 h)

      by : (answer : HopGrant) → Sends old g.node port way g.epoch answer reply new → Holds new
      by (grant.Sent status number bytes) s = subst Holds (sym s.1) (holds_beside (set_node old g.node) _ refl refl called)
      by grant.Idle s = subst Holds (sym s.1) h
      by (grant.Small need) s = subst Holds (sym s.1) h

  pub expires_hold : (old : Chain) (port : PortName) (at : Side) (timer : Timer) (events : List Event) (reply : Reply) (new : Chain) → Holds old
      → Expires old port at timer events reply new → Holds new
  expires_hold old port at timer events reply new h x =
      let e = x.expires in
      let kept = calls.expiry e.entity.tx e.entity.rx timer x.expired e.tx e.rx e.expires in
      subst Holds (sym x.is) (subst (λ (m : Node). Holds (set_node old m)) (sym e.is)
      (calls_hold old (owner at port) port e.side e.entity e.tx e.rx e.its kept.0 (expired_long e.entity.tx e.entity.rx timer x.expired e.tx e.rx e.expires) kept.1 h))

-- a sender that accepts an SDU keeps all others
accepts_keep : (r : Receiver) (s : Sender) (sdu : List ℕ) → SenderKeeps r s (accepts s sdu)
accepts_keep r s sdu = record {
  size = refl;
  first = refl;
  place = omega arith;
  waits = refl;
  kept = λ m other is unheard. elim (cases_lt m (length s.kept)) [
    | inl low ↦ get_or_append_left s.kept (Some sdu ∷ []) None m low ∙ is
    | inr high ↦ absurd (none-some other (sym (get_or_past s.kept m None high) ∙ is))
  ];
}

pub submits_hold : (old : Chain) (key : Key) (sdu : List ℕ) (events : List Event) (reply : Reply) (new : Chain) (fault : Option SubmitFault) → Holds old
    → Submits fault old key sdu events reply new → Holds new
submits_hold old key sdu events reply new (Some fault) h s = subst Holds (sym s.2) h
submits_hold old key sdu events reply new None h s = subst Holds (sym s.2) (holds_set old (source key) m (same_out n row) (λ remote drb at own closed. closed)
    (λ remote drb at own j. goes remote drb at (half_on old remote drb (across at) (j.entity (across at)))) h)
  where
    n : Node
    n = node_at old (source key)

    t : Sender
    t = accepts (sender_at old key) sdu

    row : Outgoing
    row = record (outgoing n key) { sender = t }

    m : Node
    m = set_outgoing n row

    keeps : (r : Receiver) (k : Key) → SenderKeeps r (outgoing n k).sender (outgoing m k).sender
    keeps r k = elim (cases_key key k) [
      | inl is ↦ subst (λ (x : Key). SenderKeeps r (outgoing n k).sender
          (outgoing (set_outgoing n (record (outgoing n x) { sender = accepts (outgoing n x).sender sdu })) k).sender) (sym is)
          (out_keeps r n k (accepts (outgoing n k).sender sdu) (accepts_keep r (outgoing n k).sender sdu))
      | inr ne ↦ subst (λ (o : Outgoing). SenderKeeps r (outgoing n k).sender o.sender) (sym (out_kept n row k (λ e. ne (sym (outgoing_key n key) ∙ e))))
          (keeps_itself r (outgoing n k).sender)
    ]

    goes : (remote : Remote) (drb : Drb) (at : Side) (o : Half) → Goes remote drb at o n m
    goes remote drb at o = goes_rows remote drb at o n m refl (λ e fits. (
      fits_still (sent remote drb at) o.receiver _ _ _ _ (keeps o.receiver (sent remote drb at)) (grows_itself (incoming n (heard remote drb at)).receiver) e.tx e.tx o.rx o.rx
          (tags_themselves e.tx) (omega arith) (none_itself o.rx) fits.0,
      fits.1,
    ))

-- a report is wanted
pub wants_hold : (old : Chain) (key : Key) (events : List Event) (reply : Reply) (new : Chain) → Holds old → Wants old key events reply new → Holds new
wants_hold old key events reply new h w = subst Holds (sym w.2) (holds_set old (sink key) (set_incoming n row) (same_in n row) (λ remote drb at own closed. closed)
    (λ remote drb at own j. goes remote drb at (half_on old remote drb (across at) (j.entity (across at)))) h)
  where
    n : Node
    n = node_at old (sink key)

    row : Incoming
    row = record (incoming n key) { wanted = true }

    goes : (remote : Remote) (drb : Drb) (at : Side) (o : Half) → Goes remote drb at o n (set_incoming n row)
    goes remote drb at o =
        let same = in_same n key row (incoming_key n key) refl (heard remote drb at) in
        goes_rows remote drb at o n (set_incoming n row) refl (λ e fits. (
          subst (λ (r : Receiver). Fits (sent remote drb at) e.tx o.rx (outgoing n (sent remote drb at)).sender o.receiver r) (sym same) fits.0,
          subst (λ (r : Receiver). Fits (heard remote drb at) o.tx e.rx o.sender r o.receiver) (sym same) fits.1,
        ))

-- the relay has no end of a direct port
abbrev is_relay : NodeName → Bool
is_relay name = is_node AtRelay name

apart : (side : Side) (remote : Remote) (drb : Drb) → is_relay (owner side (Direct remote drb)) ≡ false
apart Low remote drb = refl
apart High remote drb = refl

pub relay_holds : (old : Chain) (m : Node) → NodeSame (node_at old AtRelay) m → Holds old → Holds (set_node old m)
relay_holds old m same = holds_set old AtRelay m same
    (λ remote drb at own closed. absurd (true≢false (sym (ap is_relay own) ∙ apart at remote drb)))
    (λ remote drb at own j. absurd (true≢false (sym (ap is_relay own) ∙ apart at remote drb)))

push_same : (capacity : ℕ) (n : Node) (port : PortName) (answer : PushReply) (m : Node) → PushesPort capacity n port answer m → NodeSame n m
push_same capacity n port (pushed.Done egress) m p =
    let empty : PortSide = record p.1.from { slot = None } in
    let full : PortSide = record p.1.to { queue = p.1.to.queue ++ p.1.parcel ∷ [] } in
    subst (NodeSame n) (sym (p.1.is ∙ ap (λ (x : Node). set_side x full) p.1.empties))
    (same_then n (set_side n empty) (set_side (set_side n empty) full) (same_side n empty) (same_side (set_side n empty) full))
push_same capacity n port pushed.NoPort m p = subst (NodeSame n) (sym p.1) (same_itself n)
push_same capacity n port pushed.Nothing m p = subst (NodeSame n) (sym p.1) (same_itself n)
push_same capacity n port pushed.QueueFull m p = subst (NodeSame n) (sym p.1) (same_itself n)

pull_same : (n : Node) (port : PortName) (answer : PullReply) (m : Node) → PullsPort n port answer m → NodeSame n m
pull_same n port (pulled.Done number) m p = subst (NodeSame n) (sym p.1.is) (same_side n (record p.1.side { entity = Some (record p.1.entity { tx = p.1.tx }); queue = p.1.parcels }))
pull_same n port pulled.NoPort m p = subst (NodeSame n) (sym p.1) (same_itself n)
pull_same n port pulled.Empty m p = subst (NodeSame n) (sym p.1) (same_itself n)
pull_same n port pulled.Stalled m p = subst (NodeSame n) (sym p.1) (same_itself n)

pub pushes_hold : (old : Chain) (port : PortName) (events : List Event) (reply : Reply) (new : Chain) → Holds old → PushesAt old port events reply new → Holds new
pushes_hold old port events reply new h p = subst Holds (sym p.is) (relay_holds old p.node (push_same (queue_capacity old) (node_at old AtRelay) port p.answer p.node p.pushes) h)

pub pulls_hold : (old : Chain) (port : PortName) (events : List Event) (reply : Reply) (new : Chain) → Holds old → PullsAt old port events reply new → Holds new
pulls_hold old port events reply new h p = subst Holds (sym p.is) (relay_holds old p.node (pull_same (node_at old AtRelay) port p.answer p.node p.pulls) h)

-- a side keeps its name in a burst
side_kept : (n : Node) (port : PortName) (s : PortSide) → side_at n port ≡ Some s → s.name ≡ port
side_kept n port s is = sym (side_name n port s is)

ingress_kept : {c : Chain} {s now : PortSide} {tickets left : List ℕ} {told : List Event} {put : List Parcel} → Ingests c s tickets told put left now → now.name ≡ s.name
ingress_kept (Ingests.ends none) = refl
ingress_kept (Ingests.stops full) = refl
ingress_kept (Ingests.pushes parcel full more) = ingress_kept more
ingress_kept {s = s} (Ingests.hears {mid = mid} ticket pdu reply free shown treats more) = ingress_kept more ∙ side_kept (node_at treats.1 AtRelay) s.name mid treats.3

ingresses_kept : (c : Chain) (ports : List PortSide) (is : List Ingress)
    → AllZip (λ (s : PortSide) (i : Ingress). Ingests c s (inbox c s.name) i.heard i.put i.left i.behind) ports is → map port_of (map behind_ingress is) ≡ map port_of ports
ingresses_kept c [] [] all = refl
ingresses_kept c (s ∷ ss) (i ∷ is) all = ap (λ (p : PortName). p ∷ map port_of (map behind_ingress is)) (ingress_kept all.0)
    ∙ ap (λ (ps : List PortName). s.name ∷ ps) (ingresses_kept c ss is all.1)
ingresses_kept c [] (i ∷ is) all = absurd all
ingresses_kept c (s ∷ ss) [] all = absurd all

egresses_kept : (capacity : ℕ) (put : List Parcel) (ports : List PortSide) (es : List Egress) → AllZip (Emits capacity put) ports es
    → map port_of (map behind_egress es) ≡ map port_of ports
egresses_kept capacity put [] [] all = refl
egresses_kept capacity put (s ∷ ss) (e ∷ es) all = ap (λ (p : PortName). p ∷ map port_of (map behind_egress es)) (ap port_of all.0.is)
    ∙ ap (λ (ps : List PortName). s.name ∷ ps) (egresses_kept capacity put ss es all.1)
egresses_kept capacity put [] (e ∷ es) all = absurd all
egresses_kept capacity put (s ∷ ss) [] all = absurd all

burst_ports : (old : Chain) (events : List Event) (reply : Reply) (new : Chain) (b : Bursts old events reply new)
    → map port_of (map behind_egress b.egresses) ≡ map port_of (node_at old AtRelay).ports
burst_ports old events reply new b = egresses_kept (queue_capacity old) (all_put b.ingresses) (map behind_ingress b.ingresses) b.egresses b.emit
    ∙ ingresses_kept old (node_at old AtRelay).ports b.ingresses b.ingest

pub bursts_hold : (old : Chain) (events : List Event) (reply : Reply) (new : Chain) → Holds old → Bursts old events reply new → Holds new
bursts_hold old events reply new h b = subst Holds (sym b.is)
    (holds_beside (set_node old (record (node_at old AtRelay) { ports = map behind_egress b.egresses })) _ refl refl
    (relay_holds old _ (record { name = refl; ports = burst_ports old events reply new b; attached = refl; outs = refl; ins = refl }) h))

pub loses_hold : (old : Chain) (pdu : Option Pdu) (ticket : ℕ) (events : List Event) (reply : Reply) (new : Chain) → Holds old → Loses old pdu ticket events reply new → Holds new
loses_hold old None ticket events reply new h x = subst Holds (sym x.2) h
loses_hold old (Some pdu) ticket events reply new h x = subst Holds (sym x.2) (holds_beside old (without ticket old) refl refl h)

pub stages_hold : (old : Chain) (ticket : ℕ) (events : List Event) (reply : Reply) (new : Chain) → Holds old → Stages old ticket events reply new → Holds new
stages_hold old ticket events reply new h x = subst Holds (sym x.2) (holds_beside old _ refl refl h)
