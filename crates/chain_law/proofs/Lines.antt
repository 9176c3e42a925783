-- Each line but those that deliver, burst and apply keeps what holds of a chain.
use Rattle.std.proofs.Common.{◌≡◌, ◌⊎◌, inl, inr, ℕ, ◌+◌, ◌≤◌, Bool, true, false, cond, eqb, nat_lt, nat_le, List, [], ◌∷◌, ◌++◌, length, count_by, Option, Some, None, is_some, is_none, option_and_then, refl, sym, ◌∙◌, ap, subst, arith}
use Rattle.std.specs.List.{AllByRecursion}
use Rattle.std.proofs.lemmas.Bool.{cases_Bool, cond-true, cond-false, ltb-false, leb-false, eqb-false}
use Rattle.std.proofs.lemmas.Option.{none-some, same_Some}
use Rattle.std.proofs.lemmas.List.{length_push}
use Rattle.link_base.specs.declared.limits.TheConstants.{LONGEST_PDCP_SDU}
use Rattle.link_base.specs.declared.names.Goal.{Goal}
use Rattle.link_base.specs.declared.names.Key.{Key}
use Rattle.link_base.specs.declared.names.Node.{Node as NodeKind}
use Rattle.link_base.specs.declared.names.Node.TheVariants as kinds
use Rattle.link_base.specs.declared.names.PortName.{PortName}
use Rattle.link_base.specs.declared.names.Remote.{Remote}
use Rattle.link_base.specs.declared.names.Side.{Side}
use Rattle.link_base.specs.declared.names.Timer.{Timer}
use Rattle.link_base.specs.declared.names.Timer.TheVariants.{Poll, Reasm, Prohibit}
use Rattle.link_base.specs.declared.names.Way.{Way}
use Rattle.link_base.specs.declared.names.Way.TheVariants.{Ul, Dl}
use Rattle.link_base.specs.declared.rlc_words.Expired.{Expired}
use Rattle.link_base.specs.declared.rlc_words.Expired.TheVariants.{Done, Marked, Stopped}
use Rattle.rlc_model.specs.declared.hop.HopGrant.{HopGrant}
use Rattle.rlc_model.specs.declared.hop.HopGrant.TheVariants as grant
use Rattle.rlc_model.specs.declared.hop.Pdu.{Pdu}
use Rattle.rlc_model.specs.Hop.{sent_from, ExpiresHop}
use Rattle.rlc_model.specs.Sides.{Entity, sender_of, way_from}
use Rattle.rlc_law.specs.Hop.Event.{Give}
use Rattle.rlc_law.specs.Ports.{Port, IsSide}
use Rattle.rlc_law.specs.PortLaws.{GrantLeaves, ExpiryLeaves, expiring, timing, about, granting}
use Rattle.pdcp_pdu.specs.Pdcp.{IsBody}
use Rattle.pdcp_model.specs.declared.answers.SubmitFault.{SubmitFault}
use Rattle.pdcp_model.specs.declared.answers.SubmitFault.TheVariants.{Empty, Long}
use Rattle.pdcp_model.specs.Sender.{Sender, submit_fault, accepts}
use Rattle.script_text.specs.declared.event.Event.{Event}
use Rattle.script_text.specs.declared.reply.Reply.{Reply}
use Rattle.script_text.specs.declared.reply.Reply.TheVariants.{NoPort, AirFull, Worn}
use Rattle.node_model.specs.declared.answers.PushReply.{PushReply}
use Rattle.node_model.specs.declared.answers.PushReply.TheVariants as pushed
use Rattle.node_model.specs.declared.answers.PullReply.{PullReply}
use Rattle.node_model.specs.declared.answers.PullReply.TheVariants as pulled
use Rattle.node_model.specs.Names.{AtRelay, owner, source, sink, is_remote}
use Rattle.node_model.specs.State.{PortSide, Node, side_at, entity_of, outgoing}
use Rattle.node_model.specs.Sides.{ExpiresSide}
use Rattle.node_model.specs.Relaying.{parcel_tag, PushesPort, Pushes, PullsPort, Pulls}
use Rattle.chain_model.specs.declared.plan.Plan.{Plan}
use Rattle.chain_model.specs.State.{Chain, node_at, set_node, plan_at, set_plan, sender_at, receiving_at}
use Rattle.chain_model.specs.Plans.{next_plan, has_applied}
use Rattle.chain_model.specs.Told.{kind_of}
use Rattle.chain_model.specs.Lines.{Unless, Submits, grant_refusal, Granted, Sends, Loses, Stages, Expires, PushesAt, PullsAt, queue_capacity, Wants, Plans}
use Rattle.chain_law.specs.Entities.{next_epoch}
use Rattle.node_model.proofs.Names.{remote_is, remote_refl, remote_apart, cases_remote}
use Rattle.node_model.proofs.Finding.{find_passes, find_hit, find_miss, each_replaced, each_append}
use Rattle.chain_law.proofs.Counting.{place_more, moves_most, is_delivery}
use Rattle.chain_law.specs.Foundations.{RlcLaws}
use Rattle.chain_law.proofs.Stands.{Logs, Stands, Moved, stays, moves, is_quiet, put, put_here, put_changes, stands_sent, all_seen, no_rest}
use Rattle.chain_law.proofs.Nodes.{NodeFits, SideFits, SenderFits, ParcelFits, outgoing_fits, side_fits, called_fits, fits_side, side_set, Goes, goes_nowhere, goes_on, goes_outgoing, goes_incoming, goes_changed, goes_called, goes_called_as}
use Rattle.chain_law.proofs.Chains.{Holds, view, node_fits, node_name, node_there, put_own, set_stands, goes_set, off_holds}

-- where there is a refusal nothing changes
pub unless_keeps : (P : Chain → Type 0) (refusal : Option Reply) (old : Chain) (events : List Event) (reply : Reply) (new : Chain) (done : Type 0) → P old
    → (refusal ≡ None → done → P new) → Unless refusal old events reply new done → P new
unless_keeps P (Some r) old events reply new done h goes u = subst P (sym u.2) h
unless_keeps P None old events reply new done h goes u = goes refl u

pub unless_holds : {q : Logs} (refusal : Option Reply) (old : Chain) (events : List Event) (reply : Reply) (new : Chain) (done : Type 0) → Holds q old
    → (refusal ≡ None → done → Holds q new)
    → Unless refusal old events reply new done → Holds q new
unless_holds {q} = unless_keeps (Holds q)

-- an SDU that a sender doesn't refuse is one that PDCP can take
no_fault : (s : Sender) (sdu : List ℕ) → submit_fault s sdu ≡ None → IsBody sdu
no_fault s sdu none = elim (cases_Bool (eqb (length sdu) 0)) [
  | inl empty ↦ absurd (none-some _ (sym none ∙ cond-true (eqb (length sdu) 0) (Some Empty) _ empty))
  | inr some ↦
      let next = sym (cond-false (eqb (length sdu) 0) (Some Empty) _ some) ∙ none in
      elim (cases_Bool (nat_lt LONGEST_PDCP_SDU (length sdu))) [
        | inl long ↦ absurd (none-some _ (sym next ∙ cond-true (nat_lt LONGEST_PDCP_SDU (length sdu)) (Some Long) _ long))
        | inr most ↦ (omega (arith, eqb-false (length sdu) 0 some), omega (arith, ltb-false LONGEST_PDCP_SDU (length sdu) most))
      ]
]

accepted_fits : (s : Sender) (sdu : List ℕ) → SenderFits s → IsBody sdu → SenderFits (accepts s sdu)
accepted_fits s sdu fits body n other e = elim (place_more s.kept sdu other n e) [
  | inl before ↦ fits n other before
  | inr this ↦ subst IsBody (sym this) body
]

-- a grant that isn't refused has a ticket left
ticket_left : (c : Chain) (port : PortName) (way : Way) → grant_refusal c port way ≡ None → length c.air + 1 ≤ 2305843009213693952
ticket_left c port way none = elim (cases_Bool a) [
  | inl no_port ↦ absurd (none-some _ (sym none ∙ cond-true a (Some NoPort) _ no_port))
  | inr there ↦
      let next = sym (cond-false a (Some NoPort) _ there) ∙ none in
      elim (cases_Bool (nat_le 16384 (count_by is_some c.air))) [
        | inl full ↦ absurd (none-some _ (sym next ∙ cond-true (nat_le 16384 (count_by is_some c.air)) (Some AirFull) _ full))
        | inr room ↦
            let last = sym (cond-false (nat_le 16384 (count_by is_some c.air)) (Some AirFull) _ room) ∙ next in
            elim (cases_Bool (nat_le 2305843009213693952 (length c.air))) [
              | inl worn ↦ absurd (none-some _ (sym last ∙ cond-true (nat_le 2305843009213693952 (length c.air)) (Some Worn) None worn))
              | inr left ↦ omega (arith, leb-false 2305843009213693952 (length c.air) left)
            ]
      ]
]
  where
    a : Bool
    a = is_none (Rattle.chain_model.specs.State.entity_on c (sender_of way) port)

-- the side that sends in a way sends in it
sends_its_way : (way : Way) → way_from (sender_of way) ≡ way
sends_its_way Ul = refl
sends_its_way Dl = refl

expiry_quiet : (timer : Timer) → is_quiet (expiring timer) ≡ true
expiry_quiet Poll = refl
expiry_quiet Reasm = refl
expiry_quiet Prohibit = refl

-- a grant has the receiver hear no data PDU
granting_silent : (status : Bool) (octets : ℕ) → is_delivery (granting status octets) ≡ false
granting_silent true octets = refl
granting_silent false octets = refl

module _ (l : RlcLaws) where
  pub submits_hold : {q : Logs} (old : Chain) (key : Key) (sdu : List ℕ) (events : List Event) (reply : Reply) (new : Chain) → Holds q old
      → Submits (submit_fault (sender_at old key) sdu) old key sdu events reply new → Holds q new
  submits_hold {q} old key sdu events reply new h = go (submit_fault (sender_at old key) sdu) refl
    where
      go : (fault : Option SubmitFault) → submit_fault (sender_at old key) sdu ≡ fault → Submits fault old key sdu events reply new → Holds q new
      go (Some fault) is s = subst (Holds _) (sym s.2) h
      go None is s = subst (Holds _) (sym s.2) (goes_set l old (source key) _ h
          (goes_outgoing (node_at old (source key)) (record (outgoing (node_at old (source key)) key) { sender = accepts (sender_at old key) sdu }) (node_fits old h (source key))
          (accepted_fits (sender_at old key) sdu (outgoing_fits (node_at old (source key)) key (node_fits old h (source key))) (no_fault (sender_at old key) sdu is))))

  pub granted_holds : {q : Logs} (old : Chain) (port : PortName) (way : Way) (octets : ℕ) (events : List Event) (reply : Reply) (new : Chain) → Holds q old
      → grant_refusal old port way ≡ None → Granted old port way octets events reply new → Holds q new
  granted_holds {q} old port way octets events reply new h none g = by g.answer (sender_sends g.answer g.grants.grants) g.sends
    where
      n : Node
      n = node_at old (owner (sender_of way) port)

      side : PortSide
      side = g.grants.side

      entity : Entity
      entity = g.grants.entity

      now : PortSide
      now = record side { entity = Some (record entity { tx = g.grants.tx; rx = g.grants.rx }) }

      s : Stands q old.tables (put (view old) (owner (sender_of way) port) (side_at n)) h.limit old.air
      s = put_own old.nodes (owner (sender_of way) port) h.stands

      there : put (view old) (owner (sender_of way) port) (side_at n) (owner (sender_of way) port) port ≡ Some side
      there = put_here (view old) (owner (sender_of way) port) (side_at n) (owner (sender_of way) port) port refl ∙ g.grants.its.here

      its : (p : Port) × (s.ports port entity.epoch ≡ Some p) × IsSide p (sender_of way) entity.tx entity.rx
      its = s.sides.open_port (sender_of way) port entity (ap (option_and_then entity_of) there ∙ g.grants.its.is_open)

      sender_sends : (answer : HopGrant) → Rattle.rlc_model.specs.Hop.GrantsHop entity.tx entity.rx octets answer g.grants.tx g.grants.rx
          → GrantLeaves its.0 (sender_of way) octets answer g.grants.tx g.grants.rx
      sender_sends answer gr = l.grant_moves its.0 (sender_of way) entity.tx entity.rx its.2 octets answer g.grants.tx g.grants.rx gr

      by : (answer : HopGrant) → GrantLeaves its.0 (sender_of way) octets answer g.grants.tx g.grants.rx → Sends old g.node port way g.epoch answer reply new → Holds q new
      by (grant.Sent status number bytes) made sent = subst (Holds _) (sym sent.1) (record {
        stands = subst (λ (epoch : ℕ). Stands q old.tables (view (set_node old g.node)) h.limit (old.air ++ Some (sent_from port (sender_of way) epoch status number bytes) ∷ []))
            (sym g.grants.its_epoch)
            (subst (λ (m : Node). Stands q old.tables (view (set_node old m)) h.limit (old.air ++ Some (sent_from port (sender_of way) entity.epoch status number bytes) ∷ []))
            (sym g.grants.is)
            (set_stands old (owner (sender_of way) port) behind n (node_name old (owner (sender_of way) port))
            (node_there old (owner (sender_of way) port) port side g.grants.its.here) on_air));
        limit = h.limit;
        apart = h.apart;
        fresh = h.fresh;
        nodes = each_replaced NodeFits _ g.node
            (subst NodeFits (sym g.grants.is)
            (fits_side n now (node_fits old h (owner (sender_of way) port))
            (called_fits n port side _ (node_fits old h (owner (sender_of way) port)) g.grants.its.here))) old.nodes h.nodes;
        tickets = omega (arith, ticket_left old port way none, length_push old.air (Some (sent_from port (sender_of way) g.epoch status number bytes)));
      })
        where
          behind : Node
          behind = Rattle.node_model.specs.State.set_side n now

          on_air : Stands q old.tables (put (view old) (owner (sender_of way) port) (side_at behind)) h.limit
              (old.air ++ Some (sent_from port (sender_of way) entity.epoch status number bytes) ∷ [])
          on_air = stands_sent l s (sender_of way) port side now entity g.grants.tx g.grants.rx there g.grants.its.is_open refl refl
              (put (view old) (owner (sender_of way) port) (side_at behind))
              (put_changes all_seen no_rest n behind (view old) (owner (sender_of way) port) (sender_of way) port now refl refl (side_set n port side now g.grants.its.here refl))
              its.0 its.1 (about status (way_from (sender_of way))) (granting status octets) made.behind made.moves (granting_silent status octets)
              (moves_most (about status (way_from (sender_of way))) made.moves.moves) status number bytes made.made
      by grant.Idle made sent = subst (Holds _) (sym sent.1) h
      by (grant.Small need) made sent = subst (Holds _) (sym sent.1) h

  pub loses_hold : {q : Logs} (old : Chain) (pdu : Option Pdu) (ticket : ℕ) (events : List Event) (reply : Reply) (new : Chain) → Holds q old
      → Loses old pdu ticket events reply new → Holds q new
  loses_hold old None ticket events reply new h x = subst (Holds _) (sym x.2) h
  loses_hold old (Some pdu) ticket events reply new h x = subst (Holds _) (sym x.2) (off_holds l old ticket h)

  pub stages_hold : {q : Logs} (old : Chain) (ticket : ℕ) (events : List Event) (reply : Reply) (new : Chain) → Holds q old → Stages old ticket events reply new → Holds q new
  stages_hold old ticket events reply new h x = subst (Holds _) (sym x.2) (record { limit = h.limit; apart = h.apart; fresh = h.fresh; stands = h.stands; nodes = h.nodes; tickets = h.tickets })

  -- a timer of a side runs out
  expires_goes : (old : Node) (port : PortName) (timer : Timer) (expired : Expired) (new : Node) → NodeFits old → ExpiresSide old port timer expired new → Goes old new
  expires_goes old port timer expired new fits x = subst (Goes old) (sym x.is) (goes_called old port x.side x.entity x.tx x.rx fits x.its.here x.its.is_open mover)
    where
      by : (at : Side) (p : Port) (e : Expired) → ExpiryLeaves p at timer e x.tx x.rx → Moved p at x.tx x.rx
      by at p Done m = moves (timing timer at) (expiring timer) m.0 (expiry_quiet timer) m.1
      by at p (Marked number) m = moves (timing timer at) (expiring timer) m.0 (expiry_quiet timer) m.1
      by at p Stopped is = stays is

      mover : (at : Side) (p : Port) → IsSide p at x.entity.tx x.entity.rx → Moved p at x.tx x.rx
      mover at p is = by at p expired (l.expire_moves p at x.entity.tx x.entity.rx is timer expired x.tx x.rx x.expires)

  pub expires_hold : {q : Logs} (old : Chain) (port : PortName) (at : Side) (timer : Timer) (events : List Event) (reply : Reply) (new : Chain) → Holds q old
      → Expires old port at timer events reply new → Holds q new
  expires_hold old port at timer events reply new h x = subst (Holds _) (sym x.is)
      (goes_set l old (owner at port) x.node h (expires_goes (node_at old (owner at port)) port timer x.expired x.node (node_fits old h (owner at port)) x.expires))

  -- an SDU goes from a slot to a queue
  pushes_go : (old : Node) (port egress : PortName) (new : Node) → NodeFits old → Pushes old port egress new → Goes old new
  pushes_go old port egress new fits p =
      let was = side_fits old port p.from fits p.here in
      let first : Goes old p.mid = subst (Goes old) (sym p.empties)
      (goes_changed old port p.from (record p.from { slot = None }) fits p.here refl refl (record { slot = λ parcel e. absurd (none-some parcel e); queue = was.queue })) in
      let to = side_fits p.mid egress p.to first.fits p.there in
      goes_on first (subst (Goes p.mid) (sym p.is) (goes_changed p.mid egress p.to (record p.to { queue = p.to.queue ++ p.parcel ∷ [] }) first.fits p.there refl refl
      (record { slot = to.slot; queue = each_append ParcelFits p.to.queue (p.parcel ∷ []) to.queue (was.slot p.parcel p.full, tt) })))

  push_goes : (capacity : ℕ) (old : Node) (port : PortName) (answer : PushReply) (new : Node) → NodeFits old → PushesPort capacity old port answer new → Goes old new
  push_goes capacity old port (pushed.Done egress) new fits p = pushes_go old port egress new fits p.1
  push_goes capacity old port pushed.NoPort new fits p = goes_nowhere old new fits p.1
  push_goes capacity old port pushed.Nothing new fits p = goes_nowhere old new fits p.1
  push_goes capacity old port pushed.QueueFull new fits p = goes_nowhere old new fits p.1

  pub pushes_hold : {q : Logs} (old : Chain) (port : PortName) (events : List Event) (reply : Reply) (new : Chain) → Holds q old → PushesAt old port events reply new → Holds q new
  pushes_hold old port events reply new h p = subst (Holds _) (sym p.is)
      (goes_set l old AtRelay p.node h (push_goes (queue_capacity old) (node_at old AtRelay) port p.answer p.node (node_fits old h AtRelay) p.pushes))

  -- an SDU goes from a queue to its transmitter
  pulls_go : (old : Node) (port : PortName) (number : ℕ) (new : Node) → NodeFits old → Pulls old port number new → Goes old new
  pulls_go old port number new fits p = subst (Goes old) (sym p.is)
      (goes_called_as old port p.side now p.entity p.tx p.entity.rx fits p.its.here p.its.is_open mover refl refl refl (record { slot = was.slot; queue = all.1 }))
    where
      now : PortSide
      now = record p.side { entity = Some (record p.entity { tx = p.tx }); queue = p.parcels }

      was : SideFits p.side
      was = side_fits old port p.side fits p.its.here

      all : ParcelFits p.parcel × AllByRecursion ParcelFits p.parcels
      all = subst (AllByRecursion ParcelFits) p.waits was.queue

      mover : (at : Side) (q : Port) → IsSide q at p.entity.tx p.entity.rx → Moved q at p.tx p.entity.rx
      mover at q is = let m = l.give_moves q at p.entity.tx p.entity.rx is (parcel_tag p.parcel) p.parcel.sdu number p.tx all.0.some all.0.most p.gives in moves (way_from at)
          (Give (parcel_tag p.parcel) p.parcel.sdu) m.0 refl m.1

  pull_goes : (old : Node) (port : PortName) (answer : PullReply) (new : Node) → NodeFits old → PullsPort old port answer new → Goes old new
  pull_goes old port (pulled.Done number) new fits p = pulls_go old port number new fits p.1
  pull_goes old port pulled.NoPort new fits p = goes_nowhere old new fits p.1
  pull_goes old port pulled.Empty new fits p = goes_nowhere old new fits p.1
  pull_goes old port pulled.Stalled new fits p = goes_nowhere old new fits p.1

  pub pulls_hold : {q : Logs} (old : Chain) (port : PortName) (events : List Event) (reply : Reply) (new : Chain) → Holds q old → PullsAt old port events reply new → Holds q new
  pulls_hold old port events reply new h p = subst (Holds _) (sym p.is)
      (goes_set l old AtRelay p.node h (pull_goes (node_at old AtRelay) port p.answer p.node (node_fits old h AtRelay) p.pulls))

  pub wants_hold : {q : Logs} (old : Chain) (key : Key) (events : List Event) (reply : Reply) (new : Chain) → Holds q old → Wants old key events reply new → Holds q new
  wants_hold old key events reply new h w = subst (Holds _) (sym w.2)
      (goes_set l old (sink key) _ h (goes_incoming (node_at old (sink key)) (record (receiving_at old key) { wanted = true }) (node_fits old h (sink key))))

-- a plan that is set is the last one of its remote, and those of the others are as before
pub plan_name : (c : Chain) (remote : Remote) (p : Plan) → plan_at c remote ≡ Some p → remote ≡ p.remote
plan_name c remote p e = remote_is remote p.remote (find_passes (λ (p : Plan). is_remote remote p.remote) c.plans p e)

pub plan_set : (c : Chain) (remote : Remote) (last p : Plan) → plan_at c remote ≡ Some last → p.remote ≡ last.remote → (other : Remote)
    → ((other ≡ remote) × (plan_at (set_plan c p) other ≡ Some p)) ⊎ ((other ≡ remote → ⊥) × (plan_at (set_plan c p) other ≡ plan_at c other))
plan_set c remote last p there same other = elim (cases_remote other remote) [
  | inl this ↦ inl (this, hit other this)
  | inr ne ↦ inr (ne, miss other ne)
]
  where
    its : p.remote ≡ remote
    its = same ∙ sym (plan_name c remote last there)

    hit : (other : Remote) → other ≡ remote → plan_at (set_plan c p) other ≡ Some p
    hit other this =
        find_hit (λ (x : Plan). is_remote other x.remote) (λ (x : Plan). is_remote p.remote x.remote) p (λ x. ap (λ (r : Remote). is_remote r x.remote) (this ∙ sym its))
        (ap (is_remote other) (its ∙ sym this) ∙ remote_refl other) c.plans last
        (ap (λ (r : Remote). plan_at c r) this ∙ there)

    miss : (other : Remote) → (other ≡ remote → ⊥) → plan_at (set_plan c p) other ≡ plan_at c other
    miss other ne =
        find_miss (λ (x : Plan). is_remote other x.remote) (λ (x : Plan). is_remote p.remote x.remote) p
        (λ x mine. remote_apart other x.remote (λ e. ne (e ∙ sym (remote_is p.remote x.remote mine) ∙ its))) (remote_apart other p.remote (λ e. ne (e ∙ its))) c.plans

pub plan_was : (c : Chain) (remote : Remote) (last p : Plan) → plan_at c remote ≡ Some last → p.remote ≡ last.remote → (other : Remote) (q : Plan)
    → plan_at (set_plan c p) other ≡ Some q → ((other ≡ remote) × (q ≡ p)) ⊎ ((other ≡ remote → ⊥) × (plan_at c other ≡ Some q))
plan_was c remote last p there same other q e = elim (plan_set c remote last p there same other) [
  | inl this ↦ inl (this.0, sym (same_Some p q (sym this.1 ∙ e)))
  | inr kept ↦ inr (kept.0, sym kept.1 ∙ e)
]

-- the next plan asks for an epoch to which no node has come
next_later : (last : Plan) (goal : Goal) (kind : NodeKind) → next_epoch last kind ≤ next_epoch (next_plan last goal) kind
next_later last goal kind = go (has_applied last kind) kind
  where
    none : (kind : NodeKind) → next_epoch (next_plan last goal) kind ≡ last.epoch + 1
    none kinds.Remote = refl
    none kinds.Relay = refl
    none kinds.Gnb = refl

    go : (b : Bool) (kind : NodeKind) → cond b (last.epoch + 1) last.epoch ≤ next_epoch (next_plan last goal) kind
    go true kind = omega (arith, none kind)
    go false kind = omega (arith, none kind)

pub plans_hold : {q : Logs} (old : Chain) (remote : Remote) (goal : Goal) (events : List Event) (reply : Reply) (new : Chain) → Holds q old
    → Plans old remote goal events reply new → Holds q new
plans_hold old remote goal events reply new h p = subst (Holds _) (sym p.is) (record {
  limit = h.limit;
  apart = h.apart;
  stands = h.stands;
  fresh = λ r q is side name of. elim (plan_was old remote p.last (next_plan p.last goal) p.its refl r q is) [
    | inl this ↦ subst (λ (q : Plan). h.limit side name ≤ next_epoch q (kind_of (owner side name))) (sym this.1)
        (omega (arith, h.fresh r p.last (ap (λ (r : Remote). plan_at old r) this.0 ∙ p.its) side name of, next_later p.last goal (kind_of (owner side name))))
    | inr other ↦ h.fresh r q other.1 side name of
  ];
  nodes = h.nodes;
  tickets = h.tickets;
})
