-- What a node does that hears a PDU: the receiver of one key hears a data PDU, or no receiver does.
use Rattle.std.proofs.Common.{◌≡◌, ◌⊎◌, inl, inr, ℕ, suc, ◌==◌, Bool, true, false, cond, not, ◌&&◌, List, [], ◌∷◌, map, fold, Option, Some, None, is_some, Result, Ok, Err, refl, sym, ◌∙◌, ap, subst, arith, Contains}
use Rattle.std.proofs.lemmas.Bool.{true≢false, eqb-true}
use Rattle.std.proofs.lemmas.Option.{none-some, same_Some}
use Rattle.link_base.specs.declared.names.Remote.{Remote}
use Rattle.link_base.specs.declared.names.Drb.{Drb}
use Rattle.link_base.specs.declared.names.Key.{Key}
use Rattle.link_base.specs.declared.names.PortName.{PortName}
use Rattle.link_base.specs.declared.names.PortName.TheVariants.{Direct, Pc5, Uu}
use Rattle.link_base.specs.declared.names.Side.{Side}
use Rattle.link_base.specs.declared.names.Way.{Way}
use Rattle.link_base.specs.declared.rlc_words.Tag.{Tag}
use Rattle.link_base.specs.declared.discard.Discard.{Discard}
use Rattle.bearer_map.specs.Contents.{Contents}
use Rattle.rlc_model.specs.declared.hop.Pdu.{Pdu}
use Rattle.rlc_model.specs.declared.hop.AirFault.{AirFault}
use Rattle.rlc_model.specs.declared.hop.AirFault.TheVariants.{Gone, Stale}
use Rattle.rlc_model.specs.declared.hop.HopHeard.{HopHeard}
use Rattle.rlc_model.specs.declared.hop.HopHeard.TheVariants as hop
use Rattle.rlc_model.specs.declared.receiver.Heard.TheVariants as receiving
use Rattle.rlc_model.specs.declared.transmitter.StatusHeard.TheVariants as sending
use Rattle.rlc_model.specs.Sides.{Entity}
use Rattle.rlc_model.specs.Tx.{Tx}
use Rattle.rlc_model.specs.Rx.{Rx}
use Rattle.rlc_model.specs.Hop.{HearsHop}
use Rattle.pdcp_pdu.specs.Pdcp.{Sdu, Report, IsPdcp}
use Rattle.pdcp_model.specs.declared.answers.PdcpHeard.{PdcpHeard}
use Rattle.pdcp_model.specs.declared.answers.PdcpHeard.TheVariants as pdcp
use Rattle.pdcp_model.specs.Sender.{Sender, confirms, is_reported, hears_report}
use Rattle.pdcp_model.specs.Receiver.{Receiver, Hears}
use Rattle.pdcp_model.specs.HandUp.{Hearing, handed_by}
use Rattle.script_text.specs.declared.event.Event.{Event}
use Rattle.script_text.specs.declared.event.Event.TheVariants.{Up}
use Rattle.script_text.specs.declared.reply.Reply.{Reply}
use Rattle.node_model.specs.declared.answers.NodeHeard.{NodeHeard}
use Rattle.node_model.specs.declared.answers.NodeHeard.TheVariants as answers
use Rattle.node_model.specs.declared.parcel.Parcel.{Parcel}
use Rattle.node_model.specs.Names.{back}
use Rattle.node_model.specs.State.{Node, PortSide, outgoing, incoming, set_incoming, set_side, set_entity}
use Rattle.node_model.specs.Sides.{IsOpen}
use Rattle.node_model.specs.Ends.{heard_as, HearsReport, HearsPdcp, data_pdu, report, neither, confirm_count, confirm_tags}
use Rattle.node_model.specs.Routing.{Target, ToPdcp, Onward, Leads}
use Rattle.node_model.specs.Hearing.{entity_fault, slot_fault, side_refusal, hear_refusal, Passes, Follows, HearsSide}
use Rattle.node_model.proofs.Names.{cases_key}
use Rattle.node_model.proofs.ByName.{sides_set}
use Rattle.chain_model.specs.Lines.{is_handed_over}
use Rattle.chain_model.specs.Telling.{TellsHop, TellsHeard}
use Rattle.book_law.specs.Hearings.{tells_hearing}
use Rattle.book_law.proofs.Senders.{Drops, keeps_itself, drops_none, drops_on, confirms_drops, report_drops}
use Rattle.book_law.proofs.Ends.{Ends, Stays, ends_same, ends_out, ends_out_other, ends_on}
use Rattle.book_law.proofs.Events.{NoConf, NoUp, marked_conf, marked_up}
use Rattle.book_law.proofs.Leading.{leads_before}

pub drops_itself : (C : ℕ → Type 0) (s : Sender) → Drops C s s
drops_itself C s = drops_none C s s (keeps_itself s)

-- the answer tells of a data PDU that came to a receiver
abbrev pub is_data_answer : NodeHeard → Bool
is_data_answer (answers.Up key sdus) = true
is_data_answer answers.Waiting = true
is_data_answer answers.Old = true
is_data_answer answers.Twice = true
is_data_answer answers.NoCount = true
is_data_answer answer = false

-- such an answer is told so, and no other is
pub told_data : (port : PortName) (way : Way) (key : Key) (heard : PdcpHeard) (events : List Event) (reply : Reply) → TellsHeard port way (heard_as key heard) events reply
    → (tells_hearing reply ≡ true) × (events ≡ map (λ sdu. Up key sdu) (handed_by heard)) × (is_handed_over (heard_as key heard) ≡ true)
told_data port way key (pdcp.Up sdus) events reply t = (ap tells_hearing t.1, t.0, refl)
told_data port way key pdcp.Stored events reply t = (ap tells_hearing t.1, t.0, refl)
told_data port way key pdcp.Old events reply t = (ap tells_hearing t.1, t.0, refl)
told_data port way key pdcp.Repeat events reply t = (ap tells_hearing t.1, t.0, refl)
told_data port way key pdcp.BeforeStart events reply t = (ap tells_hearing t.1, t.0, refl)
told_data port way key pdcp.PastEnd events reply t = (ap tells_hearing t.1, t.0, refl)

-- what is told of other answers
abbrev pub SaysNothing : List Event → Reply → Type 0
SaysNothing events reply = (tells_hearing reply ≡ false) × NoConf events × NoUp events

nothing_shown : (events : List Event) (reply told : Reply) → events ≡ [] → reply ≡ told → tells_hearing told ≡ false → SaysNothing events reply
nothing_shown events reply told none is no_hearing = (ap tells_hearing is ∙ no_hearing, subst NoConf (sym none) tt, subst NoUp (sym none) tt)

told_hop : (port : PortName) (way : Way) (heard : HopHeard) (events : List Event) (reply : Reply) → TellsHop port way heard events reply → SaysNothing events reply
told_hop port way (hop.Amd receiving.Stored) events reply t = nothing_shown events reply _ t.0 t.1 refl
told_hop port way (hop.Amd receiving.Repeat) events reply t = nothing_shown events reply _ t.0 t.1 refl
told_hop port way (hop.Amd receiving.Outside) events reply t = nothing_shown events reply _ t.0 t.1 refl
told_hop port way (hop.Amd receiving.Conflict) events reply t = nothing_shown events reply _ t.0 t.1 refl
told_hop port way (hop.Amd (receiving.Complete number sdu)) events reply t = absurd t
told_hop port way (hop.Status (sending.Acked tags marks)) events reply t = (ap tells_hearing t.1, subst NoConf (sym t.0) (marked_conf port way marks), subst NoUp (sym t.0) (marked_up port way marks))
told_hop port way (hop.Status (sending.Old ack next)) events reply t = nothing_shown events reply _ t.0 t.1 refl
told_hop port way (hop.Status (sending.Beyond ack sent)) events reply t = nothing_shown events reply _ t.0 t.1 refl
told_hop port way (hop.BadAmd fault) events reply t = nothing_shown events reply _ t.0 t.1 refl
told_hop port way (hop.BadStatus fault) events reply t = nothing_shown events reply _ t.0 t.1 refl

pub told_other : (port : PortName) (way : Way) (answer : NodeHeard) (events : List Event) (reply : Reply) → is_data_answer answer ≡ false → TellsHeard port way answer events reply → SaysNothing events reply
told_other port way answers.NoPort events reply other t = nothing_shown events reply _ t.0 t.1 refl
told_other port way (answers.Air Gone) events reply other t = nothing_shown events reply _ t.0 t.1 refl
told_other port way (answers.Air (Stale number next)) events reply other t = nothing_shown events reply _ t.0 t.1 refl
told_other port way answers.Held events reply other t = nothing_shown events reply _ t.0 t.1 refl
told_other port way (answers.Slot egress) events reply other t = nothing_shown events reply _ t.0 t.1 refl
told_other port way (answers.Report key confirmed) events reply other t = nothing_shown events reply _ t.0 t.1 refl
told_other port way (answers.Discard name) events reply other t = nothing_shown events reply _ t.0 t.1 refl
told_other port way (answers.Hop heard) events reply other t = told_hop port way heard events reply t
told_other port way (answers.Up key sdus) events reply other t = absurd (true≢false other)
told_other port way answers.Waiting events reply other t = absurd (true≢false other)
told_other port way answers.Old events reply other t = absurd (true≢false other)
told_other port way answers.Twice events reply other t = absurd (true≢false other)
told_other port way answers.NoCount events reply other t = absurd (true≢false other)

-- a PDU that isn't heard changes nothing, and is told as no hearing
refused_slot : (pdu : Pdu) (slot : Option Parcel) (answer : NodeHeard) → slot_fault pdu slot ≡ Some answer → is_data_answer answer ≡ false
refused_slot pdu slot answer is = by (is_some slot && not pdu.status) is
  where
    by : (b : Bool) → cond b (Some answers.Held) None ≡ Some answer → is_data_answer answer ≡ false
    by true e = ap is_data_answer (sym (same_Some answers.Held answer e))
    by false e = absurd (none-some answer e)

refused_side : (pdu : Pdu) (side : PortSide) (fault : Option AirFault) (answer : NodeHeard) → side_refusal pdu side fault ≡ Some answer → is_data_answer answer ≡ false
refused_side pdu side (Some fault) answer is = ap is_data_answer (sym (same_Some (answers.Air fault) answer is))
refused_side pdu side None answer is = refused_slot pdu side.slot answer is

pub refused : (pdu : Pdu) (side : Option PortSide) (answer : NodeHeard) → hear_refusal pdu side ≡ Some answer → is_data_answer answer ≡ false
refused pdu None answer is = ap is_data_answer (sym (same_Some answers.NoPort answer is))
refused pdu (Some side) answer is = refused_side pdu side (entity_fault pdu side.entity) answer is

-- at an open side of a port an SDU is completed that leads to a key as a data PDU, and the key's receiver hears that
pub record HearsData (t : Contents) (n : Node) (at : Side) (port : PortName) (bytes : List ℕ) (answer : NodeHeard) (new : Node) : Type 0 where
  pub key : Key
  pub hearing : Hearing
  pub side : PortSide
  pub entity : Entity
  pub its : IsOpen n port side entity
  pub number : ℕ
  pub whole : List ℕ
  pub tx : Tx
  pub rx : Rx
  pub completes : HearsHop entity.tx entity.rx bytes (hop.Amd (receiving.Complete number whole)) tx rx
  pub body : List ℕ
  pub leads : Leads t n at port whole (Ok (ToPdcp key body))
  pub reads : IsPdcp (incoming n key).receiver.size (Sdu hearing.sn hearing.sdu) body
  pub heard : PdcpHeard
  pub receiver : Receiver
  pub hears : Hears (incoming n key).receiver hearing.sn hearing.sdu heard receiver
  pub says : answer ≡ heard_as key heard
  pub mid : Node
  pub same_rows : (mid.name ≡ n.name) × (mid.outgoing ≡ n.outgoing) × (mid.incoming ≡ n.incoming)
  pub is : new ≡ set_incoming mid (record (incoming n key) { receiver = receiver })

-- why a node confirms a COUNT of a key when a PDU comes to it: RLC acknowledges an SDU that was given with it, or a status report tells of it
pub data NodeConfirms (k : Key) (t : Contents) (n : Node) (at : Side) (port : PortName) (bytes : List ℕ) (count : ℕ) : Type 0 where
  acked : (side : PortSide) (entity : Entity) (tags : List Tag) (marks : List ℕ) (new_tx : Tx) (new_rx : Rx) → IsOpen n port side entity → HearsHop entity.tx entity.rx bytes (hop.Status (sending.Acked tags marks)) new_tx new_rx
      → (remote : Remote) (drb : Drb) → port ≡ Direct remote drb → (tag : Tag) → Contains tags tag → tag.key ≡ k → tag.count ≡ Some count → NodeConfirms k t n at port bytes count
  reported : (side : PortSide) (entity : Entity) (number : ℕ) (whole : List ℕ) (new_tx : Tx) (new_rx : Rx) → IsOpen n port side entity → HearsHop entity.tx entity.rx bytes (hop.Amd (receiving.Complete number whole)) new_tx new_rx
      → (other : Key) (body : List ℕ) → Leads t n at port whole (Ok (ToPdcp other body)) → back other ≡ k → (fmc : ℕ) (bits : List ℕ) → IsPdcp (incoming n other).receiver.size (Report fmc bits) body → is_reported fmc bits count ≡ true
      → NodeConfirms k t n at port bytes count

module _ (k : Key) (C : ℕ → Type 0) where
  -- no receiver hears a data PDU
  abbrev pub HearsNoData : Node → NodeHeard → Node → Type 0
  HearsNoData n answer new = Ends k (Drops C) Stays n new × (is_data_answer answer ≡ false)

  pub hears_same : (old new : Node) → new.name ≡ old.name → new.outgoing ≡ old.outgoing → new.incoming ≡ old.incoming → Ends k (Drops C) Stays old new
  hears_same = ends_same k (Drops C) Stays (drops_itself C) (λ r. refl)

  hears_on : (x y z : Node) → Ends k (Drops C) Stays x y → Ends k (Drops C) Stays y z → Ends k (Drops C) Stays x z
  hears_on = ends_on k (Drops C) Stays (drops_on C) (λ a b c p q. q ∙ p)

  -- RLC confirms SDUs
  confirms_one : (n : Node) (tag : Tag) → (tag.key ≡ k → (count : ℕ) → tag.count ≡ Some count → C count) → Ends k (Drops C) Stays n (confirm_count n tag.key tag.count)
  confirms_one n tag cause = by tag.count refl
    where
      by : (count : Option ℕ) → tag.count ≡ count → Ends k (Drops C) Stays n (confirm_count n tag.key count)
      by None is = hears_same n n refl refl refl
      by (Some count) is =
          let s = (outgoing n tag.key).sender in
          let test : ℕ → Bool = λ other. other == count in
          elim (cases_key tag.key k) [
            | inl its ↦ ends_out k (Drops C) Stays (drops_itself C) (λ r. refl) n tag.key (confirms s test) (confirms_drops C s test (λ x passes. subst C (sym (eqb-true x count passes)) (cause its count is)))
            | inr ne ↦ ends_out_other k (Drops C) Stays (drops_itself C) (λ r. refl) n tag.key (confirms s test) ne
          ]

  confirms_all : (tags : List Tag) (n : Node) → ((tag : Tag) → Contains tags tag → tag.key ≡ k → (count : ℕ) → tag.count ≡ Some count → C count) → Ends k (Drops C) Stays n (fold (λ node (tag : Tag). confirm_count node tag.key tag.count) n tags)
  confirms_all [] n cause = hears_same n n refl refl refl
  confirms_all (tag ∷ tags) n cause =
      hears_on n (confirm_count n tag.key tag.count) _ (confirms_one n tag (cause tag (0, omega arith, refl)))
      (confirms_all tags (confirm_count n tag.key tag.count) (λ x among. cause x (suc among.0, omega (arith, among.1), among.2)))

  confirms_tags : (n : Node) (port : PortName) (tags : List Tag) → ((remote : Remote) (drb : Drb) → port ≡ Direct remote drb → (tag : Tag) → Contains tags tag → tag.key ≡ k → (count : ℕ) → tag.count ≡ Some count → C count)
      → Ends k (Drops C) Stays n (confirm_tags n port tags)
  confirms_tags n (Direct remote drb) tags cause = confirms_all tags n (cause remote drb refl)
  confirms_tags n (Pc5 remote chan) tags cause = hears_same n n refl refl refl
  confirms_tags n (Uu chan) tags cause = hears_same n n refl refl refl

  -- a status report is heard
  hears_a_report : (n : Node) (of : Key) (fmc : ℕ) (bits : List ℕ) (answer : NodeHeard) (new : Node) → (of ≡ k → (count : ℕ) → is_reported fmc bits count ≡ true → C count) → HearsReport n of fmc bits answer new → HearsNoData n answer new
  hears_a_report n of fmc bits answer new cause (inl (within, says, is)) = (
    subst (Ends k (Drops C) Stays n) (sym is) (elim (cases_key of k) [
      | inl its ↦ ends_out k (Drops C) Stays (drops_itself C) (λ r. refl) n of (hears_report (outgoing n of).sender fmc bits) (report_drops C (outgoing n of).sender fmc bits (cause its))
      | inr ne ↦ ends_out_other k (Drops C) Stays (drops_itself C) (λ r. refl) n of (hears_report (outgoing n of).sender fmc bits) ne
    ]),
    ap is_data_answer says,
  )
  hears_a_report n of fmc bits answer new cause (inr (beyond, says, is)) = (subst (Ends k (Drops C) Stays n) (sym is) (hears_same n n refl refl refl), ap is_data_answer says)

module _ (k : Key) where
  module _ (t : Contents) (n : Node) (at : Side) (port : PortName) (bytes : List ℕ) (answer : NodeHeard) (new : Node) (h : HearsSide t n at port bytes answer new) where
    -- why this node may confirm
    abbrev C : ℕ → Type 0
    C = NodeConfirms k t n at port bytes

    abbrev Does : Type 0
    Does = HearsNoData k C n answer new ⊎ HearsData t n at port bytes answer new

    -- the side's name is the port's
    named : h.side.name ≡ port
    named = sides_set.named n.ports port h.side h.its.here

    leads_here : (whole : List ℕ) (target : Result Target Discard) → Leads t (set_entity n h.side h.behind) at h.side.name whole target → Leads t n at port whole target
    leads_here whole target leads = leads_before t n h.side h.behind at port whole target (subst (λ p. Leads t (set_entity n h.side h.behind) at p whole target) named leads)

    quiet_mid : new ≡ set_entity n h.side h.behind → is_data_answer answer ≡ false → Does
    quiet_mid is no_data = inl (subst (Ends k (Drops C) Stays n) (sym is) (hears_same k C n (set_entity n h.side h.behind) refl refl refl), no_data)

    -- a PDCP PDU comes for a key
    comes : (number : ℕ) (whole : List ℕ) → HearsHop h.entity.tx h.entity.rx bytes (hop.Amd (receiving.Complete number whole)) h.tx h.rx → (key : Key) (body : List ℕ)
        → Leads t (set_entity n h.side h.behind) at h.side.name whole (Ok (ToPdcp key body)) → HearsPdcp (set_entity n h.side h.behind) key body answer new → Does
    comes number whole completes key body leads (data_pdu sn sdu reads x) = inr (record {
      key = key;
      hearing = record { sn = sn; sdu = sdu };
      side = h.side;
      entity = h.entity;
      its = h.its;
      number = number;
      whole = whole;
      tx = h.tx;
      rx = h.rx;
      completes = completes;
      body = body;
      leads = leads_here whole (Ok (ToPdcp key body)) leads;
      reads = reads;
      heard = x.heard;
      receiver = x.receiver;
      hears = x.hears;
      says = x.says;
      mid = set_entity n h.side h.behind;
      same_rows = (refl, refl, refl);
      is = x.is;
    })
    comes number whole completes key body leads (report fmc bits reads r) =
        let x = hears_a_report k C (set_entity n h.side h.behind) (back key) fmc bits answer new
        (λ its count says. reported h.side h.entity number whole h.tx h.rx h.its completes key body (leads_here whole (Ok (ToPdcp key body)) leads) its fmc bits reads says) r in
        inl (hears_on k C n (set_entity n h.side h.behind) new (hears_same k C n (set_entity n h.side h.behind) refl refl refl) x.0, x.1)
    comes number whole completes key body leads (neither fault is says same) = quiet_mid same (ap is_data_answer says)

    -- an SDU is passed on by where it leads
    passes : (number : ℕ) (whole : List ℕ) → HearsHop h.entity.tx h.entity.rx bytes (hop.Amd (receiving.Complete number whole)) h.tx h.rx → (target : Result Target Discard)
        → Leads t (set_entity n h.side h.behind) at h.side.name whole target → Passes (set_entity n h.side h.behind) (record h.side { entity = Some h.behind }) whole target answer new → Does
    passes number whole completes (Ok (ToPdcp key body)) leads p = comes number whole completes key body leads p
    passes number whole completes (Ok (Onward route)) leads p = inl (
      subst (Ends k (Drops C) Stays n) (sym p.1)
          (hears_same k C n (set_side (set_entity n h.side h.behind) (record h.side { entity = Some h.behind; slot = Some (record { from = h.side.name; route = route; sdu = whole }) })) refl refl refl),
      ap is_data_answer p.0,
    )
    passes number whole completes (Err discard) leads p = quiet_mid p.1 (ap is_data_answer p.0)

    -- by what the entity answers
    follows : (heard : HopHeard) → HearsHop h.entity.tx h.entity.rx bytes heard h.tx h.rx → Follows t (set_entity n h.side h.behind) at (record h.side { entity = Some h.behind }) heard answer new → Does
    follows (hop.Amd (receiving.Complete number whole)) hears (target, leads, p) = passes number whole hears target leads p
    follows (hop.Status (sending.Acked tags marks)) hears (says, is) = inl (
      subst (Ends k (Drops C) Stays n) (sym is) (hears_on k C n (set_entity n h.side h.behind) _ (hears_same k C n (set_entity n h.side h.behind) refl refl refl) (confirms_tags k C (set_entity n h.side h.behind) h.side.name tags
          (λ remote drb direct tag among its count is_count. acked h.side h.entity tags marks h.tx h.rx h.its hears remote drb (sym named ∙ direct) tag among its is_count))),
      ap is_data_answer says,
    )
    follows (hop.Amd receiving.Stored) hears (says, is) = quiet_mid is (ap is_data_answer says)
    follows (hop.Amd receiving.Repeat) hears (says, is) = quiet_mid is (ap is_data_answer says)
    follows (hop.Amd receiving.Outside) hears (says, is) = quiet_mid is (ap is_data_answer says)
    follows (hop.Amd receiving.Conflict) hears (says, is) = quiet_mid is (ap is_data_answer says)
    follows (hop.Status (sending.Old ack next)) hears (says, is) = quiet_mid is (ap is_data_answer says)
    follows (hop.Status (sending.Beyond ack sent)) hears (says, is) = quiet_mid is (ap is_data_answer says)
    follows (hop.BadAmd fault) hears (says, is) = quiet_mid is (ap is_data_answer says)
    follows (hop.BadStatus fault) hears (says, is) = quiet_mid is (ap is_data_answer says)

    -- a PDU is heard at an open side
    pub hears_side : Does
    hears_side = follows h.hop h.hears h.follows
