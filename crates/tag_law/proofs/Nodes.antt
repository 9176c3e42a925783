-- A node whose direct ports keep data PDUs of the keys alone that the node sends over them, and what its steps leave of that.
use Rattle.std.proofs.Common.{◌≡◌, inl, inr, ℕ, List, [], ◌∷◌, ◌++◌, length, map, get_or, Option, Some, None, option_and_then, refl, sym, ◌∙◌, ap, subst, arith}
use Rattle.std.specs.List.{AllByRecursion}
use Rattle.std.proofs.lemmas.Bool.{cases_lt}
use Rattle.std.proofs.lemmas.List.{get_or_append_left, get_or_push, length_push}
use Rattle.std.proofs.lemmas.Option.{same_Some}
use Rattle.link_base.specs.declared.names.Drb.{Drb}
use Rattle.link_base.specs.declared.names.Key.{Key}
use Rattle.link_base.specs.declared.names.PortName.{PortName}
use Rattle.link_base.specs.declared.names.PortName.TheVariants.{Direct}
use Rattle.link_base.specs.declared.names.Remote.{Remote}
use Rattle.link_base.specs.declared.names.Side.{Side}
use Rattle.link_base.specs.declared.names.Timer.{Timer}
use Rattle.link_base.specs.declared.rlc_words.Expired.{Expired}
use Rattle.link_base.specs.declared.rlc_words.Tag.{Tag}
use Rattle.bearer_map.specs.Contents.{Contents}
use Rattle.rlc_model.specs.declared.hop.HopGrant.{HopGrant}
use Rattle.rlc_model.specs.declared.hop.HopHeard.{HopHeard}
use Rattle.rlc_model.specs.declared.hop.HopHeard.TheVariants as hop
use Rattle.rlc_model.specs.declared.hop.Pdu.{Pdu}
use Rattle.rlc_model.specs.declared.receiver.Heard.TheVariants as receiving
use Rattle.rlc_model.specs.declared.transmitter.StatusHeard.TheVariants as sending
use Rattle.rlc_model.specs.Sides.{Entity}
use Rattle.rlc_model.specs.Tx.{Tx, Kept, kept_at, Gives}
use Rattle.rlc_model.specs.Rx.{Rx}
use Rattle.rlc_model.specs.Hop.{HearsHop}
use Rattle.rlc_law.proofs.Base.{kept_below}
use Rattle.node_model.specs.declared.answers.NodeHeard.{NodeHeard}
use Rattle.node_model.specs.Feeding.{out_key}
use Rattle.node_model.specs.Hearing.{HearsPdu, HearsUnless, hear_refusal}
use Rattle.node_model.specs.Names.{NodeName, source}
use Rattle.node_model.specs.Sides.{IsOpen, GrantsSide, ExpiresSide}
use Rattle.node_model.specs.State.{PortSide, Node, entity_of, side_at, entity_at, set_entity}
use Rattle.node_model.proofs.Names.{cases_port}
use Rattle.chain_law.specs.Calls.{KeepsTags, HearingKeeps, GrantingKeeps, ExpiryKeeps, HearLeavesKept}
use Rattle.chain_law.proofs.Nodes.{side_set}
use Rattle.chain_law.proofs.Leaving.{NodeSame, entity_other, entity_set, follows_stand, same_entity, same_itself, same_then}

-- what chain_law proves of the calls of an entity
pub record CallLaws : Type 0 where
  pub hearing : HearingKeeps
  pub granting : GrantingKeeps
  pub expiry : ExpiryKeeps

-- a data PDU with this tag is one of the bearer, of the key that the node sends
abbrev pub IsOwn : NodeName → Remote → Drb → Tag → Type 0
IsOwn x remote drb tag = (count : ℕ) → tag.count ≡ Some count → (tag.key.remote ≡ remote) × (tag.key.drb ≡ drb) × (source tag.key ≡ x)

-- all that a transmitter keeps is
abbrev pub KeepsOwn : NodeName → Remote → Drb → Tx → Type 0
KeepsOwn x remote drb tx = (n : ℕ) (k : Kept) → kept_at tx n ≡ Some k → IsOwn x remote drb k.tag

-- a node's keys are those that it sends, and its direct ports keep data PDUs of them
pub record NodeOwn (x : NodeName) (n : Node) : Type 0 where
  pub outs : AllByRecursion (λ (k : Key). source k ≡ x) (map out_key n.outgoing)
  pub tags : (remote : Remote) (drb : Drb) (e : Entity) → entity_at n (Direct remote drb) ≡ Some e → KeepsOwn x remote drb e.tx

-- tags that are kept are still such
pub tags_own : (x : NodeName) (remote : Remote) (drb : Drb) (old new : Tx) → KeepsTags old new → KeepsOwn x remote drb old → KeepsOwn x remote drb new
tags_own x remote drb old new keeps own n k is =
    let was = keeps n k is in
    subst (IsOwn x remote drb) (sym was.2) (own n was.0 was.1)

module _ (x : NodeName) where
  -- a node with the same keys and the same open sides
  pub own_alike : (old new : Node) → map out_key new.outgoing ≡ map out_key old.outgoing → ((q : PortName) → entity_at new q ≡ entity_at old q) → NodeOwn x old → NodeOwn x new
  own_alike old new outs entities own = record {
    outs = subst (AllByRecursion (λ (k : Key). source k ≡ x)) (sym outs) own.outs;
    tags = λ remote drb e is. own.tags remote drb e (sym (entities (Direct remote drb)) ∙ is);
  }

  pub own_same : (old new : Node) → new ≡ old → NodeOwn x old → NodeOwn x new
  own_same old new is own = subst (NodeOwn x) (sym is) own

  -- an open side whose transmitter changes
  module _ (old : Node) (port : PortName) (side : PortSide) (entity now : Entity) (its : IsOpen old port side entity) (own : NodeOwn x old) where
    is_open : entity_at old port ≡ Some entity
    is_open = ap (option_and_then entity_of) its.here ∙ its.is_open

    pub own_entity : ((remote : Remote) (drb : Drb) → port ≡ Direct remote drb → KeepsOwn x remote drb entity.tx → KeepsOwn x remote drb now.tx)
        → NodeOwn x (set_entity old side now)
    own_entity keeps = record {
      outs = own.outs;
      tags = λ remote drb e is. elim (cases_port (Direct remote drb) port) [
        | inr ne ↦ own.tags remote drb e (sym (entity_other old port (Direct remote drb) side now its.here ne) ∙ is)
        | inl same ↦
            let e_is : now ≡ e = same_Some now e (sym (ap (entity_at (set_entity old side now)) same ∙ entity_set old port side now its.here) ∙ is) in
            subst (λ (y : Entity). KeepsOwn x remote drb y.tx) e_is
            (keeps remote drb (sym same) (own.tags remote drb entity (ap (entity_at old) same ∙ is_open)))
      ];
    }

    pub own_called : KeepsTags entity.tx now.tx → NodeOwn x (set_entity old side now)
    own_called keeps = own_entity (λ remote drb is had. tags_own x remote drb entity.tx now.tx keeps had)

  pub granted_own : CallLaws → (old : Node) (port : PortName) (octets epoch : ℕ) (answer : HopGrant) (new : Node) → GrantsSide old port octets epoch answer new
      → NodeOwn x old → NodeOwn x new
  granted_own laws old port octets epoch answer new g own = subst (NodeOwn x) (sym g.is)
      (own_called old port g.side g.entity (record g.entity { tx = g.tx; rx = g.rx }) g.its own (laws.granting g.entity.tx g.entity.rx octets answer g.tx g.rx g.grants).0)

  pub expired_own : CallLaws → (old : Node) (port : PortName) (timer : Timer) (expired : Expired) (new : Node) → ExpiresSide old port timer expired new → NodeOwn x old
      → NodeOwn x new
  expired_own laws old port timer expired new s own = subst (NodeOwn x) (sym s.is)
      (own_called old port s.side s.entity (record s.entity { tx = s.tx; rx = s.rx }) s.its own (laws.expiry s.entity.tx s.entity.rx timer expired s.tx s.rx s.expires).0)

  -- whatever an entity hears
  heard_tags : CallLaws → (tx : Tx) (rx : Rx) (bytes : List ℕ) (answer : HopHeard) (u : Tx) (q : Rx) → HearsHop tx rx bytes answer u q → KeepsTags tx u
  heard_tags laws tx rx bytes answer u q h = by answer (laws.hearing tx rx bytes answer u q h)
    where
      stays : u ≡ tx → KeepsTags tx u
      stays is n k here = (k, ap (λ (t : Tx). kept_at t n) (sym is) ∙ here, refl, refl)

      by : (answer : HopHeard) → HearLeavesKept tx rx answer u q → KeepsTags tx u
      by (hop.Status (sending.Acked tags marks)) l = l.0
      by (hop.Amd (receiving.Complete number sdu)) l = stays l.0
      by (hop.Amd receiving.Stored) l = stays l.0
      by (hop.Amd receiving.Repeat) l = stays l.0
      by (hop.Amd receiving.Outside) l = stays l.0
      by (hop.Amd receiving.Conflict) l = stays l.0
      by (hop.Status (sending.Old ack next)) l = stays l.0
      by (hop.Status (sending.Beyond ack top)) l = stays l.0
      by (hop.BadAmd fault) l = stays l.0
      by (hop.BadStatus fault) l = stays l.0

  pub heard_own : CallLaws → (t : Contents) (old : Node) (at : Side) (pdu : Pdu) (answer : NodeHeard) (new : Node) → HearsPdu t old at pdu answer new → NodeOwn x old
      → NodeOwn x new
  heard_own laws t old at pdu answer new hears own = by (hear_refusal pdu (side_at old pdu.port)) hears
    where
      by : (refusal : Option NodeHeard) → HearsUnless refusal t old at pdu answer new → NodeOwn x new
      by (Some refusal) h = own_same old new h.1 own
      by None h =
          let now : PortSide = record h.side { entity = Some h.behind } in
          let mid = set_entity old h.side h.behind in
          let s = follows_stand t mid pdu.port now (side_set old pdu.port h.side now h.its.here refl).here at h.hop answer new h.follows in
          let keeps : KeepsTags h.entity.tx h.behind.tx = subst (λ (e : Entity). KeepsTags h.entity.tx e.tx) (sym h.its_entity)
          (heard_tags laws h.entity.tx h.entity.rx pdu.bytes h.hop h.tx h.rx h.hears) in
          own_alike mid new s.same.outs s.entities (own_called old pdu.port h.side h.entity h.behind h.its own keeps)

  -- the transmitter of a port is given an SDU under a tag of its own
  pub given_own : (old : Node) (port : PortName) (side : PortSide) (entity : Entity) (its : IsOpen old port side entity) (tag : Tag) (sdu : List ℕ) (number : ℕ) (tx : Tx)
      → Gives entity.tx tag sdu number tx → ((remote : Remote) (drb : Drb) → port ≡ Direct remote drb → IsOwn x remote drb tag) → NodeOwn x old
      → NodeOwn x (set_entity old side (record entity { tx = tx }))
  given_own old port side entity its tag sdu number tx g mine own = own_entity old port side entity (record entity { tx = tx }) its own (λ remote drb is had n k here.
      let last : Kept = record { tag = tag; sdu = sdu; flags = []; retx_count = None } in
      let at : get_or (entity.tx.kept ++ Some last ∷ []) n None ≡ Some k = ap (λ (t : Tx). get_or t.kept n None) (sym g.is) ∙ here in
      elim (cases_lt n (length entity.tx.kept)) [
        | inl low ↦ had n k (sym (get_or_append_left entity.tx.kept (Some last ∷ []) None n low) ∙ at)
        | inr high ↦
            let place : length entity.tx.kept ≡ n = omega (arith, high, kept_below tx n k here, ap (λ (t : Tx). length t.kept) g.is, length_push entity.tx.kept (Some last)) in
            subst (λ (k : Kept). IsOwn x remote drb k.tag) (same_Some last k (sym (get_or_push entity.tx.kept (Some last) None n place) ∙ at)) (mine remote drb is)
      ])

-- a node that hears keeps its name, its keys, its attachments and its ports
pub heard_same : (t : Contents) (old : Node) (at : Side) (pdu : Pdu) (answer : NodeHeard) (new : Node) → HearsPdu t old at pdu answer new → NodeSame old new
heard_same t old at pdu answer new hears = by (hear_refusal pdu (side_at old pdu.port)) hears
  where
    by : (refusal : Option NodeHeard) → HearsUnless refusal t old at pdu answer new → NodeSame old new
    by (Some refusal) h = subst (NodeSame old) (sym h.1) (same_itself old)
    by None h =
        let now : PortSide = record h.side { entity = Some h.behind } in
        let mid = set_entity old h.side h.behind in
        same_then old mid new (same_entity old h.side h.behind)
        (follows_stand t mid pdu.port now (side_set old pdu.port h.side now h.its.here refl).here at h.hop answer new h.follows).same
