-- What a call leaves of the SDUs that a transmitter keeps, and of those of which a byte was sent.
use Rattle.std.proofs.Common.{◌≡◌, ◌⊎◌, inl, inr, ℕ, ◌<◌, ◌≤◌, true, false, List, [], ◌∷◌, ◌++◌, length, get_or, map, Option, Some, None, option_and_then, refl, sym, ◌∙◌, ap, subst, arith}
use Rattle.std.proofs.lemmas.Bool.{cases_eq, cases_lt}
use Rattle.std.proofs.lemmas.Option.{same_Some}
use Rattle.std.proofs.lemmas.List.{get_or_append_left, get_or_push, length_push}
use Rattle.link_base.specs.declared.names.PortName.{PortName}
use Rattle.link_base.specs.declared.names.Side.{Side}
use Rattle.link_base.specs.declared.names.Timer.{Timer}
use Rattle.link_base.specs.declared.names.Timer.TheVariants.{Poll, Reasm, Prohibit}
use Rattle.link_base.specs.declared.rlc_words.Expired.{Expired}
use Rattle.link_base.specs.declared.rlc_words.Expired.TheVariants as expiry
use Rattle.link_base.specs.declared.rlc_words.Tag.{Tag}
use Rattle.bearer_map.specs.Contents.{Contents}
use Rattle.rlc_pdu.specs.Amd.{Amd as DataPdu}
use Rattle.rlc_model.specs.declared.hop.HopGrant.{HopGrant}
use Rattle.rlc_model.specs.declared.hop.HopGrant.TheVariants as grants
use Rattle.rlc_model.specs.declared.hop.HopHeard.{HopHeard}
use Rattle.rlc_model.specs.declared.hop.HopHeard.TheVariants.{Amd, Status, BadAmd, BadStatus}
use Rattle.rlc_model.specs.declared.hop.Pdu.{Pdu}
use Rattle.rlc_model.specs.declared.receiver.Heard.TheVariants.{Complete, Stored, Repeat, Outside, Conflict}
use Rattle.rlc_model.specs.declared.transmitter.StatusHeard.TheVariants.{Acked, Old, Beyond}
use Rattle.rlc_model.specs.Hop.{GrantsHop, HearsHop, ExpiresHop}
use Rattle.rlc_model.specs.Rx.{Rx}
use Rattle.rlc_model.specs.Sides.{Entity}
use Rattle.rlc_model.specs.Tx.{Tx, Kept, kept_at, tx_next, Gives, Sends}
use Rattle.rlc_law.proofs.Acknowledge.{Keeps, acks_keeps, expires_keeps}
use Rattle.rlc_law.proofs.Base.{kept_below}
use Rattle.rlc_law.proofs.Grant.{next_was}
use Rattle.node_model.specs.declared.answers.NodeHeard.{NodeHeard}
use Rattle.node_model.specs.declared.answers.PullReply.{PullReply}
use Rattle.node_model.specs.declared.answers.PullReply.TheVariants as pulled
use Rattle.node_model.specs.declared.answers.PushReply.{PushReply}
use Rattle.node_model.specs.declared.answers.PushReply.TheVariants as pushed
use Rattle.node_model.specs.Feeding.{in_key, out_key}
use Rattle.node_model.specs.Hearing.{hear_refusal, HearsUnless, HearsPdu}
use Rattle.node_model.specs.Relaying.{Pushes, PushesPort, Pulls, PullsPort, parcel_tag}
use Rattle.node_model.specs.Sides.{IsOpen, GrantsSide, ExpiresSide}
use Rattle.node_model.specs.State.{PortSide, Node, side_at, entity_of, entity_at, set_side, set_entity}
use Rattle.node_model.proofs.Names.{cases_port}
use Rattle.chain_law.specs.Calls.{HearLeavesKept}
use Rattle.chain_law.proofs.Nodes.{side_set}
use Rattle.chain_law.proofs.Stands.{SideChanges}
use Rattle.chain_law.proofs.Leaving.{follows_stand}
use Rattle.carried_law.specs.Foundations.{SentLaws}

-- an SDU was kept under its number before. A byte of it was sent then if one was since, unless the number may begin
pub record WasKept (Begins : ℕ → Type 0) (old : Tx) (n : ℕ) (k : Kept) : Type 0 where
  pub was : Kept
  pub here : kept_at old n ≡ Some was
  pub sdu : k.sdu ≡ was.sdu
  pub begun : 0 < length k.flags → (0 < length was.flags) ⊎ Begins n

-- an SDU that may be given was, and has a later number than all before
pub record IsNew (May : List ℕ → Type 0) (Begins : ℕ → Type 0) (old : Tx) (n : ℕ) (k : Kept) : Type 0 where
  pub later : tx_next old ≤ n
  pub allowed : May k.sdu
  pub begun : 0 < length k.flags → Begins n

-- each SDU that is kept was kept before, or is new
pub record KeepsSdus (May : List ℕ → Type 0) (Begins : ℕ → Type 0) (old new : Tx) : Type 0 where
  pub long : tx_next old ≤ tx_next new
  pub kept : (n : ℕ) (k : Kept) → kept_at new n ≡ Some k → WasKept Begins old n k ⊎ IsNew May Begins old n k

-- a grant begins a number of which it sends a data PDU
abbrev pub BeginsWith : HopGrant → ℕ → Type 0
BeginsWith (grants.Sent false number bytes) n = n ≡ number
BeginsWith answer n = ⊥

-- a side that is open was open in the same epoch, and its transmitter keeps what it kept
abbrev pub SideKeeps : (List ℕ → Type 0) → (ℕ → Type 0) → Option Entity → Option Entity → Type 0
SideKeeps May Begins was now = (e : Entity) → now ≡ Some e → (before : Entity) × (was ≡ Some before) × (e.epoch ≡ before.epoch) × KeepsSdus May Begins before.tx e.tx

module _ {May : List ℕ → Type 0} {Begins : ℕ → Type 0} where
  pub sdus_themselves : (tx : Tx) → KeepsSdus May Begins tx tx
  sdus_themselves tx = record { long = omega arith; kept = λ n k is. inl (record { was = k; here = is; sdu = refl; begun = λ some. inl some }) }

  sdus_stay : (old new : Tx) → new ≡ old → KeepsSdus May Begins old new
  sdus_stay old new is = subst (KeepsSdus May Begins old) (sym is) (sdus_themselves old)

  pub sdus_then : (a b c : Tx) → KeepsSdus May Begins a b → KeepsSdus May Begins b c → KeepsSdus May Begins a c
  sdus_then a b c x y = record {
    long = omega (arith, x.long, y.long);
    kept = λ n k is. elim (y.kept n k is) [
      | inr new ↦ inr (record { later = omega (arith, x.long, new.later); allowed = new.allowed; begun = new.begun })
      | inl mid ↦ elim (x.kept n mid.was mid.here) [
        | inr new ↦ inr (record {
          later = new.later;
          allowed = subst May (sym mid.sdu) new.allowed;
          begun = λ some. elim (mid.begun some) [ inl yet ↦ new.begun yet | inr begins ↦ begins ];
        })
        | inl was ↦ inl (record {
          was = was.was;
          here = was.here;
          sdu = mid.sdu ∙ was.sdu;
          begun = λ some. elim (mid.begun some) [ inl yet ↦ was.begun yet | inr begins ↦ inr begins ];
        })
      ]
    ];
  }

  -- a call that gives none, and sends none
  called_sdus : (old new : Tx) → Keeps old new → KeepsSdus May Begins old new
  called_sdus old new keeps = record {
    long = omega (arith, keeps.long);
    kept = λ n k is.
        let was = keeps.from n k is in
        inl (record { was = was.0; here = was.1; sdu = was.2; begun = λ some. inl (omega (arith, was.3, some)) });
  }

  -- one more is given
  pub given_sdus : (old new : Tx) (tag : Tag) (sdu : List ℕ) (number : ℕ) → Gives old tag sdu number new → May sdu → KeepsSdus May Begins old new
  given_sdus old new tag sdu number g may = record {
    long = omega (arith, ap length its, length_push old.kept (Some last));
    kept = λ n k is.
        let at : get_or (old.kept ++ Some last ∷ []) n None ≡ Some k = ap (λ (l : List (Option Kept)). get_or l n None) (sym its) ∙ is in
        elim (cases_lt n (length old.kept)) [
          | inl low ↦ inl (record { was = k; here = sym (get_or_append_left old.kept (Some last ∷ []) None n low) ∙ at; sdu = refl; begun = λ some. inl some })
          | inr high ↦
              let place : length old.kept ≡ n = omega (arith, high, kept_below new n k is, ap length its, length_push old.kept (Some last)) in
              let same : last ≡ k = same_Some last k (sym (get_or_push old.kept (Some last) None n place) ∙ at) in
              let unsent : length k.flags ≡ 0 = ap (λ (k : Kept). length k.flags) (sym same) in
              inr (record { later = high; allowed = subst May (ap (λ (k : Kept). k.sdu) same) may; begun = λ some. absurd (omega (arith, some, unsent)) })
        ];
  }
    where
      last : Kept
      last = record { tag = tag; sdu = sdu; flags = []; retx_count = None }

      its : new.kept ≡ old.kept ++ Some last ∷ []
      its = ap (λ (t : Tx). t.kept) g.is

  -- a data PDU of a number is sent
  sent_sdus : (old new : Tx) (octets number : ℕ) (view : DataPdu) → Sends old octets number view new → Begins number → KeepsSdus May Begins old new
  sent_sdus old new octets number view s begins = record {
    long = omega (arith, s.long);
    kept = λ n k is. elim (cases_eq n number) [
      | inr ne ↦ inl (record { was = k; here = sym (s.others n ne) ∙ is; sdu = refl; begun = λ some. inl some })
      | inl this ↦
          let same : record s.kept { flags = s.flags } ≡ k = same_Some (record s.kept { flags = s.flags }) k (sym s.this ∙ ap (kept_at new) (sym this) ∙ is) in
          inl (record {
            was = s.kept;
            here = ap (kept_at old) this ∙ next_was old number s.kept s.a s.b s.next;
            sdu = ap (λ (k : Kept). k.sdu) (sym same);
            begun = λ some. inr (subst Begins (sym this) begins);
          })
    ];
  }

  granted_sdus : (tx : Tx) (rx : Rx) (octets : ℕ) (answer : HopGrant) (u : Tx) (q : Rx) → ((n : ℕ) → BeginsWith answer n → Begins n) → GrantsHop tx rx octets answer u q
      → KeepsSdus May Begins tx u
  granted_sdus tx rx octets (grants.Sent true number bytes) u q so g = sdus_stay tx u g.3
  granted_sdus tx rx octets (grants.Sent false number bytes) u q so g = sent_sdus tx u octets number g.1.0 g.1.2 (so number refl)
  granted_sdus tx rx octets grants.Idle u q so g = sdus_stay tx u g.1.2
  granted_sdus tx rx octets (grants.Small need) u q so (inl g) = sdus_stay tx u g.2
  granted_sdus tx rx octets (grants.Small need) u q so (inr g) = sdus_stay tx u g.1.7

  expired_sdus : (tx : Tx) (rx : Rx) (timer : Timer) (expired : Expired) (u : Tx) (q : Rx) → ExpiresHop tx rx timer expired u q → KeepsSdus May Begins tx u
  expired_sdus tx rx Poll expiry.Done u q x = called_sdus tx u (expires_keeps tx _ u x.0)
  expired_sdus tx rx Poll (expiry.Marked n) u q x = called_sdus tx u (expires_keeps tx _ u x.0)
  expired_sdus tx rx Poll expiry.Stopped u q x = sdus_stay tx u x.0.1
  expired_sdus tx rx Reasm expired u q x = sdus_stay tx u x.1
  expired_sdus tx rx Prohibit expired u q x = sdus_stay tx u x.1

  -- whatever an entity hears
  heard_sdus : SentLaws → (tx : Tx) (rx : Rx) (bytes : List ℕ) (answer : HopHeard) (u : Tx) (q : Rx) → HearsHop tx rx bytes answer u q → KeepsSdus May Begins tx u
  heard_sdus laws tx rx bytes answer u q h = by answer h (laws.heard.hearing tx rx bytes answer u q h)
    where
      by : (answer : HopHeard) → HearsHop tx rx bytes answer u q → HearLeavesKept tx rx answer u q → KeepsSdus May Begins tx u
      by (Status (Acked tags marks)) h x = called_sdus tx u (acks_keeps tx u h.1 tags marks h.3)
      by (Amd (Complete number sdu)) h x = sdus_stay tx u x.0
      by (Amd Stored) h x = sdus_stay tx u x.0
      by (Amd Repeat) h x = sdus_stay tx u x.0
      by (Amd Outside) h x = sdus_stay tx u x.0
      by (Amd Conflict) h x = sdus_stay tx u x.0
      by (Status (Old ack next)) h x = sdus_stay tx u x.0
      by (Status (Beyond ack top)) h x = sdus_stay tx u x.0
      by (BadAmd fault) h x = sdus_stay tx u x.0
      by (BadStatus fault) h x = sdus_stay tx u x.0

  pub side_itself : (was now : Option Entity) → now ≡ was → SideKeeps May Begins was now
  side_itself was now same e is = (e, sym same ∙ is, refl, sdus_themselves e.tx)

  pub side_then : (a b c : Option Entity) → SideKeeps May Begins a b → SideKeeps May Begins b c → SideKeeps May Begins a c
  side_then a b c x y e is =
      let mid = y e is in
      let was = x mid.0 mid.1 in
      (was.0, was.1, mid.2 ∙ was.2, sdus_then was.0.tx mid.0.tx e.tx was.3 mid.3)

  -- an entity is called
  pub called_side : (was : Option Entity) (entity now : Entity) → was ≡ Some entity → now.epoch ≡ entity.epoch → KeepsSdus May Begins entity.tx now.tx
      → SideKeeps May Begins was (Some now)
  called_side was entity now is_open epoch keeps e is =
      let same : now ≡ e = same_Some now e is in
      (entity, is_open, ap (λ (x : Entity). x.epoch) (sym same) ∙ epoch, subst (λ (x : Entity). KeepsSdus May Begins entity.tx x.tx) same keeps)

-- so do all sides of a node, and the node has the keys that it had
pub record NodeKeeps (May : PortName → List ℕ → Type 0) (Begins : PortName → ℕ → Type 0) (old new : Node) : Type 0 where
  pub name : new.name ≡ old.name
  pub outs : map out_key new.outgoing ≡ map out_key old.outgoing
  pub ins : map in_key new.incoming ≡ map in_key old.incoming
  pub sides : (q : PortName) → SideKeeps (May q) (Begins q) (entity_at old q) (entity_at new q)

module _ {May : PortName → List ℕ → Type 0} {Begins : PortName → ℕ → Type 0} where
  pub node_beside : (old new : Node) → new.name ≡ old.name → map out_key new.outgoing ≡ map out_key old.outgoing → map in_key new.incoming ≡ map in_key old.incoming
      → ((q : PortName) → entity_at new q ≡ entity_at old q) → NodeKeeps May Begins old new
  node_beside old new name outs ins same = record { name = name; outs = outs; ins = ins; sides = λ q. side_itself (entity_at old q) (entity_at new q) (same q) }

  pub node_itself : (old new : Node) → new ≡ old → NodeKeeps May Begins old new
  node_itself old new is = subst (NodeKeeps May Begins old) (sym is) (node_beside old old refl refl refl (λ q. refl))

  pub node_then : (a b c : Node) → NodeKeeps May Begins a b → NodeKeeps May Begins b c → NodeKeeps May Begins a c
  node_then a b c x y = record { name = y.name ∙ x.name; outs = y.outs ∙ x.outs; ins = y.ins ∙ x.ins; sides = λ q. side_then (entity_at a q) (entity_at b q) (entity_at c q) (x.sides q) (y.sides q) }

  -- a side is set whose transmitter keeps what it kept
  pub side_keeps : (old : Node) (port : PortName) (was now : PortSide) → side_at old port ≡ Some was → now.name ≡ was.name
      → SideKeeps (May port) (Begins port) was.entity now.entity → NodeKeeps May Begins old (set_side old now)
  side_keeps old port was now here name keeps = record {
    name = refl;
    outs = refl;
    ins = refl;
    sides = λ q. elim (cases_port q port) [
      | inr ne ↦ side_itself (entity_at old q) (entity_at (set_side old now) q) (ap (option_and_then entity_of) (sets.others q ne))
      | inl this ↦ subst (λ (x : PortName). SideKeeps (May x) (Begins x) (entity_at old x) (entity_at (set_side old now) x)) (sym this)
          (subst (λ (o : Option PortSide). SideKeeps (May port) (Begins port) (option_and_then entity_of o) (entity_at (set_side old now) port)) (sym here)
          (subst (λ (o : Option PortSide). SideKeeps (May port) (Begins port) was.entity (option_and_then entity_of o)) (sym sets.here) keeps))
    ];
  }
    where
      sets : SideChanges old port now (set_side old now)
      sets = side_set old port was now here name

  node_called : (old : Node) (port : PortName) (side : PortSide) (entity now : Entity) → IsOpen old port side entity → now.epoch ≡ entity.epoch
      → KeepsSdus (May port) (Begins port) entity.tx now.tx
      → (new : Node) → new.name ≡ old.name → map out_key new.outgoing ≡ map out_key old.outgoing → map in_key new.incoming ≡ map in_key old.incoming
      → ((q : PortName) → entity_at new q ≡ entity_at (set_entity old side now) q) → NodeKeeps May Begins old new
  node_called old port side entity now its epoch keeps new name outs ins stands = node_then old (set_entity old side now) new
      (side_keeps old port side (record side { entity = Some now }) its.here refl (called_side side.entity entity now its.is_open epoch keeps))
      (node_beside (set_entity old side now) new name outs ins stands)

  pub node_set : (old : Node) (port : PortName) (side : PortSide) (entity now : Entity) → IsOpen old port side entity → now.epoch ≡ entity.epoch
      → KeepsSdus (May port) (Begins port) entity.tx now.tx → (new : Node) → new ≡ set_entity old side now → NodeKeeps May Begins old new
  node_set old port side entity now its epoch keeps new is = subst (NodeKeeps May Begins old) (sym is)
      (node_called old port side entity now its epoch keeps (set_entity old side now) refl refl refl (λ q. refl))

  pub grants_keep : (old : Node) (port : PortName) (octets epoch : ℕ) (answer : HopGrant) (new : Node) → ((n : ℕ) → BeginsWith answer n → Begins port n)
      → GrantsSide old port octets epoch answer new → NodeKeeps May Begins old new
  grants_keep old port octets epoch answer new so g = node_set old port g.side g.entity (record g.entity { tx = g.tx; rx = g.rx }) g.its refl
      (granted_sdus g.entity.tx g.entity.rx octets answer g.tx g.rx so g.grants) new g.is

  pub expires_keep : (old : Node) (port : PortName) (timer : Timer) (expired : Expired) (new : Node) → ExpiresSide old port timer expired new → NodeKeeps May Begins old new
  expires_keep old port timer expired new x = node_set old port x.side x.entity (record x.entity { tx = x.tx; rx = x.rx }) x.its refl
      (expired_sdus x.entity.tx x.entity.rx timer expired x.tx x.rx x.expires) new x.is

  -- a node hears a PDU
  pub hears_keeps : SentLaws → (t : Contents) (old : Node) (at : Side) (pdu : Pdu) (answer : NodeHeard) (new : Node) → HearsPdu t old at pdu answer new
      → NodeKeeps May Begins old new
  hears_keeps laws t old at pdu answer new = by (hear_refusal pdu (side_at old pdu.port))
    where
      by : (refusal : Option NodeHeard) → HearsUnless refusal t old at pdu answer new → NodeKeeps May Begins old new
      by (Some refusal) x = node_itself old new x.1
      by None h =
          let now : PortSide = record h.side { entity = Some h.behind } in
          let stands = follows_stand t (set_entity old h.side h.behind) pdu.port now (side_set old pdu.port h.side now h.its.here refl).here at h.hop answer new h.follows in
          node_called old pdu.port h.side h.entity h.behind h.its (ap (λ (e : Entity). e.epoch) h.its_entity)
          (subst (λ (e : Entity). KeepsSdus (May pdu.port) (Begins pdu.port) h.entity.tx e.tx) (sym h.its_entity)
          (heard_sdus laws h.entity.tx h.entity.rx pdu.bytes h.hop h.tx h.rx h.hears))
          new stands.same.name stands.same.outs stands.same.ins stands.entities

  -- the relay pushes
  pushes_keep : (old : Node) (port egress : PortName) (new : Node) → Pushes old port egress new → NodeKeeps May Begins old new
  pushes_keep old port egress new p = node_then old p.mid new
      (subst (NodeKeeps May Begins old) (sym p.empties)
      (side_keeps old port p.from (record p.from { slot = None }) p.here refl (side_itself p.from.entity p.from.entity refl)))
      (subst (NodeKeeps May Begins p.mid) (sym p.is)
      (side_keeps p.mid egress p.to (record p.to { queue = p.to.queue ++ p.parcel ∷ [] }) p.there refl (side_itself p.to.entity p.to.entity refl)))

  pub push_keeps : (capacity : ℕ) (old : Node) (port : PortName) (answer : PushReply) (new : Node) → PushesPort capacity old port answer new → NodeKeeps May Begins old new
  push_keeps capacity old port (pushed.Done egress) new p = pushes_keep old port egress new p.1
  push_keeps capacity old port pushed.NoPort new p = node_itself old new p.1
  push_keeps capacity old port pushed.Nothing new p = node_itself old new p.1
  push_keeps capacity old port pushed.QueueFull new p = node_itself old new p.1

  -- the relay pulls, and may give all that it holds
  module _ (all : (q : PortName) (sdu : List ℕ) → May q sdu) where
    pulls_keep : (old : Node) (port : PortName) (number : ℕ) (new : Node) → Pulls old port number new → NodeKeeps May Begins old new
    pulls_keep old port number new p = subst (NodeKeeps May Begins old) (sym p.is)
        (side_keeps old port p.side (record p.side { entity = Some (record p.entity { tx = p.tx }); queue = p.parcels }) p.its.here refl
        (called_side p.side.entity p.entity (record p.entity { tx = p.tx }) p.its.is_open refl
        (given_sdus p.entity.tx p.tx (parcel_tag p.parcel) p.parcel.sdu number p.gives (all port p.parcel.sdu))))

    pub pull_keeps : (old : Node) (port : PortName) (answer : PullReply) (new : Node) → PullsPort old port answer new → NodeKeeps May Begins old new
    pull_keeps old port (pulled.Done number) new p = pulls_keep old port number new p.1
    pull_keeps old port pulled.NoPort new p = node_itself old new p.1
    pull_keeps old port pulled.Empty new p = node_itself old new p.1
    pull_keeps old port pulled.Stalled new p = node_itself old new p.1
