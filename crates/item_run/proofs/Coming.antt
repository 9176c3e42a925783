-- What comes to an end of bearers is of an item: an SDU that leads to a key, or what RLC confirms on a direct port.
use Rattle.std.proofs.Common.{◌≡◌, inl, inr, ℕ, Bool, true, false, List, [], ◌∷◌, Contains, Some, None, Result, Ok, Err, refl, sym, ◌∙◌, ap, subst}
use Rattle.std.proofs.lemmas.Option.{same_Some}
use Rattle.rlc_law.proofs.Lists.{contains_nil, contains_cases}
use Rattle.link_base.specs.declared.discard.Discard.{Discard}
use Rattle.link_base.specs.declared.names.Drb.{Drb}
use Rattle.link_base.specs.declared.names.Key.{Key}
use Rattle.link_base.specs.declared.names.PortName.{PortName}
use Rattle.link_base.specs.declared.names.PortName.TheVariants.{Direct, Pc5, Uu}
use Rattle.link_base.specs.declared.names.Remote.{Remote}
use Rattle.link_base.specs.declared.names.Way.{Way}
use Rattle.link_base.specs.declared.names.Way.TheVariants.{Ul, Dl}
use Rattle.link_base.specs.declared.rlc_words.Tag.{Tag}
use Rattle.pdcp_pdu.specs.Pdcp.{pdcp_bytes}
use Rattle.rlc_model.specs.declared.hop.HopHeard.{HopHeard}
use Rattle.rlc_model.specs.declared.hop.HopHeard.TheVariants.{Amd, Status}
use Rattle.rlc_model.specs.declared.hop.Pdu.{Pdu}
use Rattle.rlc_model.specs.declared.receiver.Heard.TheVariants.{Complete}
use Rattle.rlc_model.specs.declared.transmitter.StatusHeard.TheVariants.{Acked}
use Rattle.rlc_model.specs.Hop.{on_air, HearsHop}
use Rattle.rlc_model.specs.Rx.{Rx}
use Rattle.rlc_model.specs.Sides.{Entity, hearer_of}
use Rattle.rlc_model.specs.Tx.{Tx}
use Rattle.rlc_law.specs.Ports.{Port}
use Rattle.rlc_law.specs.PortLaws.{HearLeaves, HearsDataMade, HearsStatusMade}
use Rattle.node_model.specs.Names.{NodeName, AtRemote, AtGnb, key_of, owner, sink}
use Rattle.node_model.specs.Hearing.{hear_refusal}
use Rattle.node_model.specs.Sides.{IsOpen}
use Rattle.node_model.specs.State.{Node, PortSide, side_at}
use Rattle.node_model.specs.Routing.{Target, ToPdcp, Leads}
use Rattle.chain_model.specs.Draining.{Moment}
use Rattle.chain_model.specs.Lines.{hearer}
use Rattle.chain_model.specs.State.{Chain, node_at}
use Rattle.bearer_map.specs.Contents.{Contents}
use Rattle.item_law.specs.Live.{Live}
use Rattle.item_law.specs.State.{Item, Spot, way_of}
use Rattle.book_law.specs.Hearings.{EntityHears, CompletesPdcp}
use Rattle.item_chain.specs.View.{View, view}
use Rattle.item_chain.specs.Stands.{Ghost, Stands}
use Rattle.item_chain.proofs.Completed.{n}
use Rattle.item_chain.proofs.Confirms.{IsDone, AllDone, all_done}
use Rattle.item_chain.proofs.Directs.{direct_takes}
use Rattle.item_chain.proofs.Headers.{pc5_direct, uu_direct}
use Rattle.item_chain.proofs.Heard.{IsHandedOver, handed_over, its_open, as_made}
use Rattle.item_chain.proofs.Hearing.{its, hears_way}
use Rattle.item_chain.proofs.Ports.{own}
use Rattle.item_chain.proofs.Seconds.{gnb_header, gnb_takes, remote_header, remote_takes}
use Rattle.item_chain.proofs.Taken.{Taken}

-- an item is live for a key as this PDCP PDU
pub record IsFor (g : Ghost) (v : View) (st : Stands g v) (number : ℕ) (key : Key) (pdu : List ℕ) : Type 0 where
  pub item : Item
  pub its : g.chain.items number ≡ Some item
  pub remote : item.key.remote ≡ key.remote
  pub drb : item.key.drb ≡ key.drb
  pub way : way_of item ≡ key.way
  pub live : Live g.chain number item
  pub spelled : pdu ≡ pdcp_bytes (st.spelt number item its).row.pdcp (st.spelt number item its).pdu

-- it is so for a key of this node
pub record Came (g : Ghost) (v : View) (st : Stands g v) (name : NodeName) (key : Key) (pdu : List ℕ) : Type 0 where
  pub number : ℕ
  pub its : IsFor g v st number key pdu
  pub home : name ≡ sink key

came_of : (g : Ghost) (v : View) (st : Stands g v) (number : ℕ) (name : NodeName) (key : Key) (pdu : List ℕ) → Taken g v st number name key pdu → Came g v st name key pdu
came_of g v st number name key pdu x = record {
  number = number;
  its = record { item = x.item; its = x.its; remote = x.remote; drb = x.drb; way = x.way; live = x.live; spelled = x.spelled };
  home = x.home;
}

target_key : (a b : Key) (x y : List ℕ) → (let t : Result Target Discard = Ok (ToPdcp a x) in t) ≡ Ok (ToPdcp b y) → a ≡ b
target_key a b x y e = cc

target_body : (a b : Key) (x y : List ℕ) → (let t : Result Target Discard = Ok (ToPdcp a x) in t) ≡ Ok (ToPdcp b y) → x ≡ y
target_body a b x y e = cc

-- of tags that are all done each is
done_among : (t : Contents) (items : ℕ → _) (spot : ℕ → Spot) (name : NodeName) (tags : List Tag) → AllDone t items spot name tags → (tag : Tag) → Contains tags tag
    → IsDone t items spot name tag
done_among t items spot name [] all tag among = absurd (contains_nil tag among)
done_among t items spot name (x ∷ tags) all tag among = elim (contains_cases x tags tag among) [
  | inl here ↦ subst (IsDone t items spot name) (sym here) all.0
  | inr later ↦ done_among t items spot name tags all.1 tag later
]

module _ (g : Ghost) (c : Chain) (st : Stands g (view c)) (ticket epoch number : ℕ) (kind : Bool) (bytes : List ℕ) where
  abbrev pdu_of : PortName → Way → Pdu
  pdu_of port way = record { port = port; way = way; epoch = epoch; status = kind; number = number; bytes = bytes }

  abbrev at : PortName → Way → Node
  at port way = node_at c (owner (hearer_of way) port)

  -- an SDU that completes and leads to a key
  pub came_over : (key : Key) (body : List ℕ) (port : PortName) (way : Way) (on : on_air c.air ticket ≡ Some (pdu_of port way)) (may : IsHandedOver (pdu_of port way) (at port way))
      (k : ℕ) (whole : List ℕ) (tx : Tx) (rx : Rx)
      → HearsDataMade (its g (view c) st way port may.entity (its_open g c st ticket (pdu_of port way) on may) number bytes tx rx) way number bytes (Complete k whole) tx rx
      → Leads c.tables (at port way) (hearer_of way) port whole (Ok (ToPdcp key body)) → Came g (view c) st (owner (hearer_of way) port) key body
  came_over key body (Direct r d) w on may k whole tx rx h leads =
      let opened = its_open g c st ticket (pdu_of (Direct r d) w) on may in
      let m = n g (view c) st w (Direct r d) may.entity opened number bytes tx rx k whole h in
      let name : NodeName = owner (hearer_of w) (Direct r d) in
      let its_key : key ≡ key_of r d w = target_key key _ body whole leads ∙ ap (key_of r d) (hears_way w) in
      came_of g (view c) st m _ key body (
      subst (λ (x : Key). Taken g (view c) st m name x body) (sym its_key)
      (subst (Taken g (view c) st m name (key_of r d w)) (sym (target_body key _ body whole leads))
      (direct_takes g (view c) st may.entity number bytes tx rx k whole r d w opened h)))
  came_over key body (Pc5 r ch) Ul on may k whole tx rx h (inl under) = absurd under.2
  came_over key body (Pc5 r ch) Ul on may k whole tx rx h (inr bad) = absurd (no_target bad.2)
    where
      no_target : {d : Discard} → (let t : Result Target Discard = Ok (ToPdcp key body) in t) ≡ Err d → ⊥
      no_target e = cc
  came_over key body (Pc5 r ch) Dl on may k whole tx rx h (inl under) =
      let opened = its_open g c st ticket (pdu_of (Pc5 r ch) Dl) on may in
      let m = n g (view c) st Dl (Pc5 r ch) may.entity opened number bytes tx rx k whole h in
      let ends = under.2.2 in
      let route = ends.0 in
      came_of g (view c) st m _ key body (
      subst (λ (x : Key). Taken g (view c) st m (AtRemote r) x body) (sym route.4)
      (subst (Taken g (view c) st m (AtRemote r) _) (sym ends.1)
      (remote_takes g (view c) st may.entity number bytes tx rx k whole r ch opened h under.0 under.1 under.2.0 under.2.1 route.1 route.0 route.2)))
  came_over key body (Pc5 r ch) Dl on may k whole tx rx h (inr bad) = absurd
      (remote_header g (view c) st may.entity number bytes tx rx k whole r ch (its_open g c st ticket (pdu_of (Pc5 r ch) Dl) on may) h bad.0 bad.1)
  came_over key body (Uu ch) Ul on may k whole tx rx h (inl under) =
      let opened = its_open g c st ticket (pdu_of (Uu ch) Ul) on may in
      let m = n g (view c) st Ul (Uu ch) may.entity opened number bytes tx rx k whole h in
      let route = under.2.0 in
      came_of g (view c) st m _ key body (
      subst (λ (x : Key). Taken g (view c) st m AtGnb x body) (sym route.5)
      (subst (Taken g (view c) st m AtGnb _) (sym under.2.1)
      (gnb_takes g (view c) st may.entity number bytes tx rx k whole ch opened h under.0 under.1 route.0 route.2 route.1 route.3 route.4)))
  came_over key body (Uu ch) Ul on may k whole tx rx h (inr bad) = absurd
      (gnb_header g (view c) st may.entity number bytes tx rx k whole ch (its_open g c st ticket (pdu_of (Uu ch) Ul) on may) h bad.0 bad.1)
  came_over key body (Uu ch) Dl on may k whole tx rx h (inl under) = absurd under.2
  came_over key body (Uu ch) Dl on may k whole tx rx h (inr bad) = absurd (no_target bad.2)
    where
      no_target : {d : Discard} → (let t : Result Target Discard = Ok (ToPdcp key body) in t) ≡ Err d → ⊥
      no_target e = cc

  -- what a STATUS on a direct port confirms is done
  pub done_over : (port : PortName) (way : Way) (on : on_air c.air ticket ≡ Some (pdu_of port way)) (may : IsHandedOver (pdu_of port way) (at port way))
      (tags : List Tag) (marks : List ℕ) (tx : Tx) (rx : Rx)
      → HearsStatusMade (its g (view c) st way port may.entity (its_open g c st ticket (pdu_of port way) on may) number bytes tx rx) way number bytes (Acked tags marks) tx rx
      → (r : Remote) (d : Drb) → port ≡ Direct r d → AllDone c.tables g.chain.items g.chain.spot (owner (hearer_of way) port) tags
  done_over (Direct q e) w on may tags marks tx rx h r d is =
      all_done g (view c) st may.entity number bytes tx rx q e w (its_open g c st ticket (pdu_of (Direct q e) w) on may) tags marks h
  done_over (Pc5 q ch) w on may tags marks tx rx h r d is = absurd (pc5_direct q r ch d is)
  done_over (Uu ch) w on may tags marks tx rx h r d is = absurd (uu_direct ch r d is)

-- an open side hears what its port has made
module _ (g : Ghost) (c : Chain) (st : Stands g (view c)) (ticket : ℕ) (pdu : Pdu) (on : on_air c.air ticket ≡ Some pdu)
    (taken : hear_refusal pdu (side_at (hearer pdu c) pdu.port) ≡ None) where
  abbrev pub may_hear : IsHandedOver pdu (hearer pdu c)
  may_hear = handed_over pdu (hearer pdu c) taken

  abbrev pub port_there : Port
  port_there = (own g (view c) st (hearer_of pdu.way) pdu.port may_hear.entity (its_open g c st ticket pdu on may_hear)).0

  module _ (side : PortSide) (entity : Entity) (its : IsOpen (hearer pdu c) pdu.port side entity) where
    pub same_side : side ≡ may_hear.side
    same_side = same_Some side may_hear.side (sym its.here ∙ may_hear.here)

    pub same_entity : entity ≡ may_hear.entity
    same_entity = same_Some entity may_hear.entity (sym its.is_open ∙ ap (λ (x : PortSide). x.entity) same_side ∙ may_hear.is_open)

    pub made : (answer : HopHeard) (tx : Tx) (rx : Rx) → HearsHop entity.tx entity.rx pdu.bytes answer tx rx
        → HearLeaves port_there pdu.way pdu.status pdu.number pdu.bytes answer tx rx
    made answer tx rx hears = as_made g c st ticket pdu on may_hear answer tx rx (subst (λ (x : Entity). HearsHop x.tx x.rx pdu.bytes answer tx rx) same_entity hears)

module _ (g : Ghost) (m : Moment) (st : Stands g (view m.before)) where
  -- an SDU that leads to a key
  pub completes_came : (key : Key) (body : List ℕ) → CompletesPdcp key m body → Came g (view m.before) st (sink key) key body
  completes_came key body x = subst (λ (name : NodeName). Came g (view m.before) st name key body) y.at_node
      (by p.status refl (made g m.before st y.ticket p y.shown y.taken y.side y.entity y.its _ y.tx y.rx y.hears))
    where
      y : EntityHears (sink key) m (Amd (Complete x.number x.whole))
      y = x.comes

      p : Pdu
      p = y.pdu

      by : (kind : Bool) → p.status ≡ kind
          → HearLeaves (port_there g m.before st y.ticket p y.shown y.taken) p.way kind p.number p.bytes (Amd (Complete x.number x.whole)) y.tx y.rx
          → Came g (view m.before) st (owner (hearer_of p.way) p.port) key body
      by true is h = absurd h
      by false is h = came_over g m.before st y.ticket p.epoch p.number p.status p.bytes key body p.port p.way y.shown
          (may_hear g m.before st y.ticket p y.shown y.taken) x.number x.whole y.tx y.rx h x.leads

  -- what RLC confirms on a direct port
  pub acked_done : (name : NodeName) (tags : List Tag) (marks : List ℕ) (y : EntityHears name m (Status (Acked tags marks))) (r : Remote) (d : Drb) → y.pdu.port ≡ Direct r d
      → (tag : Tag) → Contains tags tag → IsDone m.before.tables g.chain.items g.chain.spot name tag
  acked_done name tags marks y r d direct tag among = done_among m.before.tables g.chain.items g.chain.spot name tags
      (subst (λ (x : NodeName). AllDone m.before.tables g.chain.items g.chain.spot x tags) y.at_node
      (by p.status refl (made g m.before st y.ticket p y.shown y.taken y.side y.entity y.its _ y.tx y.rx y.hears))) tag among
    where
      p : Pdu
      p = y.pdu

      by : (kind : Bool) → p.status ≡ kind → HearLeaves (port_there g m.before st y.ticket p y.shown y.taken) p.way kind p.number p.bytes (Status (Acked tags marks)) y.tx y.rx
          → AllDone m.before.tables g.chain.items g.chain.spot (owner (hearer_of p.way) p.port) tags
      by true is h = done_over g m.before st y.ticket p.epoch p.number p.status p.bytes p.port p.way y.shown
          (may_hear g m.before st y.ticket p y.shown y.taken) tags marks y.tx y.rx h r d direct
      by false is h = absurd h
