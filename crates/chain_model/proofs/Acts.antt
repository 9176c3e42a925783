-- What a line does that isn't refused, and the steps that lines make so.
use Rattle.std.proofs.Common.{◌≡◌, inl, inr, ℕ, ◌+◌, ◌-◌, ◌%◌, ◌^◌, ◌<◌, ◌≤◌, Bool, true, if◌then◌else◌, List, [], ◌∷◌, ◌++◌, length, get_or, Option, Some, None, refl, sym, ◌∙◌, ap, subst, arith}
use native.Mathlib.Nat.{zero-div}
use Rattle.std.specs.List.{filter_map}
use Rattle.std.specs.declared.result.Result.{Result}
use Rattle.link_base.specs.declared.discard.Discard.{Discard}
use Rattle.link_base.specs.declared.names.Key.{Key}
use Rattle.link_base.specs.declared.names.PortName.{PortName}
use Rattle.link_base.specs.declared.names.Side.{Side}
use Rattle.link_base.specs.declared.names.SnSize.TheVariants.{S12}
use Rattle.link_base.specs.declared.names.Timer.{Timer}
use Rattle.link_base.specs.declared.names.Way.{Way}
use Rattle.link_base.specs.declared.rlc_words.Expired.TheVariants as expiry
use Rattle.pdcp_pdu.specs.Pdcp.{IsDataPdu}
use Rattle.pdcp_pdu.specs.Reports.{bit_of}
use Rattle.rlc_pdu.specs.Amd.{IsAmd}
use Rattle.rlc_model.specs.declared.hop.Pdu.{Pdu}
use Rattle.rlc_model.specs.declared.hop.HopGrant.TheVariants as grant
use Rattle.rlc_model.specs.declared.hop.HopHeard.{HopHeard}
use Rattle.rlc_model.specs.declared.hop.HopHeard.TheVariants.{Amd}
use Rattle.rlc_model.specs.declared.receiver.Heard.TheVariants.{Complete}
use Rattle.rlc_model.specs.Tx.{Tx, room, tx_next as number_of}
use Rattle.rlc_model.specs.Rx.{Rx, Hears}
use Rattle.rlc_model.specs.Sides.{Entity, sender_of, hearer_of, way_from}
use Rattle.rlc_model.specs.Hop.{on_air, sent_from, GrantsHop, HearsHop, ExpiresHop}
use Rattle.pdcp_model.specs.declared.answers.PdcpHeard.{PdcpHeard}
use Rattle.pdcp_model.specs.Sender.{Sender, confirmed, tx_next, hears_report, IsBeyond}
use Rattle.pdcp_model.specs.Receiver.{Receiver, rx_deliv, IsReport, Hears as HearsCount}
use Rattle.script_text.specs.declared.line.Line.{Line}
use Rattle.script_text.specs.declared.line.Line.TheVariants.{Grant, Deliver, Expire, Push, Pull}
use Rattle.script_text.specs.declared.event.Event.{Event}
use Rattle.script_text.specs.declared.reply.Reply.{Reply}
use Rattle.script_text.specs.declared.reply.Reply.TheVariants.{Ok, OkNumber, OkPort, Air}
use Rattle.node_model.specs.declared.answers.NodeHeard.{NodeHeard}
use Rattle.node_model.specs.declared.answers.NodeHeard.TheVariants as answers
use Rattle.node_model.specs.declared.answers.PushReply.TheVariants as pushed
use Rattle.node_model.specs.declared.answers.PullReply.TheVariants as pulled
use Rattle.node_model.specs.declared.parcel.Parcel.{Parcel}
use Rattle.node_model.specs.Names.{AtRelay, owner, back}
use Rattle.node_model.specs.State.{PortSide, Node, side_at, set_side, set_entity, outgoing, incoming, set_outgoing, set_incoming}
use Rattle.node_model.specs.Tables.{keys}
use Rattle.node_model.specs.Ends.{HearsPdcp, heard_as, data_pdu, report}
use Rattle.node_model.specs.Hearing.{hear_refusal, Passes, Follows, HearsUnless}
use Rattle.node_model.specs.Routing.{Target, Leads}
use Rattle.node_model.specs.Relaying.{push_refusal, pull_refusal, parcel_tag}
use Rattle.chain_model.specs.State.{Chain, node_at, set_node}
use Rattle.chain_model.specs.Telling.{TellsHeard}
use Rattle.chain_model.specs.Lines.{Unless, grant_refusal, Granted, hearer, is_handed_over, without, Delivers, expire_refusal, Expires, queue_capacity}
use Rattle.chain_model.specs.Steps.{Does, FeedsAll, Step, confirming, reporting}
use Rattle.chain_model.proofs.Receiving.{whole, octets, spelt, not_control}
use Rattle.chain_model.proofs.Fed.{are_fed, feeds_none, given}

-- a line, behind which the ends give these reports
pub gives : {line : Line} {reply : Reply} {events : List Event} (old mid : Chain) (own : List Event) (keys_given : List Key) (nodes : List Node)
    → Does old line own reply mid → FeedsAll mid.tables mid.nodes keys_given nodes
    → events ≡ own ++ filter_map (confirming old mid) (keys old.tables) ++ filter_map (reporting keys_given) (keys old.tables)
    → Step old line events reply (record mid { nodes = nodes })
gives old mid own keys_given nodes does feeds shows = record { own = own; mid = mid; does = does; given = keys_given; nodes = nodes; feeds = feeds; is = refl; shows = shows }

-- a line, behind which no end has anything to give
pub rests : {line : Line} {reply : Reply} {events : List Event} (old mid : Chain) (own : List Event) → Does old line own reply mid → are_fed mid.tables mid.nodes ≡ true
    → events ≡ own ++ filter_map (confirming old mid) (keys old.tables) ++ filter_map (reporting []) (keys old.tables) → Step old line events reply mid
rests old mid own does fed shows = gives old mid own [] mid.nodes does (feeds_none mid.tables mid.nodes fed) shows

-- where nothing is refused this holds
unless : (refusal : Option Reply) (old : Chain) (events : List Event) (reply : Reply) (new : Chain) (done : Type 0)
    → refusal ≡ None → done → Unless refusal old events reply new done
unless refusal old events reply new done none holds = subst (λ (r : Option Reply). Unless r old events reply new done) (sym none) holds

-- the chain whose side of a port has this entity, and has sent a PDU
abbrev pub sent_by : Chain → PortName → Way → PortSide → Entity → Bool → ℕ → List ℕ → Chain
sent_by c port way side entity status number bytes = record (set_node c (set_entity (node_at c (owner (sender_of way) port)) side entity)) {
  air = c.air ++ Some (sent_from port (sender_of way) entity.epoch status number bytes) ∷ [];
}

-- an open side is granted a PDU, and sends it
pub grants : (old : Chain) (port : PortName) (way : Way) (octets : ℕ) (side : PortSide) (entity : Entity) (status : Bool) (number : ℕ) (bytes : List ℕ) (tx : Tx) (rx : Rx)
    → grant_refusal old port way ≡ None → side_at (node_at old (owner (sender_of way) port)) port ≡ Some side → side.entity ≡ Some entity
    → GrantsHop entity.tx entity.rx octets (grant.Sent status number bytes) tx rx
    → Does old (Grant port way octets) [] (Air (length old.air + 1) status number bytes) (sent_by old port way side (record entity { tx = tx; rx = rx }) status number bytes)
grants old port way octets side entity status number bytes tx rx none here is_open hop =
    let reply = Air (length old.air + 1) status number bytes in
    let new = sent_by old port way side (record entity { tx = tx; rx = rx }) status number bytes in
    unless (grant_refusal old port way) old [] reply new (Granted old port way octets [] reply new) none (record {
      epoch = entity.epoch;
      answer = grant.Sent status number bytes;
      node = set_entity (node_at old (owner (sender_of way) port)) side (record entity { tx = tx; rx = rx });
      grants = record { side = side; entity = entity; its = record { here = here; is_open = is_open }; its_epoch = refl; tx = tx; rx = rx; grants = hop; is = refl };
      shows = refl;
      sends = (refl, refl);
    })

-- a timer of an open side runs out, and brings no count to its threshold
pub expires : (old : Chain) (port : PortName) (at : Side) (timer : Timer) (side : PortSide) (entity : Entity) (tx : Tx) (rx : Rx)
    → expire_refusal old port at ≡ None → side_at (node_at old (owner at port)) port ≡ Some side → side.entity ≡ Some entity
    → ExpiresHop entity.tx entity.rx timer expiry.Done tx rx
    → Does old (Expire port at timer) [] Ok (set_node old (set_entity (node_at old (owner at port)) side (record entity { tx = tx; rx = rx })))
expires old port at timer side entity tx rx none here is_open hop =
    let node = set_entity (node_at old (owner at port)) side (record entity { tx = tx; rx = rx }) in
    unless (expire_refusal old port at) old [] Ok (set_node old node) (Expires old port at timer [] Ok (set_node old node)) none (record {
      expired = expiry.Done;
      node = node;
      expires = record { side = side; entity = entity; its = record { here = here; is_open = is_open }; tx = tx; rx = rx; expires = hop; is = refl };
      tells = (refl, refl);
      is = refl;
    })

-- a PDU comes to an open side, which hears it
pub delivers : (old : Chain) (ticket : ℕ) (pdu : Pdu) (side : PortSide) (entity : Entity) (hop : HopHeard) (tx : Tx) (rx : Rx) (answer : NodeHeard) (node : Node)
    (events : List Event) (reply : Reply)
    → on_air old.air ticket ≡ Some pdu → hear_refusal pdu (side_at (hearer pdu old) pdu.port) ≡ None → side_at (hearer pdu old) pdu.port ≡ Some side → side.entity ≡ Some entity
    → HearsHop entity.tx entity.rx pdu.bytes hop tx rx
    → Follows old.tables (set_entity (hearer pdu old) side (record entity { tx = tx; rx = rx })) (hearer_of pdu.way)
    (record side { entity = Some (record entity { tx = tx; rx = rx }) })
    hop answer node
    → TellsHeard pdu.port (way_from (hearer_of pdu.way)) answer events reply → is_handed_over answer ≡ true
    → Does old (Deliver ticket) events reply (without ticket (set_node old node))
delivers old ticket pdu side entity hop tx rx answer node events reply its none here is_open hears follows tells handed =
    let new = without ticket (set_node old node) in
    subst (λ (o : Option Pdu). Delivers old o events reply new (without ticket)) (sym its) (record {
      answer = answer;
      node = node;
      hears = subst (λ (refusal : Option NodeHeard). HearsUnless refusal old.tables (hearer pdu old) (hearer_of pdu.way) pdu answer node) (sym none) (record {
        side = side;
        entity = entity;
        its = record { here = here; is_open = is_open };
        hop = hop;
        tx = tx;
        rx = rx;
        hears = hears;
        behind = record entity { tx = tx; rx = rx };
        its_entity = refl;
        follows = follows;
      });
      tells = tells;
      is = subst (λ (b : Bool). new ≡ (if b then new else old)) (sym handed) refl;
    })

-- a PDU with a whole SDU comes to an open side, which completes it, and the SDU goes where it leads
pub delivers_sdu : (old : Chain) (ticket : ℕ) (pdu : Pdu) (side : PortSide) (entity : Entity) (rx : Rx) (poll : Bool) (sdu : List ℕ) (target : Result Target Discard)
    (answer : NodeHeard)
    (node : Node) (events : List Event) (reply : Reply)
    → on_air old.air ticket ≡ Some pdu → hear_refusal pdu (side_at (hearer pdu old) pdu.port) ≡ None → side_at (hearer pdu old) pdu.port ≡ Some side → side.entity ≡ Some entity
    → pdu.bytes ≡ octets pdu.number poll sdu → entity.rx.size ≡ S12 → pdu.number < 256 → 0 < length sdu → length sdu ≤ 90
    → Hears entity.rx (whole pdu.number poll sdu) (Complete pdu.number sdu) rx
    → Leads old.tables (set_entity (hearer pdu old) side (record entity { rx = rx })) (hearer_of pdu.way) side.name sdu target
    → Passes (set_entity (hearer pdu old) side (record entity { rx = rx })) (record side { entity = Some (record entity { rx = rx }) }) sdu target answer node
    → TellsHeard pdu.port (way_from (hearer_of pdu.way)) answer events reply → is_handed_over answer ≡ true
    → Does old (Deliver ticket) events reply (without ticket (set_node old node))
delivers_sdu old ticket pdu side entity rx poll sdu target answer node events reply its none here is_open spelling size low some few hears leads passes tells handed =
    delivers old ticket pdu side entity (Amd (Complete pdu.number sdu)) entity.tx rx answer node events reply its none here is_open
    (subst (λ (bytes : List ℕ). HearsHop entity.tx entity.rx bytes (Amd (Complete pdu.number sdu)) entity.tx rx) (sym spelling) (
      not_control pdu.number poll sdu,
      whole pdu.number poll sdu,
      subst (λ z. IsAmd z (whole pdu.number poll sdu) (octets pdu.number poll sdu)) (sym size) (spelt pdu.number poll sdu low some few),
      hears,
      refl,
    ))
    (target, leads, passes) tells handed

-- the SDU in a slot of the relay is pushed into a queue
pub pushes : (old : Chain) (port : PortName) (from to : PortSide) (parcel : Parcel)
    → push_refusal (queue_capacity old) (node_at old AtRelay) (side_at (node_at old AtRelay) port) ≡ None → side_at (node_at old AtRelay) port ≡ Some from
    → from.slot ≡ Some parcel
    → side_at (set_side (node_at old AtRelay) (record from { slot = None })) parcel.route.egress ≡ Some to
    → Does old (Push port) [] (OkPort parcel.route.egress)
    (set_node old (set_side (set_side (node_at old AtRelay) (record from { slot = None })) (record to { queue = to.queue ++ parcel ∷ [] })))
pushes old port from to parcel none here full there =
    let mid = set_side (node_at old AtRelay) (record from { slot = None }) in
    record {
      answer = pushed.Done parcel.route.egress;
      node = set_side mid (record to { queue = to.queue ++ parcel ∷ [] });
      pushes = (none, record { from = from; here = here; parcel = parcel; full = full; its_egress = refl; mid = mid; empties = refl; to = to; there = there; is = refl });
      shows = refl;
      says = refl;
      is = refl;
    }

-- the SDU at the front of a queue of the relay is given to its transmitter
pub pulls : (old : Chain) (port : PortName) (side : PortSide) (entity : Entity) (parcel : Parcel) (parcels : List Parcel)
    → pull_refusal (side_at (node_at old AtRelay) port) ≡ None → side_at (node_at old AtRelay) port ≡ Some side → side.entity ≡ Some entity → side.queue ≡ parcel ∷ parcels
    → 0 < room entity.tx
    → Does old (Pull port) [] (OkNumber (number_of entity.tx))
    (set_node old (set_side (node_at old AtRelay) (record side { entity = Some (record entity { tx = given entity.tx (parcel_tag parcel) parcel.sdu }); queue = parcels })))
pulls old port side entity parcel parcels none here is_open waits has =
    let tx = given entity.tx (parcel_tag parcel) parcel.sdu in
    record {
      answer = pulled.Done (number_of entity.tx);
      node = set_side (node_at old AtRelay) (record side { entity = Some (record entity { tx = tx }); queue = parcels });
      pulls = (
        none,
        record {
          side = side;
          entity = entity;
          its = record { here = here; is_open = is_open };
          parcel = parcel;
          parcels = parcels;
          waits = waits;
          tx = tx;
          gives = record { has_room = has; its_number = refl; is = refl };
          is = refl;
        },
      );
      shows = refl;
      says = refl;
      is = refl;
    }

-- a data PDU of PDCP comes to its receiving end
pub data_comes : (n : Node) (key : Key) (sn : ℕ) (sdu : List ℕ) (heard : PdcpHeard) (receiver : Receiver) → (incoming n key).receiver.size ≡ S12 → 0 < length sdu
    → length sdu ≤ 90
    → HearsCount (incoming n key).receiver sn sdu heard receiver
    → HearsPdcp n key (128 ∷ sn ∷ sdu) (heard_as key heard) (set_incoming n (record (incoming n key) { receiver = receiver }))
data_comes n key sn sdu heard receiver size some few hears =
    data_pdu sn sdu (subst (λ z. IsDataPdu z sn sdu (128 ∷ sn ∷ sdu)) (sym size) (refl, omega arith, refl, (omega (arith, some), omega (arith, few))))
    (record { heard = heard; receiver = receiver; hears = hears; says = refl; is = refl })

-- a bitmap without octets has no bit that is 1
no_bit : (n : ℕ) → bit_of [] n ≡ 1 → ⊥
no_bit n e = none (sym (ap (λ (x : ℕ). x % 2) (zero-div (2 ^ (7 - (n - 1) % 8)))) ∙ e)
  where
    none : ◌≡◌ {A = ℕ} 0 1 → ⊥
    none e = omega (arith, e)

-- a status report without a bitmap comes, whose FMC is at most TX_NEXT of the other way's sender
pub report_comes : (n : Node) (key : Key) (fmc : ℕ) → fmc ≤ tx_next (outgoing n (back key)).sender
    → HearsPdcp n key (0 ∷ 0 ∷ 0 ∷ 0 ∷ fmc ∷ []) (answers.Report (back key) (confirmed (outgoing n (back key)).sender)) (set_outgoing n (record (outgoing n (back key)) { sender = hears_report (outgoing n (back key)).sender fmc [] }))
report_comes n key fmc within = report fmc [] ((refl, refl), omega arith, refl, omega arith) (inl (not_beyond (outgoing n (back key)).sender within, refl, refl))
  where
    not_beyond : (s : Sender) → fmc ≤ tx_next s → IsBeyond s fmc [] → ⊥
    not_beyond s within (inl lt) = omega (arith, lt, within)
    not_beyond s within (inr (count, from, inl below)) = omega (arith, from, below, within)
    not_beyond s within (inr (count, from, inr (above, bit))) = no_bit (count - fmc) bit

-- a receiving end that stores nothing reports RX_DELIV alone
pub reports_next : (r : Receiver) → r.stored ≡ [] → IsReport r (rx_deliv r) []
reports_next r none = record {
  its_fmc = refl;
  octets = λ k d lt. absurd (omega (arith, lt));
  bits = λ n from. ((λ e. absurd (no_bit n e)), (λ some. absurd (some (ap (λ (ss : List (Option (List ℕ))). get_or ss n None) none))));
  ends = inl refl;
}
