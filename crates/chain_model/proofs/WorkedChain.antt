-- The chain of the worked runs, by what changes in it.
use Rattle.std.proofs.Common.{◌≡◌, ◌≢◌, ℕ, zero, suc, ◌+◌, ◌<◌, ◌≤◌, Bool, true, false, List, [], ◌∷◌, ◌++◌, length, Option, Some, None, refl, arith, lt-ltb}
use Rattle.link_base.specs.declared.names.SnSize.TheVariants.{S12}
use Rattle.link_base.specs.declared.names.Key.{Key}
use Rattle.link_base.specs.declared.names.PortName.{PortName}
use Rattle.link_base.specs.declared.names.Way.{Way}
use Rattle.link_base.specs.declared.rlc_words.Tag.{Tag}
use Rattle.bearer_map.specs.declared.ids.Attachment.{Attachment}
use Rattle.bearer_map.specs.Contents.{Contents}
use Rattle.rlc_model.specs.declared.hop.Pdu.{Pdu}
use Rattle.rlc_model.specs.Tx.{Tx, at, is_sent, unsent}
use Rattle.rlc_model.specs.Rx.{Rx, empty_rx, status_due}
use Rattle.rlc_model.specs.Pdu.{piece}
use Rattle.rlc_model.specs.Sides.{Entity, sender_of}
use Rattle.rlc_pdu.specs.Amd.{amd_bytes}
use Rattle.rlc_model.proofs.Checks.{any_unsent, any_pending, none_pending}
use Rattle.pdcp_model.specs.Sender.{Sender}
use Rattle.pdcp_model.specs.Receiver.{Receiver}
use Rattle.script_text.specs.declared.line.Line.TheVariants.{Grant}
use Rattle.script_text.specs.declared.reply.Reply.TheVariants.{Air}
use Rattle.node_model.specs.Names.{AtRemote, AtRelay, AtGnb, back, owner}
use Rattle.node_model.specs.State.{PortSide, Incoming, Node, side_at}
use Rattle.node_model.specs.Feeding.{Feeds}
use Rattle.chain_model.specs.declared.plan.Plan.{Plan}
use Rattle.chain_model.specs.State.{Chain, node_at}
use Rattle.chain_model.specs.Lines.{grant_refusal}
use Rattle.chain_model.specs.Steps.{Does, FeedsAll}
use Rattle.chain_model.specs.Worked.{remote, key}
use Rattle.chain_model.proofs.Sending.{kept, tx_of, all_sent, begun, sends_last}
use Rattle.chain_model.proofs.Receiving.{octets, heard, told, confirms, makes_status}
use Rattle.chain_model.proofs.Fed.{is_fed, are_fed, feeds_none, feeds_then, feeds_behind}
use Rattle.chain_model.proofs.Acts.{sent_by, grants}

-- a side of a port that is closed
abbrev pub closed : PortName → PortSide
closed name = record { name = name; size = S12; entity = None; slot = None; queue = [] }

-- an entity that was made in this epoch
abbrev pub entity : ℕ → Tx → Rx → Entity
entity epoch tx rx = record { epoch = epoch; tx = tx; rx = rx }

-- a side that is open
abbrev pub opened_side : PortName → ℕ → Tx → Rx → PortSide
opened_side name epoch tx rx = record (closed name) { entity = Some (entity epoch tx rx) }

-- a receiving end
abbrev pub end_of : Key → Receiver → Bool → Bool → ℕ → Incoming
end_of key receiver wanted held_back reported = record { key = key; receiver = receiver; wanted = wanted; held_back = held_back; reported = reported }

-- what changes: the sides of ports, the attachments, the ends of the bearer, the plan, and the air
pub record Snap : Type 0 where
  pub tables : Contents
  pub remote_direct : PortSide
  pub remote_pc5 : PortSide
  pub relay_pc5 : PortSide
  pub relay_uu : PortSide
  pub gnb_direct : PortSide
  pub gnb_uu : PortSide
  pub remote_attached : List Attachment
  pub relay_attached : List Attachment
  pub gnb_attached : List Attachment
  pub remote_sender : Sender
  pub gnb_sender : Sender
  pub remote_end : Incoming
  pub gnb_end : Incoming
  pub plan : Plan
  pub air : List (Option Pdu)

-- the remote
abbrev pub remote_of : Snap → Node
remote_of s = record {
  name = AtRemote remote;
  ports = s.remote_direct ∷ s.remote_pc5 ∷ [];
  attached = s.remote_attached;
  outgoing = record { key = key; sender = s.remote_sender } ∷ [];
  incoming = s.remote_end ∷ [];
}

-- the relay
abbrev pub relay_of : Snap → Node
relay_of s = record { name = AtRelay; ports = s.relay_pc5 ∷ s.relay_uu ∷ []; attached = s.relay_attached; outgoing = []; incoming = [] }

-- the gNB
abbrev pub gnb_of : Snap → Node
gnb_of s = record {
  name = AtGnb;
  ports = s.gnb_direct ∷ s.gnb_uu ∷ [];
  attached = s.gnb_attached;
  outgoing = record { key = back key; sender = s.gnb_sender } ∷ [];
  incoming = s.gnb_end ∷ [];
}

-- the chain
abbrev pub chain : Snap → Chain
chain s = record { tables = s.tables; nodes = remote_of s ∷ relay_of s ∷ gnb_of s ∷ []; plans = s.plan ∷ []; air = s.air; staged = [] }

-- a transmitter that was given nothing, and a receiver that has heard nothing
abbrev pub no_tx : Tx
no_tx = tx_of [] 0 0 None false

abbrev pub no_rx : Rx
no_rx = empty_rx S12

-- a transmitter that was given one SDU, and once it has sent it
abbrev pub waiting : Tag → List ℕ → Tx
waiting tag sdu = tx_of (Some (kept tag sdu [] None) ∷ []) 0 0 None false

abbrev pub sent : Tag → List ℕ → Tx
sent tag sdu = tx_of (Some (kept tag sdu (all_sent sdu) None) ∷ []) 0 0 (Some 0) true

-- the first SDU of a side is sent over its port
pub sends_first : (old : Chain) (port : PortName) (way : Way) (side : PortSide) (epoch : ℕ) (tag : Tag) (sdu : List ℕ) (rx : Rx)
    → grant_refusal old port way ≡ None → side_at (node_at old (owner (sender_of way) port)) port ≡ Some side → side.entity ≡ Some (entity epoch (waiting tag sdu) rx)
    → status_due rx ≡ false → 0 < length sdu → length sdu ≤ 90 → octets 0 true sdu ≡ amd_bytes S12 (piece S12 0 sdu 0 (length sdu) true)
    → any_unsent (sent tag sdu).kept ≡ false → any_pending (sent tag sdu).kept ≡ false → is_sent (at (sent tag sdu).kept 0) ≡ true
    → Does old (Grant port way 100) [] (Air (length old.air + 1) false 0 (octets 0 true sdu))
    (sent_by old port way side (entity epoch (sent tag sdu) rx) false 0 (octets 0 true sdu))
sends_first old port way side epoch tag sdu rx none here is_open due some few spelling none_u none_p is =
    grants old port way 100 side (entity epoch (waiting tag sdu) rx) false 0 (octets 0 true sdu) (sent tag sdu) rx none here is_open (
      due,
      (
        piece S12 0 sdu 0 (length sdu) true,
        spelling,
        sends_last (waiting tag sdu).kept (sent tag sdu).kept 0 (kept tag sdu [] None) some few (omega arith)
            (unsent (none_pending (waiting tag sdu) refl) (record { from = omega arith; has = lt-ltb 0 (length sdu) some; none = λ n low high. absurd (omega arith) }) refl refl refl)
            refl others refl 0 0 0 None false none_u none_p (begun (sent tag sdu).kept 0 refl is),
      ),
      refl,
    )
  where
    others : (n : ℕ) → n ≢ 0 → at (sent tag sdu).kept n ≡ at (waiting tag sdu).kept n
    others zero ne = absurd (ne refl)
    others (suc n) ne = refl

-- a side that has heard one SDU sends the STATUS PDU that its poll asked for
pub sends_status : (old : Chain) (port : PortName) (way : Way) (side : PortSide) (epoch : ℕ) (tx : Tx)
    → grant_refusal old port way ≡ None → side_at (node_at old (owner (sender_of way) port)) port ≡ Some side → side.entity ≡ Some (entity epoch tx heard)
    → Does old (Grant port way 100) [] (Air (length old.air + 1) true 1 (0 ∷ 1 ∷ 0 ∷ [])) (sent_by old port way side (entity epoch tx told) true 1 (0 ∷ 1 ∷ 0 ∷ []))
sends_status old port way side epoch tx none here is_open =
    grants old port way 100 side (entity epoch tx heard) true 1 (0 ∷ 1 ∷ 0 ∷ []) tx told none here is_open (confirms, makes_status, refl, refl)

-- the remote alone gives something
pub remote_feeds : (old new : Snap) (given : List Key) → Feeds old.tables (remote_of old) given (remote_of new) → are_fed old.tables (relay_of old ∷ gnb_of old ∷ []) ≡ true
    → FeedsAll old.tables (chain old).nodes (given ++ []) (remote_of new ∷ relay_of old ∷ gnb_of old ∷ [])
remote_feeds old new given feeds fed =
    feeds_then old.tables (remote_of old) (remote_of new) (relay_of old ∷ gnb_of old ∷ []) (relay_of old ∷ gnb_of old ∷ []) given [] feeds
    (feeds_none old.tables (relay_of old ∷ gnb_of old ∷ []) fed)

-- the gNB gives something, and the relay nothing
pub gnb_feeds : (old new : Snap) (given : List Key) → is_fed old.tables (relay_of old) ≡ true → Feeds old.tables (gnb_of old) given (gnb_of new)
    → FeedsAll old.tables (relay_of old ∷ gnb_of old ∷ []) (given ++ []) (relay_of old ∷ gnb_of new ∷ [])
gnb_feeds old new given fed feeds = feeds_behind old.tables (relay_of old) (gnb_of old ∷ []) (gnb_of new ∷ []) (given ++ []) fed
    (feeds_then old.tables (gnb_of old) (gnb_of new) [] [] given [] feeds (feeds_none old.tables [] refl))
