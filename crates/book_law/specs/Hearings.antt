-- Which data PDUs the receiving end of a key hears in a run.
use Rattle.std.specs.Prelude.{◌≡◌, ◌⊎◌, ℕ, Bool, true, false, List, [], ◌∷◌, Option, Some, None, Ok}
use Rattle.link_base.specs.declared.names.Key.{Key}
use Rattle.rlc_model.specs.declared.hop.Pdu.{Pdu}
use Rattle.rlc_model.specs.declared.hop.HopHeard.{HopHeard}
use Rattle.rlc_model.specs.declared.hop.HopHeard.TheVariants.{Amd}
use Rattle.rlc_model.specs.declared.receiver.Heard.TheVariants.{Complete}
use Rattle.rlc_model.specs.Tx.{Tx}
use Rattle.rlc_model.specs.Rx.{Rx}
use Rattle.rlc_model.specs.Sides.{Entity, hearer_of}
use Rattle.rlc_model.specs.Hop.{on_air, HearsHop}
use Rattle.pdcp_pdu.specs.Pdcp.{Sdu, IsPdcp}
use Rattle.pdcp_model.specs.HandUp.{Hearing}
use Rattle.script_text.specs.declared.line.Line.{Line}
use Rattle.script_text.specs.declared.line.Line.TheVariants.{Deliver, Repeat}
use Rattle.script_text.specs.declared.reply.Reply.{Reply}
use Rattle.script_text.specs.declared.reply.Reply.TheVariants.{OkUp, OkWaiting, OkOld, OkTwice, OkNoCount}
use Rattle.node_model.specs.Names.{NodeName, owner, sink, is_key}
use Rattle.node_model.specs.State.{PortSide, side_at}
use Rattle.node_model.specs.Sides.{IsOpen}
use Rattle.node_model.specs.Hearing.{hear_refusal}
use Rattle.node_model.specs.Routing.{ToPdcp, Leads}
use Rattle.chain_model.specs.State.{receiving_at}
use Rattle.chain_model.specs.Lines.{hearer}
use Rattle.chain_model.specs.Draining.{Moment}

-- the ticket whose PDU comes to a node by a line
abbrev pub coming : Line → Option ℕ
coming (Deliver ticket) = Some ticket
coming (Repeat ticket) = Some ticket
coming line = None

-- the reply tells of a data PDU that came to the receiver of a bearer
abbrev pub tells_hearing : Reply → Bool
tells_hearing (OkUp n) = true
tells_hearing OkWaiting = true
tells_hearing OkOld = true
tells_hearing OkTwice = true
tells_hearing OkNoCount = true
tells_hearing reply = false

-- by a line a PDU comes to an open side of a port of this node, and the side's entity answers so (TS 38.322 clauses 5.2.3.2.2 and 5.3.3)
pub record EntityHears (name : NodeName) (m : Moment) (answer : HopHeard) : Type 0 where
  pub ticket : ℕ
  pub line : coming m.entry.line ≡ Some ticket
  pub pdu : Pdu
  pub shown : on_air m.before.air ticket ≡ Some pdu
  pub at_node : owner (hearer_of pdu.way) pdu.port ≡ name
  pub taken : hear_refusal pdu (side_at (hearer pdu m.before) pdu.port) ≡ None
  pub side : PortSide
  pub entity : Entity
  pub its : IsOpen (hearer pdu m.before) pdu.port side entity
  pub tx : Tx
  pub rx : Rx
  pub hears : HearsHop entity.tx entity.rx pdu.bytes answer tx rx

-- the SDU that a PDU completes leads to a key as this PDCP PDU (TS 38.351 clause 5.2)
pub record CompletesPdcp (key : Key) (m : Moment) (body : List ℕ) : Type 0 where
  pub number : ℕ
  pub whole : List ℕ
  pub comes : EntityHears (sink key) m (Amd (Complete number whole))
  pub leads : Leads m.before.tables (hearer comes.pdu m.before) (hearer_of comes.pdu.way) comes.pdu.port whole (Ok (ToPdcp key body))

-- by a line the receiving end of a key hears a data PDU: the PDU that comes completes an SDU there that leads to the key as a PDCP data PDU (TS 38.323 clause 5.2.2)
pub record HearsBy (key : Key) (m : Moment) (hearing : Hearing) : Type 0 where
  pub body : List ℕ
  pub completes : CompletesPdcp key m body
  pub reads : IsPdcp (receiving_at m.before key).receiver.size (Sdu hearing.sn hearing.sdu) body
  pub told : tells_hearing m.entry.reply ≡ true

-- by a line the receiving end of a key hears no data PDU: no PDU comes, or what comes is no data PDU for a bearer, or it is one for another key
abbrev pub HearsNone : Key → Moment → Type 0
HearsNone key m = (coming m.entry.line ≡ None) ⊎ (tells_hearing m.entry.reply ≡ false) ⊎ ((other : Key) × (is_key other key ≡ false) × (hearing : Hearing) × HearsBy other m hearing)

-- the data PDUs that the receiving end of a key hears by these lines, the last first
abbrev pub HearsEach : Key → List Moment → List Hearing → Type 0
HearsEach key [] hs = hs ≡ []
HearsEach key (m ∷ ms) hs =
    (HearsNone key m × HearsEach key ms hs)
    ⊎ ((hearing : Hearing) × (earlier : List Hearing) × HearsBy key m hearing × HearsEach key ms earlier × (hs ≡ hearing ∷ earlier))
