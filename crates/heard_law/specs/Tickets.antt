-- Which PDUs a line has heard.
use Rattle.std.specs.Prelude.{◌≡◌, ◌↔◌, ℕ, true, Some, None}
use Rattle.std.specs.List.{list_any}
use Rattle.rlc_model.specs.declared.hop.Pdu.{Pdu}
use Rattle.rlc_model.specs.Hop.{on_air}
use Rattle.script_text.specs.declared.line.Line.TheVariants.{Burst}
use Rattle.script_text.specs.History.{Entry}
use Rattle.node_model.specs.Hearing.{hear_refusal}
use Rattle.node_model.specs.State.{PortSide, side_at}
use Rattle.chain_model.specs.Bursts.{with_side}
use Rattle.chain_model.specs.Lines.{hearer}
use Rattle.chain_model.specs.State.{Chain}
use Rattle.chain_model.specs.Told.{event_hears, hears_ticket}
use Rattle.book_law.specs.Hearings.{coming}
use Rattle.book_law.specs.Past.{Goes}

-- a ticket's PDU is on the air, and the side that it goes to takes it: the port is open there in the PDU's epoch, the PDU isn't too old, and it isn't held
pub record IsTaken (c : Chain) (ticket : ℕ) : Type 0 where
  pub pdu : Pdu
  pub here : on_air c.air ticket ≡ Some pdu
  pub taken : hear_refusal pdu (side_at (hearer pdu c) pdu.port) ≡ None

-- a line has a ticket's PDU heard: it brings the PDU, and it is taken; or it is a burst that shows it as heard, and the PDU is taken once its ingress
-- port stands so
pub data HasHeard (c : Chain) (e : Entry) (ticket : ℕ) : Type 0 where
  comes : coming e.line ≡ Some ticket → IsTaken c ticket → HasHeard c e ticket
  in_burst : (side : PortSide) → e.line ≡ Burst → list_any (event_hears ticket) e.events ≡ true → IsTaken (with_side c side) ticket → HasHeard c e ticket

-- a history tells a PDU as heard by a line exactly where the line has it heard
abbrev pub TicketsHeardAreTold : Type 0
TicketsHeardAreTold = (old new : Chain) (e : Entry) → Goes old e new → (ticket : ℕ) → (hears_ticket e ticket ≡ true) ↔ HasHeard old e ticket
