-- What the PDUs that a run sends say: each data PDU is a piece of an SDU of the end that sends it, or of one that the relay heard; each STATUS PDU
-- is true.
use Rattle.std.specs.Prelude.{◌≡◌, ◌⊎◌, ◌↔◌, ℕ, ◌+◌, ◌%◌, ◌<◌, ◌≤◌, true, false, List, [], ◌∷◌, ◌++◌, length, slice_index_or, Some, None, Contains, Ok as OkOf}
use Rattle.link_base.specs.declared.names.PortName.{PortName}
use Rattle.link_base.specs.declared.names.Way.{Way}
use Rattle.link_base.specs.declared.names.Key.{Key}
use Rattle.link_base.specs.SequenceNumbers.{modulus}
use Rattle.rlc_pdu.specs.Amd.{Amd, IsAmd}
use Rattle.rlc_status.specs.declared.status.Status.{Status}
use Rattle.rlc_status.specs.Format.{IsStatus}
use Rattle.rlc_status.specs.Says.{Names, SaysReceived, SaysMissing}
use Rattle.rlc_model.specs.declared.hop.Pdu.{Pdu}
use Rattle.rlc_model.specs.Pdu.{IsPiece}
use Rattle.bearer_map.specs.declared.rows.BearerRow.{BearerRow}
use Rattle.bearer_map.specs.declared.routes.Route.{Route}
use Rattle.bearer_map.specs.Contents.{Contents}
use Rattle.pdcp_pdu.specs.Pdcp.{Sdu, Report, pdcp_bytes}
use Rattle.pdcp_pdu.specs.Reports.{Reports}
use Rattle.script_text.specs.History.{Entry}
use Rattle.rlc_model.specs.Sides.{flip, sender_of, hearer_of}
use Rattle.node_model.specs.Names.{AtRelay, owner, source, sink, back}
use Rattle.node_model.specs.State.{id_at}
use Rattle.node_model.specs.Tables.{first_count}
use Rattle.node_model.specs.Routing.{Onward, Leads}
use Rattle.node_model.specs.Feeding.{port_on, under}
use Rattle.chain_model.specs.Told.{air_entry, known}
use Rattle.chain_model.specs.Sizes.{port_size}
use Rattle.chain_model.specs.Book.{submitted}
use Rattle.chain_model.specs.Heard.{HopOf, HasByte, HasEnd, HeardAt, CompletesAt, IsHeard}

-- the history was this before some of its lines
abbrev pub IsBefore : List Entry → List Entry → Type 0
IsBefore before h = (later : List Entry) × (h ≡ later ++ before)

-- the row is that of a key's bearer
pub record IsRowOf (t : Contents) (key : Key) (row : BearerRow) : Type 0 where
  pub among : Contains t.bearers row
  pub remote : row.remote ≡ key.remote
  pub drb : row.drb ≡ key.drb

-- an end gave an SDU to a hop at a time when the history was this: the data PDU of an SDU submitted, or a report that names exactly what was heard,
-- over the port of the path on which the end stood, and there under the identity that it attached
pub data IsGiven (t : Contents) (h : List Entry) (port : PortName) (way : Way) (sdu : List ℕ) : Type 0 where
  data_pdu : (key : Key) (row : BearerRow) (n : ℕ) → IsRowOf t key row → key.way ≡ way → n < length (submitted key h)
      → port_on t (id_at (known t (source key) h) key.remote) key ≡ Some port
      → sdu ≡ under (id_at (known t (source key) h) key.remote) key.drb (pdcp_bytes row.pdcp (Sdu ((first_count row key.way + n) % modulus row.pdcp) (slice_index_or (submitted key h) n [])))
      → IsGiven t h port way sdu
  report : (key : Key) (row : BearerRow) (fmc : ℕ) (map : List ℕ) → IsRowOf t key row → flip key.way ≡ way
      → ((count : ℕ) → first_count row key.way ≤ count → Reports fmc map count ↔ IsHeard t row key h count)
      → port_on t (id_at (known t (sink key) h) key.remote) (back key) ≡ Some port
      → sdu ≡ under (id_at (known t (sink key) h) key.remote) key.drb (pdcp_bytes row.pdcp (Report fmc map))
      → IsGiven t h port way sdu

-- a completion on an ingress port of the relay: the hop, the number, and the lines before the one that completed it
pub record Passed : Type 0 where
  pub hop : HopOf
  pub number : ℕ
  pub before : List Entry

-- the relay heard the SDU so, and what it attached then leads it to this port
pub record IsPassed (t : Contents) (h : List Entry) (port : PortName) (sdu : List ℕ) (p : Passed) : Type 0 where
  pub entry : Entry
  pub later : List Entry
  pub its : h ≡ later ++ entry ∷ p.before
  pub its_size : p.hop.size ≡ port_size t p.hop.port
  pub at_relay : owner (hearer_of p.hop.way) p.hop.port ≡ AtRelay
  pub completes : CompletesAt p.hop p.before entry p.number sdu
  pub route : Route
  pub leads : Leads t (known t AtRelay p.before) (hearer_of p.hop.way) p.hop.port sdu (OkOf (Onward route))
  pub egress : route.egress ≡ port

-- the SDU of each number of each hop: at an end it was given by the end, at the relay it was heard. What the relay sends over a hop comes from
-- different completions, and what came over one ingress port keeps that port's order
pub record Carried (t : Contents) (h : List Entry) : Type 0 where
  pub sdu_of : PortName → Way → ℕ → ℕ → List ℕ
  pub passed : PortName → Way → ℕ → ℕ → Passed
  pub pieces : (ticket : ℕ) (pdu : Pdu) → air_entry h ticket ≡ Some pdu → pdu.status ≡ false
      → (fields : Amd) × IsAmd (port_size t pdu.port) fields pdu.bytes × (fields.sn ≡ pdu.number % modulus (port_size t pdu.port)) × IsPiece (sdu_of pdu.port pdu.way pdu.epoch pdu.number) fields
  pub origin : (ticket : ℕ) (pdu : Pdu) → air_entry h ticket ≡ Some pdu → pdu.status ≡ false
      → ((g : List Entry) × IsBefore g h × IsGiven t g pdu.port pdu.way (sdu_of pdu.port pdu.way pdu.epoch pdu.number))
      ⊎ IsPassed t h pdu.port (sdu_of pdu.port pdu.way pdu.epoch pdu.number) (passed pdu.port pdu.way pdu.epoch pdu.number)
  pub apart : (port : PortName) (way : Way) (epoch m n : ℕ) → owner (sender_of way) port ≡ AtRelay → m < n → (passed port way epoch m).hop.port ≡ (passed port way epoch n).hop.port
      → (passed port way epoch m ≡ passed port way epoch n → ⊥) × IsBefore (passed port way epoch m).before (passed port way epoch n).before
  pub in_order : (ticket : ℕ) (pdu : Pdu) (n : ℕ) → air_entry h ticket ≡ Some pdu → pdu.status ≡ false → pdu.number ≡ n + 1
      → (earlier : ℕ) × (other : Pdu) × (earlier < ticket) × (air_entry h earlier ≡ Some other) × (other.status ≡ false) × (other.port ≡ pdu.port) × (other.way ≡ pdu.way) × (other.epoch ≡ pdu.epoch) × (other.number ≡ n)

-- what a STATUS says, where its ACK_SN stands for the number ack, is true of what the PDUs delivered over a hop so far make complete: a number said
-- received is heard, one that is named isn't, and of that the places said missing are those that no PDU delivered has a byte for, as far as
-- its end is known (TS 38.322 clause 5.3.4)
pub record IsTrueOfDelivered (hop : HopOf) (h : List Entry) (ack : ℕ) (status : Status) : Type 0 where
  pub received : (n : ℕ) → SaysReceived hop.size ack status n → (sdu : List ℕ) × HeardAt hop h n sdu
  pub named : (n : ℕ) → n < ack → Names hop.size ack status n → (sdu : List ℕ) → HeardAt hop h n sdu → ⊥
  pub missing : (n p : ℕ) → n < ack → Names hop.size ack status n → ((l : ℕ) → HasEnd hop h n l → p < l) → SaysMissing hop.size ack status n p ↔ ((b : ℕ) → HasByte hop h n p b → ⊥)

-- the hop about which a STATUS speaks: the other way of its port
abbrev pub about : Contents → Pdu → HopOf
about t pdu = record { size = port_size t pdu.port; port = pdu.port; way = flip pdu.way; epoch = pdu.epoch }

-- behind a history the line sends a STATUS that is true
pub record SendsTrue (t : Contents) (h : List Entry) (pdu : Pdu) : Type 0 where
  pub status : Status
  pub reads : IsStatus (port_size t pdu.port) status pdu.bytes
  pub its_ack : status.ack ≡ pdu.number % modulus (port_size t pdu.port)
  pub is_true : IsTrueOfDelivered (about t pdu) h pdu.number status

-- each STATUS PDU of a history is true of what had been delivered before it
abbrev pub ReportsTruly : Contents → List Entry → Type 0
ReportsTruly t h = (later before : List Entry) (e : Entry) (ticket : ℕ) (pdu : Pdu) → h ≡ later ++ e ∷ before
    → air_entry before ticket ≡ None → air_entry (e ∷ before) ticket ≡ Some pdu → pdu.status ≡ true → SendsTrue t before pdu
