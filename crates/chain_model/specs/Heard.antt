-- What is heard, from the bytes of all delivered PDUs, in whatever order they came: no window, no store.
use Rattle.std.specs.Prelude.{◌≡◌, ◌⊎◌, ℕ, ◌<◌, true, false, List, [], ◌∷◌, length, slice_index, Some, Ok as OkOf}
use Rattle.link_base.specs.declared.names.SnSize.{SnSize}
use Rattle.link_base.specs.declared.names.PortName.{PortName}
use Rattle.link_base.specs.declared.names.Way.{Way}
use Rattle.link_base.specs.declared.names.Key.{Key}
use Rattle.rlc_pdu.specs.Amd.{Amd, IsAmd}
use Rattle.rlc_model.specs.declared.hop.Pdu.{Pdu}
use Rattle.rlc_model.specs.Pdu.{end_of, is_end, byte_at}
use Rattle.bearer_map.specs.declared.rows.BearerRow.{BearerRow}
use Rattle.bearer_map.specs.Contents.{Contents}
use Rattle.pdcp_pdu.specs.Pdcp.{IsPdcp, Sdu}
use Rattle.pdcp_model.specs.HandUp.{Hearing, IsHeard as IsHeardOf, HandUp as HandUpOf}
use Rattle.script_text.specs.History.{Entry}
use Rattle.rlc_model.specs.Sides.{hearer_of}
use Rattle.node_model.specs.Names.{owner, sink}
use Rattle.node_model.specs.Tables.{first_count}
use Rattle.node_model.specs.Routing.{ToPdcp, Leads}
use Rattle.chain_model.specs.Told.{air_entry, hears_ticket, known}
use Rattle.chain_model.specs.Sizes.{port_size}
use Rattle.chain_model.specs.Book.{handed}

-- a hop in one way and one epoch, read with SNs of a size
pub record HopOf : Type 0 where
  pub size : SnSize
  pub port : PortName
  pub way : Way
  pub epoch : ℕ

-- the PDU went over this hop
pub record GoesOver (hop : HopOf) (pdu : Pdu) : Type 0 where
  pub port : pdu.port ≡ hop.port
  pub way : pdu.way ≡ hop.way
  pub epoch : pdu.epoch ≡ hop.epoch

-- behind a history the line delivers over a hop a data PDU of this number with these fields
pub record Delivers (hop : HopOf) (h : List Entry) (e : Entry) (number : ℕ) (fields : Amd) : Type 0 where
  pub ticket : ℕ
  pub hears : hears_ticket e ticket ≡ true
  pub pdu : Pdu
  pub shown : air_entry h ticket ≡ Some pdu
  pub over : GoesOver hop pdu
  pub is_data : pdu.status ≡ false
  pub its_number : pdu.number ≡ number
  pub reads : IsAmd hop.size fields pdu.bytes

-- some line has delivered over a hop a data PDU of this number with these fields
abbrev pub Delivered : HopOf → List Entry → ℕ → Amd → Type 0
Delivered hop [] number fields = ⊥
Delivered hop (e ∷ h) number fields = Delivers hop h e number fields ⊎ Delivered hop h number fields

-- the delivered PDUs of a number have this byte for this place of the SDU
abbrev pub HasByte : HopOf → List Entry → ℕ → ℕ → ℕ → Type 0
HasByte hop h number place b = (fields : Amd) × Delivered hop h number fields × (byte_at fields place ≡ Some b)

-- a delivered whole SDU or last segment of a number ends at this length
abbrev pub HasEnd : HopOf → List Entry → ℕ → ℕ → Type 0
HasEnd hop h number long = (fields : Amd) × Delivered hop h number fields × (is_end fields.si ≡ true) × (end_of fields ≡ long)

-- the number is heard as this SDU: its end, and a byte for each of its places
pub record HeardAt (hop : HopOf) (h : List Entry) (number : ℕ) (sdu : List ℕ) : Type 0 where
  pub end : HasEnd hop h number (length sdu)
  pub bytes : (place : ℕ) → place < length sdu → HasByte hop h number place (slice_index sdu place)

-- behind a history the line completes a number of a hop, as this SDU
pub record CompletesAt (hop : HopOf) (h : List Entry) (e : Entry) (number : ℕ) (sdu : List ℕ) : Type 0 where
  pub now : HeardAt hop (e ∷ h) number sdu
  pub before : HeardAt hop h number sdu → ⊥

-- behind a history the line completes a data PDU of a key: the SDU of a hop at the key's receiving end leads to the key with what the node attaches
-- then, and is the PDCP data PDU with this SN and SDU
pub record Completes (t : Contents) (row : BearerRow) (key : Key) (h : List Entry) (e : Entry) (hearing : Hearing) : Type 0 where
  pub hop : HopOf
  pub its_size : hop.size ≡ port_size t hop.port
  pub number : ℕ
  pub whole : List ℕ
  pub completes : CompletesAt hop h e number whole
  pub at_sink : owner (hearer_of hop.way) hop.port ≡ sink key
  pub pdu : List ℕ
  pub leads : Leads t (known t (sink key) h) (hearer_of hop.way) hop.port whole (OkOf (ToPdcp key pdu))
  pub reads : IsPdcp row.pdcp (Sdu hearing.sn hearing.sdu) pdu

-- the data PDUs of a key that the delivered PDUs of a history complete, the last first: each line completes one or none
abbrev pub CompletesAll : Contents → BearerRow → Key → List Entry → List Hearing → Type 0
CompletesAll t row key [] hearings = hearings ≡ []
CompletesAll t row key (e ∷ h) hearings =
    (((hearing : Hearing) → Completes t row key h e hearing → ⊥) × CompletesAll t row key h hearings)
    ⊎ ((hearing : Hearing) × (earlier : List Hearing) × Completes t row key h e hearing × CompletesAll t row key h earlier × (hearings ≡ hearing ∷ earlier))

-- of a key, delivered PDUs complete the SDU of this COUNT
abbrev pub IsHeard : Contents → BearerRow → Key → List Entry → ℕ → Type 0
IsHeard t row key h count = (hearings : List Hearing) × CompletesAll t row key h hearings × IsHeardOf row.pdcp (first_count row key.way) hearings count

-- what is to be handed up of a key: the SDUs of the longest run of COUNTs from the first one on that delivered PDUs complete
abbrev pub HandUp : Contents → BearerRow → Key → List Entry → List (List ℕ) → Type 0
HandUp t row key h sdus = (hearings : List Hearing) × CompletesAll t row key h hearings × HandUpOf row.pdcp (first_count row key.way) hearings sdus

-- at each moment of a history the SDUs that its events show are exactly those
abbrev pub HandsUpExactly : Contents → BearerRow → Key → List Entry → Type 0
HandsUpExactly t row key [] = HandUp t row key [] []
HandsUpExactly t row key (e ∷ h) = HandsUpExactly t row key h × HandUp t row key (e ∷ h) (handed key (e ∷ h))
