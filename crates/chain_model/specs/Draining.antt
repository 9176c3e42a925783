-- A drain: lines of the chain's own that bring all that was submitted to its end.
use Rattle.std.specs.Prelude.{◌≡◌, ℕ, ◌<◌, ◌≤◌, Bool, true, false, List, [], ◌∷◌, length, map, find, AllPairs, Option, Some, None, is_some, option_map}
use Rattle.std.specs.List.{filter_map, AllByRecursion}
use Rattle.link_base.specs.declared.names.Key.{Key}
use Rattle.rlc_model.specs.declared.hop.Pdu.{Pdu}
use Rattle.rlc_model.specs.Tx.{Kept}
use Rattle.pdcp_model.specs.Sender.{confirmed, submitted}
use Rattle.script_text.specs.declared.line.Line.{Line}
use Rattle.script_text.specs.declared.line.Line.TheVariants.{Grant, Deliver, Lose, Expire, Push, Pull, Report}
use Rattle.script_text.specs.declared.reply.Reply.{Reply}
use Rattle.script_text.specs.declared.reply.Reply.TheVariants.{Ok, Worn, Air, NoBearer, NoRemote, NoPort, PlanOpen}
use Rattle.script_text.specs.History.{Entry}
use Rattle.chain_model.specs.declared.plan.Plan.{Plan}
use Rattle.node_model.specs.Names.{is_key, source, sink}
use Rattle.rlc_model.specs.Sides.{Entity}
use Rattle.node_model.specs.State.{PortSide, Node, id_at}
use Rattle.chain_model.specs.State.{Chain, node_at, sender_at}
use Rattle.chain_model.specs.Plans.{is_open}
use Rattle.chain_model.specs.Told.{is_unheard}
use Rattle.chain_model.specs.Steps.{Step}
use Rattle.chain_model.specs.Resting.{is_quiet, is_finished}

-- a line that was carried out, and the chain before it
pub record Moment : Type 0 where
  pub before : Chain
  pub entry : Entry

-- lines carried out one behind another, the last first
abbrev pub IsRun : Chain → List Moment → Chain → Type 0
IsRun first [] last = last ≡ first
IsRun first (m ∷ ms) last = IsRun first ms m.before × Step m.before m.entry.line m.entry.events m.entry.reply last

-- a drain is refused while a plan is open: that of the lowest remote is told
abbrev pub drain_refusal : Chain → Option Reply
drain_refusal c = option_map (λ (p : Plan). PlanOpen p.remote) (find is_open c.plans)

-- the words of a drain's lines
abbrev pub is_drain_word : Line → Bool
is_drain_word (Grant port way octets) = true
is_drain_word (Deliver ticket) = true
is_drain_word (Lose ticket) = true
is_drain_word (Expire port at timer) = true
is_drain_word (Push port) = true
is_drain_word (Pull port) = true
is_drain_word (Report key) = true
is_drain_word line = false

-- a reply that refuses a name or a port
abbrev pub is_unknown_name : Reply → Bool
is_unknown_name NoBearer = true
is_unknown_name NoRemote = true
is_unknown_name NoPort = true
is_unknown_name reply = false

-- the line loses a PDU
abbrev pub is_lose : Line → Bool
is_lose (Lose ticket) = true
is_lose line = false

-- each grant has 9,100 bytes
abbrev pub HasDrainSize : Line → Type 0
HasDrainSize (Grant port way octets) = octets ≡ 9100
HasDrainSize line = Unit {0}

-- the ticket of the PDU that a line sent
abbrev pub sent_ticket : Line → Reply → Option ℕ
sent_ticket (Grant port way octets) (Air ticket status number bytes) = Some ticket
sent_ticket line reply = None

-- a line behind one that sent a PDU has that PDU heard
abbrev pub HearsSent : Option ℕ → Entry → Type 0
HearsSent None next = Unit {0}
HearsSent (Some ticket) next = (next.line ≡ Deliver ticket) × (is_unheard next.reply ≡ false)

-- each PDU sent is heard by the next line
abbrev pub HearsAtOnce : List Moment → Type 0
HearsAtOnce [] = Unit {0}
HearsAtOnce (m ∷ []) = Unit {0}
HearsAtOnce (next ∷ m ∷ ms) = HearsSent (sent_ticket m.entry.line m.entry.reply) next.entry × HearsAtOnce (m ∷ ms)

-- the key that a line had a report wanted about
abbrev pub asked_key : Line → Reply → Option Key
asked_key (Report key) Ok = Some key
asked_key line reply = None

-- both ends of the key are on the relay path, and not all that was submitted is confirmed
pub record NeedsReport (c : Chain) (key : Key) : Type 0 where
  pub source_path : is_some (id_at (node_at c (source key)) key.remote) ≡ true
  pub sink_path : is_some (id_at (node_at c (sink key)) key.remote) ≡ true
  pub unfinished : confirmed (sender_at c key) < submitted (sender_at c key)

-- a report is asked for only where it is needed
abbrev pub AsksRightly : Chain → Option Key → Type 0
AsksRightly c None = Unit {0}
AsksRightly c (Some key) = NeedsReport c key

-- not the same key twice
abbrev pub AsksApart : Option Key → Option Key → Type 0
AsksApart None other = Unit {0}
AsksApart (Some key) None = Unit {0}
AsksApart (Some key) (Some other) = is_key key other ≡ false

-- an SDU in a transmitter without its retransmission count
abbrev pub bare_kept : Option Kept → Option Kept
bare_kept None = None
bare_kept (Some k) = Some (record k { retx_count = None })

-- an entity without retransmission counts
abbrev pub bare_entity : Entity → Entity
bare_entity e = record e { tx = record e.tx { kept = map bare_kept e.tx.kept } }

-- a side of a port without retransmission counts
abbrev pub bare_side : PortSide → PortSide
bare_side s = record s { entity = option_map bare_entity s.entity }

-- a node without retransmission counts
abbrev pub bare_node : Node → Node
bare_node n = record n { ports = map bare_side n.ports }

-- a PDU that is on the air
abbrev pub on_its_way : Option Pdu → Option (Option Pdu)
on_its_way None = None
on_its_way (Some pdu) = Some (Some pdu)

-- the lists of all places, without retransmission counts and ticket numbers
abbrev pub bare : Chain → Chain
bare c = record c { nodes = map bare_node c.nodes; air = filter_map on_its_way c.air }

-- the ticket of the PDU that was sent at a moment
abbrev pub ticket_of : Moment → Option ℕ
ticket_of m = sent_ticket m.entry.line m.entry.reply

-- the key about which a report was asked for at a moment
abbrev pub key_of_moment : Moment → Option Key
key_of_moment m = asked_key m.entry.line m.entry.reply

-- a drain's lines, the last first. PDUs are lost only at its beginning; each grant has 9,100 bytes, and what it sends is heard at once; a report is
-- asked for once a key at most, where it is needed; and no two PDUs are sent from the same lists of all places, so it can't go in a circle
pub record IsDrain (first : Chain) (moments : List Moment) (last : Chain) : Type 0 where
  pub run : IsRun first moments last
  pub words : AllByRecursion (λ (m : Moment). is_drain_word m.entry.line ≡ true) moments
  pub names : AllByRecursion (λ (m : Moment). is_unknown_name m.entry.reply ≡ false) moments
  pub losses : AllPairs (λ (later earlier : Moment). is_lose later.entry.line ≡ true → is_lose earlier.entry.line ≡ true) moments
  pub sizes : AllByRecursion (λ (m : Moment). HasDrainSize m.entry.line) moments
  pub heard : HearsAtOnce moments
  pub reports : AllByRecursion (λ (m : Moment). AsksRightly m.before (key_of_moment m)) moments
  pub apart : AllPairs (λ (later earlier : Moment). AsksApart (key_of_moment later) (key_of_moment earlier)) moments
  pub onward : AllPairs (λ (later earlier : Moment). is_some (ticket_of later) ≡ true → is_some (ticket_of earlier) ≡ true → bare later.before ≡ bare earlier.before → ⊥) moments

-- how a drain ends: quiet, with all that was submitted confirmed; or because no more tickets are left
abbrev pub EndsDrain : Chain → Reply → Type 0
EndsDrain c Ok = (is_quiet c ≡ true) × (is_finished c ≡ true)
EndsDrain c Worn = 2305843009213693952 ≤ length c.air
EndsDrain c reply = ⊥

-- what was carried out at a moment
abbrev pub entry_of : Moment → Entry
entry_of m = m.entry

-- a drain with these lines, the last first
pub record Drains (old : Chain) (inner : List Entry) (reply : Reply) (new : Chain) : Type 0 where
  pub moments : List Moment
  pub its : inner ≡ map entry_of moments
  pub is_drain : IsDrain old moments new
  pub ends : EndsDrain new reply
