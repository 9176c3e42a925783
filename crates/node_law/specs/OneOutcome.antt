-- Each step of a node has at most one outcome.
use Rattle.std.specs.Prelude.{◌≡◌, ℕ, List, Option, Result}
use Rattle.link_base.specs.declared.discard.Discard.{Discard}
use Rattle.link_base.specs.declared.names.Key.{Key}
use Rattle.link_base.specs.declared.names.PortName.{PortName}
use Rattle.link_base.specs.declared.names.Side.{Side}
use Rattle.link_base.specs.declared.names.Timer.{Timer}
use Rattle.link_base.specs.declared.rlc_words.Expired.{Expired}
use Rattle.bearer_map.specs.Contents.{Contents, map_rank}
use Rattle.bearer_map.specs.Ids.{AreIds}
use Rattle.bearer_map.specs.Order.{IsAscending}
use Rattle.rlc_model.specs.declared.hop.Pdu.{Pdu}
use Rattle.rlc_model.specs.Sides.{Entity}
use Rattle.rlc_law.specs.Receiver.{IsSound}
use Rattle.node_model.specs.declared.answers.NodeHeard.{NodeHeard}
use Rattle.node_model.specs.declared.answers.PortGrant.{PortGrant}
use Rattle.node_model.specs.declared.answers.PushReply.{PushReply}
use Rattle.node_model.specs.declared.answers.PullReply.{PullReply}
use Rattle.node_model.specs.State.{PortSide, Node}
use Rattle.node_model.specs.Sides.{IsOpen, GrantsPort, ExpiresPort}
use Rattle.node_model.specs.Routing.{Target, Leads}
use Rattle.node_model.specs.Ends.{HearsPdcp}
use Rattle.node_model.specs.Hearing.{HearsPdu}
use Rattle.node_model.specs.Feeding.{Feeds}
use Rattle.node_model.specs.Relaying.{PushesPort, PullsPort}
use Rattle.node_law.specs.Alike.{SameNode}

-- a push has one answer, and leaves one node
abbrev pub OnePush : Type 0
OnePush = (capacity : ℕ) (old : Node) (port : PortName) (a b : PushReply) (m n : Node) → PushesPort capacity old port a m → PushesPort capacity old port b n → (a ≡ b) × (m ≡ n)

-- a pull has one answer, and leaves one node
abbrev pub OnePull : Type 0
OnePull = (old : Node) (port : PortName) (a b : PullReply) (m n : Node) → PullsPort old port a m → PullsPort old port b n → (a ≡ b) × (m ≡ n)

-- a node gives its transmitters one list of reports, and is left as one node
abbrev pub OneFeeding : Type 0
OneFeeding = (t : Contents) (old : Node) (given other : List Key) (m n : Node) → Feeds t old given m → Feeds t old other n → (given ≡ other) × (m ≡ n)

-- the receivers of a node's open sides are sound
abbrev pub AreSound : Node → Type 0
AreSound n = (port : PortName) (side : PortSide) (entity : Entity) → IsOpen n port side entity → IsSound entity.rx

-- a port that is granted a PDU has one answer, and leaves one node, where receivers are sound
abbrev pub OnePortGrant : Type 0
OnePortGrant = (old : Node) → AreSound old → (port : PortName) (octets : ℕ) (a b : PortGrant) (m n : Node) → GrantsPort old port octets a m → GrantsPort old port octets b n
    → (a ≡ b) × (m ≡ n)

-- a timer of a port that is to run out has one answer, and leaves one node
abbrev pub OnePortExpiry : Type 0
OnePortExpiry = (old : Node) (port : PortName) (timer : Timer) (a b : Option Expired) (m n : Node) → ExpiresPort old port timer a m → ExpiresPort old port timer b n
    → (a ≡ b) × (m ≡ n)

-- over map rows in order and attachments that share no identity, an SDU leads to one target
abbrev pub OneTarget : Type 0
OneTarget =
    (t : Contents) (n : Node) (at : Side) (port : PortName) (sdu : List ℕ) (a b : Result Target Discard) → IsAscending map_rank t.maps → AreIds n.attached
    → Leads t n at port sdu a → Leads t n at port sdu b → a ≡ b

-- a PDCP PDU that comes to an end has one answer, and leaves one node
abbrev pub OnePdcpHearing : Type 0
OnePdcpHearing = (old : Node) (key : Key) (pdu : List ℕ) (a b : NodeHeard) (m n : Node) → HearsPdcp old key pdu a m → HearsPdcp old key pdu b n → (a ≡ b) × (m ≡ n)

-- a PDU that comes to a node has one answer, and leaves nodes that nothing tells apart, over map rows in order and attachments that share no
-- identity
abbrev pub OneNodeHearing : Type 0
OneNodeHearing =
    (t : Contents) (old : Node) (at : Side) (pdu : Pdu) (a b : NodeHeard) (m n : Node) → IsAscending map_rank t.maps → AreIds old.attached
    → HearsPdu t old at pdu a m → HearsPdu t old at pdu b n → (a ≡ b) × SameNode m n

-- nodes that nothing tells apart feed alike
abbrev pub FeedsAlike : Type 0
FeedsAlike = (t : Contents) (old other : Node) → SameNode old other → (given given' : List Key) (m n : Node) → Feeds t old given m → Feeds t other given' n
    → (given ≡ given') × SameNode m n

-- nodes that nothing tells apart answer a PDU alike, over such rows and attachments
abbrev pub NodesHearAlike : Type 0
NodesHearAlike =
    (t : Contents) (old other : Node) → SameNode old other → (at : Side) (pdu : Pdu) (a b : NodeHeard) (m n : Node) → IsAscending map_rank t.maps → AreIds other.attached
    → HearsPdu t old at pdu a m → HearsPdu t other at pdu b n → (a ≡ b) × SameNode m n
