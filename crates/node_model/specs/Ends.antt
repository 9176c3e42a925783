-- The PDCP entities at an end of bearers: what they hear, and what RLC confirms (TS 38.323 clauses 5.2.2, 5.3 and 5.4).
use Rattle.std.specs.Prelude.{◌≡◌, ◌⊎◌, ℕ, ◌==◌, List, fold, Option, Some, None}
use Rattle.link_base.specs.declared.names.Key.{Key}
use Rattle.link_base.specs.declared.names.PortName.{PortName}
use Rattle.link_base.specs.declared.names.PortName.TheVariants.{Direct, Pc5, Uu}
use Rattle.link_base.specs.declared.rlc_words.Tag.{Tag}
use Rattle.link_base.specs.declared.discard.Discard.{Discard}
use Rattle.link_base.specs.declared.discard.Discard.TheVariants as discards
use Rattle.pdcp_pdu.specs.declared.pdu.PdcpFault.{PdcpFault}
use Rattle.pdcp_pdu.specs.declared.pdu.PdcpFault.TheVariants.{Short, ReservedType, Empty, Long}
use Rattle.pdcp_pdu.specs.Pdcp.{Sdu, Report, IsPdcp, IsPdcpFault}
use Rattle.pdcp_model.specs.declared.answers.PdcpHeard.{PdcpHeard}
use Rattle.pdcp_model.specs.declared.answers.PdcpHeard.TheVariants as heard
use Rattle.pdcp_model.specs.Sender.{confirmed, confirms, hears_report, IsBeyond}
use Rattle.pdcp_model.specs.Receiver.{Receiver, Hears}
use Rattle.node_model.specs.declared.answers.NodeHeard.{NodeHeard}
use Rattle.node_model.specs.declared.answers.NodeHeard.TheVariants as answers
use Rattle.node_model.specs.Names.{back}
use Rattle.node_model.specs.State.{Node, outgoing, incoming, set_outgoing, set_incoming}

-- why an SDU that is no PDCP PDU is discarded
abbrev pub pdcp_discard : PdcpFault → Discard
pdcp_discard Short = discards.PdcpShort
pdcp_discard ReservedType = discards.PdcpType
pdcp_discard Empty = discards.PdcpEmpty
pdcp_discard Long = discards.PdcpLong

-- the node's answer to a PDU with which the receiver of a key answers this
abbrev pub heard_as : Key → PdcpHeard → NodeHeard
heard_as key (heard.Up sdus) = answers.Up key sdus
heard_as key heard.Stored = answers.Waiting
heard_as key heard.Old = answers.Old
heard_as key heard.Repeat = answers.Twice
heard_as key heard.BeforeStart = answers.NoCount
heard_as key heard.PastEnd = answers.NoCount

-- the receiver of a key hears a data PDU
pub record HearsSdu (old : Node) (key : Key) (sn : ℕ) (sdu : List ℕ) (answer : NodeHeard) (new : Node) : Type 0 where
  pub heard : PdcpHeard
  pub receiver : Receiver
  pub hears : Hears (incoming old key).receiver sn sdu heard receiver
  pub says : answer ≡ heard_as key heard
  pub is : new ≡ set_incoming old (record (incoming old key) { receiver = receiver })

-- the sender of a key hears a status report: it takes it, or it was told of what wasn't submitted
abbrev pub HearsReport : Node → Key → ℕ → List ℕ → NodeHeard → Node → Type 0
HearsReport old key fmc map answer new =
    ((IsBeyond (outgoing old key).sender fmc map → ⊥) × (answer ≡ answers.Report key (confirmed (outgoing old key).sender)) × (new ≡ set_outgoing old (record (outgoing old key) { sender = hears_report (outgoing old key).sender fmc map })))
    ⊎ (IsBeyond (outgoing old key).sender fmc map × (answer ≡ answers.Discard discards.ReportBeyond) × (new ≡ old))

-- a PDCP PDU comes for a key that is received here. A data PDU goes to its receiver; a status report is about the bearer's other way, and goes
-- to that way's sender; what is neither is discarded
pub data HearsPdcp (old : Node) (key : Key) (pdu : List ℕ) (answer : NodeHeard) (new : Node) : Type 0 where
  data_pdu : (sn : ℕ) (sdu : List ℕ) → IsPdcp (incoming old key).receiver.size (Sdu sn sdu) pdu → HearsSdu old key sn sdu answer new → HearsPdcp old key pdu answer new
  report : (fmc : ℕ) (map : List ℕ) → IsPdcp (incoming old key).receiver.size (Report fmc map) pdu → HearsReport old (back key) fmc map answer new → HearsPdcp old key pdu answer new
  neither : (fault : PdcpFault) → IsPdcpFault (incoming old key).receiver.size pdu fault → answer ≡ answers.Discard (pdcp_discard fault) → new ≡ old → HearsPdcp old key pdu answer new

-- RLC confirms an SDU: of a data PDU the COUNT of its tag (5.3)
abbrev pub confirm_count : Node → Key → Option ℕ → Node
confirm_count n key None = n
confirm_count n key (Some count) = set_outgoing n (record (outgoing n key) { sender = confirms (outgoing n key).sender (λ other. other == count) })

-- what RLC confirms on a direct port is confirmed for PDCP. On the ports of the relay path it isn't: there only the next hop has it
abbrev pub confirm_tags : Node → PortName → List Tag → Node
confirm_tags n (Direct remote drb) tags = fold (λ node (tag : Tag). confirm_count node tag.key tag.count) n tags
confirm_tags n (Pc5 remote chan) tags = n
confirm_tags n (Uu chan) tags = n
