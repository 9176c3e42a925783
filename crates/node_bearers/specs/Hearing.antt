-- A bearer hears a PDCP PDU.
use Rattle.std.specs.Prelude.{◌≡◌, ◌⊎◌, ℕ, List}
use Rattle.link_base.specs.declared.names.Key.{Key}
use Rattle.link_base.specs.declared.discard.Discard.TheVariants as discards
use Rattle.pdcp_pdu.specs.declared.pdu.PdcpFault.{PdcpFault}
use Rattle.pdcp_pdu.specs.Pdcp.{Sdu, Report, IsPdcp, IsPdcpFault}
use Rattle.pdcp_model.specs.declared.answers.PdcpHeard.{PdcpHeard}
use Rattle.pdcp_model.specs.Sender.{confirmed, hears_report, IsBeyond}
use Rattle.pdcp_model.specs.Receiver.{Receiver, Hears}
use Rattle.pdcp_rx.specs.Receiver.{IsNew}
use Rattle.node_model.specs.declared.answers.NodeHeard.{NodeHeard}
use Rattle.node_model.specs.declared.answers.NodeHeard.TheVariants as answers
use Rattle.node_model.specs.Names.{back}
use Rattle.node_model.specs.Ends.{pdcp_discard, heard_as}
use Rattle.node_bearers.specs.declared.bearer.Bearer.{Bearer}

-- its sender, which is that of this key, hears a status report
abbrev pub HearsReportAt : Bearer → Key → ℕ → List ℕ → NodeHeard → Bearer → Type 0
HearsReportAt old key fmc map answer new =
    ((IsBeyond old.tx fmc map → ⊥) × (answer ≡ answers.Report key (confirmed old.tx)) × (new ≡ record old { tx = hears_report old.tx fmc map }))
    ⊎ (IsBeyond old.tx fmc map × (answer ≡ answers.Discard discards.ReportBeyond) × (new ≡ old))

-- a PDCP PDU comes for the key that it receives: the receiver hears a data PDU, the sender a status report
pub data HearsAt (old : Bearer) (key : Key) (pdu : List ℕ) (answer : NodeHeard) (new : Bearer) : Type 0 where
  data_pdu : (sn : ℕ) (sdu : List ℕ) (heard : PdcpHeard) (rx : Receiver) → IsPdcp old.rx.size (Sdu sn sdu) pdu → Hears old.rx sn sdu heard rx
      → answer ≡ heard_as key heard → new ≡ record old { rx = rx } → HearsAt old key pdu answer new
  report : (fmc : ℕ) (map : List ℕ) → IsPdcp old.rx.size (Report fmc map) pdu → HearsReportAt old (back key) fmc map answer new → HearsAt old key pdu answer new
  neither : (fault : PdcpFault) → IsPdcpFault old.rx.size pdu fault → answer ≡ answers.Discard (pdcp_discard fault) → new ≡ old → HearsAt old key pdu answer new

-- the PDU is a data PDU whose SDU has a COUNT and is neither handed up nor stored
abbrev pub IsNews : Receiver → List ℕ → Type 0
IsNews r pdu = (sn : ℕ) × (sdu : List ℕ) × IsPdcp r.size (Sdu sn sdu) pdu × IsNew r sn
