-- Which text explains bytes as a PDU of a form.
use Rattle.std.specs.Prelude.{◌≡◌, ℕ, Bool, true, false, List, ◌++◌}
use Rattle.rlc_pdu.specs.declared.amd.AmdFault.{AmdFault}
use Rattle.rlc_pdu.specs.Amd as amd
use Rattle.rlc_status.specs.declared.status.Status.{Status}
use Rattle.rlc_status.specs.declared.fault.StatusFault.{StatusFault}
use Rattle.rlc_status.specs.Format as status
use Rattle.pdcp_pdu.specs.declared.pdu.PdcpFault.{PdcpFault}
use Rattle.pdcp_pdu.specs.Pdcp as pdcp
use Rattle.srap_header.specs.declared.pdu.SrapFault.{SrapFault}
use Rattle.srap_header.specs.Srap as srap
use Rattle.script_text.specs.Texts.{amd_fault_text, status_fault_text}
use Rattle.pdu_text.specs.declared.form.Form.{Form}
use Rattle.pdu_text.specs.declared.form.Form.TheVariants.{Amd, Status as StatusForm, Pdcp, Srap}
use Rattle.pdu_text.specs.Texts.{amd_text, status_text, pdcp_text, pdcp_fault_text, srap_text, srap_fault_text, refused_text}

-- the text explains the bytes in this form: that of the PDU that they spell, or, where they spell none, the word for their first fault
abbrev pub Explains : Form → List ℕ → Bool → List ℕ → Type 0
Explains (Amd size) bytes true text = (v : amd.Amd) × amd.IsAmd size v bytes × (text ≡ amd_text v)
Explains (Amd size) bytes false text = (fault : AmdFault) × amd.IsAmdFault size bytes fault × (text ≡ refused_text (amd_fault_text fault))
Explains (StatusForm size) bytes true text = (v : Status) × status.IsStatus size v bytes × (text ≡ status_text v)
Explains (StatusForm size) bytes false text = (fault : StatusFault) × status.IsStatusFault size bytes fault × (text ≡ refused_text (status_fault_text fault))
Explains (Pdcp size) bytes true text = (v : pdcp.Pdcp) × pdcp.IsPdcp size v bytes × (text ≡ pdcp_text v)
Explains (Pdcp size) bytes false text = (fault : PdcpFault) × pdcp.IsPdcpFault size bytes fault × (text ≡ refused_text (pdcp_fault_text fault))
Explains Srap bytes true text = (v : srap.Srap) × srap.IsSrap v bytes × (text ≡ srap_text v)
Explains Srap bytes false text = (fault : SrapFault) × srap.IsSrapFault bytes fault × (text ≡ refused_text (srap_fault_text fault))

-- behind what was written there stands an explanation of the bytes
pub record AddsExplanation (form : Form) (bytes : List ℕ) (read : Bool) (before after : List ℕ) : Type 0 where
  pub text : List ℕ
  pub explains : Explains form bytes read text
  pub added : after ≡ before ++ text
