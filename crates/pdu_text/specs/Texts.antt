-- The texts of PDUs, and of what is wrong with bytes that are none.
use Rattle.std.specs.Prelude.{ℕ, List, [], ◌∷◌, ◌++◌, codes, length, Option, Some, None}
use Rattle.std.specs.List.{flat_map}
use Rattle.std.specs.Fmt.{decimal}
use Rattle.rlc_pdu.specs.declared.amd.Si.{Si}
use Rattle.rlc_pdu.specs.declared.amd.Si.TheVariants.{Whole, First, Last, Middle}
use Rattle.rlc_pdu.specs.Amd.{Amd, flag}
use Rattle.rlc_status.specs.declared.status.Nack.{Nack}
use Rattle.rlc_status.specs.declared.status.Status.{Status}
use Rattle.pdcp_pdu.specs.declared.pdu.PdcpFault.{PdcpFault}
use Rattle.pdcp_pdu.specs.declared.pdu.PdcpFault.TheVariants as pdcp
use Rattle.pdcp_pdu.specs.Pdcp.{Pdcp, Sdu, Report}
use Rattle.srap_header.specs.declared.pdu.SrapFault.{SrapFault}
use Rattle.srap_header.specs.declared.pdu.SrapFault.TheVariants.{Short, Control, NoBody}
use Rattle.srap_header.specs.Srap.{Srap}
use Rattle.script_text.specs.Fields.{joined}
use Rattle.script_text.specs.Words.{hex_text}

-- a line of these words, with its LF
abbrev pub line_of : List (List ℕ) → List ℕ
line_of words = joined words ++ 10 ∷ []

-- which part of its SDU an AMD PDU carries (TS 38.322 clause 6.2.3.4)
abbrev pub si_text : Si → List ℕ
si_text Whole = codes "whole"
si_text First = codes "first"
si_text Last = codes "last"
si_text Middle = codes "middle"

-- the fields of an AMD PDU in the order in which they stand (TS 38.322 clause 6.2.2.4)
abbrev pub amd_words : Amd → List (List ℕ)
amd_words v = codes "amd" ∷ codes "sn" ∷ decimal v.sn ∷ codes "poll" ∷ decimal (flag v.poll) ∷ codes "si" ∷ si_text v.si ∷ codes "so" ∷ decimal v.so ∷ codes "body" ∷ hex_text v.body ∷ []

-- what is shown of a data PDU
abbrev pub amd_text : Amd → List ℕ
amd_text v = line_of (amd_words v)

-- SOstart and SOend, or a dash where all bytes are missing
abbrev pub part_text : Option (ℕ × ℕ) → List ℕ
part_text None = codes "-"
part_text (Some part) = decimal part.0 ++ (codes "-" ++ decimal part.1)

-- how many numbers an element names, or a dash where it names one without a range
abbrev pub range_text : Option ℕ → List ℕ
range_text None = codes "-"
range_text (Some range) = decimal range

-- an element of a STATUS PDU: NACK_SN, its part and its range (TS 38.322 clause 6.2.2.5)
abbrev pub nack_words : Nack → List (List ℕ)
nack_words nack = codes "nack" ∷ decimal nack.sn ∷ codes "part" ∷ part_text nack.part ∷ codes "range" ∷ range_text nack.range ∷ []

-- what is shown of an element of a STATUS PDU
abbrev pub nack_text : Nack → List ℕ
nack_text nack = line_of (nack_words nack)

-- ACK_SN, and how many elements there are
abbrev pub status_words : Status → List (List ℕ)
status_words status = codes "status" ∷ codes "ack" ∷ decimal status.ack ∷ codes "nacks" ∷ decimal (length status.nacks) ∷ []

-- a STATUS PDU: a line of these words, and a line for each element (TS 38.322 clause 6.2.2.5)
abbrev pub status_text : Status → List ℕ
status_text status = line_of (status_words status) ++ flat_map nack_text status.nacks

-- the fields of a PDCP data PDU, or of a status report (TS 38.323 clauses 6.2.2 and 6.2.3.1)
abbrev pub pdcp_words : Pdcp → List (List ℕ)
pdcp_words (Sdu sn body) = codes "sdu" ∷ codes "sn" ∷ decimal sn ∷ codes "body" ∷ hex_text body ∷ []
pdcp_words (Report fmc map) = codes "report" ∷ codes "fmc" ∷ decimal fmc ∷ codes "map" ∷ hex_text map ∷ []

-- what is shown of a PDCP PDU
abbrev pub pdcp_text : Pdcp → List ℕ
pdcp_text v = line_of (pdcp_words v)

-- the word for what is wrong with a PDCP PDU
abbrev pub pdcp_fault_text : PdcpFault → List ℕ
pdcp_fault_text pdcp.Short = codes "short"
pdcp_fault_text pdcp.ReservedType = codes "reserved-type"
pdcp_fault_text pdcp.Empty = codes "empty"
pdcp_fault_text pdcp.Long = codes "long"

-- the fields of a SRAP data PDU (TS 38.351 clause 6.2.2)
abbrev pub srap_words : Srap → List (List ℕ)
srap_words v = codes "srap" ∷ codes "bearer" ∷ decimal v.bearer ∷ codes "ue" ∷ decimal v.ue ∷ codes "body" ∷ hex_text v.body ∷ []

-- what is shown of a SRAP data PDU
abbrev pub srap_text : Srap → List ℕ
srap_text v = line_of (srap_words v)

-- the word for what is wrong with a SRAP data PDU
abbrev pub srap_fault_text : SrapFault → List ℕ
srap_fault_text Short = codes "short"
srap_fault_text Control = codes "control"
srap_fault_text NoBody = codes "no-body"

-- bytes that are no PDU of a form: the word for what is wrong with them
abbrev pub refused_text : List ℕ → List ℕ
refused_text fault = line_of (codes "refused" ∷ fault ∷ [])
