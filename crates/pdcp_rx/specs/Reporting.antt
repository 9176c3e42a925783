-- Making a status report (TS 38.323 clause 5.4.1).
use Rattle.std.specs.Prelude.{◌≡◌, ℕ, ◌≤◌, List, length}
use Rattle.pdcp_pdu.specs.Pdcp.{Report, PdcpFits, pdcp_bytes}
use Rattle.pdcp_model.specs.Receiver.{Receiver, IsReport}

-- how many octets the status report of a receiving side has at most: 5, and a bit for each of 65,535 COUNTs
abbrev pub longest_made : ℕ
longest_made = 8197

-- these octets spell the status report of a receiving side, with reserved bits 0
pub record SpellsReport (r : Receiver) (octets : List ℕ) : Type 0 where
  pub fmc : ℕ
  pub map : List ℕ
  pub report : IsReport r fmc map
  pub fits : PdcpFits r.size (Report fmc map)
  pub spelt : octets ≡ pdcp_bytes r.size (Report fmc map)
  pub long : length octets ≤ longest_made
