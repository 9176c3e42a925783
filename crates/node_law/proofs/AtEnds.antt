-- What the PDCP entities of an end make of a PDU has one outcome.
use Rattle.std.proofs.Common.{◌≡◌, inl, inr, ℕ, Bool, true, false, List, sym, ◌∙◌, ap, subst}
use Rattle.std.proofs.lemmas.Bool.{false≢true}
use Rattle.std.proofs.lemmas.Option.{same_Some}
use Rattle.link_base.specs.declared.names.Key.{Key}
use Rattle.pdcp_pdu.specs.declared.pdu.PdcpFault.{PdcpFault}
use Rattle.pdcp_pdu.specs.Pdcp.{Pdcp, Sdu, Report}
use Rattle.pdcp_pdu.specs.Laws.{OneReading as OnePdcpReading, NoFaultWhereRead as NoPdcpFault}
use Rattle.pdcp_model.specs.Receiver.{Receiver}
use Rattle.pdcp_law.proofs.Outcome.{one_hearing}
use Rattle.node_model.specs.declared.answers.NodeHeard.{NodeHeard}
use Rattle.node_model.specs.declared.answers.NodeHeard.TheVariants as answers
use Rattle.node_model.specs.Names.{back}
use Rattle.node_model.specs.State.{Node, incoming, set_incoming}
use Rattle.node_model.specs.Ends.{pdcp_discard, heard_as, HearsSdu, HearsReport, data_pdu, report, neither}
use Rattle.node_law.specs.OneOutcome.{OnePdcpHearing}

-- a PDU is a data PDU, and its fields
abbrev is_sdu : Pdcp → Bool
is_sdu (Sdu sn body) = true
is_sdu (Report fmc map) = false

abbrev number_in : Pdcp → ℕ
number_in (Sdu sn body) = sn
number_in (Report fmc map) = fmc

abbrev bytes_in : Pdcp → List ℕ
bytes_in (Sdu sn body) = body
bytes_in (Report fmc map) = map

-- a data PDU has one outcome
one_sdu : (old : Node) (key : Key) (sn : ℕ) (sdu : List ℕ) (a b : NodeHeard) (m n : Node) → HearsSdu old key sn sdu a m → HearsSdu old key sn sdu b n → (a ≡ b) × (m ≡ n)
one_sdu old key sn sdu a b m n p q =
    let same = one_hearing (incoming old key).receiver sn sdu p.heard q.heard p.receiver q.receiver p.hears q.hears in
    (p.says ∙ ap (heard_as key) same.0 ∙ sym q.says, p.is ∙ ap (λ (r : Receiver). set_incoming old (record (incoming old key) { receiver = r })) same.1 ∙ sym q.is)

-- so has a status report
one_report : (old : Node) (key : Key) (fmc : ℕ) (map : List ℕ) (a b : NodeHeard) (m n : Node) → HearsReport old key fmc map a m → HearsReport old key fmc map b n
    → (a ≡ b) × (m ≡ n)
one_report old key fmc map a b m n (inl p) (inl q) = (p.1 ∙ sym q.1, p.2 ∙ sym q.2)
one_report old key fmc map a b m n (inl p) (inr q) = absurd (p.0 q.0)
one_report old key fmc map a b m n (inr p) (inl q) = absurd (q.0 p.0)
one_report old key fmc map a b m n (inr p) (inr q) = (p.1 ∙ sym q.1, p.2 ∙ sym q.2)

pub one_pdcp_hearing : OnePdcpReading → NoPdcpFault → OnePdcpHearing
one_pdcp_hearing one none old key pdu a b m n (data_pdu sn sdu is h) (data_pdu sn' sdu' is' h') =
    let same = one (incoming old key).receiver.size (Sdu sn sdu) (Sdu sn' sdu') pdu is is' in
    one_sdu old key sn' sdu' a b m n (subst (λ (x : ℕ). HearsSdu old key x sdu' a m) (ap number_in same)
    (subst (λ (x : List ℕ). HearsSdu old key sn x a m) (ap bytes_in same) h)) h'
one_pdcp_hearing one none old key pdu a b m n (data_pdu sn sdu is h) (report fmc map is' h') = absurd
    (false≢true (sym (ap is_sdu (one (incoming old key).receiver.size (Sdu sn sdu) (Report fmc map) pdu is is'))))
one_pdcp_hearing one none old key pdu a b m n (data_pdu sn sdu is h) (neither fault is' says' new') = absurd (none (incoming old key).receiver.size (Sdu sn sdu) pdu fault is is')
one_pdcp_hearing one none old key pdu a b m n (report fmc map is h) (data_pdu sn sdu is' h') = absurd
    (false≢true (ap is_sdu (one (incoming old key).receiver.size (Report fmc map) (Sdu sn sdu) pdu is is')))
one_pdcp_hearing one none old key pdu a b m n (report fmc map is h) (report fmc' map' is' h') =
    let same = one (incoming old key).receiver.size (Report fmc map) (Report fmc' map') pdu is is' in
    one_report old (back key) fmc' map' a b m n
    (subst (λ (x : ℕ). HearsReport old (back key) x map' a m) (ap number_in same) (subst (λ (x : List ℕ). HearsReport old (back key) fmc x a m) (ap bytes_in same) h)) h'
one_pdcp_hearing one none old key pdu a b m n (report fmc map is h) (neither fault is' says' new') = absurd
    (none (incoming old key).receiver.size (Report fmc map) pdu fault is is')
one_pdcp_hearing one none old key pdu a b m n (neither fault is says new) (data_pdu sn sdu is' h') = absurd (none (incoming old key).receiver.size (Sdu sn sdu) pdu fault is' is)
one_pdcp_hearing one none old key pdu a b m n (neither fault is says new) (report fmc map is' h') = absurd
    (none (incoming old key).receiver.size (Report fmc map) pdu fault is' is)
one_pdcp_hearing one none old key pdu a b m n (neither fault is says new) (neither fault' is' says' new') =
    (says ∙ ap (λ (f : PdcpFault). answers.Discard (pdcp_discard f)) (same_Some fault fault' (sym is ∙ is')) ∙ sym says', new ∙ sym new')
