-- Bytes have one explanation in each form.
use Rattle.std.proofs.Common.{◌≡◌, ℕ, true, false, List, inl, inr, refl, ap, ◌∙◌, sym}
use Rattle.rlc_pdu.proofs.Reading as amd_laws
use Rattle.rlc_status.proofs.Unique as status_reading
use Rattle.rlc_status.proofs.Faults as status_faults
use Rattle.rlc_status.proofs.Total as status_total
use Rattle.script_text.specs.Texts.{amd_fault_text, status_fault_text}
use Rattle.pdu_text.specs.declared.form.Form.TheVariants.{Amd, Status, Pdcp, Srap}
use Rattle.pdu_text.specs.Texts.{amd_text, status_text, pdcp_text, pdcp_fault_text, srap_text, srap_fault_text, refused_text}
use Rattle.pdu_text.specs.Laws.{OneExplanation, AllExplained}
use Rattle.pdu_text.proofs.PdcpFacts.{one_pdcp, no_pdcp_fault, pdcp_or_fault}
use Rattle.pdu_text.proofs.SrapFacts.{one_srap, no_srap_fault, srap_or_fault}

-- a text follows from what it is the text of
same_text : {A : Type 0} (text_of : A → List ℕ) {x y : A} {text other : List ℕ} → text ≡ text_of x → other ≡ text_of y → x ≡ y → text ≡ other
same_text text_of a b e = a ∙ (ap text_of e ∙ sym b)

pub one_explanation : OneExplanation
one_explanation (Amd size) bytes true true text other x y = (refl, same_text amd_text x.2 y.2 (amd_laws.one_reading size x.0 y.0 bytes x.1 y.1))
one_explanation (Amd size) bytes true false text other x y = absurd (amd_laws.not_both size x.0 bytes y.0 x.1 y.1)
one_explanation (Amd size) bytes false true text other x y = absurd (amd_laws.not_both size y.0 bytes x.0 y.1 x.1)
one_explanation (Amd size) bytes false false text other x y = let same : x.0 ≡ y.0 = cc (x.1, y.1) in (refl, same_text (λ f. refused_text (amd_fault_text f)) x.2 y.2 same)
one_explanation (Status size) bytes true true text other x y = (refl, same_text status_text x.2 y.2 (status_reading.one_reading size x.0 y.0 bytes x.1 y.1))
one_explanation (Status size) bytes true false text other x y = absurd (status_faults.no_fault size x.0 bytes y.0 x.1 y.1)
one_explanation (Status size) bytes false true text other x y = absurd (status_faults.no_fault size y.0 bytes x.0 y.1 x.1)
one_explanation (Status size) bytes false false text other x y = (refl, same_text (λ f. refused_text (status_fault_text f)) x.2 y.2 (status_faults.one_fault size bytes x.0 y.0 x.1 y.1))
one_explanation (Pdcp size) bytes true true text other x y = (refl, same_text pdcp_text x.2 y.2 (one_pdcp size x.0 y.0 bytes x.1 y.1))
one_explanation (Pdcp size) bytes true false text other x y = absurd (no_pdcp_fault size x.0 bytes y.0 x.1 y.1)
one_explanation (Pdcp size) bytes false true text other x y = absurd (no_pdcp_fault size y.0 bytes x.0 y.1 x.1)
one_explanation (Pdcp size) bytes false false text other x y = let same : x.0 ≡ y.0 = cc (x.1, y.1) in (refl, same_text (λ f. refused_text (pdcp_fault_text f)) x.2 y.2 same)
one_explanation Srap bytes true true text other x y = (refl, same_text srap_text x.2 y.2 (one_srap x.0 y.0 bytes x.1 y.1))
one_explanation Srap bytes true false text other x y = absurd (no_srap_fault x.0 bytes y.0 x.1 y.1)
one_explanation Srap bytes false true text other x y = absurd (no_srap_fault y.0 bytes x.0 y.1 x.1)
one_explanation Srap bytes false false text other x y = let same : x.0 ≡ y.0 = cc (x.1, y.1) in (refl, same_text (λ f. refused_text (srap_fault_text f)) x.2 y.2 same)

pub all_explained : AllExplained
all_explained (Amd size) bytes small = elim (amd_laws.either size bytes small) [ inl r ↦ (true, amd_text r.0, (r.0, r.1, refl)) | inr r ↦ (false, refused_text (amd_fault_text r.0), (r.0, r.1, refl)) ]
all_explained (Status size) bytes small = elim (status_total.read_or_refused size bytes) [ inl r ↦ (true, status_text r.0, (r.0, r.1, refl)) | inr r ↦ (false, refused_text (status_fault_text r.0), (r.0, r.1, refl)) ]
all_explained (Pdcp size) bytes small = elim (pdcp_or_fault size bytes small) [ inl r ↦ (true, pdcp_text r.0, (r.0, r.1, refl)) | inr r ↦ (false, refused_text (pdcp_fault_text r.0), (r.0, r.1, refl)) ]
all_explained Srap bytes small = elim (srap_or_fault bytes small) [ inl r ↦ (true, srap_text r.0, (r.0, r.1, refl)) | inr r ↦ (false, refused_text (srap_fault_text r.0), (r.0, r.1, refl)) ]
