-- The forms of PDUs, and their names.
use Rattle.std.specs.Prelude.{ℕ, List, ◌++◌, codes}
use Rattle.script_text.specs.Words.{size_text}
use Rattle.pdu_text.specs.declared.form.Form.{Form}
use Rattle.pdu_text.specs.declared.form.Form.TheVariants as forms

-- a form's name: the format, and how many bits its sequence numbers have where it has such
abbrev pub form_text : Form → List ℕ
form_text (forms.Amd size) = codes "amd" ++ size_text size
form_text (forms.Status size) = codes "status" ++ size_text size
form_text (forms.Pdcp size) = codes "pdcp" ++ size_text size
form_text forms.Srap = codes "srap"
