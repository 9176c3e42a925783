-- What holds of explanations, whoever writes them.
use Rattle.std.specs.Prelude.{◌≡◌, ℕ, Bool, List}
use Rattle.link_base.specs.Octets.{AreOctets}
use Rattle.pdu_text.specs.declared.form.Form.{Form}
use Rattle.pdu_text.specs.Explains.{Explains}

-- bytes have at most one explanation in a form
abbrev pub OneExplanation : Type 0
OneExplanation = (form : Form) (bytes : List ℕ) (a b : Bool) (text other : List ℕ) → Explains form bytes a text → Explains form bytes b other → (a ≡ b) × (text ≡ other)

-- octets have an explanation in each form
abbrev pub AllExplained : Type 0
AllExplained = (form : Form) (bytes : List ℕ) → AreOctets bytes → (read : Bool) × (text : List ℕ) × Explains form bytes read text
