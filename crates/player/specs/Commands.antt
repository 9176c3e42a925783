-- What the words behind the program's name ask for.
use Rattle.std.specs.Prelude.{◌≡◌, ◌≢◌, ℕ, List, [], ◌∷◌, codes}
use Rattle.pdu_text.specs.declared.form.Form.{Form}
use Rattle.pdu_text.specs.Forms.{form_text}
use Rattle.script_text.specs.Words.{IsHex}
use Rattle.player.specs.declared.command.Command.{Command}
use Rattle.player.specs.declared.command.Command.TheVariants.{Play, Show, Other}

-- a run of the script on the source
abbrev pub IsPlay : List (List ℕ) → Type 0
IsPlay words = words ≡ codes "play" ∷ []

-- the word spells these bytes in hexadecimal digits, and isn't the dash
pub record SpellsBytes (word bytes : List ℕ) : Type 0 where
  pub digits : IsHex word bytes
  pub some : word ≢ codes "-"

-- the fields of a PDU of this form with these bytes
pub record IsShow (words : List (List ℕ)) (form : Form) (bytes : List ℕ) : Type 0 where
  pub word : List ℕ
  pub is : words ≡ codes "show" ∷ form_text form ∷ word ∷ []
  pub spells : SpellsBytes word bytes

-- nothing that the program does
pub record IsOther (words : List (List ℕ)) : Type 0 where
  pub no_play : IsPlay words → ⊥
  pub no_show : (form : Form) (bytes : List ℕ) → IsShow words form bytes → ⊥

-- what the words ask for is this
abbrev pub IsCommand : List (List ℕ) → Command → Type 0
IsCommand words Play = IsPlay words
IsCommand words (Show form bytes) = IsShow words form bytes
IsCommand words Other = IsOther words

-- what two words behind `show` ask for is this
abbrev pub IsShowOf : List ℕ → List ℕ → Command → Type 0
IsShowOf name word Play = ⊥
IsShowOf name word (Show form bytes) = (form_text form ≡ name) × SpellsBytes word bytes
IsShowOf name word Other = (form : Form) (bytes : List ℕ) → form_text form ≡ name → SpellsBytes word bytes → ⊥
