-- What the top call makes of a source, a sink and its words.
use Rattle.std.specs.Prelude.{◌≡◌, ◌⊎◌, ℕ, ◌<◌, ◌≤◌, Bool, true, false, List, [], ◌∷◌, ◌+◌, ◌++◌, length, codes, Some}
use Rattle.std.specs.declared.option.Option.{Option}
use Rattle.std.specs.Io.KnownBytes.{Consumes, Keeps, Appends, IsAtEnd}
use Rattle.link_io.specs.Bytes.{AppendsFront}
use Rattle.pdu_text.specs.declared.form.Form.{Form}
use Rattle.pdu_text.specs.Explains.{Explains}
use Rattle.script_text.specs.declared.limits.TheConstants.{LONGEST_SCRIPT}
use Rattle.player.specs.declared.play.Ending.{Ending}
use Rattle.player.specs.declared.play.Ending.TheVariants.{Done, Later, Bad, TooLong}
use Rattle.player.specs.Runs.{IsRun, IsScript}

-- these bytes were read: all there were, or the longest script and one byte more
pub record IsInput (old new : Option (List ℕ)) (input : List ℕ) : Type 0 where
  pub taken : Consumes old new input
  pub limit : length input ≤ LONGEST_SCRIPT + 1
  pub whole : length input < LONGEST_SCRIPT + 1 → IsAtEnd new

-- the bytes read were run, with this ending, which is done where they are a script of the grammar, and its text was written
pub record IsPlayed (left left' written written' : Option (List ℕ)) (ending : Ending) : Type 0 where
  pub input : List ℕ
  pub text : List ℕ
  pub is_input : IsInput left left' input
  pub is_run : IsRun input ending text
  pub whole : IsScript input → ending ≡ Done
  pub is_written : Appends written written' text

-- the bytes read were run, and a front of its text was written
pub record IsCutOff (left left' written written' : Option (List ℕ)) : Type 0 where
  pub input : List ℕ
  pub ending : Ending
  pub text : List ℕ
  pub is_input : IsInput left left' input
  pub is_run : IsRun input ending text
  pub is_front : AppendsFront written written' text

-- nothing was written, or the bytes read were run and a front of the text was written
abbrev pub IsPlayedInPart : Option (List ℕ) → Option (List ℕ) → Option (List ℕ) → Option (List ℕ) → Type 0
IsPlayedInPart left left' written written' = Keeps written written' ⊎ IsCutOff left left' written written'

-- the status of a run that came to its end
abbrev pub status_of : Ending → ℕ
status_of Done = 0
status_of Later = 1
status_of (Bad reason) = 1
status_of TooLong = 6

-- the bytes read were run, with an ending of this status
abbrev pub IsPlayedTo : ℕ → Option (List ℕ) → Option (List ℕ) → Option (List ℕ) → Option (List ℕ) → Type 0
IsPlayedTo status left left' written written' = (ending : Ending) × (status ≡ status_of ending) × IsPlayed left left' written written' ending

-- where a source tells its bytes, what it had and what it has left decide the status of a run
abbrev pub OneStatus : Type 0
OneStatus = (a b : ℕ) (left left' : List ℕ) (written written' other other' : Option (List ℕ))
    → IsPlayedTo a (Some left) (Some left') written written' → IsPlayedTo b (Some left) (Some left') other other' → a ≡ b

-- the usage line
abbrev pub usage_text : List ℕ
usage_text = codes "usage: relayplay play | work | show FORM HEX | load N" ++ 10 ∷ []

-- the status of bytes that are a PDU of the form, or aren't
abbrev pub show_status : Bool → ℕ
show_status true = 0
show_status false = 7

-- the explanation of the bytes in this form was written: the fields of the PDU that they spell, or why they spell none
pub record IsShown (form : Form) (bytes : List ℕ) (status : ℕ) (written written' : Option (List ℕ)) : Type 0 where
  pub read : Bool
  pub text : List ℕ
  pub explains : Explains form bytes read text
  pub its_status : status ≡ show_status read
  pub is_written : Appends written written' text

-- nothing was written, or a front of the explanation
abbrev pub IsShownInPart : Form → List ℕ → Option (List ℕ) → Option (List ℕ) → Type 0
IsShownInPart form bytes written written' = Keeps written written' ⊎ ((read : Bool) × (text : List ℕ) × Explains form bytes read text × AppendsFront written written' text)
