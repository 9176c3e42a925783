-- What the program does with its words, its source and its sink.
use Rattle.std.specs.Prelude.{◌≡◌, ◌≢◌, ◌⊎◌, ℕ, Bool, false, List, Option}
use Rattle.std.specs.Io.KnownBytes.{Keeps, Appends}
use Rattle.link_io.specs.Causes.{IsCounted, IsUsed}
use Rattle.link_io.specs.Bytes.{IsAsTold, AppendsFront}
use Rattle.pdu_text.specs.declared.form.Form.{Form}
use Rattle.player.specs.Commands.{IsPlay, IsShow, IsOther}
use Rattle.player.specs.Outcome.{IsPlayedTo, IsPlayedInPart, IsCutOff, IsShown, IsShownInPart, usage_text}

-- what the words ask for was done to a source and a sink, and the status tells it
pub record Serves {S K : Type 0} (left : S → Option (List ℕ)) (src_faults : S → ℕ) (src_can_fail : S → Bool)
    (written : K → Option (List ℕ)) (out_faults : K → ℕ) (out_can_fail : K → Bool)
    (words : List (List ℕ)) (status : ℕ) (src src' : S) (out out' : K) : Type 0 where
  -- the words decide between a run, the fields of a PDU, and the usage line
  pub usage : status ≡ 2 → IsOther words × Appends (written out) (written out') usage_text
  pub other_words : IsOther words
      → (status ≡ 2) ⊎ (((status ≡ 4) ⊎ (status ≡ 5)) × AppendsFront (written out) (written out') usage_text)
  -- what was read was run, and its text was written
  pub played : IsPlay words → status ≢ 3 → status ≢ 4 → status ≢ 5
      → IsPlayedTo status (left src) (left src') (written out) (written out')
  pub cut_off : IsPlay words → status ≡ 4 → IsCutOff (left src) (left src') (written out) (written out')
  pub memory : IsPlay words → status ≡ 5 → IsPlayedInPart (left src) (left src') (written out) (written out')
  -- the fields of the PDU were written, or why the bytes are none
  pub shown : (form : Form) (bytes : List ℕ) → IsShow words form bytes → status ≢ 4 → status ≢ 5
      → IsShown form bytes status (written out) (written out')
  pub shown_in_part : (form : Form) (bytes : List ℕ) → IsShow words form bytes → (status ≡ 4) ⊎ (status ≡ 5)
      → IsShownInPart form bytes (written out) (written out')
  -- only a run reads
  pub unread : (IsPlay words → ⊥) → src' ≡ src
  -- a fault of the source is told by 3 and by nothing else, and one of the sink by 4
  pub source : IsCounted (status ≡ 3) (src_faults src) (src_faults src')
  pub sink : IsCounted (status ≡ 4) (out_faults out) (out_faults out')
  pub unwritten : status ≡ 3 → IsPlay words × Keeps (written out) (written out')
  pub sure_source : src_can_fail src ≡ false → status ≢ 3
  pub sure_sink : out_can_fail out ≡ false → status ≢ 4
  pub used : IsUsed src_faults src_can_fail src src' × IsUsed out_faults out_can_fail out out'
  pub told : IsAsTold (left src) (left src') × IsAsTold (written out) (written out')
