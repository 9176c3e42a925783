-- A whole run over an input: the lines that were carried out, and what was written.
use Rattle.std.specs.Prelude.{◌≡◌, ◌≢◌, ◌⊎◌, ℕ, ◌+◌, true, false, List, [], ◌∷◌, ◌++◌, length, map, codes}
use Rattle.link_base.specs.declared.names.Key.{Key}
use Rattle.bearer_map.specs.declared.rows.BearerRow.{BearerRow}
use Rattle.bearer_map.specs.Contents.{Contents}
use Rattle.script_text.specs.declared.line.Line.{Line}
use Rattle.script_text.specs.declared.reason.Reason.{Reason}
use Rattle.script_text.specs.declared.reason.Reason.TheVariants as reason
use Rattle.script_text.specs.declared.stage.ScriptStage.{ScriptStage}
use Rattle.script_text.specs.declared.trace.Total.{Total}
use Rattle.script_text.specs.Words.{words_of}
use Rattle.script_text.specs.Lines.{is_skipped, Spells}
use Rattle.script_text.specs.Splits.{Splits, EndsInTime, IsLong, IsTooLong}
use Rattle.script_text.specs.Stages.{first_stage}
use Rattle.script_text.specs.Grammar.{IsBad, IsFirstReason, reasons}
use Rattle.script_text.specs.Texts.{is_running, totals_text, done_text, bad_text, reason_text, too_long_text}
use Rattle.script_text.specs.History.{Entry, trace, ReadsLines, Spelt}
use Rattle.node_model.specs.Tables.{keys}
use Rattle.chain_model.specs.Book.{submitted, handed, confirmed, IsBook}
use Rattle.chain_model.specs.Carried.{IsRowOf, Carried, ReportsTruly}
use Rattle.chain_model.specs.Heard.{HandsUpExactly}
use Rattle.chain_model.specs.Runs.{Turn, entries, Stands, LeadsTo}
use Rattle.chain_model.specs.State.{Chain}
use Rattle.book_law.specs.Laws.{HandsUpInOrder}
use Rattle.item_run.specs.Laws.{HandsUpAllWhenQuiet}
use Rattle.item_run.specs.Replies.{RepliesAreSound}
use Rattle.player.specs.declared.play.Ending.{Ending}
use Rattle.player.specs.declared.play.Ending.TheVariants.{Done, Later, Bad, TooLong}
use Rattle.player.specs.Carried.{is_carried}
use Rattle.player.specs.Ended.{is_ended}
use Rattle.player.specs.Plays.{AreCarried, IsLater}

-- the next line of the rest, behind so many bytes of the input, is this text, and ends in time
abbrev pub NextIs : ℕ → List ℕ → List ℕ → Type 0
NextIs used rest text = (after : List ℕ) × Splits rest text after × EndsInTime used rest text after

-- what a history tells of a key: how many SDUs were accepted, how many were handed up, and how many are confirmed
abbrev pub total_told : List Entry → Key → Total
total_told h key = record { key = key; submitted = length (submitted key h); handed = length (handed key h); confirmed = confirmed key h }

-- what a run writes behind its trace where it comes to its end: the totals of all keys, in key order, and done
abbrev pub last_text : Contents → List Entry → List ℕ
last_text t h = totals_text (map (total_told h) (keys t)) ++ done_text

-- the line of the script to which the entries of a turn belong
abbrev pub own_entry : Turn → Entry
own_entry t = t.entry

-- the next line is bad for this reason, or there is none
abbrev pub IsBadNext : ScriptStage → ℕ → List ℕ → Reason → Type 0
IsBadNext stage used rest reason.Line = IsLong used rest
IsBadNext stage used rest reason.End = (is_running stage.part ≡ false) × (rest ≡ [])
IsBadNext stage used rest why = (text : List ℕ) × NextIs used rest text × IsFirstReason (IsBad stage text) (reasons text) why

-- why a run stopped at a stage behind so many lines, where this rest of the input was left, and what was written
abbrev pub Stops : ℕ → List Entry → ScriptStage → Chain → ℕ → List ℕ → Ending → List ℕ → Type 0
-- behind an end line, or at the input's end behind go
Stops lines h stage c used rest Done out = ((is_ended stage.part ≡ true) ⊎ ((is_running stage.part ≡ true) × (rest ≡ []))) × (out ≡ trace h ++ last_text c.tables h)
-- at a line that is no line of the script, or at the input's end before go
Stops lines h stage c used rest (Bad why) out = (is_ended stage.part ≡ false) × IsBadNext stage used rest why × (out ≡ trace h ++ bad_text (lines + 1) (reason_text why))
-- at a line of a form that isn't carried out yet
Stops lines h stage c used rest Later out = (is_ended stage.part ≡ false) × (text : List ℕ) × NextIs used rest text × IsLater stage text × (out ≡ trace h ++ bad_text (lines + 1) (codes "later"))
-- at a line that ends past the script's greatest length
Stops lines h stage c used rest TooLong out = (is_ended stage.part ≡ false) × IsTooLong used rest × (out ≡ trace h ++ too_long_text)

-- a run over the input with this ending wrote this
pub record IsRun (input : List ℕ) (ending : Ending) (out : List ℕ) : Type 0 where
  pub texts : List (List ℕ)
  pub history : List Turn
  pub rest : List ℕ
  pub used : ℕ
  pub place : used + length rest ≡ length input
  pub reads : ReadsLines input texts rest
  pub spelt : Spelt texts (map own_entry history)
  pub stage : ScriptStage
  pub chain : Chain
  pub leads : LeadsTo history stage chain
  pub carried : AreCarried history
  pub books : (row : BearerRow) (key : Key) → IsRowOf chain.tables key row → IsBook row key (entries history) × HandsUpInOrder (entries history) key
  pub hand_ups : (row : BearerRow) (key : Key) → IsRowOf chain.tables key row → HandsUpExactly chain.tables row key (entries history)
  pub pdus : Carried chain.tables (entries history)
  pub reports : ReportsTruly chain.tables (entries history)
  pub replies : RepliesAreSound (entries history)
  pub quiet : HandsUpAllWhenQuiet history chain
  pub stops : Stops (length texts) (entries history) stage chain used rest ending out

-- lines lead from the start of a script to a stage, where each that isn't skipped stands where it may and is carried out
abbrev pub LeadsToStage : List (List ℕ) → ScriptStage → Type 0
LeadsToStage [] stage = stage ≡ first_stage
LeadsToStage (text ∷ texts) stage = ((is_skipped text ≡ true) × LeadsToStage texts stage)
    ⊎ ((is_skipped text ≡ false) × (line : Line) × (before : ScriptStage) × LeadsToStage texts before × Spells (words_of text) line × Stands before line stage × (is_carried line ≡ true))

-- the input is a script of lines that are carried out, up to its end line or its end
pub record IsScript (input : List ℕ) : Type 0 where
  pub texts : List (List ℕ)
  pub rest : List ℕ
  pub stage : ScriptStage
  pub reads : ReadsLines input texts rest
  pub leads : LeadsToStage texts stage
  pub ends : (is_ended stage.part ≡ true) ⊎ ((is_running stage.part ≡ true) × (rest ≡ []))

-- a run over a script of lines that are carried out comes to its end
abbrev pub ScriptsEnd : Type 0
ScriptsEnd = (input : List ℕ) (ending : Ending) (out : List ℕ) → IsRun input ending out → IsScript input → ending ≡ Done

-- all runs over an input end alike and, but behind its last line, at the same line
abbrev pub OneEnding : Type 0
OneEnding = (input : List ℕ) (a b : Ending) (out out' : List ℕ) (p : IsRun input a out) (q : IsRun input b out') → (a ≡ b) × (a ≢ Done → p.texts ≡ q.texts)

-- all runs over an input write one text
abbrev pub OneText : Type 0
OneText = (input : List ℕ) (a b : Ending) (out out' : List ℕ) → IsRun input a out → IsRun input b out' → out ≡ out'
