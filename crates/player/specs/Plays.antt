-- What a player makes of one line.
use Rattle.std.specs.Prelude.{◌≡◌, ℕ, true, false, List, [], ◌∷◌, Option, Some, None, is_some, Ok}
use Rattle.std.specs.List.{AllByRecursion}
use Rattle.player.specs.declared.player_state.Player.{Player}
use Rattle.player.specs.declared.player_state.Progress.{Progress}
use Rattle.player.specs.declared.player_state.Progress.TheVariants.{Skipped, Carried, Later, Bad}
use Rattle.script_text.specs.declared.event.Event.{Event}
use Rattle.script_text.specs.declared.line.Line.{Line}
use Rattle.script_text.specs.declared.reply.Reply.{Reply}
use Rattle.script_text.specs.declared.stage.ScriptStage.{ScriptStage}
use Rattle.script_text.specs.Words.{words_of}
use Rattle.script_text.specs.Lines.{is_skipped, IsLineOf, Spells}
use Rattle.script_text.specs.Stages.{after, is_past_go}
use Rattle.script_text.specs.Grammar.{IsBad, IsFirstReason, NoneHolds, reasons}
use Rattle.script_text.specs.History.{trace}
use Rattle.chain_model.specs.Runs.{Turn, entries, LeadsTo, contents}
use Rattle.chain_model.specs.State.{Chain, opened}
use Rattle.player.specs.Carried.{is_carried}

-- the chain that runs, or the one that the tables of a stage open
abbrev pub chain_or : ScriptStage → Option Chain → Chain
chain_or stage None = opened (contents stage)
chain_or stage (Some c) = c

-- a line with its events and reply, which no drain's lines come before
abbrev pub turn_of : Line → List Event → Reply → Turn
turn_of line events reply = record { inner = []; entry = record { line = line; events = events; reply = reply } }

-- each line of a history is one that is carried out
abbrev pub AreCarried : List Turn → Type 0
AreCarried h = AllByRecursion (λ (t : Turn). is_carried t.entry.line ≡ true) h

-- the lines of a history lead to a player, which has a chain behind go
pub record Plays (p : Player) (h : List Turn) : Type 0 where
  pub leads : LeadsTo h p.stage (chain_or p.stage p.chain)
  pub carried : AreCarried h
  pub runs : is_some p.chain ≡ is_past_go p.stage.part

-- some lines lead to a player
abbrev pub IsUnderWay : Player → Type 0
IsUnderWay p = (h : List Turn) × Plays p h

-- at a stage of the script the text is a line of it, of a form that isn't carried out yet, and bad for no reason
pub record IsLater (stage : ScriptStage) (text : List ℕ) : Type 0 where
  pub line : Line
  pub next : ScriptStage
  pub good : NoneHolds (IsBad stage text) (reasons text)
  pub is_line : IsLineOf stage.part (words_of text) line
  pub enters : after stage line ≡ Ok next
  pub not_carried : is_carried line ≡ false

-- from a history, its trace and its stage, a line's text leads to this player and this text
abbrev pub ReadsText : List ℕ → List Turn → ScriptStage → Progress → Player → List ℕ → Type 0
ReadsText text h stage Skipped p out = (is_skipped text ≡ true) × Plays p h × (out ≡ trace (entries h))
ReadsText text h stage Carried p out =
    (is_skipped text ≡ false) × (t : Turn) × Spells (words_of text) t.entry.line × Plays p (t ∷ h) × (out ≡ trace (entries (t ∷ h)))
ReadsText text h stage Later p out = (is_skipped text ≡ false) × IsLater stage text × (out ≡ trace (entries h))
ReadsText text h stage (Bad reason) p out = IsFirstReason (IsBad stage text) (reasons text) reason × (out ≡ trace (entries h))
