-- What a run makes of one line, and of the input's end.
use Rattle.std.specs.Prelude.{◌≡◌, ◌⊎◌, ℕ, true, false, List, ◌++◌, map, codes, Option, Some, None}
use Rattle.script_text.specs.declared.reason.Reason.TheVariants.{End}
use Rattle.script_text.specs.declared.stage.ScriptStage.{ScriptStage}
use Rattle.script_text.specs.Grammar.{IsBad, IsFirstReason, reasons}
use Rattle.script_text.specs.Texts.{is_running, totals_text, done_text, bad_text, reason_text}
use Rattle.script_text.specs.History.{trace}
use Rattle.node_model.specs.Tables.{keys}
use Rattle.chain_model.specs.Runs.{Turn, entries}
use Rattle.chain_model.specs.State.{Chain}
use Rattle.chain_core.specs.Chain.{total_of}
use Rattle.player.specs.declared.player_state.Player.{Player}
use Rattle.player.specs.declared.player_state.Progress.TheVariants.{Skipped, Carried}
use Rattle.player.specs.declared.play.Ending.{Ending}
use Rattle.player.specs.declared.play.Ending.TheVariants.{Done, Later, Bad}
use Rattle.player.specs.Plays.{IsLater, ReadsText}

-- from a history, its trace and its stage, a line's text and number lead to this player and this text, or the run ends so
abbrev pub TurnsAt : List ℕ → List Turn → ScriptStage → ℕ → Option Ending → Player → List ℕ → Type 0
TurnsAt text h stage number None p out = ReadsText text h stage Skipped p out ⊎ ReadsText text h stage Carried p out
TurnsAt text h stage number (Some Later) p out = IsLater stage text × (out ≡ trace (entries h) ++ bad_text number (codes "later"))
TurnsAt text h stage number (Some (Bad why)) p out = IsFirstReason (IsBad stage text) (reasons text) why × (out ≡ trace (entries h) ++ bad_text number (reason_text why))
TurnsAt text h stage number (Some ending) p out = ⊥

-- the totals of the player's chain and done were added to the text
abbrev pub Finishes : Player → List ℕ → List ℕ → Type 0
Finishes p old new = (c : Chain) × (p.chain ≡ Some c) × (new ≡ old ++ totals_text (map (total_of c) (keys c.tables)) ++ done_text)

-- at the input's end a run is done behind go, and else it lacks go; the line that isn't there has this number
abbrev pub StopsAtEnd : Player → ℕ → List ℕ → Ending → List ℕ → Type 0
StopsAtEnd p number out Done out' = (is_running p.stage.part ≡ true) × Finishes p out out'
StopsAtEnd p number out (Bad End) out' = (is_running p.stage.part ≡ false) × (out' ≡ out ++ bad_text number (reason_text End))
StopsAtEnd p number out ending out' = ⊥
