-- Runs of a script: what each of its lines does to the chain, from the first line on.
use Rattle.std.specs.Prelude.{◌≡◌, List, [], ◌∷◌, ◌++◌, Option, Some, None, unwrap_or, Ok as OkOf}
use Rattle.bearer_map.specs.Contents.{Contents, nothing}
use Rattle.script_text.specs.declared.line.Line.{Line}
use Rattle.script_text.specs.declared.line.Line.TheVariants.{Drain, End}
use Rattle.script_text.specs.declared.event.Event.{Event}
use Rattle.script_text.specs.declared.reply.Reply.{Reply}
use Rattle.script_text.specs.declared.reply.Reply.TheVariants.{Ok}
use Rattle.script_text.specs.declared.stage.Part.{Part}
use Rattle.script_text.specs.declared.stage.Part.TheVariants.{Running}
use Rattle.script_text.specs.declared.stage.ScriptStage.{ScriptStage}
use Rattle.script_text.specs.Lines.{part_of}
use Rattle.script_text.specs.Stages.{first_stage, after}
use Rattle.script_text.specs.History.{Entry}
use Rattle.chain_model.specs.State.{Chain, opened}
use Rattle.chain_model.specs.Steps.{Step}
use Rattle.chain_model.specs.Draining.{drain_refusal, Drains}

-- a line of a script that was carried out, and the lines that a drain carried out before its reply, the last first
pub record Turn : Type 0 where
  pub inner : List Entry
  pub entry : Entry

-- all lines that were carried out, the last first
abbrev pub entries : List Turn → List Entry
entries [] = []
entries (t ∷ h) = t.entry ∷ t.inner ++ entries h

-- a drain is refused, and then nothing changes; else it drains
abbrev pub DrainsUnless : Option Reply → Chain → List Entry → Reply → Chain → Type 0
DrainsUnless (Some refusal) old inner reply new = (inner ≡ []) × (reply ≡ refusal) × (new ≡ old)
DrainsUnless None old inner reply new = Drains old inner reply new

-- what a line behind go does
abbrev pub Behaves : Chain → List Entry → Line → List Event → Reply → Chain → Type 0
Behaves old inner Drain events reply new = (events ≡ []) × DrainsUnless (drain_refusal old) old inner reply new
Behaves old inner End events reply new = (inner ≡ []) × (events ≡ []) × (reply ≡ Ok) × (new ≡ old)
Behaves old inner line events reply new = (inner ≡ []) × Step old line events reply new

-- what the lines of a script have declared so far
abbrev pub contents : ScriptStage → Contents
contents stage = unwrap_or stage.tables nothing

-- a line of the tables brings nothing about, and leaves the chain that its tables open
abbrev pub Declares : ScriptStage → Turn → Chain → Type 0
Declares stage t new = (t.inner ≡ []) × (t.entry.events ≡ []) × (t.entry.reply ≡ Ok) × (new ≡ opened (contents stage))

-- what a line does by the part of the script in which it stands; stage is the one behind it
abbrev pub Turns : Part → ScriptStage → Chain → Turn → Chain → Type 0
Turns Running stage old t new = Behaves old t.inner t.entry.line t.entry.events t.entry.reply new
Turns part stage old t new = Declares stage t new

-- at a stage of the script the line may stand, and leads to this stage
pub record Stands (old : ScriptStage) (line : Line) (new : ScriptStage) : Type 0 where
  pub part : part_of line ≡ old.part
  pub enters : after old line ≡ OkOf new

-- the lines of a history may stand where they stand, and lead from nothing to this stage and this chain, answered as they are
abbrev pub LeadsTo : List Turn → ScriptStage → Chain → Type 0
LeadsTo [] stage c = (stage ≡ first_stage) × (c ≡ opened nothing)
LeadsTo (t ∷ h) stage c =
    (s : ScriptStage) × (before : Chain) × LeadsTo h s before × Stands s t.entry.line stage × Turns (part_of t.entry.line) stage before t c
