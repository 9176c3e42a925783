-- What a chain needs so that it can carry out a line.
use Rattle.std.specs.Prelude.{◌≡◌, Bool, true, false, Option, Some, None}
use Rattle.script_text.specs.declared.line.Line.{Line}
use Rattle.script_text.specs.declared.line.Line.TheVariants.{Go, End}
use Rattle.script_text.specs.declared.stage.Part.TheVariants.{Running}
use Rattle.script_text.specs.declared.stage.ScriptStage.{ScriptStage}
use Rattle.script_text.specs.Lines.{part_of}
use Rattle.chain_model.specs.Runs.{contents}
use Rattle.chain_model.specs.State.{Chain}
use Rattle.chain_core.specs.Chain.{is_chain_line}
use Rattle.chain_core.specs.Opening.{CanOpen}
use Rattle.call_law.specs.Lines.{CanStep}

-- the line is the end
abbrev pub is_end : Line → Bool
is_end End = true
is_end line = false

-- a chain can carry out a line behind go: it is of a form that a chain carries out, unless it is the end, which asks for nothing
pub record CanPlay (c : Chain) (line : Line) : Type 0 where
  pub form : is_end line ≡ false → is_chain_line line ≡ true
  pub step : CanStep c

-- a line can be carried out behind which the script stands at a stage: by the chain that runs; or it is one of the tables, which go needs to open a chain
abbrev pub CanCarry : ScriptStage → Option Chain → Line → Type 0
CanCarry stage (Some c) line = (part_of line ≡ Running) × CanPlay c line
CanCarry stage None Go = CanOpen (contents stage)
CanCarry stage None line = part_of line ≡ Running → ⊥
