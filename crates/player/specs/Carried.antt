-- Which lines are carried out.
use Rattle.std.specs.Prelude.{Bool, true, false}
use Rattle.script_text.specs.declared.line.Line.{Line}
use Rattle.script_text.specs.declared.line.Line.TheVariants.{Plan, Apply, Stage, Burst, Drain}

-- a line is carried out: none that plans or applies a switch of paths, and no burst or drain
abbrev pub is_carried : Line → Bool
is_carried (Plan remote goal) = false
is_carried (Apply remote kind) = false
is_carried (Stage ticket) = false
is_carried Burst = false
is_carried Drain = false
is_carried line = true
