-- Whether a script has come to its end line.
use Rattle.std.specs.Prelude.{Bool, true, false}
use Rattle.script_text.specs.declared.stage.Part.{Part}
use Rattle.script_text.specs.declared.stage.Part.TheVariants.{Ended}

-- behind the end line
abbrev pub is_ended : Part → Bool
is_ended Ended = true
is_ended part = false
