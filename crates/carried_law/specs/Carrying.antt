-- What runs carry.
use Rattle.std.specs.Prelude.{List}
use Rattle.script_text.specs.declared.stage.ScriptStage.{ScriptStage}
use Rattle.chain_model.specs.Carried.{Carried}
use Rattle.chain_model.specs.Runs.{Turn, entries, LeadsTo}
use Rattle.chain_model.specs.State.{Chain}

-- behind each run, whatever its lines and paths, each data PDU sent is a piece of the SDU of its number. An end gave that SDU: the data PDU of an SDU submitted, or a report
-- that names exactly what was heard; or the relay heard it on another hop. What the relay sends over a hop comes from different completions, those of one ingress port in
-- their order; and numbers begin in their order
abbrev pub RunsAreCarried : Type 0
RunsAreCarried = (h : List Turn) (stage : ScriptStage) (c : Chain) → LeadsTo h stage c → Carried c.tables (entries h)
