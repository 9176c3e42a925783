-- What is handed up of a key is exactly what the bytes of the delivered PDUs give.
use Rattle.std.specs.Prelude.{List}
use Rattle.link_base.specs.declared.names.Key.{Key}
use Rattle.bearer_map.specs.declared.rows.BearerRow.{BearerRow}
use Rattle.script_text.specs.declared.stage.ScriptStage.{ScriptStage}
use Rattle.chain_model.specs.Carried.{IsRowOf}
use Rattle.chain_model.specs.Heard.{HandsUpExactly}
use Rattle.chain_model.specs.Runs.{Turn, entries, LeadsTo}
use Rattle.chain_model.specs.State.{Chain}
use Rattle.chain_law.specs.Laws.{ComesUp}
use Rattle.step_law.specs.OneStep.{IsOrderly}

-- in each run a chain's map rows are in order, and at each node identities are apart
abbrev pub EachIsOrderly : Type 0
EachIsOrderly = (c : Chain) → ComesUp c → IsOrderly c

-- behind each run what was handed up of each key is, at each moment, exactly what the delivered PDUs complete
abbrev pub HandUpsAreExact : Type 0
HandUpsAreExact = (h : List Turn) (stage : ScriptStage) (c : Chain) → LeadsTo h stage c → (row : BearerRow) (key : Key) → IsRowOf c.tables key row
    → HandsUpExactly c.tables row key (entries h)

-- it is where each chain is orderly
abbrev pub OrderlyHandUpsAreExact : Type 0
OrderlyHandUpsAreExact = EachIsOrderly → HandUpsAreExact
