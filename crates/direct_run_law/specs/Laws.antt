-- What holds of each run on direct ports.
use Rattle.std.specs.Prelude.{List}
use Rattle.link_base.specs.declared.names.Key.{Key}
use Rattle.bearer_map.specs.declared.rows.BearerRow.{BearerRow}
use Rattle.script_text.specs.declared.stage.ScriptStage.{ScriptStage}
use Rattle.chain_model.specs.State.{Chain}
use Rattle.chain_model.specs.Runs.{Turn, entries, LeadsTo}
use Rattle.chain_model.specs.Carried.{IsRowOf}
use Rattle.chain_model.specs.Book.{IsBook}
use Rattle.book_law.specs.Past.{IsPast}
use Rattle.book_law.specs.Honest.{AreHonest}
use Rattle.book_law.specs.Laws.{HandsUpInOrder}
use Rattle.direct_run_law.specs.Direct.{BeginDirect, HasNoChannels, NoneSwitches}
use Rattle.direct_run_law.specs.Own.{HasOwnTags}

-- each line of a run on direct ports is honest to both keys of each bearer, those of its drains among them
abbrev pub DirectRunsAreHonest : Type 0
DirectRunsAreHonest = (h : List Turn) (stage : ScriptStage) (c : Chain) → LeadsTo h stage c → BeginDirect c.tables → NoneSwitches (entries h)
    → (past : IsPast (entries h) c) × ((row : BearerRow) (key : Key) → IsRowOf c.tables key row → AreHonest row key past.declared past.moments)

-- so the run keeps the book of each bearer
abbrev pub DirectRunsKeepBook : Type 0
DirectRunsKeepBook = (h : List Turn) (stage : ScriptStage) (c : Chain) → LeadsTo h stage c → BeginDirect c.tables → NoneSwitches (entries h)
    → (row : BearerRow) (key : Key) → IsRowOf c.tables key row → IsBook row key (entries h) × HandsUpInOrder (entries h) key

-- where the tables have no channels of the relay either, each open port is a direct one, whose transmitters keep data PDUs of their own key alone
abbrev pub DirectPortsKeepOwnTags : Type 0
DirectPortsKeepOwnTags = (h : List Turn) (stage : ScriptStage) (c : Chain) → LeadsTo h stage c → BeginDirect c.tables → HasNoChannels c.tables → NoneSwitches (entries h) → HasOwnTags c
