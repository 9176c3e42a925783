-- What holds of runs whose chains stand for items: on direct ports and over the relay, of several remotes that share its channels.
use Rattle.std.specs.Prelude.{◌≡◌, true, List, length}
use Rattle.std.specs.List.{AllByRecursion}
use Rattle.link_base.specs.declared.names.Key.{Key}
use Rattle.bearer_map.specs.declared.rows.BearerRow.{BearerRow}
use Rattle.script_text.specs.declared.stage.ScriptStage.{ScriptStage}
use Rattle.script_text.specs.History.{Entry}
use Rattle.script_text.specs.Stages.{is_past_go}
use Rattle.chain_model.specs.State.{Chain, sender_at, receiving_at}
use Rattle.chain_model.specs.Book.{submitted, handed, IsBook}
use Rattle.chain_model.specs.Carried.{IsRowOf}
use Rattle.chain_model.specs.Draining.{Moment}
use Rattle.chain_model.specs.OneCopy.{HasNoPlan}
use Rattle.chain_model.specs.Resting.{is_quiet}
use Rattle.chain_model.specs.Runs.{Turn, entries, LeadsTo}
use Rattle.book_law.specs.Past.{IsPast}
use Rattle.book_law.specs.Kept.{KeepsSdus}
use Rattle.book_law.specs.Honest.{IsHonestLine, AreHonest}
use Rattle.book_law.specs.Laws.{HandsUpInOrder}
use Rattle.direct_run_law.specs.Direct.{NoneSwitches}
use Rattle.item_chain.specs.Runs.{AreRunLines}
use Rattle.item_chain.specs.View.{View, view}
use Rattle.item_chain.specs.Stands.{TablesGood, Ghost, Stands}
use Rattle.item_run.specs.Discards.{DiscardsUnattached}
use Rattle.item_run.specs.Identities.{PlansUnborne, PlannedIdsAreOwn}
use Rattle.item_run.specs.OneCopy.{HasOneCopy, IsOneCopied, AtEachMoment, HasOneCopyOfEach}
use Rattle.item_run.specs.Replies.{RepliesAreSound, SwitchingRepliesAreSound}
use Rattle.item_run.specs.Windows.{IsInWindows}

-- where a ghost stands for the chain before a line, the line is honest to both keys of each bearer, whatever it is
abbrev pub StandingLinesAreHonest : Type 0
StandingLinesAreHonest = (g : Ghost) (m : Moment) → Stands g (view m.before) → (h : List Entry) (row : BearerRow) (key : Key)
    → KeepsSdus row key.way (submitted key h) (sender_at m.before key) → (receiving_at m.before key).receiver.handed ≡ length (handed key h)
    → IsHonestLine row key h m

-- behind go the tables of a run are such that items can stand for their chains
abbrev pub DeclaredTablesAreGood : Type 0
DeclaredTablesAreGood = (h : List Turn) (stage : ScriptStage) (c : Chain) → LeadsTo h stage c → is_past_go stage.part ≡ true → TablesGood c.tables

-- this holds of each run whose lines take items by steps
abbrev pub OfItemRuns : (List Turn → Chain → Type 0) → Type 0
OfItemRuns Holds = (h : List Turn) (stage : ScriptStage) (c : Chain) → LeadsTo h stage c → AreRunLines (entries h) → Holds h c

-- this holds of each such run that has come behind go
abbrev pub OfRunsPastGo : (List Turn → Chain → Type 0) → Type 0
OfRunsPastGo Holds = (h : List Turn) (stage : ScriptStage) (c : Chain) → LeadsTo h stage c → is_past_go stage.part ≡ true → AreRunLines (entries h) → Holds h c

-- this holds of each such run that switches no path
abbrev pub OfStandingRuns : (List Turn → Chain → Type 0) → Type 0
OfStandingRuns Holds = OfItemRuns (λ h c. NoneSwitches (entries h) → Holds h c)

-- each line is honest to both keys of each bearer, those of drains among them
abbrev pub IsHonestRun : List Turn → Chain → Type 0
IsHonestRun h c = (past : IsPast (entries h) c) × ((row : BearerRow) (key : Key) → IsRowOf c.tables key row → AreHonest row key past.declared past.moments)

-- the run keeps the book of each bearer in both ways
abbrev pub KeepsBooks : List Turn → Chain → Type 0
KeepsBooks h c = (row : BearerRow) (key : Key) → IsRowOf c.tables key row → IsBook row key (entries h) × HandsUpInOrder (entries h) key

-- none of the replies was given that never come
abbrev pub HasSoundReplies : List Turn → Chain → Type 0
HasSoundReplies h c = RepliesAreSound (entries h)

-- of those replies one alone was given: that an SDU is discarded whose UE ID the node that hears it doesn't attach
abbrev pub DiscardsUnattachedAlone : List Turn → Chain → Type 0
DiscardsUnattachedAlone h c = SwitchingRepliesAreSound (entries h) × (past : IsPast (entries h) c) × AllByRecursion DiscardsUnattached past.moments

-- whatever ghost stands for whatever chain, its items have one copy of each COUNT
abbrev pub GhostsHaveOneCopy : Type 0
GhostsHaveOneCopy = (g : Ghost) (v : View) → Stands g v → HasOneCopy g.chain

-- items with one copy of each COUNT stand for the chain behind the run, and for the chain before each of its lines, those of drains among them
abbrev pub IsOneCopiedThroughout : List Turn → Chain → Type 0
IsOneCopiedThroughout h c = IsOneCopied c × (past : IsPast (entries h) c) × AllByRecursion (λ (m : Moment). IsOneCopied m.before) past.moments

-- at each moment each COUNT has one copy, told of the places of the chain
abbrev pub HasOneCopyThroughout : List Turn → Chain → Type 0
HasOneCopyThroughout h c = (past : IsPast (entries h) c) × AtEachMoment HasOneCopyOfEach past.declared past.moments c

-- each plan that was accepted found that nothing bears the identity that it asks for
abbrev pub PlansFindUnborne : List Turn → Chain → Type 0
PlansFindUnborne h c = (past : IsPast (entries h) c) × AllByRecursion PlansUnborne past.moments

-- behind the run, and before each of its lines, a node that applies a plan finds the plan's identity free
abbrev pub AppliesFindFree : List Turn → Chain → Type 0
AppliesFindFree h c = PlannedIdsAreOwn c × (past : IsPast (entries h) c) × AllByRecursion (λ (m : Moment). PlannedIdsAreOwn m.before) past.moments

-- before each line PDUs are read under their own numbers, and by each line SDUs are heard under their own COUNTs
abbrev pub RunsInWindows : List Turn → Chain → Type 0
RunsInWindows h c = (past : IsPast (entries h) c) × AllByRecursion IsInWindows past.moments

-- where the chain is quiet, each key whose remote has no open plan has handed up all that was submitted for it
abbrev pub HandsUpSettledWhenQuiet : List Turn → Chain → Type 0
HandsUpSettledWhenQuiet h c = is_quiet c ≡ true → (row : BearerRow) (key : Key) → IsRowOf c.tables key row → HasNoPlan c key.remote
    → handed key (entries h) ≡ submitted key (entries h)

-- where the chain is quiet, all was handed up that was submitted
abbrev pub HandsUpAllWhenQuiet : List Turn → Chain → Type 0
HandsUpAllWhenQuiet h c = is_quiet c ≡ true → (row : BearerRow) (key : Key) → IsRowOf c.tables key row → handed key (entries h) ≡ submitted key (entries h)
