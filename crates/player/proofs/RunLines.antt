-- What the laws of runs say of the lines that a player carries out.
use Rattle.std.proofs.Common.{◌≡◌, true, false, List, [], ◌∷◌, ◌++◌, sym, subst}
use Rattle.std.proofs.lemmas.Bool.{false≢true}
use Rattle.std.specs.List.{AllByRecursion}
use Rattle.link_base.specs.declared.names.Key.{Key}
use Rattle.bearer_map.specs.declared.rows.BearerRow.{BearerRow}
use Rattle.script_text.specs.declared.event.Event.{Event}
use Rattle.script_text.specs.declared.line.Line.{Line}
use Rattle.script_text.specs.declared.line.Line.TheVariants.{Submit, Grant, Deliver, Repeat, Lose, Expire, Push, Pull, Report, Stage, Burst, Plan, Apply, Drain, End}
use Rattle.script_text.specs.declared.reply.Reply.{Reply}
use Rattle.script_text.specs.declared.stage.Part.{Part}
use Rattle.script_text.specs.declared.stage.Part.TheVariants.{Start, Tables, Running, Ended}
use Rattle.script_text.specs.declared.stage.ScriptStage.{ScriptStage}
use Rattle.script_text.specs.History.{Entry}
use Rattle.script_text.specs.Lines.{part_of}
use Rattle.chain_model.specs.Book.{IsBook}
use Rattle.chain_model.specs.Carried.{IsRowOf}
use Rattle.chain_model.specs.Runs.{Turn, entries, Behaves, Turns, LeadsTo}
use Rattle.chain_model.specs.State.{Chain}
use Rattle.book_law.specs.Laws.{HandsUpInOrder}
use Rattle.direct_run_law.specs.Direct.{switches, NoneSwitches}
use Rattle.item_chain.specs.Runs.{IsRunLine, AreRunLines}
use Rattle.item_run.specs.Laws.{HandsUpAllWhenQuiet}
use Rattle.item_run.specs.Replies.{RepliesAreSound}
use Rattle.player.specs.Carried.{is_carried}
use Rattle.player.specs.Foundations.{RunLaws}
use Rattle.player.specs.Plays.{AreCarried}

-- a line that is carried out has no lines of a drain before it
no_inner : (line : Line) (old : Chain) (inner : List Entry) (events : List Event) (reply : Reply) (new : Chain) → is_carried line ≡ true → Behaves old inner line events reply new → inner ≡ []
no_inner Drain old inner events reply new carried x = absurd (false≢true carried)
no_inner line old inner events reply new carried x = x.0

none_inner : (part : Part) (stage : ScriptStage) (old : Chain) (t : Turn) (new : Chain) → is_carried t.entry.line ≡ true → Turns part stage old t new → t.inner ≡ []
none_inner Running stage old t new carried x = no_inner t.entry.line old t.inner t.entry.events t.entry.reply new carried x
none_inner Start stage old t new carried x = x.0
none_inner Tables stage old t new carried x = x.0
none_inner Ended stage old t new carried x = x.0

-- what holds of each line that is carried out holds of each line of a run
pub each_line : (P : Line → Type 0) → ((line : Line) → is_carried line ≡ true → P line) → (h : List Turn) (stage : ScriptStage) (c : Chain) → LeadsTo h stage c → AreCarried h
    → AllByRecursion (λ (e : Entry). P e.line) (entries h)
each_line P holds [] stage c leads carried = tt
each_line P holds (t ∷ h) stage c (s, before, older, stands, turns) (one, more) =
    subst (λ (inner : List Entry). AllByRecursion (λ (e : Entry). P e.line) (t.entry ∷ inner ++ entries h)) (sym (none_inner (part_of t.entry.line) stage before t c one turns))
    (holds t.entry.line one, each_line P holds h s before older more)

-- a line that is carried out takes items by steps, or is the end
item_line : (line : Line) → is_carried line ≡ true → IsRunLine line
item_line (Submit key sdu) carried at = tt
item_line (Grant port way octets) carried at = tt
item_line (Deliver ticket) carried at = tt
item_line (Repeat ticket) carried at = tt
item_line (Lose ticket) carried at = tt
item_line (Expire port side timer) carried at = tt
item_line (Push port) carried at = tt
item_line (Pull port) carried at = tt
item_line (Report key) carried at = tt
item_line (Stage ticket) carried at = tt
item_line Drain carried at = tt
item_line End carried at = tt
item_line line carried at = absurd cc

-- it switches no path
no_switch : (line : Line) → is_carried line ≡ true → switches line ≡ false
no_switch (Plan remote goal) carried = absurd (false≢true carried)
no_switch (Apply remote kind) carried = absurd (false≢true carried)
no_switch line carried = cc

-- so the laws of runs hold of the runs of a player
module _ (laws : RunLaws) (h : List Turn) (stage : ScriptStage) (c : Chain) (leads : LeadsTo h stage c) (carried : AreCarried h) where
  run_lines : AreRunLines (entries h)
  run_lines = each_line IsRunLine item_line h stage c leads carried

  none_switches : NoneSwitches (entries h)
  none_switches = each_line (λ line. switches line ≡ false) no_switch h stage c leads carried

  -- a run keeps the book of each bearer
  pub keeps_books : (row : BearerRow) (key : Key) → IsRowOf c.tables key row → IsBook row key (entries h) × HandsUpInOrder (entries h) key
  keeps_books = laws.books h stage c leads run_lines

  -- and gives none of the replies that never come
  pub has_sound_replies : RepliesAreSound (entries h)
  has_sound_replies = laws.replies h stage c leads run_lines none_switches

  -- and where its chain is quiet it has handed up all that was submitted
  pub hands_up_all : HandsUpAllWhenQuiet h c
  hands_up_all = laws.quiet h stage c leads run_lines none_switches
