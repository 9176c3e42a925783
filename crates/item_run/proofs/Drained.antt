-- How drains are answered in a run.
use Rattle.std.proofs.Common.{◌≡◌, true, false, List, [], ◌∷◌, map, find, Option, Some, None, option_map, refl, sym, ◌∙◌, ap, subst}
use Rattle.std.specs.List.{AllByRecursion}
use Rattle.std.proofs.lemmas.Bool.{false≢true}
use Rattle.std.proofs.lemmas.Option.{none-some, same_Some}
use Rattle.script_text.specs.declared.event.Event.{Event}
use Rattle.script_text.specs.declared.line.Line.{Line}
use Rattle.script_text.specs.declared.line.Line.TheVariants.{Drain, End}
use Rattle.script_text.specs.declared.reply.Reply.{Reply}
use Rattle.script_text.specs.declared.reply.Reply.TheVariants.{Ok, Worn, PlanOpen}
use Rattle.script_text.specs.declared.stage.Part.{Part}
use Rattle.script_text.specs.declared.stage.Part.TheVariants.{Start as AtStart, Tables, Running, Ended}
use Rattle.script_text.specs.declared.stage.ScriptStage.{ScriptStage}
use Rattle.script_text.specs.Lines.{part_of}
use Rattle.script_text.specs.History.{Entry}
use Rattle.node_model.proofs.Finding.{each_append}
use Rattle.chain_model.specs.declared.plan.Plan.{Plan}
use Rattle.chain_model.specs.Draining.{Moment, entry_of, is_drain_word, drain_refusal, EndsDrain}
use Rattle.chain_model.specs.Plans.{is_open}
use Rattle.chain_model.specs.Runs.{Turn, entries, DrainsUnless, Behaves, Turns, LeadsTo}
use Rattle.chain_model.specs.State.{Chain}
use Rattle.item_run.specs.Replies.{never_comes}

-- where the line is a drain its reply is one that may come
abbrev pub DrainsFine : Entry → Type 0
DrainsFine e = e.line ≡ Drain → never_comes e.reply ≡ false

-- an entry of a drain's own is none
inner_fine : (ms : List Moment) → AllByRecursion (λ (m : Moment). is_drain_word m.entry.line ≡ true) ms → AllByRecursion DrainsFine (map entry_of ms)
inner_fine [] words = tt
inner_fine (m ∷ ms) words = (λ is. absurd (false≢true (sym (ap is_drain_word is) ∙ words.0)), inner_fine ms words.1)

none_fine : (inner : List Entry) → inner ≡ [] → AllByRecursion DrainsFine inner
none_fine inner is = subst (AllByRecursion DrainsFine) (sym is) tt

ends_fine : (c : Chain) (reply : Reply) → EndsDrain c reply → never_comes reply ≡ false
ends_fine c Ok ends = refl
ends_fine c Worn ends = refl
ends_fine c reply ends = absurd ends

refusal_fine : (old : Chain) (o : Option Plan) (r : Reply) → option_map (λ (p : Plan). PlanOpen p.remote) o ≡ Some r → never_comes r ≡ false
refusal_fine old None r is = absurd (none-some r is)
refusal_fine old (Some p) r is = sym (ap never_comes (same_Some (PlanOpen p.remote) r is))

-- what a drain does
drains_fine : (old : Chain) (o : Option Reply) → drain_refusal old ≡ o → (inner : List Entry) (reply : Reply) (new : Chain) → DrainsUnless o old inner reply new
    → AllByRecursion DrainsFine inner × (never_comes reply ≡ false)
drains_fine old (Some r) is inner reply new d = (none_fine inner d.0, ap never_comes d.1 ∙ refusal_fine old (find is_open old.plans) r is)
drains_fine old None is inner reply new d = (subst (AllByRecursion DrainsFine) (sym d.its) (inner_fine d.moments d.is_drain.words), ends_fine new reply d.ends)

behaves_fine : (old : Chain) (inner : List Entry) (line : Line) (events : List Event) (reply : Reply) (new : Chain) → Behaves old inner line events reply new
    → AllByRecursion DrainsFine inner
behaves_fine old inner Drain events reply new b = (drains_fine old (drain_refusal old) refl inner reply new b.1).0
behaves_fine old inner End events reply new b = none_fine inner b.0
behaves_fine old inner line events reply new b = none_fine inner b.0

-- a line and those within it
turn_fine : (stage : ScriptStage) (before : Chain) (t : Turn) (c : Chain) → Turns (part_of t.entry.line) stage before t c → AllByRecursion DrainsFine (t.entry ∷ t.inner)
turn_fine stage before t c turns = (λ is. (drains_fine before (drain_refusal before) refl t.inner t.entry.reply c (as_drain is).1).1, by (part_of t.entry.line) turns)
  where
    as_drain : t.entry.line ≡ Drain → Behaves before t.inner Drain t.entry.events t.entry.reply c
    as_drain is = subst (λ (line : Line). Behaves before t.inner line t.entry.events t.entry.reply c) is
        (subst (λ (part : Part). Turns part stage before t c) (ap part_of is) turns)

    by : (part : Part) → Turns part stage before t c → AllByRecursion DrainsFine t.inner
    by Running b = behaves_fine before t.inner t.entry.line t.entry.events t.entry.reply c b
    by AtStart d = none_fine t.inner d.0
    by Tables d = none_fine t.inner d.0
    by Ended d = none_fine t.inner d.0

pub runs_drain_fine : (h : List Turn) (stage : ScriptStage) (c : Chain) → LeadsTo h stage c → AllByRecursion DrainsFine (entries h)
runs_drain_fine [] stage c leads = tt
runs_drain_fine (t ∷ h) stage c leads =
    each_append DrainsFine (t.entry ∷ t.inner) (entries h) (turn_fine stage leads.1 t c leads.4) (runs_drain_fine h leads.0 leads.1 leads.2)
