-- Each line of a run keeps what holds of a chain.
use Rattle.std.proofs.Common.{ℕ, List, [], ◌∷◌, Option, Some, None, sym, subst}
use Rattle.std.specs.List.{AllByRecursion}
use Rattle.bearer_map.specs.Contents.{Contents, nothing}
use Rattle.rlc_model.specs.declared.hop.Pdu.{Pdu}
use Rattle.rlc_model.specs.Hop.{on_air}
use Rattle.script_text.specs.declared.event.Event.{Event}
use Rattle.script_text.specs.declared.line.Line.{Line}
use Rattle.script_text.specs.declared.line.Line.TheVariants.{Submit, Grant, Deliver, Repeat, Lose, Stage, Expire, Push, Pull, Burst, Report, Plan as PlanLine, Apply, Drain, End}
use Rattle.script_text.specs.declared.reply.Reply.{Reply}
use Rattle.script_text.specs.declared.stage.Part.{Part}
use Rattle.script_text.specs.declared.stage.Part.TheVariants.{Start as AtStart, Tables, Running, Ended}
use Rattle.script_text.specs.declared.stage.ScriptStage.{ScriptStage}
use Rattle.script_text.specs.History.{Entry}
use Rattle.script_text.specs.Lines.{part_of}
use Rattle.chain_model.specs.Bursts.{with_side}
use Rattle.chain_model.specs.Draining.{Moment, IsRun, drain_refusal}
use Rattle.chain_model.specs.Lines.{submit_refusal, grant_refusal, without, stage_refusal, expire_refusal, report_refusal, plan_refusal, apply_refusal}
use Rattle.chain_model.specs.Runs.{Turn, LeadsTo, Behaves, DrainsUnless, Turns, contents}
use Rattle.chain_model.specs.State.{Chain, opened}
use Rattle.chain_model.specs.Steps.{Does, Step}
use Rattle.chain_law.proofs.Applying.{applies_hold}
use Rattle.chain_law.proofs.Bursting.{SaysOn}
use Rattle.chain_law.proofs.Bursts.{ShowAlike, bursts_hold}
use Rattle.chain_law.proofs.Chains.{Holds, holds_implied, feeds_hold, off_holds}
use Rattle.chain_law.proofs.Hearing.{IntoAir, delivers_hold}
use Rattle.chain_law.specs.Foundations.{RlcLaws}
use Rattle.chain_law.specs.Laws.{ComesUp, behind, goes_on, unfed}
use Rattle.chain_law.proofs.Lines.{unless_holds, submits_hold, granted_holds, loses_hold, stages_hold, expires_hold, pushes_hold, pulls_hold, wants_hold, plans_hold}
use Rattle.chain_law.proofs.Stands.{Logs, Implies, nothing_said}
use Rattle.chain_law.proofs.Tables.{TablesApart, nothing_apart, stage_apart}

-- what is said behind a line of what was heard: behind one that brings a PDU, so; behind a burst it goes on with each ticket treated; behind others as before
abbrev pub IntoLine : (ℕ → Type 0) → (List Event → Logs) → Logs → Chain → Line → List Event → Logs → Type 0
IntoLine IsStaged said q c (Deliver ticket) own r = IntoAir q c (on_air c.air ticket) r
IntoLine IsStaged said q c (Repeat ticket) own r = IntoAir q c (on_air c.air ticket) r
IntoLine IsStaged said q c Burst own r = SaysOn c IsStaged said × Implies q (said []) × ((done : List Event) → ShowAlike done own → Implies (said done) r)
IntoLine IsStaged said q c line own r = Implies q r

-- nothing is said of tickets, nor while a burst goes on
abbrev pub AnyTicket : ℕ → Type 0
AnyTicket ticket = Unit {0}

abbrev pub never_said : List Event → Logs
never_said done = nothing_said

-- where nothing is said it is said on
nothing_into_air : (c : Chain) (o : Option Pdu) → IntoAir nothing_said c o nothing_said
nothing_into_air c None = λ name epoch way heard so. tt
nothing_into_air c (Some pdu) = record {
  taken = λ none data_pdu. record { this = λ made is heard so. tt; other = λ name epoch way heard ne so. tt };
  kept = λ not_taken name epoch way heard so. tt;
}

each_unsaid : (tickets : List ℕ) → AllByRecursion AnyTicket tickets
each_unsaid [] = tt
each_unsaid (ticket ∷ tickets) = (tt, each_unsaid tickets)

pub nothing_into : (c : Chain) (line : Line) (own : List Event) → IntoLine AnyTicket never_said nothing_said c line own nothing_said
nothing_into c (Deliver ticket) own = nothing_into_air c (on_air c.air ticket)
nothing_into c (Repeat ticket) own = nothing_into_air c (on_air c.air ticket)
nothing_into c Burst own = (
  record {
    staged = each_unsaid c.staged;
    treats = λ done ticket pdu on side new reply treats. nothing_into_air (with_side c side) (Some pdu);
    elsewhere = λ done ticket is pdu on ne reply name epoch way heard so. tt;
    again = λ done more among name epoch way heard so. tt;
  },
  λ name epoch way heard so. tt,
  λ done alike name epoch way heard so. tt,
)
nothing_into c line own = λ name epoch way heard so. tt

module _ (l : RlcLaws) where
  pub does_hold : (IsStaged : ℕ → Type 0) (said : List Event → Logs) {q r : Logs} (old : Chain) (line : Line) (events : List Event) (reply : Reply) (new : Chain)
      → IntoLine IsStaged said q old line events r → Holds q old → Does old line events reply new → Holds r new
  does_hold IsStaged said old (Submit key sdu) events reply new into h d = holds_implied into (unless_holds (submit_refusal old key) old events reply new _ h
      (λ none done. submits_hold l old key sdu events reply new h done) d)
  does_hold IsStaged said old (Grant port way octets) events reply new into h d = holds_implied into (unless_holds (grant_refusal old port way) old events reply new _ h
      (λ none done. granted_holds l old port way octets events reply new h none done) d)
  does_hold IsStaged said old (Deliver ticket) events reply new into h d = delivers_hold l old ticket events reply new (without ticket) (λ c h. off_holds l c ticket h) into h d
  does_hold IsStaged said old (Repeat ticket) events reply new into h d = delivers_hold l old ticket events reply new (λ c. c) (λ c h. h) into h d
  does_hold IsStaged said old (Lose ticket) events reply new into h d = holds_implied into (loses_hold l old (on_air old.air ticket) ticket events reply new h d)
  does_hold IsStaged said old (Stage ticket) events reply new into h d = holds_implied into (unless_holds (stage_refusal (on_air old.air ticket)) old events reply new _ h
      (λ none done. stages_hold l old ticket events reply new h done) d)
  does_hold IsStaged said old (Expire port at timer) events reply new into h d = holds_implied into (unless_holds (expire_refusal old port at) old events reply new _ h
      (λ none done. expires_hold l old port at timer events reply new h done) d)
  does_hold IsStaged said old (Push port) events reply new into h d = holds_implied into (pushes_hold l old port events reply new h d)
  does_hold IsStaged said old (Pull port) events reply new into h d = holds_implied into (pulls_hold l old port events reply new h d)
  does_hold IsStaged said old Burst events reply new into h d = bursts_hold l old into.0 events into.2 reply new (holds_implied into.1 h) d
  does_hold IsStaged said old (Report key) events reply new into h d = holds_implied into (unless_holds (report_refusal old key) old events reply new _ h
      (λ none done. wants_hold l old key events reply new h done) d)
  does_hold IsStaged said old (PlanLine remote goal) events reply new into h d = holds_implied into (unless_holds (plan_refusal old remote goal) old events reply new _ h
      (λ none done. plans_hold old remote goal events reply new h done) d)
  does_hold IsStaged said old (Apply remote kind) events reply new into h d = holds_implied into (unless_holds (apply_refusal old remote kind) old events reply new _ h
      (λ none done. applies_hold l old remote kind events reply new h none done) d)
  does_hold IsStaged said old line events reply new into h d = absurd d

  -- a line, and then the nodes feed
  pub step_holds : (IsStaged : ℕ → Type 0) (said : List Event → Logs) {q r : Logs} (old : Chain) (line : Line) (events : List Event) (reply : Reply) (new : Chain)
      (s : Step old line events reply new) → IntoLine IsStaged said q old line s.own r → Holds q old → Holds r new
  step_holds IsStaged said {q} {r} old line events reply new s into h = subst (Holds r) (sym s.is) (feeds_hold l s.mid s.given s.nodes
      (does_hold IsStaged said old line s.own reply s.mid into h s.does) s.feeds)

-- what holds of each chain that tables open, and behind each step of a chain of which it holds
module _ (P : Chain → Type 0) (opens : (t : Contents) → TablesApart t → P (opened t))
    (steps : (old : Chain) (line : Line) (events : List Event) (reply : Reply) (new : Chain) → P old → Step old line events reply new → P new) where
  -- holds behind the lines of a drain
  run_keeps : (first : Chain) (moments : List Moment) (last : Chain) → P first → IsRun first moments last → P last
  run_keeps first [] last h r = subst P (sym r) h
  run_keeps first (m ∷ ms) last h r = steps m.before m.entry.line m.entry.events m.entry.reply last (run_keeps first ms m.before h r.0) r.1

  drains_keep : (refusal : Option Reply) (old : Chain) (inner : List Entry) (reply : Reply) (new : Chain) → P old → DrainsUnless refusal old inner reply new → P new
  drains_keep (Some r) old inner reply new h d = subst P (sym d.2) h
  drains_keep None old inner reply new h d = run_keeps old d.moments new h d.is_drain.run

  behaves_keep : (old : Chain) (inner : List Entry) (line : Line) (events : List Event) (reply : Reply) (new : Chain) → P old → Behaves old inner line events reply new → P new
  behaves_keep old inner Drain events reply new h b = drains_keep (drain_refusal old) old inner reply new h b.1
  behaves_keep old inner End events reply new h b = subst P (sym b.3) h
  behaves_keep old inner line events reply new h b = steps old line events reply new h b.1

  turns_keep : (part : Part) (stage : ScriptStage) (old : Chain) (t : Turn) (new : Chain) → TablesApart (contents stage) → P old → Turns part stage old t new → P new
  turns_keep Running stage old t new apart h x = behaves_keep old t.inner t.entry.line t.entry.events t.entry.reply new h x
  turns_keep AtStart stage old t new apart h x = subst P (sym x.3) (opens (contents stage) apart)
  turns_keep Tables stage old t new apart h x = subst P (sym x.3) (opens (contents stage) apart)
  turns_keep Ended stage old t new apart h x = subst P (sym x.3) (opens (contents stage) apart)

  -- behind each run, with the tables that its lines declared
  pub runs_keep : (h : List Turn) (stage : ScriptStage) (c : Chain) → LeadsTo h stage c → TablesApart (contents stage) × P c
  runs_keep [] stage c is = (subst (λ (s : ScriptStage). TablesApart (contents s)) (sym is.0) nothing_apart, subst P (sym is.1) (opens nothing nothing_apart))
  runs_keep (t ∷ h) stage c is =
      let before = runs_keep h is.0 is.1 is.2 in
      let apart = stage_apart is.0 t.entry.line stage before.0 is.3.enters in
      (apart, turns_keep (part_of t.entry.line) stage is.1 t c apart before.1 is.4)

  -- and of each chain that comes up, where it holds before the nodes feed too
  pub comes_keep : ((old : Chain) (line : Line) (events : List Event) (reply : Reply) (new : Chain) → P old → Does old line events reply new → P new) → {c : Chain} → ComesUp c → P c
  comes_keep does {c} (behind h stage run) = (runs_keep h stage c run).1
  comes_keep does {c} (goes_on {old = old} line events reply up step) = steps old line events reply c (comes_keep does up) step
  comes_keep does {c} (unfed {old = old} line events reply up d) = does old line events reply c (comes_keep does up) d
