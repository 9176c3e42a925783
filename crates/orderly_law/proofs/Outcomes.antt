-- Two runs over the same lines have one outcome.
use Rattle.std.proofs.Common.{◌≡◌, Bool, true, false, List, [], ◌∷◌, ◌++◌, Result, Ok as OkOf, Err, refl, sym, ◌∙◌, ap, subst}
use Rattle.std.proofs.lemmas.Bool.{true≢false, false≢true}
use Rattle.bearer_map.specs.declared.rows.TableFault.{TableFault}
use Rattle.script_text.specs.declared.event.Event.{Event}
use Rattle.script_text.specs.declared.line.Line.{Line}
use Rattle.script_text.specs.declared.line.Line.TheVariants.{Burst, Drain, End}
use Rattle.script_text.specs.declared.reply.Reply.{Reply}
use Rattle.script_text.specs.declared.stage.Part.{Part}
use Rattle.script_text.specs.declared.stage.Part.TheVariants.{Start as AtStart, Tables, Running, Ended}
use Rattle.script_text.specs.declared.stage.ScriptStage.{ScriptStage}
use Rattle.script_text.specs.History.{Entry}
use Rattle.script_text.specs.Lines.{part_of}
use Rattle.script_text.specs.Stages.{after}
use Rattle.chain_model.specs.Runs.{Turn, entries, Behaves, Declares, Turns, contents}
use Rattle.chain_model.specs.State.{Chain, opened}
use Rattle.chain_law.specs.Laws.{behind}
use Rattle.step_law.specs.OneStep.{SameChain, IsOrderly, StepsAlike}
use Rattle.step_law.proofs.Chains.{same_chain}
use Rattle.orderly_law.specs.Laws.{is_burst_or_drain, RunsKeepChainsOrderly, RunsHaveOneOutcome}

-- what two turns brought about, and the chains that they led to
record SameTurn (t u : Turn) (c d : Chain) : Type 0 where
  own : t.inner ≡ []
  other : u.inner ≡ []
  events : t.entry.events ≡ u.entry.events
  reply : t.entry.reply ≡ u.entry.reply
  chains : SameChain c d

-- the first line of a list, and the others
abbrev first_of : Line → List Line → Line
first_of line [] = line
first_of line (l ∷ ls) = l

abbrev others_of : List Line → List Line
others_of [] = []
others_of (l ∷ ls) = ls

abbrev is_nil : List Line → Bool
is_nil [] = true
is_nil (l ∷ ls) = false

-- the stage to which a line leads
abbrev stage_of : ScriptStage → Result ScriptStage TableFault → ScriptStage
stage_of stage (OkOf s) = s
stage_of stage (Err fault) = stage

module _ (steps : StepsAlike) (t u : Turn) (c d before other : Chain) (same : SameChain before other) (fine : IsOrderly other) where
  -- a line of the tables
  declares : (stage stage' : ScriptStage) → stage ≡ stage' → Declares stage t c → Declares stage' u d → SameTurn t u c d
  declares stage stage' is p q = record {
    own = p.0;
    other = q.0;
    events = p.1 ∙ sym q.1;
    reply = p.2 ∙ sym q.2;
    chains = same_chain c d (p.3 ∙ ap (λ (s : ScriptStage). opened (contents s)) is ∙ sym q.3);
  }

  -- a line behind go
  behaves : (line : Line) → is_burst_or_drain line ≡ false → Behaves before t.inner line t.entry.events t.entry.reply c → Behaves other u.inner line u.entry.events u.entry.reply d
      → SameTurn t u c d
  behaves Drain it p q = absurd (true≢false it)
  behaves Burst it p q = absurd (true≢false it)
  behaves End it p q = record {
    own = p.0;
    other = q.0;
    events = p.1 ∙ sym q.1;
    reply = p.2 ∙ sym q.2;
    chains = subst (λ (z : Chain). SameChain z d) (sym p.3) (subst (SameChain before) (sym q.3) same);
  }
  behaves line it p q =
      let one = steps before other same fine line refl t.entry.events u.entry.events t.entry.reply u.entry.reply c d p.1 q.1 in
      record { own = p.0; other = q.0; events = one.0; reply = one.1; chains = one.2 }

  turns : (part : Part) (stage stage' : ScriptStage) → stage ≡ stage' → t.entry.line ≡ u.entry.line → is_burst_or_drain t.entry.line ≡ false
      → Turns part stage before t c → Turns part stage' other u d → SameTurn t u c d
  turns Running stage stage' is line it p q = behaves u.entry.line (sym (ap is_burst_or_drain line) ∙ it) (subst (λ (l : Line). Behaves before t.inner l t.entry.events t.entry.reply c) line p) q
  turns AtStart stage stage' is line it p q = declares stage stage' is p q
  turns Tables stage stage' is line it p q = declares stage stage' is p q
  turns Ended stage stage' is line it p q = declares stage stage' is p q

-- entries of the same lines, events and replies
same_entries : (t u : Turn) (h g : List Turn) (c d : Chain) → t.entry.line ≡ u.entry.line → SameTurn t u c d → entries h ≡ entries g → entries (t ∷ h) ≡ entries (u ∷ g)
same_entries t u h g c d line same more =
    ap (λ (inner : List Entry). t.entry ∷ inner ++ entries h) same.own
    ∙ ap (λ (l : Line). record { line = l; events = t.entry.events; reply = t.entry.reply } ∷ entries h) line
    ∙ ap (λ (es : List Event). record { line = u.entry.line; events = es; reply = t.entry.reply } ∷ entries h) same.events
    ∙ ap (λ (r : Reply). record { line = u.entry.line; events = u.entry.events; reply = r } ∷ entries h) same.reply
    ∙ ap (λ (rest : List Entry). u.entry ∷ rest) more ∙ ap (λ (inner : List Entry). u.entry ∷ inner ++ entries g) (sym same.other)

pub runs_have_one_outcome : StepsAlike → RunsKeepChainsOrderly → RunsHaveOneOutcome
runs_have_one_outcome steps orderly [] [] stage stage' c d p q lines none = (refl, p.0 ∙ sym q.0, same_chain c d (p.1 ∙ sym q.1))
runs_have_one_outcome steps orderly [] (u ∷ g) stage stage' c d p q lines none = absurd (true≢false (ap is_nil lines))
runs_have_one_outcome steps orderly (t ∷ h) [] stage stage' c d p q lines none = absurd (false≢true (ap is_nil lines))
runs_have_one_outcome steps orderly (t ∷ h) (u ∷ g) stage stage' c d p q lines none =
    let line : t.entry.line ≡ u.entry.line = ap (first_of t.entry.line) lines in
    let before = runs_have_one_outcome steps orderly h g p.0 q.0 p.1 q.1 p.2 q.2 (ap others_of lines) none.1 in
    let stages : stage ≡ stage' = ap (stage_of stage) (sym p.3.enters ∙ ap (λ (s : ScriptStage). after s t.entry.line) before.1 ∙ ap (after q.0) line ∙ q.3.enters) in
    let same = turns steps t u c d p.1 q.1 before.2 (orderly q.1 (behind g q.0 q.2)) (part_of u.entry.line) stage stage' stages line none.0
    (subst (λ (l : Line). Turns (part_of l) stage p.1 t c) line p.4) q.4 in
    (same_entries t u h g c d line same before.0, stages, same.chains)
