-- A history that leads to a chain is that of lines carried out behind its tables.
use Rattle.std.proofs.Common.{◌≡◌, ◌⊎◌, inl, inr, Bool, true, false, List, [], ◌∷◌, ◌++◌, map, find, Option, Some, None, unwrap_or, option_map, Result, Ok as OkOf, Err, refl, sym, ◌∙◌, ap, subst, append_assoc}
use Rattle.std.specs.List.{AllByRecursion}
use Rattle.std.proofs.lemmas.Bool.{true≢false, false≢true}
use Rattle.std.proofs.lemmas.Option.{none-some, same_Some}
use Rattle.bearer_map.specs.Contents.{Contents, nothing}
use Rattle.bearer_map.specs.declared.rows.TableFault.{TableFault}
use Rattle.script_text.specs.declared.line.Line.{Line}
use Rattle.script_text.specs.declared.line.Line.TheVariants.{Version, Set, Remote as RemoteLine, Bearer, Uu, Pc5, Map, Start, Path, Go, Drain, End}
use Rattle.script_text.specs.declared.reply.Reply.{Reply}
use Rattle.script_text.specs.declared.reply.Reply.TheVariants.{Ok, PlanOpen}
use Rattle.script_text.specs.declared.stage.Part.{Part}
use Rattle.script_text.specs.declared.stage.Part.TheVariants.{Start as AtStart, Tables, Running, Ended}
use Rattle.script_text.specs.declared.stage.ScriptStage.{ScriptStage}
use Rattle.script_text.specs.Lines.{part_of}
use Rattle.script_text.specs.Stages.{is_past_go, first_stage, table_line, kept, tables_after, part_after, entered, after}
use Rattle.script_text.specs.History.{Entry}
use Rattle.chain_model.specs.declared.plan.Plan.{Plan}
use Rattle.chain_model.specs.State.{Chain, opened}
use Rattle.chain_model.specs.Plans.{is_open}
use Rattle.chain_model.specs.Steps.{Step}
use Rattle.chain_model.specs.Resting.{is_finished}
use Rattle.chain_model.specs.Draining.{Moment, entry_of, IsRun, drain_refusal, EndsDrain}
use Rattle.chain_model.specs.Runs.{Turn, entries, DrainsUnless, Behaves, contents, Declares, Turns, LeadsTo}
use Rattle.book_law.specs.Past.{Goes, steps, drained, ended, Passes, IsDeclaration, AreTables, IsPast}
use Rattle.book_law.proofs.Declared.{line_declares}

-- what a line makes of the stage
abbrev stage_in : Result ScriptStage TableFault → ScriptStage
stage_in (OkOf stage) = stage
stage_in (Err fault) = first_stage

abbrev is_entered : Result ScriptStage TableFault → Bool
is_entered (OkOf stage) = true
is_entered (Err fault) = false

-- the part and the tables behind a line
part_is : (part : Part) (tables : Result (Option Contents) TableFault) (stage : ScriptStage) → entered part tables ≡ OkOf stage → (stage.part ≡ part) × ((stage.tables ≡ None) ⊎ ((t : Contents) × (stage.tables ≡ Some t) × (tables ≡ OkOf (Some t))))
part_is part (Err fault) stage is = absurd (false≢true (ap is_entered is))
part_is part (OkOf None) stage is = (ap (λ r. (stage_in r).part) (sym is), inl (ap (λ r. (stage_in r).tables) (sym is)))
part_is part (OkOf (Some t)) stage is = (ap (λ r. (stage_in r).part) (sym is), inr (t, ap (λ r. (stage_in r).tables) (sym is), refl))

-- tables in which nothing is declared
no_tables : AreTables nothing
no_tables = record { remotes_ascend = tt; bearers = tt; remotes = tt }

abbrev tables_in : Result (Option Contents) TableFault → Option Contents
tables_in (OkOf t) = t
tables_in (Err fault) = None

-- the tables behind a line of such tables are such
tables_stay : (old : Option Contents) (line : Line) (t : Contents) → AreTables (unwrap_or old nothing) → tables_after old line ≡ OkOf (Some t) → AreTables t
tables_stay None line t are is = absurd (none-some t (ap tables_in is))
tables_stay (Some u) line t are is = by (table_line u line) refl is
  where
    by : (r : Result Contents TableFault) → table_line u line ≡ r → kept r ≡ OkOf (Some t) → AreTables t
    by (OkOf v) e is = subst AreTables (same_Some v t (ap tables_in is)) ((line_declares u are line).are v e)
    by (Err fault) e is = absurd (none-some t (ap tables_in is))

-- a running line leads on behind go
runs_on : (line : Line) → part_of line ≡ Running → is_past_go (part_after Running line) ≡ true
runs_on (Version number) is = absurd (false≢true (ap is_past_go is))
runs_on (Set setting value) is = refl
runs_on (RemoteLine r) is = refl
runs_on (Bearer r d pdcp direct) is = refl
runs_on (Uu c size) is = refl
runs_on (Pc5 r c size) is = refl
runs_on (Map r d pc5 uu) is = refl
runs_on (Start key first) is = refl
runs_on (Path r goal) is = refl
runs_on Go is = refl
runs_on End is = refl
runs_on line is = refl

-- no line stands behind the end
abbrev is_ended : Part → Bool
is_ended Ended = true
is_ended part = false

no_end : (line : Line) → is_ended (part_of line) ≡ false
no_end (Version number) = refl
no_end (Set setting value) = refl
no_end (RemoteLine r) = refl
no_end (Bearer r d pdcp direct) = refl
no_end (Uu c size) = refl
no_end (Pc5 r c size) = refl
no_end (Map r d pc5 uu) = refl
no_end (Start key first) = refl
no_end (Path r goal) = refl
no_end Go = refl
no_end line = refl

not_ended : (line : Line) → part_of line ≡ Ended → ⊥
not_ended line is = false≢true (sym (no_end line) ∙ ap is_ended is)

-- a refused drain isn't answered ok
abbrev is_ok : Reply → Bool
is_ok Ok = true
is_ok reply = false

refusal_not_ok : (plan : Option Plan) (r : Reply) → option_map (λ (p : Plan). PlanOpen p.remote) plan ≡ Some r → is_ok r ≡ false
refusal_not_ok None r is = absurd (none-some r is)
refusal_not_ok (Some p) r is = ap is_ok (sym (same_Some (PlanOpen p.remote) r is))

-- a drain's end
finishes : (c : Chain) (reply : Reply) → EndsDrain c reply → reply ≡ Ok → is_finished c ≡ true
finishes c reply ends is = (subst (EndsDrain c) is ends).1

-- a drain's lines behind others
drain_passes : (t : Contents) (first : Chain) (before : List Moment) → Passes t before first → (ms : List Moment) (last : Chain) → IsRun first ms last → Passes t (ms ++ before) last
drain_passes t first before passes [] last is = subst (Passes t before) (sym is) passes
drain_passes t first before passes (m ∷ ms) last (run, step) = (drain_passes t first before passes ms m.before run, steps step)

entries_append : (xs ys : List Moment) → map entry_of (xs ++ ys) ≡ map entry_of xs ++ map entry_of ys
entries_append [] ys = refl
entries_append (m ∷ xs) ys = ap (λ l. m.entry ∷ l) (entries_append xs ys)

-- one more line behind a past
abbrev goes_past : (h : List Entry) (old : Chain) (p : IsPast h old) (e : Entry) (c : Chain) → Goes old e c → IsPast (e ∷ h) c
goes_past h old p e c goes = record {
  tables = p.tables;
  are_tables = p.are_tables;
  declared = p.declared;
  declare = p.declare;
  moments = record { before = old; entry = e } ∷ p.moments;
  are = ap (λ l. e ∷ l) p.are;
  passes = (p.passes, goes);
}

-- a drain's lines behind a past
abbrev drains_past : (h : List Entry) (old : Chain) (p : IsPast h old) (ms : List Moment) (c : Chain) → IsRun old ms c → IsPast (map entry_of ms ++ h) c
drains_past h old p ms c run = record {
  tables = p.tables;
  are_tables = p.are_tables;
  declared = p.declared;
  declare = p.declare;
  moments = ms ++ p.moments;
  are = ap (λ l. map entry_of ms ++ l) p.are ∙ sym (append_assoc (map entry_of ms) (map entry_of p.moments) p.declared) ∙ ap (λ l. l ++ p.declared) (sym (entries_append ms p.moments));
  passes = drain_passes p.tables old p.moments p.passes ms c run;
}

-- with other words for the history
abbrev same_past : (g h : List Entry) (c : Chain) → g ≡ h → IsPast g c → IsPast h c
same_past g h c is p = record {
  tables = p.tables;
  are_tables = p.are_tables;
  declared = p.declared;
  declare = p.declare;
  moments = p.moments;
  are = sym is ∙ p.are;
  passes = p.passes;
}

-- a past behind another, with its tables
abbrev PastOn : {h : List Entry} {old : Chain} → IsPast h old → List Entry → Chain → Type 0
PastOn p g c = (q : IsPast g c) × (q.tables ≡ p.tables)

-- a line behind go
behaves_past : (h : List Entry) (old : Chain) (p : IsPast h old) (inner : List Entry) (e : Entry) (c : Chain) (line : Line) → e.line ≡ line
    → Behaves old inner line e.events e.reply c → PastOn p (e ∷ inner ++ h) c
behaves_past h old p inner e c Drain is b = by (drain_refusal old) refl b.1
  where
    by : (o : Option Reply) → drain_refusal old ≡ o → DrainsUnless o old inner e.reply c → PastOn p (e ∷ inner ++ h) c
    by (Some r) refused (no_inner, says, stays) = (
      same_past (e ∷ h) (e ∷ inner ++ h) c (ap (λ l. e ∷ l ++ h) (sym no_inner))
          (goes_past h old p e c (drained is b.0 stays (λ ok. absurd (false≢true (sym (refusal_not_ok (find is_open old.plans) r refused) ∙ ap is_ok (sym says ∙ ok)))))),
      refl,
    )
    by None refused d = (
      same_past (e ∷ map entry_of d.moments ++ h) (e ∷ inner ++ h) c (ap (λ l. e ∷ l ++ h) (sym d.its))
          (goes_past (map entry_of d.moments ++ h) c (drains_past h old p d.moments c d.is_drain.run) e c (drained is b.0 refl (finishes c e.reply d.ends))),
      refl,
    )
behaves_past h old p inner e c End is b = (same_past (e ∷ h) (e ∷ inner ++ h) c (ap (λ l. e ∷ l ++ h) (sym b.0)) (goes_past h old p e c (ended is b.1 b.2 b.3)), refl)
behaves_past h old p inner e c line is b = (
  same_past (e ∷ h) (e ∷ inner ++ h) c (ap (λ l. e ∷ l ++ h) (sym b.0)) (goes_past h old p e c (steps (subst (λ l. Step old l e.events e.reply c) (sym is) b.1))),
  refl,
)

-- a run leads to the chain
abbrev pub IsOfRun : Chain → Type 0
IsOfRun c = (h : List Turn) × (stage : ScriptStage) × LeadsTo h stage c

-- what holds of a run's stage and chain, and of the chain that its tables open
pub record Led (h : List Turn) (stage : ScriptStage) (c : Chain) : Type 0 where
  pub are_tables : AreTables (contents stage)
  pub yet : is_past_go stage.part ≡ false → AllByRecursion IsDeclaration (entries h)
  pub past : IsPast (entries h) c
  pub opens : IsOfRun (opened past.tables)

-- behind a line
abbrev TablesOf : ScriptStage → Type 0
TablesOf stage = AreTables (contents stage)

stage_tables : (s : ScriptStage) (line : Line) (stage : ScriptStage) → TablesOf s → after s line ≡ OkOf stage → TablesOf stage × (stage.part ≡ part_after s.part line)
stage_tables s line stage are enters =
    let x = part_is (part_after s.part line) (tables_after s.tables line) stage enters in (
      elim x.1 [
        | inl none ↦ subst (λ o. AreTables (unwrap_or o nothing)) (sym none) no_tables
        | inr some ↦ subst (λ o. AreTables (unwrap_or o nothing)) (sym some.1) (tables_stay s.tables line some.0 are some.2)
      ],
      x.0,
    )

pub led : (h : List Turn) (stage : ScriptStage) (c : Chain) → LeadsTo h stage c → Led h stage c
led [] stage c (at, is) = record {
  are_tables = subst TablesOf (sym at) no_tables;
  yet = λ before. tt;
  past = record {
    tables = nothing;
    are_tables = no_tables;
    declared = [];
    declare = tt;
    moments = [];
    are = refl;
    passes = is;
  };
  opens = ([], stage, subst (LeadsTo [] stage) is (at, is));
}
led (t ∷ h) stage c (s, before, leads, stands, turns) =
    let l = led h s before leads in
    by l (stage_tables s t.entry.line stage l.are_tables stands.enters) (part_of t.entry.line) refl turns
  where
    declares : Led h s before → TablesOf stage × (stage.part ≡ part_after s.part t.entry.line) → is_past_go (part_of t.entry.line) ≡ false → Declares stage t c → Led (t ∷ h) stage c
    declares l x not_yet (no_inner, shows, says, is) =
        let all : AllByRecursion IsDeclaration (t.entry ∷ t.inner ++ entries h) =
        subst (λ k. AllByRecursion IsDeclaration (t.entry ∷ k ++ entries h)) (sym no_inner)
        (record { part = λ running. true≢false (sym (ap is_past_go running) ∙ not_yet); shows = shows; says = says }, l.yet (ap is_past_go (sym stands.part) ∙ not_yet)) in
        record {
          are_tables = x.0;
          yet = λ y. all;
          past = record {
            tables = contents stage;
            are_tables = x.0;
            declared = t.entry ∷ t.inner ++ entries h;
            declare = all;
            moments = [];
            are = refl;
            passes = is;
          };
          opens = (t ∷ h, stage, subst (LeadsTo (t ∷ h) stage) is (s, before, leads, stands, turns));
        }

    by : Led h s before → TablesOf stage × (stage.part ≡ part_after s.part t.entry.line) → (p : Part) → part_of t.entry.line ≡ p → Turns p stage before t c → Led (t ∷ h) stage c
    by l x Running is behaves = record {
      are_tables = x.0;
      yet = λ not_yet.
          let part : stage.part ≡ part_after Running t.entry.line = x.1 ∙ ap (λ p. part_after p t.entry.line) (sym stands.part ∙ is) in
          absurd (true≢false (sym (runs_on t.entry.line is) ∙ ap is_past_go (sym part) ∙ not_yet));
      past = on.0;
      opens = subst (λ (u : Contents). IsOfRun (opened u)) (sym on.1) l.opens;
    }
      where
        on : PastOn l.past (entries (t ∷ h)) c
        on = behaves_past (entries h) before l.past t.inner t.entry c t.entry.line refl behaves
    by l x AtStart is d = declares l x (ap is_past_go is) d
    by l x Tables is d = declares l x (ap is_past_go is) d
    by l x Ended is d = absurd (not_ended t.entry.line is)
