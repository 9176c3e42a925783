-- Along a run a ghost stands for the chain.
use Rattle.std.proofs.Common.{◌≡◌, List, [], ◌∷◌, map, refl, sym, ap, subst}
use Rattle.bearer_map.specs.Contents.{Contents}
use Rattle.script_text.specs.declared.event.Event.{Event}
use Rattle.script_text.specs.declared.line.Line.{Line}
use Rattle.script_text.specs.declared.line.Line.TheVariants.{Submit, Grant, Deliver, Repeat, Lose, Stage, Expire, Push, Pull, Burst, Report, Plan, Apply}
use Rattle.script_text.specs.declared.reply.Reply.{Reply}
use Rattle.script_text.specs.History.{Entry}
use Rattle.node_model.proofs.Finding.{each_left}
use Rattle.chain_model.specs.Draining.{Moment, entry_of}
use Rattle.chain_model.specs.Runs.{entries}
use Rattle.chain_model.specs.State.{Chain, opened}
use Rattle.chain_model.specs.Steps.{Does}
use Rattle.book_law.specs.Laws.{EachRunIsPast}
use Rattle.book_law.specs.Past.{Goes, steps, drained, ended, Passes, AreTables}
use Rattle.book_law.proofs.Tables.{tables_stay}
use Rattle.item_law.specs.World.{Opens}
use Rattle.item_chain.specs.View.{view}
use Rattle.item_chain.specs.Stands.{item_tables, TablesGood, Ghost, Stands, Refines}
use Rattle.item_chain.specs.Laws.{IsItemLine, OpenedChainsStand}
use Rattle.item_chain.specs.Runs.{StepsGoByItemSteps, IsRunLine, AreRunLines, IsReachedByItems, PastsStand, RunsStand}
use Rattle.item_chain.proofs.Goings.{goes_on, stays}
use Rattle.item_chain.proofs.Given.{given_on}

-- a line of a run that does something is an item line
pub item_line : (old : Chain) (line : Line) (own : List Event) (reply : Reply) (mid : Chain) → Does old line own reply mid → IsRunLine line → IsItemLine line
item_line old (Submit key sdu) own reply mid does is = is refl
item_line old (Grant port way octets) own reply mid does is = is refl
item_line old (Deliver ticket) own reply mid does is = is refl
item_line old (Repeat ticket) own reply mid does is = is refl
item_line old (Lose ticket) own reply mid does is = is refl
item_line old (Stage ticket) own reply mid does is = is refl
item_line old (Expire port at timer) own reply mid does is = is refl
item_line old (Push port) own reply mid does is = is refl
item_line old (Pull port) own reply mid does is = is refl
item_line old (Report key) own reply mid does is = is refl
item_line old Burst own reply mid does is = is refl
item_line old (Plan remote goal) own reply mid does is = is refl
item_line old (Apply remote kind) own reply mid does is = is refl
item_line old line own reply mid does is = absurd does

module _ (steps_go : StepsGoByItemSteps) (opens : OpenedChainsStand) (t : Contents) (good : TablesGood t) (are : AreTables t) where
  abbrev begun : (g : Ghost) × Opens (item_tables t) g.chain × Stands g (view (opened t))
  begun = opens t good are

  -- one line more
  line_goes : (old : Chain) (e : Entry) (new : Chain) → old.tables ≡ t → IsRunLine e.line → Goes old e new → Refines t begun.0 (view old) → Refines t begun.0 (view new)
  line_goes old e new tables is (steps s) r =
      let more = subst (λ (u : Contents). Refines u r.ghost (view new)) tables
      (steps_go r.ghost old r.stands e.line e.events e.reply new (item_line old e.line s.own e.reply s.mid s.does is) s) in
      record {
        ghost = more.ghost;
        goes = goes_on r.goes more.goes;
        given = given_on begun.0.ports r.ghost.ports more.ghost.ports r.given more.given;
        stands = more.stands;
      }
  line_goes old e new tables is (drained line none same whole) r = subst (λ (c : Chain). Refines t begun.0 (view c)) (sym same) r
  line_goes old e new tables is (ended line none says same) r = subst (λ (c : Chain). Refines t begun.0 (view c)) (sym same) r

  passes_go : (ms : List Moment) (c : Chain) → Passes t ms c → AreRunLines (map entry_of ms) → Refines t begun.0 (view c)
  passes_go [] c is lines = stays t begun.0 (view (opened t)) (view c) (ap view is) begun.2
  passes_go (m ∷ ms) c (before, goes) lines = line_goes m.before m.entry c (tables_stay t ms m.before before) lines.0 goes (passes_go ms m.before before lines.1)

  pub reached : (ms : List Moment) (c : Chain) → Passes t ms c → AreRunLines (map entry_of ms) → IsReachedByItems c
  reached ms c passes lines =
      let same : t ≡ c.tables = sym (tables_stay t ms c passes) in
      record {
        first = begun.0;
        opens = subst (λ (u : Contents). Opens (item_tables u) begun.0.chain) same begun.1;
        begins = subst (λ (u : Contents). Stands begun.0 (view (opened u))) same begun.2;
        refines = subst (λ (u : Contents). Refines u begun.0 (view c)) same (passes_go ms c passes lines);
      }

pub pasts_stand : StepsGoByItemSteps → OpenedChainsStand → PastsStand
pasts_stand steps_go opens h c past lines good =
    reached steps_go opens past.tables (subst TablesGood (tables_stay past.tables past.moments c past.passes) good) past.are_tables past.moments c past.passes
    (each_left (λ (e : Entry). IsRunLine e.line) (map entry_of past.moments) past.declared (subst AreRunLines past.are lines))

pub runs_stand : EachRunIsPast → PastsStand → RunsStand
runs_stand pasts stand h stage c leads lines good = stand (entries h) c (pasts h stage c leads) lines good
