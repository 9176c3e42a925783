-- What stays along lines that switch no path, and what it says of the paths of items.
use Rattle.std.proofs.Common.{◌≡◌, inl, inr, ℕ, ◌==◌, ◌&&◌, true, false, List, [], ◌∷◌, map, find, Option, Some, None, option_map, refl, sym, ◌∙◌, ap, arith}
use Rattle.std.specs.Option.{unwrap_or}
use Rattle.std.proofs.lemmas.Bool.{cases_Bool, cond-true, cond-false, true≢false, false≢true, eqb-true, eq-eqb, or_cases, and_parts}
use Rattle.std.proofs.lemmas.Option.{none-some, same_Some}
use Rattle.link_base.specs.declared.names.Drb.{Drb}
use Rattle.link_base.specs.declared.names.Goal.TheVariants.{Direct as ToDirect}
use Rattle.link_base.specs.declared.names.Node.{Node as NodeKind}
use Rattle.link_base.specs.declared.names.Remote.{Remote}
use Rattle.bearer_map.specs.Contents.{Contents, remote_rank}
use Rattle.bearer_map.specs.Order.{has_row}
use Rattle.bearer_map.specs.declared.rows.BearerRow.{BearerRow}
use Rattle.bearer_map.specs.declared.rows.RemoteRow.{RemoteRow}
use Rattle.script_text.specs.declared.line.Line.{Line}
use Rattle.script_text.specs.declared.line.Line.TheVariants.{Plan as PlanLine, Apply}
use Rattle.script_text.specs.History.{Entry}
use Rattle.node_model.specs.Names.{is_remote}
use Rattle.node_model.proofs.Finding.{each_found, find_map, find_passes}
use Rattle.node_model.proofs.Names.{remote_is}
use Rattle.chain_model.specs.declared.plan.Plan.{Plan}
use Rattle.chain_model.specs.Draining.{Moment, entry_of}
use Rattle.chain_model.specs.OneCopy.{HasNoPlan}
use Rattle.chain_model.specs.Plans.{is_open}
use Rattle.chain_model.specs.State.{Chain, opened, plan_at, first_plan}
use Rattle.chain_model.specs.Told.{first_goal, goal_of}
use Rattle.book_law.specs.Past.{Goes, steps, drained, ended, Passes, AreTables}
use Rattle.heard_law.proofs.Knowing.{is_switch, plans_of, does_plans}
use Rattle.direct_run_law.specs.Direct.{switches, NoneSwitches}
use Rattle.item_law.specs.State.{Item, Path, goal_at, goal_in}
use Rattle.item_law.proofs.Inductive.{reaches_inv}
use Rattle.item_chain.specs.View.{view}
use Rattle.item_chain.specs.Stands.{row_of, item_tables, calm, PlanFits, opened as is_opened, closed as is_closed, Ghost, Stands}

no_switch : (line : Line) → switches line ≡ false → is_switch line ≡ false
no_switch (PlanLine remote goal) none = none
no_switch (Apply remote kind) none = none
no_switch line none = refl

goes_keeps : (old : Chain) (e : Entry) (new : Chain) → switches e.line ≡ false → Goes old e new → new.plans ≡ old.plans
goes_keeps old e new none (steps s) = ap plans_of s.is ∙ does_plans old s.mid e.line s.own e.reply (no_switch e.line none) s.does
goes_keeps old e new none (drained line no_event is whole) = ap plans_of is
goes_keeps old e new none (ended line no_event says is) = ap plans_of is

-- plans stay as the tables opened them
pub passes_keep : (t : Contents) (ms : List Moment) (c : Chain) → Passes t ms c → NoneSwitches (map entry_of ms) → c.plans ≡ (opened t).plans
passes_keep t [] c is none = ap plans_of is
passes_keep t (m ∷ ms) c (before, goes) (this, none) = goes_keeps m.before m.entry c this goes ∙ passes_keep t ms m.before before none

-- no plan is open where plans are as at first
pub none_open : (t : Contents) (c : Chain) → c.plans ≡ (opened t).plans → (r : Remote) → HasNoPlan c r
none_open t c plans r p is = by (find (λ (row : RemoteRow). is_remote r row.remote) t.remotes)
    (sym (find_map first_plan (λ (p : Plan). is_remote r p.remote) t.remotes) ∙ sym (ap (find (λ (p : Plan). is_remote r p.remote)) plans) ∙ is)
  where
    by : (o : Option RemoteRow) → option_map first_plan o ≡ Some p → is_open p ≡ false
    by None found = absurd (none-some p found)
    by (Some row) found = ap is_open (sym (same_Some (first_plan row) p found))

-- the remote of a bearer has a row
row_found : (r : Remote) (rows : List RemoteRow) → has_row remote_rank rows r.0 ≡ true → (row : RemoteRow) × (find (λ (row : RemoteRow). is_remote r row.remote) rows ≡ Some row)
row_found r [] has = absurd (false≢true has)
row_found r (row ∷ rows) has = elim (cases_Bool (is_remote r row.remote)) [
  | inl here ↦ (row, cond-true (is_remote r row.remote) (Some row) _ here)
  | inr other ↦ elim (or_cases (row.remote.0 == r.0) (has_row remote_rank rows r.0) has) [
    | inl mine ↦ absurd (true≢false (sym (eq-eqb r.0 row.remote.0 (sym (eqb-true row.remote.0 r.0 mine))) ∙ other))
    | inr later ↦ let found = row_found r rows later in (found.0, cond-false (is_remote r row.remote) (Some row) _ other ∙ found.1)
  ]
]

pub remote_there : (t : Contents) → AreTables t → (r : Remote) (d : Drb) (row : BearerRow) → row_of t r d ≡ Some row
    → (own : RemoteRow) × (find (λ (row : RemoteRow). is_remote r row.remote) t.remotes ≡ Some own)
remote_there t are r d row found =
    let test = λ (b : BearerRow). is_remote r b.remote && (d.0 == b.drb.0) in
    let pass = and_parts (is_remote r row.remote) (d.0 == row.drb.0) (find_passes test t.bearers row found) in
    let has = each_found (λ (b : BearerRow). has_row remote_rank t.remotes b.remote.0 ≡ true) test t.bearers row are.remotes found in
    row_found r t.remotes (ap (λ (q : Remote). has_row remote_rank t.remotes q.0) (remote_is r row.remote pass.0) ∙ has)

-- a remote is on its path of the tables, in epoch 0
pub record IsSteady (t : Contents) (path : Remote → Path) (r : Remote) : Type 0 where
  pub epoch : (path r).epoch ≡ 0
  pub goal : (path r).goal ≡ first_goal t r
  pub plan : (path r).plan ≡ None

module _ (t : Contents) (are : AreTables t) (g : Ghost) (c : Chain) (st : Stands g (view c)) (tables : c.tables ≡ t) (plans : c.plans ≡ (opened t).plans) where
  pub steady : (r : Remote) (d : Drb) (row : BearerRow) → row_of t r d ≡ Some row → IsSteady t g.chain.path r
  steady r d row its_row = by (st.paths.plans r (first_plan own) its_plan)
    where
      own : RemoteRow
      own = (remote_there t are r d row its_row).0

      found : find (λ (row : RemoteRow). is_remote r row.remote) t.remotes ≡ Some own
      found = (remote_there t are r d row its_row).1

      its_plan : plan_at c r ≡ Some (first_plan own)
      its_plan = ap (find (λ (p : Plan). is_remote r p.remote)) plans ∙ find_map first_plan (λ (p : Plan). is_remote r p.remote) t.remotes ∙ ap (option_map first_plan) found

      by : PlanFits (g.chain.path r) (first_plan own) → IsSteady t g.chain.path r
      by (is_opened still plan epoch) = absurd (false≢true still)
      by (is_closed shut plan epoch goal) = record {
        epoch = epoch;
        goal = goal ∙ sym (ap (λ (o : Option RemoteRow). unwrap_or (option_map goal_of o) ToDirect) found);
        plan = plan;
      }

  -- each item was given on its remote's path, which its remote has at each node
  pub record IsSteadyItem (n : ℕ) (i : Item) : Type 0 where
    pub path : IsSteady t g.chain.path i.key.remote
    pub epoch : i.epoch ≡ 0
    pub goal : i.goal ≡ (g.chain.path i.key.remote).goal
    pub goals : (nd : NodeKind) → goal_at (g.chain.path i.key.remote) nd ≡ i.goal

  pub steady_item : (n : ℕ) (i : Item) → g.chain.items n ≡ Some i → IsSteadyItem n i
  steady_item n i is = record {
    path = path;
    epoch = epoch;
    goal = goal;
    goals = λ nd. ap (λ o. goal_in (g.chain.path i.key.remote).goal o nd) path.plan ∙ sym goal;
  }
    where
      spelt : row_of c.tables i.key.remote i.key.drb ≡ Some (st.spelt n i is).row
      spelt = (st.spelt n i is).its_row

      path : IsSteady t g.chain.path i.key.remote
      path = steady i.key.remote i.key.drb (st.spelt n i is).row (ap (λ (x : Contents). row_of x i.key.remote i.key.drb) (sym tables) ∙ spelt)

      epoch : i.epoch ≡ 0
      epoch = let own = (reaches_inv (item_tables c.tables) (calm g.chain) st.reaches).own n i is refl in omega (arith, own.limit, path.epoch)

      goal : i.goal ≡ (g.chain.path i.key.remote).goal
      goal = let own = (reaches_inv (item_tables c.tables) (calm g.chain) st.reaches).own n i is refl in own.goal (epoch ∙ sym path.epoch)
