-- The line plan: the next plan of a remote opens, where its bearers have channels and its local identity is free.
use Rattle.std.proofs.Common.{◌≡◌, inl, inr, ℕ, ◌+◌, ◌*◌, ◌≤◌, ◌==◌, ◌&&◌, ◌||◌, Bool, true, false, cond}
use Rattle.std.proofs.Common.{not, List, Option, Some, None, is_some, option_map, refl, sym, ◌∙◌, ap, subst, arith}
use Rattle.std.proofs.lemmas.Bool.{and_parts, and_from, eqb-true, eq-eqb, false≢true, true≢false}
use Rattle.std.proofs.lemmas.Option.{none-some}
use Rattle.link_base.specs.declared.names.Drb.{Drb}
use Rattle.link_base.specs.declared.names.Goal.{Goal}
use Rattle.link_base.specs.declared.names.Goal.TheVariants.{Direct as ToDirect, Relay as ToRelay}
use Rattle.link_base.specs.declared.names.LocalId.{LocalId}
use Rattle.link_base.specs.declared.names.Node.{Node as NodeKind}
use Rattle.link_base.specs.declared.names.Node.TheVariants as kinds
use Rattle.link_base.specs.declared.names.Place.{Place}
use Rattle.link_base.specs.declared.names.PortName.{PortName}
use Rattle.link_base.specs.declared.names.PortName.TheVariants.{Direct, Pc5, Uu}
use Rattle.link_base.specs.declared.names.Remote.{Remote}
use Rattle.bearer_map.specs.Contents.{Contents, map_rank, bearer_rank}
use Rattle.bearer_map.specs.Order.{has_row}
use Rattle.bearer_map.specs.declared.rows.BearerRow.{BearerRow}
use Rattle.bearer_map.specs.declared.rows.MapRow.{MapRow}
use Rattle.script_text.specs.declared.event.Event.{Event}
use Rattle.script_text.specs.declared.reply.Reply.{Reply}
use Rattle.script_text.specs.declared.reply.Reply.TheVariants.{NoRemote, NoTable, PlanOpen, IdBusy}
use Rattle.node_model.specs.Names.{is_of, is_remote}
use Rattle.node_model.specs.Tables.{has_remote, has_path, is_open_on}
use Rattle.node_model.proofs.Finding.{find_passes}
use Rattle.node_model.proofs.Names.{remote_is, remote_refl}
use Rattle.chain_model.specs.declared.plan.Plan.{Plan}
use Rattle.chain_model.specs.Lines.{Unless, or_else, open_refusal, plan_refusal, Plans}
use Rattle.chain_model.specs.Plans.{is_open, next_plan, busy_place}
use Rattle.chain_model.specs.State.{Chain, plan_at, set_plan}
use Rattle.chain_law.proofs.Lines.{plan_set, plan_was}
use Rattle.chain_law.proofs.Members.{IsIn, contains, found_in, one_passes, all_pass, passes_any, any_found}
use Rattle.item_law.specs.State.{Path, has_applied, epoch_at, goal_at, is_over_relay, Reserves, HasRow, put, sink as sink_kind, applied_at, applied_in, goal_in}
use Rattle.item_law.specs.State.{Plan as ItemPlan, Tables as ItemTables}
use Rattle.item_law.specs.Steps.{MayPlan, new_plan, planned, plan}
use Rattle.item_law.specs.Steps.{Step}
use Rattle.item_law.proofs.base.Puts.{of_remote, put_same, put_other, cases_same}
use Rattle.item_chain.specs.View.{view}
use Rattle.item_chain.specs.Stands.{uu_of, row_of, item_tables, IsOpenBy, kind_at, PlanFits, opened, closed, Ghost, Stands, Refines}
use Rattle.item_chain.proofs.FreeIds.{not_reserved, none_held}
use Rattle.item_chain.proofs.Goings.{stays, one_step, reaches_on}
use Rattle.item_chain.proofs.Receives.{some_is}
use Rattle.item_chain.proofs.Given.{given_same}

-- a plan that isn't refused: the tables have the remote, no plan of it is open, its bearers have channels, and the identity is at no place
pub accepted : (c : Chain) (remote : Remote) (goal : Goal) → plan_refusal c remote goal ≡ None
    → (has_remote c.tables remote ≡ true) × (open_refusal (plan_at c remote) ≡ None) × (has_path c.tables remote goal ≡ true) × (busy_place c goal ≡ None)
accepted c remote goal = go (has_remote c.tables remote) (open_refusal (plan_at c remote)) (has_path c.tables remote goal) (busy_place c goal)
  where
    go : (a : Bool) (o : Option Reply) (b : Bool) (busy : Option Place)
        → cond (not a) (Some NoRemote) (or_else o (cond (not b) (Some NoTable) (option_map (λ (place : Place). IdBusy place) busy))) ≡ None
        → (a ≡ true) × (o ≡ None) × (b ≡ true) × (busy ≡ None)
    go true None true None e = (refl, refl, refl, refl)
    go true None true (Some place) e = absurd (none-some _ (sym e))
    go true None false busy e = absurd (none-some _ (sym e))
    go true (Some r) b busy e = absurd (none-some _ (sym e))
    go false o b busy e = absurd (none-some _ (sym e))

-- the last plan isn't open
shut : (p : Plan) → open_refusal (Some p) ≡ None → is_open p ≡ false
shut p = go (is_open p)
  where
    go : (b : Bool) → cond b (Some (PlanOpen p.remote)) None ≡ None → b ≡ false
    go true e = absurd (none-some _ (sym e))
    go false e = refl

-- each bearer of a remote that may go over the relay has a row of channels
rows_there : (g : Ghost) (c : Chain) → Stands g (view c) → (r : Remote) (id : LocalId) → has_path c.tables r (ToRelay id) ≡ true → (d : Drb) → is_some (row_of c.tables r d) ≡ true
    → HasRow (item_tables c.tables) r d
rows_there g c st r id has d bearer =
    let t : Contents = c.tables in
    let row = some_is (row_of t r d) bearer in
    let test : BearerRow → Bool = λ (row : BearerRow). is_remote r row.remote && (d.0 == row.drb.0) in
    let its = and_parts _ _ (find_passes test t.bearers row.0 row.1) in
    let among : IsIn t.bearers row.0 = found_in test t.bearers row.0 row.1 in
    let same_remote : r ≡ row.0.remote = remote_is r row.0.remote its.0 in
    let same_drb : d.0 ≡ row.0.drb.0 = eqb-true d.0 row.0.drb.0 its.1 in
    let mapped = all_pass (λ (x : BearerRow). not (x.remote.0 == r.0) || has_row map_rank t.maps (bearer_rank x)) t.bearers row.0 has among in
    let there : has_row map_rank t.maps (bearer_rank row.0) ≡ true = not_first (row.0.remote.0 == r.0) _ (eq-eqb row.0.remote.0 r.0 (ap
    (λ (x : Remote). x.0) (sym same_remote))) mapped in
    let m = one_passes (λ (x : MapRow). map_rank x == bearer_rank row.0) t.maps there in
    let rank : m.0.remote.0 * 256 + m.0.drb.0 ≡ row.0.remote.0 * 256 + row.0.drb.0 = eqb-true (map_rank m.0) (bearer_rank row.0) m.2 in
    let few : m.0.drb.0 ≤ 32 = st.good.mapped m.0 (contains t.maps m.0 m.1) in
    let small : d.0 ≤ 32 = (st.good.drbs r d row.0 row.1).1 in
    let passes : (is_remote r m.0.remote && (d.0 == m.0.drb.0)) ≡ true = and_from _ _
    (eq-eqb r.0 m.0.remote.0 (omega (arith, rank, few, small, same_drb, ap (λ (x : Remote). x.0) same_remote)))
    (eq-eqb d.0 m.0.drb.0 (omega (arith, rank, few, small, same_drb))) in
    let found = any_found (λ (x : MapRow). is_remote r x.remote && (d.0 == x.drb.0)) t.maps
    (passes_any (λ (x : MapRow). is_remote r x.remote && (d.0 == x.drb.0)) t.maps m.0 m.1 passes) in
    record { chan = found.0.uu; is = ap (option_map uu_of) found.1 }
  where
    not_first : (a b : Bool) → a ≡ true → (not a || b) ≡ true → b ≡ true
    not_first true b is e = e
    not_first false b is e = absurd (false≢true is)

-- a side is open by paths that say the same of the port's remote
pub open_by : (old new : Remote → Path) (kind : NodeKind) (name : PortName) (epoch : ℕ)
    → ((r : Remote) → is_of r name ≡ true → (epoch_at (new r) kind ≡ epoch_at (old r) kind) × (goal_at (new r) kind ≡ goal_at (old r) kind))
    → IsOpenBy old kind name epoch → IsOpenBy new kind name epoch
open_by old new kind (Direct r d) epoch same o = let s = same r (remote_refl r) in (o.0 ∙ sym s.0, s.1 ∙ o.1)
open_by old new kind (Pc5 r c) epoch same o = let s = same r (remote_refl r) in (o.0 ∙ sym s.0, ap is_over_relay s.1 ∙ o.1)
open_by old new kind (Uu c) epoch same o = o

module _ (g : Ghost) (old : Chain) (st : Stands g (view old)) (remote : Remote) (goal : Goal) (last : Plan) (its : plan_at old remote ≡ Some last)
    (none : plan_refusal old remote goal ≡ None) where
  abbrev T : ItemTables
  T = item_tables old.tables

  abbrev path : Remote → Path
  path = g.chain.path

  known : has_remote old.tables remote ≡ true
  known = (accepted old remote goal none).0

  is_shut : is_open last ≡ false
  is_shut = shut last (ap open_refusal (sym its) ∙ (accepted old remote goal none).1)

  no_plan : (path remote).plan ≡ None
  no_plan = by (st.paths.plans remote last its)
    where
      by : PlanFits (path remote) last → (path remote).plan ≡ None
      by (closed shut none epoch goal) = none
      by (opened still asks epoch) = absurd (true≢false (sym still ∙ is_shut))

  its_epoch : (path remote).epoch ≡ last.epoch
  its_epoch = by (st.paths.plans remote last its)
    where
      by : PlanFits (path remote) last → (path remote).epoch ≡ last.epoch
      by (closed shut none epoch goal) = epoch
      by (opened still asks epoch) = absurd (true≢false (sym still ∙ is_shut))

  may : (goal : Goal) → has_path old.tables remote goal ≡ true → busy_place old goal ≡ None → MayPlan T g.chain remote goal
  may ToDirect has free = tt
  may (ToRelay u) has free = (rows_there g old st remote u has, not_reserved g old st u free, none_held g old st u free)

  step : Step T g.chain (planned g.chain remote goal)
  step = let a = accepted old remote goal none in plan remote goal no_plan (may goal a.2 a.3) refl

  abbrev new_path : Remote → Path
  new_path = put is_remote path remote (record (path remote) { plan = Some (new_plan goal) })

  -- a plan that no node has applied changes nothing anywhere
  unapplied : (kind : NodeKind) → applied_at (new_plan goal) kind ≡ false
  unapplied kinds.Remote = refl
  unapplied kinds.Relay = refl
  unapplied kinds.Gnb = refl

  same_applied : (r : Remote) (kind : NodeKind) → has_applied (new_path r) kind ≡ has_applied (path r) kind
  same_applied r kind = elim (cases_same of_remote r remote) [
    | inr ne ↦ ap (λ (p : Path). has_applied p kind) (put_other of_remote path remote (record (path remote) { plan = Some (new_plan goal) }) r ne)
    | inl same ↦ ap (λ (r : Remote). has_applied (new_path r) kind) same
        ∙ ap (λ (p : Path). has_applied p kind) (put_same of_remote path remote (record (path remote) { plan = Some (new_plan goal) })) ∙ unapplied kind
        ∙ sym (ap (λ (o : Option ItemPlan). applied_in o kind) no_plan) ∙ ap (λ (r : Remote). has_applied (path r) kind) (sym same)
  ]

  same_epoch : (r : Remote) → (new_path r).epoch ≡ (path r).epoch
  same_epoch r = elim (cases_same of_remote r remote) [
    | inr ne ↦ ap (λ (p : Path). p.epoch) (put_other of_remote path remote (record (path remote) { plan = Some (new_plan goal) }) r ne)
    | inl same ↦ ap (λ (r : Remote). (new_path r).epoch) same
        ∙ ap (λ (p : Path). p.epoch) (put_same of_remote path remote (record (path remote) { plan = Some (new_plan goal) })) ∙ ap (λ (r : Remote). (path r).epoch) (sym same)
  ]

  epochs_stay : (r : Remote) (kind : NodeKind) → epoch_at (new_path r) kind ≡ epoch_at (path r) kind
  epochs_stay r kind = ap (λ (e : ℕ). cond (has_applied (new_path r) kind) (e + 1) e) (same_epoch r) ∙ ap
      (λ (b : Bool). cond b ((path r).epoch + 1) (path r).epoch) (same_applied r kind)

  goals_stay : (r : Remote) (kind : NodeKind) → goal_at (new_path r) kind ≡ goal_at (path r) kind
  goals_stay r kind = elim (cases_same of_remote r remote) [
    | inr ne ↦ ap (λ (p : Path). goal_at p kind) (put_other of_remote path remote (record (path remote) { plan = Some (new_plan goal) }) r ne)
    | inl same ↦ ap (λ (r : Remote). goal_at (new_path r) kind) same
        ∙ ap (λ (p : Path). goal_at p kind) (put_same of_remote path remote (record (path remote) { plan = Some (new_plan goal) }))
        ∙ ap (λ (b : Bool). cond b goal (path remote).goal) (unapplied kind)
        ∙ sym (ap (λ (o : Option ItemPlan). goal_in (path remote).goal o kind) no_plan) ∙ ap (λ (r : Remote). goal_at (path r) kind) (sym same)
  ]

  abbrev now : Plan
  now = next_plan last goal

  abbrev new : Chain
  new = set_plan old now

  plan_fits : (r : Remote) (p : Plan) → plan_at new r ≡ Some p → PlanFits (new_path r) p
  plan_fits r p is = elim (plan_was old remote last now its refl r p is) [
    | inr other ↦ subst (λ (x : Path). PlanFits x p) (sym (put_other of_remote path remote (record (path remote) { plan = Some (new_plan goal) }) r other.0))
        (st.paths.plans r p other.1)
    | inl this ↦ subst (λ (r : Remote). PlanFits (new_path r) p) (sym this.0) (subst (PlanFits (new_path remote)) (sym this.1)
        (subst (λ (x : Path). PlanFits x now) (sym (put_same of_remote path remote (record (path remote) { plan = Some (new_plan goal) })))
        (opened refl refl (ap (λ (e : ℕ). e + 1) its_epoch))))
  ]

  listed : (r : Remote) (id : LocalId) → Reserves (new_path r) id → has_remote old.tables r ≡ true
  listed r id has = elim (cases_same of_remote r remote) [
    | inl same ↦ ap (has_remote old.tables) same ∙ known
    | inr ne ↦ st.paths.listed r id (subst (λ (p : Path). Reserves p id) (put_other of_remote path remote (record (path remote) { plan = Some (new_plan goal) }) r ne) has)
  ]

  lasts : (r : Remote) → has_remote old.tables r ≡ true → (p : Plan) × (plan_at new r ≡ Some p)
  lasts r has = elim (plan_set old remote last now its refl r) [
    | inl this ↦ (now, this.1)
    | inr other ↦ let was = st.paths.lasts r has in (was.0, other.1 ∙ was.1)
  ]

  plan_stands : Stands (record g { chain = planned g.chain remote goal }) (view new)
  plan_stands = record {
    good = st.good;
    reaches = reaches_on T g.chain (planned g.chain remote goal) st.reaches step;
    layout = st.layout;
    spelt = st.spelt;
    lengths = st.lengths;
    ports = st.ports;
    sides = st.sides;
    hops = st.hops;
    directs = st.directs;
    unopened = st.unopened;
    places = st.places;
    paths = record {
      opens = λ at name e is. open_by path new_path (kind_at at name) name e.epoch (λ r of. (epochs_stay r (kind_at at name), goals_stay r (kind_at at name)))
          (st.paths.opens at name e is);
      ids = λ kind r. st.paths.ids kind r ∙ sym (goals_stay r kind);
      agree = st.paths.agree;
      plans = plan_fits;
      listed = listed;
      lasts = lasts;
    };
    openings = record {
      aired = st.openings.aired;
      fresh = λ r at name of. let e = epochs_stay r (kind_at at name) in omega (arith, st.openings.fresh r at name of, e);
      uus = st.openings.uus;
      both = st.openings.both;
      on_path = λ r at name of there on. st.openings.on_path r at name of there
          (ap (λ (x : Goal). is_open_on x name) (sym (goals_stay r (kind_at at name))) ∙ on);
      sizes = st.openings.sizes;
      nodes = st.openings.nodes;
    };
    ends = record {
      outgoings = st.ends.outgoings;
      incomings = λ name key i is. let f = st.ends.incomings name key i is in record {
        home = f.home;
        named = f.named;
        row = f.row;
        its_row = f.its_row;
        size = f.size;
        first = f.first;
        fits = f.fits;
        wants = f.wants;
        ready = λ free. same_applied key.remote (sink_kind key.way) ∙ f.ready free;
      };
      sends = st.ends.sends;
      receives = st.ends.receives;
    };
  }

  pub plan_opens : Refines old.tables g (view new)
  plan_opens = record {
    ghost = record g { chain = planned g.chain remote goal };
    goes = one_step T g.chain (planned g.chain remote goal) step;
    given = given_same g.ports;
    stands = plan_stands;
  }

pub plan_refines : (g : Ghost) (old : Chain) → Stands g (view old) → (remote : Remote) (goal : Goal) (events : List Event) (reply : Reply) (new : Chain)
    → Unless (plan_refusal old remote goal) old events reply new (Plans old remote goal events reply new)
    → Refines old.tables g (view new)
plan_refines g old st remote goal events reply new = go (plan_refusal old remote goal) refl
  where
    go : (refusal : Option Reply) → plan_refusal old remote goal ≡ refusal → Unless refusal old events reply new (Plans old remote goal events reply new)
        → Refines old.tables g (view new)
    go (Some r) is does = stays old.tables g (view old) (view new) (ap view does.2) st
    go None is does = subst (λ (c : Chain). Refines old.tables g (view c)) (sym does.is) (plan_opens g old st remote goal does.last does.its is)
