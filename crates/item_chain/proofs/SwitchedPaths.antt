-- Paths once a node has applied a plan: its sides are open and it attaches as they say, and ports can be opened anew again.
use Rattle.std.proofs.Common.{◌≡◌, ◌⊎◌, inl, inr, ℕ, ◌+◌, ◌≤◌, Bool, true, false, cond, not, List, []}
use Rattle.std.proofs.Common.{◌∷◌, ◌++◌, filter, Option, Some, None, is_some, refl, sym, ◌∙◌, ap, subst, arith}
use Rattle.std.proofs.lemmas.Bool.{cases_Bool, cond-true, cond-false, and_parts, and_from, false≢true, true≢false}
use Rattle.std.proofs.lemmas.Option.{none-some}
use Rattle.link_base.specs.declared.names.Goal.{Goal}
use Rattle.link_base.specs.declared.names.Goal.TheVariants.{Direct as ToDirect, Relay as ToRelay}
use Rattle.link_base.specs.declared.names.LocalId.{LocalId}
use Rattle.link_base.specs.declared.names.Node.{Node as NodeKind}
use Rattle.link_base.specs.declared.names.Node.TheVariants as kinds
use Rattle.link_base.specs.declared.names.PortName.{PortName}
use Rattle.link_base.specs.declared.names.PortName.TheVariants.{Direct, Pc5, Uu}
use Rattle.link_base.specs.declared.names.Remote.{Remote}
use Rattle.link_base.specs.declared.names.Side.{Side}
use Rattle.link_base.specs.declared.names.SnSize.{SnSize}
use Rattle.bearer_map.specs.declared.ids.Attachment.{Attachment}
use Rattle.bearer_map.specs.Ids.{attachment, IsAttached}
use Rattle.rlc_model.specs.Sides.{Entity}
use Rattle.script_text.specs.declared.reply.Reply.TheVariants.{NoRemote, NoPlan, Already}
use Rattle.node_model.specs.Names.{NodeName, is_node, is_of, is_remote, node_of, owner}
use Rattle.node_model.specs.Opening.{attachments}
use Rattle.node_model.specs.State.{id_in}
use Rattle.node_model.specs.Switching.{attached_after}
use Rattle.node_model.specs.Tables.{has_remote, is_open_on}
use Rattle.node_model.proofs.Names.{cases_node, cases_remote, node_is, node_refl, remote_is, remote_refl, remote_apart}
use Rattle.chain_model.specs.declared.plan.Plan.{Plan}
use Rattle.chain_model.specs.Lines.{apply_refusal, node_refusal, closed as closes}
use Rattle.chain_model.specs.Plans.{is_open, marks}
use Rattle.chain_model.specs.Plans.{has_applied as plan_applied}
use Rattle.chain_model.specs.State.{Chain, plan_at, set_node, set_plan}
use Rattle.chain_model.specs.Told.{kind_of}
use Rattle.chain_law.proofs.Applying.{owner_is, kind_is, one_remote, same_remote, not_applied}
use Rattle.chain_law.proofs.Lines.{plan_set, plan_was}
use Rattle.chain_law.proofs.Members.{IsIn, contained, contains, in_two, in_picked}
use Rattle.item_law.specs.State.{Path, applied_at, applied_in, epoch_at, goal_at, is_over_relay, Reserves}
use Rattle.item_law.specs.State.{Plan as ItemPlan}
use Rattle.item_law.specs.Steps.{mark, all_applied}
use Rattle.item_law.proofs.base.Puts.{of_remote, put_same, put_other}
use Rattle.item_chain.specs.View.{view}
use Rattle.item_chain.specs.Stands.{goal_of, id_of, IsOpenBy, kind_at, PlanFits, opened, closed, PathsFit, OpeningsFit, Ghost, Stands}
use Rattle.item_chain.proofs.Plans.{open_by}
use Rattle.item_chain.proofs.Reopened.{is_turned, EntityWas, reopened, kept, epochs_now, ports_now, aired_now}
use Rattle.item_chain.proofs.SwitchedItems.{path_next, next_path, epoch_here, goal_here, epoch_there, goal_there}
use Rattle.item_chain.proofs.SwitchedNodes.{x, applied, new, entity_was, same_size, same_entity, same_unturned, turned_open, same_there, attached_here, attached_there}
use Rattle.chain_model.specs.Places.{find_node}

---- attachments

goal_back : (goal : Goal) → goal_of (id_of goal) ≡ goal
goal_back ToDirect = refl
goal_back (ToRelay id) = refl

module _ (remote : Remote) where
  abbrev others : List Attachment → List Attachment
  others xs = filter (λ (a : Attachment). not (is_remote remote a.remote)) xs

  own_only : (goal : Goal) → id_in (attachments remote goal) remote ≡ id_of goal
  own_only ToDirect = refl
  own_only (ToRelay id) = cond-true (is_remote remote remote) (Some id) None (remote_refl remote)

  none_of : (r : Remote) → (r ≡ remote → ⊥) → (goal : Goal) → id_in (attachments remote goal) r ≡ None
  none_of r ne ToDirect = refl
  none_of r ne (ToRelay id) = cond-false (is_remote r remote) (Some id) None (remote_apart r remote ne)

  -- the remote's identity is the new one, and those of others are as before
  id_own : (goal : Goal) (xs : List Attachment) → id_in (attached_after remote goal xs) remote ≡ id_of goal
  id_own goal [] = own_only goal
  id_own goal (a ∷ xs) = by (id_own goal xs) (is_remote remote a.remote) refl
    where
      by : id_in (others xs ++ attachments remote goal) remote ≡ id_of goal → (b : Bool) → is_remote remote a.remote ≡ b
          → id_in (cond (not b) (a ∷ others xs) (others xs) ++ attachments remote goal) remote ≡ id_of goal
      by rest true is = rest
      by rest false is = cond-false (is_remote remote a.remote) (Some a.id) (id_in (others xs ++ attachments remote goal) remote) is ∙ rest

  id_other : (goal : Goal) (r : Remote) → (r ≡ remote → ⊥) → (xs : List Attachment) → id_in (attached_after remote goal xs) r ≡ id_in xs r
  id_other goal r ne [] = none_of r ne goal
  id_other goal r ne (a ∷ xs) = by (id_other goal r ne xs) (is_remote remote a.remote) refl
    where
      by : id_in (others xs ++ attachments remote goal) r ≡ id_in xs r → (b : Bool) → is_remote remote a.remote ≡ b
          → id_in (cond (not b) (a ∷ others xs) (others xs) ++ attachments remote goal) r ≡ id_in (a ∷ xs) r
      by rest true is = rest ∙ sym (cond-false (is_remote r a.remote) (Some a.id) (id_in xs r)
          (remote_apart r a.remote (λ same. ne (same ∙ sym (remote_is remote a.remote is)))))
      by rest false is = ap (cond (is_remote r a.remote) (Some a.id)) rest

  own_goal : (goal : Goal) (r : Remote) (id : LocalId) → IsIn (attachments remote goal) (attachment r id) → (r ≡ remote) × (id_of goal ≡ Some id)
  own_goal ToDirect r id i = absurd i
  own_goal (ToRelay u) r id (inl e) = (ap (λ (a : Attachment). a.remote) (sym e), ap (λ (a : Attachment). Some a.id) e)
  own_goal (ToRelay u) r id (inr i) = absurd i

  -- what is attached then is the remote's own, or was attached
  attached_was : (goal : Goal) (xs : List Attachment) (r : Remote) (id : LocalId) → IsAttached (attached_after remote goal xs) r id.0
      → ((r ≡ remote) × (id_of goal ≡ Some id)) ⊎ ((r ≡ remote → ⊥) × IsAttached xs r id.0)
  attached_was goal xs r id is = elim (in_two (others xs) (attachments remote goal) (attachment r id) (contained (attached_after remote goal xs) (attachment r id) is)) [
    | inr own ↦ inl (own_goal goal r id own)
    | inl old ↦
        let was = in_picked (λ (a : Attachment). not (is_remote remote a.remote)) xs (attachment r id) old in
        inr (λ same. false≢true (ap not (sym (remote_refl remote) ∙ ap (is_remote remote) (sym same)) ∙ was.1), contains xs (attachment r id) was.0)
  ]

---- the plan that is applied

not_back : (a b : Bool) → not a ≡ b → a ≡ not b
not_back true b e = ap not e
not_back false b e = ap not e

-- a plan as the items have it
abbrev pub item_plan : Plan → ItemPlan
item_plan p = record { asks = p.goal; at_remote = p.at_remote; at_relay = p.at_relay; at_gnb = p.at_gnb }

module _ (g : Ghost) (old : Chain) (st : Stands g (view old)) (remote : Remote) (kind : NodeKind) (plan : Plan) (its : plan_at old remote ≡ Some plan)
    (none : apply_refusal old remote kind ≡ None) (still : Bool) (is_still : is_open (marks plan kind) ≡ still) where
  abbrev pub path : Remote → Path
  path = g.chain.path

  abbrev pub p : ItemPlan
  p = item_plan plan

  may : (has_remote old.tables remote ≡ true) × (is_open plan ≡ true)
  may = first (has_remote old.tables remote) none
    where
      second : (b : Bool) (a : Bool) → cond (not b) (Some NoPlan) (cond a (Some Already) None) ≡ None → b ≡ true
      second true a e = refl
      second false a e = absurd (none-some _ (sym e))

      first : (b : Bool) → cond (not b) (Some NoRemote) (node_refusal (plan_at old remote) kind) ≡ None → (b ≡ true) × (is_open plan ≡ true)
      first true e = (refl, second (is_open plan) (plan_applied plan kind) (ap (λ (o : Option Plan). node_refusal o kind) (sym its) ∙ e))
      first false e = absurd (none-some _ (sym e))

  pub known : has_remote old.tables remote ≡ true
  known = may.0

  pub there : is_some (find_node old (node_of kind remote)) ≡ true
  there = st.openings.nodes remote known kind

  fits : ((path remote).plan ≡ Some p) × ((path remote).epoch + 1 ≡ plan.epoch)
  fits = by (st.paths.plans remote plan its)
    where
      by : PlanFits (path remote) plan → ((path remote).plan ≡ Some p) × ((path remote).epoch + 1 ≡ plan.epoch)
      by (opened still asks epoch) = (asks, epoch)
      by (closed shut none epoch goal) = absurd (true≢false (sym may.1 ∙ shut))

  pub plan_is : (path remote).plan ≡ Some p
  plan_is = fits.0

  pub epoch_is : (path remote).epoch + 1 ≡ plan.epoch
  epoch_is = fits.1

  pub not_yet : applied_at p kind ≡ false
  not_yet = by kind (not_applied old remote kind plan its none)
    where
      by : (kind : NodeKind) → plan_applied plan kind ≡ false → applied_at p kind ≡ false
      by kinds.Remote e = e
      by kinds.Relay e = e
      by kinds.Gnb e = e

  pub all_is : all_applied (mark p kind) ≡ not still
  all_is = by kind is_still
    where
      by : (kind : NodeKind) → is_open (marks plan kind) ≡ still → all_applied (mark p kind) ≡ not still
      by kinds.Remote e = not_back _ still e
      by kinds.Relay e = not_back _ still e
      by kinds.Gnb e = not_back _ still e

  abbrev pub new_path : Remote → Path
  new_path = next_path g.chain remote p (not still) kind

  abbrev own_path : Path
  own_path = path_next (not still) (path remote) p kind

  pub path_own : new_path remote ≡ own_path
  path_own = put_same of_remote path remote own_path

  pub path_other : (r : Remote) → (r ≡ remote → ⊥) → new_path r ≡ path r
  path_other r ne = put_other of_remote path remote own_path r ne

  abbrev c : Chain
  c = new old remote kind plan there still

  abbrev y : NodeName
  y = node_of kind remote

  at_here : (epoch_at (new_path remote) kind ≡ plan.epoch) × (goal_at (new_path remote) kind ≡ plan.goal)
  at_here = (
    ap (λ (x : Path). epoch_at x kind) path_own ∙ epoch_here (path remote) p plan_is kind (not still) ∙ epoch_is,
    ap (λ (x : Path). goal_at x kind) path_own ∙ goal_here (path remote) p plan_is kind (not still),
  )

  at_there : (r : Remote) (k : NodeKind) → ((r ≡ remote) × (k ≡ kind) → ⊥) → (epoch_at (new_path r) k ≡ epoch_at (path r) k) × (goal_at (new_path r) k ≡ goal_at (path r) k)
  at_there r k ne = elim (cases_remote r remote) [
    | inr other ↦ (ap (λ (x : Path). epoch_at x k) (path_other r other), ap (λ (x : Path). goal_at x k) (path_other r other))
    | inl same ↦ (
      ap (λ (r : Remote). epoch_at (new_path r) k) same ∙ ap (λ (x : Path). epoch_at x k) path_own
          ∙ epoch_there (path remote) p plan_is kind k (λ e. ne (same, e)) (not still) all_is ∙ ap (λ (r : Remote). epoch_at (path r) k) (sym same),
      ap (λ (r : Remote). goal_at (new_path r) k) same ∙ ap (λ (x : Path). goal_at x k) path_own
          ∙ goal_there (path remote) p plan_is kind k (λ e. ne (same, e)) (not still) all_is ∙ ap (λ (r : Remote). goal_at (path r) k) (sym same),
    )
  ]

  -- a side is turned where it is one of the remote's ports at the kind that applies, and only there
  turned_kind : (at : Side) (name : PortName) → is_turned remote y at name ≡ true → (is_of remote name ≡ true) × (kind_at at name ≡ kind)
  turned_kind at name turned =
      let both = and_parts _ _ turned in
      (both.0, ap kind_of (sym (node_is y (owner at name) both.1)) ∙ kind_is kind remote)

  not_turned : (at : Side) (name : PortName) → is_turned remote y at name ≡ false → (r : Remote) → is_of r name ≡ true → (r ≡ remote) × (kind_at at name ≡ kind) → ⊥
  not_turned at name other r of same =
      let own : is_of remote name ≡ true = ap (λ (r : Remote). is_of r name) (sym same.0) ∙ of in
      let there : owner at name ≡ y = owner_is remote at name own ∙ ap (λ (k : NodeKind). node_of k remote) same.1 in
      true≢false (sym (and_from _ _ own (ap (is_node y) there ∙ node_refl y)) ∙ other)

  pub late : (at : Side) (name : PortName) → is_turned remote y at name ≡ true → g.epochs at name ≤ plan.epoch
  late at name turned =
      let k = turned_kind at name turned in
      let was = st.openings.fresh remote at name k.0 in
      let low : epoch_at (path remote) (kind_at at name) ≡ (path remote).epoch =
      ap (epoch_at (path remote)) k.1 ∙ ap (λ (o : Option ItemPlan). cond (applied_in o kind) ((path remote).epoch + 1) (path remote).epoch) plan_is
      ∙ cond-false (applied_at p kind) ((path remote).epoch + 1) (path remote).epoch not_yet in
      omega (arith, was, low, epoch_is)

  reopened_by : (name : PortName) (k : NodeKind) (f : ℕ) → is_of remote name ≡ true → k ≡ kind → f ≡ plan.epoch → is_open_on plan.goal name ≡ true → IsOpenBy new_path k name f
  reopened_by (Direct r d) k f of same at on =
      let its_remote : r ≡ remote = sym (remote_is remote r of) in (
        at ∙ sym at_here.0 ∙ ap (λ (r : Remote). epoch_at (new_path r) kind) (sym its_remote) ∙ ap (epoch_at (new_path r)) (sym same),
        ap (goal_at (new_path r)) same ∙ ap (λ (r : Remote). goal_at (new_path r) kind) its_remote ∙ at_here.1 ∙ direct_goal plan.goal on,
      )
    where
      direct_goal : (goal : Goal) → is_open_on goal (Direct r d) ≡ true → goal ≡ ToDirect
      direct_goal ToDirect e = refl
      direct_goal (ToRelay id) e = absurd (false≢true e)
  reopened_by (Pc5 r ch) k f of same at on =
      let its_remote : r ≡ remote = sym (remote_is remote r of) in (
        at ∙ sym at_here.0 ∙ ap (λ (r : Remote). epoch_at (new_path r) kind) (sym its_remote) ∙ ap (epoch_at (new_path r)) (sym same),
        ap (λ (k : NodeKind). is_over_relay (goal_at (new_path r) k)) same ∙ ap (λ (r : Remote). is_over_relay (goal_at (new_path r) kind)) its_remote
            ∙ ap is_over_relay at_here.1 ∙ relay_goal plan.goal on,
      )
    where
      relay_goal : (goal : Goal) → is_open_on goal (Pc5 r ch) ≡ true → is_over_relay goal ≡ true
      relay_goal ToDirect e = absurd (false≢true e)
      relay_goal (ToRelay id) e = refl
  reopened_by (Uu ch) k f of same at on = absurd (false≢true of)

  pub was : (at : Side) (name : PortName) (e : Entity) → (view c).entity at name ≡ Some e
      → EntityWas g (view old) st remote y plan.epoch (is_open_on plan.goal) (view c).entity at name e
  was = entity_was old remote kind plan there still g st

  opens : (at : Side) (name : PortName) (e : Entity) → EntityWas g (view old) st remote y plan.epoch (is_open_on plan.goal) (view c).entity at name e
      → IsOpenBy new_path (kind_at at name) name e.epoch
  opens at name e (kept other is) = open_by path new_path (kind_at at name) name e.epoch (λ r of. at_there r (kind_at at name) (not_turned at name other r of))
      (st.paths.opens at name e is)
  opens at name e (reopened turned on is) =
      let k = turned_kind at name turned in
      reopened_by name (kind_at at name) e.epoch k.0 k.1 (ap (λ (e : Entity). e.epoch) is) on

  ids : (k : NodeKind) (r : Remote) → goal_of (id_in ((view c).attached (node_of k r)) r) ≡ goal_at (new_path r) k
  ids k r = elim (cases_node (node_of k r) y) [
    | inr ne ↦ ap (λ (a : List Attachment). goal_of (id_in a r)) (attached_there old remote kind plan there still (node_of k r) ne) ∙ st.paths.ids k r
        ∙ sym (at_there r k (λ same. ne (ap (node_of k) same.0 ∙ ap (λ (k : NodeKind). node_of k remote) same.1))).1
    | inl here ↦ ap (λ (a : List Attachment). goal_of (id_in a r)) (attached_here old remote kind plan there still (node_of k r) here) ∙ elim (cases_remote r remote) [
      | inr other ↦ ap goal_of (id_other remote plan.goal r other ((view old).attached (node_of k r))) ∙ st.paths.ids k r ∙ sym (at_there r k (λ same. other same.0)).1
      | inl same ↦
          let its_kind : k ≡ kind = sym (kind_is k r) ∙ ap kind_of here ∙ kind_is kind remote in
          ap (λ (r : Remote). goal_of (id_in (attached_after remote plan.goal ((view old).attached (node_of k r))) r)) same
          ∙ ap goal_of (id_own remote plan.goal ((view old).attached (node_of k remote))) ∙ goal_back plan.goal
          ∙ sym at_here.1 ∙ ap (goal_at (new_path remote)) (sym its_kind) ∙ ap (λ (r : Remote). goal_at (new_path r) k) (sym same)
    ]
  ]

  agree : (name : NodeName) (r : Remote) (id : LocalId) → IsAttached ((view c).attached name) r id.0 → id_in ((view c).attached name) r ≡ Some id
  agree name r id is = elim (cases_node name y) [
    | inr ne ↦
        let same = attached_there old remote kind plan there still name ne in
        ap (λ (a : List Attachment). id_in a r) same ∙ st.paths.agree name r id (subst (λ (a : List Attachment). IsAttached a r id.0) same is)
    | inl here ↦
        let same = attached_here old remote kind plan there still name here in
        let xs : List Attachment = (view old).attached name in
        ap (λ (a : List Attachment). id_in a r) same
        ∙ elim (attached_was remote plan.goal xs r id (subst (λ (a : List Attachment). IsAttached a r id.0) same is)) [
          | inl own ↦ ap (id_in (attached_after remote plan.goal xs)) own.0 ∙ id_own remote plan.goal xs ∙ own.1
          | inr other ↦ id_other remote plan.goal r other.0 xs ∙ st.paths.agree name r id other.1
        ]
  ]

  ---- plans

  abbrev set : Chain
  set = set_plan (set_node old (applied old remote kind plan there still)) (marks plan kind)

  same_plan : (r : Remote) → (view c).plan r ≡ plan_at set r
  same_plan r = by still
    where
      by : (b : Bool) → plan_at (closes remote b set) r ≡ plan_at set r
      by true = refl
      by false = refl

  own_fits : PlanFits (new_path remote) (marks plan kind)
  own_fits = subst (λ (x : Path). PlanFits x (marks plan kind)) (sym path_own) (by still kind is_still)
    where
      by : (b : Bool) (kind : NodeKind) → is_open (marks plan kind) ≡ b → PlanFits (path_next (not b) (path remote) p kind) (marks plan kind)
      by true kinds.Remote is = opened is refl epoch_is
      by true kinds.Relay is = opened is refl epoch_is
      by true kinds.Gnb is = opened is refl epoch_is
      by false kinds.Remote is = closed is refl epoch_is refl
      by false kinds.Relay is = closed is refl epoch_is refl
      by false kinds.Gnb is = closed is refl epoch_is refl

  plans : (r : Remote) (q : Plan) → (view c).plan r ≡ Some q → PlanFits (new_path r) q
  plans r q is = elim (plan_was (set_node old (applied old remote kind plan there still)) remote plan (marks plan kind) its (same_remote plan kind) r q (sym (same_plan r) ∙ is)) [
    | inr other ↦ subst (λ (x : Path). PlanFits x q) (sym (path_other r other.0)) (st.paths.plans r q other.1)
    | inl this ↦ subst (λ (r : Remote). PlanFits (new_path r) q) (sym this.0) (subst (PlanFits (new_path remote)) (sym this.1) own_fits)
  ]

  listed : (r : Remote) (id : LocalId) → Reserves (new_path r) id → has_remote old.tables r ≡ true
  listed r id has = elim (cases_remote r remote) [
    | inl same ↦ ap (has_remote old.tables) same ∙ known
    | inr other ↦ st.paths.listed r id (subst (λ (x : Path). Reserves x id) (path_other r other) has)
  ]

  lasts : (r : Remote) → has_remote old.tables r ≡ true → (q : Plan) × ((view c).plan r ≡ Some q)
  lasts r has = elim (plan_set (set_node old (applied old remote kind plan there still)) remote plan (marks plan kind) its (same_remote plan kind) r) [
    | inl this ↦ (marks plan kind, same_plan r ∙ this.1)
    | inr other ↦ let last = st.paths.lasts r has in (last.0, same_plan r ∙ other.1 ∙ last.1)
  ]

  pub paths_fit : PathsFit old.tables new_path (view c).entity (view c).attached (view c).plan
  paths_fit = record { opens = λ at name e is. opens at name e (was at name e is); ids = ids; agree = agree; plans = plans; listed = listed; lasts = lasts }

  ---- openings

  fresh : (r : Remote) (at : Side) (name : PortName) → is_of r name ≡ true
      → epochs_now g (view old) st remote y plan.epoch (is_open_on plan.goal) (view c).entity at name ≤ epoch_at (new_path r) (kind_at at name) + 1
  fresh r at name of = elim (cases_Bool (is_turned remote y at name)) [
    | inr other ↦
        let same = cond-false (is_turned remote y at name) (plan.epoch + 1) (g.epochs at name) other in
        let stays = (at_there r (kind_at at name) (not_turned at name other r of)).0 in
        omega (arith, same, stays, st.openings.fresh r at name of)
    | inl turned ↦
        let same = cond-true (is_turned remote y at name) (plan.epoch + 1) (g.epochs at name) turned in
        let k = turned_kind at name turned in
        let its : epoch_at (new_path r) (kind_at at name) ≡ plan.epoch = ap (λ (r : Remote). epoch_at (new_path r) (kind_at at name)) (one_remote r remote name of k.0)
        ∙ ap (epoch_at (new_path remote)) k.1 ∙ at_here.0 in
        omega (arith, same, its)
  ]

  is_sized : (at : Side) (name : PortName) → is_some ((view c).size at name) ≡ is_some ((view old).size at name)
  is_sized at name = ap (λ (o : Option SnSize). is_some o) (same_size old remote kind plan there still at name)

  on_path : (r : Remote) (at : Side) (name : PortName) → is_of r name ≡ true → is_some ((view c).size at name) ≡ true
      → is_open_on (goal_at (new_path r) (kind_at at name)) name ≡ true → is_some ((view c).entity at name) ≡ true
  on_path r at name of sized on = elim (cases_Bool (is_turned remote y at name)) [
    | inr other ↦
        let goal = (at_there r (kind_at at name) (not_turned at name other r of)).1 in
        ap (λ (o : Option Entity). is_some o) (same_unturned old remote kind plan there still at name other)
        ∙ st.openings.on_path r at name of (sym (is_sized at name) ∙ sized) (ap (λ (x : Goal). is_open_on x name) (sym goal) ∙ on)
    | inl turned ↦
        let k = turned_kind at name turned in
        let goal : goal_at (new_path r) (kind_at at name) ≡ plan.goal = ap (λ (r : Remote). goal_at (new_path r) (kind_at at name)) (one_remote r remote name of k.0)
        ∙ ap (goal_at (new_path remote)) k.1 ∙ at_here.1 in
        turned_open old remote kind plan there still at name (sym (node_is y (owner at name) (and_parts _ _ turned).1)) k.0
        (ap (λ (x : Goal). is_open_on x name) (sym goal) ∙ on) sized
  ]

  pub openings_fit : OpeningsFit old.tables new_path (ports_now g (view old) st remote y plan.epoch (is_open_on plan.goal) (view c).entity)
      (epochs_now g (view old) st remote y plan.epoch (is_open_on plan.goal) (view c).entity) old.air (view c).entity (view c).size (view c).there
  openings_fit = record {
    aired = aired_now g (view old) st remote y plan.epoch (is_open_on plan.goal) (view c).entity;
    fresh = fresh;
    uus = λ at chan has. ap (λ (o : Option Entity). is_some o) (same_entity old remote kind plan there still at (Uu chan) refl) ∙ st.openings.uus at chan has;
    both = λ at name has. is_sized at name ∙ st.openings.both at name has;
    on_path = on_path;
    sizes = λ at name s is. st.openings.sizes at name s (sym (same_size old remote kind plan there still at name) ∙ is);
    nodes = λ r has k. same_there old remote kind plan there still (node_of k r) ∙ st.openings.nodes r has k;
  }
