-- While a plan is open, the nodes attach the identity that it asks for to no other remote.
use Rattle.std.proofs.Common.{◌≡◌, inl, inr, true, List, [], ◌∷◌, Some, refl, sym, ◌∙◌, ap, subst}
use Rattle.std.specs.List.{AllByRecursion}
use Rattle.std.proofs.lemmas.Bool.{cases_Bool, cond-false, true≢false}
use Rattle.link_base.specs.declared.names.Goal.{Goal}
use Rattle.link_base.specs.declared.names.Goal.TheVariants.{Relay as ToRelay}
use Rattle.link_base.specs.declared.names.LocalId.{LocalId}
use Rattle.link_base.specs.declared.names.Node.{Node as NodeKind}
use Rattle.link_base.specs.declared.names.Node.TheVariants as kinds
use Rattle.link_base.specs.declared.names.Remote.{Remote}
use Rattle.bearer_map.specs.Contents.{Contents}
use Rattle.bearer_map.specs.Ids.{IsAttached}
use Rattle.script_text.specs.History.{Entry}
use Rattle.node_model.specs.Names.{AtRemote, is_remote, node_of}
use Rattle.node_model.specs.Opening.{attachments}
use Rattle.node_model.proofs.Names.{remote_is}
use Rattle.chain_model.specs.declared.plan.Plan.{Plan}
use Rattle.chain_model.specs.Draining.{Moment}
use Rattle.chain_model.specs.Plans.{is_open}
use Rattle.chain_model.specs.State.{Chain, node_at, opened as opened_of, plan_at}
use Rattle.chain_model.specs.Told.{path_at}
use Rattle.book_law.specs.Past.{Passes, IsDeclaration, AreTables}
use Rattle.heard_law.specs.Laws.{HistoriesTellTheChain}
use Rattle.heard_law.specs.Telling.{has_node, Tells}
use Rattle.heard_law.proofs.Attached.{of_own}
use Rattle.table_law.proofs.Relayed.{has_attachment}
use Rattle.item_law.specs.State.{Reserves}
use Rattle.item_law.proofs.Inductive.{reaches_inv}
use Rattle.item_law.proofs.base.Nodes.{reserves_at}
use Rattle.item_chain.specs.Foundations.{PduLaws}
use Rattle.item_chain.specs.Runs.{PastsStand, AreRunLines}
use Rattle.item_chain.specs.View.{view}
use Rattle.item_chain.specs.Stands.{item_tables, calm, goal_of, PlanFits, opened, closed, TablesGood, Ghost, Stands}
use Rattle.item_run.specs.Foundations.{BookLaws}
use Rattle.item_run.specs.Identities.{PlannedIdsAreOwn}
use Rattle.item_run.proofs.Keeping.{none_open}
use Rattle.item_run.proofs.Runs.{history, past, stands_behind}

-- a remote's own node attaches it alone
own_alone : (h : List Entry) (c : Chain) → Tells h c → (r other : Remote) (id : LocalId) → has_node c.tables (AtRemote r) ≡ true
    → IsAttached (node_at c (AtRemote r)).attached other id.0 → other ≡ r
own_alone h c told r other id there has = elim (cases_Bool (is_remote other r)) [
  | inl same ↦ remote_is other r same
  | inr apart ↦
      let goal : Goal = path_at c.tables kinds.Remote r h in
      absurd (has_attachment other id.0 (node_at c (AtRemote r)).attached has
      (told.attached (AtRemote r) there other ∙ of_own other r goal ∙ cond-false (is_remote other r) (attachments other goal) [] apart))
]

module _ (h : List Entry) (c : Chain) (told : Tells h c) (g : Ghost) (st : Stands g (view c)) where
  -- whose open plan asks for an identity, of that remote it is
  asks : (r : Remote) (plan : Plan) (id : LocalId) → plan_at c r ≡ Some plan → is_open plan ≡ true → plan.goal ≡ ToRelay id → Reserves (g.chain.path r) id
  asks r plan id its is goal = by (st.paths.plans r plan its)
    where
      by : PlanFits (g.chain.path r) plan → Reserves (g.chain.path r) id
      by (opened still planned epoch) = inr (_, planned, goal)
      by (closed shut none epoch its_goal) = absurd (true≢false (sym is ∙ shut))

  -- so is one that the relay or the gNB attaches
  attached_own : (kind : NodeKind) (r other : Remote) (id : LocalId) → node_of kind other ≡ node_of kind r → Reserves (g.chain.path r) id
      → IsAttached (node_at c (node_of kind r)).attached other id.0 → other ≡ r
  attached_own kind r other id one asked has =
      let its : IsAttached (node_at c (node_of kind other)).attached other id.0 = subst (λ n. IsAttached (node_at c n).attached other id.0) (sym one) has in
      (reaches_inv (item_tables c.tables) (calm g.chain) st.reaches).ids.apart other r id
      (reserves_at (g.chain.path other) kind id (sym (st.paths.ids kind other) ∙ ap goal_of (st.paths.agree (node_of kind other) other id its))) asked

  pub planned_own : PlannedIdsAreOwn c
  planned_own r plan id its is goal = by
    where
      asked : Reserves (g.chain.path r) id
      asked = asks r plan id its is goal

      by : (kind : NodeKind) (other : Remote) → IsAttached (node_at c (node_of kind r)).attached other id.0 → other ≡ r
      by kinds.Remote other has = own_alone h c told r other id (st.paths.listed r id asked) has
      by kinds.Relay other has = attached_own kinds.Relay r other id refl asked has
      by kinds.Gnb other has = attached_own kinds.Gnb r other id refl asked has

-- in a chain that tables open no plan is open
pub opened_own : (t : Contents) → PlannedIdsAreOwn (opened_of t)
opened_own t r plan id its is goal kind other has = absurd (true≢false (sym is ∙ none_open t (opened_of t) refl r plan its))

module _ (books : BookLaws) (pasts : PastsStand) (tells : HistoriesTellTheChain) (pdus : PduLaws) (t : Contents) (are : AreTables t) (good : TablesGood t) (declared : List Entry)
    (declare : AllByRecursion IsDeclaration declared) where
  pub planned_behind : (ms : List Moment) (c : Chain) → Passes t ms c → AreRunLines (history books pasts pdus t are good declared declare ms) → PlannedIdsAreOwn c
  planned_behind ms c passes lines =
      let stood = stands_behind books pasts pdus t are good declared declare ms c passes lines in
      let h : List Entry = history books pasts pdus t are good declared declare ms in
      planned_own h c (tells h c (past books pasts pdus t are good declared declare ms c passes)) stood.0 stood.1

  -- before each line
  pub planned_before : (ms : List Moment) (c : Chain) → Passes t ms c → AreRunLines (history books pasts pdus t are good declared declare ms)
      → AllByRecursion (λ (m : Moment). PlannedIdsAreOwn m.before) ms
  planned_before [] c is lines = tt
  planned_before (m ∷ ms) c (before, goes) (run, lines) = (planned_behind ms m.before before lines, planned_before ms m.before before lines)
