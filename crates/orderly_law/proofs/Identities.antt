-- No two remotes have one local identity, and a node attaches one to a remote: what keeps that.
use Rattle.std.proofs.Common.{◌≡◌, ◌⊎◌, inl, inr, ℕ, ◌<◌, Bool, true, false, cond, not, ◌&&◌, List, [], ◌∷◌, ◌++◌, map, filter, flat_map, find, Option, Some, None, option_map, refl, sym, ◌∙◌, ap, subst, arith}
use Rattle.std.specs.List.{AllByRecursion, list_any}
use Rattle.std.specs.Option.{unwrap_or}
use Rattle.std.proofs.lemmas.Bool.{eqb-true, eq-eqb, and_parts, and_from, true≢false, false≢true}
use Rattle.std.proofs.lemmas.Option.{none-some, same_Some}
use Rattle.link_base.specs.declared.names.Goal.{Goal}
use Rattle.link_base.specs.declared.names.Goal.TheVariants.{Direct as ToDirect, Relay as ToRelay}
use Rattle.link_base.specs.declared.names.LocalId.{LocalId}
use Rattle.link_base.specs.declared.names.Node.{Node as NodeKind}
use Rattle.link_base.specs.declared.names.Node.TheVariants as kinds
use Rattle.link_base.specs.declared.names.Place.{Place}
use Rattle.link_base.specs.declared.names.Place.TheVariants.{Attached, Planned, Slot, Queue, Uu as UuChan}
use Rattle.link_base.specs.declared.names.Remote.{Remote}
use Rattle.bearer_map.specs.declared.ids.Attachment.{Attachment}
use Rattle.bearer_map.specs.declared.rows.RemoteRow.{RemoteRow}
use Rattle.bearer_map.specs.declared.rows.UuRow.{UuRow}
use Rattle.bearer_map.specs.Contents.{Contents, remote_rank}
use Rattle.bearer_map.specs.Ids.{attachment}
use Rattle.bearer_map.specs.Order.{IsAscending}
use Rattle.script_text.specs.declared.event.Event.{Event}
use Rattle.script_text.specs.declared.reply.Reply.{Reply}
use Rattle.script_text.specs.declared.reply.Reply.TheVariants.{NoRemote, NoTable, IdBusy, NoPlan}
use Rattle.node_model.specs.Names.{NodeName, AtRelay, is_node, is_remote, is_id, node_of}
use Rattle.node_model.specs.Opening.{attachments, new_remote, new_relay, new_gnb}
use Rattle.node_model.specs.State.{PortSide, Node, no_node}
use Rattle.node_model.specs.Switching.{attached_after, node_after}
use Rattle.node_model.specs.Tables.{settings, has_remote, has_path}
use Rattle.node_model.proofs.Finding.{find_map, find_none}
use Rattle.node_model.proofs.Names.{remote_is, remote_refl, cases_node}
use Rattle.chain_model.specs.declared.plan.Plan.{Plan}
use Rattle.chain_model.specs.Plans.{marks, is_open, next_plan, asks_for, plan_asks, is_at, places, busy_place}
use Rattle.chain_model.specs.State.{Chain, first_plan, opened, node_at, set_node, plan_at, set_plan}
use Rattle.chain_model.specs.Lines.{or_else, open_refusal, plan_refusal, Plans, node_refusal, apply_refusal, Applies}
use Rattle.chain_law.proofs.Chains.{node_name, node_set, node_kept}
use Rattle.chain_law.proofs.Lines.{plan_was}
use Rattle.chain_law.proofs.Members.{IsIn, in_two, in_first, in_second, in_picked, in_made, made_in, in_many, none_passes, none_found, one_passes, passes_any}
use Rattle.chain_law.proofs.Tables.{TablesApart}

-- a node attaches a local identity to a remote
abbrev pub Attaches : Chain → NodeName → Remote → LocalId → Type 0
Attaches c x r id = IsIn (node_at c x).attached (attachment r id)

-- a remote reserves a local identity: a node attaches it to the remote, or an open plan of the remote asks for it
pub data Reserves (c : Chain) (r : Remote) (id : LocalId) : Type 0 where
  attached : (x : NodeName) → Attaches c x r id → Reserves c r id
  planned : plan_asks id (plan_at c r) ≡ true → Reserves c r id

-- a node attaches at most one to a remote, no two remotes reserve one, and only remotes of the tables reserve any
pub record IdsFit (c : Chain) : Type 0 where
  pub one : (x : NodeName) (r : Remote) (id other : LocalId) → Attaches c x r id → Attaches c x r other → id ≡ other
  pub apart : (r s : Remote) (id : LocalId) → Reserves c r id → Reserves c s id → r ≡ s
  pub known : (r : Remote) (id : LocalId) → Reserves c r id → has_remote c.tables r ≡ true

-- what is found is in the list
found_in : {T : Type 0} (test : T → Bool) (xs : List T) (y : T) → find test xs ≡ Some y → IsIn xs y
found_in test [] y e = absurd (none-some y e)
found_in {T} test (x ∷ xs) y e = by (found_in test xs y) (test x) e
  where
    by : (find test xs ≡ Some y → IsIn xs y) → (b : Bool) → cond b (Some x) (find test xs) ≡ Some y → IsIn (x ∷ xs) y
    by more true e = inl (same_Some x y e)
    by more false e = inr (more e)

-- a node that attaches something is one of the chain's
attaches_there : (c : Chain) (x : NodeName) (a : Attachment) → IsIn (node_at c x).attached a → IsIn c.nodes (node_at c x)
attaches_there c x a = by (find (λ (n : Node). is_node x n.name) c.nodes) refl
  where
    by : (o : Option Node) → find (λ (n : Node). is_node x n.name) c.nodes ≡ o → IsIn (unwrap_or o (no_node x)).attached a → IsIn c.nodes (unwrap_or o (no_node x))
    by None is i = absurd i
    by (Some n) is i = found_in (λ (n : Node). is_node x n.name) c.nodes n is

-- the identity of a path
abbrev relay_id : LocalId → Goal → LocalId
relay_id id ToDirect = id
relay_id id (ToRelay own) = own

same_relay : (id other : LocalId) (goal : Goal) → goal ≡ ToRelay id → goal ≡ ToRelay other → id ≡ other
same_relay id other goal is its = sym (ap (relay_id id) is) ∙ ap (relay_id id) its

id_is : (a b : LocalId) → is_id a b ≡ true → a ≡ b
id_is a b e = ap (λ (n : ℕ). let i : LocalId = record { 0 = n } in i) (eqb-true a.0 b.0 e)

asks_goal : (id : LocalId) (goal : Goal) → asks_for id goal ≡ true → goal ≡ ToRelay id
asks_goal id ToDirect e = absurd (false≢true e)
asks_goal id (ToRelay other) e = ap (λ (i : LocalId). ToRelay i) (sym (id_is id other e))

goal_asks : (id : LocalId) (goal : Goal) → goal ≡ ToRelay id → asks_for id goal ≡ true
goal_asks id goal is = ap (asks_for id) is ∙ eq-eqb id.0 id.0 refl

-- the attachment of a path
of_path : (q : Remote) (goal : Goal) (r : Remote) (id : LocalId) → IsIn (attachments q goal) (attachment r id) → (q ≡ r) × (goal ≡ ToRelay id)
of_path q ToDirect r id i = absurd i
of_path q (ToRelay own) r id (inl e) = (ap (λ (a : Attachment). a.remote) e, ap (λ (a : Attachment). ToRelay a.id) e)
of_path q (ToRelay own) r id (inr i) = absurd i

-- rows in order of one rank are one
one_row : {T : Type 0} (rank : T → ℕ) (rows : List T) (a b : T) → IsAscending rank rows → IsIn rows a → IsIn rows b → rank a ≡ rank b → a ≡ b
one_row rank [] a b up i j same = absurd i
one_row {T} rank (r ∷ rows) a b up i j same = by (λ i j. one_row rank rows a b up.1 i j same) i j
  where
    later : (rows : List T) (x : T) → AllByRecursion (λ (y : T). rank r < rank y) rows → IsIn rows x → rank r < rank x
    later [] x all i = absurd i
    later (y ∷ ys) x all (inl e) = subst (λ (z : T). rank r < rank z) e all.0
    later (y ∷ ys) x all (inr i) = later ys x all.1 i

    by : (IsIn rows a → IsIn rows b → a ≡ b) → IsIn (r ∷ rows) a → IsIn (r ∷ rows) b → a ≡ b
    by more (inl e) (inl f) = sym e ∙ f
    by more (inl e) (inr j) = let up_b = later rows b up.0 j in let at = ap rank e in absurd (omega (arith, up_b, at, same))
    by more (inr i) (inl f) = let up_a = later rows a up.0 i in let at = ap rank f in absurd (omega (arith, up_a, at, same))
    by more (inr i) (inr j) = more i j

-- the chain that tables open
module _ (t : Contents) (are : TablesApart t) where
  -- what a node attaches is the path of a row
  by_row : (x : NodeName) (r : Remote) (id : LocalId) → Attaches (opened t) x r id → (row : RemoteRow) × IsIn t.remotes row × (row.remote ≡ r) × (row.goal ≡ ToRelay id)
  by_row x r id i = among (in_two (map (new_remote t) t.remotes) (new_relay t ∷ new_gnb t ∷ []) (node_at (opened t) x) (attaches_there (opened t) x (attachment r id) i))
    where
      of_all : IsIn (flat_map (λ (row : RemoteRow). attachments row.remote row.goal) t.remotes) (attachment r id)
          → (row : RemoteRow) × IsIn t.remotes row × (row.remote ≡ r) × (row.goal ≡ ToRelay id)
      of_all i =
          let m = in_many (λ (row : RemoteRow). attachments row.remote row.goal) t.remotes (attachment r id) i in
          let its = of_path m.0.remote m.0.goal r id m.2 in
          (m.0, m.1, its.0, its.1)

      among : IsIn (map (new_remote t) t.remotes) (node_at (opened t) x) ⊎ IsIn (new_relay t ∷ new_gnb t ∷ []) (node_at (opened t) x)
          → (row : RemoteRow) × IsIn t.remotes row × (row.remote ≡ r) × (row.goal ≡ ToRelay id)
      among (inl own) =
          let m = in_made (new_remote t) t.remotes (node_at (opened t) x) own in
          let its = of_path m.0.remote m.0.goal r id (subst (λ (n : Node). IsIn n.attached (attachment r id)) (sym m.2) i) in
          (m.0, m.1, its.0, its.1)
      among (inr (inl e)) = of_all (subst (λ (n : Node). IsIn n.attached (attachment r id)) (sym e) i)
      among (inr (inr (inl e))) = of_all (subst (λ (n : Node). IsIn n.attached (attachment r id)) (sym e) i)
      among (inr (inr (inr i))) = absurd i

  -- no plan is open
  none_planned : (r : Remote) (id : LocalId) → plan_asks id (plan_at (opened t) r) ≡ false
  none_planned r id = ap (plan_asks id) (find_map first_plan (λ (p : Plan). is_remote r p.remote) t.remotes) ∙ by (find (λ (row : RemoteRow). is_remote r row.remote) t.remotes)
    where
      by : (o : Option RemoteRow) → plan_asks id (option_map first_plan o) ≡ false
      by None = refl
      by (Some row) = refl

  reserving : (r : Remote) (id : LocalId) → Reserves (opened t) r id → (row : RemoteRow) × IsIn t.remotes row × (row.remote ≡ r) × (row.goal ≡ ToRelay id)
  reserving r id (attached x a) = by_row x r id a
  reserving r id (planned p) = absurd (true≢false (sym p ∙ none_planned r id))

  pub opened_ids : IdsFit (opened t)
  opened_ids = record {
    one = λ x r id other a b.
        let first = by_row x r id a in
        let second = by_row x r other b in
        let same = one_row remote_rank t.remotes first.0 second.0 are.remotes first.1 second.1 (ap (λ (q : Remote). q.0) (first.2 ∙ sym second.2)) in
        same_relay id other second.0.goal (sym (ap (λ (row : RemoteRow). row.goal) same) ∙ first.3) second.3;
    apart = λ r s id a b. let first = reserving r id a in let second = reserving s id b in
        sym first.2 ∙ are.paths first.0 second.0 id first.1 second.1 first.3 second.3 ∙ second.2;
    known = λ r id a. let its = reserving r id a in
        passes_any (λ (row : RemoteRow). is_remote r row.remote) t.remotes its.0 its.1 (ap (is_remote r) its.2 ∙ remote_refl r);
  }

-- a chain in which no remote reserves what it didn't
ids_from : (old new : Chain) → new.tables ≡ old.tables → ((x : NodeName) (r : Remote) (id other : LocalId) → Attaches new x r id → Attaches new x r other → id ≡ other)
    → ((r : Remote) (id : LocalId) → Reserves new r id → Reserves old r id) → IdsFit old → IdsFit new
ids_from old new tables one was f = record {
  one = one;
  apart = λ r s id a b. f.apart r s id (was r id a) (was s id b);
  known = λ r id a. ap (λ (t : Contents). has_remote t r) tables ∙ f.known r id (was r id a);
}

-- a chain whose nodes attach what they attached, with the same plans
pub ids_stay : (old new : Chain) → new.tables ≡ old.tables → new.plans ≡ old.plans → ((x : NodeName) → (node_at new x).attached ≡ (node_at old x).attached) → IdsFit old → IdsFit new
ids_stay old new tables plans same f = ids_from old new tables (λ x r id other a b. f.one x r id other (back x r id a) (back x r other b)) was f
  where
    back : (x : NodeName) (r : Remote) (id : LocalId) → Attaches new x r id → Attaches old x r id
    back x r id = subst (λ (xs : List Attachment). IsIn xs (attachment r id)) (same x)

    was : (r : Remote) (id : LocalId) → Reserves new r id → Reserves old r id
    was r id (attached x a) = attached x (back x r id a)
    was r id (planned p) = planned (sym (ap (λ (ps : List Plan). plan_asks id (find (λ (p : Plan). is_remote r p.remote) ps)) plans) ∙ p)

-- a refusal that doesn't hold
no_refusal : {T : Type 0} (b : Bool) (x : T) (rest : Option T) → cond (not b) (Some x) rest ≡ None → (b ≡ true) × (rest ≡ None)
no_refusal true x rest e = (refl, e)
no_refusal false x rest e = absurd (none-some x (sym e))

neither : (a b : Option Reply) → or_else a b ≡ None → (a ≡ None) × (b ≡ None)
neither None b e = (refl, e)
neither (Some x) b e = absurd (none-some x (sym e))

none_mapped : {S T : Type 0} (f : S → T) (o : Option S) → option_map f o ≡ None → o ≡ None
none_mapped f None e = refl
none_mapped f (Some x) e = absurd (none-some (f x) (sym e))

-- a plan that isn't refused
module _ (old : Chain) (remote : Remote) (goal : Goal) (fit : IdsFit old) (none : plan_refusal old remote goal ≡ None) where
  there : (has_remote old.tables remote ≡ true)
      × (or_else (open_refusal (plan_at old remote))
      (cond (not (has_path old.tables remote goal)) (Some NoTable) (option_map (λ (place : Place). IdBusy place) (busy_place old goal))) ≡ None)
  there = no_refusal (has_remote old.tables remote) NoRemote _ none

  free : busy_place old goal ≡ None
  free = none_mapped (λ (place : Place). IdBusy place) (busy_place old goal)
      (no_refusal (has_path old.tables remote goal) NoTable _ (neither (open_refusal (plan_at old remote)) _ there.1).1).1

  -- asks for an identity that no remote reserves
  unreserved : (s : Remote) (id : LocalId) → Reserves old s id → asks_for id goal ≡ true → ⊥
  unreserved s id has asks = by has
    where
      nowhere : find (is_at old id) (places old) ≡ None
      nowhere = sym (ap (busy_place old) (asks_goal id goal asks)) ∙ free

      row : (row : RemoteRow) × IsIn old.tables.remotes row × (is_remote s row.remote ≡ true)
      row = one_passes (λ (row : RemoteRow). is_remote s row.remote) old.tables.remotes (fit.known s id has)

      own : s ≡ row.0.remote
      own = remote_is s row.0.remote row.2

      -- remotes are looked at first, for what nodes attach and for plans
      attachings : List Place
      attachings = map (λ (row : RemoteRow). Attached row.remote) old.tables.remotes

      plannings : List Place
      plannings = map (λ (row : RemoteRow). Planned row.remote) old.tables.remotes

      clear : (place : Place) → IsIn (attachings ++ plannings) place → is_at old id place ≡ false
      clear place i = none_found (is_at old id) (places old) place nowhere
          (in_first (attachings ++ plannings ++ slots ++ queues) (map (λ (row : UuRow). UuChan row.chan) old.tables.uus) place
          (in_first (attachings ++ plannings ++ slots) queues place (in_first (attachings ++ plannings) slots place i)))
        where
          slots : List Place
          slots = map (λ (s : PortSide). Slot s.name) (node_at old AtRelay).ports

          queues : List Place
          queues = map (λ (s : PortSide). Queue s.name) (node_at old AtRelay).ports

      by : Reserves old s id → ⊥
      by (attached x a) =
          let none_here = clear (Attached row.0.remote) (in_first attachings plannings (Attached row.0.remote)
          (made_in (λ (row : RemoteRow). Attached row.remote) old.tables.remotes row.0 row.1)) in
          let at_node = none_passes (λ (n : Node). list_any (λ (a : Attachment). is_remote row.0.remote a.remote && is_id id a.id) n.attached) old.nodes (node_at old x) none_here
          (attaches_there old x (attachment s id) a) in
          let at_item = none_passes (λ (a : Attachment). is_remote row.0.remote a.remote && is_id id a.id) (node_at old x).attached (attachment s id) at_node a in
          true≢false (sym (and_from _ _ (ap (is_remote row.0.remote) own ∙ remote_refl row.0.remote) (eq-eqb id.0 id.0 refl)) ∙ at_item)
      by (planned p) =
          let none_here = clear (Planned row.0.remote) (in_second attachings plannings (Planned row.0.remote)
          (made_in (λ (row : RemoteRow). Planned row.remote) old.tables.remotes row.0 row.1)) in
          true≢false (sym p ∙ ap (λ (r : Remote). plan_asks id (plan_at old r)) own ∙ none_here)

  -- and leaves identities apart
  pub plan_ids : (own : List Event) (reply : Reply) (new : Chain) → Plans old remote goal own reply new → IdsFit new
  plan_ids own reply new p = subst IdsFit (sym p.is) (record {
    one = fit.one;
    apart = λ r s id a b. either r s id (was r id a) (was s id b);
    known = λ r id a. elim (was r id a) [
      | inl mine ↦ ap (has_remote old.tables) mine.0 ∙ there.0
      | inr older ↦ fit.known r id older
    ];
  })
    where
      now : Chain
      now = set_plan old (next_plan p.last goal)

      asked : (r : Remote) (id : LocalId) (o : Option Plan) → plan_at now r ≡ o → plan_asks id o ≡ true → ((r ≡ remote) × (asks_for id goal ≡ true)) ⊎ Reserves old r id
      asked r id None is e = absurd (false≢true e)
      asked r id (Some q) is e = elim (plan_was old remote p.last (next_plan p.last goal) p.its refl r q is) [
        | inl mine ↦ inl (mine.0, (and_parts (is_open (next_plan p.last goal)) (asks_for id goal) (sym (ap (λ (q : Plan). plan_asks id (Some q)) mine.1) ∙ e)).1)
        | inr other ↦ inr (planned (ap (plan_asks id) other.1 ∙ e))
      ]

      was : (r : Remote) (id : LocalId) → Reserves now r id → ((r ≡ remote) × (asks_for id goal ≡ true)) ⊎ Reserves old r id
      was r id (attached x a) = inr (attached x a)
      was r id (planned e) = asked r id (plan_at now r) refl e

      either : (r s : Remote) (id : LocalId) → ((r ≡ remote) × (asks_for id goal ≡ true)) ⊎ Reserves old r id → ((s ≡ remote) × (asks_for id goal ≡ true)) ⊎ Reserves old s id
          → r ≡ s
      either r s id (inl a) (inl b) = a.0 ∙ sym b.0
      either r s id (inl a) (inr b) = absurd (unreserved s id b a.1)
      either r s id (inr a) (inl b) = absurd (unreserved r id a b.1)
      either r s id (inr a) (inr b) = fit.apart r s id a b

-- a plan that can be applied is open
open_plan : (c : Chain) (remote : Remote) (kind : NodeKind) (plan : Plan) → plan_at c remote ≡ Some plan → apply_refusal c remote kind ≡ None → is_open plan ≡ true
open_plan c remote kind plan its none =
    (no_refusal (is_open plan) NoPlan _ (sym (ap (λ (o : Option Plan). node_refusal o kind) its) ∙ (no_refusal (has_remote c.tables remote) NoRemote _ none).1)).0

-- a plan that is marked asks for what it asked for
marked_asks : (p : Plan) (kind : NodeKind) (id : LocalId) → plan_asks id (Some (marks p kind)) ≡ true → asks_for id p.goal ≡ true
marked_asks p kinds.Remote id e = (and_parts _ _ e).1
marked_asks p kinds.Relay id e = (and_parts _ _ e).1
marked_asks p kinds.Gnb id e = (and_parts _ _ e).1

marked_remote : (p : Plan) (kind : NodeKind) → (marks p kind).remote ≡ p.remote
marked_remote p kinds.Remote = refl
marked_remote p kinds.Relay = refl
marked_remote p kinds.Gnb = refl

-- a node that is set, or one as before
set_or_kept : (c : Chain) (y : NodeName) (m : Node) → m.name ≡ y → (x : NodeName) → (node_at (set_node c m) x ≡ m) ⊎ (node_at (set_node c m) x ≡ node_at c x)
set_or_kept c y m name x = elim (cases_node x y) [
  | inr ne ↦ inr (node_kept c y m name x ne)
  | inl same ↦ by same (find (λ (n : Node). is_node y n.name) c.nodes) refl
]
  where
    by : x ≡ y → (o : Option Node) → find (λ (n : Node). is_node y n.name) c.nodes ≡ o → (node_at (set_node c m) x ≡ m) ⊎ (node_at (set_node c m) x ≡ node_at c x)
    by same (Some was) is = inl (ap (node_at (set_node c m)) same ∙ node_set c y m name was is)
    by same None is = inr (ap (λ (ns : List Node). unwrap_or (find (λ (n : Node). is_node x n.name) ns) (no_node x))
        (find_none (λ (n : Node). is_node m.name n.name) m c.nodes (ap (λ (z : NodeName). find (λ (n : Node). is_node z n.name) c.nodes) name ∙ is)))

-- what a node attaches that has applied a plan it attached before to another remote, or the plan asks for it
attached_was : (remote : Remote) (goal : Goal) (xs : List Attachment) (r : Remote) (id : LocalId) → IsIn (attached_after remote goal xs) (attachment r id)
    → ((r ≡ remote → ⊥) × IsIn xs (attachment r id)) ⊎ ((r ≡ remote) × (goal ≡ ToRelay id))
attached_was remote goal xs r id i = elim (in_two (filter (λ (a : Attachment). not (is_remote remote a.remote)) xs) (attachments remote goal) (attachment r id) i) [
  | inl kept ↦
      let was = in_picked (λ (a : Attachment). not (is_remote remote a.remote)) xs (attachment r id) kept in
      inl (λ same. false≢true (ap not (sym (remote_refl remote) ∙ ap (is_remote remote) (sym same)) ∙ was.1), was.0)
  | inr own ↦ let its = of_path remote goal r id own in inr (sym its.0, its.1)
]

-- a node applies a plan
module _ (old : Chain) (remote : Remote) (kind : NodeKind) (fit : IdsFit old) (none : apply_refusal old remote kind ≡ None) (own : List Event) (reply : Reply) (new : Chain)
    (a : Applies old remote kind own reply new) where
  abbrev y : NodeName
  y = node_of kind remote

  abbrev now : Node
  now = node_after (settings old.tables) remote a.plan.goal a.plan.epoch (node_at old y)

  abbrev pub applied : Chain
  applied = set_plan (set_node old now) (marks a.plan kind)

  -- what is attached then
  attaches_was : (x : NodeName) (r : Remote) (id : LocalId) → Attaches applied x r id → Attaches old x r id
      ⊎ (((r ≡ remote → ⊥) × Attaches old y r id) ⊎ ((r ≡ remote) × (a.plan.goal ≡ ToRelay id)))
  attaches_was x r id i = elim (set_or_kept old y now (node_name old y) x) [
    | inl set ↦ inr (attached_was remote a.plan.goal (node_at old y).attached r id (subst (λ (n : Node). IsIn n.attached (attachment r id)) set i))
    | inr kept ↦ inl (subst (λ (n : Node). IsIn n.attached (attachment r id)) kept i)
  ]

  one : (x : NodeName) (r : Remote) (id other : LocalId) → Attaches applied x r id → Attaches applied x r other → id ≡ other
  one x r id other i j = elim (set_or_kept old y now (node_name old y) x) [
    | inr kept ↦ fit.one x r id other (subst (λ (n : Node). IsIn n.attached (attachment r id)) kept i) (subst (λ (n : Node). IsIn n.attached (attachment r other)) kept j)
    | inl set ↦ both (attached_was remote a.plan.goal (node_at old y).attached r id (subst (λ (n : Node). IsIn n.attached (attachment r id)) set i))
        (attached_was remote a.plan.goal (node_at old y).attached r other (subst (λ (n : Node). IsIn n.attached (attachment r other)) set j))
  ]
    where
      both : ((r ≡ remote → ⊥) × Attaches old y r id) ⊎ ((r ≡ remote) × (a.plan.goal ≡ ToRelay id))
          → ((r ≡ remote → ⊥) × Attaches old y r other) ⊎ ((r ≡ remote) × (a.plan.goal ≡ ToRelay other)) → id ≡ other
      both (inl p) (inl q) = fit.one y r id other p.1 q.1
      both (inl p) (inr q) = absurd (p.0 q.0)
      both (inr p) (inl q) = absurd (q.0 p.0)
      both (inr p) (inr q) = same_relay id other a.plan.goal p.1 q.1

  -- the plan asked for it
  asked : (r : Remote) (id : LocalId) → r ≡ remote → asks_for id a.plan.goal ≡ true → Reserves old r id
  asked r id same asks = planned (ap (λ (q : Remote). plan_asks id (plan_at old q)) same ∙ ap (plan_asks id) a.its ∙ and_from _ _ (open_plan old remote kind a.plan a.its none) asks)

  was : (r : Remote) (id : LocalId) → Reserves applied r id → Reserves old r id
  was r id (attached x i) = by (attaches_was x r id i)
    where
      by : Attaches old x r id ⊎ (((r ≡ remote → ⊥) × Attaches old y r id) ⊎ ((r ≡ remote) × (a.plan.goal ≡ ToRelay id))) → Reserves old r id
      by (inl i) = attached x i
      by (inr (inl p)) = attached y p.1
      by (inr (inr p)) = asked r id p.0 (goal_asks id a.plan.goal p.1)
  was r id (planned e) = by (plan_at applied r) refl e
    where
      by : (o : Option Plan) → plan_at applied r ≡ o → plan_asks id o ≡ true → Reserves old r id
      by None is e = absurd (false≢true e)
      by (Some q) is e = elim (plan_was (set_node old now) remote a.plan (marks a.plan kind) a.its (marked_remote a.plan kind) r q is) [
        | inl mine ↦ asked r id mine.0 (marked_asks a.plan kind id (sym (ap (λ (q : Plan). plan_asks id (Some q)) mine.1) ∙ e))
        | inr other ↦ planned (ap (plan_asks id) other.1 ∙ e)
      ]

  pub applied_ids : IdsFit applied
  applied_ids = ids_from old applied refl one was fit
