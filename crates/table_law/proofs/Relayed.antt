-- Behind go each bearer of a remote that a node attaches, or of which a plan asks for the relay, is mapped.
use Rattle.std.proofs.Common.{◌≡◌, ◌⊎◌, inl, inr, ℕ, Bool, true, false, cond, not, List, [], ◌∷◌, ◌++◌, length, map, flat_map, find, Option, Some, None, option_map}
use Rattle.std.proofs.Common.{unwrap_or, refl, sym, ◌∙◌, ap, subst, arith}
use Rattle.std.specs.List.{AllByRecursion}
use Rattle.std.proofs.lemmas.Bool.{cases_Bool, cond-true, cond-false, true≢false}
use Rattle.std.proofs.lemmas.Option.{none-some, same_Some}
use Rattle.link_base.specs.declared.names.Goal.{Goal}
use Rattle.link_base.specs.declared.names.Goal.TheVariants.{Direct as ToDirect, Relay as ToRelay}
use Rattle.link_base.specs.declared.names.LocalId.{LocalId}
use Rattle.link_base.specs.declared.names.Node.{Node as NodeKind}
use Rattle.link_base.specs.declared.names.Node.TheVariants as kinds
use Rattle.link_base.specs.declared.names.PortName.TheVariants.{Direct}
use Rattle.link_base.specs.declared.names.Remote.{Remote}
use Rattle.bearer_map.specs.declared.ids.Attachment.{Attachment}
use Rattle.bearer_map.specs.declared.rows.RemoteRow.{RemoteRow}
use Rattle.bearer_map.specs.Contents.{Contents}
use Rattle.bearer_map.specs.Ids.{IsAttached, attachment}
use Rattle.bearer_map.specs.Lines.{begins_direct, has_each_map}
use Rattle.script_text.specs.declared.event.Event.{Event}
use Rattle.script_text.specs.declared.line.Line.{Line}
use Rattle.script_text.specs.declared.line.Line.TheVariants.{Plan as PlanLine, Apply}
use Rattle.script_text.specs.declared.reply.Reply.{Reply}
use Rattle.script_text.specs.declared.reply.Reply.TheVariants.{NoRemote, NoTable}
use Rattle.node_model.specs.Names.{NodeName, is_node, is_remote, node_of}
use Rattle.node_model.specs.Opening.{attachments, new_gnb, new_relay, new_remote}
use Rattle.node_model.specs.State.{Node, no_node}
use Rattle.node_model.specs.Switching.{node_after, node_closed}
use Rattle.node_model.specs.Tables.{has_path, has_remote, settings}
use Rattle.node_model.proofs.Finding.{each_append, each_found, find_map, find_none, find_passes}
use Rattle.node_model.proofs.Names.{cases_node, remote_is, remote_refl}
use Rattle.chain_model.specs.declared.plan.Plan.{Plan}
use Rattle.chain_model.specs.Draining.{Moment}
use Rattle.chain_model.specs.Lines.{Applies, Plans, Unless, apply_refusal, closed, open_refusal, or_else, plan_refusal}
use Rattle.chain_model.specs.Plans.{is_open, marks, next_plan}
use Rattle.chain_model.specs.State.{Chain, first_plan, node_at, opened, plan_at, set_node, set_plan}
use Rattle.chain_model.specs.Steps.{Does}
use Rattle.chain_model.proofs.Lookups.{cases_found}
use Rattle.chain_law.proofs.Chains.{node_kept, node_name, node_set}
use Rattle.chain_law.proofs.Lines.{plan_was}
use Rattle.chain_law.proofs.Members.{IsIn, contained, in_made}
use Rattle.book_law.specs.Past.{Goes, steps, drained, ended, Passes}
use Rattle.book_law.proofs.Tables.{tables_stay}
use Rattle.heard_law.specs.Telling.{is_attached_to, of_remote}
use Rattle.heard_law.proofs.Attached.{of_append, of_own, of_switched}
use Rattle.heard_law.proofs.Knowing.{does_plans}
use Rattle.heard_law.proofs.Standing.{Standing}
use Rattle.heard_law.proofs.Still.{Still, does_still, still_fed}
use Rattle.table_law.proofs.Mapped.{PassesEnd, row_maps}
use Rattle.table_law.proofs.Rows.{all_of, found_in}

-- each bearer of the remote has a map row by its rank
abbrev pub HasMaps : Contents → Remote → Type 0
HasMaps t remote = has_each_map remote t.bearers t.maps ≡ true

-- a node attaches nothing to the remote, unless it is mapped
abbrev pub AttachesMapped : Contents → Remote → Node → Type 0
AttachesMapped t remote n = (of_remote remote n.attached ≡ []) ⊎ HasMaps t remote

-- remotes of which a plan asks for the relay, and those that are attached somewhere, are mapped
pub record AreMapped (t : Contents) (c : Chain) : Type 0 where
  pub plans : (remote : Remote) (plan : Plan) (id : LocalId) → plan_at c remote ≡ Some plan → plan.goal ≡ ToRelay id → HasMaps t remote
  pub attached : (node : NodeName) (remote : Remote) → AttachesMapped t remote (node_at c node)

-- where plans and attachments stay
mapped_beside : (t : Contents) (old new : Chain) → new.plans ≡ old.plans → Still old new → AreMapped t old → AreMapped t new
mapped_beside t old new plans still are = record {
  plans = λ remote plan id its goal. are.plans remote plan id (sym (ap (find (λ (p : Plan). is_remote remote p.remote)) plans) ∙ its) goal;
  attached = λ node remote. elim (are.attached node remote) [
    | inl none ↦ inl (ap (λ (s : Standing). of_remote remote s.attached) (still (Direct remote (record { 0 = 0 })) node) ∙ none)
    | inr maps ↦ inr maps
  ];
}

-- a node that is set, or one as before
node_sets : (Q : Node → Type 0) (c : Chain) (y : NodeName) (m : Node) → m.name ≡ y → Q m → ((x : NodeName) → Q (node_at c x)) → (x : NodeName) → Q (node_at (set_node c m) x)
node_sets Q c y m name is each x = elim (cases_node x y) [
  | inr ne ↦ subst Q (sym (node_kept c y m name x ne)) (each x)
  | inl same ↦ subst (λ (z : NodeName). Q (node_at (set_node c m) z)) (sym same) (elim (cases_found (find (λ (n : Node). is_node y n.name) c.nodes)) [
    | inl there ↦ subst Q (sym (node_set c y m name there.0 there.1)) is
    | inr none ↦ subst (λ (ns : List Node). Q (unwrap_or (find (λ (n : Node). is_node y n.name) ns) (no_node y)))
        (sym (find_none (λ (n : Node). is_node m.name n.name) m c.nodes (ap (λ (z : NodeName). find (λ (n : Node). is_node z n.name) c.nodes) name ∙ none))) (each y)
  ])
]

-- a plan that isn't refused has its path
path_is : (c : Chain) (remote : Remote) (goal : Goal) → plan_refusal c remote goal ≡ None → has_path c.tables remote goal ≡ true
path_is c remote goal = by (has_remote c.tables remote) (open_refusal (plan_at c remote)) (has_path c.tables remote goal) _
  where
    by : (known : Bool) (waits : Option Reply) (path : Bool) (rest : Option Reply) → cond (not known) (Some NoRemote) (or_else waits (cond (not path) (Some NoTable) rest)) ≡ None
        → path ≡ true
    by true None true rest e = refl
    by true None false rest e = absurd (none-some NoTable (sym e))
    by true (Some r) path rest e = absurd (none-some r (sym e))
    by false waits path rest e = absurd (none-some NoRemote (sym e))

relay_path : (t : Contents) (remote : Remote) (goal : Goal) (id : LocalId) → has_path t remote goal ≡ true → goal ≡ ToRelay id → HasMaps t remote
relay_path t remote ToDirect id path is = absurd (true≢false (ap begins_direct is))
relay_path t remote (ToRelay other) id path is = path

marked_remote : (p : Plan) (kind : NodeKind) → (marks p kind).remote ≡ p.remote
marked_remote p kinds.Remote = refl
marked_remote p kinds.Relay = refl
marked_remote p kinds.Gnb = refl

marked_goal : (p : Plan) (kind : NodeKind) → (marks p kind).goal ≡ p.goal
marked_goal p kinds.Remote = refl
marked_goal p kinds.Relay = refl
marked_goal p kinds.Gnb = refl

module _ (t : Contents) where
  -- the attachment of a path over the relay
  attaches_path : (r q : Remote) (goal : Goal) → ((id : LocalId) → goal ≡ ToRelay id → HasMaps t q) → (of_remote r (attachments q goal) ≡ []) ⊎ HasMaps t r
  attaches_path r q ToDirect maps = inl refl
  attaches_path r q (ToRelay id) maps = elim (cases_Bool (is_remote r q)) [
    | inl same ↦ inr (subst (HasMaps t) (sym (remote_is r q same)) (maps id refl))
    | inr apart ↦ inl (of_own r q (ToRelay id) ∙ cond-false (is_remote r q) (attachments r (ToRelay id)) [] apart)
  ]

  module _ (old : Chain) (tables : old.tables ≡ t) (are : AreMapped t old) where
    unless_mapped : (refusal : Option Reply) (own : List Event) (reply : Reply) (new : Chain) (done : Type 0) → (refusal ≡ None → done → AreMapped t new)
        → Unless refusal old own reply new done
        → AreMapped t new
    unless_mapped (Some r) own reply new done does u = subst (AreMapped t) (sym u.2) are
    unless_mapped None own reply new done does u = does refl u

    planned : (remote : Remote) (goal : Goal) (own : List Event) (reply : Reply) (new : Chain) → plan_refusal old remote goal ≡ None → Plans old remote goal own reply new
        → AreMapped t new
    planned remote goal own reply new none p = subst (AreMapped t) (sym p.is) (record {
      plans = λ r plan id its is. elim (plan_was old remote p.last (next_plan p.last goal) p.its refl r plan its) [
        | inl this ↦ subst (HasMaps t) (sym this.0) (subst (λ (s : Contents). HasMaps s remote) tables
            (relay_path old.tables remote goal id (path_is old remote goal none) (sym (ap (λ (q : Plan). q.goal) this.1) ∙ is)))
        | inr other ↦ are.plans r plan id other.1 is
      ];
      attached = are.attached;
    })

    applied : (remote : Remote) (kind : NodeKind) (own : List Event) (reply : Reply) (new : Chain) → Applies old remote kind own reply new → AreMapped t new
    applied remote kind own reply new a = subst (AreMapped t) (sym a.is) (close (is_open (marks a.plan kind)))
      where
        y : NodeName
        y = node_of kind remote

        now : Node
        now = node_after (settings old.tables) remote a.plan.goal a.plan.epoch (node_at old y)

        mid : Chain
        mid = set_plan (set_node old now) (marks a.plan kind)

        maps : (id : LocalId) → a.plan.goal ≡ ToRelay id → HasMaps t remote
        maps id is = are.plans remote a.plan id a.its is

        attached_now : (r : Remote) → AttachesMapped t r now
        attached_now r = elim (cases_Bool (is_remote r remote)) [
          | inl same ↦ elim (attaches_path r remote a.plan.goal maps) [
            | inr has ↦ inr has
            | inl none ↦ inl (of_switched r remote a.plan.goal (node_at old y).attached
                ∙ cond-true (is_remote r remote) (attachments r a.plan.goal) (of_remote r (node_at old y).attached) same
                ∙ sym (cond-true (is_remote r remote) (attachments r a.plan.goal) [] same) ∙ sym (of_own r remote a.plan.goal) ∙ none)
          ]
          | inr apart ↦ elim (are.attached y r) [
            | inr has ↦ inr has
            | inl none ↦ inl (of_switched r remote a.plan.goal (node_at old y).attached
                ∙ cond-false (is_remote r remote) (attachments r a.plan.goal) (of_remote r (node_at old y).attached) apart ∙ none)
          ]
        ]

        marked : AreMapped t mid
        marked = record {
          plans = λ r plan id its is. elim (plan_was (set_node old now) remote a.plan (marks a.plan kind) a.its (marked_remote a.plan kind) r plan its) [
            | inl this ↦ subst (HasMaps t) (sym this.0) (maps id (sym (marked_goal a.plan kind) ∙ sym (ap (λ (q : Plan). q.goal) this.1) ∙ is))
            | inr other ↦ are.plans r plan id other.1 is
          ];
          attached = λ x r. node_sets (AttachesMapped t r) old y now (node_name old y) (attached_now r) (λ x. are.attached x r) x;
        }

        close : (b : Bool) → AreMapped t (closed remote b mid)
        close true = marked
        close false = record {
          plans = marked.plans;
          attached = λ x r. subst (λ (o : Option Node). AttachesMapped t r (unwrap_or o (no_node x)))
              (sym (find_map (node_closed remote) (λ (n : Node). is_node x n.name) mid.nodes)) (learnt x r (find
              (λ (n : Node). is_node x n.name) mid.nodes) (marked.attached x r));
        }
          where
            learnt : (x : NodeName) (r : Remote) (o : Option Node) → AttachesMapped t r (unwrap_or o (no_node x))
                → AttachesMapped t r (unwrap_or (option_map (node_closed remote) o) (no_node x))
            learnt x r None has = has
            learnt x r (Some n) has = has

    does_mapped : (line : Line) (own : List Event) (reply : Reply) (mid : Chain) → Does old line own reply mid → AreMapped t mid
    does_mapped (PlanLine remote goal) own reply mid d = unless_mapped (plan_refusal old remote goal) own reply mid (Plans old remote goal own reply mid)
        (planned remote goal own reply mid) d
    does_mapped (Apply remote kind) own reply mid d = unless_mapped (apply_refusal old remote kind) own reply mid (Applies old remote kind own reply mid)
        (λ none done. applied remote kind own reply mid done) d
    does_mapped line own reply mid d = mapped_beside t old mid (does_plans old mid line own reply refl d) (does_still old mid line own reply refl d) are

  -- the chain that tables open whose end was passed
  module _ (ends : PassesEnd t) where
    rows_attach : (r : Remote) (rows : List RemoteRow) → ((row : RemoteRow) → IsIn rows row → (id : LocalId) → row.goal ≡ ToRelay id → HasMaps t row.remote)
        → (of_remote r (flat_map (λ (row : RemoteRow). attachments row.remote row.goal) rows) ≡ []) ⊎ HasMaps t r
    rows_attach r [] maps = inl refl
    rows_attach r (row ∷ rows) maps = elim (attaches_path r row.remote row.goal (maps row (inl refl))) [
      | inr has ↦ inr has
      | inl none ↦ elim (rows_attach r rows (λ x among. maps x (inr among))) [
        | inr has ↦ inr has
        | inl rest ↦ inl (of_append r (attachments row.remote row.goal) (flat_map (λ (row : RemoteRow). attachments row.remote row.goal) rows)
            ∙ ap (λ (l : List Attachment). l ++ of_remote r (flat_map (λ (row : RemoteRow). attachments row.remote row.goal) rows)) none ∙ rest)
      ]
    ]

    opened_mapped : AreMapped t (opened t)
    opened_mapped = record {
      plans = λ remote plan id its is. by_plan remote plan id is (find (λ (row : RemoteRow). is_remote remote row.remote) t.remotes) refl
          (sym (find_map first_plan (λ (p : Plan). is_remote remote p.remote) t.remotes) ∙ its);
      attached = λ x r. by_node x r (find (λ (n : Node). is_node x n.name) (opened t).nodes) refl;
    }
      where
        by_plan : (remote : Remote) (plan : Plan) (id : LocalId) → plan.goal ≡ ToRelay id → (o : Option RemoteRow)
            → find (λ (row : RemoteRow). is_remote remote row.remote) t.remotes ≡ o
            → option_map first_plan (find (λ (row : RemoteRow). is_remote remote row.remote) t.remotes) ≡ Some plan → HasMaps t remote
        by_plan remote plan id is None found e = absurd (none-some plan (sym (ap (option_map first_plan) found) ∙ e))
        by_plan remote plan id is (Some row) found e =
            let same : first_plan row ≡ plan = same_Some (first_plan row) plan (sym (ap (option_map first_plan) found) ∙ e) in
            subst (HasMaps t) (sym (remote_is remote row.remote (find_passes (λ (row : RemoteRow). is_remote remote row.remote) t.remotes row found)))
            (row_maps t ends row (found_in (λ (row : RemoteRow). is_remote remote row.remote) t.remotes row found) id (ap (λ (p : Plan). p.goal) same ∙ is))

        remote_attaches : (r : Remote) (n : Node) → IsIn (map (new_remote t) t.remotes) n → AttachesMapped t r n
        remote_attaches r n among =
            let made = in_made (new_remote t) t.remotes n among in
            subst (AttachesMapped t r) made.2 (attaches_path r made.0.remote made.0.goal (row_maps t ends made.0 made.1))

        each : (r : Remote) → AllByRecursion (AttachesMapped t r) (opened t).nodes
        each r = each_append (AttachesMapped t r) (map (new_remote t) t.remotes) (new_relay t ∷ new_gnb t ∷ [])
            (all_of (AttachesMapped t r) (map (new_remote t) t.remotes) (remote_attaches r)) (
              rows_attach r t.remotes (row_maps t ends),
              (
                rows_attach r t.remotes
                    (row_maps t ends),
                tt,
              ),
            )

        by_node : (x : NodeName) (r : Remote) (o : Option Node) → find (λ (n : Node). is_node x n.name) (opened t).nodes ≡ o → AttachesMapped t r (unwrap_or o (no_node x))
        by_node x r None found = inl refl
        by_node x r (Some n) found = each_found (AttachesMapped t r) (λ (n : Node). is_node x n.name) (opened t).nodes n (each r) found

    goes_mapped : (old new : Chain) → old.tables ≡ t → (e : _) → Goes old e new → AreMapped t old → AreMapped t new
    goes_mapped old new tables e (steps s) are = subst (AreMapped t) (sym s.is)
        (mapped_beside t s.mid (record s.mid { nodes = s.nodes }) refl (still_fed s.mid s.given s.nodes s.feeds) (does_mapped old tables are e.line s.own e.reply s.mid s.does))
    goes_mapped old new tables e (drained line none is whole) are = subst (AreMapped t) (sym is) are
    goes_mapped old new tables e (ended line none says is) are = subst (AreMapped t) (sym is) are

    -- line by line
    pub passes_mapped : (ms : List Moment) (c : Chain) → Passes t ms c → AreMapped t c
    passes_mapped [] c is = subst (AreMapped t) (sym is) opened_mapped
    passes_mapped (m ∷ ms) c (before, goes) = goes_mapped m.before c (tables_stay t ms m.before before) m.entry goes (passes_mapped ms m.before before)

-- a remote with an attachment has one
pub has_attachment : (r : Remote) (id : ℕ) (xs : List Attachment) → IsAttached xs r id → of_remote r xs ≡ [] → ⊥
has_attachment r id xs is = go xs (contained xs _ is)
  where
    own : is_attached_to r (attachment r (record { 0 = id })) ≡ true
    own = remote_refl r

    some : (x : Attachment) (rest : List Attachment) → x ∷ rest ≡ [] → ⊥
    some x rest e = let long = ap (λ (l : List Attachment). length l) e in omega (arith, long)

    go : (xs : List Attachment) → IsIn xs (attachment r (record { 0 = id })) → of_remote r xs ≡ [] → ⊥
    go [] among none = among
    go (x ∷ xs) (inl same) none = some x (of_remote r xs) (sym (cond-true (is_attached_to r x) (x ∷ of_remote r xs) (of_remote r xs) (ap (is_attached_to r) same ∙ own)) ∙ none)
    go (x ∷ xs) (inr later) none = elim (cases_Bool (is_attached_to r x)) [
      | inl mine ↦ some x (of_remote r xs) (sym (cond-true (is_attached_to r x) (x ∷ of_remote r xs) (of_remote r xs) mine) ∙ none)
      | inr other ↦ go xs later (sym (cond-false (is_attached_to r x) (x ∷ of_remote r xs) (of_remote r xs) other) ∙ none)
    ]
