-- What the fault of a route says for the items: no remote takes the item.
use Rattle.std.proofs.Common.{◌≡◌, inl, inr, ℕ, ◌+◌, Bool, ◌&&◌, ◌==◌, List, [], ◌∷◌, Option, Some, None, Err, sym, ◌∙◌, ap, subst}
use Rattle.std.specs.List.{Contains, find}
use Rattle.std.proofs.lemmas.Bool.{cases_Bool, and_parts, eqb-true, cond-true, cond-false}
use Rattle.std.proofs.lemmas.Option.{same_Some, none-some}
use Rattle.rlc_law.proofs.Lists.{contains_here, contains_later}
use Rattle.link_base.specs.declared.names.Chan.{Chan}
use Rattle.link_base.specs.declared.names.Drb.{Drb}
use Rattle.link_base.specs.declared.names.LocalId.{LocalId}
use Rattle.link_base.specs.declared.names.Node.{Node as NodeKind}
use Rattle.link_base.specs.declared.names.Node.TheVariants as kinds
use Rattle.link_base.specs.declared.names.Remote.{Remote}
use Rattle.bearer_map.specs.declared.ids.Attachment.{Attachment}
use Rattle.bearer_map.specs.declared.routes.RouteFault.{RouteFault}
use Rattle.bearer_map.specs.declared.routes.RouteFault.TheVariants.{UnknownUe, ForeignUe, UnknownBearer}
use Rattle.bearer_map.specs.declared.rows.MapRow.{MapRow}
use Rattle.bearer_map.specs.Contents.{Contents}
use Rattle.bearer_map.specs.Ids.{IsAttached, attachment}
use Rattle.bearer_map.specs.Routes.{MapsBearer, UpRoute, FromUu, RemoteRoute}
use Rattle.node_model.specs.Names.{AtRelay, is_remote, node_of}
use Rattle.node_model.specs.State.{id_in}
use Rattle.node_model.specs.Tables.{map_row}
use Rattle.node_model.proofs.Finding.{find_passes}
use Rattle.node_model.proofs.Names.{remote_is}
use Rattle.item_law.specs.State.{ToDirect, ToRelay, goal_at}
use Rattle.item_law.proofs.base.Apart.{same_id}
use Rattle.item_law.proofs.base.Nodes.{reserves_at}
use Rattle.item_law.proofs.laws.Identities.{ids_apart}
use Rattle.item_chain.specs.View.{View}
use Rattle.item_chain.specs.Stands.{goal_of, calm, item_tables, Ghost, Stands}

-- what is found is there
pub find_among : {T : Type 0} (test : T → Bool) (xs : List T) (y : T) → find test xs ≡ Some y → Contains xs y
find_among test [] y e = absurd (none-some y e)
find_among test (x ∷ xs) y e = elim (cases_Bool (test x)) [
  | inl m ↦ subst (Contains (x ∷ xs)) (same_Some x y (sym (cond-true (test x) (Some x) (find test xs) m) ∙ e)) (contains_here x xs)
  | inr n ↦ contains_later x xs y (find_among test xs y (sym (cond-false (test x) (Some x) (find test xs) n) ∙ e))
]

attached_in : (xs : List Attachment) (r : Remote) (id : LocalId) → id_in xs r ≡ Some id → Contains xs (attachment r id)
attached_in [] r id e = absurd (none-some id e)
attached_in (a ∷ xs) r id e = elim (cases_Bool (is_remote r a.remote)) [
  | inl m ↦ subst (Contains (a ∷ xs))
      (ap (λ (q : Remote). attachment q a.id) (sym (remote_is r a.remote m)) ∙ ap (attachment r)
      (same_Some a.id id (sym (cond-true (is_remote r a.remote) (Some a.id) (id_in xs r) m) ∙ e)))
      (contains_here a xs)
  | inr n ↦ contains_later a xs (attachment r id) (attached_in xs r id (sym (cond-false (is_remote r a.remote) (Some a.id) (id_in xs r) n) ∙ e))
]

goal_some : (o : Option LocalId) (u : LocalId) → goal_of o ≡ ToRelay u → o ≡ Some u
goal_some None u e = absurd (direct e)
  where
    direct : ToDirect ≡ ToRelay u → ⊥
    direct e = cc
goal_some (Some id) u e = ap (λ (id : LocalId). Some id) (same_id id u e)

-- the row of a bearer is one that maps it
pub maps_bearer : (t : Contents) (r : Remote) (d : Drb) (row : MapRow) (bearer : ℕ) → map_row t r d ≡ Some row → bearer + 1 ≡ d.0 → MapsBearer t.maps r bearer row
maps_bearer t r d row bearer is same =
    let test = λ (row : MapRow). is_remote r row.remote && (d.0 == row.drb.0) in
    let pass = and_parts (is_remote r row.remote) (d.0 == row.drb.0) (find_passes test t.maps row is) in
    record { among = find_among test t.maps row is; of_remote = sym (remote_is r row.remote pass.0); of_bearer = sym (eqb-true d.0 row.drb.0 pass.1) ∙ sym same }

module _ (g : Ghost) (v : View) (st : Stands g v) where
  -- a node attaches what its path says
  pub known : (kind : NodeKind) (q : Remote) (u : LocalId) → goal_at (g.chain.path q) kind ≡ ToRelay u → IsAttached (v.attached (node_of kind q)) q u.0
  known kind q u goal = attached_in (v.attached (node_of kind q)) q u (goal_some (id_in (v.attached (node_of kind q)) q) u (st.paths.ids kind q ∙ goal))

  -- whom a node attaches with an identity
  pub one_remote : (kind : NodeKind) (other k : Remote) (u : LocalId) → IsAttached (v.attached (node_of kind other)) other u.0 → goal_at (g.chain.path k) kind ≡ ToRelay u
      → other ≡ k
  one_remote kind other k u attached goal =
      let has : goal_at (g.chain.path other) kind ≡ ToRelay u = sym (st.paths.ids kind other) ∙ ap goal_of (st.paths.agree (node_of kind other) other u attached) in
      ids_apart (item_tables v.tables) (calm g.chain) st.reaches other k u (reserves_at (g.chain.path other) kind u has) (reserves_at (g.chain.path k) kind u goal)

  -- the relay's way up
  pub no_way_up : (q : Remote) (c : Chan) (u : LocalId) (bearer : ℕ) (d : Drb) (row : MapRow) → bearer + 1 ≡ d.0 → map_row v.tables q d ≡ Some row → row.pc5 ≡ c
      → (fault : RouteFault)
      → UpRoute v.tables.maps (v.attached AtRelay) q c u.0 bearer (Err fault) → goal_at (g.chain.path q) kinds.Relay ≡ ToRelay u → ⊥
  no_way_up q c u bearer d row drb is chan UnknownUe miss goal = miss q (known kinds.Relay q u goal)
  no_way_up q c u bearer d row drb is chan ForeignUe miss goal = miss.2 (one_remote kinds.Relay miss.0 q u miss.1 goal)
  no_way_up q c u bearer d row drb is chan UnknownBearer miss goal = miss.1 row (maps_bearer v.tables q d row bearer is drb) chan

  -- from a Uu port
  pub no_way_over : {A : Type 0} (gives : MapRow → A) (kind : NodeKind) (c : Chan) (u : LocalId) (bearer : ℕ) (d : Drb) (k : Remote) (row : MapRow) → bearer + 1 ≡ d.0
      → map_row v.tables k d ≡ Some row → row.uu ≡ c → (fault : RouteFault)
      → ((q : Remote) → IsAttached (v.attached (node_of kind k)) q u.0 → IsAttached (v.attached (node_of kind q)) q u.0)
      → FromUu gives v.tables.maps (v.attached (node_of kind k)) c u.0 bearer (Err fault)
      → goal_at (g.chain.path k) kind ≡ ToRelay u → ⊥
  no_way_over gives kind c u bearer d k row drb is chan UnknownUe one miss goal = miss k (known kind k u goal)
  no_way_over gives kind c u bearer d k row drb is chan ForeignUe one miss goal = miss
  no_way_over gives kind c u bearer d k row drb is chan UnknownBearer one miss goal =
      let same : miss.0 ≡ k = one_remote kind miss.0 k u (one miss.0 miss.1) goal in
      miss.2 row (subst (λ (q : Remote). MapsBearer v.tables.maps q bearer row) (sym same) (maps_bearer v.tables k d row bearer is drb)) chan

  -- at a remote
  pub no_way_in : (q : Remote) (own : LocalId) (c : Chan) (u : LocalId) (bearer : ℕ) (d : Drb) (row : MapRow) → id_in (v.attached (node_of kinds.Remote q)) q ≡ Some own
      → bearer + 1 ≡ d.0 → map_row v.tables q d ≡ Some row → row.pc5 ≡ c
      → (fault : RouteFault) → RemoteRoute v.tables.maps own.0 q c u.0 bearer (Err fault) → goal_at (g.chain.path q) kinds.Remote ≡ ToRelay u → ⊥
  no_way_in q own c u bearer d row has drb is chan UnknownUe miss goal =
      miss (ap (λ (id : LocalId). id.0) (same_id u own (sym goal ∙ sym (st.paths.ids kinds.Remote q) ∙ ap goal_of has)))
  no_way_in q own c u bearer d row has drb is chan ForeignUe miss goal = miss
  no_way_in q own c u bearer d row has drb is chan UnknownBearer miss goal = miss.1 row (maps_bearer v.tables q d row bearer is drb) chan
