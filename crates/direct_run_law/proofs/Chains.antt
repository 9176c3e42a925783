-- What holds of a chain on direct ports, and what keeps it: a node changes, and all nodes feed.
use Rattle.std.proofs.Common.{◌≡◌, ◌⊎◌, inl, inr, Bool, true, false, List, [], ◌∷◌, map, find, Option, Some, None, unwrap_or, refl, sym, ◌∙◌, ap, subst}
use Rattle.std.proofs.lemmas.Bool.{cases_Bool, cond-true, cond-false, true≢false}
use Rattle.std.proofs.lemmas.Option.{none-some}
use Rattle.link_base.specs.declared.names.Drb.{Drb}
use Rattle.link_base.specs.declared.names.Key.{Key}
use Rattle.link_base.specs.declared.names.PortName.{PortName}
use Rattle.link_base.specs.declared.names.PortName.TheVariants.{Direct}
use Rattle.link_base.specs.declared.names.Remote.{Remote}
use Rattle.link_base.specs.declared.names.Side.{Side}
use Rattle.link_base.specs.declared.names.Side.TheVariants.{Low, High}
use Rattle.link_base.specs.declared.names.Way.TheVariants.{Ul}
use Rattle.bearer_map.specs.Contents.{Contents}
use Rattle.bearer_map.specs.declared.rows.BearerRow.{BearerRow}
use Rattle.rlc_model.specs.Sides.{Entity, across}
use Rattle.node_model.specs.Names.{NodeName, is_node, key_of, owner}
use Rattle.node_model.specs.State.{Node, entity_at, no_node, incoming}
use Rattle.node_model.specs.Feeding.{Feeds}
use Rattle.node_model.proofs.Names.{cases_node, cases_owner, owner_side}
use Rattle.node_model.proofs.Finding.{find_none}
use Rattle.chain_model.specs.State.{Chain, opened, node_at, set_node, entity_on}
use Rattle.chain_model.specs.Carried.{IsRowOf}
use Rattle.chain_model.specs.Steps.{FeedsAll}
use Rattle.chain_model.proofs.Lookups.{cases_found}
use Rattle.chain_law.proofs.Chains.{node_in, node_name, node_set, node_kept}
use Rattle.chain_law.proofs.Nodes.{port_of}
use Rattle.chain_law.proofs.Leaving.{NodeSame}
use Rattle.book_law.proofs.Fed.{feeds_keep}
use Rattle.direct_run_law.proofs.Ends.{Half, sent, heard, half, Both, both_across, IsEnd, end_stays, Goes, goes_nowhere}
use Rattle.direct_run_law.proofs.Feeding.{Reports, MayReport, Fed, feeds_fed, feeds_rests, no_entity}

-- a chain's end of a bearer at a side, where it is open with this entity
abbrev pub half_on : Chain → Remote → Drb → Side → Entity → Half
half_on c remote drb side e = half remote drb side (node_at c (owner side (Direct remote drb))) e

-- the direct port of a bearer of the tables is open at both sides in the first epoch, and both keys fit
pub record Joined (c : Chain) (remote : Remote) (drb : Drb) : Type 0 where
  pub row : BearerRow
  pub its : IsRowOf c.tables (key_of remote drb Ul) row
  pub entity : Side → Entity
  pub is_open : (side : Side) → entity_on c side (Direct remote drb) ≡ Some (entity side)
  pub epoch : (side : Side) → (entity side).epoch ≡ 0
  pub both : (side : Side) → Both remote drb side (half_on c remote drb side (entity side)) (half_on c remote drb (across side) (entity (across side)))

-- a direct port is closed at both sides
abbrev pub IsClosed : Chain → Remote → Drb → Type 0
IsClosed c remote drb = (side : Side) → entity_on c side (Direct remote drb) ≡ None

-- the names of the ports that a node has
abbrev pub ports_of : Node → List PortName
ports_of n = map port_of n.ports

-- what holds of a chain on direct ports: each node has the ports with which it was opened
pub record Holds (c : Chain) : Type 0 where
  pub ends : (x : NodeName) → IsEnd (node_at c x)
  pub ports : (x : NodeName) → ports_of (node_at c x) ≡ ports_of (node_at (opened c.tables) x)
  pub each : (remote : Remote) (drb : Drb) → Joined c remote drb ⊎ IsClosed c remote drb

-- what holds of both sides
pub each_side : (P : Side → Type 0) → P Low → P High → (side : Side) → P side
each_side P low high Low = low
each_side P low high High = high

abbrev two : Entity → Entity → Side → Entity
two low high Low = low
two low high High = high

-- from one side
pub joined_from : (c : Chain) (remote : Remote) (drb : Drb) (row : BearerRow) → IsRowOf c.tables (key_of remote drb Ul) row → (side : Side) (e f : Entity)
    → entity_on c side (Direct remote drb) ≡ Some e → entity_on c (across side) (Direct remote drb) ≡ Some f
    → e.epoch ≡ 0 → f.epoch ≡ 0 → Both remote drb side (half_on c remote drb side e) (half_on c remote drb (across side) f) → Joined c remote drb
joined_from c remote drb row its Low e f a b x y both = record {
  row = row;
  its = its;
  entity = two e f;
  is_open = each_side (λ side. entity_on c side (Direct remote drb) ≡ Some (two e f side)) a b;
  epoch = each_side (λ side. (two e f side).epoch ≡ 0) x y;
  both = each_side (λ side. Both remote drb side (half_on c remote drb side (two e f side)) (half_on c remote drb (across side) (two e f (across side)))) both
      (both_across remote drb Low _ _ both);
}
joined_from c remote drb row its High e f a b x y both = record {
  row = row;
  its = its;
  entity = two f e;
  is_open = each_side (λ side. entity_on c side (Direct remote drb) ≡ Some (two f e side)) b a;
  epoch = each_side (λ side. (two f e side).epoch ≡ 0) y x;
  both = each_side (λ side. Both remote drb side (half_on c remote drb side (two f e side)) (half_on c remote drb (across side) (two f e (across side))))
      (both_across remote drb High _ _ both) both;
}

-- nodes stay that were found
module _ (c d : Chain) (tables : d.tables ≡ c.tables) where
  pub joined_same : (remote : Remote) (drb : Drb) → ((side : Side) → node_at d (owner side (Direct remote drb)) ≡ node_at c (owner side (Direct remote drb)))
      → Joined c remote drb → Joined d remote drb
  joined_same remote drb nodes j = record {
    row = j.row;
    its = subst (λ (t : Contents). IsRowOf t (key_of remote drb Ul) j.row) (sym tables) j.its;
    entity = j.entity;
    is_open = λ side. ap (λ (n : Node). entity_at n (Direct remote drb)) (nodes side) ∙ j.is_open side;
    epoch = j.epoch;
    both = λ side.
        subst (λ (n : Node). Both remote drb side (half remote drb side n (j.entity side)) (half_on d remote drb (across side) (j.entity (across side)))) (sym (nodes side))
        (subst (λ (n : Node). Both remote drb side (half_on c remote drb side (j.entity side)) (half remote drb (across side) n (j.entity (across side))))
        (sym (nodes (across side))) (j.both side));
  }

  pub holds_same : ((x : NodeName) → node_at d x ≡ node_at c x) → Holds c → Holds d
  holds_same nodes h = record {
    ends = λ x. subst IsEnd (sym (nodes x)) (h.ends x);
    ports = λ x. ap ports_of (nodes x) ∙ h.ports x ∙ ap (λ (t : Contents). ports_of (node_at (opened t) x)) (sym tables);
    each = λ remote drb. elim (h.each remote drb) [
      | inl j ↦ inl (joined_same remote drb (λ side. nodes (owner side (Direct remote drb))) j)
      | inr none ↦ inr (λ side. ap (λ (n : Node). entity_at n (Direct remote drb)) (nodes (owner side (Direct remote drb))) ∙ none side)
    ];
  }

-- what isn't a node changes
pub holds_beside : (c d : Chain) → d.tables ≡ c.tables → d.nodes ≡ c.nodes → Holds c → Holds d
holds_beside c d tables nodes = holds_same c d tables (λ x. ap (λ (ns : List Node). node_in ns x) nodes)

abbrev is_low : Side → Bool
is_low Low = true
is_low High = false

across_apart : (side : Side) → across side ≡ side → ⊥
across_apart Low e = true≢false (ap is_low (sym e))
across_apart High e = true≢false (ap is_low e)

-- one node changes
module _ (c : Chain) (x : NodeName) (m : Node) (same : NodeSame (node_at c x) m)
    (closed : (remote : Remote) (drb : Drb) (side : Side) → owner side (Direct remote drb) ≡ x → entity_at (node_at c x) (Direct remote drb) ≡ None → entity_at m
    (Direct remote drb) ≡ None)
    (goes : (remote : Remote) (drb : Drb) (side : Side) → owner side (Direct remote drb) ≡ x → (j : Joined c remote drb) → Goes remote drb side
    (half_on c remote drb (across side) (j.entity (across side))) (node_at c x) m) where
  name : m.name ≡ x
  name = same.name ∙ node_name c x

  module _ (h : Holds c) (was : Node) (is : find (λ (n : Node). is_node x n.name) c.nodes ≡ Some was) where
    here : (y : NodeName) → y ≡ x → node_at (set_node c m) y ≡ m
    here y e = ap (node_at (set_node c m)) e ∙ node_set c x m name was is

    ends_set : (y : NodeName) → IsEnd (node_at (set_node c m) y)
    ends_set y = elim (cases_node y x) [
      | inl this ↦ subst IsEnd (sym (here y this)) (end_stays (node_at c x) m same (h.ends x))
      | inr ne ↦ subst IsEnd (sym (node_kept c x m name y ne)) (h.ends y)
    ]

    ports_set : (y : NodeName) → ports_of (node_at (set_node c m) y) ≡ ports_of (node_at (opened c.tables) y)
    ports_set y = elim (cases_node y x) [
      | inl this ↦ ap ports_of (here y this) ∙ same.ports ∙ h.ports x ∙ ap (λ (z : NodeName). ports_of (node_at (opened c.tables) z)) (sym this)
      | inr ne ↦ ap ports_of (node_kept c x m name y ne) ∙ h.ports y
    ]

    module _ (remote : Remote) (drb : Drb) where
      abbrev P : PortName
      P = Direct remote drb

      rests : ((side : Side) → owner side P ≡ x → ⊥) → Joined c remote drb ⊎ IsClosed c remote drb → Joined (set_node c m) remote drb ⊎ IsClosed (set_node c m) remote drb
      rests apart (inl j) = inl (joined_same c (set_node c m) refl remote drb (λ side. node_kept c x m name (owner side P) (apart side)) j)
      rests apart (inr none) = inr (λ side. ap (λ (n : Node). entity_at n P) (node_kept c x m name (owner side P) (apart side)) ∙ none side)

      moves : (side : Side) → owner side P ≡ x → Joined c remote drb ⊎ IsClosed c remote drb → Joined (set_node c m) remote drb ⊎ IsClosed (set_node c m) remote drb
      moves side at (inl j) =
          let g = goes remote drb side at j in
          let f = g.opens (j.entity side) (ap (λ (y : NodeName). entity_at (node_at c y) P) (sym at) ∙ j.is_open side) in
          let mine : node_at (set_node c m) (owner side P) ≡ m = here (owner side P) at in
          let far : node_at (set_node c m) (owner (across side) P) ≡ node_at c (owner (across side) P) = node_kept c x m name (owner (across side) P)
          (λ e. across_apart side (owner_side (across side) side P (e ∙ sym at))) in
          let o : Entity = j.entity (across side) in
          inl (joined_from (set_node c m) remote drb j.row j.its side f.0 o (ap (λ (n : Node). entity_at n P) mine ∙ f.1)
          (ap (λ (n : Node). entity_at n P) far ∙ j.is_open (across side)) (f.2 ∙ j.epoch side) (j.epoch (across side))
          (subst (λ (n : Node). Both remote drb side (half remote drb side n f.0) (half_on (set_node c m) remote drb (across side) o)) (sym mine)
          (subst (λ (n : Node). Both remote drb side (half remote drb side m f.0) (half remote drb (across side) n o)) (sym far)
          (f.3 (subst (λ (y : NodeName). Both remote drb side (half remote drb side (node_at c y) (j.entity side)) (half_on c remote drb (across side) o)) at (j.both side))))))
      moves side at (inr none) = inr (λ s. elim (cases_node (owner s P) x) [
        | inl this ↦ ap (λ (n : Node). entity_at n P) (here (owner s P) this) ∙ closed remote drb s this (ap (λ (y : NodeName). entity_at (node_at c y) P) (sym this) ∙ none s)
        | inr ne ↦ ap (λ (n : Node). entity_at n P) (node_kept c x m name (owner s P) ne) ∙ none s
      ])

      each_set : Joined (set_node c m) remote drb ⊎ IsClosed (set_node c m) remote drb
      each_set = elim (cases_owner x P) [
        | inl s ↦ moves s.0 s.1 (h.each remote drb)
        | inr apart ↦ rests apart (h.each remote drb)
      ]

  pub holds_set : Holds c → Holds (set_node c m)
  holds_set h = elim (cases_found (find (λ (n : Node). is_node x n.name) c.nodes)) [
    | inr none ↦ holds_beside c (set_node c m) refl
        (find_none (λ (n : Node). is_node m.name n.name) m c.nodes (ap (λ (y : NodeName). find (λ (n : Node). is_node y n.name) c.nodes) name ∙ none)) h
    | inl there ↦ record { ends = ends_set h there.0 there.1; ports = ports_set h there.0 there.1; each = each_set h there.0 there.1 }
  ]

-- a node feeds, or there is none
abbrev FedNode : Contents → Node → Node → Type 0
FedNode t n m = ((given : List Key) × Feeds t n given m) ⊎ (m ≡ n)

-- of nodes that feed, the one of a name
fed_in : (k : Key) (t : Contents) (x : NodeName) (ns : List Node) (given : List Key) (ms : List Node) → FeedsAll t ns given ms → FedNode t (node_in ns x) (node_in ms x)
fed_in k t x [] given ms f = inr (ap (λ (l : List Node). node_in l x) f.1)
fed_in k t x (n ∷ ns) given ms (m, rest, first, more, one, others, are, is) = subst (λ (l : List Node). FedNode t (node_in (n ∷ ns) x) (node_in l x)) (sym is)
    (elim (cases_Bool (is_node x n.name)) [
      | inl mine ↦
          let was : node_in (n ∷ ns) x ≡ n = ap (λ (o : Option Node). unwrap_or o (no_node x))
          (cond-true (is_node x n.name) (Some n) (find (λ (y : Node). is_node x y.name) ns) mine) in
          let now : node_in (m ∷ rest) x ≡ m = ap (λ (o : Option Node). unwrap_or o (no_node x))
          (cond-true (is_node x m.name) (Some m) (find (λ (y : Node). is_node x y.name) rest) (ap (is_node x) name ∙ mine)) in
          inl (first, subst (λ (y : Node). Feeds t y first (node_in (m ∷ rest) x)) (sym was) (subst (λ (y : Node). Feeds t n first y) (sym now) one))
      | inr other ↦
          let was : node_in (n ∷ ns) x ≡ node_in ns x = ap (λ (o : Option Node). unwrap_or o (no_node x))
          (cond-false (is_node x n.name) (Some n) (find (λ (y : Node). is_node x y.name) ns) other) in
          let now : node_in (m ∷ rest) x ≡ node_in rest x = ap (λ (o : Option Node). unwrap_or o (no_node x))
          (cond-false (is_node x m.name) (Some m) (find (λ (y : Node). is_node x y.name) rest) (ap (is_node x) name ∙ other)) in
          subst (λ (y : Node). FedNode t y (node_in (m ∷ rest) x)) (sym was) (subst (λ (y : Node). FedNode t (node_in ns x) y) (sym now) (fed_in k t x ns more rest others))
    ])
  where
    name : m.name ≡ n.name
    name = (feeds_keep k t n first m one).name

abbrev any_key : Key
any_key = key_of (record { 0 = 0 }) (record { 0 = 0 }) Ul

-- all nodes feed
module _ (c : Chain) (given : List Key) (nodes : List Node) (f : FeedsAll c.tables c.nodes given nodes) where
  abbrev behind : Chain
  behind = record c { nodes = nodes }

  module _ (remote : Remote) (drb : Drb) where
    fed : (side : Side) (other : Half) → IsEnd (node_at c (owner side (Direct remote drb)))
        → MayReport c.tables remote drb side other (node_at c (owner side (Direct remote drb)))
        → Fed c.tables remote drb side other (node_at c (owner side (Direct remote drb))) (node_at behind (owner side (Direct remote drb)))
    fed side other end reports = elim (fed_in (sent remote drb side) c.tables (owner side (Direct remote drb)) c.nodes given nodes f) [
      | inl x ↦ feeds_fed c.tables remote drb side other (node_at c (owner side (Direct remote drb))) end (sym (node_name c (owner side (Direct remote drb)))) reports x.0
          (node_at behind (owner side (Direct remote drb))) x.1
      | inr is ↦ goes_nowhere remote drb side other (node_at c (owner side (Direct remote drb))) (node_at behind (owner side (Direct remote drb))) is
    ]

    feeds_join : (h : Holds c) (j : Joined c remote drb) → ((side : Side) → Reports (incoming (node_at c (owner side (Direct remote drb))) (heard remote drb side)).receiver)
        → Joined behind remote drb
    feeds_join h j reports =
        let low = fed Low (half_on c remote drb High (j.entity High)) (h.ends (owner Low (Direct remote drb))) (λ e is. reports Low) in
        let e = low.opens (j.entity Low) (j.is_open Low) in
        let high = fed High (half_on behind remote drb Low e.0) (h.ends (owner High (Direct remote drb))) (λ e is. reports High) in
        let g = high.opens (j.entity High) (j.is_open High) in
        joined_from behind remote drb j.row j.its High g.0 e.0 g.1 e.1 (g.2 ∙ j.epoch High) (e.2 ∙ j.epoch Low)
        (g.3 (both_across remote drb Low (half_on behind remote drb Low e.0) (half_on c remote drb High (j.entity High)) (e.3 (j.both Low))))

    feeds_closed : (h : Holds c) → IsClosed c remote drb → IsClosed behind remote drb
    feeds_closed h none side = (fed side (half remote drb side (node_at c (owner side (Direct remote drb))) (no_entity)) (h.ends (owner side (Direct remote drb)))
        (λ e is. absurd (none-some e (sym (none side) ∙ is)))).closed (none side)

  -- each node's end is one still
  end_fed : (h : Holds c) (x : NodeName) → IsEnd (node_at behind x)
  end_fed h x = elim (fed_in any_key c.tables x c.nodes given nodes f) [
    | inl y ↦ end_stays (node_at c x) (node_at behind x) (feeds_rests c.tables (node_at c x) y.0 (node_at behind x) y.1).same (h.ends x)
    | inr is ↦ subst IsEnd (sym is) (h.ends x)
  ]

  ports_fed : (h : Holds c) (x : NodeName) → ports_of (node_at behind x) ≡ ports_of (node_at (opened c.tables) x)
  ports_fed h x = elim (fed_in any_key c.tables x c.nodes given nodes f) [
    | inl y ↦ (feeds_rests c.tables (node_at c x) y.0 (node_at behind x) y.1).same.ports ∙ h.ports x
    | inr is ↦ ap ports_of is ∙ h.ports x
  ]

  -- each receiving side stays
  pub receivers_fed : (x : NodeName) (k : Key) → (incoming (node_at behind x) k).receiver ≡ (incoming (node_at c x) k).receiver
  receivers_fed x k = elim (fed_in k c.tables x c.nodes given nodes f) [
    | inl y ↦ (feeds_rests c.tables (node_at c x) y.0 (node_at behind x) y.1).receivers k
    | inr is ↦ ap (λ (n : Node). (incoming n k).receiver) is
  ]

  pub holds_fed : (h : Holds c)
      → ((remote : Remote) (drb : Drb) → Joined c remote drb → (side : Side) → Reports (incoming (node_at c (owner side (Direct remote drb))) (heard remote drb side)).receiver)
      → Holds behind
  holds_fed h reports = record {
    ends = end_fed h;
    ports = ports_fed h;
    each = λ remote drb. elim (h.each remote drb) [
      | inl j ↦ inl (feeds_join remote drb h j (reports remote drb j))
      | inr none ↦ inr (feeds_closed remote drb h none)
    ];
  }
