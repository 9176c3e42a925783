-- The first hop of what an end gives: the end has the sending side of its port, which is open in the epoch and on the path of the item.
use Rattle.std.proofs.Common.{◌≡◌, ℕ, ◌==◌, ◌&&◌, List, Option, Some, None, refl, sym, ◌∙◌, ap, subst}
use Rattle.std.specs.Option.{option_map, option_and_then}
use Rattle.std.proofs.lemmas.Bool.{and_parts}
use Rattle.std.proofs.lemmas.Option.{none-some, same_Some}
use Rattle.link_base.specs.declared.names.Drb.{Drb}
use Rattle.link_base.specs.declared.names.Goal.{Goal}
use Rattle.link_base.specs.declared.names.Goal.TheVariants.{Relay as ToRelay}
use Rattle.link_base.specs.declared.names.Key.{Key}
use Rattle.link_base.specs.declared.names.LocalId.{LocalId}
use Rattle.link_base.specs.declared.names.Node.{Node as NodeKind}
use Rattle.link_base.specs.declared.names.PortName.{PortName}
use Rattle.link_base.specs.declared.names.PortName.TheVariants.{Direct, Pc5}
use Rattle.link_base.specs.declared.names.Remote.{Remote}
use Rattle.link_base.specs.declared.names.Side.{Side}
use Rattle.link_base.specs.declared.names.Side.TheVariants.{Low, High}
use Rattle.link_base.specs.declared.names.Way.{Way}
use Rattle.link_base.specs.declared.names.Way.TheVariants.{Ul, Dl}
use Rattle.link_base.specs.declared.rlc_words.Tag.{Tag}
use Rattle.bearer_map.specs.declared.rows.MapRow.{MapRow}
use Rattle.bearer_map.specs.Contents.{Contents}
use Rattle.rlc_model.specs.Sides.{sender_of}
use Rattle.node_model.specs.Names.{NodeName, AtRemote, is_remote, owner, source}
use Rattle.node_model.specs.Feeding.{port_on, GivesPdu}
use Rattle.node_model.specs.State.{Node, side_at, entity_of, id_at}
use Rattle.node_model.specs.Tables.{map_row, relay_port}
use Rattle.node_model.proofs.Finding.{find_passes}
use Rattle.node_model.proofs.Names.{remote_is}
use Rattle.chain_model.specs.State.{Chain, node_at}
use Rattle.chain_model.specs.Told.{kind_of}
use Rattle.item_law.specs.State.{Item, Path, way_of, goal_at, epoch_at}
use Rattle.item_law.specs.State.{source as source_kind}
use Rattle.item_place.specs.Places.{FirstBy}
use Rattle.item_chain.specs.View.{view}
use Rattle.item_chain.specs.Stands.{goal_of, id_of, IsOpenBy, kind_at, Ghost, Stands}

-- the path of an identity has that identity
pub id_back : (o : Option LocalId) → id_of (goal_of o) ≡ o
id_back None = refl
id_back (Some id) = refl

pub mapped : {X Y : Type 0} (f : X → Y) (o : Option X) (y : Y) → option_map f o ≡ Some y → (x : X) × (o ≡ Some x) × (f x ≡ y)
mapped f None y e = absurd (none-some y e)
mapped f (Some x) y e = (x, refl, same_Some (f x) y e)

-- a row of channels is one of its remote
pub row_remote : (t : Contents) (r : Remote) (d : Drb) (row : MapRow) → map_row t r d ≡ Some row → r ≡ row.remote
row_remote t r d row is = remote_is r row.remote (and_parts _ _ (find_passes (λ (row : MapRow). is_remote r row.remote && (d.0 == row.drb.0)) t.maps row is)).0

-- the sending side of a key's first hop is at the end that sends the key
pub first_owner : (t : Contents) (key : Key) (o : Option LocalId) (p : PortName) → port_on t o key ≡ Some p → owner (sender_of key.way) p ≡ source key
first_owner t key None p is = ap (owner (sender_of key.way)) (sym (same_Some (Direct key.remote key.drb) p is))
first_owner t key (Some u) p is = by key.way is
  where
    by : (w : Way) → option_map (relay_port w) (map_row t key.remote key.drb) ≡ Some p → owner (sender_of w) p ≡ owner (sender_of w) (Direct key.remote key.drb)
    by Ul e = let x = mapped (relay_port Ul) (map_row t key.remote key.drb) p e in
        ap (owner Low) (sym x.2) ∙ ap AtRemote (sym (row_remote t key.remote key.drb x.0 x.1))
    by Dl e = let x = mapped (relay_port Dl) (map_row t key.remote key.drb) p e in ap (owner High) (sym x.2)

-- this end is of the kind that sends this way
kind_is : (key : Key) (p : PortName) → owner (sender_of key.way) p ≡ source key → kind_at (sender_of key.way) p ≡ source_kind key.way
kind_is key p own = ap kind_of own ∙ by key.way
  where
    by : (w : Way) → kind_of (owner (sender_of w) (Direct key.remote key.drb)) ≡ source_kind w
    by Ul = refl
    by Dl = refl

module _ (t : Contents) (path : Remote → Path) (i : Item) (key : Key) (remote : i.key.remote ≡ key.remote) (drb : i.key.drb ≡ key.drb)
    (epoch : i.epoch ≡ epoch_at (path key.remote) (source_kind key.way))
    (p : PortName) (e : ℕ) (is_open : IsOpenBy path (source_kind key.way) p e) where
  own_row : (row : MapRow) → map_row t key.remote key.drb ≡ Some row → map_row t i.key.remote i.key.drb ≡ Some row
  own_row row is = ap (λ (r : Remote). map_row t r i.key.drb) remote ∙ ap (map_row t key.remote) drb ∙ is

  over_relay : (w : Way) (u : LocalId) → option_map (relay_port w) (map_row t key.remote key.drb) ≡ Some p → FirstBy t i (ToRelay u) w p e
  over_relay Ul u is =
      let x = mapped (relay_port Ul) (map_row t key.remote key.drb) p is in
      let port : p ≡ Pc5 key.remote x.0.pc5 = sym x.2 ∙ ap (λ (q : Remote). Pc5 q x.0.pc5) (sym (row_remote t key.remote key.drb x.0 x.1)) in (
        x.0,
        own_row x.0 x.1,
        port ∙ ap (λ (q : Remote). Pc5 q x.0.pc5) (sym remote),
        (subst (λ (p : PortName). IsOpenBy path (source_kind key.way) p e) port is_open).0 ∙ sym epoch,
      )
  over_relay Dl u is =
      let x = mapped (relay_port Dl) (map_row t key.remote key.drb) p is in
      (x.0, own_row x.0 x.1, sym x.2, subst (λ (p : PortName). IsOpenBy path (source_kind key.way) p e) (sym x.2) is_open)

  -- the port is that of the item's first hop
  pub first_by : (o : Option LocalId) → port_on t o key ≡ Some p → goal_of o ≡ i.goal → way_of i ≡ key.way → FirstBy t i i.goal (way_of i) p e
  first_by o is goal way = subst (λ (x : Goal). FirstBy t i x (way_of i) p e) goal (subst (λ (w : Way). FirstBy t i (goal_of o) w p e) (sym way) (by o is))
    where
      by : (o : Option LocalId) → port_on t o key ≡ Some p → FirstBy t i (goal_of o) key.way p e
      by None is =
          let port : Direct key.remote key.drb ≡ p = same_Some (Direct key.remote key.drb) p is in (
            sym port ∙ ap (λ (r : Remote). Direct r key.drb) (sym remote) ∙ ap (Direct i.key.remote) (sym drb),
            (subst (λ (p : PortName). IsOpenBy path (source_kind key.way) p e) (sym port) is_open).0 ∙ sym epoch,
          )
      by (Some u) is = over_relay key.way u is

-- a PDU is given by the end that sends a key
module _ (g : Ghost) (c : Chain) (st : Stands g (view c)) (key : Key) (tag : Tag) (pdu : List ℕ) (mid : Node) (x : GivesPdu c.tables (node_at c (source key)) key tag pdu mid) where
  abbrev pub side : Side
  side = sender_of key.way

  pub own : owner side x.port ≡ source key
  own = first_owner c.tables key (id_at (node_at c (source key)) key.remote) x.port x.its_port

  pub here : side_at (node_at c (owner side x.port)) x.port ≡ Some x.side
  here = ap (λ (m : NodeName). side_at (node_at c m) x.port) own ∙ x.its.here

  pub its_open : (view c).entity side x.port ≡ Some x.entity
  its_open = ap (option_and_then entity_of) here ∙ x.its.is_open

  -- the identity that it attaches is that of the path there
  pub its_goal : goal_of (id_at (node_at c (source key)) key.remote) ≡ goal_at (g.chain.path key.remote) (source_kind key.way)
  its_goal = by key.way
    where
      by : (w : Way) → goal_of (id_at (node_at c (owner (sender_of w) (Direct key.remote key.drb))) key.remote) ≡ goal_at (g.chain.path key.remote) (source_kind w)
      by Ul = st.paths.ids (source_kind Ul) key.remote
      by Dl = st.paths.ids (source_kind Dl) key.remote

  pub is_open_by : IsOpenBy g.chain.path (source_kind key.way) x.port x.entity.epoch
  is_open_by = subst (λ (k : NodeKind). IsOpenBy g.chain.path k x.port x.entity.epoch) (kind_is key x.port own) (st.paths.opens side x.port x.entity its_open)
