-- A pull: the item at the front of a queue goes to the transmitter of the queue's port.
use mathlib.Core.Path.{fun_ext}
use Rattle.std.proofs.Common.{◌≡◌, inl, inr, ℕ, ◌==◌, ◌&&◌, List, [], ◌∷◌, ◌++◌, length, Option, Some, None, refl, sym, ◌∙◌, ap, subst}
use Rattle.std.specs.Option.{unwrap_or, option_map, option_and_then}
use Rattle.std.proofs.lemmas.Bool.{and_parts}
use Rattle.std.proofs.lemmas.Option.{none-some, same_Some}
use Rattle.link_base.specs.declared.names.PortName.{PortName}
use Rattle.link_base.specs.declared.names.PortName.TheVariants.{Pc5}
use Rattle.link_base.specs.declared.names.Remote.{Remote}
use Rattle.link_base.specs.declared.names.Side.{Side}
use Rattle.link_base.specs.declared.names.Side.TheVariants.{Low, High}
use Rattle.link_base.specs.declared.names.Way.{Way}
use Rattle.link_base.specs.declared.names.Way.TheVariants.{Ul, Dl}
use Rattle.link_base.specs.declared.rlc_words.Tag.{Tag}
use Rattle.bearer_map.specs.declared.rows.MapRow.{MapRow}
use Rattle.rlc_model.specs.Sides.{Entity, way_from}
use Rattle.rlc_model.specs.Tx.{Tx, Kept, Gives}
use Rattle.rlc_law.specs.Hop.{Hop, Give}
use Rattle.rlc_law.specs.Ports.{Port, hop_of, IsSide, MovesSide}
use Rattle.rlc_law.proofs.Inductive.{reaches_inv}
use Rattle.rlc_law.proofs.Moving.{give_moves}
use Rattle.script_text.specs.declared.event.Event.{Event}
use Rattle.script_text.specs.declared.reply.Reply.{Reply}
use Rattle.node_model.specs.declared.answers.PullReply.{PullReply}
use Rattle.node_model.specs.declared.answers.PullReply.TheVariants as pulled
use Rattle.node_model.specs.declared.parcel.Parcel.{Parcel}
use Rattle.node_model.specs.Names.{AtRelay, is_port, is_remote, owner}
use Rattle.node_model.specs.State.{PortSide, Node, side_at, slot_of, queue_of, entity_of}
use Rattle.node_model.specs.Tables.{map_row}
use Rattle.node_model.specs.Relaying.{parcel_tag, Pulls, PullsPort}
use Rattle.node_model.proofs.Finding.{find_passes}
use Rattle.node_model.proofs.Names.{remote_is}
use Rattle.chain_model.specs.State.{Chain, node_at, set_node}
use Rattle.chain_model.specs.Lines.{PullsAt}
use Rattle.item_law.specs.State.{Item, Spot, InQueue, OnSecondHop, Arrived, AtRelay as RelayKind, is_number, put, epoch_at}
use Rattle.item_law.specs.State.{Chain as ItemChain}
use Rattle.item_law.specs.Steps.{pull}
use Rattle.item_law.proofs.base.Puts.{put_same, put_other, cases_same}
use Rattle.item_place.specs.Places.{Station, Link, Ingress, Egress, Box, at, moved, SecondBy, IsSpot, second}
use Rattle.item_place.specs.HopFits.{HopFits}
use Rattle.item_place.proofs.Moving.{moves_on, queue_of as spot_in_queue}
use Rattle.item_chain.specs.View.{View, view, is_side, put_at}
use Rattle.item_chain.specs.Stands.{id_of, BearIds, FitsDirect, routed_for, egress_of, IsParcel, RowFits, as_list}
use Rattle.item_chain.specs.Stands.{IsQueued, IsLongEnough, IsOpenBy, kind_at, item_tables, Ghost, Stands, Refines}
use Rattle.item_chain.proofs.Puts.{of_port}
use Rattle.item_chain.proofs.Views.{same_node, relay_set}
use Rattle.item_chain.proofs.Ports.{own, ports_after, sides_after, air_after, unopened_after, hops_after}
use Rattle.item_chain.proofs.Ports.{directs_after, paths_after, openings_after, link_port, link_epoch, given_after}
use Rattle.item_chain.proofs.Quiet.{given_fits}
use Rattle.item_chain.proofs.Rows.{front, row_pop, row_from, row_other, box_to, box_other, parcel_keeps}
use Rattle.item_chain.proofs.Pushes.{egress_is, put_kept, ingress_egress, link_ingress, link_egress}
use Rattle.item_chain.proofs.Tags.{bears_more, direct_spot, standing}
use Rattle.item_chain.proofs.Goings.{stays, one_step, reaches_on}

routed_queue : (to q : Remote) (x : Spot) → x ≡ InQueue to → routed_for x ≡ Some q → to ≡ q
routed_queue to q x is e = same_Some to q (sym (ap routed_for is) ∙ e)

module _ (g : Ghost) (v : View) (st : Stands g v) (side : Side) (port : PortName) (e : Entity) (is_open : v.entity side port ≡ Some e) (x : Parcel) (xs : List Parcel)
    (has : v.queue port ≡ x ∷ xs)
    (tag : Tag) (number : ℕ) (tx : Tx) (gives : Gives e.tx tag x.sdu number tx) where
  abbrev P : Parcel → ℕ → Type 0
  P = IsParcel v.tables g.chain.items g.chain.spot g.spell

  abbrev A : Station
  A = Egress port

  abbrev pub row : RowFits (IsQueued P port) (g.layout.box A) (x ∷ xs)
  row = subst (RowFits (IsQueued P port) (g.layout.box A)) has (st.places.queues port)

  pub its : (n : ℕ) × (at (g.layout.box A) row.from ≡ Some n) × IsQueued P port x n
  its = front (IsQueued P port) (g.layout.box A) x xs row

  abbrev n : ℕ
  n = its.0

  abbrev parcel : P x n
  parcel = its.2.1

  abbrev r : Remote
  r = x.route.key.remote

  abbrev B : Station
  B = Link port (way_from side) e.epoch

  abbrev X : Spot
  X = OnSecondHop r (epoch_at (g.chain.path r) RelayKind)

  abbrev after : ItemChain
  after = record g.chain { spot = put is_number g.chain.spot n X }

  abbrev box : Station → Box
  box = moved g.layout.box A row.from B n

  abbrev Q : Parcel → ℕ → Type 0
  Q = IsParcel v.tables g.chain.items after.spot g.spell

  keeps : (y : Parcel) (l : ℕ) → (l ≡ n → ⊥) → P y l → Q y l
  keeps y l ne w = parcel_keeps v.tables g.chain.items g.chain.spot g.spell n X y l ne w

  at_queue : g.chain.spot n ≡ InQueue r
  at_queue =
      let was = st.layout.stands A row.from n its.1 in
      let to = spot_in_queue v.tables was.0 (g.chain.spot n) port was.2 in
      to.1 ∙ ap InQueue (routed_queue to.0 r (g.chain.spot n) to.1 parcel.routed)

  apart : A ≡ B → ⊥
  apart h = link_egress port port (way_from side) e.epoch (sym h)

  long : IsLongEnough x.sdu
  long = subst IsLongEnough (sym parcel.sdu) (st.lengths n parcel.item parcel.is)

  abbrev port_own : (p : Port) × (g.ports port e.epoch ≡ Some p) × IsSide p side e.tx e.rx
  port_own = own g v st side port e is_open

  abbrev moves : (behind : Port) × MovesSide port_own.0 side (way_from side) (Give tag x.sdu) tx e.rx behind
  moves = give_moves port_own.0 side e.tx e.rx port_own.2 tag x.sdu number tx long.0 long.1 gives

  abbrev queue_after : PortName → List Parcel
  queue_after = put is_port v.queue port xs

  slots : (q : PortName) → RowFits Q (box (Ingress q)) (as_list (v.slot q))
  slots q = row_other g.layout.box A row.from B n apart its.1 st.layout.once P Q keeps (Ingress q) (as_list (v.slot q)) (ingress_egress q port)
      (λ h. link_ingress port q (way_from side) e.epoch (sym h)) (st.places.slots q)

  queues : (q : PortName) → RowFits (IsQueued Q q) (box (Egress q)) (queue_after q)
  queues q = elim (cases_same of_port q port) [
    | inl same ↦ subst (λ (q : PortName). RowFits (IsQueued Q q) (box (Egress q)) (queue_after q)) (sym same)
        (subst (RowFits (IsQueued Q port) (box A)) (sym (put_same of_port v.queue port xs))
        (row_from g.layout.box A row.from B n apart its.1 st.layout.once (IsQueued P port) (IsQueued Q port) (λ y l ne w. (w.0, keeps y l ne w.1)) xs
        (row_pop (IsQueued P port) (g.layout.box A) x xs row)))
    | inr ne ↦ subst (RowFits (IsQueued Q q) (box (Egress q))) (sym (put_other of_port v.queue port xs q ne))
        (row_other g.layout.box A row.from B n apart its.1 st.layout.once (IsQueued P q) (IsQueued Q q) (λ y l ne w. (w.0, keeps y l ne w.1))
        (Egress q) (v.queue q) (λ h. ne (egress_is q port h)) (λ h. link_egress port q (way_from side) e.epoch (sym h)) (st.places.queues q))
  ]

  -- it has not arrived
  not_arrived : g.chain.spot n ≡ Arrived → ⊥
  not_arrived = let was = st.layout.stands A row.from n its.1 in standing v.tables was.0 (g.chain.spot n) A was.2

  abbrev before : Hop
  before = hop_of port_own.0 (way_from side)

  -- the hop has as many SDUs as were given
  as_many : length (g.layout.box B).log ≡ length before.tx.kept
  as_many = (st.hops port e.epoch port_own.0 port_own.1 (way_from side)).long ∙ (reaches_inv before (st.ports.reaches port e.epoch port_own.0 port_own.1 (way_from side))).tx.long

  abbrev new_kept : Kept
  new_kept = record { tag = tag; sdu = x.sdu; flags = []; retx_count = None }

  -- the port is none of a bearer, and a Uu port's tag has the identity
  tags_fit : tag.ue ≡ id_of parcel.item.goal → (w : Way) → SecondBy v.tables parcel.item w r (epoch_at (g.chain.path r) RelayKind) port e.epoch
      → FitsDirect port (way_from side) v.tables g.chain.items after.spot (box B) (hop_of moves.0 (way_from side)).tx
  tags_fit bears Ul by = subst (λ (q : PortName). FitsDirect q (way_from side) v.tables g.chain.items after.spot (box B) (hop_of moves.0 (way_from side)).tx) (sym by.2)
      (subst (λ (b : Box). BearIds g.chain.items b (hop_of moves.0 (way_from side)).tx) (sym (box_to g.layout.box A row.from B n apart))
      (bears_more g.chain.items n parcel.item (g.layout.box B) before.tx (hop_of moves.0 (way_from side)).tx new_kept parcel.is as_many
      (ap (λ (x : Tx). x.kept) (sym moves.1.here.its_tx ∙ gives.is) ∙ ap (λ (x : Tx). x.kept ++ Some new_kept ∷ []) port_own.2.its_tx) bears
      (subst (λ (q : PortName). FitsDirect q (way_from side) v.tables g.chain.items g.chain.spot (g.layout.box B) before.tx) by.2
      (st.directs port e.epoch port_own.0 port_own.1 (way_from side)))))
  tags_fit bears Dl by = subst (λ (q : PortName). FitsDirect q (way_from side) v.tables g.chain.items after.spot (box B) (hop_of moves.0 (way_from side)).tx) (sym by.2) tt

  -- the egress goes in this way, over the port of the item's second hop
  pub pull_items : x.route.key.way ≡ way_from side → tag.ue ≡ id_of parcel.item.goal → SecondBy v.tables parcel.item (way_from side) r (epoch_at
      (g.chain.path r) RelayKind) port e.epoch
      → Refines v.tables g (record v { entity = put_at is_side is_port v.entity side port (Some (record e { tx = tx })); queue = queue_after })
  pull_items way bears goes = record {
    ghost = record g {
      chain = after;
      layout = record g.layout { box = box };
      ports =
          ports_after g v st side port e is_open (way_from side) (Give tag x.sdu) tx e.rx moves.0 moves.1;
    };
    goes = one_step (item_tables v.tables) g.chain after (pull n r at_queue refl);
    given = given_after g v st side port e is_open (way_from side) (Give tag x.sdu) tx e.rx moves.0 moves.1;
    stands = record {
      good = st.good;
      reaches = reaches_on (item_tables v.tables) g.chain after st.reaches (pull n r at_queue refl);
      layout = moves_on v.tables g.layout g.chain.items g.chain.spot st.layout A row.from B n its.1 X (λ i is. here_too i (same_Some parcel.item i (sym parcel.is ∙ is)));
      spelt = st.spelt;
      lengths = st.lengths;
      ports = air_after g v st side port e is_open (way_from side) (Give tag x.sdu) tx e.rx moves.0 moves.1;
      sides = sides_after g v st side port e is_open (way_from side) (Give tag x.sdu) tx e.rx moves.0 moves.1;
      hops = hops_after g v st side port e is_open (way_from side) (Give tag x.sdu) tx e.rx moves.0 moves.1 g.spell box
          (subst (HopFits g.spell (hop_of moves.0 (way_from side))) (sym (box_to g.layout.box A row.from B n apart))
          (given_fits g.spell (hop_of port_own.0 (way_from side)) (hop_of moves.0 (way_from side)) (g.layout.box B) n tag x.sdu moves.1.moves.happens parcel.sdu
          (st.hops port e.epoch port_own.0 port_own.1 (way_from side))))
          (λ q f p is w ne. subst (HopFits g.spell (hop_of p w)) (sym (box_other g.layout.box A row.from B n apart (Link q w f) (link_egress q port w f) ne)) (st.hops q f p is w));
      directs = directs_after g v st side port e is_open (way_from side) (Give tag x.sdu) tx e.rx moves.0 moves.1 g.chain.items after.spot box
          (tags_fit bears (way_from side) goes)
          (λ q f p is w ne. subst (λ (b : Box). FitsDirect q w v.tables g.chain.items after.spot b (hop_of p w).tx)
          (sym (box_other g.layout.box A row.from B n apart (Link q w f) (link_egress q port w f) ne))
          (direct_spot v.tables g.chain.items g.chain.spot w q (g.layout.box (Link q w f)) (hop_of p w).tx n X not_arrived (st.directs q f p is w)));
      unopened = λ q f none w.
          let was = unopened_after g v st side port e is_open (way_from side) (Give tag x.sdu) tx e.rx moves.0 moves.1 q f none in
          ap (λ (b : Box). b.log) (box_other g.layout.box A row.from B n apart (Link q w f) (link_egress q port w f) (λ h. not_here q w f was h)) ∙ st.unopened q f was w;
      places = record { slots = slots; queues = queues; own = st.places.own };
      paths = paths_after g v st side port e is_open (way_from side) (Give tag x.sdu) tx e.rx moves.0 moves.1;
      openings = openings_after g v st side port e is_open (way_from side) (Give tag x.sdu) tx e.rx moves.0 moves.1;
      ends = st.ends;
    };
  }
    where
      here_too : (i : Item) → parcel.item ≡ i → IsSpot v.tables i X B
      here_too i same = subst (λ (i : Item). IsSpot v.tables i X B) same
          (let its_way = parcel.way ∙ way in
          second port e.epoch r (epoch_at (g.chain.path r) RelayKind) (ap (λ (w : Way). Link port w e.epoch) (sym its_way)) refl
          (subst (λ (w : Way). SecondBy v.tables parcel.item w r (epoch_at (g.chain.path r) RelayKind) port e.epoch) (sym its_way) goes))

      not_here : (q : PortName) (w : Way) (f : ℕ) → g.ports q f ≡ None → Link q w f ≡ B → ⊥
      not_here q w f none h = none-some port_own.0
          (sym none ∙ ap (λ (q : PortName). g.ports q f) (link_port q port w (way_from side) f e.epoch h)
          ∙ ap (g.ports port) (link_epoch q port w (way_from side) f e.epoch h) ∙ port_own.1)

module _ (g : Ghost) (old : Chain) (st : Stands g (view old)) (port : PortName) (number : ℕ) (node : Node) (x : Pulls (node_at old AtRelay) port number node) where
  abbrev v : View
  v = view old

  abbrev its_remote : Remote
  its_remote = x.parcel.route.key.remote

  abbrev new_side : PortSide
  new_side = record x.side { entity = Some (record x.entity { tx = x.tx }); queue = x.parcels }

  has : v.queue port ≡ x.parcel ∷ x.parcels
  has = ap (λ (o : Option PortSide). unwrap_or (option_map queue_of o) []) x.its.here ∙ x.waits

  -- the slot of the port stays
  slot_is : put is_port v.slot port x.side.slot ≡ v.slot
  slot_is = fun_ext (λ q. put_kept of_port v.slot port x.side.slot (ap (option_and_then slot_of) x.its.here) q)

  pulled_view : (side : Side) → owner side port ≡ AtRelay
      → view (set_node old node) ≡ record v {
        entity = put_at is_side is_port v.entity side port (Some (record x.entity { tx = x.tx }));
        queue =
            put is_port v.queue port x.parcels;
      }
  pulled_view side relay = ap (λ (n : Node). view (set_node old n)) x.is ∙ relay_set old side port x.side new_side relay x.its.here refl refl
      ∙ ap (λ (s : PortName → Option Parcel). record v {
        entity = put_at is_side is_port v.entity side port (Some (record x.entity { tx = x.tx }));
        slot = s;
        queue =
            put is_port v.queue port x.parcels;
      }) slot_is

  abbrev Front : (n : ℕ) × IsQueued (IsParcel v.tables g.chain.items g.chain.spot g.spell) port x.parcel n
  Front = let f = front (IsQueued (IsParcel v.tables g.chain.items g.chain.spot g.spell) port) (g.layout.box (Egress port)) x.parcel x.parcels
      (subst (RowFits (IsQueued (IsParcel v.tables g.chain.items g.chain.spot g.spell) port) (g.layout.box (Egress port))) has (st.places.queues port)) in (f.0, f.2)

  -- at a side of the relay, over the port of the item's second hop
  pulls_at : (side : Side) → owner side port ≡ AtRelay → x.parcel.route.key.way ≡ way_from side
      → ((i : Item) → i.key.drb ≡ x.parcel.route.key.drb → (e : Entity) → v.entity side port ≡ Some e
      → SecondBy v.tables i (way_from side) its_remote (epoch_at (g.chain.path its_remote) RelayKind) port e.epoch)
      → Refines old.tables g (view (set_node old node))
  pulls_at side relay way goes =
      let is_open : v.entity side port ≡ Some x.entity = ap (λ m. option_and_then entity_of (side_at (node_at old m) port)) relay ∙ ap (option_and_then entity_of) x.its.here
      ∙ x.its.is_open in
      let i = its g v st side port x.entity is_open x.parcel x.parcels has (parcel_tag x.parcel) number x.tx x.gives in
      subst (Refines old.tables g) (sym (pulled_view side relay))
      (pull_items g v st side port x.entity is_open x.parcel x.parcels has (parcel_tag x.parcel) number x.tx x.gives way (sym (ap id_of i.2.1.ue))
      (goes i.2.1.item i.2.1.drb x.entity is_open))

  by_way : (w : Way) → x.parcel.route.key.way ≡ w → (row : MapRow) → map_row v.tables its_remote x.parcel.route.key.drb ≡ Some row → row.remote ≡ its_remote
      → port ≡ egress_of w row
      → Refines old.tables g (view (set_node old node))
  by_way Ul way row is same to = pulls_at Low (ap (owner Low) to) way
      (λ i drb e is_open. (
        row,
        ap (map_row v.tables its_remote) drb ∙ is,
        to,
        subst (λ (p : PortName). IsOpenBy g.chain.path (kind_at Low p) p e.epoch) to
            (st.paths.opens Low port e is_open),
      ))
  by_way Dl way row is same to = pulls_at High (ap (owner High) to) way
      (λ i drb e is_open.
      let its_port : port ≡ Pc5 its_remote row.pc5 = to ∙ ap (λ (q : Remote). Pc5 q row.pc5) same in (
        row,
        ap (map_row v.tables its_remote) drb ∙ is,
        its_port,
        (subst (λ (p : PortName). IsOpenBy g.chain.path (kind_at High p) p e.epoch) its_port (st.paths.opens High port e is_open)).0,
      ))

  pub pull_stands : Refines old.tables g (view (set_node old node))
  pull_stands =
      let eg = Front.1.1.egress in
      by_way x.parcel.route.key.way refl eg.0 eg.1
      (sym (remote_is its_remote eg.0.remote (and_parts _ _
      (find_passes (λ (row : MapRow). is_remote its_remote row.remote && (x.parcel.route.key.drb.0 == row.drb.0)) v.tables.maps eg.0 eg.1)).0))
      (sym Front.1.0 ∙ eg.2)

pub pull_refines : (g : Ghost) (old : Chain) → Stands g (view old) → (port : PortName) (events : List Event) (reply : Reply) (new : Chain) → PullsAt old port events reply new
    → Refines old.tables g (view new)
pull_refines g old st port events reply new x = subst (λ (c : Chain). Refines old.tables g (view c)) (sym x.is) (go x.answer x.pulls)
  where
    same : x.node ≡ node_at old AtRelay → Refines old.tables g (view (set_node old x.node))
    same e = stays old.tables g (view old) (view (set_node old x.node)) (ap (λ (n : Node). view (set_node old n)) e ∙ same_node old AtRelay) st

    go : (answer : PullReply) → PullsPort (node_at old AtRelay) port answer x.node → Refines old.tables g (view (set_node old x.node))
    go (pulled.Done number) p = pull_stands g old st port number x.node p.1
    go pulled.NoPort p = same p.1
    go pulled.Empty p = same p.1
    go pulled.Stalled p = same p.1
