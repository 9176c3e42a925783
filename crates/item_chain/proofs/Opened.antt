-- A ghost stands for the chain that tables open: there are no items, and each port is at its start.
use Rattle.std.proofs.Common.{◌≡◌, inl, inr, ℕ, ◌==◌, ◌<◌, Bool, true, false, cond, [], find, Option, Some, None, is_some, option_map, refl, sym, ◌∙◌, ap, subst, arith}
use Rattle.std.specs.Option.{unwrap_or, option_and_then}
use Rattle.std.proofs.lemmas.Bool.{cases_Bool, cond-true, cond-false, eqb-true, false≢true}
use Rattle.std.proofs.lemmas.Option.{none-some, same_Some}
use Rattle.link_base.specs.declared.names.LocalId.{LocalId}
use Rattle.link_base.specs.declared.names.Node.{Node as NodeKind}
use Rattle.link_base.specs.declared.names.Node.TheVariants as kinds
use Rattle.link_base.specs.declared.names.PortName.{PortName}
use Rattle.link_base.specs.declared.names.PortName.TheVariants.{Direct, Pc5, Uu}
use Rattle.link_base.specs.declared.names.Remote.{Remote}
use Rattle.link_base.specs.declared.names.Side.{Side}
use Rattle.link_base.specs.declared.names.SnSize.{SnSize}
use Rattle.bearer_map.specs.declared.rows.RemoteRow.{RemoteRow}
use Rattle.bearer_map.specs.Contents.{Contents}
use Rattle.bearer_map.specs.Ids.{attachment, IsAttached}
use Rattle.rlc_model.specs.declared.hop.Pdu.{Pdu}
use Rattle.rlc_model.specs.Hop.{on_air}
use Rattle.rlc_model.specs.Sides.{Entity}
use Rattle.rlc_law.specs.Ports.{Port, Ports, hop_of, start_port, IsSide, ReachesPort}
use Rattle.rlc_law.specs.Sides.{HasSize, start_entity}
use Rattle.node_model.specs.declared.parcel.Parcel.{Parcel}
use Rattle.node_model.specs.Names.{NodeName, AtRemote, AtRelay, AtGnb, is_of, is_remote, node_of, owner}
use Rattle.node_model.specs.Opening.{new_entity, all_attached, new_remote}
use Rattle.node_model.specs.State.{PortSide, Node, side_at, slot_of, queue_of, entity_of, no_node, id_in}
use Rattle.node_model.specs.Tables.{settings, has_remote, is_open_on}
use Rattle.node_model.proofs.Finding.{find_map}
use Rattle.node_model.proofs.Names.{remote_is}
use Rattle.chain_model.specs.declared.plan.Plan.{Plan}
use Rattle.chain_model.specs.Sizes.{port_size}
use Rattle.chain_model.specs.State.{node_at, first_plan, opened}
use Rattle.chain_model.specs.Told.{first_goal}
use Rattle.chain_law.specs.Entities.{port_settings}
use Rattle.chain_law.proofs.Applying.{start_is}
use Rattle.chain_law.proofs.Opened.{side_new}
use Rattle.chain_law.proofs.Members.{contained, found_any, any_found}
use Rattle.book_law.specs.Past.{AreTables}
use Rattle.item_law.specs.State.{Goal, ToDirect, ToRelay, Lost, Reserves, is_over_relay}
use Rattle.item_law.specs.State.{Chain as ItemChain, Path}
use Rattle.item_law.specs.World.{Opens}
use Rattle.item_place.specs.Places.{Station, Box, at}
use Rattle.item_place.specs.HopFits.{HopFits}
use Rattle.item_chain.specs.View.{side_size, view}
use Rattle.item_chain.specs.Stands.{item_tables, TablesGood, goal_of, IsParcel, RowFits, as_list, IsQueued, IsOpenBy, kind_at, closed, PlanFits, Ghost, Stands}
use Rattle.item_chain.proofs.OpenedNodes.{IsFirstOn, side_begins, uu_opens, node_there, at_gnb, at_relay, at_remote, gnb_ids, gnb_agrees, remote_ids, remote_agrees}
use Rattle.item_chain.proofs.OpenedSides.{both_there, side_open}
use Rattle.item_chain.proofs.Starts.{start_reaches, start_size, start_fits, start_direct}
use Rattle.item_chain.proofs.OpenedEnds.{first_sender, ends_fit}

-- nothing is in a box
abbrev pub empty_box : Box
empty_box = record { log = []; left = λ k. false }

module _ (t : Contents) where
  -- each remote is on its path of the tables, in epoch 0
  abbrev pub first_path : Remote → Path
  first_path r = record { epoch = 0; goal = first_goal t r; plan = None }

  -- nothing is on its way
  abbrev pub first_items : ItemChain
  first_items = record { path = first_path; sender = λ k. first_sender; heard = λ k c. None; wanted = λ k. false; items = λ n. None; spot = λ n. Lost }

  -- each port is at its start in epoch 0
  abbrev pub first_ports : Ports
  first_ports name epoch = cond (epoch == 0) (Some (start_port (port_settings t name))) None

  abbrev pub first_ghost : Ghost
  first_ghost = record { chain = first_items; layout = record { items = []; box = λ a. empty_box }; ports = first_ports; epochs = λ side name. 1; spell = λ n. [] }

  pub first_opens : Opens (item_tables t) first_items
  first_opens = record { path = λ r. refl; sender = λ k. refl; heard = λ k c. refl; items = λ n. refl }

  is_first : (name : PortName) (epoch : ℕ) (port : Port) → first_ports name epoch ≡ Some port → (epoch ≡ 0) × (port ≡ start_port (port_settings t name))
  is_first name epoch port e = elim (cases_Bool (epoch == 0)) [
    | inl is ↦ (eqb-true epoch 0 is, sym (same_Some (start_port (port_settings t name)) port (sym (cond-true (epoch == 0) (Some (start_port (port_settings t name))) None is) ∙ e)))
    | inr other ↦ absurd (none-some port (sym (cond-false (epoch == 0) (Some (start_port (port_settings t name))) None other) ∙ e))
  ]

  nothing_there : (ticket : ℕ) (pdu : Pdu) → on_air [] ticket ≡ Some pdu → ⊥
  nothing_there ticket pdu = by (ticket == 0)
    where
      by : (b : Bool) → cond b None None ≡ Some pdu → ⊥
      by true e = none-some pdu e
      by false e = none-some pdu e

  open_of : (o : Option PortSide) (e : Entity) → option_and_then entity_of o ≡ Some e → (s : PortSide) × (o ≡ Some s) × (s.entity ≡ Some e)
  open_of None e is = absurd (none-some e is)
  open_of (Some s) e is = (s, refl, is)

  open_new : (side : Side) (name : PortName) (e : Entity) → (view (opened t)).entity side name ≡ Some e → start_entity (port_settings t name) side 0 ≡ e
  open_new side name e is =
      let s = open_of (side_at (node_at (opened t) (owner side name)) name) e is in
      let new = side_new t (owner side name) name s.0 s.1 in
      elim new.entity [
        | inl none ↦ absurd (none-some e (sym none ∙ s.2))
        | inr some ↦ sym (start_is t name side 0) ∙ ap (λ (size : SnSize). new_entity (settings t) size 0) (sym new.size) ∙ same_Some _ e (sym some ∙ s.2)
      ]

  size_new : (side : Side) (name : PortName) (o : Option PortSide) → side_at (node_at (opened t) (owner side name)) name ≡ o → (s : SnSize) → option_map side_size o ≡ Some s
      → s ≡ port_size t name
  size_new side name None is s e = absurd (none-some s e)
  size_new side name (Some row) is s e = sym (same_Some row.size s e) ∙ (side_new t (owner side name) name row is).size

  sized : (o : Option PortSide) → is_some o ≡ true → is_some (option_map side_size o) ≡ true
  sized None is = is
  sized (Some s) is = refl

  nothing_stands : (a : Station) (k n : ℕ) → at empty_box k ≡ Some n → ⊥
  nothing_stands a k n e = none-some n e

  empty_row : (P : Parcel → ℕ → Type 0) → RowFits P empty_box []
  empty_row P = record { from = 0; long = refl; gone = λ k lt. absurd (omega (arith, lt)); stays = λ k le. refl; each = λ j x e. absurd (none-some x e) }

  module _ (good : TablesGood t) (are : AreTables t) where
    begins_at : (side : Side) (name : PortName) (e : Entity) → (view (opened t)).entity side name ≡ Some e → (e.epoch ≡ 0) × IsFirstOn t name
    begins_at side name e is =
        let s = open_of (side_at (node_at (opened t) (owner side name)) name) e is in
        (side_begins t are.remotes_ascend (owner side name) name s.0 s.1).opens e s.2

    no_slot : (q : PortName) (o : Option PortSide) → side_at (node_at (opened t) AtRelay) q ≡ o → option_and_then slot_of o ≡ None
    no_slot q None is = refl
    no_slot q (Some s) is = (side_begins t are.remotes_ascend AtRelay q s is).slot

    no_queue : (q : PortName) (o : Option PortSide) → side_at (node_at (opened t) AtRelay) q ≡ o → unwrap_or (option_map queue_of o) [] ≡ []
    no_queue q None is = refl
    no_queue q (Some s) is = (side_begins t are.remotes_ascend AtRelay q s is).queue

    opens_by : (side : Side) (name : PortName) (e : Entity) → (view (opened t)).entity side name ≡ Some e → IsOpenBy first_path (kind_at side name) name e.epoch
    opens_by side (Direct r d) e is = let b = begins_at side (Direct r d) e is in (b.0, b.1)
    opens_by side (Pc5 r c) e is = let b = begins_at side (Pc5 r c) e is in (b.0, b.1)
    opens_by side (Uu c) e is = (begins_at side (Uu c) e is).0

    ids : (kind : NodeKind) (r : Remote) → goal_of (id_in ((view (opened t)).attached (node_of kind r)) r) ≡ first_goal t r
    ids kinds.Remote r = ap (λ (n : Node). goal_of (id_in n.attached r)) (at_remote t r) ∙ remote_ids t r (find (λ (row : RemoteRow). is_remote r row.remote) t.remotes) refl
    ids kinds.Relay r = ap (λ (n : Node). goal_of (id_in n.attached r)) (at_relay t) ∙ gnb_ids t are.remotes_ascend r
    ids kinds.Gnb r = ap (λ (n : Node). goal_of (id_in n.attached r)) (at_gnb t) ∙ gnb_ids t are.remotes_ascend r

    agrees : (name : NodeName) (r : Remote) (id : LocalId) → IsAttached ((view (opened t)).attached name) r id.0 → id_in ((view (opened t)).attached name) r ≡ Some id
    agrees (AtRemote q) r id is =
        let o = find (λ (row : RemoteRow). is_remote q row.remote) t.remotes in
        let among = subst (λ (n : Node). IsAttached n.attached r id.0) (at_remote t q) is in
        ap (λ (n : Node). id_in n.attached r) (at_remote t q) ∙ remote_agrees t q o (attachment r id)
        (contained (unwrap_or (option_map (new_remote t) o) (no_node (AtRemote q))).attached (attachment r id) among)
    agrees AtRelay r id is =
        ap (λ (n : Node). id_in n.attached r) (at_relay t) ∙ gnb_agrees t are.remotes_ascend (attachment r id)
        (contained (all_attached t) (attachment r id) (subst (λ (n : Node). IsAttached n.attached r id.0) (at_relay t) is))
    agrees AtGnb r id is =
        ap (λ (n : Node). id_in n.attached r) (at_gnb t) ∙ gnb_agrees t are.remotes_ascend (attachment r id)
        (contained (all_attached t) (attachment r id) (subst (λ (n : Node). IsAttached n.attached r id.0) (at_gnb t) is))

    plans : (r : Remote) (p : Plan) → (view (opened t)).plan r ≡ Some p → PlanFits (first_path r) p
    plans r p is = go (find (λ (row : RemoteRow). is_remote r row.remote) t.remotes) refl (sym (find_map first_plan (λ (p : Plan). is_remote r p.remote) t.remotes) ∙ is)
      where
        go : (o : Option RemoteRow) → find (λ (row : RemoteRow). is_remote r row.remote) t.remotes ≡ o
            → option_map first_plan (find (λ (row : RemoteRow). is_remote r row.remote) t.remotes) ≡ Some p → PlanFits (first_path r) p
        go None is e = absurd (none-some p (sym (ap (option_map first_plan) is) ∙ e))
        go (Some row) is e =
            let same : first_plan row ≡ p = same_Some (first_plan row) p (sym (ap (option_map first_plan) is) ∙ e) in
            subst (PlanFits (first_path r)) same (closed refl refl refl (ap (λ (o : Option RemoteRow). unwrap_or (option_map (λ (x : RemoteRow). x.goal) o) ToDirect) is))

    listed : (r : Remote) (id : LocalId) → Reserves (first_path r) id → has_remote t r ≡ true
    listed r id (inr asks) = absurd (none-some asks.0 asks.1)
    listed r id (inl is) = go (find (λ (row : RemoteRow). is_remote r row.remote) t.remotes) refl
      where
        direct : ToDirect ≡ ToRelay id → ⊥
        direct e = cc

        go : (o : Option RemoteRow) → find (λ (row : RemoteRow). is_remote r row.remote) t.remotes ≡ o → has_remote t r ≡ true
        go None none = absurd (direct (sym (ap (λ (o : Option RemoteRow). unwrap_or (option_map (λ (x : RemoteRow). x.goal) o) ToDirect) none) ∙ is))
        go (Some row) some = found_any (λ (row : RemoteRow). is_remote r row.remote) t.remotes row some

    lasts : (r : Remote) → has_remote t r ≡ true → (p : Plan) × ((view (opened t)).plan r ≡ Some p)
    lasts r has =
        let row = any_found (λ (row : RemoteRow). is_remote r row.remote) t.remotes has in
        (first_plan row.0, find_map first_plan (λ (p : Plan). is_remote r p.remote) t.remotes ∙ ap (option_map first_plan) row.1)

    -- a side on its remote's path is open
    on_first : (r : Remote) (side : Side) (name : PortName) → is_of r name ≡ true → is_some ((view (opened t)).size side name) ≡ true → is_open_on (first_goal t r) name ≡ true
        → is_some ((view (opened t)).entity side name) ≡ true
    on_first r side name of sized on = by (side_at (node_at (opened t) (owner side name)) name) refl sized
      where
        goes : (name : PortName) → is_of r name ≡ true → (goal : Goal) → first_goal t r ≡ goal → is_open_on goal name ≡ true → IsFirstOn t name
        goes (Direct q d) own ToDirect its is = ap (first_goal t) (sym (remote_is r q own)) ∙ its
        goes (Pc5 q c) own (ToRelay id) its is = ap (λ (x : Remote). is_over_relay (first_goal t x)) (sym (remote_is r q own)) ∙ ap is_over_relay its
        goes (Direct q d) own (ToRelay id) its is = absurd (false≢true is)
        goes (Pc5 q c) own ToDirect its is = absurd (false≢true is)
        goes (Uu c) own goal its is = tt

        by : (o : Option PortSide) → side_at (node_at (opened t) (owner side name)) name ≡ o → is_some (option_map side_size o) ≡ true
            → is_some (option_and_then entity_of (side_at (node_at (opened t) (owner side name)) name)) ≡ true
        by None is there = absurd (false≢true there)
        by (Some s) is there = ap (λ (o : Option PortSide). is_some (option_and_then entity_of o)) is
            ∙ side_open t are.remotes_ascend (owner side name) name s (goes name of (first_goal t r) refl on) is

    pub opened_stands : Stands first_ghost (view (opened t))
    opened_stands = record {
      good = good;
      reaches = record { fits = good.fit; before = []; run = record { opens = first_opens; tainted = λ r. refl; broken = λ r. refl } };
      layout = record {
        has = λ n. refl;
        stands = λ a k n e. absurd (nothing_stands a k n e);
        once = λ a b k j n e f. absurd (nothing_stands a k n e);
        found = λ n i is way. absurd (none-some i is);
        fresh = λ a k le. refl;
        known = λ a k n e. absurd (none-some n e);
      };
      spelt = λ n i is. absurd (none-some i is);
      lengths = λ n i is. absurd (none-some i is);
      ports = record {
        reaches = λ name epoch port is. subst ReachesPort (sym (is_first name epoch port is).1) (start_reaches t name);
        made = λ ticket pdu port on is. absurd (nothing_there ticket pdu on);
      };
      sides = record {
        open_port = λ side name e is. subst (λ (e : Entity). (port : Port) × (first_ports name e.epoch ≡ Some port) × IsSide port side e.tx e.rx) (open_new side name e is)
            (start_port (port_settings t name), refl, record { its_tx = refl; its_rx = refl });
        open_epoch = λ side name e is. subst (λ (e : Entity). e.epoch < 1) (open_new side name e is) (omega arith);
        not_open = λ side name epoch port le is. let at_zero : epoch ≡ 0 = (is_first name epoch port is).0 in absurd (omega (arith, le, at_zero));
        sizes = λ name epoch port is. subst (HasSize (port_size t name)) (sym (is_first name epoch port is).1) (start_size t name);
      };
      hops = λ name epoch port is w. subst (λ (p : Port). HopFits (λ n. []) (hop_of p w) empty_box) (sym (is_first name epoch port is).1)
          (start_fits t empty_box refl (λ n. []) (λ k. refl) name w);
      directs = λ name epoch port is w. start_direct t empty_box refl (λ n. None) (λ n. Lost) name w (hop_of port w).tx;
      unopened = λ name epoch none w. refl;
      places = record {
        slots = λ q. subst (λ (o : Option Parcel). RowFits (IsParcel t (λ n. None) (λ n. Lost) (λ n. [])) empty_box (as_list o))
            (sym (no_slot q (side_at (node_at (opened t) AtRelay) q) refl))
            (empty_row (IsParcel t (λ n. None) (λ n. Lost) (λ n. [])));
        queues = λ q. subst (RowFits (IsQueued (IsParcel t (λ n. None) (λ n. Lost) (λ n. [])) q) empty_box) (sym (no_queue q (side_at (node_at (opened t) AtRelay) q) refl))
            (empty_row (IsQueued (IsParcel t (λ n. None) (λ n. Lost) (λ n. [])) q));
        own = λ q x is. absurd (none-some x (sym (no_slot q (side_at (node_at (opened t) AtRelay) q) refl) ∙ is));
      };
      paths = record { opens = opens_by; ids = ids; agree = agrees; plans = plans; listed = listed; lasts = lasts };
      openings = record {
        aired = λ ticket pdu on. absurd (nothing_there ticket pdu on);
        fresh = λ r side name of. omega arith;
        uus = λ side chan has. uu_opens t side chan has;
        both = λ side name has. sized (side_at (node_at (opened t) (owner side name)) name) (both_there t are.remotes_ascend side name has);
        on_path = λ r side name of there on. on_first r side name of there on;
        sizes = λ side name s is. size_new side name (side_at (node_at (opened t) (owner side name)) name) refl s is;
        nodes = λ r has kind. node_there t r has kind;
      };
      ends = ends_fit t good are first_path (λ r. refl);
    }
