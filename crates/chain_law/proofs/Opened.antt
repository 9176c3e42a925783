-- The chain right behind its tables.
use Rattle.std.proofs.Common.{◌≡◌, ◌⊎◌, inl, inr, ℕ, ◌<◌, ◌≤◌, Bool, true, false, cond, eqb, List, [], ◌∷◌, ◌++◌, length, map, flat_map, filter, find, Option, Some, None, option_map, option_and_then, refl, sym, ◌∙◌, ap, subst, arith}
use Rattle.std.specs.List.{AllByRecursion}
use Rattle.std.specs.Option.{unwrap_or}
use Rattle.std.proofs.lemmas.Bool.{cases_Bool, cond-true, cond-false, eqb-true, false≢true}
use Rattle.std.proofs.lemmas.Option.{none-some, same_Some}
use Rattle.link_base.specs.declared.names.Goal.{Goal}
use Rattle.link_base.specs.declared.names.Node.{Node as NodeKind}
use Rattle.link_base.specs.declared.names.Node.TheVariants as kinds
use Rattle.link_base.specs.declared.names.PortName.{PortName}
use Rattle.link_base.specs.declared.names.PortName.TheVariants.{Direct, Pc5, Uu}
use Rattle.link_base.specs.declared.names.Remote.{Remote}
use Rattle.link_base.specs.declared.names.Side.{Side}
use Rattle.link_base.specs.declared.names.Side.TheVariants.{Low, High}
use Rattle.link_base.specs.declared.names.SnSize.{SnSize}
use Rattle.link_base.specs.declared.names.SnSize.TheVariants.{S12}
use Rattle.link_base.specs.declared.names.Way.{Way}
use Rattle.link_base.specs.declared.names.Way.TheVariants.{Ul, Dl}
use Rattle.bearer_map.specs.declared.rows.BearerRow.{BearerRow}
use Rattle.bearer_map.specs.declared.rows.Pc5Row.{Pc5Row}
use Rattle.bearer_map.specs.declared.rows.RemoteRow.{RemoteRow}
use Rattle.bearer_map.specs.declared.rows.UuRow.{UuRow}
use Rattle.bearer_map.specs.Contents.{Contents, pair, remote_rank, bearer_rank, uu_rank, pc5_rank}
use Rattle.bearer_map.specs.Order.{IsAscending}
use Rattle.rlc_model.specs.declared.hop.Pdu.{Pdu}
use Rattle.rlc_model.specs.Hop.{on_air}
use Rattle.rlc_model.specs.Sides.{Entity}
use Rattle.rlc_law.specs.Ports.{Port, Ports, start_port, ReachesPort, hop_of, IsSide}
use Rattle.rlc_law.specs.Sides.{HasSize, start_entity}
use Rattle.node_model.specs.Names.{NodeName, AtRemote, AtRelay, AtGnb, is_node, is_port, is_remote, is_of, owner}
use Rattle.node_model.specs.State.{PortSide, Node, side_at, entity_of, no_node}
use Rattle.node_model.specs.Tables.{settings, is_open_on}
use Rattle.node_model.specs.Opening.{new_entity, new_side, direct_side, pc5_side, uu_side, bearers_of, pc5s_of, new_outgoing, new_remote, new_relay, new_gnb}
use Rattle.chain_model.specs.declared.plan.Plan.{Plan}
use Rattle.chain_model.specs.State.{first_plan, opened}
use Rattle.chain_model.specs.Sizes.{direct_size, pc5_size, uu_size, port_size}
use Rattle.chain_law.specs.Entities.{port_settings, next_epoch}
use Rattle.node_model.proofs.Names.{port_is, remote_is}
use Rattle.node_model.proofs.Finding.{find_passes, find_append, find_flat, find_map, find_picked, each_found, each_append, each_made, each_map, each_flat}
use Rattle.chain_law.proofs.Stands.{Logs, Stands, heard_in, sides_of}
use Rattle.chain_law.proofs.Nodes.{NodeFits, SideFits, OutgoingFits, port_of, Differ, IsOwned}
use Rattle.chain_law.proofs.Pairs.{Pairwise, pairs_append, pairs_picked, pairs_map, pairs_flat, ascending_pairs, each_passes, each_then, each_to_each}
use Rattle.chain_law.proofs.Tables.{TablesApart}
use Rattle.chain_law.proofs.Chains.{Holds, view}
use Rattle.chain_law.proofs.Applying.{start_is, start_heard, one_remote}

-- a side at the start has the size of its port, and is closed or has the entity of the start
pub record IsNew (t : Contents) (name : PortName) (s : PortSide) : Type 0 where
  pub size : s.size ≡ port_size t name
  pub entity : (s.entity ≡ None) ⊎ (s.entity ≡ Some (new_entity (settings t) s.size 0))

new_or_closed : (t : Contents) (size : SnSize) (is_open : Bool)
    → (cond is_open (Some (new_entity (settings t) size 0)) None ≡ None) ⊎ (cond is_open (Some (new_entity (settings t) size 0)) None ≡ Some (new_entity (settings t) size 0))
new_or_closed t size true = inr refl
new_or_closed t size false = inl refl

-- each side of a node is so
abbrev SidesAreNew : Contents → List PortSide → Type 0
SidesAreNew t ports = (q : PortName) (s : PortSide) → find (λ (s : PortSide). is_port q s.name) ports ≡ Some s → IsNew t q s

-- what the name of a port is made of: its kind, its remote and its number
abbrev kind_in : PortName → ℕ
kind_in (Direct r d) = 0
kind_in (Pc5 r c) = 1
kind_in (Uu c) = 2

abbrev remote_in : PortName → ℕ
remote_in (Direct r d) = r.0
remote_in (Pc5 r c) = r.0
remote_in (Uu c) = 0

abbrev number_in : PortName → ℕ
number_in (Direct r d) = d.0
number_in (Pc5 r c) = c.0
number_in (Uu c) = c.0

abbrev HasKind : ℕ → PortSide → Type 0
HasKind k s = ◌≡◌ {A = ℕ} (kind_in s.name) k

-- two sides are of ports with names apart
abbrev SidesDiffer : PortSide → PortSide → Type 0
SidesDiffer x y = Differ x.name y.name

-- the node has a side of the port
abbrev SideIsOwned : NodeName → PortSide → Type 0
SideIsOwned node s = IsOwned node s.name

-- a remote has a side of each of its own ports
at_remote : (remote : Remote) (name : PortName) → is_of remote name ≡ true → IsOwned (AtRemote remote) name
at_remote remote (Direct r d) of = (Low, ap AtRemote (sym (remote_is remote r of)))
at_remote remote (Pc5 r c) of = (Low, ap AtRemote (sym (remote_is remote r of)))
at_remote remote (Uu c) of = absurd (false≢true of)

module _ (t : Contents) where
  -- sides that were made of rows are, where the first row of a port's name gives the port's size
  made_new : {Row : Type 0} (name : Row → PortName) (size : Row → SnSize) (opens : Row → Bool) (picks : Row → Bool) (rows : List Row) (q : PortName) (s : PortSide)
      → ((row : Row) → find (λ row. is_port q (name row)) rows ≡ Some row → port_size t q ≡ size row)
      → ((a b : Row) → is_port q (name a) ≡ true → is_port q (name b) ≡ true → picks a ≡ picks b)
      → find (λ (s : PortSide). is_port q s.name) (map (λ row. new_side (settings t) (name row) (size row) (opens row)) (filter picks rows)) ≡ Some s → IsNew t q s
  made_new {Row} name size opens picks rows q s its one e = go (find (λ row. is_port q (name row)) (filter picks rows)) refl
    where
      make : Row → PortSide
      make row = new_side (settings t) (name row) (size row) (opens row)

      go : (o : Option Row) → find (λ row. is_port q (name row)) (filter picks rows) ≡ o → IsNew t q s
      go None is = absurd (none-some s (sym (find_map make (λ (s : PortSide). is_port q s.name) (filter picks rows) ∙ ap (option_map make) is) ∙ e))
      go (Some row) is = subst (IsNew t q) (same_Some (make row) s (sym (find_map make (λ (s : PortSide). is_port q s.name) (filter picks rows) ∙ ap (option_map make) is) ∙ e))
          (record { size = sym (its row (find_picked picks (λ row. is_port q (name row)) one rows row is).0); entity = new_or_closed t (size row) (opens row) })

  direct_first : (q : PortName) (row : BearerRow) → find (λ (row : BearerRow). is_port q (Direct row.remote row.drb)) t.bearers ≡ Some row → port_size t q ≡ row.direct
  direct_first (Direct r d) row is = ap (λ (o : Option BearerRow). unwrap_or (option_map direct_size o) S12) is
  direct_first (Pc5 r c) row is = absurd (false≢true (find_passes (λ (row : BearerRow). is_port (Pc5 r c) (Direct row.remote row.drb)) t.bearers row is))
  direct_first (Uu c) row is = absurd (false≢true (find_passes (λ (row : BearerRow). is_port (Uu c) (Direct row.remote row.drb)) t.bearers row is))

  pc5_first : (q : PortName) (row : Pc5Row) → find (λ (row : Pc5Row). is_port q (Pc5 row.remote row.chan)) t.pc5s ≡ Some row → port_size t q ≡ row.size
  pc5_first (Pc5 r c) row is = ap (λ (o : Option Pc5Row). unwrap_or (option_map pc5_size o) S12) is
  pc5_first (Direct r d) row is = absurd (false≢true (find_passes (λ (row : Pc5Row). is_port (Direct r d) (Pc5 row.remote row.chan)) t.pc5s row is))
  pc5_first (Uu c) row is = absurd (false≢true (find_passes (λ (row : Pc5Row). is_port (Uu c) (Pc5 row.remote row.chan)) t.pc5s row is))

  uu_first : (q : PortName) (row : UuRow) → find (λ (row : UuRow). is_port q (Uu row.chan)) t.uus ≡ Some row → port_size t q ≡ row.size
  uu_first (Uu c) row is = ap (λ (o : Option UuRow). unwrap_or (option_map uu_size o) S12) is
  uu_first (Direct r d) row is = absurd (false≢true (find_passes (λ (row : UuRow). is_port (Direct r d) (Uu row.chan)) t.uus row is))
  uu_first (Pc5 r c) row is = absurd (false≢true (find_passes (λ (row : UuRow). is_port (Pc5 r c) (Uu row.chan)) t.uus row is))

  directs_new : (goal : Goal) (remote : Remote) → SidesAreNew t (map (direct_side (settings t) goal) (bearers_of t remote))
  directs_new goal remote q s = made_new (λ (row : BearerRow). Direct row.remote row.drb) (λ (row : BearerRow). row.direct)
      (λ (row : BearerRow). is_open_on goal (Direct row.remote row.drb)) (λ (row : BearerRow). is_remote remote row.remote) t.bearers q s
      (direct_first q) (λ a b x y. ap (is_of remote) (sym (port_is q (Direct a.remote a.drb) x) ∙ port_is q (Direct b.remote b.drb) y))

  pc5s_new : (goal : Goal) (remote : Remote) → SidesAreNew t (map (pc5_side (settings t) goal) (pc5s_of t remote))
  pc5s_new goal remote q s = made_new (λ (row : Pc5Row). Pc5 row.remote row.chan) (λ (row : Pc5Row). row.size) (λ (row : Pc5Row). is_open_on goal (Pc5 row.remote row.chan))
      (λ (row : Pc5Row). is_remote remote row.remote) t.pc5s q s
      (pc5_first q) (λ a b x y. ap (is_of remote) (sym (port_is q (Pc5 a.remote a.chan) x) ∙ port_is q (Pc5 b.remote b.chan) y))

  uus_new : SidesAreNew t (map (uu_side (settings t)) t.uus)
  uus_new q s e = go (find (λ (row : UuRow). is_port q (Uu row.chan)) t.uus) refl
    where
      go : (o : Option UuRow) → find (λ (row : UuRow). is_port q (Uu row.chan)) t.uus ≡ o → IsNew t q s
      go None is = absurd (none-some s (sym (find_map (uu_side (settings t)) (λ (s : PortSide). is_port q s.name) t.uus ∙ ap (option_map (uu_side (settings t))) is) ∙ e))
      go (Some row) is = subst (IsNew t q)
          (same_Some (uu_side (settings t) row) s
          (sym (find_map (uu_side (settings t)) (λ (s : PortSide). is_port q s.name) t.uus ∙ ap (option_map (uu_side (settings t))) is) ∙ e))
          (record { size = sym (uu_first q row is); entity = inr refl })

  both_new : (xs ys : List PortSide) → SidesAreNew t xs → SidesAreNew t ys → SidesAreNew t (xs ++ ys)
  both_new xs ys first second q s e = elim (find_append (λ (s : PortSide). is_port q s.name) xs ys s e) [
    | inl here ↦ first q s here
    | inr there ↦ second q s there
  ]

  many_new : (f : RemoteRow → List PortSide) → ((row : RemoteRow) → SidesAreNew t (f row)) → SidesAreNew t (flat_map f t.remotes)
  many_new f each q s e = let found = find_flat (λ (s : PortSide). is_port q s.name) f t.remotes s e in each found.0 q s found.1

  -- so is each side of each node
  abbrev NodeIsNew : Node → Type 0
  NodeIsNew n = SidesAreNew t n.ports

  nodes_new : AllByRecursion NodeIsNew (opened t).nodes
  nodes_new = each_append NodeIsNew (map (new_remote t) t.remotes) (new_relay t ∷ new_gnb t ∷ [])
      (each_made NodeIsNew (new_remote t) (λ row. both_new _ _ (directs_new row.goal row.remote) (pc5s_new row.goal row.remote)) t.remotes) (
        both_new _ _ (many_new (λ (row : RemoteRow). map (pc5_side (settings t) row.goal) (pc5s_of t row.remote)) (λ row. pc5s_new row.goal row.remote)) uus_new,
        (both_new _ _ (many_new (λ (row : RemoteRow). map (direct_side (settings t) row.goal) (bearers_of t row.remote)) (λ row. directs_new row.goal row.remote)) uus_new, tt),
      )

  pub side_new : (x : NodeName) (q : PortName) (s : PortSide) → view (opened t) x q ≡ Some s → IsNew t q s
  side_new x q s = go (find (λ (n : Node). is_node x n.name) (opened t).nodes) refl
    where
      go : (o : Option Node) → find (λ (n : Node). is_node x n.name) (opened t).nodes ≡ o → side_at (unwrap_or o (no_node x)) q ≡ Some s → IsNew t q s
      go None is e = absurd (none-some s e)
      go (Some n) is e = each_found NodeIsNew (λ (n : Node). is_node x n.name) (opened t).nodes n nodes_new is q s e

  -- the SDUs of such nodes fit, since there are none
  fresh_side : (name : PortName) (size : SnSize) (is_open : Bool) → SideFits (new_side (settings t) name size is_open)
  fresh_side name size is_open = record { slot = λ parcel e. absurd (none-some parcel e); queue = tt }

  fresh_sender : (way : Way) (row : BearerRow) → OutgoingFits (new_outgoing way row)
  fresh_sender way row = λ n sdu e. absurd (none-some sdu e)

  fits_both : (xs ys : List PortSide) → AllByRecursion SideFits xs → AllByRecursion SideFits ys → AllByRecursion SideFits (xs ++ ys)
  fits_both = each_append SideFits

  directs_fit : (row : RemoteRow) → AllByRecursion SideFits (map (direct_side (settings t) row.goal) (bearers_of t row.remote))
  directs_fit row = each_made SideFits (direct_side (settings t) row.goal) (λ r. fresh_side _ _ _) (bearers_of t row.remote)

  pc5s_fit : (row : RemoteRow) → AllByRecursion SideFits (map (pc5_side (settings t) row.goal) (pc5s_of t row.remote))
  pc5s_fit row = each_made SideFits (pc5_side (settings t) row.goal) (λ r. fresh_side _ _ _) (pc5s_of t row.remote)

  uus_fit : AllByRecursion SideFits (map (uu_side (settings t)) t.uus)
  uus_fit = each_made SideFits (uu_side (settings t)) (λ r. fresh_side _ _ true) t.uus

  -- their ports have names apart
  module _ (a : TablesApart t) where
    -- rows in order make sides with names apart
    rows_apart : {Row : Type 0} (rank : Row → ℕ) (make : Row → PortSide) (picks : Row → Bool) → ((x y : Row) → (make x).name ≡ (make y).name → rank x ≡ rank y)
        → (rows : List Row) → IsAscending rank rows → Pairwise SidesDiffer (map make (filter picks rows))
    rows_apart {Row} rank make picks one rows ascend =
        pairs_map SidesDiffer (λ (x y : Row). rank x < rank y) make (λ x y lt same. absurd (omega (arith, lt, one x y same))) (filter picks rows)
        (pairs_picked (λ (x y : Row). rank x < rank y) picks rows (ascending_pairs rank rows ascend))

    directs_apart : (goal : Goal) (remote : Remote) → Pairwise SidesDiffer (map (direct_side (settings t) goal) (bearers_of t remote))
    directs_apart goal remote = rows_apart bearer_rank (direct_side (settings t) goal) (λ (row : BearerRow). is_remote remote row.remote)
        (λ x y same. ap (λ (p : PortName). pair (remote_in p) (number_in p)) same) t.bearers a.bearers

    pc5s_apart : (goal : Goal) (remote : Remote) → Pairwise SidesDiffer (map (pc5_side (settings t) goal) (pc5s_of t remote))
    pc5s_apart goal remote = rows_apart pc5_rank (pc5_side (settings t) goal) (λ (row : Pc5Row). is_remote remote row.remote)
        (λ x y same. ap (λ (p : PortName). pair (remote_in p) (number_in p)) same) t.pc5s a.pc5s

    uus_apart : Pairwise SidesDiffer (map (uu_side (settings t)) t.uus)
    uus_apart = pairs_map SidesDiffer (λ (x y : UuRow). uu_rank x < uu_rank y) (uu_side (settings t)) (λ x y lt same. absurd (uus_one x y lt (ap number_in same))) t.uus
        (ascending_pairs uu_rank t.uus a.uus)
      where
        uus_one : (x y : UuRow) → uu_rank x < uu_rank y → uu_rank x ≡ uu_rank y → ⊥
        uus_one x y lt same = absurd (omega (arith, lt, same))

    -- sides of ports of two kinds, and of two remotes, have names apart
    kinds_apart : (k j : ℕ) → (k ≡ j → ⊥) → (xs ys : List PortSide) → AllByRecursion (HasKind k) xs → AllByRecursion (HasKind j) ys
        → AllByRecursion (λ x. AllByRecursion (SidesDiffer x) ys) xs
    kinds_apart k j ne xs ys = each_to_each (HasKind k) (HasKind j) SidesDiffer (λ x y p q same. ne (sym p ∙ ap kind_in same ∙ q)) xs ys

    remotes_apart : (make : RemoteRow → List PortSide) → ((row : RemoteRow) → Pairwise SidesDiffer (make row))
        → ((row : RemoteRow) → AllByRecursion (λ (s : PortSide). is_of row.remote s.name ≡ true) (make row))
        → Pairwise SidesDiffer (flat_map make t.remotes)
    remotes_apart make each own = pairs_flat SidesDiffer (λ (x y : RemoteRow). remote_rank x < remote_rank y) make each
        (λ x y lt. each_to_each (λ (s : PortSide). is_of x.remote s.name ≡ true) (λ (s : PortSide). is_of y.remote s.name ≡ true) SidesDiffer
        (λ s u p q same. absurd (one_rank x y lt (ap (λ (r : Remote). r.0) (one_remote x.remote y.remote s.name p (ap (is_of y.remote) same ∙ q))))) (make x) (make y) (own x)
        (own y))
        t.remotes (ascending_pairs remote_rank t.remotes a.remotes)
      where
        one_rank : (x y : RemoteRow) → remote_rank x < remote_rank y → remote_rank x ≡ remote_rank y → ⊥
        one_rank x y lt same = absurd (omega (arith, lt, same))

    names_apart : (sides : List PortSide) → Pairwise SidesDiffer sides → Pairwise Differ (map port_of sides)
    names_apart = pairs_map Differ SidesDiffer port_of (λ x y ne. ne)

    -- each is at a node that has it
    owned_both : (x : NodeName) (xs ys : List PortSide) → AllByRecursion (SideIsOwned x) xs → AllByRecursion (SideIsOwned x) ys
        → AllByRecursion (IsOwned x) (map port_of (xs ++ ys))
    owned_both x xs ys first second = each_map (IsOwned x) (SideIsOwned x) port_of (λ s its. its) (xs ++ ys) (each_append (SideIsOwned x) xs ys first second)

    nodes_fit : AllByRecursion NodeFits (opened t).nodes
    nodes_fit = each_append NodeFits (map (new_remote t) t.remotes) (new_relay t ∷ new_gnb t ∷ [])
        (each_made NodeFits (new_remote t) (λ row. record {
          ports = fits_both _ _ (directs_fit row) (pc5s_fit row);
          outgoing = each_made OutgoingFits (new_outgoing Ul) (fresh_sender Ul) (bearers_of t row.remote);
          apart = names_apart (new_remote t row).ports
              (pairs_append SidesDiffer _ _ (directs_apart row.goal row.remote) (pc5s_apart row.goal row.remote)
              (kinds_apart 0 1 (λ e. absurd (omega (arith, e))) _ _ (directs_kind row) (pc5s_kind row)));
          owned = owned_both (AtRemote row.remote) _ _
              (each_then (λ (s : PortSide). is_of row.remote s.name ≡ true) (SideIsOwned (AtRemote row.remote)) (λ s its. at_remote row.remote s.name its) _ (directs_own row))
              (each_then (λ (s : PortSide). is_of row.remote s.name ≡ true) (SideIsOwned (AtRemote row.remote)) (λ s its. at_remote row.remote s.name its) _ (pc5s_own row));
        }) t.remotes) (
          record {
            ports = fits_both _ _ (each_flat SideFits _ pc5s_fit t.remotes) uus_fit;
            outgoing = tt;
            apart = names_apart (new_relay t).ports
                (pairs_append SidesDiffer _ _ (remotes_apart (λ (row : RemoteRow). map (pc5_side (settings t) row.goal) (pc5s_of t row.remote))
                (λ row. pc5s_apart row.goal row.remote) pc5s_own) uus_apart
                (kinds_apart 1 2 (λ e. absurd (omega (arith, e))) _ _ (each_flat (HasKind 1) _ pc5s_kind t.remotes) uus_kind));
            owned = owned_both AtRelay _ _
                (each_flat (SideIsOwned AtRelay) _ (λ row. each_made (SideIsOwned AtRelay) (pc5_side (settings t) row.goal) (λ r. (High, refl)) (pc5s_of t row.remote)) t.remotes)
                (each_made (SideIsOwned AtRelay) (uu_side (settings t)) (λ r. (Low, refl)) t.uus);
          },
          (
            record {
              ports = fits_both _ _ (each_flat SideFits _ directs_fit t.remotes) uus_fit;
              outgoing = each_made OutgoingFits (new_outgoing Dl) (fresh_sender Dl) t.bearers;
              apart = names_apart (new_gnb t).ports
                  (pairs_append SidesDiffer _ _ (remotes_apart (λ (row : RemoteRow). map (direct_side (settings t) row.goal) (bearers_of t row.remote))
                  (λ row. directs_apart row.goal row.remote) directs_own) uus_apart
                  (kinds_apart 0 2 (λ e. absurd (omega (arith, e))) _ _ (each_flat (HasKind 0) _ directs_kind t.remotes) uus_kind));
              owned = owned_both AtGnb _ _
                  (each_flat (SideIsOwned AtGnb) _ (λ row. each_made (SideIsOwned AtGnb) (direct_side (settings t) row.goal) (λ r. (High, refl)) (bearers_of t row.remote)) t.remotes)
                  (each_made (SideIsOwned AtGnb) (uu_side (settings t)) (λ r. (High, refl)) t.uus);
            },
            tt,
          ),
        )
      where
        directs_kind : (row : RemoteRow) → AllByRecursion (HasKind 0) (map (direct_side (settings t) row.goal) (bearers_of t row.remote))
        directs_kind row = each_made (HasKind 0) (direct_side (settings t) row.goal) (λ r. refl) (bearers_of t row.remote)

        pc5s_kind : (row : RemoteRow) → AllByRecursion (HasKind 1) (map (pc5_side (settings t) row.goal) (pc5s_of t row.remote))
        pc5s_kind row = each_made (HasKind 1) (pc5_side (settings t) row.goal) (λ r. refl) (pc5s_of t row.remote)

        uus_kind : AllByRecursion (HasKind 2) (map (uu_side (settings t)) t.uus)
        uus_kind = each_made (HasKind 2) (uu_side (settings t)) (λ r. refl) t.uus

        directs_own : (row : RemoteRow) → AllByRecursion (λ (s : PortSide). is_of row.remote s.name ≡ true) (map (direct_side (settings t) row.goal) (bearers_of t row.remote))
        directs_own row = each_map (λ (s : PortSide). is_of row.remote s.name ≡ true) (λ (r : BearerRow). is_remote row.remote r.remote ≡ true)
            (direct_side (settings t) row.goal) (λ r its. its) (bearers_of t row.remote)
            (each_passes (λ (r : BearerRow). is_remote row.remote r.remote) t.bearers)

        pc5s_own : (row : RemoteRow) → AllByRecursion (λ (s : PortSide). is_of row.remote s.name ≡ true) (map (pc5_side (settings t) row.goal) (pc5s_of t row.remote))
        pc5s_own row = each_map (λ (s : PortSide). is_of row.remote s.name ≡ true) (λ (r : Pc5Row). is_remote row.remote r.remote ≡ true) (pc5_side (settings t) row.goal)
            (λ r its. its) (pc5s_of t row.remote)
            (each_passes (λ (r : Pc5Row). is_remote row.remote r.remote) t.pc5s)

  -- each port is at its start in epoch 0
  abbrev first_ports : Ports
  first_ports name epoch = cond (eqb epoch 0) (Some (start_port (port_settings t name))) None

  is_first : (name : PortName) (epoch : ℕ) (port : Port) → first_ports name epoch ≡ Some port → (epoch ≡ 0) × (port ≡ start_port (port_settings t name))
  is_first name epoch port e = elim (cases_Bool (eqb epoch 0)) [
    | inl zero ↦ (
      eqb-true epoch 0 zero,
      sym
          (same_Some (start_port (port_settings t name)) port (sym (cond-true (eqb epoch 0) (Some (start_port (port_settings t name))) None zero) ∙ e)),
    )
    | inr other ↦ absurd (none-some port (sym (cond-false (eqb epoch 0) (Some (start_port (port_settings t name))) None other) ∙ e))
  ]

  start_reaches : (name : PortName) → ReachesPort (start_port (port_settings t name))
  start_reaches name Ul = record {
    size = port_size t name;
    poll_pdu = (settings t).poll_pdu;
    poll_byte = (settings t).poll_byte;
    max_retx_threshold =
        (settings t).max_retx;
    events = [];
    run = refl;
  }
  start_reaches name Dl = record {
    size = port_size t name;
    poll_pdu = (settings t).poll_pdu;
    poll_byte = (settings t).poll_byte;
    max_retx_threshold =
        (settings t).max_retx;
    events = [];
    run = refl;
  }

  start_size : (name : PortName) → HasSize (port_size t name) (start_port (port_settings t name))
  start_size name Ul = (refl, refl)
  start_size name Dl = (refl, refl)

  start_few : (name : PortName) (way : Way) → length (hop_of (start_port (port_settings t name)) way).pdus ≤ 0
  start_few name Ul = omega arith
  start_few name Dl = omega arith

  nothing_there : (ticket : ℕ) (pdu : Pdu) → on_air [] ticket ≡ Some pdu → ⊥
  nothing_there ticket pdu = by (eqb ticket 0)
    where
      by : (b : Bool) → cond b None None ≡ Some pdu → ⊥
      by true e = none-some pdu e
      by false e = none-some pdu e

  open_of : (o : Option PortSide) (e : Entity) → option_and_then entity_of o ≡ Some e → (s : PortSide) × (o ≡ Some s) × (s.entity ≡ Some e)
  open_of None e is = absurd (none-some e is)
  open_of (Some s) e is = (s, refl, is)

  open_new : (side : Side) (name : PortName) (e : Entity) → sides_of (view (opened t)) side name ≡ Some e → start_entity (port_settings t name) side 0 ≡ e
  open_new side name e is =
      let s = open_of (view (opened t) (owner side name) name) e is in
      let new = side_new (owner side name) name s.0 s.1 in
      elim new.entity [
        | inl none ↦ absurd (none-some e (sym none ∙ s.2))
        | inr some ↦ sym (start_is t name side 0) ∙ ap (λ (size : SnSize). new_entity (settings t) size 0) (sym new.size) ∙ same_Some _ e (sym some ∙ s.2)
      ]

  first_heard : (name : PortName) (epoch : ℕ) (way : Way) → heard_in (first_ports name epoch) way ≡ []
  first_heard name epoch way = by (first_ports name epoch) refl
    where
      by : (o : Option Port) → first_ports name epoch ≡ o → heard_in (first_ports name epoch) way ≡ []
      by None is = ap (λ (o : Option Port). heard_in o way) is
      by (Some port) is = ap (λ (o : Option Port). heard_in o way) is ∙ ap (λ (p : Port). (hop_of p way).heard) (is_first name epoch port is).1
          ∙ start_heard (port_settings t name) way

  opened_stands : {q : Logs} → ((name : PortName) (epoch : ℕ) (way : Way) → q name epoch way []) → Stands q t (view (opened t)) (λ side name. 1) []
  opened_stands {q} none = record {
    ports = first_ports;
    epochs = λ side name. 1;
    fits = record {
      reaches = λ name epoch port is. subst ReachesPort (sym (is_first name epoch port is).1) (start_reaches name);
      made = λ ticket pdu port on is. absurd (nothing_there ticket pdu on);
    };
    opened = λ ticket pdu on. absurd (nothing_there ticket pdu on);
    sides = record {
      open_port = λ side name e is. subst (λ (e : Entity). (port : Port) × (first_ports name e.epoch ≡ Some port) × IsSide port side e.tx e.rx) (open_new side name e is)
          (start_port (port_settings t name), refl, record { its_tx = refl; its_rx = refl });
      open_epoch = λ side name e is. subst (λ (e : Entity). e.epoch < 1) (open_new side name e is) (omega arith);
      not_open = λ side name epoch port le is. let zero_epoch : epoch ≡ 0 = (is_first name epoch port is).0 in absurd (omega (arith, le, zero_epoch));
      sizes = λ name epoch port is. subst (HasSize (port_size t name)) (sym (is_first name epoch port is).1) (start_size name);
    };
    few = λ name epoch port way is. subst (λ (p : Port). length (hop_of p way).pdus ≤ 0) (sym (is_first name epoch port is).1) (start_few name way);
    within = λ side name. omega arith;
    sizes = λ side name s is. (side_new (owner side name) name s is).size;
    heard = λ name epoch way. subst (q name epoch way) (sym (first_heard name epoch way)) (none name epoch way);
  }

  -- a plan at the start has no epoch behind it but 0
  abbrev IsFirstPlan : Plan → Type 0
  IsFirstPlan p = (kind : NodeKind) → 1 ≤ next_epoch p kind

  first_is : (row : RemoteRow) → IsFirstPlan (first_plan row)
  first_is row kinds.Remote = omega arith
  first_is row kinds.Relay = omega arith
  first_is row kinds.Gnb = omega arith

  -- nothing was heard yet
  pub opened_holds : {q : Logs} → ((name : PortName) (epoch : ℕ) (way : Way) → q name epoch way []) → TablesApart t → Holds q (opened t)
  opened_holds none a = record {
    limit = λ side name. 1;
    stands = opened_stands none;
    fresh = λ remote plan is side name of. each_found IsFirstPlan (λ (p : Plan). is_remote remote p.remote) (opened t).plans plan
        (each_made IsFirstPlan first_plan first_is t.remotes) is _;
    nodes = nodes_fit a;
    apart = a;
    tickets = omega arith;
  }
