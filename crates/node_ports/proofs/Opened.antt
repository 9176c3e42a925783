-- The sides of a node that is new stand in the order of their ports.
use Rattle.std.proofs.Common.{◌≡◌, ℕ, ◌<◌, Bool, true, List, [], ◌∷◌, ◌++◌, map, refl, sym, ◌∙◌, arith}
use Rattle.std.specs.List.{AllByRecursion, filter, flat_map}
use Rattle.std.proofs.lemmas.Bool.{eqb-true}
use Rattle.std.proofs.lemmas.Bool.Decides.{nat_tests}
use Rattle.link_base.specs.declared.names.Remote.{Remote}
use Rattle.link_base.specs.declared.names.PortName.{PortName}
use Rattle.bearer_map.specs.declared.rows.RemoteRow.{RemoteRow}
use Rattle.bearer_map.specs.declared.rows.BearerRow.{BearerRow}
use Rattle.bearer_map.specs.declared.rows.Pc5Row.{Pc5Row}
use Rattle.bearer_map.specs.declared.rows.UuRow.{UuRow}
use Rattle.bearer_map.specs.declared.settings.Settings.{Settings}
use Rattle.bearer_map.specs.Order.{IsAscending}
use Rattle.bearer_map.specs.Contents as contents
use Rattle.node_model.specs.Names.{is_remote}
use Rattle.node_model.specs.Opening.{direct_side, pc5_side, uu_side}
use Rattle.node_model.specs.Rows.{AreOrdered}
use Rattle.node_model.specs.State.{PortSide}
use Rattle.node_ports.specs.Order.{kind_rank, remote_rank, number_rank, is_before, side_before}
use Rattle.node_ports.proofs.Ordered.{all_of, all_weaker, all_append, all_map, all_pass, filter_ascends, ordered_append, ordered_map}

lower_kind : (a b : PortName) → kind_rank a < kind_rank b → is_before a b ≡ true
lower_kind a b lt = grind (arith, nat_tests)

lower_remote : (a b : PortName) → kind_rank a ≡ kind_rank b → remote_rank a < remote_rank b → is_before a b ≡ true
lower_remote a b same lt = grind (arith, nat_tests)

lower_number : (a b : PortName) → kind_rank a ≡ kind_rank b → remote_rank a ≡ remote_rank b → number_rank a < number_rank b → is_before a b ≡ true
lower_number a b same same' lt = grind (arith, nat_tests)

-- a side of a port of this kind
abbrev OfKind : ℕ → PortSide → Type 0
OfKind kind side = kind_rank side.name ≡ kind

-- and of this remote
abbrev OfRemote : ℕ → ℕ → PortSide → Type 0
OfRemote kind remote side = (kind_rank side.name ≡ kind) × (remote_rank side.name ≡ remote)

-- and of a remote behind this one
abbrev Behind : ℕ → ℕ → PortSide → Type 0
Behind kind remote side = (kind_rank side.name ≡ kind) × (remote < remote_rank side.name)

-- of one kind, in order for each remote
module _ (kind : ℕ) (sides_of : RemoteRow → List PortSide) (each : (row : RemoteRow) → AllByRecursion (OfRemote kind row.remote.0) (sides_of row))
    (ups : (row : RemoteRow) → AreOrdered side_before (sides_of row)) where
  behind : (remote : ℕ) (rows : List RemoteRow) → AllByRecursion (λ row. remote < contents.remote_rank row) rows → AllByRecursion (Behind kind remote) (flat_map sides_of rows)
  behind remote [] all = tt
  behind remote (row ∷ rows) all = all_append (Behind kind remote) (sides_of row) (flat_map sides_of rows)
      (all_weaker (OfRemote kind row.remote.0) (Behind kind remote) (sides_of row) (λ s is. (is.0, rw is.1 all.0)) (each row)) (behind remote rows all.1)

  of_kind : (rows : List RemoteRow) → AllByRecursion (OfKind kind) (flat_map sides_of rows)
  of_kind [] = tt
  of_kind (row ∷ rows) = all_append (OfKind kind) (sides_of row) (flat_map sides_of rows) (all_weaker (OfRemote kind row.remote.0) (OfKind kind) (sides_of row) (λ s is. is.0) (each row)) (of_kind rows)

  flat_ordered : (rows : List RemoteRow) → IsAscending contents.remote_rank rows → AreOrdered side_before (flat_map sides_of rows)
  flat_ordered [] up = tt
  flat_ordered (row ∷ rows) up = ordered_append side_before (OfRemote kind row.remote.0) (Behind kind row.remote.0) (sides_of row) (flat_map sides_of rows)
      (λ x y p q. lower_remote x.name y.name (p.0 ∙ sym q.0) (rw p.1 q.1)) (each row) (behind row.remote.0 rows up.0) (ups row) (flat_ordered rows up.1)

-- how the rows of a table give sides of one kind: in the order of the rows of a remote their numbers rise
record GivesSides (S : Type 0) : Type 0 where
  kind : ℕ
  rank : S → ℕ
  remote_of : S → Remote
  side_of : RemoteRow → S → PortSide
  kinds : (row : RemoteRow) (x : S) → kind_rank (side_of row x).name ≡ kind
  remotes : (row : RemoteRow) (x : S) → remote_rank (side_of row x).name ≡ (remote_of x).0
  numbers : (row : RemoteRow) (x y : S) → (remote_of x).0 ≡ (remote_of y).0 → rank x < rank y → number_rank (side_of row x).name < number_rank (side_of row y).name

-- of rows that ascend, those of a remote give sides in order, and so do those of all remotes
module _ {S : Type 0} (g : GivesSides S) (xs : List S) (up : IsAscending g.rank xs) where
  abbrev is_own : RemoteRow → S → Bool
  is_own row x = is_remote row.remote (g.remote_of x)

  abbrev sides_of : RemoteRow → List PortSide
  sides_of row = map (g.side_of row) (filter (is_own row) xs)

  of_row : (row : RemoteRow) (x : S) → is_own row x ≡ true → (g.remote_of x).0 ≡ row.remote.0
  of_row row x is = sym (eqb-true row.remote.0 (g.remote_of x).0 is)

  each : (row : RemoteRow) → AllByRecursion (OfRemote g.kind row.remote.0) (sides_of row)
  each row = all_map (g.side_of row) (OfRemote g.kind row.remote.0) (filter (is_own row) xs)
      (all_weaker (λ x. is_own row x ≡ true) (λ x. OfRemote g.kind row.remote.0 (g.side_of row x)) (filter (is_own row) xs)
      (λ x is. (g.kinds row x, g.remotes row x ∙ of_row row x is)) (all_pass (is_own row) xs))

  own_ordered : (row : RemoteRow) → AreOrdered side_before (sides_of row)
  own_ordered row = ordered_map side_before g.rank (λ x. is_own row x ≡ true) (g.side_of row)
      (λ x y p q lt.
      let one : (g.remote_of x).0 ≡ (g.remote_of y).0 = of_row row x p ∙ sym (of_row row y q) in
      lower_number (g.side_of row x).name (g.side_of row y).name (g.kinds row x ∙ sym (g.kinds row y)) (g.remotes row x ∙ (one ∙ sym (g.remotes row y))) (g.numbers row x y one lt))
      (filter (is_own row) xs) (all_pass (is_own row) xs) (filter_ascends (is_own row) g.rank xs up)

  all_of_kind : (rows : List RemoteRow) → AllByRecursion (OfKind g.kind) (flat_map sides_of rows)
  all_of_kind rows = of_kind g.kind sides_of each own_ordered rows

  all_ordered : (rows : List RemoteRow) → IsAscending contents.remote_rank rows → AreOrdered side_before (flat_map sides_of rows)
  all_ordered rows rows_up = flat_ordered g.kind sides_of each own_ordered rows rows_up

module _ (s : Settings) where
  abbrev direct_ports : GivesSides BearerRow
  direct_ports = record {
    kind = 0;
    rank = contents.bearer_rank;
    remote_of = λ b. b.remote;
    side_of = λ row b. direct_side s row.goal b;
    kinds = λ row b. refl;
    remotes = λ row b. refl;
    numbers = λ row a b one lt. omega arith;
  }

  abbrev pc5_ports : GivesSides Pc5Row
  pc5_ports = record {
    kind = 1;
    rank = contents.pc5_rank;
    remote_of = λ p. p.remote;
    side_of = λ row p. pc5_side s row.goal p;
    kinds = λ row p. refl;
    remotes = λ row p. refl;
    numbers = λ row a b one lt. omega arith;
  }

  module _ (bearers : List BearerRow) (bearers_up : IsAscending contents.bearer_rank bearers) (pc5s : List Pc5Row) (pc5s_up : IsAscending contents.pc5_rank pc5s) where
    pub remote_ordered : (row : RemoteRow) → AreOrdered side_before (map (direct_side s row.goal) (filter (λ (b : BearerRow). is_remote row.remote b.remote) bearers)
        ++ map (pc5_side s row.goal) (filter (λ (p : Pc5Row). is_remote row.remote p.remote) pc5s))
    remote_ordered row = ordered_append side_before (OfRemote 0 row.remote.0) (OfRemote 1 row.remote.0) _ _
        (λ x y p q. lower_kind x.name y.name (omega (arith, p.0, q.0))) (each direct_ports bearers bearers_up row) (each pc5_ports pc5s pc5s_up row)
        (own_ordered direct_ports bearers bearers_up row) (own_ordered pc5_ports pc5s pc5s_up row)

  module _ (rows : List RemoteRow) (rows_up : IsAscending contents.remote_rank rows) (uus : List UuRow) (uus_up : IsAscending contents.uu_rank uus) where
    uus_ordered : AreOrdered side_before (map (uu_side s) uus)
    uus_ordered = ordered_map side_before contents.uu_rank (λ _. Unit {0}) (uu_side s) (λ x y p q lt. lower_number (uu_side s x).name (uu_side s y).name refl refl lt)
        uus (all_of (λ _. Unit {0}) uus (λ _. tt)) uus_up

    -- sides of another kind stand before those of Uu ports
    uus_last : (kind : ℕ) (sides : List PortSide) → kind < 2 → AllByRecursion (OfKind kind) sides → AreOrdered side_before sides → AreOrdered side_before (sides ++ map (uu_side s) uus)
    uus_last kind sides lt kinds ups = ordered_append side_before (OfKind kind) (OfKind 2) sides (map (uu_side s) uus)
        (λ x y p q. lower_kind x.name y.name (omega (arith, p, q))) kinds (all_map (uu_side s) (OfKind 2) uus (all_of (λ u. OfKind 2 (uu_side s u)) uus (λ u. refl))) ups uus_ordered

    pub relay_ordered : (pc5s : List Pc5Row) → IsAscending contents.pc5_rank pc5s
        → AreOrdered side_before (flat_map (λ (row : RemoteRow). map (pc5_side s row.goal) (filter (λ (p : Pc5Row). is_remote row.remote p.remote) pc5s)) rows ++ map (uu_side s) uus)
    relay_ordered pc5s up = uus_last 1 _ (omega arith) (all_of_kind pc5_ports pc5s up rows) (all_ordered pc5_ports pc5s up rows rows_up)

    pub gnb_ordered : (bearers : List BearerRow) → IsAscending contents.bearer_rank bearers
        → AreOrdered side_before (flat_map (λ (row : RemoteRow). map (direct_side s row.goal) (filter (λ (b : BearerRow). is_remote row.remote b.remote) bearers)) rows ++ map (uu_side s) uus)
    gnb_ordered bearers up = uus_last 0 _ (omega arith) (all_of_kind direct_ports bearers up rows) (all_ordered direct_ports bearers up rows rows_up)
