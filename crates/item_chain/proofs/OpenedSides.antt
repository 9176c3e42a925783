-- The sides of ports where tables open a chain: both sides of each port are there, and those on the paths of the tables are open.
use Rattle.std.proofs.Common.{◌≡◌, inl, inr, ◌==◌, ◌&&◌, Bool, true, List, [], ◌∷◌, filter, find, flat_map, map, Option, Some, None, is_some, option_map, option_and_then}
use Rattle.std.proofs.Common.{refl, sym, ◌∙◌, ap, subst}
use Rattle.std.specs.List.{list_any}
use Rattle.std.specs.Option.{unwrap_or}
use Rattle.std.proofs.lemmas.Bool.{cases_Bool, cond-true, cond-false, false≢true, true≢false, and_parts}
use Rattle.std.proofs.lemmas.Option.{none-some}
use Rattle.link_base.specs.declared.names.Chan.{Chan}
use Rattle.link_base.specs.declared.names.Drb.{Drb}
use Rattle.link_base.specs.declared.names.Goal.{Goal}
use Rattle.link_base.specs.declared.names.Goal.TheVariants.{Direct as ToDirect, Relay as ToRelay}
use Rattle.link_base.specs.declared.names.PortName.{PortName}
use Rattle.link_base.specs.declared.names.PortName.TheVariants.{Direct, Pc5, Uu}
use Rattle.link_base.specs.declared.names.Remote.{Remote}
use Rattle.link_base.specs.declared.names.Side.{Side}
use Rattle.link_base.specs.declared.names.Side.TheVariants.{Low, High}
use Rattle.bearer_map.specs.declared.rows.BearerRow.{BearerRow}
use Rattle.bearer_map.specs.declared.rows.Pc5Row.{Pc5Row}
use Rattle.bearer_map.specs.declared.rows.RemoteRow.{RemoteRow}
use Rattle.bearer_map.specs.Contents.{Contents, remote_rank}
use Rattle.bearer_map.specs.Order.{IsAscending}
use Rattle.node_model.specs.Names.{NodeName, AtRemote, AtRelay, AtGnb, is_port, is_remote, owner}
use Rattle.node_model.specs.Opening.{direct_side, pc5_side, uu_side, bearers_of, pc5s_of, new_remote, new_relay, new_gnb}
use Rattle.node_model.specs.State.{PortSide, Node, side_at, entity_of, no_node}
use Rattle.node_model.specs.Tables.{settings, has_remote}
use Rattle.node_model.proofs.Finding.{find_passes}
use Rattle.node_model.proofs.Names.{port_is, remote_is}
use Rattle.chain_model.specs.State.{node_at, opened}
use Rattle.chain_model.specs.Told.{first_goal}
use Rattle.chain_law.proofs.Members.{IsIn, any_found, contained, in_two, in_first, in_second, in_made, made_in, in_picked, in_many}
use Rattle.item_law.specs.State.{is_over_relay}
use Rattle.item_chain.specs.Stands.{row_of, has_port}
use Rattle.item_chain.proofs.OpenedNodes.{at_gnb, at_relay, at_remote, IsFirstOn, row_goal, uu_opens}
use Rattle.item_chain.proofs.Receives.{some_is}
use Rattle.item_chain.proofs.Unrouted.{find_among}

-- what passes a test is found, or another that does
pub found_in : {T : Type 0} (test : T → Bool) (xs : List T) (x : T) → IsIn xs x → test x ≡ true → (y : T) × (find test xs ≡ Some y) × IsIn xs y × (test y ≡ true)
found_in test [] x i is = absurd i
found_in test (z ∷ xs) x i is = elim (cases_Bool (test z)) [
  | inl here ↦ (z, cond-true (test z) (Some z) (find test xs) here, inl refl, here)
  | inr other ↦ elim i [
    | inl same ↦ absurd (true≢false (sym is ∙ sym (ap test same) ∙ other))
    | inr later ↦
        let y = found_in test xs x later is in
        (y.0, cond-false (test z) (Some z) (find test xs) other ∙ y.1, inr y.2, y.3)
  ]
]

picked_in : {T : Type 0} (picks : T → Bool) (xs : List T) (x : T) → IsIn xs x → picks x ≡ true → IsIn (filter picks xs) x
picked_in picks [] x i is = absurd i
picked_in {T} picks (y ∷ xs) x (inl same) is =
    subst (λ (ys : List T). IsIn ys x) (sym (cond-true (picks y) (y ∷ filter picks xs) (filter picks xs) (ap picks same ∙ is))) (inl same)
picked_in {T} picks (y ∷ xs) x (inr later) is = elim (cases_Bool (picks y)) [
  | inl here ↦ subst (λ (ys : List T). IsIn ys x) (sym (cond-true (picks y) (y ∷ filter picks xs) (filter picks xs) here)) (inr (picked_in picks xs x later is))
  | inr other ↦ subst (λ (ys : List T). IsIn ys x) (sym (cond-false (picks y) (y ∷ filter picks xs) (filter picks xs) other)) (picked_in picks xs x later is)
]

many_in : {X T : Type 0} (make : X → List T) (xs : List X) (x : X) (y : T) → IsIn xs x → IsIn (make x) y → IsIn (flat_map make xs) y
many_in make [] x y i j = absurd i
many_in {X} {T} make (z ∷ xs) x y (inl same) j = in_first (make z) (flat_map make xs) y (subst (λ (w : X). IsIn (make w) y) (sym same) j)
many_in make (z ∷ xs) x y (inr later) j = in_second (make z) (flat_map make xs) y (many_in make xs x y later j)

-- a side is open
abbrev IsOpened : PortSide → Type 0
IsOpened s = is_some s.entity ≡ true

-- a node that has a side of a port's name has one of the port
side_in : (n : Node) (q : PortName) (s : PortSide) → IsIn n.ports s → is_port q s.name ≡ true → is_some (side_at n q) ≡ true
side_in n q s i named = ap (λ (o : Option PortSide). is_some o) (found_in (λ (s : PortSide). is_port q s.name) n.ports s i named).1

module _ (t : Contents) (q : PortName) (on : IsFirstOn t q) where
  direct_opens : (goal : Goal) (row : BearerRow) → first_goal t row.remote ≡ goal → is_port q (Direct row.remote row.drb) ≡ true → IsOpened (direct_side (settings t) goal row)
  direct_opens goal row its named = by goal (sym its ∙ subst (IsFirstOn t) (port_is q (Direct row.remote row.drb) named) on)
    where
      no_relay : {id : _} → ToRelay id ≡ ToDirect → ⊥
      no_relay e = cc

      by : (g : Goal) → g ≡ ToDirect → IsOpened (direct_side (settings t) g row)
      by ToDirect is = refl
      by (ToRelay id) is = absurd (no_relay is)

  pc5_opens : (goal : Goal) (row : Pc5Row) → first_goal t row.remote ≡ goal → is_port q (Pc5 row.remote row.chan) ≡ true → IsOpened (pc5_side (settings t) goal row)
  pc5_opens goal row its named = by goal (ap is_over_relay (sym its) ∙ subst (IsFirstOn t) (port_is q (Pc5 row.remote row.chan) named) on)
    where
      by : (g : Goal) → is_over_relay g ≡ true → IsOpened (pc5_side (settings t) g row)
      by ToDirect is = absurd (false≢true is)
      by (ToRelay id) is = refl

  of_directs : (goal : Goal) (r : Remote) → first_goal t r ≡ goal → (s : PortSide) → IsIn (map (direct_side (settings t) goal) (bearers_of t r)) s
      → is_port q s.name ≡ true → IsOpened s
  of_directs goal r its s i named =
      let m = in_made (direct_side (settings t) goal) (bearers_of t r) s i in
      let own = in_picked (λ (x : BearerRow). is_remote r x.remote) t.bearers m.0 m.1 in
      subst IsOpened m.2 (direct_opens goal m.0 (ap (first_goal t) (sym (remote_is r m.0.remote own.1)) ∙ its) (ap (λ (x : PortSide). is_port q x.name) m.2 ∙ named))

  of_pc5s : (goal : Goal) (r : Remote) → first_goal t r ≡ goal → (s : PortSide) → IsIn (map (pc5_side (settings t) goal) (pc5s_of t r)) s → is_port q s.name ≡ true → IsOpened s
  of_pc5s goal r its s i named =
      let m = in_made (pc5_side (settings t) goal) (pc5s_of t r) s i in
      let own = in_picked (λ (x : Pc5Row). is_remote r x.remote) t.pc5s m.0 m.1 in
      subst IsOpened m.2 (pc5_opens goal m.0 (ap (first_goal t) (sym (remote_is r m.0.remote own.1)) ∙ its) (ap (λ (x : PortSide). is_port q x.name) m.2 ∙ named))

  of_uus : (s : PortSide) → IsIn (map (uu_side (settings t)) t.uus) s → IsOpened s
  of_uus s i = let m = in_made (uu_side (settings t)) t.uus s i in subst IsOpened m.2 refl

  -- of the nodes
  of_remote : (row : RemoteRow) → first_goal t row.remote ≡ row.goal → (s : PortSide) → IsIn (new_remote t row).ports s → is_port q s.name ≡ true → IsOpened s
  of_remote row its s i named = elim (in_two (map (direct_side (settings t) row.goal) (bearers_of t row.remote))
      (map (pc5_side (settings t) row.goal) (pc5s_of t row.remote)) s i) [
        | inl direct ↦ of_directs row.goal row.remote its s direct named
        | inr pc5 ↦ of_pc5s row.goal row.remote its s pc5 named
      ]

  module _ (up : IsAscending remote_rank t.remotes) where
    of_relay : (s : PortSide) → IsIn (new_relay t).ports s → is_port q s.name ≡ true → IsOpened s
    of_relay s i named =
        let rows = λ (row : RemoteRow). map (pc5_side (settings t) row.goal) (pc5s_of t row.remote) in
        elim (in_two (flat_map rows t.remotes) (map (uu_side (settings t)) t.uus) s i) [
          | inl pc5 ↦ let m = in_many rows t.remotes s pc5 in of_pc5s m.0.goal m.0.remote (row_goal t up m.0 m.1) s m.2 named
          | inr uu ↦ of_uus s uu
        ]

    of_gnb : (s : PortSide) → IsIn (new_gnb t).ports s → is_port q s.name ≡ true → IsOpened s
    of_gnb s i named =
        let rows = λ (row : RemoteRow). map (direct_side (settings t) row.goal) (bearers_of t row.remote) in
        elim (in_two (flat_map rows t.remotes) (map (uu_side (settings t)) t.uus) s i) [
          | inl direct ↦ let m = in_many rows t.remotes s direct in of_directs m.0.goal m.0.remote (row_goal t up m.0 m.1) s m.2 named
          | inr uu ↦ of_uus s uu
        ]

module _ (t : Contents) (up : IsAscending remote_rank t.remotes) where
  -- a side on the path of the tables is open
  found_open : (n : Node) (q : PortName) (s : PortSide) → ((s : PortSide) → IsIn n.ports s → is_port q s.name ≡ true → IsOpened s) → side_at n q ≡ Some s → IsOpened s
  found_open n q s each is =
      each s (contained n.ports s (find_among (λ (s : PortSide). is_port q s.name) n.ports s is)) (find_passes (λ (s : PortSide). is_port q s.name) n.ports s is)

  its_goal : (r : Remote) (own : RemoteRow) → find (λ (row : RemoteRow). is_remote r row.remote) t.remotes ≡ Some own → first_goal t own.remote ≡ own.goal
  its_goal r own found = row_goal t up own (contained t.remotes own (find_among (λ (row : RemoteRow). is_remote r row.remote) t.remotes own found))

  pub side_open : (x : NodeName) (q : PortName) (s : PortSide) → IsFirstOn t q → side_at (node_at (opened t) x) q ≡ Some s → IsOpened s
  side_open AtRelay q s on is = found_open (new_relay t) q s (of_relay t q on up) (ap (λ (n : Node). side_at n q) (sym (at_relay t)) ∙ is)
  side_open AtGnb q s on is = found_open (new_gnb t) q s (of_gnb t q on up) (ap (λ (n : Node). side_at n q) (sym (at_gnb t)) ∙ is)
  side_open (AtRemote r) q s on is = by (find (λ (row : RemoteRow). is_remote r row.remote) t.remotes) refl
      (ap (λ (n : Node). side_at n q) (sym (at_remote t r)) ∙ is)
    where
      by : (o : Option RemoteRow) → find (λ (row : RemoteRow). is_remote r row.remote) t.remotes ≡ o
          → side_at (unwrap_or (option_map (new_remote t) o) (no_node (AtRemote r))) q ≡ Some s → IsOpened s
      by None found here = absurd (none-some s here)
      by (Some own) found here = found_open (new_remote t own) q s (of_remote t q on own (its_goal r own found)) here

  -- the ports of a remote
  module _ (r : Remote) (known : has_remote t r ≡ true) where
    abbrev own : RemoteRow
    own = (any_found (λ (row : RemoteRow). is_remote r row.remote) t.remotes known).0

    found : find (λ (row : RemoteRow). is_remote r row.remote) t.remotes ≡ Some own
    found = (any_found (λ (row : RemoteRow). is_remote r row.remote) t.remotes known).1

    same : r ≡ own.remote
    same = remote_is r own.remote (find_passes (λ (row : RemoteRow). is_remote r row.remote) t.remotes own found)

    among : IsIn t.remotes own
    among = contained t.remotes own (find_among (λ (row : RemoteRow). is_remote r row.remote) t.remotes own found)

    at_own : node_at (opened t) (AtRemote r) ≡ new_remote t own
    at_own = at_remote t r ∙ ap (λ (o : Option RemoteRow). unwrap_or (option_map (new_remote t) o) (no_node (AtRemote r))) found

    abbrev own_directs : List PortSide
    own_directs = map (direct_side (settings t) own.goal) (bearers_of t own.remote)

    abbrev own_pc5s : List PortSide
    own_pc5s = map (pc5_side (settings t) own.goal) (pc5s_of t own.remote)

    of_own : (q : Remote) → is_remote r q ≡ true → is_remote own.remote q ≡ true
    of_own q is = ap (λ (x : Remote). is_remote x q) (sym same) ∙ is

    module _ (d : Drb) (row : BearerRow) (its : row_of t r d ≡ Some row) where
      direct_passes : (is_remote r row.remote && (d.0 == row.drb.0)) ≡ true
      direct_passes = find_passes (λ (b : BearerRow). is_remote r b.remote && (d.0 == b.drb.0)) t.bearers row its

      mine_direct : IsIn own_directs (direct_side (settings t) own.goal row)
      mine_direct = made_in (direct_side (settings t) own.goal) (bearers_of t own.remote) row
          (picked_in (λ (b : BearerRow). is_remote own.remote b.remote) t.bearers row
          (contained t.bearers row (find_among (λ (b : BearerRow). is_remote r b.remote && (d.0 == b.drb.0)) t.bearers row its))
          (of_own row.remote (and_parts (is_remote r row.remote) (d.0 == row.drb.0) direct_passes).0))

      direct_there : (side : Side) → is_some (side_at (node_at (opened t) (owner side (Direct r d))) (Direct r d)) ≡ true
      direct_there Low = ap (λ (n : Node). is_some (side_at n (Direct r d))) at_own
          ∙ side_in (new_remote t own) (Direct r d) (direct_side (settings t) own.goal row) (in_first own_directs own_pc5s _ mine_direct) direct_passes
      direct_there High =
          let rows = λ (row : RemoteRow). map (direct_side (settings t) row.goal) (bearers_of t row.remote) in
          ap (λ (n : Node). is_some (side_at n (Direct r d))) (at_gnb t)
          ∙ side_in (new_gnb t) (Direct r d) (direct_side (settings t) own.goal row)
          (in_first (flat_map rows t.remotes) (map (uu_side (settings t)) t.uus) _ (many_in rows t.remotes own _ among mine_direct)) direct_passes

    module _ (c : Chan) (row : Pc5Row) (its : find (λ (row : Pc5Row). is_remote r row.remote && (c.0 == row.chan.0)) t.pc5s ≡ Some row) where
      pc5_passes : (is_remote r row.remote && (c.0 == row.chan.0)) ≡ true
      pc5_passes = find_passes (λ (b : Pc5Row). is_remote r b.remote && (c.0 == b.chan.0)) t.pc5s row its

      mine_pc5 : IsIn own_pc5s (pc5_side (settings t) own.goal row)
      mine_pc5 = made_in (pc5_side (settings t) own.goal) (pc5s_of t own.remote) row (picked_in (λ (b : Pc5Row). is_remote own.remote b.remote) t.pc5s row
          (contained t.pc5s row (find_among (λ (b : Pc5Row). is_remote r b.remote && (c.0 == b.chan.0)) t.pc5s row its))
          (of_own row.remote (and_parts (is_remote r row.remote) (c.0 == row.chan.0) pc5_passes).0))

      pc5_there : (side : Side) → is_some (side_at (node_at (opened t) (owner side (Pc5 r c))) (Pc5 r c)) ≡ true
      pc5_there Low = ap (λ (n : Node). is_some (side_at n (Pc5 r c))) at_own
          ∙ side_in (new_remote t own) (Pc5 r c) (pc5_side (settings t) own.goal row) (in_second own_directs own_pc5s _ mine_pc5) pc5_passes
      pc5_there High =
          let rows = λ (row : RemoteRow). map (pc5_side (settings t) row.goal) (pc5s_of t row.remote) in
          ap (λ (n : Node). is_some (side_at n (Pc5 r c))) (at_relay t)
          ∙ side_in (new_relay t) (Pc5 r c) (pc5_side (settings t) own.goal row)
          (in_first (flat_map rows t.remotes) (map (uu_side (settings t)) t.uus) _ (many_in rows t.remotes own _ among mine_pc5)) pc5_passes

  -- an open side is there
  open_there : (o : Option PortSide) → is_some (option_and_then entity_of o) ≡ true → is_some o ≡ true
  open_there None is = is
  open_there (Some s) is = refl

  -- both sides of each port of the tables are there
  pub both_there : (side : Side) (q : PortName) → has_port t q ≡ true → is_some (side_at (node_at (opened t) (owner side q)) q) ≡ true
  both_there side (Direct r d) has =
      let parts = and_parts (has_remote t r) (is_some (row_of t r d)) has in
      let row = some_is (row_of t r d) parts.1 in
      direct_there r parts.0 d row.0 row.1 side
  both_there side (Pc5 r c) has =
      let parts = and_parts (has_remote t r) (list_any (λ (row : Pc5Row). is_remote r row.remote && (c.0 == row.chan.0)) t.pc5s) has in
      let row = any_found (λ (row : Pc5Row). is_remote r row.remote && (c.0 == row.chan.0)) t.pc5s parts.1 in
      pc5_there r parts.0 c row.0 row.1 side
  both_there side (Uu c) has = open_there (side_at (node_at (opened t) (owner side (Uu c))) (Uu c)) (uu_opens t side c has)
