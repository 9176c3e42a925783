-- The nodes of a chain that tables open: their sides of ports and what they attach.
use Rattle.std.proofs.Common.{◌≡◌, inl, inr, ◌<◌, ◌==◌, Bool, true, false, cond, List, [], ◌∷◌, ◌++◌, filter, find, flat_map, map, Option, Some, None, is_some, option_map, refl, sym, ◌∙◌, ap, subst, arith}
use Rattle.std.specs.List.{AllByRecursion}
use Rattle.std.specs.Option.{unwrap_or, option_and_then}
use Rattle.std.proofs.lemmas.Bool.{cases_Bool, cond-true, cond-false, false≢true}
use Rattle.std.proofs.lemmas.Option.{none-some, same_Some}
use Rattle.link_base.specs.declared.names.Chan.{Chan}
use Rattle.link_base.specs.declared.names.Goal.{Goal}
use Rattle.link_base.specs.declared.names.LocalId.{LocalId}
use Rattle.link_base.specs.declared.names.Node.{Node as NodeKind}
use Rattle.link_base.specs.declared.names.Node.TheVariants as kinds
use Rattle.link_base.specs.declared.names.PortName.{PortName}
use Rattle.link_base.specs.declared.names.PortName.TheVariants.{Direct, Pc5, Uu}
use Rattle.link_base.specs.declared.names.Remote.{Remote}
use Rattle.link_base.specs.declared.names.Side.{Side}
use Rattle.link_base.specs.declared.names.Side.TheVariants.{Low, High}
use Rattle.link_base.specs.declared.names.SnSize.{SnSize}
use Rattle.bearer_map.specs.declared.ids.Attachment.{Attachment}
use Rattle.bearer_map.specs.declared.rows.BearerRow.{BearerRow}
use Rattle.bearer_map.specs.declared.rows.Pc5Row.{Pc5Row}
use Rattle.bearer_map.specs.declared.rows.RemoteRow.{RemoteRow}
use Rattle.bearer_map.specs.declared.rows.UuRow.{UuRow}
use Rattle.bearer_map.specs.Contents.{Contents, remote_rank}
use Rattle.bearer_map.specs.Order.{IsAscending}
use Rattle.rlc_model.specs.Sides.{Entity}
use Rattle.node_model.specs.Names.{NodeName, AtRemote, AtRelay, AtGnb, is_node, is_port, is_remote, node_of}
use Rattle.node_model.specs.Opening.{new_entity, new_side, direct_side, pc5_side, uu_side, bearers_of, pc5s_of, attachments, all_attached, new_remote, new_relay, new_gnb}
use Rattle.node_model.specs.State.{PortSide, Node, side_at, entity_of, entity_at, no_node, id_in}
use Rattle.node_model.specs.Tables.{settings, has_remote, is_open_on}
use Rattle.node_model.proofs.Finding.{find_passes, find_append, find_map, each_made, each_flat}
use Rattle.node_model.proofs.Names.{port_is, remote_is, remote_refl, remote_apart}
use Rattle.chain_model.specs.Places.{find_node}
use Rattle.chain_model.specs.State.{node_at, opened, entity_on}
use Rattle.chain_model.specs.Told.{first_goal}
use Rattle.chain_law.proofs.Members.{IsIn, in_two, in_many, any_found}
use Rattle.item_law.specs.State.{ToDirect, ToRelay, is_over_relay}
use Rattle.item_chain.specs.Stands.{has_uu, goal_of}

all_in : {T : Type 0} (P : T → Type 0) (xs : List T) (x : T) → AllByRecursion P xs → IsIn xs x → P x
all_in P [] x all i = absurd i
all_in P (y ∷ ys) x all (inl e) = subst P e all.0
all_in P (y ∷ ys) x all (inr i) = all_in P ys x all.1 i

-- what is found among the lists of rows is in that of one of them
flat_in : {X T : Type 0} (test : T → Bool) (f : X → List T) (xs : List X) (y : T) → find test (flat_map f xs) ≡ Some y → (x : X) × IsIn xs x × (find test (f x) ≡ Some y)
flat_in test f [] y e = absurd (none-some y e)
flat_in test f (x ∷ xs) y e = elim (find_append test (f x) (flat_map f xs) y e) [
  | inl here ↦ (x, inl refl, here)
  | inr there ↦ let z = flat_in test f xs y there in (z.0, inr z.1, z.2)
]

-- what is found among what was picked was picked
picked : {T : Type 0} (picks test : T → Bool) (xs : List T) (y : T) → find test (filter picks xs) ≡ Some y → picks y ≡ true
picked picks test [] y e = absurd (none-some y e)
picked {T} picks test (x ∷ xs) y e = elim (cases_Bool (picks x)) [
  | inr not_so ↦ picked picks test xs y (sym (ap (λ (l : List T). find test l) (cond-false (picks x) (x ∷ filter picks xs) (filter picks xs) not_so)) ∙ e)
  | inl is_so ↦ elim (cases_Bool (test x)) [
    | inl t ↦ ap picks (sym (same_Some x y (sym (cond-true (test x) (Some x) (find test (filter picks xs)) t)
        ∙ sym (ap (λ (l : List T). find test l) (cond-true (picks x) (x ∷ filter picks xs) (filter picks xs) is_so)) ∙ e))) ∙ is_so
    | inr f ↦ picked picks test xs y (sym (cond-false (test x) (Some x) (find test (filter picks xs)) f)
        ∙ sym (ap (λ (l : List T). find test l) (cond-true (picks x) (x ∷ filter picks xs) (filter picks xs) is_so)) ∙ e)
  ]
]

-- what is found among what was made was made of a row
made : {R : Type 0} (make : R → PortSide) (rows : List R) (q : PortName) (s : PortSide) → find (λ (s : PortSide). is_port q s.name) (map make rows) ≡ Some s
    → (row : R) × (find (λ (x : R). is_port q (make x).name) rows ≡ Some row) × (make row ≡ s)
made {R} make rows q s e = go (find (λ (x : R). is_port q (make x).name) rows) refl
  where
    go : (o : Option R) → find (λ (x : R). is_port q (make x).name) rows ≡ o → (row : R) × (find (λ (x : R). is_port q (make x).name) rows ≡ Some row) × (make row ≡ s)
    go None is = absurd (none-some s (sym (find_map make (λ (s : PortSide). is_port q s.name) rows ∙ ap (option_map make) is) ∙ e))
    go (Some row) is = (row, is, same_Some (make row) s (sym (find_map make (λ (s : PortSide). is_port q s.name) rows ∙ ap (option_map make) is) ∙ e))

-- what is found behind what doesn't pass
found_behind : {T : Type 0} (test : T → Bool) (xs ys : List T) → AllByRecursion (λ (x : T). test x ≡ false) xs → find test (xs ++ ys) ≡ find test ys
found_behind test [] ys none = refl
found_behind test (x ∷ xs) ys none = cond-false (test x) (Some x) (find test (xs ++ ys)) none.0 ∙ found_behind test xs ys none.1

module _ (t : Contents) where
  ---- nodes

  find_gnb : (rows : List RemoteRow) → find (λ (n : Node). is_node AtGnb n.name) (map (new_remote t) rows ++ new_relay t ∷ new_gnb t ∷ []) ≡ Some (new_gnb t)
  find_gnb [] = refl
  find_gnb (row ∷ rows) = find_gnb rows

  find_relay : (rows : List RemoteRow) → find (λ (n : Node). is_node AtRelay n.name) (map (new_remote t) rows ++ new_relay t ∷ new_gnb t ∷ []) ≡ Some (new_relay t)
  find_relay [] = refl
  find_relay (row ∷ rows) = find_relay rows

  find_remote : (r : Remote) (rows : List RemoteRow) → find (λ (n : Node). is_node (AtRemote r) n.name) (map (new_remote t) rows ++ new_relay t ∷ new_gnb t ∷ [])
      ≡ option_map (new_remote t) (find (λ (row : RemoteRow). is_remote r row.remote) rows)
  find_remote r [] = refl
  find_remote r (row ∷ rows) = elim (cases_Bool (is_remote r row.remote)) [
    | inl is ↦ cond-true (is_remote r row.remote) (Some (new_remote t row)) _ is ∙ sym
        (ap (option_map (new_remote t)) (cond-true (is_remote r row.remote) (Some row) (find (λ (x : RemoteRow). is_remote r x.remote) rows) is))
    | inr not_so ↦ cond-false (is_remote r row.remote) (Some (new_remote t row)) _ not_so ∙ find_remote r rows
        ∙ sym (ap (option_map (new_remote t)) (cond-false (is_remote r row.remote) (Some row) (find (λ (x : RemoteRow). is_remote r x.remote) rows) not_so))
  ]

  pub at_gnb : node_at (opened t) AtGnb ≡ new_gnb t
  at_gnb = ap (λ (o : Option Node). unwrap_or o (no_node AtGnb)) (find_gnb t.remotes)

  pub at_relay : node_at (opened t) AtRelay ≡ new_relay t
  at_relay = ap (λ (o : Option Node). unwrap_or o (no_node AtRelay)) (find_relay t.remotes)

  pub at_remote : (r : Remote) → node_at (opened t) (AtRemote r) ≡ unwrap_or (option_map (new_remote t) (find (λ (row : RemoteRow). is_remote r row.remote) t.remotes))
      (no_node (AtRemote r))
  at_remote r = ap (λ (o : Option Node). unwrap_or o (no_node (AtRemote r))) (find_remote r t.remotes)

  pub node_there : (r : Remote) → has_remote t r ≡ true → (kind : NodeKind) → is_some (find_node (opened t) (node_of kind r)) ≡ true
  node_there r has kinds.Relay = ap (λ (o : Option Node). is_some o) (find_relay t.remotes)
  node_there r has kinds.Gnb = ap (λ (o : Option Node). is_some o) (find_gnb t.remotes)
  node_there r has kinds.Remote =
      ap (λ (o : Option Node). is_some o) (find_remote r t.remotes ∙ ap (option_map (new_remote t)) (any_found (λ (row : RemoteRow). is_remote r row.remote) t.remotes has).1)

  ---- sides

  -- a port of a remote is open where the path of the remote is
  abbrev IsOn : Goal → Remote → PortName → Type 0
  IsOn goal remote (Direct r d) = (r ≡ remote) × (goal ≡ ToDirect)
  IsOn goal remote (Pc5 r c) = (r ≡ remote) × (is_over_relay goal ≡ true)
  IsOn goal remote (Uu c) = Unit {0}

  -- and with the paths of the tables
  abbrev pub IsFirstOn : PortName → Type 0
  IsFirstOn (Direct r d) = first_goal t r ≡ ToDirect
  IsFirstOn (Pc5 r c) = is_over_relay (first_goal t r) ≡ true
  IsFirstOn (Uu c) = Unit {0}

  -- a side holds nothing, and where it is open this is so, in epoch 0
  pub record SideBegins (on : Type 0) (s : PortSide) : Type 0 where
    pub slot : s.slot ≡ None
    pub queue : s.queue ≡ []
    pub opens : (e : Entity) → s.entity ≡ Some e → (e.epoch ≡ 0) × on

  begins : (on : Type 0) (name : PortName) (size : SnSize) (is_open : Bool) → (is_open ≡ true → on) → SideBegins on (new_side (settings t) name size is_open)
  begins on name size is_open so = record { slot = refl; queue = refl; opens = λ e is. by is_open refl e is }
    where
      by : (b : Bool) → is_open ≡ b → (e : Entity) → cond b (Some (new_entity (settings t) size 0)) None ≡ Some e → (e.epoch ≡ 0) × on
      by true is_so e is = (ap (λ (x : Entity). x.epoch) (sym (same_Some (new_entity (settings t) size 0) e is)), so is_so)
      by false not_so e is = absurd (none-some e is)

  more_begins : (a b : Type 0) (s : PortSide) → (a → b) → SideBegins a s → SideBegins b s
  more_begins a b s f x = record { slot = x.slot; queue = x.queue; opens = λ e is. let y = x.opens e is in (y.0, f y.1) }

  direct_on : (goal : Goal) (r : Remote) (row : BearerRow) → is_remote r row.remote ≡ true → is_open_on goal (Direct row.remote row.drb) ≡ true
      → IsOn goal r (Direct row.remote row.drb)
  direct_on ToDirect r row is on = (sym (remote_is r row.remote is), refl)
  direct_on (ToRelay id) r row is on = absurd (false≢true on)

  pc5_on : (goal : Goal) (r : Remote) (row : Pc5Row) → is_remote r row.remote ≡ true → is_open_on goal (Pc5 row.remote row.chan) ≡ true → IsOn goal r (Pc5 row.remote row.chan)
  pc5_on ToDirect r row is on = absurd (false≢true on)
  pc5_on (ToRelay id) r row is on = (sym (remote_is r row.remote is), refl)

  directs_begin : (goal : Goal) (r : Remote) (q : PortName) (s : PortSide) → find (λ (s : PortSide). is_port q s.name)
      (map (direct_side (settings t) goal) (bearers_of t r)) ≡ Some s → SideBegins (IsOn goal r q) s
  directs_begin goal r q s e =
      let m = made (direct_side (settings t) goal) (bearers_of t r) q s e in
      let row = m.0 in
      let name : q ≡ Direct row.remote row.drb = port_is q (Direct row.remote row.drb)
      (find_passes (λ (x : BearerRow). is_port q (Direct x.remote x.drb)) (bearers_of t r) row m.1) in
      let own = picked (λ (x : BearerRow). is_remote r x.remote) (λ (x : BearerRow). is_port q (Direct x.remote x.drb)) t.bearers row m.1 in
      subst (SideBegins (IsOn goal r q)) m.2 (subst (λ (p : PortName). SideBegins (IsOn goal r p) (direct_side (settings t) goal row)) (sym name)
      (begins (IsOn goal r (Direct row.remote row.drb)) (Direct row.remote row.drb) row.direct (is_open_on goal (Direct row.remote row.drb)) (direct_on goal r row own)))

  pc5s_begin : (goal : Goal) (r : Remote) (q : PortName) (s : PortSide) → find (λ (s : PortSide). is_port q s.name) (map (pc5_side (settings t) goal) (pc5s_of t r)) ≡ Some s
      → SideBegins (IsOn goal r q) s
  pc5s_begin goal r q s e =
      let m = made (pc5_side (settings t) goal) (pc5s_of t r) q s e in
      let row = m.0 in
      let name : q ≡ Pc5 row.remote row.chan = port_is q (Pc5 row.remote row.chan) (find_passes (λ (x : Pc5Row). is_port q (Pc5 x.remote x.chan)) (pc5s_of t r) row m.1) in
      let own = picked (λ (x : Pc5Row). is_remote r x.remote) (λ (x : Pc5Row). is_port q (Pc5 x.remote x.chan)) t.pc5s row m.1 in
      subst (SideBegins (IsOn goal r q)) m.2 (subst (λ (p : PortName). SideBegins (IsOn goal r p) (pc5_side (settings t) goal row)) (sym name)
      (begins (IsOn goal r (Pc5 row.remote row.chan)) (Pc5 row.remote row.chan) row.size (is_open_on goal (Pc5 row.remote row.chan)) (pc5_on goal r row own)))

  uus_begin : (q : PortName) (s : PortSide) → find (λ (s : PortSide). is_port q s.name) (map (uu_side (settings t)) t.uus) ≡ Some s → SideBegins (IsFirstOn q) s
  uus_begin q s e =
      let m = made (uu_side (settings t)) t.uus q s e in
      let row = m.0 in
      let name : q ≡ Uu row.chan = port_is q (Uu row.chan) (find_passes (λ (x : UuRow). is_port q (Uu x.chan)) t.uus row m.1) in
      subst (SideBegins (IsFirstOn q)) m.2 (subst (λ (p : PortName). SideBegins (IsFirstOn p) (uu_side (settings t) row)) (sym name)
      (begins (Unit {0}) (Uu row.chan) row.size true (λ yes. tt)))

  -- the path of a row's remote is that of the row
  on_first : (goal : Goal) (r : Remote) → first_goal t r ≡ goal → (q : PortName) → IsOn goal r q → IsFirstOn q
  on_first goal r is (Direct s d) on = ap (first_goal t) on.0 ∙ is ∙ on.1
  on_first goal r is (Pc5 s c) on = ap is_over_relay (ap (first_goal t) on.0 ∙ is) ∙ on.1
  on_first goal r is (Uu c) on = tt

  row_found : (rows : List RemoteRow) → IsAscending remote_rank rows → (row : RemoteRow) → IsIn rows row → find (λ (x : RemoteRow). is_remote row.remote x.remote) rows ≡ Some row
  row_found [] up row i = absurd i
  row_found (x ∷ rows) up row (inl e) =
      cond-true (is_remote row.remote x.remote) (Some x) _ (ap (is_remote row.remote) (ap (λ (y : RemoteRow). y.remote) e) ∙ remote_refl row.remote)
      ∙ ap (λ (y : RemoteRow). Some y) e
  row_found (x ∷ rows) up row (inr i) =
      let lt = all_in (λ (y : RemoteRow). x.remote.0 < y.remote.0) rows row up.0 i in
      cond-false (is_remote row.remote x.remote) (Some x) _ (remote_apart row.remote x.remote (λ e. omega (arith, lt, ap (λ (r : Remote). r.0) e))) ∙ row_found rows up.1 row i

  pub row_goal : (up : IsAscending remote_rank t.remotes) (row : RemoteRow) → IsIn t.remotes row → first_goal t row.remote ≡ row.goal
  row_goal up row i = ap (λ (o : Option RemoteRow). unwrap_or (option_map (λ (x : RemoteRow). x.goal) o) ToDirect) (row_found t.remotes up row i)

  module _ (up : IsAscending remote_rank t.remotes) where
    -- what holds of the sides of each row's list holds of all rows' lists
    many_begin : (f : RemoteRow → List PortSide) (q : PortName) (s : PortSide) → ((row : RemoteRow) → find (λ (s : PortSide). is_port q s.name) (f row) ≡ Some s
        → SideBegins (IsOn row.goal row.remote q) s)
        → find (λ (s : PortSide). is_port q s.name) (flat_map f t.remotes) ≡ Some s → SideBegins (IsFirstOn q) s
    many_begin f q s each e =
        let x = flat_in (λ (s : PortSide). is_port q s.name) f t.remotes s e in
        more_begins (IsOn x.0.goal x.0.remote q) (IsFirstOn q) s (on_first x.0.goal x.0.remote (row_goal up x.0 x.1) q) (each x.0 x.2)

    gnb_begins : (q : PortName) (s : PortSide) → side_at (new_gnb t) q ≡ Some s → SideBegins (IsFirstOn q) s
    gnb_begins q s e = elim (find_append (λ (s : PortSide). is_port q s.name) (flat_map
        (λ (row : RemoteRow). map (direct_side (settings t) row.goal) (bearers_of t row.remote)) t.remotes) (map (uu_side (settings t)) t.uus) s e) [
          | inl direct ↦ many_begin (λ (row : RemoteRow). map (direct_side (settings t) row.goal) (bearers_of t row.remote)) q s
              (λ row. directs_begin row.goal row.remote q s) direct
          | inr uu ↦ uus_begin q s uu
        ]

    relay_begins : (q : PortName) (s : PortSide) → side_at (new_relay t) q ≡ Some s → SideBegins (IsFirstOn q) s
    relay_begins q s e = elim (find_append (λ (s : PortSide). is_port q s.name) (flat_map
        (λ (row : RemoteRow). map (pc5_side (settings t) row.goal) (pc5s_of t row.remote)) t.remotes) (map (uu_side (settings t)) t.uus) s e) [
          | inl pc5 ↦ many_begin (λ (row : RemoteRow). map (pc5_side (settings t) row.goal) (pc5s_of t row.remote)) q s (λ row. pc5s_begin row.goal row.remote q s) pc5
          | inr uu ↦ uus_begin q s uu
        ]

    remote_begins : (r : Remote) (o : Option RemoteRow) → find (λ (row : RemoteRow). is_remote r row.remote) t.remotes ≡ o → (q : PortName) (s : PortSide)
        → side_at (unwrap_or (option_map (new_remote t) o) (no_node (AtRemote r))) q ≡ Some s → SideBegins (IsFirstOn q) s
    remote_begins r None is q s e = absurd (none-some s e)
    remote_begins r (Some row) is q s e =
        let same : r ≡ row.remote = remote_is r row.remote (find_passes (λ (x : RemoteRow). is_remote r x.remote) t.remotes row is) in
        let goal : first_goal t row.remote ≡ row.goal = ap (first_goal t) (sym same)
        ∙ ap (λ (o : Option RemoteRow). unwrap_or (option_map (λ (x : RemoteRow). x.goal) o) ToDirect) is in
        more_begins (IsOn row.goal row.remote q) (IsFirstOn q) s (on_first row.goal row.remote goal q)
        (elim (find_append (λ (s : PortSide). is_port q s.name) (map (direct_side (settings t) row.goal) (bearers_of t row.remote))
        (map (pc5_side (settings t) row.goal) (pc5s_of t row.remote)) s e) [
          | inl direct ↦ directs_begin row.goal row.remote q s direct
          | inr pc5 ↦ pc5s_begin row.goal row.remote q s pc5
        ])

    pub side_begins : (x : NodeName) (q : PortName) (s : PortSide) → side_at (node_at (opened t) x) q ≡ Some s → SideBegins (IsFirstOn q) s
    side_begins (AtRemote r) q s e = remote_begins r (find (λ (row : RemoteRow). is_remote r row.remote) t.remotes) refl q s
        (ap (λ (n : Node). side_at n q) (sym (at_remote r)) ∙ e)
    side_begins AtRelay q s e = relay_begins q s (ap (λ (n : Node). side_at n q) (sym at_relay) ∙ e)
    side_begins AtGnb q s e = gnb_begins q s (ap (λ (n : Node). side_at n q) (sym at_gnb) ∙ e)

  -- the sides of Uu ports are open
  uu_side_there : (chan : Chan) (before : List PortSide) → AllByRecursion (λ (s : PortSide). is_port (Uu chan) s.name ≡ false) before → has_uu t chan ≡ true
      → (s : PortSide) × (find (λ (s : PortSide). is_port (Uu chan) s.name) (before ++ map (uu_side (settings t)) t.uus) ≡ Some s) × (is_some s.entity ≡ true)
  uu_side_there chan before none has =
      let row = any_found (λ (row : UuRow). chan.0 == row.chan.0) t.uus has in (
        uu_side (settings t) row.0,
        found_behind (λ (s : PortSide). is_port (Uu chan) s.name) before (map (uu_side (settings t)) t.uus) none
            ∙ find_map (uu_side (settings t)) (λ (s : PortSide). is_port (Uu chan) s.name) t.uus ∙ ap (option_map (uu_side (settings t))) row.1,
        refl,
      )

  opens_there : (n : Node) (chan : Chan) (s : PortSide) → side_at n (Uu chan) ≡ Some s → is_some s.entity ≡ true → is_some (entity_at n (Uu chan)) ≡ true
  opens_there n chan s there some = ap (λ (o : Option PortSide). is_some (option_and_then entity_of o)) there ∙ some

  pub uu_opens : (side : Side) (chan : Chan) → has_uu t chan ≡ true → is_some (entity_on (opened t) side (Uu chan)) ≡ true
  uu_opens Low chan has =
      let none = each_flat (λ (s : PortSide). is_port (Uu chan) s.name ≡ false) (λ (row : RemoteRow). map (pc5_side (settings t) row.goal) (pc5s_of t row.remote))
      (λ row. each_made (λ (s : PortSide). is_port (Uu chan) s.name ≡ false) (pc5_side (settings t) row.goal) (λ x. refl) (pc5s_of t row.remote)) t.remotes in
      let s = uu_side_there chan (flat_map (λ (row : RemoteRow). map (pc5_side (settings t) row.goal) (pc5s_of t row.remote)) t.remotes) none has in
      ap (λ (n : Node). is_some (entity_at n (Uu chan))) at_relay ∙ opens_there (new_relay t) chan s.0 s.1 s.2
  uu_opens High chan has =
      let none = each_flat (λ (s : PortSide). is_port (Uu chan) s.name ≡ false) (λ (row : RemoteRow). map (direct_side (settings t) row.goal) (bearers_of t row.remote))
      (λ row. each_made (λ (s : PortSide). is_port (Uu chan) s.name ≡ false) (direct_side (settings t) row.goal) (λ x. refl) (bearers_of t row.remote)) t.remotes in
      let s = uu_side_there chan (flat_map (λ (row : RemoteRow). map (direct_side (settings t) row.goal) (bearers_of t row.remote)) t.remotes) none has in
      ap (λ (n : Node). is_some (entity_at n (Uu chan))) at_gnb ∙ opens_there (new_gnb t) chan s.0 s.1 s.2

  ---- attachments

  skips : (r q : Remote) (goal : Goal) (more : List Attachment) → is_remote r q ≡ false → id_in (attachments q goal ++ more) r ≡ id_in more r
  skips r q ToDirect more not_so = refl
  skips r q (ToRelay id) more not_so = cond-false (is_remote r q) (Some id) (id_in more r) not_so

  abbrev ids_of : List RemoteRow → List Attachment
  ids_of rows = flat_map (λ (row : RemoteRow). attachments row.remote row.goal) rows

  none_in : (r : Remote) (rows : List RemoteRow) → AllByRecursion (λ (y : RemoteRow). r.0 < y.remote.0) rows → id_in (ids_of rows) r ≡ None
  none_in r [] all = refl
  none_in r (row ∷ rows) all = skips r row.remote row.goal (ids_of rows) (remote_apart r row.remote (λ e. omega (arith, all.0, ap (λ (x : Remote). x.0) e))) ∙ none_in r rows all.1

  id_own : (r q : Remote) (goal : Goal) (more : List Attachment) → is_remote r q ≡ true → id_in more r ≡ None → goal_of (id_in (attachments q goal ++ more) r) ≡ goal
  id_own r q ToDirect more is_so none = ap goal_of none
  id_own r q (ToRelay id) more is_so none = ap goal_of (cond-true (is_remote r q) (Some id) (id_in more r) is_so)

  ids_goal : (r : Remote) (rows : List RemoteRow) → IsAscending remote_rank rows
      → goal_of (id_in (ids_of rows) r) ≡ unwrap_or (option_map (λ (x : RemoteRow). x.goal) (find (λ (row : RemoteRow). is_remote r row.remote) rows)) ToDirect
  ids_goal r [] up = refl
  ids_goal r (row ∷ rows) up = elim (cases_Bool (is_remote r row.remote)) [
    | inl is_so ↦ id_own r row.remote row.goal (ids_of rows) is_so
        (none_in r rows (subst (λ (x : Remote). AllByRecursion (λ (y : RemoteRow). x.0 < y.remote.0) rows) (sym (remote_is r row.remote is_so)) up.0))
        ∙ sym (ap (λ (o : Option RemoteRow). unwrap_or (option_map (λ (x : RemoteRow). x.goal) o) ToDirect) (cond-true (is_remote r row.remote) (Some row) _ is_so))
    | inr not_so ↦ ap goal_of (skips r row.remote row.goal (ids_of rows) not_so) ∙ ids_goal r rows up.1
        ∙ sym (ap (λ (o : Option RemoteRow). unwrap_or (option_map (λ (x : RemoteRow). x.goal) o) ToDirect) (cond-false (is_remote r row.remote) (Some row) _ not_so))
  ]

  -- an attachment is one of the path
  of_goal : (q : Remote) (goal : Goal) (a : Attachment) → IsIn (attachments q goal) a → (id : LocalId) × (goal ≡ ToRelay id) × (a.remote ≡ q) × (a.id ≡ id)
  of_goal q ToDirect a i = absurd i
  of_goal q (ToRelay id) a (inl e) = (id, refl, ap (λ (x : Attachment). x.remote) (sym e), ap (λ (x : Attachment). x.id) (sym e))
  of_goal q (ToRelay id) a (inr i) = absurd i

  finds : (rows : List RemoteRow) → IsAscending remote_rank rows → (a : Attachment) → IsIn (ids_of rows) a → id_in (ids_of rows) a.remote ≡ Some a.id
  finds [] up a i = absurd i
  finds (row ∷ rows) up a i = elim (in_two (attachments row.remote row.goal) (ids_of rows) a i) [
    | inl here ↦
        let o = of_goal row.remote row.goal a here in
        ap (λ (g : Goal). id_in (attachments row.remote g ++ ids_of rows) a.remote) o.1
        ∙ cond-true (is_remote a.remote row.remote) (Some o.0) (id_in (ids_of rows) a.remote) (ap (λ (x : Remote). is_remote x row.remote) o.2 ∙ remote_refl row.remote)
        ∙ ap (λ (x : LocalId). Some x) (sym o.3)
    | inr there ↦
        let m = in_many (λ (x : RemoteRow). attachments x.remote x.goal) rows a there in
        let o = of_goal m.0.remote m.0.goal a m.2 in
        let lt = all_in (λ (y : RemoteRow). row.remote.0 < y.remote.0) rows m.0 up.0 m.1 in
        skips a.remote row.remote row.goal (ids_of rows) (remote_apart a.remote row.remote (λ e. omega (arith, lt, ap (λ (x : Remote). x.0) e, ap (λ (x : Remote). x.0) o.2)))
        ∙ finds rows up.1 a there
  ]

  pub gnb_ids : IsAscending remote_rank t.remotes → (r : Remote) → goal_of (id_in (all_attached t) r) ≡ first_goal t r
  gnb_ids up r = ids_goal r t.remotes up

  pub gnb_agrees : IsAscending remote_rank t.remotes → (a : Attachment) → IsIn (all_attached t) a → id_in (all_attached t) a.remote ≡ Some a.id
  gnb_agrees up a i = finds t.remotes up a i

  pub remote_ids : (r : Remote) (o : Option RemoteRow) → find (λ (row : RemoteRow). is_remote r row.remote) t.remotes ≡ o
      → goal_of (id_in (unwrap_or (option_map (new_remote t) o) (no_node (AtRemote r))).attached r) ≡ first_goal t r
  remote_ids r None is = sym (ap (λ (o : Option RemoteRow). unwrap_or (option_map (λ (x : RemoteRow). x.goal) o) ToDirect) is)
  remote_ids r (Some row) is =
      own row.goal (find_passes (λ (x : RemoteRow). is_remote r x.remote) t.remotes row is)
      ∙ sym (ap (λ (o : Option RemoteRow). unwrap_or (option_map (λ (x : RemoteRow). x.goal) o) ToDirect) is)
    where
      own : (g : Goal) → is_remote r row.remote ≡ true → goal_of (id_in (attachments row.remote g) r) ≡ g
      own ToDirect is_so = refl
      own (ToRelay id) is_so = ap goal_of (cond-true (is_remote r row.remote) (Some id) None is_so)

  pub remote_agrees : (r : Remote) (o : Option RemoteRow) (a : Attachment) → IsIn (unwrap_or (option_map (new_remote t) o) (no_node (AtRemote r))).attached a
      → id_in (unwrap_or (option_map (new_remote t) o) (no_node (AtRemote r))).attached a.remote ≡ Some a.id
  remote_agrees r None a i = absurd i
  remote_agrees r (Some row) a i =
      let o = of_goal row.remote row.goal a i in
      ap (λ (g : Goal). id_in (attachments row.remote g) a.remote) o.1
      ∙ cond-true (is_remote a.remote row.remote) (Some o.0) None (ap (λ (x : Remote). is_remote x row.remote) o.2 ∙ remote_refl row.remote)
      ∙ ap (λ (x : LocalId). Some x) (sym o.3)
