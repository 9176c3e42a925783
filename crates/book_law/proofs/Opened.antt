-- The chain that tables open has both ends of each key of a bearer, and nothing has happened there.
use Rattle.std.proofs.Common.{◌≡◌, inl, inr, ℕ, zero, suc, ◌<◌, ◌==◌, Bool, true, false, ◌||◌, List, [], ◌∷◌, ◌++◌, map, filter, flat_map, find, Some, Contains, refl, sym, ◌∙◌, ap, subst, arith}
use Rattle.std.specs.List.{AllByRecursion}
use Rattle.std.proofs.lemmas.Bool.{cases_Bool, cond-true, cond-false, true≢false, eq-eqb, ne_eqb}
use Rattle.link_base.specs.declared.names.Remote.{Remote}
use Rattle.link_base.specs.declared.names.Drb.{Drb}
use Rattle.link_base.specs.declared.names.Key.{Key}
use Rattle.link_base.specs.declared.names.Way.{Way}
use Rattle.link_base.specs.declared.names.Way.TheVariants.{Ul, Dl}
use Rattle.bearer_map.specs.declared.rows.RemoteRow.{RemoteRow}
use Rattle.bearer_map.specs.declared.rows.BearerRow.{BearerRow}
use Rattle.bearer_map.specs.Order.{has_row, IsAscending}
use Rattle.bearer_map.specs.Contents.{Contents, remote_rank, bearer_rank, pair}
use Rattle.pdcp_model.specs.Sender.{new_sender}
use Rattle.pdcp_model.specs.Receiver.{new_receiver}
use Rattle.node_model.specs.Names.{NodeName, AtRemote, AtRelay, AtGnb, is_remote, is_node, is_key, key_of, source, sink}
use Rattle.node_model.specs.State.{Incoming, Outgoing, Node, outgoing_at, incoming_at}
use Rattle.node_model.specs.Opening.{bearers_of, new_outgoing, new_incoming, new_remote, new_relay, new_gnb}
use Rattle.node_model.specs.Tables.{keys, keys_of_row, first_count}
use Rattle.node_model.proofs.Names.{remote_is, remote_refl, key_is, key_refl, key_apart}
use Rattle.chain_model.specs.State.{opened}
use Rattle.chain_model.specs.Carried.{IsRowOf}
use Rattle.chain_model.specs.Places.{find_node}
use Rattle.book_law.specs.Past.{AreTables}
use Rattle.book_law.proofs.Moves.{HasEnds}
use Rattle.book_law.proofs.Events.{StandsOnce}

-- the row of a key in its words
row_key : (t : Contents) (k : Key) (row : BearerRow) → IsRowOf t k row → key_of row.remote row.drb k.way ≡ k
row_key t k row its = ap (λ r. key_of r row.drb k.way) its.remote ∙ ap (λ d. key_of k.remote d k.way) its.drb

-- what holds of each row holds of one of them
pub member : {X : Type 0} (P : X → Type 0) (xs : List X) (x : X) → AllByRecursion P xs → Contains xs x → P x
member P [] x all m = absurd (omega (arith, m.1))
member P (y ∷ xs) x all (zero, lt, same) = subst P same all.0
member P (y ∷ xs) x all (suc n, lt, same) = member P xs x all.1 (n, omega arith, same)

-- rows of one rank are one
one_of_rank : {X : Type 0} (rank : X → ℕ) (xs : List X) (x : X) → IsAscending rank xs → Contains xs x → AllByRecursion (λ y. rank y ≡ rank x → y ≡ x) xs
one_of_rank rank [] x up m = tt
one_of_rank rank (y ∷ xs) x up (zero, lt, same) = (λ e. same, later xs up.0)
  where
    later : (ys : List _) → AllByRecursion (λ z. rank y < rank z) ys → AllByRecursion (λ z. rank z ≡ rank x → z ≡ x) ys
    later [] all = tt
    later (z ∷ ys) all = (λ e. absurd (omega (arith, all.0, e, ap rank same)), later ys all.1)
one_of_rank rank (y ∷ xs) x up (suc n, lt, same) =
    let there : Contains xs x = (n, omega arith, same) in
    let low : rank y < rank x = member (λ z. rank y < rank z) xs x up.0 there in
    (λ e. absurd (omega (arith, low, e)), one_of_rank rank xs x up.1 there)

-- of rows that were picked and made into items, the one of a name
find_picked : {X T : Type 0} (keeps : X → Bool) (make : X → T) (test : T → Bool) (x : X) → keeps x ≡ true → test (make x) ≡ true → (rows : List X) → Contains rows x → AllByRecursion (λ y. test (make y) ≡ true → y ≡ x) rows
    → find test (map make (filter keeps rows)) ≡ Some (make x)
find_picked keeps make test x kept is [] m one = absurd (omega (arith, m.1))
find_picked keeps make test x kept is (y ∷ rows) m one = elim (cases_Bool (keeps y)) [
  | inl k ↦ ap (λ l. find test (map make l)) (cond-true (keeps y) (y ∷ filter keeps rows) (filter keeps rows) k) ∙ elim (cases_Bool (test (make y))) [
    | inl t ↦ cond-true (test (make y)) (Some (make y)) (find test (map make (filter keeps rows))) t ∙ ap (λ z. Some (make z)) (one.0 t)
    | inr f ↦ cond-false (test (make y)) (Some (make y)) (find test (map make (filter keeps rows))) f ∙ find_picked keeps make test x kept is rows (behind m (λ same. true≢false (sym is ∙ ap (λ z. test (make z)) (sym same) ∙ f))) one.1
  ]
  | inr n ↦ ap (λ l. find test (map make l)) (cond-false (keeps y) (y ∷ filter keeps rows) (filter keeps rows) n) ∙ find_picked keeps make test x kept is rows (behind m (λ same. true≢false (sym kept ∙ ap keeps (sym same) ∙ n))) one.1
]
  where
    behind : Contains (y ∷ rows) x → (y ≡ x → ⊥) → Contains rows x
    behind (zero, lt, same) ne = absurd (ne same)
    behind (suc n, lt, same) ne = (n, omega arith, same)

-- all rows are picked
keeps_each : {X : Type 0} (rows : List X) → filter (λ x. true) rows ≡ rows
keeps_each [] = refl
keeps_each (x ∷ rows) = ap (λ l. x ∷ l) (keeps_each rows)

-- the gNB
find_gnb : (t : Contents) (rows : List RemoteRow) → find (λ (n : Node). is_node AtGnb n.name) (map (new_remote t) rows ++ new_relay t ∷ new_gnb t ∷ []) ≡ Some (new_gnb t)
find_gnb t [] = refl
find_gnb t (row ∷ rows) = find_gnb t rows

-- a remote
find_remote : (t : Contents) (remote : Remote) (rows : List RemoteRow) → has_row remote_rank rows remote.0 ≡ true
    → (row : RemoteRow) × (find (λ (n : Node). is_node (AtRemote remote) n.name) (map (new_remote t) rows ++ new_relay t ∷ new_gnb t ∷ []) ≡ Some (new_remote t row)) × (row.remote ≡ remote)
find_remote t remote [] has = absurd (true≢false (sym has))
find_remote t remote (row ∷ rows) has = elim (cases_Bool (is_remote remote row.remote)) [
  | inl is ↦ (row, cond-true (is_remote remote row.remote) (Some (new_remote t row)) _ is, sym (remote_is remote row.remote is))
  | inr no_match ↦
      let other : (row.remote.0 == remote.0) ≡ false = ne_eqb _ _ (λ e. true≢false (sym (eq-eqb remote.0 row.remote.0 (sym e)) ∙ no_match)) in
      let rest : has_row remote_rank rows remote.0 ≡ true = ap (λ (b : Bool). b || has_row remote_rank rows remote.0) (sym other) ∙ has in
      let found = find_remote t remote rows rest in
      (found.0, cond-false (is_remote remote row.remote) (Some (new_remote t row)) _ no_match ∙ found.1, found.2)
]

module _ (t : Contents) (are : AreTables t) (k : Key) (row : BearerRow) (its : IsRowOf t k row) where
  -- a row whose key is this has the rank of the bearer's
  ranks : (y : BearerRow) (w : Way) → key_of y.remote y.drb w ≡ k → bearer_rank y ≡ bearer_rank row
  ranks y w e = ap (λ (x : Key). pair x.remote.0 x.drb.0) e ∙ sym (ap (λ (r : Remote). pair r.0 row.drb.0) its.remote ∙ ap (λ (d : Drb). pair k.remote.0 d.0) its.drb)

  one : AllByRecursion (λ y. bearer_rank y ≡ bearer_rank row → y ≡ row) t.bearers
  one = one_of_rank bearer_rank t.bearers row are.bearers its.among

  weaken : (Q : BearerRow → Type 0) → ((y : BearerRow) → (bearer_rank y ≡ bearer_rank row → y ≡ row) → Q y) → (ys : List BearerRow) → AllByRecursion (λ y. bearer_rank y ≡ bearer_rank row → y ≡ row) ys → AllByRecursion Q ys
  weaken Q f [] all = tt
  weaken Q f (y ∷ ys) all = (f y all.0, weaken Q f ys all.1)

  -- the bearer's row among those of its remote, and among all
  out_row : (keeps : BearerRow → Bool) → keeps row ≡ true → find (λ (o : Outgoing). is_key k o.key) (map (new_outgoing k.way) (filter keeps t.bearers)) ≡ Some (new_outgoing k.way row)
  out_row keeps kept =
      find_picked keeps (new_outgoing k.way) (λ (o : Outgoing). is_key k o.key) row kept (ap (is_key k) (row_key t k row its) ∙ key_refl k) t.bearers its.among
      (weaken (λ y. is_key k (key_of y.remote y.drb k.way) ≡ true → y ≡ row) (λ y f e. f (ranks y k.way (sym (key_is k (key_of y.remote y.drb k.way) e)))) t.bearers one)

  in_row : (keeps : BearerRow → Bool) → keeps row ≡ true → find (λ (i : Incoming). is_key k i.key) (map (new_incoming k.way) (filter keeps t.bearers)) ≡ Some (new_incoming k.way row)
  in_row keeps kept =
      find_picked keeps (new_incoming k.way) (λ (i : Incoming). is_key k i.key) row kept (ap (is_key k) (row_key t k row its) ∙ key_refl k) t.bearers its.among
      (weaken (λ y. is_key k (key_of y.remote y.drb k.way) ≡ true → y ≡ row) (λ y f e. f (ranks y k.way (sym (key_is k (key_of y.remote y.drb k.way) e)))) t.bearers one)

  -- the key's remote
  has_remote : has_row remote_rank t.remotes k.remote.0 ≡ true
  has_remote = ap (λ (r : Remote). has_row remote_rank t.remotes r.0) (sym its.remote) ∙ member (λ (y : BearerRow). has_row remote_rank t.remotes y.remote.0 ≡ true) t.bearers row are.remotes its.among

  of_remote : (r : RemoteRow) → r.remote ≡ k.remote → is_remote r.remote row.remote ≡ true
  of_remote r e = ap (λ x. is_remote x row.remote) (e ∙ sym its.remote) ∙ remote_refl row.remote

  -- both ends, by the way
  pub record NewEnds : Type 0 where
    pub ends : HasEnds (opened t) k
    pub sender : ends.sender.row.sender ≡ new_sender row.pdcp (first_count row k.way)
    pub receiver : ends.receiver.row.receiver ≡ new_receiver row.pdcp (first_count row k.way)

  way_sender : (w : Way) → k.way ≡ w → (n : Node) × (find_node (opened t) (source (key_of k.remote k.drb w)) ≡ Some n) × (outgoing_at n k ≡ Some (new_outgoing k.way row))
  way_sender Ul e =
      let r = find_remote t k.remote t.remotes has_remote in
      (new_remote t r.0, r.1, ap (λ w. find (λ (o : Outgoing). is_key k o.key) (map (new_outgoing w) (bearers_of t r.0.remote))) (sym e) ∙ out_row (λ (y : BearerRow). is_remote r.0.remote y.remote) (of_remote r.0 r.2))
  way_sender Dl e = (
    new_gnb t,
    find_gnb t t.remotes,
    ap (λ w. find (λ (o : Outgoing). is_key k o.key) (map (new_outgoing w) t.bearers)) (sym e) ∙ ap (λ ys. find (λ (o : Outgoing). is_key k o.key) (map (new_outgoing k.way) ys)) (sym (keeps_each t.bearers)) ∙ out_row (λ y. true) refl,
  )

  way_receiver : (w : Way) → k.way ≡ w → (n : Node) × (find_node (opened t) (sink (key_of k.remote k.drb w)) ≡ Some n) × (incoming_at n k ≡ Some (new_incoming k.way row))
  way_receiver Dl e =
      let r = find_remote t k.remote t.remotes has_remote in
      (new_remote t r.0, r.1, ap (λ w. find (λ (i : Incoming). is_key k i.key) (map (new_incoming w) (bearers_of t r.0.remote))) (sym e) ∙ in_row (λ (y : BearerRow). is_remote r.0.remote y.remote) (of_remote r.0 r.2))
  way_receiver Ul e = (
    new_gnb t,
    find_gnb t t.remotes,
    ap (λ w. find (λ (i : Incoming). is_key k i.key) (map (new_incoming w) t.bearers)) (sym e) ∙ ap (λ ys. find (λ (i : Incoming). is_key k i.key) (map (new_incoming k.way) ys)) (sym (keeps_each t.bearers)) ∙ in_row (λ y. true) refl,
  )

  pub new_ends : NewEnds
  new_ends =
      let s = way_sender k.way refl in
      let r = way_receiver k.way refl in
      record {
        ends = record {
          sender = record { node = s.0; its_node = s.1; row = new_outgoing k.way row; its_row = s.2 };
          receiver = record { node = r.0; its_node = r.1; row = new_incoming k.way row; its_row = r.2 };
        };
        sender = refl;
        receiver = refl;
      }

  -- the key stands once among those of the tables
  once : (ys : List BearerRow) → IsAscending bearer_rank ys → Contains ys row → AllByRecursion (λ y. bearer_rank y ≡ bearer_rank row → y ≡ row) ys → StandsOnce k (flat_map keys_of_row ys)
  once [] up m all = absurd (omega (arith, m.1))
  once (y ∷ ys) up (zero, lt, same) all = here k.way refl
    where
      y_key : key_of y.remote y.drb k.way ≡ k
      y_key = ap (λ (z : BearerRow). key_of z.remote z.drb k.way) same ∙ row_key t k row its

      behind : (zs : List BearerRow) → AllByRecursion (λ z. bearer_rank y < bearer_rank z) zs → AllByRecursion (λ x. is_key x k ≡ false) (flat_map keys_of_row zs)
      behind [] up = tt
      behind (z ∷ zs) up = (absent z Ul up.0, (absent z Dl up.0, behind zs up.1))
        where
          absent : (z : BearerRow) (w : Way) → bearer_rank y < bearer_rank z → is_key (key_of z.remote z.drb w) k ≡ false
          absent z w lt = key_apart (key_of z.remote z.drb w) k (λ e. omega (arith, lt, ranks z w e, ap bearer_rank same))

      other_way : (w : Way) → (k.way ≡ w → ⊥) → is_key (key_of y.remote y.drb w) k ≡ false
      other_way w ne = key_apart (key_of y.remote y.drb w) k (λ e. ne (sym (ap (λ (x : Key). x.way) e)))

      this_way : (w : Way) → k.way ≡ w → is_key (key_of y.remote y.drb w) k ≡ true
      this_way w e = ap (λ v. is_key (key_of y.remote y.drb v) k) (sym e) ∙ ap (λ x. is_key x k) y_key ∙ key_refl k

      apart : Ul ≡ Dl → ⊥
      apart e = true≢false (ap (λ w. Rattle.node_model.specs.Names.is_way Ul w) e)

      here : (w : Way) → k.way ≡ w → StandsOnce k (keys_of_row y ++ flat_map keys_of_row ys)
      here Ul e = inl (this_way Ul e, (other_way Dl (λ d. apart (sym e ∙ d)), behind ys up.0))
      here Dl e = inr (other_way Ul (λ u. apart (sym u ∙ e)), inl (this_way Dl e, behind ys up.0))
  once (y ∷ ys) up (suc n, lt, same) all =
      let there : Contains ys row = (n, omega arith, same) in
      let low : bearer_rank y < bearer_rank row = member (λ z. bearer_rank y < bearer_rank z) ys row up.0 there in
      let absent : (w : Way) → is_key (key_of y.remote y.drb w) k ≡ false = λ w. key_apart (key_of y.remote y.drb w) k (λ e. omega (arith, low, ranks y w e)) in
      inr (absent Ul, inr (absent Dl, once ys up.1 there all.1))

  pub stands_once : StandsOnce k (keys t)
  stands_once = once t.bearers are.bearers its.among one
