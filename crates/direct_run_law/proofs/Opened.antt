-- The chain that tables open whose remotes all begin on direct ports.
use Rattle.std.proofs.Common.{◌≡◌, ◌⊎◌, inl, inr, ℕ, suc, ◌==◌, Bool, true, false, cond, ◌&&◌, ◌||◌, List, [], ◌∷◌, ◌++◌, get_or, map, filter, flat_map, find, Option, Some, None, option_and_then, unwrap_or, refl, sym, ◌∙◌, ap, subst, arith, Contains}
use Rattle.std.specs.List.{AllByRecursion, list_any}
use Rattle.std.proofs.lemmas.Bool.{cases_Bool, cond-true, cond-false, true≢false, false≢true, eq-eqb, ne_eqb, eqb-true}
use Rattle.std.proofs.lemmas.Option.{none-some, same_Some}
use Rattle.link_base.specs.declared.names.Drb.{Drb}
use Rattle.link_base.specs.declared.names.Goal.{Goal}
use Rattle.link_base.specs.declared.names.Goal.TheVariants.{Direct as ToDirect}
use Rattle.link_base.specs.declared.names.Key.{Key}
use Rattle.link_base.specs.declared.names.PortName.{PortName}
use Rattle.link_base.specs.declared.names.PortName.TheVariants.{Direct}
use Rattle.link_base.specs.declared.names.Remote.{Remote}
use Rattle.link_base.specs.declared.names.Side.TheVariants.{Low}
use Rattle.link_base.specs.declared.names.SnSize.{SnSize}
use Rattle.link_base.specs.declared.names.Way.{Way}
use Rattle.link_base.specs.declared.names.Way.TheVariants.{Ul, Dl}
use Rattle.bearer_map.specs.Contents.{Contents, remote_rank}
use Rattle.bearer_map.specs.Order.{has_row}
use Rattle.bearer_map.specs.declared.ids.Attachment.{Attachment}
use Rattle.bearer_map.specs.declared.rows.BearerRow.{BearerRow}
use Rattle.bearer_map.specs.declared.rows.RemoteRow.{RemoteRow}
use Rattle.rlc_model.specs.Rx.{Rx, Got, Part, is_done}
use Rattle.rlc_model.specs.Tx.{Tx, Kept}
use Rattle.pdcp_model.specs.Sender.{Sender, new_sender}
use Rattle.pdcp_model.specs.Receiver.{Receiver, new_receiver}
use Rattle.node_model.specs.Feeding.{in_key, out_key}
use Rattle.node_model.specs.Names.{NodeName, AtRemote, AtGnb, is_node, is_port, is_remote, key_of, owner, source, sink}
use Rattle.node_model.specs.Opening.{new_entity, direct_side, pc5_side, uu_side, bearers_of, pc5s_of, attachments, new_outgoing, new_incoming, new_remote, new_relay, new_gnb}
use Rattle.node_model.specs.State.{PortSide, Incoming, Node, entity_at, entity_of, no_node, incoming}
use Rattle.node_model.specs.Tables.{settings, first_count, is_open_on}
use Rattle.node_model.proofs.Names.{remote_is}
use Rattle.node_model.proofs.Finding.{find_passes, each_found, each_append, each_made, each_map, each_flat}
use Rattle.chain_model.proofs.Lookups.{here, cases_found}
use Rattle.chain_model.specs.Carried.{IsRowOf}
use Rattle.chain_model.specs.Places.{find_node}
use Rattle.chain_model.specs.State.{opened, node_at, sender_at, receiving_at}
use Rattle.book_law.specs.Past.{AreTables}
use Rattle.book_law.proofs.Moves.{sender_is, receiving_is}
use Rattle.book_law.proofs.Opened.{NewEnds, new_ends}
use Rattle.direct_run_law.specs.Direct.{BeginDirect}
use Rattle.direct_run_law.proofs.Carried.{Fits}
use Rattle.direct_run_law.proofs.Ends.{IsEnd}
use Rattle.direct_run_law.proofs.Chains.{Holds, Joined, IsClosed, joined_from}

-- what is found is in the list
found_in : {X : Type 0} (test : X → Bool) (xs : List X) (y : X) → find test xs ≡ Some y → Contains xs y
found_in test [] y e = absurd (none-some y e)
found_in test (x ∷ xs) y e = elim (cases_Bool (test x)) [
  | inl passes ↦ (0, omega arith, same_Some x y (sym (cond-true (test x) (Some x) (find test xs) passes) ∙ e))
  | inr fails ↦ let later = found_in test xs y (sym (cond-false (test x) (Some x) (find test xs) fails) ∙ e) in (suc later.0, omega (arith, later.1), later.2)
]

-- where one passes one is found, and has what each has that passes
any_found : {X : Type 0} (P : X → Type 0) (test : X → Bool) (xs : List X) → list_any test xs ≡ true → AllByRecursion (λ x. test x ≡ true → P x) xs
    → (x : X) × (find test xs ≡ Some x) × P x
any_found P test [] any all = absurd (false≢true any)
any_found P test (x ∷ xs) any all = elim (cases_Bool (test x)) [
  | inl passes ↦ (x, cond-true (test x) (Some x) (find test xs) passes, all.0 passes)
  | inr fails ↦
      let later = any_found P test xs (ap (λ (b : Bool). b || list_any test xs) (sym fails) ∙ any) all.1 in
      (later.0, cond-false (test x) (Some x) (find test xs) fails ∙ later.1, later.2)
]

-- where none passes none is found, and the other way round
none_found : {X : Type 0} (test : X → Bool) (xs : List X) → AllByRecursion (λ x. test x ≡ false) xs → find test xs ≡ None
none_found test [] all = refl
none_found test (x ∷ xs) all = cond-false (test x) (Some x) (find test xs) all.0 ∙ none_found test xs all.1

all_fail : {X : Type 0} (test : X → Bool) (xs : List X) → find test xs ≡ None → AllByRecursion (λ x. test x ≡ false) xs
all_fail test [] none = tt
all_fail test (x ∷ xs) none = elim (cases_Bool (test x)) [
  | inl passes ↦ absurd (none-some x (sym none ∙ cond-true (test x) (Some x) (find test xs) passes))
  | inr fails ↦ (fails, all_fail test xs (sym (cond-false (test x) (Some x) (find test xs) fails) ∙ none))
]

found_any : {X : Type 0} (test : X → Bool) (xs : List X) (y : X) → find test xs ≡ Some y → list_any test xs ≡ true
found_any test [] y e = absurd (none-some y e)
found_any test (x ∷ xs) y e = elim (cases_Bool (test x)) [
  | inl passes ↦ ap (λ (b : Bool). b || list_any test xs) passes
  | inr fails ↦ ap (λ (b : Bool). b || list_any test xs) fails ∙ found_any test xs y (sym (cond-false (test x) (Some x) (find test xs) fails) ∙ e)
]

any_left : {X : Type 0} (test : X → Bool) (xs ys : List X) → list_any test xs ≡ true → list_any test (xs ++ ys) ≡ true
any_left test [] ys any = absurd (false≢true any)
any_left test (x ∷ xs) ys any = elim (cases_Bool (test x)) [
  | inl passes ↦ ap (λ (b : Bool). b || list_any test (xs ++ ys)) passes
  | inr fails ↦ ap (λ (b : Bool). b || list_any test (xs ++ ys)) fails ∙ any_left test xs ys (ap (λ (b : Bool). b || list_any test xs) (sym fails) ∙ any)
]

any_right : {X : Type 0} (test : X → Bool) (xs ys : List X) → list_any test ys ≡ true → list_any test (xs ++ ys) ≡ true
any_right test [] ys any = any
any_right test (x ∷ xs) ys any = elim (cases_Bool (test x)) [
  | inl passes ↦ ap (λ (b : Bool). b || list_any test (xs ++ ys)) passes
  | inr fails ↦ ap (λ (b : Bool). b || list_any test (xs ++ ys)) fails ∙ any_right test xs ys any
]

-- what holds of all rows holds of those that are picked, which pass the test besides
each_picked : {X : Type 0} (P Q : X → Type 0) (keeps : X → Bool) → ((x : X) → keeps x ≡ true → P x → Q x) → (xs : List X) → AllByRecursion P xs
    → AllByRecursion Q (filter keeps xs)
each_picked P Q keeps say [] all = tt
each_picked P Q keeps say (x ∷ xs) all = elim (cases_Bool (keeps x)) [
  | inl kept ↦ subst (AllByRecursion Q) (sym (cond-true (keeps x) (x ∷ filter keeps xs) (filter keeps xs) kept)) (say x kept all.0, each_picked P Q keeps say xs all.1)
  | inr other ↦ subst (AllByRecursion Q) (sym (cond-false (keeps x) (x ∷ filter keeps xs) (filter keeps xs) other)) (each_picked P Q keeps say xs all.1)
]

all_rows : {X : Type 0} (xs : List X) → AllByRecursion (λ (x : X). Unit {0}) xs
all_rows [] = tt
all_rows (x ∷ xs) = (tt, all_rows xs)

each_flat_of : {X T : Type 0} (P : T → Type 0) (Q : X → Type 0) (make : X → List T) → ((x : X) → Q x → AllByRecursion P (make x)) → (xs : List X) → AllByRecursion Q xs
    → AllByRecursion P (flat_map make xs)
each_flat_of P Q make each [] all = tt
each_flat_of P Q make each (x ∷ xs) all = each_append P (make x) (flat_map make xs) (each x all.0) (each_flat_of P Q make each xs all.1)

-- both entities of a port at the start, and both ends of a key: nothing is carried
nothing_carried : (key : Key) (size : SnSize) (first : ℕ) (tx : Tx) (rx : Rx) (far : Receiver) → tx.kept ≡ [] → rx.received ≡ []
    → Fits key tx rx (new_sender size first) (new_receiver size first) far
nothing_carried key size first tx rx far none empty = record {
  size = refl;
  first = refl;
  goes = refl;
  carries = λ n k is. absurd (none-some k (sym (ap (λ (l : List (Option Kept)). get_or l n None) none) ∙ is));
  apart = λ n o k l count a b x y. absurd (none-some k (sym (ap (λ (l : List (Option Kept)). get_or l n None) none) ∙ a));
  complete = λ n done. absurd (false≢true (ap is_done (sym (ap (λ (l : List Got). get_or l n (Part [] None)) empty) ∙ done)));
  heard = λ m has. elim has [
    | inl low ↦ omega (arith, low)
    | inr x ↦ absurd (x.2 refl)
  ];
}

module _ (t : Contents) (are : AreTables t) (direct : BeginDirect t) where
  -- nothing is attached
  none_attached : (rows : List RemoteRow) → AllByRecursion (λ (row : RemoteRow). row.goal ≡ ToDirect) rows
      → flat_map (λ (row : RemoteRow). attachments row.remote row.goal) rows ≡ []
  none_attached [] all = refl
  none_attached (row ∷ rows) all = ap (λ (l : List Attachment). l ++ flat_map (λ (row : RemoteRow). attachments row.remote row.goal) rows) (ap (attachments row.remote) all.0)
      ∙ none_attached rows all.1

  outs_from : (P : Key → Type 0) (way : Way) (rows : List BearerRow) → AllByRecursion (λ (row : BearerRow). P (key_of row.remote row.drb way)) rows
      → AllByRecursion P (map out_key (map (new_outgoing way) rows))
  outs_from P way [] all = tt
  outs_from P way (row ∷ rows) all = (all.0, outs_from P way rows all.1)

  ins_from : (P : Key → Type 0) (way : Way) (rows : List BearerRow) → AllByRecursion (λ (row : BearerRow). P (key_of row.remote row.drb way)) rows
      → AllByRecursion P (map in_key (map (new_incoming way) rows))
  ins_from P way [] all = tt
  ins_from P way (row ∷ rows) all = (all.0, ins_from P way rows all.1)

  at_gnb : (P : BearerRow → Type 0) → ((row : BearerRow) → P row) → (rows : List BearerRow) → AllByRecursion P rows
  at_gnb P all [] = tt
  at_gnb P all (row ∷ rows) = (all row, at_gnb P all rows)

  remote_end : (row : RemoteRow) → row.goal ≡ ToDirect → IsEnd (new_remote t row)
  remote_end row is = record {
    attached = ap (attachments row.remote) is;
    outs = outs_from (λ k. source k ≡ AtRemote row.remote) Ul (bearers_of t row.remote)
        (each_picked (λ (x : BearerRow). Unit {0}) _ (λ (x : BearerRow). is_remote row.remote x.remote)
        (λ x kept any. ap AtRemote (sym (remote_is row.remote x.remote kept))) t.bearers (all_rows t.bearers));
    ins = ins_from (λ k. sink k ≡ AtRemote row.remote) Dl (bearers_of t row.remote)
        (each_picked (λ (x : BearerRow). Unit {0}) _ (λ (x : BearerRow). is_remote row.remote x.remote)
        (λ x kept any. ap AtRemote (sym (remote_is row.remote x.remote kept))) t.bearers (all_rows t.bearers));
  }

  each_end : AllByRecursion IsEnd (opened t).nodes
  each_end = each_append IsEnd (map (new_remote t) t.remotes) (new_relay t ∷ new_gnb t ∷ [])
      (each_map IsEnd (λ (row : RemoteRow). row.goal ≡ ToDirect) (new_remote t) remote_end t.remotes direct) (
        record { attached = none_attached t.remotes direct; outs = tt; ins = tt },
        (
          record {
            attached = none_attached t.remotes direct;
            outs = outs_from (λ k. source k ≡ AtGnb) Dl t.bearers (at_gnb _ (λ row. refl) t.bearers);
            ins = ins_from (λ k. sink k ≡ AtGnb) Ul t.bearers (at_gnb _ (λ row. refl) t.bearers);
          },
          tt,
        ),
      )

  -- what holds of each node, and of one that isn't there, holds of that of a name
  at_name : (P : Node → Type 0) → AllByRecursion P (opened t).nodes → ((x : NodeName) → P (no_node x)) → (x : NodeName) → P (node_at (opened t) x)
  at_name P all none x = by (find (λ (n : Node). is_node x n.name) (opened t).nodes) refl
    where
      by : (o : Option Node) → find (λ (n : Node). is_node x n.name) (opened t).nodes ≡ o → P (unwrap_or o (no_node x))
      by None is = none x
      by (Some n) is = each_found P (λ (n : Node). is_node x n.name) (opened t).nodes n all is

  ends : (x : NodeName) → IsEnd (node_at (opened t) x)
  ends = at_name IsEnd each_end (λ x. record { attached = refl; outs = tt; ins = tt })

  module _ (remote : Remote) (drb : Drb) where
    abbrev P : PortName
    P = Direct remote drb

    abbrev row_test : BearerRow → Bool
    row_test row = is_remote remote row.remote && (drb.0 == row.drb.0)

    abbrev test : PortSide → Bool
    test s = is_port P s.name

    -- without a row the port is nowhere
    module _ (fail : AllByRecursion (λ (row : BearerRow). row_test row ≡ false) t.bearers) where
      abbrev HasNone : Node → Type 0
      HasNone n = AllByRecursion (λ (s : PortSide). test s ≡ false) n.ports

      directs_none : (goal : Goal) (r : Remote) → AllByRecursion (λ (s : PortSide). test s ≡ false) (map (direct_side (settings t) goal) (bearers_of t r))
      directs_none goal r = each_map (λ (s : PortSide). test s ≡ false) (λ (row : BearerRow). row_test row ≡ false) (direct_side (settings t) goal) (λ row e. e) (bearers_of t r)
          (each_picked (λ (row : BearerRow). row_test row ≡ false) (λ (row : BearerRow). row_test row ≡ false) (λ (row : BearerRow). is_remote r row.remote)
          (λ x kept e. e) t.bearers fail)

      each_none : AllByRecursion HasNone (opened t).nodes
      each_none = each_append HasNone (map (new_remote t) t.remotes) (new_relay t ∷ new_gnb t ∷ [])
          (each_made HasNone (new_remote t) (λ row. each_append _ _ _ (directs_none row.goal row.remote)
          (each_made (λ (s : PortSide). test s ≡ false) (pc5_side (settings t) row.goal) (λ x. refl) (pc5s_of t row.remote))) t.remotes) (
            each_append _ _ _ (each_flat (λ (s : PortSide). test s ≡ false) (λ (row : RemoteRow). map (pc5_side (settings t) row.goal) (pc5s_of t row.remote))
                (λ row. each_made (λ (s : PortSide). test s ≡ false) (pc5_side (settings t) row.goal) (λ x. refl) (pc5s_of t row.remote)) t.remotes)
                (each_made (λ (s : PortSide). test s ≡ false) (uu_side (settings t)) (λ x. refl) t.uus),
            (
              each_append _ _ _ (each_flat (λ (s : PortSide). test s ≡ false) (λ (row : RemoteRow). map (direct_side (settings t) row.goal) (bearers_of t row.remote))
                  (λ row. directs_none row.goal row.remote) t.remotes)
                  (each_made (λ (s : PortSide). test s ≡ false) (uu_side (settings t)) (λ x. refl) t.uus),
              tt,
            ),
          )

      closed : IsClosed (opened t) remote drb
      closed side = ap (option_and_then entity_of) (none_found test (node_at (opened t) (owner side P)).ports (at_name HasNone each_none (λ x. tt) (owner side P)))

    -- with a row it is open at both sides
    module _ (row : BearerRow) (found : find row_test t.bearers ≡ Some row) where
      -- a side of the port is open, and nothing was given or heard there
      abbrev IsNew : PortSide → Type 0
      IsNew s = (size : SnSize) × (s.entity ≡ Some (new_entity (settings t) size 0))

      abbrev IsNewThere : PortSide → Type 0
      IsNewThere s = test s ≡ true → IsNew s

      abbrev IsOpenAt : NodeName → Node → Type 0
      IsOpenAt x n = is_node x n.name ≡ true → (s : PortSide) × (find test n.ports ≡ Some s) × IsNew s

      direct_new : (goal : Goal) → goal ≡ ToDirect → (x : BearerRow) → IsNewThere (direct_side (settings t) goal x)
      direct_new goal is x here = (x.direct, ap (λ (g : Goal). cond (is_open_on g (Direct x.remote x.drb)) (Some (new_entity (settings t) x.direct 0)) None) is)

      directs_new : (goal : Goal) → goal ≡ ToDirect → (r : Remote) → AllByRecursion IsNewThere (map (direct_side (settings t) goal) (bearers_of t r))
      directs_new goal is r = each_made IsNewThere (direct_side (settings t) goal) (direct_new goal is) (bearers_of t r)

      any_row : (goal : Goal) (keeps : BearerRow → Bool) → ((x : BearerRow) → row_test x ≡ true → keeps x ≡ true) → (rows : List BearerRow) → list_any row_test rows ≡ true
          → list_any test (map (direct_side (settings t) goal) (filter keeps rows)) ≡ true
      any_row goal keeps kept [] any = absurd (false≢true any)
      any_row goal keeps kept (x ∷ rows) any = elim (cases_Bool (row_test x)) [
        | inl passes ↦ ap (λ (l : List BearerRow). list_any test (map (direct_side (settings t) goal) l))
            (cond-true (keeps x) (x ∷ filter keeps rows) (filter keeps rows) (kept x passes))
            ∙ ap (λ (b : Bool). b || list_any test (map (direct_side (settings t) goal) (filter keeps rows))) passes
        | inr fails ↦
            let later = any_row goal keeps kept rows (ap (λ (b : Bool). b || list_any row_test rows) (sym fails) ∙ any) in
            elim (cases_Bool (keeps x)) [
              | inl k ↦ ap (λ (l : List BearerRow). list_any test (map (direct_side (settings t) goal) l)) (cond-true (keeps x) (x ∷ filter keeps rows) (filter keeps rows) k)
                  ∙ ap (λ (b : Bool). b || list_any test (map (direct_side (settings t) goal) (filter keeps rows))) fails ∙ later
              | inr k ↦ ap (λ (l : List BearerRow). list_any test (map (direct_side (settings t) goal) l)) (cond-false (keeps x) (x ∷ filter keeps rows) (filter keeps rows) k)
                  ∙ later
            ]
      ]

      and_left : (a b : Bool) → a && b ≡ true → a ≡ true
      and_left true b e = refl
      and_left false b e = absurd (false≢true e)

      and_right : (a b : Bool) → a && b ≡ true → b ≡ true
      and_right true b e = e
      and_right false b e = absurd (false≢true e)

      any_of : (r : RemoteRow) → is_remote remote r.remote ≡ true → list_any test (map (direct_side (settings t) r.goal) (bearers_of t r.remote)) ≡ true
      any_of r is = any_row r.goal (λ (x : BearerRow). is_remote r.remote x.remote)
          (λ x passes. ap (λ (q : Remote). is_remote q x.remote) (sym (remote_is remote r.remote is)) ∙ and_left _ _ passes) t.bearers (found_any row_test t.bearers row found)

      -- the row is the bearer's
      passes : row_test row ≡ true
      passes = find_passes row_test t.bearers row found

      its : (way : Way) → IsRowOf t (key_of remote drb way) row
      its way = record {
        among = found_in row_test t.bearers row found;
        remote = sym (remote_is remote row.remote (and_left (is_remote remote row.remote) (drb.0 == row.drb.0) passes));
        drb = ap (λ (n : ℕ). record { 0 = n }) (sym (eqb-true drb.0 row.drb.0 (and_right (is_remote remote row.remote) (drb.0 == row.drb.0) passes)));
      }

      -- so is its remote's
      each_has : (rows : List BearerRow) → AllByRecursion (λ (x : BearerRow). has_row remote_rank t.remotes x.remote.0 ≡ true) rows → find row_test rows ≡ Some row
          → has_row remote_rank t.remotes row.remote.0 ≡ true
      each_has rows all e = each_found (λ (x : BearerRow). has_row remote_rank t.remotes x.remote.0 ≡ true) row_test rows row all e

      has : has_row remote_rank t.remotes remote.0 ≡ true
      has = ap (λ (r : Remote). has_row remote_rank t.remotes r.0) (sym (its Ul).remote) ∙ each_has t.bearers are.remotes found

      any_remote : (rows : List RemoteRow) → has_row remote_rank rows remote.0 ≡ true
          → list_any test (flat_map (λ (r : RemoteRow). map (direct_side (settings t) r.goal) (bearers_of t r.remote)) rows) ≡ true
      any_remote [] none = absurd (false≢true none)
      any_remote (r ∷ rows) some = elim (cases_Bool (is_remote remote r.remote)) [
        | inl this ↦ any_left test (map (direct_side (settings t) r.goal) (bearers_of t r.remote))
            (flat_map (λ (r : RemoteRow). map (direct_side (settings t) r.goal) (bearers_of t r.remote)) rows) (any_of r this)
        | inr other ↦
            let fails : (r.remote.0 == remote.0) ≡ false = ne_eqb _ _ (λ e. true≢false (sym (eq-eqb remote.0 r.remote.0 (sym e)) ∙ other)) in
            any_right test (map (direct_side (settings t) r.goal) (bearers_of t r.remote))
            (flat_map (λ (r : RemoteRow). map (direct_side (settings t) r.goal) (bearers_of t r.remote)) rows)
            (any_remote rows (ap (λ (b : Bool). b || has_row remote_rank rows remote.0) (sym fails) ∙ some))
      ]

      remote_open : (r : RemoteRow) → r.goal ≡ ToDirect → IsOpenAt (AtRemote remote) (new_remote t r)
      remote_open r is here = any_found IsNew test (new_remote t r).ports
          (any_left test (map (direct_side (settings t) r.goal) (bearers_of t r.remote)) (map (pc5_side (settings t) r.goal) (pc5s_of t r.remote)) (any_of r here))
          (each_append IsNewThere _ _ (directs_new r.goal is r.remote) (each_made IsNewThere (pc5_side (settings t) r.goal) (λ x e. absurd (false≢true e)) (pc5s_of t r.remote)))

      gnb_open : IsOpenAt AtGnb (new_gnb t)
      gnb_open here = any_found IsNew test (new_gnb t).ports
          (any_left test (flat_map (λ (r : RemoteRow). map (direct_side (settings t) r.goal) (bearers_of t r.remote)) t.remotes) (map (uu_side (settings t)) t.uus)
          (any_remote t.remotes has))
          (each_append IsNewThere _ _
          (each_flat_of IsNewThere (λ (r : RemoteRow). r.goal ≡ ToDirect) (λ (r : RemoteRow). map (direct_side (settings t) r.goal) (bearers_of t r.remote))
          (λ r is. directs_new r.goal is r.remote) t.remotes direct)
          (each_made IsNewThere (uu_side (settings t)) (λ x e. absurd (false≢true e)) t.uus))

      open_low : AllByRecursion (IsOpenAt (AtRemote remote)) (opened t).nodes
      open_low = each_append (IsOpenAt (AtRemote remote)) (map (new_remote t) t.remotes) (new_relay t ∷ new_gnb t ∷ [])
          (each_map (IsOpenAt (AtRemote remote)) (λ (r : RemoteRow). r.goal ≡ ToDirect) (new_remote t) remote_open t.remotes direct)
          (λ e. absurd (false≢true e), (λ e. absurd (false≢true e), tt))

      open_high : AllByRecursion (IsOpenAt AtGnb) (opened t).nodes
      open_high = each_append (IsOpenAt AtGnb) (map (new_remote t) t.remotes) (new_relay t ∷ new_gnb t ∷ [])
          (each_made (IsOpenAt AtGnb) (new_remote t) (λ r e. absurd (false≢true e)) t.remotes) (λ e. absurd (false≢true e), (gnb_open, tt))

      -- the entity of a side
      opens : (x : NodeName) (n : Node) → find_node (opened t) x ≡ Some n → AllByRecursion (IsOpenAt x) (opened t).nodes
          → (size : SnSize) × (entity_at (node_at (opened t) x) P ≡ Some (new_entity (settings t) size 0))
      opens x n is all =
          let s = each_found (IsOpenAt x) (λ (m : Node). is_node x m.name) (opened t).nodes n all is (find_passes (λ (m : Node). is_node x m.name) (opened t).nodes n is) in
          (s.2.0, ap (λ (m : Node). entity_at m P) (here (opened t) x n is) ∙ ap (option_and_then entity_of) s.1 ∙ s.2.1)

      up : NewEnds t are (key_of remote drb Ul) row (its Ul)
      up = new_ends t are (key_of remote drb Ul) row (its Ul)

      down : NewEnds t are (key_of remote drb Dl) row (its Dl)
      down = new_ends t are (key_of remote drb Dl) row (its Dl)

      -- nothing is carried of a key
      key_fits : (way : Way) → NewEnds t are (key_of remote drb way) row (its way) → (near far : SnSize) (r : Receiver)
          → Fits (key_of remote drb way) (new_entity (settings t) near 0).tx (new_entity (settings t) far 0).rx (sender_at (opened t) (key_of remote drb way))
          (receiving_at (opened t) (key_of remote drb way)).receiver r
      key_fits way new near far r =
          subst (λ (s : Sender). Fits (key_of remote drb way) (new_entity (settings t) near 0).tx (new_entity (settings t) far 0).rx s
          (receiving_at (opened t) (key_of remote drb way)).receiver r) (sym (sender_is (opened t) (key_of remote drb way) new.ends.sender ∙ new.sender))
          (subst (λ (q : Receiver). Fits (key_of remote drb way) (new_entity (settings t) near 0).tx (new_entity (settings t) far 0).rx
          (new_sender row.pdcp (first_count row way)) q r)
          (sym (ap (λ (i : Incoming). i.receiver) (receiving_is (opened t) (key_of remote drb way) new.ends.receiver) ∙ new.receiver))
          (nothing_carried (key_of remote drb way) row.pdcp (first_count row way) (new_entity (settings t) near 0).tx (new_entity (settings t) far 0).rx r refl refl))

      joined : Joined (opened t) remote drb
      joined =
          let low = opens (AtRemote remote) up.ends.sender.node up.ends.sender.its_node open_low in
          let high = opens AtGnb down.ends.sender.node down.ends.sender.its_node open_high in
          let e = new_entity (settings t) low.0 0 in
          let f = new_entity (settings t) high.0 0 in
          joined_from (opened t) remote drb row (its Ul) Low e f low.1 high.1 refl refl (
            key_fits Ul up low.0 high.0 (incoming (node_at (opened t) (AtRemote remote)) (key_of remote drb Dl)).receiver,
            key_fits Dl down high.0 low.0 (incoming (node_at (opened t) AtGnb) (key_of remote drb Ul)).receiver,
          )

    each : Joined (opened t) remote drb ⊎ IsClosed (opened t) remote drb
    each = elim (cases_found (find row_test t.bearers)) [
      | inl x ↦ inl (joined x.0 x.1)
      | inr none ↦ inr (closed (all_fail row_test t.bearers none))
    ]

  pub opened_holds : Holds (opened t)
  opened_holds = record { ends = ends; ports = λ x. refl; each = each }
