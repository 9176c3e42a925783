-- What holds of a chain, and what keeps it: a node changes, all nodes feed, a PDU goes off the air.
use Rattle.std.proofs.Common.{◌≡◌, ◌⊎◌, inl, inr, ℕ, ◌≤◌, Bool, true, false, cond, List, [], ◌∷◌, ◌++◌, length, find, Option, Some, None, option_map, refl, sym, ◌∙◌, ap, subst, arith, append_assoc}
use Rattle.std.specs.List.{AllByRecursion}
use Rattle.std.specs.Option.{unwrap_or}
use Rattle.std.proofs.lemmas.Bool.{cases_Bool, cond-true, cond-false}
use Rattle.std.proofs.lemmas.Option.{none-some}
use Rattle.link_base.specs.declared.names.Key.{Key}
use Rattle.link_base.specs.declared.names.PortName.{PortName}
use Rattle.link_base.specs.declared.names.Remote.{Remote}
use Rattle.link_base.specs.declared.names.Side.{Side}
use Rattle.bearer_map.specs.Contents.{Contents}
use Rattle.rlc_model.specs.declared.hop.Pdu.{Pdu}
use Rattle.node_model.specs.Names.{NodeName, is_node, is_of, owner}
use Rattle.node_model.specs.State.{PortSide, Node, side_at, no_node}
use Rattle.chain_model.specs.declared.plan.Plan.{Plan}
use Rattle.chain_model.specs.State.{Chain, node_at, set_node, plan_at}
use Rattle.chain_model.specs.Lines.{without}
use Rattle.chain_model.specs.Steps.{FeedsAll}
use Rattle.chain_model.specs.Told.{kind_of}
use Rattle.chain_law.specs.Entities.{next_epoch}
use Rattle.node_model.proofs.Names.{node_is, node_refl, node_apart, cases_node}
use Rattle.node_model.proofs.Finding.{find_passes, find_hit, find_miss, find_none, each_found, each_replaced}
use Rattle.chain_law.proofs.Counting.{air_long}
use Rattle.chain_law.specs.Foundations.{RlcLaws}
use Rattle.chain_law.proofs.Stands.{View, Limits, Logs, Implies, Stands, stands_implied, shown, put, put_here, put_other, stands_same, stands_off, node_stands, all_seen, no_rest}
use Rattle.chain_law.proofs.Nodes.{NodeFits, Goes}
use Rattle.chain_law.proofs.Tables.{TablesApart}
use Rattle.chain_law.proofs.Feeds.{feeds_goes}

-- the node of a name in a list of nodes, and the sides that such nodes have
abbrev pub node_in : List Node → NodeName → Node
node_in nodes x = unwrap_or (find (λ (n : Node). is_node x n.name) nodes) (no_node x)

abbrev pub view_in : List Node → View
view_in nodes x = side_at (node_in nodes x)

abbrev pub view : Chain → View
view c = view_in c.nodes

-- what holds of a chain: its sides stand, with what is said of what they heard, the SDUs of its nodes are such as can be taken, at most 2^61 tickets were made, and the rows of its
-- tables have names apart
pub record Holds (q : Logs) (c : Chain) : Type 0 where
  pub limit : Limits
  pub stands : Stands q c.tables (view c) limit c.air
  pub fresh : (remote : Remote) (plan : Plan) → plan_at c remote ≡ Some plan → (side : Side) (name : PortName) → is_of remote name ≡ true
      → limit side name ≤ next_epoch plan (kind_of (owner side name))
  pub nodes : AllByRecursion NodeFits c.nodes
  pub tickets : length c.air ≤ 2305843009213693952
  pub apart : TablesApart c.tables

-- what else is said of what was heard
pub holds_implied : {q r : Logs} {c : Chain} → Implies q r → Holds q c → Holds r c
holds_implied more h = record { limit = h.limit; apart = h.apart; stands = stands_implied more h.stands; fresh = h.fresh; nodes = h.nodes; tickets = h.tickets }

pub no_node_fits : (x : NodeName) → NodeFits (no_node x)
no_node_fits x = record { ports = tt; outgoing = tt; apart = tt; owned = tt }

pub node_fits : {q : Logs} (c : Chain) → Holds q c → (x : NodeName) → NodeFits (node_at c x)
node_fits c h x = go (find (λ (n : Node). is_node x n.name) c.nodes) refl
  where
    go : (o : Option Node) → find (λ (n : Node). is_node x n.name) c.nodes ≡ o → NodeFits (unwrap_or o (no_node x))
    go None is = no_node_fits x
    go (Some n) is = each_found NodeFits (λ (n : Node). is_node x n.name) c.nodes n h.nodes is

pub node_name : (c : Chain) (x : NodeName) → (node_at c x).name ≡ x
node_name c x = go (find (λ (n : Node). is_node x n.name) c.nodes) refl
  where
    go : (o : Option Node) → find (λ (n : Node). is_node x n.name) c.nodes ≡ o → (unwrap_or o (no_node x)).name ≡ x
    go None is = refl
    go (Some n) is = sym (node_is x n.name (find_passes (λ (n : Node). is_node x n.name) c.nodes n is))

-- a node that has a side of a port is one of the chain's
pub node_there : (c : Chain) (x : NodeName) (port : PortName) (s : PortSide) → side_at (node_at c x) port ≡ Some s
    → find (λ (n : Node). is_node x n.name) c.nodes ≡ Some (node_at c x)
node_there c x port s e = go (find (λ (n : Node). is_node x n.name) c.nodes) refl
  where
    go : (o : Option Node) → find (λ (n : Node). is_node x n.name) c.nodes ≡ o → find (λ (n : Node). is_node x n.name) c.nodes ≡ Some (node_at c x)
    go None is = absurd (none-some s (sym (ap (λ (o : Option Node). side_at (unwrap_or o (no_node x)) port) is) ∙ e))
    go (Some n) is = is ∙ ap (λ (n : Node). Some n) (sym (ap (λ (o : Option Node). unwrap_or o (no_node x)) is))

-- a node that is set is found under its name, if there was one of that name; all others are as before
module _ (c : Chain) (x : NodeName) (m : Node) (name : m.name ≡ x) where
  pub node_set : (was : Node) → find (λ (n : Node). is_node x n.name) c.nodes ≡ Some was → node_at (set_node c m) x ≡ m
  node_set was e = ap (λ (o : Option Node). unwrap_or o (no_node x))
      (find_hit (λ (n : Node). is_node x n.name) (λ (n : Node). is_node m.name n.name) m (λ n. ap (λ (y : NodeName). is_node y n.name) (sym name))
      (ap (is_node x) name ∙ node_refl x) c.nodes was e)

  pub node_kept : (y : NodeName) → (y ≡ x → ⊥) → node_at (set_node c m) y ≡ node_at c y
  node_kept y ne = ap (λ (o : Option Node). unwrap_or o (no_node y))
      (find_miss (λ (n : Node). is_node y n.name) (λ (n : Node). is_node m.name n.name) m
      (λ n mine. node_apart y n.name (λ e. ne (e ∙ sym (node_is m.name n.name mine) ∙ name))) (node_apart y m.name (λ e. ne (e ∙ name))) c.nodes)

module _ {q : Logs} {t : Contents} {limit : Limits} {air : List (Option Pdu)} where
  -- sides stand alike where a node's own sides are put in their place
  pub put_own : (nodes : List Node) (x : NodeName) → Stands q t (view_in nodes) limit air → Stands q t (put (view_in nodes) x (side_at (node_in nodes x))) limit air
  put_own nodes x s = stands_same _ (λ side name. ap (option_map shown) (same (owner side name) name (cases_node (owner side name) x))) s
    where
      same : (y : NodeName) (q : PortName) → (y ≡ x) ⊎ (y ≡ x → ⊥) → put (view_in nodes) x (side_at (node_in nodes x)) y q ≡ view_in nodes y q
      same y q (inl e) = put_here (view_in nodes) x (side_at (node_in nodes x)) y q e ∙ ap (λ (x : NodeName). view_in nodes x q) (sym e)
      same y q (inr ne) = put_other (view_in nodes) x (side_at (node_in nodes x)) y q ne

  -- and where a node is set
  pub set_stands : (c : Chain) (x : NodeName) (m was : Node) → m.name ≡ x → find (λ (n : Node). is_node x n.name) c.nodes ≡ Some was
      → Stands q t (put (view c) x (side_at m)) limit air → Stands q t (view (set_node c m)) limit air
  set_stands c x m was name there s = stands_same _ (λ side name. ap (option_map shown) (same (owner side name) name (cases_node (owner side name) x))) s
    where
      same : (y : NodeName) (q : PortName) → (y ≡ x) ⊎ (y ≡ x → ⊥) → view (set_node c m) y q ≡ put (view c) x (side_at m) y q
      same y q (inl e) = ap (λ (y : NodeName). side_at (node_at (set_node c m) y) q) e ∙ ap (λ (n : Node). side_at n q) (node_set c x m name was there)
          ∙ sym (put_here (view c) x (side_at m) y q e)
      same y q (inr ne) = ap (λ (n : Node). side_at n q) (node_kept c x m name y ne) ∙ sym (put_other (view c) x (side_at m) y q ne)

-- what is found in a list does not depend on an item that fails the test, nor on one behind what is found
module _ (test : Node → Bool) where
  pub find_hidden : (pre ns : List Node) (p : Node) → find test pre ≡ Some p → find test (pre ++ ns) ≡ Some p
  find_hidden [] ns p e = absurd (none-some p e)
  find_hidden (x ∷ xs) ns p e = elim (cases_Bool (test x)) [
    | inl passed ↦ cond-true (test x) (Some x) (find test (xs ++ ns)) passed ∙ sym (cond-true (test x) (Some x) (find test xs) passed) ∙ e
    | inr fails ↦ cond-false (test x) (Some x) (find test (xs ++ ns)) fails ∙ find_hidden xs ns p (sym (cond-false (test x) (Some x) (find test xs) fails) ∙ e)
  ]

  pub find_skip : (pre ns : List Node) (n m : Node) → test n ≡ false → test m ≡ false → find test (pre ++ n ∷ ns) ≡ find test (pre ++ m ∷ ns)
  find_skip [] ns n m a b = cond-false (test n) (Some n) (find test ns) a ∙ sym (cond-false (test m) (Some m) (find test ns) b)
  find_skip (x ∷ xs) ns n m a b = ap (cond (test x) (Some x)) (find_skip xs ns n m a b)

  pub find_shown : (pre ns : List Node) (n : Node) → find test pre ≡ None → test n ≡ true → find test (pre ++ n ∷ ns) ≡ Some n
  find_shown [] ns n e is = cond-true (test n) (Some n) (find test ns) is
  find_shown (x ∷ xs) ns n e is = elim (cases_Bool (test x)) [
    | inl passed ↦ absurd (none-some x (sym e ∙ cond-true (test x) (Some x) (find test xs) passed))
    | inr fails ↦ cond-false (test x) (Some x) (find test (xs ++ n ∷ ns)) fails ∙ find_shown xs ns n (sym (cond-false (test x) (Some x) (find test xs) fails) ∙ e) is
  ]

module _ (l : RlcLaws) {q : Logs} where
  -- a node goes on
  pub goes_set : (c : Chain) (x : NodeName) (m : Node) → Holds q c → Goes (node_at c x) m → Holds q (set_node c m)
  goes_set c x m h g = record {
    stands = go (find (λ (n : Node). is_node x n.name) c.nodes) refl;
    nodes = each_replaced NodeFits (λ (n : Node). is_node m.name n.name) m g.fits c.nodes h.nodes;
    limit = h.limit;
    apart = h.apart;
    fresh = h.fresh;
    tickets = h.tickets;
  }
    where
      name : m.name ≡ x
      name = g.name ∙ node_name c x

      go : (o : Option Node) → find (λ (n : Node). is_node x n.name) c.nodes ≡ o → Stands q c.tables (view (set_node c m)) h.limit c.air
      go None is =
          let none : find (λ (n : Node). is_node m.name n.name) c.nodes ≡ None = ap (λ (y : NodeName). find (λ (n : Node). is_node y n.name) c.nodes) name ∙ is in
          subst (λ (ns : List Node). Stands q c.tables (view_in ns) h.limit c.air) (sym (find_none (λ (n : Node). is_node m.name n.name) m c.nodes none)) h.stands
      go (Some was) is = set_stands c x m was name is (node_stands l (view c) x all_seen no_rest g.moves (put_own c.nodes x h.stands))

  -- a PDU goes off the air
  pub off_holds : (c : Chain) (ticket : ℕ) → Holds q c → Holds q (without ticket c)
  off_holds c ticket h = record {
    limit = h.limit;
    apart = h.apart;
    fresh = h.fresh;
    stands = stands_off l ticket h.stands;
    nodes = h.nodes;
    tickets = omega
        (arith, h.tickets, air_long c.air ticket);
  }

  module _ (t : Contents) {limit : Limits} {air : List (Option Pdu)} where
    -- a node among others goes on
    among_goes : (pre ns : List Node) (n m : Node) → Goes n m → Stands q t (view_in (pre ++ n ∷ ns)) limit air → Stands q t (view_in (pre ++ m ∷ ns)) limit air
    among_goes pre ns n m g s = go (find (λ (x : Node). is_node n.name x.name) pre) refl
      where
        apart : (y : NodeName) → (y ≡ n.name → ⊥) → node_in (pre ++ n ∷ ns) y ≡ node_in (pre ++ m ∷ ns) y
        apart y ne = ap (λ (o : Option Node). unwrap_or o (no_node y))
            (find_skip (λ (x : Node). is_node y x.name) pre ns n m (node_apart y n.name ne) (node_apart y m.name (λ e. ne (e ∙ g.name))))

        go : (o : Option Node) → find (λ (x : Node). is_node n.name x.name) pre ≡ o → Stands q t (view_in (pre ++ m ∷ ns)) limit air
        go (Some p) is = stands_same _ (λ side name. ap (λ (x : Node). option_map shown (side_at x name)) (same (owner side name) (cases_node (owner side name) n.name))) s
          where
            hidden : (more : List Node) → node_in (pre ++ more) n.name ≡ p
            hidden more = ap (λ (o : Option Node). unwrap_or o (no_node n.name)) (find_hidden (λ (x : Node). is_node n.name x.name) pre more p is)

            same : (y : NodeName) → (y ≡ n.name) ⊎ (y ≡ n.name → ⊥) → node_in (pre ++ m ∷ ns) y ≡ node_in (pre ++ n ∷ ns) y
            same y (inl e) = ap (node_in (pre ++ m ∷ ns)) e ∙ hidden (m ∷ ns) ∙ sym (hidden (n ∷ ns)) ∙ ap (node_in (pre ++ n ∷ ns)) (sym e)
            same y (inr ne) = sym (apart y ne)
        go None is = stands_same _ (λ side name. ap (option_map shown) (is_put (owner side name) name (cases_node (owner side name) n.name)))
            (node_stands l (view_in (pre ++ n ∷ ns)) n.name all_seen no_rest g.moves
            (subst (λ (x : Node). Stands q t (put (view_in (pre ++ n ∷ ns)) n.name (side_at x)) limit air) (here n refl) (put_own (pre ++ n ∷ ns) n.name s)))
          where
            here : (x : Node) → x.name ≡ n.name → node_in (pre ++ x ∷ ns) n.name ≡ x
            here x same = ap (λ (o : Option Node). unwrap_or o (no_node n.name))
                (find_shown (λ (y : Node). is_node n.name y.name) pre ns x is (ap (is_node n.name) same ∙ node_refl n.name))

            is_put : (y : NodeName) (q : PortName) → (y ≡ n.name) ⊎ (y ≡ n.name → ⊥) → view_in (pre ++ m ∷ ns) y q ≡ put (view_in (pre ++ n ∷ ns)) n.name (side_at m) y q
            is_put y q (inl e) = ap (λ (y : NodeName). view_in (pre ++ m ∷ ns) y q) e ∙ ap (λ (x : Node). side_at x q) (here m g.name)
                ∙ sym (put_here (view_in (pre ++ n ∷ ns)) n.name (side_at m) y q e)
            is_put y q (inr ne) = ap (λ (x : Node). side_at x q) (sym (apart y ne)) ∙ sym (put_other (view_in (pre ++ n ∷ ns)) n.name (side_at m) y q ne)

    -- all nodes feed, one behind another
    feeds_stand : (pre ns : List Node) (given : List Key) (ms : List Node) → AllByRecursion NodeFits ns → FeedsAll t ns given ms → Stands q t (view_in (pre ++ ns)) limit air
        → Stands q t (view_in (pre ++ ms)) limit air × AllByRecursion NodeFits ms
    feeds_stand pre [] given ms fits f s = (subst (λ (ms : List Node). Stands q t (view_in (pre ++ ms)) limit air) (sym f.1) s, subst (AllByRecursion NodeFits) (sym f.1) tt)
    feeds_stand pre (n ∷ ns) given ms fits f s =
        let g = feeds_goes l t n f.2 f.0 fits.0 f.4 in
        let first = among_goes pre ns n f.0 g s in
        let rest = feeds_stand (pre ++ f.0 ∷ []) ns f.3 f.1 fits.1 f.5
        (subst (λ (xs : List Node). Stands q t (view_in xs) limit air) (sym (append_assoc pre (f.0 ∷ []) ns)) first) in (
          subst (λ (ms : List Node). Stands q t (view_in (pre ++ ms)) limit air) (sym f.7)
              (subst (λ (xs : List Node). Stands q t (view_in xs) limit air) (append_assoc pre (f.0 ∷ []) f.1) rest.0),
          subst (AllByRecursion NodeFits) (sym f.7) (g.fits, rest.1),
        )

  pub feeds_hold : (c : Chain) (given : List Key) (nodes : List Node) → Holds q c → FeedsAll c.tables c.nodes given nodes → Holds q (record c { nodes = nodes })
  feeds_hold c given nodes h f = let fed = feeds_stand c.tables [] c.nodes given nodes h.nodes f h.stands in record { limit = h.limit; apart = h.apart; fresh = h.fresh; stands = fed.0; nodes = fed.1; tickets = h.tickets }
