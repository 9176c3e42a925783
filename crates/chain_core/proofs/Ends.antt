-- Ends with names of their own, and the relay among them: the one at a place is found by its name, and set by its name where it is set there.
use Rattle.std.proofs.Common.{◌≡◌, ◌⊎◌, inl, inr, ℕ, zero, suc, ◌<◌, Bool, true, false, cond, List, [], ◌∷◌, length, map, get_or, slice_set, find, Option, Some, None, unwrap_or, refl, sym, ◌∙◌, ap, subst, arith}
use Rattle.std.specs.List.{AllByRecursion}
use Rattle.std.specs.Prelude.{IsNone}
use Rattle.std.proofs.lemmas.Bool.{cases_Bool, cond-true, cond-false, false≢true, true≢false}
use Rattle.std.proofs.lemmas.List.{set-get_or}
use Rattle.link_base.specs.declared.names.Key.{Key}
use Rattle.link_base.specs.declared.names.Way.{Way}
use Rattle.link_base.specs.declared.names.Way.TheVariants.{Ul, Dl}
use Rattle.link_base.specs.declared.names.PortName.{PortName}
use Rattle.link_base.specs.declared.names.PortName.TheVariants.{Direct, Pc5, Uu}
use Rattle.link_base.specs.declared.names.Side.{Side}
use Rattle.link_base.specs.declared.names.Timer.{Timer}
use Rattle.link_base.specs.declared.rlc_words.Expired.{Expired}
use Rattle.link_base.specs.declared.names.Side.TheVariants.{Low, High}
use Rattle.bearer_map.specs.Contents.{Contents}
use Rattle.node_model.specs.Names.{NodeName, AtRelay, is_node, key_of, owner, source, sink, replaced}
use Rattle.node_model.specs.Sides.{ExpiresPort}
use Rattle.node_model.specs.State.{Node, TabledNode, no_node}
use Rattle.node_model.proofs.Names.{node_is, node_refl}
use Rattle.node_end.specs.Node.{side_of}
use Rattle.relay_core.specs.Ports.{relay_side}
use Rattle.relay_core.specs.Relay.{IsRelayNode}
use Rattle.chain_core.specs.Nodes.{NodesOfTables, node_of, with_relay, node_in, AreApart, HasTables, AreNodes, no_end, IsPlaceOf, HasNone, Moves}

-- a name that is none of another is none the other way round
node_apart : (a b : NodeName) → is_node a b ≡ false → is_node b a ≡ false
node_apart a b e = elim (cases_Bool (is_node b a)) [
  | inl same ↦ absurd (false≢true (sym e ∙ ap (is_node a) (node_is b a same) ∙ node_refl a))
  | inr apart ↦ apart
]

-- a node passes the test of a name
abbrev pub named : NodeName → Node → Bool
named name n = is_node name n.name

-- a name that isn't the relay's is found among the others
find_others : (r : Node) (name : NodeName) (ns : List Node) → named name r ≡ false → find (named name) (with_relay r ns) ≡ find (named name) ns
find_others r name [] e = cond-false (named name r) (Some r) None e
find_others r name (gnb ∷ []) e = cond-false (named name r) (Some r) (find (named name) (gnb ∷ [])) e
find_others r name (n ∷ m ∷ ms) e = ap (cond (named name n) (Some n)) (find_others r name (m ∷ ms) e)

-- the same where nodes are replaced by name
replace_others : (r : Node) (name : NodeName) (new : Node) (ns : List Node) → named name r ≡ false → replaced (named name) new (with_relay r ns) ≡ with_relay r (replaced (named name) new ns)
replace_others r name new [] e = ap (λ n. n ∷ []) (cond-false (named name r) new r e)
replace_others r name new (gnb ∷ []) e = ap (λ n. n ∷ cond (named name gnb) new gnb ∷ []) (cond-false (named name r) new r e)
replace_others r name new (n ∷ m ∷ ms) e = ap (λ ns. cond (named name n) new n ∷ ns) (replace_others r name new (m ∷ ms) e)

-- none of these nodes passes the test of a name
abbrev pub NoneNamed : List Node → NodeName → Type 0
NoneNamed ns name = AllByRecursion (λ (n : Node). named name n ≡ false) ns

-- none of the name is found, and none is replaced
pub find_none : (name : NodeName) (ns : List Node) → NoneNamed ns name → find (named name) ns ≡ None
find_none name [] none = refl
find_none name (n ∷ ns) none = cond-false (named name n) (Some n) (find (named name) ns) none.0 ∙ find_none name ns none.1

pub replace_none : (name : NodeName) (new : Node) (ns : List Node) → NoneNamed ns name → replaced (named name) new ns ≡ ns
replace_none name new [] none = refl
replace_none name new (n ∷ ns) none = ap (λ x. x ∷ replaced (named name) new ns) (cond-false (named name n) new n none.0) ∙ ap (λ xs. n ∷ xs) (replace_none name new ns none.1)

-- what follows from the node at a place
record AtPlace (ns : List Node) (name : NodeName) (place : ℕ) (new : Node) : Type 0 where
  pub found : find (named name) ns ≡ Some (get_or ns place (no_node name))
  pub sets : replaced (named name) new ns ≡ slice_set ns place new
  pub relay : is_node name AtRelay ≡ false

-- a node of this name stands at this place
record Stands (ns : List Node) (name : NodeName) (place : ℕ) : Type 0 where
  pub within : place < length ns
  pub its_name : (get_or ns place (no_node name)).name ≡ name

-- none of these has the name of one that is apart from each
none_of : (n : Node) (name : NodeName) (ns : List Node) → n.name ≡ name → AllByRecursion (λ (m : Node). is_node n.name m.name ≡ false) ns → NoneNamed ns name
none_of n name [] same apart = tt
none_of n name (m ∷ ns) same apart = (ap (λ x. is_node x m.name) (sym same) ∙ apart.0, none_of n name ns same apart.1)

at_place : (ns : List Node) (name : NodeName) (place : ℕ) (new : Node) → AreApart ns → Stands ns name place → AtPlace ns name place new
at_place [] name place new apart p = absurd (omega (arith, p.within))
at_place (n ∷ ns) name zero new apart p =
    let here : named name n ≡ true = ap (is_node name) p.its_name ∙ node_refl name in record {
      found = cond-true (named name n) (Some n) (find (named name) ns) here;
      sets = ap (λ x. x ∷ replaced (named name) new ns) (cond-true (named name n) new n here) ∙ ap (λ xs. new ∷ xs) (replace_none name new ns (none_of n name ns p.its_name apart.1));
      relay = ap (λ x. is_node x AtRelay) (sym p.its_name) ∙ node_apart AtRelay n.name apart.0;
    }
at_place (n ∷ ns) name (suc place) new apart p =
    let rest = at_place ns name place new apart.2 (record { within = omega (arith, p.within); its_name = p.its_name }) in
    let not_here : named name n ≡ false = ap (λ x. is_node x n.name) (sym p.its_name) ∙ apart_from n ns place (omega (arith, p.within)) apart.1 in record {
      found = cond-false (named name n) (Some n) (find (named name) ns) not_here ∙ rest.found;
      sets = ap (λ x. x ∷ replaced (named name) new ns) (cond-false (named name n) new n not_here) ∙ ap (λ xs. n ∷ xs) rest.sets;
      relay = rest.relay;
    }
  where
    apart_from : (n : Node) (ns : List Node) (place : ℕ) → place < length ns → AllByRecursion (λ (m : Node). is_node n.name m.name ≡ false) ns → is_node (get_or ns place (no_node name)).name n.name ≡ false
    apart_from n [] place within all = absurd (omega (arith, within))
    apart_from n (m ∷ ms) zero within all = node_apart n.name m.name all.0
    apart_from n (m ∷ ms) (suc place) within all = apart_from n ms place (omega (arith, within)) all.1

-- nodes stay apart where one is set that has the name of the one before
apart_set : (ns : List Node) (place : ℕ) (d new : Node) → place < length ns → new.name ≡ (get_or ns place d).name → AreApart ns → AreApart (slice_set ns place new)
apart_set [] place d new within same apart = absurd (omega (arith, within))
apart_set (n ∷ ns) zero d new within same apart =
    (ap (is_node AtRelay) same ∙ apart.0, subst (λ (x : NodeName). AllByRecursion (λ (m : Node). is_node x m.name ≡ false) ns) (sym same) apart.1, apart.2)
apart_set (n ∷ ns) (suc place) d new within same apart =
    (apart.0, others ns place (omega (arith, within)) same apart.1, apart_set ns place d new (omega (arith, within)) same apart.2)
  where
    others : (ms : List Node) (place : ℕ) → place < length ms → new.name ≡ (get_or ms place d).name → AllByRecursion (λ (m : Node). is_node n.name m.name ≡ false) ms → AllByRecursion (λ (m : Node). is_node n.name m.name ≡ false) (slice_set ms place new)
    others [] place within same all = absurd (omega (arith, within))
    others (m ∷ ms) zero within same all = (ap (is_node n.name) same ∙ all.0, all.1)
    others (m ∷ ms) (suc place) within same all = (all.0, others ms place (omega (arith, within)) same all.1)

-- the nodes that ends are, place by place
pub long_map : (es : List TabledNode) → length (map node_of es) ≡ length es
long_map [] = refl
long_map (x ∷ es) = ap suc (long_map es)

pub get_map : (es : List TabledNode) (place : ℕ) (e : TabledNode) (d : Node) → place < length es → get_or (map node_of es) place d ≡ (get_or es place e).node
get_map [] place e d within = absurd (omega (arith, within))
get_map (x ∷ es) zero e d within = refl
get_map (x ∷ es) (suc place) e d within = get_map es place e d (omega (arith, within))

pub set_map : (es : List TabledNode) (place : ℕ) (e : TabledNode) → map node_of (slice_set es place e) ≡ slice_set (map node_of es) place e.node
set_map [] place e = refl
set_map (x ∷ es) zero e = refl
set_map (x ∷ es) (suc place) e = ap (λ ns. x.node ∷ ns) (set_map es place e)

-- all ends have their tables, and so has the one at a place
tables_at : (t : Contents) (es : List TabledNode) (place : ℕ) (d : TabledNode) → AllByRecursion (HasTables t) es → place < length es → HasTables t (get_or es place d)
tables_at t [] place d all within = absurd (omega (arith, within))
tables_at t (e ∷ es) zero d all within = all.0
tables_at t (e ∷ es) (suc place) d all within = tables_at t es place d all.1 (omega (arith, within))

tables_set : (t : Contents) (es : List TabledNode) (place : ℕ) (new : TabledNode) → AllByRecursion (HasTables t) es → HasTables t new → AllByRecursion (HasTables t) (slice_set es place new)
tables_set t [] place new all has = tt
tables_set t (e ∷ es) zero new all has = (has, all.1)
tables_set t (e ∷ es) (suc place) new all has = (all.0, tables_set t es place new all.1 has)

-- none of the name is among the nodes
none_named : (es : List TabledNode) (name : NodeName) → HasNone es name → NoneNamed (map node_of es) name
none_named [] name none = tt
none_named (e ∷ es) name none = (here (cases_Bool (named name e.node)), none_named es name (λ place within. none (suc place) (omega (arith, within))))
  where
    here : (named name e.node ≡ true) ⊎ (named name e.node ≡ false) → named name e.node ≡ false
    here (inl same) = absurd (none zero (omega arith) (sym (node_is name e.node.name same)))
    here (inr apart) = apart

-- an end that is read at its place
module _ (t : Contents) (r : TabledNode) (es : List TabledNode) (is : AreNodes t r es) (name : NodeName) (place : ℕ) (p : IsPlaceOf es name place) (end : TabledNode)
    (here : end ≡ get_or es place end) where
  its_node : get_or (map node_of es) place (no_node name) ≡ end.node
  its_node = get_map es place end (no_node name) p.within ∙ ap node_of (sym here)

  stands : Stands (map node_of es) name place
  stands = record {
    within = omega (arith, p.within, long_map es);
    its_name = ap (λ (n : Node). n.name) (get_map es place (no_end name) (no_node name) p.within) ∙ p.its_name;
  }

  pub its_name : end.node.name ≡ name
  its_name = ap (λ (n : Node). n.name) (sym its_node) ∙ stands.its_name

  pub its_tables : end.tables ≡ t
  its_tables = subst (HasTables t) (sym here) (tables_at t es place end is.tables p.within)

  facts : (new : Node) → AtPlace (map node_of es) name place new
  facts new = at_place (map node_of es) name place new is.apart stands

  no_relay_name : named name r.node ≡ false
  no_relay_name = ap (is_node name) is.is_relay.0 ∙ (facts end.node).relay

  -- the node of the name is the end's
  pub is_read : node_in (with_relay r.node (map node_of es)) name ≡ end.node
  is_read = ap (λ (n : Option Node). unwrap_or n (no_node name)) (find_others r.node name (map node_of es) no_relay_name ∙ (facts end.node).found) ∙ its_node

  -- a step of the end is a step of the node of the name
  pub moves_read : (Steps : Node → Node → Type 0) (new : TabledNode) → Steps end.node new.node → new.node.name ≡ end.node.name
      → Moves name Steps (with_relay r.node (map node_of es)) (with_relay r.node (map node_of (slice_set es place new)))
  moves_read Steps new steps same = (
    new.node,
    subst (λ (n : Node). Steps n new.node) (sym is_read) steps,
    same ∙ its_name,
    sym (replace_others r.node name new.node (map node_of es) no_relay_name ∙ ap (with_relay r.node) ((facts new.node).sets ∙ sym (set_map es place new))),
  )

  -- a node that is set in its own place changes nothing
  pub stays_read : (new : TabledNode) → new.node ≡ end.node → map node_of (slice_set es place new) ≡ map node_of es
  stays_read new same =
      set_map es place new ∙ ap (slice_set (map node_of es) place) (same ∙ sym (get_map es place end end.node p.within ∙ ap node_of (sym here))) ∙ set-get_or (map node_of es) place end.node

  -- and the nodes stay those of the tables
  pub nodes_read : (new : TabledNode) → new.tables ≡ end.tables → new.node.name ≡ end.node.name → AreNodes t r (slice_set es place new)
  nodes_read new tables same = record {
    relay_tables = is.relay_tables;
    tables = tables_set t es place new is.tables (tables ∙ its_tables);
    is_relay = is.is_relay;
    apart = subst AreApart (sym (set_map es place new))
        (apart_set (map node_of es) place (no_node name) new.node stands.within (same ∙ its_name ∙ sym stands.its_name) is.apart);
  }

-- the nodes where the ends have none of a name, and it isn't the relay's
module _ (t : Contents) (r : TabledNode) (es : List TabledNode) (is : AreNodes t r es) (name : NodeName) (none : HasNone es name) (apart : is_node AtRelay name ≡ false) where
  not_relay : named name r.node ≡ false
  not_relay = ap (is_node name) is.is_relay.0 ∙ node_apart AtRelay name apart

  -- the node of the name has nothing
  pub reads_nowhere : node_in (with_relay r.node (map node_of es)) name ≡ no_node name
  reads_nowhere = ap (λ (n : Option Node). unwrap_or n (no_node name)) (find_others r.node name (map node_of es) not_relay ∙ find_none name (map node_of es) (none_named es name none))

  -- and a step of it that leaves it as it is changes nothing
  pub moves_nowhere : (Steps : Node → Node → Type 0) → Steps (no_node name) (no_node name) → Moves name Steps (with_relay r.node (map node_of es)) (with_relay r.node (map node_of es))
  moves_nowhere Steps steps = (
    no_node name,
    subst (λ (n : Node). Steps n (no_node name)) (sym reads_nowhere) steps,
    refl,
    sym (replace_others r.node name (no_node name) (map node_of es) not_relay ∙ ap (with_relay r.node) (replace_none name (no_node name) (map node_of es) (none_named es name none))),
  )

-- the relay is found by its name, and set by it
module _ (t : Contents) (r : TabledNode) (es : List TabledNode) (is : AreNodes t r es) where
  here : named AtRelay r.node ≡ true
  here = ap (is_node AtRelay) is.is_relay.0

  found : (ns : List Node) → AreApart ns → find (named AtRelay) (with_relay r.node ns) ≡ Some r.node
  found [] apart = cond-true (named AtRelay r.node) (Some r.node) None here
  found (gnb ∷ []) apart = cond-true (named AtRelay r.node) (Some r.node) (find (named AtRelay) (gnb ∷ [])) here
  found (n ∷ m ∷ ms) apart = cond-false (named AtRelay n) (Some n) (find (named AtRelay) (with_relay r.node (m ∷ ms))) apart.0 ∙ found (m ∷ ms) apart.2

  sets : (new : Node) (ns : List Node) → AreApart ns → replaced (named AtRelay) new (with_relay r.node ns) ≡ with_relay new ns
  sets new [] apart = ap (λ n. n ∷ []) (cond-true (named AtRelay r.node) new r.node here)
  sets new (gnb ∷ []) apart = ap (λ n. n ∷ cond (named AtRelay gnb) new gnb ∷ []) (cond-true (named AtRelay r.node) new r.node here) ∙ ap (λ n. new ∷ n ∷ []) (cond-false (named AtRelay gnb) new gnb apart.0)
  sets new (n ∷ m ∷ ms) apart =
      ap (λ x. x ∷ replaced (named AtRelay) new (with_relay r.node (m ∷ ms))) (cond-false (named AtRelay n) new n apart.0) ∙ ap (λ xs. n ∷ xs) (sets new (m ∷ ms) apart.2)

  pub relay_is_read : node_in (with_relay r.node (map node_of es)) AtRelay ≡ r.node
  relay_is_read = ap (λ (n : Option Node). unwrap_or n (no_node AtRelay)) (found (map node_of es) is.apart)

  -- a step of the relay is a step of the node of its name
  pub relay_moves : (Steps : Node → Node → Type 0) (new : TabledNode) → Steps r.node new.node → IsRelayNode new.node
      → Moves AtRelay Steps (with_relay r.node (map node_of es)) (with_relay new.node (map node_of es))
  relay_moves Steps new steps its = (new.node, subst (λ (n : Node). Steps n new.node) (sym relay_is_read) steps, its.0, sym (sets new.node (map node_of es) is.apart))

  -- and the nodes stay those of the tables
  pub relay_nodes : (new : TabledNode) → new.tables ≡ r.tables → IsRelayNode new.node → AreNodes t new es
  relay_nodes new same its = record { relay_tables = same ∙ is.relay_tables; tables = is.tables; is_relay = its; apart = is.apart }

-- none of the ends is the relay
pub no_relay : (es : List TabledNode) → AreApart (map node_of es) → HasNone es AtRelay
no_relay [] apart place within same = absurd (omega (arith, within))
no_relay (e ∷ es) apart zero within same = absurd (false≢true (sym apart.0 ∙ ap (is_node AtRelay) same))
no_relay (e ∷ es) apart (suc place) within same = no_relay es apart.2 place (omega (arith, within)) same

-- which side of its ports an end has, and the relay
pub end_side : (side : Side) (port : PortName) → is_node AtRelay (owner side port) ≡ false → side_of (owner side port) ≡ side
end_side Low (Direct r d) apart = refl
end_side High (Direct r d) apart = refl
end_side Low (Pc5 r c) apart = refl
end_side High (Pc5 r c) apart = absurd (true≢false apart)
end_side Low (Uu c) apart = refl
end_side High (Uu c) apart = refl

pub side_of_relay : (side : Side) (port : PortName) → is_node AtRelay (owner side port) ≡ true → relay_side port ≡ side
side_of_relay Low (Direct r d) is = absurd (false≢true is)
side_of_relay High (Direct r d) is = absurd (false≢true is)
side_of_relay Low (Pc5 r c) is = absurd (false≢true is)
side_of_relay High (Pc5 r c) is = refl
side_of_relay Low (Uu c) is = refl
side_of_relay High (Uu c) is = absurd (false≢true is)

-- where no timer ran out the node is as it was
pub expires_none : (old : Node) (port : PortName) (timer : Timer) (expired : Option Expired) (new : Node) → ExpiresPort old port timer expired new → IsNone expired → new ≡ old
expires_none old port timer None new e none = e.1
expires_none old port timer (Some expired) new e none = absurd (true≢false none)

-- no bearer ends at the relay
pub source_apart : (key : Key) → is_node AtRelay (source key) ≡ false
source_apart key = by key.way
  where
    by : (way : Way) → is_node AtRelay (source (key_of key.remote key.drb way)) ≡ false
    by Ul = refl
    by Dl = refl

pub sink_apart : (key : Key) → is_node AtRelay (sink key) ≡ false
sink_apart key = by key.way
  where
    by : (way : Way) → is_node AtRelay (sink (key_of key.remote key.drb way)) ≡ false
    by Ul = refl
    by Dl = refl

-- the nodes with these ends, or with this relay
abbrev pub with_ends : Contents → TabledNode → List Node → NodesOfTables
with_ends t relay nodes = record { tables = t; nodes = with_relay relay.node nodes }

abbrev pub with_node : Contents → List TabledNode → Node → NodesOfTables
with_node t ends relay = record { tables = t; nodes = with_relay relay (map node_of ends) }
