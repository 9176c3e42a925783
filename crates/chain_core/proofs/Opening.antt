-- Nodes at which nothing has happened.
use Rattle.std.proofs.Common.{◌≡◌, inl, inr, ◌<◌, false, List, [], ◌∷◌, ◌++◌, map, refl, sym, ◌∙◌, ap, subst, arith}
use Rattle.std.specs.List.{AllByRecursion}
use Rattle.std.proofs.lemmas.Bool.{cases_Bool, eqb-true}
use Rattle.link_base.specs.declared.names.Remote.{Remote}
use Rattle.bearer_map.specs.declared.rows.RemoteRow.{RemoteRow}
use Rattle.bearer_map.specs.Contents.{Contents, remote_rank}
use Rattle.bearer_map.specs.Order.{IsAscending}
use Rattle.node_model.specs.Names.{AtRemote, is_node, is_remote}
use Rattle.node_model.specs.State.{Node, TabledNode}
use Rattle.node_model.specs.Opening.{new_remote, new_relay, new_gnb}
use Rattle.chain_core.specs.Nodes.{node_of, with_relay, all_nodes, AreApart, HasTables, AreNodes}

-- a node with a copy of the tables
abbrev tabled : Contents → Node → TabledNode
tabled t n = record { tables = t; node = n }

-- a remote with its copy of the tables, and the gNB, and the relay
abbrev pub new_end : Contents → RemoteRow → TabledNode
new_end t row = tabled t (new_remote t row)

abbrev pub gnb_end : Contents → TabledNode
gnb_end t = tabled t (new_gnb t)

abbrev pub relay_end : Contents → TabledNode
relay_end t = tabled t (new_relay t)

-- the relay stands before the last of the others
relay_before_last : (relay : Node) (ns : List Node) (gnb : Node) → with_relay relay (ns ++ gnb ∷ []) ≡ ns ++ relay ∷ gnb ∷ []
relay_before_last relay [] gnb = refl
relay_before_last relay (n ∷ []) gnb = refl
relay_before_last relay (n ∷ m ∷ ms) gnb = ap (λ ns. n ∷ ns) (relay_before_last relay (m ∷ ms) gnb)

-- the nodes that all ends are
nodes_are : (t : Contents) (rows : List RemoteRow) → map node_of (map (new_end t) rows ++ gnb_end t ∷ []) ≡ map (new_remote t) rows ++ new_gnb t ∷ []
nodes_are t [] = refl
nodes_are t (row ∷ rows) = ap (λ ns. new_remote t row ∷ ns) (nodes_are t rows)

-- the nodes of a chain right behind its tables
pub all_new : (t : Contents) → all_nodes (relay_end t) (map (new_end t) t.remotes ++ gnb_end t ∷ []) ≡ map (new_remote t) t.remotes ++ new_relay t ∷ new_gnb t ∷ []
all_new t = ap (with_relay (new_relay t)) (nodes_are t t.remotes) ∙ relay_before_last (new_relay t) (map (new_remote t) t.remotes) (new_gnb t)

have_tables : (t : Contents) (rows : List RemoteRow) → AllByRecursion (HasTables t) (map (new_end t) rows ++ gnb_end t ∷ [])
have_tables t [] = (refl, tt)
have_tables t (row ∷ rows) = (refl, have_tables t rows)

-- two remotes of which one stands before the other are apart
remotes_apart : (a b : Remote) → a.0 < b.0 → is_remote a b ≡ false
remotes_apart a b lt = elim (cases_Bool (is_remote a b)) [
  | inl same ↦ absurd (omega (arith, lt, eqb-true a.0 b.0 same))
  | inr apart ↦ apart
]

-- remotes in order, and the gNB, have names of their own
names_apart : (t : Contents) (rows : List RemoteRow) → IsAscending remote_rank rows → AreApart (map (new_remote t) rows ++ new_gnb t ∷ [])
names_apart t [] order = (refl, tt, tt)
names_apart t (row ∷ rows) order = (refl, others rows order.0, names_apart t rows order.1)
  where
    others : (rs : List RemoteRow) → AllByRecursion (λ (r : RemoteRow). row.remote.0 < r.remote.0) rs → AllByRecursion (λ (m : Node). is_node (AtRemote row.remote) m.name ≡ false) (map (new_remote t) rs ++ new_gnb t ∷ [])
    others [] all = (refl, tt)
    others (r ∷ rs) all = (remotes_apart row.remote r.remote all.0, others rs all.1)

-- they are the nodes of their tables
pub are_new : (t : Contents) → IsAscending remote_rank t.remotes → AreNodes t (relay_end t) (map (new_end t) t.remotes ++ gnb_end t ∷ [])
are_new t order = record {
  relay_tables = refl;
  tables = have_tables t t.remotes;
  is_relay = (refl, refl, refl);
  apart = subst AreApart (sym (nodes_are t t.remotes)) (names_apart t t.remotes order);
}
