-- All nodes feed, one behind another; and so a line with the feeding behind it goes by item steps.
use mathlib.Core.Path.{fun_ext}
use Rattle.std.proofs.Common.{◌≡◌, inl, inr, List, [], ◌∷◌, ◌++◌, find, Option, Some, None, is_some, option_map, unwrap_or, refl, sym, ◌∙◌, ap, subst, append_assoc}
use Rattle.link_base.specs.declared.names.Key.{Key}
use Rattle.link_base.specs.declared.names.Remote.{Remote}
use Rattle.bearer_map.specs.Contents.{Contents}
use Rattle.node_model.specs.Names.{NodeName, AtRelay, is_node, is_remote, owner}
use Rattle.node_model.specs.State.{Node, no_node, side_at, entity_at, slot_at, queue_at, outgoing_at, incoming_at}
use Rattle.node_model.proofs.Names.{node_refl, node_apart, cases_node}
use Rattle.chain_model.specs.declared.plan.Plan.{Plan}
use Rattle.chain_model.specs.Places.{find_node}
use Rattle.chain_model.specs.State.{Chain, node_at, set_node}
use Rattle.chain_model.specs.Steps.{FeedsAll}
use Rattle.chain_model.proofs.Lookups.{cases_found, sets_nodes}
use Rattle.chain_law.proofs.Chains.{find_hidden, find_skip, find_shown}
use Rattle.book_law.proofs.Tables.{does_view, tables_of, tables_steady}
use Rattle.item_chain.specs.View.{side_size, view}
use Rattle.item_chain.specs.Stands.{Ghost, Stands, Refines}
use Rattle.item_chain.specs.Laws.{LinesGoByItemSteps}
use Rattle.item_chain.specs.Runs.{FeedingGoesByItemSteps, StepsGoByItemSteps}
use Rattle.item_chain.proofs.Feeds.{NodeGoes, feeds_go}
use Rattle.item_chain.proofs.Goings.{goes_on, stays}
use Rattle.item_chain.proofs.Views.{view_is}
use Rattle.item_chain.proofs.Given.{given_on}

-- lists of nodes in which each name finds the same show the same
view_by_name : (c d : Chain) → d.tables ≡ c.tables → d.plans ≡ c.plans → d.air ≡ c.air → ((name : NodeName) → find_node d name ≡ find_node c name) → view d ≡ view c
view_by_name c d tables plans air same =
    view_is (view d) (view c) tables
    (fun_ext (λ b. fun_ext (λ q. ap (λ (n : Node). entity_at n q) (at (owner b q)))))
    (fun_ext (λ q. ap (λ (n : Node). slot_at n q) (at AtRelay)))
    (fun_ext (λ q. ap (λ (n : Node). queue_at n q) (at AtRelay)))
    (fun_ext (λ m. ap (λ (n : Node). n.attached) (at m)))
    (fun_ext (λ m. ap outgoing_at (at m)))
    (fun_ext (λ m. ap incoming_at (at m)))
    (ap (λ (ps : List Plan). λ (remote : Remote). find (λ (p : Plan). is_remote remote p.remote) ps) plans)
    air (fun_ext (λ b. fun_ext (λ q. ap (λ (n : Node). option_map side_size (side_at n q)) (at (owner b q)))))
    (fun_ext (λ m. ap (λ (o : Option Node). is_some o) (same m)))
  where
    at : (name : NodeName) → node_at d name ≡ node_at c name
    at name = ap (λ (o : Option Node). unwrap_or o (no_node name)) (same name)

module _ (c : Chain) (pre ns : List Node) (n m : Node) (one : NodeGoes c.tables n.name n m) where
  abbrev before : Chain
  before = record c { nodes = pre ++ n ∷ ns }

  abbrev behind : Chain
  behind = record c { nodes = pre ++ m ∷ ns }

  -- names but that of the node find what they found
  apart : (x : NodeName) → (x ≡ n.name → ⊥) → find_node behind x ≡ find_node before x
  apart x ne = find_skip (λ (y : Node). is_node x y.name) pre ns m n (node_apart x m.name (λ e. ne (e ∙ one.named))) (node_apart x n.name ne)

  -- a node that another one of its name hides shows nothing
  hidden : (p : Node) → find (λ (y : Node). is_node n.name y.name) pre ≡ Some p → view behind ≡ view before
  hidden p is = view_by_name before behind refl refl refl (λ x. elim (cases_node x n.name) [
    | inl e ↦ subst (λ (x : NodeName). find_node behind x ≡ find_node before x) (sym e)
        (find_hidden (λ (y : Node). is_node n.name y.name) pre (m ∷ ns) p is ∙ sym (find_hidden (λ (y : Node). is_node n.name y.name) pre (n ∷ ns) p is))
    | inr ne ↦ apart x ne
  ])

  module _ (none : find (λ (y : Node). is_node n.name y.name) pre ≡ None) where
    shown : (x : Node) → x.name ≡ n.name → find (λ (y : Node). is_node n.name y.name) (pre ++ x ∷ ns) ≡ Some x
    shown x e = find_shown (λ (y : Node). is_node n.name y.name) pre ns x none (ap (is_node n.name) e ∙ node_refl n.name)

    set_found : find_node (set_node before m) n.name ≡ Some m
    set_found = subst (λ (x : NodeName). find_node (set_node before m) x ≡ Some m) one.named
        (sets_nodes.own before m n (ap (find_node before) one.named ∙ shown n refl))

    -- else it is the node of its name
    is_set : view (set_node before m) ≡ view behind
    is_set = view_by_name behind (set_node before m) refl refl refl (λ x. elim (cases_node x n.name) [
      | inl e ↦ subst (λ (x : NodeName). find_node (set_node before m) x ≡ find_node behind x) (sym e) (set_found ∙ sym (shown m one.named))
      | inr ne ↦ sets_nodes.others before m x (λ e. ne (sym e ∙ one.named)) ∙ sym (apart x ne)
    ])

  -- one node of the list feeds
  pub among_goes : (g : Ghost) → Stands g (view before) → Refines c.tables g (view behind)
  among_goes g st = elim (cases_found (find (λ (y : Node). is_node n.name y.name) pre)) [
    | inl p ↦ stays c.tables g (view before) (view behind) (hidden p.0 p.1) st
    | inr none ↦ subst (Refines c.tables g) (is_set none) (one.goes g before refl (shown none n refl) st)
  ]

all_go : (c : Chain) (pre ns : List Node) (given : List Key) (ms : List Node) → FeedsAll c.tables ns given ms → (g : Ghost) → Stands g (view (record c { nodes = pre ++ ns }))
    → Refines c.tables g (view (record c { nodes = pre ++ ms }))
all_go c pre [] given ms f g st = stays c.tables g (view (record c { nodes = pre ++ [] })) (view (record c { nodes = pre ++ ms }))
    (ap (λ (l : List Node). view (record c { nodes = pre ++ l })) f.1) st
all_go c pre (n ∷ ns) given ms (m, rest, first, more, one, others, are, is) g st =
    let step = among_goes c pre ns n m (feeds_go c.tables n.name n first m refl one) g st in
    let next = all_go c (pre ++ m ∷ []) ns more rest others step.ghost
    (subst (λ (l : List Node). Stands step.ghost (view (record c { nodes = l }))) (sym (append_assoc pre (m ∷ []) ns)) step.stands) in
    record {
      ghost = next.ghost;
      goes = goes_on step.goes next.goes;
      given = given_on g.ports step.ghost.ports next.ghost.ports step.given next.given;
      stands = subst (λ (l : List Node). Stands next.ghost (view (record c { nodes = l })))
          (append_assoc pre (m ∷ []) rest ∙ ap (λ (l : List Node). pre ++ l) (sym is)) next.stands;
    }

pub feeding_goes : FeedingGoesByItemSteps
feeding_goes g old st given nodes f = all_go old [] old.nodes given nodes f g st

pub steps_go : LinesGoByItemSteps → StepsGoByItemSteps
steps_go lines g old st line events reply new is step =
    let first = lines g old st line step.own reply step.mid is step.does in
    let tables : step.mid.tables ≡ old.tables = does_view tables_of tables_steady old step.mid line step.own reply step.does in
    let fed = feeding_goes first.ghost step.mid first.stands step.given step.nodes step.feeds in
    let second = subst (λ (t : Contents). Refines t first.ghost (view (record step.mid { nodes = step.nodes }))) tables fed in
    record {
      ghost = second.ghost;
      goes = goes_on first.goes second.goes;
      given = given_on g.ports first.ghost.ports second.ghost.ports first.given second.given;
      stands = subst (λ (c : Chain). Stands second.ghost (view c)) (sym step.is) second.stands;
    }
