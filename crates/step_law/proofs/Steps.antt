-- A step has one outcome.
use Rattle.std.proofs.Common.{◌≡◌, List, [], ◌∷◌, ◌++◌, refl, sym, ◌∙◌, ap, subst}
use Rattle.std.specs.List.{filter_map}
use Rattle.link_base.specs.declared.names.Key.{Key}
use Rattle.bearer_map.specs.Contents.{Contents}
use Rattle.script_text.specs.declared.event.Event.{Event}
use Rattle.node_model.specs.State.{Node}
use Rattle.node_model.specs.Tables.{keys}
use Rattle.node_law.specs.OneOutcome.{NodesHearAlike}
use Rattle.node_law.proofs.FeedingAlike.{feeds_alike}
use Rattle.chain_model.specs.State.{Chain}
use Rattle.chain_model.specs.Steps.{FeedsAll, confirming, reporting}
use Rattle.step_law.specs.OneStep.{SameNodes, SameChain, OneStep, StepsAlike}
use Rattle.step_law.proofs.Chains.{same_chain, all_confirming}
use Rattle.step_law.proofs.Lines.{one_does}

-- nodes that are alike give the same reports, and stay alike
one_feeding : (t : Contents) (xs ys : List Node) → SameNodes xs ys → (g h : List Key) (ms ns : List Node) → FeedsAll t xs g ms → FeedsAll t ys h ns → (g ≡ h) × SameNodes ms ns
one_feeding t [] [] e g h ms ns p q = (p.0 ∙ sym q.0, subst (λ (z : List Node). SameNodes z ns) (sym p.1) (subst (SameNodes []) (sym q.1) tt))
one_feeding t [] (y ∷ ys) e g h ms ns p q = absurd e
one_feeding t (x ∷ xs) [] e g h ms ns p q = absurd e
one_feeding t (x ∷ xs) (y ∷ ys) e g h ms ns p q =
    let first = feeds_alike t x y e.0 p.2 q.2 p.0 q.0 p.4 q.4 in
    let more = one_feeding t xs ys e.1 p.3 q.3 p.1 q.1 p.5 q.5 in (
      p.6 ∙ ap (λ (z : List Key). z ++ p.3) first.0 ∙ ap (λ (z : List Key). q.2 ++ z) more.0 ∙ sym q.6,
      subst (λ (z : List Node). SameNodes z ns) (sym p.7) (subst (SameNodes (p.0 ∷ p.1)) (sym q.7) (first.1, more.1)),
    )

pub steps_alike : NodesHearAlike → StepsAlike
steps_alike hearing old other same fine line e es fs a b m n p q =
    let does = one_does old other same fine hearing line e p.own q.own a b p.mid q.mid p.does q.does in
    let fed = one_feeding q.mid.tables p.mid.nodes q.mid.nodes does.2.nodes p.given q.given p.nodes q.nodes
    (subst (λ (t : Contents). FeedsAll t p.mid.nodes p.given p.nodes) does.2.tables p.feeds) q.feeds in
    let left : SameChain (record p.mid { nodes = p.nodes }) (record q.mid { nodes = q.nodes }) =
    record { tables = does.2.tables; nodes = fed.1; plans = does.2.plans; air = does.2.air; staged = does.2.staged } in (
      p.shows ∙ ap (λ (t : Contents). p.own ++ filter_map (confirming old p.mid) (keys t) ++ filter_map (reporting p.given) (keys t)) same.tables
          ∙ ap (λ (xs : List Event). xs ++ filter_map (confirming old p.mid) (keys other.tables) ++ filter_map (reporting p.given) (keys other.tables)) does.0
          ∙ ap (λ (xs : List Event). q.own ++ xs ++ filter_map (reporting p.given) (keys other.tables)) (all_confirming old other same p.mid q.mid does.2 (keys other.tables))
          ∙ ap (λ (g : List Key). q.own ++ filter_map (confirming other q.mid) (keys other.tables) ++ filter_map (reporting g) (keys other.tables)) fed.0 ∙ sym q.shows,
      does.1,
      subst (λ (z : Chain). SameChain z n) (sym p.is) (subst (SameChain (record p.mid { nodes = p.nodes })) (sym q.is) left),
    )

pub one_step : NodesHearAlike → OneStep
one_step hearing old fine line e es fs a b m n p q = steps_alike hearing old old (same_chain old old refl) fine line e es fs a b m n p q
