-- Sides to which a node applies a plan in turn, each with the entity at its place.
use Rattle.std.proofs.Common.{◌≡◌, ◌≢◌, inl, inr, ℕ, ◌+◌, ◌<◌, ◌≤◌, true, List, [], ◌∷◌, length, get_or, set, map, Option, refl, sym, ◌∙◌, ap, arith}
use Rattle.std.specs.List.{AllByRecursion}
use Rattle.std.proofs.Math.ListN.{get_or-map}
use Rattle.std.proofs.lemmas.Bool.{cases_Bool, cases_eq}
use Rattle.std.proofs.lemmas.List.{same_lists, get_or-set_same, get_or-set_other, get_or_default, length-set, length-map}
use Rattle.link_base.specs.declared.names.Remote.{Remote}
use Rattle.link_base.specs.declared.names.Goal.{Goal}
use Rattle.bearer_map.specs.declared.settings.Settings.{Settings}
use Rattle.rlc_model.specs.Sides.{Entity}
use Rattle.node_model.specs.Names.{is_of}
use Rattle.node_model.specs.Rows.{AreOrdered}
use Rattle.node_model.specs.State.{PortSide}
use Rattle.node_model.specs.Switching.{side_after}
use Rattle.node_ports.specs.Order.{side_before}
use Rattle.node_ports.specs.Switching.{entity_after, side_with}

-- to those before the place it is applied, and from the place on all are as they were
pub record AreApplied (remote : Remote) (old new : List PortSide) (given left : List (Option Entity)) (place : ℕ) : Type 0 where
  pub long : length new ≡ length old
  pub also : length left ≡ length given
  pub before : (k : ℕ) (d : PortSide) (e : Option Entity) → k < place → k < length old → k < length given → get_or new k d ≡ side_with remote (get_or given k e) (get_or old k d)
  pub behind : (k : ℕ) (d : PortSide) → place ≤ k → get_or new k d ≡ get_or old k d
  pub untaken : (k : ℕ) (e : Option Entity) → place ≤ k → get_or left k e ≡ get_or given k e

module _ (remote : Remote) (old : List PortSide) (given : List (Option Entity)) where
  pub none_applied : AreApplied remote old old given given 0
  none_applied = record {
    long = refl;
    also = refl;
    before = λ k d e lt within there. absurd (omega arith);
    behind = λ k d le. refl;
    untaken = λ k e le. refl;
  }

  pub one_more : (new : List PortSide) (left : List (Option Entity)) (place : ℕ) (d y : PortSide) (e z : Option Entity) → place < length new → place < length left
      → y ≡ side_with remote (get_or left place e) (get_or new place d)
      → AreApplied remote old new given left place → AreApplied remote old (set new place y) given (set left place z) (place + 1)
  one_more new left place d y e z lt also is w = record {
    long = length-set new place y ∙ w.long;
    also = length-set left place z ∙ w.also;
    before = λ k f g below within there. elim (cases_eq k place) [
      | inl here ↦
          let there_too : place < length given = omega (arith, also, w.also) in
          let within_too : place < length old = omega (arith, lt, w.long) in
          let entity : get_or left place e ≡ get_or given k g =
          w.untaken place e (omega arith) ∙ get_or_default given place e g there_too ∙ ap (λ (n : ℕ). get_or given n g) (sym here) in
          let side : get_or new place d ≡ get_or old k f = w.behind place d (omega arith) ∙ get_or_default old place d f within_too ∙ ap (λ (n : ℕ). get_or old n f) (sym here) in
          ap (λ (n : ℕ). get_or (set new place y) n f) here ∙ get_or-set_same new place y f lt ∙ is
          ∙ ap (λ (o : Option Entity). side_with remote o (get_or new place d)) entity ∙ ap (λ (s : PortSide). side_with remote (get_or given k g) s) side
      | inr other ↦ get_or-set_other new place k y f other ∙ w.before k f g (let ne : k ≢ place = other in omega arith) within there
    ];
    behind = λ k f le. get_or-set_other new place k y f (λ (same : k ≡ place). absurd (omega (arith, same, le))) ∙ w.behind k f (omega arith);
    untaken = λ k g le. get_or-set_other left place k z g (λ (same : k ≡ place). absurd (omega (arith, same, le))) ∙ w.untaken k g (omega arith);
  }

  pub all_applied : (new : List PortSide) (left : List (Option Entity)) (place : ℕ) → length new ≤ place → length given ≡ length old → AreApplied remote old new given left place
      → (entity_of : PortSide → Option Entity) → given ≡ map entity_of old → new ≡ map (λ (side : PortSide). side_with remote (entity_of side) side) old
  all_applied new left place le same w entity_of is =
      let f : PortSide → PortSide = λ (side : PortSide). side_with remote (entity_of side) side in
      same_lists new (map f old) (w.long ∙ sym (length-map old f)) (λ k d lt.
      let within : k < length old = omega (arith, lt, w.long) in
      let entity : get_or given k (entity_of d) ≡ entity_of (get_or old k d) = ap (λ (xs : List (Option Entity)). get_or xs k (entity_of d)) is ∙ get_or-map entity_of old k d in
      w.before k d (entity_of d) (omega arith) within (omega (arith, within, same)) ∙ ap (λ (o : Option Entity). side_with remote o (get_or old k d)) entity
      ∙ (sym (get_or-map f old k d) ∙ get_or_default (map f old) k (f d) d (omega (arith, within, length-map old f))))

-- a side with the entity that it begins with is the side that its node has once it has applied a plan
module _ (s : Settings) (remote : Remote) (goal : Goal) (epoch : ℕ) where
  abbrev after : PortSide → PortSide
  after = side_after s remote goal epoch

  with_after : (side : PortSide) → side_with remote (entity_after s remote goal epoch side) side ≡ side_after s remote goal epoch side
  with_after side = elim (cases_Bool (is_of remote side.name)) [ inl own ↦ rw own refl | inr other ↦ rw other refl ]

  pub all_after : (sides : List PortSide)
      → map (λ (side : PortSide). side_with remote (entity_after s remote goal epoch side) side) sides ≡ map (side_after s remote goal epoch) sides
  all_after [] = refl
  all_after (x ∷ sides) = ap (λ (y : PortSide). y ∷ map (λ (side : PortSide). side_with remote (entity_after s remote goal epoch side) side) sides) (with_after x)
      ∙ ap (λ (ys : List PortSide). side_after s remote goal epoch x ∷ ys) (all_after sides)

  -- and sides stay in order
  behind_still : (x : PortSide) (xs : List PortSide) → AllByRecursion (λ y. side_before x y ≡ true) xs → AllByRecursion (λ y. side_before (after x) y ≡ true) (map after xs)
  behind_still x [] all = tt
  behind_still x (y ∷ xs) all = (all.0, behind_still x xs all.1)

  pub order_kept : (xs : List PortSide) → AreOrdered side_before xs → AreOrdered side_before (map (side_after s remote goal epoch) xs)
  order_kept [] up = tt
  order_kept (x ∷ xs) up = (behind_still x xs up.0, order_kept xs up.1)
