-- Bearers once their end has applied a plan of a remote, and once all nodes have.
use Rattle.std.proofs.Common.{◌≡◌, ℕ, ◌<◌, List, [], ◌∷◌, map, inl, inr, refl, sym, ◌∙◌, ap, subst, arith}
use Rattle.std.specs.List.{AllByRecursion}
use Rattle.std.proofs.lemmas.Bool.{cases_Bool}
use Rattle.link_base.specs.declared.names.Drb.{Drb}
use Rattle.link_base.specs.declared.names.Remote.{Remote}
use Rattle.link_base.specs.declared.names.Way.{Way}
use Rattle.bearer_map.specs.Order.{IsAscending}
use Rattle.rlc_model.specs.Sides.{flip}
use Rattle.node_model.specs.Names.{is_remote}
use Rattle.node_model.specs.State.{Outgoing, Incoming}
use Rattle.node_model.specs.Switching.{outgoing_after, incoming_after, wanting, node_closed}
use Rattle.node_bearers.specs.declared.bearer.Bearer.{Bearer}
use Rattle.node_bearers.specs.Bearer.{rank, outgoing_of, incoming_of}
use Rattle.node_bearers.specs.Order.{IsSmall, IsInOrder}
use Rattle.node_bearers.specs.Switching.{bearer_after, bearer_closed, ends_after}
use Rattle.node_bearers.specs.Table.{node_with}

-- rows stay in order where each is changed and keeps its name
module _ (f : Bearer → Bearer) (remotes : (b : Bearer) → (f b).remote ≡ b.remote) (drbs : (b : Bearer) → (f b).drb ≡ b.drb) where
  ranks : (b : Bearer) → rank (f b) ≡ rank b
  ranks b = omega (arith, ap (λ (r : Remote). r.0) (remotes b), ap (λ (d : Drb). d.0) (drbs b))

  above : (n : ℕ) (rows : List Bearer) → AllByRecursion (λ (b : Bearer). n < rank b) rows → AllByRecursion (λ (b : Bearer). n < rank b) (map f rows)
  above n [] all = tt
  above n (b ∷ rows) all = (subst (λ (m : ℕ). n < m) (sym (ranks b)) all.0, above n rows all.1)

  ups : (rows : List Bearer) → IsAscending rank rows → IsAscending rank (map f rows)
  ups [] up = tt
  ups (b ∷ rows) up = (subst (λ (n : ℕ). AllByRecursion (λ (x : Bearer). n < rank x) (map f rows)) (sym (ranks b)) (above (rank b) rows up.0), ups rows up.1)

  smalls : (rows : List Bearer) → AllByRecursion IsSmall rows → AllByRecursion IsSmall (map f rows)
  smalls [] all = tt
  smalls (b ∷ rows) all = (subst (λ (d : Drb). d.0 < 256) (sym (drbs b)) all.0, smalls rows all.1)

  pub in_order : (rows : List Bearer) → IsInOrder rows → IsInOrder (map f rows)
  in_order rows order = record { ascend = ups rows order.ascend; small = smalls rows order.small }

-- what is seen of rows that are changed is what was seen, changed
seen_changed : {A B : Type 0} (see : A → B) (f : A → A) (g : B → B) → ((x : A) → see (f x) ≡ g (see x)) → (xs : List A) → map see (map f xs) ≡ map g (map see xs)
seen_changed see f g same [] = refl
seen_changed see f g same (x ∷ xs) = ap (λ y. y ∷ map see (map f xs)) (same x) ∙ ap (λ ys. g (see x) ∷ ys) (seen_changed see f g same xs)

-- what is seen of rows that are changed as before is what was seen
pub seen_still : {A B : Type 0} (see : A → B) (f : A → A) → ((x : A) → see (f x) ≡ see x) → (xs : List A) → map see (map f xs) ≡ map see xs
seen_still see f same [] = refl
seen_still see f same (x ∷ xs) = ap (λ y. y ∷ map see (map f xs)) (same x) ∙ ap (λ ys. see x ∷ ys) (seen_still see f same xs)

module _ (remote : Remote) where
  after_remote : (b : Bearer) → (bearer_after remote b).remote ≡ b.remote
  after_remote b = elim (cases_Bool (is_remote remote b.remote)) [ inl own ↦ rw own refl | inr other ↦ rw other refl ]

  after_drb : (b : Bearer) → (bearer_after remote b).drb ≡ b.drb
  after_drb b = elim (cases_Bool (is_remote remote b.remote)) [ inl own ↦ rw own refl | inr other ↦ rw other refl ]

  closed_remote : (b : Bearer) → (bearer_closed remote b).remote ≡ b.remote
  closed_remote b = elim (cases_Bool (is_remote remote b.remote)) [ inl own ↦ rw own refl | inr other ↦ rw other refl ]

  closed_drb : (b : Bearer) → (bearer_closed remote b).drb ≡ b.drb
  closed_drb b = elim (cases_Bool (is_remote remote b.remote)) [ inl own ↦ rw own refl | inr other ↦ rw other refl ]

  pub after_in_order : (rows : List Bearer) → IsInOrder rows → IsInOrder (map (bearer_after remote) rows)
  after_in_order = in_order (bearer_after remote) after_remote after_drb

  pub closed_in_order : (rows : List Bearer) → IsInOrder rows → IsInOrder (map (bearer_closed remote) rows)
  closed_in_order = in_order (bearer_closed remote) closed_remote closed_drb

  module _ (sends : Way) where
    out_after : (b : Bearer) → outgoing_of sends (bearer_after remote b) ≡ outgoing_after remote (outgoing_of sends b)
    out_after b = elim (cases_Bool (is_remote remote b.remote)) [ inl own ↦ rw own refl | inr other ↦ rw other refl ]

    in_after : (b : Bearer) → incoming_of (flip sends) (bearer_after remote b) ≡ incoming_after remote (incoming_of (flip sends) b)
    in_after b = elim (cases_Bool (is_remote remote b.remote)) [ inl own ↦ rw own refl | inr other ↦ rw other refl ]

    out_closed : (b : Bearer) → outgoing_of sends (bearer_closed remote b) ≡ outgoing_of sends b
    out_closed b = elim (cases_Bool (is_remote remote b.remote)) [ inl own ↦ rw own refl | inr other ↦ rw other refl ]

    in_closed : (b : Bearer) → incoming_of (flip sends) (bearer_closed remote b) ≡ wanting remote (incoming_of (flip sends) b)
    in_closed b = elim (cases_Bool (is_remote remote b.remote)) [ inl own ↦ rw own refl | inr other ↦ rw other refl ]

    pub node_after_with : (rows : List Bearer) → node_with sends (map (bearer_after remote) rows) ≡ ends_after remote (node_with sends rows)
    node_after_with rows =
        ap (λ (os : List Outgoing). record (node_with sends (map (bearer_after remote) rows)) { outgoing = os })
        (seen_changed (outgoing_of sends) (bearer_after remote) (outgoing_after remote) out_after rows)
        ∙ ap (λ (is : List Incoming). record (ends_after remote (node_with sends rows)) { incoming = is })
        (seen_changed (incoming_of (flip sends)) (bearer_after remote) (incoming_after remote) in_after rows)

    pub node_closed_with : (rows : List Bearer) → node_with sends (map (bearer_closed remote) rows) ≡ node_closed remote (node_with sends rows)
    node_closed_with rows =
        ap (λ (os : List Outgoing). record (node_with sends (map (bearer_closed remote) rows)) { outgoing = os })
        (seen_still (outgoing_of sends) (bearer_closed remote) out_closed rows)
        ∙ ap (λ (is : List Incoming). record (node_with sends rows) { incoming = is })
        (seen_changed (incoming_of (flip sends)) (bearer_closed remote) (wanting remote) in_closed rows)
