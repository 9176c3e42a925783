-- Two lists whose items belong together place by place, and the sides of ports that they are.
use Rattle.std.proofs.Common.{◌≡◌, ℕ, zero, suc, ◌<◌, Bool, true, false, ◌&&◌, List, [], ◌∷◌, length, get_or, set, map, refl, sym, ◌∙◌, ap, subst, arith}
use Rattle.std.specs.List.{list_all, AllByRecursion}
use Rattle.node_model.specs.Rows.{AreOrdered}
use Rattle.node_model.specs.State.{PortSide}
use Rattle.node_ports.specs.Order.{side_before, by_port}
use Rattle.relay_core.specs.declared.ports.IngressPort.{IngressPort}
use Rattle.relay_core.specs.declared.ports.EgressPort.{EgressPort}
use Rattle.relay_core.specs.Ports.{Pairwise, side_of, sides_of, ingress_name}
use Rattle.relay_core.specs.Relay.{is_empty_side, has_empty_slot, has_empty_queue}

module _ {A B : Type 0} (P : A → B → Type 0) where
  pub pairs_long : (xs : List A) (ys : List B) → Pairwise P xs ys → length ys ≡ length xs
  pairs_long [] [] all = refl
  pairs_long [] (y ∷ ys) all = absurd all
  pairs_long (x ∷ xs) [] all = absurd all
  pairs_long (x ∷ xs) (y ∷ ys) all = omega (arith, pairs_long xs ys all.1)

  pub pair_at : (xs : List A) (ys : List B) → Pairwise P xs ys → (place : ℕ) (x : A) (y : B) → place < length xs → P (get_or xs place x) (get_or ys place y)
  pair_at [] [] all place x y lt = absurd (omega arith)
  pair_at [] (b ∷ ys) all place x y lt = absurd all
  pair_at (a ∷ xs) [] all place x y lt = absurd all
  pair_at (a ∷ xs) (b ∷ ys) all zero x y lt = all.0
  pair_at (a ∷ xs) (b ∷ ys) all (suc k) x y lt = pair_at xs ys all.1 k x y (omega arith)

  pub pairs_set : (xs : List A) (ys : List B) → Pairwise P xs ys → (place : ℕ) (x : A) (y : B) → P x y → Pairwise P (set xs place x) (set ys place y)
  pairs_set [] [] all place x y is = tt
  pairs_set [] (b ∷ ys) all place x y is = absurd all
  pairs_set (a ∷ xs) [] all place x y is = absurd all
  pairs_set (a ∷ xs) (b ∷ ys) all zero x y is = (is, all.1)
  pairs_set (a ∷ xs) (b ∷ ys) all (suc k) x y is = (all.0, pairs_set xs ys all.1 k x y is)

-- two lists that were made of one
pub pairs_made : {A B C : Type 0} (P : A → B → Type 0) (f : C → A) (g : C → B) → (cs : List C) → AllByRecursion (λ c. P (f c) (g c)) cs → Pairwise P (map f cs) (map g cs)
pairs_made P f g [] all = tt
pairs_made P f g (c ∷ cs) all = (all.0, pairs_made P f g cs all.1)

module _ (P : IngressPort → EgressPort → Type 0) where
  pub sides_long : (is : List IngressPort) (es : List EgressPort) → Pairwise P is es → length (sides_of is es) ≡ length is
  sides_long [] es all = refl
  sides_long (i ∷ is) [] all = absurd all
  sides_long (i ∷ is) (e ∷ es) all = omega (arith, sides_long is es all.1)

  pub sides_at : (is : List IngressPort) (es : List EgressPort) → Pairwise P is es → (place : ℕ) (i : IngressPort) (e : EgressPort) (s : PortSide) → place < length is
      → get_or (sides_of is es) place s ≡ side_of (get_or is place i) (get_or es place e)
  sides_at [] es all place i e s lt = absurd (omega arith)
  sides_at (i' ∷ is) [] all place i e s lt = absurd all
  sides_at (i' ∷ is) (e' ∷ es) all zero i e s lt = refl
  sides_at (i' ∷ is) (e' ∷ es) all (suc k) i e s lt = sides_at is es all.1 k i e s (omega arith)

  pub sides_set : (is : List IngressPort) (es : List EgressPort) → Pairwise P is es → (place : ℕ) (i : IngressPort) (e : EgressPort)
      → sides_of (set is place i) (set es place e) ≡ set (sides_of is es) place (side_of i e)
  sides_set [] es all place i e = refl
  sides_set (i' ∷ is) [] all place i e = absurd all
  sides_set (i' ∷ is) (e' ∷ es) all zero i e = refl
  sides_set (i' ∷ is) (e' ∷ es) all (suc k) i e = ap (λ (ss : List PortSide). side_of i' e' ∷ ss) (sides_set is es all.1 k i e)

  behind : (i : IngressPort) (e : EgressPort) (is : List IngressPort) (es : List EgressPort) → Pairwise P is es → AllByRecursion (λ s. side_before (side_of i e) s ≡ true) (sides_of is es)
      → AllByRecursion (λ k. by_port ingress_name i k ≡ true) is
  behind i e [] es all up = tt
  behind i e (i' ∷ is) [] all up = absurd all
  behind i e (i' ∷ is) (e' ∷ es) all up = (up.0, behind i e is es all.1 up.1)

  -- where the sides stand in order, so do the ingresses
  pub ingresses_ordered : (is : List IngressPort) (es : List EgressPort) → Pairwise P is es → AreOrdered side_before (sides_of is es) → AreOrdered (by_port ingress_name) is
  ingresses_ordered [] es all up = tt
  ingresses_ordered (i ∷ is) [] all up = absurd all
  ingresses_ordered (i ∷ is) (e ∷ es) all up = (behind i e is es all.1 up.0, ingresses_ordered is es all.1 up.1)

  both_all : (a b x y : Bool) → ((a && b) && (x && y)) ≡ ((a && x) && (b && y))
  both_all true true x y = refl
  both_all true false true y = refl
  both_all true false false y = refl
  both_all false b x y = refl

  -- the sides are empty where the slots and the queues are
  pub sides_empty : (is : List IngressPort) (es : List EgressPort) → Pairwise P is es → list_all is_empty_side (sides_of is es) ≡ (list_all has_empty_slot is && list_all has_empty_queue es)
  sides_empty [] [] all = refl
  sides_empty [] (e ∷ es) all = absurd all
  sides_empty (i ∷ is) [] all = absurd all
  sides_empty (i ∷ is) (e ∷ es) all = ap (λ (b : Bool). is_empty_side (side_of i e) && b) (sides_empty is es all.1)
      ∙ both_all (has_empty_slot i) (has_empty_queue e) (list_all has_empty_slot is) (list_all has_empty_queue es)
