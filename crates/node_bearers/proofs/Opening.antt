-- The bearers of tables.
use Rattle.std.proofs.Common.{◌≡◌, ℕ, ◌+◌, ◌<◌, Bool, true, false, cond, List, [], ◌∷◌, ◌++◌, length, map, take, get_or, Result, Ok, Err, IfOk, refl, sym, ◌∙◌, ap}
use Rattle.std.specs.Prelude.{filter}
use Rattle.std.specs.List.{AllByRecursion}
use Rattle.std.proofs.lemmas.List.{map-append, take_more}
use Rattle.link_base.specs.declared.names.Way.{Way}
use Rattle.link_base.specs.declared.memory.Memory.{Memory}
use Rattle.bearer_map.specs.declared.rows.BearerRow.{BearerRow}
use Rattle.bearer_map.specs.Order.{IsAscending}
use Rattle.rlc_model.specs.Sides.{flip}
use Rattle.node_model.specs.Names.{AtGnb}
use Rattle.node_model.specs.State.{Node, Outgoing, Incoming, no_node}
use Rattle.node_model.specs.Opening.{new_outgoing, new_incoming}
use Rattle.node_bearers.specs.Bearer.{outgoing_of, incoming_of, new_bearer}
use Rattle.node_bearers.specs.Table.{node_with}

-- what is made of a list, and of that
pub seen_twice : {A B C : Type 0} (f : B → C) (g : A → B) (h : A → C) → ((x : A) → f (g x) ≡ h x) → (xs : List A) → map f (map g xs) ≡ map h xs
seen_twice f g h same [] = refl
seen_twice f g h same (x ∷ xs) = rw same (ap (λ ys. h x ∷ ys) (seen_twice f g h same xs))

-- one more item
pub one_more : {A B : Type 0} (f : A → B) (table : List A) (i : ℕ) (d : A) (xs ys : List B) (x : B) → i < length table → ys ≡ xs ++ x ∷ [] → xs ≡ map f (take i table) → x ≡ f (get_or table i d) → ys ≡ map f (take (i + 1) table)
one_more f table i d xs ys x lt more rows this =
    more ∙ ap (λ zs. zs ++ x ∷ []) rows ∙ ap (λ z. map f (take i table) ++ z ∷ []) this
    ∙ sym (map-append f (take i table) (get_or table i d ∷ [])) ∙ ap (map f) (sym (take_more table i d lt))

-- what holds of each item, and of one more
pub all_push : {A : Type 0} (P : A → Type 0) (xs : List A) (x : A) → AllByRecursion P xs → P x → AllByRecursion P (xs ++ x ∷ [])
all_push P [] x all is = (is, tt)
all_push P (y ∷ ys) x all is = (all.0, all_push P ys x all.1 is)

all_filter : {A : Type 0} (P : A → Type 0) (p : A → Bool) (xs : List A) → AllByRecursion P xs → AllByRecursion P (filter p xs)
all_filter P p [] all = tt
all_filter P p (x ∷ xs) all = elim (p x) as (λ b. AllByRecursion P (cond b (x ∷ filter p xs) (filter p xs))) [
  | true ↦ (all.0, all_filter P p xs all.1)
  | false ↦ all_filter P p xs all.1
]

-- rows stay in order where some are left out
pub ascending_filter : {A : Type 0} (rank : A → ℕ) (p : A → Bool) (xs : List A) → IsAscending rank xs → IsAscending rank (filter p xs)
ascending_filter rank p [] up = tt
ascending_filter {A} rank p (x ∷ xs) up = elim (p x) as (λ b. IsAscending rank (cond b (x ∷ filter p xs) (filter p xs))) [
  | true ↦ (all_filter (λ (y : A). rank x < rank y) p xs up.0, ascending_filter rank p xs up.1)
  | false ↦ ascending_filter rank p xs up.1
]

all_seen : {A B : Type 0} (P : B → Type 0) (f : A → B) (xs : List A) → AllByRecursion (λ x. P (f x)) xs → AllByRecursion P (map f xs)
all_seen P f [] all = tt
all_seen P f (x ∷ xs) all = (all.0, all_seen P f xs all.1)

-- and where others of the same rank stand for them
pub ascending_seen : {A B : Type 0} (rank : B → ℕ) (f : A → B) (xs : List A) → IsAscending (λ x. rank (f x)) xs → IsAscending rank (map f xs)
ascending_seen rank f [] up = tt
ascending_seen {A} {B} rank f (x ∷ xs) up = (all_seen (λ (y : B). rank (f x) < rank y) f xs up.0, ascending_seen rank f xs up.1)

-- the ends of bearers just opened
module _ (sends : Way) (table : List BearerRow) where
  pub opened_outgoing : map (outgoing_of sends) (map (new_bearer sends) table) ≡ map (new_outgoing sends) table
  opened_outgoing = seen_twice (outgoing_of sends) (new_bearer sends) (new_outgoing sends) (λ row. refl) table

  pub opened_incoming : map (incoming_of (flip sends)) (map (new_bearer sends) table) ≡ map (new_incoming (flip sends)) table
  opened_incoming = seen_twice (incoming_of (flip sends)) (new_bearer sends) (new_incoming (flip sends)) (λ row. refl) table

  pub opened : node_with sends (map (new_bearer sends) table) ≡ record (no_node AtGnb) { outgoing = map (new_outgoing sends) table; incoming = map (new_incoming (flip sends)) table }
  opened =
      ap (λ (os : List Outgoing). record (node_with sends (map (new_bearer sends) table)) { outgoing = os }) opened_outgoing
      ∙ ap (λ (is : List Incoming). record (no_node AtGnb) { outgoing = map (new_outgoing sends) table; incoming = is }) opened_incoming

-- an answer is what it is equal to
pub if_same : (r : Result Node Memory) (x y : Node) → x ≡ y → IfOk r (λ n. n ≡ x) → IfOk r (λ n. n ≡ y)
if_same (Ok n) x y same is = is ∙ same
if_same (Err e) x y same is = tt
