-- What adding and leaving out mean for the elements of a list.
use Rattle.std.proofs.Common.{◌≡◌, ℕ, zero, suc, Bool, true, false, cond, List, [], ◌∷◌, ◌++◌, sym, ◌∙◌, ap, subst, inl, inr, arith}
use Rattle.std.specs.Prelude.{◌⊎◌, Contains}
use Rattle.std.specs.List.{filter}
use Rattle.link_base.specs.declared.names.Remote.{Remote}
use Rattle.link_base.specs.declared.names.LocalId.{LocalId}
use Rattle.bearer_map.specs.declared.ids.Attachment.{Attachment}
use Rattle.bearer_map.specs.Ids.{attachment, IsAttached, AreIds}

later : {X : Type 0} (y : X) (xs : List X) (x : X) → Contains xs x → Contains (y ∷ xs) x
later y xs x (k, lt, same) = (suc k, omega arith, same)

pub contains_push : {X : Type 0} (xs : List X) (a x : X) → Contains (xs ++ a ∷ []) x → Contains xs x ⊎ (a ≡ x)
contains_push [] a x (zero, lt, same) = inr same
contains_push [] a x (suc k, lt, same) = absurd (omega arith)
contains_push (y ∷ xs) a x (zero, lt, same) = inl (zero, omega arith, same)
contains_push (y ∷ xs) a x (suc k, lt, same) =
    elim (contains_push xs a x (k, omega arith, same)) [ inl m ↦ inl (later y xs x m) | inr e ↦ inr e ]

kept : {X : Type 0} (p : X → Bool) (y : X) (xs : List X) (x : X) (b : Bool) → Contains (cond b (y ∷ filter p xs) (filter p xs)) x → (Contains (filter p xs) x → Contains xs x) → Contains (y ∷ xs) x
kept p y xs x true (zero, lt, same) rest = (zero, omega arith, same)
kept p y xs x true (suc k, lt, same) rest = later y xs x (rest (k, omega arith, same))
kept p y xs x false m rest = later y xs x (rest m)

pub contains_filter : {X : Type 0} (p : X → Bool) (xs : List X) (x : X) → Contains (filter p xs) x → Contains xs x
contains_filter p [] x m = m
contains_filter p (y ∷ xs) x m = kept p y xs x (p y) m (contains_filter p xs x)

-- what is behind one more attachment: an old one, or the new one
added : (xs : List Attachment) (remote r : Remote) (id : LocalId) (i : ℕ) → IsAttached (xs ++ attachment remote id ∷ []) r i → IsAttached xs r i ⊎ ((remote ≡ r) × (id.0 ≡ i))
added xs remote r id i m =
    elim (contains_push xs (attachment remote id) (attachment r (record { 0 = i })) m) [
      | inl old ↦ inl old
      | inr new ↦ inr (ap (λ (a : Attachment). a.remote) new, ap (λ (a : Attachment). a.id.0) new)
    ]

pub ids_push : (xs now : List Attachment) (remote : Remote) (id : LocalId) → xs ≡ now → AreIds xs → ((i : ℕ) → IsAttached now remote i → ⊥) → ((r : Remote) → IsAttached now r id.0 → ⊥) → AreIds (xs ++ attachment remote id ∷ [])
ids_push xs now remote id same ids no_id no_remote = record {
  one_id = λ r i j m n.
      elim (added xs remote r id i m) [
        | inl old ↦ elim (added xs remote r id j n) [
          | inl other ↦ ids.one_id r i j old other
          | inr new ↦ absurd (no_id i (subst (λ (s : Remote). IsAttached now s i) (sym new.0) (subst (λ (ys : List Attachment). IsAttached ys r i) same old)))
        ]
        | inr new ↦ elim (added xs remote r id j n) [
          | inl old ↦ absurd (no_id j (subst (λ (s : Remote). IsAttached now s j) (sym new.0) (subst (λ (ys : List Attachment). IsAttached ys r j) same old)))
          | inr other ↦ sym new.1 ∙ other.1
        ]
      ];
  one_remote = λ r s i m n.
      elim (added xs remote r id i m) [
        | inl old ↦ elim (added xs remote s id i n) [
          | inl other ↦ ids.one_remote r s i old other
          | inr new ↦ absurd (no_remote r (subst (λ (j : ℕ). IsAttached now r j) (sym new.1) (subst (λ (ys : List Attachment). IsAttached ys r i) same old)))
        ]
        | inr new ↦ elim (added xs remote s id i n) [
          | inl old ↦ absurd (no_remote s (subst (λ (j : ℕ). IsAttached now s j) (sym new.1) (subst (λ (ys : List Attachment). IsAttached ys s i) same old)))
          | inr other ↦ sym new.0 ∙ other.0
        ]
      ];
}

pub ids_filter : (p : Attachment → Bool) (xs : List Attachment) → AreIds xs → AreIds (filter p xs)
ids_filter p xs ids = record {
  one_id = λ r i j m n. ids.one_id r i j (contains_filter p xs _ m) (contains_filter p xs _ n);
  one_remote = λ r s i m n. ids.one_remote r s i (contains_filter p xs _ m) (contains_filter p xs _ n);
}
