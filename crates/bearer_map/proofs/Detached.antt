-- A remote that is left out of the attachments has no local identity, and one that was its own is free.
use Rattle.std.proofs.Common.{◌≡◌, ℕ, zero, suc, Bool, false, not, List, [], ◌∷◌, sym, refl, ◌∙◌, ap, subst, eq-eqb, inl, inr, arith}
use Rattle.std.specs.List.{filter}
use Rattle.std.proofs.lemmas.Bool.{cases_Bool, false≢true}
use Rattle.link_base.specs.declared.names.Remote.{Remote}
use Rattle.bearer_map.specs.declared.ids.Attachment.{Attachment}
use Rattle.bearer_map.specs.Ids.{has_remote, IsAttached, attachment}
use Rattle.bearer_map.proofs.Members.{contains_filter}

module _ (remote : Remote) where
  abbrev others : Attachment → Bool
  others a = not (has_remote remote a)

  first_other : (a : Attachment) (xs : List Attachment) (id : ℕ) → has_remote remote a ≡ false → (IsAttached xs remote id → ⊥) → IsAttached (a ∷ xs) remote id → ⊥
  first_other a xs id stays rest (zero, lt, is) = false≢true (sym stays ∙ (ap (has_remote remote) is ∙ eq-eqb remote.0 remote.0 refl))
  first_other a xs id stays rest (suc k, lt, is) = rest (k, omega (arith, lt), is)

  -- it has no local identity any more
  pub own_gone : (xs : List Attachment) (id : ℕ) → IsAttached (filter others xs) remote id → ⊥
  own_gone [] id (k, lt, is) = omega (arith, lt)
  own_gone (a ∷ xs) id there = elim (cases_Bool (has_remote remote a)) [
    | inl own ↦ own_gone xs id (rw own at there)
    | inr stays ↦ first_other a (filter others xs) id stays (own_gone xs id) (rw stays at there)
  ]

  -- and no remote has one that no other had
  pub none_has : (xs : List Attachment) (id : ℕ) → ((other : Remote) → IsAttached xs other id → other ≡ remote) → (other : Remote) → IsAttached (filter others xs) other id → ⊥
  none_has xs id free other there =
      let own : other ≡ remote = free other (contains_filter others xs (attachment other (record { 0 = id })) there) in
      own_gone xs id (subst (λ (r : Remote). IsAttached (filter others xs) r id) own there)
