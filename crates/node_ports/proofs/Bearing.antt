-- Which SDUs of a transmitter bear a local identity.
use Rattle.std.proofs.Common.{◌≡◌, ℕ, zero, suc, Bool, true, false, List, [], ◌∷◌, Option, Some, None, MatchBool, inl, inr, refl, sym, ◌∙◌, ap, eq-eqb}
use Rattle.std.specs.List.{list_any}
use Rattle.std.proofs.lemmas.Bool.{cases_Bool, eqb-true}
use Rattle.link_base.specs.declared.names.LocalId.{LocalId}
use Rattle.rlc_model.specs.Tx.{Tx, Kept, at}
use Rattle.rlc_model.specs.Calls.{Bears}
use Rattle.node_model.specs.Standing.{tag_bears, kept_bears}

some_same : {A : Type 0} (x y : A) → Some x ≡ Some y → x ≡ y
some_same x y is = cc

none_some : {A : Type 0} (x : A) → ◌≡◌ {A = Option A} None (Some x) → ⊥
none_some x e = absurd cc

-- the SDU of some number bears it
abbrev BearsIn : List (Option Kept) → LocalId → Type 0
BearsIn l ue = (n : ℕ) × (k : Kept) × (at l n ≡ Some k) × (k.tag.ue ≡ Some ue)

tag_is : (id : LocalId) (ue : Option LocalId) → tag_bears id ue ≡ true → ue ≡ Some id
tag_is id None is = absurd cc
tag_is id (Some ue) is = ap (λ (n : ℕ). let one : LocalId = record { 0 = n } in Some one) (sym (eqb-true id.0 ue.0 is))

tag_does : (id : LocalId) (ue : Option LocalId) → ue ≡ Some id → tag_bears id ue ≡ true
tag_does id ue is = ap (tag_bears id) is ∙ eq-eqb id.0 id.0 refl

kept_is : (id : LocalId) (k : Option Kept) → kept_bears id k ≡ true → (kept : Kept) × (k ≡ Some kept) × (kept.tag.ue ≡ Some id)
kept_is id None is = absurd cc
kept_is id (Some k) is = (k, refl, tag_is id k.tag.ue is)

kept_does : (id : LocalId) (k : Option Kept) (kept : Kept) → k ≡ Some kept → kept.tag.ue ≡ Some id → kept_bears id k ≡ true
kept_does id None kept here is = absurd (none_some kept here)
kept_does id (Some k) kept here is = tag_does id k.tag.ue (ap (λ (x : Kept). x.tag.ue) (some_same k kept here) ∙ is)

any_is : (id : LocalId) (l : List (Option Kept)) → list_any (kept_bears id) l ≡ true → BearsIn l id
any_is id [] is = absurd cc
any_is id (k ∷ l) is = elim (cases_Bool (kept_bears id k)) [
  | inl here ↦ let found = kept_is id k here in (0, found.0, found.1, found.2)
  | inr other ↦ let rest = any_is id l (rw other at is) in (suc rest.0, rest.1, rest.2, rest.3)
]

any_does : (id : LocalId) (l : List (Option Kept)) → BearsIn l id → list_any (kept_bears id) l ≡ true
any_does id [] (n, k, here, is) = absurd (none_some k here)
any_does id (k ∷ l) (zero, kept, here, is) = rw (kept_does id k kept here is) refl
any_does id (k ∷ l) (suc n, kept, here, is) = elim (cases_Bool (kept_bears id k)) [
  | inl own ↦ rw own refl
  | inr other ↦ rw other (any_does id l (n, kept, here, is))
]

-- a transmitter's answer is whether an SDU that isn't confirmed bears the identity
pub answer_is : (answer : Bool) (tx : Tx) (id : LocalId) → MatchBool answer (Bears tx id) (Bears tx id → ⊥) → answer ≡ list_any (kept_bears id) tx.kept
answer_is true tx id bears = sym (any_does id tx.kept bears)
answer_is false tx id none = elim (cases_Bool (list_any (kept_bears id) tx.kept)) [
  | inl does ↦ absurd (none (any_is id tx.kept does))
  | inr not ↦ sym not
]
