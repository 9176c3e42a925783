-- The local identity of a remote, where each remote has one at most.
use Rattle.std.proofs.Common.{◌≡◌, ◌⊎◌, inl, inr, ℕ, zero, suc, true, List, [], ◌∷◌, Option, Some, None, refl, sym, ◌∙◌, ap, arith}
use Rattle.std.proofs.lemmas.Bool.{cases_Bool, cond-true, cond-false}
use Rattle.link_base.specs.declared.names.LocalId.{LocalId}
use Rattle.link_base.specs.declared.names.Remote.{Remote}
use Rattle.bearer_map.specs.declared.ids.Attachment.{Attachment}
use Rattle.bearer_map.specs.Ids.{AreIds, IsAttached, attachment}
use Rattle.node_model.specs.Names.{is_remote}
use Rattle.node_model.specs.State.{id_in}
use Rattle.node_model.proofs.Names.{remote_is, remote_refl}

none-some : {A : Type 0} (x : A) → ◌≡◌ {A = Option A} None (Some x) → ⊥
none-some x e = absurd cc

-- a remote has none, or the one that is found
pub in_or : (ids : List Attachment) (remote : Remote) → (id_in ids remote ≡ None) ⊎ ((id : LocalId) × (id_in ids remote ≡ Some id) × IsAttached ids remote id.0)
in_or [] remote = inl refl
in_or (a ∷ more) remote = elim (cases_Bool (is_remote remote a.remote)) [
  | inl here ↦ inr (
    a.id,
    cond-true (is_remote remote a.remote) (Some a.id) (id_in more remote) here,
    (0, omega arith, ap (λ (r : Remote). attachment r a.id) (sym (remote_is remote a.remote here))),
  )
  | inr other ↦ elim (in_or more remote) [
    | inl none ↦ inl (cond-false (is_remote remote a.remote) (Some a.id) (id_in more remote) other ∙ none)
    | inr found ↦ inr (found.0, cond-false (is_remote remote a.remote) (Some a.id) (id_in more remote) other ∙ found.1, (suc found.2.0, omega (arith, found.2.1), found.2.2))
  ]
]

attached_found : (ids : List Attachment) (remote : Remote) (id : ℕ) → IsAttached ids remote id → id_in ids remote ≡ None → ⊥
attached_found [] remote id (k, lt, is) none = omega (arith, lt)
attached_found (a ∷ more) remote id (zero, lt, is) none =
    let same : is_remote remote a.remote ≡ true = ap (λ (x : Attachment). is_remote remote x.remote) is ∙ remote_refl remote in
    none-some a.id (sym none ∙ cond-true (is_remote remote a.remote) (Some a.id) (id_in more remote) same)
attached_found (a ∷ more) remote id (suc k, lt, is) none = elim (cases_Bool (is_remote remote a.remote)) [
  | inl here ↦ none-some a.id (sym none ∙ cond-true (is_remote remote a.remote) (Some a.id) (id_in more remote) here)
  | inr other ↦ attached_found more remote id (k, omega (arith, lt), is) (sym (cond-false (is_remote remote a.remote) (Some a.id) (id_in more remote) other) ∙ none)
]

pub id_is : (ids : List Attachment) (remote : Remote) → AreIds ids → (found : Option LocalId) → ((id : LocalId) → found ≡ Some id → IsAttached ids remote id.0) → (found ≡ None → (id : ℕ) → IsAttached ids remote id → ⊥)
    → found ≡ id_in ids remote
id_is ids remote are None some none = elim (in_or ids remote) [
  | inl missing ↦ sym missing
  | inr there ↦ absurd (none refl there.0.0 there.2)
]
id_is ids remote are (Some id) some none = elim (in_or ids remote) [
  | inl missing ↦ absurd (attached_found ids remote id.0 (some id refl) missing)
  | inr there ↦ ap (λ (n : ℕ). Some (record { 0 = n })) (are.one_id remote id.0 there.0.0 (some id refl) there.2) ∙ sym there.1
]
