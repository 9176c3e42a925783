-- The attachments of the remotes that begin on the relay.
use Rattle.std.proofs.Common.{◌≡◌, ℕ, zero, suc, ◌<◌, List, [], ◌∷◌, ◌++◌, length, get_or, take, flat_map, refl, sym, ◌∙◌, ap, subst, inl, inr, arith}
use Rattle.std.specs.Prelude.{◌⊎◌, Contains}
use Rattle.std.specs.List.{AllByRecursion}
use Rattle.std.proofs.lemmas.List.Elements.{Contains-append_left, Contains-append_right, Contains-append_cases}
use Rattle.link_base.specs.declared.names.Goal.{Goal}
use Rattle.link_base.specs.declared.names.Goal.TheVariants.{Direct, Relay}
use Rattle.link_base.specs.declared.names.LocalId.{LocalId}
use Rattle.link_base.specs.declared.names.Remote.{Remote}
use Rattle.bearer_map.specs.declared.ids.Attachment.{Attachment}
use Rattle.bearer_map.specs.declared.rows.RemoteRow.{RemoteRow}
use Rattle.bearer_map.specs.Contents.{remote_rank}
use Rattle.bearer_map.specs.Ids.{AreIds, IsAttached, attachment}
use Rattle.bearer_map.specs.Order.{IsAscending}
use Rattle.node_model.specs.Opening.{attachments}

-- the attachment of a row
abbrev pub of_row : RemoteRow → List Attachment
of_row row = attachments row.remote row.goal

-- a row attaches its remote alone
one_remote : (goal : Goal) (own remote : Remote) (id : ℕ) → IsAttached (attachments own goal) remote id → own ≡ remote
one_remote Direct own remote id (k, lt, is) = absurd (omega arith)
one_remote (Relay other) own remote id (zero, lt, is) = ap (λ (a : Attachment). a.remote) is
one_remote (Relay other) own remote id (suc k, lt, is) = absurd (omega arith)

above : (low : ℕ) (rows : List RemoteRow) (place : ℕ) (row : RemoteRow) → AllByRecursion (λ (r : RemoteRow). low < remote_rank r) rows → place < length rows → row ≡ get_or rows place row → low < row.remote.0
above low [] place row all lt is = absurd (omega arith)
above low (r ∷ rows) zero row all lt is = subst (λ (x : RemoteRow). low < remote_rank x) (sym is) all.0
above low (r ∷ rows) (suc k) row all lt is = above low rows k row all.1 (omega arith) is

-- the rows before a row don't attach its remote
pub remote_free : (rows : List RemoteRow) → IsAscending remote_rank rows → (place : ℕ) (row : RemoteRow) → place < length rows → row ≡ get_or rows place row → (id : ℕ)
    → IsAttached (flat_map of_row (take place rows)) row.remote id → ⊥
remote_free [] up place row lt is id has = absurd (omega arith)
remote_free (r ∷ rows) up zero row lt is id has = absurd (omega (arith, has.1))
remote_free (r ∷ rows) up (suc k) row lt is id has = elim (Contains-append_cases (of_row r) (flat_map of_row (take k rows)) (attachment row.remote (record { 0 = id })) has) [
  | inl first ↦ omega (arith, above r.remote.0 rows k row up.0 (omega arith) is, ap (λ (x : Remote). x.0) (one_remote r.goal r.remote row.remote id first))
  | inr later ↦ remote_free rows up.1 k row (omega arith) is id later
]

own_attachment : (goal : Goal) (remote : Remote) (id : LocalId) → goal ≡ Relay id → IsAttached (attachments remote goal) remote id.0
own_attachment goal remote id is = subst (λ (g : Goal). IsAttached (attachments remote g) remote id.0) (sym is) (0, omega arith, refl)

-- a row attaches its remote
its_attachment : (rows : List RemoteRow) (place : ℕ) (row : RemoteRow) (id : LocalId) → place < length rows → row ≡ get_or rows place row → row.goal ≡ Relay id → IsAttached (flat_map of_row rows) row.remote id.0
its_attachment [] place row id lt is goal = absurd (omega arith)
its_attachment (r ∷ rows) zero row id lt is goal = Contains-append_left (of_row r) (flat_map of_row rows) _
    (subst (λ (x : RemoteRow). IsAttached (of_row x) row.remote id.0) is (own_attachment row.goal row.remote id goal))
its_attachment (r ∷ rows) (suc k) row id lt is goal = Contains-append_right (of_row r) (flat_map of_row rows) _ (its_attachment rows k row id (omega arith) is goal)

-- what the first rows attach, all do
of_first : (rows : List RemoteRow) (place : ℕ) (remote : Remote) (id : ℕ) → IsAttached (flat_map of_row (take place rows)) remote id → IsAttached (flat_map of_row rows) remote id
of_first [] place remote id has = absurd (none place has)
  where
    none : (place : ℕ) → IsAttached (flat_map of_row (take place [])) remote id → ⊥
    none zero has = absurd (omega (arith, has.1))
    none (suc k) has = absurd (omega (arith, has.1))
of_first (r ∷ rows) zero remote id has = absurd (omega (arith, has.1))
of_first (r ∷ rows) (suc k) remote id has = elim (Contains-append_cases (of_row r) (flat_map of_row (take k rows)) (attachment remote (record { 0 = id })) has) [
  | inl first ↦ Contains-append_left (of_row r) (flat_map of_row rows) _ first
  | inr later ↦ Contains-append_right (of_row r) (flat_map of_row rows) _ (of_first rows k remote id later)
]

-- nor do they attach its local identity
pub id_free : (rows : List RemoteRow) → IsAscending remote_rank rows → AreIds (flat_map of_row rows) → (place : ℕ) (row : RemoteRow) (id : LocalId) → place < length rows → row ≡ get_or rows place row
    → row.goal ≡ Relay id → (other : Remote) → IsAttached (flat_map of_row (take place rows)) other id.0 → ⊥
id_free rows up ids place row id lt is goal other has =
    let same : other ≡ row.remote = ids.one_remote other row.remote id.0 (of_first rows place other id.0 has) (its_attachment rows place row id lt is goal) in
    remote_free rows up place row lt is id.0 (subst (λ (r : Remote). IsAttached (flat_map of_row (take place rows)) r id.0) same has)
