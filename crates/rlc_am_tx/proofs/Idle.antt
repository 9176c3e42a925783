-- A buffer in which nothing waits.
use Rattle.std.proofs.Common.{◌≡◌, ◌⊎◌, ◌↔◌, inl, inr, ℕ, ◌<◌, true, false, not, Bool, List, length, Option, refl, arith}
use Rattle.std.specs.List.{prefix_len}
use Rattle.std.specs.Option.{is_none}
use Rattle.std.proofs.lemmas.Bool.{false≢true}
use Rattle.rlc_model.specs.Tx.{Kept, SomePending, SomeUnsent}
use Rattle.rlc_am_tx.specs.Buffer.{kept_from, IsIdleList}
use Rattle.rlc_am_tx.proofs.Numbers.{kept_front, kept_long}

-- there is no SDU
pub not_kept_idle : (base : ℕ) (kept_sdus : List (Option Kept)) → prefix_len is_none kept_sdus ≡ 0 → length kept_sdus ≡ 0 → IsIdleList (kept_from base kept_sdus) → ⊥
not_kept_idle base kept_sdus front none i = omega (arith, i.some, kept_front base kept_sdus front, kept_long base kept_sdus, none)

-- there is one
pub kept_idle : (base : ℕ) (kept_sdus : List (Option Kept)) → prefix_len is_none kept_sdus ≡ 0 → 0 < length kept_sdus → prefix_len is_none (kept_from base kept_sdus) < length (kept_from base kept_sdus)
kept_idle base kept_sdus front some = omega (arith, kept_front base kept_sdus front, kept_long base kept_sdus, some)

pub turned_idle : (owed w : Bool) (l : List (Option Kept)) → owed ≡ true → prefix_len is_none l < length l → ((w ≡ true) ↔ (SomePending l ⊎ SomeUnsent l)) → (not w ≡ true) ↔ (owed ≡ true) × IsIdleList l
turned_idle owed true l is some waits = (λ h. absurd (false≢true h), λ h. absurd (elim (waits.0 refl) [ inl x ↦ h.1.pending x | inr x ↦ h.1.unsent x ]))
turned_idle owed false l is some waits = (λ h. (is, record { some = some; pending = λ x. false≢true (waits.1 (inl x)); unsent = λ x. false≢true (waits.1 (inr x)) }), λ h. refl)
