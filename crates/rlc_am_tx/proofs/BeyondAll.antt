-- A STATUS speaks of what was not sent, or doesn't.
use Rattle.std.proofs.Common.{◌≡◌, ◌⊎◌, ◌↔◌, inl, inr, ℕ, ◌+◌, ◌-◌, ◌<◌, ◌≤◌, true, false, not, Bool, List, [], ◌∷◌, Option, refl, sym, ◌∙◌, subst, arith}
use Rattle.std.proofs.lemmas.Bool.{cases_lt, false≢true}
use Rattle.link_base.specs.declared.names.SnSize.{SnSize}
use Rattle.rlc_status.specs.declared.status.Nack.{Nack}
use Rattle.rlc_status.specs.declared.status.Status.{Status}
use Rattle.rlc_status.specs.Says.{IsGreatest, count as count_in, Some_has, NamesNumber}
use Rattle.rlc_model.specs.Tx.{Kept, IsBegunCount}
use Rattle.rlc_model.specs.Retransmission.{BeginsPast, EndsPast, SpeaksBeyond}
use Rattle.rlc_am_tx.specs.Buffer.{IsInOrder}
use Rattle.rlc_am_tx.specs.Elements.{IsWrong, below_zero, past_ack, begins_past, ends_past, PassesAck}
use Rattle.rlc_am_tx.proofs.Order.{above_not_sent, count_one, count_within}

-- of at most one number more than `unsent` a byte was sent
sent_limits : (l : List (Option Kept)) (u c : ℕ) → IsInOrder l u → IsBegunCount l c → c ≤ u + 1
sent_limits l u c i count = elim count.last [
  | inl none ↦ omega (arith, none)
  | inr sent ↦ elim (cases_lt u (c - 1)) [ inl gt ↦ absurd (above_not_sent l u i (c - 1) gt sent.0 sent.1) | inr le ↦ omega (arith, le) ]
]

pub some_map : (P Q : Nack → Type 0) (nacks : List Nack) → ((e : Nack) → P e → Q e) → Some_has P nacks → Some_has Q nacks
some_map P Q [] f h = h
some_map P Q (e ∷ nacks) f (inl here) = inl (f e here)
some_map P Q (e ∷ nacks) f (inr later) = inr (some_map P Q nacks f later)

module _ (size : SnSize) (l : List (Option Kept)) (s : Status) (a : ℕ) where
  wrong_in : (nacks : List Nack) → Some_has (IsWrong size l a) nacks → (Some_has (λ e. (m : ℕ) → IsGreatest size a e.sn m → ⊥) nacks) ⊎ (Some_has (PassesAck size a) nacks) ⊎ (Some_has (BeginsPast size l a) nacks) ⊎ (Some_has (EndsPast size l a) nacks)
  wrong_in [] h = absurd h
  wrong_in (e ∷ nacks) (inl (below_zero none)) = inl (inl none)
  wrong_in (e ∷ nacks) (inl (past_ack p)) = inr (inl (inl p))
  wrong_in (e ∷ nacks) (inl (begins_past b)) = inr (inr (inl (inl b)))
  wrong_in (e ∷ nacks) (inl (ends_past b)) = inr (inr (inr (inl b)))
  wrong_in (e ∷ nacks) (inr later) = elim (wrong_in nacks later) [
    | inl h ↦ inl (inr h)
    | inr h ↦ elim h [ inl x ↦ inr (inl (inr x)) | inr x ↦ elim x [ inl y ↦ inr (inr (inl (inr y))) | inr y ↦ inr (inr (inr (inr y))) ] ]
  ]

  pub wrong_beyond : Some_has (IsWrong size l a) s.nacks → SpeaksBeyond size l s a
  wrong_beyond w = elim (wrong_in s.nacks w) [
    | inl h ↦ SpeaksBeyond.below_zero h
    | inr h ↦ elim h [ inl x ↦ SpeaksBeyond.past_ack x | inr x ↦ elim x [ inl y ↦ SpeaksBeyond.begins_past y | inr y ↦ SpeaksBeyond.ends_past y ] ]
  ]

  module _ (u c : ℕ) (i : IsInOrder l u) (count : IsBegunCount l c) (le : a ≤ c) (fine : Some_has (IsWrong size l a) s.nacks → ⊥) where
    not_beyond : (a ≤ u) ⊎ Some_has (λ e. NamesNumber size a e u) s.nacks → SpeaksBeyond size l s a → ⊥
    not_beyond told (SpeaksBeyond.above d other lt) = omega (arith, le, lt, count_one l c d count other)
    not_beyond told (SpeaksBeyond.below_zero h) = fine (some_map _ (IsWrong size l a) s.nacks (λ e x. below_zero x) h)
    not_beyond told (SpeaksBeyond.past_ack h) = fine (some_map (λ e. (m : ℕ) × IsGreatest size a e.sn m × (a < m + count_in e)) (IsWrong size l a) s.nacks (λ e x. past_ack x) h)
    not_beyond told (SpeaksBeyond.begins_past h) = fine (some_map (BeginsPast size l a) (IsWrong size l a) s.nacks (λ e x. begins_past x) h)
    not_beyond told (SpeaksBeyond.ends_past h) = fine (some_map (EndsPast size l a) (IsWrong size l a) s.nacks (λ e x. ends_past x) h)
    not_beyond told (SpeaksBeyond.not_sent n says open_) =
        elim (cases_lt n u) [
          | inl below ↦ false≢true (sym (i.below n below) ∙ open_)
          | inr ge ↦
              let eq : n ≡ u = omega (arith, ge, says.0, le, sent_limits l u c i count) in
              elim told [ inl all ↦ omega (arith, all, eq, says.0) | inr named ↦ says.1 (subst (λ m. Some_has (λ e. NamesNumber size a e m) s.nacks) (sym eq) named) ]
        ]

    -- where the lowest number with unsent bytes isn't said received
    pub all_sent : a ≤ u → SpeaksBeyond size l s a → ⊥
    all_sent le_u = not_beyond (inl le_u)

    -- or is below the ACK
    pub named_is : (named : Bool) → u < a → named ≡ true ↔ Some_has (λ e. NamesNumber size a e u) s.nacks → (not named ≡ true) ↔ SpeaksBeyond size l s a
    named_is true lt is = (λ h. absurd (false≢true h), λ b. absurd (not_beyond (inr (is.0 refl)) b))
    named_is false lt is = (λ h. SpeaksBeyond.not_sent u (lt, λ named. false≢true (is.1 named)) (i.from u (omega arith) (omega (arith, lt, le, count_within l c count))), λ b. refl)

  -- none names a number that isn't below the ACK, and what is said received was sent
  pub fine_below : (SpeaksBeyond size l s a → ⊥) → Some_has (PassesAck size a) s.nacks → ⊥
  fine_below fine h = fine (SpeaksBeyond.past_ack h)
