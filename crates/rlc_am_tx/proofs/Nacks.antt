-- Elements of a STATUS, one by one.
use Rattle.std.proofs.Common.{◌≡◌, ◌⊎◌, ◌↔◌, inl, inr, ℕ, zero, suc, ◌+◌, ◌-◌, ◌<◌, ◌≤◌, true, false, Bool, List, [], ◌∷◌, length, take, get_or, Option, Some, None, refl, sym, ◌∙◌, ap, subst, arith}
use Rattle.std.proofs.lemmas.Bool.{cases_lt, false≢true}
use Rattle.std.proofs.lemmas.List.{take_all}
use Rattle.std.proofs.lemmas.Option.{same_Some}
use Rattle.link_base.specs.declared.names.SnSize.{SnSize}
use Rattle.link_base.specs.declared.names.SnSize.TheVariants.{S12, S18}
use Rattle.rlc_status.specs.declared.status.Nack.{Nack}
use Rattle.rlc_status.specs.Format.{NackFits, AllFit}
use Rattle.rlc_status.specs.Says.{IsGreatest, count, Some_has, NamesNumber, NamesPlace}
use Rattle.rlc_model.specs.Tx.{Kept, at}
use Rattle.rlc_am_tx.specs.Buffer.{EndsBy}
use Rattle.rlc_am_tx.specs.Elements.{HoldsNumber, HoldsPlace, PassesAck, IsWrong, below_zero, past_ack, begins_past, ends_past}

-- only one number is the greatest
pub greatest_one : (size : SnSize) (a sn m n : ℕ) → IsGreatest size a sn m → IsGreatest size a sn n → m ≡ n
greatest_one S12 a sn m n p q = omega arith
greatest_one S18 a sn m n p q = omega arith

pub fits_at : (size : SnSize) (nacks : List Nack) (i : ℕ) (d : Nack) → AllFit size nacks → i < length nacks → NackFits size (get_or nacks i d)
fits_at size [] i d fits lt = absurd (omega (arith, lt))
fits_at size (e ∷ nacks) zero d fits lt = fits.0
fits_at size (e ∷ nacks) (suc i) d fits lt = fits_at size nacks i d fits.1 (omega (arith, lt))

module _ (P : Nack → Type 0) where
  pub some_at : (nacks : List Nack) (i : ℕ) (d : Nack) → i < length nacks → P (get_or nacks i d) → Some_has P nacks
  some_at [] i d lt has = absurd (omega (arith, lt))
  some_at (e ∷ nacks) zero d lt has = inl has
  some_at (e ∷ nacks) (suc i) d lt has = inr (some_at nacks i d (omega (arith, lt)) has)

  some_take_suc : (nacks : List Nack) (i : ℕ) (d : Nack) → i < length nacks → Some_has P (take (suc i) nacks) → Some_has P (take i nacks) ⊎ P (get_or nacks i d)
  some_take_suc [] i d lt has = absurd (omega (arith, lt))
  some_take_suc (e ∷ nacks) zero d lt (inl here) = inr here
  some_take_suc (e ∷ nacks) zero d lt (inr none) = absurd none
  some_take_suc (e ∷ nacks) (suc i) d lt (inl here) = inl (inl here)
  some_take_suc (e ∷ nacks) (suc i) d lt (inr later) = elim (some_take_suc nacks i d (omega (arith, lt)) later) [ inl before ↦ inl (inr before) | inr here ↦ inr here ]

  take_some_suc : (nacks : List Nack) (i : ℕ) (d : Nack) → i < length nacks → Some_has P (take i nacks) ⊎ P (get_or nacks i d) → Some_has P (take (suc i) nacks)
  take_some_suc [] i d lt has = absurd (omega (arith, lt))
  take_some_suc (e ∷ nacks) zero d lt (inl none) = absurd none
  take_some_suc (e ∷ nacks) zero d lt (inr here) = inl here
  take_some_suc (e ∷ nacks) (suc i) d lt (inl (inl here)) = inl here
  take_some_suc (e ∷ nacks) (suc i) d lt (inl (inr before)) = inr (take_some_suc nacks i d (omega (arith, lt)) (inl before))
  take_some_suc (e ∷ nacks) (suc i) d lt (inr here) = inr (take_some_suc nacks i d (omega (arith, lt)) (inr here))

  -- one more element
  pub some_more : (nacks : List Nack) (i : ℕ) (d : Nack) → i < length nacks → Some_has P (take (i + 1) nacks) ↔ Some_has P (take i nacks) ⊎ P (get_or nacks i d)
  some_more nacks i d lt =
      let e : suc i ≡ i + 1 = omega arith in
      (λ h. some_take_suc nacks i d lt (subst (λ n. Some_has P (take n nacks)) (sym e) h), λ h. subst (λ n. Some_has P (take n nacks)) e (take_some_suc nacks i d lt h))

  -- none so far, and not this one
  pub none_more : (nacks : List Nack) (i : ℕ) (e : Nack) → i < length nacks → e ≡ get_or nacks i e → (Some_has P (take i nacks) → ⊥) → (P e → ⊥) → Some_has P (take (i + 1) nacks) → ⊥
  none_more nacks i e lt is none here h = elim ((some_more nacks i e lt).0 h) [ inl before ↦ none before | inr now ↦ here (subst P (sym is) now) ]

  pub none_all : (nacks : List Nack) (i : ℕ) → length nacks ≤ i → (Some_has P (take i nacks) → ⊥) → Some_has P nacks → ⊥
  none_all nacks i le none h = none (subst (Some_has P) (sym (take_all i nacks le)) h)

-- an element whose part begins behind an SDU
pub begins_is : (size : SnSize) (l : List (Option Kept)) (ack : ℕ) (e : Nack) (m start end : ℕ) → IsGreatest size ack e.sn m → e.part ≡ Some (start, end) → EndsBy l m start → IsWrong size l ack e
begins_is size l ack e m start end g part past = begins_past (record { number = m; unconfirmed = past.0; start = start; end = end; is = g; part = part; kept = past.1; past = past.2 })

-- an element whose first number is m
module _ (size : SnSize) (l : List (Option Kept)) (ack : ℕ) (e : Nack) (m start end : ℕ) (g : IsGreatest size ack e.sn m) (part : e.part ≡ Some (start, end)) (le : m + count e ≤ ack) (begins : EndsBy l m start → ⊥) where
  not_wrong : (EndsBy l (m + count e - 1) end → end ≡ 65535) → IsWrong size l ack e → ⊥
  not_wrong ends (below_zero none) = none m g
  not_wrong ends (past_ack p) = omega (arith, greatest_one size ack e.sn m p.0 g p.1, p.2, le)
  not_wrong ends (begins_past b) =
      let same = greatest_one size ack e.sn m b.number g b.is in
      let parts = same_Some (start, end) (b.start, b.end) (sym part ∙ b.part) in
      begins (b.unconfirmed, ap (at l) same ∙ b.kept, omega (arith, b.past, ap (λ (x : ℕ × ℕ). x.0) parts))
  not_wrong ends (ends_past b) =
      let same = greatest_one size ack e.sn m b.number g b.is in
      let parts = same_Some (start, end) (b.start, b.end) (sym part ∙ b.part) in
      let e_is : end ≡ b.end = ap (λ (x : ℕ × ℕ). x.1) parts in
      b.explicit (sym e_is ∙ ends (b.unconfirmed, ap (λ n. at l (n + count e - 1)) same ∙ b.kept, omega (arith, b.past, e_is)))

  pub wrong_is : (r : Bool) → (end ≡ 65535 → ⊥) → r ≡ true ↔ EndsBy l (m + count e - 1) end → r ≡ true ↔ IsWrong size l ack e
  wrong_is true explicit is =
      let past = is.0 refl in
      (λ _. ends_past (record { number = m; unconfirmed = past.0; start = start; end = end; is = g; part = part; kept = past.1; past = past.2; explicit = explicit }), λ wrong. refl)
  wrong_is false explicit is = (λ on. absurd (false≢true on), λ wrong. absurd (not_wrong (λ past. absurd (false≢true (is.1 past))) wrong))

-- an element that stands for none
abbrev pub no_nack : Nack
no_nack = record { sn = 0; part = None; range = None }

-- none so far, and not the next
pub none_next : (P : Nack → Type 0) (nacks : List Nack) (i : ℕ) → i < length nacks → (Some_has P (take i nacks) → ⊥) → (P (get_or nacks i no_nack) → ⊥) → Some_has P (take (i + 1) nacks) → ⊥
none_next P nacks i lt none here h = elim ((some_more P nacks i no_nack lt).0 h) [ inl before ↦ none before | inr now ↦ here now ]

-- what an element names, where its first number is known
module _ (size : SnSize) (ack : ℕ) (e : Nack) (first : ℕ) (g : IsGreatest size ack e.sn first) (n : ℕ) where
  pub number_held : NamesNumber size ack e n ↔ HoldsNumber e first n
  number_held = (λ h. let same = greatest_one size ack e.sn first h.first g h.is in (omega (arith, same, h.from), omega (arith, same, h.to)), λ h. record { first = first; is = g; from = h.0; to = h.1 })

  pub place_held : (p : ℕ) → NamesPlace size ack e n p ↔ (HoldsNumber e first n × HoldsPlace e first n p)
  place_held p = (
    λ h.
        let same : first ≡ h.number.first = greatest_one size ack e.sn first h.number.first g h.number.is in
        ((omega (arith, same, h.number.from), omega (arith, same, h.number.to)), (λ eq. h.start (eq ∙ same), λ eq. h.stop (eq ∙ ap (λ m. m + count e) same))),
    λ h. record { number = record { first = first; is = g; from = h.0.0; to = h.0.1 }; start = h.1.0; stop = h.1.1 },
  )

-- an element that passes the ACK is named
pub passes_at : (size : SnSize) (ack : ℕ) (nacks : List Nack) (i : ℕ) (first : ℕ) → i < length nacks → (Some_has (PassesAck size ack) nacks → ⊥) → IsGreatest size ack (get_or nacks i no_nack).sn first → first + count (get_or nacks i no_nack) ≤ ack
passes_at size ack nacks i first lt below g = elim (cases_lt ack (first + count (get_or nacks i no_nack))) [
  | inl past ↦ absurd (below (some_at (PassesAck size ack) nacks i no_nack lt (first, g, past)))
  | inr le ↦ le
]
