-- What is answered to an SDU, as a function of its COUNT.
use Rattle.std.proofs.Common.{◌≡◌, ◌≢◌, ◌⊎◌, inl, inr, ℕ, zero, suc, ◌+◌, ◌-◌, ◌<◌, ◌≤◌, true, false, if◌then◌else◌, nat_lt, nat_le, List, Option, Some, None, refl, sym, ◌∙◌, ap, subst, arith}
use Rattle.std.proofs.lemmas.Bool.{cases_lt}
use Rattle.std.proofs.lemmas.Bool.Decides.{nat_tests}
use Rattle.std.proofs.lemmas.Option.{none-some}
use Rattle.link_base.specs.declared.limits.TheConstants.{COUNT_END}
use Rattle.link_base.specs.SequenceNumbers.{Near}
use Rattle.pdcp_model.specs.declared.answers.PdcpHeard.{PdcpHeard}
use Rattle.pdcp_model.specs.declared.answers.PdcpHeard.TheVariants.{Up, Stored, Old, Repeat, BeforeStart, PastEnd}
use Rattle.pdcp_model.specs.Receiver.{Receiver, rx_deliv, stored_at, stores, hands_up, with_sdu, run, Hears}
use Rattle.pdcp_law.specs.Hearings.{OneHearing, SomeHearing}
use Rattle.pdcp_law.proofs.Counts.{one_near, near_or_none}

-- of a COUNT from RX_DELIV on, by what is stored of it
abbrev from_deliv : Receiver → List ℕ → ℕ → Option (List ℕ) → PdcpHeard × Receiver
from_deliv old sdu n (Some other) = (Repeat, old)
from_deliv old sdu zero None = (Up (run (with_sdu 0 sdu old.stored)), hands_up (stores old 0 sdu))
from_deliv old sdu (suc n) None = (Stored, stores old (suc n) sdu)

-- of any COUNT
abbrev of_count : Receiver → List ℕ → ℕ → PdcpHeard × Receiver
of_count old sdu count =
    if nat_le COUNT_END count then (PastEnd, old)
    else if nat_lt count (rx_deliv old) then (Old, old)
    else from_deliv old sdu (count - rx_deliv old) (stored_at old (count - rx_deliv old))

module _ (old : Receiver) (sdu : List ℕ) where
  -- past the last COUNT
  past : (count : ℕ) → COUNT_END ≤ count → of_count old sdu count ≡ (PastEnd, old)
  past count end = let test : nat_le COUNT_END count ≡ true = grind (arith, nat_tests) in rw test refl

  -- below RX_DELIV
  below : (count : ℕ) → count < COUNT_END → count < rx_deliv old → of_count old sdu count ≡ (Old, old)
  below count within lt =
      let test : nat_le COUNT_END count ≡ false = grind (arith, nat_tests) in
      let low : nat_lt count (rx_deliv old) ≡ true = grind (arith, nat_tests) in
      rw (test, low) refl

  -- from RX_DELIV on
  above : (n : ℕ) (o : Option (List ℕ)) → rx_deliv old + n < COUNT_END → stored_at old n ≡ o → of_count old sdu (rx_deliv old + n) ≡ from_deliv old sdu n o
  above n o within is =
      let test : nat_le COUNT_END (rx_deliv old + n) ≡ false = grind (arith, nat_tests) in
      let high : nat_lt (rx_deliv old + n) (rx_deliv old) ≡ false = grind (arith, nat_tests) in
      let back : rx_deliv old + n - rx_deliv old ≡ n = omega arith in
      rw (test, high, back, is) refl

-- no COUNT is near, or what is answered is that of the one that is
abbrev Decided : Receiver → ℕ → List ℕ → PdcpHeard → Receiver → Type 0
Decided old sn sdu a r =
    (((count : ℕ) → Near old.size sn (rx_deliv old) count → ⊥) × (a ≡ BeforeStart) × (r ≡ old))
    ⊎ ((count : ℕ) × Near old.size sn (rx_deliv old) count × (of_count old sdu count ≡ (a, r)))

-- an SDU is stored
some_of : (o : Option (List ℕ)) → o ≢ None → (x : List ℕ) × (o ≡ Some x)
some_of None ne = absurd (ne refl)
some_of (Some x) ne = (x, refl)

-- an answer with the receiving side that it leaves
with_side : (a : PdcpHeard) (r s : Receiver) (p : PdcpHeard × Receiver) → p ≡ (a, s) → r ≡ s → p ≡ (a, r)
with_side a r s p is same = is ∙ ap (λ (t : Receiver). (a, t)) (sym same)

-- each answer is so
decided : (old : Receiver) (sn : ℕ) (sdu : List ℕ) (a : PdcpHeard) (r : Receiver) → Hears old sn sdu a r → Decided old sn sdu a r
decided old sn sdu BeforeStart r h = inl (h.0, refl, h.1)
decided old sn sdu PastEnd r h = inr (h.0, h.1, with_side PastEnd r old _ (past old sdu h.0 h.2) h.3)
decided old sn sdu Old r h = inr (h.0, h.1, with_side Old r old _ (below old sdu h.0 h.2 h.3) h.4)
decided old sn sdu Repeat r h = let some = some_of (stored_at old h.0) h.3 in inr (rx_deliv old + h.0, h.1, with_side Repeat r old _ (above old sdu h.0 (Some some.0) h.2 some.1) h.4)
decided old sn sdu Stored r h = go h.0 h.1 h.2 h.3 h.4 h.5
  where
    go : (n : ℕ) → Near old.size sn (rx_deliv old) (rx_deliv old + n) → rx_deliv old + n < COUNT_END → 1 ≤ n → stored_at old n ≡ None → r ≡ stores old n sdu → Decided old sn sdu Stored r
    go zero near within from none is = absurd (omega arith)
    go (suc n) near within from none is = inr (rx_deliv old + suc n, near, with_side Stored r (stores old (suc n) sdu) _ (above old sdu (suc n) None within none) is)
decided old sn sdu (Up sdus) r h =
    let here : rx_deliv old ≡ rx_deliv old + 0 = omega arith in
    let answer : of_count old sdu (rx_deliv old) ≡ (Up (run (with_sdu 0 sdu old.stored)), hands_up (stores old 0 sdu)) =
    ap (of_count old sdu) here ∙ above old sdu 0 None (omega (arith, h.1)) h.2 in
    inr (rx_deliv old, h.0, answer ∙ ap (λ (x : List (List ℕ)). (Up x, hands_up (stores old 0 sdu))) (sym h.3) ∙ ap (λ (s : Receiver). (Up sdus, s)) (sym h.4))

-- so there is one answer
pub one_hearing : OneHearing
one_hearing old sn sdu a b r s p q = go (decided old sn sdu a r p) (decided old sn sdu b s q)
  where
    go : Decided old sn sdu a r → Decided old sn sdu b s → (a ≡ b) × (r ≡ s)
    go (inl x) (inl y) = (x.1 ∙ sym y.1, x.2 ∙ sym y.2)
    go (inl x) (inr y) = absurd (x.0 y.0 y.1)
    go (inr x) (inl y) = absurd (y.0 x.0 x.1)
    go (inr x) (inr y) =
        let same : (a, r) ≡ (b, s) = sym x.2 ∙ ap (of_count old sdu) (one_near old.size sn (rx_deliv old) x.0 y.0 x.1 y.1) ∙ y.2 in
        (ap (λ (p : PdcpHeard × Receiver). p.0) same, ap (λ (p : PdcpHeard × Receiver). p.1) same)

-- and there is one
pub some_hearing : SomeHearing
some_hearing old sn sdu lt = elim (near_or_none old.size sn (rx_deliv old) lt) [
  | inr none ↦ (BeforeStart, old, (none, refl))
  | inl near ↦ elim (cases_lt near.0 COUNT_END) [
    | inr end ↦ (PastEnd, old, (near.0, near.1, end, refl))
    | inl within ↦ elim (cases_lt near.0 (rx_deliv old)) [
      | inl low ↦ (Old, old, (near.0, near.1, within, low, refl))
      | inr high ↦
          let at : near.0 ≡ rx_deliv old + (near.0 - rx_deliv old) = omega (arith, high) in
          go (near.0 - rx_deliv old) (stored_at old (near.0 - rx_deliv old)) (subst (Near old.size sn (rx_deliv old)) at near.1) (omega (arith, within, at)) refl
    ]
  ]
]
  where
    go : (n : ℕ) (o : Option (List ℕ)) → Near old.size sn (rx_deliv old) (rx_deliv old + n) → rx_deliv old + n < COUNT_END → stored_at old n ≡ o → (a : PdcpHeard) × (r : Receiver) × Hears old sn sdu a r
    go n (Some x) near within is = (Repeat, old, (n, near, within, (λ none. none-some x (sym none ∙ is)), refl))
    go zero None near within is =
        let here : rx_deliv old + 0 ≡ rx_deliv old = omega arith in
        (Up (run (with_sdu 0 sdu old.stored)), hands_up (stores old 0 sdu), (subst (Near old.size sn (rx_deliv old)) here near, omega (arith, within), is, refl, refl))
    go (suc n) None near within is = (Stored, stores old (suc n) sdu, (suc n, near, within, omega arith, is, refl))
