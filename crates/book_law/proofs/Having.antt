-- What a receiving side has was heard, and what was heard it has.
use Rattle.std.proofs.Common.{◌≡◌, ◌≢◌, inl, inr, ℕ, ◌+◌, ◌-◌, ◌≤◌, List, [], length, get_or, Option, Some, None, refl, sym, ◌∙◌, subst, arith}
use Rattle.std.proofs.lemmas.Bool.{cases_lt}
use Rattle.std.proofs.lemmas.Option.{none-some}
use Rattle.link_base.specs.declared.names.SnSize.{SnSize}
use Rattle.pdcp_model.specs.Receiver.{Receiver, rx_deliv, stored_at}
use Rattle.pdcp_model.specs.HandUp.{Hearing, IsHeardAs, IsHeard}
use Rattle.pdcp_law.proofs.Holding.{HoldsAll, deliv}
use Rattle.book_law.specs.Honest.{HasCount}

module _ (size : SnSize) (first : ℕ) (hs : List Hearing) (sdus : List (List ℕ)) (r : Receiver) (all : HoldsAll size first hs sdus r) (count : ℕ) (from : first ≤ count) where
  is_stored : (n : ℕ) → count ≡ rx_deliv r + n → (o : Option (List ℕ)) → stored_at r n ≡ o → o ≢ None → IsHeard size first hs count
  is_stored n at None is ne = absurd (ne refl)
  is_stored n at (Some x) is ne =
      let here : first + length sdus + n ≡ count = omega (arith, at, deliv size first hs sdus r all) in
      (x, subst (λ (c : ℕ). IsHeardAs size first hs c x) here (all.holds.stored n x is))

  pub has_heard : HasCount r count → IsHeard size first hs count
  has_heard (inl low) =
      let at : first + (count - first) ≡ count = omega (arith, from) in
      (_, subst (λ (c : ℕ). IsHeardAs size first hs c (get_or sdus (count - first) [])) at (all.holds.up (count - first) (omega (arith, from, low, deliv size first hs sdus r all))))
  has_heard (inr (n, at, ne)) = is_stored n at (stored_at r n) refl ne

  pub heard_has : IsHeard size first hs count → HasCount r count
  heard_has heard = elim (cases_lt count (rx_deliv r)) [
    | inl low ↦ inl low
    | inr high ↦
        let at : count ≡ first + length sdus + (count - rx_deliv r) = omega (arith, high, deliv size first hs sdus r all) in
        let is = all.holds.waits (count - rx_deliv r) heard.0 (subst (λ (c : ℕ). IsHeardAs size first hs c heard.0) at heard.1) in
        inr (count - rx_deliv r, omega (arith, high), λ none. none-some heard.0 (sym none ∙ is))
  ]
