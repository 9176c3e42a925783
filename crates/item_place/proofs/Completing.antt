-- A number that is complete at the receiver of a hop leaves the hop's box.
use Rattle.std.proofs.Common.{◌≡◌, ◌↔◌, inl, inr, ℕ, ◌<◌, true, false, length, get_or, Some, None, sym, ◌∙◌, ap, subst, arith, ◌∷◌, List}
use Rattle.std.specs.List.{slice_get, Contains}
use Rattle.std.proofs.lemmas.Bool.{cases_eq, cases_Bool, cond-false}
use Rattle.std.proofs.lemmas.Option.{slice_get-get_or}
use Rattle.rlc_model.specs.Heard.{Data}
use Rattle.rlc_model.specs.declared.receiver.Heard.TheVariants.{Complete}
use Rattle.rlc_model.specs.Rx.{Rx, Done, got, Hears}
use Rattle.rlc_law.specs.Hop.{Hop, Reaches, given_at, completed_after}
use Rattle.rlc_law.specs.Laws.{CompletesAsGiven}
use Rattle.rlc_law.proofs.Lists.{contains_here}
use Rattle.item_law.specs.State.{is_number, put}
use Rattle.item_law.proofs.base.Puts.{of_number, put_same, put_other}
use Rattle.item_place.specs.Places.{Box, at, leave}
use Rattle.item_place.specs.HopFits.{HopFits}

-- A delivery that completes the number x, in a hop that a run comes to: the box has an item there, the SDU is its spelling, and the item leaves
module _ (law : CompletesAsGiven) (spell : ℕ → List ℕ) (h new : Hop) (b : Box) (reaches : Reaches new) (fit : HopFits spell h b) (d : Data) (x : ℕ) (sdu : List ℕ) (r : Rx)
    (hears : Hears h.rx d.view (Complete x sdu) r)
    (is : new ≡ record h { rx = r; completed = completed_after (Complete x sdu) h.completed; heard = d ∷ h.heard }) where
  up_has : Contains new.completed (record { number = x; sdu = sdu })
  up_has = subst (λ (u : Hop). Contains u.completed (record { number = x; sdu = sdu })) (sym is) (contains_here (record { number = x; sdu = sdu }) h.completed)

  given_x : (x < length new.given) × (sdu ≡ given_at new x)
  given_x = law new reaches (record { number = x; sdu = sdu }) up_has

  below : x < length b.log
  below = omega (arith, given_x.0, fit.long, ap (λ (u : Hop). length u.given) is)

  not_left : b.left x ≡ false
  not_left = elim (cases_Bool (b.left x)) [
    | inl e ↦ absurd (hears.1 (inr (inl ((fit.left x).0 e))))
    | inr e ↦ e
  ]

  pub its_item : (n : ℕ) × (at b x ≡ Some n) × (sdu ≡ spell n)
  its_item =
      let some = slice_get-get_or b.log x 0 below in
      (get_or b.log x 0, cond-false (b.left x) None (slice_get b.log x) not_left ∙ some, given_x.1 ∙ ap (λ (u : Hop). given_at u x) is ∙ fit.sdus x (get_or b.log x 0) some)

  left_after : (k : ℕ) → put is_number b.left x true k ≡ true ↔ got r k ≡ Done
  left_after k = elim (cases_eq k x) [
    | inl e ↦ (λ l. ap (got r) e ∙ hears.3.enters.this, λ g. ap (put is_number b.left x true) e ∙ put_same of_number b.left x true)
    | inr ne ↦ (
      λ l. hears.3.enters.others k ne ∙ (fit.left k).0 (sym (put_other of_number b.left x true k ne) ∙ l),
      λ g. put_other of_number b.left x true k ne
          ∙ (fit.left k).1 (sym (hears.3.enters.others k ne) ∙ g),
    )
  ]

  pub leaves : HopFits spell new (leave b x)
  leaves = subst (λ (u : Hop). HopFits spell u (leave b x)) (sym is) (record { long = fit.long; sdus = fit.sdus; left = left_after })
