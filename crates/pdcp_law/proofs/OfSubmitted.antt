-- What was submitted goes up.
use Rattle.std.proofs.Common.{◌≡◌, inl, inr, ℕ, ◌+◌, ◌<◌, ◌≤◌, List, [], ◌∷◌, ◌++◌, length, get_or, take, sym, ◌∙◌, ap, subst, arith, length-append}
use Rattle.std.proofs.lemmas.Bool.{cases_lt}
use Rattle.std.proofs.lemmas.List.{ext_get_or, get_or_append_left, get_or-take, length-take-le}
use Rattle.link_base.specs.SequenceNumbers.{Near}
use Rattle.pdcp_law.specs.Submitted.{IsSubmittedAs, MoreMayBeSubmitted, OneMoreIsHeard, HeardAsSubmitted, GoesUpAsSubmitted}
use Rattle.pdcp_law.proofs.Counts.{one_near}
use Rattle.pdcp_law.proofs.OneList.{one_hand_up}
use Rattle.pdcp_law.proofs.Holding.{holds_all, hand_up, deliv}

-- an SDU submitted stays so once more is submitted
submitted_still : (first : ℕ) (submitted more : List (List ℕ)) (count : ℕ) (sdu : List ℕ) → IsSubmittedAs first submitted count sdu → IsSubmittedAs first (submitted ++ more) count sdu
submitted_still first submitted more count sdu is = record {
  number = is.number;
  below = omega (arith, is.below, length-append submitted more);
  its_count = is.its_count;
  its_sdu = is.its_sdu ∙ sym (get_or_append_left submitted more [] is.number is.below);
}

-- so do all
pub more_may_be_submitted : MoreMayBeSubmitted
more_may_be_submitted size first submitted more [] are = tt
more_may_be_submitted size first submitted more (h ∷ hs) are = (
  more_may_be_submitted size first submitted more hs are.0,
  record {
    count = are.1.count;
    is = submitted_still first submitted more are.1.count h.sdu are.1.is;
    handed = are.1.handed;
    hand_up = are.1.hand_up;
    near = are.1.near;
  },
)

-- one more is heard by a receiving side
pub one_more_is_heard : OneMoreIsHeard
one_more_is_heard size first submitted hs sdus r h count heard are is near =
    let all = holds_all size first hs sdus r heard in (
      are,
      record {
        count = count;
        is = is;
        handed = sdus;
        hand_up = hand_up size first hs sdus r all;
        near = subst (λ (base : ℕ). Near size h.sn base count) (deliv size first hs sdus r all) near;
      },
    )

-- each COUNT was heard as the SDU submitted with it
pub heard_as_submitted : HeardAsSubmitted
heard_as_submitted size first submitted [] are count sdu heard = absurd heard
heard_as_submitted size first submitted (h ∷ hs) are count sdu (inl old) = heard_as_submitted size first submitted hs are.0 count sdu old
heard_as_submitted size first submitted (h ∷ hs) are count sdu (inr new) =
    let it = are.1 in
    let handed = one_hand_up size first hs it.handed new.2 it.hand_up new.3 in
    let near = subst (λ (x : List (List ℕ)). Near size h.sn (first + length x) it.count) handed it.near in
    let same : it.count ≡ count = one_near size h.sn (first + length new.2) it.count count near new.4.near in
    subst (λ (c : ℕ). IsSubmittedAs first submitted c sdu) same (subst (IsSubmittedAs first submitted it.count) (sym new.1) it.is)

module _ (first : ℕ) (submitted sdus : List (List ℕ)) (each : (n : ℕ) → n < length sdus → IsSubmittedAs first submitted (first + n) (get_or sdus n [])) where
  -- no more goes up than was submitted
  no_more : length sdus ≤ length submitted
  no_more = elim (cases_lt (length submitted) (length sdus)) [
    | inl lt ↦ let is = each (length submitted) lt in absurd (omega (arith, is.below, is.its_count))
    | inr le ↦ le
  ]

  -- and each is the one submitted
  pub as_submitted : (length sdus ≤ length submitted) × (sdus ≡ take (length sdus) submitted)
  as_submitted = (
    no_more,
    ext_get_or [] sdus (take (length sdus) submitted) (sym (length-take-le (length sdus) submitted no_more)) (λ n lt.
        let is = each n lt in
        let number : is.number ≡ n = omega (arith, is.its_count) in
        is.its_sdu ∙ ap (λ (m : ℕ). get_or submitted m []) number ∙ sym (get_or-take (length sdus) submitted n [] lt)),
  )

-- so the SDUs submitted go up, in order from the first
pub goes_up_as_submitted : GoesUpAsSubmitted
goes_up_as_submitted size first submitted hs are sdus up = as_submitted first submitted sdus (λ n lt. heard_as_submitted size first submitted hs are (first + n) (get_or sdus n []) (up.each n lt))
