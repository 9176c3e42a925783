-- A receiver makes one STATUS.
use Rattle.std.proofs.Common.{◌≡◌, ◌≢◌, ◌⊎◌, ℕ, ◌+◌, ◌-◌, ◌%◌, ◌<◌, min, cond, eqb, List, [], ◌∷◌, ◌++◌, Some, None, refl, sym, ◌∙◌, ap, subst, arith}
use Rattle.link_base.specs.SequenceNumbers.{modulus}
use Rattle.rlc_status.specs.declared.status.Nack.{Nack}
use Rattle.rlc_status.specs.Format.{nacks_len}
use Rattle.rlc_model.specs.declared.receiver.Made.TheVariants.{Full, Small}
use Rattle.rlc_model.specs.Numbers.{IsFirst}
use Rattle.rlc_model.specs.Rx.{Rx, Got, Done, got, held_at, len_of, rx_next}
use Rattle.rlc_model.specs.Made.{HoldsSome, last_place, Gaps, full, inner, last, IsMissing, Group, gaps, run, WritesNacks, all, stops, group}
use Rattle.rlc_law.specs.OneOutcome.{OneReport}
use Rattle.rlc_law.proofs.Unique.{first_one}

module _ (sn : ℕ) (g : Got) (inside : (l p : ℕ) → len_of g ≡ Some l → held_at g p ≢ None → p < l) where
  -- the place is missing
  abbrev Missing : ℕ → Type 0
  Missing q = held_at g q ≡ None

  -- the place is held
  abbrev Held : ℕ → Type 0
  Held q = held_at g q ≢ None

  -- an element with a part
  abbrev part : ℕ → ℕ → Nack
  part x y = record { sn = sn; part = Some (x, y); range = None }

  -- the gaps of a number have one list of elements
  gaps_one : (p : ℕ) (es fs : List Nack) → Gaps sn g p es → Gaps sn g p fs → es ≡ fs
  gaps_one p es fs (full held) (full held') = refl
  gaps_one p es fs (full held) (inner x z first stop more) = absurd (held x first.from (λ l is. omega (arith, inside l z is stop.has, stop.from)) first.has)
  gaps_one p es fs (full held) (last x first within none) = absurd (held x first.from within first.has)
  gaps_one p es fs (inner x z first stop more) (full held) = absurd (held x first.from (λ l is. omega (arith, inside l z is stop.has, stop.from)) first.has)
  gaps_one p es fs (inner {es = tail} x z first stop more) (inner {es = tail'} x' z' first' stop' more') =
      let same : x ≡ x' = first_one Missing p x x' first first' in
      let ends : z ≡ z' = first_one Held x z z' stop (subst (λ (n : ℕ). IsFirst Held n z') (sym same) stop') in
      let tails : tail ≡ tail' = gaps_one z tail tail' more (subst (λ (n : ℕ). Gaps sn g n tail') (sym ends) more') in
      ap (λ (n : ℕ). part n (z - 1) ∷ tail) same ∙ ap (λ (n : ℕ). part x' (n - 1) ∷ tail) ends ∙ ap (λ (l : List Nack). part x' (z' - 1) ∷ l) tails
  gaps_one p es fs (inner x z first stop more) (last x' first' within none) =
      absurd (stop.has (none z (omega (arith, first_one Missing p x x' first first', stop.from))))
  gaps_one p es fs (last x first within none) (full held) = absurd (held x first.from within first.has)
  gaps_one p es fs (last x first within none) (inner x' z' first' stop' more') =
      absurd (stop'.has (none z' (omega (arith, first_one Missing p x x' first first', stop'.from))))
  gaps_one p es fs (last x first within none) (last x' first' within' none') = ap (λ (n : ℕ). part n (last_place (len_of g)) ∷ []) (first_one Missing p x x' first first')

module _ (r : Rx) (inside : (n l p : ℕ) → len_of (got r n) ≡ Some l → held_at (got r n) p ≢ None → p < l) where
  -- a run of numbers of which nothing is held ends here
  abbrev Ends : ℕ → Type 0
  Ends n = (n ≡ r.rx_highest_status) ⊎ (got r n ≡ Done) ⊎ HoldsSome (got r n)

  -- the element of a run
  abbrev ranged : ℕ → ℕ → List Nack
  ranged m y = record { sn = m % modulus r.size; part = None; range = cond (eqb (y - m) 1) None (Some (y - m)) } ∷ []

  -- so have the numbers from m on, and it ends at one number
  group_one : (m y z : ℕ) (es fs : List Nack) → Group r m y es → Group r m z fs → (y ≡ z) × (es ≡ fs)
  group_one m y z es fs (gaps some its is) (gaps some' its' is') = (is ∙ sym is', gaps_one (m % modulus r.size) (got r m) (inside m) 0 es fs its its')
  group_one m y z es fs (gaps some its is) (run end none first is' its') = absurd (some.1 (none some.0))
  group_one m y z es fs (run end none first is its) (gaps some its' is') = absurd (some.1 (none some.0))
  group_one m y z es fs (run end none first is its) (run end' none' first' is' its') =
      let ends : end ≡ end' = first_one Ends m end end' first first' in
      let same : y ≡ z = is ∙ ap (λ (e : ℕ). m + min 255 (e - m)) ends ∙ sym is' in
      (same, its ∙ ap (λ (y : ℕ). ranged m y) same ∙ sym its')

  -- all that is written, and the ACK
  writes_one : (octets x : ℕ) (es fs : List Nack) (a b : ℕ) → WritesNacks r octets x es a → WritesNacks r octets x fs b → (es ≡ fs) × (a ≡ b)
  writes_one octets x es fs a b (all none) (all none') = (refl, refl)
  writes_one octets x es fs a b (all none) (stops m y g first its long) = absurd (none m first.from first.has)
  writes_one octets x es fs a b (all none) (group m y g first its fits more) = absurd (none m first.from first.has)
  writes_one octets x es fs a b (stops m y g first its long) (all none) = absurd (none m first.from first.has)
  writes_one octets x es fs a b (stops m y g first its long) (stops m' y' g' first' its' long') = (refl, first_one (IsMissing r) x m m' first first')
  writes_one octets x es fs a b (stops m y g first its long) (group m' y' g' first' its' fits' more') =
      let same : m' ≡ m = first_one (IsMissing r) x m' m first' first in
      let groups = group_one m y y' g g' its (subst (λ (n : ℕ). Group r n y' g') same its') in
      absurd (omega (arith, long, fits', ap (nacks_len r.size) groups.1))
  writes_one octets x es fs a b (group m y g first its fits more) (all none) = absurd (none m first.from first.has)
  writes_one octets x es fs a b (group m y g first its fits more) (stops m' y' g' first' its' long') =
      let same : m' ≡ m = first_one (IsMissing r) x m' m first' first in
      let groups = group_one m y y' g g' its (subst (λ (n : ℕ). Group r n y' g') same its') in
      absurd (omega (arith, long', fits, ap (nacks_len r.size) groups.1))
  writes_one octets x es fs a b (group {rest = rest} m y g first its fits more) (group {rest = rest'} m' y' g' first' its' fits' more') =
      let same : m' ≡ m = first_one (IsMissing r) x m' m first' first in
      let groups = group_one m y y' g g' its (subst (λ (n : ℕ). Group r n y' g') same its') in
      let behind = writes_one (octets - nacks_len r.size g) y rest rest' a b more
      (subst (λ (n : ℕ). WritesNacks r n y rest' b) (ap (λ (l : List Nack). octets - nacks_len r.size l) (sym groups.1)) (subst (λ (n : ℕ). WritesNacks r (octets - nacks_len r.size g') n rest' b) (sym groups.0) more')) in
      (ap (λ (l : List Nack). l ++ rest) groups.1 ∙ ap (λ (l : List Nack). g' ++ l) behind.0, behind.1)

pub one_report : OneReport
one_report old sound n (Small need) (Small need') r s f g = (ap (λ (k : ℕ). Small k) (f.0 ∙ sym g.0), f.2 ∙ sym g.2)
one_report old sound n (Small need) (Full status a) r s f g = absurd (omega (arith, f.0, f.1, g.room))
one_report old sound n (Full status a) (Small need) r s f g = absurd (omega (arith, g.0, g.1, f.room))
one_report old sound n (Full status a) (Full status' b) r s f g =
    let same = writes_one old sound.parts.inside (n - 3) (rx_next old) status.nacks status'.nacks a b f.writes g.writes in
    let acks : status.ack ≡ status'.ack = f.ack ∙ ap (λ (k : ℕ). k % modulus old.size) same.1 ∙ sym g.ack in (
      ap (λ (k : ℕ). Full (record { ack = k; nacks = status.nacks }) a) acks ∙ ap (λ (l : List Nack). Full (record { ack = status'.ack; nacks = l }) a) same.0 ∙ ap (λ (k : ℕ). Full status' k) same.1,
      f.after ∙ sym g.after,
    )
