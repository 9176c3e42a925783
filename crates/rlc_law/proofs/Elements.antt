-- The elements of a STATUS that is written can be read, and fit their format and the octets allowed.
use Rattle.std.proofs.Common.{◌≡◌, ◌≢◌, ◌⊎◌, inl, inr, ℕ, ◌+◌, ◌-◌, ◌%◌, ◌<◌, ◌≤◌, cond, eqb, List, [], ◌∷◌, ◌++◌, Option, Some, None, refl, sym, ◌∙◌, ap, subst, arith}
use Rattle.std.proofs.lemmas.Bool.{cases_lt, cases_Bool, cond-true, cond-false}
use Rattle.std.proofs.lemmas.Option.{none-some, same_Some}
use Rattle.link_base.specs.SequenceNumbers.{modulus}
use Rattle.rlc_status.specs.Says.{IsGreatest, count}
use Rattle.rlc_model.specs.Numbers.{IsFirst}
use Rattle.rlc_status.specs.declared.status.Nack.{Nack}
use Rattle.rlc_status.specs.declared.status.Status.{Status}
use Rattle.rlc_status.specs.Format.{NackFits, AllFit, nack_len, nacks_len}
use Rattle.rlc_model.specs.Rx.{Rx, got, held_at, len_of, rx_next}
use Rattle.rlc_model.specs.Made.{IsWithin, last_place, Gaps, inner, last, Group, gaps, run, IsMissing, WritesStatus, WritesNacks, all, stops, group}
use Rattle.rlc_law.specs.Receiver.{PartsFit, IsSound, StatusIsTrue}
use Rattle.std.proofs.lemmas.List.Sums.{sum_by-append}
use Rattle.rlc_law.proofs.Receiver.{next_le_status}
use Rattle.rlc_law.proofs.Truth.{none_of, this, count_run, group_y, writes_le, writes_true}
use Rattle.rlc_law.proofs.Base.{mod_below, two_windows}

-- each element has P
abbrev pub Each : (Nack → Type 0) → List Nack → Type 0
Each P [] = Unit {0}
Each P (e ∷ es) = P e × Each P es

-- it holds of two lists where it holds of each
each_append : (P : Nack → Type 0) (xs ys : List Nack) → Each P xs → Each P ys → Each P (xs ++ ys)
each_append P [] ys p q = q
each_append P (x ∷ xs) ys p q = (p.0, each_append P xs ys p.1 q)

-- the element's first number and the places of its part
pub record ElementFits (r : Rx) (a : ℕ) (e : Nack) : Type 0 where
  pub first : ℕ
  pub is : IsGreatest r.size a e.sn first
  pub inside : first + count e ≤ a
  pub fits : NackFits r.size e
  pub part : (x y : ℕ) → e.part ≡ Some (x, y) → (count e ≡ 1) × IsWithin (got r first) x × ((x ≡ 0) ⊎ (held_at (got r first) (x - 1) ≢ None)) × ((y ≡ 65535) ⊎ (held_at (got r first) (y + 1) ≢ None) ⊎ (len_of (got r first) ≡ Some (y + 1)))

module _ (r : Rx) (parts : PartsFit r) (a m : ℕ) (below : m < a) (near : a ≤ m + modulus r.size) where
  -- the element's number is m
  greatest_m : IsGreatest r.size a (m % modulus r.size) m
  greatest_m = this r.size a m below near

  -- the first missing place from p on is at most 65535
  first_missing : (p x : ℕ) → p ≤ 65535 → IsFirst (λ q. held_at (got r m) q ≡ None) p x → x ≤ 65535
  first_missing p x le first = elim (cases_lt 65535 x) [
    | inl past ↦ absurd (first.none 65535 le past (none_of (held_at (got r m) 65535) (λ held. omega (arith, parts.small m 65535 held))))
    | inr within ↦ within
  ]

  -- an element with a part can be read
  one_element : (x y : ℕ) → x ≤ y → y ≤ 65535 → IsWithin (got r m) x → ((x ≡ 0) ⊎ (held_at (got r m) (x - 1) ≢ None)) → ((y ≡ 65535) ⊎ (held_at (got r m) (y + 1) ≢ None) ⊎ (len_of (got r m) ≡ Some (y + 1))) → ElementFits r a (record { sn = m % modulus r.size; part = Some (x, y); range = None })
  one_element x y le small within starts ends = record {
    first = m;
    is = greatest_m;
    inside = omega arith;
    fits = record {
      sn = mod_below r.size m;
      range = λ k is. absurd (none-some k is);
      part = λ u w is. let e = same_Some (x, y) (u, w) is in (omega (arith, ap (λ (q : ℕ × ℕ). q.0) e), omega (arith, ap (λ (q : ℕ × ℕ). q.1) e));
      order = λ u w is one. let e = same_Some (x, y) (u, w) is in omega (arith, ap (λ (q : ℕ × ℕ). q.0) e, ap (λ (q : ℕ × ℕ). q.1) e);
    };
    part = λ u w is. let e = same_Some (x, y) (u, w) is in
        subst (λ (q : ℕ × ℕ). (◌≡◌ {A = ℕ} 1 1) × IsWithin (got r m) q.0 × ((q.0 ≡ 0) ⊎ (held_at (got r m) (q.0 - 1) ≢ None)) × ((q.1 ≡ 65535) ⊎ (held_at (got r m) (q.1 + 1) ≢ None) ⊎ (len_of (got r m) ≡ Some (q.1 + 1)))) e (refl, within, starts, ends);
  }

  -- a gap begins at 0 or behind a place held, and p is 0 or held
  begins : (p x : ℕ) → ((p ≡ 0) ⊎ (held_at (got r m) p ≢ None)) → IsFirst (λ q. held_at (got r m) q ≡ None) p x → (x ≡ 0) ⊎ (held_at (got r m) (x - 1) ≢ None)
  begins p x start first = elim (cases_lt p x) [
    | inl lt ↦ inr (λ none. first.none (x - 1) (omega arith) (omega arith) none)
    | inr le ↦ elim start [
      | inl zero_p ↦ inl (omega (arith, first.from))
      | inr held ↦ absurd (held (ap (held_at (got r m)) (omega (arith, first.from)) ∙ first.has))
    ]
  ]

  -- the elements for the gaps of a number can be read
  gaps_elements : (p : ℕ) (es : List Nack) → p ≤ 65535 → ((p ≡ 0) ⊎ (held_at (got r m) p ≢ None)) → Gaps (m % modulus r.size) (got r m) p es → Each (ElementFits r a) es
  gaps_elements p [] le start g = tt
  gaps_elements p (e ∷ es) le start (inner x z first stop rest) =
      let apart : x ≢ z = λ same. stop.has (ap (held_at (got r m)) (sym same) ∙ first.has) in
      let small : z < 65535 = omega (arith, parts.small m z stop.has) in
      let back : z - 1 + 1 ≡ z = omega (arith, stop.from) in (
        one_element x (z - 1) (omega (arith, stop.from)) (omega arith)
            (λ l is. omega (arith, parts.inside m l z is stop.has, stop.from))
            (begins p x start first) (inr (inl (subst (λ (q : ℕ). held_at (got r m) q ≢ None) (sym back) stop.has))),
        gaps_elements z es (omega arith) (inr stop.has) rest,
      )
  gaps_elements p (e ∷ es) le start (last x first within none) = (ends (len_of (got r m)) refl, tt)
    where
      ends : (o : Option ℕ) → len_of (got r m) ≡ o → ElementFits r a (record { sn = m % modulus r.size; part = Some (x, last_place (len_of (got r m))); range = None })
      ends None e = subst (λ (o : Option ℕ). ElementFits r a (record { sn = m % modulus r.size; part = Some (x, last_place o); range = None })) (sym e)
          (one_element x 65535 (first_missing p x le first) (omega arith) within (begins p x start first) (inl refl))
      ends (Some l) e = subst (λ (o : Option ℕ). ElementFits r a (record { sn = m % modulus r.size; part = Some (x, last_place o); range = None })) (sym e)
          (one_element x (l - 1) (omega (arith, within l e)) (omega (arith, parts.known m l e)) within (begins p x start first)
          (inr (inr (e ∙ ap (λ (k : ℕ). Some k) (let back : l ≡ l - 1 + 1 = omega (arith, within l e) in back)))))

  -- an element with a range, or of one number
  run_elements : (k : ℕ) → 0 < k → k ≤ 255 → m + k ≤ a → ElementFits r a (record { sn = m % modulus r.size; part = None; range = cond (eqb k 1) None (Some k) })
  run_elements k some few under_a = record {
    first = m;
    is = greatest_m;
    inside = omega (arith, count_run k);
    fits = record {
      sn = mod_below r.size m;
      range = λ j is. elim (cases_Bool (eqb k 1)) [
        | inl one_number ↦ absurd (none-some j (sym (cond-true (eqb k 1) None (Some k) one_number) ∙ is))
        | inr more ↦ let e = same_Some k j (sym (cond-false (eqb k 1) None (Some k) more) ∙ is) in (omega arith, omega arith)
      ];
      part = λ x y is. absurd (none-some (x, y) is);
      order = λ x y is. absurd (none-some (x, y) is);
    };
    part = λ x y is. absurd (none-some (x, y) is);
  }

module _ (r : Rx) (parts : PartsFit r) (low : ℕ) (wide : r.rx_highest_status ≤ low + modulus r.size) where
  -- all elements that are written can be read
  pub writes_elements : (octets x : ℕ) (es : List Nack) (a : ℕ) → low ≤ x → x ≤ r.rx_highest_status → WritesNacks r octets x es a → Each (ElementFits r a) es
  writes_elements octets x es a from le (all finished) = tt
  writes_elements octets x es a from le (stops m y g first its long) = tt
  writes_elements octets x es a from le (group {rest = rest} m y g first its fits more) =
      let ys = group_y r parts m y g first.has its in
      let next = writes_le r parts (octets - nacks_len r.size g) y rest a ys.1 more in
      each_append (ElementFits r a) g rest (of_group m y g first.has its ys.0 next.0 (omega (arith, first.from, next.1)))
      (writes_elements (octets - nacks_len r.size g) y rest a (omega (arith, first.from, ys.0)) ys.1 more)
    where
      of_group : (m y : ℕ) (g : List Nack) → IsMissing r m → Group r m y g → m < y → y ≤ a → a ≤ m + modulus r.size → Each (ElementFits r a) g
      of_group m y g missing (gaps some its is) lt under_a near = gaps_elements r parts a m (omega arith) near 0 g (omega arith) (inl refl) its
      of_group m y g missing (run end none first is its) lt under_a near = subst (Each (ElementFits r a)) (sym its) (run_elements r parts a m (omega arith) near (y - m) (omega arith) (omega (arith, is)) (omega arith), tt)

-- elements that can be read fit their format
elements_fit : (r : Rx) (a : ℕ) (es : List Nack) → Each (ElementFits r a) es → AllFit r.size es
elements_fit r a [] h = tt
elements_fit r a (e ∷ es) h = ((h.0).fits, elements_fit r a es h.1)

-- they have at most the octets allowed
writes_len : (r : Rx) (octets x : ℕ) (es : List Nack) (a : ℕ) → WritesNacks r octets x es a → nacks_len r.size es ≤ octets
writes_len r octets x es a (all finished) = omega arith
writes_len r octets x es a (stops m y g first its long) = omega arith
writes_len r octets x es a (group {rest = rest} m y g first its fits more) = omega (arith, fits, writes_len r (octets - nacks_len r.size g) y rest a more, sum_by-append (nack_len r.size) g rest)

-- the elements of a STATUS that a sound receiver makes can be read
pub written : (old : Rx) → IsSound old → (n a : ℕ) (s : Status) (new : Rx) → WritesStatus old n a s new → Each (ElementFits old a) s.nacks
written old sound n a s new x = writes_elements old sound.parts (rx_next old) (omega (arith, sound.limit, sound.within, two_windows old.size)) (n - 3) (rx_next old) s.nacks a (omega arith) (next_le_status old sound) x.writes

pub written_status_is_true : StatusIsTrue
written_status_is_true old sound n a s new x =
    let le = next_le_status old sound in
    let bounds = writes_le old sound.parts (n - 3) (rx_next old) s.nacks a le x.writes in (
      writes_true old sound.parts (n - 3) a s le (omega (arith, sound.limit, sound.within)) x.writes,
      (subst (λ (sn : ℕ). sn < modulus old.size) (sym x.ack) (mod_below old.size a), elements_fit old a s.nacks (written old sound n a s new x)),
      omega (arith, x.room, writes_len old (n - 3) (rx_next old) s.nacks a x.writes),
      bounds.0,
      bounds.1,
    )
