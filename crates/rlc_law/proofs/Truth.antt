-- A STATUS that is written by the rule is true of its receiver.
use Rattle.std.proofs.Common.{◌≡◌, ◌≢◌, ◌⊎◌, inl, inr, ⊎_elim, ℕ, ◌+◌, ◌-◌, ◌%◌, ◌<◌, ◌≤◌, min, cond, eqb, List, [], ◌∷◌, ◌++◌, Option, Some, None, refl, sym, ◌∙◌, ap, subst, arith}
use Rattle.std.specs.Option.{unwrap_or}
use Rattle.std.proofs.lemmas.Bool.{cases_lt, cases_eq, cases_Bool, cond-true, cond-false, eqb-true}
use Rattle.std.proofs.lemmas.Option.{none-some}
use Rattle.link_base.specs.declared.names.SnSize.{SnSize}
use Rattle.link_base.specs.declared.names.SnSize.TheVariants.{S12, S18}
use Rattle.link_base.specs.SequenceNumbers.{window, modulus}
use Rattle.rlc_status.specs.Says.{IsGreatest, NamesNumber, NamesPlace, Some_has}
use Rattle.rlc_model.specs.Numbers.{IsFirst}
use Rattle.rlc_status.specs.declared.status.Nack.{Nack}
use Rattle.rlc_status.specs.declared.status.Status.{Status}
use Rattle.rlc_status.specs.Format.{nacks_len}
use Rattle.rlc_model.specs.Rx.{Rx, Got, Done, Part, got, held_at, len_of, rx_next}
use Rattle.rlc_model.specs.Made.{IsTrueOf, IsWithin, HoldsNone, last_place, Gaps, full, inner, last, Group, gaps, run, IsMissing, WritesNacks, all, stops, group}
use Rattle.rlc_law.specs.Receiver.{PartsFit}
use Rattle.rlc_law.proofs.Base.{two_windows, part_not_done, below_rx_next}

-- one number below a is the greatest with its SN
pub greatest_one : (s : SnSize) (a sn m n : ℕ) → IsGreatest s a sn m → IsGreatest s a sn n → m ≡ n
greatest_one S12 a sn m n p q = omega arith
greatest_one S18 a sn m n p q = omega arith

-- what isn't something is None
pub none_of : (o : Option ℕ) → (o ≢ None → ⊥) → o ≡ None
none_of None h = refl
none_of (Some x) h = absurd (h (λ e. none-some x (sym e)))

-- a number is complete or not
pub cases_done : (g : Got) → (g ≡ Done) ⊎ (g ≢ Done)
cases_done Done = inl refl
cases_done (Part held len) = inr (part_not_done held len)

-- an element of two lists is of one of them
some_append : (P : Nack → Type 0) (xs ys : List Nack) → Some_has P (xs ++ ys) → Some_has P xs ⊎ Some_has P ys
some_append P [] ys h = inr h
some_append P (x ∷ xs) ys (inl h) = inl (inl h)
some_append P (x ∷ xs) ys (inr h) = ⊎_elim (λ l. inl (inr l)) (λ r. inr r) (some_append P xs ys h)

some_left : (P : Nack → Type 0) (xs ys : List Nack) → Some_has P xs → Some_has P (xs ++ ys)
some_left P [] ys h = absurd h
some_left P (x ∷ xs) ys (inl h) = inl h
some_left P (x ∷ xs) ys (inr h) = inr (some_left P xs ys h)

some_right : (P : Nack → Type 0) (xs ys : List Nack) → Some_has P ys → Some_has P (xs ++ ys)
some_right P [] ys h = h
some_right P (x ∷ xs) ys h = inr (some_right P xs ys h)

-- what has P has Q
pub some_weaker : (P Q : Nack → Type 0) → ((e : Nack) → P e → Q e) → (es : List Nack) → Some_has P es → Some_has Q es
some_weaker P Q f [] h = h
some_weaker P Q f (e ∷ es) (inl h) = inl (f e h)
some_weaker P Q f (e ∷ es) (inr h) = inr (some_weaker P Q f es h)

module _ (z : SnSize) (a m : ℕ) (below : m < a) (near : a ≤ m + modulus z) where
  -- m is the greatest number below a with its SN
  pub this : IsGreatest z a (m % modulus z) m
  this = record { below = below; same = refl; last = near }

  -- an element of m alone
  abbrev one : Option (ℕ × ℕ) → Nack
  one part = record { sn = m % modulus z; part = part; range = None }

  -- it names m
  names_this : (part : Option (ℕ × ℕ)) → NamesNumber z a (one part) m
  names_this part = record { first = m; is = this; from = omega arith; to = omega arith }

  -- and no other number
  only_this : (part : Option (ℕ × ℕ)) (n : ℕ) → NamesNumber z a (one part) n → n ≡ m
  only_this part n h = omega (arith, greatest_one z a (m % modulus z) h.first m h.is this, h.from, h.to)

  -- an element of this number with the part from x to y names just these places
  names_part : (x y p : ℕ) → x ≤ p → (y ≡ 65535) ⊎ (p ≤ y) → NamesPlace z a (one (Some (x, y))) m p
  names_part x y p from to = record { number = names_this (Some (x, y)); start = λ h. from; stop = λ h. to }

  -- and the other way
  named_part : (x y p : ℕ) → NamesPlace z a (one (Some (x, y))) m p → (x ≤ p) × ((y ≡ 65535) ⊎ (p ≤ y))
  named_part x y p h =
      let first : (h.number).first ≡ m = greatest_one z a (m % modulus z) (h.number).first m (h.number).is this in
      (h.start (sym first), h.stop (omega (arith, first)))

  module _ (g : Got) (small : (p : ℕ) → held_at g p ≢ None → p < 65535) where
    abbrev Has : ℕ → List Nack → Type 0
    Has q es = Some_has (λ e. NamesPlace z a e m q) es

    gaps_names : (p : ℕ) (es : List Nack) → Gaps (m % modulus z) g p es → (n : ℕ) → Some_has (λ e. NamesNumber z a e n) es → n ≡ m
    gaps_names p [] h n some = absurd some
    gaps_names p (e ∷ es) (inner x y first stop rest) n (inl h) = only_this (Some (x, y - 1)) n h
    gaps_names p (e ∷ es) (inner x y first stop rest) n (inr h) = gaps_names y es rest n h
    gaps_names p (e ∷ es) (last x first within none) n (inl h) = only_this (Some (x, last_place (len_of g))) n h
    gaps_names p (e ∷ es) (last x first within none) n (inr h) = absurd h

    -- they name no place before p, and of the others those not held
    gaps_from : (p : ℕ) (es : List Nack) → Gaps (m % modulus z) g p es → (q : ℕ) → Has q es → p ≤ q
    gaps_from p [] h q some = absurd some
    gaps_from p (e ∷ es) (inner x y first stop rest) q (inl h) = omega (arith, first.from, (named_part x (y - 1) q h).0)
    gaps_from p (e ∷ es) (inner x y first stop rest) q (inr h) = omega (arith, first.from, stop.from, gaps_from y es rest q h)
    gaps_from p (e ∷ es) (last x first within none) q (inl h) = omega (arith, first.from, (named_part x (last_place (len_of g)) q h).0)
    gaps_from p (e ∷ es) (last x first within none) q (inr h) = absurd h

    gaps_missing : (p : ℕ) (es : List Nack) → Gaps (m % modulus z) g p es → (q : ℕ) → Has q es → held_at g q ≡ None
    gaps_missing p [] h q some = absurd some
    gaps_missing p (e ∷ es) (inner x y first stop rest) q (inl h) =
        let part = named_part x (y - 1) q h in
        let small_y : y < 65535 = small y stop.has in
        let apart : x ≢ y = λ e. stop.has (ap (held_at g) (sym e) ∙ first.has) in
        let below_y : q < y = ⊎_elim {C = q < y} (λ big. absurd (omega arith)) (λ le. omega (arith, stop.from)) part.1 in
        none_of (held_at g q) (λ held. stop.none q part.0 below_y held)
    gaps_missing p (e ∷ es) (inner x y first stop rest) q (inr h) = gaps_missing y es rest q h
    gaps_missing p (e ∷ es) (last x first within none) q (inl h) = none q (named_part x (last_place (len_of g)) q h).0
    gaps_missing p (e ∷ es) (last x first within none) q (inr h) = absurd h

    gaps_named : (p : ℕ) (es : List Nack) → Gaps (m % modulus z) g p es → (q : ℕ) → p ≤ q → IsWithin g q → held_at g q ≡ None → Has q es
    gaps_named p [] (full held) q from within is = absurd (held q from within is)
    gaps_named p (e ∷ es) (inner x y first stop rest) q from within is = elim (cases_lt q y) [
      | inl lt ↦ elim (cases_lt q x) [
        | inl before ↦ absurd (first.none q from before is)
        | inr le ↦ inl (names_part x (y - 1) q le (inr (omega arith)))
      ]
      | inr past ↦ inr (gaps_named y es rest q past within is)
    ]
    gaps_named p (e ∷ es) (last x first within_x none) q from within is = elim (cases_lt q x) [
      | inl before ↦ absurd (first.none q from before is)
      | inr le ↦ inl (names_part x (last_place (len_of g)) q le (ends (len_of g) refl))
    ]
      where
        ends : (o : Option ℕ) → len_of g ≡ o → (last_place o ≡ 65535) ⊎ (q ≤ last_place o)
        ends None e = inl refl
        ends (Some l) e = inr (omega (arith, within l e))

-- an element without a range names one number
pub count_run : (k : ℕ) → unwrap_or (cond (eqb k 1) None (Some k)) 1 ≡ k
count_run k = elim (cases_Bool (eqb k 1)) [
  | inl is ↦ ap (λ (o : Option ℕ). unwrap_or o 1) (cond-true (eqb k 1) None (Some k) is) ∙ sym (eqb-true k 1 is)
  | inr not ↦ ap (λ (o : Option ℕ). unwrap_or o 1) (cond-false (eqb k 1) None (Some k) not)
]

module _ (r : Rx) (parts : PartsFit r) where
  -- a run of numbers of which nothing is held ends here
  abbrev Ends : ℕ → Type 0
  Ends n = (n ≡ r.rx_highest_status) ⊎ (got r n ≡ Done) ⊎ ((p : ℕ) × (held_at (got r n) p ≢ None))

  -- a run isn't empty
  run_some : (m end : ℕ) → IsMissing r m → HoldsNone (got r m) → IsFirst Ends m end → m < end
  run_some m end missing none first = elim (cases_eq m end) [
    | inl e ↦ absurd (apart (subst Ends (sym e) first.has))
    | inr ne ↦ omega (arith, first.from)
  ]
    where
      apart : Ends m → ⊥
      apart (inl e) = omega (arith, missing.0)
      apart (inr (inl e)) = missing.1 e
      apart (inr (inr h)) = h.1 (none h.0)

  -- and ends at RX_Highest_Status at the latest
  run_le : (m end : ℕ) → IsMissing r m → IsFirst Ends m end → end ≤ r.rx_highest_status
  run_le m end missing first = elim (cases_lt r.rx_highest_status end) [
    | inl past ↦ absurd (first.none r.rx_highest_status (omega (arith, missing.0)) past (inl refl))
    | inr le ↦ le
  ]

  -- so does a group of elements
  pub group_y : (m y : ℕ) (es : List Nack) → IsMissing r m → Group r m y es → (m < y) × (y ≤ r.rx_highest_status)
  group_y m y es missing (gaps some its is) = (omega arith, omega (arith, missing.0))
  group_y m y es missing (run end none first is its) = (omega (arith, run_some m end missing none first), omega (arith, run_le m end missing first, first.from))

  module _ (a m y : ℕ) (es : List Nack) (missing : IsMissing r m) (g : Group r m y es) (below : y ≤ a) (near : a ≤ m + modulus r.size) where
    under : m < a
    under = omega (arith, (group_y m y es missing g).0)

    abbrev HasNumber : ℕ → Type 0
    HasNumber n = Some_has (λ e. NamesNumber r.size a e n) es

    abbrev HasPlace : ℕ → ℕ → Type 0
    HasPlace n p = Some_has (λ e. NamesPlace r.size a e n p) es

    -- in a run nothing is held
    run_none : (end : ℕ) → IsFirst Ends m end → y ≡ m + min 255 (end - m) → (n : ℕ) → m ≤ n → n < y → (got r n ≢ Done) × HoldsNone (got r n)
    run_none end first is n le lt =
        let past : Ends n → ⊥ = first.none n le (omega (arith, first.from)) in
        (λ e. past (inr (inl e)), λ p. none_of (held_at (got r n) p) (λ h. past (inr (inr (p, h)))))

    abbrev ranged : Nack
    ranged = record { sn = m % modulus r.size; part = None; range = cond (eqb (y - m) 1) None (Some (y - m)) }

    ranged_names : (n : ℕ) → NamesNumber r.size a ranged n → (m ≤ n) × (n < y)
    ranged_names n h =
        let first : h.first ≡ m = greatest_one r.size a (m % modulus r.size) h.first m h.is (this r.size a m under near) in
        (omega (arith, h.from, first), omega (arith, h.to, first, count_run (y - m), (group_y m y es missing g).0))

    names_ranged : (n : ℕ) → m ≤ n → n < y → NamesNumber r.size a ranged n
    names_ranged n le lt = record { first = m; is = this r.size a m under near; from = le; to = omega (arith, count_run (y - m)) }

    pub group_names : (n : ℕ) → HasNumber n → (m ≤ n) × (n < y) × (got r n ≢ Done)
    group_names n h = go g
      where
        go : Group r m y es → (m ≤ n) × (n < y) × (got r n ≢ Done)
        go (gaps some its is) =
            let same : n ≡ m = gaps_names r.size a m under near (got r m) (λ q held. omega (arith, parts.small m q held)) 0 es its n h in
            (omega arith, omega arith, λ e. missing.1 (ap (got r) (sym same) ∙ e))
        go (run end none first is its) = elim (subst (λ (es : List Nack). Some_has (λ e. NamesNumber r.size a e n) es) its h) [
          | inl h ↦ let within = ranged_names n h in (within.0, within.1, (run_none end first is n within.0 within.1).0)
          | inr h ↦ absurd h
        ]

    pub group_named : (n : ℕ) → m ≤ n → n < y → HasNumber n
    group_named n le lt = go g
      where
        of_gaps : (es : List Nack) → Gaps (m % modulus r.size) (got r m) 0 es → ((p : ℕ) × (held_at (got r m) p ≢ None)) → n ≡ m → Some_has (λ e. NamesNumber r.size a e n) es
        of_gaps [] (full held) some same = absurd (parts.lacks m missing.1 (λ p within. held p (omega arith) within))
        of_gaps (e ∷ es) (inner x z first stop rest) some same = inl (subst (NamesNumber r.size a (one r.size a m under near (Some (x, z - 1)))) (sym same) (names_this r.size a m under near (Some (x, z - 1))))
        of_gaps (e ∷ es) (last x first within none) some same = inl (subst (NamesNumber r.size a (one r.size a m under near (Some (x, last_place (len_of (got r m)))))) (sym same) (names_this r.size a m under near (Some (x, last_place (len_of (got r m))))))

        go : Group r m y es → HasNumber n
        go (gaps some its is) = of_gaps es its some (omega arith)
        go (run end none first is its) = subst (λ (es : List Nack). Some_has (λ e. NamesNumber r.size a e n) es) (sym its) (inl (names_ranged n le lt))

    pub group_missing : (n p : ℕ) → HasPlace n p → held_at (got r n) p ≡ None
    group_missing n p h = go g (group_names n (some_weaker (λ e. NamesPlace r.size a e n p) (λ e. NamesNumber r.size a e n) (λ e q. q.number) es h))
      where
        go : Group r m y es → (m ≤ n) × (n < y) × (got r n ≢ Done) → held_at (got r n) p ≡ None
        go (gaps some its is) named =
            let same : n ≡ m = omega (arith, named.0, named.1) in
            ap (λ (n : ℕ). held_at (got r n) p) same ∙ gaps_missing r.size a m under near (got r m) (λ q held. omega (arith, parts.small m q held)) 0 es its p (subst (λ (n : ℕ). Some_has (λ e. NamesPlace r.size a e n p) es) same h)
        go (run end none first is its) named = (run_none end first is n named.0 named.1).1 p

    pub group_place : (n p : ℕ) → m ≤ n → n < y → IsWithin (got r n) p → held_at (got r n) p ≡ None → HasPlace n p
    group_place n p le lt within none = go g
      where
        go : Group r m y es → HasPlace n p
        go (gaps some its is) =
            let same : m ≡ n = omega arith in
            subst (λ (n : ℕ). HasPlace n p) same (gaps_named r.size a m under near (got r m) (λ q held. omega (arith, parts.small m q held)) 0 es its p (omega arith)
            (subst (λ (n : ℕ). IsWithin (got r n) p) (sym same) within) (ap (λ (n : ℕ). held_at (got r n) p) same ∙ none))
        go (run end no_held first is its) = subst (λ (es : List Nack). Some_has (λ e. NamesPlace r.size a e n p) es) (sym its)
            (inl (record { number = names_ranged n le lt; start = λ h. tt; stop = λ h. tt }))

module _ (r : Rx) (parts : PartsFit r) where
  -- the ACK is from the first number on, up to RX_Highest_Status
  pub writes_le : (octets x : ℕ) (es : List Nack) (a : ℕ) → x ≤ r.rx_highest_status → WritesNacks r octets x es a → (x ≤ a) × (a ≤ r.rx_highest_status)
  writes_le octets x es a le (all finished) = (le, omega arith)
  writes_le octets x es a le (stops m y g first its long) = (first.from, omega (arith, first.has.0))
  writes_le octets x es a le (group {rest = rest} m y g first its fits more) =
      let ys = group_y r parts m y g first.has its in
      let next = writes_le (octets - nacks_len r.size g) y rest a ys.1 more in
      (omega (arith, first.from, ys.0, next.0), next.1)

  -- low is a number from which on no number of the window is read wrongly
  module _ (low : ℕ) (wide : r.rx_highest_status ≤ low + modulus r.size) where
    pub writes_names : (octets x : ℕ) (es : List Nack) (a : ℕ) → low ≤ x → x ≤ r.rx_highest_status → WritesNacks r octets x es a → (n : ℕ) → Some_has (λ e. NamesNumber r.size a e n) es → got r n ≢ Done
    writes_names octets x es a from le (all finished) n h = absurd h
    writes_names octets x es a from le (stops m y g first its long) n h = absurd h
    writes_names octets x es a from le (group {rest = rest} m y g first its fits more) n h =
        let ys = group_y r parts m y g first.has its in
        let next = writes_le (octets - nacks_len r.size g) y rest a ys.1 more in
        elim (some_append (λ e. NamesNumber r.size a e n) g rest h) [
          | inl here ↦ (group_names r parts a m y g first.has its next.0 (omega (arith, first.from, next.1)) n here).2
          | inr there ↦ writes_names (octets - nacks_len r.size g) y rest a (omega (arith, first.from, ys.0)) ys.1 more n there
        ]

    pub writes_named : (octets x : ℕ) (es : List Nack) (a : ℕ) → low ≤ x → x ≤ r.rx_highest_status → WritesNacks r octets x es a → (n : ℕ) → x ≤ n → n < a → got r n ≢ Done → Some_has (λ e. NamesNumber r.size a e n) es
    writes_named octets x es a from le (all finished) n at below open_n = absurd (finished n at (below, open_n))
    writes_named octets x es a from le (stops m y g first its long) n at below open_n = absurd (first.none n at below (omega (arith, first.has.0), open_n))
    writes_named octets x es a from le (group {rest = rest} m y g first its fits more) n at below open_n =
        let ys = group_y r parts m y g first.has its in
        let next = writes_le (octets - nacks_len r.size g) y rest a ys.1 more in
        elim (cases_lt n m) [
          | inl before ↦ absurd (first.none n at before (omega (arith, first.has.0), open_n))
          | inr past ↦ elim (cases_lt n y) [
            | inl inside ↦ some_left (λ e. NamesNumber r.size a e n) g rest (group_named r parts a m y g first.has its next.0 (omega (arith, first.from, next.1)) n past inside)
            | inr behind ↦ some_right (λ e. NamesNumber r.size a e n) g rest (writes_named (octets - nacks_len r.size g) y rest a (omega (arith, first.from, ys.0)) ys.1 more n behind below open_n)
          ]
        ]

    pub writes_missing : (octets x : ℕ) (es : List Nack) (a : ℕ) → low ≤ x → x ≤ r.rx_highest_status → WritesNacks r octets x es a → (n p : ℕ) → Some_has (λ e. NamesPlace r.size a e n p) es → held_at (got r n) p ≡ None
    writes_missing octets x es a from le (all finished) n p h = absurd h
    writes_missing octets x es a from le (stops m y g first its long) n p h = absurd h
    writes_missing octets x es a from le (group {rest = rest} m y g first its fits more) n p h =
        let ys = group_y r parts m y g first.has its in
        let next = writes_le (octets - nacks_len r.size g) y rest a ys.1 more in
        elim (some_append (λ e. NamesPlace r.size a e n p) g rest h) [
          | inl here ↦ group_missing r parts a m y g first.has its next.0 (omega (arith, first.from, next.1)) n p here
          | inr there ↦ writes_missing (octets - nacks_len r.size g) y rest a (omega (arith, first.from, ys.0)) ys.1 more n p there
        ]

    pub writes_place : (octets x : ℕ) (es : List Nack) (a : ℕ) → low ≤ x → x ≤ r.rx_highest_status → WritesNacks r octets x es a → (n p : ℕ) → x ≤ n → n < a → got r n ≢ Done → IsWithin (got r n) p → held_at (got r n) p ≡ None → Some_has (λ e. NamesPlace r.size a e n p) es
    writes_place octets x es a from le (all finished) n p at below open_n within none = absurd (finished n at (below, open_n))
    writes_place octets x es a from le (stops m y g first its long) n p at below open_n within none = absurd (first.none n at below (omega (arith, first.has.0), open_n))
    writes_place octets x es a from le (group {rest = rest} m y g first its fits more) n p at below open_n within none =
        let ys = group_y r parts m y g first.has its in
        let next = writes_le (octets - nacks_len r.size g) y rest a ys.1 more in
        elim (cases_lt n m) [
          | inl before ↦ absurd (first.none n at before (omega (arith, first.has.0), open_n))
          | inr past ↦ elim (cases_lt n y) [
            | inl inside ↦ some_left (λ e. NamesPlace r.size a e n p) g rest (group_place r parts a m y g first.has its next.0 (omega (arith, first.from, next.1)) n p past inside within none)
            | inr behind ↦ some_right (λ e. NamesPlace r.size a e n p) g rest (writes_place (octets - nacks_len r.size g) y rest a (omega (arith, first.from, ys.0)) ys.1 more n p behind below open_n within none)
          ]
        ]

-- a STATUS written from RX_Next on is true
pub writes_true : (r : Rx) → PartsFit r → (octets a : ℕ) (s : Status) → rx_next r ≤ r.rx_highest_status → r.rx_highest_status ≤ rx_next r + window r.size → WritesNacks r octets (rx_next r) s.nacks a → IsTrueOf r a s
writes_true r parts octets a s le window_kept w =
    let wide : r.rx_highest_status ≤ rx_next r + modulus r.size = omega (arith, two_windows r.size) in
    let from : rx_next r ≤ rx_next r = omega arith in
    record {
      complete = λ n below unnamed. elim (cases_lt n (rx_next r)) [
        | inl before ↦ below_rx_next r n before
        | inr past ↦ elim (cases_done (got r n)) [
          | inl done ↦ done
          | inr open_n ↦ absurd (unnamed (writes_named r parts (rx_next r) wide octets (rx_next r) s.nacks a from le w n past below open_n))
        ]
      ];
      incomplete = λ n below named. writes_names r parts (rx_next r) wide octets (rx_next r) s.nacks a from le w n named;
      missing = λ n p below named within.
          let open_n : got r n ≢ Done = writes_names r parts (rx_next r) wide octets (rx_next r) s.nacks a from le w n named in (
            λ says. writes_missing r parts (rx_next r) wide octets (rx_next r) s.nacks a from le w n p says.1,
            λ none. (
              below,
              elim (cases_lt n (rx_next r)) [
                | inl before ↦ absurd (open_n (below_rx_next r n before))
                | inr past ↦ writes_place r parts (rx_next r) wide octets (rx_next r) s.nacks a from le w n p past below open_n within none
              ],
            ),
          );
    }
