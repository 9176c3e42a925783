-- Lists of SDUs, some of which are confirmed.
use Rattle.std.proofs.Common.{◌≡◌, ◌⊎◌, inl, inr, ℕ, zero, suc, ◌+◌, ◌-◌, ◌<◌, ◌≤◌, ◌==◌, Bool, true, false, if◌then◌else◌, List, [], ◌∷◌, ◌++◌, length, set, get_or, take, drop, replicate, Option, Some, None, refl, sym, ◌∙◌, ap, subst, arith, append_assoc}
use Rattle.std.specs.Option.{is_none}
use Rattle.std.specs.List.{prefix_len}
use Rattle.std.proofs.lemmas.Bool.Decides.{nat_tests}
use Rattle.std.proofs.lemmas.List.{length-replicate, length-append, length-take-le, replicate-append-replicate, set_at, set-append_right, set-get_or, get_or_at, get_or_append_left, get_or-replicate, take_more, drop_more}
use Rattle.std.proofs.lemmas.Option.{none-some}
use Rattle.pdcp_model.specs.Sender.{still_kept}
use Rattle.pdcp_tx.specs.Kept.{kept_from}

abbrev pub Sdus : Type 0
Sdus = List (Option (List ℕ))

-- an SDU that is confirmed
abbrev pub none : Option (List ℕ)
none = None

pub kept_long : (base : ℕ) (sdus : Sdus) → length (kept_from base sdus) ≡ base + length sdus
kept_long base sdus = simp (length-append, length-replicate)

-- how many of the first are confirmed
pub kept_front : (base : ℕ) (sdus : Sdus) → prefix_len is_none sdus ≡ 0 → prefix_len is_none (kept_from base sdus) ≡ base
kept_front zero sdus front = front
kept_front (suc base) sdus front = omega (arith, kept_front base sdus front)

-- the same from a number on that is confirmed
pub kept_run : (base : ℕ) (sdus : Sdus) (n : ℕ) → prefix_len is_none sdus ≡ 0 → n ≤ base → n + prefix_len is_none (drop n (kept_from base sdus)) ≡ base
kept_run base sdus zero front le = omega (arith, kept_front base sdus front)
kept_run zero sdus (suc n) front le = absurd (omega (arith, le))
kept_run (suc base) sdus (suc n) front le = omega (arith, kept_run base sdus n front (omega (arith, le)))

-- or from one on that isn't below the first
pub kept_behind : (base : ℕ) (sdus : Sdus) (n : ℕ) → base ≤ n → drop n (kept_from base sdus) ≡ drop (n - base) sdus
kept_behind zero sdus n le = ap (λ m. drop m sdus) same
  where
    same : n ≡ n - 0
    same = omega arith
kept_behind (suc base) sdus zero le = absurd (omega (arith, le))
kept_behind (suc base) sdus (suc n) le = kept_behind base sdus n (omega (arith, le)) ∙ ap (λ m. drop m sdus) same
  where
    same : n - base ≡ suc n - suc base
    same = omega arith

-- more of them are confirmed, and taken away
pub kept_more : (base count : ℕ) (sdus : Sdus) → kept_from (base + count) sdus ≡ kept_from base (replicate count None ++ sdus)
kept_more base count sdus = ap (λ (l : Sdus). l ++ sdus) (sym (replicate-append-replicate base count none)) ∙ append_assoc (replicate base none) (replicate count none) sdus

-- one is confirmed
pub kept_set : (base : ℕ) (sdus : Sdus) (n : ℕ) → base ≤ n → set (kept_from base sdus) n None ≡ kept_from base (set sdus (n - base) None)
kept_set base sdus n le = set-append_right (replicate base none) sdus base n none (length-replicate base none) le

pub kept_below : (base : ℕ) (sdus : Sdus) (n : ℕ) → n < base → get_or (kept_from base sdus) n None ≡ None
kept_below base sdus n lt = get_or_append_left (replicate base none) sdus none n (subst (λ m. n < m) (sym (length-replicate base none)) lt) ∙ get_or-replicate base n none none lt

-- one that is confirmed already
pub kept_same : (base : ℕ) (sdus : Sdus) (n : ℕ) → n < base → set (kept_from base sdus) n None ≡ kept_from base sdus
kept_same base sdus n lt = ap (set (kept_from base sdus) n) (sym (kept_below base sdus n lt)) ∙ set-get_or (kept_from base sdus) n none

if_none : (b : Bool) → (if b then none else none) ≡ None
if_none true = refl
if_none false = refl

-- behind the first confirmed ones, one of which stands in front
behind_run : (sdus l : Sdus) → drop (prefix_len is_none (none ∷ sdus)) l ≡ drop (suc (prefix_len is_none sdus)) l
behind_run sdus l = let next : prefix_len is_none (none ∷ sdus) ≡ suc (prefix_len is_none sdus) = omega arith in ap (λ n. drop n l) next

module _ (p : ℕ → Bool) where
  pub still_long : (count : ℕ) (sdus : Sdus) → length (still_kept p count sdus) ≡ length sdus
  still_long count [] = refl
  still_long count (x ∷ sdus) = ap {B = ℕ} suc (still_long (count + 1) sdus)

  pub still_append : (count : ℕ) (xs ys : Sdus) → still_kept p count (xs ++ ys) ≡ still_kept p count xs ++ still_kept p (count + length xs) ys
  still_append count [] ys = ap (λ c. still_kept p c ys) (omega arith)
  still_append count (x ∷ xs) ys =
      ap (λ (l : Sdus). (if p count then None else x) ∷ l)
      (still_append (count + 1) xs ys ∙ ap (λ c. still_kept p (count + 1) xs ++ still_kept p c ys) (omega arith))

  still_nones : (count n : ℕ) → still_kept p count (replicate n None) ≡ replicate n None
  still_nones count zero = refl
  still_nones count (suc n) = ap (λ (o : Option (List ℕ)). o ∷ still_kept p (count + 1) (replicate n None)) (if_none (p count)) ∙ ap (λ (l : Sdus). None ∷ l) (still_nones (count + 1) n)

  -- only what isn't confirmed yet changes
  pub still_from : (count base : ℕ) (sdus : Sdus) → still_kept p count (kept_from base sdus) ≡ kept_from base (still_kept p (count + base) sdus)
  still_from count base sdus =
      still_append count (replicate base None) sdus
      ∙ ap (λ (l : Sdus). l ++ still_kept p (count + length (replicate base none)) sdus) (still_nones count base)
      ∙ ap (λ n. replicate base none ++ still_kept p (count + n) sdus) (length-replicate base none)

  pub still_drop : (count n : ℕ) (sdus : Sdus) → drop n (still_kept p count sdus) ≡ still_kept p (count + n) (drop n sdus)
  still_drop count zero sdus = ap (λ c. still_kept p c sdus) (omega arith)
  still_drop count (suc n) [] = refl
  still_drop count (suc n) (x ∷ sdus) = still_drop (count + 1) n sdus ∙ ap (λ c. still_kept p c (drop n sdus)) (omega arith)

  still_run_none : (count : ℕ) (sdus : Sdus) → prefix_len is_none (still_kept p count (None ∷ sdus)) ≡ 1 + prefix_len is_none (still_kept p (count + 1) sdus)
  still_run_none count sdus = ap (λ (o : Option (List ℕ)). prefix_len is_none (o ∷ still_kept p (count + 1) sdus)) (if_none (p count))

  pub still_front : (count : ℕ) (sdus : Sdus) → prefix_len is_none sdus ≤ prefix_len is_none (still_kept p count sdus)
  still_front count [] = omega arith
  still_front count (Some x ∷ sdus) = omega arith
  still_front count (None ∷ sdus) = omega (arith, still_run_none count sdus, still_front (count + 1) sdus)

  -- behind the first confirmed ones the run goes on
  pub still_run : (count : ℕ) (sdus : Sdus) → prefix_len is_none (still_kept p count sdus) ≡ prefix_len is_none sdus + prefix_len is_none (drop (prefix_len is_none sdus) (still_kept p count sdus))
  still_run count [] = refl
  still_run count (Some x ∷ sdus) = omega arith
  still_run count (None ∷ sdus) = omega (arith, still_run_none count sdus, still_run (count + 1) sdus, ap (prefix_len is_none) (behind_run sdus (still_kept p count (None ∷ sdus))))

  pub still_at : (count : ℕ) (sdus : Sdus) (n : ℕ) (sdu : List ℕ) → get_or (still_kept p count sdus) n None ≡ Some sdu → get_or sdus n None ≡ Some sdu
  still_at count [] n sdu is = is
  still_at count (x ∷ sdus) zero sdu is = go (p count) is
    where
      go : (b : Bool) → (if b then None else x) ≡ Some sdu → x ≡ Some sdu
      go true is = absurd (none-some sdu is)
      go false is = is
  still_at count (x ∷ sdus) (suc n) sdu is = still_at (count + 1) sdus n sdu is

  -- a pass over the SDUs comes one further
  pub still_more : (count i : ℕ) (xs ys : Sdus) (o : Option (List ℕ)) → i < length xs → ys ≡ still_kept p count (take i xs) ++ drop i xs → o ≡ (if p (count + i) then None else get_or ys i None) → set ys i o ≡ still_kept p count (take (i + 1) xs) ++ drop (i + 1) xs
  still_more count i xs ys o lt done is =
      let d = get_or xs i None in
      let s = still_kept p count (take i xs) in
      let taken : length (take i xs) ≡ i = length-take-le i xs (omega (arith, lt)) in
      let long : length s ≡ i = still_long count (take i xs) ∙ taken in
      let here : ys ≡ s ++ d ∷ drop (i + 1) xs = done ∙ ap (λ (l : Sdus). s ++ l) (drop_more xs i none lt) in
      let value : get_or ys i None ≡ d = ap (λ (l : Sdus). get_or l i None) here ∙ get_or_at s d (drop (i + 1) xs) none i long in
      let e : Option (List ℕ) = if p (count + i) then None else d in
      let o_is : o ≡ e = is ∙ ap (λ (x : Option (List ℕ)). if p (count + i) then None else x) value in
      let next : still_kept p count (take (i + 1) xs) ≡ s ++ e ∷ [] =
      ap (still_kept p count) (take_more xs i none lt) ∙ still_append count (take i xs) (d ∷ []) ∙ ap (λ n. s ++ (if p (count + n) then None else d) ∷ []) taken in
      ap (λ (l : Sdus). set l i o) here ∙ set_at s d (drop (i + 1) xs) o i long ∙ ap (λ (z : Option (List ℕ)). s ++ z ∷ drop (i + 1) xs) o_is
      ∙ sym (append_assoc s (e ∷ []) (drop (i + 1) xs)) ∙ ap (λ (l : Sdus). l ++ drop (i + 1) xs) (sym next)

still_none : (number count : ℕ) (sdus : Sdus) → number < count → still_kept (λ n. n == number) count sdus ≡ sdus
still_none number count [] lt = refl
still_none number count (x ∷ sdus) lt =
    let other : (count == number) ≡ false = grind (arith, nat_tests) in
    ap (λ (b : Bool). (if b then None else x) ∷ still_kept (λ n. n == number) (count + 1) sdus) other
    ∙ ap (λ (l : Sdus). x ∷ l) (still_none number (count + 1) sdus (omega (arith, lt)))

-- one COUNT is confirmed
pub still_one : (number count i : ℕ) (sdus : Sdus) → number ≡ count + i → still_kept (λ n. n == number) count sdus ≡ set sdus i None
still_one number count i [] is = refl
still_one number count zero (x ∷ sdus) is =
    let this : (count == number) ≡ true = grind (arith, nat_tests) in
    ap (λ (b : Bool). (if b then None else x) ∷ still_kept (λ n. n == number) (count + 1) sdus) this
    ∙ ap (λ (l : Sdus). None ∷ l) (still_none number (count + 1) sdus (omega (arith, is)))
still_one number count (suc i) (x ∷ sdus) is =
    let other : (count == number) ≡ false = grind (arith, nat_tests) in
    ap (λ (b : Bool). (if b then None else x) ∷ still_kept (λ n. n == number) (count + 1) sdus) other
    ∙ ap (λ (l : Sdus). x ∷ l) (still_one number (count + 1) i sdus (omega (arith, is)))

-- an SDU is added
pub pushed_front : (sdus : Sdus) (sdu : List ℕ) → prefix_len is_none (sdus ++ Some sdu ∷ []) ≡ prefix_len is_none sdus
pushed_front [] sdu = refl
pushed_front (None ∷ sdus) sdu = ap {B = ℕ} (λ n. 1 + n) (pushed_front sdus sdu)
pushed_front (Some x ∷ sdus) sdu = refl

pub pushed_at : (sdus : Sdus) (sdu : List ℕ) (n : ℕ) (x : List ℕ) → get_or (sdus ++ Some sdu ∷ []) n None ≡ Some x → (get_or sdus n None ≡ Some x) ⊎ (sdu ≡ x)
pushed_at [] sdu zero x is = inr cc
pushed_at [] sdu (suc n) x is = absurd (none-some x is)
pushed_at (y ∷ sdus) sdu zero x is = inl is
pushed_at (y ∷ sdus) sdu (suc n) x is = pushed_at sdus sdu n x is

-- behind the first confirmed ones stands one that isn't, or none
pub front_stops : (sdus : Sdus) → prefix_len is_none (drop (prefix_len is_none sdus) sdus) ≡ 0
front_stops [] = refl
front_stops (None ∷ sdus) = ap (prefix_len is_none) (behind_run sdus (None ∷ sdus)) ∙ front_stops sdus
front_stops (Some x ∷ sdus) = refl

pub stops_at : (sdus : Sdus) → prefix_len is_none sdus ≡ 0 → 0 < length sdus → get_or sdus 0 None ≡ None → ⊥
stops_at [] front some is = omega (arith, some)
stops_at (None ∷ sdus) front some is = omega (arith, front)
stops_at (Some x ∷ sdus) front some is = none-some x (sym is)
