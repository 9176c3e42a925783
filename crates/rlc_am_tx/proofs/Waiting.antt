-- Numbers that wait for retransmission.
use Rattle.std.proofs.Common.{◌≡◌, ◌≢◌, ◌⊎◌, ◌↔◌, inl, inr, ℕ, ◌+◌, ◌-◌, ◌<◌, ◌≤◌, true, false, not, Bool, cond, is_some, List, length, get_or, Option, Some, None, refl, sym, ◌∙◌, ap, subst, arith}
use Rattle.std.specs.Ordering.{nat_cmp, is_gt}
use Rattle.std.specs.BTreeSet.{BTreeSet, contains, IsLowerBound, Updates}
use Rattle.std.specs.BTreeMap.{is_at}
use Rattle.std.proofs.lemmas.Bool.{cases_eq, cases_lt, false≢true}
use Rattle.std.proofs.lemmas.Bool.Decides.{nat_tests}
use Rattle.std.proofs.lemmas.List.{get_or_default}
use Rattle.std.proofs.lemmas.Option.{none-some, same_Some}
use Rattle.link_base.specs.declared.names.LocalId.{LocalId}
use Rattle.rlc_model.specs.Tx.{Kept, at, is_pending, HasPending}
use Rattle.rlc_am_tx.specs.declared.pieces.Piece.{Piece}
use Rattle.rlc_am_tx.specs.Pieces.{AreWaiting, IsPendingAt, IsPendingPiece}
use Rattle.rlc_am_tx.proofs.Numbers.{kept_below, kept_item}
use Rattle.rlc_am_tx.specs.declared.naming.Naming.{Naming}
use Rattle.rlc_am_tx.specs.Acknowledging.{renewed, EntersWaiting, EntersOf, MayWait, WaitsOn}
use Rattle.rlc_am_tx.specs.Flags.{IsSetOfSent}
use Rattle.rlc_am_tx.proofs.Flagged.{flag_taken}
use Rattle.rlc_am_tx.specs.Buffer.{kept_from, BearsOne, BearsIn, IsPending}
use Rattle.rlc_am_tx.specs.Naming.{named_at, IsNamingOf}

-- a set with the same keys has the same numbers
pub same_contains : (old new : BTreeSet ℕ) → new.keys ≡ old.keys → (n : ℕ) → contains nat_cmp new n ≡ contains nat_cmp old n
same_contains old new e n = ap (λ (ks : List ℕ). contains nat_cmp (record { keys = ks }) n) e

true_both : (b : Bool) → cond b true true ≡ true
true_both true = refl
true_both false = refl

-- a number that waits still does once one more does
pub insert_keeps : (old new : BTreeSet ℕ) (k : ℕ) → Updates nat_cmp old new k true → (n : ℕ) → contains nat_cmp old n ≡ true → contains nat_cmp new n ≡ true
insert_keeps old new k u n is = u.0 n ∙ ap (λ (x : Bool). cond (is_at (nat_cmp k) n) true x) is ∙ true_both (is_at (nat_cmp k) n)

pub not_at : (k n : ℕ) → n ≢ k → is_at (nat_cmp k) n ≡ false
not_at k n ne = grind (arith, nat_tests)

pub is_there : (k : ℕ) → is_at (nat_cmp k) k ≡ true
is_there k = grind (arith, nat_tests)

-- and no other one does
pub insert_only : (old new : BTreeSet ℕ) (k : ℕ) → Updates nat_cmp old new k true → (n : ℕ) → contains nat_cmp new n ≡ true → (contains nat_cmp old n ≡ true) ⊎ (n ≡ k)
insert_only old new k u n is = elim (cases_eq n k) [
  | inl eq ↦ inr eq
  | inr ne ↦ let other : is_at (nat_cmp k) n ≡ false = not_at k n ne in inl (sym (u.2 n other) ∙ is)
]

-- a number that is taken away waits no more, and each other one does as before
pub remove_gone : (old new : BTreeSet ℕ) (k : ℕ) → Updates nat_cmp old new k false → (n : ℕ) → contains nat_cmp new n ≡ true ↔ (contains nat_cmp old n ≡ true) × (n ≢ k)
remove_gone old new k u n = (
  λ is. elim (cases_eq n k) [
    | inl eq ↦ absurd (false≢true (sym u.1 ∙ ap (contains nat_cmp new) (sym eq) ∙ is))
    | inr ne ↦ (sym (u.2 n (not_at k n ne)) ∙ is, ne)
  ],
  λ w. u.2 n (not_at k n w.1) ∙ w.0,
)

-- one more SDU is looked at
pub waits_next : (kept_sdus : List (Option Kept)) (i base : ℕ) (Old Cur New : ℕ → Type 0) (o : Option Kept) → o ≡ at kept_sdus i → ((n : ℕ) → Cur n ↔ Old n × WaitsOn kept_sdus i base n) → ((n : ℕ) → New n ↔ Cur n × (n ≡ base + i → IsPending o)) → (n : ℕ) → New n ↔ Old n × WaitsOn kept_sdus (i + 1) base n
waits_next kept_sdus i base Old Cur New o is cur new n = (
  λ h.
      let w = (new n).0 h in
      let v = (cur n).0 w.0 in (
        v.0,
        λ j lt e. elim (cases_lt j i) [
          | inl below ↦ v.1 j below e
          | inr ge ↦ let same : i ≡ j = omega (arith, lt, ge) in subst (λ m. IsPending (at kept_sdus m)) same (subst IsPending is (w.1 (e ∙ ap {B = ℕ} (λ m. base + m) (sym same))))
        ],
      ),
  λ h. (new n).1 ((cur n).1 (h.0, λ j lt e. h.1 j (omega (arith, lt)) e), λ e. subst IsPending (sym is) (h.1 i (omega arith) e)),
)

pub waits_begin : (kept_sdus : List (Option Kept)) (base : ℕ) (Old : ℕ → Type 0) (n : ℕ) → Old n ↔ Old n × WaitsOn kept_sdus 0 base n
waits_begin kept_sdus base Old n = (λ h. (h, λ j lt e. absurd (omega (arith, lt))), λ h. h.0)

pub waits_same : (kept_sdus : List (Option Kept)) (i count base : ℕ) (n : ℕ) → i ≡ count → WaitsOn kept_sdus i base n → WaitsOn kept_sdus count base n
waits_same kept_sdus i count base n e w = subst (λ m. WaitsOn kept_sdus m base n) e w

-- of an SDU that is confirmed no byte is to become pending
pub none_pending : (o : Option Kept) (x : Naming) → o ≡ None → IsNamingOf o x → x.pending ≡ None
none_pending o x none n = go x.pending refl
  where
    go : (p : Option (List Bool)) → x.pending ≡ p → p ≡ None
    go None is = refl
    go (Some set) is = let w = n set is in absurd (none-some w.kept (sym none ∙ w.is))

pub none_enters : (o : Option Kept) (x : Naming) → o ≡ None → IsNamingOf o x → EntersWaiting o x → ⊥
none_enters o x none n e = false≢true (sym (ap is_some (none_pending o x none n)) ∙ e.1)

pub none_of : (o : Option Kept) (b : Bool) → is_some o ≡ not b → b ≡ true → o ≡ None
none_of None b is e = refl
none_of (Some k) b is e = absurd (false≢true (sym (is ∙ ap not e)))

-- an SDU that is considered for retransmission has a pending byte, where its number may wait
pub renewed_pending : (threshold : ℕ) (k : Kept) (x : Naming) → IsNamingOf (Some k) x → MayWait (Some k) x → IsPending (Some (renewed threshold k x.pending))
renewed_pending threshold k x n may = go x.pending refl
  where
    go : (p : Option (List Bool)) → x.pending ≡ p → IsPending (Some (renewed threshold k p))
    go None is = elim may [ inl h ↦ h | inr e ↦ absurd (false≢true (sym (ap is_some is) ∙ e.1)) ]
    go (Some set) is =
        let w = n set is in
        let same : w.kept ≡ k = same_Some w.kept k (sym w.is) in
        let fits : IsSetOfSent set (length k.flags) = subst (λ (y : Kept). IsSetOfSent set (length y.flags)) same w.fits in
        (w.fresh.0, flag_taken set (length k.flags) fits w.fresh.0 ∙ w.fresh.2)

-- the number of an SDU that is confirmed does not wait
pub none_waits : (o : Option Kept) (x : Naming) → o ≡ None → IsNamingOf o x → MayWait o x → ⊥
none_waits o x none n (inl h) = false≢true (sym (ap (λ (y : Option Kept). is_pending y h.0) none) ∙ h.1)
none_waits o x none n (inr e) = none_enters o x none n e

-- where a number waits only with a pending byte, it does not leave
pub waits_still : (Waits : ℕ → Type 0) (number : ℕ) (o : Option Kept) → (Waits number → IsPending o) → (n : ℕ) → Waits n ↔ Waits n × (n ≡ number → IsPending o)
waits_still Waits number o pending n = (λ waits. (waits, λ e. pending (subst Waits e waits)), λ h. h.0)

-- one more SDU is entered
module _ (kept_sdus : List (Option Kept)) (names : List Naming) (i base : ℕ) (o : Option Kept) (x : Naming) (here : o ≡ at kept_sdus i) (named : x ≡ named_at names i) where
  pub enters_here : EntersWaiting o x → EntersOf kept_sdus names (i + 1) base (base + i)
  enters_here e = (i, omega arith, refl, subst (λ (p : Option Kept). EntersWaiting p (named_at names i)) here (subst (EntersWaiting o) named e))

  pub enters_next : (Cur New : ℕ → Type 0) → ((n : ℕ) → EntersOf kept_sdus names i base n → Cur n) → ((n : ℕ) → Cur n → New n) → (EntersWaiting o x → New (base + i)) → (n : ℕ) → EntersOf kept_sdus names (i + 1) base n → New n
  enters_next Cur New cur kept this n h = elim (cases_lt h.0 i) [
    | inl lt ↦ kept n (cur n (h.0, lt, h.2, h.3))
    | inr ge ↦
        let same : h.0 ≡ i = omega (arith, ge, h.1) in
        let e : EntersWaiting o x = subst (λ (p : Option Kept). EntersWaiting p x) (sym here) (subst (EntersWaiting (at kept_sdus i)) (sym named) (subst (λ m. EntersWaiting (at kept_sdus m) (named_at names m)) same h.3)) in
        subst New (ap {B = ℕ} (λ m. base + m) (sym same) ∙ sym h.2) (this e)
  ]

  pub enters_only : (Old Cur New : ℕ → Type 0) → ((n : ℕ) → Cur n → Old n ⊎ EntersOf kept_sdus names i base n) → ((n : ℕ) → New n → Cur n ⊎ ((n ≡ base + i) × EntersWaiting o x)) → (n : ℕ) → New n → Old n ⊎ EntersOf kept_sdus names (i + 1) base n
  enters_only Old Cur New cur new n h = elim (new n h) [
    | inl c ↦ elim (cur n c) [ inl old ↦ inl old | inr e ↦ inr (e.0, omega (arith, e.1), e.2, e.3) ]
    | inr w ↦ inr (subst (EntersOf kept_sdus names (i + 1) base) (sym w.0) (enters_here w.1))
  ]

pub enters_more : (kept_sdus : List (Option Kept)) (names : List Naming) (i count base n : ℕ) → i ≤ count → EntersOf kept_sdus names i base n → EntersOf kept_sdus names count base n
enters_more kept_sdus names i count base n le e = (e.0, omega (arith, e.1, le), e.2, e.3)

-- an SDU that bears a local identity
pub kept_bears : (base : ℕ) (kept_sdus : List (Option Kept)) (ue : LocalId) (i : ℕ) (o : Option Kept) → o ≡ get_or kept_sdus i o → i < length kept_sdus → BearsOne o ue → BearsIn (kept_from base kept_sdus) ue
kept_bears base kept_sdus ue i None is lt b = absurd b
kept_bears base kept_sdus ue i (Some k) is lt b =
    let here : base + i - base ≡ i = omega arith in
    (base + i, k, kept_item base kept_sdus (base + i) (omega arith) ∙ ap (at kept_sdus) here ∙ get_or_default kept_sdus i None (Some k) lt ∙ sym is, b)

not_above : (a b : ℕ) → is_gt (nat_cmp a b) ≡ false → a ≤ b
not_above a b is = grind (arith, nat_tests)

-- the first maximal run of pending bytes of the lowest number that has some
pub pending_first : (l : List (Option Kept)) (n : ℕ) (piece : Piece) → IsPendingAt l n piece → ((m : ℕ) → m < n → HasPending l m → ⊥) → IsPendingPiece l piece
pending_first l n piece h none =
    record {
      here = subst (λ m. IsPendingAt l m piece) (sym h.number_is) h;
      first = record {
        from = omega arith;
        has = (piece.from, ap (λ m. is_pending (at l m) piece.from) h.number_is ∙ ap (λ (o : Option Kept). is_pending o piece.from) h.is ∙ h.run.run piece.from (omega arith) h.run.some);
        none = λ m ge lt. none m (omega (arith, lt, h.number_is));
      };
    }

-- confirmed numbers have no pending bytes
pub below_pending : (base : ℕ) (kept_sdus : List (Option Kept)) (m : ℕ) → m < base → HasPending (kept_from base kept_sdus) m → ⊥
below_pending base kept_sdus m lt h = false≢true (sym (ap (λ (o : Option Kept). is_pending o h.0) (kept_below base kept_sdus m lt)) ∙ h.1)

-- numbers below the least that waits don't wait, where the first one doesn't
pub below_least : (l : List (Option Kept)) (first : ℕ) (waiting : BTreeSet ℕ) (number : ℕ) → AreWaiting l first (λ n. contains nat_cmp waiting n ≡ true) → (HasPending l first → ⊥) → IsLowerBound nat_cmp waiting number → (m : ℕ) → m < number → HasPending l m → ⊥
below_least l first waiting number w idle least m lt h = elim (w.each m h.0 h.1) [
  | inl eq ↦ idle (subst (HasPending l) eq h)
  | inr waits ↦ let le = not_above number m (least m waits) in omega arith
]
