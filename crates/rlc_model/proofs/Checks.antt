-- Facts of small lists, by computing.
use Rattle.std.proofs.Common.{◌≡◌, ◌≢◌, ◌⊎◌, inl, inr, ℕ, zero, suc, ◌-◌, ◌<◌, ◌≤◌, Bool, true, false, eqb, eqb-true, cond, nat_lt, ◌&&◌, ◌||◌, List, [], ◌∷◌, length, get_or, slice_get, Option, Some, None, refl, sym, ◌∙◌, ap, arith, le-ltb}
use Rattle.std.proofs.lemmas.Bool.{cases_lt, cases_eq, false≢true, and_parts, cond-false}
use Rattle.std.proofs.lemmas.Option.{slice_get_past}
use Rattle.std.proofs.lemmas.List.{get_or_past}
use Rattle.rlc_pdu.specs.Amd.{Amd}
use Rattle.rlc_model.specs.Pdu.{end_of, is_end, byte_at}
use Rattle.rlc_model.specs.Tx.{Tx, Kept, is_pending, is_unsent, PendingWaits, UnsentWaits, IsPolled, by_pdus, by_bytes, nothing_waits, full, owed}
use Rattle.rlc_model.specs.Rx.{Rx, Got, Done, Part, got, held_at, len_of, rx_next, first_of, IsRepeat, Places}
use Rattle.std.specs.List.{Contains}

-- a test that passes at each number below n
abbrev pub all_below : (ℕ → Bool) → ℕ → Bool
all_below f zero = true
all_below f (suc n) = f n && all_below f n

-- what passes at each number below n passes at one of them
pub at_below : (f : ℕ → Bool) (n : ℕ) → all_below f n ≡ true → (p : ℕ) → p < n → f p ≡ true
at_below f zero all p lt = absurd (omega arith)
at_below f (suc n) all p lt =
    let parts = and_parts (f n) (all_below f n) all in
    elim (cases_eq p n) [
      | inl e ↦ ap f e ∙ parts.0
      | inr ne ↦ at_below f n parts.1 p (omega (arith, ne))
    ]

-- whether two bytes are the same
abbrev pub same_option : Option ℕ → Option ℕ → Bool
same_option None None = true
same_option None (Some y) = false
same_option (Some x) None = false
same_option (Some x) (Some y) = eqb x y

-- if so they are
pub option_is : (o q : Option ℕ) → same_option o q ≡ true → o ≡ q
option_is None None e = refl
option_is None (Some y) e = absurd (false≢true e)
option_is (Some x) None e = absurd (false≢true e)
option_is (Some x) (Some y) e = ap (λ (n : ℕ). Some n) (eqb-true x y e)

-- a PDU has no byte past its end
pub byte_past : (v : Amd) (p : ℕ) → end_of v ≤ p → byte_at v p ≡ None
byte_past v p past = cond-false (nat_lt p v.so) None (slice_get v.body (p - v.so)) (le-ltb p v.so (omega arith)) ∙ slice_get_past v.body (p - v.so) (omega arith)

-- where the first n places are as they have to be, and nothing lies behind them
pub places_of : (old : Got) (v : Amd) (held : List (Option ℕ)) (len : Option ℕ) (n : ℕ) → length held ≤ n → end_of v ≤ n → ((p : ℕ) → n ≤ p → held_at old p ≡ None)
    → all_below (λ p. same_option (get_or held p None) (first_of (held_at old p) (byte_at v p))) n ≡ true → len ≡ cond (is_end v.si) (Some (end_of v)) (len_of old) → Places old v held len
places_of old v held len n short_held short_v short_old all its = record { bytes = at; its_length = its }
  where
    at : (p : ℕ) → get_or held p None ≡ first_of (held_at old p) (byte_at v p)
    at p = elim (cases_lt p n) [
      | inl lt ↦ option_is (get_or held p None) (first_of (held_at old p) (byte_at v p)) (at_below (λ p. same_option (get_or held p None) (first_of (held_at old p) (byte_at v p))) n all p lt)
      | inr le ↦ get_or_past held p None (omega arith) ∙ sym (byte_past v p (omega arith)) ∙ ap (λ (o : Option ℕ). first_of o (byte_at v p)) (sym (short_old p le))
    ]

-- whether a flag is true
abbrev pub any_true : List Bool → Bool
any_true [] = false
any_true (b ∷ bs) = b || any_true bs

-- it is where one is
any_at : (bs : List Bool) (p : ℕ) → get_or bs p false ≡ true → any_true bs ≡ true
any_at [] p e = absurd (false≢true e)
any_at (true ∷ bs) p e = refl
any_at (false ∷ bs) zero e = absurd (false≢true e)
any_at (false ∷ bs) (suc p) e = any_at bs p e

-- whether a byte is pending
abbrev pub any_pending : List (Option Kept) → Bool
any_pending [] = false
any_pending (None ∷ os) = any_pending os
any_pending (Some k ∷ os) = any_true k.flags || any_pending os

-- whether a byte is unsent
abbrev pub any_unsent : List (Option Kept) → Bool
any_unsent [] = false
any_unsent (o ∷ os) = is_unsent o || any_unsent os

-- one of two tests passes
or_true : (b c : Bool) → (b ≡ true) ⊎ (c ≡ true) → (b || c) ≡ true
or_true true c e = refl
or_true false c (inl e) = absurd (false≢true e)
or_true false c (inr e) = e

-- a byte is pending where one is
pending_at : (os : List (Option Kept)) (n p : ℕ) → is_pending (get_or os n None) p ≡ true → any_pending os ≡ true
pending_at [] n p e = absurd (false≢true e)
pending_at (None ∷ os) zero p e = absurd (false≢true e)
pending_at (None ∷ os) (suc n) p e = pending_at os n p e
pending_at (Some k ∷ os) zero p e = or_true (any_true k.flags) (any_pending os) (inl (any_at k.flags p e))
pending_at (Some k ∷ os) (suc n) p e = or_true (any_true k.flags) (any_pending os) (inr (pending_at os n p e))

-- a byte is unsent where one is
unsent_at : (os : List (Option Kept)) (n : ℕ) → is_unsent (get_or os n None) ≡ true → any_unsent os ≡ true
unsent_at [] n e = absurd (false≢true e)
unsent_at (o ∷ os) zero e = or_true (is_unsent o) (any_unsent os) (inl e)
unsent_at (o ∷ os) (suc n) e = or_true (is_unsent o) (any_unsent os) (inr (unsent_at os n e))

-- so no pending byte waits
pub none_pending : (t : Tx) → any_pending t.kept ≡ false → PendingWaits t → ⊥
none_pending t none w = false≢true (sym none ∙ pending_at t.kept w.0 w.1 w.2)

-- and no unsent one
pub none_unsent : (t : Tx) → any_unsent t.kept ≡ false → UnsentWaits t → ⊥
none_unsent t none w = false≢true (sym none ∙ unsent_at t.kept w.0 w.1)

-- where something waits, and the counters are below their thresholds, there is no poll
pub not_polled : (old new : Tx) (fresh : ℕ) → old.poll_pdu ≡ 32 → old.pdu_without_poll ≤ 30 → old.poll_byte ≡ 0 → old.poll_owed ≡ false → UnsentWaits new → IsPolled old new fresh → ⊥
not_polled old new fresh pdus few bytes free w (by_pdus some on at) = omega (arith, at, pdus, few)
not_polled old new fresh pdus few bytes free w (by_bytes some on at) = omega (arith, on, bytes)
not_polled old new fresh pdus few bytes free w (nothing_waits none_u none_p) = none_u w
not_polled old new fresh pdus few bytes free w (full none_u no_room) = none_u w
not_polled old new fresh pdus few bytes free w (owed is) = false≢true (sym free ∙ is)

-- a part isn't all
pub part_not_done : (held : List (Option ℕ)) (len : Option ℕ) → Part held len ≢ Done
part_not_done held len e = cc

-- a place that the PDU has isn't held
pub is_new : (r : Rx) (v : Amd) → rx_next r ≡ 0 → got r 0 ≢ Done → held_at (got r 0) v.so ≡ None → 0 < length v.body → IsRepeat r 0 v → ⊥
is_new r v zero_next open_0 none some (inl below) = omega (arith, below, zero_next)
is_new r v zero_next open_0 none some (inr (inl done)) = open_0 done
is_new r v zero_next open_0 none some (inr (inr held)) = held.0 v.so (omega arith) (omega (arith, some)) none

-- a list of one element has no other
pub only_one : (n k : ℕ) → Contains (n ∷ []) k → k ≡ n
only_one n k c = go c.0 c.1 c.2
  where
    go : (i : ℕ) → i < length (n ∷ []) → get_or (n ∷ []) i k ≡ k → k ≡ n
    go zero lt e = sym e
    go (suc i) lt e = absurd (omega (arith, lt))

-- an empty list has none
pub contains_none : (k : ℕ) → Contains {X = ℕ} [] k → ⊥
contains_none k c = omega (arith, c.1)

-- a list of one element has it
pub contains_one : (n : ℕ) → Contains (n ∷ []) n
contains_one n = (0, omega arith, refl)
