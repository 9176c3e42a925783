-- What a grant sends is a piece.
use Rattle.std.proofs.Common.{◌≡◌, ◌≢◌, inl, inr, ℕ, ◌-◌, ◌<◌, ◌≤◌, Bool, true, false, List, length, get_or, take, drop, nat_lt, refl, sym, ◌∙◌, subst, arith, eqb-true, eq-eqb, eqb, length-drop}
use Rattle.std.proofs.lemmas.List.{length-take-le, get_or-take, get_or-drop, get_or_past}
use Rattle.std.proofs.lemmas.Bool.{cases_lt, cases_Bool, false≢true, ltb-true, eqb-false}
use Rattle.link_base.specs.declared.names.SnSize.{SnSize}
use Rattle.rlc_pdu.specs.Amd.{Amd, AmdFits, IsOffset}
use Rattle.rlc_model.specs.Pdu.{IsPiece, piece, si_of, is_end}
use Rattle.rlc_model.specs.Numbers.{IsFirstRun}
use Rattle.rlc_law.proofs.Base.{mod_below}
use Rattle.rlc_model.specs.Tx.{Tx, Kept, IsNext, pending, unsent, Sends, is_unsent}

-- SI tells whether a segment ends its SDU
end-si : (x y : Bool) → is_end (si_of x y) ≡ y
end-si true true = refl
end-si true false = refl
end-si false true = refl
end-si false false = refl

-- a piece that is cut is one
pub piece_is_piece : (s : SnSize) (number : ℕ) (sdu : List ℕ) (a e : ℕ) (poll : Bool) → a < e → e ≤ length sdu → IsPiece sdu (piece s number sdu a e poll)
piece_is_piece s number sdu a e poll some within =
    let long : length (take (e - a) (drop a sdu)) ≡ e - a = length-take-le (e - a) (drop a sdu) (omega (arith, length-drop a sdu)) in
    record {
      some = omega (arith, long);
      within = omega (arith, long);
      bytes = λ i lt. get_or-take (e - a) (drop a sdu) i 0 (omega (arith, long)) ∙ get_or-drop a sdu i 0;
      last = (
        λ is. let ends : e ≡ length sdu = eqb-true e (length sdu) (sym (end-si (eqb a 0) (eqb e (length sdu))) ∙ is) in omega (arith, long),
        λ is. end-si (eqb a 0) (eqb e (length sdu)) ∙ eq-eqb e (length sdu) (omega (arith, long, is)),
      );
    }

-- SI tells whether a segment begins its SDU
offset_fits : (a : ℕ) (ends : Bool) → IsOffset (si_of (eqb a 0) ends) a
offset_fits a ends = elim (cases_Bool (eqb a 0)) [
  | inl is ↦ subst (λ (b : Bool). IsOffset (si_of b ends) a) (sym is) (first ends (eqb-true a 0 is))
  | inr not ↦ subst (λ (b : Bool). IsOffset (si_of b ends) a) (sym not) (later ends (eqb-false a 0 not))
]
  where
    first : (ends : Bool) → a ≡ 0 → IsOffset (si_of true ends) a
    first true e = e
    first false e = e

    later : (ends : Bool) → a ≢ 0 → IsOffset (si_of false ends) a
    later true ne = omega (arith, ne)
    later false ne = omega (arith, ne)

-- a piece fits its format
pub piece_fits : (s : SnSize) (number : ℕ) (sdu : List ℕ) (a e : ℕ) (poll : Bool) → a < e → e ≤ length sdu → length sdu ≤ 9005 → AmdFits s (piece s number sdu a e poll)
piece_fits s number sdu a e poll some within small =
    let long : length (take (e - a) (drop a sdu)) ≡ e - a = length-take-le (e - a) (drop a sdu) (omega (arith, length-drop a sdu)) in
    record { sn = mod_below s number; offset = offset_fits a (eqb e (length sdu)); some = omega (arith, long); end = omega (arith, long) }

-- a flag that is true stands within its list
pub flag_within : (flags : List Bool) (p : ℕ) → get_or flags p false ≡ true → p < length flags
flag_within flags p is = elim (cases_lt p (length flags)) [
  | inl lt ↦ lt
  | inr le ↦ absurd (false≢true (sym (get_or_past flags p false le) ∙ is))
]

-- a run of flags ends within its list
pub run_within : (flags : List Bool) (a b : ℕ) → IsFirstRun flags a b → b ≤ length flags
run_within flags a b run = let lt : b - 1 < length flags = flag_within flags (b - 1) (run.run (b - 1) (omega (arith, run.some)) (omega (arith, run.some))) in omega (arith, run.some)

-- what is next isn't empty
pub next_some : (t : Tx) (m : ℕ) (k : Kept) (a b : ℕ) → IsNext t m k a b → a < b
next_some t m k a b (pending first is run) = run.some
next_some t m k a b (unsent none first is from to) =
    let u : nat_lt (length k.flags) (length k.sdu) ≡ true = subst (λ o. is_unsent o ≡ true) is first.has in
    omega (arith, ltb-true _ _ u)

-- and ends within its SDU
pub next_within : (t : Tx) (m : ℕ) (k : Kept) (a b : ℕ) → IsNext t m k a b → length k.flags ≤ length k.sdu → b ≤ length k.sdu
next_within t m k a b (pending first is run) le = omega (arith, run_within k.flags a b run)
next_within t m k a b (unsent none first is from to) le = omega arith

-- what is sent isn't empty
pub sends_some : (old : Tx) (n m : ℕ) (v : Amd) (new : Tx) (s : Sends old n m v new) → s.a < s.e
sends_some old n m v new s = omega (arith, s.end, s.fits, next_some old m s.kept s.a s.b s.next)

-- and ends within its SDU
pub sends_within : (old : Tx) (n m : ℕ) (v : Amd) (new : Tx) (s : Sends old n m v new) → length s.kept.flags ≤ length s.kept.sdu → s.e ≤ length s.kept.sdu
sends_within old n m v new s le = omega (arith, s.end, next_within old m s.kept s.a s.b s.next le)
