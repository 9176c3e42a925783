-- Flags of the bytes that were sent, as a set of places has them.
use Rattle.std.proofs.Common.{◌≡◌, inl, inr, ℕ, ◌<◌, ◌≤◌, true, false, Bool, List, length, take, get_or, Option, Some, None, is_some, sym, ◌∙◌, arith, IfSome, IfNone}
use Rattle.std.specs.Bool.{MatchBool}
use Rattle.std.proofs.lemmas.Bool.{cases_lt, false≢true}
use Rattle.std.proofs.lemmas.List.{get_or-take, get_or_past, length-take-le}
use Rattle.byte_spans.specs.Spans.{IsFirstRun as IsFirstOf}
use Rattle.rlc_model.specs.Numbers.{IsFirstRun}
use Rattle.rlc_model.specs.Tx.{Kept}
use Rattle.rlc_am_tx.specs.Buffer.{IsPending, IsIdle}
use Rattle.rlc_am_tx.specs.Flags.{is_set, IsSetOfSent}

pub flag_taken : (set : List Bool) (sent : ℕ) → IsSetOfSent set sent → (p : ℕ) → is_set (take sent set) p ≡ is_set set p
flag_taken set sent s p = elim (cases_lt p sent) [
  | inl lt ↦ get_or-take sent set p false lt
  | inr ge ↦ get_or_past (take sent set) p false (omega (arith, ge, length-take-le sent set (omega (arith, s.long, s.within)))) ∙ sym (s.beyond p ge)
]

pub taken_long : (set : List Bool) (sent : ℕ) → IsSetOfSent set sent → length (take sent set) ≡ sent
taken_long set sent s = length-take-le sent set (omega (arith, s.long, s.within))

-- a byte whose flag is set was sent
pub set_within : (flags : List Bool) (p : ℕ) → is_set flags p ≡ true → p < length flags
set_within flags p is = elim (cases_lt p (length flags)) [ inl lt ↦ lt | inr ge ↦ absurd (false≢true (sym (get_or_past flags p false ge) ∙ is)) ]

pub run_taken : (set : List Bool) (sent : ℕ) → IsSetOfSent set sent → (r : Option (ℕ × ℕ)) → IfSome r (λ run. IsFirstOf set run.0 run.1) → IfSome r (λ run. IsFirstRun (take sent set) run.0 run.1)
run_taken set sent s None h = tt
run_taken set sent s (Some run) h = record {
  some = h.some;
  run = λ p from to. flag_taken set sent s p ∙ h.run p from to;
  before = λ p lt. flag_taken set sent s p ∙ h.before p lt;
  stops = flag_taken set sent s run.1 ∙ h.stops;
}

pub some_pending : (k : Kept) (r : Option (ℕ × ℕ)) → IfSome r (λ run. IsFirstRun k.flags run.0 run.1) → IfNone r ((p : ℕ) → get_or k.flags p false ≡ false) → MatchBool (is_some r) (IsPending (Some k)) (IsIdle (Some k))
some_pending k None run none = none
some_pending k (Some run) h none = (run.0, h.run run.0 (omega arith) h.some)

-- a first maximal run lies within the flags
pub run_within : (flags : List Bool) (a b : ℕ) → IsFirstRun flags a b → b ≤ length flags
run_within flags a b r = elim (cases_lt (length flags) b) [
  | inr le ↦ le
  | inl gt ↦ elim (cases_lt a (length flags)) [
    | inl lt ↦ absurd (false≢true (sym (get_or_past flags (length flags) false (omega arith)) ∙ r.run (length flags) (omega (arith, lt)) gt))
    | inr ge ↦ absurd (false≢true (sym (get_or_past flags a false ge) ∙ r.run a (omega arith) r.some))
  ]
]
