-- A data PDU whose COUNT lies in the limit and isn't heard: the PDCP receiver takes it as that COUNT, and hands up what the items say.
use Rattle.std.proofs.Common.{◌≡◌, inl, inr, ℕ, zero, suc, ◌+◌, ◌-◌, ◌%◌, ◌<◌, ◌≤◌, true, false, List, [], ◌∷◌, length, get_or, drop, Option, Some, None, is_some, refl, sym, ◌∙◌, ap, subst, arith}
use Rattle.std.proofs.lemmas.Bool.{cases_eq, cases_lt, true≢false, false≢true}
use Rattle.std.proofs.lemmas.Option.{same_Some}
use Rattle.link_base.specs.declared.limits.TheConstants.{COUNT_END}
use Rattle.link_base.specs.declared.names.SnSize.{SnSize}
use Rattle.link_base.specs.declared.names.SnSize.TheVariants.{S12, S18}
use Rattle.link_base.specs.SequenceNumbers.{Near, modulus, window, most_unconfirmed}
use Rattle.rlc_law.proofs.Base.{near_self, near_one}
use Rattle.pdcp_model.specs.declared.answers.PdcpHeard.{PdcpHeard}
use Rattle.pdcp_model.specs.declared.answers.PdcpHeard.TheVariants.{Up, Stored, Old, Repeat, BeforeStart, PastEnd}
use Rattle.pdcp_model.specs.Receiver.{Receiver, rx_deliv, stored_at, with_sdu, run, stores, hands_up, Hears}
use Rattle.item_law.specs.State.{Sdu, is_number, put}
use Rattle.item_law.proofs.base.Puts.{of_number, put_same, put_other}
use Rattle.item_chain.specs.Stands.{ReceiverFits}

pub some_is : {X : Type 0} (o : Option X) → is_some o ≡ true → (x : X) × (o ≡ Some x)
some_is None e = absurd (false≢true e)
some_is (Some x) e = (x, refl)

pub none_is : {X : Type 0} (o : Option X) → is_some o ≡ false → o ≡ None
none_is None e = refl
none_is (Some x) e = absurd (true≢false e)

limit_window : (s : SnSize) → most_unconfirmed s ≤ window s
limit_window S12 = omega arith
limit_window S18 = omega arith

-- an SDU that is stored is at its place, and the others are as before
with_same : (m : ℕ) (sdu : Sdu) (ss : List (Option Sdu)) → get_or (with_sdu m sdu ss) m None ≡ Some sdu
with_same zero sdu [] = refl
with_same zero sdu (s ∷ ss) = refl
with_same (suc m) sdu [] = with_same m sdu []
with_same (suc m) sdu (s ∷ ss) = with_same m sdu ss

with_other : (m : ℕ) (sdu : Sdu) (ss : List (Option Sdu)) (n : ℕ) → (n ≡ m → ⊥) → get_or (with_sdu m sdu ss) n None ≡ get_or ss n None
with_other zero sdu [] zero ne = absurd (ne refl)
with_other zero sdu [] (suc n) ne = refl
with_other zero sdu (s ∷ ss) zero ne = absurd (ne refl)
with_other zero sdu (s ∷ ss) (suc n) ne = refl
with_other (suc m) sdu [] zero ne = refl
with_other (suc m) sdu [] (suc n) ne = with_other m sdu [] n (λ e. ne (omega (arith, e)))
with_other (suc m) sdu (s ∷ ss) zero ne = refl
with_other (suc m) sdu (s ∷ ss) (suc n) ne = with_other m sdu ss n (λ e. ne (omega (arith, e)))

-- the run up to the first gap
run_each : (ss : List (Option Sdu)) (j : ℕ) → j < length (run ss) → get_or ss j None ≡ Some (get_or (run ss) j [])
run_each [] j lt = absurd (omega (arith, lt))
run_each (None ∷ ss) j lt = absurd (omega (arith, lt))
run_each (Some sdu ∷ ss) zero lt = refl
run_each (Some sdu ∷ ss) (suc j) lt = run_each ss j (omega (arith, lt))

run_stops : (ss : List (Option Sdu)) → get_or ss (length (run ss)) None ≡ None
run_stops [] = refl
run_stops (None ∷ ss) = refl
run_stops (Some sdu ∷ ss) = run_stops ss

pub dropped : (n : ℕ) (ss : List (Option Sdu)) (k : ℕ) → get_or (drop n ss) k None ≡ get_or ss (n + k) None
dropped zero ss k = ap (λ (i : ℕ). get_or ss i None) (let same : k ≡ 0 + k = omega arith in same)
dropped (suc n) [] k = refl
dropped (suc n) (s ∷ ss) k = dropped n ss k ∙ ap (λ (i : ℕ). get_or (s ∷ ss) i None) (let same : suc (n + k) ≡ suc n + k = omega arith in same)

module _ (heard : ℕ → Option Sdu) (old : Receiver) (fit : ReceiverFits heard old) (m : ℕ) (sdu : Sdu) (below : m < most_unconfirmed old.size)
    (fresh : is_some (heard (old.handed + m)) ≡ false) where
  abbrev pub after : ℕ → Option Sdu
  after = put is_number heard (old.handed + m) (Some sdu)

  abbrev ss : List (Option Sdu)
  ss = with_sdu m sdu old.stored

  not_stored : stored_at old m ≡ None
  not_stored = none_is (stored_at old m) (sym (fit.stored m) ∙ fresh)

  near : Near old.size ((old.first + (old.handed + m)) % modulus old.size) (rx_deliv old) (old.first + (old.handed + m))
  near = near_self old.size (old.first + (old.handed + m)) (rx_deliv old) (omega arith) (omega (arith, below, limit_window old.size))

  -- n places above RX_DELIV is the new one, or as before
  heard_if : (n : ℕ) → is_some (after (old.handed + n)) ≡ is_some (get_or ss n None)
  heard_if n = elim (cases_eq n m) [
    | inl e ↦ ap (λ (o : Option Sdu). is_some o) (ap (λ (n : ℕ). after (old.handed + n)) e ∙ put_same of_number heard (old.handed + m) (Some sdu))
        ∙ sym (ap (λ (o : Option Sdu). is_some o) (ap (λ (n : ℕ). get_or ss n None) e ∙ with_same m sdu old.stored))
    | inr ne ↦ ap (λ (o : Option Sdu). is_some o) (put_other of_number heard (old.handed + m) (Some sdu) (old.handed + n) (λ e. ne (omega (arith, e)))) ∙ fit.stored n
        ∙ sym (ap (λ (o : Option Sdu). is_some o) (with_other m sdu old.stored n ne))
  ]

  same_sdus : (n : ℕ) (y b : Sdu) → after (old.handed + n) ≡ Some y → get_or ss n None ≡ Some b → y ≡ b
  same_sdus n y b is has = elim (cases_eq n m) [
    | inl e ↦ sym (same_Some sdu y (sym (put_same of_number heard (old.handed + m) (Some sdu)) ∙ ap (λ (n : ℕ). after (old.handed + n)) (sym e) ∙ is))
        ∙ same_Some sdu b (sym (with_same m sdu old.stored) ∙ ap (λ (n : ℕ). get_or ss n None) (sym e) ∙ has)
    | inr ne ↦ fit.sdus n y b (sym (put_other of_number heard (old.handed + m) (Some sdu) (old.handed + n) (λ e. ne (omega (arith, e)))) ∙ is)
        (sym (with_other m sdu old.stored n ne) ∙ has)
  ]

  up_before : (k : ℕ) → k < old.handed → is_some (after k) ≡ true
  up_before k lt = ap (λ (o : Option Sdu). is_some o) (put_other of_number heard (old.handed + m) (Some sdu) k (λ e. absurd (omega (arith, e, lt)))) ∙ fit.up k lt

  -- it is stored
  stored_fits : 1 ≤ m → ReceiverFits after (stores old m sdu)
  stored_fits from = record { up = up_before; stored = heard_if; sdus = same_sdus; stops = with_other m sdu old.stored 0 (λ e. absurd (omega (arith, e, from))) ∙ fit.stops }

  went_up : (k : ℕ) → k < old.handed + length (run ss) → is_some (after k) ≡ true
  went_up k lt = elim (cases_lt k old.handed) [
    | inl was ↦ up_before k was
    | inr ge ↦
        ap (λ (k : ℕ). is_some (after k)) (let same : k ≡ old.handed + (k - old.handed) = omega (arith, ge) in same) ∙ heard_if (k - old.handed)
        ∙ ap (λ (o : Option Sdu). is_some o) (run_each ss (k - old.handed) (omega (arith, ge, lt)))
  ]

  -- it is handed up, and those behind it
  up_fits : ReceiverFits after (hands_up (stores old m sdu))
  up_fits = record {
    up = went_up;
    stored = λ n. ap (λ (k : ℕ). is_some (after k)) (let same : old.handed + length (run ss) + n ≡ old.handed + (length (run ss) + n) = omega arith in same)
        ∙ heard_if (length (run ss) + n)
        ∙ ap (λ (o : Option Sdu). is_some o) (sym (dropped (length (run ss)) ss n));
    sdus = λ n y b is has. same_sdus (length (run ss) + n) y b (ap after (let same : old.handed + (length (run ss) + n) ≡ old.handed + length (run ss) + n = omega arith in same)
        ∙ is)
        (sym (dropped (length (run ss)) ss n) ∙ has);
    stops = dropped (length (run ss)) ss 0 ∙ ap (λ (k : ℕ). get_or ss k None) (let same : length (run ss) + 0 ≡ length (run ss) = omega arith in same) ∙ run_stops ss;
  }

  -- each SDU that goes up is that of the next COUNT
  ups_are : (j : ℕ) → j < length (run ss) → after (old.handed + j) ≡ Some (get_or (run ss) j [])
  ups_are j lt =
      let y = some_is (after (old.handed + j)) (went_up (old.handed + j) (omega (arith, lt))) in
      y.1 ∙ ap (λ (s : Sdu). Some s) (same_sdus j y.0 (get_or (run ss) j []) y.1 (run_each ss j lt))

  -- the answer is one of the two that store, and the receiver fits
  pub data Took (answer : PdcpHeard) (new : Receiver) : Type 0 where
    waits : answer ≡ Stored → ReceiverFits after new → new.handed ≡ old.handed → Took answer new
    up : (sdus : List Sdu) → answer ≡ Up sdus → ReceiverFits after new → new.handed ≡ old.handed + length sdus
        → ((j : ℕ) → j < length sdus → after (old.handed + j) ≡ Some (get_or sdus j [])) → Took answer new

  one : (d : ℕ) → Near old.size ((old.first + (old.handed + m)) % modulus old.size) (rx_deliv old) d → d ≡ old.first + (old.handed + m)
  one d n = near_one old.size ((old.first + (old.handed + m)) % modulus old.size) (rx_deliv old) d (old.first + (old.handed + m)) n near

  pub hears_count : old.first + (old.handed + m) < COUNT_END → (answer : PdcpHeard) (new : Receiver) → Hears old ((old.first + (old.handed + m)) % modulus old.size) sdu answer new
      → Took answer new
  hears_count last BeforeStart new h = absurd (h.0 (old.first + (old.handed + m)) near)
  hears_count last PastEnd new h = absurd (omega (arith, one h.0 h.1, h.2, last))
  hears_count last Old new h = absurd (omega (arith, one h.0 h.1, h.3))
  hears_count last Repeat new h = absurd (h.3 (ap (stored_at old) (let same : h.0 ≡ m = omega (arith, one (rx_deliv old + h.0) h.1) in same) ∙ not_stored))
  hears_count last Stored new h =
      let same : h.0 ≡ m = omega (arith, one (rx_deliv old + h.0) h.1) in
      let is : new ≡ stores old m sdu = h.5 ∙ ap (λ (n : ℕ). stores old n sdu) same in
      waits refl (subst (ReceiverFits after) (sym is) (stored_fits (omega (arith, same, h.3)))) (ap (λ (r : Receiver). r.handed) is)
  hears_count last (Up sdus) new h =
      let same : 0 ≡ m = omega (arith, one (rx_deliv old) h.0) in
      let is : new ≡ hands_up (stores old m sdu) = h.4 ∙ ap (λ (n : ℕ). hands_up (stores old n sdu)) same in
      let all : sdus ≡ run ss = h.3 ∙ ap (λ (n : ℕ). run (with_sdu n sdu old.stored)) same in
      up sdus refl (subst (ReceiverFits after) (sym is) up_fits) (ap (λ (r : Receiver). r.handed) is ∙ ap (λ (l : List Sdu). old.handed + length l) (sym all))
      (λ j lt. ups_are j (omega (arith, lt, ap (λ (l : List Sdu). length l) all)) ∙ ap (λ (l : List Sdu). Some (get_or l j [])) (sym all))
