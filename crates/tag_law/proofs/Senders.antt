-- What becomes of a sender's SDUs below its place.
use Rattle.std.proofs.Common.{◌≡◌, inl, inr, ℕ, zero, suc, ◌+◌, ◌<◌, ◌≤◌, Bool, true, false, cond, List, [], ◌∷◌, length, drop, get_or, Option, Some, None, refl, sym}
use Rattle.std.proofs.Common.{◌∙◌, ap, subst, arith}
use Rattle.std.specs.List.{prefix_len}
use Rattle.std.specs.Option.{is_none}
use Rattle.std.proofs.lemmas.Bool.{cases_lt, false≢true}
use Rattle.std.proofs.lemmas.List.{get_or_append_left, get_or_past, length_push}
use Rattle.std.proofs.lemmas.List.Sums.{prefix_len-le-length}
use Rattle.std.proofs.lemmas.Option.{none-some}
use Rattle.pdcp_model.specs.Sender.{Sender, accepts, begins_wait, confirmed, confirms, goes_on, hears_report, is_reported, kept_at, still_kept}
use Rattle.book_law.proofs.Senders.{confirms_forgets}

-- a sender behind another: its first COUNT is the same, its place is no further than its SDUs go, and where it doesn't wait, each SDU that it keeps
-- below its place was so kept below the place of one that didn't wait
pub record SenderFrom (old new : Sender) : Type 0 where
  pub first : new.first ≡ old.first
  pub place : old.place ≤ length old.kept → new.place ≤ length new.kept
  pub from : old.place ≤ length old.kept → new.waits ≡ false → (n : ℕ) (sdu : List ℕ) → n < new.place → kept_at new n ≡ Some sdu
      → (old.waits ≡ false) × (n < old.place) × (kept_at old n ≡ Some sdu)

pub sender_same : (old new : Sender) → new ≡ old → SenderFrom old new
sender_same old new same = subst (SenderFrom old) (sym same) (record { first = refl; place = λ le. le; from = λ le idle n sdu low here. (idle, low, here) })

-- an SDU that is kept is one of those accepted
pub kept_below : (s : Sender) (n : ℕ) (sdu : List ℕ) → kept_at s n ≡ Some sdu → n < length s.kept
kept_below s n sdu here = elim (cases_lt n (length s.kept)) [
  | inl lt ↦ lt
  | inr le ↦ absurd (none-some sdu (sym (get_or_past s.kept n None le) ∙ here))
]

pub accepted : (s : Sender) (sdu : List ℕ) → SenderFrom s (accepts s sdu)
accepted s sdu = record {
  first = refl;
  place = λ le. omega (arith, le, length_push s.kept (Some sdu));
  from = λ le idle n x low here. (idle, low, sym (get_or_append_left s.kept (Some sdu ∷ []) None n (omega (arith, le, low))) ∙ here);
}

pub confirmed_from : (s : Sender) (test : ℕ → Bool) → SenderFrom s (confirms s test)
confirmed_from s test =
    let f = confirms_forgets s test in
    record { first = refl; place = λ le. omega (arith, le, f.many); from = λ le idle n sdu low here. (idle, low, f.each n sdu here) }

-- from a place on, none of a run of numbers that aren't kept is kept
pub run_free : {T : Type 0} (xs : List (Option T)) (p n : ℕ) → p ≤ n → n < p + prefix_len is_none (drop p xs) → get_or xs n None ≡ None
run_free [] p n le lt = refl
run_free {T} (x ∷ xs) zero zero le lt = by x lt
  where
    by : (x : Option T) → 0 < 0 + cond (is_none x) (1 + prefix_len is_none xs) 0 → x ≡ None
    by None lt = refl
    by (Some y) lt = absurd (omega (arith, lt))
run_free {T} (x ∷ xs) zero (suc n) le lt = run_free xs zero n (omega arith) (by x lt)
  where
    by : (x : Option T) → suc n < 0 + cond (is_none x) (1 + prefix_len is_none xs) 0 → n < 0 + prefix_len is_none xs
    by None lt = omega (arith, lt)
    by (Some y) lt = absurd (omega (arith, lt))
run_free (x ∷ xs) (suc p) zero le lt = absurd (omega (arith, le))
run_free (x ∷ xs) (suc p) (suc n) le lt = run_free xs p n (omega (arith, le)) (omega (arith, lt))

-- a report ends a wait, and then none below the place is kept
went_on : (s : Sender) → SenderFrom s (goes_on s)
went_on s = by s.waits refl
  where
    by : (b : Bool) → s.waits ≡ b → SenderFrom s (cond b (record s { waits = false; place = confirmed s }) s)
    by false is = sender_same s s refl
    by true is = record {
      first = refl;
      place = λ le. prefix_within s.kept;
      from = λ le idle n sdu low here. absurd (none-some sdu (sym (run_free s.kept 0 n (omega arith) (omega (arith, low))) ∙ here));
    }
      where
        prefix_within : {T : Type 0} (xs : List (Option T)) → prefix_len is_none xs ≤ length xs
        prefix_within xs = prefix_len-le-length is_none xs

pub from_then : (a b c : Sender) → SenderFrom a b → SenderFrom b c → SenderFrom a c
from_then a b c p q = record {
  first = q.first ∙ p.first;
  place = λ le. q.place (p.place le);
  from = λ le idle n sdu low here. let m = q.from (p.place le) idle n sdu low here in p.from le m.0 n sdu m.1 m.2;
}

pub reported : (s : Sender) (fmc : ℕ) (map : List ℕ) → SenderFrom s (hears_report s fmc map)
reported s fmc map =
    let mid = confirms s (is_reported fmc map) in
    from_then s mid (goes_on mid) (confirmed_from s (is_reported fmc map)) (went_on mid)

-- one that waits has nothing to answer for
pub waiting : (s : Sender) → SenderFrom s (begins_wait s)
waiting s = record { first = refl; place = λ le. le; from = λ le idle n sdu low here. absurd (false≢true (sym idle)) }

-- what is confirmed isn't kept
pub gone : (test : ℕ → Bool) (count : ℕ) (xs : List (Option (List ℕ))) (n : ℕ) → test (count + n) ≡ true → get_or (still_kept test count xs) n None ≡ None
gone test count [] n passes = refl
gone test count (x ∷ xs) zero passes =
    let here : count + 0 ≡ count = omega arith in
    ap (λ (b : Bool). cond b None x) (sym (ap test here) ∙ passes)
gone test count (x ∷ xs) (suc n) passes =
    let at : count + suc n ≡ count + 1 + n = omega arith in
    gone test (count + 1) xs n (sym (ap test at) ∙ passes)
