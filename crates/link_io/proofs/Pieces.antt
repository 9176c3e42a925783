-- Two calls, one after the other.
use Rattle.std.proofs.Common.{◌≡◌, ℕ, ◌+◌, List, ◌++◌, take, drop, sym, subst, take-add, ◌-◌, length, length-drop, length-append, ◌≤◌, slice_range, Bool, ◌∙◌, arith}
use Rattle.std.specs.declared.option.Option.{Option}
use Rattle.std.specs.Io.KnownBytes.{Appends, Consumes}
use Rattle.std.proofs.KnownBytes.{Appends-trans, Consumes-trans}
use Rattle.std.proofs.lemmas.List.{take_all}
use Rattle.link_io.specs.Bytes.{ConsumesAtMost}
use Rattle.link_io.specs.Causes.{IsUsed}

-- the second call is lent what `&xs[n..]` is
pub appends_next : (a b c : Option (List ℕ)) (xs : List ℕ) (n m : ℕ) → Appends a b (take n xs) → Appends b c (take m (slice_range xs n (length xs))) → Appends a c (take (n + m) xs)
appends_next a b c xs n m p q =
    let rest : slice_range xs n (length xs) ≡ drop n xs = take_all (length xs - n) (drop n xs) (omega (arith, length-drop n xs)) in
    subst (Appends a c) (sym (take-add n m xs)) (Appends-trans a b c _ _ p (subst (λ (l : List ℕ). Appends b c (take m l)) rest q))

-- what two calls leave of the count of faults
pub used_next : {D : Type 0} {faults : D → ℕ} {can_fail : D → Bool} {a b c : D} → IsUsed faults can_fail a b → IsUsed faults can_fail b c → IsUsed faults can_fail a c
used_next p q =
    record {
      later = omega (arith, p.later, q.later);
      as_sure = q.as_sure ∙ p.as_sure;
      sure = λ e. q.sure (p.as_sure ∙ e) ∙ p.sure e;
    }

-- what was read before, and one more piece
pub lost_next : (a b c : Option (List ℕ)) (held piece : List ℕ) (limit : ℕ) → Consumes a b held → Consumes b c piece → length held + length piece ≤ limit → ConsumesAtMost a c limit
lost_next a b c held piece limit p q fits = (held ++ piece, omega (arith, length-append held piece), Consumes-trans a b c held piece p q)
