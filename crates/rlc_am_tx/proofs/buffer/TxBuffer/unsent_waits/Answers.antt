use Rattle.std.proofs.Common.{◌≡◌, inl, inr, ℕ, true, false, nat_lt, List, length, Option, subst, arith}
use Rattle.std.proofs.lemmas.Bool.{cases_lt}
use Rattle.std.proofs.lemmas.Bool.Decides.{nat_tests}
use Rattle.std.specs.Bool.{MatchBool}
use Rattle.rlc_model.specs.Tx.{Kept, SomeUnsent}
use Rattle.rlc_am_tx.specs.Buffer.{NoneUnsent, IsInOrder}
use Rattle.rlc_am_tx.proofs.Order.{some_unsent, none_unsent}
use Rattle.rlc_am_tx.proofs.buffer.TxBuffer.unsent_waits.Goals as goal

waits : (l : List (Option Kept)) (u next : ℕ) → IsInOrder l u → next ≡ length l → MatchBool (nat_lt u next) (SomeUnsent l) (NoneUnsent l)
waits l u next i is =
    elim (cases_lt u next) [
      | inl lt ↦ let e : nat_lt u next ≡ true = grind (arith, nat_tests) in rw e (some_unsent l u i (omega (arith, lt, is)))
      | inr ge ↦ let e : nat_lt u next ≡ false = grind (arith, nat_tests) in rw e (none_unsent l u i (omega (arith, ge, is)))
    ]

pub returns : goal.returns
returns c = waits c.args.self.now c.self.inside.unsent c.next.result (subst (λ (l : List (Option Kept)). IsInOrder l c.self.inside.unsent) c.self.view_is c.self.invariant.tidy.order) c.next.ensures.value
