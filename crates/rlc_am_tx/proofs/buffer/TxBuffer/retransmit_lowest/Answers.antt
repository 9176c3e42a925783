use Rattle.std.proofs.Common.{◌≡◌, inr, ℕ, ◌<◌, true, set, length, List, Option, refl, sym, subst, arith}
use Rattle.std.specs.List.{prefix_len}
use Rattle.std.specs.Bool.{then_some}
use Rattle.std.specs.Option.{is_none}
use Rattle.std.proofs.lemmas.Bool.Decides.{nat_tests}
use Rattle.std.proofs.lemmas.List.{length-set}
use Rattle.std.specs.Ordering.{nat_cmp}
use Rattle.std.specs.BTreeSet.{contains}
use Rattle.rlc_model.specs.Tx.{Kept}
use Rattle.rlc_am_tx.specs.Buffer.{kept_from, NonePending, NoneUnsent}
use Rattle.rlc_am_tx.specs.Retransmitting.{RetransmitsLowestOf}
use Rattle.rlc_am_tx.proofs.Retransmitted.{lowest_stays, first_tidy, first_retransmits, first_sent, none_kept}
use Rattle.rlc_am_tx.proofs.buffer.TxBuffer.retransmit_lowest.Goals as goal

pub returns-then-is_empty : goal.returns-then-is_empty
returns-then-is_empty c =
    let a = c.self.inside in
    let none : length a.kept_sdus.items ≡ 0 = grind (arith, nat_tests, c.if-is_empty.ensures) in
    lowest_stays c.args.threshold c.args.self.now c.args.self.now (inr (inr (subst (λ (l : List (Option Kept)). prefix_len is_none l ≡ length l) c.self.view_is (none_kept a.next_ack a.kept_sdus.items c.self.invariant.tidy.front none)))) refl

pub retransmit_kept-marked-requires-clause-sent : goal.retransmit_kept-marked-requires-clause-sent
retransmit_kept-marked-requires-clause-sent c =
    let a = c.self.inside in
    let some : 0 < length a.kept_sdus.items = grind (arith, nat_tests, c.if-is_empty.ensures) in
    first_sent a.next_ack a.kept_sdus.items a.unconfirmed a.unsent (λ n. contains nat_cmp a.waiting n ≡ true) c.index_mut.result.now c.self.invariant.tidy (subst NoneUnsent (sym c.self.view_is) c.if-unsent_waits.ensures) some c.index_mut.ensures.value

pub invariant_of-self : goal.invariant_of-self
invariant_of-self c =
    let a = c.self.inside in
    let some : 0 < length a.kept_sdus.items = grind (arith, nat_tests, c.if-is_empty.ensures) in
    record {
      tidy = first_tidy a.next_ack a.kept_sdus.items a.unconfirmed a.unsent (λ n. contains nat_cmp a.waiting n ≡ true) c.args.threshold c.retransmit_kept-marked.result c.index_mut.result.now c.retransmit_kept-marked.new.kept_sdu c.self.invariant.tidy some c.index_mut.ensures.value c.retransmit_kept-marked.ensures;
      names = c.self.invariant.names;
      room = omega (arith, length-set a.kept_sdus.items 0 c.retransmit_kept-marked.new.kept_sdu, c.self.invariant.room);
    }

pub returns : goal.returns
returns c =
    let a = c.self.inside in
    let some : 0 < length a.kept_sdus.items = grind (arith, nat_tests, c.if-is_empty.ensures) in
    let new = kept_from a.next_ack (set a.kept_sdus.items 0 c.retransmit_kept-marked.new.kept_sdu) in
    let r = first_retransmits a.next_ack a.kept_sdus.items a.unconfirmed a.unsent (λ n. contains nat_cmp a.waiting n ≡ true) c.args.threshold c.retransmit_kept-marked.result c.index_mut.result.now c.retransmit_kept-marked.new.kept_sdu c.self.invariant.tidy some c.index_mut.ensures.value c.retransmit_kept-marked.ensures
    (subst NonePending (sym c.self.view_is) c.if-pending_waits.ensures.waits) (subst NoneUnsent (sym c.self.view_is) c.if-unsent_waits.ensures) in
    subst (λ (o : Option ℕ). RetransmitsLowestOf c.args.threshold c.args.self.now o new) (sym c.then_some.ensures)
    (subst (λ (l : List (Option Kept)). RetransmitsLowestOf c.args.threshold l (then_some c.retransmit_kept-marked.result a.next_ack) new) c.self.view_is r)
