use Rattle.std.proofs.Common.{◌≡◌, ◌<◌, length, List, Option, sym, ◌∙◌, subst, arith}
use Rattle.std.specs.List.{prefix_len}
use Rattle.std.specs.Option.{is_none}
use Rattle.std.proofs.lemmas.Bool.{false≢true}
use Rattle.std.proofs.lemmas.Bool.Decides.{nat_tests}
use Rattle.rlc_model.specs.Tx.{Kept}
use Rattle.rlc_am_tx.specs.Buffer.{IsIdleList}
use Rattle.rlc_am_tx.proofs.Idle.{not_kept_idle, kept_idle, turned_idle}
use Rattle.rlc_am_tx.proofs.buffer.TxBuffer.may_wake.Goals as goal

pub returns-then-not-poll_owed : goal.returns-then-not-poll_owed
returns-then-not-poll_owed c = (λ h. absurd (false≢true h), λ w. absurd (false≢true (sym c.if-not-poll_owed.true ∙ w.0)))

pub returns-then-is_empty : goal.returns-then-is_empty
returns-then-is_empty c =
    let a = c.self.inside in
    let none : length a.kept_sdus.items ≡ 0 = grind (arith, nat_tests, c.if-is_empty.ensures) in
    (λ h. absurd (false≢true h), λ w. absurd (not_kept_idle a.next_ack a.kept_sdus.items c.self.invariant.tidy.front none (subst IsIdleList (sym c.self.view_is) w.1)))

pub returns : goal.returns
returns c =
    let a = c.self.inside in
    let some : 0 < length a.kept_sdus.items = grind (arith, nat_tests, c.if-is_empty.ensures) in
    turned_idle c.args.poll_owed c.waits.result c.args.self.now c.if-not-poll_owed.false (subst (λ (l : List (Option Kept)). prefix_len is_none l < length l) c.self.view_is (kept_idle a.next_ack a.kept_sdus.items c.self.invariant.tidy.front some)) c.waits.ensures
