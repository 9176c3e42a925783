use Rattle.std.proofs.Common.{[], List, Option, sym, subst}
use Rattle.rlc_model.specs.Tx.{Kept}
use Rattle.rlc_am_tx.specs.declared.polling.Polling.{Polling}
use Rattle.rlc_am_tx.specs.Polling.{tx_with}
use Rattle.rlc_am_tx.specs.Transmitter.{IsTransmitter}
use Rattle.rlc_am_tx.proofs.Invariant.{new_invariant}
use Rattle.rlc_am_tx.proofs.am_tx.AmTx.new.Goals as goal

pub invariant_of-result : goal.invariant_of-result
invariant_of-result c =
    let a = c.args in
    subst (λ (l : List (Option Kept)). IsTransmitter (tx_with a.size a.max_retx_threshold l c.new-2.result)) (sym c.new.ensures)
    (subst (λ (p : Polling). IsTransmitter (tx_with a.size a.max_retx_threshold [] p)) (sym c.new-2.ensures) (new_invariant a.size a.poll_pdu a.poll_byte a.max_retx_threshold))
