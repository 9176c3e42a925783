use Rattle.std.proofs.Common.{List, Option, sym, ap, subst, arith}
use Rattle.rlc_model.specs.Tx.{Kept, room}
use Rattle.rlc_am_tx.specs.Polling.{tx_with}
use Rattle.rlc_am_tx.specs.Transmitter.{transmitter_of, IsTransmitter}
use Rattle.rlc_am_tx.proofs.Invariant.{give_invariant}
use Rattle.rlc_am_tx.proofs.am_tx.AmTx.give.Goals as goal

pub invariant_of-self-2 : goal.invariant_of-self-2
invariant_of-self-2 c =
    let a = c.self.inside in
    subst (λ (l : List (Option Kept)). IsTransmitter (tx_with a.size a.max_retx_threshold l a.polling)) (sym c.in_default.ensures.ok)
    (give_invariant (transmitter_of a) c.args.tag c.args.sdu c.self.invariant (omega (arith, ap room c.self.view_is, c.room.ensures, c.if-room-eq0.false)) c.requires.some)
