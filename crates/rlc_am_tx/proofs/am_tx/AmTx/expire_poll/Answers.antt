use Rattle.std.proofs.Common.{[], ◌∷◌, refl, sym, subst}
use Rattle.std.specs.Option.{option_to_list}
use Rattle.rlc_model.specs.Tx.{Tx}
use Rattle.rlc_model.specs.Retransmission.{ExpiresPoll}
use Rattle.rlc_am_tx.specs.declared.polling.Polling.{Polling}
use Rattle.rlc_am_tx.specs.Polling.{tx_with, expired}
use Rattle.rlc_am_tx.specs.Transmitter.{transmitter_of, IsTransmitter}
use Rattle.rlc_am_tx.proofs.Invariant.{expire_invariant}
use Rattle.rlc_am_tx.proofs.am_tx.AmTx.expire_poll.Goals as goal

pub invariant_of-self : goal.invariant_of-self
invariant_of-self c =
    let a = c.self.inside in
    let marks = option_to_list c.retransmit_lowest.result in
    subst (λ (p : Polling). IsTransmitter (tx_with a.size a.max_retx_threshold c.retransmit_lowest.new.self p)) (sym c.expire.ensures)
    (expire_invariant a.size a.max_retx_threshold a.buffer c.retransmit_lowest.new.self a.polling marks c.self.invariant c.if-not-self.false (c.retransmit_lowest.ensures (tx_with a.size a.max_retx_threshold a.buffer (expired a.polling)) refl refl))

pub invariant_of-self-2 : goal.invariant_of-self-2
invariant_of-self-2 c =
    let a = c.self.inside in
    let marks = option_to_list c.retransmit_lowest.result in
    subst (λ (p : Polling). IsTransmitter (tx_with a.size a.max_retx_threshold c.retransmit_lowest.new.self p)) (sym c.expire.ensures)
    (expire_invariant a.size a.max_retx_threshold a.buffer c.retransmit_lowest.new.self a.polling marks c.self.invariant c.if-not-self.false (c.retransmit_lowest.ensures (tx_with a.size a.max_retx_threshold a.buffer (expired a.polling)) refl refl))

pub returns : goal.returns
returns c =
    let a = c.self.inside in
    let new = tx_with a.size a.max_retx_threshold c.retransmit_lowest.new.self (expired a.polling) in
    let expires : ExpiresPoll (transmitter_of a) (c.in-Some.number ∷ []) new = record {
      runs = c.if-not-self.false;
      mid = tx_with a.size a.max_retx_threshold a.buffer (expired a.polling);
      stopped = refl;
      lowest = c.in-Some.ensures (tx_with a.size a.max_retx_threshold a.buffer (expired a.polling)) refl refl;
    } in
    subst (λ (t : Tx). ExpiresPoll t (c.in-Some.number ∷ []) (tx_with a.size a.max_retx_threshold c.retransmit_lowest.new.self c.expire.new.self)) c.self.view_is
    (subst (λ (p : Polling). ExpiresPoll (transmitter_of a) (c.in-Some.number ∷ []) (tx_with a.size a.max_retx_threshold c.retransmit_lowest.new.self p)) (sym c.expire.ensures) expires)
