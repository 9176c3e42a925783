-- What the fields of a transmitter stand for.
use Rattle.std.specs.Prelude.{◌+◌, ◌≤◌}
use Rattle.link_base.specs.SequenceNumbers.{window}
use Rattle.rlc_model.specs.Tx.{Tx, tx_next, tx_next_ack}
use Rattle.rlc_rest.specs.Progress.{Progress, HoldsSdus}
use Rattle.rlc_am_tx.specs.Buffer.{all_sent}
use Rattle.rlc_am_tx.specs.Polling.{tx_with}
use Rattle.rlc_am_tx.specs.declared.am_tx.AmTx.TheInside.{Inside}

-- the transmitter whose fields these are
abbrev pub transmitter_of : Inside → Tx
transmitter_of a = tx_with a.size a.max_retx_threshold a.buffer a.polling

-- no SDU lies beyond the window, no more is counted than bytes were sent for the first time, and the transmitter can go on
pub record IsTransmitter (t : Tx) : Type 0 where
  pub within : tx_next t ≤ tx_next_ack t + window t.size
  pub pdus : t.pdu_without_poll ≤ t.byte_without_poll
  pub bytes : t.byte_without_poll ≤ all_sent t.kept
  pub whole : HoldsSdus t
  pub progress : Progress t

-- the same of the fields
abbrev pub IsTransmitterInside : Inside → Type 0
IsTransmitterInside a = IsTransmitter (transmitter_of a)
