use Rattle.std.proofs.Common.{sym, ◌∙◌, ap}
use Rattle.std.specs.List.{prefix_len}
use Rattle.std.specs.Option.{is_none}
use Rattle.rlc_am_tx.proofs.Numbers.{kept_front}
use Rattle.rlc_am_tx.proofs.buffer.TxBuffer.next_ack.Goals as goal

pub returns-clause-value : goal.returns-clause-value
returns-clause-value c = sym (kept_front c.self.inside.next_ack c.self.inside.kept_sdus.items c.self.invariant.tidy.front) ∙ ap (prefix_len is_none) c.self.view_is
