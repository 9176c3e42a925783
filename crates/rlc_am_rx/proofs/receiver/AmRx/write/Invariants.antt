use Rattle.std.proofs.Common.{◌≤◌, ◌≢◌, ◌-◌, ℕ, List, ◌++◌}
use Rattle.rlc_status.specs.declared.status.Nack.{Nack}
use Rattle.rlc_model.specs.Rx.{Done, got, rx_next}
use Rattle.rlc_model.specs.Made.{WritesNacks}
use Rattle.rlc_am_rx.proofs.receiver.AmRx.write.Given as goal

abbrev pub invariant-loop-number : goal.invariant-loop-number
invariant-loop-number l = record {
  from : rx_next l.self ≤ l.number;
  open_number : got l.self l.number ≢ Done;
  writes : (rest : List Nack) (a : ℕ) → WritesNacks l.self l.left l.number rest a
      → WritesNacks l.self l.octets (rx_next l.self) (l.nacks.items ++ rest) a;
}

abbrev pub decreases-loop-number : goal.decreases-loop-number
decreases-loop-number l = l.self.rx_highest_status - l.number
