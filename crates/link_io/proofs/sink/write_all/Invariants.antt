use Rattle.std.proofs.Common.{◌≡◌, length, ◌-◌, ◌≤◌, take}
use Rattle.std.specs.Io.KnownBytes.{Appends}
use Rattle.link_io.specs.Causes.{IsUsed}
use Rattle.link_io.specs.Bytes.{IsAsTold}
use Rattle.link_io.proofs.sink.write_all.Given as goal

abbrev pub invariant-loop-at : goal.invariant-loop-at
invariant-loop-at g l =
    record {
      within : l.at ≤ length l.bytes;
      so_far : Appends (g.K.Sink.written l.fn.out) (g.K.Sink.written l.out) (take l.at l.bytes);
      told : IsAsTold (g.K.Sink.written l.fn.out) (g.K.Sink.written l.out);
      used : IsUsed g.K.Sink.faults g.K.Sink.can_fail l.fn.out l.out;
      kept : g.K.Sink.faults l.out ≡ g.K.Sink.faults l.fn.out;
    }

abbrev pub decreases-loop-at : goal.decreases-loop-at
decreases-loop-at g l = length l.bytes - l.at
