use Rattle.std.proofs.Common.{◌≡◌, ◌-◌, ◌≤◌, vec_len}
use Rattle.std.specs.Io.KnownBytes.{Consumes}
use Rattle.link_io.specs.Causes.{IsUsed}
use Rattle.link_io.specs.Bytes.{IsAsTold}
use Rattle.link_io.proofs.source.read_up_to.Given as goal

abbrev pub invariant-loop-piece : goal.invariant-loop-piece
invariant-loop-piece g l =
    record {
      within : vec_len l.held ≤ l.limit;
      so_far : Consumes (g.S.Source.left l.fn.src) (g.S.Source.left l.src) l.held.items;
      told : IsAsTold (g.S.Source.left l.fn.src) (g.S.Source.left l.src);
      used : IsUsed g.S.Source.faults g.S.Source.can_fail l.fn.src l.src;
      kept : g.S.Source.faults l.src ≡ g.S.Source.faults l.fn.src;
    }

abbrev pub decreases-loop-piece : goal.decreases-loop-piece
decreases-loop-piece g l = l.limit - vec_len l.held
