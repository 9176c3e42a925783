use Rattle.std.proofs.Common.{◌≡◌, ◌++◌, take}
use Rattle.std.specs.String.{string_bytes}
use Rattle.std.specs.List.{flat_map}
use Rattle.script_text.specs.Texts.{total_text}
use Rattle.script_text.proofs.trace.push_totals.Given as goal

abbrev pub invariant-loop-total : goal.invariant-loop-total
invariant-loop-total l = string_bytes l.out ≡ string_bytes l.fn.out ++ flat_map total_text (take l.total-index l.totals)
