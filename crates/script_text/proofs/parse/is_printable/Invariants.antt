use Rattle.std.proofs.Common.{◌≡◌, take}
use Rattle.script_text.specs.Grammar.{is_printable}
use Rattle.script_text.proofs.parse.is_printable.Given as goal

abbrev pub invariant-loop-byte : goal.invariant-loop-byte
invariant-loop-byte l = l.all ≡ is_printable (take l.byte-index l.text)
