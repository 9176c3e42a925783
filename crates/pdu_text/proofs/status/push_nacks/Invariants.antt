use Rattle.std.proofs.Common.{◌≡◌, ◌++◌, take}
use Rattle.std.specs.String.{string_bytes}
use Rattle.std.specs.List.{flat_map}
use Rattle.pdu_text.specs.Texts.{nack_text}
use Rattle.pdu_text.proofs.status.push_nacks.Given as goal

abbrev pub invariant-loop-nack : goal.invariant-loop-nack
invariant-loop-nack l = string_bytes l.out ≡ string_bytes l.fn.out ++ flat_map nack_text (take l.nack-index l.nacks)
