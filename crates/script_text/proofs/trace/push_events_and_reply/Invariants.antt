use Rattle.std.proofs.Common.{◌≡◌, ◌++◌, take}
use Rattle.std.specs.String.{string_bytes}
use Rattle.std.specs.List.{flat_map}
use Rattle.script_text.specs.Texts.{event_line}
use Rattle.script_text.proofs.trace.push_events_and_reply.Given as goal

abbrev pub invariant-loop-event : goal.invariant-loop-event
invariant-loop-event l = string_bytes l.out ≡ string_bytes l.fn.out ++ flat_map event_line (take l.event-index l.events)
