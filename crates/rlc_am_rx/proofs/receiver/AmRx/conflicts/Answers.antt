use Rattle.std.proofs.Common.{◌∙◌, ap}
use Rattle.rlc_am_rx.specs.Reassembly.{got_of}
use Rattle.rlc_am_rx.proofs.receiver.AmRx.conflicts.Goals as goal

pub returns-in-Some-Partly : goal.returns-in-Some-Partly
returns-in-Some-Partly c = rw (c.in-Some-Partly.ensures.some ∙ ap got_of c.in-Some-Partly.field-0-is, ← c.deref.ensures) c.conflicts.ensures
