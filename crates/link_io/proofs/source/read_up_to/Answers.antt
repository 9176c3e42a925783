use Rattle.std.proofs.Common.{rules, arith, ℕ, length, ◌+◌, ◌≤◌, take}
use Rattle.std.proofs.lemmas.List.{length-take}
use Rattle.link_io.proofs.Pieces.{lost_next}
use Rattle.link_io.proofs.source.read_up_to.Goals as goal

pub returns-in_err-extend_from_slice-clause-lost : goal.returns-in_err-extend_from_slice-clause-lost
returns-in_err-extend_from_slice-clause-lost g c =
    let piece = take c.in_ok-count.count c.read.new.buf in
    let fits : length c.loop-piece.held.items + length piece ≤ c.args.limit = omega (arith, length-take {A = ℕ}, c.read.auto.buf) in
    let lost = lost_next _ _ _ _ piece _ c.loop-piece.invariant.so_far c.in_ok-count.ensures.bytes.0 fits in
    search (rules, lost)
