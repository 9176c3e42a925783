use Rattle.std.proofs.Common.{◌<◌, [], ◌∷◌, ◌++◌, length, arith}
use Rattle.std.proofs.lemmas.List.{length_push}
use Rattle.std.proofs.lemmas.Result.{err_from_is_err_and}
use Rattle.rlc_status.specs.Format.IsStatusFault.{of_header}
use Rattle.rlc_status.proofs.Reading.{begins, goes_on, ends, trails, fails, has_element}
use Rattle.rlc_status.proofs.decoding.read_status.Goals as goal

pub returns-in_err-ack-clause-fault : goal.returns-in_err-ack-clause-fault
returns-in_err-ack-clause-fault c =
    let p = err_from_is_err_and c.from_residual.result c.from_residual.ensures.1 in
    rw (p.1, p.2) (λ named. of_header c.in_err-ack.ensures.fault)

pub loop-more-init : goal.loop-more-init
loop-more-init c = rw c.new-nacks.ensures (begins c.args.size c.in_ok-ack.ack c.in_ok-ack.more c.in_ok-ack.rest.now c.args.bytes.now c.in_ok-ack.ensures.found c.in_ok-ack.ensures.rest)

pub returns-in_err-nack-clause-fault : goal.returns-in_err-nack-clause-fault
returns-in_err-nack-clause-fault c =
    let p = err_from_is_err_and c.from_residual-in_err-nack.result c.from_residual-in_err-nack.ensures.1 in
    rw (p.1, p.2) (λ named. fails c.args.size c.in_ok-ack.ack c.loop-more.nacks c.loop-more.rest.now c.args.bytes.now c.in_err-nack.field-0.0 (rw c.loop-more-test.true at c.loop-more.invariant) c.in_err-nack.ensures.fault)

pub loop-more-preserved : goal.loop-more-preserved
loop-more-preserved c =
    rw c.in_ok-push.ensures.ok (goes_on c.args.size c.in_ok-ack.ack c.loop-more.nacks c.in_ok-nack.nack c.in_ok-nack.e1 c.loop-more.rest.now c.in_ok-nack.behind.now c.args.bytes.now (rw c.loop-more-test.true at c.loop-more.invariant) c.in_ok-nack.ensures.found)

pub returns-then-not-is_empty-clause-fault : goal.returns-then-not-is_empty-clause-fault
returns-then-not-is_empty-clause-fault c = λ named. trails c.args.size c.in_ok-ack.ack c.loop-more.nacks c.loop-more.rest.now c.args.bytes.now (rw c.loop-more-test.false at c.loop-more.invariant) (grind arith)

pub returns-clause-found : goal.returns-clause-found
returns-clause-found c = ends c.args.size c.in_ok-ack.ack c.loop-more.nacks c.loop-more.rest.now c.args.bytes.now (rw c.loop-more-test.false at c.loop-more.invariant) (grind arith)

pub returns-in_err-push-clause-memory : goal.returns-in_err-push-clause-memory
returns-in_err-push-clause-memory c =
    let nacks = c.loop-more.nacks ++ c.in_ok-nack.nack ∷ [] in
    let some : 0 < length nacks = omega (arith, length_push c.loop-more.nacks c.in_ok-nack.nack) in
    λ named. has_element c.args.size c.in_ok-ack.ack nacks c.in_ok-nack.e1 c.in_ok-nack.behind.now c.args.bytes.now some
    (goes_on c.args.size c.in_ok-ack.ack c.loop-more.nacks c.in_ok-nack.nack c.in_ok-nack.e1 c.loop-more.rest.now c.in_ok-nack.behind.now c.args.bytes.now (rw c.loop-more-test.true at c.loop-more.invariant) c.in_ok-nack.ensures.found)
