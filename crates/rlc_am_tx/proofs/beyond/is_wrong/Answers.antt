use Rattle.std.proofs.Common.{◌≡◌, ◌↔◌, ◌+◌, ◌-◌, true, refl, ap, subst, arith}
use Rattle.std.proofs.lemmas.Bool.{false≢true}
use Rattle.rlc_status.specs.Says.{count}
use Rattle.rlc_am_tx.specs.Buffer.{EndsBy}
use Rattle.rlc_am_tx.proofs.Nacks.{begins_is}
use Rattle.rlc_am_tx.proofs.Nacks.{wrong_is}
use Rattle.rlc_am_tx.proofs.beyond.is_wrong.Goals as goal

pub returns-then-is_past : goal.returns-then-is_past
returns-then-is_past c = (
  λ _.
      begins_is c.args.size c.args.buffer.now c.args.ack c.args.nack.now c.in-Some.first c.in-Some-part.start c.in-Some-part.last_place c.in-Some.ensures.some c.in-Some-part.is
      (subst (EndsBy c.args.buffer.now c.in-Some.first) c.from.ensures (c.if-is_past.ensures.0 refl)),
  λ wrong. refl,
)

pub returns-then-last_place : goal.returns-then-last_place
returns-then-last_place c =
    let l = c.args.buffer.now in
    let end : c.in-Some.first + c.count_of.result - 1 ≡ c.in-Some.first + count c.args.nack.now - 1 = ap (λ m. c.in-Some.first + m - 1) c.count_of.ensures.value in
    let past : c.is_past-then-last_place.result ≡ true ↔ EndsBy l (c.in-Some.first + count c.args.nack.now - 1) c.in-Some-part.last_place =
    subst (λ m. c.is_past-then-last_place.result ≡ true ↔ EndsBy l (c.in-Some.first + count c.args.nack.now - 1) m) c.from-then-last_place.ensures
    (subst (λ m. c.is_past-then-last_place.result ≡ true ↔ EndsBy l m c.from-then-last_place.result) end c.is_past-then-last_place.ensures) in
    wrong_is c.args.size l c.args.ack c.args.nack.now c.in-Some.first c.in-Some-part.start c.in-Some-part.last_place c.in-Some.ensures.some c.in-Some-part.is
    (omega (arith, c.if-end-ack.false, c.count_of.ensures.value))
    (subst (λ m. EndsBy l c.in-Some.first m → ⊥) c.from.ensures (λ past. false≢true (c.if-is_past.ensures.1 past)))
    c.is_past-then-last_place.result c.if-last_place.true past
