use Rattle.std.proofs.Common.{ℕ, length, subst, ◌≡◌, ◌*◌, take, arith}
use Rattle.hex.specs.Hex.{lower_digits, encode_lower}
use Rattle.hex.proofs.Pairs.{encode_step}
use Rattle.script_text.proofs.HexText.{encode_end}
use Rattle.script_text.proofs.hex_words.write_digits.Goals as goal

pub loop-i-preserved : goal.loop-i-preserved
loop-i-preserved c =
    encode_step lower_digits c.args.bytes.now c.loop-i.digits c.loop-i.i _ _ (omega arith) (omega arith) c.digit.ensures c.digit-in-loop-i.ensures c.loop-i.invariant

pub returns : goal.returns
returns c =
    let at : c.loop-i.i ≡ length c.args.bytes.now = omega arith in
    subst (λ (n : ℕ). take (2 * n) c.loop-i.digits ≡ encode_lower c.args.bytes.now) at
    (encode_end lower_digits c.args.bytes.now c.loop-i.digits c.loop-i.i (omega arith) c.loop-i.invariant)
