use Rattle.std.proofs.Common.{◌∙◌, ◌+◌, ◌*◌, slice_index, arith}
use Rattle.hex.proofs.Pairs.{decode_step, decode_done}
use Rattle.hex.proofs.HexLemmas.{decode_of-even}
use Rattle.script_text.proofs.HexText.{pair_read}
use Rattle.script_text.proofs.hex_words.read_digits.Goals as goal

pub loop-i-preserved : goal.loop-i-preserved
loop-i-preserved c =
    let high = c.digit_value.ensures.value in
    let low = c.digit_value-in-loop-i.ensures.value in
    decode_step _ c.loop-i.bytes c.loop-i.i _ (omega arith) (omega arith) (pair_read (slice_index c.args.digits.now (2 * c.loop-i.i)) (slice_index c.args.digits.now (2 * c.loop-i.i + 1)) (2 * c.loop-i.i) _ _ high low) c.loop-i.invariant

pub returns : goal.returns
returns c =
    decode_of-even _ (omega arith) ∙ decode_done _ c.loop-i.bytes c.loop-i.i (omega arith) (omega arith) c.loop-i.invariant
