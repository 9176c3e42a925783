use Rattle.std.proofs.Common.{sym, ◌∙◌, take-append-drop}
use Rattle.std.proofs.lemmas.Bool.{eqb-true}
use Rattle.script_text.proofs.HexText.{pieces, last_piece}
use Rattle.script_text.proofs.hex_words.push_digits.Goals as goal

pub loop-rest-preserved : goal.loop-rest-preserved
loop-rest-preserved c =
    pieces _ _ _ c.split_at.result.0.now c.split_at.result.1.now c.loop-rest.rest.now
    (rw (c.split_at.ensures.front, c.split_at.ensures.back) (take-append-drop c.min.result c.loop-rest.rest.now)) c.in_ok-push_piece.ensures c.loop-rest.invariant

pub returns : goal.returns
returns c = last_piece _ _ c.loop-rest.rest.now (eqb-true _ 0 (sym c.is_empty.ensures ∙ c.loop-rest-test.false)) c.loop-rest.invariant
