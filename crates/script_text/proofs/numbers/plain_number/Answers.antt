use Rattle.std.proofs.Common.{◌≡◌, true, sym, ◌∙◌, ap}
use Rattle.script_text.specs.Words.{is_numeral}
use Rattle.script_text.proofs.Numerals.{head_of, numeral, number_read, utf8_numeral}
use Rattle.script_text.proofs.numbers.plain_number.Goals as goal

pub from_utf8_unchecked-text-requires : goal.from_utf8_unchecked-text-requires
from_utf8_unchecked-text-requires c = utf8_numeral c.args.word.now (sym c.is_numeral.ensures ∙ c.if-not-is_numeral.false)

pub returns : goal.returns
returns c =
    let same = c.from_utf8_unchecked-text.ensures in
    let head = head_of c.args.word.now (sym c.is_numeral.ensures ∙ c.if-not-is_numeral.false) in
    let read = number_read c.args.word.now c.parse.result head (rw same at c.parse.ensures.value.0) in
    rw c.ok.ensures.value read

pub returns-then-not-is_numeral : goal.returns-then-not-is_numeral
returns-then-not-is_numeral c = λ n small is.
    let other = ap is_numeral is ∙ numeral n small in
    let test : is_numeral c.args.word.now ≡ true = other in
    let here = sym c.is_numeral.ensures ∙ c.if-not-is_numeral.true in
    cc
