use Rattle.std.proofs.Common.{arith}
use Rattle.script_text.specs.Fields.{Number}
use Rattle.script_text.proofs.HasForm.{number_form}
use Rattle.script_text.proofs.ReaderSteps.{read_as}
use Rattle.script_text.proofs.reader.Reader.number.Goals as goal

pub returns-in-Some-clause-reads : goal.returns-in-Some-clause-reads
returns-in-Some-clause-reads c =
    let is = c.in-Some.ensures in
    read_as c.args.self.now _ (Number c.args.low c.args.high c.in-Some.n) _ c.next_word-word.ensures.skips c.next_word-word.ensures.word is
    (number_form c.args.low c.args.high c.in-Some.n _ (omega arith) is) tt
