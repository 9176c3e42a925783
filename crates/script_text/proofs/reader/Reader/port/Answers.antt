use Rattle.script_text.specs.Fields.{Port}
use Rattle.script_text.proofs.HasForm.{port_form}
use Rattle.script_text.proofs.ReaderSteps.{read_as}
use Rattle.script_text.proofs.reader.Reader.port.Goals as goal

pub returns-in-Some : goal.returns-in-Some
returns-in-Some c =
    let is = c.in-Some.ensures in
    read_as c.args.self.now _ (Port c.in-Some.port) _ c.next_word-word.ensures.skips c.next_word-word.ensures.word is (port_form c.next_word-word.result.now c.in-Some.port is) tt
