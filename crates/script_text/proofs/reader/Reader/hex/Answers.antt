use Rattle.std.proofs.Common.{subst, Bool}
use Rattle.script_text.specs.Fields.{Hex}
use Rattle.script_text.specs.Reading.{Misspells}
use Rattle.script_text.proofs.HasForm.{hex_form}
use Rattle.script_text.proofs.ReaderSteps.{read_as, misread_as}
use Rattle.script_text.proofs.reader.Reader.hex.Goals as goal

pub returns-in-Some : goal.returns-in-Some
returns-in-Some c =
    let is = rw c.in-Some.is at c.in_ok-bytes.ensures in
    read_as c.args.self.now _ (Hex c.in-Some.bytes) _ c.next_word-word.ensures.skips c.next_word-word.ensures.word is (hex_form c.next_word-word.result.now c.in-Some.bytes is) tt

pub returns-in-None : goal.returns-in-None
returns-in-None c =
    let none = rw c.in-None.is at c.in_ok-bytes.ensures in
    misread_as c.args.self.now c.next_word-word.new.self c.misspell.new.self (Hex c.new.result) _ c.next_word-word.ensures.skips
    (subst (λ (b : Bool). Misspells b c.next_word-word.new.self c.misspell.new.self) c.is_hex.ensures c.misspell.ensures) c.next_word-word.ensures.word none tt
