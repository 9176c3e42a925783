use Rattle.std.proofs.Common.{sym, ◌∙◌}
use Rattle.script_text.proofs.LineRead.{read_as_line}
use Rattle.script_text.proofs.Parsed.{misspelt}
use Rattle.script_text.proofs.parse.read_line.Goals as goal

pub returns-in-Some-fault : goal.returns-in-Some-fault
returns-in-Some-fault c =
    let line = rw c.in-Some.is at c.in_ok-line.ensures in
    let start = c.new-reader.ensures in
    let read =
    read_as_line c.args.part c.args.text.now c.next_word-word.result.now c.in-Some.line c.new-reader.result c.next_word-word.new.self c.line_of.new.reader start.words start.formed start.spelt c.next_word-word.ensures.word
    c.next_word-word.ensures.skips line in
    misspelt c.args.part c.args.text.now c.in-Some.line
    (record { printable = sym c.is_printable.ensures ∙ c.if-not-is_printable.false; opened = sym c.lacks_version.ensures ∙ c.if-lacks_version.false; known = read.known }) c.in-Some-fault.reason
    (read.means _ (sym c.in-Some-fault.is ∙ c.fault.ensures))

pub returns-in-None-fault : goal.returns-in-None-fault
returns-in-None-fault c =
    let line = rw c.in-Some.is at c.in_ok-line.ensures in
    let start = c.new-reader.ensures in
    let read =
    read_as_line c.args.part c.args.text.now c.next_word-word.result.now c.in-Some.line c.new-reader.result c.next_word-word.new.self c.line_of.new.reader start.words start.formed start.spelt c.next_word-word.ensures.word
    c.next_word-word.ensures.skips line in
    (record { printable = sym c.is_printable.ensures ∙ c.if-not-is_printable.false; opened = sym c.lacks_version.ensures ∙ c.if-lacks_version.false; known = read.known }, read.means _ (sym c.in-None-fault.is ∙ c.fault.ensures))
