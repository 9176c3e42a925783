use Rattle.std.proofs.Common.{sym, ◌∙◌}
use Rattle.script_text.proofs.Parsed.{taken, turned_down}
use Rattle.script_text.proofs.parse.parse_line.Goals as goal

pub returns-in-Ok : goal.returns-in-Ok
returns-in-Ok c =
    taken c.args.stage.now c.args.bytes.now c.if-bytes-gt-LONGEST_LINE.false (sym c.is_skipped.ensures ∙ c.if-is_skipped.false) c.in_ok-line.line c.in_ok-line.ensures.0 c.in_ok-line.ensures.1 c.enter.new.self c.in-Ok.ensures

pub returns-in-Err : goal.returns-in-Err
returns-in-Err c =
    rw c.fault_of.ensures (turned_down c.args.stage.now c.args.bytes.now c.if-bytes-gt-LONGEST_LINE.false (sym c.is_skipped.ensures ∙ c.if-is_skipped.false) c.in_ok-line.line c.in_ok-line.ensures.0 c.in_ok-line.ensures.1 c.enter.new.self c.in-Err.fault c.in-Err.ensures)
