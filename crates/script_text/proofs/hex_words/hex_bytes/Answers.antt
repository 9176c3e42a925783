use Rattle.std.proofs.Common.{sym, ◌∙◌}
use Rattle.script_text.proofs.HasForm.{hex_form}
use Rattle.script_text.proofs.hex_words.hex_bytes.Goals as goal

pub returns-then-not-is_hex : goal.returns-then-not-is_hex
returns-then-not-is_hex c = λ bytes is.
    let yes_hex = sym c.is_hex.ensures ∙ c.if-not-is_hex.true in
    let hex = hex_form c.args.word.now bytes is in
    cc
