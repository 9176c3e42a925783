use Rattle.std.proofs.Common.{◌≡◌, true, List, ◌++◌, Some, Ok, refl, sym, ◌∙◌, ap, subst, string_bytes}
use Rattle.std.specs.Prelude.{Option}
use Rattle.script_text.specs.declared.event.Event.{Event}
use Rattle.script_text.specs.declared.line.Line.{Line}
use Rattle.script_text.specs.Grammar.{Parses}
use Rattle.script_text.specs.Texts.{entry_text}
use Rattle.player.specs.declared.player_state.Player.{Player}
use Rattle.player.specs.Carried.{is_carried}
use Rattle.player.proofs.Carrying.{can_carry, reads_on}
use Rattle.player.proofs.player_state.Player.read.Goals as goal

pub carry-requires-clause-can : goal.carry-requires-clause-can
carry-requires-clause-can c =
    let parsed : Parses c.args.self.now.stage c.args.text.now (Ok (Some c.in-Ok-Some.line)) c.parse_line.new.stage =
    subst (λ (o : Option Line). Parses c.args.self.now.stage c.args.text.now (Ok o) c.parse_line.new.stage) c.in-Ok-Some.field-0-is c.in-Ok-Some.ensures in
    let carried : is_carried c.in-Ok-Some.line ≡ true = sym c.is_carried.ensures ∙ c.if-not-is_carried.false in
    can_carry c.laws_of_lines.ensures c.args.self.now c.parse_line.new.stage c.args.text.now c.in-Ok-Some.line c.requires.0 parsed carried c.requires.1

pub returns-in_ok-push_answer-in-Ok-Some : goal.returns-in_ok-push_answer-in-Ok-Some
returns-in_ok-push_answer-in-Ok-Some c = λ h plays written.
    let parsed : Parses c.args.self.now.stage c.args.text.now (Ok (Some c.in-Ok-Some.line)) c.parse_line.new.stage =
    subst (λ (o : Option Line). Parses c.args.self.now.stage c.args.text.now (Ok o) c.parse_line.new.stage) c.in-Ok-Some.field-0-is c.in-Ok-Some.ensures in
    let carried : is_carried c.in-Ok-Some.line ≡ true = sym c.is_carried.ensures ∙ c.if-not-is_carried.false in
    let said = c.in_ok-reply-in-Ok-Some.ensures in
    let player : Player = record { stage = c.parse_line.new.stage; chain = c.carry.new.chain } in
    reads_on c.args.self.now player c.parse_line.new.stage c.args.text.now c.in-Ok-Some.line _ _ h _ _ parsed carried refl said.turns said.runs plays written
    (c.in_ok-push_answer-in-Ok-Some.ensures ∙ ap (λ (l : List Event). string_bytes c.args.out.now ++ entry_text c.in-Ok-Some.line l c.in_ok-reply-in-Ok-Some.reply) c.as_slice.ensures)
