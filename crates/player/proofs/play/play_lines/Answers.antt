use Rattle.std.proofs.Common.{◌≡◌, false, sym, ◌∙◌, subst, inl, string_bytes}
use Rattle.script_text.specs.declared.reason.Reason.TheVariants as reason
use Rattle.player.specs.declared.play.Ending.{Ending}
use Rattle.player.specs.Ended.{is_ended}
use Rattle.player.specs.Runs.{IsRun}
use Rattle.player.proofs.RunUnderWay.{begins, run_done, run_bad, run_too_long, run_turns, run_over, run_on}
use Rattle.player.proofs.play.play_lines.Goals as goal

pub loop-rest-init : goal.loop-rest-init
loop-rest-init c = begins c.args.input.now c.args.player.now (string_bytes c.args.out.now) c.requires.plays c.requires.empty

pub returns-then-has_ended : goal.returns-then-has_ended
returns-then-has_ended c =
    let said = c.in_ok-ending.ensures in
    subst (λ (e : Ending). IsRun c.args.input.now e (string_bytes c.end.new.out)) (sym said.0)
    (run_done c.laws_of_runs.ensures c.args.input.now c.loop-rest.rest.now c.loop-rest.number c.loop-rest.player (string_bytes c.loop-rest.out) (string_bytes c.end.new.out) c.loop-rest.invariant (inl (sym c.has_ended.ensures ∙ c.if-has_ended.true)) said.1)

pub returns-in-Some : goal.returns-in-Some
returns-in-Some c =
    let g = c.loop-rest.invariant in
    let line = c.in-Line.ensures in
    let going : is_ended c.loop-rest.player.stage.part ≡ false = sym c.has_ended.ensures ∙ c.if-has_ended.false in
    let turns = rw c.in-Some.is at (c.in_ok-ending-in-Line.ensures g.history g.plays g.written) in
    run_turns c.laws_of_runs.ensures c.args.input.now c.loop-rest.rest.now c.loop-rest.number c.loop-rest.player (string_bytes c.loop-rest.out) (string_bytes c.read_line.new.out) g going c.in-Line.text.now c.in-Line.after.now line.0 line.1 c.read_line.new.player c.in-Some.ending turns

pub loop-rest-preserved : goal.loop-rest-preserved
loop-rest-preserved c =
    let g = c.loop-rest.invariant in
    let line = c.in-Line.ensures in
    let turns = rw c.in_default.is at (c.in_ok-ending-in-Line.ensures g.history g.plays g.written) in
    run_on c.args.input.now c.loop-rest.rest.now c.in-Line.text.now c.in-Line.after.now c.loop-rest.number c.loop-rest.player c.read_line.new.player (string_bytes c.loop-rest.out) (string_bytes c.read_line.new.out) g line.0 line.1 turns

pub returns-in-Long : goal.returns-in-Long
returns-in-Long c =
    let going : is_ended c.loop-rest.player.stage.part ≡ false = sym c.has_ended.ensures ∙ c.if-has_ended.false in
    let said = c.in_ok-ending-in-Long.ensures in
    subst (λ (e : Ending). IsRun c.args.input.now e (string_bytes c.stop_at.new.out)) (sym said.0)
    (run_bad c.laws_of_runs.ensures c.args.input.now c.loop-rest.rest.now c.loop-rest.number c.loop-rest.player (string_bytes c.loop-rest.out) (string_bytes c.stop_at.new.out) c.loop-rest.invariant going reason.Line c.in-Long.ensures said.1)

pub returns-in-TooLong : goal.returns-in-TooLong
returns-in-TooLong c =
    let going : is_ended c.loop-rest.player.stage.part ≡ false = sym c.has_ended.ensures ∙ c.if-has_ended.false in
    let said = c.in_ok-ending-in-TooLong.ensures in
    subst (λ (e : Ending). IsRun c.args.input.now e (string_bytes c.stop_past_limit.new.out)) (sym said.0)
    (run_too_long c.laws_of_runs.ensures c.args.input.now c.loop-rest.rest.now c.loop-rest.number c.loop-rest.player (string_bytes c.loop-rest.out) (string_bytes c.stop_past_limit.new.out) c.loop-rest.invariant going c.in-TooLong.ensures said.1)

pub returns-in-End : goal.returns-in-End
returns-in-End c =
    let going : is_ended c.loop-rest.player.stage.part ≡ false = sym c.has_ended.ensures ∙ c.if-has_ended.false in
    run_over c.laws_of_runs.ensures c.args.input.now c.loop-rest.rest.now c.loop-rest.number c.loop-rest.player (string_bytes c.loop-rest.out) (string_bytes c.stop_at_end.new.out) c.loop-rest.invariant going c.in_ok-ending-in-End.ending c.in-End.ensures c.in_ok-ending-in-End.ensures
