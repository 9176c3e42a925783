use Rattle.std.proofs.Common.{ℕ, take, subst, arith, refl}
use Rattle.script_text.specs.Splits.{HasNoLf}
use Rattle.script_text.proofs.next_line.next_line_of.Goals as goal

pub returns-then-window-eq-LONGEST_WITH_LF : goal.returns-then-window-eq-LONGEST_WITH_LF
returns-then-window-eq-LONGEST_WITH_LF c =
    let w = c.if-window-eq-LONGEST_WITH_LF.true in
    let m = c.min.ensures in
    let k = c.min-window.ensures in
    let n = c.in-None.ensures.none in
    record { room = omega arith; enough = omega arith; one = subst (λ (n : ℕ). HasNoLf (take n c.args.rest.now)) w (n refl) }
