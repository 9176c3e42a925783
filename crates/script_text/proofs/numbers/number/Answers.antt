use Rattle.std.proofs.Common.{arith, sym, ◌∙◌}
use Rattle.std.proofs.lemmas.Fmt.{decimal_injective}
use Rattle.script_text.proofs.numbers.number.Goals as goal
use Rattle.script_text.proofs.numbers.number.Goals.{else-low-n-via-then-low-n+else-n-high, else-low-n-via-else-low-n}

pub returns-else-low-n : goal.returns-else-low-n
returns-else-low-n c = λ n is.
    let same = decimal_injective c.in_ok-n.n n (omega arith) (omega arith) (sym c.in_ok-n.ensures ∙ is.0) in
    elim c.else-low-n.branch [
      | else-low-n-via-then-low-n+else-n-high w ↦ omega arith
      | else-low-n-via-else-low-n w ↦ omega arith
    ]
