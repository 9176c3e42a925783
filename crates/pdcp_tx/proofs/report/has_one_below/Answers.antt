use Rattle.std.proofs.Common.{ℕ, ◌*◌, ◌%◌, ◌^◌, ◌==◌, not, sym, subst}
use Rattle.std.specs.Bool.{MatchBool}
use Rattle.pdcp_tx.specs.Reported.{HasOneBelow}
use Rattle.pdcp_tx.proofs.Reported.{tests_below}
use Rattle.pdcp_tx.proofs.report.has_one_below.Goals as goal

pub returns : goal.returns
returns c =
    let bits = c.args.bits in
    subst (λ (x : ℕ). MatchBool (not (x % (1 * 2 ^ bits % 2 ^ 16) == 0)) (HasOneBelow c.args.octet bits) (HasOneBelow c.args.octet bits → ⊥)) (sym c.from.ensures)
    (tests_below c.args.octet bits c.requires)
