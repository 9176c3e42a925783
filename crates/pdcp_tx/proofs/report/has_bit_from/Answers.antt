use Rattle.std.proofs.Common.{Bool, not, ◌==◌, ◌+◌, ◌-◌, ◌/◌, sym, ◌∙◌, ap, subst, arith}
use Rattle.std.specs.Bool.{MatchBool}
use Rattle.std.specs.List.{list_any}
use Rattle.std.proofs.lemmas.List.{take_rest}
use Rattle.pdcp_tx.specs.Reported.{HasBitFrom}
use Rattle.pdcp_tx.proofs.Reported.{from_first, tests_from}
use Rattle.pdcp_tx.proofs.report.has_bit_from.Goals as goal

pub returns-then-has_one_below : goal.returns-then-has_one_below
returns-then-has_one_below c =
    subst (λ (b : Bool). MatchBool b (HasBitFrom c.args.map.now c.args.number) (HasBitFrom c.args.map.now c.args.number → ⊥)) (sym c.if-has_one_below.true)
    (from_first c.args.map.now c.args.number c.requires c.if-has_one_below.ensures)

pub returns-else-has_one_below : goal.returns-else-has_one_below
returns-else-has_one_below c = tests_from c.args.map.now c.args.number c.has_one.result c.requires (λ i. omega (arith, c.type_inv.map i)) c.if-has_one_below.ensures
    (c.has_one.ensures ∙ ap (list_any (λ octet. not (octet == 0))) (take_rest c.args.map.now ((c.args.number - 1) / 8 + 1)))
