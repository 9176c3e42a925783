use Rattle.std.proofs.Common.{◌≡◌, ◌⊎◌, ◌<◌, ◌≤◌, ◌+◌, ℕ, List, Option, length, inl, inr, sym, ap, arith}
use Rattle.node_bearers.proofs.Confirming.{none_confirmed}
use Rattle.node_bearers.proofs.bearer.Bearer.confirm.Goals as goal
use Rattle.node_bearers.proofs.bearer.Bearer.confirm.Goals.{else-first-count-via-then-first-count+else-count-tx_next, else-first-count-via-else-first-count}

pub returns-else-first-count : goal.returns-else-first-count
returns-else-first-count c =
    let tx = c.args.self.now.tx in
    let outside : (c.args.count < tx.first) ⊎ (tx.first + length tx.kept ≤ c.args.count) = elim c.else-first-count.branch [
      | else-first-count-via-then-first-count+else-count-tx_next w ↦ inr (omega (arith, w.tx_next.ensures))
      | else-first-count-via-else-first-count w ↦ inl (omega (arith, c.first.ensures))
    ] in
    ap (λ (kept : List (Option (List ℕ))). record c.args.self.now { tx = record tx { kept = kept } }) (sym (none_confirmed c.args.count tx.first tx.kept outside))
