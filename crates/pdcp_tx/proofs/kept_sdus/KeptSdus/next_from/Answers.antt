use Rattle.std.proofs.Common.{◌+◌, drop, sym, ◌∙◌, ap, arith}
use Rattle.std.specs.List.{prefix_len}
use Rattle.std.specs.Option.{is_none}
use Rattle.pdcp_tx.proofs.Kept.{Sdus, kept_run, kept_behind}
use Rattle.pdcp_tx.proofs.kept_sdus.KeptSdus.next_from.Goals as goal

pub returns-then-number-self : goal.returns-then-number-self
returns-then-number-self c =
    let a = c.self.inside in
    let n = c.args.number in
    sym (kept_run a.confirmed a.sdus.items n c.self.invariant.front (omega arith)) ∙ ap (λ (l : Sdus). n + prefix_len is_none (drop n l)) c.self.view_is

pub returns : goal.returns
returns c =
    let a = c.self.inside in
    let n = c.args.number in
    let behind = kept_behind a.confirmed a.sdus.items n (omega arith) in
    omega (arith, c.first_from-index.ensures.value, ap (prefix_len is_none) behind, ap (λ (l : Sdus). prefix_len is_none (drop n l)) c.self.view_is)
