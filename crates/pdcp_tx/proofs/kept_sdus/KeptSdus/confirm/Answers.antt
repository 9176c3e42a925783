use Rattle.std.proofs.Common.{◌-◌, length, set, None, sym, ◌∙◌, ap, arith}
use Rattle.std.proofs.lemmas.List.{length-set}
use Rattle.pdcp_tx.specs.Kept.{kept_from}
use Rattle.pdcp_tx.proofs.Kept.{Sdus, none, kept_long, kept_more, kept_set, kept_same}
use Rattle.pdcp_tx.proofs.kept_sdus.KeptSdus.confirm.Goals as goal

pub returns-then-number-self : goal.returns-then-number-self
returns-then-number-self c =
    let a = c.self.inside in
    let n = c.args.number in
    sym c.self.view_is ∙ sym (kept_same a.confirmed a.sdus.items n (omega arith)) ∙ ap (λ (l : Sdus). set l n None) c.self.view_is

pub overflow_add-self : goal.overflow_add-self
overflow_add-self c =
    let a = c.self.inside in
    omega (arith, ap length c.pop_confirmed.ensures.kept, kept_long c.pop_confirmed.result c.pop_confirmed.new.sdus.items, length-set a.sdus.items (c.args.number - a.confirmed) none, c.self.invariant.small)

pub invariant_of-self : goal.invariant_of-self
invariant_of-self c =
    let a = c.self.inside in
    record {
      front = c.pop_confirmed.ensures.front;
      small = omega (arith, ap length c.pop_confirmed.ensures.kept, kept_long c.pop_confirmed.result c.pop_confirmed.new.sdus.items, length-set a.sdus.items (c.args.number - a.confirmed) none, c.self.invariant.small);
    }

pub returns : goal.returns
returns c =
    let a = c.self.inside in
    let n = c.args.number in
    kept_more a.confirmed c.pop_confirmed.result c.pop_confirmed.new.sdus.items
    ∙ ap (kept_from a.confirmed) c.pop_confirmed.ensures.kept
    ∙ sym (kept_set a.confirmed a.sdus.items n (omega arith))
    ∙ ap (λ (l : Sdus). set l n None) c.self.view_is
