use Rattle.std.proofs.Common.{not, Option, ℕ, take, sym, ◌∙◌, ap}
use Rattle.rlc_model.specs.Tx.{Kept}
use Rattle.byte_spans.specs.Spans.{HasAll, LacksOne}
use Rattle.rlc_am_tx.specs.Flags.{counted, comes_to}
use Rattle.rlc_am_tx.proofs.NamedBytes.{all_pend, turned, same_renewed}
use Rattle.rlc_am_tx.proofs.kept_sdu.KeptSdu.renew_all.Goals as goal

pub returns : goal.returns
returns c =
    let a = c.self.inside in
    let k = c.args.self.now in
    let fresh = not c.covers-fresh.result in
    let tag = ap (λ (x : Kept). x.tag) c.self.view_is in
    let sdu = ap (λ (x : Kept). x.sdu) c.self.view_is in
    let count = ap (λ (x : Kept). x.retx_count) c.self.view_is in
    all_pend c.args.threshold k (record { tag = a.tag; sdu = a.sdu; flags = take a.sent c.only.new.self; retx_count = c.counted-self-inside.result }) a.pending c.only.new.self a.sent fresh c.comes_to-mark.result
    c.self.invariant.pending
    (sym (ap (λ (x : Kept). x.flags) c.self.view_is))
    c.only.ensures
    (turned c.covers-fresh.result (HasAll a.pending 0 a.sent) (LacksOne a.pending 0 a.sent) c.covers-fresh.ensures)
    (same_renewed a.tag k.tag a.sdu k.sdu (take a.sent c.only.new.self) c.counted-self-inside.result (counted c.args.threshold k.retx_count fresh) tag sdu (c.counted-self-inside.ensures.value ∙ ap (λ (o : Option ℕ). counted c.args.threshold o fresh) count))
    (c.comes_to-mark.ensures ∙ ap (λ (o : Option ℕ). comes_to c.args.threshold o fresh) count)
