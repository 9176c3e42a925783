use Rattle.std.proofs.Common.{◌+◌, length, sym, ◌∙◌, ap, arith}
use Rattle.pdcp_model.specs.Sender.{is_reported, still_kept}
use Rattle.pdcp_tx.specs.Kept.{kept_from}
use Rattle.pdcp_tx.proofs.Kept.{kept_long, kept_more, still_long, still_from}
use Rattle.pdcp_tx.proofs.kept_sdus.KeptSdus.confirm_reported.Goals as goal

pub invariant_of-self : goal.invariant_of-self
invariant_of-self c =
    let a = c.self.inside in
    record {
      front = c.pop_confirmed.ensures.front;
      small = omega (arith, ap length c.pop_confirmed.ensures.kept, kept_long c.pop_confirmed.result c.pop_confirmed.new.sdus.items, ap length c.discard_reported.ensures, still_long (is_reported c.args.fmc c.args.map.now) (c.args.first + a.confirmed) a.sdus.items, c.self.invariant.small);
    }

pub returns : goal.returns
returns c =
    let a = c.self.inside in
    let p = is_reported c.args.fmc c.args.map.now in
    kept_more a.confirmed c.pop_confirmed.result c.pop_confirmed.new.sdus.items
    ∙ ap (kept_from a.confirmed) (c.pop_confirmed.ensures.kept ∙ c.discard_reported.ensures)
    ∙ sym (still_from p c.args.first a.confirmed a.sdus.items)
    ∙ ap (still_kept p c.args.first) c.self.view_is
