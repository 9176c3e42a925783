use Rattle.std.proofs.Common.{ℕ, ◌+◌, ◌<◌, Bool, if◌then◌else◌, List, length, Option, None, sym, ◌∙◌, ap, arith}
use Rattle.std.proofs.lemmas.List.{length-set, get_or_default}
use Rattle.pdcp_model.specs.Sender.{is_reported}
use Rattle.pdcp_tx.proofs.Kept.{still_more, none}
use Rattle.pdcp_tx.proofs.kept_sdus.discard_reported.Goals as goal

pub loop-index-preserved : goal.loop-index-preserved
loop-index-preserved c =
    let inv = c.loop-index.invariant in
    let sdus = c.loop-index.sdus.items in
    let i = c.loop-index.index in
    let inside : i < length sdus = omega arith in
    record {
      done = still_more (is_reported c.args.fmc c.args.map.now) c.args.count i c.args.sdus.now.items sdus c.discard_if.new.sdu (omega arith) inv.done
          (c.discard_if.ensures
          ∙ ap (λ (b : Bool). if b then None else c.index_mut.result.now) c.is_reported.ensures
          ∙ ap (λ (x : Option (List ℕ)). if is_reported c.args.fmc c.args.map.now (c.args.count + i) then None else x) (c.index_mut.ensures.value ∙ sym (get_or_default sdus i none c.index_mut.result.now inside)));
      long = length-set sdus i c.discard_if.new.sdu ∙ inv.long;
    }
