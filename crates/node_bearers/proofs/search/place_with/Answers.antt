use Rattle.std.proofs.Common.{rules}
use Rattle.std.proofs.lemmas.List.Sorted.{answers_always}
use Rattle.node_bearers.specs.Bearer.{rank}
use Rattle.node_bearers.proofs.Searches.{searched}
use Rattle.node_bearers.proofs.search.place_with.Goals as goal

pub returns : goal.returns
returns c =
    let facts = c.binary_search_by_key.ensures in
    let by_rank = facts.position rank (answers_always _ _ _ (λ f a r g called. search rules)) in
    let found = searched c.args.rows.now c.requires.ascend c.args.of c.binary_search_by_key.result facts.bound by_rank in
    rw c.ok.ensures.value (record { some = found.found; none = found.absent })
