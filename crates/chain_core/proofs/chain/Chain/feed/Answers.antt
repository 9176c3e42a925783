use Rattle.std.proofs.Common.{◌≡◌, ◌++◌, ◌∙◌, refl, subst, rules}
use Rattle.std.specs.List.{filter_map}
use Rattle.node_model.specs.Tables.{keys}
use Rattle.chain_model.specs.State.{Chain}
use Rattle.chain_model.specs.Steps.{reporting}
use Rattle.bearer_map.specs.Contents.{Contents, AreBearers}
use Rattle.chain_core.specs.Chain.{Feeds}
use Rattle.chain_core.proofs.Carrying.{chain_at, with_nodes, moved}
use Rattle.chain_core.proofs.chain.Chain.feed.Goals as goal

pub feed-requires : goal.feed-requires
feed-requires c = rw (← c.self.view_is) at c.requires

pub returns : goal.returns
returns c =
    let n = c.self.inside.nodes in
    let air = c.self.inside.air in
    let same : c.tables.result.now ≡ n.tables = c.tables.ensures ∙ c.feed.ensures.tables in
    let adds : c.tell_reports.new.log ≡ c.args.log.now ++ filter_map (reporting c.in_ok-given.given) (keys n.tables) =
    subst (λ (t : Contents). c.tell_reports.new.log ≡ c.args.log.now ++ filter_map (reporting c.in_ok-given.given) (keys t)) same (search rules) in
    let fed : Feeds (chain_at n air) c.args.log.now c.tell_reports.new.log (with_nodes (chain_at n air) c.feed.new.self.nodes) = record {
      given = c.in_ok-given.given;
      nodes = c.feed.new.self.nodes;
      order = subst (λ (t : Contents). AreBearers t.bearers) same c.bearers.ensures.order;
      feeds = c.in_ok-given.ensures.ok;
      is = refl;
      adds = adds;
    } in
    rw (← c.self.view_is) (subst (λ (d : Chain). Feeds (chain_at n air) c.args.log.now c.tell_reports.new.log d) (moved n c.feed.new.self air c.feed.ensures.tables) fed)
