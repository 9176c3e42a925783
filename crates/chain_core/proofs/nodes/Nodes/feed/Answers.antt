use Rattle.std.proofs.Common.{◌≡◌, ◌++◌, ◌<◌, ◌+◌, length, List, slice_set, refl, sym, subst, arith, rules}
use Rattle.link_base.specs.declared.names.Key.{Key}
use Rattle.node_model.specs.State.{TabledNode}
use Rattle.chain_model.specs.Steps.{FeedsAll}
use Rattle.chain_core.specs.Nodes.{all_nodes}
use Rattle.chain_core.proofs.Feeding.{same_nodes, FedBelow, none_fed, one_fed, each_fed, feeds_on, has_numbers}
use Rattle.chain_core.proofs.nodes.Nodes.feed.Goals as goal

pub loop-place-init : goal.loop-place-init
loop-place-init c =
    let n = c.self.inside in
    record { tables = refl; relay = refl; fed = subst (λ (ks : List Key). FedBelow n.tables n.relay n.ends.items n.ends.items 0 ks) (sym c.new-given.ensures) (none_fed n.tables n.relay n.ends.items c.self.invariant) }

pub invariant_of-self : goal.invariant_of-self
invariant_of-self c =
    let n = c.self.inside in
    let l = c.loop-place in
    same_nodes n.tables l.self-inside.tables n.relay l.self-inside.relay l.self-inside.ends.items l.invariant.tables l.invariant.relay l.invariant.fed.are

pub feed-requires : goal.feed-requires
feed-requires c =
    let n = c.self.inside in
    let l = c.loop-place in
    let within : l.place < length l.self-inside.ends.items = omega (arith, c.loop-place-test.true, c.len-place-end.ensures, l.invariant.fed.long) in
    has_numbers n.tables n.relay n.ends.items l.self-inside.ends.items l.place l.given c.index_mut.result.now l.invariant.fed within c.index_mut.ensures.value c.self.invariant (rw (← c.self.view_is) at c.requires)

pub invariant_of-self-in_err-keys : goal.invariant_of-self-in_err-keys
invariant_of-self-in_err-keys c =
    let n = c.self.inside in
    let l = c.loop-place in
    let within : l.place < length l.self-inside.ends.items = omega (arith, c.loop-place-test.true, c.len-place-end.ensures, l.invariant.fed.long) in
    same_nodes n.tables l.self-inside.tables n.relay l.self-inside.relay (slice_set l.self-inside.ends.items l.place c.feed.new.self) l.invariant.tables l.invariant.relay
    (feeds_on n.tables n.relay n.ends.items l.self-inside.ends.items l.place l.given c.index_mut.result.now l.invariant.fed within c.index_mut.ensures.value c.feed.new.self c.feed.ensures.tables c.feed.ensures.name)

pub invariant_of-self-in_err-append : goal.invariant_of-self-in_err-append
invariant_of-self-in_err-append c =
    let n = c.self.inside in
    let l = c.loop-place in
    let within : l.place < length l.self-inside.ends.items = omega (arith, c.loop-place-test.true, c.len-place-end.ensures, l.invariant.fed.long) in
    same_nodes n.tables l.self-inside.tables n.relay l.self-inside.relay (slice_set l.self-inside.ends.items l.place c.feed.new.self) l.invariant.tables l.invariant.relay
    (feeds_on n.tables n.relay n.ends.items l.self-inside.ends.items l.place l.given c.index_mut.result.now l.invariant.fed within c.index_mut.ensures.value c.feed.new.self c.feed.ensures.tables c.feed.ensures.name)

pub loop-place-preserved : goal.loop-place-preserved
loop-place-preserved c =
    let n = c.self.inside in
    let l = c.loop-place in
    let within : l.place < length l.self-inside.ends.items = omega (arith, c.loop-place-test.true, c.len-place-end.ensures, l.invariant.fed.long) in
    let added : c.append.new.self ≡ l.given ++ c.in_ok-keys.keys = search rules in
    record {
      tables = l.invariant.tables;
      relay = l.invariant.relay;
      fed = subst (λ (ks : List Key). FedBelow n.tables n.relay n.ends.items (slice_set l.self-inside.ends.items l.place c.feed.new.self) (l.place + 1) ks) (sym added)
          (one_fed n.tables n.relay n.ends.items l.self-inside.ends.items l.place l.given c.index_mut.result.now l.invariant.fed within c.index_mut.ensures.value c.in_ok-keys.keys c.feed.new.self
          c.feed.ensures.tables c.feed.ensures.name c.in_ok-keys.ensures.ok);
    }

pub returns-clause-ok : goal.returns-clause-ok
returns-clause-ok c =
    let n = c.self.inside in
    let l = c.loop-place in
    rw (← c.self.view_is)
    (subst (λ (relay : TabledNode). FeedsAll n.tables (all_nodes n.relay n.ends.items) l.given (all_nodes relay l.self-inside.ends.items)) (sym l.invariant.relay)
    (each_fed n.tables n.relay n.ends.items l.self-inside.ends.items l.place l.given l.invariant.fed (omega (arith, c.loop-place-test.false, c.len-place-end.ensures, l.invariant.fed.long))))

pub returns-in_err-keys-clause-tables : goal.returns-in_err-keys-clause-tables
returns-in_err-keys-clause-tables c = rw (← c.self.view_is) c.loop-place.invariant.tables

pub returns-in_err-append-clause-tables : goal.returns-in_err-append-clause-tables
returns-in_err-append-clause-tables c = rw (← c.self.view_is) c.loop-place.invariant.tables

pub returns-clause-tables : goal.returns-clause-tables
returns-clause-tables c = rw (← c.self.view_is) c.loop-place.invariant.tables
