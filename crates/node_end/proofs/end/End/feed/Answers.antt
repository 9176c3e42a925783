use Rattle.std.proofs.Common.{refl, sym, subst}
use Rattle.std.proofs.lemmas.Bool.{true≢false}
use Rattle.bearer_map.specs.Contents.{Contents}
use Rattle.node_end.specs.Fed.{IsKeyFed, KnowsPlaces, is_to_feed}
use Rattle.node_end.specs.Node.{node_of}
use Rattle.node_end.specs.Ports.{IsEnd}
use Rattle.node_end.proofs.Covering.{covers_over, knows_over, outside_fed}
use Rattle.node_end.proofs.end.End.feed.Goals as goal

pub feed_places-requires-clause-places : goal.feed_places-requires-clause-places
feed_places-requires-clause-places c =
    let a = c.self.inside in
    let n = node_of a.node in
    let covers = c.places-places.ensures a.node.tables (knows_over n a.node.bearers refl refl a.node.tables a.served c.self.invariant.places) in
    (covers_over a.node.bearers n refl refl (is_to_feed a.node.tables a.to_feed) c.places-places.result.now covers).are

pub feed_places-requires-clause-others : goal.feed_places-requires-clause-others
feed_places-requires-clause-others c =
    let a = c.self.inside in
    let n = node_of a.node in
    let covers = c.places-places.ensures a.node.tables (knows_over n a.node.bearers refl refl a.node.tables a.served c.self.invariant.places) in
    outside_fed a.node.tables a.to_feed n c.places-places.result.now c.self.invariant.fed (covers_over a.node.bearers n refl refl (is_to_feed a.node.tables a.to_feed) c.places-places.result.now covers)

pub invariant_of-self : goal.invariant_of-self
invariant_of-self c =
    let a = c.self.inside in
    let new = c.feed_places.new.self in
    let keys = c.feed_places.ensures.keys in
    let same = sym c.feed_places.ensures.same.tables in
    record {
      is_end = subst (λ (t : Contents). IsEnd t (node_of new)) same c.feed_places.ensures.end;
      places = subst (λ (t : Contents). KnowsPlaces t (node_of new) a.served) same (knows_over (node_of a.node) (node_of new) keys.sent keys.received a.node.tables a.served c.self.invariant.places);
      fed = λ key is. absurd (true≢false is);
    }

pub invariant_of-self-2 : goal.invariant_of-self-2
invariant_of-self-2 c =
    let a = c.self.inside in
    let new = c.feed_places.new.self in
    let keys = c.feed_places.ensures.keys in
    let same = sym c.feed_places.ensures.same.tables in
    record {
      is_end = subst (λ (t : Contents). IsEnd t (node_of new)) same c.feed_places.ensures.end;
      places = subst (λ (t : Contents). KnowsPlaces t (node_of new) a.served) same (knows_over (node_of a.node) (node_of new) keys.sent keys.received a.node.tables a.served c.self.invariant.places);
      fed = λ key is. subst (λ (t : Contents). IsKeyFed t (node_of new) key) same (c.in_ok-given.ensures.fed key);
    }
