use Rattle.std.proofs.Common.{List, refl, sym, ◌∙◌, subst, arith}
use Rattle.std.specs.Prelude.{slice_index}
use Rattle.std.proofs.lemmas.Result.{err_from_is_err_and}
use Rattle.link_base.specs.declared.names.Key.{Key}
use Rattle.bearer_map.specs.Contents.{Contents}
use Rattle.node_model.specs.Feeding.{FeedsData}
use Rattle.node_bearers.specs.Calls.{Sends, Receives}
use Rattle.node_end.specs.Feeding.{FeedsReportOf, IsToReport, StopsGiving, StopsFeeding}
use Rattle.node_end.specs.Fed.{IsKeyFed}
use Rattle.node_end.specs.Node.{node_of}
use Rattle.node_end.specs.Ports.{IsEnd}
use Rattle.node_end.proofs.Rooms.{numbers_left}
use Rattle.node_end.proofs.Feeds.{keeps_both}
use Rattle.node_end.proofs.Passes.{ReportsFed, places_still, reports_begin, reports_step, reports_stop, reports_all, data_begin, data_step, data_stop, data_all, keys_fed}
use Rattle.node_end.proofs.node.EndNode.feed_places.Goals as goal

pub loop-place-init : goal.loop-place-init
loop-place-init c =
    let e = c.args.self.now in
    record {
      fed = subst (λ (given : List Key). ReportsFed e.tables (node_of e) (node_of e) c.args.places.now given 0) (sym c.new-given.ensures) (reports_begin e.tables c.args.places.now (node_of e) c.requires.others);
      numbers = numbers_left (node_of e) c.requires.numbers;
      is_end = c.requires.end;
      same = record { tables = refl; ids = refl; remote = refl };
    }

pub feed_report-requires-clause-end : goal.feed_report-requires-clause-end
feed_report-requires-clause-end c = subst (λ (t : Contents). IsEnd t (node_of c.loop-place.self)) (sym c.loop-place.invariant.same.tables) c.loop-place.invariant.is_end

pub feed_report-requires-clause-place : goal.feed_report-requires-clause-place
feed_report-requires-clause-place c =
    (places_still (node_of c.args.self.now) (node_of c.loop-place.self) c.args.places.now c.loop-place.invariant.fed.keys c.requires.places).receives c.loop-place.place-index c.loop-place-test.true

pub feed_report-requires-clause-sends : goal.feed_report-requires-clause-sends
feed_report-requires-clause-sends c =
    (places_still (node_of c.args.self.now) (node_of c.loop-place.self) c.args.places.now c.loop-place.invariant.fed.keys c.requires.places).sends c.loop-place.place-index c.loop-place-test.true

pub feed_report-requires-clause-numbers : goal.feed_report-requires-clause-numbers
feed_report-requires-clause-numbers c = c.loop-place.invariant.numbers

pub returns-in_err-feed_report-clause-err : goal.returns-in_err-feed_report-clause-err
returns-in_err-feed_report-clause-err c =
    let e = c.args.self.now in
    let loop = c.loop-place.self in
    let inv = c.loop-place.invariant in
    let p = err_from_is_err_and c.from_residual.result c.from_residual.ensures.1 in
    let to = subst (λ (t : Contents). (key : Key) → Receives (node_of loop) (slice_index c.args.places.now c.loop-place.place-index) key → IsToReport t (node_of loop) key) inv.same.tables c.in_err-feed_report.ensures.memory in
    rw (p.1, c.in_err-feed_report.ensures.err)
    (reports_stop e.tables c.args.places.now (node_of e) c.requires.places c.loop-place.place-index (node_of loop) c.loop-place.given inv.fed c.loop-place-test.true (node_of loop) refl to)

pub returns-in_err-feed_report-clause-same : goal.returns-in_err-feed_report-clause-same
returns-in_err-feed_report-clause-same c =
    let inv = c.loop-place.invariant.same in
    let step = c.feed_report.ensures.same in
    record { tables = step.tables ∙ inv.tables; ids = step.ids ∙ inv.ids; remote = step.remote ∙ inv.remote }

pub returns-in_err-feed_report-clause-keys : goal.returns-in_err-feed_report-clause-keys
returns-in_err-feed_report-clause-keys c = keeps_both (node_of c.args.self.now) (node_of c.loop-place.self) (node_of c.feed_report.new.self) c.loop-place.invariant.fed.keys c.feed_report.ensures.keys

pub returns-in_err-feed_report-clause-end : goal.returns-in_err-feed_report-clause-end
returns-in_err-feed_report-clause-end c = subst (λ (t : Contents). IsEnd t (node_of c.feed_report.new.self)) c.loop-place.invariant.same.tables c.feed_report.ensures.end

pub loop-place-preserved : goal.loop-place-preserved
loop-place-preserved c =
    let e = c.args.self.now in
    let loop = c.loop-place.self in
    let inv = c.loop-place.invariant in
    let new = c.feed_report.new.self in
    let step = subst (λ (t : Contents). (key : Key) → Receives (node_of loop) (slice_index c.args.places.now c.loop-place.place-index) key → FeedsReportOf t (node_of loop) key c.loop-place.given c.feed_report.new.given (node_of new))
    inv.same.tables c.in_ok-feed_report.ensures.ok in
    record {
      fed = reports_step e.tables c.args.places.now (node_of e) c.requires.places c.loop-place.place-index (node_of loop) c.loop-place.given inv.fed c.loop-place-test.true c.feed_report.new.given (node_of new) step c.feed_report.ensures.keys;
      numbers = c.feed_report.ensures.numbers;
      is_end = subst (λ (t : Contents). IsEnd t (node_of new)) inv.same.tables c.feed_report.ensures.end;
      same = record { tables = c.feed_report.ensures.same.tables ∙ inv.same.tables; ids = c.feed_report.ensures.same.ids ∙ inv.same.ids; remote = c.feed_report.ensures.same.remote ∙ inv.same.remote };
    }

pub loop-place-2-init : goal.loop-place-2-init
loop-place-2-init c =
    let e = c.args.self.now in
    let mid = c.loop-place.self in
    let inv = c.loop-place.invariant in
    rw inv.same.tables (record {
      fed = data_begin e.tables c.args.places.now (node_of e) c.requires.places c.loop-place.place-index (node_of mid) c.loop-place.given inv.fed (omega (arith, c.loop-place-test.false));
      numbers = inv.numbers;
      is_end = inv.is_end;
      same = record { tables = refl; ids = refl; remote = refl };
    })

pub feed_data-requires-clause-end : goal.feed_data-requires-clause-end
feed_data-requires-clause-end c = subst (λ (t : Contents). IsEnd t (node_of c.loop-place-2.self)) (sym c.loop-place-2.invariant.same.tables) c.loop-place-2.invariant.is_end

pub feed_data-requires-clause-place : goal.feed_data-requires-clause-place
feed_data-requires-clause-place c =
    let mid = node_of c.loop-place.self in
    (places_still mid (node_of c.loop-place-2.self) c.args.places.now c.loop-place-2.invariant.fed.keys
    (places_still (node_of c.args.self.now) mid c.args.places.now c.loop-place.invariant.fed.keys c.requires.places)).sends c.loop-place-2.place-index c.loop-place-2-test.true

pub feed_data-requires-clause-numbers : goal.feed_data-requires-clause-numbers
feed_data-requires-clause-numbers c = c.loop-place-2.invariant.numbers

pub returns-in_err-feed_data-clause-err : goal.returns-in_err-feed_data-clause-err
returns-in_err-feed_data-clause-err c =
    let e = c.args.self.now in
    let mid = c.loop-place.self in
    let first = c.loop-place.invariant in
    let loop = c.loop-place-2.self in
    let inv = c.loop-place-2.invariant in
    let new = c.feed_data.new.self in
    let p = err_from_is_err_and c.from_residual-in_err-feed_data.result c.from_residual-in_err-feed_data.ensures.1 in
    let are = places_still (node_of e) (node_of mid) c.args.places.now first.fed.keys c.requires.places in
    let reports = reports_all e.tables c.args.places.now (node_of e) c.requires.places c.loop-place.place-index (node_of mid) c.loop-place.given first.fed (omega (arith, c.loop-place-test.false)) in
    let stops = subst (λ (t : Contents). (key : Key) → Sends (node_of loop) (slice_index c.args.places.now c.loop-place-2.place-index) key → StopsGiving t key (node_of loop) (node_of new)) inv.same.tables c.in_err-feed_data.ensures.err in
    rw p.1 (subst (λ (t : Contents). StopsFeeding t (node_of e) (node_of new)) first.same.tables
    (data_stop mid.tables c.args.places.now (node_of mid) are c.loop-place-2.place-index (node_of loop) inv.fed c.loop-place-2-test.true (node_of e) (node_of new) c.loop-place.given (rw first.same.tables reports) stops))

pub returns-in_err-feed_data-clause-same : goal.returns-in_err-feed_data-clause-same
returns-in_err-feed_data-clause-same c =
    let first = c.loop-place.invariant.same in
    let inv = c.loop-place-2.invariant.same in
    let step = c.feed_data.ensures.same in
    record { tables = step.tables ∙ inv.tables ∙ first.tables; ids = step.ids ∙ inv.ids ∙ first.ids; remote = step.remote ∙ inv.remote ∙ first.remote }

pub returns-in_err-feed_data-clause-keys : goal.returns-in_err-feed_data-clause-keys
returns-in_err-feed_data-clause-keys c =
    keeps_both (node_of c.args.self.now) (node_of c.loop-place.self) (node_of c.feed_data.new.self) c.loop-place.invariant.fed.keys
    (keeps_both (node_of c.loop-place.self) (node_of c.loop-place-2.self) (node_of c.feed_data.new.self) c.loop-place-2.invariant.fed.keys c.feed_data.ensures.keys)

pub returns-in_err-feed_data-clause-end : goal.returns-in_err-feed_data-clause-end
returns-in_err-feed_data-clause-end c =
    subst (λ (t : Contents). IsEnd t (node_of c.feed_data.new.self)) (c.loop-place-2.invariant.same.tables ∙ c.loop-place.invariant.same.tables) c.feed_data.ensures.end

pub loop-place-2-preserved : goal.loop-place-2-preserved
loop-place-2-preserved c =
    let e = c.args.self.now in
    let mid = c.loop-place.self in
    let loop = c.loop-place-2.self in
    let inv = c.loop-place-2.invariant in
    let new = c.feed_data.new.self in
    let are = places_still (node_of e) (node_of mid) c.args.places.now c.loop-place.invariant.fed.keys c.requires.places in
    let step = subst (λ (t : Contents). (key : Key) → Sends (node_of loop) (slice_index c.args.places.now c.loop-place-2.place-index) key → FeedsData t key (node_of loop) (node_of new)) inv.same.tables c.in_ok-feed_data.ensures.ok in
    record {
      fed = data_step mid.tables c.args.places.now (node_of mid) are c.loop-place-2.place-index (node_of loop) inv.fed c.loop-place-2-test.true (node_of new) step c.feed_data.ensures.keys;
      numbers = c.feed_data.ensures.numbers;
      is_end = subst (λ (t : Contents). IsEnd t (node_of new)) inv.same.tables c.feed_data.ensures.end;
      same = record { tables = c.feed_data.ensures.same.tables ∙ inv.same.tables; ids = c.feed_data.ensures.same.ids ∙ inv.same.ids; remote = c.feed_data.ensures.same.remote ∙ inv.same.remote };
    }

pub returns-clause-ok : goal.returns-clause-ok
returns-clause-ok c =
    let e = c.args.self.now in
    let mid = c.loop-place.self in
    let first = c.loop-place.invariant in
    let loop = c.loop-place-2.self in
    let are = places_still (node_of e) (node_of mid) c.args.places.now first.fed.keys c.requires.places in
    record {
      mid = node_of mid;
      reports = reports_all e.tables c.args.places.now (node_of e) c.requires.places c.loop-place.place-index (node_of mid) c.loop-place.given first.fed (omega (arith, c.loop-place-test.false));
      data_pdus = rw (← first.same.tables) (data_all mid.tables c.args.places.now (node_of mid) are c.loop-place-2.place-index (node_of loop) c.loop-place-2.invariant.fed (omega (arith, c.loop-place-2-test.false)));
    }

pub returns-clause-fed : goal.returns-clause-fed
returns-clause-fed c = λ key.
    let e = c.args.self.now in
    let mid = c.loop-place.self in
    let first = c.loop-place.invariant in
    let loop = c.loop-place-2.self in
    let are = places_still (node_of e) (node_of mid) c.args.places.now first.fed.keys c.requires.places in
    subst (λ (t : Contents). IsKeyFed t (node_of loop) key) first.same.tables
    (keys_fed mid.tables c.args.places.now (node_of mid) are c.loop-place-2.place-index (node_of loop) c.loop-place-2.invariant.fed (omega (arith, c.loop-place-2-test.false)) key)

pub returns-clause-same : goal.returns-clause-same
returns-clause-same c =
    let first = c.loop-place.invariant.same in
    let inv = c.loop-place-2.invariant.same in
    record { tables = inv.tables ∙ first.tables; ids = inv.ids ∙ first.ids; remote = inv.remote ∙ first.remote }

pub returns-clause-keys : goal.returns-clause-keys
returns-clause-keys c = keeps_both (node_of c.args.self.now) (node_of c.loop-place.self) (node_of c.loop-place-2.self) c.loop-place.invariant.fed.keys c.loop-place-2.invariant.fed.keys

pub returns-clause-end : goal.returns-clause-end
returns-clause-end c = subst (λ (t : Contents). IsEnd t (node_of c.loop-place-2.self)) c.loop-place.invariant.same.tables c.loop-place-2.invariant.is_end
