-- The laws.
use Rattle.std.proofs.Common.{inl, inr, ◌∷◌, ◌++◌, refl, List, sym, subst, arith}
use Rattle.link_base.specs.declared.names.Key.{Key}
use Rattle.bearer_map.specs.declared.rows.BearerRow.{BearerRow}
use Rattle.pdcp_model.specs.HandUp.{handed_by}
use Rattle.pdcp_law.proofs.Holding.{holds_all, hand_up, each_is_heard}
use Rattle.pdcp_law.proofs.Reported.{reports_what_was_heard, tests_reports}
use Rattle.script_text.specs.History.{Entry}
use Rattle.node_model.specs.Tables.{first_count}
use Rattle.chain_model.specs.State.{Chain, receiving_at}
use Rattle.chain_model.specs.Carried.{IsRowOf}
use Rattle.chain_model.specs.Book.{IsBook}
use Rattle.chain_model.specs.Runs.{entries}
use Rattle.book_law.specs.Past.{IsPast}
use Rattle.book_law.specs.Laws.{EachRunIsPast, TablesStay, NodesStay, OfEachLine, OfEachRun, HasBothEnds, KeepsBook, TellsConfirmed, TellsHandUps, HandUpsAreTold, RunsTellHandUps, ConfirmationsHaveACause, HasWhatWasHeard, HearingKeepsCounts, ReportsTellCounts, HandsUpInOrder, HonestRunKeepsBook, HonestRunsKeepBook}
use Rattle.book_law.proofs.Tables.{tables_stay as passes_tables, has_each_node}
use Rattle.book_law.proofs.Having.{has_heard, heard_has}
use Rattle.book_law.proofs.Along.{Along, along, line_shifts}
use Rattle.book_law.proofs.Led.{led}

pub each_run_is_past : EachRunIsPast
each_run_is_past h stage c leads = (led h stage c leads).past

pub tables_stay : TablesStay
tables_stay h c past = passes_tables past.tables past.moments c past.passes

pub nodes_stay : NodesStay
nodes_stay h c past = has_each_node past.tables past.are_tables past.moments c past.passes

-- from each line to each run
pub of_runs : (Holds : List Entry → Chain → BearerRow → Key → Type 0) → OfEachLine Holds → OfEachRun Holds
of_runs Holds each h stage c leads row key its = each (entries h) c (each_run_is_past h stage c leads) row key its

module _ (h : List Entry) (c : Chain) (past : IsPast h c) (row : BearerRow) (key : Key) (its : IsRowOf c.tables key row) where
  its_row : IsRowOf past.tables key row
  its_row = subst (λ t. IsRowOf t key row) (tables_stay h c past) its

  at : Along past.tables past.are_tables key row its_row past.declared past.declare past.moments c
  at = along past.tables past.are_tables key row its_row past.declared past.declare past.moments c past.passes

  ends : HasBothEnds h c row key
  ends = (at.ends.sender, at.ends.receiver)

  keeps : KeepsBook h c row key
  keeps = subst (λ g. KeepsBook g c row key) (sym past.are) (at.keeps, at.answers)

  tells : TellsConfirmed h c row key
  tells = subst (λ g. TellsConfirmed g c row key) (sym past.are) (at.told, at.raises)

  hands_up : TellsHandUps past.moments h c row key
  hands_up = subst (λ g. TellsHandUps past.moments g c row key) (sym past.are) (record {
    hearings = at.hearings;
    each = at.each;
    heard = at.heard;
    hand_up = hand_up row.pdcp (first_count row key.way) at.hearings _ (receiving_at c key).receiver (holds_all row.pdcp (first_count row key.way) at.hearings _ (receiving_at c key).receiver at.heard);
    number = (holds_all row.pdcp (first_count row key.way) at.hearings _ (receiving_at c key).receiver at.heard).holds.handed;
  })

pub both_ends : OfEachLine HasBothEnds
both_ends = ends

pub keeps_book : OfEachLine KeepsBook
keeps_book = keeps

pub tells_confirmed : OfEachLine TellsConfirmed
tells_confirmed = tells

pub hand_ups_are_told : HandUpsAreTold
hand_ups_are_told = hands_up

pub runs_tell_hand_ups : RunsTellHandUps
runs_tell_hand_ups h stage c leads = (each_run_is_past h stage c leads, λ row key its. hands_up (entries h) c (each_run_is_past h stage c leads) row key its)

pub honest_run : HonestRunKeepsBook
honest_run h c past row key its honest =
    let a = at h c past row key its in
    let x = a.honestly honest in
    subst (λ g. IsBook row key g × HandsUpInOrder g key) (sym past.are)
    (x.book, record { in_order = x.up; few = x.few; confirmed_few = omega (arith, a.told, x.confirmed_few) })

pub honest_runs : HonestRunsKeepBook
honest_runs h stage c leads = (each_run_is_past h stage c leads, λ row key its honest. honest_run (entries h) c (each_run_is_past h stage c leads) row key its honest)

pub has_what_was_heard : HasWhatWasHeard
has_what_was_heard size first hs sdus r heard count from =
    let all = holds_all size first hs sdus r heard in
    (has_heard size first hs sdus r all count from, heard_has size first hs sdus r all count from)

pub causes : ConfirmationsHaveACause
causes h old past e new goes row key its n lt free =
    let own = its_row h old past row key its in
    let a = at h old past row key its in
    (line_shifts past.tables past.are_tables key row own past.declared past.declare past.moments old a e new goes).causes n lt free

pub hearing_keeps_counts : HearingKeepsCounts
hearing_keeps_counts size first hs sdus r heard h answer new hears count from (inl has) =
    let was = has_heard size first hs sdus r (holds_all size first hs sdus r heard) count from has in
    heard_has size first (h ∷ hs) (sdus ++ handed_by answer) new (holds_all size first (h ∷ hs) (sdus ++ handed_by answer) new (r, sdus, heard, answer, hears, refl)) count from (was.0, inl was.1)
hearing_keeps_counts size first hs sdus r heard h answer new hears count from (inr is) =
    heard_has size first (h ∷ hs) (sdus ++ handed_by answer) new (holds_all size first (h ∷ hs) (sdus ++ handed_by answer) new (r, sdus, heard, answer, hears, refl)) count from (each_is_heard size first hs sdus r heard h count is)

pub reports_tell_counts : ReportsTellCounts
reports_tell_counts size first hs sdus r heard fmc bits report count from =
    let all = holds_all size first hs sdus r heard in
    let says = reports_what_was_heard size first hs sdus r fmc bits heard report count from in
    let test = tests_reports fmc bits count in (
      λ passes. heard_has size first hs sdus r all count from (says.0 (test.0 passes)),
      λ has. test.1 (says.1 (has_heard size first hs sdus r all count from has)),
    )
