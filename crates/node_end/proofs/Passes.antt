-- An end feeds the bearers at some places, where there is nothing to give of the others.
use Rattle.std.proofs.Common.{◌≡◌, ◌⊎◌, inl, inr, ℕ, ◌+◌, ◌<◌, ◌≤◌, List, [], length, map, take, refl, arith}
use Rattle.std.specs.Prelude.{slice_index, Contains}
use Rattle.std.proofs.lemmas.Bool.{cases_lt}
use Rattle.link_base.specs.declared.names.Key.{Key}
use Rattle.bearer_map.specs.Contents.{Contents}
use Rattle.node_model.specs.State.{Node}
use Rattle.node_model.specs.Feeding.{FeedsReports, FeedsData, FeedsEach, in_key, out_key}
use Rattle.node_bearers.specs.Calls.{Sends, Receives}
use Rattle.node_end.specs.Feeding.{KeepsKeys, FeedsReportOf, IsToReport, StopsGiving, StopsFeeding}
use Rattle.node_end.specs.Fed.{ArePlaces, AreFedOutside, HasNoData, HasNoReport, IsKeyFed}
use Rattle.node_end.proofs.Feeds.{same_long, keeps_both, next_report, stops_at_report, next_data, stops_at_data}
use Rattle.node_end.proofs.Places.{IsUpTo, IsDone, begins, goes_up, between, beyond, done_before, one_place_more, at_report, at_data, no_report_now, no_data_still, no_data_now, no_reports_still, reports_up_to, all_reports_fed, data_up_to, all_data_fed, sends_before, receives_before, all_fed}

-- the reports at the places below an index are given
pub record ReportsFed (t : Contents) (init cur : Node) (places : List ℕ) (given : List Key) (index : ℕ) : Type 0 where
  pub bound : ℕ
  pub up : IsUpTo places index bound
  pub reports : FeedsReports t init (take bound (map in_key init.incoming)) given cur
  pub keys : KeepsKeys init cur
  pub no_reports : (i : ℕ) (key : Key) → IsDone places bound i → Receives init i key → HasNoReport t cur key
  pub no_data : (i : ℕ) (key : Key) → (Contains places i → ⊥) → Sends init i key → HasNoData t cur key

-- the data PDUs at the places below an index are given
pub record DataFed (t : Contents) (init cur : Node) (places : List ℕ) (index : ℕ) : Type 0 where
  pub bound : ℕ
  pub up : IsUpTo places index bound
  pub data_pdus : FeedsEach t init (take bound (map out_key init.outgoing)) cur
  pub keys : KeepsKeys init cur
  pub no_data : (i : ℕ) (key : Key) → IsDone places bound i → Sends init i key → HasNoData t cur key
  pub no_reports : (i : ℕ) (key : Key) → Receives init i key → HasNoReport t cur key

same_keys : (n : Node) → KeepsKeys n n
same_keys n = record { name = refl; attached = refl; sent = refl; received = refl }

module _ (t : Contents) (places : List ℕ) where
  outside : (i : ℕ) → IsDone places 0 i → Contains places i → ⊥
  outside i (inl lt) is = omega (arith, lt)
  outside i (inr not_so) is = not_so is

  pub reports_begin : (n : Node) → AreFedOutside t n places → ReportsFed t n n places [] 0
  reports_begin n fed = record {
    bound = 0;
    up = begins places;
    reports = (refl, refl);
    keys = same_keys n;
    no_reports = λ i key done is. fed.reports i key (outside i done) is;
    no_data = fed.data_pdus;
  }

  module _ (init : Node) (are : ArePlaces init places) (index : ℕ) where
    module _ (cur : Node) (given : List Key) (so_far : ReportsFed t init cur places given index) where
      module _ (within : index < length places) where
        lt_in : slice_index places index < length init.incoming
        lt_in = are.receives index within

        up_to : FeedsReports t init (take (slice_index places index) (map in_key init.incoming)) given cur
        up_to = reports_up_to t init cur so_far.keys so_far.bound given (slice_index places index) (so_far.up.above index (omega arith) within)
            (λ i key from lt is. so_far.no_reports i key (inr (between places are.ascend index so_far.bound so_far.up within i from lt)) is) so_far.reports

        pub reports_step : (after : List Key) (new : Node) → ((key : Key) → Receives cur (slice_index places index) key → FeedsReportOf t cur key given after new) → KeepsKeys cur new
            → ReportsFed t init new places after (index + 1)
        reports_step after new step keeps =
            let place = slice_index places index in
            let its = at_report t init cur new place so_far.keys lt_in given after step in
            record {
              bound = place + 1;
              up = goes_up places are.ascend index so_far.bound so_far.up within;
              reports = next_report t init cur place lt_in given up_to so_far.keys after new step;
              keys = keeps_both init cur new so_far.keys keeps;
              no_reports = one_place_more {P = HasNoReport t cur} {Q = HasNoReport t new} (map in_key init.incoming) places index so_far.bound its.0 its.1
                  (done_before places are.ascend index so_far.bound so_far.up within) (no_report_now t init cur new place so_far.keys lt_in given after step) so_far.no_reports;
              no_data = λ i key apart is. no_data_still t init cur new place so_far.keys lt_in given after step key (so_far.no_data i key apart is);
            }

        pub reports_stop : (new : Node) → new ≡ cur → ((key : Key) → Receives cur (slice_index places index) key → IsToReport t cur key) → StopsFeeding t init new
        reports_stop new same to = stops_at_report t init cur (slice_index places index) lt_in given up_to so_far.keys new same to

      module _ (past : length places ≤ index) where
        none_left : (i : ℕ) (key : Key) → so_far.bound ≤ i → Receives init i key → HasNoReport t cur key
        none_left i key from is = so_far.no_reports i key (inr (beyond places are.ascend index so_far.bound so_far.up past i from)) is

        pub reports_all : FeedsReports t init (map in_key init.incoming) given cur
        reports_all = all_reports_fed t init cur so_far.keys so_far.bound given none_left so_far.reports

        no_report : (i : ℕ) (key : Key) → Receives init i key → HasNoReport t cur key
        no_report i key is = by (cases_lt i so_far.bound)
          where
            by : (i < so_far.bound) ⊎ (so_far.bound ≤ i) → HasNoReport t cur key
            by (inl lt) = so_far.no_reports i key (inl lt) is
            by (inr from) = none_left i key from is

        pub data_begin : DataFed t cur cur places 0
        data_begin = record {
          bound = 0;
          up = begins places;
          data_pdus = refl;
          keys = same_keys cur;
          no_data = λ i key done is. so_far.no_data i key (outside i done) (sends_before init cur i key so_far.keys is);
          no_reports = λ i key is. no_report i key (receives_before init cur i key so_far.keys is);
        }

    module _ (cur : Node) (so_far : DataFed t init cur places index) where
      module _ (within : index < length places) where
        lt_out : slice_index places index < length init.outgoing
        lt_out = are.sends index within

        up_to_data : FeedsEach t init (take (slice_index places index) (map out_key init.outgoing)) cur
        up_to_data = data_up_to t init cur so_far.keys so_far.bound (slice_index places index) (so_far.up.above index (omega arith) within)
            (λ i key from lt is. so_far.no_data i key (inr (between places are.ascend index so_far.bound so_far.up within i from lt)) is) so_far.data_pdus

        pub data_step : (new : Node) → ((key : Key) → Sends cur (slice_index places index) key → FeedsData t key cur new) → KeepsKeys cur new → DataFed t init new places (index + 1)
        data_step new step keeps =
            let place = slice_index places index in
            let its = at_data t init cur new place so_far.keys lt_out step in
            record {
              bound = place + 1;
              up = goes_up places are.ascend index so_far.bound so_far.up within;
              data_pdus = next_data t init cur place lt_out up_to_data so_far.keys new step;
              keys = keeps_both init cur new so_far.keys keeps;
              no_data = one_place_more {P = HasNoData t cur} {Q = HasNoData t new} (map out_key init.outgoing) places index so_far.bound its.0 its.1
                  (done_before places are.ascend index so_far.bound so_far.up within) (no_data_now t init cur new place so_far.keys lt_out step) so_far.no_data;
              no_reports = λ i key is. no_reports_still t init cur new place so_far.keys lt_out step key (so_far.no_reports i key is);
            }

        pub data_stop : (old new : Node) (given : List Key) → FeedsReports t old (map in_key old.incoming) given init → ((key : Key) → Sends cur (slice_index places index) key → StopsGiving t key cur new) → StopsFeeding t old new
        data_stop old new given reports stops = stops_at_data t init cur (slice_index places index) lt_out up_to_data so_far.keys old new given reports stops

      module _ (past : length places ≤ index) where
        no_more : (i : ℕ) (key : Key) → so_far.bound ≤ i → Sends init i key → HasNoData t cur key
        no_more i key from is = so_far.no_data i key (inr (beyond places are.ascend index so_far.bound so_far.up past i from)) is

        pub data_all : FeedsEach t init (map out_key init.outgoing) cur
        data_all = all_data_fed t init cur so_far.keys so_far.bound no_more so_far.data_pdus

        pub keys_fed : (key : Key) → IsKeyFed t cur key
        keys_fed = all_fed t cur (λ i key is. by i key (sends_before init cur i key so_far.keys is) (cases_lt i so_far.bound))
            (λ i key is. so_far.no_reports i key (receives_before init cur i key so_far.keys is))
          where
            by : (i : ℕ) (key : Key) → Sends init i key → (i < so_far.bound) ⊎ (so_far.bound ≤ i) → HasNoData t cur key
            by i key is (inl lt) = so_far.no_data i key (inl lt) is
            by i key is (inr from) = no_more i key from is

-- places stay such of a node with the same keys
pub places_still : (old new : Node) (places : List ℕ) → KeepsKeys old new → ArePlaces old places → ArePlaces new places
places_still old new places keys are =
    let long = same_long old new keys in
    record {
      ascend = are.ascend;
      sends = λ i lt. let w = are.sends i lt in omega (arith, w, long.0);
      receives = λ i lt. let w = are.receives i lt in omega (arith, w, long.1);
    }
