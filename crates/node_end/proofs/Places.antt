-- Places that feeding passes over, as there is nothing to give of their bearers.
use Rattle.std.proofs.Common.{◌≡◌, ◌⊎◌, inl, inr, ℕ, zero, suc, ◌+◌, ◌<◌, ◌≤◌, ◌-◌, List, [], ◌∷◌, length, get_or, map, take, Option, Some, None, refl, sym, ◌∙◌, ap, subst, arith}
use Rattle.std.specs.Prelude.{find, slice_get, slice_index, unwrap_or, Contains}
use Rattle.std.proofs.lemmas.Bool.{cases_Bool, cases_lt}
use Rattle.std.proofs.lemmas.List.{append-nil, get_or_default, length-map, take_all}
use Rattle.link_base.specs.declared.names.Key.{Key}
use Rattle.bearer_map.specs.Contents.{Contents}
use Rattle.pdcp_model.specs.Sender.{has_next}
use Rattle.node_model.specs.Names.{is_key}
use Rattle.node_model.specs.State.{Node, Outgoing, Incoming, no_outgoing, no_incoming}
use Rattle.node_model.specs.Feeding.{FeedsReports, FeedsData, FeedsEach, wants_report, in_key, out_key}
use Rattle.node_model.specs.Feeding.FeedsData.{rests}
use Rattle.node_model.proofs.Names.{key_is}
use Rattle.node_bearers.specs.Calls.{Sends, Receives}
use Rattle.node_end.specs.Feeding.{KeepsKeys, FeedsReportOf}
use Rattle.node_end.specs.Fed.{HasNoData, HasNoReport, IsKeyFed}
use Rattle.node_end.proofs.Feeds.{key_at, one_key, all_reports, all_data, next_report, next_data, sends_still, receives_still}
use Rattle.node_end.proofs.Fed.{KeepsFed, none_wanted, rests_data, rests_report, report_fed, report_data, data_keeps}

-- an end of a key that a node has stands at a place
end_place : {Row : Type 0} (key_in : Row → Key) (key : Key) (rows : List Row) → ((place : ℕ) × (slice_get (map key_in rows) place ≡ Some key)) ⊎ (find (λ x. is_key key (key_in x)) rows ≡ None)
end_place key_in key [] = inr refl
end_place key_in key (x ∷ rows) = elim (cases_Bool (is_key key (key_in x))) [
  | inl here ↦ inl (0, ap (λ (k : Key). Some k) (sym (key_is key (key_in x) here)))
  | inr other ↦ elim (end_place key_in key rows) [
    | inl there ↦ inl (suc there.0, there.1)
    | inr missing ↦ inr (rw other missing)
  ]
]

-- where there is nothing to give at any place, there is nothing to give of any key
pub all_fed : (t : Contents) (n : Node) → ((place : ℕ) (key : Key) → Sends n place key → HasNoData t n key) → ((place : ℕ) (key : Key) → Receives n place key → HasNoReport t n key) → (key : Key) → IsKeyFed t n key
all_fed t n data_pdus reports key = record {
  data_pdus = elim (end_place out_key key n.outgoing) [
    | inl there ↦ data_pdus there.0 key there.1
    | inr missing ↦ inl (ap (λ (o : Option Outgoing). has_next (unwrap_or o (no_outgoing key)).sender) missing)
  ];
  report = elim (end_place in_key key n.incoming) [
    | inl there ↦ reports there.0 key there.1
    | inr missing ↦ inl (ap (λ (i : Option Incoming). wants_report t n (unwrap_or i (no_incoming key))) missing ∙ none_wanted t n key)
  ];
}

-- the key at a place stood there before
pub sends_before : (init cur : Node) (place : ℕ) (key : Key) → KeepsKeys init cur → Sends cur place key → Sends init place key
sends_before init cur place key keys is = ap (λ (ks : List Key). slice_get ks place) (sym keys.sent) ∙ is

pub receives_before : (init cur : Node) (place : ℕ) (key : Key) → KeepsKeys init cur → Receives cur place key → Receives init place key
receives_before init cur place key keys is = ap (λ (ks : List Key). slice_get ks place) (sym keys.received) ∙ is

-- there is no more to take
take_more : (ks : List Key) (place : ℕ) → length ks ≤ place → take (place + 1) ks ≡ take place ks
take_more ks place le = take_all (place + 1) ks (omega (arith, le)) ∙ sym (take_all place ks le)

-- reports at places from one on, of which none is to be given
pub reports_pass : (t : Contents) (old cur : Node) → KeepsKeys old cur → (given : List Key) (place more : ℕ) → ((i : ℕ) (key : Key) → place ≤ i → i < place + more → Receives old i key → HasNoReport t cur key)
    → FeedsReports t old (take place (map in_key old.incoming)) given cur → FeedsReports t old (take (place + more) (map in_key old.incoming)) given cur
reports_pass t old cur keys given place zero none fed = let same : place + 0 ≡ place = omega arith in rw same fed
reports_pass t old cur keys given place (suc more) none fed =
    let before = reports_pass t old cur keys given place more (λ i key le lt is. none i key le (omega (arith, lt)) is) fed in
    let one : place + suc more ≡ (place + more) + 1 = omega arith in
    rw one (elim (cases_lt (place + more) (length old.incoming)) [
      | inl lt ↦ next_report t old cur (place + more) lt given before keys given cur (λ key is.
          ([], rests_report t cur key (none (place + more) key (omega arith) (omega arith) (receives_before old cur (place + more) key keys is)), sym (append-nil given)))
      | inr le ↦ rw (take_more (map in_key old.incoming) (place + more) (omega (arith, le, length-map old.incoming in_key))) before
    ])

-- data PDUs likewise
pub data_pass : (t : Contents) (mid cur : Node) → KeepsKeys mid cur → (place more : ℕ) → ((i : ℕ) (key : Key) → place ≤ i → i < place + more → Sends mid i key → HasNoData t cur key)
    → FeedsEach t mid (take place (map out_key mid.outgoing)) cur → FeedsEach t mid (take (place + more) (map out_key mid.outgoing)) cur
data_pass t mid cur keys place zero none fed = let same : place + 0 ≡ place = omega arith in rw same fed
data_pass t mid cur keys place (suc more) none fed =
    let before = data_pass t mid cur keys place more (λ i key le lt is. none i key le (omega (arith, lt)) is) fed in
    let one : place + suc more ≡ (place + more) + 1 = omega arith in
    rw one (elim (cases_lt (place + more) (length mid.outgoing)) [
      | inl lt ↦ next_data t mid cur (place + more) lt before keys cur (λ key is. rests (rests_data t cur key (none (place + more) key (omega arith) (omega arith) (sends_before mid cur (place + more) key keys is))))
      | inr le ↦ rw (take_more (map out_key mid.outgoing) (place + more) (omega (arith, le, length-map mid.outgoing out_key))) before
    ])

-- places of a list up to which, at an index, all has been fed: those below a bound are below it, and the others aren't
pub record IsUpTo (places : List ℕ) (index bound : ℕ) : Type 0 where
  pub below : (i : ℕ) → i < index → i < length places → slice_index places i < bound
  pub above : (i : ℕ) → index ≤ i → i < length places → bound ≤ slice_index places i

-- a place is fed: it is below the bound, or isn't of the list
abbrev pub IsDone : List ℕ → ℕ → ℕ → Type 0
IsDone places bound place = (place < bound) ⊎ (Contains places place → ⊥)

module _ (places : List ℕ) where
  pub begins : IsUpTo places 0 0
  begins = record { below = λ i lt within. absurd (omega (arith, lt)); above = λ i le within. omega arith }

  module _ (ascend : (low high : ℕ) → low < high → high < length places → slice_index places low < slice_index places high) (index bound : ℕ) (up : IsUpTo places index bound) where
    pub goes_up : index < length places → IsUpTo places (index + 1) (slice_index places index + 1)
    goes_up within = record {
      below = λ i lt inside. elim (cases_lt i index) [
        | inl low ↦ let less = ascend i index low within in omega (arith, less)
        | inr high ↦
            let same : i ≡ index = omega (arith, lt, high) in
            subst (λ (j : ℕ). slice_index places j < slice_index places index + 1) (sym same) (omega arith)
      ];
      above = λ i le inside. let less = ascend index i (omega (arith, le)) inside in omega (arith, less);
    }

    -- the places from the bound to the next one of the list aren't of the list
    pub between : index < length places → (place : ℕ) → bound ≤ place → place < slice_index places index → Contains places place → ⊥
    between within place from lt (i, inside, is) = elim (cases_lt i index) [
      | inl low ↦ let below = up.below i low inside in let same = here i inside place is in omega (arith, below, same, from)
      | inr high ↦ elim (cases_lt index i) [
        | inl more ↦ let less = ascend index i more inside in let same = here i inside place is in omega (arith, less, same, lt)
        | inr equal ↦
            let this : i ≡ index = omega (arith, high, equal) in
            let same = here i inside place is in
            let at : slice_index places i ≡ slice_index places index = ap (slice_index places) this in
            omega (arith, same, at, lt)
      ]
    ]
      where
        here : (i : ℕ) → i < length places → (place : ℕ) → get_or places i place ≡ place → slice_index places i ≡ place
        here i inside place is = sym (get_or_default places i place 0 inside) ∙ is

    -- behind the last one none is of the list
    pub beyond : length places ≤ index → (place : ℕ) → bound ≤ place → Contains places place → ⊥
    beyond past place from (i, inside, is) =
        let below = up.below i (omega (arith, past, inside)) inside in
        let same : slice_index places i ≡ place = sym (get_or_default places i place 0 inside) ∙ is in
        omega (arith, below, same, from)

    -- a place that is fed then was before, or is the next one of the list
    pub done_before : index < length places → (place : ℕ) → IsDone places (slice_index places index + 1) place → (IsDone places bound place) ⊎ (place ≡ slice_index places index)
    done_before within place (inr outside) = inl (inr outside)
    done_before within place (inl lt) = elim (cases_lt place bound) [
      | inl below ↦ inl (inl below)
      | inr from ↦ elim (cases_lt place (slice_index places index)) [
        | inl less ↦ inl (inr (between within place from less))
        | inr above ↦ inr (omega (arith, lt, above))
      ]
    ]

-- one more place of the list
module _ {P Q : Key → Type 0} (ks : List Key) (places : List ℕ) (index bound : ℕ) (at : Key) (here : slice_get ks (slice_index places index) ≡ Some at)
    (before : (place : ℕ) → IsDone places (slice_index places index + 1) place → (IsDone places bound place) ⊎ (place ≡ slice_index places index)) where
  pub one_place_more : ((key : Key) → P key ⊎ (at ≡ key) → Q key) → ((i : ℕ) (key : Key) → IsDone places bound i → slice_get ks i ≡ Some key → P key)
      → (i : ℕ) (key : Key) → IsDone places (slice_index places index + 1) i → slice_get ks i ≡ Some key → Q key
  one_place_more goes was i key done is = elim (before i done) [
    | inl already ↦ goes key (inl (was i key already is))
    | inr same ↦ goes key (inr (one_key ks (slice_index places index) at key here (subst (λ (j : ℕ). slice_get ks j ≡ Some key) same is)))
  ]

-- behind a report, and behind data PDUs
module _ (t : Contents) (init cur new : Node) (place : ℕ) (keys : KeepsKeys init cur) where
  module _ (lt : place < length init.incoming) (given after : List Key) (step : (key : Key) → Receives cur place key → FeedsReportOf t cur key given after new) where
    pub at_report : (key : Key) × (slice_get (map in_key init.incoming) place ≡ Some key)
    at_report = key_at (map in_key init.incoming) place (omega (arith, lt, length-map init.incoming in_key))

    it : FeedsReportOf t cur at_report.0 given after new
    it = step at_report.0 (receives_still init cur place at_report.0 keys at_report.1)

    pub no_report_now : (key : Key) → HasNoReport t cur key ⊎ (at_report.0 ≡ key) → HasNoReport t new key
    no_report_now = report_fed t cur at_report.0 it.0 new it.1

    pub no_data_still : (key : Key) → HasNoData t cur key → HasNoData t new key
    no_data_still = report_data t cur at_report.0 it.0 new it.1

  module _ (lt : place < length init.outgoing) (step : (key : Key) → Sends cur place key → FeedsData t key cur new) where
    pub at_data : (key : Key) × (slice_get (map out_key init.outgoing) place ≡ Some key)
    at_data = key_at (map out_key init.outgoing) place (omega (arith, lt, length-map init.outgoing out_key))

    behind : (KeepsFed t cur new) × HasNoData t new at_data.0
    behind = data_keeps t at_data.0 cur new (step at_data.0 (sends_still init cur place at_data.0 keys at_data.1))

    pub no_data_now : (key : Key) → HasNoData t cur key ⊎ (at_data.0 ≡ key) → HasNoData t new key
    no_data_now key (inl is) = behind.0.data_pdus key is
    no_data_now key (inr here) = subst (λ (k : Key). HasNoData t new k) here behind.1

    pub no_reports_still : (key : Key) → HasNoReport t cur key → HasNoReport t new key
    no_reports_still = behind.0.reports

-- from the bound up to a place of which nothing is to be given, and up to all
module _ (t : Contents) (init cur : Node) (keys : KeepsKeys init cur) (bound : ℕ) where
  pub reports_up_to : (given : List Key) (place : ℕ) → bound ≤ place → ((i : ℕ) (key : Key) → bound ≤ i → i < place → Receives init i key → HasNoReport t cur key)
      → FeedsReports t init (take bound (map in_key init.incoming)) given cur → FeedsReports t init (take place (map in_key init.incoming)) given cur
  reports_up_to given place le none fed =
      let there : bound + (place - bound) ≡ place = omega (arith, le) in
      subst (λ (m : ℕ). FeedsReports t init (take m (map in_key init.incoming)) given cur) there
      (reports_pass t init cur keys given bound (place - bound) (λ i key from lt is. none i key from (omega (arith, lt, le)) is) fed)

  pub all_reports_fed : (given : List Key) → ((i : ℕ) (key : Key) → bound ≤ i → Receives init i key → HasNoReport t cur key)
      → FeedsReports t init (take bound (map in_key init.incoming)) given cur → FeedsReports t init (map in_key init.incoming) given cur
  all_reports_fed given none fed =
      all_reports t init cur (bound + length init.incoming) given (omega arith) (reports_pass t init cur keys given bound (length init.incoming) (λ i key from lt is. none i key from is) fed)

  pub data_up_to : (place : ℕ) → bound ≤ place → ((i : ℕ) (key : Key) → bound ≤ i → i < place → Sends init i key → HasNoData t cur key)
      → FeedsEach t init (take bound (map out_key init.outgoing)) cur → FeedsEach t init (take place (map out_key init.outgoing)) cur
  data_up_to place le none fed =
      let there : bound + (place - bound) ≡ place = omega (arith, le) in
      subst (λ (m : ℕ). FeedsEach t init (take m (map out_key init.outgoing)) cur) there
      (data_pass t init cur keys bound (place - bound) (λ i key from lt is. none i key from (omega (arith, lt, le)) is) fed)

  pub all_data_fed : ((i : ℕ) (key : Key) → bound ≤ i → Sends init i key → HasNoData t cur key)
      → FeedsEach t init (take bound (map out_key init.outgoing)) cur → FeedsEach t init (map out_key init.outgoing) cur
  all_data_fed none fed =
      all_data t init cur (bound + length init.outgoing) (omega arith) (data_pass t init cur keys bound (length init.outgoing) (λ i key from lt is. none i key from is) fed)
