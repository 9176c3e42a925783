-- What arrives at an end of its key: a data PDU at the receiver, a status report at the sender.
use Rattle.std.proofs.Common.{◌≡◌, inl, inr, ℕ, zero, suc, ◌+◌, ◌-◌, ◌%◌, ◌<◌, ◌≤◌, true, false, List, [], ◌∷◌, ◌++◌, length, get_or, Option, Some, None, is_some, refl, sym, ◌∙◌, ap, subst, arith}
use Rattle.std.specs.Option.{unwrap_or}
use Rattle.std.proofs.lemmas.Bool.{cases_lt}
use Rattle.std.proofs.lemmas.List.{length_push, get_or_append_left}
use Rattle.std.proofs.lemmas.Option.{same_Some}
use Rattle.link_base.specs.declared.limits.TheConstants.{COUNT_END}
use Rattle.link_base.specs.declared.names.Key.{Key}
use Rattle.link_base.specs.declared.names.PortName.{PortName}
use Rattle.link_base.specs.declared.names.Way.{Way}
use Rattle.link_base.specs.SequenceNumbers.{modulus, most_unconfirmed}
use Rattle.bearer_map.specs.declared.rows.BearerRow.{BearerRow}
use Rattle.rlc_model.specs.declared.receiver.Heard.TheVariants.{Complete}
use Rattle.rlc_model.specs.Rx.{Rx}
use Rattle.rlc_model.specs.Sides.{Entity, hearer_of}
use Rattle.rlc_model.specs.Tx.{Tx}
use Rattle.rlc_law.specs.PortLaws.{HearsDataMade}
use Rattle.pdcp_model.specs.declared.answers.PdcpHeard.{PdcpHeard}
use Rattle.pdcp_model.specs.declared.answers.PdcpHeard.TheVariants.{Up, Stored, Old, Repeat, BeforeStart, PastEnd}
use Rattle.pdcp_model.specs.Receiver.{Receiver}
use Rattle.pdcp_model.specs.Receiver.{Hears as HearsSn}
use Rattle.node_model.specs.Names.{is_node, is_key, is_port, source, sink}
use Rattle.node_model.specs.State.{Incoming}
use Rattle.node_model.specs.Tables.{first_count}
use Rattle.item_law.specs.State.{Sdu, Data, Item, Arrived, is_number, put}
use Rattle.item_law.specs.State.{Chain as ItemChain, Tables as ItemTables}
use Rattle.item_law.specs.Steps.{Step, Arrives, hears_data}
use Rattle.item_law.specs.HandUps.{IsHandUp}
use Rattle.item_law.specs.Live.{Live}
use Rattle.item_law.proofs.base.Puts.{of_number, of_key, put_same}
use Rattle.item_law.proofs.laws.Handed.{hears_submitted, live_in_window}
use Rattle.item_law.proofs.laws.OneCopy.{live_unheard}
use Rattle.item_chain.specs.View.{View, is_side, put_at}
use Rattle.item_chain.specs.Stands.{row_limit, item_tables, ReceiverFits, IncomingFits, calm, Ghost, Stands, Refines}
use Rattle.item_chain.proofs.Completed.{n, left}
use Rattle.item_chain.proofs.Ends.{incoming_goes}
use Rattle.item_chain.proofs.Goings.{reaches_on}
use Rattle.item_chain.proofs.Hearing.{its}
use Rattle.item_chain.proofs.Tags.{only_arrived}
use Rattle.item_chain.proofs.Receives.{some_is, none_is, Took, hears_count}

-- the hand-up of what is heard
pub hand_up : (heard : ℕ → Option Sdu) (m : ℕ) → ((c : ℕ) → c < m → is_some (heard c) ≡ true) → (ups : List Sdu) × (length ups ≡ m)
    × ((c : ℕ) → c < m → heard c ≡ Some (get_or ups c []))
hand_up heard zero all = ([], refl, λ c lt. absurd (omega (arith, lt)))
hand_up heard (suc m) all =
    let was = hand_up heard m (λ c lt. all c (omega (arith, lt))) in
    let x = some_is (heard m) (all m (omega arith)) in (
      was.0 ++ x.0 ∷ [],
      omega (arith, length_push was.0 x.0, was.1),
      λ c lt. elim (cases_lt c m) [
        | inl below ↦ was.2 c below ∙ ap (λ (y : Sdu). Some y) (sym (get_or_append_left was.0 (x.0 ∷ []) [] c (omega (arith, below, was.1))))
        | inr ge ↦ ap heard (omega (arith, ge, lt)) ∙ x.1 ∙ ap (λ (y : Sdu). Some y)
            (sym (at_last was.0 x.0) ∙ ap (λ (k : ℕ). get_or (was.0 ++ x.0 ∷ []) k []) (omega (arith, was.1, ge, lt)))
      ],
    )
  where
    at_last : (xs : List Sdu) (x : Sdu) → get_or (xs ++ x ∷ []) (length xs) [] ≡ x
    at_last [] x = refl
    at_last (y ∷ xs) x = at_last xs x

-- hearing keeps the size and the first COUNT
same_kind : (old new : Receiver) (sn : ℕ) (body : Sdu) (a : PdcpHeard) → HearsSn old sn body a new → (new.size ≡ old.size) × (new.first ≡ old.first)
same_kind old new sn body BeforeStart h = (ap (λ (r : Receiver). r.size) h.1, ap (λ (r : Receiver). r.first) h.1)
same_kind old new sn body PastEnd h = (ap (λ (r : Receiver). r.size) h.3, ap (λ (r : Receiver). r.first) h.3)
same_kind old new sn body Old h = (ap (λ (r : Receiver). r.size) h.4, ap (λ (r : Receiver). r.first) h.4)
same_kind old new sn body Repeat h = (ap (λ (r : Receiver). r.size) h.4, ap (λ (r : Receiver). r.first) h.4)
same_kind old new sn body Stored h = (ap (λ (r : Receiver). r.size) h.5, ap (λ (r : Receiver). r.first) h.5)
same_kind old new sn body (Up sdus) h = (ap (λ (r : Receiver). r.size) h.4, ap (λ (r : Receiver). r.first) h.4)

module _ (g : Ghost) (v : View) (st : Stands g v) (way : Way) (name : PortName) (e : Entity) (is_open : v.entity (hearer_of way) name ≡ Some e) (number : ℕ) (bytes : List ℕ)
    (tx : Tx) (rx : Rx)
    (x : ℕ) (sdu : List ℕ) (h : HearsDataMade (its g v st way name e is_open number bytes tx rx) way number bytes (Complete x sdu) tx rx) where
  abbrev N : ℕ
  N = n g v st way name e is_open number bytes tx rx x sdu h

  abbrev a : ItemChain
  a = g.chain

  abbrev T : ItemTables
  T = item_tables v.tables

  -- a data PDU
  module _ (i : Item) (live : Live a N i) (c : ℕ) (y : Sdu) (content : i.content ≡ Data c y) (step : (new : ItemChain) → Arrives a N i.key (Data c y) new → Step T a new)
      (inc : Incoming) (has : v.incoming (sink i.key) i.key ≡ Some inc) where
    abbrev k : Key
    k = i.key

    abbrev R : Receiver
    R = inc.receiver

    fits : IncomingFits v.tables a.path a.heard a.wanted (sink k) k inc
    fits = st.ends.incomings (sink k) k inc has

    unheard : is_some (a.heard k c) ≡ false
    unheard = live_unheard T (calm a) st.reaches N i c y refl live content

    within : (R.handed ≤ c) × (c < R.handed + most_unconfirmed R.size)
    within =
        let ups = hand_up (a.heard k) R.handed fits.fits.up in
        let at_stop : a.heard k (length ups.0) ≡ None = ap (a.heard k) ups.1
        ∙ none_is (a.heard k R.handed) (ap (λ (c : ℕ). is_some (a.heard k c)) (let same : R.handed ≡ R.handed + 0 = omega arith in same) ∙ fits.fits.stored 0
        ∙ ap (λ (o : Option Sdu). is_some o) fits.fits.stops) in
        let is_up : IsHandUp (a.heard k) ups.0 = record { run = λ c lt. ups.2 c (omega (arith, lt, ups.1)); stops = at_stop } in
        let win = live_in_window T (calm a) st.reaches N i c y ups.0 refl live content is_up in
        let lim : T.limit k.remote k.drb ≡ most_unconfirmed R.size = ap row_limit fits.its_row ∙ ap most_unconfirmed (sym fits.size) in
        (omega (arith, win.0, ups.1), omega (arith, win.1, ups.1, lim))

    abbrev m : ℕ
    m = c - R.handed

    c_is : R.handed + m ≡ c
    c_is = omega (arith, within.0)

    below : m < most_unconfirmed R.size
    below = omega (arith, within.0, within.1)

    fresh : is_some (a.heard k (R.handed + m)) ≡ false
    fresh = ap (λ (c : ℕ). is_some (a.heard k c)) c_is ∙ unheard

    abbrev heard_after : ℕ → Option Sdu
    heard_after = hears_data (a.heard k) c y

    heard_is : put is_number (a.heard k) (R.handed + m) (Some y) ≡ heard_after
    heard_is = ap (λ (c : ℕ). put is_number (a.heard k) c (Some y)) c_is ∙ ap (λ (o : Option Sdu). put is_number (a.heard k) c (Some (unwrap_or o y)))
        (sym (none_is (a.heard k c) unheard))

    abbrev chain : ItemChain
    chain = record a { heard = put is_key a.heard k heard_after; spot = put is_number a.spot N Arrived }

    stepped : Step T a chain
    stepped = step chain refl

    submitted : c < length (a.sender k).submitted
    submitted = (hears_submitted T (calm chain) (reaches_on T a chain st.reaches stepped) k refl c y
        (ap (λ (f : ℕ → Option Sdu). f c) (put_same of_key a.heard k heard_after ∙ sym heard_is) ∙ ap (put is_number (a.heard k) (R.handed + m) (Some y)) (sym c_is)
        ∙ put_same of_number (a.heard k) (R.handed + m) (Some y))).0

    last : R.first + (R.handed + m) < COUNT_END
    last =
        let o = st.ends.sends k fits.row fits.its_row in
        let f = st.ends.outgoings (source k) k o.0 o.1 in
        let same_row = same_Some f.row fits.row (sym f.its_row ∙ fits.its_row) in
        omega (arith, c_is, fits.first, f.first, ap (λ (r : BearerRow). first_count r k.way) same_row, f.few, submitted, f.fits.long)

    -- the receiver takes it as its COUNT, and its item arrives
    pub data_arrives : (sn : ℕ) → sn ≡ (R.first + c) % modulus R.size → (answer : PdcpHeard) (new : Receiver) → HearsSn R sn y answer new
        → Refines v.tables g (record v {
          entity = put_at is_side is_port v.entity (hearer_of way) name (Some (record e { tx = tx; rx = rx }));
          incoming =
              put_at is_node is_key v.incoming (sink k) k (Some (record inc { receiver = new }));
        })
    data_arrives sn as_sn answer new pdcp =
        left g v st way name e is_open number bytes tx rx x sdu h Arrived (only_arrived name) refl a.sender (put is_key a.heard k heard_after) v.outgoing
        (put_at is_node is_key v.incoming (sink k) k (Some (record inc { receiver = new }))) stepped
        (incoming_goes st.ends k (record inc { receiver = new }) heard_after (record {
          home = refl;
          named = fits.named;
          row = fits.row;
          its_row = fits.its_row;
          size = kind.0 ∙ fits.size;
          first = kind.1 ∙ fits.first;
          fits = subst (λ (f : ℕ → Option Sdu). ReceiverFits f new) (heard_is ∙ sym (put_same of_key a.heard k heard_after)) new_fits;
          wants = fits.wants;
          ready = fits.ready;
        }))
      where
        kind : (new.size ≡ R.size) × (new.first ≡ R.first)
        kind = same_kind R new sn y answer pdcp

        took : Took (a.heard k) R fits.fits m y below fresh answer new
        took = hears_count (a.heard k) R fits.fits m y below fresh last answer new
            (subst (λ (z : ℕ). HearsSn R z y answer new) (as_sn ∙ ap (λ (c : ℕ). (R.first + c) % modulus R.size) (sym c_is)) pdcp)

        new_fits : ReceiverFits (put is_number (a.heard k) (R.handed + m) (Some y)) new
        new_fits = go took
          where
            go : Took (a.heard k) R fits.fits m y below fresh answer new → ReceiverFits (put is_number (a.heard k) (R.handed + m) (Some y)) new
            go (Took.waits h f k) = f
            go (Took.up sdus h f k ups) = f
