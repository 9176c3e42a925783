-- While a remote has no open plan, what was given and isn't heard is live in the chain, and so is the status report for which a sender waits, or it is wanted.
use Rattle.std.proofs.Common.{◌≡◌, ◌⊎◌, ◌↔◌, inl, inr, ℕ, ◌+◌, ◌%◌, ◌<◌, true, false, List, Some, None, Contains, refl, sym, ◌∙◌, ap, subst, arith}
use Rattle.std.proofs.lemmas.Option.{same_Some}
use Rattle.link_base.specs.declared.names.Key.{Key}
use Rattle.link_base.specs.declared.names.SnSize.{SnSize}
use Rattle.link_base.specs.declared.names.Way.{Way}
use Rattle.link_base.specs.SequenceNumbers.{modulus, Near}
use Rattle.bearer_map.specs.declared.rows.BearerRow.{BearerRow}
use Rattle.pdcp_pdu.specs.Pdcp.{Pdcp, Sdu as SduPdu, Report as ReportPdu, IsPdcp}
use Rattle.pdcp_model.specs.Receiver.{rx_deliv}
use Rattle.pdcp_model.specs.Sender.{Sender}
use Rattle.script_text.specs.History.{Entry}
use Rattle.node_model.specs.Names.{sink}
use Rattle.node_model.specs.State.{Incoming}
use Rattle.node_model.specs.Tables.{first_count}
use Rattle.chain_model.specs.OneCopy.{Spot, IsLivePdu, IsLive, IsLiveReport, HasNoPlan, IsHeardNow}
use Rattle.chain_model.specs.State.{Chain, sender_at, receiving_at}
use Rattle.table_law.specs.Declared.{AreDeclared}
use Rattle.item_law.specs.Live.{Live}
use Rattle.item_law.specs.OneCopy.{HasLiveReport, HasLiveData}
use Rattle.item_law.specs.State.{Item, Content, Data, Report, is_heard, way_of, way_with}
use Rattle.item_law.proofs.laws.LiveItems.{live_now}
use Rattle.item_chain.specs.Foundations.{PduLaws}
use Rattle.item_chain.specs.Runs.{Remembers}
use Rattle.item_chain.specs.View.{view}
use Rattle.item_chain.specs.Stands.{row_of, IsPdu, Ghost, Stands}
use Rattle.item_run.specs.OneCopy.{HasOneCopy}
use Rattle.item_run.proofs.AllUp.{path_shut}
use Rattle.item_run.proofs.Coming.{Came}
use Rattle.item_run.proofs.Copies.{one_copy}
use Rattle.item_run.proofs.Honest.{out_fits, inc_fits, inc_is, out_is, size_in}
use Rattle.item_run.proofs.LiveBack.{octets, LiveAt, live_at}
use Rattle.item_run.proofs.LiveContents.{of_it, its_first, near_it}
use Rattle.item_run.proofs.LiveSpots.{inv}

-- under which COUNT, told less the first one, an item carries an SDU
abbrev index_of : Content → ℕ
index_of (Data count sdu) = count
index_of (Report named) = 0

module _ (l : PduLaws) (g : Ghost) (c : Chain) (st : Stands g (view c)) (declared : AreDeclared c.tables) (past : List Chain) (among : Contains past c)
    (remembers : Remembers past g) (h : List Entry) (row : BearerRow) (key : Key) (the_row : row_of c.tables key.remote key.drb ≡ Some row)
    (told : (m : ℕ) → is_heard g.chain key m ≡ true ↔ IsHeardNow c h row key (first_count row key.way + m)) (none : HasNoPlan c key.remote) where
  copies : HasOneCopy g.chain
  copies = one_copy g (view c) st

  no_plan : (g.chain.path key.remote).plan ≡ None
  no_plan = path_shut g c st declared key.remote key.drb row the_row none

  -- a live item of the key
  module _ (n : ℕ) (i : Item) (live : Live g.chain n i) (same : i.key ≡ key) (content : Content) (carries : i.content ≡ content) where
    found : LiveAt g c st declared past among n i live.is (ap (λ (k : Key). (g.chain.path k.remote).plan) same ∙ no_plan)
        (live_now (inv g c st) n i refl live).now
    found = live_at g c st declared past among n i live.is (ap (λ (k : Key). (g.chain.path k.remote).plan) same ∙ no_plan) (live_now (inv g c st) n i refl live).now
        (live_now (inv g c st) n i refl live).moves

    abbrev bytes : List ℕ
    bytes = octets g c st declared past among n i live.is (ap (λ (k : Key). (g.chain.path k.remote).plan) same ∙ no_plan) (live_now (inv g c st) n i refl live).now

    goes : IsLivePdu past c key (way_with key.way content) found.spot bytes
    goes = subst (λ (w : Way). IsLivePdu past c key w found.spot bytes) (ap (λ (k : Key). way_with k.way i.content) same ∙ ap (way_with key.way) carries)
        (subst (λ (k : Key). IsLivePdu past c k (way_of i) found.spot bytes) same found.live)

    its_row : (st.spelt n i live.is).row ≡ row
    its_row = same_Some (st.spelt n i live.is).row row
        (sym (st.spelt n i live.is).its_row ∙ ap (λ (k : Key). row_of c.tables k.remote k.drb) same ∙ the_row)

    is_pdu : IsPdu (st.spelt n i live.is).row i.key.way content (st.spelt n i live.is).pdu
    is_pdu = subst (λ (x : Content). IsPdu (st.spelt n i live.is).row i.key.way x (st.spelt n i live.is).pdu) carries (st.spelt n i live.is).is_pdu

    reads : (pdu : Pdcp) → (st.spelt n i live.is).pdu ≡ pdu → IsPdcp (receiving_at c key).receiver.size pdu bytes
    reads pdu is =
        let s = st.spelt n i live.is in
        subst (λ (z : SnSize). IsPdcp z pdu bytes) (ap (λ (b : BearerRow). b.pdcp) its_row ∙ sym (size_in g c st key row the_row))
        (subst (λ (p : Pdcp). IsPdcp s.row.pdcp p bytes) is (l.one_spelling.0 s.row.pdcp s.pdu s.fits).0)

  live_data : (n : ℕ) → HasLiveData g.chain key n → (spot : Spot) × IsLive past c key spot (first_count row key.way + n)
  live_data n d =
      let i : Item = d.i in
      let s = st.spelt d.n i d.live.is in
      let sn : ℕ = (first_count s.row i.key.way + n) % modulus s.row.pdcp in
      let bytes_is = bytes d.n i d.live d.key (Data n d.sdu) d.content in
      let way : way_of i ≡ key.way = ap (way_with i.key.way) d.content ∙ ap (λ (k : Key). k.way) d.key in
      let came : Came g (view c) st (sink key) key bytes_is = record {
        number = d.n;
        its = record {
          item = i;
          its = d.live.is;
          remote = ap (λ (k : Key). k.remote) d.key;
          drb = ap (λ (k : Key). k.drb) d.key;
          way = way;
          live = d.live;
          spelled = refl;
        };
        home = refl;
      } in
      let read = reads d.n i d.live d.key (Data n d.sdu) d.content (SduPdu sn d.sdu) (is_pdu d.n i d.live d.key (Data n d.sdu) d.content) in
      let it = of_it l g c st past remembers key bytes_is came sn d.sdu read in
      let index : it.count ≡ n = ap index_of (sym it.content ∙ d.content) in
      let count : (receiving_at c key).receiver.first + it.count ≡ first_count row key.way + n = ap (λ (f : ℕ). f + it.count)
      (its_first l g c st past remembers key bytes_is came sn d.sdu read
      ∙ ap (λ (b : BearerRow). first_count b key.way) (its_row d.n i d.live d.key (Data n d.sdu) d.content)) ∙ ap (λ (m : ℕ). first_count row key.way + m) index in (
        (found d.n i d.live d.key (Data n d.sdu) d.content).spot,
        record {
          pdu = bytes_is;
          live = goes d.n i d.live d.key (Data n d.sdu) d.content;
          sn = sn;
          sdu = d.sdu;
          reads = read;
          near = subst (Near (receiving_at c key).receiver.size sn (rx_deliv (receiving_at c key).receiver)) count
              (near_it l g c st past remembers key bytes_is came sn d.sdu read);
        },
      )

  -- each COUNT that was given is heard or live
  pub given_here : (sender_at c key).waits ≡ false → (n : ℕ) → n < (sender_at c key).place → IsHeardNow c h row key (first_count row key.way + n)
      ⊎ ((spot : Spot) × IsLive past c key spot (first_count row key.way + n))
  given_here waits n lt =
      let fits = (out_fits g c st key row the_row).fits in
      let same = out_is g c st key row the_row in
      elim (copies.given_arrives key n no_plan (fits.waits ∙ sym (ap (λ (s : Sender). s.waits) same) ∙ waits)
      (omega (arith, lt, fits.place, ap (λ (s : Sender). s.place) same))) [
        | inl heard ↦ inl ((told n).0 heard)
        | inr d ↦ inr (live_data n d)
      ]

  live_report : HasLiveReport g.chain key → (spot : Spot) × (fmc : ℕ) × (map : List ℕ) × IsLiveReport past c key spot fmc map
  live_report r =
      let named = Report r.named in
      let pdu = is_pdu r.n r.i r.live r.key named r.content in (
        (found r.n r.i r.live r.key named r.content).spot,
        pdu.0,
        pdu.1,
        record {
          pdu = bytes r.n r.i r.live r.key named r.content;
          live = goes r.n r.i r.live r.key named r.content;
          reads = reads r.n r.i r.live r.key named r.content (ReportPdu pdu.0 pdu.1) pdu.2;
        },
      )

  -- a sender that waits gets its status report
  pub wait_here : (sender_at c key).waits ≡ true → ((receiving_at c key).wanted ≡ true) ⊎ ((spot : Spot) × (fmc : ℕ) × (map : List ℕ) × IsLiveReport past c key spot fmc map)
  wait_here waits =
      let fits = (out_fits g c st key row the_row).fits in
      elim (copies.wait_ends key no_plan (fits.waits ∙ sym (ap (λ (s : Sender). s.waits) (out_is g c st key row the_row)) ∙ waits)) [
        | inl wanted ↦ inl (ap (λ (j : Incoming). j.wanted) (inc_is g c st key row the_row) ∙ (inc_fits g c st key row the_row).wants wanted)
        | inr r ↦ inr (live_report r)
      ]
