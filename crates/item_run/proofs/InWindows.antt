-- What comes over the air is read under its own number, and what completes for a key under its own COUNT.
use Rattle.std.proofs.Common.{◌≡◌, ℕ, ◌+◌, ◌%◌, ◌≤◌, Bool, true, false, cond, List, [], ◌∷◌, Some, None, refl, sym, ◌∙◌, ap, subst, arith}
use Rattle.std.specs.List.{AllByRecursion}
use Rattle.std.proofs.lemmas.Bool.{true≢false}
use Rattle.std.proofs.lemmas.Option.{same_Some}
use Rattle.link_base.specs.declared.names.SnSize.{SnSize}
use Rattle.link_base.specs.declared.names.SnSize.TheVariants.{S12, S18}
use Rattle.link_base.specs.declared.names.Way.{Way}
use Rattle.link_base.specs.declared.names.Way.TheVariants.{Ul, Dl}
use Rattle.link_base.specs.SequenceNumbers.{modulus, window, most_unconfirmed, Near}
use Rattle.bearer_map.specs.Contents.{Contents}
use Rattle.rlc_pdu.specs.Amd.{IsAmd}
use Rattle.rlc_pdu.proofs.Spelling.{spells}
use Rattle.rlc_status.specs.Format.{IsStatus}
use Rattle.rlc_status.proofs.Spelling.{plain, is_free}
use Rattle.rlc_model.specs.Air.{IsFresh}
use Rattle.rlc_model.specs.Heard.{Data}
use Rattle.rlc_model.specs.Hop.{air_fault}
use Rattle.rlc_model.specs.Rx.{Rx, rx_next}
use Rattle.rlc_model.specs.Sides.{Entity, flip, hearer_of}
use Rattle.rlc_model.specs.Tx.{Tx, tx_next_ack}
use Rattle.rlc_law.specs.Hop.{Hop, StatusMade}
use Rattle.rlc_law.specs.Ports.{Port, hop_of, tx_of, rx_of, ReachesPort, IsSide, SpellsData, SpellsStatus, HasMade}
use Rattle.rlc_law.proofs.Fresh.{passes_fresh}
use Rattle.rlc_law.proofs.Inductive.{reaches_inv}
use Rattle.rlc_law.proofs.Invariant.{Invariant}
use Rattle.rlc_law.proofs.Safety.{reads_own_number, reads_own_ack}
use Rattle.pdcp_model.specs.Receiver.{Receiver}
use Rattle.script_text.specs.History.{Entry}
use Rattle.node_model.specs.Names.{sink}
use Rattle.node_model.specs.Tables.{first_count}
use Rattle.chain_model.specs.Draining.{Moment}
use Rattle.chain_model.specs.State.{Chain, receiving_at}
use Rattle.book_law.specs.Past.{Passes, IsDeclaration, AreTables}
use Rattle.item_chain.specs.Foundations.{PduLaws}
use Rattle.item_chain.specs.Runs.{PastsStand, AreRunLines}
use Rattle.item_chain.specs.View.{view}
use Rattle.item_chain.specs.Stands.{TablesGood, Ghost, Stands}
use Rattle.item_run.specs.Foundations.{BookLaws}
use Rattle.item_run.specs.Windows.{ReadsData, ReadsStatus, ReadsAs, ReadsOwnNumbers, HearsOwnCount, IsInWindows}
use Rattle.item_run.proofs.Coming.{completes_came}
use Rattle.item_run.proofs.Honest.{its_keys, its_row, bearer, of_data, first_in, size_in, unheard_above, unconfirmed_kept}
use Rattle.item_run.proofs.Runs.{history, stands_behind}

---- numbers

-- the side that hears what goes in a way has the receiver of that way's hop, and the transmitter of the other one
hearing_rx : (port : Port) (way : Way) → rx_of port (hearer_of way) ≡ (hop_of port way).rx
hearing_rx port Ul = refl
hearing_rx port Dl = refl

hearing_tx : (port : Port) (way : Way) → tx_of port (hearer_of way) ≡ (hop_of port (flip way)).tx
hearing_tx port Ul = refl
hearing_tx port Dl = refl

module _ (port : Port) (run : ReachesPort port) (way : Way) (e : Entity) (is : IsSide port (hearer_of way) e.tx e.rx) (bytes : List ℕ) (number : ℕ) where
  data_read : (d : Data) → d.number ≡ number → SpellsData (hop_of port way) d bytes → IsFresh e.rx.size false number (rx_next e.rx) → ReadsData e.rx bytes number
  data_read d same spelt fresh =
      let h : Hop = hop_of port way in
      let inv : Invariant h = reaches_inv h (run way) in
      let its : e.rx ≡ h.rx = is.its_rx ∙ hearing_rx port way in
      let still : IsFresh h.rx.size false d.number (rx_next h.rx) = subst (λ (r : Rx). IsFresh r.size false d.number (rx_next r)) its
      (subst (λ (x : ℕ). IsFresh e.rx.size false x (rx_next e.rx)) (sym same) fresh) in
      record {
        pdu = d.view;
        reads = subst (λ (r : Rx). IsAmd r.size d.view bytes) (sym its) (subst (λ (z : SnSize). IsAmd z d.view bytes) (sym inv.size)
            (subst (IsAmd h.tx.size d.view) (sym spelt.octets) (spells h.tx.size d.view (inv.pdus d spelt.among).fits)));
        near = subst (λ (r : Rx). Near r.size d.view.sn (rx_next r) number) (sym its)
            (subst (Near h.rx.size d.view.sn (rx_next h.rx)) same (reads_own_number h (run way) d spelt.among still).0);
      }

  status_read : (s : StatusMade) → s.ack ≡ number → SpellsStatus (hop_of port (flip way)) s bytes → IsFresh e.tx.size true number (tx_next_ack e.tx)
      → ReadsStatus e.tx bytes number
  status_read s same spelt fresh =
      let h : Hop = hop_of port (flip way) in
      let inv : Invariant h = reaches_inv h (run (flip way)) in
      let its : e.tx ≡ h.tx = is.its_tx ∙ hearing_tx port way in
      let still : IsFresh h.tx.size true s.ack (tx_next_ack h.tx) = subst (λ (t : Tx). IsFresh t.size true s.ack (tx_next_ack t)) its
      (subst (λ (x : ℕ). IsFresh e.tx.size true x (tx_next_ack e.tx)) (sym same) fresh) in
      record {
        status = s.status;
        reads = subst (λ (t : Tx). IsStatus t.size s.status bytes) (sym its) (subst (λ (z : SnSize). IsStatus z s.status bytes) inv.size
            (subst (IsStatus h.rx.size s.status) (sym spelt.octets) (is_free h.rx.size s.status _ (plain h.rx.size s.status (inv.statuses s spelt.among).fits))));
        near = subst (λ (t : Tx). Near t.size s.status.ack (tx_next_ack t + 1) number) (sym its)
            (subst (Near h.tx.size s.status.ack (tx_next_ack h.tx + 1)) same (reads_own_ack h (run (flip way)) s spelt.among still).0);
      }

-- each PDU on the air that a side may be handed
numbers_read : (g : Ghost) (c : Chain) → Stands g (view c) → ReadsOwnNumbers c
numbers_read g c st ticket pdu on e is_open none = by pdu.status refl
  where
    p : (port : Port) × (g.ports pdu.port e.epoch ≡ Some port) × IsSide port (hearer_of pdu.way) e.tx e.rx
    p = st.sides.open_port (hearer_of pdu.way) pdu.port e is_open

    run : ReachesPort p.0
    run = st.ports.reaches pdu.port e.epoch p.0 p.1

    made : e.epoch ≡ pdu.epoch → HasMade p.0 pdu.way pdu.status pdu.number pdu.bytes
    made same = st.ports.made ticket pdu p.0 on (ap (g.ports pdu.port) (sym same) ∙ p.1)

    by : (kind : Bool) → pdu.status ≡ kind → ReadsAs kind e pdu.bytes pdu.number
    by false is =
        let passed : air_fault e.rx.size pdu (Some e.epoch) (rx_next e.rx) ≡ None =
        ap (λ (b : Bool). cond b (air_fault e.tx.size pdu (Some e.epoch) (tx_next_ack e.tx)) (air_fault e.rx.size pdu (Some e.epoch) (rx_next e.rx))) (sym is) ∙ none in
        let ok = (passes_fresh e.rx.size pdu (Some e.epoch) (rx_next e.rx)).0 passed in
        let its = subst (λ (b : Bool). HasMade p.0 pdu.way b pdu.number pdu.bytes) is (made (same_Some e.epoch pdu.epoch ok.0)) in
        data_read p.0 run pdu.way e p.2 pdu.bytes pdu.number its.0 its.1 its.2 (subst (λ (b : Bool). IsFresh e.rx.size b pdu.number (rx_next e.rx)) is ok.1)
    by true is =
        let passed : air_fault e.tx.size pdu (Some e.epoch) (tx_next_ack e.tx) ≡ None =
        ap (λ (b : Bool). cond b (air_fault e.tx.size pdu (Some e.epoch) (tx_next_ack e.tx)) (air_fault e.rx.size pdu (Some e.epoch) (rx_next e.rx))) (sym is) ∙ none in
        let ok = (passes_fresh e.tx.size pdu (Some e.epoch) (tx_next_ack e.tx)).0 passed in
        let its = subst (λ (b : Bool). HasMade p.0 pdu.way b pdu.number pdu.bytes) is (made (same_Some e.epoch pdu.epoch ok.0)) in
        status_read p.0 run pdu.way e p.2 pdu.bytes pdu.number its.0 its.1 its.2 (subst (λ (b : Bool). IsFresh e.tx.size b pdu.number (tx_next_ack e.tx)) is ok.1)

---- COUNTs

pub few_in_window : (size : SnSize) → most_unconfirmed size ≤ window size
few_in_window S12 = omega arith
few_in_window S18 = omega arith

counts_heard : PduLaws → (g : Ghost) (m : Moment) → Stands g (view m.before) → HearsOwnCount m
counts_heard l g m st key hearing x =
    let c : Chain = m.before in
    let came = completes_came g m st key x.body x.completes in
    let d = of_data l g c st (sink key) key x.body came hearing.sn hearing.sdu x.reads in
    let the_row = its_row l g c st (sink key) key x.body came in
    let its = bearer l g c st (sink key) key x.body came in
    let r : Receiver = (receiving_at c key).receiver in
    let first : r.first ≡ first_count its key.way = first_in g c st key its the_row in
    let size : r.size ≡ its.pdcp = size_in g c st key its the_row in (
      d.count,
      record {
        same = ap (λ (f : ℕ). (f + d.count) % modulus r.size) first ∙ ap (λ (z : SnSize). (first_count its key.way + d.count) % modulus z) size ∙ sym d.its_sn;
        low = omega (arith, unheard_above g c st key its the_row d.count d.unheard);
        high = omega (arith, d.few, few_in_window its.pdcp, ap window size);
      },
      unconfirmed_kept g c st key its the_row d.count d.submitted.0
          (λ is. true≢false (sym ((its_keys g c st key).confirmed d.count is) ∙ d.unheard)) ∙ ap (λ (s : List ℕ). Some s) (sym d.submitted.1),
    )

module _ (books : BookLaws) (pasts : PastsStand) (pdus : PduLaws) (t : Contents) (are : AreTables t) (good : TablesGood t) (declared : List Entry)
    (declare : AllByRecursion IsDeclaration declared) where
  pub each_in_windows : (ms : List Moment) (c : Chain) → Passes t ms c → AreRunLines (history books pasts pdus t are good declared declare ms) → AllByRecursion IsInWindows ms
  each_in_windows [] c is lines = tt
  each_in_windows (m ∷ ms) c (before, goes) (run, lines) =
      let stood = stands_behind books pasts pdus t are good declared declare ms m.before before lines in
      (record { numbers = numbers_read stood.0 m.before stood.1; counts = counts_heard pdus stood.0 m stood.1 }, each_in_windows ms m.before before lines)
