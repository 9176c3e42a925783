-- What a live SDU carries is what its item does: an SDU of the key under the COUNT for which the receiving end would take it, or a status report about the key.
use Rattle.std.proofs.Common.{◌≡◌, ℕ, ◌+◌, ◌%◌, Bool, List, Some, refl, sym, ◌∙◌, ap, subst, arith}
use Rattle.link_base.specs.declared.names.Key.{Key}
use Rattle.link_base.specs.declared.names.SnSize.{SnSize}
use Rattle.link_base.specs.declared.names.Way.{Way}
use Rattle.link_base.specs.SequenceNumbers.{modulus, window, Near}
use Rattle.bearer_map.specs.declared.rows.BearerRow.{BearerRow}
use Rattle.pdcp_pdu.specs.Pdcp.{Sdu, Report as ReportPdu, IsPdcp}
use Rattle.pdcp_law.proofs.Counts.{one_near}
use Rattle.pdcp_model.specs.Receiver.{Receiver, rx_deliv}
use Rattle.pdcp_model.specs.Sender.{is_reported}
use Rattle.rlc_model.specs.Sides.{flip}
use Rattle.node_model.specs.Names.{key_of, sink}
use Rattle.node_model.specs.Tables.{first_count}
use Rattle.chain_model.specs.OneCopy.{Spot, IsLive, IsLiveReport}
use Rattle.chain_model.specs.State.{Chain, receiving_at}
use Rattle.item_law.specs.Live.{Live}
use Rattle.item_law.specs.State.{Item, Content, Data, Report, way_with}
use Rattle.item_chain.specs.Foundations.{PduLaws}
use Rattle.item_chain.specs.Runs.{Remembers}
use Rattle.item_chain.specs.View.{view}
use Rattle.item_chain.specs.Stands.{row_of, IsPdu, Ghost, Stands}
use Rattle.item_chain.proofs.Taken.{key_is, same_fmc, same_map, no_both, flip_twice}
use Rattle.item_run.proofs.Coming.{Came}
use Rattle.item_run.proofs.Honest.{bearer, spelt, spells, its_row, first_in, size_in, unheard_above, OfData, of_data}
use Rattle.item_run.proofs.InWindows.{few_in_window}
use Rattle.item_run.proofs.LiveOverRelay.{live_item}
use Rattle.item_run.proofs.LiveSpots.{StandsAt, LiveItem}

module _ (l : PduLaws) (g : Ghost) (c : Chain) (st : Stands g (view c)) (past : List Chain) (remembers : Remembers past g) (key : Key) where
  -- an item of the key is live at the spot
  pub record ItemAt (spot : Spot) (content : Content) : Type 0 where
    pub number : ℕ
    pub item : Item
    pub stands : StandsAt g c st spot number
    pub live : Live g.chain number item
    pub its_key : item.key ≡ key
    pub carries : item.content ≡ content

  -- with an SDU under this COUNT
  pub record DataAt (spot : Spot) (count : ℕ) : Type 0 where
    pub row : BearerRow
    pub its_row : row_of c.tables key.remote key.drb ≡ Some row
    pub index : ℕ
    pub sdu : List ℕ
    pub its : ItemAt spot (Data index sdu)
    pub its_count : count ≡ first_count row key.way + index

  -- what is spelt so is near what was handed up
  module _ (pdu : List ℕ) (came : Came g (view c) st (sink key) key pdu) (sn : ℕ) (body : List ℕ)
      (reads : IsPdcp (receiving_at c key).receiver.size (Sdu sn body) pdu) where
    abbrev pub of_it : OfData l g c st (sink key) key pdu came sn body
    of_it = of_data l g c st (sink key) key pdu came sn body reads

    abbrev pub row_of_it : BearerRow
    row_of_it = bearer l g c st (sink key) key pdu came

    pub its_first : (receiving_at c key).receiver.first ≡ first_count row_of_it key.way
    its_first = first_in g c st key row_of_it (its_row l g c st (sink key) key pdu came)

    pub near_it : Near (receiving_at c key).receiver.size sn (rx_deliv (receiving_at c key).receiver) ((receiving_at c key).receiver.first + of_it.count)
    near_it =
        let the_row = its_row l g c st (sink key) key pdu came in
        let r : Receiver = (receiving_at c key).receiver in
        let size : r.size ≡ row_of_it.pdcp = size_in g c st key row_of_it the_row in
        record {
          same = ap (λ (f : ℕ). (f + of_it.count) % modulus r.size) its_first ∙ ap (λ (z : SnSize). (first_count row_of_it key.way + of_it.count) % modulus z) size
              ∙ sym of_it.its_sn;
          low = omega (arith, unheard_above g c st key row_of_it the_row of_it.count of_it.unheard);
          high = omega (arith, of_it.few, few_in_window row_of_it.pdcp, ap window size);
        }

  pub data_at : (spot : Spot) (count : ℕ) → IsLive past c key spot count → DataAt spot count
  data_at spot count x =
      let live = live_item g c st past remembers key key.way spot x.pdu x.live in
      let came : Came g (view c) st (sink key) key x.pdu = record { number = live.number; its = live.is_for; home = refl } in
      let d = of_it x.pdu came x.sn x.sdu x.reads in
      let r : Receiver = (receiving_at c key).receiver in
      record {
        row = row_of_it x.pdu came x.sn x.sdu x.reads;
        its_row = its_row l g c st (sink key) key x.pdu came;
        index = d.count;
        sdu = x.sdu;
        its = record {
          number = live.number;
          item = live.is_for.item;
          stands = live.stands;
          live = live.is_for.live;
          its_key = d.its_key;
          carries = d.content;
        };
        its_count = one_near r.size x.sn (rx_deliv r) count (r.first + d.count) x.near (near_it x.pdu came x.sn x.sdu x.reads)
            ∙ ap (λ (f : ℕ). f + d.count) (its_first x.pdu came x.sn x.sdu x.reads);
      }

  -- a status report that says this
  pub record ReportAt (spot : Spot) (fmc : ℕ) (bits : List ℕ) : Type 0 where
    pub row : BearerRow
    pub its_row : row_of c.tables key.remote key.drb ≡ Some row
    pub named : ℕ → Bool
    pub its : ItemAt spot (Report named)
    pub says : (n : ℕ) → named n ≡ is_reported fmc bits (first_count row key.way + n)

  module _ (spot : Spot) (fmc : ℕ) (bits : List ℕ) (x : IsLiveReport past c key spot fmc bits) where
    -- on its way back it goes as what comes to the other end
    abbrev other : Key
    other = key_of key.remote key.drb (flip key.way)

    abbrev found : LiveItem g c st past remembers key (flip key.way) spot x.pdu
    found = live_item g c st past remembers key (flip key.way) spot x.pdu x.live

    abbrev came : Came g (view c) st (sink other) other x.pdu
    came = record { number = found.number; its = found.is_for; home = refl }

    abbrev item : Item
    item = found.is_for.item

    abbrev row : BearerRow
    row = bearer l g c st (sink other) other x.pdu came

    the_row : row_of c.tables key.remote key.drb ≡ Some row
    the_row = its_row l g c st (sink other) other x.pdu came

    read : ReportPdu fmc bits ≡ (spelt l g c st (sink other) other x.pdu came).pdu
    read = l.one_reading row.pdcp (ReportPdu fmc bits) (spelt l g c st (sink other) other x.pdu came).pdu x.pdu
        (subst (λ (z : SnSize). IsPdcp z (ReportPdu fmc bits) x.pdu) (size_in g c st key row the_row) x.reads) (spells l g c st (sink other) other x.pdu came)

    is_pdu : (content : Content) → item.content ≡ content → IsPdu row item.key.way content (spelt l g c st (sink other) other x.pdu came).pdu
    is_pdu content is = subst (λ (z : Content). IsPdu row item.key.way z (spelt l g c st (sink other) other x.pdu came).pdu) is
        (spelt l g c st (sink other) other x.pdu came).is_pdu

    by : (content : Content) → item.content ≡ content → ReportAt spot fmc bits
    by (Data n y) is = absurd (no_both _ fmc y bits (sym (is_pdu (Data n y) is) ∙ sym read))
    by (Report named) is =
        let r = is_pdu (Report named) is in
        let same = read ∙ r.2 in
        let its_way : item.key.way ≡ key.way =
        sym (flip_twice item.key.way) ∙ ap flip (ap (way_with item.key.way) (sym is) ∙ found.is_for.way) ∙ flip_twice key.way in
        record {
          row = row;
          its_row = the_row;
          named = named;
          its = record {
            number = found.number;
            item = item;
            stands = found.stands;
            live = found.is_for.live;
            its_key = key_is item.key key found.is_for.remote found.is_for.drb its_way;
            carries = is;
          };
          says = λ n. r.3 n ∙ ap (λ (z : ℕ). is_reported z r.1 (first_count row item.key.way + n)) (sym (same_fmc fmc r.0 bits r.1 same))
              ∙ ap (λ (z : List ℕ). is_reported fmc z (first_count row item.key.way + n)) (sym (same_map fmc r.0 bits r.1 same))
              ∙ ap (λ (w : Way). is_reported fmc bits (first_count row w + n)) its_way;
        }

  pub report_at : (spot : Spot) (fmc : ℕ) (bits : List ℕ) → IsLiveReport past c key spot fmc bits → ReportAt spot fmc bits
  report_at spot fmc bits x = by spot fmc bits x (item spot fmc bits x).content refl
