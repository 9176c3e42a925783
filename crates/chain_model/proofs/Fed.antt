-- What the ends give behind a line: nothing; one data PDU of a key; or one status report.
use Rattle.std.proofs.Common.{◌≡◌, ℕ, ◌+◌, ◌<◌, Bool, true, false, not, ◌&&◌, List, [], ◌∷◌, ◌++◌, map, Some, None, refl, sym, ap, subst}
use Rattle.std.proofs.lemmas.Bool.{and_parts}
use Rattle.link_base.specs.declared.names.Key.{Key}
use Rattle.link_base.specs.declared.names.PortName.{PortName}
use Rattle.link_base.specs.declared.rlc_words.Tag.{Tag}
use Rattle.bearer_map.specs.Contents.{Contents}
use Rattle.pdcp_pdu.specs.Pdcp.{Report, pdcp_bytes}
use Rattle.rlc_model.specs.Tx.{Tx, room, tx_next}
use Rattle.rlc_model.specs.Sides.{Entity}
use Rattle.pdcp_model.specs.Sender.{kept_at, next, has_next, data_pdu, gave_next}
use Rattle.pdcp_model.specs.Receiver.{IsReport, can_report, rx_deliv}
use Rattle.node_model.specs.Names.{back}
use Rattle.node_model.specs.State.{PortSide, Node, side_at, id_at, outgoing, incoming, set_entity, set_outgoing, set_incoming}
use Rattle.node_model.specs.Feeding.{first_hop, under, has_room, tag_of, wants_report, GivesPdu, FeedsReports, FeedsEach, Feeds, in_key, out_key, rests, unwanted}
use Rattle.node_model.specs.Feeding.FeedsData.{gives}
use Rattle.node_model.specs.Feeding.FeedsReport.{gives as gives_report}
use Rattle.chain_model.specs.Steps.{FeedsAll}

-- a test that fails
off : (b : Bool) → not b ≡ true → b ≡ false
off true e = sym e
off false e = refl

-- no report about these keys is to be given
abbrev pub wants_none : Contents → Node → List Key → Bool
wants_none t n [] = true
wants_none t n (key ∷ keys) = not (wants_report t n (incoming n key)) && wants_none t n keys

-- no data PDU of these keys is to be given
abbrev pub has_none : Contents → Node → List Key → Bool
has_none t n [] = true
has_none t n (key ∷ keys) = not (has_next (outgoing n key).sender && has_room t n key) && has_none t n keys

-- a node has nothing to give
abbrev pub is_fed : Contents → Node → Bool
is_fed t n = wants_none t n (map in_key n.incoming) && has_none t n (map out_key n.outgoing)

-- no node has
abbrev pub are_fed : Contents → List Node → Bool
are_fed t [] = true
are_fed t (n ∷ ns) = is_fed t n && are_fed t ns

-- then nothing is given
gives_no_report : (t : Contents) (n : Node) (keys : List Key) → wants_none t n keys ≡ true → FeedsReports t n keys [] n
gives_no_report t n [] none = (refl, refl)
gives_no_report t n (key ∷ keys) none =
    let parts = and_parts (not (wants_report t n (incoming n key))) (wants_none t n keys) none in
    ([], [], n, unwanted (off (wants_report t n (incoming n key)) parts.0) refl refl, gives_no_report t n keys parts.1, refl)

gives_no_data : (t : Contents) (n : Node) (keys : List Key) → has_none t n keys ≡ true → FeedsEach t n keys n
gives_no_data t n [] none = refl
gives_no_data t n (key ∷ keys) none =
    let parts = and_parts (not (has_next (outgoing n key).sender && has_room t n key)) (has_none t n keys) none in
    (n, rests (off (has_next (outgoing n key).sender && has_room t n key) parts.0), gives_no_data t n keys parts.1)

feeds_nothing : (t : Contents) (n : Node) → is_fed t n ≡ true → Feeds t n [] n
feeds_nothing t n fed =
    let parts = and_parts (wants_none t n (map in_key n.incoming)) (has_none t n (map out_key n.outgoing)) fed in
    record { mid = n; reports = gives_no_report t n (map in_key n.incoming) parts.0; data_pdus = gives_no_data t n (map out_key n.outgoing) parts.1 }

pub feeds_none : (t : Contents) (ns : List Node) → are_fed t ns ≡ true → FeedsAll t ns [] ns
feeds_none t [] fed = (refl, refl)
feeds_none t (n ∷ ns) fed = let parts = and_parts (is_fed t n) (are_fed t ns) fed in (n, ns, [], [], feeds_nothing t n parts.0, feeds_none t ns parts.1, refl, refl)

-- the first of these nodes gives, and then the others
pub feeds_then : (t : Contents) (n m : Node) (ns ms : List Node) (first more : List Key) → Feeds t n first m → FeedsAll t ns more ms
    → FeedsAll t (n ∷ ns) (first ++ more) (m ∷ ms)
feeds_then t n m ns ms first more feeds others = (m, ms, first, more, feeds, others, refl, refl)

-- the first of these nodes has nothing to give
pub feeds_behind : (t : Contents) (n : Node) (ns ms : List Node) (more : List Key) → is_fed t n ≡ true → FeedsAll t ns more ms → FeedsAll t (n ∷ ns) more (n ∷ ms)
feeds_behind t n ns ms more fed others = (n, ms, [], more, feeds_nothing t n fed, others, refl, refl)

-- the transmitter with one more SDU
abbrev pub given : Tx → Tag → List ℕ → Tx
given tx tag sdu = record tx { kept = tx.kept ++ Some (record { tag = tag; sdu = sdu; flags = []; retx_count = None }) ∷ [] }

-- the node that gave a PDU of a key to this side
abbrev pub gave : Node → PortSide → Entity → Key → Tag → List ℕ → Node
gave n side entity key tag pdu = set_entity n side (record entity { tx = given entity.tx tag (under (id_at n key.remote) key.drb pdu) })

-- an open side of a node, which has room
module _ (t : Contents) (n : Node) (key : Key) (port : PortName) (side : PortSide) (entity : Entity) (here : side_at n port ≡ Some side) (is_open : side.entity ≡ Some entity)
    (has : 0 < room entity.tx) where
  -- a PDU of a key whose first hop it is is given to it
  gives_pdu : (way : Key) (tag : Tag) (pdu : List ℕ) → first_hop t n way ≡ Some port → GivesPdu t n way tag pdu (gave n side entity way tag pdu)
  gives_pdu way tag pdu its = record {
    port = port;
    its_port = its;
    side = side;
    entity = entity;
    its = record { here = here; is_open = is_open };
    tx = given entity.tx tag (under (id_at n way.remote) way.drb pdu);
    number = tx_next entity.tx;
    gives = record { has_room = has; its_number = refl; is = refl };
    is = refl;
  }

  -- the node once it gave this SDU of the key as the next data PDU to its side, and to its sender
  abbrev pub gave_to_side : List ℕ → Node
  gave_to_side sdu =
      let o = outgoing n key in
      gave n side entity o.key (tag_of n o.key (Some (o.sender.first + next o.sender))) (pdcp_bytes o.sender.size (data_pdu o.sender (next o.sender) sdu))

  abbrev pub gave_data : List ℕ → Node
  gave_data sdu = set_outgoing (gave_to_side sdu) (record (outgoing n key) { sender = gave_next (outgoing n key).sender })

  -- it gives that one alone
  pub feeds_data : (sdu : List ℕ) → wants_none t n (map in_key n.incoming) ≡ true → map out_key n.outgoing ≡ key ∷ [] → first_hop t n (outgoing n key).key ≡ Some port
      → (has_next (outgoing n key).sender && has_room t n key) ≡ true → kept_at (outgoing n key).sender (next (outgoing n key).sender) ≡ Some sdu
      → (has_next (outgoing (gave_data sdu) key).sender && has_room t (gave_data sdu) key) ≡ false → Feeds t n [] (gave_data sdu)
  feeds_data sdu none only its waits kept rest =
      let o = outgoing n key in
      record {
        mid = n;
        reports = gives_no_report t n (map in_key n.incoming) none;
        data_pdus = subst (λ (keys : List Key). FeedsEach t n keys (gave_data sdu)) (sym only) (
          gave_data sdu,
          gives waits (record {
            sdu = sdu;
            its = kept;
            mid = gave_to_side sdu;
            gives = gives_pdu o.key (tag_of n o.key (Some (o.sender.first + next o.sender))) (pdcp_bytes o.sender.size (data_pdu o.sender (next o.sender) sdu)) its;
            is = refl;
          }) (rests rest),
          refl,
        );
      }

  -- the node once it gave a status report about the key, which has no bitmap, to its side, and with that noted
  abbrev pub reported_to_side : Node
  reported_to_side =
      let i = incoming n key in
      gave n side entity (back i.key) (tag_of n i.key None) (pdcp_bytes i.receiver.size (Report (rx_deliv i.receiver) []))

  abbrev pub gave_report : Node
  gave_report = set_incoming reported_to_side (record (incoming n key) { wanted = false; reported = (incoming n key).receiver.handed })

  -- it gives that one alone
  pub feeds_report : map in_key n.incoming ≡ key ∷ [] → first_hop t n (back (incoming n key).key) ≡ Some port → wants_report t n (incoming n key) ≡ true
      → can_report (incoming n key).receiver ≡ true → has_room t n (back (incoming n key).key) ≡ true → IsReport (incoming n key).receiver (rx_deliv (incoming n key).receiver) []
      → (incoming n key).key ≡ key → has_none t gave_report (map out_key gave_report.outgoing) ≡ true → Feeds t n (key ∷ []) gave_report
  feeds_report only its wanted can room its_report same none =
      let i = incoming n key in
      record {
        mid = gave_report;
        reports = subst (λ (keys : List Key). FeedsReports t n keys (key ∷ []) gave_report) (sym only) (
          key ∷ [],
          [],
          gave_report,
          gives_report wanted can room (record {
            fmc = rx_deliv i.receiver;
            map = [];
            its = its_report;
            mid = reported_to_side;
            gives = gives_pdu (back i.key) (tag_of n i.key None) (pdcp_bytes i.receiver.size (Report (rx_deliv i.receiver) [])) its;
            is = refl;
          }) (ap (λ (k : Key). k ∷ []) (sym same)),
          (refl, refl),
          refl,
        );
        data_pdus = gives_no_data t gave_report (map out_key gave_report.outgoing) none;
      }
