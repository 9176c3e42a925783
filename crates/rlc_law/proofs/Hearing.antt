-- A side hears a PDU of its port as it was made.
use Rattle.std.proofs.Common.{◌≡◌, ℕ, ◌/◌, ◌%◌, ◌<◌, Bool, true, false, cond, List, ◌∷◌, get_or, None, refl, sym, ◌∙◌, ap, subst, arith}
use Rattle.link_base.specs.declared.names.SnSize.{SnSize}
use Rattle.link_base.specs.declared.names.SnSize.TheVariants.{S12, S18}
use Rattle.link_base.specs.declared.names.Way.{Way}
use Rattle.link_base.specs.declared.names.Way.TheVariants.{Ul, Dl}
use Rattle.link_base.specs.SequenceNumbers.{modulus}
use Rattle.rlc_pdu.specs.Amd.{Amd as AmdPdu, IsAmd}
use Rattle.rlc_pdu.proofs.Reading.{not_both}
use Rattle.rlc_pdu.proofs.Spelling.{spells, reads_back}
use Rattle.rlc_status.specs.declared.status.Status.{Status as StatusPdu}
use Rattle.rlc_status.specs.Format.{StatusFits, IsStatus, status_bytes}
use Rattle.rlc_status.proofs.Faults.{no_fault}
use Rattle.rlc_status.proofs.Spelling.{plain, is_free}
use Rattle.rlc_status.proofs.Unique.{one_reading}
use Rattle.rlc_model.specs.declared.hop.HopHeard.{HopHeard}
use Rattle.rlc_model.specs.declared.hop.HopHeard.TheVariants.{Amd, Status, BadAmd, BadStatus}
use Rattle.rlc_model.specs.declared.receiver.Heard.{Heard}
use Rattle.rlc_model.specs.declared.receiver.Heard.TheVariants.{Stored, Complete, Repeat, Outside, Conflict}
use Rattle.rlc_model.specs.declared.transmitter.StatusHeard.{StatusHeard}
use Rattle.rlc_model.specs.declared.transmitter.StatusHeard.TheVariants.{Acked, Old, Beyond}
use Rattle.rlc_model.specs.Heard.{Data}
use Rattle.rlc_model.specs.Air.{IsFresh}
use Rattle.rlc_model.specs.Hop.{air_fault, IsControl, HearsHop}
use Rattle.rlc_model.specs.Retransmission.{HearsStatus}
use Rattle.rlc_model.specs.Rx.{Rx, rx_next, Hears}
use Rattle.rlc_model.specs.Sides.{flip, way_from, hearer_of}
use Rattle.rlc_model.specs.Tx.{Tx, tx_next_ack}
use Rattle.rlc_law.specs.Hop.{Hop, StatusMade, Deliver, DeliverStatus, Happens, delivers, acknowledges, completed_after, given_at}
use Rattle.rlc_law.specs.Ports.{Port, hop_of, ReachesPort, tx_of, rx_of, IsSide, SpellsData, SpellsStatus, HasMade, MovesSide}
use Rattle.rlc_law.specs.PortLaws.{IsAsGiven, IsOfSent, HearsDataMade, HearsStatusMade, HearLeaves, HearMoves}
use Rattle.rlc_law.proofs.Fresh.{passes_fresh}
use Rattle.rlc_law.proofs.Inductive.{reaches_inv}
use Rattle.rlc_law.proofs.Lists.{contains_here}
use Rattle.rlc_law.proofs.Moving.{with_hop, moves_tx, moves_rx}
use Rattle.rlc_law.proofs.Runs.{reaches_more}
use Rattle.rlc_law.proofs.Safety.{completes_as_given, none_outside, reads_own_number}
use Rattle.rlc_law.proofs.Sending.{none_beyond}

-- octets whose D/C is 1 are no control PDU
data_apart : (octets : List ℕ) → get_or octets 0 0 / 128 % 2 ≡ 1 → IsControl octets → ⊥
data_apart octets dc control = omega (arith, dc, control.dc)

-- the octets of a STATUS that fits are a control PDU
status_control : (size : SnSize) (s : StatusPdu) → s.ack < modulus size → IsControl (status_bytes size s)
status_control S12 s small = record { some = omega arith; dc = omega (arith, small) }
status_control S18 s small = record { some = omega arith; dc = omega (arith, small) }

-- the side that hears what goes in a way has the receiver of that way's hop
hearing_rx : (port : Port) (way : Way) → rx_of port (hearer_of way) ≡ (hop_of port way).rx
hearing_rx port Ul = refl
hearing_rx port Dl = refl

-- and the transmitter of the other way's
hearing_tx : (port : Port) (way : Way) → tx_of port (hearer_of way) ≡ (hop_of port (flip way)).tx
hearing_tx port Ul = refl
hearing_tx port Dl = refl

-- the side that hears sends the other way
sends_back : (way : Way) → way_from (hearer_of way) ≡ flip way
sends_back Ul = refl
sends_back Dl = refl

hears_way : (way : Way) → flip (way_from (hearer_of way)) ≡ way
hears_way Ul = refl
hears_way Dl = refl

-- the hop of the way is the one that was heard
heard_at : (port : Port) (way : Way) (hop : Hop) → hop_of (with_hop port (flip (way_from (hearer_of way))) hop) way ≡ hop
heard_at port Ul hop = refl
heard_at port Dl hop = refl

module _ (port : Port) (reaches : ReachesPort port) (way : Way) (number : ℕ) (bytes : List ℕ) (tx : Tx) (rx : Rx) (is : IsSide port (hearer_of way) tx rx) where
  -- the receiver is that of the way's hop
  its_rx : rx ≡ (hop_of port way).rx
  its_rx = is.its_rx ∙ hearing_rx port way

  -- and the transmitter that of the other one
  its_tx : tx ≡ (hop_of port (flip way)).tx
  its_tx = is.its_tx ∙ hearing_tx port way

  module _ (made : Data) (same : made.number ≡ number) (spelt : SpellsData (hop_of port way) made bytes) (fresh : IsFresh rx.size false number (rx_next rx)) where
    abbrev fore : Hop
    fore = hop_of port way

    size : rx.size ≡ fore.tx.size
    size = ap (λ (r : Rx). r.size) its_rx ∙ (reaches_inv fore (reaches way)).size

    is_data : IsAmd rx.size made.view bytes
    is_data = subst (λ (z : SnSize). IsAmd z made.view bytes) (sym size) (subst (IsAmd fore.tx.size made.view) (sym spelt.octets)
        (spells fore.tx.size made.view ((reaches_inv fore (reaches way)).pdus made spelt.among).fits))

    no_control : IsControl bytes → ⊥
    no_control = data_apart bytes is_data.dc

    reads : (v : AmdPdu) → IsAmd rx.size v bytes → v ≡ made.view
    reads v read = (reads_back fore.tx.size made.view ((reaches_inv fore (reaches way)).pdus made spelt.among).fits).2 v
        (subst (IsAmd fore.tx.size v) spelt.octets (subst (λ (z : SnSize). IsAmd z v bytes) size read))

    module _ (tx' : Tx) (rx' : Rx) (v : AmdPdu) (answer : Heard) (read : IsAmd rx.size v bytes) (hears : Hears rx v answer rx') (kept : tx' ≡ tx) where
      -- it is heard at its hop
      heard : Hears fore.rx made.view answer rx'
      heard = subst (λ (r : Rx). Hears r made.view answer rx') its_rx (subst (λ (w : AmdPdu). Hears rx w answer rx') (reads v read) hears)

      still : IsFresh fore.rx.size false made.number (rx_next fore.rx)
      still = subst (λ (r : Rx). IsFresh r.size false made.number (rx_next r)) its_rx (subst (λ (n : ℕ). IsFresh rx.size false n (rx_next rx)) (sym same) fresh)

      abbrev behind : Hop
      behind = record fore { rx = rx'; completed = completed_after answer fore.completed; heard = made ∷ fore.heard }

      goes : Happens fore (Deliver made) behind
      goes = delivers answer rx' spelt.among still heard

      as_given : (a : Heard) → Hears fore.rx made.view a rx' → IsAsGiven fore number a
      as_given Stored h = tt
      as_given Repeat h = tt
      as_given Outside h = (none_outside fore (reaches way) made spelt.among still rx').0 h
      as_given Conflict h = (none_outside fore (reaches way) made spelt.among still rx').1 h
      as_given (Complete x sdu) h =
          let done = record fore { rx = rx'; completed = record { number = x; sdu = sdu } ∷ fore.completed; heard = made ∷ fore.heard } in
          let own : x ≡ number = (reads_own_number fore (reaches way) made spelt.among still).1 x h.0 ∙ same in
          let up = completes_as_given done (reaches_more fore (Deliver made) done (reaches way) (delivers (Complete x sdu) rx' spelt.among still h)) (record { number = x; sdu = sdu }) (contains_here _ fore.completed) in
          (own, omega (arith, own, up.0), up.1 ∙ ap (given_at fore) own)

      data_heard : HearsDataMade port way number bytes answer tx' rx'
      data_heard = record {
        heard = made;
        its_number = same;
        spells = spelt;
        hears = heard;
        behind = with_hop port (flip (way_from (hearer_of way))) behind;
        completed = ap (λ (h : Hop). h.completed) (heard_at port way behind);
        moves = subst (λ (w : Way). MovesSide port (hearer_of way) w (Deliver made) tx' rx' (with_hop port (flip (way_from (hearer_of way))) behind)) (hears_way way)
            (moves_rx port (hearer_of way) (Deliver made) behind tx' (subst (λ (w : Way). Happens (hop_of port w) (Deliver made) behind) (sym (hears_way way)) goes) (ap (λ (w : Way). (hop_of port w).tx) (sym (hears_way way))) (kept ∙ is.its_tx));
        as_given = as_given answer heard;
      }

    data_leaves : (answer : HopHeard) (tx' : Tx) (rx' : Rx) → HearsHop tx rx bytes answer tx' rx' → HearLeaves port way false number bytes answer tx' rx'
    data_leaves (Amd answer) tx' rx' h = data_heard tx' rx' h.1 answer h.2 h.3 h.4
    data_leaves (Status answer) tx' rx' h = no_control h.0
    data_leaves (BadAmd fault) tx' rx' h = not_both rx.size made.view bytes fault is_data h.1
    data_leaves (BadStatus fault) tx' rx' h = no_control h.0

  module _ (made : StatusMade) (same : made.ack ≡ number) (spelt : SpellsStatus (hop_of port (flip way)) made bytes) (fresh : IsFresh tx.size true number (tx_next_ack tx)) where
    abbrev back : Hop
    back = hop_of port (flip way)

    back_size : back.rx.size ≡ tx.size
    back_size = (reaches_inv back (reaches (flip way))).size ∙ ap (λ (t : Tx). t.size) (sym its_tx)

    fits : StatusFits back.rx.size made.status
    fits = ((reaches_inv back (reaches (flip way))).statuses made spelt.among).fits

    is_status : IsStatus tx.size made.status bytes
    is_status = subst (λ (z : SnSize). IsStatus z made.status bytes) back_size (subst (IsStatus back.rx.size made.status) (sym spelt.octets)
        (is_free back.rx.size made.status _ (plain back.rx.size made.status fits)))

    control : IsControl bytes
    control = subst IsControl (sym spelt.octets) (status_control back.rx.size made.status fits.0)

    module _ (tx' : Tx) (rx' : Rx) (s : StatusPdu) (answer : StatusHeard) (read : IsStatus tx.size s bytes) (hears : HearsStatus tx s answer tx') (kept : rx' ≡ rx) where
      told : HearsStatus back.tx made.status answer tx'
      told = subst (λ (t : Tx). HearsStatus t made.status answer tx') its_tx (subst (λ (w : StatusPdu). HearsStatus tx w answer tx') (one_reading tx.size s made.status bytes read is_status) hears)

      still_told : IsFresh back.tx.size true made.ack (tx_next_ack back.tx)
      still_told = subst (λ (t : Tx). IsFresh t.size true made.ack (tx_next_ack t)) its_tx (subst (λ (n : ℕ). IsFresh tx.size true n (tx_next_ack tx)) (sym same) fresh)

      abbrev after : Hop
      after = record back { tx = tx' }

      acks : Happens back (DeliverStatus made) after
      acks = acknowledges answer tx' spelt.among still_told told

      of_sent : (a : StatusHeard) → HearsStatus back.tx made.status a tx' → IsOfSent a
      of_sent (Acked tags marks) h = tt
      of_sent (Old ack next) h = tt
      of_sent (Beyond ack sent) h = none_beyond back (reaches (flip way)) made spelt.among still_told h.0

      status_heard : HearsStatusMade port way number bytes answer tx' rx'
      status_heard = record {
        heard = made;
        its_number = same;
        spells = spelt;
        hears = told;
        behind = with_hop port (way_from (hearer_of way)) after;
        moves = subst (λ (w : Way). MovesSide port (hearer_of way) w (DeliverStatus made) tx' rx' (with_hop port (way_from (hearer_of way)) after)) (sends_back way)
            (moves_tx port (hearer_of way) (DeliverStatus made) after rx' (subst (λ (w : Way). Happens (hop_of port w) (DeliverStatus made) after) (sym (sends_back way)) acks) (ap (λ (w : Way). (hop_of port w).rx) (sym (sends_back way))) (kept ∙ is.its_rx));
        of_sent = of_sent answer told;
      }

    status_leaves : (answer : HopHeard) (tx' : Tx) (rx' : Rx) → HearsHop tx rx bytes answer tx' rx' → HearLeaves port way true number bytes answer tx' rx'
    status_leaves (Amd answer) tx' rx' h = h.0 control
    status_leaves (Status answer) tx' rx' h = status_heard tx' rx' h.1 answer h.2 h.3 h.4
    status_leaves (BadAmd fault) tx' rx' h = h.0 control
    status_leaves (BadStatus fault) tx' rx' h = no_fault tx.size made.status bytes fault is_status h.2

pub hear_moves : HearMoves
hear_moves port reaches pdu made tx rx is epoch none answer tx' rx' hears = go pdu.status refl made none
  where
    go : (status : Bool) → pdu.status ≡ status → HasMade port pdu.way status pdu.number pdu.bytes → cond status (air_fault tx.size pdu epoch (tx_next_ack tx)) (air_fault rx.size pdu epoch (rx_next rx)) ≡ None → HearLeaves port pdu.way status pdu.number pdu.bytes answer tx' rx'
    go false kind m none = data_leaves port reaches pdu.way pdu.number pdu.bytes tx rx is m.0 m.1 m.2
        (subst (λ (b : Bool). IsFresh rx.size b pdu.number (rx_next rx)) kind ((passes_fresh rx.size pdu epoch (rx_next rx)).0 none).1) answer tx' rx' hears
    go true kind m none = status_leaves port reaches pdu.way pdu.number pdu.bytes tx rx is m.0 m.1 m.2
        (subst (λ (b : Bool). IsFresh tx.size b pdu.number (tx_next_ack tx)) kind ((passes_fresh tx.size pdu epoch (tx_next_ack tx)).0 none).1) answer tx' rx' hears
