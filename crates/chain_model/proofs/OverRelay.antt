-- The worked run over the relay.
use Rattle.std.proofs.Common.{inl, ℕ, ◌<◌, true, false, List, [], ◌∷◌, length, Some, None, refl, arith}
use Rattle.std.specs.declared.result.Result.TheVariants.{Ok as OkOf}
use Rattle.link_base.specs.declared.names.Goal.TheVariants.{Relay as ToRelay}
use Rattle.link_base.specs.declared.names.PortName.{PortName}
use Rattle.link_base.specs.declared.names.SnSize.TheVariants.{S12}
use Rattle.link_base.specs.declared.names.Way.{Way}
use Rattle.link_base.specs.declared.names.Way.TheVariants.{Ul, Dl}
use Rattle.link_base.specs.declared.rlc_words.Tag.{Tag}
use Rattle.bearer_map.specs.declared.ids.Attachment.{Attachment}
use Rattle.bearer_map.specs.declared.rows.MapRow.{MapRow}
use Rattle.bearer_map.specs.Ids.{IsAttached}
use Rattle.bearer_map.specs.Routes.{MapsBearer}
use Rattle.srap_header.specs.Srap.{srap, IsSrap}
use Rattle.rlc_model.specs.declared.hop.Pdu.{Pdu}
use Rattle.pdcp_model.specs.declared.answers.PdcpHeard.TheVariants.{Up as HandedUp}
use Rattle.pdcp_model.specs.Sender.{new_sender}
use Rattle.pdcp_model.specs.Receiver.{Receiver, new_receiver}
use Rattle.script_text.specs.declared.line.Line.TheVariants.{Submit, Grant, Deliver, Push, Pull, Report}
use Rattle.script_text.specs.declared.event.Event.TheVariants.{Up, Conf, Rep}
use Rattle.script_text.specs.declared.reply.Reply.TheVariants.{Ok, OkNumber, OkPort, OkSlot, OkUp, OkReport, Air}
use Rattle.node_model.specs.declared.answers.NodeHeard.TheVariants as answers
use Rattle.node_model.specs.declared.parcel.Parcel.{Parcel}
use Rattle.node_model.specs.Names.{back}
use Rattle.node_model.specs.Routing.{ToPdcp, Onward}
use Rattle.chain_model.specs.State.{opened}
use Rattle.chain_model.specs.Steps.{Step}
use Rattle.chain_model.specs.Worked.{remote, key, pc5, uu, direct, tables, SduInSlot, GoesOverRelay}
use Rattle.chain_model.proofs.Receiving.{octets, heard, hears_first, told}
use Rattle.chain_model.proofs.Fed.{feeds_behind, feeds_data, feeds_report}
use Rattle.chain_model.proofs.Acts.{gives, rests, delivers_sdu, pushes, pulls, data_comes, report_comes, reports_next}
use Rattle.chain_model.proofs.WorkedChain.{closed, entity, opened_side, end_of, Snap, remote_of, relay_of, gnb_of, chain, no_tx, no_rx, waiting, sent, sends_first, sends_status, remote_feeds, gnb_feeds}

-- the local identity of the remote
abbrev pub attached : List Attachment
attached = record { remote = remote; id = record { 0 = 5 } } ∷ []

-- the chain at the beginning
abbrev pub s0 : Snap
s0 = record {
  tables = tables;
  remote_direct = closed direct;
  remote_pc5 = opened_side pc5 0 no_tx no_rx;
  relay_pc5 = opened_side pc5 0 no_tx no_rx;
  relay_uu = opened_side uu 0 no_tx no_rx;
  gnb_direct = closed direct;
  gnb_uu = opened_side uu 0 no_tx no_rx;
  remote_attached = attached;
  relay_attached = attached;
  gnb_attached = attached;
  remote_sender = new_sender S12 0;
  gnb_sender = new_sender S12 0;
  remote_end = end_of (back key) (new_receiver S12 0) false false 0;
  gnb_end = end_of key (new_receiver S12 0) false false 0;
  plan = record { remote = remote; goal = ToRelay (record { 0 = 5 }); epoch = 0; at_remote = true; at_relay = true; at_gnb = true };
  air = [];
}

-- the SDU, and as it is on its way: SRAP header, PDCP header, and two bytes
abbrev pub sdu : List ℕ
sdu = 104 ∷ 105 ∷ []

abbrev pub pdcp_sdu : List ℕ
pdcp_sdu = 128 ∷ 0 ∷ sdu

abbrev pub srap_sdu : List ℕ
srap_sdu = 128 ∷ 5 ∷ pdcp_sdu

-- what the transmitters keep beside it
abbrev pub tag : Tag
tag = record { key = key; count = Some 0; ue = Some (record { 0 = 5 }) }

abbrev relay_tag : Tag
relay_tag = record { key = key; count = None; ue = Some (record { 0 = 5 }) }

-- the SDU at the relay
abbrev pub parcel : Parcel
parcel = record { from = pc5; route = record { egress = uu; key = key }; sdu = srap_sdu }

-- a data PDU of number 0 in epoch 0
abbrev data_pdu_on : PortName → Way → List ℕ → Pdu
data_pdu_on port way sdu = record { port = port; way = way; epoch = 0; status = false; number = 0; bytes = octets 0 true sdu }

-- the chain behind each line; m1 is before the remote feeds
abbrev m1 : Snap
m1 = record s0 { remote_sender = record (new_sender S12 0) { kept = Some sdu ∷ [] } }

abbrev s1 : Snap
s1 = record s0 { remote_sender = record (new_sender S12 0) { kept = Some sdu ∷ []; place = 1 }; remote_pc5 = opened_side pc5 0 (waiting tag srap_sdu) no_rx }

abbrev s2 : Snap
s2 = record s1 { remote_pc5 = opened_side pc5 0 (sent tag srap_sdu) no_rx; air = Some (data_pdu_on pc5 Ul srap_sdu) ∷ [] }

abbrev pub s3 : Snap
s3 = record s2 { relay_pc5 = record (opened_side pc5 0 no_tx heard) { slot = Some parcel }; air = None ∷ [] }

abbrev s4 : Snap
s4 = record s3 { relay_pc5 = opened_side pc5 0 no_tx heard; relay_uu = record (opened_side uu 0 no_tx no_rx) { queue = parcel ∷ [] } }

abbrev s5 : Snap
s5 = record s4 { relay_uu = opened_side uu 0 (waiting relay_tag srap_sdu) no_rx }

abbrev s6 : Snap
s6 = record s5 { relay_uu = opened_side uu 0 (sent relay_tag srap_sdu) no_rx; air = None ∷ Some (data_pdu_on uu Ul srap_sdu) ∷ [] }

-- the receiver that has handed up the SDU
abbrev handed : Receiver
handed = record (new_receiver S12 0) { handed = 1 }

abbrev s7 : Snap
s7 = record s6 { gnb_uu = opened_side uu 0 no_tx heard; gnb_end = end_of key handed false false 0; air = None ∷ None ∷ [] }

-- the row of the bearer's channels
abbrev row : MapRow
row = record { remote = remote; drb = record { 0 = 1 }; pc5 = record { 0 = 1 }; uu = record { 0 = 1 } }

-- it is the one that BEARER ID 0 names
maps : MapsBearer tables.maps remote 0 row
maps = record { among = (0, omega arith, refl); of_remote = refl; of_bearer = refl }

-- the remote has the identity 5
is_attached : IsAttached attached remote 5
is_attached = (0, omega arith, refl)

-- the SRAP header of the run
spells : (body : List ℕ) → 0 < length body → IsSrap (srap 0 5 body) (128 ∷ 5 ∷ body)
spells body some = (record { is_data = refl; bearer_id = refl }, refl, refl, omega (arith, some))

-- it is submitted, and the remote gives it to its first hop
submits : Step (opened tables) (Submit key sdu) [] (OkNumber 0) (chain s1)
submits = gives (opened tables) (chain m1) [] [] (chain s1).nodes (refl, refl, refl)
    (remote_feeds m1 s1 [] (feeds_data tables (remote_of m1) key pc5 m1.remote_pc5 (entity 0 no_tx no_rx) refl refl (omega arith) sdu refl refl refl refl refl refl) refl) refl

-- it goes over the first hop into the slot
grants_pc5 : Step (chain s1) (Grant pc5 Ul 100) [] (Air 1 false 0 (octets 0 true srap_sdu)) (chain s2)
grants_pc5 = rests (chain s1) (chain s2) []
    (sends_first (chain s1) pc5 Ul s1.remote_pc5 0 tag srap_sdu no_rx refl refl refl refl (omega arith) (omega arith) refl refl refl refl) refl refl

delivers_first : Step (chain s2) (Deliver 1) [] (OkSlot uu) (chain s3)
delivers_first = rests (chain s2) (chain s3) []
    (delivers_sdu (chain s2) 1 (data_pdu_on pc5 Ul srap_sdu) s2.relay_pc5 (entity 0 no_tx no_rx) heard true srap_sdu (OkOf (Onward parcel.route)) (answers.Slot uu)
    (relay_of s3) [] (OkSlot uu)
    refl refl refl refl refl refl (omega arith) (omega arith) (omega arith) (hears_first srap_sdu (omega arith))
    (inl (srap 0 5 pdcp_sdu, spells pdcp_sdu (omega arith), (is_attached, row, maps, refl, refl))) (refl, refl) (refl, refl) refl) refl refl

-- the relay pushes and pulls it
pushes_up : Step (chain s3) (Push pc5) [] (OkPort uu) (chain s4)
pushes_up = rests (chain s3) (chain s4) [] (pushes (chain s3) pc5 s3.relay_pc5 s3.relay_uu parcel refl refl refl refl) refl refl

pulls_up : Step (chain s4) (Pull uu) [] (OkNumber 0) (chain s5)
pulls_up = rests (chain s4) (chain s5) [] (pulls (chain s4) uu s4.relay_uu (entity 0 no_tx no_rx) parcel [] refl refl refl refl (omega arith)) refl refl

-- it goes over the second hop and is handed up
grants_uu : Step (chain s5) (Grant uu Ul 100) [] (Air 2 false 0 (octets 0 true srap_sdu)) (chain s6)
grants_uu = rests (chain s5) (chain s6) []
    (sends_first (chain s5) uu Ul s5.relay_uu 0 relay_tag srap_sdu no_rx refl refl refl refl (omega arith) (omega arith) refl refl refl refl) refl refl

delivers_second : Step (chain s6) (Deliver 2) (Up key sdu ∷ []) (OkUp 1) (chain s7)
delivers_second = rests (chain s6) (chain s7) (Up key sdu ∷ [])
    (delivers_sdu (chain s6) 2 (data_pdu_on uu Ul srap_sdu) s6.gnb_uu (entity 0 no_tx no_rx) heard true srap_sdu (OkOf (ToPdcp key pdcp_sdu)) (answers.Up key (sdu ∷ []))
    (gnb_of s7) (Up key sdu ∷ []) (OkUp 1)
    refl refl refl refl refl refl (omega arith) (omega arith) (omega arith) (hears_first srap_sdu (omega arith))
    (inl (srap 0 5 pdcp_sdu, spells pdcp_sdu (omega arith), ((remote, is_attached, row, maps, refl, refl), refl)))
    (data_comes (record (gnb_of s7) { incoming = s6.gnb_end ∷ [] }) key 0 sdu (HandedUp (sdu ∷ [])) handed refl (omega arith) (omega arith)
    (record { same = refl; low = omega arith; high = omega arith }, omega arith, refl, refl, refl)) (refl, refl) refl) refl refl

-- the report as PDCP has it, and on its way
abbrev report_of : List ℕ
report_of = 0 ∷ 0 ∷ 0 ∷ 0 ∷ 1 ∷ []

abbrev srap_report : List ℕ
srap_report = 128 ∷ 5 ∷ report_of

-- what the transmitters keep beside it: it is about the uplink, and goes downlink
abbrev back_tag : Tag
back_tag = record { key = back key; count = None; ue = Some (record { 0 = 5 }) }

abbrev back_parcel : Parcel
back_parcel = record { from = uu; route = record { egress = pc5; key = back key }; sdu = srap_report }

-- the STATUS PDU that a poll asked for
abbrev status_on : PortName → Pdu
status_on port = record { port = port; way = Dl; epoch = 0; status = true; number = 1; bytes = 0 ∷ 1 ∷ 0 ∷ [] }

-- the chain behind each line; m8 is before the gNB feeds
abbrev m8 : Snap
m8 = record s7 { gnb_end = end_of key handed true false 0 }

abbrev s8 : Snap
s8 = record s7 { gnb_end = end_of key handed false false 1; gnb_uu = opened_side uu 0 (waiting relay_tag srap_report) heard }

abbrev s9 : Snap
s9 = record s8 { gnb_uu = opened_side uu 0 (waiting relay_tag srap_report) told; air = None ∷ None ∷ Some (status_on uu) ∷ [] }

abbrev s10 : Snap
s10 = record s9 { gnb_uu = opened_side uu 0 (sent relay_tag srap_report) told; air = None ∷ None ∷ Some (status_on uu) ∷ Some (data_pdu_on uu Dl srap_report) ∷ [] }

abbrev s11 : Snap
s11 = record s10 { relay_uu = record (opened_side uu 0 (sent relay_tag srap_sdu) heard) { slot = Some back_parcel }; air = None ∷ None ∷ Some (status_on uu) ∷ None ∷ [] }

abbrev s12 : Snap
s12 = record s11 { relay_uu = opened_side uu 0 (sent relay_tag srap_sdu) heard; relay_pc5 = record (opened_side pc5 0 no_tx heard) { queue = back_parcel ∷ [] } }

abbrev s13 : Snap
s13 = record s12 { relay_pc5 = opened_side pc5 0 (waiting back_tag srap_report) heard }

abbrev s14 : Snap
s14 = record s13 { relay_pc5 = opened_side pc5 0 (waiting back_tag srap_report) told; air = None ∷ None ∷ Some (status_on uu) ∷ None ∷ Some (status_on pc5) ∷ [] }

abbrev s15 : Snap
s15 = record s14 {
  relay_pc5 = opened_side pc5 0 (sent back_tag srap_report) told;
  air = None ∷ None ∷ Some (status_on uu) ∷ None ∷ Some (status_on pc5) ∷ Some
      (data_pdu_on pc5 Dl srap_report) ∷ [];
}

abbrev s16 : Snap
s16 = record s15 {
  remote_pc5 = opened_side pc5 0 (sent tag srap_sdu) heard;
  remote_sender = record (new_sender S12 0) { kept = None ∷ []; place = 1 };
  air = None ∷ None ∷ Some (status_on uu) ∷ None ∷ Some (status_on pc5) ∷ None ∷ [];
}

-- the report is wanted, and the gNB gives it to its Uu hop
wants : Step (chain s7) (Report key) (Rep key ∷ []) Ok (chain s8)
wants = gives (chain s7) (chain m8) [] (key ∷ []) (chain s8).nodes (refl, refl, refl)
    (feeds_behind tables (remote_of s8) (relay_of s8 ∷ gnb_of m8 ∷ []) (relay_of s8 ∷ gnb_of s8 ∷ []) (key ∷ []) refl (gnb_feeds m8 s8 (key ∷ []) refl
    (feeds_report tables (gnb_of m8) key uu m8.gnb_uu (entity 0 no_tx heard) refl refl (omega arith) refl refl refl refl refl (reports_next handed refl) refl refl))) refl

-- the STATUS PDU goes first over the Uu hop, and then the report
grants_status_uu : Step (chain s8) (Grant uu Dl 100) [] (Air 3 true 1 (0 ∷ 1 ∷ 0 ∷ [])) (chain s9)
grants_status_uu = rests (chain s8) (chain s9) [] (sends_status (chain s8) uu Dl s8.gnb_uu 0 (waiting relay_tag srap_report) refl refl refl) refl refl

grants_back_uu : Step (chain s9) (Grant uu Dl 100) [] (Air 4 false 0 (octets 0 true srap_report)) (chain s10)
grants_back_uu = rests (chain s9) (chain s10) []
    (sends_first (chain s9) uu Dl s9.gnb_uu 0 relay_tag srap_report told refl refl refl refl (omega arith) (omega arith) refl refl refl refl) refl refl

delivers_third : Step (chain s10) (Deliver 4) [] (OkSlot pc5) (chain s11)
delivers_third = rests (chain s10) (chain s11) []
    (delivers_sdu (chain s10) 4 (data_pdu_on uu Dl srap_report) s10.relay_uu (entity 0 (sent relay_tag srap_sdu) no_rx) heard true srap_report
    (OkOf (Onward back_parcel.route)) (answers.Slot pc5) (relay_of s11) []
    (OkSlot pc5) refl refl refl refl refl refl (omega arith) (omega arith) (omega arith) (hears_first srap_report (omega arith))
    (inl (srap 0 5 report_of, spells report_of (omega arith), (remote, is_attached, row, maps, refl, refl))) (refl, refl) (refl, refl) refl) refl refl

-- the relay pushes and pulls it
pushes_down : Step (chain s11) (Push uu) [] (OkPort pc5) (chain s12)
pushes_down = rests (chain s11) (chain s12) [] (pushes (chain s11) uu s11.relay_uu s11.relay_pc5 back_parcel refl refl refl refl) refl refl

pulls_down : Step (chain s12) (Pull pc5) [] (OkNumber 0) (chain s13)
pulls_down = rests (chain s12) (chain s13) [] (pulls (chain s12) pc5 s12.relay_pc5 (entity 0 no_tx heard) back_parcel [] refl refl refl refl (omega arith)) refl refl

-- the STATUS PDU goes first over the PC5 hop, and then the report
grants_status_pc5 : Step (chain s13) (Grant pc5 Dl 100) [] (Air 5 true 1 (0 ∷ 1 ∷ 0 ∷ [])) (chain s14)
grants_status_pc5 = rests (chain s13) (chain s14) [] (sends_status (chain s13) pc5 Dl s13.relay_pc5 0 (waiting back_tag srap_report) refl refl refl) refl refl

grants_back_pc5 : Step (chain s14) (Grant pc5 Dl 100) [] (Air 6 false 0 (octets 0 true srap_report)) (chain s15)
grants_back_pc5 = rests (chain s14) (chain s15) []
    (sends_first (chain s14) pc5 Dl s14.relay_pc5 0 back_tag srap_report told refl refl refl refl (omega arith) (omega arith) refl refl refl refl) refl refl

-- with it the SDU is confirmed
delivers_last : Step (chain s15) (Deliver 6) (Conf key 1 ∷ []) OkReport (chain s16)
delivers_last = rests (chain s15) (chain s16) []
    (delivers_sdu (chain s15) 6 (data_pdu_on pc5 Dl srap_report) s15.remote_pc5 (entity 0 (sent tag srap_sdu) no_rx) heard true srap_report
    (OkOf (ToPdcp (back key) report_of)) (answers.Report key 0) (remote_of s16) [] OkReport
    refl refl refl refl refl refl (omega arith) (omega arith) (omega arith) (hears_first srap_report (omega arith))
    (inl (srap 0 5 report_of, spells report_of (omega arith), (record { 0 = 5 }, refl, ((refl, row, maps, refl, refl), refl))))
    (report_comes (record (remote_of s16) { outgoing = record { key = key; sender = s15.remote_sender } ∷ [] }) (back key) 1 (omega arith)) (refl, refl) refl) refl refl

pub in_slot : SduInSlot (chain s3)
in_slot = (chain s1, chain s2, submits, grants_pc5, delivers_first)

pub goes_over_relay : GoesOverRelay
goes_over_relay = (
  chain s3,
  chain s7,
  in_slot,
  (chain s4, chain s5, chain s6, pushes_up, pulls_up, grants_uu, delivers_second),
  (
    chain s8,
    chain s9,
    chain s10,
    chain s11,
    chain s12,
    chain s13,
    chain s14,
    chain s15,
    chain s16,
    wants,
    grants_status_uu,
    grants_back_uu,
    delivers_third,
    pushes_down,
    pulls_down,
    grants_status_pc5,
    grants_back_pc5,
    delivers_last,
  ),
)
