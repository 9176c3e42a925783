-- The worked run on the direct path.
use Rattle.std.proofs.Common.{ℕ, Bool, true, false, List, [], ◌∷◌, Option, Some, None, refl, arith}
use Rattle.std.proofs.lemmas.Option.{none-some}
use Rattle.std.specs.declared.result.Result.TheVariants.{Ok as OkOf}
use Rattle.link_base.specs.declared.names.Goal.TheVariants.{Direct as ToDirect}
use Rattle.link_base.specs.declared.names.Side.TheVariants.{High}
use Rattle.link_base.specs.declared.names.SnSize.TheVariants.{S12}
use Rattle.link_base.specs.declared.names.Timer.TheVariants.{Reasm, Prohibit}
use Rattle.link_base.specs.declared.names.Way.TheVariants.{Ul, Dl}
use Rattle.link_base.specs.declared.rlc_words.Tag.{Tag}
use Rattle.bearer_map.specs.Contents.{Contents}
use Rattle.rlc_status.specs.Format.{IsStatus}
use Rattle.rlc_model.specs.declared.hop.Pdu.{Pdu}
use Rattle.rlc_model.specs.declared.hop.HopHeard.TheVariants.{Status}
use Rattle.rlc_model.specs.declared.transmitter.StatusHeard.TheVariants.{Acked}
use Rattle.rlc_model.specs.Tx.{Tx}
use Rattle.pdcp_model.specs.declared.answers.PdcpHeard.TheVariants.{Up as HandedUp, Stored}
use Rattle.pdcp_model.specs.Sender.{Sender, new_sender}
use Rattle.pdcp_model.specs.Receiver.{new_receiver}
use Rattle.script_text.specs.declared.line.Line.TheVariants.{Submit, Grant, Deliver, Lose, Expire}
use Rattle.script_text.specs.declared.event.Event.TheVariants.{Up, Conf}
use Rattle.script_text.specs.declared.reply.Reply.TheVariants.{Ok, OkNumber, OkUp, OkWaiting, OkAcks, Air}
use Rattle.node_model.specs.declared.answers.NodeHeard.TheVariants as answers
use Rattle.node_model.specs.Names.{back}
use Rattle.node_model.specs.Routing.{ToPdcp}
use Rattle.chain_model.specs.State.{opened}
use Rattle.chain_model.specs.Steps.{Step}
use Rattle.chain_model.specs.Worked.{remote, key, pc5, uu, direct, tables_on, GoesDirect}
use Rattle.chain_model.proofs.Sending.{kept, tx_of}
use Rattle.chain_model.proofs.Receiving.{octets, heard, hears_first, told, confirms}
use Rattle.chain_model.proofs.Fed.{feeds_data}
use Rattle.chain_model.proofs.Acts.{gives, rests, grants, expires, delivers, delivers_sdu, data_comes}
use Rattle.chain_model.proofs.WorkedChain.{closed, entity, opened_side, end_of, Snap, remote_of, gnb_of, chain, no_tx, no_rx, waiting, sent, sends_first, sends_status, remote_feeds}
use Rattle.chain_model.proofs.Lost.{lost, next, asks, acknowledges_first, t0, t1, t2, t3, t4, grants_lost, grants_next, grants_again, acknowledges_next, r1, r2, r3, r4, r5, hears_next, runs_out, makes_asks, hears_lost}
use Rattle.node_model.specs.State.{Incoming}

-- the tables
abbrev tables : Contents
tables = tables_on ToDirect

-- the chain at the beginning
abbrev d0 : Snap
d0 = record {
  tables = tables;
  remote_direct = opened_side direct 0 no_tx no_rx;
  remote_pc5 = closed pc5;
  relay_pc5 = closed pc5;
  relay_uu = opened_side uu 0 no_tx no_rx;
  gnb_direct = opened_side direct 0 no_tx no_rx;
  gnb_uu = opened_side uu 0 no_tx no_rx;
  remote_attached = [];
  relay_attached = [];
  gnb_attached = [];
  remote_sender = new_sender S12 0;
  gnb_sender = new_sender S12 0;
  remote_end = end_of (back key) (new_receiver S12 0) false false 0;
  gnb_end = end_of key (new_receiver S12 0) false false 0;
  plan = record { remote = remote; goal = ToDirect; epoch = 0; at_remote = true; at_relay = true; at_gnb = true };
  air = [];
}

-- the first SDU, and its PDCP PDU
abbrev sdu : List ℕ
sdu = 104 ∷ 105 ∷ []

abbrev pdcp_sdu : List ℕ
pdcp_sdu = 128 ∷ 0 ∷ sdu

-- what the transmitter keeps beside the SDU of a COUNT
abbrev tag : ℕ → Tag
tag count = record { key = key; count = Some count; ue = None }

-- the sender with these SDUs, of which so many had their turn
abbrev sender : List (Option (List ℕ)) → ℕ → Sender
sender kept place = record (new_sender S12 0) { kept = kept; place = place }

-- the receiving end that has handed up so many SDUs, with those stored
abbrev gnb_end_with : ℕ → List (Option (List ℕ)) → Incoming
gnb_end_with handed stored = end_of key (record (new_receiver S12 0) { handed = handed; stored = stored }) false false 0

-- PDUs on the direct port
abbrev data_pdu_of : ℕ → Bool → List ℕ → Pdu
data_pdu_of number poll sdu = record { port = direct; way = Ul; epoch = 0; status = false; number = number; bytes = octets number poll sdu }

abbrev status_of : ℕ → List ℕ → Pdu
status_of ack bytes = record { port = direct; way = Dl; epoch = 0; status = true; number = ack; bytes = bytes }

-- the octets of both STATUS PDUs
abbrev confirming : List ℕ
confirming = 0 ∷ 1 ∷ 0 ∷ []

abbrev asking : List ℕ
asking = 0 ∷ 3 ∷ 128 ∷ 0 ∷ 16 ∷ []

-- the transmitter whose only SDU is confirmed, and with one more
abbrev confirmed_tx : Tx
confirmed_tx = tx_of (None ∷ []) 0 0 (Some 0) false

abbrev one_more : Tx
one_more = tx_of (None ∷ Some (kept (tag 1) lost [] None) ∷ []) 0 0 (Some 0) false

-- the transmitter that loses a PDU
abbrev tx0 : Tx
tx0 = t0 (tag 1) (tag 2)

abbrev tx1 : Tx
tx1 = t1 (tag 1) (tag 2)

abbrev tx2 : Tx
tx2 = t2 (tag 1) (tag 2)

abbrev tx3 : Tx
tx3 = t3 (tag 1) (tag 2)

abbrev tx4 : Tx
tx4 = t4 (tag 1) (tag 2)

-- the chain behind each line; m1, m6 and m7 are before the remote feeds
abbrev m1 : Snap
m1 = record d0 { remote_sender = sender (Some sdu ∷ []) 0 }

abbrev d1 : Snap
d1 = record d0 { remote_sender = sender (Some sdu ∷ []) 1; remote_direct = opened_side direct 0 (waiting (tag 0) pdcp_sdu) no_rx }

abbrev d2 : Snap
d2 = record d1 { remote_direct = opened_side direct 0 (sent (tag 0) pdcp_sdu) no_rx; air = Some (data_pdu_of 0 true pdcp_sdu) ∷ [] }

abbrev d3 : Snap
d3 = record d2 { gnb_direct = opened_side direct 0 no_tx heard; gnb_end = gnb_end_with 1 []; air = None ∷ [] }

abbrev d4 : Snap
d4 = record d3 { gnb_direct = opened_side direct 0 no_tx told; air = None ∷ Some (status_of 1 confirming) ∷ [] }

abbrev d5 : Snap
d5 = record d4 { remote_direct = opened_side direct 0 confirmed_tx no_rx; remote_sender = sender (None ∷ []) 1; air = None ∷ None ∷ [] }

abbrev m6 : Snap
m6 = record d5 { remote_sender = sender (None ∷ Some (97 ∷ []) ∷ []) 1 }

abbrev d6 : Snap
d6 = record d5 { remote_sender = sender (None ∷ Some (97 ∷ []) ∷ []) 2; remote_direct = opened_side direct 0 one_more no_rx }

abbrev m7 : Snap
m7 = record d6 { remote_sender = sender (None ∷ Some (97 ∷ []) ∷ Some (98 ∷ []) ∷ []) 2 }

abbrev d7 : Snap
d7 = record d6 { remote_sender = sender (None ∷ Some (97 ∷ []) ∷ Some (98 ∷ []) ∷ []) 3; remote_direct = opened_side direct 0 tx0 no_rx }

abbrev d8 : Snap
d8 = record d7 { remote_direct = opened_side direct 0 tx1 no_rx; air = None ∷ None ∷ Some (data_pdu_of 1 false lost) ∷ [] }

abbrev d9 : Snap
d9 = record d8 { remote_direct = opened_side direct 0 tx2 no_rx; air = None ∷ None ∷ Some (data_pdu_of 1 false lost) ∷ Some (data_pdu_of 2 true next) ∷ [] }

abbrev d10 : Snap
d10 = record d9 { air = None ∷ None ∷ None ∷ Some (data_pdu_of 2 true next) ∷ [] }

abbrev d11 : Snap
d11 = record d10 { gnb_direct = opened_side direct 0 no_tx r1; gnb_end = gnb_end_with 1 (None ∷ Some (98 ∷ []) ∷ []); air = None ∷ None ∷ None ∷ None ∷ [] }

abbrev d12 : Snap
d12 = record d11 { gnb_direct = opened_side direct 0 no_tx r2 }

abbrev d13 : Snap
d13 = record d12 { gnb_direct = opened_side direct 0 no_tx r3 }

abbrev d14 : Snap
d14 = record d13 { gnb_direct = opened_side direct 0 no_tx r4; air = None ∷ None ∷ None ∷ None ∷ Some (status_of 3 asking) ∷ [] }

abbrev d15 : Snap
d15 = record d14 { remote_direct = opened_side direct 0 tx3 no_rx; remote_sender = sender (None ∷ Some (97 ∷ []) ∷ None ∷ []) 3; air = None ∷ None ∷ None ∷ None ∷ None ∷ [] }

abbrev d16 : Snap
d16 = record d15 { remote_direct = opened_side direct 0 tx4 no_rx; air = None ∷ None ∷ None ∷ None ∷ None ∷ Some (data_pdu_of 1 true lost) ∷ [] }

abbrev d17 : Snap
d17 = record d16 { gnb_direct = opened_side direct 0 no_tx r5; gnb_end = gnb_end_with 3 []; air = None ∷ None ∷ None ∷ None ∷ None ∷ None ∷ [] }

-- the first SDU is submitted, sent and handed up
submits : Step (opened tables) (Submit key sdu) [] (OkNumber 0) (chain d1)
submits = gives (opened tables) (chain m1) [] [] (chain d1).nodes (refl, refl, refl)
    (remote_feeds m1 d1 [] (feeds_data tables (remote_of m1) key direct m1.remote_direct (entity 0 no_tx no_rx) refl refl (omega arith) sdu refl refl refl refl refl refl)
    refl) refl

sends_sdu : Step (chain d1) (Grant direct Ul 100) [] (Air 1 false 0 (octets 0 true pdcp_sdu)) (chain d2)
sends_sdu = rests (chain d1) (chain d2) []
    (sends_first (chain d1) direct Ul d1.remote_direct 0 (tag 0) pdcp_sdu no_rx refl refl refl refl (omega arith) (omega arith) refl refl refl refl) refl refl

hands_up : Step (chain d2) (Deliver 1) (Up key sdu ∷ []) (OkUp 1) (chain d3)
hands_up = rests (chain d2) (chain d3) (Up key sdu ∷ [])
    (delivers_sdu (chain d2) 1 (data_pdu_of 0 true pdcp_sdu) d2.gnb_direct (entity 0 no_tx no_rx) heard true pdcp_sdu (OkOf (ToPdcp key pdcp_sdu))
    (answers.Up key (sdu ∷ [])) (gnb_of d3) (Up key sdu ∷ []) (OkUp 1)
    refl refl refl refl refl refl (omega arith) (omega arith) (omega arith) (hears_first pdcp_sdu (omega arith)) refl
    (data_comes (record (gnb_of d3) { incoming = d2.gnb_end ∷ [] }) key 0 sdu (HandedUp (sdu ∷ [])) d3.gnb_end.receiver refl (omega arith) (omega arith)
    (record { same = refl; low = omega arith; high = omega arith }, omega arith, refl, refl, refl)) (refl, refl) refl) refl refl

-- the STATUS PDU goes back, and confirms it
confirms_back : Step (chain d3) (Grant direct Dl 100) [] (Air 2 true 1 confirming) (chain d4)
confirms_back = rests (chain d3) (chain d4) [] (sends_status (chain d3) direct Dl d3.gnb_direct 0 no_tx refl refl refl) refl refl

is_confirmed : Step (chain d4) (Deliver 2) (Conf key 1 ∷ []) (OkAcks 1) (chain d5)
is_confirmed = rests (chain d4) (chain d5) []
    (delivers (chain d4) 2 (status_of 1 confirming) d4.remote_direct (entity 0 (sent (tag 0) pdcp_sdu) no_rx) (Status (Acked (tag 0 ∷ []) [])) confirmed_tx no_rx
    (answers.Hop (Status (Acked (tag 0 ∷ []) []))) (remote_of d5) [] (OkAcks 1) refl refl refl refl
    (record { some = omega arith; dc = omega arith }, confirms, spells, acknowledges_first (tag 0) pdcp_sdu refl refl, refl) (refl, refl) (refl, refl) refl) refl refl
  where
    spells : IsStatus S12 confirms confirming
    spells = record { front = confirming; rest = []; both = refl; first = (record { dc = refl; cpt = refl }, refl, refl, tt); second = refl }

-- two more are submitted and sent, and the first of them is lost
submits_lost : Step (chain d5) (Submit key (97 ∷ [])) [] (OkNumber 1) (chain d6)
submits_lost = gives (chain d5) (chain m6) [] [] (chain d6).nodes (refl, refl, refl)
    (remote_feeds m6 d6 [] (feeds_data tables (remote_of m6) key direct m6.remote_direct (entity 0 confirmed_tx no_rx) refl refl (omega arith) (97 ∷ []) refl refl refl
    refl refl refl) refl) refl

submits_next : Step (chain d6) (Submit key (98 ∷ [])) [] (OkNumber 2) (chain d7)
submits_next = gives (chain d6) (chain m7) [] [] (chain d7).nodes (refl, refl, refl)
    (remote_feeds m7 d7 [] (feeds_data tables (remote_of m7) key direct m7.remote_direct (entity 0 one_more no_rx) refl refl (omega arith) (98 ∷ []) refl refl refl refl
    refl refl) refl) refl

sends_lost : Step (chain d7) (Grant direct Ul 100) [] (Air 3 false 1 (octets 1 false lost)) (chain d8)
sends_lost = rests (chain d7) (chain d8) []
    (grants (chain d7) direct Ul 100 d7.remote_direct (entity 0 tx0 no_rx) false 1 (octets 1 false lost) tx1 no_rx refl refl refl (grants_lost (tag 1) (tag 2) no_rx refl))
    refl refl

sends_next : Step (chain d8) (Grant direct Ul 100) [] (Air 4 false 2 (octets 2 true next)) (chain d9)
sends_next = rests (chain d8) (chain d9) []
    (grants (chain d8) direct Ul 100 d8.remote_direct (entity 0 tx1 no_rx) false 2 (octets 2 true next) tx2 no_rx refl refl refl (grants_next (tag 1) (tag 2) no_rx refl))
    refl refl

loses : Step (chain d9) (Lose 3) [] Ok (chain d10)
loses = rests (chain d9) (chain d10) [] (refl, refl, refl) refl refl

waits : Step (chain d10) (Deliver 4) [] OkWaiting (chain d11)
waits = rests (chain d10) (chain d11) []
    (delivers_sdu (chain d10) 4 (data_pdu_of 2 true next) d10.gnb_direct (entity 0 no_tx told) r1 true next (OkOf (ToPdcp key next)) answers.Waiting (gnb_of d11) [] OkWaiting
    refl refl refl refl refl refl (omega arith) (omega arith) (omega arith) hears_next refl
    (data_comes (record (gnb_of d11) { incoming = d10.gnb_end ∷ [] }) key 2 (98 ∷ []) Stored d11.gnb_end.receiver refl (omega arith) (omega arith)
    (1, record { same = refl; low = omega arith; high = omega arith }, omega arith, omega arith, refl, refl)) (refl, refl) refl) refl refl

-- both timers run out, and the STATUS PDU asks for it
expires_prohibit : Step (chain d11) (Expire direct High Prohibit) [] Ok (chain d12)
expires_prohibit = rests (chain d11) (chain d12) []
    (expires (chain d11) direct High Prohibit d11.gnb_direct (entity 0 no_tx r1) no_tx r2 refl refl refl (record { runs = refl; is = refl }, refl)) refl refl

expires_reasm : Step (chain d12) (Expire direct High Reasm) [] Ok (chain d13)
expires_reasm = rests (chain d12) (chain d13) [] (expires (chain d12) direct High Reasm d12.gnb_direct (entity 0 no_tx r2) no_tx r3 refl refl refl (runs_out, refl)) refl refl

asks_back : Step (chain d13) (Grant direct Dl 100) [] (Air 5 true 3 asking) (chain d14)
asks_back = rests (chain d13) (chain d14) []
    (grants (chain d13) direct Dl 100 d13.gnb_direct (entity 0 no_tx r3) true 3 asking no_tx r4 refl refl refl (asks, makes_asks, refl, refl)) refl refl

is_asked : Step (chain d14) (Deliver 5) [] (OkAcks 1) (chain d15)
is_asked = rests (chain d14) (chain d15) []
    (delivers (chain d14) 5 (status_of 3 asking) d14.remote_direct (entity 0 tx2 no_rx) (Status (Acked (tag 2 ∷ []) [])) tx3 no_rx
    (answers.Hop (Status (Acked (tag 2 ∷ []) []))) (remote_of d15) [] (OkAcks 1) refl refl refl refl
    (record { some = omega arith; dc = omega arith }, asks, spells, acknowledges_next (tag 1) (tag 2), refl) (refl, refl) (refl, refl) refl) refl refl
  where
    spells : IsStatus S12 asks asking
    spells = record {
      front = 0 ∷ 3 ∷ 128 ∷ [];
      rest = 0 ∷ 16 ∷ [];
      both = refl;
      first = (record { dc = refl; cpt = refl }, refl, refl, tt);
      second = record {
        front = 0 ∷ 16 ∷ [];
        rest = [];
        both = refl;
        first = record {
          spelt = record {
            front = 0 ∷ 16 ∷ [];
            rest = [];
            both = refl;
            first = (refl, refl, refl, refl, tt);
            second = record { front = []; rest = []; both = refl; first = tt; second = tt };
          };
          range = λ e. none-some 0 e;
          order = λ x y part one. absurd (none-some (x, y) part);
        };
        second = refl;
      };
    }

-- it is sent again, and both are handed up
sends_again : Step (chain d15) (Grant direct Ul 100) [] (Air 6 false 1 (octets 1 true lost)) (chain d16)
sends_again = rests (chain d15) (chain d16) []
    (grants (chain d15) direct Ul 100 d15.remote_direct (entity 0 tx3 no_rx) false 1 (octets 1 true lost) tx4 no_rx refl refl refl
    (grants_again (tag 1) (tag 2) no_rx refl)) refl refl

hands_both_up : Step (chain d16) (Deliver 6) (Up key (97 ∷ []) ∷ Up key (98 ∷ []) ∷ []) (OkUp 2) (chain d17)
hands_both_up = rests (chain d16) (chain d17) (Up key (97 ∷ []) ∷ Up key (98 ∷ []) ∷ [])
    (delivers_sdu (chain d16) 6 (data_pdu_of 1 true lost) d16.gnb_direct (entity 0 no_tx r4) r5 true lost (OkOf (ToPdcp key lost))
    (answers.Up key ((97 ∷ []) ∷ (98 ∷ []) ∷ [])) (gnb_of d17)
    (Up key (97 ∷ []) ∷ Up key (98 ∷ []) ∷ []) (OkUp 2) refl refl refl refl refl refl (omega arith) (omega arith) (omega arith) hears_lost refl
    (data_comes (record (gnb_of d17) { incoming = d16.gnb_end ∷ [] }) key 1 (97 ∷ []) (HandedUp ((97 ∷ []) ∷ (98 ∷ []) ∷ [])) d17.gnb_end.receiver refl (omega arith)
    (omega arith)
    (record { same = refl; low = omega arith; high = omega arith }, omega arith, refl, refl, refl)) (refl, refl) refl) refl refl

pub goes_direct : GoesDirect
goes_direct = (
  chain d5,
  chain d11,
  (chain d1, chain d2, chain d3, chain d4, submits, sends_sdu, hands_up, confirms_back, is_confirmed),
  (chain d6, chain d7, chain d8, chain d9, chain d10, submits_lost, submits_next, sends_lost, sends_next, loses, waits),
  (chain d12, chain d13, chain d14, chain d15, chain d16, chain d17, expires_prohibit, expires_reasm, asks_back, is_asked, sends_again, hands_both_up),
)
