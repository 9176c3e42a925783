-- A PDU comes to its node: the lines deliver and repeat.
use Rattle.std.proofs.Common.{◌≡◌, ℕ, Bool, true, false, cond, List, Option, Some, None, Result, refl, sym, ◌∙◌, ap, subst}
use Rattle.link_base.specs.declared.discard.Discard.{Discard}
use Rattle.link_base.specs.declared.names.Drb.{Drb}
use Rattle.link_base.specs.declared.names.PortName.{PortName}
use Rattle.link_base.specs.declared.names.PortName.TheVariants.{Direct, Pc5, Uu}
use Rattle.link_base.specs.declared.names.Remote.{Remote}
use Rattle.link_base.specs.declared.names.Way.{Way}
use Rattle.link_base.specs.declared.names.Way.TheVariants.{Ul, Dl}
use Rattle.rlc_model.specs.declared.hop.Pdu.{Pdu}
use Rattle.rlc_model.specs.Hop.{on_air}
use Rattle.rlc_model.specs.declared.transmitter.StatusHeard.TheVariants as told
use Rattle.rlc_model.specs.Sides.{Entity, flip, hearer_of}
use Rattle.rlc_law.specs.Hop.{DeliverStatus}
use Rattle.chain_law.proofs.Chains.{node_name}
use Rattle.script_text.specs.declared.event.Event.{Event}
use Rattle.script_text.specs.declared.reply.Reply.{Reply}
use Rattle.node_model.specs.declared.answers.NodeHeard.{NodeHeard}
use Rattle.node_model.specs.Ends.{HearsPdcp}
use Rattle.node_model.specs.Hearing.{hear_refusal, Passes, HearsUnless, HearsPdu}
use Rattle.node_model.specs.Names.{NodeName, key_of, owner}
use Rattle.node_model.specs.Routing.{Target}
use Rattle.node_model.specs.State.{Node, side_at}
use Rattle.chain_model.specs.Lines.{Delivers, hearer, is_handed_over, without}
use Rattle.chain_model.specs.State.{Chain, node_at, set_node}
use Rattle.item_chain.specs.Foundations.{PduLaws}
use Rattle.item_chain.specs.Stands.{Ghost, Stands, Refines}
use Rattle.item_chain.specs.View.{view}
use Rattle.item_chain.proofs.Directs.{direct_takes}
use Rattle.item_chain.proofs.EndHears.{gnb_completes, gnb_confirms, remote_completes, remote_confirms}
use Rattle.item_chain.proofs.Goings.{stays}
use Rattle.item_chain.proofs.Heard.{IsHandedOver, handed_over, its_open, node_with, side_with, Completes, Confirms, pdu_hears}
use Rattle.item_chain.proofs.Hearing.{hears_way, status_stands}
use Rattle.item_chain.proofs.Confirms.{confirm_all, all_done}
use Rattle.item_chain.proofs.Ports.{ports_after, given_after}
use Rattle.item_chain.proofs.RelayHears.{up_completes, up_confirms, down_completes, down_confirms}
use Rattle.item_chain.proofs.Taken.{pdcp_taken}
use Rattle.item_chain.proofs.Tickets.{lost}
use Rattle.item_chain.proofs.Views.{same_node, entity_set}
use Rattle.item_chain.proofs.Given.{given_on}

module _ (l : PduLaws) (g : Ghost) (old : Chain) (st : Stands g (view old)) (ticket epoch number : ℕ) (kind : Bool) (bytes : List ℕ) (r : Remote) (d : Drb) (w : Way) where
  abbrev direct_pdu : Pdu
  direct_pdu = record { port = Direct r d; way = w; epoch = epoch; status = kind; number = number; bytes = bytes }

  module _ (on : on_air old.air ticket ≡ Some direct_pdu) (may : IsHandedOver direct_pdu (node_at old (owner (hearer_of w) (Direct r d)))) where
    direct_completes : Completes g old st ticket direct_pdu on may
    direct_completes k sdu tx rx h is target leads answer node passes =
        let opened = its_open g old st ticket direct_pdu on may in
        pdcp_taken l g old st w (Direct r d) may.side may.here may.entity opened number bytes tx rx k sdu h (key_of r d w) sdu
        (direct_takes g (view old) st may.entity number bytes tx rx k sdu r d w opened h) answer node
        (subst (λ (z : Way). HearsPdcp (node_with g old st ticket direct_pdu on may tx rx) (key_of r d z) sdu answer node) (hears_way w)
        (subst (λ (x : Result Target Discard). Passes (node_with g old st ticket direct_pdu on may tx rx) (side_with g old st ticket direct_pdu on may tx rx) sdu x answer node)
        leads passes))

    direct_confirms : Confirms g old st ticket direct_pdu on may
    direct_confirms tags marks tx rx h is =
        let opened = its_open g old st ticket direct_pdu on may in
        let name : NodeName = owner (hearer_of w) (Direct r d) in
        let x : Entity = record may.entity { tx = tx; rx = rx } in
        let behind : Ghost = record g {
          ports = ports_after g (view old) st (hearer_of w) (Direct r d) may.entity opened (flip w)
              (DeliverStatus h.heard) tx rx h.behind h.moves;
        } in
        let heard = status_stands g (view old) st w (Direct r d) may.entity opened number bytes tx rx (told.Acked tags marks) h in
        let more = confirm_all old name r d may.side may.here tags behind (node_with g old st ticket direct_pdu on may tx rx) (node_name old name)
        (subst (Stands behind) (sym (entity_set old (hearer_of w) (Direct r d) may.side may.here x)) heard)
        (all_done g (view old) st may.entity number bytes tx rx r d w opened tags marks h) in
        record {
          ghost = more.ghost;
          goes = more.goes;
          given = given_on g.ports behind.ports more.ghost.ports
              (given_after g (view old) st (hearer_of w) (Direct r d) may.entity opened (flip w) (DeliverStatus h.heard) tx rx h.behind h.moves) more.given;
          stands = more.stands;
        }

module _ (l : PduLaws) (g : Ghost) (old : Chain) (st : Stands g (view old)) (ticket : ℕ) where
  comes_to : (port : PortName) (way : Way) (epoch number : ℕ) (kind : Bool) (bytes : List ℕ)
      → on_air old.air ticket ≡ Some (record { port = port; way = way; epoch = epoch; status = kind; number = number; bytes = bytes })
      → (answer : NodeHeard) (node : Node)
      → hear_refusal (record { port = port; way = way; epoch = epoch; status = kind; number = number; bytes = bytes })
      (side_at (node_at old (owner (hearer_of way) port)) port) ≡ None
      → HearsPdu old.tables (node_at old (owner (hearer_of way) port)) (hearer_of way)
      (record { port = port; way = way; epoch = epoch; status = kind; number = number; bytes = bytes }) answer node
      → Refines old.tables g (view (set_node old node))
  comes_to (Direct r d) w epoch number kind bytes on answer node none x =
      let pdu : Pdu = record { port = Direct r d; way = w; epoch = epoch; status = kind; number = number; bytes = bytes } in
      let may = handed_over pdu (node_at old (owner (hearer_of w) (Direct r d))) none in
      pdu_hears g old st ticket pdu on may (direct_completes l g old st ticket epoch number kind bytes r d w on may)
      (direct_confirms l g old st ticket epoch number kind bytes r d w on may) answer node none x
  comes_to (Pc5 r c) Ul epoch number kind bytes on answer node none x =
      let pdu : Pdu = record { port = Pc5 r c; way = Ul; epoch = epoch; status = kind; number = number; bytes = bytes } in
      let may = handed_over pdu (hearer pdu old) none in
      pdu_hears g old st ticket pdu on may (up_completes g old st ticket epoch number kind bytes r c on may)
      (up_confirms g old st ticket epoch number kind bytes r c on may) answer node none x
  comes_to (Pc5 r c) Dl epoch number kind bytes on answer node none x =
      let pdu : Pdu = record { port = Pc5 r c; way = Dl; epoch = epoch; status = kind; number = number; bytes = bytes } in
      let may = handed_over pdu (hearer pdu old) none in
      pdu_hears g old st ticket pdu on may (remote_completes l g old st ticket epoch number kind bytes r c on may)
      (remote_confirms l g old st ticket epoch number kind bytes r c on may) answer node none x
  comes_to (Uu c) Ul epoch number kind bytes on answer node none x =
      let pdu : Pdu = record { port = Uu c; way = Ul; epoch = epoch; status = kind; number = number; bytes = bytes } in
      let may = handed_over pdu (hearer pdu old) none in
      pdu_hears g old st ticket pdu on may (gnb_completes l g old st ticket epoch number kind bytes c on may)
      (gnb_confirms l g old st ticket epoch number kind bytes c on may) answer node none x
  comes_to (Uu c) Dl epoch number kind bytes on answer node none x =
      let pdu : Pdu = record { port = Uu c; way = Dl; epoch = epoch; status = kind; number = number; bytes = bytes } in
      let may = handed_over pdu (hearer pdu old) none in
      pdu_hears g old st ticket pdu on may (down_completes g old st ticket epoch number kind bytes c on may)
      (down_confirms g old st ticket epoch number kind bytes c on may) answer node none x

  -- refused, the node stays
  comes_or_stays : (pdu : Pdu) → on_air old.air ticket ≡ Some pdu → (answer : NodeHeard) (node : Node) → (refusal : Option NodeHeard)
      → hear_refusal pdu (side_at (hearer pdu old) pdu.port) ≡ refusal
      → HearsPdu old.tables (hearer pdu old) (hearer_of pdu.way) pdu answer node → Refines old.tables g (view (set_node old node))
  comes_or_stays pdu on answer node None none x = comes_to pdu.port pdu.way pdu.epoch pdu.number pdu.status pdu.bytes on answer node none x
  comes_or_stays pdu on answer node (Some refusal) is x =
      let y = subst (λ (r : Option NodeHeard). HearsUnless r old.tables (hearer pdu old) (hearer_of pdu.way) pdu answer node) is x in
      stays old.tables g (view old) (view (set_node old node)) (ap (λ (n : Node). view (set_node old n)) y.1 ∙ same_node old (owner (hearer_of pdu.way) pdu.port)) st

  -- the chain behind it
  abbrev Goes_on : (Chain → Chain) → Type 0
  Goes_on behind = (c : Chain) → Refines old.tables g (view c) → Refines old.tables g (view (behind c))

  either_way : (b : Bool) (c : Chain) → Refines old.tables g (view c) → Refines old.tables g (view (cond b c old))
  either_way true c done = done
  either_way false c done = stays old.tables g (view old) (view old) refl st

  pub delivers : (pdu : Option Pdu) → on_air old.air ticket ≡ pdu → (events : List Event) (reply : Reply) (new : Chain) (behind : Chain → Chain) → Goes_on behind
      → Delivers old pdu events reply new behind
      → Refines old.tables g (view new)
  delivers None on events reply new behind on_with does = stays old.tables g (view old) (view new) (ap view does.2) st
  delivers (Some pdu) on events reply new behind on_with does =
      subst (λ (c : Chain). Refines old.tables g (view c)) (sym does.is)
      (either_way (is_handed_over does.answer) (behind (set_node old does.node))
      (on_with (set_node old does.node) (comes_or_stays pdu on does.answer does.node (hear_refusal pdu (side_at (hearer pdu old) pdu.port)) refl does.hears)))

  -- the PDU of a ticket goes off the air
  pub goes_without : Goes_on (without ticket)
  goes_without c r = record { ghost = r.ghost; goes = r.goes; given = r.given; stands = lost r.ghost (view c) ticket r.stands }
