-- Whatever PDU an end of the relay path hears: the gNB from a Uu port, a remote from a PC5 port.
use Rattle.std.proofs.Common.{◌≡◌, inl, inr, ℕ, Bool, List, Some, Ok, Err, sym, subst}
use Rattle.link_base.specs.declared.names.Chan.{Chan}
use Rattle.link_base.specs.declared.names.Key.{Key}
use Rattle.link_base.specs.declared.names.PortName.TheVariants.{Pc5, Uu}
use Rattle.link_base.specs.declared.names.Remote.{Remote}
use Rattle.link_base.specs.declared.names.Side.TheVariants.{Low, High}
use Rattle.link_base.specs.declared.names.Way.TheVariants.{Ul, Dl}
use Rattle.rlc_model.specs.declared.hop.Pdu.{Pdu}
use Rattle.rlc_model.specs.declared.transmitter.StatusHeard.TheVariants as told
use Rattle.rlc_model.specs.Hop.{on_air}
use Rattle.node_model.specs.Names.{AtRemote, AtGnb}
use Rattle.node_model.specs.State.{Node}
use Rattle.node_model.specs.Routing.{ToPdcp, Onward}
use Rattle.chain_model.specs.State.{Chain, node_at, set_node}
use Rattle.item_chain.specs.Foundations.{PduLaws}
use Rattle.item_chain.specs.View.{view}
use Rattle.item_chain.specs.Stands.{Ghost, Stands, Refines}
use Rattle.item_chain.proofs.Completed.{n}
use Rattle.item_chain.proofs.Hearing.{status_moves}
use Rattle.item_chain.proofs.Heard.{IsHandedOver, its_open, Completes, Confirms, entity_only}
use Rattle.item_chain.proofs.Seconds.{gnb_header, gnb_takes, gnb_loses, remote_header, remote_takes, remote_loses}
use Rattle.item_chain.proofs.Taken.{Taken, pdcp_taken}

module _ (l : PduLaws) (g : Ghost) (old : Chain) (st : Stands g (view old)) (ticket epoch number : ℕ) (kind : Bool) (bytes : List ℕ) where
  -- the gNB
  module _ (c : Chan) where
    abbrev gnb_pdu : Pdu
    gnb_pdu = record { port = Uu c; way = Ul; epoch = epoch; status = kind; number = number; bytes = bytes }

    module _ (on : on_air old.air ticket ≡ Some gnb_pdu) (may : IsHandedOver gnb_pdu (node_at old AtGnb)) where
      abbrev gnb_open : (view old).entity High (Uu c) ≡ Some may.entity
      gnb_open = its_open g old st ticket gnb_pdu on may

      pub gnb_completes : Completes g old st ticket gnb_pdu on may
      gnb_completes k sdu tx rx h is (Ok (ToPdcp key body)) (inl under) answer node passes =
          let m = n g (view old) st Ul (Uu c) may.entity gnb_open number bytes tx rx k sdu h in
          let route = under.2.0 in
          let taken = gnb_takes g (view old) st may.entity number bytes tx rx k sdu c gnb_open h under.0 under.1 route.0 route.2 route.1 route.3 route.4 in
          pdcp_taken l g old st Ul (Uu c) may.side may.here may.entity gnb_open number bytes tx rx k sdu h key body
          (subst (λ (x : Key). Taken g (view old) st m AtGnb x body) (sym route.5) (subst (Taken g (view old) st m AtGnb _) (sym under.2.1) taken)) answer node passes
      gnb_completes k sdu tx rx h is (Ok (Onward route)) (inl under) answer node passes = absurd under.2
      gnb_completes k sdu tx rx h is (Err discard) (inl under) answer node passes =
          subst (λ (x : Node). Refines old.tables g (view (set_node old x))) (sym passes.1)
          (entity_only g old st ticket gnb_pdu on may (record may.entity { tx = tx; rx = rx })
          (gnb_loses g (view old) st may.entity number bytes tx rx k sdu c gnb_open h under.0 under.1 under.2.0 under.2.1))
      gnb_completes k sdu tx rx h is target (inr bad) answer node passes = absurd (gnb_header g (view old) st may.entity number bytes tx rx k sdu c gnb_open h bad.0 bad.1)

      pub gnb_confirms : Confirms g old st ticket gnb_pdu on may
      gnb_confirms tags marks tx rx h is =
          entity_only g old st ticket gnb_pdu on may (record may.entity { tx = tx; rx = rx })
          (status_moves g (view old) st Ul (Uu c) may.entity gnb_open number bytes tx rx (told.Acked tags marks) h)

  -- a remote
  module _ (r : Remote) (c : Chan) where
    abbrev remote_pdu : Pdu
    remote_pdu = record { port = Pc5 r c; way = Dl; epoch = epoch; status = kind; number = number; bytes = bytes }

    module _ (on : on_air old.air ticket ≡ Some remote_pdu) (may : IsHandedOver remote_pdu (node_at old (AtRemote r))) where
      abbrev remote_open : (view old).entity Low (Pc5 r c) ≡ Some may.entity
      remote_open = its_open g old st ticket remote_pdu on may

      pub remote_completes : Completes g old st ticket remote_pdu on may
      remote_completes k sdu tx rx h is (Ok (ToPdcp key body)) (inl under) answer node passes =
          let m = n g (view old) st Dl (Pc5 r c) may.entity remote_open number bytes tx rx k sdu h in
          let own = under.2.0 in
          let ends = under.2.2 in
          let route = ends.0 in
          let taken = remote_takes g (view old) st may.entity number bytes tx rx k sdu r c remote_open h under.0 under.1 own under.2.1 route.1 route.0 route.2 in
          pdcp_taken l g old st Dl (Pc5 r c) may.side may.here may.entity remote_open number bytes tx rx k sdu h key body
          (subst (λ (x : Key). Taken g (view old) st m (AtRemote r) x body) (sym route.4) (subst (Taken g (view old) st m (AtRemote r) _) (sym ends.1) taken)) answer node passes
      remote_completes k sdu tx rx h is (Ok (Onward route)) (inl under) answer node passes = absurd under.2.2
      remote_completes k sdu tx rx h is (Err discard) (inl under) answer node passes =
          subst (λ (x : Node). Refines old.tables g (view (set_node old x))) (sym passes.1)
          (entity_only g old st ticket remote_pdu on may (record may.entity { tx = tx; rx = rx })
          (remote_loses g (view old) st may.entity number bytes tx rx k sdu r c remote_open h under.0 under.1 under.2.0 under.2.1 under.2.2.0 under.2.2.1))
      remote_completes k sdu tx rx h is target (inr bad) answer node passes = absurd
          (remote_header g (view old) st may.entity number bytes tx rx k sdu r c remote_open h bad.0 bad.1)

      pub remote_confirms : Confirms g old st ticket remote_pdu on may
      remote_confirms tags marks tx rx h is =
          entity_only g old st ticket remote_pdu on may (record may.entity { tx = tx; rx = rx })
          (status_moves g (view old) st Dl (Pc5 r c) may.entity remote_open number bytes tx rx (told.Acked tags marks) h)
