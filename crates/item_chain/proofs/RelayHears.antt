-- Whatever PDU the relay hears.
use mathlib.Core.Path.{fun_ext}
use Rattle.std.proofs.Common.{◌≡◌, inl, inr, ℕ, Bool, List, [], Option, Some, None, Ok, Err, option_map, refl, sym, ◌∙◌, ap, subst}
use Rattle.std.specs.Option.{option_and_then, unwrap_or}
use Rattle.link_base.specs.declared.names.Chan.{Chan}
use Rattle.link_base.specs.declared.names.PortName.{PortName}
use Rattle.link_base.specs.declared.names.PortName.TheVariants.{Pc5, Uu}
use Rattle.link_base.specs.declared.names.Remote.{Remote}
use Rattle.link_base.specs.declared.names.Side.{Side}
use Rattle.link_base.specs.declared.names.Side.TheVariants.{Low, High}
use Rattle.link_base.specs.declared.names.Way.TheVariants.{Ul, Dl}
use Rattle.bearer_map.specs.declared.routes.Route.{Route}
use Rattle.rlc_model.specs.declared.hop.Pdu.{Pdu}
use Rattle.rlc_model.specs.declared.transmitter.StatusHeard.TheVariants as told
use Rattle.rlc_model.specs.Hop.{on_air}
use Rattle.rlc_model.specs.Sides.{Entity}
use Rattle.node_model.specs.declared.parcel.Parcel.{Parcel}
use Rattle.node_model.specs.Names.{AtRelay, is_port, owner}
use Rattle.node_model.specs.State.{PortSide, Node, side_at, slot_of, queue_of, set_side, set_entity}
use Rattle.node_model.specs.Routing.{ToPdcp, Onward}
use Rattle.chain_model.specs.State.{Chain, node_at, set_node}
use Rattle.item_law.specs.State.{put}
use Rattle.item_chain.specs.View.{view, is_side, put_at}
use Rattle.item_chain.specs.Stands.{Ghost, Stands, Refines}
use Rattle.item_chain.proofs.Puts.{of_port}
use Rattle.item_chain.proofs.Views.{relay_set, side_twice}
use Rattle.item_chain.proofs.Pushes.{put_kept}
use Rattle.item_chain.proofs.Hearing.{status_moves}
use Rattle.item_chain.proofs.Slots.{takes_up, takes_down}
use Rattle.item_chain.proofs.Discards.{up_header, discards_up, down_header, discards_down}
use Rattle.item_chain.proofs.Heard.{IsHandedOver, its_open, Completes, Confirms, entity_only}

-- the relay's slot takes an SDU, as its side is set twice
pub slot_taken : (old : Chain) (at : Side) (port : PortName) (side : PortSide) → owner at port ≡ AtRelay → side_at (node_at old AtRelay) port ≡ Some side
    → (x : Entity) (parcel : Parcel)
    → view (set_node old (set_side (set_entity (node_at old AtRelay) side x) (record side { entity = Some x; slot = Some parcel })))
    ≡ record (view old) { entity = put_at is_side is_port (view old).entity at port (Some x); slot = put is_port (view old).slot port (Some parcel) }
slot_taken old at port side relay here x parcel =
    let v = view old in
    let new : PortSide = record side { entity = Some x; slot = Some parcel } in
    ap (λ (n : Node). view (set_node old n)) (side_twice (node_at old AtRelay) (record side { entity = Some x }) new refl)
    ∙ relay_set old at port side new relay here refl refl
    ∙ ap (λ (f : PortName → List Parcel). record v { entity = put_at is_side is_port v.entity at port (Some x); slot = put is_port v.slot port (Some parcel); queue = f })
    (fun_ext (λ q. put_kept of_port v.queue port side.queue (ap (λ (o : Option PortSide). unwrap_or (option_map queue_of o) []) here) q))

module _ (g : Ghost) (old : Chain) (st : Stands g (view old)) (ticket epoch number : ℕ) (kind : Bool) (bytes : List ℕ) where
  -- from a PC5 port
  module _ (q : Remote) (c : Chan) where
    abbrev up_pdu : Pdu
    up_pdu = record { port = Pc5 q c; way = Ul; epoch = epoch; status = kind; number = number; bytes = bytes }

    module _ (on : on_air old.air ticket ≡ Some up_pdu) (may : IsHandedOver up_pdu (node_at old AtRelay)) where
      abbrev up_open : (view old).entity High (Pc5 q c) ≡ Some may.entity
      up_open = its_open g old st ticket up_pdu on may

      pub up_completes : Completes g old st ticket up_pdu on may
      up_completes k sdu tx rx h is (Ok (ToPdcp key body)) (inl under) answer node passes = absurd under.2
      up_completes k sdu tx rx h is (Ok (Onward route)) (inl under) answer node passes =
          let x = under.2 in
          let e : Entity = record may.entity { tx = tx; rx = rx } in
          let free : (view old).slot (Pc5 q c) ≡ None = ap (option_and_then slot_of) may.here ∙ may.free is in
          subst (λ (n : Node). Refines old.tables g (view (set_node old n))) (sym passes.1)
          (subst (Refines old.tables g) (sym (slot_taken old High (Pc5 q c) may.side refl may.here e (record { from = may.side.name; route = route; sdu = sdu })))
          (subst (λ (r : Route). Refines old.tables g (record (view old) {
            entity = put_at is_side is_port (view old).entity High (Pc5 q c) (Some e);
            slot = put is_port (view old).slot (Pc5 q c)
                (Some (record { from = may.side.name; route = r; sdu = sdu }));
          }))
          (sym x.4) (takes_up g (view old) st may.entity number bytes tx rx k sdu q c up_open h under.0 under.1 free x.1 x.0 x.2 may.side.name)))
      up_completes k sdu tx rx h is (Err discard) (inl under) answer node passes =
          subst (λ (n : Node). Refines old.tables g (view (set_node old n))) (sym passes.1)
          (entity_only g old st ticket up_pdu on may (record may.entity { tx = tx; rx = rx })
          (discards_up g (view old) st may.entity number bytes tx rx k sdu q c up_open h under.0 under.1 under.2.0 under.2.1))
      up_completes k sdu tx rx h is target (inr bad) answer node passes = absurd (up_header g (view old) st may.entity number bytes tx rx k sdu q c up_open h bad.0 bad.1)

      pub up_confirms : Confirms g old st ticket up_pdu on may
      up_confirms tags marks tx rx h is =
          entity_only g old st ticket up_pdu on may (record may.entity { tx = tx; rx = rx })
          (status_moves g (view old) st Ul (Pc5 q c) may.entity up_open number bytes tx rx (told.Acked tags marks) h)

  -- from a Uu port
  module _ (c : Chan) where
    abbrev down_pdu : Pdu
    down_pdu = record { port = Uu c; way = Dl; epoch = epoch; status = kind; number = number; bytes = bytes }

    module _ (on : on_air old.air ticket ≡ Some down_pdu) (may : IsHandedOver down_pdu (node_at old AtRelay)) where
      abbrev down_open : (view old).entity Low (Uu c) ≡ Some may.entity
      down_open = its_open g old st ticket down_pdu on may

      pub down_completes : Completes g old st ticket down_pdu on may
      down_completes k sdu tx rx h is (Ok (ToPdcp key body)) (inl under) answer node passes = absurd under.2
      down_completes k sdu tx rx h is (Ok (Onward route)) (inl under) answer node passes =
          let x = under.2 in
          let e : Entity = record may.entity { tx = tx; rx = rx } in
          let free : (view old).slot (Uu c) ≡ None = ap (option_and_then slot_of) may.here ∙ may.free is in
          subst (λ (n : Node). Refines old.tables g (view (set_node old n))) (sym passes.1)
          (subst (Refines old.tables g) (sym (slot_taken old Low (Uu c) may.side refl may.here e (record { from = may.side.name; route = route; sdu = sdu })))
          (subst (λ (r : Route). Refines old.tables g (record (view old) {
            entity = put_at is_side is_port (view old).entity Low (Uu c) (Some e);
            slot = put is_port (view old).slot (Uu c)
                (Some (record { from = may.side.name; route = r; sdu = sdu }));
          }))
          (sym x.5) (takes_down g (view old) st may.entity number bytes tx rx k sdu c down_open h under.0 under.1 free x.0 x.2 x.1 x.3 x.4 may.side.name)))
      down_completes k sdu tx rx h is (Err discard) (inl under) answer node passes =
          subst (λ (n : Node). Refines old.tables g (view (set_node old n))) (sym passes.1)
          (entity_only g old st ticket down_pdu on may (record may.entity { tx = tx; rx = rx })
          (discards_down g (view old) st may.entity number bytes tx rx k sdu c down_open h under.0 under.1 under.2.0 under.2.1))
      down_completes k sdu tx rx h is target (inr bad) answer node passes = absurd (down_header g (view old) st may.entity number bytes tx rx k sdu c down_open h bad.0 bad.1)

      pub down_confirms : Confirms g old st ticket down_pdu on may
      down_confirms tags marks tx rx h is =
          entity_only g old st ticket down_pdu on may (record may.entity { tx = tx; rx = rx })
          (status_moves g (view old) st Dl (Uu c) may.entity down_open number bytes tx rx (told.Acked tags marks) h)
