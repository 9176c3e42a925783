-- What the relay hears, by what its ports hear.
use Rattle.std.proofs.Common.{◌≡◌, ℕ, zero, suc, ◌≤◌, Bool, true, false, List, [], ◌∷◌, length, map, Option, Some, None, is_some, Result, Ok, Err, refl, sym, ◌∙◌, ap, subst, arith, inl, inr}
use Rattle.std.specs.Prelude.{◌⊎◌, Contains, slice_index_or}
use Rattle.std.specs.List.{AllByRecursion}
use Rattle.link_base.specs.declared.discard.Discard.{Discard}
use Rattle.link_base.specs.declared.names.PortName.{PortName}
use Rattle.link_base.specs.declared.names.PortName.TheVariants.{Direct, Pc5, Uu}
use Rattle.link_base.specs.declared.names.Side.{Side}
use Rattle.srap_header.specs.declared.pdu.SrapFault.{SrapFault}
use Rattle.srap_header.specs.Srap.{Srap, IsSrap, IsSrapFault}
use Rattle.bearer_map.specs.declared.routes.RouteFault.{RouteFault}
use Rattle.bearer_map.specs.declared.routes.Route.{Route}
use Rattle.bearer_map.specs.declared.rows.MapRow.{MapRow}
use Rattle.bearer_map.specs.Contents.{Contents}
use Rattle.rlc_model.specs.declared.hop.Pdu.{Pdu}
use Rattle.link_base.specs.declared.rlc_words.Tag.{Tag}
use Rattle.rlc_model.specs.declared.hop.HopHeard.{HopHeard}
use Rattle.rlc_model.specs.declared.hop.HopHeard.TheVariants.{Status}
use Rattle.rlc_model.specs.declared.transmitter.StatusHeard.{StatusHeard}
use Rattle.rlc_model.specs.declared.transmitter.StatusHeard.TheVariants as told
use Rattle.rlc_model.specs.Sides.{Entity}
use Rattle.node_model.specs.declared.answers.NodeHeard.{NodeHeard}
use Rattle.node_model.specs.declared.answers.NodeHeard.TheVariants.{Hop}
use Rattle.node_model.specs.Ends.{confirm_tags}
use Rattle.node_model.specs.State.{PortSide, Node, side_at}
use Rattle.node_model.specs.Hearing.{HearsPdu, HearsUnless, Follows, hear_refusal, side_refusal, entity_fault}
use Rattle.node_model.specs.Routing.{Target, Onward, Leads, srap_discard, route_discard}
use Rattle.relay_core.specs.Ports.{IsOfRelay, relay_side, is_among}
use Rattle.relay_core.specs.Relay.{LeadsAmong}
use Rattle.relay_core.specs.Routing.{GoesOnward}

-- a PDU that is refused changes nothing
pub refuses : (t : Contents) (n : Node) (at : Side) (pdu : Pdu) (refusal : NodeHeard) → hear_refusal pdu (side_at n pdu.port) ≡ Some refusal → HearsPdu t n at pdu refusal n
refuses t n at pdu refusal is = subst (λ (r : Option NodeHeard). HearsUnless r t n at pdu refusal n) (sym is) (refl, refl)

-- a side that refuses nothing is open
pub opens : (pdu : Pdu) (side : PortSide) (entity : Option Entity) → side_refusal pdu side (entity_fault pdu entity) ≡ None → is_some entity ≡ true
opens pdu side None none = absurd cc
opens pdu side (Some entity) none = refl

-- on the ports of the relay nothing is confirmed for PDCP
confirms_none : (n : Node) (name : PortName) (tags : List Tag) → IsOfRelay name → confirm_tags n name tags ≡ n
confirms_none n (Direct remote drb) tags its = absurd its
confirms_none n (Pc5 remote chan) tags its = refl
confirms_none n (Uu chan) tags its = refl

-- what a STATUS PDU tells is the relay's answer
pub follows_status : (t : Contents) (n : Node) (at : Side) (side : PortSide) (status : StatusHeard) → IsOfRelay side.name → Follows t n at side (Status status) (Hop (Status status)) n
follows_status t n at side (told.Acked tags marks) its = (refl, sym (confirms_none n side.name tags its))
follows_status t n at side (told.Old ack next) its = (refl, refl)
follows_status t n at side (told.Beyond ack sent) its = (refl, refl)

-- an SDU that goes on is a SRAP PDU, and a bearer is mapped to the port over which it goes
pub record GoesOver (t : Contents) (sdu : List ℕ) (egress : PortName) : Type 0 where
  pub header : Srap
  pub is_srap : IsSrap header sdu
  pub row : MapRow
  pub mapped : Contains t.maps row
  pub over : (egress ≡ Uu row.uu) ⊎ (egress ≡ Pc5 row.remote row.pc5)

-- by its header an SDU goes on over the relay, or not
pub leads_ok : (t : Contents) (n : Node) (from : PortName) (sdu : List ℕ) (v : Srap) (route : Route) → IsOfRelay from → IsSrap v sdu → GoesOnward t.maps n.attached from v.ue v.bearer (Ok route)
    → Leads t n (relay_side from) from sdu (Ok (Onward route))
leads_ok t n (Direct remote drb) sdu v route its is goes = absurd its
leads_ok t n (Pc5 remote chan) sdu v route its is goes = inl (v, is, goes)
leads_ok t n (Uu chan) sdu v route its is goes = inl (v, is, goes)

pub leads_err : (t : Contents) (n : Node) (from : PortName) (sdu : List ℕ) (v : Srap) (fault : RouteFault) → IsOfRelay from → IsSrap v sdu → GoesOnward t.maps n.attached from v.ue v.bearer (Err fault)
    → Leads t n (relay_side from) from sdu (Err (route_discard fault))
leads_err t n (Direct remote drb) sdu v fault its is goes = absurd its
leads_err t n (Pc5 remote chan) sdu v fault its is goes = inl (v, is, (fault, goes, refl))
leads_err t n (Uu chan) sdu v fault its is goes = inl (v, is, (fault, goes, refl))

-- where it is no SRAP PDU it goes nowhere
pub leads_nowhere : (t : Contents) (n : Node) (from : PortName) (sdu : List ℕ) (fault : SrapFault) → IsOfRelay from → IsSrapFault sdu fault → Leads t n (relay_side from) from sdu (Err (srap_discard fault))
leads_nowhere t n (Direct remote drb) sdu fault its is = absurd its
leads_nowhere t n (Pc5 remote chan) sdu fault its is = inr (fault, is, refl)
leads_nowhere t n (Uu chan) sdu fault its is = inr (fault, is, refl)

ok_err : {X Y : Type 0} (x : X) (y : Y) → ◌≡◌ {A = Result X Y} (Ok x) (Err y) → ⊥
ok_err x y e = absurd cc

pub goes_over : (t : Contents) (n : Node) (port : PortName) (sdu : List ℕ) (route : Route) → IsOfRelay port → Leads t n (relay_side port) port sdu (Ok (Onward route)) → GoesOver t sdu route.egress
goes_over t n (Direct remote drb) sdu route its leads = absurd its
goes_over t n (Pc5 remote chan) sdu route its (inl (v, is, up)) =
    record { header = v; is_srap = is; row = up.1; mapped = up.2.among; over = inl (ap (λ (r : Route). r.egress) up.4) }
goes_over t n (Pc5 remote chan) sdu route its (inr (fault, is, fails)) = absurd (ok_err (Onward route) (srap_discard fault) fails)
goes_over t n (Uu chan) sdu route its (inl (v, is, down)) =
    record { header = v; is_srap = is; row = down.2; mapped = down.3.among; over = inr (ap (λ (r : Route). r.egress) down.5) }
goes_over t n (Uu chan) sdu route its (inr (fault, is, fails)) = absurd (ok_err (Onward route) (srap_discard fault) fails)

-- what each of a list has, one of them has
each_has : {T : Type 0} (P : T → Type 0) (xs : List T) (x : T) → AllByRecursion P xs → Contains xs x → P x
each_has P [] x all (k, lt, is) = absurd (omega arith)
each_has P (y ∷ ys) x all (zero, lt, is) = subst P is all.0
each_has P (y ∷ ys) x all (suc k, lt, is) = each_has P ys x all.1 (k, omega arith, is)

-- so that port is one of the relay's
pub leads_among : (names : List PortName) (t : Contents) (sdu : List ℕ) (egress : PortName) → AllByRecursion (LeadsAmong names) t.maps → GoesOver t sdu egress → is_among names egress ≡ true
leads_among names t sdu egress all g =
    let row = each_has (LeadsAmong names) t.maps g.row all g.mapped in
    elim g.over [
      | inl uu ↦ ap (is_among names) uu ∙ row.1
      | inr pc5 ↦ ap (is_among names) pc5 ∙ row.0
    ]
