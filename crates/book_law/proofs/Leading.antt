-- Where an SDU leads to a bearer, it is at the end that receives the bearer's key.
use Rattle.std.proofs.Common.{◌≡◌, inl, inr, ℕ, Bool, true, false, List, Result, Ok, Err, refl, sym, ◌∙◌, ap}
use Rattle.std.proofs.lemmas.Bool.{true≢false}
use Rattle.link_base.specs.declared.names.Remote.{Remote}
use Rattle.link_base.specs.declared.names.Key.{Key}
use Rattle.link_base.specs.declared.names.PortName.{PortName}
use Rattle.link_base.specs.declared.names.PortName.TheVariants.{Direct, Pc5, Uu}
use Rattle.link_base.specs.declared.names.Side.{Side}
use Rattle.link_base.specs.declared.names.Side.TheVariants.{Low, High}
use Rattle.link_base.specs.declared.discard.Discard.{Discard}
use Rattle.bearer_map.specs.Contents.{Contents}
use Rattle.srap_header.specs.Srap.{Srap}
use Rattle.rlc_model.specs.Sides.{Entity, flip, way_from}
use Rattle.node_model.specs.Names.{AtRemote, owner, sink, key_of}
use Rattle.node_model.specs.State.{PortSide, Node, set_entity}
use Rattle.node_model.specs.Routing.{Target, ToPdcp, Onward, LeadsByHeader, LeadsUnderSrap, Leads}

-- the key of a target, where it is one of a bearer
abbrev key_in_target : Result Target Discard → Key → Key
key_in_target (Ok (ToPdcp key body)) other = key
key_in_target (Ok (Onward route)) other = other
key_in_target (Err discard) other = other

-- a target isn't a discard
abbrev is_target : Result Target Discard → Bool
is_target (Ok target) = true
is_target (Err discard) = false

direct_sink : (at : Side) (remote : Remote) (drb : _) → owner at (Direct remote drb) ≡ sink (key_of remote drb (flip (way_from at)))
direct_sink Low remote drb = refl
direct_sink High remote drb = refl

-- by a header
by_header : (t : Contents) (n : Node) (at : Side) (port : PortName) (v : Srap) (key : Key) (body : List ℕ) → LeadsByHeader t n at port v (Ok (ToPdcp key body)) → owner at port ≡ sink key
by_header t n Low (Pc5 remote chan) v key body l =
    let route = l.2.0 in
    let maps = route.2 in
    ap AtRemote (sym maps.of_remote) ∙ ap sink (sym route.4)
by_header t n High (Pc5 remote chan) v key body l = absurd l
by_header t n Low (Uu chan) v key body l = absurd l
by_header t n High (Uu chan) v key body l = ap sink (sym l.0.5)
by_header t n Low (Direct remote drb) v key body l = absurd l
by_header t n High (Direct remote drb) v key body l = absurd l

under_srap : (t : Contents) (n : Node) (at : Side) (port : PortName) (sdu : List ℕ) (key : Key) (body : List ℕ) → LeadsUnderSrap t n at port sdu (Ok (ToPdcp key body)) → owner at port ≡ sink key
under_srap t n at port sdu key body (inl (v, reads, leads)) = by_header t n at port v key body leads
under_srap t n at port sdu key body (inr (fault, is, says)) = absurd (true≢false (ap is_target says))

pub leads_to_sink : (t : Contents) (n : Node) (at : Side) (port : PortName) (sdu : List ℕ) (key : Key) (body : List ℕ) → Leads t n at port sdu (Ok (ToPdcp key body)) → owner at port ≡ sink key
leads_to_sink t n at (Direct remote drb) sdu key body is = direct_sink at remote drb ∙ ap sink (sym (ap (λ r. key_in_target r key) is))
leads_to_sink t n at (Pc5 remote chan) sdu key body l = under_srap t n at (Pc5 remote chan) sdu key body l
leads_to_sink t n at (Uu chan) sdu key body l = under_srap t n at (Uu chan) sdu key body l

-- where an SDU leads doesn't depend on the sides of ports
header_before : (t : Contents) (n : Node) (s : PortSide) (e : Entity) (at : Side) (port : PortName) (v : Srap) (target : Result Target Discard) → LeadsByHeader t (set_entity n s e) at port v target → LeadsByHeader t n at port v target
header_before t n s e Low (Pc5 remote chan) v target l = l
header_before t n s e High (Pc5 remote chan) v target l = l
header_before t n s e Low (Uu chan) v target l = l
header_before t n s e High (Uu chan) v target l = l
header_before t n s e Low (Direct remote drb) v target l = l
header_before t n s e High (Direct remote drb) v target l = l

srap_before : (t : Contents) (n : Node) (s : PortSide) (e : Entity) (at : Side) (port : PortName) (sdu : List ℕ) (target : Result Target Discard) → LeadsUnderSrap t (set_entity n s e) at port sdu target → LeadsUnderSrap t n at port sdu target
srap_before t n s e at port sdu target (inl (v, reads, leads)) = inl (v, reads, header_before t n s e at port v target leads)
srap_before t n s e at port sdu target (inr x) = inr x

pub leads_before : (t : Contents) (n : Node) (s : PortSide) (e : Entity) (at : Side) (port : PortName) (sdu : List ℕ) (target : Result Target Discard) → Leads t (set_entity n s e) at port sdu target → Leads t n at port sdu target
leads_before t n s e at (Direct remote drb) sdu target l = l
leads_before t n s e at (Pc5 remote chan) sdu target l = srap_before t n s e at (Pc5 remote chan) sdu target l
leads_before t n s e at (Uu chan) sdu target l = srap_before t n s e at (Uu chan) sdu target l
