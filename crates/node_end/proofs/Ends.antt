-- A node stays an end.
use Rattle.std.proofs.Common.{◌≡◌, Bool, true, List, map, Option, Some, None, ℕ, is_some, sym, ap, subst}
use Rattle.std.specs.List.{AllByRecursion}
use Rattle.link_base.specs.declared.names.Key.{Key}
use Rattle.link_base.specs.declared.names.PortName.{PortName}
use Rattle.link_base.specs.declared.names.Timer.{Timer}
use Rattle.link_base.specs.declared.rlc_words.Expired.{Expired}
use Rattle.bearer_map.specs.declared.ids.Attachment.{Attachment}
use Rattle.bearer_map.specs.Contents.{Contents}
use Rattle.rlc_model.specs.Sides.{Entity}
use Rattle.node_model.specs.declared.answers.PortGrant.{PortGrant}
use Rattle.node_model.specs.declared.answers.PortGrant.TheVariants.{NoPort, Hop}
use Rattle.node_model.specs.Names.{NodeName, is_port}
use Rattle.node_model.specs.State.{PortSide, Node, set_entity}
use Rattle.node_model.specs.Sides.{IsOpen, GrantsPort, ExpiresPort}
use Rattle.node_model.specs.Feeding.{in_key}
use Rattle.node_model.proofs.Finding.{each_found, each_replaced}
use Rattle.node_end.specs.Ports.{HasPort, HasSide, IsReceived, IsEnd}

-- where its names and its ports stay
pub still_end : (t : Contents) (n m : Node) → m.name ≡ n.name → m.attached ≡ n.attached → map in_key m.incoming ≡ map in_key n.incoming → m.ports ≡ n.ports → IsEnd t n → IsEnd t m
still_end t n m name attached keys ports is = record {
  ports = subst (λ (ss : List PortSide). AllByRecursion (HasSide m.name m.attached (map in_key m.incoming)) ss) (sym ports)
      (subst (λ (ks : List Key). AllByRecursion (HasSide m.name m.attached ks) n.ports) (sym keys)
      (subst (λ (ids : List Attachment). AllByRecursion (HasSide m.name ids (map in_key n.incoming)) n.ports) (sym attached)
      (subst (λ (x : NodeName). AllByRecursion (HasSide x n.attached (map in_key n.incoming)) n.ports) (sym name) is.ports)));
  received = subst (λ (ks : List Key). AllByRecursion (IsReceived m.name ks) t.maps) (sym keys)
      (subst (λ (x : NodeName). AllByRecursion (IsReceived x (map in_key n.incoming)) t.maps) (sym name) is.received);
  routes = is.routes;
}

-- where an open side has another entity
module _ (t : Contents) (n : Node) (port : PortName) (side : PortSide) (entity : Entity) (its : IsOpen n port side entity) (is : IsEnd t n) where
  opened : is_some side.entity ≡ true
  opened = ap (λ (e : Option Entity). is_some e) its.is_open

  pub own_side : HasPort n.name n.attached (map in_key n.incoming) true side.name
  own_side = subst (λ (b : Bool). HasPort n.name n.attached (map in_key n.incoming) b side.name) opened
      (each_found (HasSide n.name n.attached (map in_key n.incoming)) (λ s. is_port port s.name) n.ports side is.ports its.here)

  pub end_set : (new : Entity) → IsEnd t (set_entity n side new)
  end_set new = record {
    ports = each_replaced (HasSide n.name n.attached (map in_key n.incoming)) (λ x. is_port side.name x.name) (record side { entity = Some new }) own_side n.ports is.ports;
    received = is.received;
    routes = is.routes;
  }

pub grant_keeps : (t : Contents) (old : Node) (port : PortName) (octets : ℕ) (answer : PortGrant) (new : Node) → GrantsPort old port octets answer new → IsEnd t old → IsEnd t new
grant_keeps t old port octets NoPort new is end = subst (λ (m : Node). IsEnd t m) (sym is.1) end
grant_keeps t old port octets (Hop epoch answer) new is end = subst (λ (m : Node). IsEnd t m) (sym is.is) (end_set t old port is.side is.entity is.its end _)

pub expiry_keeps : (t : Contents) (old : Node) (port : PortName) (timer : Timer) (answer : Option Expired) (new : Node) → ExpiresPort old port timer answer new → IsEnd t old → IsEnd t new
expiry_keeps t old port timer None new is end = subst (λ (m : Node). IsEnd t m) (sym is.1) end
expiry_keeps t old port timer (Some expired) new is end = subst (λ (m : Node). IsEnd t m) (sym is.is) (end_set t old port is.side is.entity is.its end _)
