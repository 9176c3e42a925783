-- Which ports an end has, and which bearers go over a port.
use Rattle.std.specs.Prelude.{◌≡◌, Bool, true, ◌&&◌, ◌||◌, ◌==◌, List, map, is_some}
use Rattle.std.specs.List.{list_any, AllByRecursion}
use Rattle.link_base.specs.declared.names.Key.{Key}
use Rattle.link_base.specs.declared.names.PortName.{PortName}
use Rattle.link_base.specs.declared.names.PortName.TheVariants.{Direct, Pc5, Uu}
use Rattle.link_base.specs.declared.names.Way.TheVariants.{Ul, Dl}
use Rattle.bearer_map.specs.declared.ids.Attachment.{Attachment}
use Rattle.bearer_map.specs.declared.rows.MapRow.{MapRow}
use Rattle.bearer_map.specs.Contents.{Contents}
use Rattle.bearer_map.specs.Routes.{key_in}
use Rattle.rlc_model.specs.Sides.{flip, way_from}
use Rattle.node_model.specs.Names.{NodeName, AtRemote, AtRelay, AtGnb, key_of, is_key, is_port, is_remote}
use Rattle.node_model.specs.State.{PortSide, Node, id_in}
use Rattle.node_model.specs.Feeding.{in_key}
use Rattle.node_bearers.specs.Calls.{is_of_bearer}
use Rattle.node_end.specs.declared.node.EndNode.{EndNode}
use Rattle.node_end.specs.Node.{name_of, side_of}
use Rattle.node_end.specs.Opening.{HaveRoutes}

-- the name of a side of a port
abbrev pub side_name : PortSide → PortName
side_name s = s.name

-- a key is one of these
abbrev pub is_among : List Key → Key → Bool
is_among keys key = list_any (λ k. is_key key k) keys

-- an end has a port: a direct one of a bearer that it receives, a remote its PC5 channels, the gNB Uu channels. A remote with an open PC5 channel
-- is attached
abbrev pub HasPort : NodeName → List Attachment → List Key → Bool → PortName → Type 0
HasPort name attached keys is_open (Direct remote drb) = is_among keys (key_of remote drb (flip (way_from (side_of name)))) ≡ true
HasPort name attached keys is_open (Pc5 remote chan) = (name ≡ AtRemote remote) × (is_open ≡ true → is_some (id_in attached remote) ≡ true)
HasPort name attached keys is_open (Uu chan) = name ≡ AtGnb

-- the same of a side of a port
abbrev pub HasSide : NodeName → List Attachment → List Key → PortSide → Type 0
HasSide name attached keys s = HasPort name attached keys (is_some s.entity) s.name

-- an end has a port, which is open
abbrev pub HasOpen : EndNode → PortName → Type 0
HasOpen e port = HasPort (name_of e.remote) e.ids (map in_key e.bearers.incoming) true port

-- a bearer that is mapped is received here: at a remote where it is one of its own, and at the gNB
abbrev pub IsReceived : NodeName → List Key → MapRow → Type 0
IsReceived (AtRemote remote) keys row = row.remote ≡ remote → is_among keys (key_in Dl row) ≡ true
IsReceived AtRelay keys row = Unit {0}
IsReceived AtGnb keys row = is_among keys (key_in Ul row) ≡ true

-- the node is an end: its ports are such as an end has, and what a SRAP header may lead to is received here
pub record IsEnd (t : Contents) (n : Node) : Type 0 where
  pub ports : AllByRecursion (HasSide n.name n.attached (map in_key n.incoming)) n.ports
  pub received : AllByRecursion (IsReceived n.name (map in_key n.incoming)) t.maps
  pub routes : HaveRoutes t

-- the row is that of a key's bearer, and maps it to this channel
abbrev pub maps_to : PortName → Key → MapRow → Bool
maps_to port key row = (is_remote key.remote row.remote && (key.drb.0 == row.drb.0)) && (is_port port (Pc5 row.remote row.pc5) || is_port port (Uu row.uu))

-- the bearer of a key is mapped to a channel
abbrev pub is_mapped : List MapRow → PortName → Key → Bool
is_mapped maps port key = list_any (maps_to port key) maps

-- the bearer of a key may go over a port: it is the one of a direct port, or is mapped to a channel
abbrev pub is_over : Contents → PortName → Key → Bool
is_over t (Direct remote drb) key = is_of_bearer remote drb key
is_over t (Pc5 remote chan) key = is_mapped t.maps (Pc5 remote chan) key
is_over t (Uu chan) key = is_mapped t.maps (Uu chan) key
