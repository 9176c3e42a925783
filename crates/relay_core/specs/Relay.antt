-- The node that the relay is seen as, and what always holds of it.
use Rattle.std.specs.Prelude.{◌≡◌, ℕ, ◌==◌, Bool, true, ◌&&◌, List, [], length, map, is_none}
use Rattle.std.specs.List.{list_all, AllByRecursion}
use Rattle.link_base.specs.declared.names.PortName.{PortName}
use Rattle.link_base.specs.declared.names.PortName.TheVariants.{Pc5, Uu}
use Rattle.bearer_map.specs.declared.ids.Attachment.{Attachment}
use Rattle.bearer_map.specs.declared.rows.MapRow.{MapRow}
use Rattle.bearer_map.specs.Contents.{Contents}
use Rattle.node_model.specs.Names.{AtRelay}
use Rattle.node_model.specs.State.{PortSide, Node, TabledNode}
use Rattle.node_model.specs.Tables.{settings}
use Rattle.relay_core.specs.declared.relay.Relay.TheInside.{Inside}
use Rattle.relay_core.specs.declared.ports.IngressPort.{IngressPort}
use Rattle.relay_core.specs.declared.ports.EgressPort.{EgressPort}
use Rattle.relay_core.specs.Ports.{sides_of, ingress_name, is_among, ArePorts}

-- the relay with these sides of ports and these attachments
abbrev pub relay_with : List PortSide → List Attachment → Node
relay_with ports attached = record { name = AtRelay; ports = ports; attached = attached; outgoing = []; incoming = [] }

-- what callers see of the fields
abbrev pub relay_of : Inside → TabledNode
relay_of a = record { tables = a.tables; node = relay_with (sides_of a.ingress.items a.egress.items) a.ids }

-- the node is the relay's: no bearer ends there
abbrev pub IsRelayNode : Node → Type 0
IsRelayNode n = (n.name ≡ AtRelay) × (n.outgoing ≡ []) × (n.incoming ≡ [])

-- how many SDUs each queue may hold
abbrev pub queue_capacity : Contents → ℕ
queue_capacity t = (settings t).queue

-- the ports to which the tables map a bearer are among these
abbrev pub LeadsAmong : List PortName → MapRow → Type 0
LeadsAmong names row = (is_among names (Pc5 row.remote row.pc5) ≡ true) × (is_among names (Uu row.uu) ≡ true)

-- its ports are the relay's, in order, and each route leads to one of them
pub record IsRelay (a : Inside) : Type 0 where
  pub ports : ArePorts (queue_capacity a.tables) a.ingress.items a.egress.items
  pub leads : AllByRecursion (LeadsAmong (map ingress_name a.ingress.items)) a.tables.maps

-- a slot and a queue hold nothing
abbrev pub is_empty_side : PortSide → Bool
is_empty_side s = is_none s.slot && (length s.queue == 0)

-- all slots and queues of a node hold nothing
abbrev pub is_empty_node : Node → Bool
is_empty_node n = list_all is_empty_side n.ports

-- a slot holds nothing
abbrev pub has_empty_slot : IngressPort → Bool
has_empty_slot i = is_none i.slot

-- a queue holds nothing
abbrev pub has_empty_queue : EgressPort → Bool
has_empty_queue e = length e.queue.parcels == 0
