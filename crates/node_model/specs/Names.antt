-- Names of nodes, ports and keys, and which node has which side of a port (TS 38.300 clause 16.12).
use Rattle.std.specs.Prelude.{Bool, true, false, ◌&&◌, ◌==◌, List, map, if◌then◌else◌}
use Rattle.link_base.specs.declared.names.Remote.{Remote}
use Rattle.link_base.specs.declared.names.Drb.{Drb}
use Rattle.link_base.specs.declared.names.LocalId.{LocalId}
use Rattle.link_base.specs.declared.names.Key.{Key}
use Rattle.link_base.specs.declared.names.PortName.{PortName}
use Rattle.link_base.specs.declared.names.PortName.TheVariants.{Direct, Pc5, Uu}
use Rattle.link_base.specs.declared.names.Side.{Side}
use Rattle.link_base.specs.declared.names.Side.TheVariants.{Low, High}
use Rattle.link_base.specs.declared.names.Way.{Way}
use Rattle.link_base.specs.declared.names.Way.TheVariants.{Ul, Dl}
use Rattle.link_base.specs.declared.names.Node.{Node as NodeKind}
use Rattle.link_base.specs.declared.names.Node.TheVariants as kinds
use Rattle.rlc_model.specs.Sides.{flip, sender_of, hearer_of}

-- the list with the item in the place of those that pass the test
abbrev pub replaced : {T : Type 0} → (T → Bool) → T → List T → List T
replaced test item items = map (λ x. if test x then item else x) items

-- a node of the chain
pub data NodeName : Type 0 where
  AtRemote : (remote : Remote) → NodeName
  AtRelay : NodeName
  AtGnb : NodeName

-- whether two remotes are one
abbrev pub is_remote : Remote → Remote → Bool
is_remote a b = a.0 == b.0

-- whether two local identities are one
abbrev pub is_id : LocalId → LocalId → Bool
is_id a b = a.0 == b.0

-- whether two nodes are one
abbrev pub is_node : NodeName → NodeName → Bool
is_node (AtRemote a) (AtRemote b) = is_remote a b
is_node AtRelay AtRelay = true
is_node AtGnb AtGnb = true
is_node a b = false

-- whether two ways are one
abbrev pub is_way : Way → Way → Bool
is_way Ul Ul = true
is_way Dl Dl = true
is_way a b = false

-- whether two keys are one
abbrev pub is_key : Key → Key → Bool
is_key a b = is_remote a.remote b.remote && ((a.drb.0 == b.drb.0) && is_way a.way b.way)

-- whether two ports are one
abbrev pub is_port : PortName → PortName → Bool
is_port (Direct r d) (Direct q e) = is_remote r q && (d.0 == e.0)
is_port (Pc5 r c) (Pc5 q e) = is_remote r q && (c.0 == e.0)
is_port (Uu c) (Uu e) = c.0 == e.0
is_port a b = false

-- a bearer in one way
abbrev pub key_of : Remote → Drb → Way → Key
key_of remote drb way = record { remote = remote; drb = drb; way = way }

-- the other way of a bearer
abbrev pub back : Key → Key
back key = key_of key.remote key.drb (flip key.way)

-- the node that has this side of a port
abbrev pub owner : Side → PortName → NodeName
owner Low (Direct r d) = AtRemote r
owner High (Direct r d) = AtGnb
owner Low (Pc5 r c) = AtRemote r
owner High (Pc5 r c) = AtRelay
owner Low (Uu c) = AtRelay
owner High (Uu c) = AtGnb

-- the end that sends the SDUs of a key
abbrev pub source : Key → NodeName
source key = owner (sender_of key.way) (Direct key.remote key.drb)

-- the end that receives the SDUs of a key
abbrev pub sink : Key → NodeName
sink key = owner (hearer_of key.way) (Direct key.remote key.drb)

-- the node of a kind that a remote's plan speaks of
abbrev pub node_of : NodeKind → Remote → NodeName
node_of kinds.Remote remote = AtRemote remote
node_of kinds.Relay remote = AtRelay
node_of kinds.Gnb remote = AtGnb

-- the port is one of the remote's own: a direct port or a PC5 port
abbrev pub is_of : Remote → PortName → Bool
is_of remote (Direct r d) = is_remote remote r
is_of remote (Pc5 r c) = is_remote remote r
is_of remote (Uu c) = false
