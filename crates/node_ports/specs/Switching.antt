-- The sides of ports take part in a path switch.
use Rattle.std.specs.Prelude.{ℕ, ◌&&◌, [], Option, Some, None, if◌then◌else◌}
use Rattle.link_base.specs.declared.names.Remote.{Remote}
use Rattle.link_base.specs.declared.names.Goal.{Goal}
use Rattle.bearer_map.specs.declared.settings.Settings.{Settings}
use Rattle.rlc_model.specs.Sides.{Entity}
use Rattle.node_model.specs.Names.{is_of}
use Rattle.node_model.specs.State.{PortSide}
use Rattle.node_model.specs.Tables.{is_open_on}
use Rattle.node_model.specs.Opening.{new_entity}
use Rattle.node_model.specs.Switching.{is_purged}

-- the entity with which a side of the remote begins that is open on its new path
abbrev pub entity_after : Settings → Remote → Goal → ℕ → PortSide → Option Entity
entity_after s remote goal epoch side = if is_of remote side.name && is_open_on goal side.name then Some (new_entity s side.size epoch) else None

-- a side once its node has applied a plan of the remote, where this is the entity with which it begins
abbrev pub side_with : Remote → Option Entity → PortSide → PortSide
side_with remote entity side = record side {
  entity = if is_of remote side.name then entity else side.entity;
  slot = if is_purged remote side then None else side.slot;
  queue = if is_of remote side.name then [] else side.queue;
}
