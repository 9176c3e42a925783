-- What a history tells of a chain: what is on the air, what nodes attach, and in which epoch the sides of ports are open.
use Rattle.std.specs.Prelude.{◌≡◌, ℕ, Bool, true, List, filter, Some}
use Rattle.link_base.specs.declared.names.PortName.{PortName}
use Rattle.link_base.specs.declared.names.Remote.{Remote}
use Rattle.link_base.specs.declared.names.Side.{Side}
use Rattle.bearer_map.specs.declared.ids.Attachment.{Attachment}
use Rattle.bearer_map.specs.Contents.{Contents}
use Rattle.rlc_model.specs.declared.hop.Pdu.{Pdu}
use Rattle.rlc_model.specs.Hop.{on_air}
use Rattle.rlc_model.specs.Sides.{Entity}
use Rattle.script_text.specs.History.{Entry}
use Rattle.node_model.specs.Names.{NodeName, AtRemote, AtRelay, AtGnb, is_remote}
use Rattle.node_model.specs.Tables.{has_remote}
use Rattle.chain_model.specs.State.{Chain, node_at, entity_on}
use Rattle.chain_model.specs.Told.{air_entry, attached_at, side_epoch}

-- the chain of these tables has this node
abbrev pub has_node : Contents → NodeName → Bool
has_node t (AtRemote remote) = has_remote t remote
has_node t AtRelay = true
has_node t AtGnb = true

-- the attachment is this remote's
abbrev pub is_attached_to : Remote → Attachment → Bool
is_attached_to remote a = is_remote remote a.remote

-- of attachments those of one remote
abbrev pub of_remote : Remote → List Attachment → List Attachment
of_remote remote attached = filter (is_attached_to remote) attached

-- a PDU on the air is the one that the history tells of its ticket; of each remote a node attaches what the history tells, though its list may be
-- in another order; and an open side of a port is in the epoch that the history tells
pub record Tells (h : List Entry) (c : Chain) : Type 0 where
  pub air : (ticket : ℕ) (pdu : Pdu) → on_air c.air ticket ≡ Some pdu → air_entry h ticket ≡ Some pdu
  pub attached : (name : NodeName) → has_node c.tables name ≡ true → (remote : Remote)
      → of_remote remote (node_at c name).attached ≡ of_remote remote (attached_at c.tables name h)
  pub epochs : (side : Side) (port : PortName) (entity : Entity) → entity_on c side port ≡ Some entity → entity.epoch ≡ side_epoch side port h
