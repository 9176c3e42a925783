-- The RLC entities of a chain and what is on its air, as what the two sides of ports have made.
use Rattle.std.specs.Prelude.{◌≡◌, ℕ, ◌+◌, ◌<◌, ◌≤◌, true, List, length, Some, if◌then◌else◌}
use Rattle.link_base.specs.declared.names.Node.{Node as NodeKind}
use Rattle.link_base.specs.declared.names.Remote.{Remote}
use Rattle.link_base.specs.declared.names.PortName.{PortName}
use Rattle.link_base.specs.declared.names.Side.{Side}
use Rattle.link_base.specs.declared.names.Way.{Way}
use Rattle.link_base.specs.declared.limits.TheConstants.{LONGEST_RLC_SDU}
use Rattle.bearer_map.specs.Contents.{Contents}
use Rattle.rlc_model.specs.declared.hop.HopHeard.{HopHeard}
use Rattle.rlc_model.specs.declared.hop.HopHeard.TheVariants.{Amd, Status, BadAmd, BadStatus}
use Rattle.rlc_model.specs.declared.hop.Pdu.{Pdu}
use Rattle.rlc_model.specs.declared.receiver.Heard.TheVariants.{Stored, Complete, Repeat, Outside, Conflict}
use Rattle.rlc_model.specs.declared.transmitter.StatusHeard.TheVariants.{Acked, Old, Beyond}
use Rattle.rlc_model.specs.Hop.{on_air}
use Rattle.rlc_law.specs.Ports.{Settings, Port, Ports, hop_of, PortsFit}
use Rattle.rlc_law.specs.Sides.{Epochs, SidesFit}
use Rattle.node_model.specs.Names.{owner, is_of}
use Rattle.node_model.specs.Tables.{settings}
use Rattle.chain_model.specs.declared.plan.Plan.{Plan}
use Rattle.chain_model.specs.State.{Chain, plan_at, entity_on}
use Rattle.chain_model.specs.Plans.{has_applied}
use Rattle.chain_model.specs.Sizes.{port_size}
use Rattle.chain_model.specs.Told.{kind_of}

-- what the entities of a port are configured with
abbrev pub port_settings : Contents → PortName → Settings
port_settings t port = record { size = port_size t port; poll_pdu = (settings t).poll_pdu; poll_byte = (settings t).poll_byte; max_retx_threshold = (settings t).max_retx }

-- the first epoch to which the sides of a remote's ports at a node of this kind have not come, where this is the remote's last plan
abbrev pub next_epoch : Plan → NodeKind → ℕ
next_epoch plan kind = if has_applied plan kind then plan.epoch + 1 else plan.epoch

-- there is a port for each name and epoch that was opened, each of which can be reached; the open entities are its sides, each PDU on the air is one that
-- its port has made, no hop has made more data PDUs than there are tickets, and an epoch to which a side hasn't come is opened anew
pub record RlcFits (c : Chain) : Type 0 where
  pub ports : Ports
  pub epochs : Epochs
  pub fits : PortsFit ports c.air
  pub opened : (ticket : ℕ) (pdu : Pdu) → on_air c.air ticket ≡ Some pdu → (port : Port) × (ports pdu.port pdu.epoch ≡ Some port)
  pub sides : SidesFit (port_settings c.tables) ports epochs (entity_on c)
  pub few : (name : PortName) (epoch : ℕ) (port : Port) (way : Way) → ports name epoch ≡ Some port → length (hop_of port way).pdus ≤ length c.air
  pub fresh : (remote : Remote) (plan : Plan) → plan_at c remote ≡ Some plan → (side : Side) (name : PortName) → is_of remote name ≡ true
      → epochs side name ≤ next_epoch plan (kind_of (owner side name))

-- RLC can take the SDU: it has 1 to 9,005 bytes
pub record IsSdu (sdu : List ℕ) : Type 0 where
  pub some : 0 < length sdu
  pub most : length sdu ≤ LONGEST_RLC_SDU

-- what the entity of a side answers to a PDU of this number that the air hands over: what it completes is the number's SDU, which has 1 to 9,005 bytes; and
-- no PDU is unreadable, outside the window or in conflict with what is held, and none speaks of what was not sent
abbrev pub IsHeardWell : ℕ → HopHeard → Type 0
IsHeardWell number (Amd (Complete own sdu)) = (own ≡ number) × IsSdu sdu
IsHeardWell number (Amd Stored) = Unit {0}
IsHeardWell number (Amd Repeat) = Unit {0}
IsHeardWell number (Amd Outside) = ⊥
IsHeardWell number (Amd Conflict) = ⊥
IsHeardWell number (Status (Acked tags marks)) = Unit {0}
IsHeardWell number (Status (Old ack next)) = Unit {0}
IsHeardWell number (Status (Beyond ack sent)) = ⊥
IsHeardWell number (BadAmd fault) = ⊥
IsHeardWell number (BadStatus fault) = ⊥
