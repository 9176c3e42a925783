-- A local identity that nothing bears: what a plan is accepted for.
use Rattle.std.specs.Prelude.{◌≡◌, ℕ, true, false, Some, Contains}
use Rattle.link_base.specs.declared.names.Goal.TheVariants.{Relay as ToRelay}
use Rattle.link_base.specs.declared.names.LocalId.{LocalId}
use Rattle.link_base.specs.declared.names.Node.{Node as NodeKind}
use Rattle.link_base.specs.declared.names.PortName.{PortName}
use Rattle.link_base.specs.declared.names.PortName.TheVariants.{Uu}
use Rattle.link_base.specs.declared.names.Remote.{Remote}
use Rattle.link_base.specs.declared.names.Way.{Way}
use Rattle.bearer_map.specs.declared.rows.UuRow.{UuRow}
use Rattle.bearer_map.specs.Ids.{IsAttached}
use Rattle.rlc_model.specs.Sides.{Entity, sender_of}
use Rattle.rlc_model.specs.Tx.{Kept, kept_at}
use Rattle.script_text.specs.declared.line.Line.TheVariants.{Plan as PlanLine}
use Rattle.script_text.specs.declared.reply.Reply.TheVariants.{OkNumber}
use Rattle.node_model.specs.declared.parcel.Parcel.{Parcel}
use Rattle.node_model.specs.Names.{AtRelay, node_of}
use Rattle.node_model.specs.Relaying.{ue_of}
use Rattle.node_model.specs.State.{slot_at, queue_at}
use Rattle.chain_model.specs.declared.plan.Plan.{Plan}
use Rattle.chain_model.specs.Draining.{Moment}
use Rattle.chain_model.specs.Plans.{is_open}
use Rattle.chain_model.specs.State.{Chain, node_at, plan_at, entity_on}
use Rattle.item_law.specs.State.{Item, way_of, is_off_pc5}
use Rattle.item_chain.specs.View.{view}
use Rattle.item_chain.specs.Stands.{Ghost, Stands}

-- neither the remote, nor the relay or the gNB attaches the identity to a remote; no open plan asks for it; no SDU in a slot or in a queue of the relay bears it, and
-- none that isn't confirmed in a transmitter of a Uu port, at the relay or at the gNB; and no item that stands for the chain bears it there or on a Uu hop
pub record IsUnborne (c : Chain) (id : LocalId) : Type 0 where
  pub attached : (kind : NodeKind) (remote : Remote) → IsAttached (node_at c (node_of kind remote)).attached remote id.0 → ⊥
  pub asked : (remote : Remote) (plan : Plan) → plan_at c remote ≡ Some plan → is_open plan ≡ true → plan.goal ≡ ToRelay id → ⊥
  pub slots : (port : PortName) (parcel : Parcel) → slot_at (node_at c AtRelay) port ≡ Some parcel → ue_of parcel ≡ id → ⊥
  pub queues : (port : PortName) (parcel : Parcel) → Contains (queue_at (node_at c AtRelay) port) parcel → ue_of parcel ≡ id → ⊥
  pub transmitters : (way : Way) (row : UuRow) → Contains c.tables.uus row → (entity : Entity) → entity_on c (sender_of way) (Uu row.chan) ≡ Some entity
      → (number : ℕ) (kept : Kept) → kept_at entity.tx number ≡ Some kept → kept.tag.ue ≡ Some id → ⊥
  pub items : (g : Ghost) → Stands g (view c) → (n : ℕ) (i : Item) → g.chain.items n ≡ Some i → i.goal ≡ ToRelay id → is_off_pc5 (g.chain.spot n) (way_of i) ≡ false

-- while a plan of a remote is open that asks for an identity, none of the three nodes attaches the identity to another remote: so the node that applies the plan finds
-- it free
abbrev pub PlannedIdsAreOwn : Chain → Type 0
PlannedIdsAreOwn c = (remote : Remote) (plan : Plan) (id : LocalId) → plan_at c remote ≡ Some plan → is_open plan ≡ true → plan.goal ≡ ToRelay id
    → (kind : NodeKind) (other : Remote) → IsAttached (node_at c (node_of kind remote)).attached other id.0 → other ≡ remote

-- where a plan is accepted that asks for an identity, nothing bears the identity
abbrev pub PlansUnborne : Moment → Type 0
PlansUnborne m = (remote : Remote) (id : LocalId) (epoch : ℕ) → m.entry.line ≡ PlanLine remote (ToRelay id) → m.entry.reply ≡ OkNumber epoch → IsUnborne m.before id
