-- Whose data PDUs the transmitters of direct ports keep.
use Rattle.std.specs.Prelude.{◌≡◌, ℕ, Some}
use Rattle.link_base.specs.declared.names.Drb.{Drb}
use Rattle.link_base.specs.declared.names.Key.{Key}
use Rattle.link_base.specs.declared.names.PortName.{PortName}
use Rattle.link_base.specs.declared.names.PortName.TheVariants.{Direct}
use Rattle.link_base.specs.declared.names.Remote.{Remote}
use Rattle.link_base.specs.declared.names.Side.{Side}
use Rattle.link_base.specs.declared.rlc_words.Tag.{Tag}
use Rattle.rlc_model.specs.Sides.{Entity, way_from}
use Rattle.rlc_model.specs.Tx.{Kept, kept_at}
use Rattle.node_model.specs.Names.{key_of}
use Rattle.chain_model.specs.State.{Chain, entity_on}

-- what a transmitter keeps of a data PDU is of this key
abbrev pub IsOwnTag : Key → Tag → Type 0
IsOwnTag key tag = (count : ℕ) → tag.count ≡ Some count → tag.key ≡ key

-- each open port is a direct one, and its transmitters keep data PDUs of the key alone that they send
pub record HasOwnTags (c : Chain) : Type 0 where
  pub direct : (side : Side) (port : PortName) (e : Entity) → entity_on c side port ≡ Some e → (remote : Remote) × (drb : Drb) × (port ≡ Direct remote drb)
  pub tags : (side : Side) (remote : Remote) (drb : Drb) (e : Entity) → entity_on c side (Direct remote drb) ≡ Some e
      → (n : ℕ) (k : Kept) → kept_at e.tx n ≡ Some k → IsOwnTag (key_of remote drb (way_from side)) k.tag
