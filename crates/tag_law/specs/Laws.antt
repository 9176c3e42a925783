-- Whose data PDUs direct ports carry.
use Rattle.std.specs.Prelude.{◌≡◌, ℕ, ◌+◌, ◌<◌, true, false, List, Some, None, is_some}
use Rattle.link_base.specs.declared.names.Drb.{Drb}
use Rattle.link_base.specs.declared.names.Key.{Key}
use Rattle.link_base.specs.declared.names.PortName.TheVariants.{Direct}
use Rattle.link_base.specs.declared.names.Remote.{Remote}
use Rattle.link_base.specs.declared.names.Side.{Side}
use Rattle.rlc_model.specs.Sides.{Entity, way_from}
use Rattle.rlc_model.specs.Tx.{Tx, Kept, kept_at}
use Rattle.pdcp_model.specs.Sender.{kept_at as sdu_at}
use Rattle.node_model.specs.Names.{key_of, source}
use Rattle.node_model.specs.State.{Outgoing, entity_at, id_at, outgoing_at}
use Rattle.chain_model.specs.State.{Chain, entity_on, node_at, sender_at}
use Rattle.chain_law.specs.Laws.{ComesUp}
use Rattle.direct_run_law.specs.Own.{IsOwnTag}

-- a transmitter keeps an SDU under the tag of this COUNT of the key
pub record KeepsCount (tx : Tx) (its_key : Key) (its_count : ℕ) : Type 0 where
  pub number : ℕ
  pub sdu : Kept
  pub here : kept_at tx number ≡ Some sdu
  pub key : sdu.tag.key ≡ its_key
  pub count : sdu.tag.count ≡ Some its_count

-- in each run a side of a direct port keeps data PDUs of the key alone that it sends
abbrev pub DirectPortsKeepTheirTags : Type 0
DirectPortsKeepTheirTags = (c : Chain) → ComesUp c → (side : Side) (remote : Remote) (drb : Drb) (e : Entity) → entity_on c side (Direct remote drb) ≡ Some e
    → (n : ℕ) (k : Kept) → kept_at e.tx n ≡ Some k → IsOwnTag (key_of remote drb (way_from side)) k.tag

-- in each run, where a sender doesn't wait and its bearer's direct port is open at its end, the port's transmitter there keeps each SDU below the sender's place
-- that isn't confirmed, under its COUNT
abbrev pub DirectPortsKeepUnconfirmed : Type 0
DirectPortsKeepUnconfirmed = (c : Chain) → ComesUp c → (side : Side) (remote : Remote) (drb : Drb) (e : Entity) → entity_on c side (Direct remote drb) ≡ Some e
    → (key : Key) → key ≡ key_of remote drb (way_from side) → (sender_at c key).waits ≡ false
    → (n : ℕ) (sdu : List ℕ) → n < (sender_at c key).place → sdu_at (sender_at c key) n ≡ Some sdu → KeepsCount e.tx key ((sender_at c key).first + n)

-- in each run an end that sends a key and doesn't attach the key's remote has the bearer's direct port open
abbrev pub DirectPathsAreOpen : Type 0
DirectPathsAreOpen = (c : Chain) → ComesUp c → (key : Key) (o : Outgoing) → outgoing_at (node_at c (source key)) key ≡ Some o → id_at (node_at c (source key)) key.remote ≡ None
    → is_some (entity_at (node_at c (source key)) (Direct key.remote key.drb)) ≡ true
