-- Which confirmed numbers a line may raise.
use Rattle.std.specs.Prelude.{◌≡◌, ◌&&◌, ℕ, nat_lt, if◌then◌else◌, List, [], ◌∷◌, Option, Some, None, IfSome, option_map}
use Rattle.link_base.specs.declared.names.Drb.{Drb}
use Rattle.link_base.specs.declared.names.Key.{Key}
use Rattle.link_base.specs.declared.names.PortName.{PortName}
use Rattle.link_base.specs.declared.names.PortName.TheVariants.{Direct}
use Rattle.link_base.specs.declared.names.Remote.{Remote}
use Rattle.link_base.specs.declared.names.Side.{Side}
use Rattle.rlc_model.specs.Sides.{Entity, way_from}
use Rattle.rlc_model.specs.Tx.{Kept, kept_at}
use Rattle.pdcp_model.specs.Sender.{confirmed}
use Rattle.script_text.specs.declared.event.Event.{Event}
use Rattle.script_text.specs.declared.event.Event.TheVariants.{Conf}
use Rattle.node_model.specs.declared.answers.NodeHeard.{NodeHeard}
use Rattle.node_model.specs.declared.answers.NodeHeard.TheVariants.{Report}
use Rattle.node_model.specs.Names.{key_of, source}
use Rattle.node_model.specs.State.{Node, outgoing}
use Rattle.node_model.specs.Tables.{has_bearer}
use Rattle.chain_model.specs.State.{Chain, entity_on, sender_at}
use Rattle.direct_run_law.specs.Own.{IsOwnTag}
use Rattle.chain_core.specs.declared.confirming.Watched.{Watched}
use Rattle.chain_core.specs.Nodes.{node_in}

-- the key that a side of a direct port sends
abbrev pub key_sent : Side → PortName → Option Key
key_sent side (Direct remote drb) = Some (key_of remote drb (way_from side))
key_sent side port = None

-- a key with its confirmed number
abbrev pub with_number : List Node → Key → Watched
with_number nodes key = record { key = key; before = confirmed (outgoing (node_in nodes (source key)) key).sender }

-- the key that a side of a direct port sends, with its confirmed number
abbrev pub sent_over : List Node → Side → PortName → Option Watched
sent_over nodes side port = option_map (with_number nodes) (key_sent side port)

-- the key whose confirmed number a PDU may have raised that was answered so: the one that a report was about, else the one that is sent over its port
abbrev pub watch_of : NodeHeard → Option Watched → Option Watched
watch_of (Report key number) sent = Some (record { key = key; before = number })
watch_of answer sent = sent

-- the key that is watched
abbrev pub its_key : Watched → Key
its_key w = w.key

-- the transmitter of an open direct port keeps data PDUs of that key alone which its side sends
abbrev pub HaveOwnTags : Chain → Type 0
HaveOwnTags c = (side : Side) (remote : Remote) (drb : Drb) (e : Entity) → entity_on c side (Direct remote drb) ≡ Some e
    → (n : ℕ) (k : Kept) → kept_at e.tx n ≡ Some k → IsOwnTag (key_of remote drb (way_from side)) k.tag

-- the tables stay, and no confirmed number changes but that of the key that is watched, which was this before
pub record Watches (old : Chain) (watch : Option Watched) (new : Chain) : Type 0 where
  pub tables : new.tables ≡ old.tables
  pub before : IfSome watch (λ w. w.before ≡ confirmed (sender_at old w.key))
  pub others : (key : Key) → (option_map its_key watch ≡ Some key → ⊥) → confirmed (sender_at new key) ≡ confirmed (sender_at old key)

-- the event of a key of a bearer that was watched and whose confirmed number rose
abbrev pub risen : Chain → Option Watched → List Event
risen c None = []
risen c (Some w) = if has_bearer c.tables w.key.remote w.key.drb && nat_lt w.before (confirmed (sender_at c w.key)) then Conf w.key (confirmed (sender_at c w.key)) ∷ [] else []
