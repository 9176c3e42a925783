-- What the chain is here: copies of SDUs and of status reports that travel, and nothing of octets on the air, segments, timers or STATUS PDUs.
use Rattle.std.specs.Prelude.{◌≡◌, ◌⊎◌, ℕ, ◌+◌, ◌==◌, Bool, true, false, cond, List, Option, Some, None}
use Rattle.std.specs.Option.{is_some}
pub use Rattle.link_base.specs.declared.names.Remote.{Remote}
pub use Rattle.link_base.specs.declared.names.Drb.{Drb}
pub use Rattle.link_base.specs.declared.names.Chan.{Chan}
pub use Rattle.link_base.specs.declared.names.LocalId.{LocalId}
pub use Rattle.link_base.specs.declared.names.Key.{Key}
pub use Rattle.link_base.specs.declared.names.Way.{Way}
pub use Rattle.link_base.specs.declared.names.Way.TheVariants.{Ul, Dl}
pub use Rattle.link_base.specs.declared.names.Node.{Node}
pub use Rattle.link_base.specs.declared.names.Node.TheVariants.{Remote as AtRemote, Relay as AtRelay, Gnb as AtGnb}
pub use Rattle.link_base.specs.declared.names.Goal.{Goal}
pub use Rattle.link_base.specs.declared.names.Goal.TheVariants.{Direct as ToDirect, Relay as ToRelay}
pub use Rattle.rlc_model.specs.Sides.{flip}
pub use Rattle.node_model.specs.Names.{is_remote, is_way, is_key, key_of}

-- the tables: which bearers there are, the Uu channel of a bearer's row in the relay's mapping if it has one, the path of a remote at the start, and
-- how many SDUs of a bearer may be unconfirmed at most
pub record Tables : Type 0 where
  pub bearer : Remote → Drb → Bool
  pub uu : Remote → Drb → Option Chan
  pub goal : Remote → Goal
  pub limit : Remote → Drb → ℕ

---- items

-- an SDU, as its octets
abbrev pub Sdu : Type 0
Sdu = List ℕ

-- what an item carries: an SDU under its COUNT, told less the first COUNT of its key, or a status report with the COUNTs that it says were received
-- (TS 38.323 clauses 6.2.2.1 and 6.2.3.1)
pub data Content : Type 0 where
  Data : (count : ℕ) (sdu : Sdu) → Content
  Report : (named : ℕ → Bool) → Content

-- what an end gave to one of its transmitters: for which key, towards which goal, that is direct or over the relay under a local identity, and in
-- which epoch of that end. An item never changes
pub record Item : Type 0 where
  pub key : Key
  pub content : Content
  pub goal : Goal
  pub epoch : ℕ

-- where an item is: on its first hop, in a slot or a queue of the relay for the remote that it was routed to, on its second hop for that remote and in
-- the relay's epoch at that time, arrived at an end, or lost. On a hop stands for the SDU in the transmitter and all its PDUs together
pub data Spot : Type 0 where
  OnFirstHop : Spot
  InSlot : (to : Remote) → Spot
  InQueue : (to : Remote) → Spot
  OnSecondHop : (to : Remote) (epoch : ℕ) → Spot
  Arrived : Spot
  Lost : Spot

---- the chain

-- an open plan of a remote: the path that it asks for, and which nodes have applied it (TS 38.300 clause 16.12.6)
pub record Plan : Type 0 where
  pub asks : Goal
  pub at_remote : Bool
  pub at_relay : Bool
  pub at_gnb : Bool

-- the epoch and the path of a remote at the nodes that have not applied its open plan. Those that have are one epoch on, and on the path that it asks for
pub record Path : Type 0 where
  pub epoch : ℕ
  pub goal : Goal
  pub plan : Option Plan

-- the sending end of a key: the SDUs submitted, which COUNTs are confirmed, the COUNT that is given next, and whether it waits for a status report
pub record Sender : Type 0 where
  pub submitted : List Sdu
  pub confirmed : ℕ → Bool
  pub place : ℕ
  pub waits : Bool

-- the chain: paths of remotes, sending ends, the SDU of each COUNT that was heard at a key's receiving end, whether a status report is wanted there,
-- and the items by number with the spot of each
pub record Chain : Type 0 where
  pub path : Remote → Path
  pub sender : Key → Sender
  pub heard : Key → ℕ → Option Sdu
  pub wanted : Key → Bool
  pub items : ℕ → Option Item
  pub spot : ℕ → Spot

-- whether two numbers are one
abbrev pub is_number : ℕ → ℕ → Bool
is_number a b = a == b

-- a function with one value changed, where the test tells which arguments are one
abbrev pub put : {K X : Type 0} → (K → K → Bool) → (K → X) → K → X → K → X
put is f k x l = cond (is l k) x (f l)

---- ways and nodes

-- the end from which items of a way come
abbrev pub source : Way → Node
source Ul = AtRemote
source Dl = AtGnb

-- the end to which they go
abbrev pub sink : Way → Node
sink Ul = AtGnb
sink Dl = AtRemote

-- the way in which a content of a key goes: an SDU goes the key's way, a status report the other
abbrev pub way_with : Way → Content → Way
way_with w (Data c x) = w
way_with w (Report f) = flip w

-- the way in which an item goes
abbrev pub way_of : Item → Way
way_of i = way_with i.key.way i.content

---- where nodes are

-- whether a node has applied a plan
abbrev pub applied_at : Plan → Node → Bool
applied_at p AtRemote = p.at_remote
applied_at p AtRelay = p.at_relay
applied_at p AtGnb = p.at_gnb

-- the same of the plan that is open, if one is
abbrev pub applied_in : Option Plan → Node → Bool
applied_in None nd = false
applied_in (Some p) nd = applied_at p nd

-- whether a node has applied the open plan of a remote's path
abbrev pub has_applied : Path → Node → Bool
has_applied p nd = applied_in p.plan nd

-- the epoch of the remote at a node
abbrev pub epoch_at : Path → Node → ℕ
epoch_at p nd = cond (has_applied p nd) (p.epoch + 1) p.epoch

-- the path at a node that was on a path before the open plan
abbrev pub goal_in : Goal → Option Plan → Node → Goal
goal_in g None nd = g
goal_in g (Some p) nd = cond (applied_at p nd) p.asks g

-- the path of the remote at a node: with a local identity the node attaches it to the remote
abbrev pub goal_at : Path → Node → Goal
goal_at p nd = goal_in p.goal p.plan nd

-- whether a path goes over the relay
abbrev pub is_over_relay : Goal → Bool
is_over_relay ToDirect = false
is_over_relay (ToRelay u) = true

-- the open plan asks for the local identity
abbrev pub AsksFor : Path → LocalId → Type 0
AsksFor p u = (q : Plan) × (p.plan ≡ Some q) × (q.asks ≡ ToRelay u)

-- the local identity is the remote's: a node attaches it, or the open plan asks for it
abbrev pub Reserves : Path → LocalId → Type 0
Reserves p u = (p.goal ≡ ToRelay u) ⊎ AsksFor p u

---- tables

-- the bearer has a row in the relay's mapping
pub record HasRow (t : Tables) (r : Remote) (d : Drb) : Type 0 where
  pub chan : Chan
  pub is : t.uu r d ≡ Some chan

-- bearers of two remotes have rows with one Uu channel
pub record SameUu (t : Tables) (r q : Remote) (d : Drb) : Type 0 where
  pub chan : Chan
  pub first : t.uu r d ≡ Some chan
  pub second : t.uu q d ≡ Some chan

-- the tables are good: a local identity is of one remote, and each bearer of a remote that is on the relay at the start has a row
pub record TablesFit (t : Tables) : Type 0 where
  pub apart : (r q : Remote) (u : LocalId) → t.goal r ≡ ToRelay u → t.goal q ≡ ToRelay u → r ≡ q
  pub rows : (r : Remote) (d : Drb) (u : LocalId) → t.goal r ≡ ToRelay u → t.bearer r d ≡ true → HasRow t r d

---- what is asked of an item

-- whether a COUNT of a key was heard
abbrev pub is_heard : Chain → Key → ℕ → Bool
is_heard s k c = is_some (s.heard k c)

-- whether an item is still on its way
abbrev pub is_on_its_way : Spot → Bool
is_on_its_way OnFirstHop = true
is_on_its_way (InSlot q) = true
is_on_its_way (InQueue q) = true
is_on_its_way (OnSecondHop q e) = true
is_on_its_way Arrived = false
is_on_its_way Lost = false

-- whether an item over the relay is on a Uu hop, in a slot or in a queue, and not on a PC5 hop
abbrev pub is_off_pc5 : Spot → Way → Bool
is_off_pc5 OnFirstHop Ul = false
is_off_pc5 OnFirstHop Dl = true
is_off_pc5 (InSlot q) w = true
is_off_pc5 (InQueue q) w = true
is_off_pc5 (OnSecondHop q e) Ul = true
is_off_pc5 (OnSecondHop q e) Dl = false
is_off_pc5 Arrived w = false
is_off_pc5 Lost w = false
