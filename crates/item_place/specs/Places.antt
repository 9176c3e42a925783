-- Where the items of a chain stand: on the hops of ports, in the slots of ingress ports and in the queues of egress ports. Each of these is a box.
use Rattle.std.specs.Prelude.{◌≡◌, ℕ, ◌<◌, ◌≤◌, ◌==◌, ◌&&◌, nat_lt, Bool, true, false, cond, List, [], ◌∷◌, ◌++◌, length, slice_get, Option, Some, None}
use Rattle.link_base.specs.declared.names.Goal.{Goal}
use Rattle.link_base.specs.declared.names.Goal.TheVariants.{Direct as ToDirect, Relay as ToRelay}
use Rattle.link_base.specs.declared.names.PortName.{PortName}
use Rattle.link_base.specs.declared.names.PortName.TheVariants.{Direct, Pc5, Uu}
use Rattle.link_base.specs.declared.names.Remote.{Remote}
use Rattle.link_base.specs.declared.names.Way.{Way}
use Rattle.link_base.specs.declared.names.Way.TheVariants.{Ul, Dl}
use Rattle.bearer_map.specs.declared.rows.MapRow.{MapRow}
use Rattle.bearer_map.specs.Contents.{Contents}
use Rattle.node_model.specs.Names.{is_port, is_way}
use Rattle.node_model.specs.Tables.{map_row}
use Rattle.item_law.specs.State.{Item, Spot, OnFirstHop, InSlot, InQueue, OnSecondHop, is_number, put, way_of, is_on_its_way}

-- a place where items stand in a row: the hop of a port in a way and an epoch, the slot of an ingress port of the relay, the queue of an egress port
pub data Station : Type 0 where
  Link : (port : PortName) (way : Way) (epoch : ℕ) → Station
  Ingress : (port : PortName) → Station
  Egress : (port : PortName) → Station

-- whether two stations are one
abbrev pub is_station : Station → Station → Bool
is_station (Link p w e) (Link q v f) = is_port p q && (is_way w v && (e == f))
is_station (Ingress p) (Ingress q) = is_port p q
is_station (Egress p) (Egress q) = is_port p q
is_station a b = false

-- what stands at a station: log has the number of each item that ever came there, in order, and left tells which went on. On a hop these are the SDUs that
-- are complete at its receiver
pub record Box : Type 0 where
  pub log : List ℕ
  pub left : ℕ → Bool

-- the item at a position of a box, where it is still there
abbrev pub at : Box → ℕ → Option ℕ
at b k = cond (b.left k) None (slice_get b.log k)

-- the box once the item at a position went on
abbrev pub leave : Box → ℕ → Box
leave b k = record b { left = put is_number b.left k true }

-- the box once an item came to its end
abbrev pub enter : Box → ℕ → Box
enter b n = record b { log = b.log ++ n ∷ [] }

-- the box once all that came there went on
abbrev pub emptied : Box → Box
emptied b = record b { left = λ k. nat_lt k (length b.log) }

-- the boxes where those of some stations are emptied
abbrev pub emptied_at : (Station → Bool) → (Station → Box) → Station → Box
emptied_at test box a = cond (test a) (emptied (box a)) (box a)

-- the items of a chain in the order in which they came, and the box of each station
pub record Layout : Type 0 where
  pub items : List Item
  pub box : Station → Box

-- the item at a position of a station goes to the end of another station
abbrev pub moved : (Station → Box) → Station → ℕ → Station → ℕ → Station → Box
moved box a k b n = put is_station (put is_station box a (leave (box a) k)) b (enter (put is_station box a (leave (box a) k) b) n)

-- the port and the epoch of an item's first hop: its bearer's direct port, or on the relay path the PC5 or the Uu port of its bearer's channels
abbrev pub FirstBy : Contents → Item → Goal → Way → PortName → ℕ → Type 0
FirstBy t i ToDirect w p e = (p ≡ Direct i.key.remote i.key.drb) × (e ≡ i.epoch)
FirstBy t i (ToRelay u) Ul p e = (row : MapRow) × (map_row t i.key.remote i.key.drb ≡ Some row) × (p ≡ Pc5 i.key.remote row.pc5) × (e ≡ i.epoch)
FirstBy t i (ToRelay u) Dl p e = (row : MapRow) × (map_row t i.key.remote i.key.drb ≡ Some row) × (p ≡ Uu row.uu) × (e ≡ 0)

-- the port and the epoch of the second hop of an item that was routed for a remote
abbrev pub SecondBy : Contents → Item → Way → Remote → ℕ → PortName → ℕ → Type 0
SecondBy t i Ul to own p e = (row : MapRow) × (map_row t to i.key.drb ≡ Some row) × (p ≡ Uu row.uu) × (e ≡ 0)
SecondBy t i Dl to own p e = (row : MapRow) × (map_row t to i.key.drb ≡ Some row) × (p ≡ Pc5 to row.pc5) × (e ≡ own)

-- an item at this station is at this spot
pub data IsSpot (t : Contents) (i : Item) (x : Spot) (a : Station) : Type 0 where
  first : (p : PortName) (e : ℕ) → a ≡ Link p (way_of i) e → x ≡ OnFirstHop → FirstBy t i i.goal (way_of i) p e → IsSpot t i x a
  slot : (p : PortName) (to : Remote) → a ≡ Ingress p → x ≡ InSlot to → IsSpot t i x a
  queue : (p : PortName) (to : Remote) → a ≡ Egress p → x ≡ InQueue to → IsSpot t i x a
  second : (p : PortName) (e : ℕ) (to : Remote) (own : ℕ) → a ≡ Link p (way_of i) e → x ≡ OnSecondHop to own → SecondBy t i (way_of i) to own p e → IsSpot t i x a

-- the layout stands for items at these spots: it has the items; what stands at a station is at a spot there, and at no other station or position; each item
-- that is on its way stands somewhere; nothing has left from where nothing came; and what ever came to a station is one of the items
pub record StandsFor (t : Contents) (l : Layout) (items : ℕ → Option Item) (spot : ℕ → Spot) : Type 0 where
  pub has : (n : ℕ) → items n ≡ slice_get l.items n
  pub stands : (a : Station) (k n : ℕ) → at (l.box a) k ≡ Some n → (i : Item) × (items n ≡ Some i) × IsSpot t i (spot n) a
  pub once : (a b : Station) (k j n : ℕ) → at (l.box a) k ≡ Some n → at (l.box b) j ≡ Some n → (a ≡ b) × (k ≡ j)
  pub found : (n : ℕ) (i : Item) → items n ≡ Some i → is_on_its_way (spot n) ≡ true → (a : Station) × (k : ℕ) × (at (l.box a) k ≡ Some n)
  pub fresh : (a : Station) (k : ℕ) → length (l.box a).log ≤ k → (l.box a).left k ≡ false
  pub known : (a : Station) (k n : ℕ) → slice_get (l.box a).log k ≡ Some n → n < length l.items
