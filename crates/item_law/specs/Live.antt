-- Which items are live, that is, may still arrive for their key, and which are held.
use Rattle.std.specs.Prelude.{◌≡◌, ℕ, Some}
use Rattle.item_law.specs.State.{LocalId, Way, Ul, Dl, AtRemote, AtRelay, AtGnb, Goal, ToDirect, ToRelay, Item, Spot, OnFirstHop, InSlot, InQueue, OnSecondHop, Arrived, Lost, Path, Chain, way_of, sink, epoch_at, goal_at}

-- the remote's PC5 port is open at both sides in one epoch, and the remote is on this path
abbrev pub IsOpenDown : Path → Goal → Type 0
IsOpenDown p g = (epoch_at p AtRemote ≡ epoch_at p AtRelay) × (goal_at p AtRemote ≡ g)

-- each node ahead attaches the identity to the key's remote, and each hop ahead has both its sides open in one epoch
abbrev pub LiveOverRelay : Chain → Item → LocalId → Spot → Way → Type 0
LiveOverRelay s i u OnFirstHop Ul = (epoch_at (s.path i.key.remote) AtRelay ≡ i.epoch) × (goal_at (s.path i.key.remote) AtRelay ≡ ToRelay u)
    × (goal_at (s.path i.key.remote) AtGnb ≡ ToRelay u)
LiveOverRelay s i u (InSlot q) Ul = goal_at (s.path i.key.remote) AtGnb ≡ ToRelay u
LiveOverRelay s i u (InQueue q) Ul = goal_at (s.path i.key.remote) AtGnb ≡ ToRelay u
LiveOverRelay s i u (OnSecondHop q e) Ul = goal_at (s.path i.key.remote) AtGnb ≡ ToRelay u
LiveOverRelay s i u OnFirstHop Dl = (goal_at (s.path i.key.remote) AtRelay ≡ ToRelay u) × IsOpenDown (s.path i.key.remote) (ToRelay u)
LiveOverRelay s i u (InSlot q) Dl = IsOpenDown (s.path i.key.remote) (ToRelay u)
LiveOverRelay s i u (InQueue q) Dl = IsOpenDown (s.path i.key.remote) (ToRelay u)
LiveOverRelay s i u (OnSecondHop q e) Dl = (epoch_at (s.path q) AtRemote ≡ e) × (goal_at (s.path i.key.remote) AtRemote ≡ ToRelay u)
LiveOverRelay s i u Arrived w = ⊥
LiveOverRelay s i u Lost w = ⊥

-- the direct port is open at its receiving side in the item's epoch
abbrev pub LiveDirect : Chain → Item → Spot → Type 0
LiveDirect s i OnFirstHop = (epoch_at (s.path i.key.remote) (sink (way_of i)) ≡ i.epoch) × (goal_at (s.path i.key.remote) (sink (way_of i)) ≡ ToDirect)
LiveDirect s i (InSlot q) = ⊥
LiveDirect s i (InQueue q) = ⊥
LiveDirect s i (OnSecondHop q e) = ⊥
LiveDirect s i Arrived = ⊥
LiveDirect s i Lost = ⊥

-- the same, by the item's own goal
abbrev pub LiveTowards : Chain → Item → Spot → Goal → Type 0
LiveTowards s i x ToDirect = LiveDirect s i x
LiveTowards s i x (ToRelay u) = LiveOverRelay s i u x (way_of i)

-- item n is live: it is on its way, and all that is ahead is open for it
pub record Live (s : Chain) (n : ℕ) (i : Item) : Type 0 where
  pub is : s.items n ≡ Some i
  pub live : LiveTowards s i (s.spot n) i.goal

-- a node holds an item: in a slot, in a queue, or in the transmitter of the item's hop, whose port is open in the hop's epoch
abbrev pub HeldAt : Chain → Item → Spot → Way → Type 0
HeldAt s i OnFirstHop Ul = epoch_at (s.path i.key.remote) AtRemote ≡ i.epoch
HeldAt s i OnFirstHop Dl = Unit {0}
HeldAt s i (InSlot q) w = Unit {0}
HeldAt s i (InQueue q) w = Unit {0}
HeldAt s i (OnSecondHop q e) Ul = Unit {0}
HeldAt s i (OnSecondHop q e) Dl = epoch_at (s.path q) AtRelay ≡ e
HeldAt s i Arrived w = ⊥
HeldAt s i Lost w = ⊥

-- item n is held under a local identity
pub record IsHeld (s : Chain) (n : ℕ) (i : Item) (u : LocalId) : Type 0 where
  pub is : s.items n ≡ Some i
  pub goal : i.goal ≡ ToRelay u
  pub held : HeldAt s i (s.spot n) (way_of i)
