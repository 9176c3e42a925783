-- What each step keeps: of identities, of each item, of each item of a clean remote, and of each key of one.
use Rattle.std.proofs.Common.{◌≡◌, ◌⊎◌, ℕ, ◌+◌, ◌<◌, ◌≤◌, Bool, true, false, [], length, get_or, Option, Some, None, arith}
use Rattle.std.specs.Option.{is_some}
use Rattle.item_law.specs.State.{Remote, Drb, LocalId, Way, Ul, Dl, Node, AtRemote, AtRelay, Key, Goal, ToDirect, ToRelay, Tables, Sdu, Data, Report, Item, Spot, OnFirstHop, InSlot, InQueue, OnSecondHop, Arrived, Lost, Path, Sender, Chain, source, way_of, has_applied, epoch_at, goal_at, is_over_relay, AsksFor, Reserves, HasRow, is_on_its_way, is_off_pc5}

-- an identity is of one remote, another one than its own plan asks for, and the remote's bearers have rows
pub record IdsFit (t : Tables) (path : Remote → Path) : Type 0 where
  pub apart : (r q : Remote) (u : LocalId) → Reserves (path r) u → Reserves (path q) u → r ≡ q
  pub fresh : (r : Remote) (u : LocalId) → (path r).goal ≡ ToRelay u → AsksFor (path r) u → ⊥
  pub rows : (r : Remote) (u : LocalId) (d : Drb) → Reserves (path r) u → t.bearer r d ≡ true → HasRow t r d

---- each item

-- it is where only an item over the relay is
abbrev pub is_past_relay : Spot → Bool
is_past_relay OnFirstHop = false
is_past_relay (InSlot q) = true
is_past_relay (InQueue q) = true
is_past_relay (OnSecondHop q e) = true
is_past_relay Arrived = false
is_past_relay Lost = false

-- its route is its own remote's, and what the relay holds for a PC5 port has the goal that the relay has for the remote
abbrev pub Route : (Remote → Path) → Item → Spot → Way → Type 0
Route path i OnFirstHop w = Unit {0}
Route path i (InSlot q) w = (q ≡ i.key.remote) × (goal_at (path q) AtRelay ≡ i.goal)
Route path i (InQueue q) Ul = q ≡ i.key.remote
Route path i (InQueue q) Dl = (q ≡ i.key.remote) × (goal_at (path q) AtRelay ≡ i.goal)
Route path i (OnSecondHop q e) w = q ≡ i.key.remote
Route path i Arrived w = Unit {0}
Route path i Lost w = Unit {0}

-- a hop that a node opened in an epoch and towards a goal: the node is not behind it, and while it is in that epoch it has that goal
pub record IsOpened (p : Path) (nd : Node) (e : ℕ) (g : Goal) : Type 0 where
  pub before : e ≤ epoch_at p nd
  pub same : epoch_at p nd ≡ e → goal_at p nd ≡ g

-- on a PC5 hop it has the goal that its sender had when it opened the hop
abbrev pub OnPc5 : (Remote → Path) → Item → Spot → Way → Type 0
OnPc5 path i OnFirstHop Ul = IsOpened (path i.key.remote) AtRemote i.epoch i.goal
OnPc5 path i OnFirstHop Dl = Unit {0}
OnPc5 path i (InSlot q) w = Unit {0}
OnPc5 path i (InQueue q) w = Unit {0}
OnPc5 path i (OnSecondHop q e) Ul = Unit {0}
OnPc5 path i (OnSecondHop q e) Dl = IsOpened (path q) AtRelay e i.goal
OnPc5 path i Arrived w = Unit {0}
OnPc5 path i Lost w = Unit {0}

pub record ItemFits (t : Tables) (path : Remote → Path) (i : Item) (x : Spot) : Type 0 where
  pub route : Route path i x (way_of i)
  pub over : is_past_relay x ≡ true → is_over_relay i.goal ≡ true
  pub own : (u : LocalId) (r : Remote) → is_off_pc5 x (way_of i) ≡ true → i.goal ≡ ToRelay u → Reserves (path r) u → r ≡ i.key.remote
  pub pc5 : OnPc5 path i x (way_of i)
  pub row : (u : LocalId) → i.goal ≡ ToRelay u → HasRow t i.key.remote i.key.drb

---- each item of a clean remote

-- on a second hop downlink it is of the hop's epoch
abbrev pub OfHop : Item → Spot → Way → Type 0
OfHop i OnFirstHop w = Unit {0}
OfHop i (InSlot q) w = Unit {0}
OfHop i (InQueue q) w = Unit {0}
OfHop i (OnSecondHop q e) Ul = Unit {0}
OfHop i (OnSecondHop q e) Dl = i.epoch ≡ e
OfHop i Arrived w = Unit {0}
OfHop i Lost w = Unit {0}

-- no item is of the open plan's epoch
pub record OwnFits (p : Path) (i : Item) (x : Spot) : Type 0 where
  pub limit : i.epoch ≤ p.epoch
  pub goal : i.epoch ≡ p.epoch → i.goal ≡ p.goal
  pub now : (u : LocalId) → is_off_pc5 x (way_of i) ≡ true → i.goal ≡ ToRelay u → Reserves p u → i.epoch ≡ p.epoch
  pub second : OfHop i x (way_of i)

---- each key of a clean remote

-- at most limit SDUs are behind the first ones that are confirmed
pub record Within (limit : ℕ) (a : Sender) : Type 0 where
  pub n : ℕ
  pub first : (c : ℕ) → c < n → a.confirmed c ≡ true
  pub few : length a.submitted ≤ n + limit

pub within_more : (limit : ℕ) (a b : Sender) → length b.submitted ≤ length a.submitted → ((c : ℕ) → a.confirmed c ≡ true → b.confirmed c ≡ true) → Within limit a → Within limit b
within_more limit a b le more w = record { n = w.n; first = λ c lt. more c (w.first c lt); few = omega (arith, w.few) }

-- it is the SDU submitted under this COUNT
abbrev pub IsSubmitted : Sender → ℕ → Sdu → Type 0
IsSubmitted a c x = (c < length a.submitted) × (x ≡ get_or a.submitted c [])

-- all that is said of a key but its items
pub record KeyState : Type 0 where
  pub limit : ℕ
  pub path : Path
  pub broken : Bool
  pub sender : Sender
  pub heard : ℕ → Option Sdu
  pub wanted : Bool

-- the same in a chain
abbrev pub state_of : Tables → Chain → (Remote → Bool) → Key → KeyState
state_of t s broken k = record { limit = t.limit k.remote k.drb; path = s.path k.remote; broken = broken k.remote; sender = s.sender k; heard = s.heard k; wanted = s.wanted k }

pub record IsOf (items : ℕ → Option Item) (k : Key) (n : ℕ) (i : Item) : Type 0 where
  pub is : items n ≡ Some i
  pub key : i.key ≡ k

-- an item of the key and of this epoch is on its way
pub record IsMoving (p : Path) (items : ℕ → Option Item) (spot : ℕ → Spot) (k : Key) (n : ℕ) (i : Item) : Type 0 where
  pub of : IsOf items k n i
  pub now : i.epoch ≡ p.epoch
  pub moves : is_on_its_way (spot n) ≡ true

abbrev pub ReportMoves : Path → (ℕ → Option Item) → (ℕ → Spot) → Key → Type 0
ReportMoves p items spot k = (n : ℕ) × (i : Item) × (f : ℕ → Bool) × IsMoving p items spot k n i × (i.content ≡ Report f)

abbrev pub DataMoves : Path → (ℕ → Option Item) → (ℕ → Spot) → Key → ℕ → Type 0
DataMoves p items spot k c = (n : ℕ) × (i : Item) × (x : Sdu) × IsMoving p items spot k n i × (i.content ≡ Data c x)

pub record KeyFits (at : KeyState) (items : ℕ → Option Item) (spot : ℕ → Spot) (k : Key) : Type 0 where
  -- the sender
  pub waits : has_applied at.path (source k.way) ≡ true → at.sender.waits ≡ true
  pub place : at.sender.place ≤ length at.sender.submitted
  pub few : Within at.limit at.sender
  -- its items
  pub once : (n m : ℕ) (i j : Item) (c : ℕ) (x y : Sdu) → IsOf items k n i → IsOf items k m j → i.content ≡ Data c x → j.content ≡ Data c y → i.epoch ≡ j.epoch → n ≡ m
  pub sent : (n : ℕ) (i : Item) (c : ℕ) (x : Sdu) → IsOf items k n i → i.content ≡ Data c x → i.epoch ≡ at.path.epoch → has_applied at.path (source k.way) ≡ false
      → (at.sender.waits ≡ false) × (c < at.sender.place)
  pub sdus : (n : ℕ) (i : Item) (c : ℕ) (x : Sdu) → IsOf items k n i → i.content ≡ Data c x → IsSubmitted at.sender c x
  -- what is heard
  pub confirmed : (c : ℕ) → at.sender.confirmed c ≡ true → is_some (at.heard c) ≡ true
  pub beyond : (c : ℕ) → at.sender.waits ≡ false → at.sender.place ≤ c → is_some (at.heard c) ≡ true → at.sender.confirmed c ≡ true
  pub submitted : (c : ℕ) (x : Sdu) → at.heard c ≡ Some x → IsSubmitted at.sender c x
  pub named : (n : ℕ) (i : Item) (f : ℕ → Bool) (c : ℕ) → IsOf items k n i → i.content ≡ Report f → f c ≡ true → is_some (at.heard c) ≡ true
  pub direct : (n : ℕ) (i : Item) (c : ℕ) (x : Sdu) → IsOf items k n i → i.content ≡ Data c x → i.goal ≡ ToDirect → spot n ≡ Arrived → is_some (at.heard c) ≡ true
  -- in this epoch
  pub unheard : (n : ℕ) (i : Item) (c : ℕ) (x : Sdu) → IsOf items k n i → i.content ≡ Data c x → i.epoch ≡ at.path.epoch → is_on_its_way (spot n) ≡ true
      → is_some (at.heard c) ≡ false
  pub reports : (n : ℕ) (i : Item) (f : ℕ → Bool) → IsOf items k n i → i.content ≡ Report f → i.epoch ≡ at.path.epoch → has_applied at.path (source k.way) ≡ false
      → at.sender.waits ≡ true
      → (c : ℕ) → is_some (at.heard c) ≡ true → f c ≡ true
  pub waiting : at.path.plan ≡ None → at.broken ≡ false → at.sender.waits ≡ true → (at.wanted ≡ true) ⊎ ReportMoves at.path items spot k
  pub given : (c : ℕ) → at.path.plan ≡ None → at.broken ≡ false → at.sender.waits ≡ false → c < at.sender.place → (is_some (at.heard c) ≡ true) ⊎ DataMoves at.path items spot k c

---- all of it

pub record Inv (t : Tables) (s : Chain) (tainted broken : Remote → Bool) : Type 0 where
  pub ids : IdsFit t s.path
  pub each : (n : ℕ) (i : Item) → s.items n ≡ Some i → ItemFits t s.path i (s.spot n)
  pub own : (n : ℕ) (i : Item) → s.items n ≡ Some i → tainted i.key.remote ≡ false → OwnFits (s.path i.key.remote) i (s.spot n)
  pub keys : (k : Key) → tainted k.remote ≡ false → KeyFits (state_of t s broken k) s.items s.spot k
