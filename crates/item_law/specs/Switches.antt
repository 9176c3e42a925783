-- The laws of identities and of path switches.
use Rattle.std.specs.Prelude.{◌≡◌, ℕ, ◌≤◌, true, Some}
use Rattle.item_law.specs.State.{Remote, Drb, LocalId, Key, Way, Ul, Dl, Node, AtRemote, AtRelay, ToRelay, Tables, Item, Spot, OnFirstHop, InSlot, InQueue, OnSecondHop, Arrived, Lost, Plan, Chain, source, way_of, applied_at, goal_at, Reserves, HasRow}
use Rattle.item_law.specs.Steps.{MayPlan}
use Rattle.item_law.specs.World.{World, IsClean, Reaches}
use Rattle.item_law.specs.Live.{IsHeld}

-- an identity that a node attaches to a remote, or that its open plan asks for, is of no other remote
abbrev pub IdsApart : Type 0
IdsApart = (t : Tables) (w : World) → Reaches t w → (r q : Remote) (u : LocalId) → Reserves (w.chain.path r) u → Reserves (w.chain.path q) u → r ≡ q

-- each bearer of a remote with an identity has its row
abbrev pub IdsHaveRows : Type 0
IdsHaveRows = (t : Tables) (w : World) → Reaches t w → (r : Remote) (u : LocalId) (d : Drb) → Reserves (w.chain.path r) u → t.bearer r d ≡ true → HasRow t r d

-- what a node holds under a remote's identity is of that remote; if the remote is clean, it was given in the epoch in which the remote got the identity
abbrev pub HeldForOwner : Type 0
HeldForOwner = (t : Tables) (w : World) → Reaches t w → (n : ℕ) (i : Item) (u : LocalId) (r : Remote) → IsHeld w.chain n i u → Reserves (w.chain.path r) u
    → (i.key.remote ≡ r) × (IsClean w r → ((w.chain.path r).goal ≡ ToRelay u) × (i.epoch ≡ (w.chain.path r).epoch))

-- on a PC5 hop, in a slot or in the queue of a PC5 port: the node attaches the identity to the remote of the port or of the slot's route
abbrev pub BearsAttached : Chain → LocalId → Item → Spot → Way → Type 0
BearsAttached s u i OnFirstHop Ul = goal_at (s.path i.key.remote) AtRemote ≡ ToRelay u
BearsAttached s u i OnFirstHop Dl = Unit {0}
BearsAttached s u i (InSlot q) w = goal_at (s.path q) AtRelay ≡ ToRelay u
BearsAttached s u i (InQueue q) Ul = Unit {0}
BearsAttached s u i (InQueue q) Dl = goal_at (s.path q) AtRelay ≡ ToRelay u
BearsAttached s u i (OnSecondHop q e) Ul = Unit {0}
BearsAttached s u i (OnSecondHop q e) Dl = goal_at (s.path q) AtRelay ≡ ToRelay u
BearsAttached s u i Arrived w = Unit {0}
BearsAttached s u i Lost w = Unit {0}

-- what a node holds there bears the identity that the node attaches: so a slot or such a queue is never the only place that holds an identity
abbrev pub HeldAsAttached : Type 0
HeldAsAttached = (t : Tables) (w : World) → Reaches t w → (n : ℕ) (i : Item) (u : LocalId) → IsHeld w.chain n i u → BearsAttached w.chain u i (w.chain.spot n) (way_of i)

-- a sender at an end that has applied the open plan waits
abbrev pub AppliedWaits : Type 0
AppliedWaits = (t : Tables) (w : World) → Reaches t w → (k : Key) (p : Plan) → IsClean w k.remote → (w.chain.path k.remote).plan ≡ Some p → applied_at p (source k.way) ≡ true
    → (w.chain.sender k).waits ≡ true

-- while a plan is open nothing was given in its epoch, nor over the PC5 port that the relay opened with it
abbrev pub NothingOfPlan : Type 0
NothingOfPlan = (t : Tables) (w : World) → Reaches t w → (n : ℕ) (i : Item) → IsClean w i.key.remote → w.chain.items n ≡ Some i
    → (i.epoch ≤ (w.chain.path i.key.remote).epoch) × ((q : Remote) (e : ℕ) → way_of i ≡ Dl → w.chain.spot n ≡ OnSecondHop q e → (q ≡ i.key.remote) × (e ≤ (w.chain.path q).epoch))

-- while a plan is open nothing is held under the identity that it asks for
abbrev pub NothingUnderPlan : Type 0
NothingUnderPlan = (t : Tables) (w : World) → Reaches t w → (r : Remote) (p : Plan) (u : LocalId) → IsClean w r → (w.chain.path r).plan ≡ Some p → p.asks ≡ ToRelay u
    → (n : ℕ) (i : Item) → IsHeld w.chain n i u → ⊥

-- where a plan is accepted, no node attaches its identity, and nothing is held under it
abbrev pub PlannedIdIsFree : Type 0
PlannedIdIsFree = (t : Tables) (w : World) → Reaches t w → (r : Remote) (u : LocalId) → MayPlan t w.chain r (ToRelay u)
    → ((q : Remote) (nd : Node) → goal_at (w.chain.path q) nd ≡ ToRelay u → ⊥) × ((n : ℕ) (i : Item) → IsHeld w.chain n i u → ⊥)
