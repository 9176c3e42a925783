-- The laws of what arrives and what is handed up.
use Rattle.std.specs.Prelude.{◌≡◌, ℕ, ◌+◌, ◌<◌, ◌≤◌, true, false, List, [], ◌++◌, length, get_or, Option, Some, None}
use Rattle.item_law.specs.State.{Remote, LocalId, Key, Ul, Dl, AtRelay, AtGnb, ToRelay, Tables, Sdu, Data, Item, OnFirstHop, OnSecondHop, Chain, way_of, goal_at, is_heard}
use Rattle.item_law.specs.Steps.{IsOpenAtRelay, RelayRoutes, IsOpenAtEnd, EndRoutes}
use Rattle.item_law.specs.World.{World, IsClean, Reaches}
use Rattle.item_law.specs.Live.{Live}
use Rattle.item_law.specs.OneCopy.{IsSettled}

-- what the relay routes for a remote is of that remote, whatever other remotes inject
abbrev pub RelaysForOwner : Type 0
RelaysForOwner = (t : Tables) (w : World) → Reaches t w → (n : ℕ) (i : Item) (u : LocalId) (q : Remote) → w.chain.items n ≡ Some i → w.chain.spot n ≡ OnFirstHop
    → i.goal ≡ ToRelay u
    → RelayRoutes t w.chain i (way_of i) q → q ≡ i.key.remote

-- what an end takes for a remote is of that remote, whatever other remotes inject
abbrev pub ArrivesForOwner : Type 0
ArrivesForOwner = (t : Tables) (w : World) → Reaches t w → (n : ℕ) (i : Item) (to : Remote) (e : ℕ) (q : Remote) → w.chain.items n ≡ Some i → w.chain.spot n ≡ OnSecondHop to e
    → EndRoutes t w.chain i (way_of i) to q → q ≡ i.key.remote

-- the relay routes what bears an identity that it attaches
abbrev pub RelayTakesAttached : Type 0
RelayTakesAttached = (t : Tables) (w : World) → Reaches t w → (n : ℕ) (i : Item) (u : LocalId) (q : Remote) → IsClean w i.key.remote → w.chain.items n ≡ Some i
    → w.chain.spot n ≡ OnFirstHop
    → i.goal ≡ ToRelay u → IsOpenAtRelay w.chain i (way_of i) → goal_at (w.chain.path q) AtRelay ≡ ToRelay u → RelayRoutes t w.chain i (way_of i) q

-- the gNB takes what bears an identity that it attaches
abbrev pub GnbTakesAttached : Type 0
GnbTakesAttached = (t : Tables) (w : World) → Reaches t w → (n : ℕ) (i : Item) (to : Remote) (e : ℕ) (q : Remote) → w.chain.items n ≡ Some i → w.chain.spot n ≡ OnSecondHop to e
    → way_of i ≡ Ul
    → goal_at (w.chain.path q) AtGnb ≡ i.goal → EndRoutes t w.chain i Ul to q

-- a remote takes all that it hears
abbrev pub RemoteTakesAll : Type 0
RemoteTakesAll = (t : Tables) (w : World) → Reaches t w → (n : ℕ) (i : Item) (to : Remote) (e : ℕ) → IsClean w i.key.remote → w.chain.items n ≡ Some i
    → w.chain.spot n ≡ OnSecondHop to e → way_of i ≡ Dl
    → IsOpenAtEnd w.chain Dl to e → EndRoutes t w.chain i Dl to to

-- under each COUNT the SDU was heard that was submitted under it for this same key
abbrev pub HearsSubmitted : Type 0
HearsSubmitted = (t : Tables) (w : World) → Reaches t w → (k : Key) → IsClean w k.remote → (c : ℕ) (x : Sdu) → w.chain.heard k c ≡ Some x
    → (c < length (w.chain.sender k).submitted) × (x ≡ get_or (w.chain.sender k).submitted c [])

-- what is handed up: the SDUs of the longest run of COUNTs from the first one on that were heard (TS 38.323 clause 5.2.2.1)
pub record IsHandUp (heard : ℕ → Option Sdu) (up : List Sdu) : Type 0 where
  pub run : (c : ℕ) → c < length up → heard c ≡ Some (get_or up c [])
  pub stops : heard (length up) ≡ None

-- the list begins with the other one
abbrev pub IsPrefixOf : List Sdu → List Sdu → Type 0
IsPrefixOf xs ys = (rest : List Sdu) × (xs ++ rest ≡ ys)

-- what a key of a clean remote hands up is a prefix of what was submitted for it
abbrev pub HandsUpPrefix : Type 0
HandsUpPrefix = (t : Tables) (w : World) → Reaches t w → (k : Key) (up : List Sdu) → IsClean w k.remote → IsHandUp (w.chain.heard k) up → IsPrefixOf up (w.chain.sender k).submitted

-- nothing of the key is live, and its sender neither waits nor has anything to give
pub record IsQuiet (s : Chain) (k : Key) : Type 0 where
  pub items : (n : ℕ) (i : Item) → i.key ≡ k → Live s n i → ⊥
  pub waits : (s.sender k).waits ≡ false
  pub given : (c : ℕ) → (s.sender k).place ≤ c → c < length (s.sender k).submitted → (s.sender k).confirmed c ≡ true

-- a key that is quiet has handed up all that was submitted for it
abbrev pub HandsUpAll : Type 0
HandsUpAll = (t : Tables) (w : World) → Reaches t w → (k : Key) (up : List Sdu) → IsSettled w k.remote → IsQuiet w.chain k → IsHandUp (w.chain.heard k) up
    → up ≡ (w.chain.sender k).submitted

-- what is live is within the limit behind what was handed up
abbrev pub LiveInWindow : Type 0
LiveInWindow = (t : Tables) (w : World) → Reaches t w → (n : ℕ) (i : Item) (c : ℕ) (x : Sdu) (up : List Sdu) → IsClean w i.key.remote → Live w.chain n i → i.content ≡ Data c x
    → IsHandUp (w.chain.heard i.key) up → (length up ≤ c) × (c < length up + t.limit i.key.remote i.key.drb)

-- so is all that was heard
abbrev pub HeardInWindow : Type 0
HeardInWindow = (t : Tables) (w : World) → Reaches t w → (k : Key) (c : ℕ) (up : List Sdu) → IsClean w k.remote → IsHandUp (w.chain.heard k) up → is_heard w.chain k c ≡ true
    → c < length up + t.limit k.remote k.drb
