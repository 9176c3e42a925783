-- The laws of one copy: of each COUNT of a clean remote there is one copy that may still arrive, or it was heard, or it will be given again.
use Rattle.std.specs.Prelude.{◌≡◌, ◌⊎◌, ℕ, ◌<◌, ◌≤◌, Bool, true, false, None}
use Rattle.item_law.specs.State.{Remote, Key, Tables, Sdu, Data, Report, Item, Chain, source, sink, epoch_at, is_heard}
use Rattle.item_law.specs.World.{World, IsClean, Reaches}
use Rattle.item_law.specs.Live.{Live}

-- what a sender doesn't keep any more was heard: so each COUNT accepted was heard or is kept
abbrev pub ConfirmsHeard : Type 0
ConfirmsHeard = (t : Tables) (w : World) → Reaches t w → (k : Key) → IsClean w k.remote → (c : ℕ) → (w.chain.sender k).confirmed c ≡ true → is_heard w.chain k c ≡ true

-- no COUNT is at two live places
abbrev pub LiveOnce : Type 0
LiveOnce = (t : Tables) (w : World) → Reaches t w → (n m : ℕ) (i j : Item) (c : ℕ) (x y : Sdu) → IsClean w i.key.remote → Live w.chain n i → Live w.chain m j
    → i.content ≡ Data c x → j.content ≡ Data c y → i.key ≡ j.key → n ≡ m

-- no live COUNT was heard
abbrev pub LiveUnheard : Type 0
LiveUnheard = (t : Tables) (w : World) → Reaches t w → (n : ℕ) (i : Item) (c : ℕ) (x : Sdu) → IsClean w i.key.remote → Live w.chain n i → i.content ≡ Data c x
    → is_heard w.chain i.key c ≡ false

-- both ends of a key are in one epoch
abbrev pub IsOneEpoch : Chain → Key → Type 0
IsOneEpoch s k = epoch_at (s.path k.remote) (source k.way) ≡ epoch_at (s.path k.remote) (sink k.way)

-- while a sender waits and both ends are in one epoch, no COUNT is live
abbrev pub NoneLiveInWait : Type 0
NoneLiveInWait = (t : Tables) (w : World) → Reaches t w → (n : ℕ) (i : Item) (c : ℕ) (x : Sdu) → IsClean w i.key.remote → (w.chain.sender i.key).waits ≡ true
    → IsOneEpoch w.chain i.key
    → Live w.chain n i → i.content ≡ Data c x → ⊥

-- while a sender waits, each live status report names all that was heard
abbrev pub ReportsNameHeard : Type 0
ReportsNameHeard = (t : Tables) (w : World) → Reaches t w → (n : ℕ) (i : Item) (named : ℕ → Bool) → IsClean w i.key.remote → (w.chain.sender i.key).waits ≡ true
    → Live w.chain n i → i.content ≡ Report named → (c : ℕ) → is_heard w.chain i.key c ≡ true → named c ≡ true

-- some status report of the key is live
pub record HasLiveReport (s : Chain) (k : Key) : Type 0 where
  pub n : ℕ
  pub i : Item
  pub named : ℕ → Bool
  pub live : Live s n i
  pub key : i.key ≡ k
  pub content : i.content ≡ Report named

-- an SDU of the key under this COUNT is live
pub record HasLiveData (s : Chain) (k : Key) (c : ℕ) : Type 0 where
  pub n : ℕ
  pub i : Item
  pub sdu : Sdu
  pub live : Live s n i
  pub key : i.key ≡ k
  pub content : i.content ≡ Data c sdu

-- no plan of the remote is open, and it has lost nothing since the last one as a channel failed
pub record IsSettled (w : World) (r : Remote) : Type 0 where
  pub clean : IsClean w r
  pub no_plan : (w.chain.path r).plan ≡ None
  pub sound : w.broken r ≡ false

-- a sender that waits gets its status report: one is wanted or live
abbrev pub WaitEnds : Type 0
WaitEnds = (t : Tables) (w : World) → Reaches t w → (k : Key) → IsSettled w k.remote → (w.chain.sender k).waits ≡ true → (w.chain.wanted k ≡ true) ⊎ HasLiveReport w.chain k

-- of a sender that doesn't wait each COUNT below its place was heard or is live
abbrev pub GivenArrives : Type 0
GivenArrives = (t : Tables) (w : World) → Reaches t w → (k : Key) (c : ℕ) → IsSettled w k.remote → (w.chain.sender k).waits ≡ false → c < (w.chain.sender k).place
    → (is_heard w.chain k c ≡ true) ⊎ HasLiveData w.chain k c

-- of a sender that doesn't wait no COUNT is live from its place on, and each one from there on that was heard is confirmed
abbrev pub PlaceIsNext : Type 0
PlaceIsNext = (t : Tables) (w : World) → Reaches t w → (k : Key) → IsClean w k.remote → (w.chain.sender k).waits ≡ false
    → ((n : ℕ) (i : Item) (c : ℕ) (x : Sdu) → Live w.chain n i → i.key ≡ k → i.content ≡ Data c x → c < (w.chain.sender k).place)
    × ((c : ℕ) → (w.chain.sender k).place ≤ c → is_heard w.chain k c ≡ true → (w.chain.sender k).confirmed c ≡ true)
