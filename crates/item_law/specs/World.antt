-- The chain with remotes that send any octets, and with Uu channels that fail; and its runs.
use Rattle.std.specs.Prelude.{◌≡◌, ◌≢◌, ◌⊎◌, ℕ, ◌||◌, Bool, true, false, cond, List, [], ◌∷◌, Some, None}
use Rattle.item_law.specs.State.{Remote, LocalId, Key, Ul, AtRelay, ToRelay, is_remote, Tables, Item, InSlot, Lost, Chain, TablesFit, HasRow, is_number, put, way_of, goal_at}
use Rattle.item_law.specs.Steps.{Step}

-- a chain, the remotes on whose PC5 links something was injected, and the remotes that have lost something since their last switch as a channel failed
pub record World : Type 0 where
  pub chain : Chain
  pub tainted : Remote → Bool
  pub broken : Remote → Bool

-- nothing was injected on the remote's PC5 links
abbrev pub IsClean : World → Remote → Type 0
IsClean w r = w.tainted r ≡ false

-- what a remote injects uplink comes to the relay's slot as any item that the relay routes for this remote: with the identity that it attaches
pub record Injects (t : Tables) (s : Chain) (r : Remote) (n : ℕ) (i : Item) : Type 0 where
  pub free : s.items n ≡ None
  pub key : i.key.remote ≡ r
  pub ul : way_of i ≡ Ul
  pub id : LocalId
  pub has : i.goal ≡ ToRelay id
  pub attached : goal_at (s.path r) AtRelay ≡ ToRelay id
  pub row : HasRow t r i.key.drb

-- the chain with an injected item in the slot of its remote's port
abbrev pub injected : Chain → Remote → ℕ → Item → Chain
injected s r n i = record s { items = put is_number s.items n (Some i); spot = put is_number s.spot n (InSlot r) }

-- what is injected downlink comes to the remote itself: all that may change are its own keys
pub record ChangesOwnKeys (r : Remote) (old new : Chain) : Type 0 where
  pub sender : (k : Key) → k.remote ≢ r → new.sender k ≡ old.sender k
  pub heard : (k : Key) → k.remote ≢ r → new.heard k ≡ old.heard k
  pub wanted : (k : Key) → k.remote ≢ r → new.wanted k ≡ old.wanted k
  pub same : new ≡ record old { sender = new.sender; heard = new.heard; wanted = new.wanted }

-- a remote that is broken no more was not broken before, or its plan has closed
abbrev pub RepairsByClosing : World → World → Type 0
RepairsByClosing old new = (r : Remote) → new.broken r ≡ false → (old.broken r ≡ false) ⊎ (((old.chain.path r).plan ≢ None) × ((new.chain.path r).plan ≡ None))

-- a failure breaks each remote of which it loses an item of the present epoch, where no plan of it is open
pub record Breaks (s : Chain) (lost : ℕ → Bool) (broken : Remote → Bool) : Type 0 where
  pub breaks : (n : ℕ) (i : Item) → s.items n ≡ Some i → lost n ≡ true → (s.path i.key.remote).plan ≡ None → i.epoch ≡ (s.path i.key.remote).epoch → broken i.key.remote ≡ true

-- the chain without the items that a failure loses
abbrev pub without : Chain → (ℕ → Bool) → Chain
without s lost = record s { spot = λ n. cond (lost n) Lost (s.spot n) }

-- what happens next: a step of the chain, an injection uplink or downlink, which taints its remote, or a failure of a channel
pub data Happens (t : Tables) (old new : World) : Type 0 where
  steps : Step t old.chain new.chain → new.tainted ≡ old.tainted → RepairsByClosing old new → Happens t old new
  inject_up : (r : Remote) (n : ℕ) (i : Item) → Injects t old.chain r n i → new ≡ record old { chain = injected old.chain r n i; tainted = put is_remote old.tainted r true }
      → Happens t old new
  inject_down : (r : Remote) (s : Chain) → ChangesOwnKeys r old.chain s → new ≡ record old { chain = s; tainted = put is_remote old.tainted r true } → Happens t old new
  fail : (lost : ℕ → Bool) (broken : Remote → Bool) → Breaks old.chain lost broken → new ≡ record old { chain = without old.chain lost; broken = λ r. old.broken r || broken r }
      → Happens t old new

---- runs

-- the opening chain of the tables, with nothing submitted and nothing on its way
pub record Opens (t : Tables) (s : Chain) : Type 0 where
  pub path : (r : Remote) → s.path r ≡ record { epoch = 0; goal = t.goal r; plan = None }
  pub sender : (k : Key) → s.sender k ≡ record { submitted = []; confirmed = λ c. false; place = 0; waits = false }
  pub heard : (k : Key) (c : ℕ) → s.heard k c ≡ None
  pub items : (n : ℕ) → s.items n ≡ None

-- at first each remote is clean, and none is broken
pub record Begins (t : Tables) (w : World) : Type 0 where
  pub opens : Opens t w.chain
  pub tainted : (r : Remote) → w.tainted r ≡ false
  pub broken : (r : Remote) → w.broken r ≡ false

-- a run, the last world first
abbrev pub IsRun : Tables → List World → Type 0
IsRun t [] = ⊥
IsRun t (w ∷ []) = Begins t w
IsRun t (w ∷ v ∷ ws) = Happens t v w × IsRun t (v ∷ ws)

-- a run over good tables leads to this world
pub record Reaches (t : Tables) (w : World) : Type 0 where
  pub fits : TablesFit t
  pub before : List World
  pub run : IsRun t (w ∷ before)
