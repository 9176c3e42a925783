-- What is kept as items go from station to station.
use Rattle.std.specs.Prelude.{◌≡◌, ℕ, Bool, true, false, [], ◌∷◌, ◌++◌, length, Option, Some, List}
use Rattle.bearer_map.specs.Contents.{Contents}
use Rattle.rlc_model.specs.Heard.{Data}
use Rattle.rlc_model.specs.declared.receiver.Heard.TheVariants.{Complete}
use Rattle.rlc_model.specs.Rx.{Rx, Hears}
use Rattle.rlc_law.specs.Hop.{Hop, Reaches, completed_after}
use Rattle.item_law.specs.State.{Item, Spot, OnFirstHop, is_number, put, is_on_its_way}
use Rattle.item_place.specs.Places.{Station, is_station, Box, at, leave, enter, emptied_at, Layout, moved, IsSpot, StandsFor}
use Rattle.item_place.specs.HopFits.{HopFits}

-- an item that goes from one station to another is at a spot there, and all others stand where they stood
abbrev pub ItemsMove : Type 0
ItemsMove = (t : Contents) (l : Layout) (items : ℕ → Option Item) (spot : ℕ → Spot) → StandsFor t l items spot
    → (a : Station) (k : ℕ) (b : Station) (n : ℕ) → at (l.box a) k ≡ Some n → (x : Spot) → ((i : Item) → items n ≡ Some i → IsSpot t i x b)
    → StandsFor t (record l { box = moved l.box a k b n }) items (put is_number spot n x)

-- a new item comes to the end of the station of its first hop
abbrev pub ItemsEnter : Type 0
ItemsEnter = (t : Contents) (l : Layout) (items : ℕ → Option Item) (spot : ℕ → Spot) → StandsFor t l items spot
    → (b : Station) (i : Item) → IsSpot t i OnFirstHop b
    → StandsFor t (record { items = l.items ++ i ∷ []; box = put is_station l.box b (enter (l.box b) (length l.items)) })
    (put is_number items (length l.items) (Some i)) (put is_number spot (length l.items) OnFirstHop)

-- an item that arrives or is lost stands nowhere
abbrev pub ItemsLeave : Type 0
ItemsLeave = (t : Contents) (l : Layout) (items : ℕ → Option Item) (spot : ℕ → Spot) → StandsFor t l items spot
    → (a : Station) (k n : ℕ) → at (l.box a) k ≡ Some n → (x : Spot) → is_on_its_way x ≡ false
    → StandsFor t (record l { box = put is_station l.box a (leave (l.box a) k) }) items (put is_number spot n x)

-- all items that stand at some stations are lost, and stand nowhere; those at others stay
abbrev pub ItemsLeaveStations : Type 0
ItemsLeaveStations = (t : Contents) (l : Layout) (items : ℕ → Option Item) (spot : ℕ → Spot) → StandsFor t l items spot
    → (test : Station → Bool) (now : ℕ → Spot)
    → ((a : Station) (k n : ℕ) → test a ≡ true → at (l.box a) k ≡ Some n → is_on_its_way (now n) ≡ false)
    → ((a : Station) (k n : ℕ) → test a ≡ false → at (l.box a) k ≡ Some n → now n ≡ spot n)
    → ((n : ℕ) → is_on_its_way (now n) ≡ true → now n ≡ spot n)
    → StandsFor t (record l { box = emptied_at test l.box }) items now

-- a number that completes at the receiver of a hop is that of an item that stands there, and the SDU has its octets; and then it has left
abbrev pub HopsComplete : Type 0
HopsComplete = (spell : ℕ → List ℕ) (old new : Hop) (b : Box) → Reaches new → HopFits spell old b → (d : Data) (x : ℕ) (sdu : List ℕ) (r : Rx)
    → Hears old.rx d.view (Complete x sdu) r
    → new ≡ record old { rx = r; completed = completed_after (Complete x sdu) old.completed; heard = d ∷ old.heard }
    → ((n : ℕ) × (at b x ≡ Some n) × (sdu ≡ spell n)) × HopFits spell new (leave b x)
