-- How far an end has fed its transmitters.
use Rattle.std.specs.Prelude.{◌≡◌, ◌⊎◌, ◌+◌, ◌-◌, ◌^◌, ◌<◌, true, ◌&&◌, List, ◌∷◌, ◌++◌, map, Some}
use Rattle.std.specs.List.{AllByRecursion}
use Rattle.link_base.specs.declared.names.Key.{Key}
use Rattle.bearer_map.specs.Contents.{Contents}
use Rattle.rlc_model.specs.Tx.{tx_next, room}
use Rattle.rlc_model.specs.Sides.{Entity}
use Rattle.pdcp_model.specs.Sender.{has_next, gave_next}
use Rattle.node_model.specs.Names.{back}
use Rattle.node_model.specs.State.{PortSide, Node, Outgoing, outgoing, incoming, set_outgoing}
use Rattle.node_model.specs.Feeding.{FeedsReport, FeedsReports, FeedsEach, GivesData, wants_report, has_room, in_key, out_key}

-- the transmitter of a side, where it is open, has given numbers to fewer than 2^62 - 2^40 SDUs
abbrev pub HasNumbers : PortSide → Type 0
HasNumbers s = (entity : Entity) → s.entity ≡ Some entity → tx_next entity.tx < 2 ^ 62 - 2 ^ 40

-- the transmitter of a side has numbers for all SDUs that its window takes
abbrev pub HasNumbersLeft : PortSide → Type 0
HasNumbersLeft s = (entity : Entity) → s.entity ≡ Some entity → tx_next entity.tx + room entity.tx < 2 ^ 62

-- the same of all sides
abbrev pub HaveNumbersLeft : Node → Type 0
HaveNumbersLeft n = AllByRecursion HasNumbersLeft n.ports

-- the node is the same one, with the same identities and bearers
pub record KeepsKeys (old new : Node) : Type 0 where
  pub name : new.name ≡ old.name
  pub attached : new.attached ≡ old.attached
  pub sent : map out_key new.outgoing ≡ map out_key old.outgoing
  pub received : map in_key new.incoming ≡ map in_key old.incoming

-- some data PDUs of a key were given
pub data GivesSome (t : Contents) (key : Key) : Node → Node → Type 0 where
  none : {n : Node} → GivesSome t key n n
  more : {old mid new : Node} → (has_next (outgoing old key).sender && has_room t old key) ≡ true → GivesData t old (outgoing old key) mid → GivesSome t key mid new → GivesSome t key old new

-- the next SDU of a key had its turn
abbrev pub had_turn : Outgoing → Outgoing
had_turn o = record o { sender = gave_next o.sender }

-- the report about a key is fed, and the keys given are those before and this one where it was given
abbrev pub FeedsReportOf : Contents → Node → Key → List Key → List Key → Node → Type 0
FeedsReportOf t old key before after new = (first : List Key) × FeedsReport t old (incoming old key) first new × (after ≡ before ++ first)

-- a report about a key is to be given, and there is room for it
abbrev pub IsToReport : Contents → Node → Key → Type 0
IsToReport t n key = (wants_report t n (incoming n key) ≡ true) × (has_room t n (back key) ≡ true)

-- some data PDUs of a key were given, and there is one more to give, whose SDU may have had its turn
abbrev pub StopsGiving : Contents → Key → Node → Node → Type 0
StopsGiving t key old new =
    (at : Node) × GivesSome t key old at × ((has_next (outgoing at key).sender && has_room t at key) ≡ true) × ((new ≡ at) ⊎ (new ≡ set_outgoing at (had_turn (outgoing at key))))

-- feeding stopped at a PDU that was to be given. What was given before is given
pub data StopsFeeding (t : Contents) (old new : Node) : Type 0 where
  at_report : (keys more given : List Key) (key : Key) → map in_key old.incoming ≡ keys ++ key ∷ more → FeedsReports t old keys given new → IsToReport t new key → StopsFeeding t old new
  at_data : (given : List Key) (mid : Node) (keys more : List Key) (key : Key) (before : Node) → FeedsReports t old (map in_key old.incoming) given mid
      → map out_key mid.outgoing ≡ keys ++ key ∷ more → FeedsEach t mid keys before → StopsGiving t key before new → StopsFeeding t old new
