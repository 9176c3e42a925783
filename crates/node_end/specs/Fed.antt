-- Of which bearers an end has nothing to give to its transmitters.
use Rattle.std.specs.Prelude.{◌≡◌, ◌⊎◌, ℕ, ◌<◌, Bool, true, false, List, length, slice_index, Contains}
use Rattle.std.specs.List.{AllByRecursion}
use Rattle.link_base.specs.declared.names.Key.{Key}
use Rattle.bearer_map.specs.Contents.{Contents}
use Rattle.pdcp_model.specs.Sender.{has_next}
use Rattle.pdcp_model.specs.Receiver.{can_report}
use Rattle.node_model.specs.Names.{back}
use Rattle.node_model.specs.State.{Node, outgoing, incoming, set_incoming}
use Rattle.node_model.specs.Feeding.{has_room, wants_report}
use Rattle.node_bearers.specs.Calls.{Sends, Receives}
use Rattle.node_end.specs.declared.served.Channel.{Channel}
use Rattle.node_end.specs.declared.served.Served.{Served}
use Rattle.node_end.specs.declared.to_feed.ToFeed.{ToFeed}
use Rattle.node_end.specs.declared.to_feed.ToFeed.TheVariants.{Nothing, Port, Everything}
use Rattle.node_end.specs.Ports.{is_mapped, is_over}

-- no data PDU of a key is to be given: there is none, or no room
abbrev pub HasNoData : Contents → Node → Key → Type 0
HasNoData t n key = (has_next (outgoing n key).sender ≡ false) ⊎ (has_room t n key ≡ false)

-- no report about a key is to be given: none is wanted; or there is no room for one that can tell of all that is stored; or none can, and to ask
-- for none changes nothing
abbrev pub HasNoReport : Contents → Node → Key → Type 0
HasNoReport t n key =
    (wants_report t n (incoming n key) ≡ false)
    ⊎ (((can_report (incoming n key).receiver ≡ true) × (has_room t n (back key) ≡ false))
    ⊎ ((can_report (incoming n key).receiver ≡ false) × (set_incoming n (record (incoming n key) { wanted = false }) ≡ n)))

-- nothing of a key is to be given
pub record IsKeyFed (t : Contents) (n : Node) (key : Key) : Type 0 where
  pub data_pdus : HasNoData t n key
  pub report : HasNoReport t n key

-- the key is one of a bearer's that is to be fed
abbrev pub is_to_feed : Contents → ToFeed → Key → Bool
is_to_feed t Nothing key = false
is_to_feed t (Port port) key = is_over t port key
is_to_feed t Everything key = true

-- of all bearers but those to be fed there is nothing to give
abbrev pub OthersAreFed : Contents → ToFeed → Node → Type 0
OthersAreFed t to_feed n = (key : Key) → is_to_feed t to_feed key ≡ false → IsKeyFed t n key

-- of the bearers outside of these places there is nothing to give
pub record AreFedOutside (t : Contents) (n : Node) (places : List ℕ) : Type 0 where
  pub data_pdus : (place : ℕ) (key : Key) → (Contains places place → ⊥) → Sends n place key → HasNoData t n key
  pub reports : (place : ℕ) (key : Key) → (Contains places place → ⊥) → Receives n place key → HasNoReport t n key

-- places of bearers in ascending order
pub record ArePlaces (n : Node) (places : List ℕ) : Type 0 where
  pub ascend : (low high : ℕ) → low < high → high < length places → slice_index places low < slice_index places high
  pub sends : (index : ℕ) → index < length places → slice_index places index < length n.outgoing
  pub receives : (index : ℕ) → index < length places → slice_index places index < length n.incoming

-- places of bearers in ascending order, among them those of all whose key passes the test
pub record Covers (n : Node) (test : Key → Bool) (places : List ℕ) : Type 0 where
  pub are : ArePlaces n places
  pub sent : (place : ℕ) (key : Key) → Sends n place key → test key ≡ true → Contains places place
  pub received : (place : ℕ) (key : Key) → Receives n place key → test key ≡ true → Contains places place

-- the places of a channel are those of the bearers that are mapped to it
abbrev pub CoversChannel : Contents → Node → Channel → Type 0
CoversChannel t n channel = Covers n (is_mapped t.maps channel.port) channel.places.items

-- the places of all bearers
pub record CoversEach (n : Node) (places : List ℕ) : Type 0 where
  pub each : (place : ℕ) → place < length places → slice_index places place ≡ place
  pub sends : length places ≡ length n.outgoing
  pub receives : length places ≡ length n.incoming

-- an end knows the places of all bearers, and of those over its channels
pub record KnowsPlaces (t : Contents) (n : Node) (s : Served) : Type 0 where
  pub every : CoversEach n s.every.items
  pub channels : AllByRecursion (CoversChannel t n) s.channels.items
