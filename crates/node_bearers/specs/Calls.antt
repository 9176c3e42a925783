-- What the calls of an end's bearers do, over a node of which only the ends of bearers are known.
use Rattle.std.specs.Prelude.{◌≡◌, ℕ, ◌<◌, ◌==◌, Bool, false, not, ◌&&◌, ◌||◌, List, map, slice_get, fold, Option, Some, All}
use Rattle.link_base.specs.declared.limits.TheConstants.{COUNT_END}
use Rattle.link_base.specs.declared.names.Drb.{Drb}
use Rattle.link_base.specs.declared.names.Key.{Key}
use Rattle.link_base.specs.declared.names.Remote.{Remote}
use Rattle.link_base.specs.declared.rlc_words.Tag.{Tag}
use Rattle.bearer_map.specs.declared.rows.BearerRow.{BearerRow}
use Rattle.bearer_map.specs.Contents.{Contents}
use Rattle.pdcp_model.specs.Sender.{Sender}
use Rattle.pdcp_tx.specs.Calls.{Accepts, GivesNext}
use Rattle.node_model.specs.Names.{AtGnb, is_remote}
use Rattle.node_model.specs.State.{Node, Incoming, no_node, outgoing, set_outgoing}
use Rattle.node_model.specs.Ends.{confirm_count}
use Rattle.node_model.specs.Feeding.{in_key, out_key, is_enough}

-- of a node its ends of bearers alone
abbrev pub ends_alone : Node → Node
ends_alone n = record (no_node AtGnb) { outgoing = n.outgoing; incoming = n.incoming }

-- the first COUNTs of the bearer are COUNTs
abbrev pub HasCounts : BearerRow → Type 0
HasCounts row = (row.first_ul < COUNT_END) × (row.first_dl < COUNT_END)

-- the first COUNTs of all bearers are COUNTs
abbrev pub HaveCounts : Contents → Type 0
HaveCounts t = All HasCounts t.bearers

-- the sender of a key accepts an SDU with this COUNT
abbrev pub Submits : Node → Key → List ℕ → ℕ → Node → Type 0
Submits old key sdu count new =
    (sender : Sender) × Accepts (outgoing old key).sender sdu count sender × (new ≡ set_outgoing old (record (outgoing old key) { sender = sender }))

-- RLC confirms SDUs: of each data PDU the COUNT of its tag
abbrev pub confirm_each : Node → List Tag → Node
confirm_each n tags = fold (λ node (tag : Tag). confirm_count node tag.key tag.count) n tags

-- a status report is to be given where as many SDUs as this, handed up over the relay, call for one
abbrev pub is_wanted : ℕ → Bool → Incoming → Bool
is_wanted every on_relay i = not i.held_back && (i.wanted || is_enough every on_relay i)

-- a status report about what is received was given to RLC
abbrev pub gave_report : Incoming → Incoming
gave_report i = record i { wanted = false; reported = i.receiver.handed }

-- the key is one of the two of a bearer
abbrev pub is_of_bearer : Remote → Drb → Key → Bool
is_of_bearer remote drb key = is_remote remote key.remote && (drb.0 == key.drb.0)

-- the key that is sent at a place
abbrev pub Sends : Node → ℕ → Key → Type 0
Sends n place key = slice_get (map out_key n.outgoing) place ≡ Some key

-- the key that is received at a place
abbrev pub Receives : Node → ℕ → Key → Type 0
Receives n place key = slice_get (map in_key n.incoming) place ≡ Some key

-- the sender of a key gives its next SDU to RLC, or has none to give
abbrev pub Gives : Node → Key → Option (ℕ × List ℕ) → Node → Type 0
Gives old key given new =
    (sender : Sender) × GivesNext (outgoing old key).sender given sender × (new ≡ set_outgoing old (record (outgoing old key) { sender = sender }))
