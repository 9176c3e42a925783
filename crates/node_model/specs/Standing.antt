-- Where a local identity is still in use at a node (TS 38.300 clause 16.12.6).
use Rattle.std.specs.Prelude.{◌≡◌, Bool, false, List, find, Option, Some, None, option_map}
use Rattle.std.specs.List.{list_any}
use Rattle.link_base.specs.declared.names.LocalId.{LocalId}
use Rattle.link_base.specs.declared.names.Remote.{Remote}
use Rattle.link_base.specs.declared.names.Goal.{Goal}
use Rattle.link_base.specs.declared.names.Goal.TheVariants.{Direct as ToDirect, Relay as ToRelay}
use Rattle.link_base.specs.declared.names.Place.{Place}
use Rattle.link_base.specs.declared.names.Place.TheVariants.{Uu as UuChan}
use Rattle.link_base.specs.declared.names.PortName.TheVariants.{Uu}
use Rattle.bearer_map.specs.declared.ids.Attachment.{Attachment}
use Rattle.bearer_map.specs.declared.rows.UuRow.{UuRow}
use Rattle.bearer_map.specs.Contents.{Contents}
use Rattle.bearer_map.specs.Ids.{IsAttached}
use Rattle.rlc_model.specs.Tx.{Kept}
use Rattle.rlc_model.specs.Sides.{Entity}
use Rattle.node_model.specs.declared.parcel.Parcel.{Parcel}
use Rattle.node_model.specs.Names.{is_id}
use Rattle.node_model.specs.State.{Node, entity_at}
use Rattle.node_model.specs.Relaying.{ue_of}

-- what a transmitter keeps beside an SDU has this local identity
abbrev pub tag_bears : LocalId → Option LocalId → Bool
tag_bears id None = false
tag_bears id (Some ue) = is_id id ue

-- an SDU that isn't confirmed bears it
abbrev pub kept_bears : LocalId → Option Kept → Bool
kept_bears id None = false
kept_bears id (Some k) = tag_bears id k.tag.ue

-- an SDU in a transmitter that isn't confirmed bears it
abbrev pub entity_bears : LocalId → Option Entity → Bool
entity_bears id None = false
entity_bears id (Some e) = list_any (kept_bears id) e.tx.kept

-- an SDU in a slot bears it
abbrev pub slot_bears : LocalId → Option Parcel → Bool
slot_bears id None = false
slot_bears id (Some parcel) = is_id id (ue_of parcel)

-- an SDU that the transmitter of a Uu channel has at a node bears it, and isn't confirmed
abbrev pub uu_bears : Node → LocalId → UuRow → Bool
uu_bears n id row = entity_bears id (entity_at n (Uu row.chan))

-- the place of a Uu channel
abbrev pub uu_place : UuRow → Place
uu_place row = UuChan row.chan

-- the first Uu channel whose transmitter at a node has such an SDU
abbrev pub uu_standing : Contents → Node → LocalId → Option Place
uu_standing t n id = option_map uu_place (find (uu_bears n id) t.uus)

-- no other remote has the local identity of a remote's new path, where that is the relay path
abbrev pub IsFreeFor : List Attachment → Remote → Goal → Type 0
IsFreeFor attached remote ToDirect = Unit {0}
IsFreeFor attached remote (ToRelay id) = (other : Remote) → IsAttached attached other id.0 → other ≡ remote
