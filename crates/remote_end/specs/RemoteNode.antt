-- A remote and its node.
use Rattle.std.specs.Prelude.{◌≡◌, List, Option, find}
use Rattle.link_base.specs.declared.names.Drb.{Drb}
use Rattle.link_base.specs.declared.names.Key.{Key}
use Rattle.link_base.specs.declared.names.Remote.{Remote}
use Rattle.link_base.specs.declared.names.Way.TheVariants.{Ul, Dl}
use Rattle.bearer_map.specs.declared.rows.RemoteRow.{RemoteRow}
use Rattle.bearer_map.specs.Contents.{Contents}
use Rattle.node_model.specs.Names.{key_of, is_remote}
use Rattle.node_model.specs.State.{Node}

-- which remote it is, its tables, and its node
pub record RemoteNode : Type 0 where
  pub remote : Remote
  pub tables : Contents
  pub node : Node

-- it is the same remote, with the same tables
abbrev pub IsSameRemote : RemoteNode → RemoteNode → Type 0
IsSameRemote old new = (new.remote ≡ old.remote) × (new.tables ≡ old.tables)

-- the key of a bearer that the remote sends
abbrev pub sent : RemoteNode → Drb → Key
sent r drb = key_of r.remote drb Ul

-- the key of a bearer that the remote receives
abbrev pub received : RemoteNode → Drb → Key
received r drb = key_of r.remote drb Dl

-- the row of a remote
abbrev pub row_of : List RemoteRow → Remote → Option RemoteRow
row_of rows remote = find (λ (row : RemoteRow). is_remote remote row.remote) rows
