-- One bearer at an end, and what it is of a node.
use Rattle.std.specs.Prelude.{◌≡◌, ℕ, ◌+◌, ◌<◌, ◌==◌, Bool, true, false, not, ◌&&◌, ◌||◌, nat_lt, nat_le}
use Rattle.link_base.specs.declared.names.Key.{Key}
use Rattle.link_base.specs.declared.names.Way.{Way}
use Rattle.bearer_map.specs.declared.rows.BearerRow.{BearerRow}
use Rattle.bearer_map.specs.Contents.{pair}
use Rattle.rlc_model.specs.Sides.{flip}
use Rattle.pdcp_model.specs.Sender.{new_sender, confirms}
use Rattle.pdcp_model.specs.Receiver.{new_receiver}
use Rattle.node_model.specs.Names.{key_of}
use Rattle.node_model.specs.State.{Outgoing, Incoming}
use Rattle.node_model.specs.Tables.{first_count}
use Rattle.node_bearers.specs.declared.bearer.Bearer.{Bearer}

-- where a bearer stands among all: by remote, then by its identity
abbrev pub rank : Bearer → ℕ
rank b = pair b.remote.0 b.drb.0

-- the key of a bearer in one way
abbrev pub bearer_key : Way → Bearer → Key
bearer_key way b = key_of b.remote b.drb way

-- its sending end, where the node sends in this way
abbrev pub outgoing_of : Way → Bearer → Outgoing
outgoing_of way b = record { key = bearer_key way b; sender = b.tx }

-- its receiving end, where the node receives in this way
abbrev pub incoming_of : Way → Bearer → Incoming
incoming_of way b = record { key = bearer_key way b; receiver = b.rx; wanted = b.wanted; held_back = b.held_back; reported = b.reported }

-- a bearer of which nothing was sent or received, at the end that sends in this way
abbrev pub new_bearer : Way → BearerRow → Bearer
new_bearer way row = record {
  remote = row.remote;
  drb = row.drb;
  tx = new_sender row.pdcp (first_count row way);
  rx = new_receiver row.pdcp (first_count row (flip way));
  wanted = false;
  held_back = false;
  reported = 0;
}

-- delivery of the SDU of this COUNT is confirmed
abbrev pub confirms_count : Bearer → ℕ → Bearer
confirms_count b count = record b { tx = confirms b.tx (λ other. other == count) }
