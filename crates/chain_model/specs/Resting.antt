-- A chain in which nothing is on its way, and one that has brought everything to its end.
use Rattle.std.specs.Prelude.{◌==◌, Bool, not, ◌&&◌, length, count_by, is_some, is_none}
use Rattle.std.specs.List.{list_all}
use Rattle.bearer_map.specs.Contents.{Contents}
use Rattle.pdcp_model.specs.Sender.{Sender, has_next, confirmed, submitted}
use Rattle.node_model.specs.State.{PortSide, Outgoing, Node}
use Rattle.chain_model.specs.State.{Chain, sender_at}
use Rattle.node_model.specs.Tables.{keys}
use Rattle.node_model.specs.Feeding.{wants_report}
use Rattle.node_model.specs.Switching.{unconfirmed_in}

-- the transmitter has no unconfirmed SDU, and the slot and the queue are empty
abbrev pub is_quiet_side : PortSide → Bool
is_quiet_side s = (unconfirmed_in s.entity == 0) && (is_none s.slot && (length s.queue == 0))

-- the sender doesn't wait, and has nothing to give
abbrev pub is_quiet_sender : Outgoing → Bool
is_quiet_sender o = not o.sender.waits && not (has_next o.sender)

-- all of a node's sides and senders are quiet, and no status report is wanted
abbrev pub is_quiet_node : Contents → Node → Bool
is_quiet_node t n = list_all is_quiet_side n.ports && (list_all is_quiet_sender n.outgoing && list_all (λ i. not (wants_report t n i)) n.incoming)

-- nothing is on the air, no transmitter has an unconfirmed SDU, no sender waits or has anything to give, no status report is wanted, and slots
-- and queues are empty
abbrev pub is_quiet : Chain → Bool
is_quiet c = (count_by is_some c.air == 0) && list_all (is_quiet_node c.tables) c.nodes

-- all that was submitted to a sender is confirmed
abbrev pub is_all_confirmed : Sender → Bool
is_all_confirmed s = confirmed s == submitted s

-- all that was submitted is confirmed
abbrev pub is_finished : Chain → Bool
is_finished c = list_all (λ key. is_all_confirmed (sender_at c key)) (keys c.tables)
