use Rattle.std.proofs.Common.{sym}
use Rattle.node_bearers.proofs.Opening.{all_push}
use Rattle.node_end.specs.Fed.{CoversChannel}
use Rattle.node_end.proofs.served.Served.new.Goals as goal

pub loop-pc5-preserved : goal.loop-pc5-preserved
loop-pc5-preserved c = λ t same.
    rw c.in_ok-push.ensures.items (all_push (CoversChannel t c.args.bearers.now) c.loop-pc5.channels.items _ (c.loop-pc5.invariant t same) (c.in_ok-channel_at.ensures.covers t same))

pub loop-uu-preserved : goal.loop-uu-preserved
loop-uu-preserved c = λ t same.
    rw c.in_ok-push-2.ensures.items (all_push (CoversChannel t c.args.bearers.now) c.loop-uu.channels.items _ (c.loop-uu.invariant t same) (c.in_ok-channel_at-2.ensures.covers t same))

pub returns : goal.returns
returns c = record { every = c.in_ok-every.ensures; channels = c.loop-uu.invariant c.args.tables.now (sym c.maps-maps.ensures.rows) }
