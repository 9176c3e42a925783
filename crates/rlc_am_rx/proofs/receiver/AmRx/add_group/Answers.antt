use Rattle.std.proofs.Common.{[], ◌∷◌, None}
use Rattle.rlc_am_rx.proofs.Runs.{run_group}
use Rattle.rlc_am_rx.proofs.receiver.AmRx.add_group.Goals as goal

pub returns : goal.returns
returns c = record {
  added = record { sn = c.sn_of-sn.result; part = None; range = c.range_of.result } ∷ [];
  adds = c.in_ok-push.ensures.items;
  group = rw (c.sn_of-sn.ensures, c.range_of.ensures, c.size.ensures) (run_group c.args.self.now c.args.number c.run_end-end.result c.if-holds_some.ensures c.run_end-end.ensures);
  on = c.run_end-end.ensures.some;
}
