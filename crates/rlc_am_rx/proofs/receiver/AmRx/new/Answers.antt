use Rattle.std.proofs.Common.{refl, arith, rules}
use Rattle.rlc_law.proofs.Receiver.{starts_sound}
use Rattle.rlc_model.specs.Rx.{empty_rx}
use Rattle.rlc_am_rx.proofs.Soundness.{same_sound}
use Rattle.rlc_am_rx.proofs.receiver.AmRx.new.Goals as goal

pub invariant_of-result : goal.invariant_of-result
invariant_of-result c = record {
  sound = same_sound (empty_rx c.args.size) _ refl refl refl refl (starts_sound c.args.size);
  small = omega arith;
  entries = search rules;
  front = search rules;
  trigger = search rules;
  polls = search rules;
}
