use Rattle.item_law.proofs.laws.Handed.{live_in_window, heard_in_window}
use Rattle.item_law.proofs.hand_up_laws.counts_are_within_the_window.Goals as goal

pub returns : goal.returns
returns c = record { live = live_in_window; heard = heard_in_window }
