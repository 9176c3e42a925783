use Rattle.item_law.proofs.laws.OneCopy.{wait_ends, given_arrives}
use Rattle.item_law.proofs.one_copy_laws.given_counts_arrive.Goals as goal

pub returns : goal.returns
returns c = record { waits = wait_ends; given = given_arrives }
