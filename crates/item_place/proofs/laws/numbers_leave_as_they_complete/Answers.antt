use Rattle.rlc_law.proofs.Safety.{completes_as_given}
use Rattle.item_place.proofs.Completing.{its_item, leaves}
use Rattle.item_place.proofs.laws.numbers_leave_as_they_complete.Goals as goal

pub returns : goal.returns
returns c = λ spell old new b reaches fit d x sdu r hears is. (
  its_item completes_as_given spell old new b reaches fit d x sdu r hears is,
  leaves completes_as_given spell old new b reaches fit d x sdu r hears is,
)
