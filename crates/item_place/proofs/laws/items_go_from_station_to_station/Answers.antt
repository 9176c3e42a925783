use Rattle.item_place.proofs.Moving.{moves_on}
use Rattle.item_place.proofs.Entering.{enters_on}
use Rattle.item_place.proofs.Leaving.{leaves_on}
use Rattle.item_place.proofs.Emptying.{emptied_on}
use Rattle.item_place.proofs.laws.items_go_from_station_to_station.Goals as goal

pub returns : goal.returns
returns c = record {
  moves = λ t l items spot fit a k b n has x here. moves_on t l items spot fit a k b n has x here;
  enters = λ t l items spot fit b i here. enters_on t l items spot fit b i here;
  leaves = λ t l items spot fit a k n has x still. leaves_on t l items spot fit a k n has x still;
  purged = λ t l items spot fit test now gone stay still. emptied_on t l items spot fit test now gone stay still;
}
