-- That a purge loses nothing for good, shown by a run.
use Rattle.std.specs.Prelude.{◌≡◌, ℕ, Some}
use Rattle.item_law.specs.State.{Key, ToDirect, ToRelay, LocalId, Tables, Sdu, Data, Item, Arrived, Lost}
use Rattle.item_law.specs.World.{World, Reaches}

-- a run in which a copy of an SDU that was given over the relay is lost, and the SDU is heard from a second copy over the direct path
pub record HearsSecondCopy : Type 0 where
  pub tables : Tables
  pub world : World
  pub run : Reaches tables world
  pub key : Key
  pub count : ℕ
  pub sdu : Sdu
  pub id : LocalId
  pub n : ℕ
  pub first : Item
  pub is_first : world.chain.items n ≡ Some first
  pub its_content : first.content ≡ Data count sdu
  pub its_goal : first.goal ≡ ToRelay id
  pub lost : world.chain.spot n ≡ Lost
  pub m : ℕ
  pub second : Item
  pub is_second : world.chain.items m ≡ Some second
  pub same_content : second.content ≡ Data count sdu
  pub direct : second.goal ≡ ToDirect
  pub arrived : world.chain.spot m ≡ Arrived
  pub heard : world.chain.heard key count ≡ Some sdu
