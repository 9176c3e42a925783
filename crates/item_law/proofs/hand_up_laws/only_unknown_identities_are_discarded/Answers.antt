use Rattle.item_law.proofs.laws.Handed.{relay_takes_attached, gnb_takes_attached, remote_takes_all}
use Rattle.item_law.proofs.hand_up_laws.only_unknown_identities_are_discarded.Goals as goal

pub returns : goal.returns
returns c = record { relay = relay_takes_attached; gnb = gnb_takes_attached; remote = remote_takes_all }
