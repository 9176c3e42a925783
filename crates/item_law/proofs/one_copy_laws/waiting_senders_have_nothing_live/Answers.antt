use Rattle.item_law.proofs.laws.OneCopy.{none_live_in_wait, reports_name_heard}
use Rattle.item_law.proofs.one_copy_laws.waiting_senders_have_nothing_live.Goals as goal

pub returns : goal.returns
returns c = record { sdus = none_live_in_wait; reports = reports_name_heard }
