use Rattle.carried_law.proofs.TheLaws.{sent_pdus_are_pieces}
use Rattle.carried_law.proofs.laws.sent_pdus_are_pieces.Goals as goal

pub returns : goal.returns
returns c = sent_pdus_are_pieces c.laws_of_hops.ensures
