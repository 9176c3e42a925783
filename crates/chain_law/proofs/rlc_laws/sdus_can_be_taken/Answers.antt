use Rattle.chain_law.proofs.Laws.{parcels_are_sdus, kept_are_bodies}
use Rattle.chain_law.proofs.rlc_laws.sdus_can_be_taken.Goals as goal

pub returns-clause-parcels : goal.returns-clause-parcels
returns-clause-parcels c = parcels_are_sdus c.laws_of_ports.ensures

pub returns-clause-kept : goal.returns-clause-kept
returns-clause-kept c = kept_are_bodies c.laws_of_ports.ensures
