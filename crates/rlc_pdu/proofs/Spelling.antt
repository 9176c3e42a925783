-- The octets that are written.
use Rattle.std.proofs.Common.{◌≡◌, arith}
use Rattle.link_base.specs.declared.names.SnSize.{SnSize}
use Rattle.link_base.specs.declared.names.SnSize.TheVariants.{S12, S18}
use Rattle.rlc_pdu.specs.Amd.{Amd, IsAmd, AmdFits, amd_bytes, r_field}
use Rattle.rlc_pdu.specs.Laws.{ReadsBack}
use Rattle.rlc_pdu.proofs.Reading.{one_reading}

-- they spell the PDU
pub spells : (size : SnSize) (v : Amd) → AmdFits size v → IsAmd size v (amd_bytes size v)
spells S12 v f = grind arith
spells S18 v f = grind arith

-- their R bits are 0
reserved : (size : SnSize) (v : Amd) → AmdFits size v → r_field size (amd_bytes size v) ≡ 0
reserved S12 v f = grind arith
reserved S18 v f = grind arith

pub reads_back : ReadsBack
reads_back size v f = (reserved size v f, spells size v f, λ w x. one_reading size w v (amd_bytes size v) x (spells size v f))
