-- Giving an SDU to a transmitter (TS 38.322 clause 5.2.3.1.1).
use Rattle.std.specs.Prelude.{◌≡◌, ℕ, ◌<◌, List}
use Rattle.rlc_model.specs.Tx.{Tx, room}
use Rattle.rlc_am_tx.specs.declared.am_tx.GiveFault.{GiveFault}
use Rattle.rlc_am_tx.specs.declared.am_tx.GiveFault.TheVariants.{NoRoom, Memory}

-- the SDU is given back: the window has no room, or it has and memory was refused
abbrev pub GivesBack : Tx → List ℕ → GiveFault → Type 0
GivesBack t sdu (NoRoom back) = (room t ≡ 0) × (back ≡ sdu)
GivesBack t sdu (Memory back) = (0 < room t) × (back ≡ sdu)
