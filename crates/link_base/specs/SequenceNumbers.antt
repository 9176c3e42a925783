-- Sequence numbers on the air, and the numbers that they stand for (TS 38.322 clause 7.1, TS 38.323 clause 5.2.2.1).
use Rattle.std.specs.Prelude.{◌≡◌, ℕ, ◌+◌, ◌%◌, ◌<◌, ◌≤◌}
use Rattle.link_base.specs.declared.names.SnSize.{SnSize}
use Rattle.link_base.specs.declared.names.SnSize.TheVariants.{S12, S18}

-- how many sequence numbers of this size there are
abbrev pub modulus : SnSize → ℕ
modulus S12 = 4096
modulus S18 = 262144

-- half as many: the size of a window of numbers
abbrev pub window : SnSize → ℕ
window S12 = 2048
window S18 = 131072

-- how many SDUs a PDCP sender keeps at most that are not confirmed
abbrev pub most_unconfirmed : SnSize → ℕ
most_unconfirmed S12 = 2048
most_unconfirmed S18 = 65536

-- the number has this sequence number, and lies less than a window above the base or at most a window below it
pub record Near (size : SnSize) (sn base number : ℕ) : Type 0 where
  pub same : number % modulus size ≡ sn
  pub low : base ≤ number + window size
  pub high : number < base + window size

-- at most one number has a sequence number and lies near a base
abbrev pub OneIsNear : Type 0
OneIsNear = (size : SnSize) (sn base m n : ℕ) → Near size sn base m → Near size sn base n → m ≡ n
