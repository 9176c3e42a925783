-- Octets as numbers.
use Rattle.std.specs.Prelude.{ℕ, ◌<◌, List, All}

-- each number is an octet: it is below 256
abbrev pub AreOctets : List ℕ → Type 0
AreOctets octets = All (λ octet. octet < 256) octets
