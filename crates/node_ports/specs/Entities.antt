-- What the calls of an RLC entity do.
use Rattle.std.specs.Prelude.{◌≡◌, ℕ, List}
use Rattle.link_base.specs.declared.names.Timer.{Timer}
use Rattle.link_base.specs.declared.rlc_words.Tag.{Tag}
use Rattle.link_base.specs.declared.rlc_words.Expired.{Expired}
use Rattle.rlc_model.specs.declared.hop.HopGrant.{HopGrant}
use Rattle.rlc_model.specs.declared.hop.HopHeard.{HopHeard}
use Rattle.rlc_model.specs.Tx.{Gives}
use Rattle.rlc_model.specs.Sides.{Entity}
use Rattle.rlc_model.specs.Hop.{GrantsHop, HearsHop, ExpiresHop}

-- an entity sends one PDU of at most so many octets, and stays in its epoch
abbrev pub GrantsEntity : Entity → ℕ → HopGrant → Entity → Type 0
GrantsEntity old octets answer new = GrantsHop old.tx old.rx octets answer new.tx new.rx × (new.epoch ≡ old.epoch)

-- an entity hears octets
abbrev pub HearsEntity : Entity → List ℕ → HopHeard → Entity → Type 0
HearsEntity old bytes answer new = HearsHop old.tx old.rx bytes answer new.tx new.rx × (new.epoch ≡ old.epoch)

-- a timer of an entity is to run out
abbrev pub ExpiresEntity : Entity → Timer → Expired → Entity → Type 0
ExpiresEntity old timer expired new = ExpiresHop old.tx old.rx timer expired new.tx new.rx × (new.epoch ≡ old.epoch)

-- the transmitter of an entity is given an SDU
abbrev pub GivesEntity : Entity → Tag → List ℕ → Entity → Type 0
GivesEntity old tag sdu new = ((number : ℕ) × Gives old.tx tag sdu number new.tx) × (new ≡ record old { tx = new.tx })
