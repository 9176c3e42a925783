-- The PDUs that an entity hears are those that a history delivers.
use Rattle.std.specs.Prelude.{List}
use Rattle.rlc_pdu.specs.Amd.{Amd}
use Rattle.rlc_model.specs.declared.hop.HopHeard.TheVariants.{Amd as AmdHeard}
use Rattle.rlc_model.specs.declared.receiver.Heard.{Heard}
use Rattle.rlc_model.specs.Rx.{Hears}
use Rattle.script_text.specs.History.{Entry}
use Rattle.node_model.specs.Names.{NodeName}
use Rattle.chain_model.specs.Draining.{Moment}
use Rattle.chain_model.specs.Heard.{HopOf, Delivers}
use Rattle.chain_model.specs.State.{Chain}
use Rattle.chain_law.specs.Entities.{RlcFits}
use Rattle.book_law.specs.Hearings.{EntityHears}
use Rattle.book_law.specs.Past.{Goes}
use Rattle.heard_law.specs.Telling.{Tells}

-- the hop over which a PDU comes to an entity
abbrev pub hop_of : {name : NodeName} {m : Moment} {answer : Heard} → EntityHears name m (AmdHeard answer) → HopOf
hop_of x = record { size = x.entity.rx.size; port = x.pdu.port; way = x.pdu.way; epoch = x.entity.epoch }

-- what an entity heard was delivered over its hop, under the number that the PDU has, and with the fields that the entity read
pub record IsDelivered {name : NodeName} {m : Moment} {answer : Heard} (h : List Entry) (x : EntityHears name m (AmdHeard answer)) : Type 0 where
  pub fields : Amd
  pub hears : Hears x.entity.rx fields answer x.rx
  pub delivers : Delivers (hop_of x) h m.entry x.pdu.number fields

-- so is each data PDU that an entity hears by a line, behind a history that tells of the chain
abbrev pub DeliversWhatComes : Type 0
DeliversWhatComes = (h : List Entry) (m : Moment) (new : Chain) → Tells h m.before → RlcFits m.before → Goes m.before m.entry new
    → (name : NodeName) (answer : Heard) (x : EntityHears name m (AmdHeard answer)) → IsDelivered h x
