-- What receivers have of a hop is what the history delivers over it.
use Rattle.std.specs.Prelude.{◌≡◌, ◌≢◌, ◌↔◌, ℕ, List, Some, None}
use Rattle.link_base.specs.declared.names.PortName.{PortName}
use Rattle.link_base.specs.declared.names.Way.{Way}
use Rattle.bearer_map.specs.Contents.{Contents}
use Rattle.rlc_model.specs.Rx.{Rx, Done, got, held_at, len_of}
use Rattle.rlc_model.specs.Sides.{Entity, hearer_of}
use Rattle.script_text.specs.declared.stage.ScriptStage.{ScriptStage}
use Rattle.script_text.specs.History.{Entry}
use Rattle.chain_model.specs.Heard.{HopOf, HasByte, HasEnd, HeardAt}
use Rattle.chain_model.specs.Runs.{Turn, entries, LeadsTo}
use Rattle.chain_model.specs.Sizes.{port_size}
use Rattle.chain_model.specs.State.{Chain, entity_on}

-- the hop of a port in a way and an epoch, read with the SNs that the tables give the port
abbrev pub hop_at : Contents → PortName → Way → ℕ → HopOf
hop_at t port way epoch = record { size = port_size t port; port = port; way = way; epoch = epoch }

-- a number is complete exactly where it is heard, and as one SDU. Of a number that isn't complete a byte is held exactly where a PDU delivered has it, and
-- the length is known exactly where one ends there (TS 38.322 clause 5.2.3.2)
pub record HasDelivered (hop : HopOf) (h : List Entry) (rx : Rx) : Type 0 where
  pub done : (n : ℕ) → (got rx n ≡ Done) ↔ ((sdu : List ℕ) × HeardAt hop h n sdu)
  pub one : (n : ℕ) (a b : List ℕ) → HeardAt hop h n a → HeardAt hop h n b → a ≡ b
  pub held : (n p : ℕ) → got rx n ≢ Done → (held_at (got rx n) p ≡ None) ↔ ((b : ℕ) → HasByte hop h n p b → ⊥)
  pub ends : (n l : ℕ) → got rx n ≢ Done → (len_of (got rx n) ≡ Some l) ↔ HasEnd hop h n l

-- so has each receiver in its epoch, behind each run
abbrev pub ReceiversHaveWhatWasDelivered : Type 0
ReceiversHaveWhatWasDelivered = (h : List Turn) (stage : ScriptStage) (c : Chain) → LeadsTo h stage c → (port : PortName) (way : Way)
    (entity : Entity) → entity_on c (hearer_of way) port ≡ Some entity → HasDelivered (hop_at c.tables port way entity.epoch) (entries h) entity.rx
