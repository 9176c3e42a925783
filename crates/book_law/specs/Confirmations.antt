-- Why a COUNT of a key is confirmed in a run (TS 38.323 clauses 5.3 and 5.4.2).
use Rattle.std.specs.Prelude.{◌≡◌, ◌⊎◌, ℕ, true, List, Some, Contains}
use Rattle.link_base.specs.declared.names.Drb.{Drb}
use Rattle.link_base.specs.declared.names.Remote.{Remote}
use Rattle.link_base.specs.declared.names.Key.{Key}
use Rattle.link_base.specs.declared.names.PortName.TheVariants.{Direct}
use Rattle.link_base.specs.declared.rlc_words.Tag.{Tag}
use Rattle.rlc_model.specs.declared.hop.HopHeard.TheVariants.{Status}
use Rattle.rlc_model.specs.declared.transmitter.StatusHeard.TheVariants.{Acked}
use Rattle.pdcp_pdu.specs.Pdcp.{Report, IsPdcp}
use Rattle.pdcp_model.specs.Sender.{is_reported}
use Rattle.node_model.specs.Names.{source, back}
use Rattle.chain_model.specs.State.{receiving_at}
use Rattle.chain_model.specs.Draining.{Moment}
use Rattle.book_law.specs.Hearings.{EntityHears, CompletesPdcp}

-- RLC says so: a STATUS PDU comes over a direct port to the end that sends the key, and acknowledges an SDU that was given with the COUNT
pub record AckedBy (key : Key) (m : Moment) (count : ℕ) : Type 0 where
  pub tags : List Tag
  pub marks : List ℕ
  pub comes : EntityHears (source key) m (Status (Acked tags marks))
  pub remote : Remote
  pub drb : Drb
  pub direct : comes.pdu.port ≡ Direct remote drb
  pub tag : Tag
  pub among : Contains tags tag
  pub its_key : tag.key ≡ key
  pub its_count : tag.count ≡ Some count

-- a status report says so that comes for the bearer's other key to the end that sends this one
pub record ReportedBy (key : Key) (m : Moment) (count : ℕ) : Type 0 where
  pub other : Key
  pub its_other : back other ≡ key
  pub body : List ℕ
  pub completes : CompletesPdcp other m body
  pub fmc : ℕ
  pub bits : List ℕ
  pub reads : IsPdcp (receiving_at m.before other).receiver.size (Report fmc bits) body
  pub says : is_reported fmc bits count ≡ true

-- one of the two
abbrev pub ConfirmsBy : Key → Moment → ℕ → Type 0
ConfirmsBy key m count = AckedBy key m count ⊎ ReportedBy key m count
