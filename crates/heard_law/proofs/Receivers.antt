-- What the receiver of an open side at an end has is what the history delivers.
use Rattle.std.proofs.Common.{◌≡◌, ◌↔◌, ℕ, List, Option, Some, refl, sym, ◌∙◌, subst}
use Rattle.std.specs.List.{Contains}
use Rattle.link_base.specs.declared.names.PortName.{PortName}
use Rattle.link_base.specs.declared.names.Way.{Way}
use Rattle.link_base.specs.declared.names.Way.TheVariants.{Ul, Dl}
use Rattle.bearer_map.specs.Contents.{Contents}
use Rattle.rlc_model.specs.Heard.{Data}
use Rattle.rlc_model.specs.Sides.{Entity, hearer_of}
use Rattle.rlc_law.specs.Ports.{Port, hop_of, rx_of}
use Rattle.script_text.specs.History.{Entry}
use Rattle.chain_model.specs.Heard.{Delivered}
use Rattle.chain_model.specs.State.{Chain, entity_on}
use Rattle.chain_law.proofs.Chains.{Holds}
use Rattle.chain_law.proofs.Stands.{heard_in}
use Rattle.heard_law.specs.Foundations.{HeardLaws}
use Rattle.heard_law.specs.Receiving.{hop_at, HasDelivered}
use Rattle.heard_law.proofs.Hops.{HasLog, has_delivered}
use Rattle.heard_law.proofs.Logged.{logged}

-- the receiver of the side that hears a way is that of the way's hop
pub hears_way : (port : Port) (way : Way) → rx_of port (hearer_of way) ≡ (hop_of port way).rx
hears_way port Ul = refl
hears_way port Dl = refl

module _ (t : Contents) (h : List Entry) (c : Chain) (holds : Holds (logged t h) c) where
  -- the hop of a port that is there
  pub port_log : (name : PortName) (way : Way) (epoch : ℕ) → (port : Port) → holds.stands.ports name epoch ≡ Some port
      → HasLog (hop_of port way) (hop_at t name way epoch) h
  port_log name way epoch port is = record {
    reaches = holds.stands.fits.reaches name epoch port is way;
    log = subst (λ (o : Option Port). (d : Data) → Contains (heard_in o way) d ↔ Delivered (hop_at t name way epoch) h d.number d.view) is (holds.stands.heard name epoch way);
  }

  pub receiver_has : HeardLaws → (name : PortName) (way : Way) (entity : Entity) → entity_on c (hearer_of way) name ≡ Some entity
      → HasDelivered (hop_at t name way entity.epoch) h entity.rx
  receiver_has laws name way entity is =
      let its = holds.stands.sides.open_port (hearer_of way) name entity is in
      let rx : entity.rx ≡ (hop_of its.0 way).rx = its.2.its_rx ∙ hears_way its.0 way in
      subst (HasDelivered (hop_at t name way entity.epoch) h) (sym rx)
      (has_delivered laws (hop_of its.0 way) (hop_at t name way entity.epoch) h (port_log name way entity.epoch its.0 its.1))
