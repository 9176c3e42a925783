-- What an entity of a side completes is completed by what the history delivers with its PDU.
use Rattle.std.proofs.Common.{◌≡◌, ◌↔◌, ℕ, Bool, true, false, List, [], get_or, Option, Some, None, refl, sym, ◌∙◌, ap, subst}
use Rattle.std.specs.List.{Contains}
use Rattle.std.proofs.lemmas.Option.{same_Some}
use Rattle.bearer_map.specs.Contents.{Contents}
use Rattle.rlc_model.specs.declared.hop.HopHeard.TheVariants.{Amd}
use Rattle.rlc_model.specs.declared.hop.Pdu.{Pdu}
use Rattle.rlc_model.specs.declared.receiver.Heard.TheVariants.{Complete}
use Rattle.rlc_model.specs.Heard.{Data}
use Rattle.rlc_model.specs.Hop.{on_air, side_fault, HearsHop}
use Rattle.rlc_model.specs.Rx.{Rx, got}
use Rattle.rlc_model.specs.Sides.{Entity, hearer_of}
use Rattle.rlc_model.specs.Tx.{Tx}
use Rattle.rlc_law.specs.Hop.{Hop, Deliver, given_at}
use Rattle.rlc_law.specs.Ports.{Port, hop_of, ReachesPort}
use Rattle.rlc_law.specs.PortLaws.{HearLeaves, HearsDataMade}
use Rattle.script_text.specs.History.{Entry}
use Rattle.chain_model.specs.Heard.{HopOf, HeardAt, Delivered}
use Rattle.chain_law.specs.Calls.{CompletesOne}
use Rattle.chain_law.specs.Entities.{port_settings}
use Rattle.chain_law.proofs.Counting.{delivery_heard, delivery_given}
use Rattle.chain_law.proofs.Hearing.{Takes, side_epoch_is}
use Rattle.chain_law.proofs.Stands.{View, Limits, Stands, sides_of, heard_in}
use Rattle.heard_law.specs.Foundations.{HeardLaws}
use Rattle.heard_law.specs.Receiving.{hop_at}
use Rattle.heard_law.proofs.Hops.{HasLog, heard_done, done_heard}
use Rattle.heard_law.proofs.Logged.{logged}
use Rattle.heard_law.proofs.Receivers.{hears_way}

-- a number is heard as this SDU by one history, and by another it isn't heard
pub record CompletesBetween (hop : HopOf) (h g : List Entry) (number : ℕ) (whole : List ℕ) : Type 0 where
  pub now : HeardAt hop g number whole
  pub before : (sdu : List ℕ) → HeardAt hop h number sdu → ⊥

module _ (laws : HeardLaws) (t : Contents) (h g : List Entry) {view : View} {limit : Limits} {air : List (Option Pdu)} (s : Stands (logged t h) t view limit air) (ticket : ℕ)
    (pdu : Pdu)
    (on : on_air air ticket ≡ Some pdu) (entity : Entity) (is_open : sides_of view (hearer_of pdu.way) pdu.port ≡ Some entity)
    (fault : side_fault pdu (Some entity.epoch) entity.tx entity.rx ≡ None) (number : ℕ) (whole : List ℕ) (tx : Tx) (rx : Rx)
    (hears : HearsHop entity.tx entity.rx pdu.bytes (Amd (Complete number whole)) tx rx) (takes : pdu.status ≡ false → Takes t pdu (logged t h) (logged t g)) where
  abbrev hop : HopOf
  hop = hop_at t pdu.port pdu.way pdu.epoch

  heard : (port : Port) × (s.ports pdu.port entity.epoch ≡ Some port) × HearLeaves port pdu.way pdu.status pdu.number pdu.bytes (Amd (Complete number whole)) tx rx
  heard = laws.ports.side_hears (port_settings t) s.ports s.epochs (sides_of view) air s.fits s.sides ticket pdu on entity is_open fault (Amd (Complete number whole)) tx rx hears

  is_data : pdu.status ≡ false
  is_data = by pdu.status refl
    where
      by : (b : Bool) → pdu.status ≡ b → b ≡ false
      by false is = refl
      by true is = absurd (subst (λ (b : Bool). HearLeaves heard.0 pdu.way b pdu.number pdu.bytes (Amd (Complete number whole)) tx rx) is heard.2)

  made : HearsDataMade heard.0 pdu.way pdu.number pdu.bytes (Complete number whole) tx rx
  made = subst (λ (b : Bool). HearLeaves heard.0 pdu.way b pdu.number pdu.bytes (Amd (Complete number whole)) tx rx) is_data heard.2

  abbrev old : Hop
  old = hop_of heard.0 pdu.way

  abbrev new : Hop
  new = hop_of made.behind pdu.way

  reaches : ReachesPort heard.0
  reaches = s.fits.reaches pdu.port entity.epoch heard.0 heard.1

  old_log : HasLog old hop h
  old_log = record {
    reaches = reaches pdu.way;
    log = subst (λ (o : Option Port). (d : Data) → Contains (heard_in o pdu.way) d ↔ Delivered hop h d.number d.view)
        (ap (s.ports pdu.port) (side_epoch_is pdu entity.epoch entity.tx entity.rx fault) ∙ heard.1) (s.heard pdu.port pdu.epoch pdu.way);
  }

  new_log : HasLog new hop g
  new_log = record {
    reaches = (laws.moves_on heard.0 pdu.way (Deliver made.heard) made.behind made.moves.moves).0 reaches pdu.way;
    log = subst (λ (l : List Data). (d : Data) → Contains l d ↔ Delivered hop g d.number d.view) (sym (delivery_heard pdu.way made.moves.moves))
        ((takes is_data).this made.heard
        (record { number = made.its_number; port = heard.0; reaches = reaches; size = s.sides.sizes pdu.port entity.epoch heard.0 heard.1; spells = made.spells })
        old.heard old_log.log);
  }

  before_rx : entity.rx ≡ old.rx
  before_rx =
      let its = s.sides.open_port (hearer_of pdu.way) pdu.port entity is_open in
      its.2.its_rx ∙ hears_way its.0 pdu.way ∙ ap (λ (p : Port). (hop_of p pdu.way).rx) (same_Some its.0 heard.0 (sym its.1 ∙ heard.1))

  behind_rx : rx ≡ new.rx
  behind_rx = made.moves.here.its_rx ∙ hears_way made.behind pdu.way

  kept : CompletesOne entity.rx number rx
  kept = (laws.hearing entity.tx entity.rx pdu.bytes (Amd (Complete number whole)) tx rx hears).1

  given : given_at new number ≡ whole
  given = ap (λ (l : List (List ℕ)). get_or l number []) (delivery_given pdu.way made.moves.moves) ∙ ap (given_at old) made.as_given.0 ∙ sym made.as_given.2

  pub completes_between : CompletesBetween hop h g number whole
  completes_between = record {
    now = subst (HeardAt hop g number) given (done_heard laws new hop g new_log number (ap (λ (r : Rx). got r number) (sym behind_rx) ∙ kept.now));
    before = λ sdu was. kept.before (ap (λ (r : Rx). got r number) before_rx ∙ heard_done laws old hop h old_log number sdu was);
  }
