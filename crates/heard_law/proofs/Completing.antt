-- What a data PDU completes that comes to an end is what the history completes by it, and nothing else is.
use Rattle.std.proofs.Common.{◌≡◌, ◌↔◌, inl, inr, ℕ, Bool, true, false, List, ◌∷◌, Some, None, option_and_then, refl, sym, ◌∙◌, ap, subst}
use Rattle.std.specs.List.{Contains}
use Rattle.std.proofs.lemmas.Bool.{cases_eq}
use Rattle.std.proofs.lemmas.Option.{same_Some}
use Rattle.bearer_map.specs.Contents.{Contents}
use Rattle.rlc_model.specs.declared.hop.HopHeard.{HopHeard}
use Rattle.rlc_model.specs.declared.hop.HopHeard.TheVariants.{Amd as AmdHeard, Status, BadAmd, BadStatus}
use Rattle.rlc_model.specs.declared.receiver.Heard.{Heard}
use Rattle.rlc_model.specs.declared.receiver.Heard.TheVariants.{Stored, Complete, Repeat, Outside, Conflict}
use Rattle.rlc_model.specs.Heard.{Data}
use Rattle.rlc_model.specs.Hop.{side_fault, HearsHop}
use Rattle.rlc_model.specs.Rx.{Rx, Done, got}
use Rattle.rlc_model.specs.Sides.{hearer_of}
use Rattle.rlc_law.specs.Hop.{Hop, Deliver, given_at}
use Rattle.rlc_law.specs.Ports.{Port, hop_of, ReachesPort}
use Rattle.rlc_law.specs.PortLaws.{HearLeaves, HearsDataMade, IsAsGiven}
use Rattle.rlc_law.specs.Sides.{HasSize}
use Rattle.script_text.specs.History.{Entry}
use Rattle.node_model.specs.Names.{NodeName}
use Rattle.node_model.specs.State.{side_at, entity_of}
use Rattle.chain_model.specs.Draining.{Moment}
use Rattle.chain_model.specs.Heard.{HopOf, Delivered, CompletesAt}
use Rattle.chain_model.specs.Lines.{hearer}
use Rattle.chain_model.specs.Sizes.{port_size}
use Rattle.chain_model.specs.State.{Chain, entity_on}
use Rattle.chain_model.specs.Steps.{Step}
use Rattle.chain_law.specs.Calls.{HearLeavesKept}
use Rattle.chain_law.proofs.Chains.{Holds, view}
use Rattle.chain_law.proofs.Counting.{delivery_heard, delivery_given}
use Rattle.chain_law.proofs.Hearing.{Takes, no_fault, side_epoch_is}
use Rattle.chain_law.proofs.Stands.{Stands}
use Rattle.book_law.specs.Hearings.{EntityHears}
use Rattle.heard_law.specs.Foundations.{HeardLaws}
use Rattle.heard_law.specs.Receiving.{hop_at}
use Rattle.heard_law.specs.Telling.{Tells}
use Rattle.heard_law.proofs.Answering.{completes_between}
use Rattle.heard_law.proofs.Hops.{HasLog, was_done, completed_given}
use Rattle.heard_law.proofs.Logged.{logged, comes_logged}
use Rattle.heard_law.proofs.Receivers.{hears_way, port_log}
use Rattle.heard_law.proofs.Staged.{AreForRelay}

-- the entity's answer completes this number as this SDU
abbrev pub Answers : HopHeard → ℕ → List ℕ → Type 0
Answers (AmdHeard (Complete own whole)) number sdu = (number ≡ own) × (sdu ≡ whole)
Answers answer number sdu = ⊥

module _ (laws : HeardLaws) (t : Contents) (h : List Entry) (m : Moment) (tables : m.before.tables ≡ t) (holds : Holds (logged t h) m.before) {name : NodeName} {answer : HopHeard}
    (x : EntityHears name m answer) where
  fault : side_fault x.pdu (Some x.entity.epoch) x.entity.tx x.entity.rx ≡ None
  fault = no_fault x.pdu (side_at (hearer x.pdu m.before) x.pdu.port) x.side x.entity x.taken x.its.here x.its.is_open

  epoch_is : x.pdu.epoch ≡ x.entity.epoch
  epoch_is = side_epoch_is x.pdu x.entity.epoch x.entity.tx x.entity.rx fault

  is_open : entity_on m.before (hearer_of x.pdu.way) x.pdu.port ≡ Some x.entity
  is_open = ap (option_and_then entity_of) x.its.here ∙ x.its.is_open

  heard : (port : Port) × (holds.stands.ports x.pdu.port x.entity.epoch ≡ Some port) × HearLeaves port x.pdu.way x.pdu.status x.pdu.number x.pdu.bytes answer x.tx x.rx
  heard = laws.ports.side_hears _ holds.stands.ports holds.stands.epochs _ m.before.air holds.stands.fits holds.stands.sides x.ticket x.pdu x.shown x.entity is_open fault answer x.tx x.rx x.hears

  -- what is heard as a data PDU is one
  pub is_data : (answered : Heard) → answer ≡ AmdHeard answered → x.pdu.status ≡ false
  is_data answered is = by x.pdu.status refl
    where
      by : (b : Bool) → x.pdu.status ≡ b → b ≡ false
      by false status = refl
      by true status = absurd (subst (λ (a : HopHeard). HearLeaves heard.0 x.pdu.way true x.pdu.number x.pdu.bytes a x.tx x.rx) is
          (subst (λ (b : Bool). HearLeaves heard.0 x.pdu.way b x.pdu.number x.pdu.bytes answer x.tx x.rx) status heard.2))

  -- the hop over which the PDU comes
  abbrev pub hop : HopOf
  hop = hop_at t x.pdu.port x.pdu.way x.pdu.epoch

  module _ (new : Chain) (told : Tells h m.before) (s : Step m.before m.entry.line m.entry.events m.entry.reply new) (staged : AreForRelay m.before)
      (data_pdu : x.pdu.status ≡ false) where
    -- the answer is one to a data PDU
    record Made : Type 0 where
      answered : Heard
      its_answer : answer ≡ AmdHeard answered
      leaves : HearsDataMade heard.0 x.pdu.way x.pdu.number x.pdu.bytes answered x.tx x.rx

    made : Made
    made = by answer refl (subst (λ (b : Bool). HearLeaves heard.0 x.pdu.way b x.pdu.number x.pdu.bytes answer x.tx x.rx) data_pdu heard.2)
      where
        by : (a : HopHeard) → answer ≡ a → HearLeaves heard.0 x.pdu.way false x.pdu.number x.pdu.bytes a x.tx x.rx → Made
        by (AmdHeard answered) is y = record { answered = answered; its_answer = is; leaves = y }
        by (Status answered) is y = absurd y
        by (BadAmd bad) is y = absurd y
        by (BadStatus bad) is y = absurd y

    old_hop : Hop
    old_hop = hop_of heard.0 x.pdu.way

    reaches : ReachesPort heard.0
    reaches = holds.stands.fits.reaches x.pdu.port x.entity.epoch heard.0 heard.1

    module _ (y : Made) where
      abbrev new_hop : Hop
      new_hop = hop_of y.leaves.behind x.pdu.way

      before_log : HasLog (hop_of heard.0 x.pdu.way) hop h
      before_log = port_log t h m.before holds x.pdu.port x.pdu.way x.pdu.epoch heard.0 (ap (holds.stands.ports x.pdu.port) epoch_is ∙ heard.1)

      size : HasSize (port_size t x.pdu.port) heard.0
      size = subst (λ (t : Contents). HasSize (port_size t x.pdu.port) heard.0) tables (holds.stands.sides.sizes x.pdu.port x.entity.epoch heard.0 heard.1)

      takes : Takes t x.pdu (logged t h) (logged t (m.entry ∷ h))
      takes = (comes_logged h m.entry m.before new told s staged laws t tables x.ticket x.pdu x.line x.shown).taken x.taken data_pdu

      behind_log : HasLog new_hop hop (m.entry ∷ h)
      behind_log = record {
        reaches = (laws.moves_on heard.0 x.pdu.way (Deliver y.leaves.heard) y.leaves.behind y.leaves.moves.moves).0 reaches x.pdu.way;
        log = subst (λ (l : List Data). (d : Data) → Contains l d ↔ Delivered hop (m.entry ∷ h) d.number d.view) (sym (delivery_heard x.pdu.way y.leaves.moves.moves))
            (takes.this y.leaves.heard (record { number = y.leaves.its_number; port = heard.0; reaches = reaches; size = size; spells = y.leaves.spells })
            (hop_of heard.0 x.pdu.way).heard before_log.log);
      }

      before_rx : x.entity.rx ≡ (hop_of heard.0 x.pdu.way).rx
      before_rx =
          let its = holds.stands.sides.open_port (hearer_of x.pdu.way) x.pdu.port x.entity is_open in
          its.2.its_rx ∙ hears_way its.0 x.pdu.way ∙ ap (λ (p : Port). (hop_of p x.pdu.way).rx) (same_Some its.0 heard.0 (sym its.1 ∙ heard.1))

      behind_rx : x.rx ≡ new_hop.rx
      behind_rx = y.leaves.moves.here.its_rx ∙ hears_way y.leaves.behind x.pdu.way

      kept : HearLeavesKept x.entity.tx x.entity.rx (AmdHeard y.answered) x.tx x.rx
      kept = subst (λ (a : HopHeard). HearLeavesKept x.entity.tx x.entity.rx a x.tx x.rx) y.its_answer (laws.hearing x.entity.tx x.entity.rx x.pdu.bytes answer x.tx x.rx x.hears)

      given : new_hop.given ≡ (hop_of heard.0 x.pdu.way).given
      given = delivery_given x.pdu.way y.leaves.moves.moves

      module _ (number : ℕ) (sdu : List ℕ) (c : CompletesAt hop h m.entry number sdu) where
        now : (got x.rx number ≡ Done) × (sdu ≡ given_at (hop_of heard.0 x.pdu.way) number)
        now =
            let done = completed_given laws (hop_of heard.0 x.pdu.way) new_hop hop h m.entry before_log behind_log given number sdu c in
            (ap (λ (r : Rx). got r number) behind_rx ∙ done.0, done.1)

        not_before : got x.entity.rx number ≡ Done → ⊥
        not_before done = was_done laws (hop_of heard.0 x.pdu.way) new_hop hop h m.entry before_log behind_log given number sdu
            (ap (λ (r : Rx). got r number) (sym before_rx) ∙ done) c

        only_this : (a : Heard) → HearLeavesKept x.entity.tx x.entity.rx (AmdHeard a) x.tx x.rx → IsAsGiven (hop_of heard.0 x.pdu.way) x.pdu.number a
            → Answers (AmdHeard a) number sdu
        only_this (Complete own whole) k g = elim (cases_eq number own) [
          | inl same ↦ (same, now.1 ∙ ap (given_at (hop_of heard.0 x.pdu.way)) (same ∙ g.0) ∙ sym g.2)
          | inr other ↦ absurd (not_before (sym (k.1.others number other) ∙ now.0))
        ]
        only_this Stored k g = absurd (not_before ((k.1 number).0 now.0))
        only_this Repeat k g = absurd (not_before ((k.1 number).0 now.0))
        only_this Outside k g = absurd (not_before ((k.1 number).0 now.0))
        only_this Conflict k g = absurd (not_before ((k.1 number).0 now.0))

    -- what the line completes over the hop is what the entity answers
    pub completes_only : (number : ℕ) (sdu : List ℕ) → CompletesAt hop h m.entry number sdu → Answers answer number sdu
    completes_only number sdu c = subst (λ (a : HopHeard). Answers a number sdu) (sym made.its_answer) (only_this made number sdu c made.answered (kept made) made.leaves.as_given)

    -- and what it answers as completed the line completes
    pub completes_answered : (own : ℕ) (whole : List ℕ) → answer ≡ AmdHeard (Complete own whole) → CompletesAt hop h m.entry own whole
    completes_answered own whole is =
        let between = completes_between laws t h (m.entry ∷ h) (subst (λ (u : Contents). Stands (logged t h) u (view m.before) holds.limit m.before.air) tables holds.stands) x.ticket x.pdu x.shown
        x.entity is_open fault own whole x.tx x.rx (subst (λ (a : HopHeard). HearsHop x.entity.tx x.entity.rx x.pdu.bytes a x.tx x.rx) is x.hears)
        ((comes_logged h m.entry m.before new told s staged laws t tables x.ticket x.pdu x.line x.shown).taken x.taken) in
        record { now = between.now; before = between.before whole }
