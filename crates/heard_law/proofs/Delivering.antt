-- The PDUs that an entity hears are those that a history delivers.
use Rattle.std.proofs.Common.{◌≡◌, Bool, true, false, Some, None, option_and_then, refl, ◌∙◌, ap, subst}
use Rattle.rlc_model.specs.declared.hop.HopHeard.TheVariants.{Amd as AmdHeard}
use Rattle.rlc_model.specs.Hop.{side_fault}
use Rattle.rlc_law.specs.Ports.{Port}
use Rattle.rlc_law.specs.PortLaws.{HearLeaves}
use Rattle.node_model.specs.State.{side_at, entity_of}
use Rattle.chain_model.specs.Lines.{hearer}
use Rattle.chain_law.specs.Entities.{IsHeardWell}
use Rattle.chain_law.specs.Laws.{HearsWhatWasGiven}
use Rattle.chain_law.proofs.Hearing.{no_fault, side_epoch_is}
use Rattle.heard_law.specs.Delivering.{DeliversWhatComes}
use Rattle.heard_law.specs.Tickets.{comes}
use Rattle.heard_law.proofs.Tickets.{tickets_heard_are_told}

pub delivers_what_comes : HearsWhatWasGiven → DeliversWhatComes
delivers_what_comes given h m new tells fits goes name answer x = record {
  fields = x.hears.1;
  hears = x.hears.3;
  delivers = record {
    ticket = x.ticket;
    hears = (tickets_heard_are_told m.before new m.entry goes x.ticket).1 (comes x.line (record { pdu = x.pdu; here = x.shown; taken = x.taken }));
    pdu = x.pdu;
    shown = tells.air x.ticket x.pdu x.shown;
    over = record { port = refl; way = refl; epoch = side_epoch_is x.pdu x.entity.epoch x.entity.tx x.entity.rx taken };
    is_data = is_data x.pdu.status refl;
    its_number = refl;
    reads = x.hears.2;
  };
}
  where
    taken : side_fault x.pdu (Some x.entity.epoch) x.entity.tx x.entity.rx ≡ None
    taken = no_fault x.pdu (side_at (hearer x.pdu m.before) x.pdu.port) x.side x.entity x.taken x.its.here x.its.is_open

    heard : (port : Port) × (fits.ports x.pdu.port x.entity.epoch ≡ Some port) × HearLeaves port x.pdu.way x.pdu.status x.pdu.number x.pdu.bytes (AmdHeard answer) x.tx x.rx
        × IsHeardWell x.pdu.number (AmdHeard answer)
    heard = given m.before fits x.ticket x.pdu x.shown x.entity (ap (option_and_then entity_of) x.its.here ∙ x.its.is_open) taken (AmdHeard answer) x.tx x.rx x.hears

    is_data : (b : Bool) → x.pdu.status ≡ b → b ≡ false
    is_data false is = refl
    is_data true is = absurd (subst (λ (s : Bool). HearLeaves heard.0 x.pdu.way s x.pdu.number x.pdu.bytes (AmdHeard answer) x.tx x.rx) is heard.2)
