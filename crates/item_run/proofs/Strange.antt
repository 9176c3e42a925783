-- The answers of a node whose replies never come.
use Rattle.std.proofs.Common.{◌≡◌, Bool, true, false, List, refl, ap}
use Rattle.std.proofs.lemmas.Bool.{true≢false}
use Rattle.link_base.specs.declared.names.PortName.{PortName}
use Rattle.link_base.specs.declared.names.Way.{Way}
use Rattle.rlc_model.specs.declared.hop.AirFault.TheVariants.{Gone, Stale}
use Rattle.rlc_model.specs.declared.hop.HopHeard.{HopHeard}
use Rattle.rlc_model.specs.declared.hop.HopHeard.TheVariants as hop
use Rattle.rlc_model.specs.declared.receiver.Heard.TheVariants as receiving
use Rattle.rlc_model.specs.declared.transmitter.StatusHeard.TheVariants as sending
use Rattle.script_text.specs.declared.event.Event.{Event}
use Rattle.script_text.specs.declared.reply.Reply.{Reply}
use Rattle.node_model.specs.declared.answers.NodeHeard.{NodeHeard}
use Rattle.node_model.specs.declared.answers.NodeHeard.TheVariants as answers
use Rattle.chain_model.specs.Lines.{is_handed_over}
use Rattle.chain_model.specs.Telling.{TellsHop, TellsHeard}
use Rattle.item_run.specs.Replies.{never_comes}

-- RLC finds the PDU strange
abbrev pub is_strange_hop : HopHeard → Bool
is_strange_hop (hop.Amd receiving.Outside) = true
is_strange_hop (hop.Amd receiving.Conflict) = true
is_strange_hop (hop.Status (sending.Beyond ack sent)) = true
is_strange_hop (hop.BadAmd fault) = true
is_strange_hop (hop.BadStatus fault) = true
is_strange_hop answer = false

-- RLC or PDCP does, or the SDU is discarded
abbrev pub is_strange : NodeHeard → Bool
is_strange answers.Old = true
is_strange answers.Twice = true
is_strange answers.NoCount = true
is_strange (answers.Discard name) = true
is_strange (answers.Hop answer) = is_strange_hop answer
is_strange answer = false

hop_sound : (port : PortName) (way : Way) (answer : HopHeard) (events : List Event) (reply : Reply) → TellsHop port way answer events reply → is_strange_hop answer ≡ false
    → never_comes reply ≡ false
hop_sound port way (hop.Amd receiving.Stored) events reply t fine = ap never_comes t.1
hop_sound port way (hop.Amd receiving.Repeat) events reply t fine = ap never_comes t.1
hop_sound port way (hop.Amd (receiving.Complete number sdu)) events reply t fine = absurd t
hop_sound port way (hop.Status (sending.Acked tags marks)) events reply t fine = ap never_comes t.1
hop_sound port way (hop.Status (sending.Old ack next)) events reply t fine = ap never_comes t.1
hop_sound port way (hop.Amd receiving.Outside) events reply t fine = absurd (true≢false fine)
hop_sound port way (hop.Amd receiving.Conflict) events reply t fine = absurd (true≢false fine)
hop_sound port way (hop.Status (sending.Beyond ack sent)) events reply t fine = absurd (true≢false fine)
hop_sound port way (hop.BadAmd fault) events reply t fine = absurd (true≢false fine)
hop_sound port way (hop.BadStatus fault) events reply t fine = absurd (true≢false fine)

-- all other answers have other replies
pub heard_sound : (port : PortName) (way : Way) (answer : NodeHeard) (events : List Event) (reply : Reply) → TellsHeard port way answer events reply → is_strange answer ≡ false
    → never_comes reply ≡ false
heard_sound port way answers.NoPort events reply t fine = ap never_comes t.1
heard_sound port way (answers.Air Gone) events reply t fine = ap never_comes t.1
heard_sound port way (answers.Air (Stale number next)) events reply t fine = ap never_comes t.1
heard_sound port way answers.Held events reply t fine = ap never_comes t.1
heard_sound port way (answers.Slot egress) events reply t fine = ap never_comes t.1
heard_sound port way (answers.Up key sdus) events reply t fine = ap never_comes t.1
heard_sound port way answers.Waiting events reply t fine = ap never_comes t.1
heard_sound port way (answers.Report key confirmed) events reply t fine = ap never_comes t.1
heard_sound port way (answers.Hop answer) events reply t fine = hop_sound port way answer events reply t fine
heard_sound port way answers.Old events reply t fine = absurd (true≢false fine)
heard_sound port way answers.Twice events reply t fine = absurd (true≢false fine)
heard_sound port way answers.NoCount events reply t fine = absurd (true≢false fine)
heard_sound port way (answers.Discard name) events reply t fine = absurd (true≢false fine)

-- a PDU that isn't handed over is no strange one
pub refused_fine : (answer : NodeHeard) → is_handed_over answer ≡ false → is_strange answer ≡ false
refused_fine answers.NoPort refused = refl
refused_fine (answers.Air fault) refused = refl
refused_fine answers.Held refused = refl
refused_fine answer refused = absurd (true≢false refused)
