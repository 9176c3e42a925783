-- An answer is told in one way.
use Rattle.std.proofs.Common.{◌≡◌, List, sym, ◌∙◌}
use Rattle.link_base.specs.declared.names.PortName.{PortName}
use Rattle.link_base.specs.declared.names.Way.{Way}
use Rattle.link_base.specs.declared.rlc_words.Expired.{Expired}
use Rattle.link_base.specs.declared.rlc_words.Expired.TheVariants as expiry
use Rattle.rlc_model.specs.declared.hop.HopHeard.{HopHeard}
use Rattle.rlc_model.specs.declared.hop.HopHeard.TheVariants as hop
use Rattle.rlc_model.specs.declared.receiver.Heard.TheVariants as heard
use Rattle.rlc_model.specs.declared.transmitter.StatusHeard.TheVariants as told
use Rattle.pdcp_model.specs.declared.answers.SubmitFault.{SubmitFault}
use Rattle.pdcp_model.specs.declared.answers.SubmitFault.TheVariants as faults
use Rattle.node_model.specs.declared.answers.NodeHeard.{NodeHeard}
use Rattle.node_model.specs.declared.answers.NodeHeard.TheVariants as answers
use Rattle.script_text.specs.declared.event.Event.{Event}
use Rattle.script_text.specs.declared.reply.Reply.{Reply}
use Rattle.chain_model.specs.Telling.{TellsSubmit, TellsHop, TellsHeard, TellsExpired}

-- the same events and the same reply
both : {es fs xs : List Event} {a b x : Reply} → (es ≡ xs) × (a ≡ x) → (fs ≡ xs) × (b ≡ x) → (es ≡ fs) × (a ≡ b)
both p q = (p.0 ∙ sym q.0, p.1 ∙ sym q.1)

pub one_submit : (fault : SubmitFault) (a b : Reply) → TellsSubmit fault a → TellsSubmit fault b → a ≡ b
one_submit faults.Empty a b p q = p ∙ sym q
one_submit faults.Long a b p q = p ∙ sym q
one_submit faults.Spent a b p q = p ∙ sym q
one_submit (faults.Full n) a b p q = p ∙ sym q
one_submit faults.Memory a b p q = absurd p

one_hop : (port : PortName) (way : Way) (x : HopHeard) (es fs : List Event) (a b : Reply) → TellsHop port way x es a → TellsHop port way x fs b → (es ≡ fs) × (a ≡ b)
one_hop port way (hop.Amd heard.Stored) es fs a b p q = both p q
one_hop port way (hop.Amd heard.Repeat) es fs a b p q = both p q
one_hop port way (hop.Amd heard.Outside) es fs a b p q = both p q
one_hop port way (hop.Amd heard.Conflict) es fs a b p q = both p q
one_hop port way (hop.Amd (heard.Complete number sdu)) es fs a b p q = absurd p
one_hop port way (hop.Status (told.Acked tags marks)) es fs a b p q = both p q
one_hop port way (hop.Status (told.Old ack next)) es fs a b p q = both p q
one_hop port way (hop.Status (told.Beyond ack sent)) es fs a b p q = both p q
one_hop port way (hop.BadAmd fault) es fs a b p q = both p q
one_hop port way (hop.BadStatus fault) es fs a b p q = both p q

pub one_heard : (port : PortName) (way : Way) (x : NodeHeard) (es fs : List Event) (a b : Reply) → TellsHeard port way x es a → TellsHeard port way x fs b → (es ≡ fs) × (a ≡ b)
one_heard port way answers.NoPort es fs a b p q = both p q
one_heard port way (answers.Air fault) es fs a b p q = both p q
one_heard port way answers.Held es fs a b p q = both p q
one_heard port way (answers.Slot egress) es fs a b p q = both p q
one_heard port way (answers.Up key sdus) es fs a b p q = both p q
one_heard port way answers.Waiting es fs a b p q = both p q
one_heard port way answers.Old es fs a b p q = both p q
one_heard port way answers.Twice es fs a b p q = both p q
one_heard port way answers.NoCount es fs a b p q = both p q
one_heard port way (answers.Report key confirmed) es fs a b p q = both p q
one_heard port way (answers.Discard name) es fs a b p q = both p q
one_heard port way (answers.Hop x) es fs a b p q = one_hop port way x es fs a b p q

pub one_expired : (port : PortName) (way : Way) (x : Expired) (es fs : List Event) (a b : Reply) → TellsExpired port way x es a → TellsExpired port way x fs b
    → (es ≡ fs) × (a ≡ b)
one_expired port way expiry.Done es fs a b p q = both p q
one_expired port way (expiry.Marked n) es fs a b p q = both p q
one_expired port way expiry.Stopped es fs a b p q = both p q
