-- How what a node answers is told in a script's words: the one place where answers become replies and events.
use Rattle.std.specs.Prelude.{◌≡◌, ℕ, List, [], ◌∷◌, length, map}
use Rattle.link_base.specs.declared.names.PortName.{PortName}
use Rattle.link_base.specs.declared.names.Way.{Way}
use Rattle.link_base.specs.declared.rlc_words.Expired.{Expired}
use Rattle.link_base.specs.declared.rlc_words.Expired.TheVariants as expiry
use Rattle.rlc_model.specs.declared.hop.AirFault.{AirFault}
use Rattle.rlc_model.specs.declared.hop.AirFault.TheVariants as fault
use Rattle.rlc_model.specs.declared.hop.HopHeard.{HopHeard}
use Rattle.rlc_model.specs.declared.hop.HopHeard.TheVariants as hop
use Rattle.rlc_model.specs.declared.receiver.Heard.TheVariants as heard
use Rattle.rlc_model.specs.declared.transmitter.StatusHeard.TheVariants as told
use Rattle.pdcp_model.specs.declared.answers.SubmitFault.{SubmitFault}
use Rattle.pdcp_model.specs.declared.answers.SubmitFault.TheVariants as faults
use Rattle.node_model.specs.declared.answers.NodeHeard.{NodeHeard}
use Rattle.node_model.specs.declared.answers.NodeHeard.TheVariants as answers
use Rattle.node_model.specs.declared.answers.PushReply.{PushReply}
use Rattle.node_model.specs.declared.answers.PushReply.TheVariants as pushed
use Rattle.node_model.specs.declared.answers.PullReply.{PullReply}
use Rattle.node_model.specs.declared.answers.PullReply.TheVariants as pulled
use Rattle.script_text.specs.declared.event.Event.{Event}
use Rattle.script_text.specs.declared.event.Event.TheVariants.{MaxRetx, Up}
use Rattle.script_text.specs.declared.reply.Reply.{Reply}
use Rattle.script_text.specs.declared.reply.Reply.TheVariants.{Ok, OkNumber, OkPort, OkSlot, OkUp, OkAcks, OkStored, OkRepeat, OkOutside, OkConflict, OkWaiting, OkOld, OkTwice, OkNoCount, OkReport, OkPast, OkBeyond, NoPort, Gone, Held, Empty, Long, Spent, Full, Stale, Stopped, Nothing, QueueFull, Stalled, BadAmd, BadStatus, Discard}

-- how a submission is answered that isn't accepted. A node that wants memory ends the run, so that has no word
abbrev pub TellsSubmit : SubmitFault → Reply → Type 0
TellsSubmit faults.Empty reply = reply ≡ Empty
TellsSubmit faults.Long reply = reply ≡ Long
TellsSubmit faults.Spent reply = reply ≡ Spent
TellsSubmit (faults.Full n) reply = reply ≡ Full n
TellsSubmit faults.Memory reply = ⊥

-- how a PDU is answered that the air doesn't hand over
abbrev pub air_reply : AirFault → Reply
air_reply fault.Gone = Gone
air_reply (fault.Stale number next) = Stale number next

-- the events of numbers whose RETX_COUNT came to maxRetxThreshold (TS 38.322 clause 5.3.2)
abbrev pub marked : PortName → Way → List ℕ → List Event
marked port way marks = map (λ n. MaxRetx port way n) marks

-- what the entity of a port answered to a PDU that completed no SDU; way is the one in which the port's side sends
abbrev pub TellsHop : PortName → Way → HopHeard → List Event → Reply → Type 0
TellsHop port way (hop.Amd heard.Stored) events reply = (events ≡ []) × (reply ≡ OkStored)
TellsHop port way (hop.Amd heard.Repeat) events reply = (events ≡ []) × (reply ≡ OkRepeat)
TellsHop port way (hop.Amd heard.Outside) events reply = (events ≡ []) × (reply ≡ OkOutside)
TellsHop port way (hop.Amd heard.Conflict) events reply = (events ≡ []) × (reply ≡ OkConflict)
TellsHop port way (hop.Amd (heard.Complete number sdu)) events reply = ⊥
TellsHop port way (hop.Status (told.Acked tags marks)) events reply = (events ≡ marked port way marks) × (reply ≡ OkAcks (length tags))
TellsHop port way (hop.Status (told.Old ack next)) events reply = (events ≡ []) × (reply ≡ OkPast)
TellsHop port way (hop.Status (told.Beyond ack sent)) events reply = (events ≡ []) × (reply ≡ OkBeyond)
TellsHop port way (hop.BadAmd fault) events reply = (events ≡ []) × (reply ≡ BadAmd fault)
TellsHop port way (hop.BadStatus fault) events reply = (events ≡ []) × (reply ≡ BadStatus fault)

-- what became of a PDU that came to a node over a port
abbrev pub TellsHeard : PortName → Way → NodeHeard → List Event → Reply → Type 0
TellsHeard port way answers.NoPort events reply = (events ≡ []) × (reply ≡ NoPort)
TellsHeard port way (answers.Air fault) events reply = (events ≡ []) × (reply ≡ air_reply fault)
TellsHeard port way answers.Held events reply = (events ≡ []) × (reply ≡ Held)
TellsHeard port way (answers.Slot egress) events reply = (events ≡ []) × (reply ≡ OkSlot egress)
TellsHeard port way (answers.Up key sdus) events reply = (events ≡ map (λ sdu. Up key sdu) sdus) × (reply ≡ OkUp (length sdus))
TellsHeard port way answers.Waiting events reply = (events ≡ []) × (reply ≡ OkWaiting)
TellsHeard port way answers.Old events reply = (events ≡ []) × (reply ≡ OkOld)
TellsHeard port way answers.Twice events reply = (events ≡ []) × (reply ≡ OkTwice)
TellsHeard port way answers.NoCount events reply = (events ≡ []) × (reply ≡ OkNoCount)
TellsHeard port way (answers.Report key confirmed) events reply = (events ≡ []) × (reply ≡ OkReport)
TellsHeard port way (answers.Discard name) events reply = (events ≡ []) × (reply ≡ Discard name)
TellsHeard port way (answers.Hop answer) events reply = TellsHop port way answer events reply

-- what the expiry of a timer is answered, and the event of a number whose count came to its threshold
abbrev pub TellsExpired : PortName → Way → Expired → List Event → Reply → Type 0
TellsExpired port way expiry.Done events reply = (events ≡ []) × (reply ≡ Ok)
TellsExpired port way (expiry.Marked n) events reply = (events ≡ marked port way (n ∷ [])) × (reply ≡ Ok)
TellsExpired port way expiry.Stopped events reply = (events ≡ []) × (reply ≡ Stopped)

-- how a push is answered
abbrev pub push_reply : PushReply → Reply
push_reply (pushed.Done port) = OkPort port
push_reply pushed.NoPort = NoPort
push_reply pushed.Nothing = Nothing
push_reply pushed.QueueFull = QueueFull

-- how a pull is answered
abbrev pub pull_reply : PullReply → Reply
pull_reply (pulled.Done number) = OkNumber number
pull_reply pulled.NoPort = NoPort
pull_reply pulled.Empty = Empty
pull_reply pulled.Stalled = Stalled
