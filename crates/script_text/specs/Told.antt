-- What the text of a trace tells of replies, events and whole histories.
use Rattle.std.specs.Prelude.{◌≡◌, ◌<◌, ◌^◌, true, List, [], ◌∷◌, map}
use Rattle.std.specs.List.{AllByRecursion}
use Rattle.hex.specs.Hex.{IsBytes}
use Rattle.link_base.specs.declared.names.Key.{Key}
use Rattle.link_base.specs.declared.names.Place.{Place}
use Rattle.link_base.specs.declared.names.Place.TheVariants.{Attached, Planned, Slot, Queue, Uu as UuChan}
use Rattle.link_base.specs.declared.names.PortName.{PortName}
use Rattle.link_base.specs.declared.names.PortName.TheVariants.{Direct, Pc5, Uu}
use Rattle.rlc_pdu.specs.declared.amd.AmdFault.TheVariants as amd
use Rattle.rlc_status.specs.declared.fault.StatusFault.TheVariants as status
use Rattle.script_text.specs.declared.event.Event.{Event}
use Rattle.script_text.specs.declared.event.Event.TheVariants.{Heard, Left, MaxRetx, Up, Conf, Rep}
use Rattle.script_text.specs.declared.reply.Reply.{Reply}
use Rattle.script_text.specs.declared.reply.Reply.TheVariants.{OkNumber, OkPort, OkTwo, OkSlot, OkUp, OkAcks, Full, Small, Air, Stale, PlanOpen, IdBusy, BadAmd, BadStatus}
use Rattle.script_text.specs.Texts.{reply_text, event_text, answer_text, is_printed}
use Rattle.script_text.specs.History.{Entry, trace}

-- the numbers fit 64 bits, and the bytes are bytes
abbrev pub FitsPort : PortName → Type 0
FitsPort (Direct remote drb) = (remote.0 < 2 ^ 64) × (drb.0 < 2 ^ 64)
FitsPort (Pc5 remote chan) = (remote.0 < 2 ^ 64) × (chan.0 < 2 ^ 64)
FitsPort (Uu chan) = chan.0 < 2 ^ 64

-- the same of a key
abbrev pub FitsKey : Key → Type 0
FitsKey key = (key.remote.0 < 2 ^ 64) × (key.drb.0 < 2 ^ 64)

-- the same of a place of a local identity
abbrev pub FitsPlace : Place → Type 0
FitsPlace (Attached remote) = remote.0 < 2 ^ 64
FitsPlace (Planned remote) = remote.0 < 2 ^ 64
FitsPlace (Slot port) = FitsPort port
FitsPlace (Queue port) = FitsPort port
FitsPlace (UuChan chan) = chan.0 < 2 ^ 64

-- the same of a reply
abbrev pub FitsReply : Reply → Type 0
FitsReply (OkNumber n) = n < 2 ^ 64
FitsReply (OkPort port) = FitsPort port
FitsReply (OkTwo a b) = (a < 2 ^ 64) × (b < 2 ^ 64)
FitsReply (OkSlot port) = FitsPort port
FitsReply (OkUp n) = n < 2 ^ 64
FitsReply (OkAcks n) = n < 2 ^ 64
FitsReply (Full n) = n < 2 ^ 64
FitsReply (Small n) = n < 2 ^ 64
FitsReply (Air ticket status number bytes) = (ticket < 2 ^ 64) × (number < 2 ^ 64) × IsBytes bytes
FitsReply (Stale a b) = (a < 2 ^ 64) × (b < 2 ^ 64)
FitsReply (PlanOpen remote) = remote.0 < 2 ^ 64
FitsReply (IdBusy place) = FitsPlace place
FitsReply reply = Unit {0}

-- the same of an event
abbrev pub FitsEvent : Event → Type 0
FitsEvent (Heard ticket reply) = (ticket < 2 ^ 64) × FitsReply reply
FitsEvent (Left ticket) = ticket < 2 ^ 64
FitsEvent (MaxRetx port way number) = FitsPort port × (number < 2 ^ 64)
FitsEvent (Up key sdu) = FitsKey key × IsBytes sdu
FitsEvent (Conf key confirmed) = FitsKey key × (confirmed < 2 ^ 64)
FitsEvent (Rep key) = FitsKey key

-- the same of events and their reply
abbrev pub FitsAnswer : List Event → Reply → Type 0
FitsAnswer events reply = AllByRecursion FitsEvent events × FitsReply reply

-- what the text of a reply tells: all of it, but for `bad short`, which an AMD PDU and a STATUS PDU may be
abbrev pub told : Reply → Reply
told (BadStatus status.Short) = BadAmd amd.Short
told reply = reply

-- what the text of an event tells, where a heard PDU has a reply
abbrev pub told_event : Event → Event
told_event (Heard ticket reply) = Heard ticket (told reply)
told_event event = event

-- a text belongs to one reply
abbrev pub OneReplyIsTold : Type 0
OneReplyIsTold = (a b : Reply) → FitsReply a → FitsReply b → reply_text a ≡ reply_text b → told a ≡ told b

-- a text belongs to one event
abbrev pub OneEventIsTold : Type 0
OneEventIsTold = (a b : Event) → FitsEvent a → FitsEvent b → event_text a ≡ event_text b → told_event a ≡ told_event b

-- a text belongs to one list of events and one reply
abbrev pub OneAnswerIsTold : Type 0
OneAnswerIsTold = (events others : List Event) (a b : Reply) → FitsAnswer events a → FitsAnswer others b → answer_text events a ≡ answer_text others b
    → (map told_event events ≡ map told_event others) × (told a ≡ told b)

-- the entries are those of the same lines, and where a line prints they tell the same
abbrev pub TellSame : List Entry → List Entry → Type 0
TellSame [] [] = Unit {0}
TellSame [] (e ∷ h) = ⊥
TellSame (d ∷ g) [] = ⊥
TellSame (d ∷ g) (e ∷ h) = (d.line ≡ e.line) × (is_printed d.line ≡ true → (map told_event d.events ≡ map told_event e.events) × (told d.reply ≡ told e.reply)) × TellSame g h

-- the same of an entry
abbrev pub FitsEntry : Entry → Type 0
FitsEntry e = FitsAnswer e.events e.reply

-- with its lines given, a trace belongs to one history
abbrev pub OneHistoryIsTold : Type 0
OneHistoryIsTold = (g h : List Entry) → AllByRecursion FitsEntry g → AllByRecursion FitsEntry h → map (λ e. e.line) g ≡ map (λ e. e.line) h → trace g ≡ trace h → TellSame g h
