-- The texts of replies and events, and of the lines of a trace.
use Rattle.std.specs.Prelude.{ℕ, List, [], ◌∷◌, ◌++◌, codes, Bool, true, false, if◌then◌else◌}
use Rattle.std.specs.List.{flat_map}
use Rattle.std.specs.Fmt.{decimal}
use Rattle.link_base.specs.declared.names.Key.{Key}
use Rattle.link_base.specs.declared.names.Place.{Place}
use Rattle.link_base.specs.declared.names.Place.TheVariants.{Attached, Planned, Slot, Queue, Uu}
use Rattle.link_base.specs.declared.discard.Discard.{Discard as ADiscard}
use Rattle.link_base.specs.declared.discard.Discard.TheVariants as discards
use Rattle.rlc_pdu.specs.declared.amd.AmdFault.{AmdFault}
use Rattle.rlc_pdu.specs.declared.amd.AmdFault.TheVariants as amd
use Rattle.rlc_status.specs.declared.fault.StatusFault.{StatusFault}
use Rattle.rlc_status.specs.declared.fault.StatusFault.TheVariants as status
use Rattle.script_text.specs.declared.line.Line.{Line}
use Rattle.script_text.specs.declared.line.Line.TheVariants.{End as EndLine}
use Rattle.script_text.specs.declared.event.Event.{Event}
use Rattle.script_text.specs.declared.event.Event.TheVariants.{Heard, Left, MaxRetx, Up, Conf, Rep}
use Rattle.script_text.specs.declared.reply.Reply.{Reply}
use Rattle.script_text.specs.declared.reply.Reply.TheVariants.{Ok, OkNumber, OkPort, OkTwo, OkSlot, OkUp, OkAcks, OkStored, OkRepeat, OkOutside, OkConflict, OkWaiting, OkOld, OkTwice, OkNoCount, OkReport, OkPast, OkBeyond, NoBearer, NoRemote, NoPort, NoAir, NotRelay, NoTable, NoPlan, Already, Gone, Held, IsStatus, Empty, Long, Spent, Full, AirFull, Worn, Idle, Small, Air, Stale, Stopped, Nothing, QueueFull, Stalled, PlanOpen, IdBusy, BadAmd, BadStatus, Discard}
use Rattle.script_text.specs.declared.reason.Reason.{Reason}
use Rattle.script_text.specs.declared.reason.Reason.TheVariants as reasons
use Rattle.script_text.specs.declared.trace.Total.{Total}
use Rattle.script_text.specs.declared.stage.Part.TheVariants.{Running}
use Rattle.script_text.specs.declared.stage.Part.{Part}
use Rattle.script_text.specs.Words.{port_text, way_text, hex_text}
use Rattle.script_text.specs.Fields.{joined}
use Rattle.script_text.specs.Lines.{part_of}

-- remote, bearer and way
abbrev pub key_words : Key → List (List ℕ)
key_words key = decimal key.remote.0 ∷ decimal key.drb.0 ∷ way_text key.way ∷ []

-- where a local identity is still in use
abbrev pub place_words : Place → List (List ℕ)
place_words (Attached remote) = codes "attach" ∷ decimal remote.0 ∷ []
place_words (Planned remote) = codes "plan" ∷ decimal remote.0 ∷ []
place_words (Slot port) = codes "slot" ∷ port_text port ∷ []
place_words (Queue port) = codes "queue" ∷ port_text port ∷ []
place_words (Uu chan) = codes "uu" ∷ decimal chan.0 ∷ []

-- whether a PDU is a data PDU or a STATUS PDU
abbrev pub kind_text : Bool → List ℕ
kind_text true = codes "status"
kind_text false = codes "data"

-- the word for what is wrong with a data PDU
abbrev pub amd_fault_text : AmdFault → List ℕ
amd_fault_text amd.Short = codes "short"
amd_fault_text amd.Control = codes "control"
amd_fault_text amd.ZeroOffset = codes "zero-offset"
amd_fault_text amd.NoBody = codes "no-body"
amd_fault_text amd.Long = codes "long"

-- want of memory is no word of a trace
abbrev pub status_fault_text : StatusFault → List ℕ
status_fault_text status.Short = codes "short"
status_fault_text status.IsData = codes "is-data"
status_fault_text status.ReservedType = codes "reserved-type"
status_fault_text status.ZeroRange = codes "zero-range"
status_fault_text status.BackPart = codes "back-part"
status_fault_text status.Trailing = codes "trailing"
status_fault_text status.Memory = codes "memory"

-- the word for why an SDU is dropped
abbrev pub discard_text : ADiscard → List ℕ
discard_text discards.Short = codes "short"
discard_text discards.Control = codes "control"
discard_text discards.NoBody = codes "no-body"
discard_text discards.UnknownUe = codes "unknown-ue"
discard_text discards.UnknownBearer = codes "unknown-bearer"
discard_text discards.ForeignUe = codes "foreign-ue"
discard_text discards.PdcpShort = codes "pdcp-short"
discard_text discards.PdcpType = codes "pdcp-type"
discard_text discards.PdcpEmpty = codes "pdcp-empty"
discard_text discards.PdcpLong = codes "pdcp-long"
discard_text discards.ReportBeyond = codes "report-beyond"

-- the words of a reply
abbrev pub reply_words : Reply → List (List ℕ)
reply_words Ok = codes "ok" ∷ []
reply_words (OkNumber n) = codes "ok" ∷ decimal n ∷ []
reply_words (OkPort port) = codes "ok" ∷ port_text port ∷ []
reply_words (OkTwo a b) = codes "ok" ∷ decimal a ∷ decimal b ∷ []
reply_words (OkSlot port) = codes "ok" ∷ codes "slot" ∷ port_text port ∷ []
reply_words (OkUp n) = codes "ok" ∷ codes "up" ∷ decimal n ∷ []
reply_words (OkAcks n) = codes "ok" ∷ codes "acks" ∷ decimal n ∷ []
reply_words OkStored = codes "ok" ∷ codes "stored" ∷ []
reply_words OkRepeat = codes "ok" ∷ codes "repeat" ∷ []
reply_words OkOutside = codes "ok" ∷ codes "outside" ∷ []
reply_words OkConflict = codes "ok" ∷ codes "conflict" ∷ []
reply_words OkWaiting = codes "ok" ∷ codes "waiting" ∷ []
reply_words OkOld = codes "ok" ∷ codes "old" ∷ []
reply_words OkTwice = codes "ok" ∷ codes "twice" ∷ []
reply_words OkNoCount = codes "ok" ∷ codes "nocount" ∷ []
reply_words OkReport = codes "ok" ∷ codes "report" ∷ []
reply_words OkPast = codes "ok" ∷ codes "past" ∷ []
reply_words OkBeyond = codes "ok" ∷ codes "beyond" ∷ []
reply_words NoBearer = codes "nobearer" ∷ []
reply_words NoRemote = codes "noremote" ∷ []
reply_words NoPort = codes "noport" ∷ []
reply_words NoAir = codes "noair" ∷ []
reply_words NotRelay = codes "notrelay" ∷ []
reply_words NoTable = codes "notable" ∷ []
reply_words NoPlan = codes "noplan" ∷ []
reply_words Already = codes "already" ∷ []
reply_words Gone = codes "gone" ∷ []
reply_words Held = codes "held" ∷ []
reply_words IsStatus = codes "status" ∷ []
reply_words Empty = codes "empty" ∷ []
reply_words Long = codes "long" ∷ []
reply_words Spent = codes "spent" ∷ []
reply_words (Full n) = codes "full" ∷ decimal n ∷ []
reply_words AirFull = codes "airfull" ∷ []
reply_words Worn = codes "worn" ∷ []
reply_words Idle = codes "idle" ∷ []
reply_words (Small n) = codes "small" ∷ decimal n ∷ []
reply_words (Air ticket status number bytes) = codes "air" ∷ decimal ticket ∷ kind_text status ∷ decimal number ∷ hex_text bytes ∷ []
reply_words (Stale a b) = codes "stale" ∷ decimal a ∷ decimal b ∷ []
reply_words Stopped = codes "stopped" ∷ []
reply_words Nothing = codes "nothing" ∷ []
reply_words QueueFull = codes "queuefull" ∷ []
reply_words Stalled = codes "stalled" ∷ []
reply_words (PlanOpen remote) = codes "open" ∷ decimal remote.0 ∷ []
reply_words (IdBusy place) = codes "idbusy" ∷ place_words place
reply_words (BadAmd fault) = codes "bad" ∷ amd_fault_text fault ∷ []
reply_words (BadStatus fault) = codes "bad" ∷ status_fault_text fault ∷ []
reply_words (Discard name) = codes "discard" ∷ discard_text name ∷ []

-- the text of a reply
abbrev pub reply_text : Reply → List ℕ
reply_text reply = joined (reply_words reply)

-- the words of an event
abbrev pub event_words : Event → List (List ℕ)
event_words (Heard ticket reply) = codes "heard" ∷ decimal ticket ∷ reply_text reply ∷ []
event_words (Left ticket) = codes "left" ∷ decimal ticket ∷ []
event_words (MaxRetx port way number) = codes "maxretx" ∷ port_text port ∷ way_text way ∷ decimal number ∷ []
event_words (Up key sdu) = codes "up" ∷ key_words key ++ hex_text sdu ∷ []
event_words (Conf key confirmed) = codes "conf" ∷ key_words key ++ decimal confirmed ∷ []
event_words (Rep key) = codes "rep" ∷ key_words key

-- the text of an event
abbrev pub event_text : Event → List ℕ
event_text event = joined (event_words event)

-- an event is printed behind two spaces, on a line of its own
abbrev pub event_line : Event → List ℕ
event_line event = codes "  " ++ event_text event ++ 10 ∷ []

-- a line of its own for each event, and for the reply
abbrev pub answer_text : List Event → Reply → List ℕ
answer_text events reply = flat_map event_line events ++ (reply_text reply ++ 10 ∷ [])

-- the lines behind `go` are read
abbrev pub is_running : Part → Bool
is_running Running = true
is_running part = false

-- whether a line's answer is printed: those of the version, of table lines and of end are not
abbrev pub is_printed : Line → Bool
is_printed EndLine = false
is_printed line = is_running (part_of line)

-- what a line prints
abbrev pub entry_text : Line → List Event → Reply → List ℕ
entry_text line events reply = if is_printed line then answer_text events reply else []

-- what was submitted, handed up and confirmed of a key
abbrev pub total_text : Total → List ℕ
total_text total = joined (codes "total" ∷ key_words total.key ++ decimal total.submitted ∷ decimal total.handed ∷ decimal total.confirmed ∷ []) ++ 10 ∷ []

-- a line of totals for each key
abbrev pub totals_text : List Total → List ℕ
totals_text totals = flat_map total_text totals

-- the last line of a run that came to its end
abbrev pub done_text : List ℕ
done_text = codes "done" ++ 10 ∷ []

-- the word for why a line is bad
abbrev pub reason_text : Reason → List ℕ
reason_text reasons.Line = codes "line"
reason_text reasons.Text = codes "text"
reason_text reasons.Version = codes "version"
reason_text reasons.Word = codes "word"
reason_text reasons.Form = codes "form"
reason_text reasons.Range = codes "range"
reason_text reasons.Twice = codes "twice"
reason_text reasons.Unknown = codes "unknown"
reason_text reasons.Limit = codes "limit"
reason_text reasons.Map = codes "map"
reason_text reasons.End = codes "end"

-- the last line of a run that stops at a bad line
abbrev pub bad_text : ℕ → List ℕ → List ℕ
bad_text number reason = codes "bad " ++ decimal number ++ codes " " ++ reason ++ 10 ∷ []

-- the last line of a run over a script that is too long
abbrev pub too_long_text : List ℕ
too_long_text = codes "too long" ++ 10 ∷ []
