-- Which replies to a PDU never come: where paths stand all that came as it was made, once, and to where it leads.
use Rattle.std.specs.Prelude.{◌≡◌, ℕ, Bool, true, false, List, Contains}
use Rattle.std.specs.List.{AllByRecursion}
use Rattle.link_base.specs.declared.discard.Discard.TheVariants.{UnknownUe}
use Rattle.script_text.specs.declared.event.Event.TheVariants.{Heard as HeardTicket}
use Rattle.script_text.specs.declared.reply.Reply.{Reply}
use Rattle.script_text.specs.declared.reply.Reply.TheVariants.{OkOutside, OkConflict, OkOld, OkTwice, OkNoCount, OkBeyond, BadAmd, BadStatus, Discard}
use Rattle.script_text.specs.History.{Entry}

-- RLC finds a PDU outside its window, in conflict with what it holds, beyond what it sent, or unreadable; PDCP finds that its SDU was handed up before, is stored
-- already or has no COUNT; or an SDU is discarded (TS 38.322 clauses 5.2.3.2 and 5.3.3, TS 38.323 clause 5.2.2, TS 38.351 clause 5.2)
abbrev pub never_comes : Reply → Bool
never_comes OkOutside = true
never_comes OkConflict = true
never_comes OkBeyond = true
never_comes (BadAmd fault) = true
never_comes (BadStatus fault) = true
never_comes OkOld = true
never_comes OkTwice = true
never_comes OkNoCount = true
never_comes (Discard name) = true
never_comes reply = false

-- where paths are switched one of these comes: that an SDU is discarded as no remote is attached with its UE ID
abbrev pub never_comes_over_switches : Reply → Bool
never_comes_over_switches (Discard UnknownUe) = false
never_comes_over_switches reply = never_comes reply

-- no reply that the test names was given to a line, nor to a PDU that a burst had heard
pub record GivesNone (never : Reply → Bool) (e : Entry) : Type 0 where
  pub reply : never e.reply ≡ false
  pub events : (ticket : ℕ) (reply : Reply) → Contains e.events (HeardTicket ticket reply) → never reply ≡ false

-- nor in a history
abbrev pub RepliesAreSound : List Entry → Type 0
RepliesAreSound h = AllByRecursion (GivesNone never_comes) h

-- the same where paths are switched
abbrev pub SwitchingRepliesAreSound : List Entry → Type 0
SwitchingRepliesAreSound h = AllByRecursion (GivesNone never_comes_over_switches) h
