-- Where a poll is owed, something stays that will carry it.
use Rattle.std.proofs.Common.{◌≡◌, ◌⊎◌, inl, inr, ℕ, ◌<◌, true, List, [], length, Some, None, refl, sym, ◌∙◌, ap, subst, arith, lt-ltb, true≢false}
use Rattle.std.proofs.lemmas.Bool.{cases_Bool, false≢true}
use Rattle.std.proofs.lemmas.List.{get_or_push}
use Rattle.rlc_model.specs.Tx.{Tx, kept_at, tx_next, tx_next_ack, is_pending, is_unsent, PendingWaits, UnsentWaits, owed}
use Rattle.rlc_model.specs.Retransmission.{RetransmitsLowest, stays, retransmits}
use Rattle.rlc_model.specs.declared.transmitter.TxGrant.TheVariants.{Sent, Idle, Small}
use Rattle.rlc_model.specs.declared.transmitter.StatusHeard.TheVariants.{Acked, Old, Beyond}
use Rattle.rlc_law.specs.Hop.{Hop, Event, Happens, Reaches}
use Rattle.rlc_rest.specs.Progress.{HoldsSdus}
use Rattle.rlc_law.specs.Transmitter.{TransmitterCall, gives, grants, hears_status, expires_poll}
use Rattle.rlc_law.proofs.Runs.{everywhere}
use Rattle.rlc_rest.proofs.Waits.{all_sent}
use Rattle.rlc_law.proofs.Acknowledge.{updates_keeps}
use Rattle.rlc_rest.proofs.Progressing.{keeps_whole}
use Rattle.rlc_rest.proofs.Running.{event_calls, reaches_whole}

-- where a poll is owed, a byte waits that will carry it, or nothing is unconfirmed
abbrev pub OwedWaits : Tx → Type 0
OwedWaits t = t.poll_owed ≡ true → PendingWaits t ⊎ UnsentWaits t ⊎ (tx_next_ack t ≡ tx_next t)

-- behind the rule on the lowest unconfirmed number it is so
lowest_waits : (old : Tx) (marks : List ℕ) (new : Tx) → HoldsSdus old → RetransmitsLowest old marks new → PendingWaits new ⊎ UnsentWaits new ⊎ (tx_next_ack new ≡ tx_next new)
lowest_waits old marks new whole (stays why no_marks same) = subst (λ (t : Tx). PendingWaits t ⊎ UnsentWaits t ⊎ (tx_next_ack t ≡ tx_next t)) (sym same) why
lowest_waits old marks new whole (retransmits low) =
    let some : 0 < length low.before.flags = omega (arith, (whole (tx_next_ack old) low.before low.was).0, all_sent old (tx_next_ack old) low.before low.was low.none_unsent) in
    inl (tx_next_ack old, 0, ap (λ o. is_pending o 0) low.is ∙ (low.becomes.pends 0 some).1 (inr tt))

-- each call of the transmitter keeps it
pub call_waits : (old new : Tx) → HoldsSdus old → OwedWaits old → TransmitterCall old new → OwedWaits new
call_waits old new whole was (gives tag sdu number some g) owes =
    let at_end : kept_at new (tx_next old) ≡ Some (record { tag = tag; sdu = sdu; flags = []; retx_count = None }) = ap (λ (t : Tx). kept_at t (tx_next old)) g.is ∙ get_or_push old.kept (Some (record { tag = tag; sdu = sdu; flags = []; retx_count = None })) None (tx_next old) refl in
    inr (inl (tx_next old, ap is_unsent at_end ∙ lt-ltb 0 (length sdu) some))
call_waits old new whole was (grants n (Sent m bytes) s) owes = elim (cases_Bool (s.0).poll) [
  | inl polls ↦ absurd (false≢true (sym (s.2.counters.begins polls).poll_owed ∙ owes))
  | inr quiet ↦ absurd (true≢false (sym (s.2.counters.polled.1 (owed (sym (s.2.counters.counts quiet).poll_owed ∙ owes))) ∙ quiet))
]
call_waits old new whole was (grants n Idle s) owes = subst OwedWaits (sym s.2) was owes
call_waits old new whole was (grants n (Small need) s) owes = subst OwedWaits (sym s.7) was owes
call_waits old new whole was (hears_status s (Acked tags marks) fits x) owes = elim (cases_Bool (x.mid).poll_owed) [
  | inl mid_owes ↦ lowest_waits x.mid x.lowest_marks new (keeps_whole old x.mid (updates_keeps old x.a s x.missing_marks x.mid x.updates) whole) (x.lowest.0 mid_owes)
  | inr free ↦ absurd (false≢true (sym free ∙ sym (ap (λ (t : Tx). t.poll_owed) (x.lowest.1 free).1) ∙ owes))
]
call_waits old new whole was (hears_status s (Old a next) fits x) owes = subst OwedWaits (sym x.4) was owes
call_waits old new whole was (hears_status s (Beyond sn sent) fits x) owes = subst OwedWaits (sym x.3) was owes
call_waits old new whole was (expires_poll marks x) owes = lowest_waits x.mid marks new (subst HoldsSdus (sym x.stopped) whole) x.lowest

-- each event keeps it
waits_each : (old : Hop) (e : Event) (new : Hop) → Reaches old → OwedWaits old.tx → Happens old e new → OwedWaits new.tx
waits_each old e new reached was x = elim (event_calls old e new reached x) [
  | inl call ↦ call_waits old.tx new.tx (reaches_whole old reached) was call
  | inr same ↦ subst OwedWaits (sym same) was
]

-- it holds after every run
pub reaches_waits : (h : Hop) → Reaches h → OwedWaits h.tx
reaches_waits = everywhere (λ h. OwedWaits h.tx) (λ s poll_pdu poll_byte max_retx_threshold owes. absurd (false≢true owes)) waits_each
