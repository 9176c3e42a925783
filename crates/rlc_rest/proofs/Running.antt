-- The transmitter of a hop can go on, after every run.
use Rattle.std.proofs.Common.{◌≡◌, ◌⊎◌, inl, inr, ℕ, refl, sym, subst, arith}
use Rattle.std.proofs.lemmas.Option.{none-some}
use Rattle.link_base.specs.declared.names.SnSize.{SnSize}
use Rattle.rlc_pdu.specs.Amd.{amd_bytes}
use Rattle.rlc_status.specs.Format.{StatusFits}
use Rattle.rlc_model.specs.declared.transmitter.TxGrant.TheVariants.{Sent}
use Rattle.rlc_model.specs.Tx.{Tx}
use Rattle.rlc_law.specs.Hop.{Hop, Event, Happens, gives, sends, makes_status, delivers, acknowledges, expires_poll, expires_reassembly, expires_prohibit, Reaches, start}
use Rattle.rlc_law.proofs.Runs.{everywhere}
use Rattle.rlc_law.proofs.Inductive.{reaches_inv}
use Rattle.rlc_law.specs.Transmitter as calls
use Rattle.rlc_rest.specs.Progress.{HoldsSdus, Progress, Progresses}
use Rattle.rlc_law.specs.Transmitter.{TransmitterCall}
use Rattle.rlc_rest.proofs.Progressing.{each_call}

-- an event is a call of the transmitter with a STATUS that its format can hold, or leaves it as it was
pub event_calls : (old : Hop) (e : Event) (new : Hop) → Reaches old → Happens old e new → TransmitterCall old.tx new.tx ⊎ (new.tx ≡ old.tx)
event_calls old e new reached (gives {tag = tag} {sdu = sdu} number t some small g) = inl (calls.gives tag sdu number some g)
event_calls old e new reached (sends {n = n} m v t s) = inl (calls.grants n (Sent m (amd_bytes old.tx.size v)) (v, refl, s))
event_calls old e new reached (makes_status a s r m) = inr refl
event_calls old e new reached (delivers answer r among fresh hears) = inr refl
event_calls old e new reached (acknowledges {t = t} answer x among fresh hears) =
    let inv = reaches_inv old reached in
    inl (calls.hears_status t.status answer (subst (λ (z : SnSize). StatusFits z t.status) inv.size (inv.statuses t among).fits) hears)
event_calls old e new reached (expires_poll marks t x) = inl (calls.expires_poll marks x)
event_calls old e new reached (expires_reassembly r x) = inr refl
event_calls old e new reached (expires_prohibit r x) = inr refl

-- the transmitter can go on
abbrev CanGoOn : Hop → Type 0
CanGoOn h = HoldsSdus h.tx × Progress h.tx

-- each event keeps that
goes_on_each : (old : Hop) (e : Event) (new : Hop) → Reaches old → CanGoOn old → Happens old e new → CanGoOn new
goes_on_each old e new reached goes x = elim (event_calls old e new reached x) [
  | inl call ↦ each_call old.tx new.tx goes.0 goes.1 call
  | inr same ↦ subst (λ (t : Tx). HoldsSdus t × Progress t) (sym same) goes
]

-- at the start nothing is unconfirmed
starts_going : (s : SnSize) (poll_pdu poll_byte max_retx_threshold : ℕ) → CanGoOn (start s poll_pdu poll_byte max_retx_threshold)
starts_going s poll_pdu poll_byte max_retx_threshold = (λ n k is. absurd (none-some k is), record { some = λ n k is. absurd (none-some k is); polled = λ n sent above. absurd (omega (arith, sent.0)) })

-- SDUs are whole after every run
pub reaches_whole : (h : Hop) → Reaches h → HoldsSdus h.tx
reaches_whole h reached = (everywhere CanGoOn starts_going goes_on_each h reached).0

pub progresses : Progresses
progresses h reached = (everywhere CanGoOn starts_going goes_on_each h reached).1
