-- What each event keeps of a hop: the sizes of its numbers, and the PDUs that it has made.
use Rattle.std.proofs.Common.{◌≡◌, refl, sym, ap, subst}
use Rattle.std.specs.List.{Contains}
use Rattle.rlc_pdu.specs.Amd.{Amd}
use Rattle.rlc_status.specs.declared.status.Status.{Status}
use Rattle.rlc_model.specs.Heard.{Data}
use Rattle.rlc_model.specs.declared.receiver.Heard.{Heard}
use Rattle.rlc_model.specs.declared.receiver.Heard.TheVariants.{Stored, Complete, Repeat, Outside, Conflict}
use Rattle.rlc_model.specs.declared.transmitter.StatusHeard.{StatusHeard}
use Rattle.rlc_model.specs.declared.transmitter.StatusHeard.TheVariants.{Acked, Old, Beyond}
use Rattle.rlc_model.specs.Tx.{Tx}
use Rattle.rlc_model.specs.Retransmission.{HearsStatus}
use Rattle.rlc_model.specs.Rx.{Rx, Hears}
use Rattle.rlc_law.specs.Hop.{Hop, StatusMade, Event, Happens, gives, sends, makes_status, delivers, acknowledges, expires_poll, expires_reassembly, expires_prohibit}
use Rattle.rlc_law.proofs.Lists.{contains_later}
use Rattle.rlc_law.proofs.Acknowledge.{Keeps, acks_keeps, expires_keeps}

-- hearing a data PDU keeps the size
pub hears_size : (old new : Rx) (v : Amd) (answer : Heard) → Hears old v answer new → new.size ≡ old.size
hears_size old new v Stored hears = hears.4.size
hears_size old new v (Complete x sdu) hears = hears.3.size
hears_size old new v Repeat hears = ap (λ (r : Rx). r.size) hears.3
hears_size old new v Outside hears = ap (λ (r : Rx). r.size) hears.1
hears_size old new v Conflict hears = ap (λ (r : Rx). r.size) hears.4

-- hearing a STATUS keeps the SDUs, but for those that it confirms
pub status_keeps : (old new : Tx) (s : Status) (answer : StatusHeard) → HearsStatus old s answer new → Keeps old new
status_keeps old new s (Acked tags marks) hears = acks_keeps old new s tags marks hears
status_keeps old new s (Old a next) hears = subst (Keeps old) (sym hears.4) (record { size = refl; long = refl; from = λ n k is. (k, is, refl, refl) })
status_keeps old new s (Beyond ack sent) hears = subst (Keeps old) (sym hears.3) (record { size = refl; long = refl; from = λ n k is. (k, is, refl, refl) })

-- the sizes are the same, and what was made stays made
pub record Grown (old new : Hop) : Type 0 where
  pub tx_size : new.tx.size ≡ old.tx.size
  pub rx_size : new.rx.size ≡ old.rx.size
  pub pdus : (d : Data) → Contains old.pdus d → Contains new.pdus d
  pub statuses : (t : StatusMade) → Contains old.statuses t → Contains new.statuses t

pub happens_grown : (old : Hop) (e : Event) (new : Hop) → Happens old e new → Grown old new
happens_grown old e new (gives number t some small g) = record { tx_size = ap (λ (t : Tx). t.size) g.is; rx_size = refl; pdus = λ d a. a; statuses = λ t a. a }
happens_grown old e new (sends m v t s) = record { tx_size = s.same.size; rx_size = refl; pdus = λ d a. contains_later (record { number = m; view = v }) old.pdus d a; statuses = λ t a. a }
happens_grown old e new (makes_status n s r m) = record { tx_size = refl; rx_size = ap (λ (r : Rx). r.size) m.after; pdus = λ d a. a; statuses = λ t a. contains_later (record { ack = n; status = s }) old.statuses t a }
happens_grown old e new (delivers {d = d} answer r among fresh hears) = record { tx_size = refl; rx_size = hears_size old.rx r d.view answer hears; pdus = λ d a. a; statuses = λ t a. a }
happens_grown old e new (acknowledges {t = t} answer x among fresh hears) = record { tx_size = (status_keeps old.tx x t.status answer hears).size; rx_size = refl; pdus = λ d a. a; statuses = λ t a. a }
happens_grown old e new (expires_poll marks t x) = record { tx_size = (expires_keeps old.tx marks t x).size; rx_size = refl; pdus = λ d a. a; statuses = λ t a. a }
happens_grown old e new (expires_reassembly r x) = record { tx_size = refl; rx_size = ap (λ (r : Rx). r.size) x.is; pdus = λ d a. a; statuses = λ t a. a }
happens_grown old e new (expires_prohibit r x) = record { tx_size = refl; rx_size = ap (λ (r : Rx). r.size) x.is; pdus = λ d a. a; statuses = λ t a. a }
