-- Each SDU given was handed up, or is still to be.
use Rattle.std.proofs.Common.{◌≡◌, ◌≢◌, inl, inr, ℕ, suc, ◌+◌, false, not, List, [], ◌∷◌, ◌++◌, length, get_or, Some, None, refl, sym, ◌∙◌, ap, arith}
use Rattle.std.specs.List.{Contains}
use Rattle.std.proofs.lemmas.Bool.{cases_eq}
use Rattle.std.proofs.lemmas.List.{length_push}
use Rattle.link_base.specs.declared.rlc_words.Tag.{Tag}
use Rattle.rlc_model.specs.declared.receiver.Heard.{Heard}
use Rattle.rlc_model.specs.declared.receiver.Heard.TheVariants.{Stored, Complete, Repeat, Outside, Conflict}
use Rattle.rlc_model.specs.Air.{IsFresh}
use Rattle.rlc_model.specs.Heard.{Data}
use Rattle.rlc_model.specs.Tx.{Tx, tx_next, Gives}
use Rattle.rlc_model.specs.Rx.{Rx, Got, Done, Part, got, is_done, rx_next, Hears}
use Rattle.rlc_law.specs.Hop.{Hop, Event, Deliver, Happens, gives, sends, makes_status, delivers, acknowledges, expires_poll, expires_reassembly, expires_prohibit, Reaches, completed_after}
use Rattle.rlc_law.proofs.Acknowledge.{expires_keeps}
use Rattle.rlc_law.proofs.Base.{past_highest}
use Rattle.rlc_law.proofs.Inductive.{reaches_inv}
use Rattle.rlc_law.proofs.Lists.{contains_here}
use Rattle.rlc_law.proofs.Runs.{reaches_more, everywhere}
use Rattle.rlc_law.proofs.Safety.{completes_as_given}
use Rattle.rlc_law.proofs.Sized.{status_keeps}
use Rattle.rlc_rest.proofs.Sums.{count_same, count_less}
use Rattle.rlc_rest.specs.Rest.{one_if, count_below, not_up, SdusCounted}

-- what isn't complete doesn't pass for it
not_done : (g : Got) → g ≢ Done → is_done g ≡ false
not_done Done h = absurd (h refl)
not_done (Part held len) h = refl

-- where no number becomes complete, or ceases to be, as many SDUs are not handed up
not_up_same : (t u : Tx) (r s : Rx) → tx_next u ≡ tx_next t → ((n : ℕ) → is_done (got s n) ≡ is_done (got r n)) → not_up u s ≡ not_up t r
not_up_same t u r s long same =
    ap (count_below (λ n. not (is_done (got s n)))) long
    ∙ count_same (λ n. not (is_done (got s n))) (λ n. not (is_done (got r n))) (tx_next t) (λ n lt. ap not (same n))

-- the number of SDUs not handed up
abbrev Counted : Hop → Type 0
Counted h = not_up h.tx h.rx + length h.completed ≡ length h.given

module _ (old : Hop) (reached : Reaches old) (was : Counted old) where
  -- an event that completes nothing and gives nothing
  stays : (t : Tx) (r : Rx) → tx_next t ≡ tx_next old.tx → ((n : ℕ) → is_done (got r n) ≡ is_done (got old.rx n)) → not_up t r + length old.completed ≡ length old.given
  stays t r long same = omega (arith, was, not_up_same old.tx t old.rx r long same)

  same_received : (r : Rx) → r.received ≡ old.rx.received → (n : ℕ) → is_done (got r n) ≡ is_done (got old.rx n)
  same_received r same n = ap (λ (received : List Got). is_done (get_or received n (Part [] None))) same

  -- an SDU is given
  given : (t : Tx) (tag : Tag) (sdu : List ℕ) (number : ℕ) → Gives old.tx tag sdu number t → not_up t old.rx + length old.completed ≡ length (old.given ++ sdu ∷ [])
  given t tag sdu number g =
      let long : tx_next t ≡ suc (tx_next old.tx) = omega (arith, ap tx_next g.is, length_push old.tx.kept (Some (record { tag = tag; sdu = sdu; flags = []; retx_count = None }))) in
      let one : one_if (not (is_done (got old.rx (tx_next old.tx)))) ≡ 1 =
      ap {B = ℕ} (λ (g : Got). one_if (not (is_done g))) (past_highest old.rx (tx_next old.tx) (omega (arith, (reaches_inv old reached).rx.long, (reaches_inv old reached).tx.long))) in
      omega (arith, was, ap (count_below (λ n. not (is_done (got old.rx n)))) long, one, length_push old.given sdu)

  -- a data PDU is heard
  module _ (d : Data) (r : Rx) (among : Contains old.pdus d) (fresh : IsFresh old.rx.size false d.number (rx_next old.rx)) where
    heard : (answer : Heard) → Hears old.rx d.view answer r → not_up old.tx r + length (completed_after answer old.completed) ≡ length old.given
    heard Repeat h = stays old.tx r refl (same_received r (ap (λ (r : Rx). r.received) h.3))
    heard Outside h = stays old.tx r refl (same_received r (ap (λ (r : Rx). r.received) h.1))
    heard Conflict h = stays old.tx r refl (same_received r (ap (λ (r : Rx). r.received) h.4))
    heard Stored h = stays old.tx r refl (λ n. elim (cases_eq n h.0) [
      | inl e ↦ ap is_done (ap (got r) e ∙ h.4.enters.this) ∙ sym (not_done (got old.rx n) (λ done. h.2 (inr (inl (ap (got old.rx) (sym e) ∙ done)))))
      | inr ne ↦ ap is_done (h.4.enters.others n ne)
    ])
    heard (Complete x sdu) h =
        let new = record old { rx = r; completed = record { number = x; sdu = sdu } ∷ old.completed; heard = d ∷ old.heard } in
        let up = completes_as_given new (reaches_more old (Deliver d) new reached (delivers (Complete x sdu) r among fresh h)) (record { number = x; sdu = sdu }) (contains_here _ old.completed) in
        omega (
          arith,
          was,
          count_less (λ n. not (is_done (got r n))) (λ n. not (is_done (got old.rx n))) (tx_next old.tx) x (omega (arith, up.0, (reaches_inv old reached).tx.long))
              (ap (λ (g : Got). not (is_done g)) h.3.enters.this)
              (ap not (not_done (got old.rx x) (λ done. h.1 (inr (inl done)))))
              (λ n ne. ap (λ (g : Got). not (is_done g)) (h.3.enters.others n ne)),
        )

-- each event keeps the count
counted_each : (old : Hop) (e : Event) (new : Hop) → Reaches old → Counted old → Happens old e new → Counted new
counted_each old e new reached was (gives {tag = tag} {sdu = sdu} number t some small g) = given old reached was t tag sdu number g
counted_each old e new reached was (sends m v t s) = stays old reached was t old.rx s.long (λ n. refl)
counted_each old e new reached was (makes_status a s r m) = stays old reached was old.tx r refl (same_received old reached was r (ap (λ (r : Rx). r.received) m.after))
counted_each old e new reached was (delivers {d = d} answer r among fresh hears) = heard old reached was d r among fresh answer hears
counted_each old e new reached was (acknowledges {t = t} answer x among fresh hears) = stays old reached was x old.rx (status_keeps old.tx x t.status answer hears).long (λ n. refl)
counted_each old e new reached was (expires_poll marks t x) = stays old reached was t old.rx (expires_keeps old.tx marks t x).long (λ n. refl)
counted_each old e new reached was (expires_reassembly r x) = stays old reached was old.tx r refl (same_received old reached was r (ap (λ (r : Rx). r.received) x.is))
counted_each old e new reached was (expires_prohibit r x) = stays old reached was old.tx r refl (same_received old reached was r (ap (λ (r : Rx). r.received) x.is))

pub sdus_counted : SdusCounted
sdus_counted = everywhere Counted (λ size poll_pdu poll_byte max_retx_threshold. refl) counted_each
