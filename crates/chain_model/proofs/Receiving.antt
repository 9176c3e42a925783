-- A receiver hears all bytes of an SDU in one PDU.
use Rattle.std.proofs.Common.{◌≡◌, ◌≢◌, ◌⊎◌, inl, inr, ℕ, zero, suc, ◌+◌, ◌-◌, ◌*◌, ◌<◌, ◌≤◌, Bool, true, false, nat_lt, List, [], ◌∷◌, length, get_or, slice_get, Option, Some, None, refl, sym, ◌∙◌, ap, subst, arith, le-ltb}
use Rattle.std.specs.List.{Contains}
use Rattle.std.specs.List.Sorted.{IsStrictlyIncreasing}
use Rattle.std.proofs.lemmas.Bool.{false≢true, cond-false}
use Rattle.std.proofs.lemmas.Option.{none-some, slice_get-get_or}
use Rattle.link_base.specs.declared.names.SnSize.TheVariants.{S12}
use Rattle.link_base.specs.SequenceNumbers.{Near}
use Rattle.rlc_pdu.specs.declared.amd.Si.TheVariants.{Whole}
use Rattle.rlc_pdu.specs.Amd.{Amd, flag, AmdFits, IsAmd}
use Rattle.rlc_model.specs.declared.receiver.Heard.TheVariants.{Complete}
use Rattle.rlc_model.specs.Pdu.{byte_at}
use Rattle.rlc_model.specs.Rx.{Rx, Got, Done, Part, empty_rx, got, held_at, rx_next, rx_next_highest, IsRepeat, IsConflict, other_length, held_past, past_length, no_last, Places, Enters, rests, Reassembles, Polls, Hears}
use Rattle.rlc_model.specs.Hop.{IsControl}
use Rattle.rlc_model.specs.Numbers.{IsFirst}
use Rattle.rlc_model.specs.Made.{WritesStatus, IsMissing, all}
use Rattle.rlc_status.specs.declared.status.Status.{Status}
use Rattle.rlc_model.proofs.Checks.{part_not_done, contains_none}

-- a whole SDU of a number in a PDU
abbrev pub whole : ℕ → Bool → List ℕ → Amd
whole number poll sdu = record { sn = number; poll = poll; si = Whole; so = 0; body = sdu }

-- its octets
abbrev pub octets : ℕ → Bool → List ℕ → List ℕ
octets number poll sdu = (128 + 64 * flag poll) ∷ number ∷ sdu

-- the format can hold it
fits : (number : ℕ) (poll : Bool) (sdu : List ℕ) → number < 256 → 0 < length sdu → length sdu ≤ 90 → AmdFits S12 (whole number poll sdu)
fits number poll sdu low some few = record { sn = omega (arith, low); offset = refl; some = omega (arith, some); end = omega (arith, few) }

-- the octets spell it
pub spelt : (number : ℕ) (poll : Bool) (sdu : List ℕ) → number < 256 → 0 < length sdu → length sdu ≤ 90 → IsAmd S12 (whole number poll sdu) (octets number poll sdu)
spelt number true sdu low some few = record { fits = fits number true sdu low some few; dc = refl; poll = refl; si = refl; sn = omega arith; so = refl; body = refl }
spelt number false sdu low some few = record { fits = fits number false sdu low some few; dc = refl; poll = refl; si = refl; sn = omega arith; so = refl; body = refl }

-- and are no control PDU
pub not_control : (number : ℕ) (poll : Bool) (sdu : List ℕ) → IsControl (octets number poll sdu) → ⊥
not_control number true sdu c = omega (arith, c.dc)
not_control number false sdu c = omega (arith, c.dc)

-- all bytes of an SDU, as they are held
abbrev pub held : List ℕ → List (Option ℕ)
held [] = []
held (b ∷ bs) = Some b ∷ held bs

-- the byte at a place is the one of the SDU
held_is : (sdu : List ℕ) (p : ℕ) → get_or (held sdu) p None ≡ slice_get sdu p
held_is [] p = refl
held_is (b ∷ bs) zero = refl
held_is (b ∷ bs) (suc p) = held_is bs p

-- nothing is got
abbrev pub missing : Got
missing = Part [] None

-- a poll of a PDU is due, and no poll was delayed
pub polls_now : (old new : Rx) (x : ℕ) → old.delayed_polls ≡ [] → new.delayed_polls ≡ [] → new.status_triggered ≡ true → x < new.rx_highest_status → Polls old x true new
polls_now old new x before behind triggered low = record {
  triggers = (λ e. inr (inl (refl, inl low)), λ why. triggered);
  delays = λ k. (
    λ c. absurd (contains_none k (subst (λ (ks : List ℕ). Contains ks k) behind c)),
    λ h. elim h.0 [ inl c ↦ absurd (contains_none k (subst (λ (ks : List ℕ). Contains ks k) before c)) | inr p ↦ absurd (h.1 (inl (omega (arith, p.1, low)))) ],
  );
  rises = subst (λ (ks : List ℕ). IsStrictlyIncreasing ks) (sym behind) (λ k lt. absurd (omega (arith, lt)));
}

-- t-Reassembly doesn't run, and doesn't start where no number is missing
pub still_rests : (new : Rx) → new.rx_next_status_trigger ≡ None → rx_next_highest new ≤ rx_next new → Reassembles None new
still_rests new none done = rests (λ t is runs. none-some t is) (λ w. elim w [ inl lt ↦ omega (arith, lt, done) | inr e ↦ omega (arith, e.0, done) ]) none

-- an SDU comes whole of which nothing is got yet
module _ (old : Rx) (x : ℕ) (poll : Bool) (sdu : List ℕ) (some : 0 < length sdu) (size : old.size ≡ S12) (from : rx_next old ≤ x) (low : x < 2048)
    (none : got old x ≡ missing) where
  -- all its bytes are held
  bytes : (p : ℕ) → get_or (held sdu) p None ≡ byte_at (whole x poll sdu) p
  bytes p = held_is sdu p ∙ ap (slice_get sdu) (let same : p ≡ p - 0 = omega arith in same) ∙ sym
      (cond-false (nat_lt p 0) None (slice_get sdu (p - 0)) (le-ltb p 0 (omega arith)))

  -- so it is placed
  places : Places missing (whole x poll sdu) (held sdu) (Some (length sdu))
  places = record { bytes = bytes; its_length = ap (λ (n : ℕ). Some n) (let same : length sdu ≡ 0 + length sdu = omega arith in same) }

  -- it is new
  is_fresh : IsRepeat old x (whole x poll sdu) → ⊥
  is_fresh (inl below) = omega (arith, below, from)
  is_fresh (inr (inl done)) = part_not_done [] None (sym none ∙ done)
  is_fresh (inr (inr full)) = full.0 0 (omega arith) (omega (arith, some)) (ap (λ (g : Got). held_at g 0) none)

  -- it disagrees with nothing
  agrees : IsConflict missing (whole x poll sdu) → ⊥
  agrees (other_length l ends is ne) = none-some l is
  agrees (held_past p ends past h) = h refl
  agrees (past_length l is past) = none-some l is
  agrees (no_last goes is) = false≢true (sym goes)

  -- so it is complete
  pub hears_whole : (new : Rx) → Enters old x Done new
      → ((x ≡ old.rx_highest_status) × IsFirst (λ n. got new n ≢ Done) (x + 1) new.rx_highest_status) ⊎
      ((x ≢ old.rx_highest_status) × (new.rx_highest_status ≡ old.rx_highest_status))
      → new.size ≡ old.size → new.status_prohibit_runs ≡ old.status_prohibit_runs → Reassembles old.rx_next_status_trigger new → Polls old x poll new
      → Hears old (whole x poll sdu) (Complete x sdu) new
  hears_whole new enters highest_status its_size prohibit reassembly polls = (
    subst (λ z. Near z x (rx_next old) x) (sym size) (record { same = omega (arith, low); low = omega (arith, from); high = omega (arith, low) }),
    is_fresh,
    λ c. agrees (subst (λ g. IsConflict g (whole x poll sdu)) none c),
    record {
      held = held sdu;
      len = Some (length sdu);
      places = subst (λ g. Places g (whole x poll sdu) (held sdu) (Some (length sdu))) (sym none) places;
      covers = record { known = refl; bytes = λ p lt. held_is sdu p ∙ slice_get-get_or sdu p 0 lt };
      enters = enters;
      highest_status = highest_status;
      size = its_size;
      prohibit = prohibit;
      reassembly = reassembly;
      polls = polls;
    },
  )

-- a receiver that has heard one SDU, with a poll
abbrev pub heard : Rx
heard = record (empty_rx S12) { received = Done ∷ []; rx_highest_status = 1; status_triggered = true }

-- the first SDU is heard
pub hears_first : (sdu : List ℕ) → 0 < length sdu → Hears (empty_rx S12) (whole 0 true sdu) (Complete 0 sdu) heard
hears_first sdu some = hears_whole (empty_rx S12) 0 true sdu some refl (omega arith) (omega arith) refl heard
    (record { this = refl; others = others; long = refl })
    (inl (refl, record { from = omega arith; has = part_not_done [] None; none = λ n low high. absurd (omega arith) }))
    refl refl (still_rests heard refl (omega arith)) (polls_now (empty_rx S12) heard 0 refl refl refl (omega arith))
  where
    others : (n : ℕ) → n ≢ 0 → got heard n ≡ got (empty_rx S12) n
    others zero ne = absurd (ne refl)
    others (suc n) ne = refl

-- the STATUS that answers the poll, and the receiver once it was made
abbrev pub confirms : Status
confirms = record { ack = 1; nacks = [] }

abbrev pub told : Rx
told = record heard { status_triggered = false; status_prohibit_runs = true }

-- it is made
pub makes_status : WritesStatus heard 100 1 confirms told
makes_status = record { due = refl; room = omega arith; ack = refl; writes = all (λ n past m. none_missing n m); after = refl }
  where
    none_missing : (n : ℕ) → IsMissing heard n → ⊥
    none_missing zero m = m.1 refl
    none_missing (suc n) m = omega (arith, m.0)
