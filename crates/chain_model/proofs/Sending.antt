-- A transmitter sends all bytes of an SDU in one PDU, and hears a STATUS.
use Rattle.std.proofs.Common.{◌≡◌, ◌≢◌, inl, inr, ℕ, zero, suc, ◌+◌, ◌-◌, ◌<◌, ◌≤◌, min, Bool, true, false, List, [], ◌∷◌, length, get_or, replicate, Option, Some, None, refl, sym, ◌∙◌, subst, arith}
use Rattle.std.proofs.lemmas.Bool.{false≢true}
use Rattle.std.proofs.lemmas.Option.{none-some}
use Rattle.std.proofs.lemmas.List.{length-replicate, get_or_past}
use Rattle.link_base.specs.declared.names.SnSize.TheVariants.{S12}
use Rattle.link_base.specs.declared.rlc_words.Tag.{Tag}
use Rattle.link_base.specs.SequenceNumbers.{Near}
use Rattle.rlc_status.specs.declared.status.Nack.{Nack}
use Rattle.rlc_status.specs.declared.status.Status.{Status}
use Rattle.rlc_status.specs.Says.{IsGreatest, count, Some_has}
use Rattle.rlc_model.specs.Pdu.{piece}
use Rattle.rlc_model.specs.Tx.{Tx, Kept, empty_tx, at, tx_next_ack, is_sent, UnsentWaits, IsBegunCount, HasBeenSent, IsNextOf, Clears, Counters, nothing_waits, Sends}
use Rattle.rlc_model.specs.Retransmission.{IsBeyondAt, IsBeyond, no_number, beyond_at, above, below_zero, past_ack, begins_past, ends_past, not_sent, UpdatesSdu, confirmed_tags, Acknowledges, BeginsPast, EndsPast}
use Rattle.rlc_model.proofs.Checks.{any_pending, any_unsent, none_pending, none_unsent, not_polled, contains_none}

-- an SDU that is kept
abbrev pub kept : Tag → List ℕ → List Bool → Option ℕ → Kept
kept tag sdu flags retx_count = record { tag = tag; sdu = sdu; flags = flags; retx_count = retx_count }

-- a transmitter with the settings that stand where none is given, by what changes
abbrev pub tx_of : List (Option Kept) → ℕ → ℕ → Option ℕ → Bool → Tx
tx_of ks pdus bytes poll_sn runs = record (empty_tx S12 32 0 32) { kept = ks; pdu_without_poll = pdus; byte_without_poll = bytes; poll_sn = poll_sn; poll_retransmit_runs = runs }

-- the flags of an SDU whose bytes were all sent, and of one whose bytes are all pending
abbrev pub all_sent : List ℕ → List Bool
all_sent sdu = replicate (length sdu) false

-- none of these is true
none_true : (n p : ℕ) → get_or (replicate n false) p false ≡ false
none_true zero p = refl
none_true (suc n) zero = refl
none_true (suc n) (suc p) = none_true n p

-- number h is the highest one, and a byte of it was sent
pub begun : (ls : List (Option Kept)) (h : ℕ) → length ls ≡ h + 1 → is_sent (at ls h) ≡ true → IsBegunCount ls (h + 1)
begun ls h long sent = record {
  above = λ n s. omega (arith, s.0, long);
  last = inr
      (subst (HasBeenSent ls) (let same : h ≡ h + 1 - 1 = omega arith in same) (omega (arith, long), sent));
}

-- the SDU k of number m is next as a whole, and ls has it with all bytes sent
module _ (ks ls : List (Option Kept)) (m : ℕ) (k : Kept) (some : 0 < length k.sdu) (few : length k.sdu ≤ 90) (flags : length k.flags ≤ length k.sdu)
    (next : IsNextOf ks m k 0 (length k.sdu))
    (this : at ls m ≡ Some (record k { flags = all_sent k.sdu })) (others : (n : ℕ) → n ≢ m → at ls n ≡ at ks n) (long : length ls ≡ length ks) where
  -- all its flags are false now
  clears : Clears k.flags 0 (length k.sdu) (all_sent k.sdu)
  clears = record {
    long = omega (arith, flags, length-replicate (length k.sdu) false);
    sent = λ p from to. none_true (length k.sdu) p;
    rest = λ p out. none_true (length k.sdu) p ∙ sym (elim out [ inl lt ↦ absurd (omega (arith, lt)) | inr le ↦ get_or_past k.flags p false (omega (arith, le, flags)) ]);
  }

  -- it is sent
  sends : (pdus bytes pdus' bytes' : ℕ) (poll_sn poll_sn' : Option ℕ) (runs runs' poll : Bool)
      → Counters (tx_of ks pdus bytes poll_sn runs) (tx_of ls pdus' bytes' poll_sn' runs') (length k.sdu - length k.flags) poll
      → Sends (tx_of ks pdus bytes poll_sn runs) 100 m (piece S12 m k.sdu 0 (length k.sdu) poll) (tx_of ls pdus' bytes' poll_sn' runs')
  sends pdus bytes pdus' bytes' poll_sn poll_sn' runs runs' poll counters = record {
    kept = k;
    flags = all_sent k.sdu;
    a = 0;
    b = length k.sdu;
    e = length k.sdu;
    next = next;
    fits = omega arith;
    end = omega (arith, few);
    view = refl;
    clears = clears;
    this = this;
    others = others;
    long = long;
    same = record { size = refl; poll_pdu = refl; poll_byte = refl; max_retx_threshold = refl };
    counters = counters;
  }

  -- with a poll, where nothing waits then
  pub sends_last : (pdus bytes h : ℕ) (poll_sn : Option ℕ) (runs : Bool) → any_unsent ls ≡ false → any_pending ls ≡ false → IsBegunCount ls (h + 1)
      → Sends (tx_of ks pdus bytes poll_sn runs) 100 m (piece S12 m k.sdu 0 (length k.sdu) true) (tx_of ls 0 0 (Some h) true)
  sends_last pdus bytes h poll_sn runs none_u none_p highest = sends pdus bytes 0 0 poll_sn (Some h) runs true true (record {
    polled = (λ e. nothing_waits (none_unsent (tx_of ls 0 0 (Some h) true) none_u) (none_pending (tx_of ls 0 0 (Some h) true) none_p), λ p. refl);
    begins = λ e. record { pdu_without_poll = refl; byte_without_poll = refl; poll_owed = refl; runs = refl; highest = h; poll_sn = refl; is_highest = highest };
    counts = λ e. absurd (false≢true (sym e));
  })

  -- without one, where another SDU waits
  pub sends_one : (pdus bytes pdus' bytes' : ℕ) (poll_sn : Option ℕ) (runs : Bool) → pdus ≤ 30 → pdus' ≡ pdus + min (length k.sdu - length k.flags) 1
      → bytes' ≡ bytes + (length k.sdu - length k.flags)
      → UnsentWaits (tx_of ls pdus' bytes' poll_sn runs)
      → Sends (tx_of ks pdus bytes poll_sn runs) 100 m (piece S12 m k.sdu 0 (length k.sdu) false) (tx_of ls pdus' bytes' poll_sn runs)
  sends_one pdus bytes pdus' bytes' poll_sn runs low one more waits = sends pdus bytes pdus' bytes' poll_sn poll_sn runs runs false (record {
    polled = (
      λ e. absurd (false≢true e),
      λ p. absurd
          (not_polled (tx_of ks pdus bytes poll_sn runs) (tx_of ls pdus' bytes' poll_sn runs) (length k.sdu - length k.flags) refl low refl refl waits p),
    );
    begins = λ e. absurd (false≢true e);
    counts = λ e. record { pdu_without_poll = one; byte_without_poll = more; poll_owed = refl; runs = refl; poll_sn = refl };
  })

-- the elements speak of whole numbers below a
abbrev pub EachIsBelow : ℕ → List Nack → Type 0
EachIsBelow a [] = Unit {0}
EachIsBelow a (nack ∷ nacks) = (nack.part ≡ None) × ((m : ℕ) × IsGreatest S12 a nack.sn m × (m + count nack ≤ a)) × EachIsBelow a nacks

-- what none of them has, not one of them has
has_none : (P : Nack → Type 0) (a : ℕ) (nacks : List Nack) → EachIsBelow a nacks
    → ((nack : Nack) → nack.part ≡ None → ((m : ℕ) × IsGreatest S12 a nack.sn m × (m + count nack ≤ a)) → P nack → ⊥) → Some_has P nacks → ⊥
has_none P a [] each none has = has
has_none P a (nack ∷ nacks) each none (inl has) = none nack each.0 each.1 has
has_none P a (nack ∷ nacks) each none (inr has) = has_none P a nacks each.2 none has

-- the transmitter has sent all bytes of all SDUs up to the number h, and has the STATUS of such elements whose ACK_SN stands for h + 1
module _ (ks : List (Option Kept)) (h : ℕ) (status : Status) (near : Near S12 status.ack (tx_next_ack (tx_of ks 0 0 (Some h) true) + 1) (h + 1))
    (current : tx_next_ack (tx_of ks 0 0 (Some h) true) ≤ h + 1)
    (all : any_unsent ks ≡ false) (sent : HasBeenSent ks h) (each : EachIsBelow (h + 1) status.nacks) where
  -- the transmitter
  abbrev old : Tx
  old = tx_of ks 0 0 (Some h) true

  -- it is not beyond what was sent
  not_beyond : IsBeyond old status → ⊥
  not_beyond (no_number none) = none (h + 1) near
  not_beyond (beyond_at a its beyond) = go a (let same : a ≡ h + 1 = omega (arith, its.same, its.low, its.high, near.same, near.low, near.high) in same) beyond
    where
      go : (a : ℕ) → a ≡ h + 1 → IsBeyondAt old status a → ⊥
      go a same (above c is lt) = omega (arith, is.above h sent, lt, same)
      go a same (below_zero has) = has_none (λ e. (m : ℕ) → IsGreatest S12 a e.sn m → ⊥) (h + 1) status.nacks each
          (λ nack part its none. none its.0 (subst (λ b. IsGreatest S12 b nack.sn its.0) (sym same) its.1)) has
      go a same (past_ack has) = has_none (λ e. (m : ℕ) × IsGreatest S12 a e.sn m × (a < m + count e)) (h + 1) status.nacks each
          (λ nack part its past. omega (arith, same, its.1.same, its.1.below, its.1.last, its.2, past.1.same, past.1.below, past.1.last, past.2)) has
      go a same (begins_past has) = has_none (BeginsPast S12 ks a) (h + 1) status.nacks each (λ nack part its past. none-some (past.start, past.end) (sym part ∙ past.part)) has
      go a same (ends_past has) = has_none (EndsPast S12 ks a) (h + 1) status.nacks each (λ nack part its past. none-some (past.start, past.end) (sym part ∙ past.part)) has
      go a same (not_sent n says is) = none_unsent old all (n, is)

  -- so it is carried out, without a mark
  pub acknowledges : (ls : List (Option Kept)) (tags : List Tag) → tags ≡ confirmed_tags ks ls → length ls ≡ length ks
      → ((n : ℕ) → UpdatesSdu old (h + 1) status n [] (at ls n)) → Acknowledges old status tags [] (tx_of ls 0 0 (Some h) false)
  acknowledges ls tags its_tags long updates = record {
    fine = not_beyond;
    a = h + 1;
    ack = near;
    current = current;
    its_tags = its_tags;
    mid = tx_of ls 0 0 (Some h) false;
    missing_marks = [];
    lowest_marks = [];
    its_marks = refl;
    updates = record {
      each = updates;
      marks_only = λ n c. absurd (contains_none n c);
      marks_rise = λ k lt. absurd (omega (arith, lt));
      long = long;
      same = record { size = refl; poll_pdu = refl; poll_byte = refl; max_retx_threshold = refl };
      pdu_without_poll = refl;
      byte_without_poll = refl;
      poll_owed = refl;
      poll_sn = refl;
      timer = inl (h, refl, omega arith, refl);
    };
    lowest = (λ e. absurd (false≢true e), λ e. (refl, refl));
  }
