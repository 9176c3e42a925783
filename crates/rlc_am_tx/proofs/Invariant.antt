-- What holds of a transmitter, call by call.
use Rattle.std.proofs.Common.{◌≡◌, inl, inr, ℕ, ◌+◌, ◌-◌, ◌<◌, ◌≤◌, true, false, List, [], ◌∷◌, ◌++◌, length, is_some, Option, Some, None, zero, suc, refl, sym, ◌∙◌, ap, subst, arith}
use Rattle.std.specs.Option.{is_none, option_to_list}
use Rattle.std.specs.List.{prefix_len}
use Rattle.std.proofs.lemmas.Bool.{cases_eq, false≢true, false_from_ne_true}
use Rattle.std.proofs.lemmas.List.{length_push, append-nil}
use Rattle.std.proofs.lemmas.List.Sums.{sum_by-append}
use Rattle.std.proofs.lemmas.Option.{none-some}
use Rattle.link_base.specs.declared.names.SnSize.{SnSize}
use Rattle.link_base.specs.declared.names.SnSize.TheVariants.{S12, S18}
use Rattle.link_base.specs.declared.rlc_words.Tag.{Tag}
use Rattle.link_base.specs.SequenceNumbers.{window, Near}
use Rattle.rlc_status.specs.declared.status.Status.{Status}
use Rattle.rlc_status.specs.Format.{StatusFits}
use Rattle.rlc_model.specs.declared.transmitter.TxGrant.TheVariants.{Sent}
use Rattle.rlc_model.specs.declared.transmitter.StatusHeard.TheVariants.{Acked}
use Rattle.rlc_model.specs.Tx.{Tx, Kept, at, is_pending, is_unsent, empty_tx, tx_next, tx_next_ack, room, header}
use Rattle.rlc_model.specs.Retransmission.{IsBeyondAt, IsBeyond, UpdatesKept, Updates, RetransmitsLowest, HearsStatus, confirmed_tags}
use Rattle.rlc_law.specs.Transmitter.{TransmitterCall, gives, grants, hears_status, expires_poll}
use Rattle.rlc_rest.proofs.Progressing.{each_call}
use Rattle.rlc_am_tx.specs.declared.pieces.Piece.{Piece}
use Rattle.rlc_am_tx.specs.declared.polling.Polling.{Polling}
use Rattle.rlc_am_tx.specs.Acknowledging.{UpdatesAll}
use Rattle.rlc_am_tx.specs.Buffer.{NonePending, NoneUnsent, most_sent, all_sent}
use Rattle.rlc_am_tx.specs.Pieces.{IsNextPiece}
use Rattle.rlc_am_tx.specs.Polling.{StopsBelow, stops, runs_on, tx_with, expired}
use Rattle.rlc_am_tx.specs.Sending.{SendsPiece}
use Rattle.rlc_am_tx.specs.Transmitter.{IsTransmitter}
use Rattle.rlc_am_tx.proofs.Acked.{prefix_grows}
use Rattle.rlc_am_tx.proofs.Numbers.{given, more_sent}
use Rattle.rlc_am_tx.proofs.Retransmitted.{lowest_front}
use Rattle.rlc_am_tx.proofs.Sent.{grant_sends}

-- it holds behind a call
call_invariant : (old new : Tx) → IsTransmitter old → TransmitterCall old new → tx_next new ≤ tx_next_ack new + window new.size → new.pdu_without_poll ≤ new.byte_without_poll → new.byte_without_poll ≤ all_sent new.kept → IsTransmitter new
call_invariant old new g call within pdus bytes = let w = each_call old new g.whole g.progress call in record { within = within; pdus = pdus; bytes = bytes; whole = w.0; progress = w.1 }

-- one that was given nothing
pub new_invariant : (size : SnSize) (poll_pdu poll_byte threshold : ℕ) → IsTransmitter (empty_tx size poll_pdu poll_byte threshold)
new_invariant size poll_pdu poll_byte threshold = record {
  within = omega arith;
  pdus = omega arith;
  bytes = omega arith;
  whole = λ n k is. absurd (none-some k is);
  progress = record {
    some = λ n k is. absurd (none-some k is);
    polled = λ n sent above. absurd (omega (arith, sent.0));
  };
}

-- a list has no fewer confirmed numbers in front once one more is behind it
front_grows : (l : List (Option Kept)) (x : Option Kept) → prefix_len is_none l ≤ prefix_len is_none (l ++ x ∷ [])
front_grows [] x = omega arith
front_grows (None ∷ l) x = omega (arith, front_grows l x)
front_grows (Some k ∷ l) x = omega arith

-- one that is given an SDU
pub give_invariant : (t : Tx) (tag : Tag) (sdu : List ℕ) → IsTransmitter t → 0 < room t → 0 < length sdu → IsTransmitter (record t { kept = t.kept ++ Some (record { tag = tag; sdu = sdu; flags = []; retx_count = None }) ∷ [] })
give_invariant t tag sdu g some full =
    let k : Kept = record { tag = tag; sdu = sdu; flags = []; retx_count = None } in
    let new = record t { kept = t.kept ++ Some k ∷ [] } in
    call_invariant t new g (gives tag sdu (tx_next t) full (record { has_room = some; its_number = refl; is = refl }))
    (omega (arith, length_push t.kept (Some k), front_grows t.kept (Some k), some))
    g.pdus
    (omega (arith, g.bytes, sum_by-append most_sent t.kept (Some k ∷ [])))

-- no fewer bytes were sent where the lowest SDU is considered for retransmission
lowest_sent : (t : Tx) (marks : List ℕ) (new : Tx) → RetransmitsLowest t marks new → all_sent t.kept ≤ all_sent new.kept
lowest_sent t marks new (RetransmitsLowest.stays why none same) = omega (arith, ap (λ (x : Tx). all_sent x.kept) same)
lowest_sent t marks new (RetransmitsLowest.retransmits r) = more_sent t.kept new.kept r.long (λ n lt. elim (cases_eq n (tx_next_ack t)) [
  | inl eq ↦ omega (arith, ap (λ m. most_sent (at t.kept m)) eq, ap (λ m. most_sent (at new.kept m)) eq, ap most_sent r.was, ap most_sent r.is, r.becomes.long)
  | inr ne ↦ omega (arith, ap most_sent (r.others n ne))
])

-- one whose t-PollRetransmit runs out
pub expire_invariant : (size : SnSize) (threshold : ℕ) (l l' : List (Option Kept)) (p : Polling) (marks : List ℕ) → IsTransmitter (tx_with size threshold l p) → p.poll_retransmit_runs ≡ true → RetransmitsLowest (tx_with size threshold l (expired p)) marks (tx_with size threshold l' (expired p)) → IsTransmitter (tx_with size threshold l' (expired p))
expire_invariant size threshold l l' p marks g runs r =
    let old = tx_with size threshold l p in
    let mid = tx_with size threshold l (expired p) in
    let new = tx_with size threshold l' (expired p) in
    let front = lowest_front mid marks new r in
    call_invariant old new g (expires_poll marks (record { runs = runs; mid = mid; stopped = refl; lowest = r }))
    (omega (arith, front.0, front.1, g.within)) g.pdus (omega (arith, g.bytes, lowest_sent mid marks new r))

-- one that sends a piece
pub send_invariant : (old : Tx) (piece : Piece) (end : ℕ) (bytes : List ℕ) (new : Tx) → IsTransmitter old → IsNextPiece old.kept piece → piece.from < end → end ≤ piece.to → SendsPiece old piece end bytes new → tx_next new ≤ tx_next_ack new + window new.size → new.pdu_without_poll ≤ new.byte_without_poll → new.byte_without_poll ≤ all_sent new.kept → IsTransmitter new
send_invariant old piece end bytes new g next some within s =
    call_invariant old new g (grants (header old.size piece.from + (end - piece.from)) (Sent piece.number bytes) (grant_sends old piece end (header old.size piece.from + (end - piece.from)) bytes new next (omega (arith, some)) (omega (arith, some, within)) s))

-- the same tags are missing where SDUs are in the same places
new_same : (xs ys zs : List (Option Kept)) → length ys ≡ length zs → ((n : ℕ) → is_none (at ys n) ≡ is_none (at zs n)) → confirmed_tags xs ys ≡ confirmed_tags xs zs
new_same [] ys zs long same = refl
new_same (x ∷ xs) [] [] long same = refl
new_same (x ∷ xs) [] (z ∷ zs) long same = absurd (omega (arith, long))
new_same (x ∷ xs) (y ∷ ys) [] long same = absurd (omega (arith, long))
new_same (None ∷ xs) (y ∷ ys) (z ∷ zs) long same = new_same xs ys zs (omega (arith, long)) (λ n. same (suc n))
new_same (Some k ∷ xs) (None ∷ ys) (None ∷ zs) long same = ap (λ (l : List Tag). k.tag ∷ l) (new_same xs ys zs (omega (arith, long)) (λ n. same (suc n)))
new_same (Some k ∷ xs) (None ∷ ys) (Some z ∷ zs) long same = absurd (false≢true (sym (same zero)))
new_same (Some k ∷ xs) (Some y ∷ ys) (None ∷ zs) long same = absurd (false≢true (same zero))
new_same (Some k ∷ xs) (Some y ∷ ys) (Some z ∷ zs) long same = new_same xs ys zs (omega (arith, long)) (λ n. same (suc n))

-- SDUs are in the same places behind the lowest one's retransmission
lowest_none : (t : Tx) (marks : List ℕ) (new : Tx) → RetransmitsLowest t marks new → (n : ℕ) → is_none (at t.kept n) ≡ is_none (at new.kept n)
lowest_none t marks new (RetransmitsLowest.stays why none same) n = sym (ap (λ (x : Tx). is_none (at x.kept n)) same)
lowest_none t marks new (RetransmitsLowest.retransmits r) n = elim (cases_eq n (tx_next_ack t)) [
  | inl eq ↦ ap (λ m. is_none (at t.kept m)) eq ∙ ap is_none r.was ∙ sym (ap is_none r.is) ∙ sym (ap (λ m. is_none (at new.kept m)) eq)
  | inr ne ↦ sym (ap is_none (r.others n ne))
]

module _ (size : SnSize) (threshold : ℕ) (l l' : List (Option Kept)) (p p' : Polling) (ack : ℕ) (s : Status) (tags : List Tag) (marks : List ℕ) (u : UpdatesAll size threshold ack s l tags marks l') (stop : StopsBelow p ack p') where
  abbrev old : Tx
  old = tx_with size threshold l p

  abbrev mid : Tx
  mid = tx_with size threshold l' p'

  pub mid_updates : Updates old ack s marks mid
  mid_updates = elim stop [
    | stops h is lt eq ↦ subst (λ (x : Polling). Updates old ack s marks (tx_with size threshold l' x)) (sym eq) (record {
      each = u.each;
      marks_only = u.marks_only;
      marks_rise = u.marks_rise;
      long = u.long;
      same = record { size = refl; poll_pdu = refl; poll_byte = refl; max_retx_threshold = refl };
      pdu_without_poll = refl;
      byte_without_poll = refl;
      poll_owed = refl;
      poll_sn = refl;
      timer = inl (h, is, lt, refl);
    })
    | runs_on none eq ↦ subst (λ (x : Polling). Updates old ack s marks (tx_with size threshold l' x)) (sym eq) (record {
      each = u.each;
      marks_only = u.marks_only;
      marks_rise = u.marks_rise;
      long = u.long;
      same = record { size = refl; poll_pdu = refl; poll_byte = refl; max_retx_threshold = refl };
      pdu_without_poll = refl;
      byte_without_poll = refl;
      poll_owed = refl;
      poll_sn = refl;
      timer = inr (none, refl);
    })
  ]

  none_stays : (n : ℕ) → at l n ≡ None → at l' n ≡ None
  none_stays n none = go (u.each n)
    where
      go : UpdatesKept size threshold ack s n marks (at l n) (at l' n) → at l' n ≡ None
      go (UpdatesKept.confirmed k was says is) = is
      go (UpdatesKept.missing k k' was lt names is b) = absurd (none-some k (sym none ∙ was))
      go (UpdatesKept.rest why is) = is ∙ none

  module _ (fine : IsBeyond old s → ⊥) (near : Near size s.ack (tx_next_ack old + 1) ack) (current : tx_next_ack old ≤ ack) where
    -- no poll is owed
    pub stay_hears : p'.poll_owed ≡ false → HearsStatus old s (Acked tags marks) mid
    stay_hears owed = record {
      fine = fine;
      a = ack;
      ack = near;
      current = current;
      its_tags = u.its_tags;
      mid = mid;
      missing_marks = marks;
      lowest_marks = [];
      its_marks = sym (append-nil marks);
      updates = mid_updates;
      lowest = (λ is. absurd (false≢true (sym owed ∙ is)), λ is. (refl, refl));
    }

    -- one is, and the lowest SDU is considered
    pub lowest_hears : (l2 : List (Option Kept)) (lowest : List ℕ) → p'.poll_owed ≡ true → RetransmitsLowest mid lowest (tx_with size threshold l2 p') → HearsStatus old s (Acked tags (marks ++ lowest)) (tx_with size threshold l2 p')
    lowest_hears l2 lowest owed r = record {
      fine = fine;
      a = ack;
      ack = near;
      current = current;
      its_tags = u.its_tags ∙ new_same l l' l2 (sym (lowest_front mid lowest (tx_with size threshold l2 p') r).0) (lowest_none mid lowest (tx_with size threshold l2 p') r);
      mid = mid;
      missing_marks = marks;
      lowest_marks = lowest;
      its_marks = refl;
      updates = mid_updates;
      lowest = (λ is. r, λ is. absurd (false≢true (sym is ∙ owed)));
    }

  module _ (g : IsTransmitter old) (sent : all_sent l ≤ all_sent l') (fits : StatusFits size s) where
    pub stay_invariant : HearsStatus old s (Acked tags marks) mid → IsTransmitter mid
    stay_invariant h = call_invariant old mid g (hears_status s (Acked tags marks) fits h)
        (omega (arith, u.long, g.within, prefix_grows l l' u.long none_stays))
        (omega (arith, g.pdus, mid_updates.pdu_without_poll, mid_updates.byte_without_poll))
        (omega (arith, g.bytes, mid_updates.byte_without_poll, sent))

    pub lowest_invariant : (l2 : List (Option Kept)) (lowest all : List ℕ) → RetransmitsLowest mid lowest (tx_with size threshold l2 p') → HearsStatus old s (Acked tags all) (tx_with size threshold l2 p') → IsTransmitter (tx_with size threshold l2 p')
    lowest_invariant l2 lowest all r h =
        let new = tx_with size threshold l2 p' in
        let front = lowest_front mid lowest new r in
        call_invariant old new g (hears_status s (Acked tags all) fits h)
        (omega (arith, front.0, front.1, u.long, g.within, prefix_grows l l' u.long none_stays))
        (omega (arith, g.pdus, mid_updates.pdu_without_poll, mid_updates.byte_without_poll))
        (omega (arith, g.bytes, mid_updates.byte_without_poll, sent, lowest_sent mid lowest new r))

-- where the lowest SDU is a mark nothing waited
pub mark_idle : (t : Tx) (mark : Option ℕ) (new : Tx) → RetransmitsLowest t (option_to_list mark) new → is_some mark ≡ true → NonePending t.kept × NoneUnsent t.kept × (prefix_len is_none t.kept < length t.kept)
mark_idle t None new r some = absurd (false≢true some)
mark_idle t (Some n) new (RetransmitsLowest.stays why none same) some = cc
mark_idle t (Some n) new (RetransmitsLowest.retransmits r) some = (
  λ m p. false_from_ne_true (is_pending (at t.kept m) p) (λ is. r.none_pending (m, p, is)),
  λ m. false_from_ne_true (is_unsent (at t.kept m)) (λ is. r.none_unsent (m, is)),
  given t.kept (tx_next_ack t) r.before r.was,
)

-- a poll is owed as before
pub owed_stays : (p p' : Polling) (ack : ℕ) → StopsBelow p ack p' → p'.poll_owed ≡ p.poll_owed
owed_stays p p' ack (stops h is lt eq) = ap (λ (x : Polling). x.poll_owed) eq
owed_stays p p' ack (runs_on none eq) = ap (λ (x : Polling). x.poll_owed) eq

-- only one number lies near a base
near_one : (size : SnSize) (sn base c d : ℕ) → Near size sn base c → Near size sn base d → c ≡ d
near_one S12 sn base c d p q = omega arith
near_one S18 sn base c d p q = omega arith

-- the number of the ACK is known
pub not_beyond : (t : Tx) (s : Status) (a : ℕ) → Near t.size s.ack (tx_next_ack t + 1) a → (IsBeyondAt t s a → ⊥) → IsBeyond t s → ⊥
not_beyond t s a near fine (IsBeyond.no_number none) = none a near
not_beyond t s a near fine (IsBeyond.beyond_at b other at_b) = fine (subst (IsBeyondAt t s) (near_one t.size s.ack (tx_next_ack t + 1) b a other near) at_b)
