-- A transmitter that sent a piece of an SDU.
use Rattle.std.proofs.Common.{◌≡◌, ◌≢◌, inl, inr, ℕ, zero, suc, ◌+◌, ◌-◌, ◌%◌, ◌<◌, ◌≤◌, true, false, min, List, [], ◌∷◌, length, Option, Some, refl, sym, ◌∙◌, ap, subst, arith}
use Rattle.std.specs.Option.{is_none}
use Rattle.std.specs.List.{prefix_len}
use Rattle.std.proofs.lemmas.Bool.{cases_eq, false≢true}
use Rattle.std.proofs.lemmas.List.Sums.{sum_by-cons}
use Rattle.std.proofs.lemmas.Option.{same_Some}
use Rattle.link_base.specs.declared.names.SnSize.{SnSize}
use Rattle.link_base.specs.declared.names.SnSize.TheVariants.{S12, S18}
use Rattle.link_base.specs.SequenceNumbers.{window, modulus}
use Rattle.rlc_pdu.specs.Amd.{Amd, amd_bytes}
use Rattle.rlc_model.specs.Pdu.{piece as segment}
use Rattle.rlc_model.specs.Tx.{Tx, Kept, at, kept_at, header, is_sent, IsNextOf, IsBegunCount, Counters, Sends}
use Rattle.rlc_am_tx.specs.declared.pieces.Piece.{Piece}
use Rattle.rlc_am_tx.specs.declared.polling.Polling.{Polling}
use Rattle.rlc_am_tx.specs.Buffer.{sdu_of, sent_of, most_sent, all_sent}
use Rattle.rlc_am_tx.specs.Pieces.{IsNextPiece, MarksSent}
use Rattle.rlc_am_tx.specs.Polling.{PollsWith, polled, unpolled, tx_with}
use Rattle.rlc_am_tx.specs.Sending.{piece_of, SendsPiece}
use Rattle.rlc_am_tx.proofs.Order.{begun}
use Rattle.rlc_am_tx.proofs.Marked.{next_is}
use Rattle.rlc_am_tx.proofs.Numbers.{given, same_front}

-- a sequence number is below the modulus
pub mod_below : (size : SnSize) (n : ℕ) → n % modulus size < modulus size
mod_below S12 n = omega arith
mod_below S18 n = omega arith

-- a piece that is next is what the rules say
pub next_at : (l : List (Option Kept)) (piece : Piece) (k : Kept) → IsNextPiece l piece → at l piece.number ≡ Some k → IsNextOf l piece.number k piece.from piece.to
next_at l piece k next is = subst (λ (x : Kept). IsNextOf l piece.number x piece.from piece.to) (same_Some next.0 k (sym (next_is l piece next.0 next.1) ∙ is)) next.1

pub marks_front : (l : List (Option Kept)) (m a e : ℕ) (l' : List (Option Kept)) → MarksSent l m a e l' → prefix_len is_none l' ≡ prefix_len is_none l
marks_front l m a e l' s = same_front l' l s.long (λ n. elim (cases_eq n m) [
  | inl eq ↦ ap (λ j. is_none (at l' j)) eq ∙ ap is_none s.kept_sdu.is ∙ sym (ap is_none s.kept_sdu.was) ∙ sym (ap (λ j. is_none (at l j)) eq)
  | inr ne ↦ ap is_none (s.others n ne)
])

-- a byte of some number was sent
pub marks_some : (l l' : List (Option Kept)) (m a e : ℕ) → MarksSent l m a e l' → a < e → (c : ℕ) → IsBegunCount l' c → 1 ≤ c
marks_some l l' m a e s some c count =
    let sent : Kept = record s.kept_sdu.kept { flags = s.kept_sdu.flags } in
    let here : is_sent (at l' m) ≡ true = ap is_sent s.kept_sdu.is ∙ begun sent (omega (arith, s.kept_sdu.clears.long, some)) in
    omega (arith, count.above m (given l' m sent s.kept_sdu.is, here))

-- nothing was sent
same_sent : (l l' : List (Option Kept)) → length l' ≡ length l → ((n : ℕ) → at l' n ≡ at l n) → all_sent l' ≡ all_sent l
same_sent [] [] long same = refl
same_sent [] (y ∷ l') long same = absurd (omega (arith, long))
same_sent (x ∷ l) [] long same = absurd (omega (arith, long))
same_sent (x ∷ l) (y ∷ l') long same = omega (arith, ap most_sent (same zero), sum_by-cons most_sent x l, sum_by-cons most_sent y l', same_sent l l' (omega (arith, long)) (λ n. same (suc n)))

-- one SDU was sent further
one_further : (l l' : List (Option Kept)) (m d : ℕ) → length l' ≡ length l → m < length l → ((n : ℕ) → n ≢ m → at l' n ≡ at l n) → most_sent (at l' m) ≡ most_sent (at l m) + d → all_sent l' ≡ all_sent l + d
one_further [] l' m d long lt others is = absurd (omega (arith, lt))
one_further (x ∷ l) [] m d long lt others is = absurd (omega (arith, long))
one_further (x ∷ l) (y ∷ l') zero d long lt others is = omega (arith, is, sum_by-cons most_sent x l, sum_by-cons most_sent y l', same_sent l l' (omega (arith, long)) (λ n. others (suc n) (λ e. omega (arith, e))))
one_further (x ∷ l) (y ∷ l') (suc m) d long lt others is =
    let first = ap most_sent (others zero (λ e. omega (arith, e))) in
    omega (arith, first, sum_by-cons most_sent x l, sum_by-cons most_sent y l', one_further l l' m d (omega (arith, long)) (omega (arith, lt)) (λ n ne. others (suc n) (λ e. ne (omega (arith, e)))) is)

pub marks_all : (l l' : List (Option Kept)) (m a e : ℕ) → MarksSent l m a e l' → all_sent l' ≡ all_sent l + (e - sent_of (at l m))
marks_all l l' m a e s = one_further l l' m (e - sent_of (at l m)) s.long (given l m s.kept_sdu.kept s.kept_sdu.was) s.others
    (omega (arith, ap most_sent s.kept_sdu.was, ap most_sent s.kept_sdu.is, ap sent_of s.kept_sdu.was, s.kept_sdu.clears.long))

module _ (size : SnSize) (threshold : ℕ) (l l' : List (Option Kept)) (p : Polling) (piece : Piece) (end : ℕ) (m : MarksSent l piece.number piece.from end l') where
  abbrev old : Tx
  old = tx_with size threshold l p

  abbrev fresh : ℕ
  fresh = end - sent_of (at l piece.number)

  pub sends_polled : (bytes : List ℕ) (highest : ℕ) → PollsWith p size l' fresh → IsBegunCount l' (highest + 1) → bytes ≡ amd_bytes size (piece_of old piece end true) → SendsPiece old piece end bytes (tx_with size threshold l' (polled p highest))
  sends_polled bytes highest has count spelt = record {
    poll = true;
    spelt = spelt;
    marks = m;
    same = record { size = refl; poll_pdu = refl; poll_byte = refl; max_retx_threshold = refl };
    counters = record {
      polled = (λ is. has, λ is. refl);
      begins = λ is. record { pdu_without_poll = refl; byte_without_poll = refl; poll_owed = refl; runs = refl; highest = highest; poll_sn = refl; is_highest = count };
      counts = λ is. absurd (false≢true (sym is));
    };
  }

  pub sends_unpolled : (bytes : List ℕ) → (PollsWith p size l' fresh → ⊥) → bytes ≡ amd_bytes size (piece_of old piece end false) → SendsPiece old piece end bytes (tx_with size threshold l' (unpolled p fresh))
  sends_unpolled bytes none spelt = record {
    poll = false;
    spelt = spelt;
    marks = m;
    same = record { size = refl; poll_pdu = refl; poll_byte = refl; max_retx_threshold = refl };
    counters = record {
      polled = (λ is. absurd (false≢true is), λ is. absurd (none is));
      begins = λ is. absurd (false≢true is);
      counts = λ is. record { pdu_without_poll = refl; byte_without_poll = refl; poll_owed = refl; runs = refl; poll_sn = refl };
    };
  }

  pub marks_within : length l ≤ prefix_len is_none l + window size → length l' ≤ prefix_len is_none l' + window size
  marks_within within = omega (arith, m.long, marks_front l piece.number piece.from end l' m, within)

-- a grant that sends a piece
pub grant_sends : (old : Tx) (piece : Piece) (end n : ℕ) (bytes : List ℕ) (new : Tx) → IsNextPiece old.kept piece → header old.size piece.from < n → end ≡ min piece.to (piece.from + n - header old.size piece.from) → SendsPiece old piece end bytes new → (v : Amd) × (bytes ≡ amd_bytes old.size v) × Sends old n piece.number v new
grant_sends old piece end n bytes new next fits is s =
    let k : Kept = s.marks.kept_sdu.kept in
    let sdu : sdu_of (kept_at old piece.number) ≡ k.sdu = ap sdu_of s.marks.kept_sdu.was in
    let sent : sent_of (kept_at old piece.number) ≡ length k.flags = ap sent_of s.marks.kept_sdu.was in (
      piece_of old piece end s.poll,
      s.spelt,
      record {
        kept = k;
        flags = s.marks.kept_sdu.flags;
        a = piece.from;
        b = piece.to;
        e = end;
        next = next_at old.kept piece k next s.marks.kept_sdu.was;
        fits = fits;
        end = is;
        view = ap (λ (x : List ℕ). segment old.size piece.number x piece.from end s.poll) sdu;
        clears = s.marks.kept_sdu.clears;
        this = s.marks.kept_sdu.is;
        others = s.marks.others;
        long = s.marks.long;
        same = s.same;
        counters = subst (λ m. Counters old new (end - m) s.poll) sent s.counters;
      },
    )
