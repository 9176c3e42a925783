-- A PDU is sent.
use Rattle.std.proofs.Common.{◌≡◌, ◌⊎◌, inl, inr, ℕ, ◌+◌, ◌<◌, ◌≤◌, List, ◌∷◌, length, Some, sym, ◌∙◌, ap, subst, arith}
use Rattle.std.proofs.lemmas.Bool.{cases_eq}
use Rattle.std.proofs.lemmas.Option.{none-some, same_Some}
use Rattle.link_base.specs.declared.names.SnSize.{SnSize}
use Rattle.link_base.specs.SequenceNumbers.{window}
use Rattle.rlc_pdu.specs.Amd.{Amd, AmdFits}
use Rattle.rlc_model.specs.Pdu.{IsPiece}
use Rattle.rlc_model.specs.Heard.{Data}
use Rattle.rlc_model.specs.Tx.{Tx, Kept, kept_at, tx_next, IsNext, pending, unsent, Sends}
use Rattle.rlc_model.specs.Rx.{Rx}
use Rattle.rlc_law.proofs.Lists.{contains_cases}
use Rattle.rlc_law.proofs.Base.{kept_below}
use Rattle.rlc_law.proofs.Pieces.{piece_is_piece, piece_fits, sends_some, sends_within}
use Rattle.rlc_law.proofs.Invariant.{at, TxFits, IsSentAs, PdusFit, Confirms}

-- the number that is next has its SDU
pub next_was : (t : Tx) (m : ℕ) (k : Kept) (a b : ℕ) → IsNext t m k a b → kept_at t m ≡ Some k
next_was t m k a b (pending first is run) = is
next_was t m k a b (unsent none first is from to) = is

module _ (old new : Tx) (n m : ℕ) (v : Amd) (given : List (List ℕ)) (fits : TxFits old given) (s : Sends old n m v new) where
  -- the SDU whose bytes were sent
  abbrev sent_kept : Kept
  sent_kept = record s.kept { flags = s.flags }

  -- it was there before
  was : kept_at old m ≡ Some s.kept
  was = next_was old m s.kept s.a s.b s.next

  -- this SDU, or another one from before
  abbrev In : ℕ → Kept → Type 0
  In j k = ((j ≡ m) × (sent_kept ≡ k)) ⊎ (kept_at old j ≡ Some k)

  -- each SDU is one of these
  split : (j : ℕ) (k : Kept) → kept_at new j ≡ Some k → In j k
  split j k is = elim (cases_eq j m) [
    | inl e ↦ inl (e, same_Some sent_kept k (sym s.this ∙ subst (λ j. kept_at new j ≡ Some k) e is))
    | inr ne ↦ inr (sym (s.others j ne) ∙ is)
  ]

  -- sending keeps what is known of the transmitter
  pub sends_tx : TxFits new given
  sends_tx = record {
    long = fits.long ∙ sym s.long;
    sdu = λ j k is. elim (split j k is) [
      | inl e ↦ sym (ap (λ (k : Kept). k.sdu) e.1) ∙ fits.sdu m s.kept was ∙ ap (at given) (sym e.0)
      | inr e ↦ fits.sdu j k e
    ];
    sent = λ j k is. elim (split j k is) [
      | inl e ↦ subst (λ (k : Kept). length k.flags ≤ length k.sdu) e.1 (omega (arith, s.clears.long, fits.sent m s.kept was, sends_within old n m v new s (fits.sent m s.kept was)))
      | inr e ↦ fits.sent j k e
    ];
    within = λ j k is. subst (λ (z : SnSize). tx_next new ≤ j + window z) (sym s.same.size) (elim (split j k is) [
      | inl e ↦ omega (arith, s.long, fits.within m s.kept was, e.0)
      | inr e ↦ omega (arith, s.long, fits.within j k e)
    ]);
  }

  -- and confirms none
  pub sends_confirms : (r : Rx) → Confirms old r → Confirms new r
  sends_confirms r confirms j lt is = elim (cases_eq j m) [
    | inl e ↦ absurd (none-some sent_kept (sym is ∙ ap (kept_at new) e ∙ s.this))
    | inr ne ↦ confirms j (omega (arith, s.long)) (sym (s.others j ne) ∙ is)
  ]

  -- the PDU sent is a piece of the SDU given under its number
  this_fits : ((k : ℕ) → k < length given → length (at given k) ≤ 9005) → IsSentAs old.size given (record { number = m; view = v })
  this_fits small = record {
    number = omega (arith, fits.long, kept_below old m s.kept was);
    sn = ap (λ (v : Amd). v.sn) s.view;
    piece = subst (λ (d : List ℕ). IsPiece d v) (fits.sdu m s.kept was)
        (subst (IsPiece s.kept.sdu) (sym s.view)
        (piece_is_piece old.size m s.kept.sdu s.a s.e v.poll (sends_some old n m v new s) (sends_within old n m v new s (fits.sent m s.kept was))));
    fits = subst (AmdFits old.size) (sym s.view) (piece_fits old.size m s.kept.sdu s.a s.e v.poll (sends_some old n m v new s) (sends_within old n m v new s (fits.sent m s.kept was))
        (subst (λ (d : List ℕ). length d ≤ 9005) (sym (fits.sdu m s.kept was)) (small m (omega (arith, fits.long, kept_below old m s.kept was)))));
  }

  -- and so is each PDU sent before
  pub sends_pdus : ((k : ℕ) → k < length given → length (at given k) ≤ 9005) → (pdus : List Data) → PdusFit old.size given pdus → PdusFit new.size given (record { number = m; view = v } ∷ pdus)
  sends_pdus small pdus fit d among = subst (λ (z : SnSize). IsSentAs z given d) (sym s.same.size) (elim (contains_cases (record { number = m; view = v }) pdus d among) [
    | inl e ↦ subst (IsSentAs old.size given) (sym e) (this_fits small)
    | inr e ↦ fit d e
  ])
