-- An SDU is given.
use Rattle.std.proofs.Common.{◌≡◌, ◌⊎◌, inl, inr, ℕ, ◌+◌, ◌<◌, ◌≤◌, List, [], ◌∷◌, ◌++◌, length, get_or, Option, Some, None, sym, ◌∙◌, ap, subst, arith}
use Rattle.std.proofs.lemmas.List.{get_or_push, get_or_append_left, get_or_past, length_push}
use Rattle.std.proofs.lemmas.Bool.{cases_lt, cases_order}
use Rattle.std.proofs.lemmas.Option.{none-some, same_Some}
use Rattle.link_base.specs.declared.names.SnSize.{SnSize}
use Rattle.rlc_model.specs.Pdu.{IsPiece}
use Rattle.rlc_status.specs.declared.status.Nack.{Nack}
use Rattle.rlc_status.specs.Says.{count}
use Rattle.rlc_model.specs.Heard.{Data}
use Rattle.rlc_model.specs.Tx.{Tx, Kept, kept_at, tx_next, room}
use Rattle.rlc_model.specs.Rx.{Rx, Got, Done, got, held_at, len_of, rx_next_highest}
use Rattle.rlc_law.specs.Hop.{StatusMade, Completion}
use Rattle.std.specs.List.{Contains}
use Rattle.rlc_law.proofs.Bytes.{held_some}
use Rattle.rlc_law.proofs.Base.{from_next_ack, window_pos, past_highest, done_below}
use Rattle.rlc_law.proofs.Elements.{Each}
use Rattle.rlc_law.proofs.Invariant.{at, NamesGiven, TxFits, RxFits, PdusFit, Confirms, CompletedFit, StatusesFit}
use Rattle.link_base.specs.declared.rlc_words.Tag.{Tag}

-- what is found in a longer list was there before or is the new one
pub pushed : {X : Type 0} (xs : List (Option X)) (x : Option X) (n : ℕ) (k : X) → get_or (xs ++ x ∷ []) n None ≡ Some k → (get_or xs n None ≡ Some k) ⊎ ((n ≡ length xs) × (x ≡ Some k))
pushed xs x n k h = elim (cases_order n (length xs)) [
  | inl e ↦ inr (e, sym (get_or_push xs x None n (sym e)) ∙ h)
  | inr (inl lt) ↦ inl (sym (get_or_append_left xs (x ∷ []) None n lt) ∙ h)
  | inr (inr gt) ↦ absurd (none-some k (sym (get_or_past (xs ++ x ∷ []) n None (omega (arith, length_push xs x))) ∙ h))
]

-- the transmitter once it was given an SDU
abbrev pub given_tx : Tx → Tag → List ℕ → Tx
given_tx t tag sdu = record t { kept = t.kept ++ Some (record { tag = tag; sdu = sdu; flags = []; retx_count = None }) ∷ [] }

module _ (t : Tx) (given : List (List ℕ)) (tag : Tag) (sdu : List ℕ) (has_room : 0 < room t) (fits : TxFits t given) where
  -- the SDU that it was given
  abbrev fresh : Kept
  fresh = record { tag = tag; sdu = sdu; flags = []; retx_count = None }

  -- the numbers given before have their SDUs still
  pub at_before : (n : ℕ) → n < length given → at (given ++ sdu ∷ []) n ≡ at given n
  at_before n lt = get_or_append_left given (sdu ∷ []) [] n lt

  -- the numbers before are below the new one
  old_below : (n : ℕ) (k : Kept) → kept_at t n ≡ Some k → n < length given
  old_below n k is = elim (cases_lt n (tx_next t)) [
    | inl lt ↦ omega (arith, fits.long)
    | inr le ↦ absurd (none-some k (sym (get_or_past t.kept n None le) ∙ is))
  ]

  -- an SDU from before, or the new one
  abbrev In : ℕ → Kept → Type 0
  In n k = (kept_at t n ≡ Some k) ⊎ ((n ≡ tx_next t) × (fresh ≡ k))

  -- each SDU is one of these
  split : (n : ℕ) (k : Kept) → kept_at (given_tx t tag sdu) n ≡ Some k → In n k
  split n k is = elim (pushed t.kept (Some fresh) n k is) [
    | inl e ↦ inl e
    | inr e ↦ inr (e.0, same_Some fresh k e.1)
  ]

  -- giving keeps what is known of the transmitter
  pub gives_tx : TxFits (given_tx t tag sdu) (given ++ sdu ∷ [])
  gives_tx = record {
    long = length_push given sdu ∙ ap (λ n. n + 1) fits.long ∙ sym (length_push t.kept (Some fresh));
    sdu = λ n k is. elim (split n k is) [
      | inl e ↦ fits.sdu n k e ∙ sym (at_before n (old_below n k e))
      | inr e ↦ sym (ap (λ (k : Kept). k.sdu) e.1) ∙ sym (get_or_push given sdu [] n (fits.long ∙ sym e.0))
    ];
    sent = λ n k is. elim (split n k is) [
      | inl e ↦ fits.sent n k e
      | inr e ↦ subst (λ (k : Kept). length k.flags ≤ length k.sdu) e.1 (omega arith)
    ];
    within = λ n k is. elim (split n k is) [
      | inl e ↦ omega (arith, length_push t.kept (Some fresh), from_next_ack t n k e)
      | inr e ↦ omega (arith, length_push t.kept (Some fresh), window_pos t.size)
    ];
  }

  -- and confirms none
  pub gives_confirms : (r : Rx) → Confirms t r → Confirms (given_tx t tag sdu) r
  gives_confirms r confirms n lt is = elim (cases_lt n (tx_next t)) [
    | inl below ↦ confirms n below (sym (get_or_append_left t.kept (Some fresh ∷ []) None n below) ∙ is)
    | inr le ↦ absurd (none-some fresh (sym is ∙ get_or_push t.kept (Some fresh) None n (omega (arith, length_push t.kept (Some fresh)))))
  ]

  -- a number of which anything is held was given
  pub held_below : (r : Rx) → RxFits r given → (n p b : ℕ) → held_at (got r n) p ≡ Some b → n < length given
  held_below r rx n p b is = elim (cases_lt n (rx_next_highest r)) [
    | inl lt ↦ omega (arith, rx.long)
    | inr le ↦ absurd (none-some b (sym (ap (λ (g : Got). held_at g p) (past_highest r n le)) ∙ is))
  ]

  -- nor is the length of a number known that wasn't given
  len_below : (r : Rx) → RxFits r given → (n l : ℕ) → len_of (got r n) ≡ Some l → n < length given
  len_below r rx n l is = elim (cases_lt n (rx_next_highest r)) [
    | inl lt ↦ omega (arith, rx.long)
    | inr le ↦ absurd (none-some l (sym (ap len_of (past_highest r n le)) ∙ is))
  ]

  -- giving keeps what is known of the receiver
  pub gives_rx : (r : Rx) → RxFits r given → RxFits r (given ++ sdu ∷ [])
  gives_rx r rx = record {
    long = omega (arith, rx.long, length_push given sdu);
    held = λ n p b is. subst (λ (s : List ℕ). (p < length s) × (b ≡ get_or s p 0)) (sym (at_before n (held_below r rx n p b is))) (rx.held n p b is);
    len = λ n l is. rx.len n l is ∙ ap length (sym (at_before n (len_below r rx n l is)));
    ends = λ n p h last.
        let b = held_some (held_at (got r n) p) h in
        rx.ends n p h (last ∙ ap length (at_before n (held_below r rx n p b.0 b.1)));
  }

  -- and of the data PDUs
  pub gives_pdus : (s : SnSize) (pdus : List Data) → PdusFit s given pdus → PdusFit s (given ++ sdu ∷ []) pdus
  gives_pdus s pdus fit d among = let is = fit d among in record {
    number = omega (arith, is.number, length_push given sdu);
    sn = is.sn;
    piece = subst (λ (s : List ℕ). IsPiece s d.view) (sym (at_before d.number is.number)) is.piece;
    fits = is.fits;
  }

  -- a complete number was given
  done_given : (r : Rx) → RxFits r given → (n : ℕ) → got r n ≡ Done → n < length given
  done_given r rx n is = omega (arith, done_below r n is, rx.long)

  -- giving keeps what is known of what was handed up
  pub gives_completions : (r : Rx) → RxFits r given → (completed : List Completion) → CompletedFit r given completed → CompletedFit r (given ++ sdu ∷ []) completed
  gives_completions r rx completed fit = record {
    each = λ u among. let is = fit.each u among in (is.0, is.1 ∙ sym (at_before u.number (done_given r rx u.number is.0)));
    all = λ n is. subst (λ (s : List ℕ). Contains completed (record { number = n; sdu = s })) (sym (at_before n (done_given r rx n is))) (fit.all n is);
    once = fit.once;
  }

  -- what an element names is there still
  named_before : (z : SnSize) (a : ℕ) → a ≤ length given → (es : List Nack) → Each (NamesGiven z given a) es → Each (NamesGiven z (given ++ sdu ∷ []) a) es
  named_before z a le [] h = tt
  named_before z a le (e ∷ es) h =
      let same : at given (h.0).first ≡ at (given ++ sdu ∷ []) (h.0).first = sym (at_before (h.0).first (omega (arith, (h.0).is.below))) in (
        record {
          first = (h.0).first;
          is = (h.0).is;
          inside = (h.0).inside;
          part = λ x y is. subst (λ (s : List ℕ). (count e ≡ 1) × (x < length s) × ((y ≡ 65535) ⊎ (y < length s))) same ((h.0).part x y is);
        },
        named_before z a le es h.1,
      )

  -- each SDU given has bytes, and not too many
  pub gives_sdus : (0 < length sdu) × (length sdu ≤ 9005) → ((n : ℕ) → n < length given → (0 < length (at given n)) × (length (at given n) ≤ 9005)) → (n : ℕ) → n < length (given ++ sdu ∷ []) → (0 < length (at (given ++ sdu ∷ []) n)) × (length (at (given ++ sdu ∷ []) n) ≤ 9005)
  gives_sdus small each n lt = elim (cases_lt n (length given)) [
    | inl below ↦ subst (λ (s : List ℕ). (0 < length s) × (length s ≤ 9005)) (sym (at_before n below)) (each n below)
    | inr past ↦ subst (λ (s : List ℕ). (0 < length s) × (length s ≤ 9005)) (sym (get_or_push given sdu [] n (omega (arith, length_push given sdu)))) small
  ]

  -- giving keeps what is known of the STATUS PDUs
  pub gives_statuses : (r : Rx) (statuses : List StatusMade) → StatusesFit r given statuses → StatusesFit r (given ++ sdu ∷ []) statuses
  gives_statuses r statuses fit x among = let is = fit x among in record { ack = omega (arith, is.ack, length_push given sdu); sn = is.sn; fits = is.fits; named = named_before r.size x.ack is.ack x.status.nacks is.named; received = is.received }
