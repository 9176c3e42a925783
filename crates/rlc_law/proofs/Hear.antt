-- A data PDU is heard.
use Rattle.std.proofs.Common.{◌≡◌, ◌≢◌, inl, inr, ℕ, ◌+◌, ◌%◌, ◌<◌, ◌≤◌, Bool, List, ◌∷◌, length, get_or, Option, Some, None, sym, ◌∙◌, ap, subst, arith}
use Rattle.std.proofs.lemmas.Bool.{cases_eq, cases_Bool, cond-true, cond-false, false≢true}
use Rattle.std.proofs.lemmas.Option.{none-some, same_Some}
use Rattle.std.proofs.lemmas.List.{ext_get_or}
use Rattle.link_base.specs.declared.names.SnSize.{SnSize}
use Rattle.link_base.specs.SequenceNumbers.{modulus}
use Rattle.rlc_pdu.specs.Amd.{Amd}
use Rattle.rlc_model.specs.Pdu.{IsPiece, end_of, is_end, byte_at}
use Rattle.rlc_status.specs.Format.{StatusFits}
use Rattle.rlc_status.specs.Says.{SaysReceived}
use Rattle.rlc_model.specs.Tx.{Tx}
use Rattle.rlc_model.specs.Rx.{Rx, Got, Done, Part, got, held_at, len_of, rx_next_highest, Places, Enters, Stores, Completes}
use Rattle.rlc_law.specs.Hop.{StatusMade, Completion}
use Rattle.std.specs.List.{Contains}
use Rattle.rlc_law.proofs.Lists.{contains_cases, contains_here, contains_later, all_pairs_cons}
use Rattle.rlc_law.proofs.Base.{part_not_done}
use Rattle.rlc_law.proofs.Elements.{Each}
use Rattle.rlc_law.proofs.Bytes.{held_some, first_cases, byte_below, piece_byte}
use Rattle.rlc_law.proofs.Receiver.{DoneStays, stores_stays, completes_stays, with}
use Rattle.rlc_law.proofs.Invariant.{at, RxFits, NamesGiven, Confirms, CompletedFit, StatusesFit}

-- where what is complete stays so, confirmed numbers stay complete
pub stays_confirms : (t : Tx) (old new : Rx) → DoneStays old new → Confirms t old → Confirms t new
stays_confirms t old new stays confirms n lt is = stays n (confirms n lt is)

-- and STATUS PDUs speak truly still
pub stays_statuses : (old new : Rx) (given : List (List ℕ)) (statuses : List StatusMade) → new.size ≡ old.size → DoneStays old new → StatusesFit old given statuses → StatusesFit new given statuses
stays_statuses old new given statuses same stays fit t among = let is = fit t among in record {
  ack = is.ack;
  sn = subst (λ (z : SnSize). t.status.ack ≡ t.ack % modulus z) (sym same) is.sn;
  fits = subst (λ (z : SnSize). StatusFits z t.status) (sym same) is.fits;
  named = subst (λ (z : SnSize). Each (NamesGiven z given t.ack) t.status.nacks) (sym same) is.named;
  received = λ n says. stays n (is.received n (subst (λ (z : SnSize). SaysReceived z t.ack t.status n) same says));
}

-- a receiver with the same entries keeps what is known of its bytes
pub with_rx : (r : Rx) (given : List (List ℕ)) (status : ℕ) (trigger : Option ℕ) (triggered : Bool) (polls : List ℕ) (prohibit : Bool) → RxFits r given → RxFits (with r status trigger triggered polls prohibit) given
with_rx r given status trigger triggered polls prohibit rx = record { long = rx.long; held = rx.held; len = rx.len; ends = rx.ends }

-- and of what was handed up
pub with_completions : (r : Rx) (given : List (List ℕ)) (completed : List Completion) (status : ℕ) (trigger : Option ℕ) (triggered : Bool) (polls : List ℕ) (prohibit : Bool) → CompletedFit r given completed → CompletedFit (with r status trigger triggered polls prohibit) given completed
with_completions r given completed status trigger triggered polls prohibit fit = record { each = fit.each; all = fit.all; once = fit.once }

module _ (old new : Rx) (x : ℕ) (v : Amd) (given : List (List ℕ)) (rx : RxFits old given) (below : x < length given) (piece : IsPiece (at given x) v) where
  module _ (held : List (Option ℕ)) (len : Option ℕ) (places : Places (got old x) v held len) where
    placed_byte : (p b : ℕ) → get_or held p None ≡ Some b → (p < length (at given x)) × (b ≡ get_or (at given x) p 0)
    placed_byte p b is = elim (first_cases (held_at (got old x) p) (byte_at v p) b (sym (places.bytes p) ∙ is)) [
      | inl e ↦ rx.held x p b e
      | inr e ↦ piece_byte (at given x) v p b piece e
    ]

    placed_len : (l : ℕ) → len ≡ Some l → l ≡ length (at given x)
    placed_len l is = elim (cases_Bool (is_end v.si)) [
      | inl ends ↦ same_Some l (end_of v) (sym is ∙ places.its_length ∙ cond-true (is_end v.si) (Some (end_of v)) (len_of (got old x)) ends) ∙ piece.last.0 ends
      | inr goes_on ↦ rx.len x l (sym (cond-false (is_end v.si) (Some (end_of v)) (len_of (got old x)) goes_on) ∙ sym places.its_length ∙ is)
    ]

    placed_ends : (p : ℕ) → get_or held p None ≢ None → p + 1 ≡ length (at given x) → len ≢ None
    placed_ends p h last none =
        let b = held_some (get_or held p None) h in
        elim (cases_Bool (is_end v.si)) [
          | inl ends ↦ none-some (end_of v) (sym none ∙ places.its_length ∙ cond-true (is_end v.si) (Some (end_of v)) (len_of (got old x)) ends)
          | inr goes_on ↦ elim (first_cases (held_at (got old x) p) (byte_at v p) b.0 (sym (places.bytes p) ∙ b.1)) [
            | inl e ↦ rx.ends x p (λ n. none-some b.0 (sym n ∙ e)) last (sym (cond-false (is_end v.si) (Some (end_of v)) (len_of (got old x)) goes_on) ∙ sym places.its_length ∙ none)
            | inr e ↦ false≢true (sym goes_on ∙ piece.last.1 (omega (arith, byte_below v p b.0 e, piece.within)))
          ]
        ]

  module _ (g : Got) (enters : Enters old x g new) where
    rx_long : rx_next_highest new ≤ length given
    rx_long = omega (arith, enters.long, rx.long)

  module _ (open_before : got old x ≡ Done → ⊥) (s : Stores old x v new) where
    pub stores_rx : RxFits new given
    stores_rx = record {
      long = rx_long (Part s.held s.len) s.enters;
      held = λ n p b is. elim (cases_eq n x) [
        | inl e ↦
            let read : get_or s.held p None ≡ Some b = sym (ap (λ (g : Got). held_at g p) (ap (got new) e ∙ s.enters.this)) ∙ is in
            subst (λ (n : ℕ). (p < length (at given n)) × (b ≡ get_or (at given n) p 0)) (sym e) (placed_byte s.held s.len s.places p b read)
        | inr ne ↦ rx.held n p b (sym (ap (λ (g : Got). held_at g p) (s.enters.others n ne)) ∙ is)
      ];
      len = λ n l is. elim (cases_eq n x) [
        | inl e ↦ placed_len s.held s.len s.places l (sym (ap len_of (ap (got new) e ∙ s.enters.this)) ∙ is) ∙ ap (λ (n : ℕ). length (at given n)) (sym e)
        | inr ne ↦ rx.len n l (sym (ap len_of (s.enters.others n ne)) ∙ is)
      ];
      ends = λ n p h last. elim (cases_eq n x) [
        | inl e ↦ λ none. placed_ends s.held s.len s.places p (λ none. h (ap (λ (g : Got). held_at g p) (ap (got new) e ∙ s.enters.this) ∙ none)) (last ∙ ap (λ (n : ℕ). length (at given n)) e) (sym (ap len_of (ap (got new) e ∙ s.enters.this)) ∙ none)
        | inr ne ↦ λ none. rx.ends n p (λ none. h (ap (λ (g : Got). held_at g p) (s.enters.others n ne) ∙ none)) last (sym (ap len_of (s.enters.others n ne)) ∙ none)
      ];
    }

    back : (n : ℕ) → got new n ≡ Done → got old n ≡ Done
    back n is = elim (cases_eq n x) [
      | inl e ↦ absurd (part_not_done s.held s.len (sym s.enters.this ∙ ap (got new) (sym e) ∙ is))
      | inr ne ↦ sym (s.enters.others n ne) ∙ is
    ]

    pub stores_completions : (completed : List Completion) → CompletedFit old given completed → CompletedFit new given completed
    stores_completions completed fit = record {
      each = λ u among. (stores_stays old new x v open_before s u.number (fit.each u among).0, (fit.each u among).1);
      all = λ n is. fit.all n (back n is);
      once = fit.once;
    }

  module _ (open_before : got old x ≡ Done → ⊥) (sdu : List ℕ) (s : Completes old x v sdu new) where
    pub completes_rx : RxFits new given
    completes_rx = record {
      long = rx_long Done s.enters;
      held = λ n p b is. elim (cases_eq n x) [
        | inl e ↦ absurd (none-some b (sym (ap (λ (g : Got). held_at g p) (ap (got new) e ∙ s.enters.this)) ∙ is))
        | inr ne ↦ rx.held n p b (sym (ap (λ (g : Got). held_at g p) (s.enters.others n ne)) ∙ is)
      ];
      len = λ n l is. elim (cases_eq n x) [
        | inl e ↦ absurd (none-some l (sym (ap len_of (ap (got new) e ∙ s.enters.this)) ∙ is))
        | inr ne ↦ rx.len n l (sym (ap len_of (s.enters.others n ne)) ∙ is)
      ];
      ends = λ n p h last. elim (cases_eq n x) [
        | inl e ↦ absurd (h (ap (λ (g : Got). held_at g p) (ap (got new) e ∙ s.enters.this)))
        | inr ne ↦ λ none. rx.ends n p (λ none. h (ap (λ (g : Got). held_at g p) (s.enters.others n ne) ∙ none)) last (sym (ap len_of (s.enters.others n ne)) ∙ none)
      ];
    }

    pub as_given : sdu ≡ at given x
    as_given = ext_get_or 0 sdu (at given x) (placed_len s.held s.len s.places (length sdu) s.covers.known)
        (λ p lt. (placed_byte s.held s.len s.places p (get_or sdu p 0) (s.covers.bytes p lt)).1)

    abbrev this : Completion
    this = record { number = x; sdu = sdu }

    pub completes_completions : (completed : List Completion) → CompletedFit old given completed → CompletedFit new given (this ∷ completed)
    completes_completions completed fit = record {
      each = λ u among. elim (contains_cases this completed u among) [
        | inl e ↦ (ap (λ (u : Completion). got new u.number) e ∙ s.enters.this, ap (λ (u : Completion). u.sdu) e ∙ as_given ∙ ap (λ (u : Completion). at given u.number) (sym e))
        | inr e ↦ (completes_stays old new x v sdu s u.number (fit.each u e).0, (fit.each u e).1)
      ];
      all = λ n is. elim (cases_eq n x) [
        | inl e ↦ subst (λ (u : Completion). Contains (this ∷ completed) u) (ap (λ (l : List ℕ). record { number = x; sdu = l }) as_given ∙ ap (λ (m : ℕ). record { number = m; sdu = at given m }) (sym e)) (contains_here this completed)
        | inr ne ↦ contains_later this completed (record { number = n; sdu = at given n }) (fit.all n (sym (s.enters.others n ne) ∙ is))
      ];
      once = all_pairs_cons (λ (u w : Completion). u.number ≢ w.number) this completed (λ w among e. open_before (ap (got old) e ∙ (fit.each w among).0)) fit.once;
    }
