-- What is complete is what was heard, from the set of all that was delivered.
use Rattle.std.proofs.Common.{◌≡◌, ◌≢◌, ◌⊎◌, inl, inr, ⊎_elim, ℕ, ◌-◌, ◌<◌, ◌≤◌, true, nat_lt, false, List, [], ◌∷◌, ◌++◌, length, get_or, slice_get, Option, Some, None, refl, sym, ◌∙◌, ap, subst, arith, lt-ltb}
use Rattle.std.proofs.lemmas.Bool.{cases_lt, cases_eq, cases_Bool, cond-true, cond-false, false≢true}
use Rattle.std.proofs.lemmas.Option.{none-some, same_Some}
use Rattle.std.proofs.lemmas.List.{ext_get_or, get_or_append_left}
use Rattle.link_base.specs.SequenceNumbers.{Near}
use Rattle.rlc_pdu.specs.Amd.{Amd}
use Rattle.rlc_model.specs.Pdu.{IsPiece, end_of, is_end, byte_at}
use Rattle.rlc_model.specs.Heard.{Data, HasByte, HasEnd, HeardAs}
use Rattle.rlc_model.specs.Tx.{Tx}
use Rattle.rlc_model.specs.Rx.{Rx, Got, Done, Part, got, held_at, len_of, rx_next, first_of, IsRepeat, Places, Hears, Stores, Completes}
use Rattle.rlc_model.specs.declared.receiver.Heard.{Heard}
use Rattle.rlc_model.specs.declared.receiver.Heard.TheVariants.{Stored, Complete, Repeat, Outside, Conflict}
use Rattle.rlc_model.specs.Air.{IsFresh}
use Rattle.rlc_law.specs.Hop.{Hop, StatusMade, Completion, Event, Happens, gives, sends, makes_status, delivers, acknowledges, expires_poll, expires_reassembly, expires_prohibit, Reaches, start, completed_after, given_at}
use Rattle.std.specs.List.{Contains}
use Rattle.rlc_law.specs.Laws.{CompletesHeard, HeardAsGiven, HoldsHeard, KnowsHeardEnd, HearsSent}
use Rattle.rlc_law.proofs.Base.{near_one, part_not_done, below_rx_next, done_below}
use Rattle.rlc_law.proofs.Invariant.{at, Invariant}
use Rattle.rlc_law.proofs.Bytes.{first_cases, byte_below, piece_byte, held_some}
use Rattle.rlc_law.proofs.Inductive.{own_number, reaches_inv}
use Rattle.rlc_law.proofs.Runs.{reaches_more, everywhere}
use Rattle.rlc_law.proofs.Lists.{contains_nil, contains_here, contains_later, contains_cases}
use Rattle.rlc_law.proofs.Truth.{cases_done}
use Rattle.rlc_law.proofs.Safety.{no_conflict}
use Rattle.link_base.specs.declared.names.SnSize.{SnSize}

-- more PDUs have each byte and each end that fewer have
byte_more : (heard : List Data) (d : Data) (n p b : ℕ) → HasByte heard n p b → HasByte (d ∷ heard) n p b
byte_more heard d n p b h = (h.0, contains_later d heard h.0 h.1, h.2, h.3)

end_more : (heard : List Data) (d : Data) (n l : ℕ) → HasEnd heard n l → HasEnd (d ∷ heard) n l
end_more heard d n l h = (h.0, contains_later d heard h.0 h.1, h.2, h.3, h.4)

-- so what is heard from fewer PDUs is heard from more
heard_more : (heard : List Data) (d : Data) (n : ℕ) (sdu : List ℕ) → HeardAs heard n sdu → HeardAs (d ∷ heard) n sdu
heard_more heard d n sdu h = record { end = end_more heard d n (length sdu) h.end; bytes = λ p lt. byte_more heard d n p (get_or sdu p 0) (h.bytes p lt) }

-- a byte is of the newest PDU or of an older one
byte_cases : (heard : List Data) (d : Data) (n p b : ℕ) → HasByte (d ∷ heard) n p b → ((d.number ≡ n) × (byte_at d.view p ≡ Some b)) ⊎ HasByte heard n p b
byte_cases heard d n p b h = elim (contains_cases d heard h.0 h.1) [
  | inl e ↦ inl (ap (λ (d : Data). d.number) (sym e) ∙ h.2, ap (λ (d : Data). byte_at d.view p) (sym e) ∙ h.3)
  | inr e ↦ inr (h.0, e, h.2, h.3)
]

-- and so is an end
end_cases : (heard : List Data) (d : Data) (n l : ℕ) → HasEnd (d ∷ heard) n l → ((d.number ≡ n) × (is_end d.view.si ≡ true) × (end_of d.view ≡ l)) ⊎ HasEnd heard n l
end_cases heard d n l h = elim (contains_cases d heard h.0 h.1) [
  | inl e ↦ inl (ap (λ (d : Data). d.number) (sym e) ∙ h.2, ap (λ (d : Data). is_end d.view.si) (sym e) ∙ h.3, ap (λ (d : Data). end_of d.view) (sym e) ∙ h.4)
  | inr e ↦ inr (h.0, e, h.2, h.3, h.4)
]

-- a byte of a PDU stands from its first place on
byte_from : (v : Amd) (p b : ℕ) → byte_at v p ≡ Some b → v.so ≤ p
byte_from v p b is = elim (cases_lt p v.so) [
  | inl lt ↦ absurd (none-some b (sym (cond-true (nat_lt p v.so) None (slice_get v.body (p - v.so)) (lt-ltb p v.so lt)) ∙ is))
  | inr le ↦ le
]

-- a byte that a PDU brings is held behind it
pub first_some : (o q : Option ℕ) (b : ℕ) → q ≡ Some b → first_of o q ≢ None
first_some None q b e none = none-some b (sym none ∙ e)
first_some (Some x) q b e none = none-some x (sym none)

-- and one that was held before
pub first_kept : (o q : Option ℕ) → o ≢ None → first_of o q ≢ None
first_kept None q h none = h refl
first_kept (Some x) q h none = none-some x (sym none)

-- what is got of a number is what was delivered
record Delivered (h : Hop) : Type 0 where
  held : (n p b : ℕ) → held_at (got h.rx n) p ≡ Some b → HasByte h.heard n p b
  bytes : (n p b : ℕ) → got h.rx n ≢ Done → HasByte h.heard n p b → held_at (got h.rx n) p ≢ None
  len : (n l : ℕ) → len_of (got h.rx n) ≡ Some l → HasEnd h.heard n l
  ends : (n l : ℕ) → got h.rx n ≢ Done → HasEnd h.heard n l → len_of (got h.rx n) ≡ Some l
  done : (n : ℕ) → got h.rx n ≡ Done → HeardAs h.heard n (at h.given n)
  sent : (d : Data) → Contains h.heard d → Contains h.pdus d

module _ (h : Hop) (inv : Invariant h) (fits : Delivered h) where
  -- a change of other variables keeps it
  same_fits : (t : Tx) (r : Rx) → r.received ≡ (h.rx).received → (statuses : List StatusMade) (pdus : List Data) → ((d : Data) → Contains h.pdus d → Contains pdus d) → Delivered (record h { tx = t; rx = r; statuses = statuses; pdus = pdus })
  same_fits t r same statuses pdus more =
      let at_n : (n : ℕ) → got r n ≡ got h.rx n = λ n. ap (λ (l : List Got). get_or l n (Part [] None)) same in
      record {
        held = λ n p b is. fits.held n p b (sym (ap (λ (g : Got). held_at g p) (at_n n)) ∙ is);
        bytes = λ n p b not_done has none. fits.bytes n p b (λ done. not_done (at_n n ∙ done)) has (sym (ap (λ (g : Got). held_at g p) (at_n n)) ∙ none);
        len = λ n l is. fits.len n l (sym (ap len_of (at_n n)) ∙ is);
        ends = λ n l not_done has. ap len_of (at_n n) ∙ fits.ends n l (λ done. not_done (at_n n ∙ done)) has;
        done = λ n done. fits.done n (sym (at_n n) ∙ done);
        sent = λ d among. more d (fits.sent d among);
      }

  -- giving keeps it
  gives_fits : (t : Tx) (sdu : List ℕ) → Delivered (record h { tx = t; given = h.given ++ sdu ∷ [] })
  gives_fits t sdu = record {
    held = fits.held;
    bytes = fits.bytes;
    len = fits.len;
    ends = fits.ends;
    done = λ n done. subst (HeardAs h.heard n) (sym (get_or_append_left h.given (sdu ∷ []) [] n (omega (arith, done_below h.rx n done, inv.rx.long)))) (fits.done n done);
    sent = fits.sent;
  }

  module _ (d : Data) (r : Rx) (among : Contains h.pdus d) (fresh : IsFresh h.rx.size false d.number (rx_next h.rx)) (completed : List Completion) where
    own : (x : ℕ) → Near h.rx.size d.view.sn (rx_next h.rx) x → x ≡ d.number
    own x near = near_one h.rx.size d.view.sn (rx_next h.rx) x d.number near (own_number h inv d among fresh)

    piece : IsPiece (at h.given d.number) d.view
    piece = (inv.pdus d among).piece

    abbrev After : Type 0
    After = Delivered (record h { rx = r; completed = completed; heard = d ∷ h.heard })

    sent_after : (e : Data) → Contains (d ∷ h.heard) e → Contains h.pdus e
    sent_after e is = elim (contains_cases d h.heard e is) [
      | inl same ↦ subst (λ (e : Data). Contains h.pdus e) (sym same) among
      | inr before ↦ fits.sent e before
    ]

    repeats : r.received ≡ (h.rx).received → IsRepeat h.rx d.number d.view → After
    repeats same again =
        let at_n : (n : ℕ) → got r n ≡ got h.rx n = λ n. ap (λ (l : List Got). get_or l n (Part [] None)) same in
        record {
          held = λ n p b is. byte_more h.heard d n p b (fits.held n p b (sym (ap (λ (g : Got). held_at g p) (at_n n)) ∙ is));
          bytes = λ n p b not_done has none.
              let open_n : got h.rx n ≢ Done = λ done. not_done (at_n n ∙ done) in
              let none_n : held_at (got h.rx n) p ≡ None = sym (ap (λ (g : Got). held_at g p) (at_n n)) ∙ none in
              elim (byte_cases h.heard d n p b has) [
                | inl this ↦ again_byte again (sym (this.0)) p b this.1 open_n none_n
                | inr old ↦ fits.bytes n p b open_n old none_n
              ];
          len = λ n l is. end_more h.heard d n l (fits.len n l (sym (ap len_of (at_n n)) ∙ is));
          ends = λ n l not_done has.
              let open_n : got h.rx n ≢ Done = λ done. not_done (at_n n ∙ done) in
              ap len_of (at_n n) ∙ elim (end_cases h.heard d n l has) [
                | inl this ↦ again_end again (sym (this.0)) l this.1 this.2 open_n
                | inr old ↦ fits.ends n l open_n old
              ];
          done = λ n done. heard_more h.heard d n (at h.given n) (fits.done n (sym (at_n n) ∙ done));
          sent = sent_after;
        }
      where
        again_byte : IsRepeat h.rx d.number d.view → {n : ℕ} → n ≡ d.number → (p b : ℕ) → byte_at d.view p ≡ Some b → got h.rx n ≢ Done → held_at (got h.rx n) p ≡ None → ⊥
        again_byte (inl below) e p b is open_n none = open_n (ap (got h.rx) e ∙ below_rx_next h.rx d.number below)
        again_byte (inr (inl done)) e p b is open_n none = open_n (ap (got h.rx) e ∙ done)
        again_byte (inr (inr full)) e p b is open_n none = full.0 p (byte_from d.view p b is) (byte_below d.view p b is) (ap (λ (n : ℕ). held_at (got h.rx n) p) (sym e) ∙ none)

        again_end : IsRepeat h.rx d.number d.view → {n : ℕ} → n ≡ d.number → (l : ℕ) → is_end d.view.si ≡ true → end_of d.view ≡ l → got h.rx n ≢ Done → len_of (got h.rx n) ≡ Some l
        again_end (inl below) e l ends at_l open_n = absurd (open_n (ap (got h.rx) e ∙ below_rx_next h.rx d.number below))
        again_end (inr (inl done)) e l ends at_l open_n = absurd (open_n (ap (got h.rx) e ∙ done))
        again_end (inr (inr full)) e l ends at_l open_n = ap len_of (ap (got h.rx) e) ∙ elim full.1 [
          | inl goes_on ↦ absurd (false≢true (sym goes_on ∙ ends))
          | inr known ↦
              let k = held_some (len_of (got h.rx d.number)) known in
              k.1 ∙ ap (λ (l : ℕ). Some l) (inv.rx.len d.number k.0 k.1 ∙ sym (piece.last.0 ends) ∙ at_l)
        ]

    module _ (held : List (Option ℕ)) (len : Option ℕ) (places : Places (got h.rx d.number) d.view held len) where
      placed_has : (p b : ℕ) → get_or held p None ≡ Some b → HasByte (d ∷ h.heard) d.number p b
      placed_has p b is = elim (first_cases (held_at (got h.rx d.number) p) (byte_at d.view p) b (sym (places.bytes p) ∙ is)) [
        | inl e ↦ byte_more h.heard d d.number p b (fits.held d.number p b e)
        | inr e ↦ (d, contains_here d h.heard, refl, e)
      ]

      placed_end : (l : ℕ) → len ≡ Some l → HasEnd (d ∷ h.heard) d.number l
      placed_end l is = elim (cases_Bool (is_end d.view.si)) [
        | inl ends ↦ (d, contains_here d h.heard, refl, ends, sym (same_Some l (end_of d.view) (sym is ∙ places.its_length ∙ cond-true (is_end d.view.si) (Some (end_of d.view)) (len_of (got h.rx d.number)) ends)))
        | inr goes_on ↦ end_more h.heard d d.number l (fits.len d.number l (sym (cond-false (is_end d.view.si) (Some (end_of d.view)) (len_of (got h.rx d.number)) goes_on) ∙ sym places.its_length ∙ is))
      ]

      has_placed : got h.rx d.number ≢ Done → (p b : ℕ) → HasByte (d ∷ h.heard) d.number p b → get_or held p None ≢ None
      has_placed open_d p b has none = elim (byte_cases h.heard d d.number p b has) [
        | inl this ↦ first_some (held_at (got h.rx d.number) p) (byte_at d.view p) b this.1 (sym (places.bytes p) ∙ none)
        | inr old ↦ first_kept (held_at (got h.rx d.number) p) (byte_at d.view p) (fits.bytes d.number p b open_d old) (sym (places.bytes p) ∙ none)
      ]

      has_end : got h.rx d.number ≢ Done → (l : ℕ) → HasEnd (d ∷ h.heard) d.number l → len ≡ Some l
      has_end open_d l has = places.its_length ∙ elim (cases_Bool (is_end d.view.si)) [
        | inl ends ↦ cond-true (is_end d.view.si) (Some (end_of d.view)) (len_of (got h.rx d.number)) ends ∙ elim (end_cases h.heard d d.number l has) [
          | inl this ↦ ap (λ (l : ℕ). Some l) this.2
          | inr old ↦ ap (λ (l : ℕ). Some l) (piece.last.0 ends ∙ sym (inv.rx.len d.number l (fits.ends d.number l open_d old)))
        ]
        | inr goes_on ↦ cond-false (is_end d.view.si) (Some (end_of d.view)) (len_of (got h.rx d.number)) goes_on ∙ elim (end_cases h.heard d d.number l has) [
          | inl this ↦ absurd (false≢true (sym goes_on ∙ this.1))
          | inr old ↦ fits.ends d.number l open_d old
        ]
      ]

    -- of another number nothing new is heard
    byte_other : (n p b : ℕ) → n ≢ d.number → HasByte (d ∷ h.heard) n p b → HasByte h.heard n p b
    byte_other n p b ne has = ⊎_elim (λ this. absurd (ne (sym this.0))) (λ old. old) (byte_cases h.heard d n p b has)

    end_other : (n l : ℕ) → n ≢ d.number → HasEnd (d ∷ h.heard) n l → HasEnd h.heard n l
    end_other n l ne has = ⊎_elim (λ this. absurd (ne (sym this.0))) (λ old. old) (end_cases h.heard d n l has)

    stores_fits : got h.rx d.number ≢ Done → Stores h.rx d.number d.view r → After
    stores_fits open_d s = record {
      held = λ n p b is. elim (cases_eq n d.number) [
        | inl e ↦ subst (λ (n : ℕ). HasByte (d ∷ h.heard) n p b) (sym e) (placed_has s.held s.len s.places p b (sym (ap (λ (g : Got). held_at g p) (ap (got r) e ∙ s.enters.this)) ∙ is))
        | inr ne ↦ byte_more h.heard d n p b (fits.held n p b (sym (ap (λ (g : Got). held_at g p) (s.enters.others n ne)) ∙ is))
      ];
      bytes = λ n p b not_done has none. elim (cases_eq n d.number) [
        | inl e ↦ has_placed s.held s.len s.places open_d p b (subst (λ (n : ℕ). HasByte (d ∷ h.heard) n p b) e has) (sym (ap (λ (g : Got). held_at g p) (ap (got r) e ∙ s.enters.this)) ∙ none)
        | inr ne ↦ fits.bytes n p b (λ done. not_done (s.enters.others n ne ∙ done)) (byte_other n p b ne has) (sym (ap (λ (g : Got). held_at g p) (s.enters.others n ne)) ∙ none)
      ];
      len = λ n l is. elim (cases_eq n d.number) [
        | inl e ↦ subst (λ (n : ℕ). HasEnd (d ∷ h.heard) n l) (sym e) (placed_end s.held s.len s.places l (sym (ap len_of (ap (got r) e ∙ s.enters.this)) ∙ is))
        | inr ne ↦ end_more h.heard d n l (fits.len n l (sym (ap len_of (s.enters.others n ne)) ∙ is))
      ];
      ends = λ n l not_done has. elim (cases_eq n d.number) [
        | inl e ↦ ap len_of (ap (got r) e ∙ s.enters.this) ∙ has_end s.held s.len s.places open_d l (subst (λ (n : ℕ). HasEnd (d ∷ h.heard) n l) e has)
        | inr ne ↦ ap len_of (s.enters.others n ne) ∙ fits.ends n l (λ done. not_done (s.enters.others n ne ∙ done)) (end_other n l ne has)
      ];
      done = λ n done. elim (cases_eq n d.number) [
        | inl e ↦ absurd (part_not_done s.held s.len (sym s.enters.this ∙ ap (got r) (sym e) ∙ done))
        | inr ne ↦ heard_more h.heard d n (at h.given n) (fits.done n (sym (s.enters.others n ne) ∙ done))
      ];
      sent = sent_after;
    }

    completes_fits : (sdu : List ℕ) → sdu ≡ at h.given d.number → Completes h.rx d.number d.view sdu r → After
    completes_fits sdu same s = record {
      held = λ n p b is. elim (cases_eq n d.number) [
        | inl e ↦ absurd (none-some b (sym (ap (λ (g : Got). held_at g p) (ap (got r) e ∙ s.enters.this)) ∙ is))
        | inr ne ↦ byte_more h.heard d n p b (fits.held n p b (sym (ap (λ (g : Got). held_at g p) (s.enters.others n ne)) ∙ is))
      ];
      bytes = λ n p b not_done has none. elim (cases_eq n d.number) [
        | inl e ↦ not_done (ap (got r) e ∙ s.enters.this)
        | inr ne ↦ fits.bytes n p b (λ done. not_done (s.enters.others n ne ∙ done)) (byte_other n p b ne has) (sym (ap (λ (g : Got). held_at g p) (s.enters.others n ne)) ∙ none)
      ];
      len = λ n l is. elim (cases_eq n d.number) [
        | inl e ↦ absurd (none-some l (sym (ap len_of (ap (got r) e ∙ s.enters.this)) ∙ is))
        | inr ne ↦ end_more h.heard d n l (fits.len n l (sym (ap len_of (s.enters.others n ne)) ∙ is))
      ];
      ends = λ n l not_done has. elim (cases_eq n d.number) [
        | inl e ↦ absurd (not_done (ap (got r) e ∙ s.enters.this))
        | inr ne ↦ ap len_of (s.enters.others n ne) ∙ fits.ends n l (λ done. not_done (s.enters.others n ne ∙ done)) (end_other n l ne has)
      ];
      done = λ n done. elim (cases_eq n d.number) [
        | inl e ↦ subst (λ (n : ℕ). HeardAs (d ∷ h.heard) n (at h.given n)) (sym e) (subst (HeardAs (d ∷ h.heard) d.number) same (record {
          end = placed_end s.held s.len s.places (length sdu) s.covers.known;
          bytes = λ p lt. placed_has s.held s.len s.places p (get_or sdu p 0) (s.covers.bytes p lt);
        }))
        | inr ne ↦ heard_more h.heard d n (at h.given n) (fits.done n (sym (s.enters.others n ne) ∙ done))
      ];
      sent = sent_after;
    }

  -- hearing a data PDU keeps it
  delivers_fits : (d : Data) (r : Rx) → Contains h.pdus d → IsFresh h.rx.size false d.number (rx_next h.rx) → (answer : Heard) → Hears h.rx d.view answer r → Invariant (record h { rx = r; completed = completed_after answer h.completed; heard = d ∷ h.heard }) → Delivered (record h { rx = r; completed = completed_after answer h.completed; heard = d ∷ h.heard })
  delivers_fits d r among fresh Outside hears next = absurd (hears.0 d.number (own_number h inv d among fresh))
  delivers_fits d r among fresh Conflict hears next = absurd (no_conflict h.rx h.given hears.0 d.view inv.rx (subst (λ (n : ℕ). IsPiece (at h.given n) d.view) (sym (own d r among fresh h.completed hears.0 hears.1)) (piece d r among fresh h.completed)) hears.3)
  delivers_fits d r among fresh Repeat hears next =
      repeats d r among fresh h.completed (ap (λ (r : Rx). r.received) hears.3) (subst (λ (x : ℕ). IsRepeat h.rx x d.view) (own d r among fresh h.completed hears.0 hears.1) hears.2)
  delivers_fits d r among fresh Stored hears next =
      let same = own d r among fresh h.completed hears.0 hears.1 in
      stores_fits d r among fresh h.completed (λ done. hears.2 (inr (inl (ap (got h.rx) same ∙ done)))) (subst (λ (x : ℕ). Stores h.rx x d.view r) same hears.4)
  delivers_fits d r among fresh (Complete x sdu) hears next =
      let same = own d r among fresh h.completed x hears.0 in
      completes_fits d r among fresh (record { number = x; sdu = sdu } ∷ h.completed) sdu ((next.completed.each (record { number = x; sdu = sdu }) (contains_here (record { number = x; sdu = sdu }) h.completed)).1 ∙ ap (at h.given) same) (subst (λ (x : ℕ). Completes h.rx x d.view sdu r) same hears.3)

-- each event keeps it
delivered_each : (old : Hop) (e : Event) (new : Hop) → Reaches old → Delivered old → Happens old e new → Delivered new
delivered_each old e new reached fits x = go x (reaches_inv new (reaches_more old e new reached x))
  where
    inv : Invariant old
    inv = reaches_inv old reached

    other : (t : Tx) (r : Rx) → r.received ≡ (old.rx).received → (statuses : List StatusMade) → Delivered (record old { tx = t; rx = r; statuses = statuses })
    other t r same statuses = same_fits old inv fits t r same statuses old.pdus (λ d among. among)

    go : {e : Event} {new : Hop} → Happens old e new → Invariant new → Delivered new
    go (gives {sdu = sdu} number t some small g) next = gives_fits old inv fits t sdu
    go (sends m v t s) next = same_fits old inv fits t old.rx refl old.statuses (record { number = m; view = v } ∷ old.pdus) (λ d among. contains_later (record { number = m; view = v }) old.pdus d among)
    go (makes_status a s r m) next = other old.tx r (ap (λ (r : Rx). r.received) m.after) (record { ack = a; status = s } ∷ old.statuses)
    go (delivers {d = d} answer r among fresh hears) next = delivers_fits old inv fits d r among fresh answer hears next
    go (acknowledges answer x among fresh hears) next = other x old.rx refl old.statuses
    go (expires_poll marks t x) next = other t old.rx refl old.statuses
    go (expires_reassembly r x) next = other old.tx r (ap (λ (r : Rx). r.received) x.is) old.statuses
    go (expires_prohibit r x) next = other old.tx r (ap (λ (r : Rx). r.received) x.is) old.statuses

-- at the start nothing is got and nothing was delivered
starts_delivered : (s : SnSize) (poll_pdu poll_byte max_retx_threshold : ℕ) → Delivered (start s poll_pdu poll_byte max_retx_threshold)
starts_delivered s poll_pdu poll_byte max_retx_threshold = record {
  held = λ n p b is. absurd (none-some b is);
  bytes = λ n p b not_done has. absurd (contains_nil has.0 has.1);
  len = λ n l is. absurd (none-some l is);
  ends = λ n l not_done has. absurd (contains_nil has.0 has.1);
  done = λ n done. absurd (part_not_done [] None done);
  sent = λ d among. absurd (contains_nil d among);
}

-- it holds after every run
reaches_delivered : (h : Hop) → Reaches h → Delivered h
reaches_delivered = everywhere Delivered starts_delivered delivered_each

pub completes_heard : CompletesHeard
completes_heard h run n lt = (
  λ done. (reaches_delivered h run).done n done,
  λ heard. elim (cases_done (got h.rx n)) [
    | inl done ↦ done
    | inr open_n ↦ absurd ((reaches_inv h run).sound.parts.lacks n open_n (λ p within.
        let fits = reaches_delivered h run in
        let len : len_of (got h.rx n) ≡ Some (length (given_at h n)) = fits.ends n (length (given_at h n)) open_n heard.end in
        fits.bytes n p (get_or (given_at h n) p 0) open_n (heard.bytes p (within (length (given_at h n)) len))))
  ],
)

pub heard_as_given : HeardAsGiven
heard_as_given h run n sdu heard =
    let inv = reaches_inv h run in
    let fits = reaches_delivered h run in
    let end_d = inv.pdus heard.end.0 (fits.sent heard.end.0 heard.end.1) in
    let long : length sdu ≡ length (given_at h n) = sym heard.end.4 ∙ end_d.piece.last.0 heard.end.3 ∙ ap (λ (n : ℕ). length (at h.given n)) heard.end.2 in (
      subst (λ (n : ℕ). n < length h.given) heard.end.2 end_d.number,
      ext_get_or 0 sdu (given_at h n) long (λ p lt.
          let b = heard.bytes p lt in
          let d_is = inv.pdus b.0 (fits.sent b.0 b.1) in
          (piece_byte (at h.given (b.0).number) (b.0).view p (get_or sdu p 0) d_is.piece b.3).1 ∙ ap (λ (n : ℕ). get_or (at h.given n) p 0) b.2),
    )

pub holds_heard : HoldsHeard
holds_heard h run n p open_n = (
  λ none b has. (reaches_delivered h run).bytes n p b open_n has none,
  λ unheard. none_of (held_at (got h.rx n) p) (λ b is. unheard b ((reaches_delivered h run).held n p b is)),
)
  where
    none_of : (o : Option ℕ) → ((b : ℕ) → o ≡ Some b → ⊥) → o ≡ None
    none_of None never = refl
    none_of (Some b) never = absurd (never b refl)

pub knows_heard_end : KnowsHeardEnd
knows_heard_end h run n l open_n = (λ is. (reaches_delivered h run).len n l is, λ has. (reaches_delivered h run).ends n l open_n has)

pub hears_sent : HearsSent
hears_sent h run = (reaches_delivered h run).sent
