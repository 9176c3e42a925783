-- What each call of a receiver keeps, whatever data PDU comes.
use Rattle.std.proofs.Common.{◌≡◌, ◌≢◌, inl, inr, ℕ, ◌+◌, ◌<◌, ◌≤◌, Bool, true, false, ◌||◌, List, [], get_or, Option, Some, None, refl, sym, ◌∙◌, ap, subst, arith}
use Rattle.std.proofs.lemmas.Bool.{cases_lt, cases_eq, cases_Bool, cond-true, cond-false}
use Rattle.std.proofs.lemmas.Option.{none-some, same_Some}
use Rattle.link_base.specs.SequenceNumbers.{window}
use Rattle.link_base.specs.declared.limits.TheConstants.{LONGEST_RLC_SDU}
use Rattle.rlc_pdu.specs.Amd.{Amd}
use Rattle.rlc_model.specs.declared.receiver.Heard.{Heard}
use Rattle.rlc_model.specs.declared.receiver.Heard.TheVariants.{Stored, Complete, Repeat, Outside, Conflict}
use Rattle.rlc_model.specs.Numbers.{IsFirst}
use Rattle.rlc_model.specs.Pdu.{end_of, is_end, byte_at}
use Rattle.rlc_model.specs.Rx.{Rx, Got, Done, Part, got, held_at, len_of, rx_next_highest, rx_next, Enters, Reassembles, runs_on, starts, rests, IsConflict, held_past, past_length, PollsAtOnce, Stores, Completes, Hears, ExpiresReassembly}
use Rattle.rlc_model.specs.Made.{IsWithin}
use Rattle.rlc_law.specs.Receiver.{IsSound, hears, makes_status, expires_reassembly, expires_prohibit, StartsSound, StaysSound}
use Rattle.rlc_law.proofs.Base.{past_highest, part_not_done, below_rx_next, at_rx_next, window_pos}
use Rattle.rlc_law.proofs.Bytes.{held_some, first_cases, byte_below}

-- RX_Next is at most RX_Highest_Status
pub next_le_status : (r : Rx) → IsSound r → rx_next r ≤ r.rx_highest_status
next_le_status r ok = elim (cases_lt r.rx_highest_status (rx_next r)) [
  | inl lt ↦ absurd (ok.highest_status (below_rx_next r r.rx_highest_status lt))
  | inr le ↦ le
]

-- the first number from x on that is not complete is at most RX_Next_Highest
pub first_within : (r : Rx) (x y : ℕ) → x ≤ rx_next_highest r → IsFirst (λ n. got r n ≢ Done) x y → y ≤ rx_next_highest r
first_within r x y le first = elim (cases_lt (rx_next_highest r) y) [
  | inl past ↦ absurd (first.none (rx_next_highest r) le past (λ e. part_not_done [] None (sym (past_highest r (rx_next_highest r) (omega arith)) ∙ e)))
  | inr within ↦ within
]

-- what is complete stays so
abbrev pub DoneStays : Rx → Rx → Type 0
DoneStays old new = (n : ℕ) → got old n ≡ Done → got new n ≡ Done

-- what is stored completes no number and opens none
pub stores_stays : (old new : Rx) (x : ℕ) (v : Amd) → got old x ≢ Done → Stores old x v new → DoneStays old new
stores_stays old new x v not_done s n is = elim (cases_eq n x) [
  | inl e ↦ absurd (not_done (ap (got old) (sym e) ∙ is))
  | inr ne ↦ s.enters.others n ne ∙ is
]

-- what completes a number opens none
pub completes_stays : (old new : Rx) (x : ℕ) (v : Amd) (sdu : List ℕ) → Completes old x v sdu new → DoneStays old new
completes_stays old new x v sdu s n is = elim (cases_eq n x) [
  | inl e ↦ ap (got new) e ∙ s.enters.this
  | inr ne ↦ s.enters.others n ne ∙ is
]

-- RX_Next never falls
pub stays_next : (old new : Rx) → DoneStays old new → rx_next old ≤ rx_next new
stays_next old new stays = elim (cases_lt (rx_next new) (rx_next old)) [
  | inl lt ↦ absurd (at_rx_next new (stays (rx_next new) (below_rx_next old (rx_next new) lt)))
  | inr le ↦ le
]

-- the receiver with the same entries
abbrev pub with : Rx → ℕ → Option ℕ → Bool → List ℕ → Bool → Rx
with r status trigger triggered polls prohibit = record r { rx_highest_status = status; rx_next_status_trigger = trigger; status_triggered = triggered; delayed_polls = polls; status_prohibit_runs = prohibit }

-- a receiver with the same entries is sound where its variables are in order
pub with_ok : (r : Rx) (trigger : Option ℕ) (triggered : Bool) (polls : List ℕ) (prohibit : Bool) (status : ℕ) → IsSound r → got r status ≢ Done → status ≤ rx_next_highest r → ((t : ℕ) → trigger ≡ Some t → t ≤ rx_next_highest r) → IsSound (with r status trigger triggered polls prohibit)
with_ok r trigger triggered polls prohibit status ok open_status limit bound = record { parts = record { small = ok.parts.small; known = ok.parts.known; inside = ok.parts.inside; lacks = ok.parts.lacks }; highest_status = open_status; limit = limit; within = ok.within; trigger = bound }

module _ (old new : Rx) (x : ℕ) (v : Amd) (ok : IsSound old) (fits : end_of v ≤ 9005) (high : x < rx_next old + window old.size) where
  -- the trigger is at most RX_Next_Highest
  timer_ok : (g : Got) → Enters old x g new → Reassembles old.rx_next_status_trigger new → (t : ℕ) → new.rx_next_status_trigger ≡ Some t → t ≤ rx_next_highest new
  timer_ok g enters (runs_on u was still e) t is = omega (arith, ok.trigger u was, same_Some t u (sym is ∙ e), enters.long)
  timer_ok g enters (starts none start e) t is = omega (arith, same_Some t (rx_next_highest new) (sym is ∙ e))
  timer_ok g enters (rests none rest e) t is = absurd (none-some t (sym e ∙ is))

  -- which is at most a window above RX_Next
  within_ok : (g : Got) → Enters old x g new → DoneStays old new → new.size ≡ old.size → rx_next_highest new ≤ rx_next new + window new.size
  within_ok g enters stays size = omega (arith, enters.long, ok.within, high, stays_next old new stays, ap window size)

  module _ (s : Stores old x v new) (not_done : got old x ≢ Done) (fine : IsConflict (got old x) v → ⊥) where
    placed_known : (l : ℕ) → s.len ≡ Some l → l ≤ LONGEST_RLC_SDU
    placed_known l is = elim (cases_Bool (is_end v.si)) [
      | inl ends ↦ omega (arith, same_Some l (end_of v) (sym is ∙ s.places.its_length ∙ cond-true (is_end v.si) (Some (end_of v)) (len_of (got old x)) ends))
      | inr goes_on ↦ ok.parts.known x l (sym (cond-false (is_end v.si) (Some (end_of v)) (len_of (got old x)) goes_on) ∙ sym s.places.its_length ∙ is)
    ]

    placed_inside : (l p : ℕ) → s.len ≡ Some l → get_or s.held p None ≢ None → p < l
    placed_inside l p is h =
        let b = held_some _ h in
        let from = first_cases (held_at (got old x) p) (byte_at v p) b.0 (sym (s.places.bytes p) ∙ b.1) in
        elim (cases_Bool (is_end v.si)) [
          | inl ends ↦
              let e : l ≡ end_of v = same_Some l (end_of v) (sym is ∙ s.places.its_length ∙ cond-true (is_end v.si) (Some (end_of v)) (len_of (got old x)) ends) in
              elim (cases_lt p l) [
                | inl lt ↦ lt
                | inr past ↦ elim from [
                  | inl held ↦ absurd (fine (held_past p ends (omega (arith, e)) (λ none. none-some b.0 (sym none ∙ held))))
                  | inr byte ↦ absurd (omega (arith, e, byte_below v p b.0 byte))
                ]
              ]
          | inr goes_on ↦
              let was : len_of (got old x) ≡ Some l = sym (cond-false (is_end v.si) (Some (end_of v)) (len_of (got old x)) goes_on) ∙ sym s.places.its_length ∙ is in
              elim from [
                | inl held ↦ ok.parts.inside x l p was (λ none. none-some b.0 (sym none ∙ held))
                | inr byte ↦ elim (cases_lt l (end_of v)) [
                  | inl past ↦ absurd (fine (past_length l was past))
                  | inr within ↦ omega (arith, byte_below v p b.0 byte)
                ]
              ]
        ]

    placed_small : (p : ℕ) → get_or s.held p None ≢ None → p < LONGEST_RLC_SDU
    placed_small p h =
        let b = held_some _ h in
        elim (first_cases (held_at (got old x) p) (byte_at v p) b.0 (sym (s.places.bytes p) ∙ b.1)) [
          | inl e ↦ ok.parts.small x p (λ none. none-some b.0 (sym none ∙ e))
          | inr e ↦ omega (arith, byte_below v p b.0 e)
        ]

    stores_small : (n p : ℕ) → held_at (got new n) p ≢ None → p < LONGEST_RLC_SDU
    stores_small n p h = elim (cases_eq n x) [
      | inl e ↦ placed_small p (λ none. h (ap (λ (g : Got). held_at g p) (ap (got new) e ∙ s.enters.this) ∙ none))
      | inr ne ↦ ok.parts.small n p (λ none. h (ap (λ (g : Got). held_at g p) (s.enters.others n ne) ∙ none))
    ]

    part_lacks : ((p : ℕ) → IsWithin (Part s.held s.len) p → get_or s.held p None ≢ None) → ⊥
    part_lacks whole = go s.len refl
      where
        go : (o : Option ℕ) → s.len ≡ o → ⊥
        go None e = absurd (omega (arith, placed_small 65535 (whole 65535 (λ l is. absurd (none-some l (sym e ∙ is))))))
        go (Some l) e = s.partial (l, e, λ p lt. whole p (λ k is. omega (arith, same_Some k l (sym is ∙ e))))

    pub stores_ok : IsSound new
    stores_ok = record {
      parts = record {
        small = stores_small;
        known = λ n l is. elim (cases_eq n x) [
          | inl e ↦ placed_known l (sym (ap len_of (ap (got new) e ∙ s.enters.this)) ∙ is)
          | inr ne ↦ ok.parts.known n l (sym (ap len_of (s.enters.others n ne)) ∙ is)
        ];
        inside = λ n l p is h. elim (cases_eq n x) [
          | inl e ↦ placed_inside l p (sym (ap len_of (ap (got new) e ∙ s.enters.this)) ∙ is) (λ none. h (ap (λ (g : Got). held_at g p) (ap (got new) e ∙ s.enters.this) ∙ none))
          | inr ne ↦ ok.parts.inside n l p (sym (ap len_of (s.enters.others n ne)) ∙ is) (λ none. h (ap (λ (g : Got). held_at g p) (s.enters.others n ne) ∙ none))
        ];
        lacks = λ n open_n whole. elim (cases_eq n x) [
          | inl e ↦ part_lacks (subst (λ (g : Got). (p : ℕ) → IsWithin g p → held_at g p ≢ None) (ap (got new) e ∙ s.enters.this) whole)
          | inr ne ↦ ok.parts.lacks n (λ done. open_n (s.enters.others n ne ∙ done)) (subst (λ (g : Got). (p : ℕ) → IsWithin g p → held_at g p ≢ None) (s.enters.others n ne) whole)
        ];
      };
      highest_status = λ done. elim (cases_eq new.rx_highest_status x) [
        | inl e ↦ part_not_done s.held s.len (sym s.enters.this ∙ ap (got new) (sym e) ∙ done)
        | inr ne ↦ ok.highest_status (ap (got old) (sym s.highest_status) ∙ sym (s.enters.others new.rx_highest_status ne) ∙ done)
      ];
      limit = omega (arith, ok.limit, s.highest_status, s.enters.long);
      within = within_ok (Part s.held s.len) s.enters (stores_stays old new x v not_done s) s.size;
      trigger = timer_ok (Part s.held s.len) s.enters s.reassembly;
    }

  module _ (sdu : List ℕ) (s : Completes old x v sdu new) where
    pub completes_ok : IsSound new
    completes_ok = record {
      parts = record {
        small = λ n p h. elim (cases_eq n x) [
          | inl e ↦ absurd (h (ap (λ (g : Got). held_at g p) (ap (got new) e ∙ s.enters.this)))
          | inr ne ↦ ok.parts.small n p (λ none. h (ap (λ (g : Got). held_at g p) (s.enters.others n ne) ∙ none))
        ];
        known = λ n l is. elim (cases_eq n x) [
          | inl e ↦ absurd (none-some l (sym (ap len_of (ap (got new) e ∙ s.enters.this)) ∙ is))
          | inr ne ↦ ok.parts.known n l (sym (ap len_of (s.enters.others n ne)) ∙ is)
        ];
        inside = λ n l p is h. elim (cases_eq n x) [
          | inl e ↦ absurd (h (ap (λ (g : Got). held_at g p) (ap (got new) e ∙ s.enters.this)))
          | inr ne ↦ ok.parts.inside n l p (sym (ap len_of (s.enters.others n ne)) ∙ is) (λ none. h (ap (λ (g : Got). held_at g p) (s.enters.others n ne) ∙ none))
        ];
        lacks = λ n open_n whole. elim (cases_eq n x) [
          | inl e ↦ open_n (ap (got new) e ∙ s.enters.this)
          | inr ne ↦ ok.parts.lacks n (λ done. open_n (s.enters.others n ne ∙ done)) (subst (λ (g : Got). (p : ℕ) → IsWithin g p → held_at g p ≢ None) (s.enters.others n ne) whole)
        ];
      };
      highest_status = elim s.highest_status [
        | inl e ↦ e.1.has
        | inr e ↦ λ done. ok.highest_status (ap (got old) (sym e.1) ∙ sym (s.enters.others new.rx_highest_status (λ same. e.0 (sym same ∙ e.1))) ∙ done)
      ];
      limit = elim s.highest_status [
        | inl e ↦ first_within new (x + 1) new.rx_highest_status (omega (arith, s.enters.long)) e.1
        | inr e ↦ omega (arith, ok.limit, s.enters.long, e.1)
      ];
      within = within_ok Done s.enters (completes_stays old new x v sdu s) s.size;
      trigger = timer_ok Done s.enters s.reassembly;
    }

-- the expiry of t-Reassembly leaves a sound receiver
pub expires_ok : (old new : Rx) → IsSound old → ExpiresReassembly old new → IsSound new
expires_ok old new ok x = subst IsSound (sym x.is) (with_ok old new.rx_next_status_trigger true new.delayed_polls old.status_prohibit_runs new.rx_highest_status ok x.highest_status.has
    (first_within old x.trigger new.rx_highest_status (ok.trigger x.trigger x.runs) x.highest_status)
    (λ t is. elim x.reassembly [
      | inl e ↦ omega (arith, same_Some t (rx_next_highest old) (sym is ∙ e.1))
      | inr e ↦ absurd (none-some t (sym e.1 ∙ is))
    ]))

-- so does a poll at once
polled_ok : (old new : Rx) (v : Amd) → IsSound old → PollsAtOnce old v new → IsSound new
polled_ok old new v ok is = subst IsSound (sym is) (with_ok old old.rx_next_status_trigger (old.status_triggered || v.poll) old.delayed_polls old.status_prohibit_runs old.rx_highest_status ok ok.highest_status ok.limit ok.trigger)

-- and hearing a data PDU
pub hears_ok : (old new : Rx) (v : Amd) (answer : Heard) → IsSound old → end_of v ≤ 9005 → Hears old v answer new → IsSound new
hears_ok old new v Outside ok fits x = polled_ok old new v ok x.1
hears_ok old new v Repeat ok fits x = polled_ok old new v ok x.3
hears_ok old new v Conflict ok fits x = polled_ok old new v ok x.4
hears_ok old new v Stored ok fits x = stores_ok old new x.0 v ok fits (x.1).high x.4 (λ done. x.2 (inr (inl done))) x.3
hears_ok old new v (Complete n sdu) ok fits x = completes_ok old new n v ok fits (x.0).high sdu x.3

pub stays_sound : StaysSound
stays_sound old new ok (hears v answer fits x) = hears_ok old new v answer ok fits.end x
stays_sound old new ok (makes_status n a s x) = subst IsSound (sym x.after) (with_ok old old.rx_next_status_trigger false old.delayed_polls true old.rx_highest_status ok ok.highest_status ok.limit ok.trigger)
stays_sound old new ok (expires_reassembly x) = expires_ok old new ok x
stays_sound old new ok (expires_prohibit x) = subst IsSound (sym x.is) (with_ok old old.rx_next_status_trigger old.status_triggered old.delayed_polls false old.rx_highest_status ok ok.highest_status ok.limit ok.trigger)

pub starts_sound : StartsSound
starts_sound size = record {
  parts = record {
    small = λ n p h. absurd (h refl);
    known = λ n l is. absurd (none-some l is);
    inside = λ n l p is h. absurd (h refl);
    lacks = λ n open_n whole. whole 0 (λ l is. absurd (none-some l is)) refl;
  };
  highest_status = part_not_done [] None;
  limit = omega arith;
  within = omega (arith, window_pos size);
  trigger = λ t is. absurd (none-some t is);
}
