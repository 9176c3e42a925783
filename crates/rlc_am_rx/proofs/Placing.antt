-- What becomes of a receiver once a PDU is placed, or there is no memory for it.
use Rattle.std.proofs.Common.{◌≡◌, ◌≢◌, ◌⊎◌, ◌↔◌, inl, inr, ℕ, ◌+◌, ◌-◌, ◌<◌, ◌≤◌, max, Bool, true, false, ◌||◌, List, [], length, get_or, set, Contains, Option, Some, None, refl, sym, ◌∙◌, ap, subst, arith}
use Rattle.std.specs.Bool.{MatchBool}
use Rattle.std.specs.List.Sorted.{IsStrictlyIncreasing}
use Rattle.std.specs.Option.{is_some}
use Rattle.std.proofs.Math.Bool.{or-true}
use Rattle.std.proofs.lemmas.Bool.{cases_Bool, cases_eq, cases_lt, or_cases, MatchBool-at_true, MatchBool-at_false}
use Rattle.std.proofs.lemmas.Option.{none-some, same_Some}
use Rattle.link_base.specs.declared.names.SnSize.{SnSize}
use Rattle.link_base.specs.declared.names.SnSize.TheVariants.{S12, S18}
use Rattle.link_base.specs.SequenceNumbers.{window}
use Rattle.rlc_pdu.specs.Amd.{Amd}
use Rattle.rlc_model.specs.Numbers.{IsFirst}
use Rattle.rlc_model.specs.Rx.{Rx, Got, got, rx_next, rx_next_highest, IsDue, IsRepeat, Polls, Reassembles, HasGap, HasToRun, HasToRunBelow, RunsOnFrom, TriggerMoves, runs_on, starts, rests}
use Rattle.rlc_model.specs.Rx.Got.{Done, Part}
use Rattle.rlc_am_rx.specs.declared.reassembly.Entry.{Entry}
use Rattle.rlc_am_rx.specs.declared.receiver.AmRx.TheInside.{Inside}
use Rattle.rlc_am_rx.specs.Hearing.{heard_of, PlacesAs}
use Rattle.rlc_am_rx.specs.Polling.{AddsIf, Drops, HasBelow}
use Rattle.rlc_am_rx.specs.Reassembly.{got_at, got_of, MovesStatus, PlacesSdu, StartsFrom}
use Rattle.rlc_am_rx.specs.Receiver.{received_of, receiver_of, EntriesFit, IsReceiver}
use Rattle.rlc_am_rx.proofs.Entries.{got_here, got_is, got_other, got_same, got_this, fits_same}
use Rattle.rlc_am_rx.proofs.Soundness.{same_sound}
use Rattle.rlc_am_rx.proofs.State.{next_at}

-- entries of which the same is got, and the same polls, are the same receiver
module _ (a b : Inside) (is : b ≡ record a { entries = b.entries; delayed_polls = b.delayed_polls }) (i : IsReceiver a)
    (long : length a.entries.items ≤ length b.entries.items) (same : (k : ℕ) → got_at b.entries.items k ≡ got_at a.entries.items k)
    (same_polls : b.delayed_polls ≡ a.delayed_polls) where
  fit : EntriesFit a.rx_next a.rx_next_highest b.entries.items
  fit = fits_same a.rx_next a.rx_next_highest a.entries.items b.entries.items i.entries long same

  pub kept_view : receiver_of b ≡ receiver_of a
  kept_view = ap receiver_of is ∙ ap (λ (l : List Got). record (receiver_of a) { received = l; delayed_polls = b.delayed_polls })
      (got_same a.rx_next a.rx_next_highest a.entries.items b.entries.items i.entries fit same)
      ∙ ap (λ (l : List ℕ). record (receiver_of a) { delayed_polls = l }) same_polls

  pub kept_ok : IsReceiver b
  kept_ok = subst IsReceiver (sym is) (record {
    sound = same_sound (receiver_of a) _ (got_same a.rx_next a.rx_next_highest a.entries.items b.entries.items i.entries fit same) refl refl refl i.sound;
    small = i.small;
    entries = fit;
    front = λ done. i.front (sym (same 0) ∙ done);
    trigger = i.trigger;
    polls = λ k has. i.polls k (subst (λ (l : List ℕ). Contains l k) same_polls has);
  })

-- t-Reassembly, where the same decides
pub trigger_moves : (before after : Option ℕ) (on on' : ℕ → Type 0) (has_to has_to' : Type 0) (highest highest' : ℕ)
    → ((t : ℕ) → on t ↔ on' t) → (has_to ↔ has_to') → highest ≡ highest' → TriggerMoves before on has_to highest after
    → TriggerMoves before on' has_to' highest' after
trigger_moves before after on on' has_to has_to' highest highest' same same_to same_high (runs_on t was runs is) = runs_on t was ((same t).0 runs) is
trigger_moves before after on on' has_to has_to' highest highest' same same_to same_high (starts stops needs is) =
    starts (λ t was runs. stops t was ((same t).1 runs)) (same_to.0 needs) (is ∙ ap (λ (h : ℕ). Some h) same_high)
trigger_moves before after on on' has_to has_to' highest highest' same same_to same_high (rests stops idle is) =
    rests (λ t was runs. stops t was ((same t).1 runs)) (λ needs. idle (same_to.1 needs)) is

-- a trigger that was set isn't below RX_Next
pub trigger_from_next : (before : Option ℕ) (r : Rx) (t : ℕ) → Reassembles before r → r.rx_next_status_trigger ≡ Some t → rx_next r ≤ t
trigger_from_next before r t (runs_on k was on is) set = omega (arith, on.above, same_Some k t (sym is ∙ set))
trigger_from_next before r t (starts stops (inl more) is) set = omega (arith, more, same_Some _ t (sym is ∙ set))
trigger_from_next before r t (starts stops (inr one) is) set = omega (arith, one.0, same_Some _ t (sym is ∙ set))
trigger_from_next before r t (rests stops idle is) set = absurd (none-some t (sym is ∙ set))

-- whether t-Reassembly has to run for x, by RX_Next_Highest and what is got of x
has_to_run_where : (r : Rx) (n x highest : ℕ) (g : Got) → n ≡ x → highest ≡ rx_next_highest r → g ≡ got r x
    → HasToRunBelow highest n (HasGap g) ↔ HasToRun r x
has_to_run_where r n x highest g same same_high same_got = (
  λ h. elim h [ inl more ↦ inl (omega (arith, more, same, same_high)) | inr one ↦ inr (omega (arith, one.0, same, same_high), subst HasGap same_got one.1) ],
  λ h. elim h [ inl more ↦ inl (omega (arith, more, same, same_high)) | inr one ↦ inr (omega (arith, one.0, same, same_high), subst HasGap (sym same_got) one.1) ],
)

-- the same of t-Reassembly once a PDU was placed
pub reassembles : (r : Rx) (before : Option ℕ) (next highest : ℕ) (g : Got) → next ≡ rx_next r → highest ≡ rx_next_highest r → g ≡ got r (rx_next r)
    → TriggerMoves before (RunsOnFrom next r.size (HasGap g)) (HasToRunBelow highest next (HasGap g)) highest r.rx_next_status_trigger
    → Reassembles before r
reassembles r before next highest g same same_high same_got moves =
    trigger_moves before r.rx_next_status_trigger _ _ _ _ highest (rx_next_highest r)
    (λ t. (
      λ h. record { above = omega (arith, h.above, same); within = omega (arith, h.within, same); gap = λ one. subst HasGap same_got (h.gap (omega (arith, one, same))) },
      λ h. record { above = omega (arith, h.above, same); within = omega (arith, h.within, same); gap = λ one. subst HasGap (sym same_got) (h.gap (omega (arith, one, same))) },
    ))
    (has_to_run_where r next (rx_next r) highest g same same_high same_got) same_high moves

-- and once it ran out
pub starts_again : (r : Rx) (x highest : ℕ) (g : Got) (after : Option ℕ) → highest ≡ rx_next_highest r → g ≡ got r x
    → StartsFrom (HasToRunBelow highest x (HasGap g)) highest after
    → (HasToRun r x × (after ≡ Some (rx_next_highest r))) ⊎ ((HasToRun r x → ⊥) × (after ≡ None))
starts_again r x highest g after same_high same_got from =
    let where_run : HasToRunBelow highest x (HasGap g) ↔ HasToRun r x = has_to_run_where r x x highest g refl same_high same_got in
    elim from [
      | inl runs ↦ inl (where_run.0 runs.0, runs.1 ∙ ap (λ (h : ℕ). Some h) same_high)
      | inr idle ↦ inr (λ has. idle.0 (where_run.1 has), idle.1)
    ]

-- with the poll of the PDU the delayed polls lie below the receiving window's end
pub polls_within : (a : Inside) (r : Rx) (x base : ℕ) (poll : Bool) (added : List ℕ) → IsReceiver a → receiver_of a ≡ r
    → x < rx_next r + window r.size → a.rx_next ≤ base → AddsIf a.delayed_polls poll x added
    → (k : ℕ) → Contains added k → k < base + window a.size
polls_within a r x base poll added i view_is within rises adds k has = elim ((adds k).0 has) [
  | inl had ↦ omega (arith, i.polls k had, rises)
  | inr this ↦ omega (arith, this.1, within, rises, next_at a r i view_is, ap (λ (q : Rx). window q.size) view_is)
]

-- the polls, of which all lie below the receiving window's end
module _ (old new : Rx) (x : ℕ) (poll due : Bool) (added : List ℕ) (adds : AddsIf old.delayed_polls poll x added)
    (drops : Drops added new.rx_highest_status new.delayed_polls)
    (tells : MatchBool due (HasBelow added new.rx_highest_status) (HasBelow added new.rx_highest_status → ⊥))
    (triggered : new.status_triggered ≡ (old.status_triggered || due))
    (within : (k : ℕ) → Contains added k → k < rx_next new + window new.size) where
  low_where_due : (k : ℕ) → Contains added k → IsDue new k → k < new.rx_highest_status
  low_where_due k has is = elim is [ inl low ↦ low | inr past ↦ omega (arith, past, within k has) ]

  triggered_then : new.status_triggered ≡ true
      → (old.status_triggered ≡ true) ⊎ ((poll ≡ true) × IsDue new x) ⊎ ((k : ℕ) × Contains old.delayed_polls k × IsDue new k)
  triggered_then is = elim (or_cases old.status_triggered due (sym triggered ∙ is)) [
    | inl was ↦ inl was
    | inr now ↦
        let one : HasBelow added new.rx_highest_status = MatchBool-at_true _ _ now tells in
        elim ((adds one.0).0 one.1) [
          | inl had ↦ inr (inr (one.0, had, inl one.2))
          | inr this ↦ inr (inl (this.0, inl (omega (arith, one.2, this.1))))
        ]
  ]

  below_then : HasBelow added new.rx_highest_status → new.status_triggered ≡ true
  below_then has = elim (cases_Bool due) [
    | inl now ↦ triggered ∙ ap (λ (b : Bool). old.status_triggered || b) now ∙ or-true old.status_triggered
    | inr never ↦ absurd (MatchBool-at_false _ _ never tells has)
  ]

  then_triggered : (old.status_triggered ≡ true) ⊎ ((poll ≡ true) × IsDue new x) ⊎ ((k : ℕ) × Contains old.delayed_polls k × IsDue new k)
      → new.status_triggered ≡ true
  then_triggered why = elim why [
    | inl was ↦ triggered ∙ ap (λ (b : Bool). b || due) was
    | inr (inl this) ↦ let has : Contains added x = (adds x).1 (inr (this.0, refl)) in below_then (x, has, low_where_due x has this.1)
    | inr (inr one) ↦ let has : Contains added one.0 = (adds one.0).1 (inl one.1) in below_then (one.0, has, low_where_due one.0 has one.2)
  ]

  pub polls_placed : IsStrictlyIncreasing new.delayed_polls → Polls old x poll new
  polls_placed rises = record {
    triggers = (triggered_then, then_triggered);
    delays = λ k. (
      λ h. let d = (drops k).0 h in ((adds k).0 d.0, λ is. d.1 (low_where_due k d.0 is)),
      λ h. (drops k).1 ((adds k).1 h.0, λ low. h.1 (inl low)),
    );
    rises = rises;
  }

-- the PDU is stored, or its SDU is complete
module _ (old new : Rx) (x : ℕ) (v : Amd) (others : (n : ℕ) → n ≢ x → got new n ≡ got old n)
    (long : rx_next_highest new ≡ max (rx_next_highest old) (x + 1)) (size : new.size ≡ old.size)
    (prohibit : new.status_prohibit_runs ≡ old.status_prohibit_runs) (reassembly : Reassembles old.rx_next_status_trigger new)
    (polls : Polls old x v.poll new) where
  pub placed : (sdu : Option (List ℕ)) → PlacesSdu (got old x) v sdu (got new x)
      → MatchBool (is_some sdu) (((x ≡ old.rx_highest_status) × IsFirst (λ n. got new n ≢ Done) (x + 1) new.rx_highest_status)
      ⊎ ((x ≢ old.rx_highest_status) × (new.rx_highest_status ≡ old.rx_highest_status))) (new.rx_highest_status ≡ old.rx_highest_status)
      → PlacesAs old x v (heard_of x sdu) new
  placed None part status = record {
    held = part.held;
    len = part.len;
    places = part.places;
    partial = part.partial;
    enters = record { this = part.is; others = others; long = long };
    highest_status = status;
    size = size;
    prohibit = prohibit;
    reassembly = reassembly;
    polls = polls;
  }
  placed (Some sdu) whole status = (
    refl,
    record {
      held = whole.held;
      len = whole.len;
      places = whole.places;
      covers = whole.covers;
      enters = record { this = whole.is; others = others; long = long };
      highest_status = status;
      size = size;
      prohibit = prohibit;
      reassembly = reassembly;
      polls = polls;
    },
  )

-- an entry that is replaced, where others stay
module _ (xs ys : List Entry) (at : ℕ) (same : (k : ℕ) → got_at ys k ≡ got_at xs k) (within : at < length ys) (e : Entry)
    (is : e ≡ get_or ys at e) where
  pub entry_here : got_at xs at ≡ got_of e
  entry_here = sym (same at) ∙ got_here ys at e within is

  pub set_same : (f : Entry) → got_of f ≡ got_of e → (k : ℕ) → got_at (set ys at f) k ≡ got_at xs k
  set_same f unchanged k = elim (cases_eq k at) [
    | inl here ↦ ap (got_at (set ys at f)) here ∙ got_this ys at f within ∙ unchanged ∙ sym entry_here ∙ ap (got_at xs) (sym here)
    | inr other ↦ got_other ys at f k other ∙ same k
  ]

-- a number that isn't a repeat is RX_Next or above
pub not_below : (r : Rx) (x : ℕ) (v : Amd) → (IsRepeat r x v → ⊥) → rx_next r ≤ x
not_below r x v news = elim (cases_lt x (rx_next r)) [ inl low ↦ absurd (news (inl low)) | inr ge ↦ ge ]

-- RX_Highest_Status, from the entries before the complete ones at the front are dropped
pub status_moves : (r old : Rx) (next highest x : ℕ) (ys : List Entry) (complete : Bool) (status : ℕ) → EntriesFit next highest ys
    → r.received ≡ received_of next highest ys → next ≤ x → r.rx_highest_status ≡ status
    → MovesStatus next ys x complete old.rx_highest_status status
    → MatchBool complete (((x ≡ old.rx_highest_status) × IsFirst (λ n. got r n ≢ Done) (x + 1) r.rx_highest_status)
    ⊎ ((x ≢ old.rx_highest_status) × (r.rx_highest_status ≡ old.rx_highest_status))) (r.rx_highest_status ≡ old.rx_highest_status)
status_moves r old next highest x ys false status fit received from is moves = is ∙ moves
status_moves r old next highest x ys true status fit received from is moves = elim moves [
  | inl on ↦ inl (
    on.0,
    rw is (record {
      from = (on.1).from;
      has = λ done. (on.1).has (sym (same status (omega (arith, from, (on.1).from))) ∙ done);
      none = λ n ge lt open_n. (on.1).none n ge lt (λ done. open_n (same n (omega (arith, from, ge)) ∙ done));
    }),
  )
  | inr stays ↦ inr (stays.0, is ∙ stays.1)
]
  where
    same : (n : ℕ) → next ≤ n → got r n ≡ got_at ys (n - next)
    same n le = ap (λ (l : List Got). get_or l n (Part [] None)) received ∙ got_is next highest ys fit.spare n le

pub small_window : (size : SnSize) → window size ≤ 131072
small_window S12 = omega arith
small_window S18 = omega arith
