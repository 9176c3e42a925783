-- Each step of a receiver has at most one outcome.
use Rattle.std.proofs.Common.{◌≡◌, ◌≢◌, inl, inr, ℕ, ◌+◌, Bool, true, List, [], length, get_or, Option, Some, None, refl, sym, ◌∙◌, ap, subst, arith}
use Rattle.std.specs.List.{Contains}
use Rattle.std.proofs.lemmas.Bool.{cases_eq}
use Rattle.std.proofs.lemmas.List.{ext_get_or}
use Rattle.std.proofs.lemmas.Option.{none-some, same_Some}
use Rattle.link_base.specs.SequenceNumbers.{window, Near}
use Rattle.rlc_pdu.specs.Amd.{Amd}
use Rattle.rlc_model.specs.declared.receiver.Heard.{Heard}
use Rattle.rlc_model.specs.declared.receiver.Heard.TheVariants.{Stored, Complete, Repeat, Outside, Conflict}
use Rattle.rlc_model.specs.Numbers.{IsFirst}
use Rattle.rlc_model.specs.Rx.{Rx, Got, Done, Part, got, is_done, held_at, len_of, rx_next, rx_next_highest, HasGap, IsRepeat, IsConflict, Places, Enters, RunsOn, HasToRun, Reassembles, runs_on, starts, rests, IsDue, Polls, PollsAtOnce, Stores, Completes, Hears}
use Rattle.rlc_law.specs.OneOutcome.{SameGot, SameReceiver, OneHearing, OneReassemblyExpiry}
use Rattle.rlc_law.proofs.Base.{near_one, done_of}
use Rattle.rlc_law.proofs.Unique.{first_one, bool_iff, same_prefix, rising_one}

-- equal entries are the same
same_got : (g h : Got) → g ≡ h → SameGot g h
same_got g h e = record { done = ap is_done e; held = λ p. ap (λ (g : Got). held_at g p) e; len = ap len_of e }

-- equal receivers are the same
same_receiver : (r s : Rx) → r ≡ s → SameReceiver r s
same_receiver r s e = record {
  size = ap (λ (r : Rx). r.size) e;
  each = λ n. same_got (got r n) (got s n) (ap (λ (r : Rx). got r n) e);
  highest = ap (λ (r : Rx). rx_next_highest r) e;
  highest_status = ap (λ (r : Rx). r.rx_highest_status) e;
  trigger = ap (λ (r : Rx). r.rx_next_status_trigger) e;
  triggered = ap (λ (r : Rx). r.status_triggered) e;
  polls = ap (λ (r : Rx). r.delayed_polls) e;
  prohibit = ap (λ (r : Rx). r.status_prohibit_runs) e;
}

-- the same is got of each number, so all that depends on it is the same
record SameEntries (r s : Rx) : Type 0 where
  size : r.size ≡ s.size
  each : (n : ℕ) → SameGot (got r n) (got s n)
  highest : rx_next_highest r ≡ rx_next_highest s

-- the same the other way
back : (r s : Rx) → SameEntries r s → SameEntries s r
back r s e = record { size = sym e.size; each = λ n. record { done = sym (e.each n).done; held = λ p. sym ((e.each n).held p); len = sym (e.each n).len }; highest = sym e.highest }

module _ (r s : Rx) (e : SameEntries r s) where
  -- RX_Next is the same
  same_next : rx_next r ≡ rx_next s
  same_next = same_prefix is_done is_done r.received s.received (Part [] None) (Part [] None) e.highest (λ n. (e.each n).done)

  -- the same numbers aren't complete
  open_too : (n : ℕ) → got r n ≢ Done → got s n ≢ Done
  open_too n not_done done = not_done (done_of (got r n) ((e.each n).done ∙ ap is_done done))

  -- the same have gaps
  gap_too : (n : ℕ) → HasGap (got r n) → HasGap (got s n)
  gap_too n g = (g.0, g.1, g.2, sym ((e.each n).held g.0) ∙ g.3, λ none. g.4 ((e.each n).held g.1 ∙ none))

  -- t-Reassembly has to run for the same
  runs_for_too : (x y : ℕ) → x ≡ y → HasToRun r x → HasToRun s y
  runs_for_too x y same (inl lt) = inl (omega (arith, lt, e.highest, same))
  runs_for_too x y same (inr w) = inr (omega (arith, w.0, e.highest, same), subst (λ (n : ℕ). HasGap (got s n)) same (gap_too x w.1))

  -- it runs on with the same trigger
  runs_too : (t : ℕ) → RunsOn r t → RunsOn s t
  runs_too t runs = record {
    above = omega (arith, runs.above, same_next);
    within = omega (arith, runs.within, same_next, ap window e.size);
    gap = λ at. subst (λ (n : ℕ). HasGap (got s n)) same_next (gap_too (rx_next r) (runs.gap (omega (arith, at, same_next))));
  }

  -- the same polls are due
  due_too : r.rx_highest_status ≡ s.rx_highest_status → (x : ℕ) → IsDue r x → IsDue s x
  due_too same x (inl lt) = inl (omega (arith, lt, same))
  due_too same x (inr le) = inr (omega (arith, le, same_next, ap window e.size))

  -- the same number is the first that isn't complete
  first_too : (x y : ℕ) → IsFirst (λ n. got r n ≢ Done) x y → IsFirst (λ n. got s n ≢ Done) x y
  first_too x y f = record { from = f.from; has = open_too y f.has; none = λ n low high open_n. f.none n low high (λ done. open_n (done_of (got s n) (sym (e.each n).done ∙ ap is_done done))) }

module _ (before : Option ℕ) (r s : Rx) (e : SameEntries r s) where
  -- the trigger of t-Reassembly
  trigger_one : Reassembles before r → Reassembles before s → r.rx_next_status_trigger ≡ s.rx_next_status_trigger
  trigger_one (runs_on t was runs is) (runs_on u was' runs' is') = is ∙ sym was ∙ was' ∙ sym is'
  trigger_one (runs_on t was runs is) (starts none waits is') = absurd (none t was (runs_too r s e t runs))
  trigger_one (runs_on t was runs is) (rests none not_waits is') = absurd (none t was (runs_too r s e t runs))
  trigger_one (starts none waits is) (runs_on t was runs is') = absurd (none t was (runs_too s r (back r s e) t runs))
  trigger_one (starts none waits is) (starts none' waits' is') = is ∙ ap (λ (n : ℕ). Some n) e.highest ∙ sym is'
  trigger_one (starts none waits is) (rests none' not_waits is') = absurd (not_waits (runs_for_too r s e (rx_next r) (rx_next s) (same_next r s e) waits))
  trigger_one (rests none not_waits is) (runs_on t was runs is') = absurd (none t was (runs_too s r (back r s e) t runs))
  trigger_one (rests none not_waits is) (starts none' waits is') = absurd (not_waits (runs_for_too s r (back r s e) (rx_next s) (rx_next r) (sym (same_next r s e)) waits))
  trigger_one (rests none not_waits is) (rests none' not_waits' is') = is ∙ sym is'

module _ (old : Rx) (x : ℕ) (poll : Bool) (r s : Rx) (e : SameEntries r s) (status : r.rx_highest_status ≡ s.rx_highest_status) where
  -- what triggers a STATUS in one outcome does so in the other
  due_on : (p q : Rx) → Polls old x poll p → Polls old x poll q → ((k : ℕ) → IsDue p k → IsDue q k) → p.status_triggered ≡ true → q.status_triggered ≡ true
  due_on p q a b due is = b.triggers.1 (elim (a.triggers.0 is) [
    | inl was ↦ inl was
    | inr (inl now) ↦ inr (inl (now.0, due x now.1))
    | inr (inr k) ↦ inr (inr (k.0, k.1, due k.0 k.2))
  ])

  -- and what is delayed
  delays_on : (p q : Rx) → Polls old x poll p → Polls old x poll q → ((k : ℕ) → IsDue q k → IsDue p k) → (k : ℕ) → Contains p.delayed_polls k → Contains q.delayed_polls k
  delays_on p q a b due k c = let was = (a.delays k).0 c in (b.delays k).1 (was.0, λ d. was.1 (due k d))

  -- so a STATUS is triggered in both or in none
  triggered_one : Polls old x poll r → Polls old x poll s → r.status_triggered ≡ s.status_triggered
  triggered_one a b = bool_iff r.status_triggered s.status_triggered (due_on r s a b (due_too r s e status)) (due_on s r b a (due_too s r (back r s e) (sym status)))

  -- and the same polls are delayed
  polls_one : Polls old x poll r → Polls old x poll s → r.delayed_polls ≡ s.delayed_polls
  polls_one a b = rising_one r.delayed_polls s.delayed_polls a.rises b.rises (delays_on r s a b (due_too s r (back r s e) (sym status))) (delays_on s r b a (due_too r s e status))

-- the PDU is placed
module _ (old : Rx) (x : ℕ) (v : Amd) where
  -- the same bytes are held, and the same length is known
  places_one : (held held' : List (Option ℕ)) (len len' : Option ℕ) → Places (got old x) v held len → Places (got old x) v held' len' → ((p : ℕ) → get_or held p None ≡ get_or held' p None) × (len ≡ len')
  places_one held held' len len' a b = (λ p. a.bytes p ∙ sym (b.bytes p), a.its_length ∙ sym b.its_length)

  -- the same is got of each number
  enters_one : (g h : Got) (r s : Rx) → r.size ≡ old.size → s.size ≡ old.size → SameGot g h → Enters old x g r → Enters old x h s → SameEntries r s
  enters_one g h r s size size' same a b = record {
    size = size ∙ sym size';
    each = λ n. elim (cases_eq n x) [
      | inl e ↦ record {
        done = ap is_done (ap (got r) e ∙ a.this) ∙ same.done ∙ sym (ap is_done (ap (got s) e ∙ b.this));
        held = λ p. ap (λ (g : Got). held_at g p) (ap (got r) e ∙ a.this) ∙ same.held p ∙ sym (ap (λ (g : Got). held_at g p) (ap (got s) e ∙ b.this));
        len = ap len_of (ap (got r) e ∙ a.this) ∙ same.len ∙ sym (ap len_of (ap (got s) e ∙ b.this));
      }
      | inr ne ↦ same_got (got r n) (got s n) (a.others n ne ∙ sym (b.others n ne))
    ];
    highest = a.long ∙ sym b.long;
  }

  -- then all variables are the same
  after_one : (r s : Rx) → SameEntries r s → r.rx_highest_status ≡ s.rx_highest_status → r.status_prohibit_runs ≡ s.status_prohibit_runs
      → Reassembles old.rx_next_status_trigger r → Reassembles old.rx_next_status_trigger s → Polls old x v.poll r → Polls old x v.poll s → SameReceiver r s
  after_one r s e status prohibit a b p q = record {
    size = e.size;
    each = e.each;
    highest = e.highest;
    highest_status = status;
    trigger = trigger_one old.rx_next_status_trigger r s e a b;
    triggered = triggered_one old x v.poll r s e status p q;
    polls = polls_one old x v.poll r s e status p q;
    prohibit = prohibit;
  }

  -- an SDU that is stored
  stores_one : (r s : Rx) → Stores old x v r → Stores old x v s → SameReceiver r s
  stores_one r s a b =
      let same = places_one a.held b.held a.len b.len a.places b.places in
      let e = enters_one (Part a.held a.len) (Part b.held b.len) r s a.size b.size (record { done = refl; held = same.0; len = same.1 }) a.enters b.enters in
      after_one r s e (a.highest_status ∙ sym b.highest_status) (a.prohibit ∙ sym b.prohibit) a.reassembly b.reassembly a.polls b.polls

  -- an SDU that is completed
  completes_one : (sdu sdu' : List ℕ) (r s : Rx) → Completes old x v sdu r → Completes old x v sdu' s → (sdu ≡ sdu') × SameReceiver r s
  completes_one sdu sdu' r s a b = (sdus, after_one r s e status (a.prohibit ∙ sym b.prohibit) a.reassembly b.reassembly a.polls b.polls)
    where
      same : ((p : ℕ) → get_or a.held p None ≡ get_or b.held p None) × (a.len ≡ b.len)
      same = places_one a.held b.held a.len b.len a.places b.places

      e : SameEntries r s
      e = enters_one Done Done r s a.size b.size (record { done = refl; held = λ p. refl; len = refl }) a.enters b.enters

      long : length sdu ≡ length sdu'
      long = same_Some (length sdu) (length sdu') (sym a.covers.known ∙ same.1 ∙ b.covers.known)

      sdus : sdu ≡ sdu'
      sdus = ext_get_or 0 sdu sdu' long (λ p lt. same_Some (get_or sdu p 0) (get_or sdu' p 0) (sym (a.covers.bytes p lt) ∙ same.0 p ∙ b.covers.bytes p (omega (arith, lt, long))))

      status : r.rx_highest_status ≡ s.rx_highest_status
      status = elim a.highest_status [
        | inl f ↦ elim b.highest_status [
          | inl g ↦ first_one (λ n. got s n ≢ Done) (x + 1) r.rx_highest_status s.rx_highest_status (first_too r s e (x + 1) r.rx_highest_status f.1) g.1
          | inr g ↦ absurd (g.0 f.0)
        ]
        | inr f ↦ elim b.highest_status [
          | inl g ↦ absurd (f.0 g.0)
          | inr g ↦ f.1 ∙ sym g.1
        ]
      ]

  -- an SDU that isn't complete isn't completed
  partial_or_whole : (sdu : List ℕ) (r s : Rx) → Stores old x v r → Completes old x v sdu s → ⊥
  partial_or_whole sdu r s a b =
      let same = places_one a.held b.held a.len b.len a.places b.places in
      a.partial (length sdu, same.1 ∙ b.covers.known, λ p lt none. none-some (get_or sdu p 0) (sym none ∙ same.0 p ∙ b.covers.bytes p lt))

module _ (old : Rx) (v : Amd) where
  -- the PDU has one number
  one : (x y : ℕ) → Near old.size v.sn (rx_next old) x → Near old.size v.sn (rx_next old) y → x ≡ y
  one x y = near_one old.size v.sn (rx_next old) x y

  -- a poll at once has one outcome
  polled_one : (r s : Rx) → PollsAtOnce old v r → PollsAtOnce old v s → SameReceiver r s
  polled_one r s a b = same_receiver r s (a ∙ sym b)

  -- a PDU is a repeat or isn't
  repeat_or_not : (x y : ℕ) → Near old.size v.sn (rx_next old) x → IsRepeat old x v → Near old.size v.sn (rx_next old) y → (IsRepeat old y v → ⊥) → ⊥
  repeat_or_not x y near again near' new = new (subst (λ (z : ℕ). IsRepeat old z v) (one x y near near') again)

  -- and in conflict or not
  conflict_or_not : (x y : ℕ) → Near old.size v.sn (rx_next old) x → IsConflict (got old x) v → Near old.size v.sn (rx_next old) y → (IsConflict (got old y) v → ⊥) → ⊥
  conflict_or_not x y near differs near' fine = fine (subst (λ (z : ℕ). IsConflict (got old z) v) (one x y near near') differs)

  -- any two answers
  hearing : (a b : Heard) (r s : Rx) → Hears old v a r → Hears old v b s → (a ≡ b) × SameReceiver r s
  hearing Outside Outside r s f g = (refl, polled_one r s f.1 g.1)
  hearing Outside Repeat r s f g = absurd (f.0 g.0 g.1)
  hearing Outside Conflict r s f g = absurd (f.0 g.0 g.1)
  hearing Outside Stored r s f g = absurd (f.0 g.0 g.1)
  hearing Outside (Complete y sdu) r s f g = absurd (f.0 y g.0)
  hearing Repeat Outside r s f g = absurd (g.0 f.0 f.1)
  hearing Repeat Repeat r s f g = (refl, polled_one r s f.3 g.3)
  hearing Repeat Conflict r s f g = absurd (repeat_or_not f.0 g.0 f.1 f.2 g.1 g.2)
  hearing Repeat Stored r s f g = absurd (repeat_or_not f.0 g.0 f.1 f.2 g.1 g.2)
  hearing Repeat (Complete y sdu) r s f g = absurd (repeat_or_not f.0 y f.1 f.2 g.0 g.1)
  hearing Conflict Outside r s f g = absurd (g.0 f.0 f.1)
  hearing Conflict Repeat r s f g = absurd (repeat_or_not g.0 f.0 g.1 g.2 f.1 f.2)
  hearing Conflict Conflict r s f g = (refl, polled_one r s f.4 g.4)
  hearing Conflict Stored r s f g = absurd (conflict_or_not f.0 g.0 f.1 f.3 g.1 g.3)
  hearing Conflict (Complete y sdu) r s f g = absurd (conflict_or_not f.0 y f.1 f.3 g.0 g.2)
  hearing Stored Outside r s f g = absurd (g.0 f.0 f.1)
  hearing Stored Repeat r s f g = absurd (repeat_or_not g.0 f.0 g.1 g.2 f.1 f.2)
  hearing Stored Conflict r s f g = absurd (conflict_or_not g.0 f.0 g.1 g.3 f.1 f.3)
  hearing Stored Stored r s f g = (refl, stores_one old f.0 v r s f.4 (subst (λ (z : ℕ). Stores old z v s) (one g.0 f.0 g.1 f.1) g.4))
  hearing Stored (Complete y sdu) r s f g = absurd (partial_or_whole old f.0 v sdu r s f.4 (subst (λ (z : ℕ). Completes old z v sdu s) (one y f.0 g.0 f.1) g.3))
  hearing (Complete x sdu) Outside r s f g = absurd (g.0 x f.0)
  hearing (Complete x sdu) Repeat r s f g = absurd (repeat_or_not g.0 x g.1 g.2 f.0 f.1)
  hearing (Complete x sdu) Conflict r s f g = absurd (conflict_or_not g.0 x g.1 g.3 f.0 f.2)
  hearing (Complete x sdu) Stored r s f g = absurd (partial_or_whole old x v sdu s r (subst (λ (z : ℕ). Stores old z v s) (one g.0 x g.1 f.0) g.4) f.3)
  hearing (Complete x sdu) (Complete y sdu') r s f g =
      let same : y ≡ x = one y x g.0 f.0 in
      let both = completes_one old x v sdu sdu' r s f.3 (subst (λ (z : ℕ). Completes old z v sdu' s) same g.3) in
      (ap (λ (n : ℕ). Complete n sdu) (sym same) ∙ ap (λ (l : List ℕ). Complete y l) both.0, both.1)

pub one_hearing : OneHearing
one_hearing old v a b r s f g = hearing old v a b r s f g

pub one_reassembly_expiry : OneReassemblyExpiry
one_reassembly_expiry old r s a b =
    a.is
    ∙ ap (λ (h : ℕ). record old { rx_highest_status = h; status_triggered = true; rx_next_status_trigger = r.rx_next_status_trigger; delayed_polls = r.delayed_polls }) status
    ∙ ap (λ (t : Option ℕ). record old { rx_highest_status = s.rx_highest_status; status_triggered = true; rx_next_status_trigger = t; delayed_polls = r.delayed_polls }) trigger
    ∙ ap (λ (ks : List ℕ). record old { rx_highest_status = s.rx_highest_status; status_triggered = true; rx_next_status_trigger = s.rx_next_status_trigger; delayed_polls = ks }) polls
    ∙ sym b.is
  where
    status : r.rx_highest_status ≡ s.rx_highest_status
    status = first_one (λ n. got old n ≢ Done) a.trigger r.rx_highest_status s.rx_highest_status a.highest_status
        (subst (λ (t : ℕ). IsFirst (λ n. got old n ≢ Done) t s.rx_highest_status) (same_Some b.trigger a.trigger (sym b.runs ∙ a.runs)) b.highest_status)

    trigger : r.rx_next_status_trigger ≡ s.rx_next_status_trigger
    trigger = elim a.reassembly [
      | inl f ↦ elim b.reassembly [
        | inl g ↦ f.1 ∙ sym g.1
        | inr g ↦ absurd (g.0 (subst (HasToRun old) status f.0))
      ]
      | inr f ↦ elim b.reassembly [
        | inl g ↦ absurd (f.0 (subst (HasToRun old) (sym status) g.0))
        | inr g ↦ f.1 ∙ sym g.1
      ]
    ]

    entries : SameEntries r s
    entries = record {
      size = ap (λ (r : Rx). r.size) a.is ∙ sym (ap (λ (r : Rx). r.size) b.is);
      each = λ n. same_got (got r n) (got s n) (ap (λ (r : Rx). got r n) a.is ∙ sym (ap (λ (r : Rx). got r n) b.is));
      highest = ap (λ (r : Rx). rx_next_highest r) a.is ∙ sym (ap (λ (r : Rx). rx_next_highest r) b.is);
    }

    polls : r.delayed_polls ≡ s.delayed_polls
    polls = rising_one r.delayed_polls s.delayed_polls a.rises b.rises
        (λ k c. let was = (a.delays k).0 c in (b.delays k).1 (was.0, λ due. was.1 (due_too s r (back r s entries) (sym status) k due)))
        (λ k c. let was = (b.delays k).0 c in (a.delays k).1 (was.0, λ due. was.1 (due_too r s entries status k due)))
