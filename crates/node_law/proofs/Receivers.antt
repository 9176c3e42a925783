-- What a receiver does, one does that nothing tells apart from it, and nothing tells apart what they leave.
use Rattle.std.proofs.Common.{◌≡◌, ◌≢◌, ◌⊎◌, inl, inr, ℕ, zero, suc, ◌+◌, ◌-◌, ◌%◌, ◌<◌, max, Bool, true, false, cond, eqb, ◌||◌, ◌&&◌, not, List, [], ◌∷◌, length, get_or, Option, Some, None, refl, sym, ◌∙◌, ap, subst, arith}
use Rattle.std.specs.List.{Contains}
use Rattle.std.specs.List.Sorted.{IsStrictlyIncreasing}
use Rattle.std.proofs.lemmas.Bool.{cases_eq, cases_lt, cond-true, cond-false, eq-eqb, ne_eqb}
use Rattle.std.proofs.lemmas.List.{get_or_past}
use Rattle.link_base.specs.declared.names.SnSize.{SnSize}
use Rattle.link_base.specs.SequenceNumbers.{window, modulus, Near}
use Rattle.rlc_pdu.specs.Amd.{Amd}
use Rattle.rlc_status.specs.declared.status.Nack.{Nack}
use Rattle.rlc_status.specs.declared.status.Status.{Status}
use Rattle.rlc_status.specs.Format.{nacks_len}
use Rattle.rlc_model.specs.declared.receiver.Heard.{Heard}
use Rattle.rlc_model.specs.declared.receiver.Heard.TheVariants.{Stored, Complete, Repeat, Outside, Conflict}
use Rattle.rlc_model.specs.Numbers.{IsFirst}
use Rattle.rlc_model.specs.Pdu.{end_of, is_end, byte_at}
use Rattle.rlc_model.specs.Rx.{Rx, Got, Done, Part, got, is_done, held_at, len_of, rx_next, rx_next_highest, HasGap, IsRepeat, IsConflict, other_length, held_past, past_length, no_last, first_of, Places, Enters, RunsOn, HasToRun, Reassembles, runs_on, starts, rests, IsDue, Polls, PollsAtOnce, Stores, Completes, Hears, ExpiresReassembly, ExpiresProhibit}
use Rattle.rlc_model.specs.Made.{HoldsSome, last_place, Gaps, full, inner, last, IsMissing, EndsRun, Group, gaps, run, WritesNacks, all, stops, group, prohibited, WritesStatus}
use Rattle.rlc_law.specs.OneOutcome.{SameGot, SameReceiver}
use Rattle.rlc_law.proofs.Base.{done_of}
use Rattle.rlc_law.proofs.Unique.{same_prefix}

-- the other way round, and by a third
got_back : (g h : Got) → SameGot g h → SameGot h g
got_back g h e = record { done = sym e.done; held = λ p. sym (e.held p); len = sym e.len }

pub same_back : (r s : Rx) → SameReceiver r s → SameReceiver s r
same_back r s e = record {
  size = sym e.size;
  each = λ n. got_back (got r n) (got s n) (e.each n);
  highest = sym e.highest;
  highest_status = sym e.highest_status;
  trigger = sym e.trigger;
  triggered = sym e.triggered;
  polls = sym e.polls;
  prohibit = sym e.prohibit;
}

pub same_on : (r s t : Rx) → SameReceiver r s → SameReceiver s t → SameReceiver r t
same_on r s t e f = record {
  size = e.size ∙ f.size;
  each = λ n. record { done = (e.each n).done ∙ (f.each n).done; held = λ p. (e.each n).held p ∙ (f.each n).held p; len = (e.each n).len ∙ (f.each n).len };
  highest = e.highest ∙ f.highest;
  highest_status = e.highest_status ∙ f.highest_status;
  trigger = e.trigger ∙ f.trigger;
  triggered = e.triggered ∙ f.triggered;
  polls = e.polls ∙ f.polls;
  prohibit = e.prohibit ∙ f.prohibit;
}

-- with the same flags
with_flags : (r s : Rx) → SameReceiver r s → (a b : Bool) (c d : Bool) → a ≡ b → c ≡ d
    → SameReceiver (record r { status_triggered = a; status_prohibit_runs = c }) (record s { status_triggered = b; status_prohibit_runs = d })
with_flags r s e a b c d triggered prohibit = record {
  size = e.size;
  each = e.each;
  highest = e.highest;
  highest_status = e.highest_status;
  trigger = e.trigger;
  triggered = triggered;
  polls = e.polls;
  prohibit = prohibit;
}

-- the first number that has one has the other, where each that has the one has the other
first_both : (P Q : ℕ → Type 0) → ((n : ℕ) → P n → Q n) → ((n : ℕ) → Q n → P n) → (x y : ℕ) → IsFirst P x y → IsFirst Q x y
first_both P Q on back x y f = record { from = f.from; has = on y f.has; none = λ k low high is. f.none k low high (back k is) }

module _ (r s : Rx) (e : SameReceiver r s) where
  pub next_too : rx_next r ≡ rx_next s
  next_too = same_prefix is_done is_done r.received s.received (Part [] None) (Part [] None) e.highest (λ n. (e.each n).done)

  open_too : (n : ℕ) → got r n ≢ Done → got s n ≢ Done
  open_too n not_done done = not_done (done_of (got r n) ((e.each n).done ∙ ap is_done done))

  gap_too : (n : ℕ) → HasGap (got r n) → HasGap (got s n)
  gap_too n g = (g.0, g.1, g.2, sym ((e.each n).held g.0) ∙ g.3, λ none. g.4 ((e.each n).held g.1 ∙ none))

  -- t-Reassembly has to run, and runs on
  waits_too : (x y : ℕ) → x ≡ y → HasToRun r x → HasToRun s y
  waits_too x y same (inl lt) = inl (omega (arith, lt, e.highest, same))
  waits_too x y same (inr w) = inr (omega (arith, w.0, e.highest, same), subst (λ (n : ℕ). HasGap (got s n)) same (gap_too x w.1))

  runs_too : (t : ℕ) → RunsOn r t → RunsOn s t
  runs_too t runs = record {
    above = omega (arith, runs.above, next_too);
    within = omega (arith, runs.within, next_too, ap window e.size);
    gap = λ at. subst (λ (n : ℕ). HasGap (got s n)) next_too (gap_too (rx_next r) (runs.gap (omega (arith, at, next_too))));
  }

  due_too : (x : ℕ) → IsDue r x → IsDue s x
  due_too x (inl lt) = inl (omega (arith, lt, e.highest_status))
  due_too x (inr le) = inr (omega (arith, le, next_too, ap window e.size))

  near_too : (sn x : ℕ) → Near r.size sn (rx_next r) x → Near s.size sn (rx_next s) x
  near_too sn x near = subst (λ (k : ℕ). Near s.size sn k x) next_too (subst (λ (z : SnSize). Near z sn (rx_next r) x) e.size near)

  repeat_too : (v : Amd) (x : ℕ) → IsRepeat r x v → IsRepeat s x v
  repeat_too v x (inl lt) = inl (omega (arith, lt, next_too))
  repeat_too v x (inr (inl done)) = inr (inl (done_of (got s x) (sym (e.each x).done ∙ ap is_done done)))
  repeat_too v x (inr (inr b)) = inr (inr (λ p low high none. b.0 p low high ((e.each x).held p ∙ none), ends b.1))
    where
      ends : (is_end v.si ≡ false ⊎ len_of (got r x) ≢ None) → (is_end v.si ≡ false ⊎ len_of (got s x) ≢ None)
      ends (inl no_end) = inl no_end
      ends (inr known) = inr (λ none. known ((e.each x).len ∙ none))

  missing_too : (n : ℕ) → IsMissing r n → IsMissing s n
  missing_too n m = (omega (arith, m.0, e.highest_status), open_too n m.1)

  some_too : (n : ℕ) → HoldsSome (got r n) → HoldsSome (got s n)
  some_too n h = (h.0, λ none. h.1 ((e.each n).held h.0 ∙ none))

  ends_too : (n : ℕ) → EndsRun r n → EndsRun s n
  ends_too n (inl is) = inl (is ∙ e.highest_status)
  ends_too n (inr (inl done)) = inr (inl (done_of (got s n) (sym (e.each n).done ∙ ap is_done done)))
  ends_too n (inr (inr some)) = inr (inr (some_too n some))

-- a PDU is in conflict with what is got, and is placed
conflict_too : (g h : Got) → SameGot g h → (v : Amd) → IsConflict g v → IsConflict h v
conflict_too g h e v (other_length l is known ne) = other_length l is (sym e.len ∙ known) ne
conflict_too g h e v (held_past p is past held) = held_past p is past (λ none. held (e.held p ∙ none))
conflict_too g h e v (past_length l known lt) = past_length l (sym e.len ∙ known) lt
conflict_too g h e v (no_last no_end known) = no_last no_end (sym e.len ∙ known)

places_too : (g h : Got) → SameGot g h → (v : Amd) (held : List (Option ℕ)) (len : Option ℕ) → Places g v held len → Places h v held len
places_too g h e v held len p = record {
  bytes = λ q. p.bytes q ∙ ap (λ (b : Option ℕ). first_of b (byte_at v q)) (e.held q);
  its_length = p.its_length ∙ ap (λ (l : Option ℕ). cond (is_end v.si) (Some (end_of v)) l) e.len;
}

-- the elements about one number
gaps_too : (sn : ℕ) (g h : Got) → SameGot g h → (p : ℕ) (es : List Nack) → Gaps sn g p es → Gaps sn h p es
gaps_too sn g h e p es (full held) = full (λ q le within none. held q le (λ l is. within l (sym e.len ∙ is)) (e.held q ∙ none))
gaps_too sn g h e p es (inner {es = rest} x z first stop more) = inner x z
    (first_both (λ q. held_at g q ≡ None) (λ q. held_at h q ≡ None) (λ q is. sym (e.held q) ∙ is) (λ q is. e.held q ∙ is) p x first)
    (first_both (λ q. held_at g q ≢ None) (λ q. held_at h q ≢ None) (λ q ne is. ne (e.held q ∙ is)) (λ q ne is. ne (sym (e.held q) ∙ is)) x z stop)
    (gaps_too sn g h e z rest more)
gaps_too sn g h e p es (last x first within none) =
    subst (λ (l : Option ℕ). Gaps sn h p (record { sn = sn; part = Some (x, last_place l); range = None } ∷ [])) (sym e.len)
    (last x (first_both (λ q. held_at g q ≡ None) (λ q. held_at h q ≡ None) (λ q is. sym (e.held q) ∙ is) (λ q is. e.held q ∙ is) p x first)
    (λ l is. within l (e.len ∙ is)) (λ q le. sym (e.held q) ∙ none q le))

module _ (r s : Rx) (e : SameReceiver r s) where
  group_too : (m y : ℕ) (es : List Nack) → Group r m y es → Group s m y es
  group_too m y es (gaps some its is) =
      gaps (some_too r s e m some) (subst (λ (z : SnSize). Gaps (m % modulus z) (got s m) 0 es) e.size (gaps_too (m % modulus r.size) (got r m) (got s m) (e.each m) 0 es its)) is
  group_too m y es (run end none first is its) =
      run end (λ p. sym ((e.each m).held p) ∙ none p) (first_both (EndsRun r) (EndsRun s) (ends_too r s e) (ends_too s r (same_back r s e)) m end first) is
      (its ∙ ap (λ (z : SnSize). record { sn = m % modulus z; part = None; range = cond (eqb (y - m) 1) None (Some (y - m)) } ∷ []) e.size)

  missing_first : (x m : ℕ) → IsFirst (IsMissing r) x m → IsFirst (IsMissing s) x m
  missing_first = first_both (IsMissing r) (IsMissing s) (missing_too r s e) (missing_too s r (same_back r s e))

  nacks_too : (octets x : ℕ) (es : List Nack) (a : ℕ) → WritesNacks r octets x es a → WritesNacks s octets x es a
  nacks_too octets x es a (all none) = subst (λ (k : ℕ). WritesNacks s octets x [] k) (sym e.highest_status) (all (λ n le m. none n le (missing_too s r (same_back r s e) n m)))
  nacks_too octets x es a (stops m y g first its long) =
      stops m y g (missing_first x m first) (group_too m y g its) (omega (arith, long, ap (λ (z : SnSize). nacks_len z g) e.size))
  nacks_too octets x es a (group {rest = rest} m y g first its fits more) =
      group m y g (missing_first x m first) (group_too m y g its) (omega (arith, fits, ap (λ (z : SnSize). nacks_len z g) e.size))
      (subst (λ (k : ℕ). WritesNacks s k y rest a) (ap (λ (z : SnSize). octets - nacks_len z g) e.size) (nacks_too (octets - nacks_len r.size g) y rest a more))

  -- a STATUS is made
  pub status_too : (n a : ℕ) (status : Status) (r' : Rx) → WritesStatus r n a status r' → (s' : Rx) × WritesStatus s n a status s' × SameReceiver r' s'
  status_too n a status r' w = (
    prohibited s,
    record {
      due = ap (λ (b : Bool). b && not s.status_prohibit_runs) (sym e.triggered)
          ∙ ap (λ (b : Bool). r.status_triggered && not b) (sym e.prohibit) ∙ w.due;
      room = w.room;
      ack = w.ack ∙ ap (λ (z : SnSize). a % modulus z) e.size;
      writes = subst (λ (k : ℕ). WritesNacks s (n - 3) k status.nacks a) (next_too r s e) (nacks_too (n - 3) (rx_next r) status.nacks a w.writes);
      after = refl;
    },
    subst (λ (z : Rx). SameReceiver z (prohibited s)) (sym w.after) (with_flags r s e false false true true refl refl),
  )

-- a list of so many entries
abbrev entries : (ℕ → Got) → ℕ → List Got
entries f zero = []
entries f (suc n) = f 0 ∷ entries (λ k. f (suc k)) n

entries_long : (f : ℕ → Got) (n : ℕ) → length (entries f n) ≡ n
entries_long f zero = refl
entries_long f (suc n) = ap suc (entries_long (λ k. f (suc k)) n)

entries_at : (f : ℕ → Got) (n k : ℕ) (d : Got) → k < n → get_or (entries f n) k d ≡ f k
entries_at f zero k d lt = absurd (omega (arith, lt))
entries_at f (suc n) zero d lt = refl
entries_at f (suc n) (suc k) d lt = entries_at (λ k. f (suc k)) n k d (omega (arith, lt))

-- what follows placing is the same of receivers that nothing tells apart
module _ (old other : Rx) (e : SameReceiver old other) (r s : Rx) (same : SameReceiver r s) where
  reassembles_too : Reassembles old.rx_next_status_trigger r → Reassembles other.rx_next_status_trigger s
  reassembles_too (runs_on t was runs is) = runs_on t (sym e.trigger ∙ was) (runs_too r s same t runs) (sym same.trigger ∙ is)
  reassembles_too (starts none waits is) =
      starts (λ t was runs. none t (e.trigger ∙ was) (runs_too s r (same_back r s same) t runs)) (waits_too r s same (rx_next r) (rx_next s) (next_too r s same) waits)
      (sym same.trigger ∙ is ∙ ap (λ (n : ℕ). Some n) same.highest)
  reassembles_too (rests none no_wait is) =
      rests (λ t was runs. none t (e.trigger ∙ was) (runs_too s r (same_back r s same) t runs))
      (λ waits. no_wait (waits_too s r (same_back r s same) (rx_next s) (rx_next r) (sym (next_too r s same)) waits)) (sym same.trigger ∙ is)

-- why a STATUS is triggered, and which polls wait
abbrev Triggers : Rx → ℕ → Bool → Rx → Type 0
Triggers old x poll new = (old.status_triggered ≡ true) ⊎ ((poll ≡ true) × IsDue new x) ⊎ ((k : ℕ) × Contains old.delayed_polls k × IsDue new k)

triggers_too : (old other : Rx) → SameReceiver old other → (r s : Rx) → SameReceiver r s → (x : ℕ) (poll : Bool) → Triggers old x poll r → Triggers other x poll s
triggers_too old other e r s same x poll (inl was) = inl (sym e.triggered ∙ was)
triggers_too old other e r s same x poll (inr (inl now)) = inr (inl (now.0, due_too r s same x now.1))
triggers_too old other e r s same x poll (inr (inr k)) = inr (inr (k.0, subst (λ (l : List ℕ). Contains l k.0) e.polls k.1, due_too r s same k.0 k.2))

delayed_too : (xs ys : List ℕ) → xs ≡ ys → (x k : ℕ) (poll : Bool) → (Contains xs k ⊎ ((poll ≡ true) × (k ≡ x))) → (Contains ys k ⊎ ((poll ≡ true) × (k ≡ x)))
delayed_too xs ys e x k poll (inl was) = inl (subst (λ (l : List ℕ). Contains l k) e was)
delayed_too xs ys e x k poll (inr now) = inr now

polls_too : (old other : Rx) → SameReceiver old other → (r s : Rx) → SameReceiver r s → (x : ℕ) (poll : Bool) → Polls old x poll r → Polls other x poll s
polls_too old other e r s same x poll a = record {
  triggers = (
    λ is. triggers_too old other e r s same x poll (a.triggers.0 (same.triggered ∙ is)),
    λ why. sym same.triggered ∙ a.triggers.1 (triggers_too other old (same_back old other e) s r (same_back r s same) x poll why),
  );
  delays = λ k. (
    λ c. let was = (a.delays k).0 (subst (λ (l : List ℕ). Contains l k) (sym same.polls) c) in
        (delayed_too old.delayed_polls other.delayed_polls e.polls x k poll was.0, λ due. was.1 (due_too s r (same_back r s same) k due)),
    λ w. subst (λ (l : List ℕ). Contains l k) same.polls
        ((a.delays k).1 (delayed_too other.delayed_polls old.delayed_polls (sym e.polls) x k poll w.0, λ due. w.1 (due_too r s same k due))),
  );
  rises = subst IsStrictlyIncreasing same.polls a.rises;
}

module _ (old other : Rx) (e : SameReceiver old other) (x : ℕ) (g : Got) (r : Rx) (en : Enters old x g r) where
  -- the other receiver once the PDU is placed there
  abbrev placed : Rx
  placed = record r { received = entries (λ n. cond (eqb n x) (got r n) (got other n)) (rx_next_highest r) }

  placed_long : rx_next_highest placed ≡ rx_next_highest r
  placed_long = entries_long (λ n. cond (eqb n x) (got r n) (got other n)) (rx_next_highest r)

  placed_at : (n : ℕ) → got placed n ≡ cond (eqb n x) (got r n) (got other n)
  placed_at n = elim (cases_lt n (rx_next_highest r)) [
    | inl lt ↦ entries_at (λ n. cond (eqb n x) (got r n) (got other n)) (rx_next_highest r) n (Part [] None) lt
    | inr le ↦ get_or_past placed.received n (Part [] None) (omega (arith, le, placed_long))
        ∙ sym (cond-false (eqb n x) (got r n) (got other n) (ne_eqb n x (λ same. absurd (omega (arith, same, le, en.long))))
        ∙ get_or_past other.received n (Part [] None) (omega (arith, le, en.long, e.highest)))
  ]

  placed_here : got placed x ≡ got r x
  placed_here = placed_at x ∙ cond-true (eqb x x) (got r x) (got other x) (eq-eqb x x refl)

  placed_others : (n : ℕ) → n ≢ x → got placed n ≡ got other n
  placed_others n ne = placed_at n ∙ cond-false (eqb n x) (got r n) (got other n) (ne_eqb n x ne)

  placed_same : SameReceiver r placed
  placed_same = record {
    size = refl;
    each = λ n. elim (cases_eq n x) [
      | inl is ↦ subst (λ (k : ℕ). SameGot (got r k) (got placed k)) (sym is) (subst (SameGot (got r x)) (sym placed_here) (record { done = refl; held = λ p. refl; len = refl }))
      | inr ne ↦ subst (λ (h : Got). SameGot h (got placed n)) (sym (en.others n ne)) (subst (SameGot (got old n)) (sym (placed_others n ne)) (e.each n))
    ];
    highest = sym placed_long;
    highest_status = refl;
    trigger = refl;
    triggered = refl;
    polls = refl;
    prohibit = refl;
  }

  placed_enters : Enters other x g placed
  placed_enters = record {
    this = placed_here ∙ en.this;
    others = placed_others;
    long = placed_long ∙ en.long ∙ ap (λ (k : ℕ). max k (x + 1)) e.highest;
  }

module _ (old other : Rx) (e : SameReceiver old other) (v : Amd) where
  -- a PDU that changes nothing else
  polled_too : (r : Rx) → PollsAtOnce old v r → SameReceiver r (record other { status_triggered = other.status_triggered || v.poll })
  polled_too r is = subst (λ (z : Rx). SameReceiver z (record other { status_triggered = other.status_triggered || v.poll })) (sym is)
      (with_flags old other e (old.status_triggered || v.poll) (other.status_triggered || v.poll) old.status_prohibit_runs other.status_prohibit_runs
      (ap (λ (b : Bool). b || v.poll) e.triggered) e.prohibit)

  stores_too : (x : ℕ) (r : Rx) → Stores old x v r → (s : Rx) × Stores other x v s × SameReceiver r s
  stores_too x r a =
      let s = placed old other e x (Part a.held a.len) r a.enters in
      let same = placed_same old other e x (Part a.held a.len) r a.enters in (
        s,
        record {
          held = a.held;
          len = a.len;
          places = places_too (got old x) (got other x) (e.each x) v a.held a.len a.places;
          partial = a.partial;
          enters = placed_enters old other e x (Part a.held a.len) r a.enters;
          highest_status = a.highest_status ∙ e.highest_status;
          size = a.size ∙ e.size;
          prohibit = a.prohibit ∙ e.prohibit;
          reassembly = reassembles_too old other e r s same a.reassembly;
          polls = polls_too old other e r s same x v.poll a.polls;
        },
        same,
      )

  completes_too : (x : ℕ) (sdu : List ℕ) (r : Rx) → Completes old x v sdu r → (s : Rx) × Completes other x v sdu s × SameReceiver r s
  completes_too x sdu r a =
      let s = placed old other e x Done r a.enters in
      let same = placed_same old other e x Done r a.enters in (
        s,
        record {
          held = a.held;
          len = a.len;
          places = places_too (got old x) (got other x) (e.each x) v a.held a.len a.places;
          covers = a.covers;
          enters = placed_enters old other e x Done r a.enters;
          highest_status = elim a.highest_status [
            | inl at ↦ inl (
              at.0 ∙ e.highest_status,
              first_both (λ n. got r n ≢ Done) (λ n. got s n ≢ Done) (open_too r s same) (open_too s r (same_back r s same))
                  (x + 1) r.rx_highest_status at.1,
            )
            | inr past ↦ inr (λ is. past.0 (is ∙ sym e.highest_status), past.1 ∙ e.highest_status)
          ];
          size = a.size ∙ e.size;
          prohibit = a.prohibit ∙ e.prohibit;
          reassembly = reassembles_too old other e r s same a.reassembly;
          polls = polls_too old other e r s same x v.poll a.polls;
        },
        same,
      )

  -- a data PDU is heard
  pub hears_too : (a : Heard) (r : Rx) → Hears old v a r → (s : Rx) × Hears other v a s × SameReceiver r s
  hears_too Outside r h = (
    record other { status_triggered = other.status_triggered || v.poll },
    (λ x near. h.0 x (near_too other old (same_back old other e) v.sn x near), refl),
    polled_too r h.1,
  )
  hears_too Repeat r h = (
    record other { status_triggered = other.status_triggered || v.poll },
    (h.0, near_too old other e v.sn h.0 h.1, repeat_too old other e v h.0 h.2, refl),
    polled_too r h.3,
  )
  hears_too Conflict r h = (
    record other { status_triggered = other.status_triggered || v.poll },
    (
      h.0,
      near_too old other e v.sn h.0 h.1,
      λ again. h.2 (repeat_too other old (same_back old other e) v h.0 again),
      conflict_too (got old h.0) (got other h.0)
          (e.each h.0) v h.3,
      refl,
    ),
    polled_too r h.4,
  )
  hears_too Stored r h =
      let too = stores_too h.0 r h.4 in (
        too.0,
        (
          h.0,
          near_too old other e v.sn h.0 h.1,
          λ again. h.2 (repeat_too other old (same_back old other e) v h.0 again),
          λ differs. h.3 (conflict_too (got other h.0) (got old h.0) (got_back (got old h.0) (got other h.0) (e.each h.0)) v differs),
          too.1,
        ),
        too.2,
      )
  hears_too (Complete x sdu) r h =
      let too = completes_too x sdu r h.3 in (
        too.0,
        (
          near_too old other e v.sn x h.0,
          λ again. h.1 (repeat_too other old (same_back old other e) v x again),
          λ differs. h.2 (conflict_too (got other x) (got old x) (got_back (got old x) (got other x) (e.each x)) v differs),
          too.1,
        ),
        too.2,
      )

-- t-Reassembly and t-StatusProhibit run out
module _ (old other : Rx) (e : SameReceiver old other) (r : Rx) where
  pub reassembly_too : ExpiresReassembly old r → (s : Rx) × ExpiresReassembly other s × SameReceiver r s
  reassembly_too a = (
    s,
    record {
      trigger = a.trigger;
      runs = sym e.trigger ∙ a.runs;
      highest_status = first_both (λ n. got old n ≢ Done) (λ n. got other n ≢ Done) (open_too old other e)
          (open_too other old (same_back old other e)) a.trigger r.rx_highest_status a.highest_status;
      reassembly = elim a.reassembly [
        | inl on ↦ inl (waits_too old other e r.rx_highest_status r.rx_highest_status refl on.0, on.1 ∙ ap (λ (n : ℕ). Some n) e.highest)
        | inr off ↦ inr (λ waits. off.0 (waits_too other old (same_back old other e) r.rx_highest_status r.rx_highest_status refl waits), off.1)
      ];
      is = refl;
      delays = λ k. (
        λ c. let was = (a.delays k).0 c in (subst (λ (l : List ℕ). Contains l k) e.polls was.0, λ due. was.1 (due_too s r (same_back r s same) k due)),
        λ w. (a.delays k).1 (subst (λ (l : List ℕ). Contains l k) (sym e.polls) w.0, λ due. w.1 (due_too r s same k due)),
      );
      rises = a.rises;
    },
    same,
  )
    where
      s : Rx
      s = record other { rx_highest_status = r.rx_highest_status; status_triggered = true; rx_next_status_trigger = r.rx_next_status_trigger; delayed_polls = r.delayed_polls }

      same : SameReceiver r s
      same = subst (λ (z : Rx). SameReceiver z s) (sym a.is)
          (record { size = e.size; each = e.each; highest = e.highest; highest_status = refl; trigger = refl; triggered = refl; polls = refl; prohibit = e.prohibit })

  pub prohibit_too : ExpiresProhibit old r → (s : Rx) × ExpiresProhibit other s × SameReceiver r s
  prohibit_too a = (
    record other { status_prohibit_runs = false },
    record { runs = sym e.prohibit ∙ a.runs; is = refl },
    subst (λ (z : Rx). SameReceiver z (record other { status_prohibit_runs = false })) (sym a.is)
        (with_flags old other e old.status_triggered other.status_triggered false false e.triggered refl),
  )
