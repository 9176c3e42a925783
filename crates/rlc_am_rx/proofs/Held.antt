-- What is held of an SDU, read from the fields.
use Rattle.std.proofs.Common.{◌≡◌, ◌≢◌, ◌⊎◌, ◌↔◌, inl, inr, ℕ, zero, suc, ◌-◌, ◌<◌, ◌≤◌, Bool, true, false, nat_lt, cond, not, eqb, leb, List, [], ◌∷◌, length, take, get_or, Option, Some, None, refl, sym, ◌∙◌, ap, arith}
use Rattle.std.specs.Bool.{MatchBool}
use Rattle.std.proofs.lemmas.List.{length-take-le, get_or-take}
use Rattle.std.proofs.lemmas.Bool.{cases_Bool, both_ways, ltb-true, ltb-false, cases_lt, cases_eq, cases_order, eq-eqb, ne_eqb, le-leb, lt-leb}
use Rattle.std.proofs.lemmas.Option.{none-some, same_Some}
use Rattle.byte_spans.specs.Spans.{has, Has, Lacks, HasAll, LacksOne, IsEmpty, IsFirstRun, IsEnd}
use Rattle.rlc_pdu.specs.declared.amd.Si.{Si}
use Rattle.link_base.specs.declared.limits.TheConstants.{LONGEST_RLC_SDU}
use Rattle.rlc_pdu.specs.Amd.{Amd}
use Rattle.rlc_model.specs.Pdu.{end_of, is_end}
use Rattle.rlc_model.specs.Rx.{Got, held_at, len_of, HasGap, BringsNothing, IsConflict, IsFull, Covers}
use Rattle.rlc_model.specs.Rx.Got.{Part}
use Rattle.rlc_model.specs.Rx.IsConflict.{other_length, held_past, past_length, no_last}
use Rattle.rlc_model.specs.Made.{HoldsNone, HoldsSome}
use Rattle.rlc_am_rx.specs.Assembly.{Pieces, got_of_pieces, pieces_of, bytes_held, HoldsFrom, LacksFrom}
use Rattle.rlc_am_rx.specs.declared.assembly.Assembly.TheInside.{Inside}

-- a test is true exactly where what it tests holds
pub is_true_where : (b : Bool) (P : Type 0) → MatchBool b P (P → ⊥) → b ≡ true ↔ P
is_true_where true P is = (λ e. is, λ p. refl)
is_true_where false P is = (λ e. absurd (both_ways false refl e), λ p. absurd (is p))

-- the byte of a place, where that is held
abbrev pub byte_held : List ℕ → List Bool → ℕ → Option ℕ
byte_held bytes flags p = cond (has flags p) (Some (get_or bytes p 0)) None

pub bytes_held_at : (bytes : List ℕ) (flags : List Bool) (p : ℕ) → get_or (bytes_held bytes flags) p None ≡ byte_held bytes flags p
bytes_held_at bytes [] p = refl
bytes_held_at [] (flag ∷ flags) zero = refl
bytes_held_at [] (flag ∷ flags) (suc p) = bytes_held_at [] flags p
bytes_held_at (b ∷ bytes) (flag ∷ flags) zero = refl
bytes_held_at (b ∷ bytes) (flag ∷ flags) (suc p) = bytes_held_at bytes flags p

-- what is seen of the fields of an SDU
pub seen_is : (a : Inside) (h : Pieces) → pieces_of a ≡ h → (p : ℕ) → held_at (got_of_pieces h) p ≡ byte_held a.bytes.items a.held p
seen_is a h view_is p = sym (ap (λ (k : Pieces). held_at (got_of_pieces k) p) view_is) ∙ bytes_held_at a.bytes.items a.held p

none≢some : {b : ℕ} {o : Option ℕ} → o ≡ None → o ≡ Some b → ⊥
none≢some {b} none some = absurd (none-some b (sym none ∙ some))

pub lacks_none : (bytes : List ℕ) (flags : List Bool) (p : ℕ) → Lacks flags p → byte_held bytes flags p ≡ None
lacks_none bytes flags p is = ap (λ flag. cond flag (Some (get_or bytes p 0)) None) is

pub has_some : (bytes : List ℕ) (flags : List Bool) (p : ℕ) → Has flags p → byte_held bytes flags p ≡ Some (get_or bytes p 0)
has_some bytes flags p is = ap (λ flag. cond flag (Some (get_or bytes p 0)) None) is

module _ (g : Got) (bytes : List ℕ) (flags : List Bool) (same : (p : ℕ) → held_at g p ≡ byte_held bytes flags p) where
  pub some_here : (p : ℕ) → Has flags p → held_at g p ≢ None
  some_here p is none = none≢some none (same p ∙ has_some bytes flags p is)

  pub none_here : (p : ℕ) → Lacks flags p → held_at g p ≡ None
  none_here p is = same p ∙ lacks_none bytes flags p is

  pub has_from : (p : ℕ) → held_at g p ≢ None → Has flags p
  has_from p some = elim (cases_Bool (has flags p)) [ inl is ↦ is | inr is ↦ absurd (some (none_here p is)) ]

  pub below_end : (end : ℕ) → IsEnd flags end → (p : ℕ) → held_at g p ≢ None → p < end
  below_end end ends p some = elim (cases_lt p end) [ inl lt ↦ lt | inr ge ↦ absurd (some (none_here p (ends.above p ge))) ]

  -- a byte is missing before the last byte held where the first run held does not begin with the first byte
  pub starts_late : (start stop : ℕ) → IsFirstRun flags start stop → 0 < start → nat_lt 0 start ≡ true ↔ HasGap g
  starts_late start stop run late = is_true_where (nat_lt 0 start) (HasGap g) (go (nat_lt 0 start) refl)
    where
      go : (b : Bool) → nat_lt 0 start ≡ b → MatchBool b (HasGap g) (HasGap g → ⊥)
      go true is = (0, start, late, none_here 0 (run.before 0 late), some_here start (run.run start (omega arith) run.some))
      go false is = absurd (omega (arith, late, ltb-false 0 start is))

  -- and where it does, exactly where the run ends before the last byte held
  pub ends_early : (start stop end : ℕ) → IsFirstRun flags start stop → start ≡ 0 → IsEnd flags end → nat_lt stop end ≡ true ↔ HasGap g
  ends_early start stop end run first ends = is_true_where (nat_lt stop end) (HasGap g) (go (nat_lt stop end) refl)
    where
      go : (b : Bool) → nat_lt stop end ≡ b → MatchBool b (HasGap g) (HasGap g → ⊥)
      go true is =
          let early : stop < end = ltb-true stop end is in
          let held : Has flags (end - 1) = ends.last (omega (arith, early)) in
          let apart : stop ≢ end - 1 = λ e. both_ways (has flags stop) run.stops (ap (λ p. has flags p) e ∙ held) in
          (stop, end - 1, omega (arith, early, apart), none_here stop run.stops, some_here (end - 1) held)
      go false is =
          let le : end ≤ stop = ltb-false stop end is in
          λ h. some_here h.0 (run.run h.0 (omega (arith, first)) (omega (arith, le, h.2, below_end end ends h.1 h.4))) h.3

  pub none_late : IsEmpty flags → HasGap g → ⊥
  none_late empty h = h.4 (none_here h.1 (empty.none h.1))

  -- whether something is held
  pub some_held_is : (end : ℕ) → IsEnd flags end → MatchBool (nat_lt 0 end) (HoldsSome g) (HoldsNone g)
  some_held_is end ends = go (nat_lt 0 end) refl
    where
      go : (b : Bool) → nat_lt 0 end ≡ b → MatchBool b (HoldsSome g) (HoldsNone g)
      go true is = let lt : 0 < end = ltb-true 0 end is in (end - 1, some_here (end - 1) (ends.last lt))
      go false is = let le : end ≤ 0 = ltb-false 0 end is in λ p. none_here p (ends.above p (omega arith))

  -- the place behind the last byte held lies within the longest SDU
  pub end_short : (end : ℕ) → IsEnd flags end → ((p : ℕ) → held_at g p ≢ None → p < LONGEST_RLC_SDU) → end ≤ LONGEST_RLC_SDU
  end_short end ends small = elim (cases_lt 0 end) [
    | inl some ↦ omega (arith, some, small (end - 1) (some_here (end - 1) (ends.last some)))
    | inr none ↦ omega (arith, none)
  ]

  -- whether a place from `to` on is held
  pub holds_past_is : (si : Si) (to end : ℕ) → is_end si ≡ true → IsEnd flags end
      → MatchBool (nat_lt to end) ((is_end si ≡ true) × HoldsFrom g to) (is_end si ≡ true → LacksFrom g to)
  holds_past_is si to end is_last ends = go (nat_lt to end) refl
    where
      go : (b : Bool) → nat_lt to end ≡ b → MatchBool b ((is_end si ≡ true) × HoldsFrom g to) (is_end si ≡ true → LacksFrom g to)
      go true is = let lt : to < end = ltb-true to end is in (is_last, (end - 1, omega arith, some_here (end - 1) (ends.last (omega arith))))
      go false is = let le : end ≤ to = ltb-false to end is in λ e p ge. none_here p (ends.above p (omega arith))

  -- whether a PDU brings nothing new, by whether its places are held
  pub repeat_is : (v : Amd) (b : Bool) (from to : ℕ) → from ≡ v.so → to ≡ end_of v → (is_end v.si ≡ false ⊎ len_of g ≢ None)
      → MatchBool b (HasAll flags from to) (LacksOne flags from to) → b ≡ true ↔ BringsNothing g v
  repeat_is v true from to f t known all = (λ is. (λ p ge lt. some_here p (all p (omega (arith, ge, f)) (omega (arith, lt, t))), known), λ h. refl)
  repeat_is v false from to f t known one = is_true_where false (BringsNothing g v) (λ h. h.0 one.0 (omega (arith, one.1, f)) (omega (arith, one.2, t)) (none_here one.0 one.3))

-- of an SDU whose length a PDU tells, and isn't known, the PDU brings something new
pub tells_length : (g : Got) (v : Amd) → is_end v.si ≡ true → len_of g ≡ None → BringsNothing g v → ⊥
tells_length g v ends none h = elim h.1 [ inl inner ↦ both_ways (is_end v.si) inner ends | inr known ↦ known none ]

module _ (g : Got) (v : Amd) (clear : is_end v.si ≡ true → LacksFrom g (end_of v)) where
  -- where the length isn't known
  pub agrees_unknown : len_of g ≡ None → IsConflict g v → ⊥
  agrees_unknown none (other_length l ends is ne) = none≢some none is
  agrees_unknown none (held_past p ends ge some) = some (clear ends p ge)
  agrees_unknown none (past_length l is lt) = none≢some none is
  agrees_unknown none (no_last inner is) = none≢some none is

  -- where it is known
  pub agrees_known : (l : ℕ) → len_of g ≡ Some l → (is_end v.si ≡ true → l ≡ end_of v) → (is_end v.si ≡ false → end_of v < l)
      → IsConflict g v → ⊥
  agrees_known l is same inside (other_length k ends known ne) = ne (same_Some k l (sym known ∙ is) ∙ same ends)
  agrees_known l is same inside (held_past p ends ge some) = some (clear ends p ge)
  agrees_known l is same inside (past_length k known lt) =
      let k_is : k ≡ l = same_Some k l (sym known ∙ is) in
      elim (cases_Bool (is_end v.si)) [ inl ends ↦ omega (arith, k_is, same ends) | inr inner ↦ omega (arith, k_is, inside inner) ]
  agrees_known l is same inside (no_last inner known) = omega (arith, same_Some (end_of v) l (sym known ∙ is), inside inner)

  end_tells : (l : ℕ) → len_of g ≡ Some l → is_end v.si ≡ true → MatchBool (not (eqb l (end_of v))) (IsConflict g v) (IsConflict g v → ⊥)
  end_tells l is ends = elim (cases_eq l (end_of v)) [
    | inl same ↦ rw (eq-eqb l (end_of v) same) (agrees_known l is (λ e. same) (λ inner. absurd (both_ways (is_end v.si) inner ends)))
    | inr other ↦ rw (ne_eqb l (end_of v) other) (other_length l ends is other)
  ]

  pub end_agrees : (l : ℕ) → len_of g ≡ Some l → is_end v.si ≡ true
      → not (eqb l (end_of v)) ≡ true ↔ IsConflict g v
  end_agrees l is ends = is_true_where (not (eqb l (end_of v))) (IsConflict g v) (end_tells l is ends)

  inner_tells : (l : ℕ) → len_of g ≡ Some l → is_end v.si ≡ false → MatchBool (leb l (end_of v)) (IsConflict g v) (IsConflict g v → ⊥)
  inner_tells l is inner = elim (cases_order l (end_of v)) [
    | inl same ↦ rw (le-leb l (end_of v) (omega (arith, same))) (no_last inner (is ∙ ap (λ (k : ℕ). Some k) same))
    | inr (inl below) ↦ rw (le-leb l (end_of v) (omega arith)) (past_length l is below)
    | inr (inr above) ↦ rw (lt-leb l (end_of v) above) (agrees_known l is (λ e. absurd (both_ways (is_end v.si) inner e)) (λ e. above))
  ]

  pub inner_agrees : (l : ℕ) → len_of g ≡ Some l → is_end v.si ≡ false → leb l (end_of v) ≡ true ↔ IsConflict g v
  inner_agrees l is inner = is_true_where (leb l (end_of v)) (IsConflict g v) (inner_tells l is inner)

-- the bytes of two places and what follows are the same, where that is so of a place that is held
same_front : (flag : Bool) (b c : ℕ) (xs ys : List (Option ℕ)) → (flag ≡ true → c ≡ b) → ys ≡ xs
    → cond flag (Some c) None ∷ ys ≡ cond flag (Some b) None ∷ xs
same_front true b c xs ys same is = rw (same refl, is) refl
same_front false b c xs ys same is = rw is refl

-- bytes that differ at places that aren't held alone
pub same_bytes : (flags : List Bool) (bs cs : List ℕ) → ((p : ℕ) → Has flags p → get_or cs p 0 ≡ get_or bs p 0)
    → bytes_held cs flags ≡ bytes_held bs flags
same_bytes [] bs cs same = refl
same_bytes (flag ∷ flags) [] [] same = refl
same_bytes (flag ∷ flags) [] (c ∷ cs) same = same_front flag 0 c _ _ (same 0) (same_bytes flags [] cs (λ p held. same (suc p) held))
same_bytes (flag ∷ flags) (b ∷ bs) [] same = same_front flag b 0 _ _ (same 0) (same_bytes flags bs [] (λ p held. same (suc p) held))
same_bytes (flag ∷ flags) (b ∷ bs) (c ∷ cs) same = same_front flag b c _ _ (same 0) (same_bytes flags bs cs (λ p held. same (suc p) held))

module _ (held : List (Option ℕ)) (len : Option ℕ) (l : ℕ) (known : len ≡ Some l) (bytes : List ℕ) (flags : List Bool)
    (same : (p : ℕ) → get_or held p None ≡ byte_held bytes flags p) where
  pub full_is : HasAll flags 0 l → IsFull held len
  full_is all = (l, known, λ p lt. some_here (Part held len) bytes flags same p (all p (omega arith) lt))

  pub not_full : LacksOne flags 0 l → IsFull held len → ⊥
  not_full one full = full.2 one.0 (omega (arith, one.2, same_Some full.0 l (sym full.1 ∙ known)))
      (none_here (Part held len) bytes flags same one.0 one.3)

  has_all : IsFull held len → (p : ℕ) → p < l → Has flags p
  has_all full p lt = has_from (Part held len) bytes flags same p (full.2 p (omega (arith, lt, same_Some full.0 l (sym full.1 ∙ known))))

  -- the bytes up to the length are the SDU
  pub covers_is : ((p : ℕ) → Has flags p → p < length bytes) → IsFull held len → Covers held len (take l bytes)
  covers_is inside full = record {
    known = known ∙ ap (λ (k : ℕ). Some k) (sym (length-take-le l bytes long));
    bytes = λ p lt. let small : p < l = omega (arith, lt, length-take-le l bytes long) in
        same p ∙ has_some bytes flags p (has_all full p small) ∙ ap (λ (b : ℕ). Some b) (sym (get_or-take l bytes p 0 small));
  }
    where
      long : l ≤ length bytes
      long = elim (cases_lt 0 l) [
        | inl some ↦ omega (arith, some, inside (l - 1) (has_all full (l - 1) (omega (arith, some))))
        | inr none ↦ omega (arith, none)
      ]
