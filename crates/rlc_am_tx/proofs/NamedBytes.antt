-- The pending bytes of an SDU and those named.
use Rattle.std.proofs.Common.{◌≡◌, ◌↔◌, inl, inr, ℕ, ◌≤◌, true, false, not, Bool, List, length, take, Option, Some, None, refl, sym, ◌∙◌, ap, subst, arith}
use Rattle.std.specs.Bool.{MatchBool}
use Rattle.std.proofs.lemmas.Bool.{cases_lt, false≢true}
use Rattle.std.proofs.lemmas.Bool.Decides.{nat_tests}
use Rattle.std.proofs.lemmas.Option.{same_Some}
use Rattle.link_base.specs.declared.rlc_words.Tag.{Tag}
use Rattle.byte_spans.specs.Spans.{Adds, HasOnly, HasAll, LacksOne}
use Rattle.rlc_model.specs.Tx.{Kept}
use Rattle.rlc_model.specs.Retransmission.{Counts, first, again, stays, BecomesPending}
use Rattle.rlc_am_tx.specs.Flags.{is_set, IsSetOfSent, FitsSent, HasFresh, HasNoFresh, counted, comes_to}
use Rattle.rlc_am_tx.specs.declared.naming.Naming.{Naming}
use Rattle.rlc_am_tx.specs.Naming.{pends_with, IsNewSet, IsNamingOf, CanName}
use Rattle.rlc_am_tx.proofs.Flagged.{flag_taken, taken_long}

-- a place that is in a set still is once others are added
pub adds_keeps : (old new : List Bool) (from to : ℕ) → Adds old new from to → (p : ℕ) → is_set old p ≡ true → is_set new p ≡ true
adds_keeps old new from to a p is = elim (cases_lt p from) [
  | inl lt ↦ a.below p lt ∙ is
  | inr ge ↦ elim (cases_lt p to) [ inl lt ↦ a.within p ge lt | inr past ↦ a.above p past ∙ is ]
]

adds_fits : (old new : List Bool) (from to sent : ℕ) → Adds old new from to → to ≤ sent → IsSetOfSent old sent → IsSetOfSent new sent
adds_fits old new from to sent a le s = record { long = a.flags; within = s.within; beyond = λ p ge. a.above p (omega (arith, le, ge)) ∙ s.beyond p ge }

-- more bytes are named
pub named_more : (k : Kept) (cur new : List Bool) (from to : ℕ) → IsNewSet (Some k) cur → Adds cur new from to → to ≤ length k.flags → IsNewSet (Some k) new
named_more k cur new from to n a le =
    let same : k ≡ n.kept = same_Some k n.kept n.is in
    record {
      kept = n.kept;
      is = n.is;
      fits = adds_fits cur new from to (length n.kept.flags) a (omega (arith, le, ap (λ (x : Kept). length x.flags) same)) n.fits;
      fresh = (n.fresh.0, n.fresh.1, adds_keeps cur new from to a n.fresh.0 n.fresh.2);
    }

-- the first bytes are named that aren't pending
pub named_first : (k : Kept) (set new : List Bool) (from to : ℕ) → IsSetOfSent set (length k.flags) → ((p : ℕ) → is_set k.flags p ≡ is_set set p) → Adds set new from to → to ≤ length k.flags → LacksOne set from to → IsNewSet (Some k) new
named_first k set new from to s same a le lacks = record {
  kept = k;
  is = refl;
  fits = adds_fits set new from to (length k.flags) a le s;
  fresh = (lacks.0, same lacks.0 ∙ lacks.3, a.within lacks.0 lacks.1 lacks.2);
}

-- RETX_COUNT follows its rule
pub counts_of : (threshold : ℕ) (old new : Kept) (fresh mark : Bool) (IsMark : Type 0) → MatchBool fresh (HasFresh old.flags new.flags) (HasNoFresh old.flags new.flags) → new.retx_count ≡ counted threshold old.retx_count fresh → mark ≡ comes_to threshold old.retx_count fresh → (IsMark ↔ (mark ≡ true)) → Counts threshold old new IsMark
counts_of threshold old new fresh mark IsMark f is m marks = go old.retx_count refl fresh f is m
  where
    go : (o : Option ℕ) → old.retx_count ≡ o → (b : Bool) → MatchBool b (HasFresh old.flags new.flags) (HasNoFresh old.flags new.flags) → new.retx_count ≡ counted threshold old.retx_count b → mark ≡ comes_to threshold old.retx_count b → Counts threshold old new IsMark
    go None e b h c t =
        let told : mark ≡ comes_to threshold None b = t ∙ ap (λ x. comes_to threshold x b) e in
        first e (c ∙ ap (λ x. counted threshold x b) e) (λ w. let y = marks.0 w in grind (arith, nat_tests), λ w. marks.1 (grind (arith, nat_tests)))
    go (Some n) e true h c t =
        let told : mark ≡ comes_to threshold (Some n) true = t ∙ ap (λ x. comes_to threshold x true) e in
        again n h.0 e h.1 h.2 (c ∙ ap (λ x. counted threshold x true) e) (λ w. let y = marks.0 w in grind (arith, nat_tests), λ w. marks.1 (grind (arith, nat_tests)))
    go (Some n) e false h c t =
        let told : mark ≡ false = t ∙ ap (λ x. comes_to threshold x false) e in
        stays n e h (c ∙ ap (λ x. counted threshold x false) e) (λ w. false≢true (sym told ∙ marks.0 w))

-- all bytes that were sent become pending
pub all_pend : (threshold : ℕ) (old new : Kept) (set only : List Bool) (sent : ℕ) (fresh mark : Bool) → IsSetOfSent set sent → old.flags ≡ take sent set → HasOnly only 0 sent → MatchBool fresh (LacksOne set 0 sent) (HasAll set 0 sent)
    → new ≡ record old { flags = take sent only; retx_count = counted threshold old.retx_count fresh } → mark ≡ comes_to threshold old.retx_count fresh → BecomesPending threshold (λ p. Unit {0}) old new (mark ≡ true)
all_pend threshold old new set only sent fresh mark s flags o f is m =
    let only_fits : IsSetOfSent only sent = record { long = o.flags; within = s.within; beyond = o.above } in
    let new_flags : new.flags ≡ take sent only = ap (λ (k : Kept). k.flags) is in
    let new_at : (p : ℕ) → is_set new.flags p ≡ is_set only p = λ p. ap (λ (l : List Bool). is_set l p) new_flags ∙ flag_taken only sent only_fits p in
    let old_at : (p : ℕ) → is_set old.flags p ≡ is_set set p = λ p. ap (λ (l : List Bool). is_set l p) flags ∙ flag_taken set sent s p in
    let old_long : length old.flags ≡ sent = ap length flags ∙ taken_long set sent s in
    record {
      tag = ap (λ (k : Kept). k.tag) is;
      sdu = ap (λ (k : Kept). k.sdu) is;
      long = ap length new_flags ∙ taken_long only sent only_fits ∙ sym old_long;
      pends = λ p lt. (λ e. inr tt, λ w. new_at p ∙ o.within p (omega arith) (omega (arith, lt, old_long)));
      counts = counts_of threshold old new fresh mark (mark ≡ true) (fresh_of fresh f old_at new_at) (ap (λ (k : Kept). k.retx_count) is) m (λ e. e, λ e. e);
    }
  where
    fresh_of : (b : Bool) → MatchBool b (LacksOne set 0 sent) (HasAll set 0 sent) → ((p : ℕ) → is_set old.flags p ≡ is_set set p) → ((p : ℕ) → is_set new.flags p ≡ is_set only p) → MatchBool b (HasFresh old.flags new.flags) (HasNoFresh old.flags new.flags)
    fresh_of true lacks old_at new_at = (lacks.0, old_at lacks.0 ∙ lacks.3, new_at lacks.0 ∙ o.within lacks.0 lacks.1 lacks.2)
    fresh_of false all old_at new_at = λ p on. elim (cases_lt p sent) [
      | inl lt ↦ old_at p ∙ all p (omega arith) lt
      | inr ge ↦ absurd (false≢true (sym (o.above p ge) ∙ sym (new_at p) ∙ on))
    ]

-- a byte was named that isn't pending
pub can_name : (k : Kept) (x : Naming) (set : List Bool) (P : ℕ → Type 0) → x.pending ≡ Some set → IsNewSet (Some k) set → CanName (Some k) P x
can_name k x set P is n = record {
  kept = n.kept;
  is = n.is;
  place = n.fresh.0;
  sent = elim (cases_lt n.fresh.0 (length n.kept.flags)) [ inl lt ↦ lt | inr ge ↦ absurd (false≢true (sym (n.fits.beyond n.fresh.0 ge) ∙ n.fresh.2)) ];
  idle = n.fresh.1;
  why = inl (subst (λ (o : Option (List Bool)). pends_with (Some k) o n.fresh.0 ≡ true) (sym is) n.fresh.2);
}

pub turned : (b : Bool) (P Q : Type 0) → MatchBool b P Q → MatchBool (not b) Q P
turned true P Q h = h
turned false P Q h = h

pub same_renewed : (t t' : Tag) (s s' : List ℕ) (f : List Bool) (c c' : Option ℕ) → t ≡ t' → s ≡ s' → c ≡ c' → ◌≡◌ {A = Kept} (record { tag = t; sdu = s; flags = f; retx_count = c }) (record { tag = t'; sdu = s'; flags = f; retx_count = c' })
same_renewed t t' s s' f c c' e g h =
    ap (λ (x : Tag). record { tag = x; sdu = s; flags = f; retx_count = c }) e
    ∙ ap (λ (x : List ℕ). record { tag = t'; sdu = x; flags = f; retx_count = c }) g
    ∙ ap (λ (x : Option ℕ). record { tag = t'; sdu = s'; flags = f; retx_count = x }) h

-- what was named fits the bytes that were sent
pub fits_of : (k : Kept) (o : Option Kept) (x : Naming) (p : Option (List Bool)) → o ≡ Some k → p ≡ x.pending → IsNamingOf o x → FitsSent k p
fits_of k o x None is e n = tt
fits_of k o x (Some set) is e n =
    let w = n set (sym e) in
    let same : w.kept ≡ k = same_Some w.kept k (sym w.is ∙ is) in
    subst (λ (y : Kept). IsSetOfSent set (length y.flags)) same w.fits
