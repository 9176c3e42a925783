-- What steps of a sender keep: which SDUs it may forget, and the confirmed number.
use Rattle.std.proofs.Common.{◌≡◌, ◌⊎◌, inl, inr, ℕ, zero, suc, ◌+◌, ◌<◌, ◌≤◌, Bool, true, false, cond, List, [], ◌∷◌, ◌++◌, length, get_or, Option, Some, None, is_none, refl, sym, subst, ◌∙◌, ap, arith}
use Rattle.std.specs.List.{prefix_len}
use Rattle.std.proofs.lemmas.Bool.{cases_lt, false≢true}
use Rattle.std.proofs.lemmas.Option.{none-some}
use Rattle.std.proofs.lemmas.List.Sums.{prefix_len-le-length, prefix_len_passes, prefix_len_stops}
use Rattle.pdcp_model.specs.Sender.{Sender, kept_at, submitted, confirmed, still_kept, confirms, is_reported, goes_on, hears_report}

-- all that was accepted is still there
pub record KeepsAll (old new : Sender) : Type 0 where
  pub size : new.size ≡ old.size
  pub first : new.first ≡ old.first
  pub kept : new.kept ≡ old.kept

-- as many were accepted, and what is kept was kept
pub record Forgets (old new : Sender) : Type 0 where
  pub size : new.size ≡ old.size
  pub first : new.first ≡ old.first
  pub many : submitted new ≡ submitted old
  pub each : (n : ℕ) (sdu : List ℕ) → kept_at new n ≡ Some sdu → kept_at old n ≡ Some sdu

pub keeps_itself : (s : Sender) → KeepsAll s s
keeps_itself s = record { size = refl; first = refl; kept = refl }

pub keeps_on : (a b c : Sender) → KeepsAll a b → KeepsAll b c → KeepsAll a c
keeps_on a b c p q = record { size = q.size ∙ p.size; first = q.first ∙ p.first; kept = q.kept ∙ p.kept }

pub forgets_none : (a b : Sender) → KeepsAll a b → Forgets a b
forgets_none a b p = record {
  size = p.size;
  first = p.first;
  many = ap length p.kept;
  each = λ n sdu is. ap (λ (xs : List (Option (List ℕ))). get_or xs n None) (sym p.kept) ∙ is;
}

pub forgets_on : (a b c : Sender) → Forgets a b → Forgets b c → Forgets a c
forgets_on a b c p q = record {
  size = q.size ∙ p.size;
  first = q.first ∙ p.first;
  many = q.many ∙ p.many;
  each = λ n sdu is. p.each n sdu (q.each n sdu is);
}

-- the SDUs that are still kept were kept
still : (test : ℕ → Bool) (count : ℕ) (xs : List (Option (List ℕ))) (n : ℕ) (sdu : List ℕ) → get_or (still_kept test count xs) n None ≡ Some sdu → get_or xs n None ≡ Some sdu
still test count [] n sdu is = is
still test count (x ∷ xs) zero sdu is = by (test count) is
  where
    by : (b : Bool) → cond b None x ≡ Some sdu → x ≡ Some sdu
    by true e = absurd (none-some sdu e)
    by false e = e
still test count (x ∷ xs) (suc n) sdu is = still test (count + 1) xs n sdu is

still_long : (test : ℕ → Bool) (count : ℕ) (xs : List (Option (List ℕ))) → length (still_kept test count xs) ≡ length xs
still_long test count [] = refl
still_long test count (x ∷ xs) = ap suc (still_long test (count + 1) xs)

-- those that aren't were not, or pass the test
still_free : (test : ℕ → Bool) (count : ℕ) (xs : List (Option (List ℕ))) (n : ℕ) → get_or (still_kept test count xs) n None ≡ None → (get_or xs n None ≡ None) ⊎ (test (count + n) ≡ true)
still_free test count [] n is = inl is
still_free test count (x ∷ xs) zero is = by (test count) refl is
  where
    by : (b : Bool) → test count ≡ b → cond b None x ≡ None → (x ≡ None) ⊎ (test (count + 0) ≡ true)
    by true t e = inr (let here : count + 0 ≡ count = omega arith in ap test here ∙ t)
    by false t e = inl e
still_free test count (x ∷ xs) (suc n) is = elim (still_free test (count + 1) xs n is) [
  | inl before ↦ inl before
  | inr passes ↦ inr (let at : count + suc n ≡ count + 1 + n = omega arith in ap test at ∙ passes)
]

pub confirms_forgets : (s : Sender) (test : ℕ → Bool) → Forgets s (confirms s test)
confirms_forgets s test = record {
  size = refl;
  first = refl;
  many = still_long test s.first s.kept;
  each = λ n sdu is. still test s.first s.kept n sdu is;
}

goes_on_keeps : (s : Sender) → KeepsAll s (goes_on s)
goes_on_keeps s = elim (s.waits) as (λ b. KeepsAll s (cond b (record s { waits = false; place = confirmed s }) s)) [
  | true ↦ record { size = refl; first = refl; kept = refl }
  | false ↦ keeps_itself s
]

pub report_forgets : (s : Sender) (fmc : ℕ) (map : List ℕ) → Forgets s (hears_report s fmc map)
report_forgets s fmc map =
    forgets_on s (confirms s (is_reported fmc map)) (hears_report s fmc map) (confirms_forgets s (is_reported fmc map))
    (forgets_none (confirms s (is_reported fmc map)) (hears_report s fmc map) (goes_on_keeps (confirms s (is_reported fmc map))))

-- what is confirmed anew has a cause
pub record Drops (Cause : ℕ → Type 0) (old new : Sender) : Type 0 where
  pub forgets : Forgets old new
  pub causes : (n : ℕ) → n < submitted old → kept_at new n ≡ None → (kept_at old n ≡ None) ⊎ Cause (old.first + n)

module _ (Cause : ℕ → Type 0) where
  pub drops_none : (a b : Sender) → KeepsAll a b → Drops Cause a b
  drops_none a b p = record {
    forgets = forgets_none a b p;
    causes = λ n lt is. inl (ap (λ (xs : List (Option (List ℕ))). get_or xs n None) (sym p.kept) ∙ is);
  }

  pub drops_on : (a b c : Sender) → Drops Cause a b → Drops Cause b c → Drops Cause a c
  drops_on a b c p q = record {
    forgets = forgets_on a b c p.forgets q.forgets;
    causes = λ n lt is. elim (q.causes n (omega (arith, lt, p.forgets.many)) is) [
      | inl before ↦ p.causes n lt before
      | inr cause ↦ inr (subst (λ first. Cause (first + n)) p.forgets.first cause)
    ];
  }

  pub confirms_drops : (s : Sender) (test : ℕ → Bool) → ((count : ℕ) → test count ≡ true → Cause count) → Drops Cause s (confirms s test)
  confirms_drops s test cause = record {
    forgets = confirms_forgets s test;
    causes = λ n lt is. elim (still_free test s.first s.kept n is) [
      | inl before ↦ inl before
      | inr passes ↦ inr (cause (s.first + n) passes)
    ];
  }

  pub report_drops : (s : Sender) (fmc : ℕ) (map : List ℕ) → ((count : ℕ) → is_reported fmc map count ≡ true → Cause count) → Drops Cause s (hears_report s fmc map)
  report_drops s fmc map cause =
      drops_on s (confirms s (is_reported fmc map)) (hears_report s fmc map) (confirms_drops s (is_reported fmc map) cause)
      (drops_none (confirms s (is_reported fmc map)) (hears_report s fmc map) (goes_on_keeps (confirms s (is_reported fmc map))))

-- with another word for the cause
pub drops_for : (C D : ℕ → Type 0) → ((count : ℕ) → C count → D count) → (a b : Sender) → Drops C a b → Drops D a b
drops_for C D for a b p = record {
  forgets = p.forgets;
  causes = λ n lt is. elim (p.causes n lt is) [
    | inl before ↦ inl before
    | inr cause ↦ inr (for (a.first + n) cause)
  ];
}

-- what a slot has that is or isn't free
some_kept : (o : Option (List ℕ)) → is_none o ≡ false → (sdu : List ℕ) × (o ≡ Some sdu)
some_kept None e = absurd (false≢true (sym e))
some_kept (Some x) e = (x, refl)

-- the confirmed number never falls
pub confirmed_rises : (a b : Sender) → Forgets a b → confirmed a ≤ confirmed b
confirmed_rises a b f = elim (cases_lt (confirmed b) (confirmed a)) [
  | inr le ↦ le
  | inl lt ↦
      let within : confirmed b < length b.kept = omega (arith, lt, f.many, prefix_len-le-length is_none a.kept) in
      let some = some_kept (kept_at b (confirmed b)) (prefix_len_stops is_none b.kept None within) in
      let free : is_none (kept_at a (confirmed b)) ≡ true = prefix_len_passes is_none a.kept (confirmed b) None lt in
      absurd (false≢true (ap is_none (sym (f.each (confirmed b) some.0 some.1)) ∙ free))
]

-- an SDU that is accepted confirms none
pub accepting : (xs : List (Option (List ℕ))) (sdu : List ℕ) → prefix_len is_none (xs ++ Some sdu ∷ []) ≡ prefix_len is_none xs
accepting [] sdu = refl
accepting (None ∷ xs) sdu = ap (λ n. 1 + n) (accepting xs sdu)
accepting (Some x ∷ xs) sdu = refl
