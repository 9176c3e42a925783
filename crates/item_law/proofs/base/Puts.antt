-- Functions with one value changed.
use Rattle.std.proofs.Common.{◌≡◌, ◌⊎◌, inl, inr, ℕ, Bool, true, false, Option, Some, refl, sym, ◌∙◌, ap, subst}
use Rattle.std.proofs.lemmas.Bool.{cases_Bool, eqb-true, eq-eqb, and_parts, and_from, false≢true, cond-true, cond-false}
use Rattle.std.proofs.lemmas.Option.{same_Some}
use Rattle.item_law.specs.State.{Remote, Way, Ul, Dl, Key, is_number, is_remote, is_way, is_key, put}

---- tests that tell which arguments are one

pub record Decides {K : Type 0} (is : K → K → Bool) : Type 0 where
  pub same : (a b : K) → is a b ≡ true → a ≡ b
  pub self : (a : K) → is a a ≡ true

way_is : (v w : Way) → is_way v w ≡ true → v ≡ w
way_is Ul Ul e = refl
way_is Ul Dl e = absurd (false≢true e)
way_is Dl Ul e = absurd (false≢true e)
way_is Dl Dl e = refl

way_self : (v : Way) → is_way v v ≡ true
way_self Ul = refl
way_self Dl = refl

remote_is : (r q : Remote) → is_remote r q ≡ true → r ≡ q
remote_is r q e = ap (λ (n : ℕ). let x : Remote = record { 0 = n } in x) (eqb-true r.0 q.0 e)

key_is : (a b : Key) → is_key a b ≡ true → a ≡ b
key_is a b e =
    let p = and_parts _ _ e in
    let q = and_parts _ _ p.1 in
    ap (λ (r : Remote). let k : Key = record { remote = r; drb = a.drb; way = a.way } in k) (remote_is a.remote b.remote p.0)
    ∙ ap (λ (n : ℕ). let k : Key = record { remote = b.remote; drb = record { 0 = n }; way = a.way } in k) (eqb-true a.drb.0 b.drb.0 q.0)
    ∙ ap (λ (w : Way). let k : Key = record { remote = b.remote; drb = b.drb; way = w } in k) (way_is a.way b.way q.1)

pub of_number : Decides is_number
of_number = record { same = eqb-true; self = λ n. eq-eqb n n refl }

pub of_way : Decides is_way
of_way = record { same = way_is; self = way_self }

pub of_remote : Decides is_remote
of_remote = record { same = remote_is; self = λ r. eq-eqb r.0 r.0 refl }

pub of_key : Decides is_key
of_key = record { same = key_is; self = λ k. and_from _ _ (eq-eqb k.remote.0 k.remote.0 refl) (and_from _ _ (eq-eqb k.drb.0 k.drb.0 refl) (way_self k.way)) }

module _ {K : Type 0} {is : K → K → Bool} (test : Decides is) where
  pub is_same : (a b : K) → a ≡ b → is a b ≡ true
  is_same a b e = subst (λ (c : K). is a c ≡ true) e (test.self a)

  pub is_other : (a b : K) → (a ≡ b → ⊥) → is a b ≡ false
  is_other a b ne = elim (cases_Bool (is a b)) [
    | inl e ↦ absurd (ne (test.same a b e))
    | inr e ↦ e
  ]

  pub cases_same : (a b : K) → (a ≡ b) ⊎ (a ≡ b → ⊥)
  cases_same a b = elim (cases_Bool (is a b)) [
    | inl e ↦ inl (test.same a b e)
    | inr e ↦ inr (λ same. false≢true (sym e ∙ is_same a b same))
  ]

  module _ {X : Type 0} (f : K → X) (k : K) (x : X) where
    pub put_same : put is f k x k ≡ x
    put_same = cond-true (is k k) x (f k) (test.self k)

    pub put_other : (l : K) → (l ≡ k → ⊥) → put is f k x l ≡ f l
    put_other l ne = cond-false (is l k) x (f l) (is_other l k ne)

-- what holds at k of the new value, and elsewhere of the old ones, holds everywhere
pub put_all : {K X : Type 0} {is : K → K → Bool} (test : Decides is) (P : K → X → Type 0) (f : K → X) (k : K) (x : X) → P k x → ((l : K) → (l ≡ k → ⊥) → P l (f l)) → (l : K)
    → P l (put is f k x l)
put_all {K = K} {is = is} test P f k x here there l = elim (cases_same test l k) [
  | inl e ↦ subst (λ (j : K). P j (put is f k x j)) (sym e) (subst (P k) (sym (put_same test f k x)) here)
  | inr ne ↦ subst (P l) (sym (put_other test f k x l ne)) (there l ne)
]

pub put_some : {X : Type 0} (f : ℕ → Option X) (n : ℕ) (x : X) (m : ℕ) (y : X) → put is_number f n (Some x) m ≡ Some y → ((m ≡ n) × (x ≡ y)) ⊎ ((m ≡ n → ⊥) × (f m ≡ Some y))
put_some f n x m y is = elim (cases_same of_number m n) [
  | inl e ↦ inl (e, same_Some x y (sym (put_same of_number f n (Some x)) ∙ sym (ap (put is_number f n (Some x)) e) ∙ is))
  | inr ne ↦ inr (ne, sym (put_other of_number f n (Some x) m ne) ∙ is)
]
