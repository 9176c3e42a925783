-- An item is added.
use Rattle.std.proofs.Common.{◌≡◌, ◌⊎◌, inl, inr, ℕ, ◌<◌, ◌≤◌, Bool, true, false, length, Option, Some, None, sym, ◌∙◌, ap, subst, arith}
use Rattle.std.specs.Option.{is_some}
use Rattle.std.proofs.lemmas.Option.{none-some}
use Rattle.item_law.specs.State.{Remote, Key, Tables, Sdu, Data, Report, Item, Spot, Arrived, Chain, is_number, put, source, has_applied, is_on_its_way}
use Rattle.item_law.proofs.base.Puts.{of_number, put_same, put_other, put_some}
use Rattle.item_law.proofs.kept.Invariant.{ItemFits, OwnFits, IsSubmitted, KeyState, state_of, IsOf, IsMoving, ReportMoves, DataMoves, KeyFits, Inv}

---- one key, when an item comes

module _ (at : KeyState) (place : ℕ) (wanted' : Bool) (items : ℕ → Option Item) (spot : ℕ → Spot) (k : Key) (n : ℕ) (i : Item) (x : Spot) (free : items n ≡ None) where
  -- what the new item has to meet, where it is of this key
  pub record Adds : Type 0 where
    pub once : (m : ℕ) (j : Item) (c : ℕ) (y z : Sdu) → IsOf items k m j → i.content ≡ Data c y → j.content ≡ Data c z → i.epoch ≡ j.epoch → ⊥
    pub sent : (c : ℕ) (y : Sdu) → i.content ≡ Data c y → i.epoch ≡ at.path.epoch → has_applied at.path (source k.way) ≡ false → (at.sender.waits ≡ false) × (c < place)
    pub sdus : (c : ℕ) (y : Sdu) → i.content ≡ Data c y → IsSubmitted at.sender c y
    pub named : (f : ℕ → Bool) (c : ℕ) → i.content ≡ Report f → f c ≡ true → is_some (at.heard c) ≡ true
    pub unheard : (c : ℕ) (y : Sdu) → i.content ≡ Data c y → is_some (at.heard c) ≡ false
    pub reports : (f : ℕ → Bool) → i.content ≡ Report f → (c : ℕ) → is_some (at.heard c) ≡ true → f c ≡ true

  abbrev pub items' : ℕ → Option Item
  items' = put is_number items n (Some i)

  abbrev pub spot' : ℕ → Spot
  spot' = put is_number spot n x

  of_cases : (m : ℕ) (j : Item) → IsOf items' k m j → ((m ≡ n) × (i ≡ j) × (i.key ≡ k)) ⊎ ((m ≡ n → ⊥) × IsOf items k m j)
  of_cases m j o = elim (put_some items n i m j o.is) [
    | inl h ↦ inl (h.0, h.1, ap (λ (j : Item). j.key) h.1 ∙ o.key)
    | inr h ↦ inr (h.0, record { is = h.1; key = o.key })
  ]

  not_n : (m : ℕ) (j : Item) → IsOf items k m j → m ≡ n → ⊥
  not_n m j o e = none-some j (sym free ∙ ap items (sym e) ∙ o.is)

  moves_on : (m : ℕ) (j : Item) → IsMoving at.path items spot k m j → IsMoving at.path items' spot' k m j
  moves_on m j g = record {
    of = record { is = put_other of_number items n (Some i) m (not_n m j g.of) ∙ g.of.is; key = g.of.key };
    now = g.now;
    moves = ap is_on_its_way (put_other of_number spot n x m (not_n m j g.of)) ∙ g.moves;
  }

  -- the key with the place of its sender, and whether a report is wanted
  abbrev pub state' : KeyState
  state' = record at { sender = record at.sender { place = place }; wanted = wanted' }

  module _ (adds : i.key ≡ k → Adds) (ends : x ≡ Arrived → ⊥) (further : at.sender.place ≤ place) (within : place ≤ length at.sender.submitted)
      (passes : (c : ℕ) → at.path.plan ≡ None → at.broken ≡ false → at.sender.waits ≡ false → c < place → (c < at.sender.place) ⊎ DataMoves at.path items' spot' k c)
      (wants : at.wanted ≡ true → (wanted' ≡ true) ⊎ ReportMoves at.path items' spot' k) (fit : KeyFits at items spot k) where
    same_at : (m : ℕ) → (m ≡ n → ⊥) → spot' m ≡ spot m
    same_at m ne = put_other of_number spot n x m ne

    pub key_adds : KeyFits state' items' spot' k
    key_adds = record {
      waits = fit.waits;
      place = within;
      few = record { n = fit.few.n; first = fit.few.first; few = fit.few.few };
      once = λ m o j l c y z oj ol jw lw e. elim (of_cases m j oj) [
        | inl h ↦ elim (of_cases o l ol) [
          | inl g ↦ h.0 ∙ sym g.0
          | inr g ↦ absurd ((adds h.2).once o l c y z g.1 (ap (λ (j : Item). j.content) h.1 ∙ jw) lw (ap (λ (j : Item). j.epoch) h.1 ∙ e))
        ]
        | inr h ↦ elim (of_cases o l ol) [
          | inl g ↦ absurd ((adds g.2).once m j c z y h.1 (ap (λ (j : Item). j.content) g.1 ∙ lw) jw (ap (λ (j : Item). j.epoch) g.1 ∙ sym e))
          | inr g ↦ fit.once m o j l c y z h.1 g.1 jw lw e
        ]
      ];
      sent = λ m j c y oj jw e old. elim (of_cases m j oj) [
        | inl h ↦ (adds h.2).sent c y (ap (λ (j : Item). j.content) h.1 ∙ jw) (ap (λ (j : Item). j.epoch) h.1 ∙ e) old
        | inr h ↦ let s = fit.sent m j c y h.1 jw e old in (s.0, omega (arith, s.1, further))
      ];
      sdus = λ m j c y oj jw. elim (of_cases m j oj) [
        | inl h ↦ (adds h.2).sdus c y (ap (λ (j : Item). j.content) h.1 ∙ jw)
        | inr h ↦ fit.sdus m j c y h.1 jw
      ];
      confirmed = fit.confirmed;
      beyond = λ c w le h. fit.beyond c w (omega (arith, further)) h;
      submitted = fit.submitted;
      named = λ m j f c oj jw e. elim (of_cases m j oj) [
        | inl h ↦ (adds h.2).named f c (ap (λ (j : Item). j.content) h.1 ∙ jw) e
        | inr h ↦ fit.named m j f c h.1 jw e
      ];
      direct = λ m j c y oj jw id e. elim (of_cases m j oj) [
        | inl h ↦ absurd (ends (sym (put_same of_number spot n x) ∙ ap (put is_number spot n x) (sym h.0) ∙ e))
        | inr h ↦ fit.direct m j c y h.1 jw id (sym (same_at m h.0) ∙ e)
      ];
      unheard = λ m j c y oj jw e moves. elim (of_cases m j oj) [
        | inl h ↦ (adds h.2).unheard c y (ap (λ (j : Item). j.content) h.1 ∙ jw)
        | inr h ↦ fit.unheard m j c y h.1 jw e (ap is_on_its_way (sym (same_at m h.0)) ∙ moves)
      ];
      reports = λ m j f oj jw e old w. elim (of_cases m j oj) [
        | inl h ↦ (adds h.2).reports f (ap (λ (j : Item). j.content) h.1 ∙ jw)
        | inr h ↦ fit.reports m j f h.1 jw e old w
      ];
      waiting = λ no_plan ok w. elim (fit.waiting no_plan ok w) [
        | inl h ↦ wants h
        | inr g ↦ inr (g.0, g.1, g.2, moves_on g.0 g.1 g.3, g.4)
      ];
      given = λ c no_plan ok w below. elim (passes c no_plan ok w below) [
        | inl lt ↦ elim (fit.given c no_plan ok w lt) [
          | inl h ↦ inl h
          | inr g ↦ inr (g.0, g.1, g.2, moves_on g.0 g.1 g.3, g.4)
        ]
        | inr g ↦ inr g
      ];
    }

---- the whole chain, when an item comes

module _ {t : Tables} {s : Chain} {tainted broken : Remote → Bool} (inv : Inv t s tainted broken) (n : ℕ) (i : Item) (x : Spot) (free : s.items n ≡ None)
    (ends : x ≡ Arrived → ⊥) where
  all_added : (P : Item → Spot → Type 0) → P i x → ((m : ℕ) (j : Item) → s.items m ≡ Some j → P j (s.spot m)) → (m : ℕ) (j : Item) → put is_number s.items n (Some i) m ≡ Some j
      → P j (put is_number s.spot n x m)
  all_added P here there m j e = elim (put_some s.items n i m j e) [
    | inl h ↦ subst (λ (j : Item). P j (put is_number s.spot n x m)) h.1
        (subst (λ (m : ℕ). P i (put is_number s.spot n x m)) (sym h.0) (subst (P i) (sym (put_same of_number s.spot n x)) here))
    | inr h ↦ subst (P j) (sym (put_other of_number s.spot n x m h.0)) (there m j h.1)
  ]

  -- a key that the item isn't of
  pub other_adds : (l : Key) → (i.key ≡ l → ⊥) → tainted l.remote ≡ false → KeyFits (state_of t s broken l) (put is_number s.items n (Some i)) (put is_number s.spot n x) l
  other_adds l ne clean = let fit = inv.keys l clean in
      key_adds (state_of t s broken l) (s.sender l).place (s.wanted l) s.items s.spot l n i x free (λ e. absurd (ne e)) ends (omega arith) fit.place
      (λ c no_plan ok w lt. inl lt) (λ h. inl h) fit

  pub record NewItem : Type 0 where
    pub each : ItemFits t s.path i x
    pub own : tainted i.key.remote ≡ false → OwnFits (s.path i.key.remote) i x

  pub each_added : NewItem → (m : ℕ) (j : Item) → put is_number s.items n (Some i) m ≡ Some j → ItemFits t s.path j (put is_number s.spot n x m)
  each_added new = all_added (ItemFits t s.path) new.each inv.each

  pub own_added : NewItem → (m : ℕ) (j : Item) → put is_number s.items n (Some i) m ≡ Some j → tainted j.key.remote ≡ false
      → OwnFits (s.path j.key.remote) j (put is_number s.spot n x m)
  own_added new = all_added (λ j y. tainted j.key.remote ≡ false → OwnFits (s.path j.key.remote) j y) new.own inv.own
