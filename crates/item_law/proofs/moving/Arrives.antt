-- An item arrives for its key.
use Rattle.std.proofs.Common.{◌≡◌, ◌⊎◌, inl, inr, ℕ, ◌≤◌, Bool, true, false, ◌||◌, [], length, get_or, Option, Some, None, refl, sym, ◌∙◌, ap, subst, arith}
use Rattle.std.specs.Option.{is_some, unwrap_or}
use Rattle.std.proofs.lemmas.Bool.{false≢true, true≢false, cases_Bool, cases_eq, cond-true, cond-false, cond_both, or_cases, or_left, or_right}
use Rattle.std.proofs.lemmas.Option.{same_Some}
use Rattle.item_law.specs.State.{Remote, Key, Tables, Sdu, Content, Data, Report, Item, Spot, Arrived, Sender, Chain, is_number, put, source, sink, way_of, has_applied, is_on_its_way}
use Rattle.item_law.specs.Steps.{IsFirstUnconfirmed, hears_report, hears_data, Arrives}
use Rattle.item_law.proofs.base.Puts.{of_number, of_key, put_all, put_same, put_other}
use Rattle.item_law.proofs.base.Apart.{not_report, same_count, report_way, sink_flip, one_item}
use Rattle.item_law.proofs.kept.Invariant.{ItemFits, OwnFits, within_more, KeyState, state_of, IsOf, IsMoving, DataMoves, KeyFits, Inv}
use Rattle.item_law.proofs.kept.Changes.{key_goes, same_path, same_sender}

---- an item of another key changes its spot

module _ {at : KeyState} {items : ℕ → Option Item} {spot : ℕ → Spot} {k : Key} (fit : KeyFits at items spot k) (n : ℕ) (b : Spot) (i : Item) (is : items n ≡ Some i)
    (ne : i.key ≡ k → ⊥) where
  same_spot : (m : ℕ) (j : Item) → IsOf items k m j → put is_number spot n b m ≡ spot m
  same_spot m j of = put_other of_number spot n b m (λ same. ne (ap (λ (i : Item). i.key) (one_item items n i j is (ap items (sym same) ∙ of.is)) ∙ of.key))

  pub other_key : KeyFits at items (put is_number spot n b) k
  other_key = key_goes at at.path at.broken at.sender at.wanted items spot (put is_number spot n b) k (same_path at.path at.broken k)
      (same_sender at at.path items spot k fit fit.waits)
      (record {
        moved = λ m j of e. ap is_on_its_way (sym (same_spot m j of)) ∙ e;
        arrived = λ m j of e. sym (same_spot m j of) ∙ e;
        still = λ m j of no_plan ok now e. ap is_on_its_way (same_spot m j of) ∙ e;
      })
      (λ h e. h) fit

---- an item arrives for this key

module _ {at : KeyState} {items : ℕ → Option Item} {spot : ℕ → Spot} {k : Key} (fit : KeyFits at items spot k) (n : ℕ) (i : Item) (of : IsOf items k n i)
    (now : i.epoch ≡ at.path.epoch) where
  it : (m : ℕ) (j : Item) → IsOf items k m j → m ≡ n → j ≡ i
  it m j o same = same_Some j i (sym o.is ∙ ap items same ∙ of.is)

  still : (m : ℕ) (j : Item) → (m ≡ n → ⊥) → IsMoving at.path items spot k m j → IsMoving at.path items (put is_number spot n Arrived) k m j
  still m j ne g = record { of = g.of; now = g.now; moves = ap is_on_its_way (put_other of_number spot n Arrived m ne) ∙ g.moves }

  gone : (m : ℕ) → m ≡ n → is_on_its_way (put is_number spot n Arrived m) ≡ true → ⊥
  gone m same e = false≢true (sym (ap is_on_its_way (put_same of_number spot n Arrived)) ∙ ap (λ (m : ℕ). is_on_its_way (put is_number spot n Arrived m)) (sym same) ∙ e)

  was : (m : ℕ) → is_on_its_way (put is_number spot n Arrived m) ≡ true → is_on_its_way (spot m) ≡ true
  was m e = elim (cases_eq m n) [
    | inl same ↦ absurd (gone m same e)
    | inr ne ↦ ap is_on_its_way (sym (put_other of_number spot n Arrived m ne)) ∙ e
  ]

  not_gone : (m : ℕ) → is_on_its_way (put is_number spot n Arrived m) ≡ true → m ≡ n → ⊥
  not_gone m e same = gone m same e

  module _ (c : ℕ) (x : Sdu) (content : i.content ≡ Data c x) (moves : is_on_its_way (spot n) ≡ true) where
    abbrev after : ℕ → Option Sdu
    after = hears_data at.heard c x

    here : is_some (after c) ≡ true
    here = ap is_some (put_same of_number at.heard c (Some (unwrap_or (at.heard c) x)))

    other : (d : ℕ) → (d ≡ c → ⊥) → after d ≡ at.heard d
    other d ne = put_other of_number at.heard c (Some (unwrap_or (at.heard c) x)) d ne

    more : (d : ℕ) → is_some (at.heard d) ≡ true → is_some (after d) ≡ true
    more d e = elim (cases_eq d c) [
      | inl same ↦ ap (λ (d : ℕ). is_some (after d)) same ∙ here
      | inr ne ↦ ap is_some (other d ne) ∙ e
    ]

    not_yet : at.sender.waits ≡ false → has_applied at.path (source k.way) ≡ false
    not_yet w = elim (cases_Bool (has_applied at.path (source k.way))) [
      | inl e ↦ absurd (false≢true (sym w ∙ fit.waits e))
      | inr e ↦ e
    ]

    none_of : (o : Option Sdu) → is_some o ≡ false → o ≡ None
    none_of None e = refl
    none_of (Some y) e = absurd (true≢false e)

    is_x : after c ≡ Some x
    is_x = put_same of_number at.heard c (Some (unwrap_or (at.heard c) x))
        ∙ ap (λ (o : Option Sdu). Some (unwrap_or o x)) (none_of (at.heard c) (fit.unheard n i c x of content now moves))

    data_given : (d : ℕ) → (is_some (at.heard d) ≡ true) ⊎ DataMoves at.path items spot k d
        → (is_some (after d) ≡ true) ⊎ DataMoves at.path items (put is_number spot n Arrived) k d
    data_given d (inl h) = inl (more d h)
    data_given d (inr g) = elim (cases_eq g.0 n) [
      | inl same ↦ inl (ap (λ (d : ℕ). is_some (after d)) (same_count d g.2 c x (sym g.4 ∙ ap (λ (j : Item). j.content) (it g.0 g.1 g.3.of same) ∙ content)) ∙ here)
      | inr ne ↦ inr (g.0, g.1, g.2, still g.0 g.1 ne g.3, g.4)
    ]

    pub arrives_data : KeyFits (record at { heard = after }) items (put is_number spot n Arrived) k
    arrives_data = record {
      waits = fit.waits;
      place = fit.place;
      few = fit.few;
      once = fit.once;
      sent = fit.sent;
      sdus = fit.sdus;
      confirmed = λ d e. more d (fit.confirmed d e);
      beyond = λ d w le e. elim (cases_eq d c) [
        | inl same ↦ absurd (omega (arith, (fit.sent n i c x of content now (not_yet w)).1))
        | inr ne ↦ fit.beyond d w le (ap is_some (sym (other d ne)) ∙ e)
      ];
      submitted = λ d y e. elim (cases_eq d c) [
        | inl same ↦
            let s = fit.sdus n i c x of content in
            let yx : y ≡ x = same_Some y x (sym e ∙ ap after same ∙ is_x) in
            (omega (arith, s.0), yx ∙ s.1 ∙ ap (λ (d : ℕ). get_or at.sender.submitted d []) (sym same))
        | inr ne ↦ fit.submitted d y (sym (other d ne) ∙ e)
      ];
      named = λ m j f d o w e. more d (fit.named m j f d o w e);
      direct = λ m j d y o w id e. elim (cases_eq m n) [
        | inl same ↦ ap (λ (d : ℕ). is_some (after d)) (same_count d y c x (sym w ∙ ap (λ (j : Item). j.content) (it m j o same) ∙ content)) ∙ here
        | inr ne ↦ more d (fit.direct m j d y o w id (sym (put_other of_number spot n Arrived m ne) ∙ e))
      ];
      unheard = λ m j d y o w e mv. elim (cases_eq d c) [
        | inl same ↦ absurd (not_gone m mv (fit.once m n j i c y x o of (w ∙ ap (λ (d : ℕ). Data d y) same) content (e ∙ sym now)))
        | inr ne ↦ ap is_some (other d ne) ∙ fit.unheard m j d y o w e (was m mv)
      ];
      reports = λ m j f o w e old waits d h. absurd (true≢false (sym waits ∙ (fit.sent n i c x of content now old).0));
      waiting = λ no_plan ok w. elim (fit.waiting no_plan ok w) [
        | inl h ↦ inl h
        | inr g ↦ inr (g.0, g.1, g.2, still g.0 g.1 (λ same. not_report c x g.2 (sym content ∙ ap (λ (j : Item). j.content) (sym (it g.0 g.1 g.3.of same)) ∙ g.4)) g.3, g.4)
      ];
      given = λ d no_plan ok w below. data_given d (fit.given d no_plan ok w below);
    }

  module _ (f : ℕ → Bool) (p : ℕ) (content : i.content ≡ Report f) (old : has_applied at.path (source k.way) ≡ false) (least : IsFirstUnconfirmed at.sender f p) where
    abbrev told : Sender
    told = hears_report at.sender f p

    kept : at.sender.waits ≡ false → told.place ≡ at.sender.place
    kept w = cond-false at.sender.waits p at.sender.place w

    heard_of : (c : ℕ) → (at.sender.confirmed c || f c) ≡ true → is_some (at.heard c) ≡ true
    heard_of c e = elim (or_cases _ _ e) [
      | inl h ↦ fit.confirmed c h
      | inr h ↦ fit.named n i f c of content h
    ]

    report_given : (d : ℕ) → (is_some (at.heard d) ≡ true) ⊎ DataMoves at.path items spot k d
        → (is_some (at.heard d) ≡ true) ⊎ DataMoves at.path items (put is_number spot n Arrived) k d
    report_given d (inl h) = inl h
    report_given d (inr g) = inr (g.0, g.1, g.2, still g.0 g.1 (λ same. not_report d g.2 f (sym g.4 ∙ ap (λ (j : Item). j.content) (it g.0 g.1 g.3.of same) ∙ content)) g.3, g.4)

    pub arrives_report : KeyFits (record at { sender = told }) items (put is_number spot n Arrived) k
    arrives_report = record {
      waits = λ e. absurd (false≢true (sym old ∙ e));
      place = cond_both at.sender.waits p at.sender.place (λ z. z ≤ length at.sender.submitted) (λ e. least.within) (λ e. fit.place);
      few = within_more at.limit at.sender told (omega arith) (λ c e. or_left _ _ e) fit.few;
      once = fit.once;
      sent = λ m j c x o w e not. let s = fit.sent m j c x o w e not in (refl, omega (arith, s.1, kept s.0));
      sdus = fit.sdus;
      confirmed = heard_of;
      beyond = λ c w le e. elim (cases_Bool at.sender.waits) [
        | inl waits ↦ or_right _ _ (fit.reports n i f of content now old waits c e)
        | inr goes ↦ or_left _ _ (fit.beyond c goes (omega (arith, kept goes)) e)
      ];
      submitted = fit.submitted;
      named = fit.named;
      direct = λ m j c x o w id e. elim (cases_eq m n) [
        | inl same ↦ absurd (not_report c x f (sym w ∙ ap (λ (j : Item). j.content) (it m j o same) ∙ content))
        | inr ne ↦ fit.direct m j c x o w id (sym (put_other of_number spot n Arrived m ne) ∙ e)
      ];
      unheard = λ m j c x o w e mv. fit.unheard m j c x o w e (was m mv);
      reports = λ m j g o w e not waits. absurd (false≢true waits);
      waiting = λ no_plan ok w. absurd (false≢true w);
      given = λ c no_plan ok w below. elim (cases_Bool at.sender.waits) [
        | inl waits ↦ inl (heard_of c (least.below c (omega (arith, below, cond-true at.sender.waits p at.sender.place waits))))
        | inr goes ↦ report_given c (fit.given c no_plan ok goes (omega (arith, below, kept goes)))
      ];
    }

---- all of it

module _ {t : Tables} {s : Chain} {tainted broken : Remote → Bool} (inv : Inv t s tainted broken) (n : ℕ) (i : Item) (is : s.items n ≡ Some i) where
  of_own : IsOf s.items i.key n i
  of_own = record { is = is; key = refl }

  each_arrives : (m : ℕ) (j : Item) → s.items m ≡ Some j → ItemFits t s.path j (put is_number s.spot n Arrived m)
  each_arrives = put_all of_number (λ m x. (j : Item) → s.items m ≡ Some j → ItemFits t s.path j x) s.spot n Arrived
      (λ j js. record { route = tt; over = λ e. absurd (false≢true e); own = λ u r e. absurd (false≢true e); pc5 = tt; row = (inv.each n j js).row }) (λ m ne. inv.each m)

  own_arrives : (m : ℕ) (j : Item) → s.items m ≡ Some j → tainted j.key.remote ≡ false → OwnFits (s.path j.key.remote) j (put is_number s.spot n Arrived m)
  own_arrives = put_all of_number (λ m x. (j : Item) → s.items m ≡ Some j → tainted j.key.remote ≡ false → OwnFits (s.path j.key.remote) j x) s.spot n Arrived
      (λ j js clean. let f = inv.own n j js clean in record { limit = f.limit; goal = f.goal; now = λ u e. absurd (false≢true e); second = tt }) (λ m ne. inv.own m)

  others : (l : Key) → (l ≡ i.key → ⊥) → tainted l.remote ≡ false → KeyFits (state_of t s broken l) s.items (put is_number s.spot n Arrived) l
  others l ne clean = other_key (inv.keys l clean) n Arrived i is (λ e. ne (sym e))

  -- of a clean remote it is of this epoch, and comes to an end that has not applied
  module _ (now : tainted i.key.remote ≡ false → (i.epoch ≡ (s.path i.key.remote).epoch) × (has_applied (s.path i.key.remote) (sink (way_of i)) ≡ false))
      (moves : is_on_its_way (s.spot n) ≡ true) where
    pub keeps_arrives : (w : Content) (new : Chain) → i.content ≡ w → Arrives s n i.key w new → Inv t new tainted broken
    keeps_arrives (Data c x) new content arrives = subst (λ (u : Chain). Inv t u tainted broken) (sym arrives) (record {
      ids = inv.ids;
      each = each_arrives;
      own = own_arrives;
      keys = put_all of_key (λ l h. tainted l.remote ≡ false → KeyFits (record (state_of t s broken l) { heard = h }) s.items (put is_number s.spot n Arrived) l) s.heard i.key
          (hears_data (s.heard i.key) c x)
          (λ clean. arrives_data (inv.keys i.key clean) n i of_own (now clean).0 c x content moves)
          others;
    })
    keeps_arrives (Report f) new content arrives = subst (λ (u : Chain). Inv t u tainted broken) (sym arrives.2) (record {
      ids = inv.ids;
      each = each_arrives;
      own = own_arrives;
      keys = put_all of_key (λ l a. tainted l.remote ≡ false → KeyFits (record (state_of t s broken l) { sender = a }) s.items (put is_number s.spot n Arrived) l) s.sender i.key
          (hears_report (s.sender i.key) f arrives.0)
          (λ clean. arrives_report (inv.keys i.key clean) n i of_own (now clean).0 f arrives.0 content
          (sym (ap (has_applied (s.path i.key.remote)) (ap sink (report_way i f content) ∙ sink_flip i.key.way)) ∙ (now clean).1) arrives.1)
          others;
    })
