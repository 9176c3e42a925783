-- An end gives an item.
use Rattle.std.proofs.Common.{◌≡◌, inl, inr, ℕ, ◌+◌, ◌<◌, Bool, true, false, [], length, get_or, Some, None, refl, sym, ◌∙◌, ap, arith}
use Rattle.std.specs.Option.{is_some}
use Rattle.std.proofs.lemmas.Bool.{false≢true, cases_Bool, cases_eq}
use Rattle.item_law.specs.State.{Remote, Key, Way, Ul, Dl, flip, Node, Tables, Sdu, Content, Data, Report, Item, OnFirstHop, Sender, Chain, is_number, put, source, sink, way_with, has_applied, epoch_at, goal_at, is_heard, is_on_its_way}
use Rattle.item_law.specs.Steps.{item_given, next_content, gives_data, gives_report}
use Rattle.item_law.proofs.base.Puts.{of_number, of_key, put_all, put_same}
use Rattle.item_law.proofs.base.Apart.{not_arrived, not_report, same_count, same_sdu, same_named, source_flip}
use Rattle.item_law.proofs.base.Nodes.{goal_old, epoch_old, reserves_at}
use Rattle.item_law.proofs.kept.Invariant.{OnPc5, state_of, IsMoving, KeyFits, Inv}
use Rattle.item_law.proofs.giving.Added.{Adds, key_adds, other_adds, NewItem, each_added, own_added}

module _ {t : Tables} {s : Chain} {tainted broken : Remote → Bool} (inv : Inv t s tainted broken) (n : ℕ) (k : Key) (w : Content) (free : s.items n ≡ None)
    (bearer : t.bearer k.remote k.drb ≡ true) where
  abbrev pub fresh : Item
  fresh = item_given s k w

  abbrev nd : Node
  nd = source (way_with k.way w)

  given_pc5 : (v : Way) → OnPc5 s.path (record fresh { goal = goal_at (s.path k.remote) (source v); epoch = epoch_at (s.path k.remote) (source v) }) OnFirstHop v
  given_pc5 Ul = record { before = omega arith; same = λ e. refl }
  given_pc5 Dl = tt

  -- what an end gives has an id that is reserved for its remote; of a clean remote, at an end that has not applied, it is of this epoch
  pub new_item : (tainted k.remote ≡ false → has_applied (s.path k.remote) nd ≡ false) → NewItem inv n fresh OnFirstHop free (not_arrived OnFirstHop refl)
  new_item old = record {
    each = record {
      route = tt;
      over = λ e. absurd (false≢true e);
      own = λ u r e id res. inv.ids.apart r k.remote u res (reserves_at (s.path k.remote) nd u id);
      pc5 = given_pc5 (way_with k.way w);
      row = λ u id. inv.ids.rows k.remote u k.drb (reserves_at (s.path k.remote) nd u id) bearer;
    };
    own = λ clean. record {
      limit = omega (arith, epoch_old (s.path k.remote) nd (old clean));
      goal = λ e. goal_old (s.path k.remote) nd (old clean);
      now = λ u e id res. epoch_old (s.path k.remote) nd (old clean);
      second = tt;
    };
  }

  pub new_goes : (has_applied (s.path k.remote) nd ≡ false) → IsMoving (s.path k.remote) (put is_number s.items n (Some fresh)) (put is_number s.spot n OnFirstHop) k n fresh
  new_goes old = record {
    of = record { is = put_same of_number s.items n (Some fresh); key = refl };
    now = epoch_old (s.path k.remote) nd old;
    moves = ap is_on_its_way (put_same of_number s.spot n OnFirstHop);
  }

module _ {t : Tables} {s : Chain} {tainted broken : Remote → Bool} (inv : Inv t s tainted broken) (n : ℕ) (k : Key) (free : s.items n ≡ None)
    (bearer : t.bearer k.remote k.drb ≡ true) (goes : (s.sender k).waits ≡ false)
    (has : (s.sender k).place < length (s.sender k).submitted) (kept : (s.sender k).confirmed (s.sender k).place ≡ false) where
  abbrev data_item : Item
  data_item = item_given s k (next_content s k)

  abbrev on : Sender
  on = record (s.sender k) { place = (s.sender k).place + 1 }

  not_yet : tainted k.remote ≡ false → has_applied (s.path k.remote) (source k.way) ≡ false
  not_yet clean = elim (cases_Bool (has_applied (s.path k.remote) (source k.way))) [
    | inl a ↦ absurd (false≢true (sym goes ∙ (inv.keys k clean).waits a))
    | inr a ↦ a
  ]

  its_count : (c : ℕ) (y : Sdu) → data_item.content ≡ Data c y → c ≡ (s.sender k).place
  its_count c y e = same_count c y (s.sender k).place (get_or (s.sender k).submitted (s.sender k).place []) (sym e)

  is_data : (f : ℕ → Bool) → data_item.content ≡ Report f → ⊥
  is_data f e = not_report (s.sender k).place (get_or (s.sender k).submitted (s.sender k).place []) f e

  data_adds : tainted k.remote ≡ false → Adds (state_of t s broken k) ((s.sender k).place + 1) (s.wanted k) s.items s.spot k n data_item OnFirstHop free
  data_adds clean = let fit = inv.keys k clean in record {
    once = λ m j c y z o iw jw e. absurd
        (omega (arith, (fit.sent m j c z o jw (sym e ∙ epoch_old (s.path k.remote) (source k.way) (not_yet clean)) (not_yet clean)).1, its_count c y iw));
    sent = λ c y e now old. (goes, omega (arith, its_count c y e));
    sdus = λ c y e. (
      omega (arith, its_count c y e),
      sym (same_sdu (s.sender k).place (get_or (s.sender k).submitted (s.sender k).place []) c y e)
          ∙ ap (λ (c : ℕ). get_or (s.sender k).submitted c []) (sym (its_count c y e)),
    );
    named = λ f c e. absurd (is_data f e);
    unheard = λ c y e. elim (cases_Bool (is_some (s.heard k c))) [
      | inl h ↦ absurd (false≢true (sym kept ∙ ap (s.sender k).confirmed (sym (its_count c y e)) ∙ fit.beyond c goes (omega (arith, its_count c y e)) h))
      | inr h ↦ h
    ];
    reports = λ f e. absurd (is_data f e);
  }

  pub keeps_give_data : Inv t (gives_data s n k) tainted broken
  keeps_give_data =
      let new = new_item inv n k (next_content s k) free bearer not_yet in
      record {
        ids = inv.ids;
        each = each_added inv n data_item OnFirstHop free (not_arrived OnFirstHop refl) new;
        own = own_added inv n data_item OnFirstHop free (not_arrived OnFirstHop refl) new;
        keys = put_all of_key (λ l a. tainted l.remote ≡ false
            → KeyFits (record (state_of t s broken l) { sender = a }) (put is_number s.items n (Some data_item)) (put is_number s.spot n OnFirstHop) l) s.sender k on
            (λ clean. let fit = inv.keys k clean in
            key_adds (state_of t s broken k) ((s.sender k).place + 1) (s.wanted k) s.items s.spot k n data_item OnFirstHop free (λ e. data_adds clean)
            (not_arrived OnFirstHop refl) (omega arith) (omega arith)
            (λ c no_plan ok w lt. elim (cases_eq c (s.sender k).place) [
              | inl e ↦ inr (
                n,
                data_item,
                get_or (s.sender k).submitted (s.sender k).place [],
                new_goes inv n k (next_content s k) free bearer (not_yet clean),
                ap (λ (c : ℕ). Data c (get_or (s.sender k).submitted (s.sender k).place [])) (sym e),
              )
              | inr ne ↦ inl (omega arith)
            ])
            (λ h. inl h) fit)
            (λ l ne. other_adds inv n data_item OnFirstHop free (not_arrived OnFirstHop refl) l (λ e. ne (sym e)));
      }

module _ {t : Tables} {s : Chain} {tainted broken : Remote → Bool} (inv : Inv t s tainted broken) (n : ℕ) (k : Key) (free : s.items n ≡ None)
    (bearer : t.bearer k.remote k.drb ≡ true) (old : has_applied (s.path k.remote) (sink k.way) ≡ false) where
  abbrev report : Item
  report = item_given s k (Report (is_heard s k))

  old_near : has_applied (s.path k.remote) (source (flip k.way)) ≡ false
  old_near = ap (has_applied (s.path k.remote)) (source_flip k.way) ∙ old

  not_data : (c : ℕ) (y : Sdu) → report.content ≡ Data c y → ⊥
  not_data c y e = not_report c y (is_heard s k) (sym e)

  names : (f : ℕ → Bool) (c : ℕ) → report.content ≡ Report f → is_some (s.heard k c) ≡ f c
  names f c e = ap (λ (g : ℕ → Bool). g c) (same_named (is_heard s k) f e)

  pub keeps_give_report : Inv t (gives_report s n k) tainted broken
  keeps_give_report =
      let new = new_item inv n k (Report (is_heard s k)) free bearer (λ clean. old_near) in
      record {
        ids = inv.ids;
        each = each_added inv n report OnFirstHop free (not_arrived OnFirstHop refl) new;
        own = own_added inv n report OnFirstHop free (not_arrived OnFirstHop refl) new;
        keys = put_all of_key (λ l v. tainted l.remote ≡ false
            → KeyFits (record (state_of t s broken l) { wanted = v }) (put is_number s.items n (Some report)) (put is_number s.spot n OnFirstHop) l) s.wanted k false
            (λ clean. let fit = inv.keys k clean in
            key_adds (state_of t s broken k) (s.sender k).place false s.items s.spot k n report OnFirstHop free
            (λ e. record {
              once = λ m j c y z o iw. absurd (not_data c y iw);
              sent = λ c y e. absurd (not_data c y e);
              sdus = λ c y e. absurd (not_data c y e);
              named = λ f c e h. names f c e ∙ h;
              unheard = λ c y e. absurd (not_data c y e);
              reports = λ f e c h. sym (names f c e) ∙ h;
            })
            (not_arrived OnFirstHop refl) (omega arith) fit.place (λ c no_plan ok w lt. inl lt)
            (λ h. inr (n, report, is_heard s k, new_goes inv n k (Report (is_heard s k)) free bearer old_near, refl)) fit)
            (λ l ne. other_adds inv n report OnFirstHop free (not_arrived OnFirstHop refl) l (λ e. ne (sym e)));
      }
