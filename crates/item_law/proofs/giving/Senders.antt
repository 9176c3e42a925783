-- A sender changes, a report is wanted, or a channel fails.
use Rattle.std.proofs.Common.{◌≡◌, inl, inr, ℕ, ◌+◌, ◌<◌, Bool, true, false, cond, ◌||◌, [], ◌∷◌, ◌++◌, length, refl, sym, ◌∙◌, ap, arith}
use Rattle.std.specs.Option.{is_some}
use Rattle.std.proofs.lemmas.Bool.{false≢true, true≢false, cases_Bool, cases_eq, or_parts, cond-false, cond_both}
use Rattle.std.proofs.lemmas.List.{length_push, get_or_append_left}
use Rattle.item_law.specs.State.{Remote, Key, is_key, Tables, Sdu, Spot, Arrived, Lost, Sender, Chain, is_number, put, is_on_its_way}
use Rattle.item_law.specs.World.{Breaks, without}
use Rattle.item_law.proofs.base.Puts.{of_number, of_key, put_all}
use Rattle.item_law.proofs.base.Apart.{not_arrived}
use Rattle.item_law.proofs.kept.Invariant.{ItemFits, OwnFits, within_more, state_of, KeyFits, Inv}
use Rattle.item_law.proofs.kept.Changes.{SenderGoes, key_goes, same_path, same_sender, same_spots}
use Rattle.item_law.proofs.moving.Moves.{lost_fits, lost_own}

module _ {t : Tables} {s : Chain} {tainted broken : Remote → Bool} (inv : Inv t s tainted broken) where
  -- the facts of key l with another sender, and perhaps a report wanted
  with_sender : (l : Key) (a : Sender) (w : Bool) → (tainted l.remote ≡ false → SenderGoes (t.limit l.remote l.drb) (s.path l.remote) l (s.sender l) a (s.heard l))
      → (s.wanted l ≡ true → w ≡ true)
      → tainted l.remote ≡ false → KeyFits (record (state_of t s broken l) { sender = a; wanted = w }) s.items s.spot l
  with_sender l a w go wants clean = let at = state_of t s broken l in
      key_goes at at.path at.broken a w s.items s.spot s.spot l (same_path at.path at.broken l) (go clean) (same_spots at.path at.path at.broken s.items s.spot l)
      (λ h e. wants h) (inv.keys l clean)

  module _ (k : Key) where
    pub keeps_sender : (a : Sender) → (tainted k.remote ≡ false → SenderGoes (t.limit k.remote k.drb) (s.path k.remote) k (s.sender k) a (s.heard k))
        → Inv t (record s { sender = put is_key s.sender k a }) tainted broken
    keeps_sender a go = record {
      ids = inv.ids;
      each = inv.each;
      own = inv.own;
      keys = put_all of_key (λ l b. tainted l.remote ≡ false → KeyFits (record (state_of t s broken l) { sender = b }) s.items s.spot l) s.sender k a
          (with_sender k a (s.wanted k) go (λ h. h)) (λ l ne. inv.keys l);
    }

    as_is : tainted k.remote ≡ false → SenderGoes (t.limit k.remote k.drb) (s.path k.remote) k (s.sender k) (s.sender k) (s.heard k)
    as_is clean = same_sender (state_of t s broken k) (s.path k.remote) s.items s.spot k (inv.keys k clean) (inv.keys k clean).waits

    pub keeps_submit : (sdu : Sdu) (n : ℕ) → ((c : ℕ) → c < n → (s.sender k).confirmed c ≡ true) → length (s.sender k).submitted < n + t.limit k.remote k.drb
        → Inv t (record s { sender = put is_key s.sender k (record (s.sender k) { submitted = (s.sender k).submitted ++ sdu ∷ [] }) }) tainted broken
    keeps_submit sdu n first room = keeps_sender (record (s.sender k) { submitted = (s.sender k).submitted ++ sdu ∷ [] }) (λ clean. let g = as_is clean in record {
      waits = g.waits;
      same_wait = g.same_wait;
      goes = g.goes;
      place = g.place;
      confirmed = g.confirmed;
      more = g.more;
      passes = g.passes;
      within = omega (arith, length_push (s.sender k).submitted sdu, g.within);
      few = record { n = n; first = first; few = omega (arith, length_push (s.sender k).submitted sdu) };
      kept = λ c x h. (omega (arith, length_push (s.sender k).submitted sdu, h.0), h.1 ∙ sym (get_or_append_left (s.sender k).submitted (sdu ∷ []) [] c h.0));
    })

    pub keeps_skip : (s.sender k).place < length (s.sender k).submitted → (s.sender k).confirmed (s.sender k).place ≡ true
        → Inv t (record s { sender = put is_key s.sender k (record (s.sender k) { place = (s.sender k).place + 1 }) }) tainted broken
    keeps_skip lt is = keeps_sender (record (s.sender k) { place = (s.sender k).place + 1 }) (λ clean. let g = as_is clean in record {
      waits = g.waits;
      same_wait = g.same_wait;
      goes = g.goes;
      confirmed = g.confirmed;
      more = g.more;
      kept = g.kept;
      place = omega arith;
      within = omega arith;
      few = within_more (t.limit k.remote k.drb) (s.sender k) (record (s.sender k) { place = (s.sender k).place + 1 }) (omega arith) (λ c h. h) g.few;
      passes = λ c w below. elim (cases_eq c (s.sender k).place) [
        | inl e ↦ inr (g.confirmed c (ap (s.sender k).confirmed e ∙ is))
        | inr ne ↦ inl (omega arith)
      ];
    })

    pub keeps_confirm : (d : ℕ) → (tainted k.remote ≡ false → is_some (s.heard k d) ≡ true)
        → Inv t (record s { sender = put is_key s.sender k (record (s.sender k) { confirmed = put is_number (s.sender k).confirmed d true }) }) tainted broken
    keeps_confirm d is = keeps_sender (record (s.sender k) { confirmed = put is_number (s.sender k).confirmed d true }) (λ clean. let g = as_is clean in record {
      waits = g.waits;
      same_wait = g.same_wait;
      goes = g.goes;
      place = g.place;
      within = g.within;
      kept = g.kept;
      passes = g.passes;
      few = within_more (t.limit k.remote k.drb) (s.sender k) (record (s.sender k) { confirmed = put is_number (s.sender k).confirmed d true }) (omega arith) more g.few;
      confirmed = put_all of_number (λ c y. y ≡ true → is_some (s.heard k c) ≡ true) (s.sender k).confirmed d true (λ e. is clean) (λ c ne. g.confirmed c);
      more = more;
    })
      where
        more : (c : ℕ) → (s.sender k).confirmed c ≡ true → put is_number (s.sender k).confirmed d true c ≡ true
        more = put_all of_number (λ c y. (s.sender k).confirmed c ≡ true → y ≡ true) (s.sender k).confirmed d true (λ e. refl) (λ c ne h. h)

    pub keeps_want : Inv t (record s { wanted = put is_key s.wanted k true }) tainted broken
    keeps_want = record {
      ids = inv.ids;
      each = inv.each;
      own = inv.own;
      keys = put_all of_key (λ l w. tainted l.remote ≡ false → KeyFits (record (state_of t s broken l) { wanted = w }) s.items s.spot l) s.wanted k true
          (with_sender k (s.sender k) true as_is (λ h. refl)) (λ l ne. inv.keys l);
    }

  ---- a failure

  lost_stage : (lost : ℕ → Bool) (P : Spot → Type 0) (n : ℕ) → P Lost → P (s.spot n) → P (cond (lost n) Lost (s.spot n))
  lost_stage lost P n here there = cond_both (lost n) Lost (s.spot n) P (λ e. here) (λ e. there)

  pub keeps_fail : (lost : ℕ → Bool) (breaks : Remote → Bool) → Breaks s lost breaks → Inv t (without s lost) tainted (λ r. broken r || breaks r)
  keeps_fail lost breaks fails = record {
    ids = inv.ids;
    each = λ n i is. lost_stage lost (ItemFits t s.path i) n (lost_fits (inv.each n i is)) (inv.each n i is);
    own = λ n i is clean. lost_stage lost (OwnFits (s.path i.key.remote) i) n (lost_own (inv.own n i is clean)) (inv.own n i is clean);
    keys = λ k clean. let at = state_of t s broken k in
        key_goes at at.path (broken k.remote || breaks k.remote) at.sender at.wanted s.items s.spot (λ n. cond (lost n) Lost (s.spot n)) k
        (record { now = refl; old = λ e. e; ends = λ e f. (e, (or_parts (broken k.remote) (breaks k.remote) f).0) })
        (as_is k clean)
        (record {
          moved = λ n i o. lost_stage lost (λ x. is_on_its_way x ≡ true → is_on_its_way (s.spot n) ≡ true) n (λ e. absurd (false≢true e)) (λ e. e);
          arrived = λ n i o. lost_stage lost (λ x. x ≡ Arrived → s.spot n ≡ Arrived) n (λ e. absurd (not_arrived Lost refl e)) (λ e. e);
          still = λ n i o no_plan ok now moves. elim (cases_Bool (lost n)) [
            | inl l ↦ absurd (true≢false (sym
                (fails.breaks n i o.is l (ap (λ (k : Key). (s.path k.remote).plan) o.key ∙ no_plan) (now ∙ ap (λ (k : Key). (s.path k.remote).epoch) (sym o.key)))
                ∙ ap (λ (k : Key). breaks k.remote) o.key ∙ (or_parts (broken k.remote) (breaks k.remote) ok).1))
            | inr l ↦ ap is_on_its_way (cond-false (lost n) Lost (s.spot n) l) ∙ moves
          ];
        })
        (λ h e. h) (inv.keys k clean);
  }
