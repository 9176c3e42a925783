-- An item is injected.
use Rattle.std.proofs.Common.{◌≡◌, ℕ, Bool, true, false, Option, refl, sym, ◌∙◌, ap, subst}
use Rattle.std.proofs.lemmas.Bool.{true≢false}
use Rattle.item_law.specs.State.{Remote, Key, AtRelay, is_remote, Tables, Sdu, Item, InSlot, Sender, Chain, put, is_over_relay, Reserves, HasRow}
use Rattle.item_law.specs.World.{Injects, injected, ChangesOwnKeys}
use Rattle.item_law.proofs.base.Puts.{of_remote, put_all}
use Rattle.item_law.proofs.base.Apart.{not_arrived}
use Rattle.item_law.proofs.base.Nodes.{reserves_at}
use Rattle.item_law.proofs.kept.Invariant.{state_of, KeyFits, Inv}
use Rattle.item_law.proofs.giving.Added.{other_adds, NewItem, each_added, own_added}

module _ {t : Tables} {s : Chain} {tainted broken : Remote → Bool} (inv : Inv t s tainted broken) (r : Remote) where
  -- a remote that is clean after an injection for r is another one, and was clean
  still_clean : (q : Remote) → put is_remote tainted r true q ≡ false → (q ≡ r → ⊥) × (tainted q ≡ false)
  still_clean = put_all of_remote (λ q b. b ≡ false → (q ≡ r → ⊥) × (tainted q ≡ false)) tainted r true (λ e. absurd (true≢false e)) (λ q ne e. (ne, e))

  weaker : Inv t s (put is_remote tainted r true) broken
  weaker = record {
    ids = inv.ids;
    each = inv.each;
    own = λ n i is clean. inv.own n i is (still_clean i.key.remote clean).1;
    keys = λ k clean. inv.keys k (still_clean k.remote clean).1;
  }

  pub keeps_inject_up : (n : ℕ) (i : Item) → Injects t s r n i → Inv t (injected s r n i) (put is_remote tainted r true) broken
  keeps_inject_up n i inj =
      let new : NewItem weaker n i (InSlot r) inj.free (not_arrived (InSlot r) refl) = record {
        each = record {
          route = (sym inj.key, inj.attached ∙ sym inj.has);
          over = λ e. ap is_over_relay inj.has;
          own = λ u q e id res. inv.ids.apart q i.key.remote u res
              (subst (λ (r : Remote). Reserves (s.path r) u) (sym inj.key) (reserves_at (s.path r) AtRelay u (inj.attached ∙ sym inj.has ∙ id)));
          pc5 = tt;
          row = λ u id. subst (λ (r : Remote). HasRow t r i.key.drb) (sym inj.key) inj.row;
        };
        own = λ clean. absurd ((still_clean i.key.remote clean).0 inj.key);
      } in
      record {
        ids = inv.ids;
        each = each_added weaker n i (InSlot r) inj.free (not_arrived (InSlot r) refl) new;
        own = own_added weaker n i (InSlot r) inj.free (not_arrived (InSlot r) refl) new;
        keys = λ l clean. other_adds weaker n i (InSlot r) inj.free (not_arrived (InSlot r) refl) l
            (λ e. (still_clean l.remote clean).0 (ap (λ (k : Key). k.remote) (sym e) ∙ inj.key)) clean;
      }

  pub keeps_inject_down : (new : Chain) → ChangesOwnKeys r s new → Inv t new (put is_remote tainted r true) broken
  keeps_inject_down new o = subst (λ (u : Chain). Inv t u (put is_remote tainted r true) broken) (sym o.same) (record {
    ids = weaker.ids;
    each = weaker.each;
    own = weaker.own;
    keys = λ k clean. let c = still_clean k.remote clean in
        subst (λ (w : Bool). KeyFits (record (state_of t s broken k) { sender = new.sender k; heard = new.heard k; wanted = w }) s.items s.spot k) (sym (o.wanted k c.0))
        (subst (λ (h : ℕ → Option Sdu). KeyFits (record (state_of t s broken k) { sender = new.sender k; heard = h }) s.items s.spot k) (sym (o.heard k c.0))
        (subst (λ (a : Sender). KeyFits (record (state_of t s broken k) { sender = a }) s.items s.spot k) (sym (o.sender k c.0)) (inv.keys k c.1)));
  })
