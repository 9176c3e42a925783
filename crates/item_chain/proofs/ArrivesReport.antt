-- A status report arrives at the sender of its key: it confirms what it names, and a wait ends.
use Rattle.std.proofs.Common.{◌≡◌, ◌||◌, ◌⊎◌, ◌↔◌, inl, inr, ℕ, zero, suc, ◌+◌, ◌-◌, ◌<◌, Bool, true, false, cond, List, [], ◌∷◌, length, get_or, Option, Some, None, is_none, refl, sym, ◌∙◌, ap, subst, arith}
use Rattle.std.proofs.lemmas.Bool.{cases_Bool, false≢true, true≢false}
use Rattle.std.proofs.lemmas.List.Sums.{prefix_len_passes, prefix_len_stops, prefix_len-le-length}
use Rattle.link_base.specs.declared.names.Key.{Key}
use Rattle.link_base.specs.declared.names.PortName.{PortName}
use Rattle.link_base.specs.declared.names.Way.{Way}
use Rattle.rlc_model.specs.declared.receiver.Heard.TheVariants.{Complete}
use Rattle.rlc_model.specs.Rx.{Rx}
use Rattle.rlc_model.specs.Sides.{Entity, hearer_of}
use Rattle.rlc_model.specs.Tx.{Tx}
use Rattle.rlc_law.specs.PortLaws.{HearsDataMade}
use Rattle.pdcp_model.specs.Sender.{Sender, kept_at, confirmed, still_kept, confirms, is_reported, hears_report, IsBeyond}
use Rattle.pdcp_law.proofs.Reported.{tests_reports}
use Rattle.book_law.proofs.Senders.{Drops, report_drops, confirms_drops}
use Rattle.node_model.specs.Names.{is_node, is_key, is_port, source}
use Rattle.node_model.specs.State.{Outgoing}
use Rattle.item_law.specs.State.{Sdu, Report, Item, Arrived, is_number, put}
use Rattle.item_law.specs.State.{Chain as ItemChain, Tables as ItemTables, Sender as ItemSender}
use Rattle.item_law.specs.Steps.{Step, Arrives, IsFirstUnconfirmed, hears_report as item_hears}
use Rattle.item_law.proofs.base.Puts.{of_key, put_same}
use Rattle.item_law.proofs.Inductive.{reaches_inv}
use Rattle.item_chain.specs.View.{View, is_side, put_at}
use Rattle.item_chain.specs.Stands.{item_tables, SenderFits, OutgoingFits, calm, Ghost, Stands, Refines}
use Rattle.item_chain.proofs.Completed.{n, left}
use Rattle.item_chain.proofs.Ends.{outgoing_goes}
use Rattle.item_chain.proofs.Hearing.{its}
use Rattle.item_chain.proofs.Tags.{only_arrived}
use Rattle.item_chain.proofs.Receives.{some_is}

-- what passes the test, or was free, is free
pub freed : (test : ℕ → Bool) (count : ℕ) (xs : List (Option Sdu)) (k : ℕ) → (get_or xs k None ≡ None) ⊎ (test (count + k) ≡ true) → get_or (still_kept test count xs) k None ≡ None
freed test count [] k h = refl
freed test count (x ∷ xs) zero h = by (test count) refl h
  where
    by : (b : Bool) → test count ≡ b → (x ≡ None) ⊎ (test (count + 0) ≡ true) → cond b None x ≡ None
    by true t h = refl
    by false t (inl e) = e
    by false t (inr p) = absurd (false≢true (sym t ∙ ap test (let same : count ≡ count + 0 = omega arith in same) ∙ p))
freed test count (x ∷ xs) (suc k) h = freed test (count + 1) xs k (elim h [
  | inl e ↦ inl e
  | inr p ↦ inr (ap test (let same : count + 1 + k ≡ count + suc k = omega arith in same) ∙ p)
])

module _ (a : ItemSender) (s : Sender) (fit : SenderFits a s) (named : ℕ → Bool) (fmc : ℕ) (map : List ℕ) (same : (c : ℕ) → named c ≡ is_reported fmc map (s.first + c)) where
  abbrev behind : Sender
  behind = confirms s (is_reported fmc map)

  abbrev pub new_sender : Sender
  new_sender = hears_report s fmc map

  abbrev pub p : ℕ
  p = confirmed behind

  drops : Drops (λ count. is_reported fmc map count ≡ true) s behind
  drops = confirms_drops (λ count. is_reported fmc map count ≡ true) s (is_reported fmc map) (λ count e. e)

  drops_all : Drops (λ count. is_reported fmc map count ≡ true) s new_sender
  drops_all = report_drops (λ count. is_reported fmc map count ≡ true) s fmc map (λ count e. e)

  long : length behind.kept ≡ length s.kept
  long = drops.forgets.many

  -- a COUNT is confirmed then where it was, or is named
  free_is : (c : ℕ) → c < length s.kept → (kept_at behind c ≡ None) ↔ ((a.confirmed c || named c) ≡ true)
  free_is c lt = (to, from)
    where
      either : (x y : Bool) → (x ≡ true) ⊎ (y ≡ true) → (x || y) ≡ true
      either true y e = refl
      either false y (inl e) = absurd (false≢true e)
      either false y (inr e) = e

      parts : (x y : Bool) → (x || y) ≡ true → (x ≡ true) ⊎ (y ≡ true)
      parts true y e = inl refl
      parts false y e = inr e

      to : kept_at behind c ≡ None → (a.confirmed c || named c) ≡ true
      to none = either (a.confirmed c) (named c) (elim (drops.causes c lt none) [
        | inl was ↦ inl ((fit.confirmed c lt).1 was)
        | inr cause ↦ inr (same c ∙ cause)
      ])

      from : (a.confirmed c || named c) ≡ true → kept_at behind c ≡ None
      from e = freed (is_reported fmc map) s.first s.kept c (elim (parts (a.confirmed c) (named c) e) [
        | inl was ↦ inl ((fit.confirmed c lt).0 was)
        | inr is ↦ inr (sym (same c) ∙ is)
      ])

  none_of : (o : Option Sdu) → is_none o ≡ true → o ≡ None
  none_of None e = refl
  none_of (Some x) e = absurd (false≢true e)

  pub first_unconfirmed : IsFirstUnconfirmed a named p
  first_unconfirmed = record {
    within = omega (arith, prefix_len-le-length is_none behind.kept, long, fit.long);
    below = λ c lt. (free_is c (omega (arith, lt, prefix_len-le-length is_none behind.kept, long))).0
        (none_of (kept_at behind c) (prefix_len_passes is_none behind.kept c None lt));
    stops = λ lt. not_free (cases_Bool (a.confirmed p || named p)) (omega (arith, lt, fit.long));
  }
    where
      not_free : ((a.confirmed p || named p) ≡ true) ⊎ ((a.confirmed p || named p) ≡ false) → p < length s.kept → (a.confirmed p || named p) ≡ false
      not_free (inr e) lt = e
      not_free (inl e) lt = absurd (true≢false (ap is_none (sym ((free_is p lt).1 e)) ∙ prefix_len_stops is_none behind.kept None (omega (arith, lt, long))))

  same_kept : new_sender.kept ≡ behind.kept
  same_kept = elim s.waits as (λ b. (cond b (record behind { waits = false; place = p }) behind).kept ≡ behind.kept) [
    | true ↦ refl
    | false ↦ refl
  ]

  pub reported_fits : SenderFits (item_hears a named p) new_sender
  reported_fits = record {
    long = fit.long ∙ sym long ∙ ap (λ (xs : List (Option Sdu)). length xs) (sym same_kept);
    sdus = λ c sdu is. fit.sdus c sdu (drops_all.forgets.each c sdu is);
    confirmed = λ c lt.
        let low : c < length s.kept = omega (arith, lt, ap (λ (xs : List (Option Sdu)). length xs) same_kept, long) in
        let here : kept_at new_sender c ≡ kept_at behind c = ap (λ (xs : List (Option Sdu)). get_or xs c None) same_kept in
        ((λ e. here ∙ (free_is c low).1 e), (λ e. (free_is c low).0 (sym here ∙ e)));
    place = ap (λ (w : Bool). cond w p a.place) fit.waits ∙ place_is s.waits refl;
    waits = waits_is s.waits refl;
    bodies = fit.bodies;
  }
    where
      place_is : (w : Bool) → s.waits ≡ w → cond s.waits p a.place ≡ new_sender.place
      place_is true e = ap (λ (w : Bool). cond w p a.place) e ∙ sym (ap (λ (w : Bool). (cond w (record behind { waits = false; place = p }) behind).place) e)
      place_is false e = ap (λ (w : Bool). cond w p a.place) e ∙ fit.place ∙ sym (ap (λ (w : Bool). (cond w (record behind { waits = false; place = p }) behind).place) e)

      waits_is : (w : Bool) → s.waits ≡ w → false ≡ new_sender.waits
      waits_is true e = sym (ap (λ (w : Bool). (cond w (record behind { waits = false; place = p }) behind).waits) e)
      waits_is false e = sym e ∙ sym (ap (λ (w : Bool). (cond w (record behind { waits = false; place = p }) behind).waits) e)

  pub kind_stays : (new_sender.size ≡ s.size) × (new_sender.first ≡ s.first) × (length new_sender.kept ≡ length s.kept)
  kind_stays = (drops_all.forgets.size, drops_all.forgets.first, drops_all.forgets.many)

module _ (g : Ghost) (v : View) (st : Stands g v) (way : Way) (name : PortName) (e : Entity) (is_open : v.entity (hearer_of way) name ≡ Some e) (number : ℕ) (bytes : List ℕ)
    (tx : Tx) (rx : Rx)
    (x : ℕ) (sdu : List ℕ) (h : HearsDataMade (its g v st way name e is_open number bytes tx rx) way number bytes (Complete x sdu) tx rx) where
  abbrev N : ℕ
  N = n g v st way name e is_open number bytes tx rx x sdu h

  abbrev a : ItemChain
  a = g.chain

  abbrev T : ItemTables
  T = item_tables v.tables

  module _ (i : Item) (its_item : a.items N ≡ Some i) (named : ℕ → Bool) (content : i.content ≡ Report named)
      (step : (new : ItemChain) → Arrives a N i.key (Report named) new → Step T a new)
      (out : Outgoing) (has : v.outgoing (source i.key) i.key ≡ Some out) (fmc : ℕ) (map : List ℕ) (same : (c : ℕ) → named c ≡ is_reported fmc map (out.sender.first + c)) where
    abbrev k : Key
    k = i.key

    fits : OutgoingFits v.tables a.sender (source k) k out
    fits = st.ends.outgoings (source k) k out has

    -- it names only what was submitted
    named_submitted : (c : ℕ) → named c ≡ true → c < length out.sender.kept
    named_submitted c is =
        let inv = reaches_inv T (calm a) st.reaches in
        let f = inv.keys k refl in
        let heard = some_is (a.heard k c) (f.named N i named c (record { is = its_item; key = refl }) content is) in
        omega (arith, (f.submitted c heard.0 heard.1).0, fits.fits.long)

    pub not_beyond : IsBeyond out.sender fmc map → ⊥
    not_beyond (inl low) =
        let last = length out.sender.kept in
        omega (arith, named_submitted last (same last ∙ (tests_reports fmc map (out.sender.first + last)).1 (inl low)))
    not_beyond (inr b) =
        let c = b.0 - out.sender.first in
        omega (
          arith,
          named_submitted c (same c ∙ ap (is_reported fmc map) (let at : out.sender.first + c ≡ b.0 = omega (arith, b.1) in at) ∙ (tests_reports fmc map b.0).1 b.2),
          b.1,
        )

    abbrev now : ItemSender
    now = item_hears (a.sender k) named (p (a.sender k) out.sender fits.fits named fmc map same)

    abbrev chain : ItemChain
    chain = record a { sender = put is_key a.sender k now; spot = put is_number a.spot N Arrived }

    pub report_arrives : Refines v.tables g (record v {
      entity = put_at is_side is_port v.entity (hearer_of way) name (Some (record e { tx = tx; rx = rx }));
      outgoing = put_at is_node is_key v.outgoing (source k) k (Some (record out { sender = hears_report out.sender fmc map }));
    })
    report_arrives =
        let kind = kind_stays (a.sender k) out.sender fits.fits named fmc map same in
        left g v st way name e is_open number bytes tx rx x sdu h Arrived (only_arrived name) refl (put is_key a.sender k now) a.heard
        (put_at is_node is_key v.outgoing (source k) k (Some (record out { sender = hears_report out.sender fmc map }))) v.incoming
        (step chain (p (a.sender k) out.sender fits.fits named fmc map same, first_unconfirmed (a.sender k) out.sender fits.fits named fmc map same, refl))
        (outgoing_goes st.ends k (record out { sender = hears_report out.sender fmc map }) now (record {
          home = refl;
          named = fits.named;
          row = fits.row;
          its_row = fits.its_row;
          size = kind.0 ∙ fits.size;
          first = kind.1 ∙ fits.first;
          few =
              omega (arith, fits.few, kind.1, kind.2);
          fits = subst (λ (s : ItemSender). SenderFits s (hears_report out.sender fmc map)) (sym (put_same of_key a.sender k now))
              (reported_fits (a.sender k) out.sender fits.fits named fmc map same);
        }))
