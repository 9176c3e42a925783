-- The laws of one copy, from the invariant.
use Rattle.std.proofs.Common.{◌≡◌, inl, inr, ℕ, false, Some, refl, sym, ◌∙◌, ap}
use Rattle.std.proofs.lemmas.Bool.{false≢true, true≢false, cases_Bool}
use Rattle.item_law.specs.State.{Key, Way, Item, Chain, source, sink, has_applied}
use Rattle.item_law.specs.OneCopy.{ConfirmsHeard, LiveOnce, LiveUnheard, NoneLiveInWait, ReportsNameHeard, WaitEnds, GivenArrives, PlaceIsNext}
use Rattle.item_law.proofs.base.Apart.{data_way, report_way, sink_flip}
use Rattle.item_law.proofs.base.Nodes.{epoch_old, not_ahead}
use Rattle.item_law.proofs.kept.Invariant.{IsOf}
use Rattle.item_law.proofs.Inductive.{reaches_inv}
use Rattle.item_law.proofs.laws.LiveItems.{live_now, moving_live}

own_of : (s : Chain) (n : ℕ) (i : Item) → s.items n ≡ Some i → IsOf s.items i.key n i
own_of s n i is = record { is = is; key = refl }

pub confirms_heard : ConfirmsHeard
confirms_heard t w run k clean = ((reaches_inv t w run).keys k clean).confirmed

pub live_once : LiveOnce
live_once t w run n m i j c x y clean li lj iw jw k =
    let inv = reaches_inv t w run in
    let now = (live_now inv n i clean li).now in
    let also = (live_now inv m j (ap (λ (k : Key). w.tainted k.remote) (sym k) ∙ clean) lj).now in
    (inv.keys i.key clean).once n m i j c x y (own_of w.chain n i li.is) (record { is = lj.is; key = sym k }) iw jw
    (now ∙ ap (λ (k : Key). (w.chain.path k.remote).epoch) k ∙ sym also)

pub live_unheard : LiveUnheard
live_unheard t w run n i c x clean l content =
    let inv = reaches_inv t w run in
    let now = live_now inv n i clean l in
    (inv.keys i.key clean).unheard n i c x (own_of w.chain n i l.is) content now.now now.moves

pub none_live_in_wait : NoneLiveInWait
none_live_in_wait t w run n i c x clean waits one l content =
    let inv = reaches_inv t w run in
    let now = live_now inv n i clean l in
    let p = w.chain.path i.key.remote in
    let old : has_applied p (sink i.key.way) ≡ false = ap (λ (w : Way). has_applied p (sink w)) (sym (data_way i c x content)) ∙ now.old in
    let near = not_ahead p (source i.key.way) i.epoch (inv.own n i l.is clean).limit (one ∙ epoch_old p (sink i.key.way) old ∙ sym now.now) in
    true≢false (sym waits ∙ ((inv.keys i.key clean).sent n i c x (own_of w.chain n i l.is) content now.now near.0).0)

pub reports_name_heard : ReportsNameHeard
reports_name_heard t w run n i f clean waits l content =
    let inv = reaches_inv t w run in
    let now = live_now inv n i clean l in
    (inv.keys i.key clean).reports n i f (own_of w.chain n i l.is) content now.now
    (ap (has_applied (w.chain.path i.key.remote)) (sym (sink_flip i.key.way) ∙ ap sink (sym (report_way i f content))) ∙ now.old) waits

pub wait_ends : WaitEnds
wait_ends t w run k settled waits =
    let inv = reaches_inv t w run in
    elim ((inv.keys k settled.clean).waiting settled.no_plan settled.sound waits) [
      | inl h ↦ inl h
      | inr g ↦ inr (record { n = g.0; i = g.1; named = g.2; live = moving_live inv k g.0 g.1 settled.clean settled.no_plan g.3; key = g.3.of.key; content = g.4 })
    ]

pub given_arrives : GivenArrives
given_arrives t w run k c settled waits below =
    let inv = reaches_inv t w run in
    elim ((inv.keys k settled.clean).given c settled.no_plan settled.sound waits below) [
      | inl h ↦ inl h
      | inr g ↦ inr (record { n = g.0; i = g.1; sdu = g.2; live = moving_live inv k g.0 g.1 settled.clean settled.no_plan g.3; key = g.3.of.key; content = g.4 })
    ]

pub place_is_next : PlaceIsNext
place_is_next t w run k clean waits =
    let inv = reaches_inv t w run in
    let fit = inv.keys k clean in
    let goes : has_applied (w.chain.path k.remote) (source k.way) ≡ false = elim (cases_Bool (has_applied (w.chain.path k.remote) (source k.way))) [
      | inl a ↦ absurd (false≢true (sym waits ∙ fit.waits a))
      | inr a ↦ a
    ] in (
      λ n i c x l key content.
          let now = live_now inv n i (ap (λ (k : Key). w.tainted k.remote) key ∙ clean) l in
          (fit.sent n i c x (record { is = l.is; key = key }) content (now.now ∙ ap (λ (k : Key). (w.chain.path k.remote).epoch) key) goes).1,
      λ c le h. fit.beyond c waits le h,
    )
