-- The laws of what arrives and what is handed up, from the invariant.
use Rattle.std.proofs.Common.{◌≡◌, inl, inr, ℕ, suc, ◌+◌, ◌<◌, ◌≤◌, true, List, [], ◌∷◌, ◌++◌, length, get_or, Option, Some, None, refl, sym, ◌∙◌, ap, arith}
use Rattle.std.specs.Option.{is_some}
use Rattle.std.proofs.lemmas.Bool.{false≢true, cases_lt}
use Rattle.std.proofs.lemmas.List.{length-append, nil_from_length, append-nil}
use Rattle.item_law.specs.State.{Key, Sdu, Item, Spot, way_of}
use Rattle.item_law.specs.HandUps.{RelaysForOwner, ArrivesForOwner, RelayTakesAttached, GnbTakesAttached, RemoteTakesAll, HearsSubmitted, IsHandUp, IsPrefixOf, HandsUpPrefix, HandsUpAll, LiveInWindow, HeardInWindow}
use Rattle.item_law.proofs.kept.Invariant.{KeyState, KeyFits}
use Rattle.item_law.proofs.moving.AtRelay.{relays_own, relay_takes}
use Rattle.item_law.proofs.moving.AtEnd.{takes_own, gnb_takes, remote_takes}
use Rattle.item_law.proofs.Inductive.{reaches_inv}
use Rattle.item_law.proofs.laws.LiveItems.{live_now, moving_live}

---- what arrives

pub relays_for_owner : RelaysForOwner
relays_for_owner t w run n i u q is at id routes = relays_own (reaches_inv t w run) n i u is at id (way_of i) q refl routes

pub arrives_for_owner : ArrivesForOwner
arrives_for_owner t w run n i to e q is at routes = takes_own (reaches_inv t w run) n i to e is at (way_of i) q refl routes

pub relay_takes_attached : RelayTakesAttached
relay_takes_attached t w run n i u q clean is at id is_open has = relay_takes (reaches_inv t w run) n i u is at id (way_of i) q refl clean is_open has

pub gnb_takes_attached : GnbTakesAttached
gnb_takes_attached t w run n i to e q is at h has = gnb_takes (reaches_inv t w run) n i to e is at q h has

pub remote_takes_all : RemoteTakesAll
remote_takes_all t w run n i to e clean is at h is_open = remote_takes (reaches_inv t w run) n i to e is at clean h is_open

---- what is handed up

pub hears_submitted : HearsSubmitted
hears_submitted t w run k clean = ((reaches_inv t w run).keys k clean).submitted

prefix_of : (xs ys : List Sdu) → ((c : ℕ) → c < length xs → (c < length ys) × (get_or xs c [] ≡ get_or ys c [])) → IsPrefixOf xs ys
prefix_of [] ys h = (ys, refl)
prefix_of (x ∷ xs) [] h = absurd (omega (arith, (h 0 (omega arith)).0))
prefix_of (x ∷ xs) (y ∷ ys) h =
    let rest = prefix_of xs ys (λ c lt. let at = h (suc c) (omega arith) in (omega (arith, at.0), at.1)) in
    let same : x ≡ y = (h 0 (omega arith)).1 in
    (rest.0, ap (λ (z : Sdu). z ∷ (xs ++ rest.0)) same ∙ ap (λ (zs : List Sdu). y ∷ zs) rest.1)

prefix_all : (xs ys : List Sdu) → IsPrefixOf xs ys → length ys ≤ length xs → xs ≡ ys
prefix_all xs ys p le =
    let none : p.0 ≡ [] = nil_from_length p.0 (omega (arith, ap length (sym p.1), length-append xs p.0, le)) in
    sym (append-nil xs) ∙ ap (λ (zs : List Sdu). xs ++ zs) (sym none) ∙ p.1

pub hands_up_prefix : HandsUpPrefix
hands_up_prefix t w run k up clean is = prefix_of up (w.chain.sender k).submitted (λ c lt. hears_submitted t w run k clean c (get_or up c []) (is.run c lt))

pub hands_up_all : HandsUpAll
hands_up_all t w run k up settled quiet is =
    let inv = reaches_inv t w run in
    let fit = inv.keys k settled.clean in
    let unheard : is_some (w.chain.heard k (length up)) ≡ true → ⊥ = λ h. false≢true (sym (ap is_some is.stops) ∙ h) in
    prefix_all up (w.chain.sender k).submitted (hands_up_prefix t w run k up settled.clean is)
    (elim (cases_lt (length up) (length (w.chain.sender k).submitted)) [
      | inl lt ↦ absurd (elim (cases_lt (length up) (w.chain.sender k).place) [
        | inl below ↦ elim (fit.given (length up) settled.no_plan settled.sound quiet.waits below) [
          | inl h ↦ unheard h
          | inr g ↦ quiet.items g.0 g.1 g.3.of.key (moving_live inv k g.0 g.1 settled.clean settled.no_plan g.3)
        ]
        | inr le ↦ unheard (fit.confirmed (length up) (quiet.given (length up) le lt))
      ])
      | inr le ↦ le
    ])

---- windows

module _ {at : KeyState} {items : ℕ → Option Item} {spot : ℕ → Spot} {k : Key} (fit : KeyFits at items spot k) (up : List Sdu) (is : IsHandUp at.heard up) where
  -- all that is confirmed at the front was handed up
  up_past : fit.few.n ≤ length up
  up_past = elim (cases_lt (length up) fit.few.n) [
    | inl lt ↦ absurd (false≢true (sym (ap is_some is.stops) ∙ fit.confirmed (length up) (fit.few.first (length up) lt)))
    | inr le ↦ le
  ]

  below_limit : (c : ℕ) → c < length at.sender.submitted → c < length up + at.limit
  below_limit c lt = omega (arith, up_past, fit.few.few)

some_of : (o : Option Sdu) → is_some o ≡ true → (x : Sdu) × (o ≡ Some x)
some_of None e = absurd (false≢true e)
some_of (Some x) e = (x, refl)

pub live_in_window : LiveInWindow
live_in_window t w run n i c x up clean l content is =
    let inv = reaches_inv t w run in
    let fit = inv.keys i.key clean in
    let now = live_now inv n i clean l in (
      elim (cases_lt c (length up)) [
        | inl lt ↦ absurd (false≢true (sym (fit.unheard n i c x (record { is = l.is; key = refl }) content now.now now.moves) ∙ ap is_some (is.run c lt)))
        | inr le ↦ le
      ],
      below_limit fit up is c (fit.sdus n i c x (record { is = l.is; key = refl }) content).0,
    )

pub heard_in_window : HeardInWindow
heard_in_window t w run k c up clean is h =
    let fit = (reaches_inv t w run).keys k clean in
    let x = some_of (w.chain.heard k c) h in
    below_limit fit up is c (fit.submitted c x.0 x.1).0
