-- What is named of SDUs, element by element.
use Rattle.std.proofs.Common.{◌≡◌, ◌≢◌, ◌⊎◌, ◌↔◌, inl, inr, ℕ, zero, suc, ◌+◌, ◌-◌, ◌<◌, ◌≤◌, true, List, [], ◌∷◌, length, take, set, get_or, Option, sym, ◌∙◌, ap, subst, arith, get_or-set_same, get_or-set_other}
use Rattle.std.proofs.lemmas.Bool.{cases_eq}
use Rattle.std.proofs.lemmas.List.{take_all}
use Rattle.std.proofs.lemmas.Option.{none-some}
use Rattle.link_base.specs.declared.names.SnSize.{SnSize}
use Rattle.rlc_status.specs.declared.status.Nack.{Nack}
use Rattle.rlc_status.specs.Says.{IsGreatest, count, Some_has, NamesNumber, NamesPlace}
use Rattle.rlc_model.specs.Tx.{Kept, at}
use Rattle.rlc_am_tx.specs.declared.naming.Naming.{Naming}
use Rattle.rlc_am_tx.specs.Elements.{HoldsNumber, HoldsPlace}
use Rattle.rlc_am_tx.specs.Naming.{not_named, named_at, IsNamingOf, NamesMore, CanName, AreNamingsOf, NamesAll, ByElement, ByElements, CanNameOne, AreForgotten}
use Rattle.rlc_am_tx.proofs.Nacks.{no_nack, some_more, some_at, number_held, place_held}

-- nothing is named
pub none_fits : (o : Option Kept) → IsNamingOf o not_named
none_fits o set is = absurd (none-some set is)

pub forgotten_fit : (kept_sdus : List (Option Kept)) (names : List Naming) → AreForgotten names → AreNamingsOf kept_sdus names
forgotten_fit kept_sdus names f i = subst (IsNamingOf (at kept_sdus i)) (sym (f i)) (none_fits (at kept_sdus i))

pub same_more : (o : Option Kept) (P : ℕ → Type 0) (x : Naming) → ((p : ℕ) → P p → ⊥) → NamesMore o P x x
same_more o P x empty k is p lt = (λ h. inl h, λ w. elim w [ inl h ↦ h | inr h ↦ absurd (empty p h) ])

-- nothing more is named
pub names_none : (kept_sdus : List (Option Kept)) (N : ℕ → Type 0) (P : ℕ → ℕ → Type 0) (names : List Naming) → AreNamingsOf kept_sdus names → ((i : ℕ) → N i → ⊥) → ((i p : ℕ) → P i p → ⊥) → NamesAll kept_sdus N P names names
names_none kept_sdus N P names fits none empty = record {
  numbers = λ i. (λ h. inl h, λ w. elim w [ inl h ↦ h | inr h ↦ absurd (none i h) ]);
  places = λ i. same_more (at kept_sdus i) (P i) (named_at names i) (empty i);
  fits = fits;
}

-- one more number is named
module _ (kept_sdus : List (Option Kept)) (N N' : ℕ → Type 0) (P P' : ℕ → ℕ → Type 0) (Q : ℕ → Type 0) (old cur : List Naming) (at_ : ℕ) (x : Naming) where
  pub names_next : NamesAll kept_sdus N P old cur → at_ < length cur → IsNamingOf (at kept_sdus at_) x → x.named ≡ true → NamesMore (at kept_sdus at_) Q (named_at cur at_) x
      → ((i : ℕ) → i ≢ at_ → N' i ↔ N i) → N' at_ → ((i p : ℕ) → i ≢ at_ → P' i p ↔ P i p) → ((p : ℕ) → P' at_ p ↔ P at_ p ⊎ Q p) → NamesAll kept_sdus N' P' old (set cur at_ x)
  names_next a lt fits named more others this other_places these =
      let here : named_at (set cur at_ x) at_ ≡ x = get_or-set_same cur at_ x not_named lt in
      record {
        numbers = λ i. elim (cases_eq i at_) [
          | inl eq ↦ (λ h. inr (subst N' (sym eq) this), λ w. ap (λ j. (named_at (set cur at_ x) j).named) eq ∙ ap (λ (y : Naming). y.named) here ∙ named)
          | inr ne ↦
              let there : named_at (set cur at_ x) i ≡ named_at cur i = get_or-set_other cur at_ i x not_named ne in (
                λ h. elim ((a.numbers i).0 (ap (λ (y : Naming). y.named) (sym there) ∙ h)) [ inl was ↦ inl was | inr w ↦ inr ((others i ne).1 w) ],
                λ w. ap (λ (y : Naming). y.named) there ∙ (a.numbers i).1 (elim w [ inl was ↦ inl was | inr w ↦ inr ((others i ne).0 w) ]),
              )
        ];
        places = λ i. elim (cases_eq i at_) [
          | inl eq ↦ subst (λ j. NamesMore (at kept_sdus j) (P' j) (named_at old j) (named_at (set cur at_ x) j)) (sym eq) (subst (NamesMore (at kept_sdus at_) (P' at_) (named_at old at_)) (sym here)
              (λ k is p in_k. (
                λ h. elim ((more k is p in_k).0 h) [ inl mid ↦ elim ((a.places at_ k is p in_k).0 mid) [ inl was ↦ inl was | inr w ↦ inr ((these p).1 (inl w)) ] | inr w ↦ inr ((these p).1 (inr w)) ],
                λ w. (more k is p in_k).1 (elim w [
                  | inl was ↦ inl ((a.places at_ k is p in_k).1 (inl was))
                  | inr w ↦ elim ((these p).0 w) [ inl v ↦ inl ((a.places at_ k is p in_k).1 (inr v)) | inr v ↦ inr v ]
                ]),
              )))
          | inr ne ↦ subst (NamesMore (at kept_sdus i) (P' i) (named_at old i)) (sym (get_or-set_other cur at_ i x not_named ne))
              (λ k is p in_k. (
                λ h. elim ((a.places i k is p in_k).0 h) [ inl was ↦ inl was | inr w ↦ inr ((other_places i p ne).1 w) ],
                λ w. (a.places i k is p in_k).1 (elim w [ inl was ↦ inl was | inr w ↦ inr ((other_places i p ne).0 w) ]),
              ))
        ];
        fits = λ i. elim (cases_eq i at_) [
          | inl eq ↦ subst (λ j. IsNamingOf (at kept_sdus j) (named_at (set cur at_ x) j)) (sym eq) (subst (IsNamingOf (at kept_sdus at_)) (sym here) fits)
          | inr ne ↦ subst (IsNamingOf (at kept_sdus i)) (sym (get_or-set_other cur at_ i x not_named ne)) (a.fits i)
        ];
      }

-- what is named first, and then
pub names_both : (kept_sdus : List (Option Kept)) (N M R : ℕ → Type 0) (P Q S : ℕ → ℕ → Type 0) (old mid new : List Naming) → NamesAll kept_sdus N P old mid → NamesAll kept_sdus M Q mid new → ((i : ℕ) → R i ↔ N i ⊎ M i) → ((i p : ℕ) → S i p ↔ P i p ⊎ Q i p) → NamesAll kept_sdus R S old new
names_both kept_sdus N M R P Q S old mid new a b numbers places = record {
  numbers = λ i. (
    λ h. elim ((b.numbers i).0 h) [ inl m ↦ elim ((a.numbers i).0 m) [ inl was ↦ inl was | inr w ↦ inr ((numbers i).1 (inl w)) ] | inr w ↦ inr ((numbers i).1 (inr w)) ],
    λ w. (b.numbers i).1 (elim w [ inl was ↦ inl ((a.numbers i).1 (inl was)) | inr w ↦ elim ((numbers i).0 w) [ inl v ↦ inl ((a.numbers i).1 (inr v)) | inr v ↦ inr v ] ]),
  );
  places = λ i k is p lt. (
    λ h. elim ((b.places i k is p lt).0 h) [ inl m ↦ elim ((a.places i k is p lt).0 m) [ inl was ↦ inl was | inr w ↦ inr ((places i p).1 (inl w)) ] | inr w ↦ inr ((places i p).1 (inr w)) ],
    λ w. (b.places i k is p lt).1 (elim w [ inl was ↦ inl ((a.places i k is p lt).1 (inl was)) | inr w ↦ elim ((places i p).0 w) [ inl v ↦ inl ((a.places i k is p lt).1 (inr v)) | inr v ↦ inr v ] ]),
  );
  fits = b.fits;
}

-- the same numbers and places
pub names_same : (kept_sdus : List (Option Kept)) (N M : ℕ → Type 0) (P Q : ℕ → ℕ → Type 0) (old new : List Naming) → ((i : ℕ) → M i ↔ N i) → ((i p : ℕ) → Q i p ↔ P i p) → NamesAll kept_sdus N P old new → NamesAll kept_sdus M Q old new
names_same kept_sdus N M P Q old new numbers places a = record {
  numbers = λ i. (λ h. elim ((a.numbers i).0 h) [ inl was ↦ inl was | inr w ↦ inr ((numbers i).1 w) ], λ w. (a.numbers i).1 (elim w [ inl was ↦ inl was | inr w ↦ inr ((numbers i).0 w) ]));
  places = λ i k is p lt. (λ h. elim ((a.places i k is p lt).0 h) [ inl was ↦ inl was | inr w ↦ inr ((places i p).1 w) ], λ w. (a.places i k is p lt).1 (elim w [ inl was ↦ inl was | inr w ↦ inr ((places i p).0 w) ]));
  fits = a.fits;
}

-- an element names of the numbers from `base` on those below this one
abbrev pub HoldsBelow : Nack → ℕ → ℕ → ℕ → ℕ → Type 0
HoldsBelow nack base first number i = (first ≤ base + i) × (base + i < number)

abbrev pub ByElementBelow : List (Option Kept) → ℕ → ℕ → ℕ → Nack → List Naming → List Naming → Type 0
ByElementBelow kept_sdus base first number nack old new = NamesAll kept_sdus (HoldsBelow nack base first number) (λ i p. HoldsBelow nack base first number i × HoldsPlace nack first (base + i) p) old new

module _ (kept_sdus : List (Option Kept)) (base first : ℕ) (nack : Nack) (old : List Naming) where
  pub below_begin : (number : ℕ) → AreNamingsOf kept_sdus old → (number ≤ first) ⊎ (number ≤ base) → ByElementBelow kept_sdus base first number nack old old
  below_begin number fits low =
      let none : (i : ℕ) → HoldsBelow nack base first number i → ⊥ = λ i h. elim low [ inl le ↦ omega (arith, le, h.0, h.1) | inr le ↦ omega (arith, le, h.1) ] in
      names_none kept_sdus (HoldsBelow nack base first number) (λ i p. HoldsBelow nack base first number i × HoldsPlace nack first (base + i) p) old fits none (λ i p h. none i h.0)

  pub below_next : (number : ℕ) (cur : List Naming) (x : Naming) (Q : ℕ → Type 0) → base ≤ number → first ≤ number → number - base < length cur → ByElementBelow kept_sdus base first number nack old cur
      → IsNamingOf (at kept_sdus (number - base)) x → x.named ≡ true → NamesMore (at kept_sdus (number - base)) Q (named_at cur (number - base)) x → ((p : ℕ) → Q p ↔ HoldsPlace nack first number p)
      → ByElementBelow kept_sdus base first (number + 1) nack old (set cur (number - base) x)
  below_next number cur x Q from after lt a fits named more places =
      let i0 = number - base in
      let back : base + i0 ≡ number = omega (arith, from) in
      names_next kept_sdus (HoldsBelow nack base first number) (HoldsBelow nack base first (number + 1)) (λ i p. HoldsBelow nack base first number i × HoldsPlace nack first (base + i) p) (λ i p. HoldsBelow nack base first (number + 1) i × HoldsPlace nack first (base + i) p) Q old cur i0 x
      a lt fits named more
      (λ i ne. (λ h. (h.0, omega (arith, h.1, ne, from)), λ h. (h.0, omega (arith, h.1))))
      (omega (arith, from, after), omega (arith, from))
      (λ i p ne. (λ h. ((h.0.0, omega (arith, h.0.1, ne, from)), h.1), λ h. ((h.0.0, omega (arith, h.0.1)), h.1)))
      (λ p. (
        λ h. inr ((places p).1 (subst (λ n. HoldsPlace nack first n p) back h.1)),
        λ w. elim w [
          | inl h ↦ absurd (omega (arith, h.0.1, back))
          | inr q ↦ ((omega (arith, from, after), omega (arith, from)), subst (λ n. HoldsPlace nack first n p) (sym back) ((places p).0 q))
        ],
      ))

  pub below_all : (number : ℕ) (new : List Naming) → first + count nack ≤ number → (number ≤ first + count nack) ⊎ (number ≤ base) → ByElementBelow kept_sdus base first number nack old new → ByElement kept_sdus base first nack old new
  below_all number new ge le a =
      let to : (i : ℕ) → HoldsNumber nack first (base + i) → HoldsBelow nack base first number i = λ i h. (h.0, omega (arith, h.1, ge)) in
      let from : (i : ℕ) → HoldsBelow nack base first number i → HoldsNumber nack first (base + i) = λ i h. (h.0, elim le [ inl l ↦ omega (arith, l, h.1) | inr l ↦ absurd (omega (arith, l, h.1)) ]) in
      names_same kept_sdus (HoldsBelow nack base first number) (λ i. HoldsNumber nack first (base + i)) (λ i p. HoldsBelow nack base first number i × HoldsPlace nack first (base + i) p) (λ i p. HoldsNumber nack first (base + i) × HoldsPlace nack first (base + i) p) old new
      (λ i. (to i, from i)) (λ i p. (λ h. (to i h.0, h.1), λ h. (from i h.0, h.1))) a

  -- a byte of a number can be named, of which none was by this element
  pub can_name_one : (number : ℕ) (cur : List Naming) (Q : ℕ → Type 0) → base ≤ number → first ≤ number → number < first + count nack → ByElementBelow kept_sdus base first number nack old cur → ((p : ℕ) → Q p ↔ HoldsPlace nack first number p) → CanName (at kept_sdus (number - base)) Q (named_at cur (number - base)) → CanNameOne kept_sdus (λ i p. HoldsNumber nack first (base + i) × HoldsPlace nack first (base + i) p) old
  can_name_one number cur Q from after lt a places c =
      let i0 = number - base in
      let back : base + i0 ≡ number = omega (arith, from) in (
        i0,
        record {
          kept = c.kept;
          is = c.is;
          place = c.place;
          sent = c.sent;
          idle = c.idle;
          why = elim c.why [
            | inl cur_ ↦ elim ((a.places i0 c.kept c.is c.place c.sent).0 cur_) [ inl was ↦ inl was | inr h ↦ inr ((h.0.0, omega (arith, h.0.1, lt)), h.1) ]
            | inr q ↦ inr ((omega (arith, back, after), omega (arith, back, lt)), subst (λ n. HoldsPlace nack first n c.place) (sym back) ((places c.place).0 q))
          ];
        },
      )

module _ (kept_sdus : List (Option Kept)) (base : ℕ) (size : SnSize) (ack : ℕ) (nacks : List Nack) (old : List Naming) where
  pub elements_begin : AreNamingsOf kept_sdus old → ByElements kept_sdus base size ack [] old old
  elements_begin fits = names_none kept_sdus (λ i. Some_has (λ e. NamesNumber size ack e (base + i)) []) (λ i p. Some_has (λ e. NamesPlace size ack e (base + i) p) []) old fits (λ i h. h) (λ i p h. h)

  module _ (j : ℕ) (lt : j < length nacks) (cur : List Naming) (a : ByElements kept_sdus base size ack (take j nacks) old cur) where
    abbrev e : Nack
    e = get_or nacks j no_nack

    pub elements_same : ((m : ℕ) → IsGreatest size ack e.sn m → ⊥) → ByElements kept_sdus base size ack (take (j + 1) nacks) old cur
    elements_same none = names_same kept_sdus (λ i. Some_has (λ x. NamesNumber size ack x (base + i)) (take j nacks)) (λ i. Some_has (λ x. NamesNumber size ack x (base + i)) (take (j + 1) nacks)) (λ i p. Some_has (λ x. NamesPlace size ack x (base + i) p) (take j nacks)) (λ i p. Some_has (λ x. NamesPlace size ack x (base + i) p) (take (j + 1) nacks)) old cur
        (λ i. (λ h. elim ((some_more (λ x. NamesNumber size ack x (base + i)) nacks j no_nack lt).0 h) [ inl before ↦ before | inr here ↦ absurd (none here.first here.is) ], λ h. (some_more (λ x. NamesNumber size ack x (base + i)) nacks j no_nack lt).1 (inl h)))
        (λ i p. (λ h. elim ((some_more (λ x. NamesPlace size ack x (base + i) p) nacks j no_nack lt).0 h) [ inl before ↦ before | inr here ↦ absurd (none here.number.first here.number.is) ], λ h. (some_more (λ x. NamesPlace size ack x (base + i) p) nacks j no_nack lt).1 (inl h)))
        a

    pub elements_next : (first : ℕ) (new : List Naming) → IsGreatest size ack e.sn first → ByElement kept_sdus base first e cur new → ByElements kept_sdus base size ack (take (j + 1) nacks) old new
    elements_next first new g b = names_both kept_sdus (λ i. Some_has (λ x. NamesNumber size ack x (base + i)) (take j nacks)) (λ i. HoldsNumber e first (base + i)) (λ i. Some_has (λ x. NamesNumber size ack x (base + i)) (take (j + 1) nacks)) (λ i p. Some_has (λ x. NamesPlace size ack x (base + i) p) (take j nacks)) (λ i p. HoldsNumber e first (base + i) × HoldsPlace e first (base + i) p) (λ i p. Some_has (λ x. NamesPlace size ack x (base + i) p) (take (j + 1) nacks)) old cur new a b
        (λ i. (
          λ h. elim ((some_more (λ x. NamesNumber size ack x (base + i)) nacks j no_nack lt).0 h) [ inl before ↦ inl before | inr here ↦ inr ((number_held size ack e first g (base + i)).0 here) ],
          λ w. (some_more (λ x. NamesNumber size ack x (base + i)) nacks j no_nack lt).1 (elim w [ inl before ↦ inl before | inr here ↦ inr ((number_held size ack e first g (base + i)).1 here) ]),
        ))
        (λ i p. (
          λ h. elim ((some_more (λ x. NamesPlace size ack x (base + i) p) nacks j no_nack lt).0 h) [ inl before ↦ inl before | inr here ↦ inr ((place_held size ack e first g (base + i) p).0 here) ],
          λ w. (some_more (λ x. NamesPlace size ack x (base + i) p) nacks j no_nack lt).1 (elim w [ inl before ↦ inl before | inr here ↦ inr ((place_held size ack e first g (base + i) p).1 here) ]),
        ))

    -- a byte can be named by this element
    pub elements_can : (first : ℕ) → IsGreatest size ack e.sn first → CanNameOne kept_sdus (λ i p. HoldsNumber e first (base + i) × HoldsPlace e first (base + i) p) cur → CanNameOne kept_sdus (λ i p. Some_has (λ x. NamesPlace size ack x (base + i) p) nacks) old
    elements_can first g (i, c) = (
      i,
      record {
        kept = c.kept;
        is = c.is;
        place = c.place;
        sent = c.sent;
        idle = c.idle;
        why = elim c.why [
          | inl cur_ ↦ elim ((a.places i c.kept c.is c.place c.sent).0 cur_) [ inl was ↦ inl was | inr h ↦ inr (some_taken (λ x. NamesPlace size ack x (base + i) c.place) nacks j h) ]
          | inr h ↦ inr (some_at (λ x. NamesPlace size ack x (base + i) c.place) nacks j no_nack lt ((place_held size ack e first g (base + i) c.place).1 h))
        ];
      },
    )
      where
        some_taken : (P : Nack → Type 0) (xs : List Nack) (n : ℕ) → Some_has P (take n xs) → Some_has P xs
        some_taken P xs zero h = absurd h
        some_taken P [] (suc n) h = h
        some_taken P (x ∷ xs) (suc n) (inl here) = inl here
        some_taken P (x ∷ xs) (suc n) (inr later) = inr (some_taken P xs n later)

  pub elements_all : (j : ℕ) (new : List Naming) → length nacks ≤ j → ByElements kept_sdus base size ack (take j nacks) old new → ByElements kept_sdus base size ack nacks old new
  elements_all j new le a = subst (λ (x : List Nack). ByElements kept_sdus base size ack x old new) (take_all j nacks le) a
