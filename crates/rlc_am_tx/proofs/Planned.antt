-- What a STATUS makes grow that is planned.
use Rattle.std.proofs.Common.{◌≡◌, ◌≢◌, ◌⊎◌, ◌↔◌, inl, inr, ℕ, zero, suc, ◌+◌, ◌-◌, ◌<◌, ◌≤◌, true, false, Bool, List, [], ◌∷◌, ◌++◌, length, take, Option, Some, None, is_some, refl, sym, ◌∙◌, ap, subst, arith}
use Rattle.std.specs.Option.{option_to_list}
use Rattle.std.proofs.lemmas.Bool.{cases_lt, false≢true}
use Rattle.std.proofs.lemmas.Bool.Decides.{nat_tests}
use Rattle.std.proofs.lemmas.Option.{none-some}
use Rattle.link_base.specs.declared.names.SnSize.{SnSize}
use Rattle.link_base.specs.declared.rlc_words.Tag.{Tag}
use Rattle.rlc_status.specs.declared.status.Nack.{Nack}
use Rattle.rlc_status.specs.declared.status.Status.{Status}
use Rattle.rlc_status.specs.Says.{count, Some_has, NamesNumber, NamesPlace}
use Rattle.rlc_model.specs.Tx.{Kept, at, is_pending}
use Rattle.rlc_model.specs.Calls.{Grows, confirms, pends, marks, wakes}
use Rattle.rlc_am_tx.specs.declared.naming.Naming.{Naming}
use Rattle.rlc_am_tx.specs.Acknowledging.{confirmed_tag, is_mark, marks_at, told_tags, EntersWaiting, GrowsOneOf, GrowsFrom}
use Rattle.rlc_am_tx.specs.Buffer.{kept_from}
use Rattle.rlc_am_tx.specs.Elements.{PassesAck}
use Rattle.rlc_am_tx.specs.Flags.{comes_to}
use Rattle.rlc_am_tx.specs.Naming.{named_at, pends_with, AreNamingsOf, AreForgotten, CanNameOne, ByElements}
use Rattle.rlc_am_tx.proofs.Numbers.{kept_item}

-- a number that is named lies below the ACK
pub names_below : (size : SnSize) (ack n : ℕ) (nacks : List Nack) → (Some_has (PassesAck size ack) nacks → ⊥) → Some_has (λ e. NamesNumber size ack e n) nacks → n < ack
names_below size ack n [] below h = absurd h
names_below size ack n (e ∷ nacks) below (inl here) = elim (cases_lt ack (here.first + count e)) [ inl past ↦ absurd (below (inl (here.first, here.is, past))) | inr le ↦ omega (arith, le, here.to) ]
names_below size ack n (e ∷ nacks) below (inr later) = names_below size ack n nacks (λ h. below (inr h)) later

pub place_named : (size : SnSize) (ack n p : ℕ) (nacks : List Nack) → Some_has (λ e. NamesPlace size ack e n p) nacks → Some_has (λ e. NamesNumber size ack e n) nacks
place_named size ack n p [] h = absurd h
place_named size ack n p (e ∷ nacks) (inl here) = inl here.number
place_named size ack n p (e ∷ nacks) (inr later) = inr (place_named size ack n p nacks later)

pub item_of : (base : ℕ) (kept_sdus : List (Option Kept)) (i : ℕ) → at (kept_from base kept_sdus) (base + i) ≡ at kept_sdus i
item_of base kept_sdus i = kept_item base kept_sdus (base + i) (omega arith) ∙ ap (at kept_sdus) (omega arith)

-- a byte can be named, where nothing was before
pub can_grows : (base : ℕ) (kept_sdus : List (Option Kept)) (size : SnSize) (threshold ack : ℕ) (s : Status) (names : List Naming) → (Some_has (PassesAck size ack) s.nacks → ⊥) → AreForgotten names → CanNameOne kept_sdus (λ i p. Some_has (λ e. NamesPlace size ack e (base + i) p) s.nacks) names → GrowsFrom base kept_sdus size threshold s ack
can_grows base kept_sdus size threshold ack s names below forgotten (i, c) =
    let named : Some_has (λ e. NamesPlace size ack e (base + i) c.place) s.nacks = elim c.why [
      | inr w ↦ w
      | inl was ↦
          let now : pends_with (at kept_sdus i) None c.place ≡ true = subst (λ (x : Naming). pends_with (at kept_sdus i) x.pending c.place ≡ true) (forgotten i) was in
          absurd (false≢true (sym c.idle ∙ sym (ap (λ (o : Option Kept). is_pending o c.place) c.is) ∙ now))
    ] in
    pends (base + i) c.place c.kept (item_of base kept_sdus i ∙ c.is) (names_below size ack (base + i) s.nacks below (place_named size ack (base + i) c.place s.nacks named), named) c.sent c.idle

module _ (base : ℕ) (kept_sdus : List (Option Kept)) (size : SnSize) (threshold ack : ℕ) (s : Status) (names : List Naming) (from : base ≤ ack) (below : Some_has (PassesAck size ack) s.nacks → ⊥)
    (numbers : (i : ℕ) → (named_at names i).named ≡ true ↔ Some_has (λ e. NamesNumber size ack e (base + i)) s.nacks)
    (places : (i p : ℕ) (k : Kept) → at kept_sdus i ≡ Some k → p < length k.flags → (pends_with (Some k) (named_at names i).pending p ≡ true) ↔ (is_pending (Some k) p ≡ true) ⊎ Some_has (λ e. NamesPlace size ack e (base + i) p) s.nacks)
    (fits : AreNamingsOf kept_sdus names) where
  -- a byte is named that isn't pending
  pub fresh_grows : (i : ℕ) (set : List Bool) → (named_at names i).pending ≡ Some set → GrowsFrom base kept_sdus size threshold s ack
  fresh_grows i set is =
      let w = fits i set is in
      let p = w.fresh.0 in
      let lt : p < length w.kept.flags = elim (cases_lt p (length w.kept.flags)) [ inl lt ↦ lt | inr ge ↦ absurd (false≢true (sym (w.fits.beyond p ge) ∙ w.fresh.2)) ] in
      let on : pends_with (Some w.kept) (named_at names i).pending p ≡ true = ap (λ (o : Option (List Bool)). pends_with (Some w.kept) o p) is ∙ w.fresh.2 in
      elim ((places i p w.kept w.is lt).0 on) [
        | inl was ↦ absurd (false≢true (sym w.fresh.1 ∙ was))
        | inr named ↦ pends (base + i) p w.kept (item_of base kept_sdus i ∙ w.is) (names_below size ack (base + i) s.nacks below (place_named size ack (base + i) p s.nacks named), named) lt w.fresh.1
      ]

  enters_grows : (i : ℕ) → EntersWaiting (at kept_sdus i) (named_at names i) → GrowsFrom base kept_sdus size threshold s ack
  enters_grows i e = go (named_at names i).pending refl e.1
    where
      go : (o : Option (List Bool)) → (named_at names i).pending ≡ o → is_some (named_at names i).pending ≡ true → GrowsFrom base kept_sdus size threshold s ack
      go None is h = absurd (false≢true (sym (ap is_some is) ∙ h))
      go (Some set) is h = fresh_grows i set is

  tag_grows : (i : ℕ) → i < ack - base → confirmed_tag (named_at names i).named (at kept_sdus i) ≢ None → GrowsFrom base kept_sdus size threshold s ack
  tag_grows i lt some = go (at kept_sdus i) refl (named_at names i).named refl
    where
      go : (o : Option Kept) → at kept_sdus i ≡ o → (b : Bool) → (named_at names i).named ≡ b → GrowsFrom base kept_sdus size threshold s ack
      go None is true e = absurd (some (ap (λ (o : Option Kept). confirmed_tag (named_at names i).named o) is ∙ ap (λ (x : Bool). confirmed_tag x None) e))
      go None is false e = absurd (some (ap (λ (o : Option Kept). confirmed_tag (named_at names i).named o) is ∙ ap (λ (x : Bool). confirmed_tag x None) e))
      go (Some k) is true e = absurd (some (ap (λ (x : Bool). confirmed_tag x (at kept_sdus i)) e))
      go (Some k) is false e = confirms (base + i) k (item_of base kept_sdus i ∙ is) (omega (arith, lt, from), λ h. false≢true (sym e ∙ (numbers i).1 h))

  mark_grows : (i : ℕ) → i < ack - base → marks_at threshold kept_sdus names i ≡ true → GrowsFrom base kept_sdus size threshold s ack
  mark_grows i lt mark = go (at kept_sdus i) refl (named_at names i).named refl (named_at names i).pending refl
    where
      count_of : (k : Kept) → at kept_sdus i ≡ Some k → (named_at names i).named ≡ true → (o : Option ℕ) → k.retx_count ≡ o → comes_to threshold o false ≡ true → GrowsFrom base kept_sdus size threshold s ack
      count_of k is e None none h = marks (base + i) k (item_of base kept_sdus i ∙ is) (omega (arith, lt, from)) ((numbers i).0 e) none (grind (arith, nat_tests))
      count_of k is e (Some n) some h = absurd (false≢true h)

      go : (o : Option Kept) → at kept_sdus i ≡ o → (b : Bool) → (named_at names i).named ≡ b → (p : Option (List Bool)) → (named_at names i).pending ≡ p → GrowsFrom base kept_sdus size threshold s ack
      go o is b e (Some set) q = fresh_grows i set q
      go None is b e None q = absurd (false≢true (sym (ap (λ (o : Option Kept). is_mark threshold o (named_at names i).named (is_some (named_at names i).pending)) is) ∙ mark))
      go (Some k) is false e None q = absurd (false≢true (sym (ap (λ (o : Option Kept). is_mark threshold o (named_at names i).named (is_some (named_at names i).pending)) is ∙ ap (λ (x : Bool). is_mark threshold (Some k) x (is_some (named_at names i).pending)) e) ∙ mark))
      go (Some k) is true e None q = count_of k is e k.retx_count refl (sym (ap (λ (o : Option Kept). is_mark threshold o (named_at names i).named (is_some (named_at names i).pending)) is ∙ ap (λ (x : Bool). is_mark threshold (Some k) x (is_some (named_at names i).pending)) e ∙ ap (λ (o : Option (List Bool)). comes_to threshold k.retx_count (is_some o)) q) ∙ mark)

  pub one_grows : GrowsOneOf threshold kept_sdus names (ack - base) → GrowsFrom base kept_sdus size threshold s ack
  one_grows (i, lt, inl some) = tag_grows i lt some
  one_grows (i, lt, inr (inl mark)) = mark_grows i lt mark
  one_grows (i, lt, inr (inr enters)) = enters_grows i enters

  -- some tag is told
  told_next : (o : Option Kept) (os : List (Option Kept)) (x : Naming) (xs : List Naming) (c : ℕ) → ((told_tags (take c os) (take c xs) ≢ []) → (i : ℕ) × (i < c) × (confirmed_tag (named_at xs i).named (at os i) ≢ None)) → (t : Option Tag) → confirmed_tag x.named o ≡ t → option_to_list (confirmed_tag x.named o) ++ told_tags (take c os) (take c xs) ≢ [] → (i : ℕ) × (i < suc c) × (confirmed_tag (named_at (x ∷ xs) i).named (at (o ∷ os) i) ≢ None)
  told_next o os x xs c later (Some t) e some = (zero, omega arith, λ none. none-some t (sym none ∙ e))
  told_next o os x xs c later None e some =
      let w = later (λ none. some (ap (λ (t : Option Tag). option_to_list t ++ told_tags (take c os) (take c xs)) e ∙ none)) in
      (suc w.0, omega (arith, w.1), w.2)

  told_some : (os : List (Option Kept)) (xs : List Naming) (c : ℕ) → told_tags (take c os) (take c xs) ≢ [] → (i : ℕ) × (i < c) × (confirmed_tag (named_at xs i).named (at os i) ≢ None)
  told_some os xs zero some = absurd (some refl)
  told_some [] xs (suc c) some = absurd (some refl)
  told_some (o ∷ os) [] (suc c) some = absurd (some refl)
  told_some (o ∷ os) (x ∷ xs) (suc c) some = told_next o os x xs c (told_some os xs c) (confirmed_tag x.named o) refl some

  pub tags_grow : told_tags (take (ack - base) kept_sdus) (take (ack - base) names) ≢ [] → GrowsFrom base kept_sdus size threshold s ack
  tags_grow some = let w = told_some kept_sdus names (ack - base) some in tag_grows w.0 w.1 w.2

-- whether a poll is owed is one more reason
pub grows_more : (size : SnSize) (threshold : ℕ) (owed : Bool) (l : List (Option Kept)) (s : Status) (a : ℕ) → Grows size threshold false l s a → Grows size threshold owed l s a
grows_more size threshold owed l s a (confirms n k is says) = confirms n k is says
grows_more size threshold owed l s a (pends n p k is says lt idle) = pends n p k is says lt idle
grows_more size threshold owed l s a (marks n k is lt names none zero_) = marks n k is lt names none zero_
grows_more size threshold owed l s a (wakes is pending unsent some) = absurd (false≢true is)

-- what is named where nothing was before
module _ (base : ℕ) (kept_sdus : List (Option Kept)) (size : SnSize) (ack : ℕ) (nacks : List Nack) (old names : List Naming) (forgotten : AreForgotten old) (a : ByElements kept_sdus base size ack nacks old names) where
  pub numbers_of : (i : ℕ) → (named_at names i).named ≡ true ↔ Some_has (λ e. NamesNumber size ack e (base + i)) nacks
  numbers_of i = (
    λ h. elim ((a.numbers i).0 h) [ inl was ↦ absurd (false≢true (sym (ap (λ (x : Naming). x.named) (forgotten i)) ∙ was)) | inr w ↦ w ],
    λ w. (a.numbers i).1 (inr w),
  )

  pub places_of : (i p : ℕ) (k : Kept) → at kept_sdus i ≡ Some k → p < length k.flags → (pends_with (Some k) (named_at names i).pending p ≡ true) ↔ (is_pending (Some k) p ≡ true) ⊎ Some_has (λ e. NamesPlace size ack e (base + i) p) nacks
  places_of i p k is lt =
      let old_is : pends_with (at kept_sdus i) (named_at old i).pending p ≡ is_pending (Some k) p = ap (λ (x : Naming). pends_with (at kept_sdus i) x.pending p) (forgotten i) ∙ ap (λ (o : Option Kept). is_pending o p) is in
      let new_is : pends_with (at kept_sdus i) (named_at names i).pending p ≡ pends_with (Some k) (named_at names i).pending p = ap (λ (o : Option Kept). pends_with o (named_at names i).pending p) is in (
        λ h. elim ((a.places i k is p lt).0 (new_is ∙ h)) [ inl was ↦ inl (sym old_is ∙ was) | inr w ↦ inr w ],
        λ w. sym new_is ∙ (a.places i k is p lt).1 (elim w [ inl was ↦ inl (old_is ∙ was) | inr w ↦ inr w ]),
      )
