-- What events show of one key: SDUs that were handed up, and confirmed numbers.
use Rattle.std.proofs.Common.{◌≡◌, ◌⊎◌, inl, inr, ℕ, ◌<◌, ◌≤◌, Bool, true, false, cond, nat_lt, List, [], ◌∷◌, ◌++◌, map, filter_map, Some, None, refl, sym, ◌∙◌, ap, subst, arith, append_assoc, append-nil}
use Rattle.std.specs.List.{AllByRecursion, cons_option, list_any}
use Rattle.std.proofs.lemmas.Bool.{ltb-true, ltb-false, true≢false}
use Rattle.link_base.specs.declared.names.Key.{Key}
use Rattle.link_base.specs.declared.names.PortName.{PortName}
use Rattle.link_base.specs.declared.names.Way.{Way}
use Rattle.script_text.specs.declared.event.Event.{Event}
use Rattle.script_text.specs.declared.event.Event.TheVariants.{Up, Conf, Rep}
use Rattle.node_model.specs.Names.{is_key}
use Rattle.chain_model.specs.State.{Chain, sender_at}
use Rattle.chain_model.specs.Book.{ups, confirmed_by, Confirms}
use Rattle.chain_model.specs.Steps.{confirming, reporting}
use Rattle.chain_model.specs.Telling.{marked}
use Rattle.pdcp_model.specs.Sender.{confirmed}
use Rattle.book_law.specs.Kept.{Raises}

-- the event tells a confirmed number
abbrev pub is_conf : Event → Bool
is_conf (Conf of n) = true
is_conf event = false

-- none of the events does
abbrev pub NoConf : List Event → Type 0
NoConf events = AllByRecursion (λ e. is_conf e ≡ false) events

-- the event shows an SDU
abbrev pub is_up : Event → Bool
is_up (Up of sdu) = true
is_up event = false

-- none of the events does
abbrev pub NoUp : List Event → Type 0
NoUp events = AllByRecursion (λ e. is_up e ≡ false) events

module _ (k : Key) where
  pub ups_append : (xs ys : List Event) → ups k (xs ++ ys) ≡ ups k xs ++ ups k ys
  ups_append [] ys = refl
  ups_append (Up of sdu ∷ xs) ys =
      elim (is_key of k) as (λ b. cond b (sdu ∷ ups k (xs ++ ys)) (ups k (xs ++ ys)) ≡ cond b (sdu ∷ ups k xs) (ups k xs) ++ ups k ys) [
        | true ↦ ap (λ l. sdu ∷ l) (ups_append xs ys)
        | false ↦ ups_append xs ys
      ]
  ups_append (e ∷ xs) ys = ups_append xs ys

  pub no_ups : (xs : List Event) → NoUp xs → ups k xs ≡ []
  no_ups [] none = refl
  no_ups (Up of sdu ∷ xs) none = absurd (true≢false none.0)
  no_ups (e ∷ xs) none = no_ups xs none.1

  -- the SDUs of a key that events of one key show
  pub ups_own : (of : Key) → is_key of k ≡ true → (sdus : List (List ℕ)) → ups k (map (λ sdu. Up of sdu) sdus) ≡ sdus
  ups_own of is [] = refl
  ups_own of is (x ∷ sdus) = ap (λ (b : Bool). cond b (x ∷ ups k (map (λ sdu. Up of sdu) sdus)) (ups k (map (λ sdu. Up of sdu) sdus))) is ∙ ap (λ (l : List (List ℕ)). x ∷ l) (ups_own of is sdus)

  pub ups_other : (of : Key) → is_key of k ≡ false → (sdus : List (List ℕ)) → ups k (map (λ sdu. Up of sdu) sdus) ≡ []
  ups_other of is [] = refl
  ups_other of is (x ∷ sdus) = ap (λ (b : Bool). cond b (x ∷ ups k (map (λ sdu. Up of sdu) sdus)) (ups k (map (λ sdu. Up of sdu) sdus))) is ∙ ups_other of is sdus

  -- events bring the confirmed number from one to the other, each event of it raising it
  pub record Tells (events : List Event) (n m : ℕ) : Type 0 where
    pub told : confirmed_by k events n ≡ m
    pub raises : Raises k events n

  pub tells_skip : (xs ys : List Event) (n m : ℕ) → NoConf xs → Tells ys n m → Tells (xs ++ ys) n m
  tells_skip [] ys n m none t = t
  tells_skip (Conf of c ∷ xs) ys n m none t = absurd (true≢false none.0)
  tells_skip (e ∷ xs) ys n m none t = let rest = tells_skip xs ys n m none.1 t in record { told = rest.told; raises = rest.raises }

  pub tells_none : (xs : List Event) (n : ℕ) → NoConf xs → Tells xs n n
  tells_none [] n none = record { told = refl; raises = tt }
  tells_none (Conf of c ∷ xs) n none = absurd (true≢false none.0)
  tells_none (e ∷ xs) n none = let rest = tells_none xs n none.1 in record { told = rest.told; raises = rest.raises }

  -- one event of another key
  skips : (of : Key) (c : ℕ) (xs : List Event) (n m : ℕ) → is_key of k ≡ false → Tells xs n m → Tells (Conf of c ∷ xs) n m
  skips of c xs n m is t = record {
    told = ap (λ (b : Bool). cond b (confirmed_by k xs c) (confirmed_by k xs n)) is ∙ t.told;
    raises = subst (λ (b : Bool). cond b ((n < c) × Raises k xs c) (Raises k xs n)) (sym is) t.raises;
  }

  -- one event of this key
  raises_to : (of : Key) (c : ℕ) (xs : List Event) (n m : ℕ) → is_key of k ≡ true → n < c → Tells xs c m → Tells (Conf of c ∷ xs) n m
  raises_to of c xs n m is lt t = record {
    told = ap (λ (b : Bool). cond b (confirmed_by k xs c) (confirmed_by k xs n)) is ∙ t.told;
    raises = subst (λ (b : Bool). cond b ((n < c) × Raises k xs c) (Raises k xs n)) (sym is) (lt, t.raises);
  }

  -- the key stands once among keys
  abbrev pub StandsOnce : List Key → Type 0
  StandsOnce [] = ⊥
  StandsOnce (x ∷ xs) = ((is_key x k ≡ true) × AllByRecursion (λ y. is_key y k ≡ false) xs) ⊎ ((is_key x k ≡ false) × StandsOnce xs)

  module _ (old mid : Chain) (ys : List Event) where
    -- events of other keys
    absent : (ks : List Key) (n m : ℕ) → AllByRecursion (λ y. is_key y k ≡ false) ks → Tells ys n m → Tells (filter_map (confirming old mid) ks ++ ys) n m
    absent [] n m none t = t
    absent (x ∷ ks) n m none t =
        elim (nat_lt (confirmed (sender_at old x)) (confirmed (sender_at mid x))) as (λ b. Tells (cons_option (cond b (Some (Conf x (confirmed (sender_at mid x)))) None) (filter_map (confirming old mid) ks) ++ ys) n m) [
          | true ↦ skips x (confirmed (sender_at mid x)) (filter_map (confirming old mid) ks ++ ys) n m none.0 (absent ks n m none.1 t)
          | false ↦ absent ks n m none.1 t
        ]

    -- the event of the key itself stands once, if the number rose
    pub present : (is : (x : Key) → is_key x k ≡ true → x ≡ k) (ks : List Key) → StandsOnce ks → confirmed (sender_at old k) ≤ confirmed (sender_at mid k) → Tells ys (confirmed (sender_at mid k)) (confirmed (sender_at mid k))
        → Tells (filter_map (confirming old mid) ks ++ ys) (confirmed (sender_at old k)) (confirmed (sender_at mid k))
    present is [] once le t = absurd once
    present is (x ∷ ks) (inr later) le t =
        elim (nat_lt (confirmed (sender_at old x)) (confirmed (sender_at mid x))) as (λ b. Tells (cons_option (cond b (Some (Conf x (confirmed (sender_at mid x)))) None) (filter_map (confirming old mid) ks) ++ ys) (confirmed (sender_at old k)) (confirmed (sender_at mid k))) [
          | true ↦ skips x (confirmed (sender_at mid x)) (filter_map (confirming old mid) ks ++ ys) _ _ later.0 (present is ks later.1 le t)
          | false ↦ present is ks later.1 le t
        ]
    present is (x ∷ ks) (inl now) le t =
        subst (λ z. Tells (cons_option (confirming old mid z) (filter_map (confirming old mid) ks) ++ ys) (confirmed (sender_at old k)) (confirmed (sender_at mid k))) (sym (is x now.0))
        (by (nat_lt (confirmed (sender_at old k)) (confirmed (sender_at mid k))) refl)
      where
        k_is : is_key k k ≡ true
        k_is = subst (λ z. is_key z k ≡ true) (is x now.0) now.0

        by : (b : Bool) → nat_lt (confirmed (sender_at old k)) (confirmed (sender_at mid k)) ≡ b
            → Tells (cons_option (cond b (Some (Conf k (confirmed (sender_at mid k)))) None) (filter_map (confirming old mid) ks) ++ ys) (confirmed (sender_at old k)) (confirmed (sender_at mid k))
        by true rose = raises_to k (confirmed (sender_at mid k)) (filter_map (confirming old mid) ks ++ ys) _ _ k_is (ltb-true _ _ rose) (absent ks _ _ now.1 t)
        by false not_rose =
            let same : confirmed (sender_at mid k) ≡ confirmed (sender_at old k) = omega (arith, le, ltb-false _ _ not_rose) in
            subst (λ n. Tells (filter_map (confirming old mid) ks ++ ys) n (confirmed (sender_at mid k))) same (absent ks _ _ now.1 t)

  -- an event that raises the number raises it to no more than what it comes to
  pub rises : (events : List Event) (n : ℕ) → Raises k events n → n ≤ confirmed_by k events n
  rises [] n r = omega arith
  rises (Conf of c ∷ events) n r =
      (elim (is_key of k) as (λ b. cond b ((n < c) × Raises k events c) (Raises k events n) → n ≤ cond b (confirmed_by k events c) (confirmed_by k events n)) [
        | true ↦ λ x. omega (arith, x.0, rises events c x.1)
        | false ↦ λ x. rises events n x
      ]) r
  rises (e ∷ events) n r = rises events n r

  pub raises_confirms : (events : List Event) (n up : ℕ) → Raises k events n → confirmed_by k events n ≤ up → Confirms k events n up
  raises_confirms [] n up r le = tt
  raises_confirms (Conf of c ∷ events) n up r le =
      (elim (is_key of k) as (λ b. cond b ((n < c) × Raises k events c) (Raises k events n) → cond b (confirmed_by k events c) (confirmed_by k events n) ≤ up → cond b ((n < c) × (c ≤ up) × Confirms k events c up) (Confirms k events n up)) [
        | true ↦ λ x le. (x.0, omega (arith, le, rises events c x.1), raises_confirms events c up x.1 le)
        | false ↦ λ x le. raises_confirms events n up x le
      ]) r le
  raises_confirms (e ∷ events) n up r le = raises_confirms events n up r le

  -- events of confirmed numbers and of reports show no SDU
  pub conf_ups : (old mid : Chain) (ks : List Key) → NoUp (filter_map (confirming old mid) ks)
  conf_ups old mid [] = tt
  conf_ups old mid (x ∷ ks) =
      elim (nat_lt (confirmed (sender_at old x)) (confirmed (sender_at mid x))) as (λ b. NoUp (cons_option (cond b (Some (Conf x (confirmed (sender_at mid x)))) None) (filter_map (confirming old mid) ks))) [
        | true ↦ (refl, conf_ups old mid ks)
        | false ↦ conf_ups old mid ks
      ]

  pub rep_ups : (given ks : List Key) → NoUp (filter_map (reporting given) ks)
  rep_ups given [] = tt
  rep_ups given (x ∷ ks) =
      elim (list_any (λ y. is_key x y) given) as (λ b. NoUp (cons_option (cond b (Some (Rep x)) None) (filter_map (reporting given) ks))) [
        | true ↦ (refl, rep_ups given ks)
        | false ↦ rep_ups given ks
      ]

  pub rep_conf : (given ks : List Key) → NoConf (filter_map (reporting given) ks)
  rep_conf given [] = tt
  rep_conf given (x ∷ ks) =
      elim (list_any (λ y. is_key x y) given) as (λ b. NoConf (cons_option (cond b (Some (Rep x)) None) (filter_map (reporting given) ks))) [
        | true ↦ (refl, rep_conf given ks)
        | false ↦ rep_conf given ks
      ]

  -- what a step tells of the key
  pub step_tells : (is : (x : Key) → is_key x k ≡ true → x ≡ k) (old mid : Chain) (own : List Event) (given ks : List Key) → NoConf own → StandsOnce ks → confirmed (sender_at old k) ≤ confirmed (sender_at mid k)
      → Tells (own ++ filter_map (confirming old mid) ks ++ filter_map (reporting given) ks) (confirmed (sender_at old k)) (confirmed (sender_at mid k))
  step_tells is old mid own given ks none once le =
      subst (λ l. Tells l (confirmed (sender_at old k)) (confirmed (sender_at mid k))) (sym (append_assoc own (filter_map (confirming old mid) ks) (filter_map (reporting given) ks)))
      (tells_skip own _ _ _ none (present old mid (filter_map (reporting given) ks) is ks once le (tells_none (filter_map (reporting given) ks) _ (rep_conf given ks))))

  pub step_ups : (old mid : Chain) (own : List Event) (given ks : List Key) → ups k (own ++ filter_map (confirming old mid) ks ++ filter_map (reporting given) ks) ≡ ups k own
  step_ups old mid own given ks =
      ap (ups k) (append_assoc own (filter_map (confirming old mid) ks) (filter_map (reporting given) ks))
      ∙ ups_append own (filter_map (confirming old mid) ks ++ filter_map (reporting given) ks)
      ∙ ap (λ l. ups k own ++ l) (ups_append (filter_map (confirming old mid) ks) (filter_map (reporting given) ks) ∙ ap (λ l. l ++ ups k (filter_map (reporting given) ks)) (no_ups _ (conf_ups old mid ks)) ∙ no_ups _ (rep_ups given ks))
      ∙ append-nil (ups k own)

-- events of one key's SDUs, and marks, tell no confirmed number
pub up_conf : (of : Key) (sdus : List (List ℕ)) → NoConf (map (λ sdu. Up of sdu) sdus)
up_conf of [] = tt
up_conf of (x ∷ sdus) = (refl, up_conf of sdus)

pub marked_conf : (port : PortName) (way : Way) (marks : List ℕ) → NoConf (marked port way marks)
marked_conf port way [] = tt
marked_conf port way (m ∷ marks) = (refl, marked_conf port way marks)

pub marked_up : (port : PortName) (way : Way) (marks : List ℕ) → NoUp (marked port way marks)
marked_up port way [] = tt
marked_up port way (m ∷ marks) = (refl, marked_up port way marks)
