-- What a receiving side holds is what was heard.
use Rattle.std.proofs.Common.{◌≡◌, ◌≢◌, ◌⊎◌, inl, inr, ℕ, ◌+◌, ◌-◌, ◌<◌, ◌≤◌, List, [], ◌∷◌, ◌++◌, length, get_or, Option, Some, None, refl, sym, ◌∙◌, ap, subst, arith, length-append}
use Rattle.std.proofs.lemmas.Bool.{cases_lt, cases_eq}
use Rattle.std.proofs.lemmas.List.{append-nil, get_or-drop, get_or_append_left, get_or-append-add}
use Rattle.std.proofs.lemmas.Option.{none-some, same_Some}
use Rattle.link_base.specs.declared.names.SnSize.{SnSize}
use Rattle.link_base.specs.declared.limits.TheConstants.{COUNT_END}
use Rattle.link_base.specs.SequenceNumbers.{Near}
use Rattle.pdcp_model.specs.declared.answers.PdcpHeard.{PdcpHeard}
use Rattle.pdcp_model.specs.declared.answers.PdcpHeard.TheVariants.{Up, Stored, Old, Repeat, BeforeStart, PastEnd}
use Rattle.pdcp_model.specs.Receiver.{Receiver, new_receiver, rx_deliv, stored_at, with_sdu, run, stores, hands_up, Hears}
use Rattle.pdcp_model.specs.HandUp.{Hearing, IsCount, IsHeardAs, IsHeard, HandUp, HasHeard, handed_by}
use Rattle.pdcp_model.proofs.Stored.{with_sdu_here, with_sdu_other, run_at, run_end}
use Rattle.pdcp_law.specs.Hearings.{HandsUpTheHandUp, EachIsHeard}
use Rattle.pdcp_law.proofs.Counts.{one_near}
use Rattle.pdcp_law.proofs.OneList.{one_hand_up}

-- what was handed up and what is stored are the SDUs heard from the first COUNT on
pub record Holds (size : SnSize) (first : ℕ) (hs : List Hearing) (sdus : List (List ℕ)) (r : Receiver) : Type 0 where
  pub size_is : r.size ≡ size
  pub first_is : r.first ≡ first
  pub handed : r.handed ≡ length sdus
  pub up : (n : ℕ) → n < length sdus → IsHeardAs size first hs (first + n) (get_or sdus n [])
  pub stored : (n : ℕ) (sdu : List ℕ) → stored_at r n ≡ Some sdu → IsHeardAs size first hs (first + length sdus + n) sdu
  pub waits : (n : ℕ) (sdu : List ℕ) → IsHeardAs size first hs (first + length sdus + n) sdu → stored_at r n ≡ Some sdu
  pub from : (count : ℕ) (sdu : List ℕ) → IsHeardAs size first hs count sdu → first ≤ count

-- and the next one isn't stored
pub record HoldsAll (size : SnSize) (first : ℕ) (hs : List Hearing) (sdus : List (List ℕ)) (r : Receiver) : Type 0 where
  pub holds : Holds size first hs sdus r
  pub next : stored_at r 0 ≡ None

-- a receiving side that has heard nothing
starts : (size : SnSize) (first : ℕ) → HoldsAll size first [] [] (new_receiver size first)
starts size first = record {
  holds = record {
    size_is = refl;
    first_is = refl;
    handed = refl;
    up = λ n lt. absurd (omega (arith, lt));
    stored = λ n sdu is. absurd (none-some sdu is);
    waits = λ n sdu heard. absurd heard;
    from = λ count sdu heard. absurd heard;
  };
  next = refl;
}

module _ (size : SnSize) (first : ℕ) (hs : List Hearing) (sdus : List (List ℕ)) (r : Receiver) (all : HoldsAll size first hs sdus r) where
  -- what was handed up is the hand-up
  pub hand_up : HandUp size first hs sdus
  hand_up = record {
    each = all.holds.up;
    gap = λ sdu heard.
        let here : first + length sdus ≡ first + length sdus + 0 = omega arith in
        none-some sdu (sym all.next ∙ all.holds.waits 0 sdu (subst (λ (c : ℕ). IsHeardAs size first hs c sdu) here heard));
  }

  -- RX_DELIV is as many COUNTs above the first one as SDUs were handed up
  pub deliv : rx_deliv r ≡ first + length sdus
  deliv = omega (arith, all.holds.first_is, all.holds.handed)

  -- a COUNT was heard, or it isn't below RX_DELIV and isn't stored
  pub heard_or_not : (count : ℕ) → first ≤ count → IsHeard size first hs count ⊎ ((sdu : List ℕ) → IsHeardAs size first hs count sdu → ⊥)
  heard_or_not count from = elim (cases_lt count (first + length sdus)) [
    | inl low ↦
        let at : first + (count - first) ≡ count = omega (arith, from) in
        inl (_, subst (λ (c : ℕ). IsHeardAs size first hs c (get_or sdus (count - first) [])) at (all.holds.up (count - first) (omega (arith, from, low))))
    | inr high ↦ go (count - (first + length sdus)) (omega (arith, high)) (stored_at r (count - (first + length sdus))) refl
  ]
    where
      go : (n : ℕ) → first + length sdus + n ≡ count → (o : Option (List ℕ)) → stored_at r n ≡ o → IsHeard size first hs count ⊎ ((sdu : List ℕ) → IsHeardAs size first hs count sdu → ⊥)
      go n at (Some x) is = inl (x, subst (λ (c : ℕ). IsHeardAs size first hs c x) at (all.holds.stored n x is))
      go n at None is = inr (λ sdu heard. none-some sdu (sym is ∙ all.holds.waits n sdu (subst (λ (c : ℕ). IsHeardAs size first hs c sdu) (sym at) heard)))

  module _ (h : Hearing) where
    -- this COUNT and SDU are new with one more data PDU
    abbrev IsAdded : ℕ → List ℕ → Type 0
    IsAdded count sdu = ((other : List ℕ) → IsHeardAs size first hs count other → ⊥) × (sdu ≡ h.sdu) × IsCount size first h.sn (first + length sdus) count

    -- what is heard with it was heard before, or is new
    splits : (count : ℕ) (sdu : List ℕ) → IsHeardAs size first (h ∷ hs) count sdu → IsHeardAs size first hs count sdu ⊎ IsAdded count sdu
    splits count sdu (inl old) = inl old
    splits count sdu (inr new) = inr (new.0, new.1, subst (λ (handed : List (List ℕ)). IsCount size first h.sn (first + length handed) count) (one_hand_up size first hs new.2 sdus new.3 hand_up) new.4)

    -- what is new is heard with it
    adds : (count : ℕ) (sdu : List ℕ) → IsAdded count sdu → IsHeardAs size first (h ∷ hs) count sdu
    adds count sdu new = inr (new.0, new.1, sdus, hand_up, new.2)

    -- where its SN has a COUNT, that is heard with it
    pub is_heard : (count : ℕ) → IsCount size first h.sn (rx_deliv r) count → IsHeard size first (h ∷ hs) count
    is_heard count is = elim (heard_or_not count is.from) [
      | inl old ↦ (old.0, inl old.1)
      | inr none ↦ (h.sdu, adds count h.sdu (none, refl, subst (λ (base : ℕ). IsCount size first h.sn base count) deliv is))
    ]

    -- where nothing is new the same is held
    same : ((count : ℕ) (sdu : List ℕ) → IsAdded count sdu → ⊥) → HoldsAll size first (h ∷ hs) sdus r
    same none = record {
      holds = record {
        size_is = all.holds.size_is;
        first_is = all.holds.first_is;
        handed = all.holds.handed;
        up = λ n lt. inl (all.holds.up n lt);
        stored = λ n sdu is. inl (all.holds.stored n sdu is);
        waits = λ n sdu heard. all.holds.waits n sdu (only (first + length sdus + n) sdu heard);
        from = λ count sdu heard. all.holds.from count sdu (only count sdu heard);
      };
      next = all.next;
    }
      where
        only : (count : ℕ) (sdu : List ℕ) → IsHeardAs size first (h ∷ hs) count sdu → IsHeardAs size first hs count sdu
        only count sdu heard = elim (splits count sdu heard) [
          | inl old ↦ old
          | inr new ↦ absurd (none count sdu new)
        ]

    -- an SDU is stored at a place that was free
    puts : (n : ℕ) → Near size h.sn (first + length sdus) (first + length sdus + n) → first + length sdus + n < COUNT_END → stored_at r n ≡ None → Holds size first (h ∷ hs) sdus (stores r n h.sdu)
    puts n near within free = record {
      size_is = all.holds.size_is;
      first_is = all.holds.first_is;
      handed = all.holds.handed;
      up = λ k lt. inl (all.holds.up k lt);
      stored = stored_too;
      waits = waits_too;
      from = λ count sdu heard. elim (splits count sdu heard) [
        | inl old ↦ all.holds.from count sdu old
        | inr new ↦ new.2.from
      ];
    }
      where
        is_new : IsAdded (first + length sdus + n) h.sdu
        is_new = (λ other heard. none-some other (sym free ∙ all.holds.waits n other heard), refl, record { near = near; from = omega arith; within = within })

        stored_too : (k : ℕ) (sdu : List ℕ) → get_or (with_sdu n h.sdu r.stored) k None ≡ Some sdu → IsHeardAs size first (h ∷ hs) (first + length sdus + k) sdu
        stored_too k sdu is = elim (cases_eq k n) [
          | inl e ↦
              let its : h.sdu ≡ sdu = same_Some h.sdu sdu (sym (with_sdu_here n h.sdu r.stored) ∙ ap (λ (m : ℕ). get_or (with_sdu n h.sdu r.stored) m None) (sym e) ∙ is) in
              let new = adds (first + length sdus + n) h.sdu is_new in
              subst (λ (x : List ℕ). IsHeardAs size first (h ∷ hs) (first + length sdus + k) x) its
              (subst (λ (m : ℕ). IsHeardAs size first (h ∷ hs) (first + length sdus + m) h.sdu) (sym e) new)
          | inr ne ↦ inl (all.holds.stored k sdu (sym (with_sdu_other n h.sdu r.stored k ne) ∙ is))
        ]

        waits_too : (k : ℕ) (sdu : List ℕ) → IsHeardAs size first (h ∷ hs) (first + length sdus + k) sdu → get_or (with_sdu n h.sdu r.stored) k None ≡ Some sdu
        waits_too k sdu heard = elim (splits (first + length sdus + k) sdu heard) [
          | inl old ↦
              let is = all.holds.waits k sdu old in
              with_sdu_other n h.sdu r.stored k (λ e. none-some sdu (sym free ∙ ap (stored_at r) (sym e) ∙ is)) ∙ is
          | inr new ↦
              let e : k ≡ n = omega (arith, one_near size h.sn (first + length sdus) (first + length sdus + k) (first + length sdus + n) new.2.near near) in
              ap (λ (m : ℕ). get_or (with_sdu n h.sdu r.stored) m None) e ∙ with_sdu_here n h.sdu r.stored ∙ ap (λ (x : List ℕ). Some x) (sym new.1)
        ]

-- all up to the first gap goes up
goes_up : (size : SnSize) (first : ℕ) (hs : List Hearing) (sdus : List (List ℕ)) (r : Receiver) → Holds size first hs sdus r → HoldsAll size first hs (sdus ++ run r.stored) (hands_up r)
goes_up size first hs sdus r holds = record {
  holds = record {
    size_is = holds.size_is;
    first_is = holds.first_is;
    handed = omega (arith, holds.handed, length-append sdus (run r.stored));
    up = up_too;
    stored = λ n sdu is. subst (λ (c : ℕ). IsHeardAs size first hs c sdu) (place n) (holds.stored (length (run r.stored) + n) sdu (sym (get_or-drop (length (run r.stored)) r.stored n None) ∙ is));
    waits = λ n sdu heard. get_or-drop (length (run r.stored)) r.stored n None ∙ holds.waits (length (run r.stored) + n) sdu (subst (λ (c : ℕ). IsHeardAs size first hs c sdu) (sym (place n)) heard);
    from = holds.from;
  };
  next =
      let end : length (run r.stored) + 0 ≡ length (run r.stored) = omega arith in
      get_or-drop (length (run r.stored)) r.stored 0 None ∙ ap (λ (m : ℕ). get_or r.stored m None) end ∙ run_end r.stored;
}
  where
    place : (n : ℕ) → first + length sdus + (length (run r.stored) + n) ≡ first + length (sdus ++ run r.stored) + n
    place n = omega (arith, length-append sdus (run r.stored))

    up_too : (n : ℕ) → n < length (sdus ++ run r.stored) → IsHeardAs size first hs (first + n) (get_or (sdus ++ run r.stored) n [])
    up_too n lt = elim (cases_lt n (length sdus)) [
      | inl low ↦ subst (IsHeardAs size first hs (first + n)) (sym (get_or_append_left sdus (run r.stored) [] n low)) (holds.up n low)
      | inr high ↦
          let k : length sdus + (n - length sdus) ≡ n = omega (arith, high) in
          let few : n - length sdus < length (run r.stored) = omega (arith, high, lt, length-append sdus (run r.stored)) in
          let at : first + length sdus + (n - length sdus) ≡ first + n = omega (arith, high) in
          let item : get_or (run r.stored) (n - length sdus) [] ≡ get_or (sdus ++ run r.stored) n [] =
          sym (get_or-append-add sdus (run r.stored) (n - length sdus) []) ∙ ap (λ (m : ℕ). get_or (sdus ++ run r.stored) m []) k in
          subst (IsHeardAs size first hs (first + n)) item
          (subst (λ (c : ℕ). IsHeardAs size first hs c (get_or (run r.stored) (n - length sdus) [])) at
          (holds.stored (n - length sdus) _ (run_at r.stored (n - length sdus) [] few)))
    ]

-- one more data PDU is heard
hears : (size : SnSize) (first : ℕ) (hs : List Hearing) (sdus : List (List ℕ)) (r : Receiver) → HoldsAll size first hs sdus r
    → (h : Hearing) (answer : PdcpHeard) (new : Receiver) → Hears r h.sn h.sdu answer new → HoldsAll size first (h ∷ hs) (sdus ++ handed_by answer) new
hears size first hs sdus r all h answer new step = go answer step
  where
    at : rx_deliv r ≡ first + length sdus
    at = deliv size first hs sdus r all

    near_here : (count : ℕ) → Near r.size h.sn (rx_deliv r) count → Near size h.sn (first + length sdus) count
    near_here count near = subst (λ (z : SnSize). Near z h.sn (first + length sdus) count) all.holds.size_is (subst (λ (b : ℕ). Near r.size h.sn b count) at near)

    near_there : (count : ℕ) → Near size h.sn (first + length sdus) count → Near r.size h.sn (rx_deliv r) count
    near_there count near = subst (λ (z : SnSize). Near z h.sn (rx_deliv r) count) (sym all.holds.size_is) (subst (λ (b : ℕ). Near size h.sn b count) (sym at) near)

    one : (count c : ℕ) (sdu : List ℕ) → Near r.size h.sn (rx_deliv r) c → IsAdded size first hs sdus r all h count sdu → c ≡ count
    one count c sdu near new = one_near size h.sn (first + length sdus) c count (near_here c near) new.2.near

    becomes : (x y : List (List ℕ)) (s t : Receiver) → x ≡ y → s ≡ t → HoldsAll size first (h ∷ hs) x s → HoldsAll size first (h ∷ hs) y t
    becomes x y s t e f holds = subst (λ (z : List (List ℕ)). HoldsAll size first (h ∷ hs) z t) e (subst (HoldsAll size first (h ∷ hs) x) f holds)

    keeps : ((count : ℕ) (sdu : List ℕ) → IsAdded size first hs sdus r all h count sdu → ⊥) → new ≡ r → HoldsAll size first (h ∷ hs) (sdus ++ []) new
    keeps none is = becomes sdus (sdus ++ []) r new (sym (append-nil sdus)) (sym is) (same size first hs sdus r all h none)

    stored_as : (n : ℕ) → Near r.size h.sn (rx_deliv r) (rx_deliv r + n) → rx_deliv r + n < COUNT_END → stored_at r n ≡ None → Holds size first (h ∷ hs) sdus (stores r n h.sdu)
    stored_as n near within free =
        let here : rx_deliv r + n ≡ first + length sdus + n = omega (arith, at) in
        puts size first hs sdus r all h n (subst (Near size h.sn (first + length sdus)) here (near_here (rx_deliv r + n) near)) (omega (arith, within, here)) free

    heard_stored : (n : ℕ) (o : Option (List ℕ)) → stored_at r n ≡ o → o ≢ None → IsHeard size first hs (rx_deliv r + n)
    heard_stored n None is ne = absurd (ne refl)
    heard_stored n (Some x) is ne =
        let here : first + length sdus + n ≡ rx_deliv r + n = omega (arith, at) in
        (x, subst (λ (c : ℕ). IsHeardAs size first hs c x) here (all.holds.stored n x is))

    not_new : (c : ℕ) → Near r.size h.sn (rx_deliv r) c → IsHeard size first hs c → (count : ℕ) (sdu : List ℕ) → IsAdded size first hs sdus r all h count sdu → ⊥
    not_new c near was count sdu new = new.0 was.0 (subst (λ (m : ℕ). IsHeardAs size first hs m was.0) (one count c sdu near new) was.1)

    go : (answer : PdcpHeard) → Hears r h.sn h.sdu answer new → HoldsAll size first (h ∷ hs) (sdus ++ handed_by answer) new
    go BeforeStart s = keeps (λ count sdu new. s.0 count (near_there count new.2.near)) s.1
    go PastEnd s = keeps (λ count sdu new. omega (arith, s.2, one count s.0 sdu s.1 new, new.2.within)) s.3
    go Old s = keeps (λ count sdu new.
        let e = one count s.0 sdu s.1 new in
        let its : first + (count - first) ≡ count = omega (arith, new.2.from) in
        new.0 _ (subst (λ (c : ℕ). IsHeardAs size first hs c (get_or sdus (count - first) [])) its (all.holds.up (count - first) (omega (arith, new.2.from, e, s.3, at))))) s.4
    go Repeat s = keeps (not_new (rx_deliv r + s.0) s.1 (heard_stored s.0 (stored_at r s.0) refl s.3)) s.4
    go Stored s =
        let ne : 0 ≢ s.0 = omega (arith, s.3) in
        becomes sdus (sdus ++ []) (stores r s.0 h.sdu) new (sym (append-nil sdus)) (sym s.5)
        record { holds = stored_as s.0 s.1 s.2 s.4; next = with_sdu_other s.0 h.sdu r.stored 0 ne ∙ all.next }
    go (Up up) s =
        let here : rx_deliv r ≡ rx_deliv r + 0 = omega arith in
        becomes (sdus ++ run (with_sdu 0 h.sdu r.stored)) (sdus ++ up) (hands_up (stores r 0 h.sdu)) new (ap (λ (x : List (List ℕ)). sdus ++ x) (sym s.3)) (sym s.4)
        (goes_up size first (h ∷ hs) sdus (stores r 0 h.sdu) (stored_as 0 (subst (Near r.size h.sn (rx_deliv r)) here s.0) (omega (arith, s.1)) s.2))

-- so what was heard is held at all times
pub holds_all : (size : SnSize) (first : ℕ) (hs : List Hearing) (sdus : List (List ℕ)) (r : Receiver) → HasHeard size first hs sdus r → HoldsAll size first hs sdus r
holds_all size first [] sdus r h =
    subst (λ (s : Receiver). HoldsAll size first [] sdus s) (sym h.1) (subst (λ (x : List (List ℕ)). HoldsAll size first [] x (new_receiver size first)) (sym h.0) (starts size first))
holds_all size first (h ∷ hs) sdus r heard =
    subst (λ (x : List (List ℕ)). HoldsAll size first (h ∷ hs) x r) (sym heard.5)
    (hears size first hs heard.1 heard.0 (holds_all size first hs heard.1 heard.0 heard.2) h heard.3 r heard.4)

-- what was handed up is the hand-up
pub hands_up_the_hand_up : HandsUpTheHandUp
hands_up_the_hand_up size first hs sdus r heard =
    let all = holds_all size first hs sdus r heard in
    (hand_up size first hs sdus r all, all.holds.handed, all.holds.size_is, all.holds.first_is)

-- an SDU whose SN has a COUNT is heard
pub each_is_heard : EachIsHeard
each_is_heard size first hs sdus r heard h count is = is_heard size first hs sdus r (holds_all size first hs sdus r heard) h count is
