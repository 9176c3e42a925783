-- A sender's SDUs through its steps.
use Rattle.std.proofs.Common.{◌≡◌, inl, inr, ℕ, ◌+◌, ◌<◌, ◌==◌, Bool, true, false, cond, nat_lt, nat_le, List, [], ◌∷◌, ◌++◌, length, get_or, Some, None, refl, sym, ◌∙◌, ap, subst, arith, length-append}
use Rattle.std.proofs.lemmas.Bool.{cases_lt, cases_eq, eqb-false, ltb-false, leb-false}
use Rattle.std.proofs.lemmas.Option.{none-some, same_Some}
use Rattle.std.proofs.lemmas.List.{get_or_append_left, get_or-append-add, get_or_past}
use Rattle.link_base.specs.declared.limits.TheConstants.{LONGEST_PDCP_SDU, COUNT_END}
use Rattle.link_base.specs.declared.names.Way.{Way}
use Rattle.link_base.specs.SequenceNumbers.{most_unconfirmed}
use Rattle.bearer_map.specs.declared.rows.BearerRow.{BearerRow}
use Rattle.pdcp_pdu.specs.Pdcp.{IsBody}
use Rattle.pdcp_model.specs.declared.answers.SubmitFault.{SubmitFault}
use Rattle.pdcp_model.specs.declared.answers.SubmitFault.TheVariants as faults
use Rattle.pdcp_model.specs.Sender.{Sender, new_sender, submitted, confirmed, tx_next, submit_fault, accepts}
use Rattle.node_model.specs.Tables.{first_count}
use Rattle.book_law.specs.Kept.{KeepsSdus}
use Rattle.book_law.proofs.Senders.{Forgets, confirmed_rises, accepting}

-- an SDU that isn't refused
none_of : (a b c d : Bool) (e f g h : SubmitFault) → cond a (Some e) (cond b (Some f) (cond c (Some g) (cond d (Some h) None))) ≡ None → (a ≡ false) × (b ≡ false) × (c ≡ false) × (d ≡ false)
none_of true b c d e f g h is = absurd (none-some e (sym is))
none_of false true c d e f g h is = absurd (none-some f (sym is))
none_of false false true d e f g h is = absurd (none-some g (sym is))
none_of false false false true e f g h is = absurd (none-some h (sym is))
none_of false false false false e f g h is = (refl, refl, refl, refl)

pub record MayBeAccepted (s : Sender) (sdu : List ℕ) : Type 0 where
  pub body : IsBody sdu
  pub count : tx_next s < COUNT_END
  pub room : submitted s ≡ confirmed s + most_unconfirmed s.size → ⊥

pub may_be : (s : Sender) (sdu : List ℕ) → submit_fault s sdu ≡ None → MayBeAccepted s sdu
may_be s sdu is =
    let x = none_of (length sdu == 0) (nat_lt LONGEST_PDCP_SDU (length sdu)) (nat_le COUNT_END (tx_next s)) (submitted s == confirmed s + most_unconfirmed s.size) faults.Empty faults.Long faults.Spent (faults.Full (confirmed s)) is in
    record {
      body = (omega (arith, eqb-false _ _ x.0), ltb-false _ _ x.1);
      count = leb-false _ _ x.2;
      room = eqb-false _ _ x.3;
    }

module _ (row : BearerRow) (way : Way) where
  pub begins : KeepsSdus row way [] (new_sender row.pdcp (first_count row way))
  begins = record {
    size = refl;
    first = refl;
    many = refl;
    each = λ n sdu is. absurd (none-some sdu is);
    few = omega arith;
    bodies = λ n lt. absurd (omega (arith, lt));
    counts = λ n lt. absurd (omega (arith, lt));
  }

  pub forgotten : (sdus : List (List ℕ)) (s t : Sender) → KeepsSdus row way sdus s → Forgets s t → KeepsSdus row way sdus t
  forgotten sdus s t k f = record {
    size = f.size ∙ k.size;
    first = f.first ∙ k.first;
    many = f.many ∙ k.many;
    each = λ n sdu is. k.each n sdu (f.each n sdu is);
    few = omega (arith, k.few, confirmed_rises s t f);
    bodies = k.bodies;
    counts = k.counts;
  }

  pub taken : (sdus : List (List ℕ)) (s : Sender) (sdu : List ℕ) → KeepsSdus row way sdus s → MayBeAccepted s sdu → KeepsSdus row way (sdus ++ sdu ∷ []) (accepts s sdu)
  taken sdus s sdu k may = record {
    size = k.size;
    first = k.first;
    many = omega (arith, length-append s.kept (Some sdu ∷ []), length-append sdus (sdu ∷ []), k.many);
    each = each;
    few =
        let same : confirmed (accepts s sdu) ≡ confirmed s = accepting s.kept sdu in
        let most : most_unconfirmed s.size ≡ most_unconfirmed row.pdcp = ap most_unconfirmed k.size in
        let room : length sdus < confirmed s + most_unconfirmed row.pdcp = elim (cases_lt (length sdus) (confirmed s + most_unconfirmed row.pdcp)) [
          | inl lt ↦ lt
          | inr le ↦ absurd (may.room (omega (arith, le, k.few, k.many, most)))
        ] in
        omega (arith, room, same, length-append sdus (sdu ∷ []));
    bodies = λ n lt. elim (cases_lt n (length sdus)) [
      | inl low ↦ subst IsBody (sym (get_or_append_left sdus (sdu ∷ []) [] n low)) (k.bodies n low)
      | inr high ↦ subst IsBody (sym (last n (omega (arith, high, lt, length-append sdus (sdu ∷ []))))) may.body
    ];
    counts = λ n lt. elim (cases_lt n (length sdus)) [
      | inl low ↦ k.counts n low
      | inr high ↦ omega (arith, may.count, high, lt, length-append sdus (sdu ∷ []), k.first, k.many)
    ];
  }
    where
      last : (n : ℕ) → n ≡ length sdus → get_or (sdus ++ sdu ∷ []) n [] ≡ sdu
      last n is =
          let at : n ≡ length sdus + 0 = omega (arith, is) in
          ap (λ m. get_or (sdus ++ sdu ∷ []) m []) at ∙ get_or-append-add sdus (sdu ∷ []) 0 []

      last_kept : (n : ℕ) → n ≡ length s.kept → get_or (s.kept ++ Some sdu ∷ []) n None ≡ Some sdu
      last_kept n is =
          let at : n ≡ length s.kept + 0 = omega (arith, is) in
          ap (λ m. get_or (s.kept ++ Some sdu ∷ []) m None) at ∙ get_or-append-add s.kept (Some sdu ∷ []) 0 None

      each : (n : ℕ) (x : List ℕ) → get_or (s.kept ++ Some sdu ∷ []) n None ≡ Some x → (n < length (sdus ++ sdu ∷ [])) × (x ≡ get_or (sdus ++ sdu ∷ []) n [])
      each n x is = elim (cases_lt n (length s.kept)) [
        | inl low ↦
            let old = k.each n x (sym (get_or_append_left s.kept (Some sdu ∷ []) None n low) ∙ is) in
            (omega (arith, old.0, length-append sdus (sdu ∷ [])), old.1 ∙ sym (get_or_append_left sdus (sdu ∷ []) [] n old.0))
        | inr high ↦ elim (cases_eq n (length s.kept)) [
          | inl at ↦
              let here : n ≡ length sdus = omega (arith, at, k.many) in
              (omega (arith, here, length-append sdus (sdu ∷ [])), same_Some x sdu (sym is ∙ last_kept n at) ∙ sym (last n here))
          | inr ne ↦ absurd (none-some x (sym (get_or_past (s.kept ++ Some sdu ∷ []) n None (omega (arith, high, ne, length-append s.kept (Some sdu ∷ [])))) ∙ is))
        ]
      ]
