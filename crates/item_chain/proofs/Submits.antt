-- The line submit: a sender accepts an SDU, and so does that of its items.
use Rattle.std.proofs.Common.{◌≡◌, ◌⊎◌, ◌↔◌, inl, inr, ℕ, zero, suc, ◌+◌, ◌==◌, ◌<◌, ◌≤◌, Bool, true, false, cond, not, nat_lt}
use Rattle.std.proofs.Common.{nat_le, List, [], ◌∷◌, ◌++◌, length, get_or, Option, Some, None, is_none, refl, sym, ◌∙◌, ap, subst, arith}
use Rattle.std.specs.Option.{unwrap_or}
use Rattle.std.proofs.lemmas.Bool.{cases_Bool, eqb-false, leb-false, ltb-false, ltb-true, false≢true, true≢false}
use Rattle.std.proofs.lemmas.List.{get_or_append_left, length_push}
use Rattle.std.proofs.lemmas.List.Sums.{prefix_len_passes, prefix_len_stops, prefix_len-le-length}
use Rattle.std.proofs.lemmas.Option.{none-some, same_Some}
use Rattle.link_base.specs.declared.limits.TheConstants.{COUNT_END, LONGEST_PDCP_SDU}
use Rattle.link_base.specs.declared.names.Key.{Key}
use Rattle.link_base.specs.SequenceNumbers.{most_unconfirmed}
use Rattle.bearer_map.specs.declared.rows.BearerRow.{BearerRow}
use Rattle.pdcp_model.specs.declared.answers.SubmitFault.{SubmitFault}
use Rattle.pdcp_model.specs.declared.answers.SubmitFault.TheVariants.{Empty, Long, Spent, Full}
use Rattle.pdcp_model.specs.Sender.{Sender, kept_at, submitted, confirmed, tx_next, submit_fault, accepts}
use Rattle.script_text.specs.declared.event.Event.{Event}
use Rattle.script_text.specs.declared.reply.Reply.{Reply}
use Rattle.script_text.specs.declared.reply.Reply.TheVariants.{NoBearer}
use Rattle.node_model.specs.Names.{is_key, is_node, source}
use Rattle.node_model.specs.State.{Outgoing, no_outgoing, outgoing, outgoing_at, set_outgoing}
use Rattle.node_model.specs.Tables.{has_bearer}
use Rattle.chain_model.specs.Lines.{Unless, submit_refusal, Submits}
use Rattle.chain_model.specs.State.{Chain, node_at, sender_at, set_node, set_sender}
use Rattle.item_law.specs.State.{Sdu, put}
use Rattle.item_law.specs.State.{Chain as ItemChain, Sender as ItemSender, Tables as ItemTables}
use Rattle.item_law.specs.Steps.{submit}
use Rattle.item_law.proofs.base.Puts.{of_key, put_same}
use Rattle.item_law.proofs.Inductive.{reaches_inv}
use Rattle.item_law.proofs.kept.Invariant.{KeyFits, state_of}
use Rattle.item_chain.specs.View.{view, put_at}
use Rattle.item_chain.specs.Stands.{row_of, row_limit, item_tables, SenderFits, OutgoingFits, calm, Ghost, Stands, Refines}
use Rattle.item_chain.proofs.Calls.{unless}
use Rattle.item_chain.proofs.Ends.{outgoing_goes}
use Rattle.item_chain.proofs.Goings.{stays, one_step, reaches_on}
use Rattle.item_chain.proofs.Receives.{some_is}
use Rattle.item_chain.proofs.Views.{outgoing_set}
use Rattle.item_chain.proofs.Wants.{bearer_row}
use Rattle.item_chain.proofs.Given.{given_same}

-- what is refused by none of two
passed : {X : Type 0} (b : Bool) (x : X) (rest : Option X) → cond b (Some x) rest ≡ None → (b ≡ false) × (rest ≡ None)
passed true x rest e = absurd (none-some x (sym e))
passed false x rest e = (refl, e)

module _ (a : ItemSender) (s : Sender) (fit : SenderFits a s) (only : (c : ℕ) → a.confirmed c ≡ true → c < length a.submitted) (sdu : List ℕ)
    (body : (1 ≤ length sdu) × (length sdu ≤ LONGEST_PDCP_SDU)) where
  abbrev pub now : ItemSender
  now = record a { submitted = a.submitted ++ sdu ∷ [] }

  -- a place of a list with one more is one before or the last
  parts : {T : Type 0} (xs : List T) (x : T) (k : ℕ) (d : T) → k < length (xs ++ x ∷ [])
      → ((k < length xs) × (get_or (xs ++ x ∷ []) k d ≡ get_or xs k d)) ⊎ ((k ≡ length xs) × (get_or (xs ++ x ∷ []) k d ≡ x))
  parts [] x zero d lt = inr (refl, refl)
  parts [] x (suc k) d lt = absurd (omega (arith, lt))
  parts (y ∷ xs) x zero d lt = inl (omega arith, refl)
  parts (y ∷ xs) x (suc k) d lt = elim (parts xs x k d (omega (arith, lt))) [
    | inl p ↦ inl (omega (arith, p.0), p.1)
    | inr p ↦ inr (omega (arith, p.0), p.1)
  ]

  beyond : {T : Type 0} (xs : List T) (k : ℕ) (d : T) → length xs ≤ k → get_or xs k d ≡ d
  beyond [] k d le = refl
  beyond (x ∷ xs) zero d le = absurd (omega (arith, le))
  beyond (x ∷ xs) (suc k) d le = beyond xs k d (omega (arith, le))

  long : length now.submitted ≡ length (accepts s sdu).kept
  long = omega (arith, length_push a.submitted sdu, length_push s.kept (Some sdu), fit.long)

  its_sdus : (c : ℕ) (x : Sdu) → kept_at (accepts s sdu) c ≡ Some x → get_or now.submitted c [] ≡ x
  its_sdus c x is = by (cases_Bool (nat_lt c (length (s.kept ++ Some sdu ∷ []))))
    where
      by : (nat_lt c (length (s.kept ++ Some sdu ∷ [])) ≡ true) ⊎ (nat_lt c (length (s.kept ++ Some sdu ∷ [])) ≡ false) → get_or now.submitted c [] ≡ x
      by (inr past) = absurd (none-some x (sym (beyond (s.kept ++ Some sdu ∷ []) c None (ltb-false c (length (s.kept ++ Some sdu ∷ [])) past)) ∙ is))
      by (inl lt) = elim (parts s.kept (Some sdu) c None (ltb-true c (length (s.kept ++ Some sdu ∷ [])) lt)) [
        | inl p ↦ get_or_append_left a.submitted (sdu ∷ []) [] c (omega (arith, p.0, fit.long)) ∙ fit.sdus c x (sym p.1 ∙ is)
        | inr p ↦ at_last (parts a.submitted sdu c [] (omega (arith, p.0, fit.long, length_push a.submitted sdu))) p.0 (same_Some sdu x (sym p.1 ∙ is))
      ]
        where
          at_last : ((c < length a.submitted) × (get_or now.submitted c [] ≡ get_or a.submitted c [])) ⊎ ((c ≡ length a.submitted) × (get_or now.submitted c [] ≡ sdu))
              → c ≡ length s.kept → sdu ≡ x → get_or now.submitted c [] ≡ x
          at_last (inl p) end same = absurd (omega (arith, p.0, end, fit.long))
          at_last (inr p) end same = p.1 ∙ same

  its_confirmed : (c : ℕ) → c < length (accepts s sdu).kept → (a.confirmed c ≡ true) ↔ (kept_at (accepts s sdu) c ≡ None)
  its_confirmed c lt = elim (parts s.kept (Some sdu) c None lt) [
    | inl p ↦ ((λ e. p.1 ∙ (fit.confirmed c p.0).0 e), (λ e. (fit.confirmed c p.0).1 (sym p.1 ∙ e)))
    | inr p ↦ ((λ e. absurd (omega (arith, only c e, p.0, fit.long))), (λ e. absurd (none-some sdu (sym e ∙ p.1))))
  ]

  its_bodies : (c : ℕ) → c < length now.submitted → (1 ≤ length (get_or now.submitted c [])) × (length (get_or now.submitted c []) ≤ LONGEST_PDCP_SDU)
  its_bodies c lt = elim (parts a.submitted sdu c [] lt) [
    | inl p ↦ subst (λ (x : Sdu). (1 ≤ length x) × (length x ≤ LONGEST_PDCP_SDU)) (sym p.1) (fit.bodies c p.0)
    | inr p ↦ subst (λ (x : Sdu). (1 ≤ length x) × (length x ≤ LONGEST_PDCP_SDU)) (sym p.1) body
  ]

  pub accepted_fits : SenderFits now (accepts s sdu)
  accepted_fits = record { long = long; sdus = its_sdus; confirmed = its_confirmed; place = fit.place; waits = fit.waits; bodies = its_bodies }

  -- all below the first unconfirmed COUNT are confirmed
  none_of : (o : Option Sdu) → is_none o ≡ true → o ≡ None
  none_of None e = refl
  none_of (Some x) e = absurd (false≢true e)

  pub first_ones : (c : ℕ) → c < confirmed s → a.confirmed c ≡ true
  first_ones c lt = (fit.confirmed c (omega (arith, lt, prefix_len-le-length is_none s.kept))).1 (none_of (kept_at s c) (prefix_len_passes is_none s.kept c None lt))

  -- and no more at once
  pub not_more : (n : ℕ) → ((c : ℕ) → c < n → a.confirmed c ≡ true) → n ≤ confirmed s
  not_more n first = elim (cases_Bool (nat_lt (confirmed s) n)) [
    | inr low ↦ ltb-false (confirmed s) n low
    | inl up ↦
        let lt = ltb-true (confirmed s) n up in
        let is = first (confirmed s) lt in
        let within : confirmed s < length s.kept = omega (arith, only (confirmed s) is, fit.long) in
        absurd (true≢false (ap is_none (sym ((fit.confirmed (confirmed s) within).0 is)) ∙ prefix_len_stops is_none s.kept None within))
  ]

pub submit_refines : (g : Ghost) (old : Chain) → Stands g (view old) → (key : Key) (sdu : List ℕ) (events : List Event) (reply : Reply) (new : Chain)
    → Unless (submit_refusal old key) old events reply new (Submits (submit_fault (sender_at old key) sdu) old key sdu events reply new) → Refines old.tables g (view new)
submit_refines g old st key sdu events reply new does = elim (cases_Bool (has_bearer old.tables key.remote key.drb)) [
  | inr none ↦ stays old.tables g (view old) (view new) (ap view (refused (submit_refusal old key) (ap (λ (b : Bool). cond (not b) (Some NoBearer) None) none) does)) st
  | inl has ↦ elim (unless (submit_refusal old key) old events reply new (Submits (submit_fault (sender_at old key) sdu) old key sdu events reply new) does) [
    | inl same ↦ stays old.tables g (view old) (view new) (ap view same) st
    | inr x ↦ by_fault (submit_fault (sender_at old key) sdu) refl (bearer_row old key has) x
  ]
]
  where
    refused : (r : Option Reply) → r ≡ Some NoBearer → Unless r old events reply new (Submits (submit_fault (sender_at old key) sdu) old key sdu events reply new) → new ≡ old
    refused None e d = absurd (none-some NoBearer e)
    refused (Some r) e d = d.2

    accepted : submit_fault (sender_at old key) sdu ≡ None → (row : BearerRow) → row_of old.tables key.remote key.drb ≡ Some row
        → new ≡ set_sender old key (accepts (sender_at old key) sdu) → Refines old.tables g (view new)
    accepted fine row its_row is =
        let out = st.ends.sends key row its_row in
        let o : Outgoing = out.0 in
        let f : OutgoingFits old.tables g.chain.sender (source key) key o = st.ends.outgoings (source key) key o out.1 in
        let same_out : outgoing (node_at old (source key)) key ≡ o = ap (λ (x : Option Outgoing). unwrap_or x (no_outgoing key)) out.1 in
        let fine' : submit_fault o.sender sdu ≡ None = ap (λ (x : Outgoing). submit_fault x.sender sdu) (sym same_out) ∙ fine in
        let p1 = passed (length sdu == 0) Empty _ fine' in
        let p2 = passed (nat_lt LONGEST_PDCP_SDU (length sdu)) Long _ p1.1 in
        let p3 = passed (nat_le COUNT_END (tx_next o.sender)) Spent _ p2.1 in
        let p4 = passed (submitted o.sender == confirmed o.sender + most_unconfirmed o.sender.size) (Full (confirmed o.sender)) None p3.1 in
        let body : (1 ≤ length sdu) × (length sdu ≤ LONGEST_PDCP_SDU) = (omega (arith, eqb-false (length sdu) 0 p1.0), ltb-false LONGEST_PDCP_SDU (length sdu) p2.0) in
        let T : ItemTables = item_tables old.tables in
        let a : ItemSender = g.chain.sender key in
        let k : KeyFits (state_of T g.chain (λ r. false) key) g.chain.items g.chain.spot key = (reaches_inv T (calm g.chain) st.reaches).keys key refl in
        let only : (c : ℕ) → a.confirmed c ≡ true → c < length a.submitted = λ c e. let h = some_is (g.chain.heard key c) (k.confirmed c e) in (k.submitted c h.0 h.1).0 in
        let its_now : ItemSender = now a o.sender f.fits only sdu body in
        let chain : ItemChain = record g.chain { sender = put is_key g.chain.sender key its_now } in
        let limit : T.limit key.remote key.drb ≡ most_unconfirmed o.sender.size = ap row_limit (its_row)
        ∙ ap (λ (b : BearerRow). most_unconfirmed b.pdcp) (same_Some row f.row (sym its_row ∙ f.its_row)) ∙ ap most_unconfirmed (sym f.size) in
        let n : ℕ = confirmed o.sender in
        let room : length a.submitted < n + T.limit key.remote key.drb =
        omega (
          arith,
          k.few.few,
          not_more a o.sender f.fits only sdu body k.few.n k.few.first,
          limit,
          eqb-false (submitted o.sender)
              (confirmed o.sender + most_unconfirmed o.sender.size) p4.0,
          f.fits.long,
        ) in
        let step = submit key sdu n (first_ones a o.sender f.fits only sdu body) room refl in
        let new_out : Outgoing = record o { sender = accepts o.sender sdu } in
        let ends = outgoing_goes st.ends key new_out its_now (record {
          home = refl;
          named = f.named;
          row = f.row;
          its_row = f.its_row;
          size = f.size;
          first = f.first;
          few = omega (arith, length_push o.sender.kept (Some sdu), leb-false COUNT_END (tx_next o.sender) p3.0);
          fits = subst (λ (z : ItemSender). SenderFits z new_out.sender) (sym (put_same of_key g.chain.sender key its_now)) (accepted_fits a o.sender f.fits only sdu body);
        }) in
        let behind : Stands (record g { chain = chain }) (record (view old) { outgoing = put_at is_node is_key (view old).outgoing (source key) key (Some new_out) }) = record {
          good = st.good;
          reaches = reaches_on T g.chain chain st.reaches step;
          layout = st.layout;
          spelt = st.spelt;
          lengths = st.lengths;
          ports = st.ports;
          sides = st.sides;
          hops = st.hops;
          directs = st.directs;
          unopened = st.unopened;
          places = st.places;
          paths = st.paths;
          openings = st.openings;
          ends = ends;
        } in
        let seen : view new ≡ record (view old) { outgoing = put_at is_node is_key (view old).outgoing (source key) key (Some new_out) } =
        ap view is ∙ ap (λ (x : Outgoing). view (set_node old (set_outgoing (node_at old (source key)) (record x { sender = accepts x.sender sdu })))) same_out
        ∙ outgoing_set old (source key) new_out o (ap (outgoing_at (node_at old (source key))) f.named ∙ out.1)
        ∙ ap (λ (x : Key). record (view old) { outgoing = put_at is_node is_key (view old).outgoing (source key) x (Some new_out) }) f.named in
        record {
          ghost = record g { chain = chain };
          goes = one_step T g.chain chain step;
          given = given_same g.ports;
          stands = subst (Stands (record g { chain = chain })) (sym seen) behind;
        }

    by_fault : (fault : Option SubmitFault) → submit_fault (sender_at old key) sdu ≡ fault → (b : BearerRow) × (row_of old.tables key.remote key.drb ≡ Some b)
        → Submits fault old key sdu events reply new → Refines old.tables g (view new)
    by_fault (Some fault) fine b x = stays old.tables g (view old) (view new) (ap view x.2) st
    by_fault None fine b x = accepted fine b.0 b.1 x.2
