-- The line report: a status report is wanted at a receiving end.
use Rattle.std.proofs.Common.{◌≡◌, ◌||◌, inl, inr, Bool, true, cond, not, ◌&&◌, ◌==◌, List, [], ◌∷◌, Option, Some, None, is_some, find, refl, sym, ◌∙◌, ap, subst}
use Rattle.std.specs.Option.{unwrap_or}
use Rattle.std.specs.List.{list_any}
use Rattle.std.proofs.lemmas.Bool.{cases_Bool, cond-true, cond-false, false≢true}
use Rattle.std.proofs.lemmas.Option.{none-some}
use Rattle.link_base.specs.declared.names.Key.{Key}
use Rattle.bearer_map.specs.declared.rows.BearerRow.{BearerRow}
use Rattle.script_text.specs.declared.event.Event.{Event}
use Rattle.script_text.specs.declared.reply.Reply.{Reply}
use Rattle.script_text.specs.declared.reply.Reply.TheVariants.{NoBearer}
use Rattle.node_model.specs.Names.{is_key, is_node, is_remote, sink}
use Rattle.node_model.specs.State.{Incoming, no_incoming}
use Rattle.node_model.specs.Tables.{has_bearer}
use Rattle.chain_model.specs.State.{Chain, plan_at, receiving_at, set_receiving}
use Rattle.chain_model.specs.Lines.{Unless, open_refusal, report_refusal, Wants}
use Rattle.item_chain.specs.View.{view, put_at}
use Rattle.item_chain.specs.Stands.{row_of, Ghost, Stands, rests, Refines}
use Rattle.item_chain.proofs.Calls.{unless}
use Rattle.item_chain.proofs.Ends.{incoming_same}
use Rattle.item_chain.proofs.Goings.{stays}
use Rattle.item_chain.proofs.Receives.{some_is}
use Rattle.item_chain.proofs.Views.{incoming_set}
use Rattle.item_chain.proofs.Given.{given_same}

any_find : {T : Type 0} (test : T → Bool) (xs : List T) → list_any test xs ≡ true → is_some (find test xs) ≡ true
any_find test [] e = absurd (false≢true e)
any_find test (x ∷ xs) e = elim (cases_Bool (test x)) [
  | inl m ↦ ap (λ (o : Option _). is_some o) (cond-true (test x) (Some x) (find test xs) m)
  | inr n ↦ ap (λ (o : Option _). is_some o) (cond-false (test x) (Some x) (find test xs) n) ∙ any_find test xs (sym (ap (λ (b : Bool). b || list_any test xs) n) ∙ e)
]

-- the row of a bearer that the tables have
pub bearer_row : (c : Chain) (key : Key) → has_bearer c.tables key.remote key.drb ≡ true → (row : BearerRow) × (row_of c.tables key.remote key.drb ≡ Some row)
bearer_row c key has = some_is (row_of c.tables key.remote key.drb)
    (any_find (λ (row : BearerRow). is_remote key.remote row.remote && (key.drb.0 == row.drb.0)) c.tables.bearers has)

pub wants_refines : (g : Ghost) (old : Chain) → Stands g (view old) → (key : Key) (events : List Event) (reply : Reply) (new : Chain)
    → Unless (report_refusal old key) old events reply new (Wants old key events reply new)
    → Refines old.tables g (view new)
wants_refines g old st key events reply new does = elim (cases_Bool (has_bearer old.tables key.remote key.drb)) [
  | inl has ↦ elim (unless (report_refusal old key) old events reply new (Wants old key events reply new) does) [
    | inl same ↦ stays old.tables g (view old) (view new) (ap view same) st
    | inr x ↦ wanted (bearer_row old key has) x.2
  ]
  | inr none ↦ stays old.tables g (view old) (view new)
      (ap view (refused (report_refusal old key) (ap (λ (b : Bool). cond (not b) (Some NoBearer) (open_refusal (plan_at old key.remote))) none) does)) st
]
  where
    refused : (r : Option Reply) → r ≡ Some NoBearer → Unless r old events reply new (Wants old key events reply new) → new ≡ old
    refused None e d = absurd (none-some NoBearer e)
    refused (Some r) e d = d.2

    wanted : (row : BearerRow) × (row_of old.tables key.remote key.drb ≡ Some row) → new ≡ set_receiving old key (record (receiving_at old key) { wanted = true })
        → Refines old.tables g (view new)
    wanted b is =
        let i = st.ends.receives key b.0 b.1 in
        let f = st.ends.incomings (sink key) key i.0 i.1 in
        let now : Incoming = record i.0 { wanted = true } in
        let same : receiving_at old key ≡ i.0 = ap (λ (o : Option Incoming). unwrap_or o (no_incoming key)) i.1 in
        let here : (view old).incoming (sink key) now.key ≡ Some i.0 = ap ((view old).incoming (sink key)) f.named ∙ i.1 in
        let st' : Stands g (record (view old) { incoming = put_at is_node is_key (view old).incoming (sink key) key (Some now) }) = record {
          good = st.good;
          reaches = st.reaches;
          layout = st.layout;
          spelt = st.spelt;
          lengths = st.lengths;
          ports = st.ports;
          sides = st.sides;
          hops = st.hops;
          directs =
              st.directs;
          unopened = st.unopened;
          places = st.places;
          paths = st.paths;
          openings = st.openings;
          ends = incoming_same st.ends key now (record {
            home = refl;
            named = f.named;
            row = f.row;
            its_row = f.its_row;
            size = f.size;
            first = f.first;
            fits = f.fits;
            wants =
                λ w. refl;
            ready = f.ready;
          });
        } in
        record {
          ghost = g;
          goes = rests;
          given = given_same g.ports;
          stands = subst (Stands g)
              (ap (λ (k : Key). record (view old) { incoming = put_at is_node is_key (view old).incoming (sink key) k (Some now) }) (sym f.named)
              ∙ sym (incoming_set old (sink key) now i.0 here)
              ∙ ap (λ (j : Incoming). view (set_receiving old key (record j { wanted = true }))) (sym same) ∙ ap view (sym is))
              st';
        }
