-- A node feeds: each status report and each data PDU that it gives is given by item steps.
use Rattle.std.proofs.Common.{◌≡◌, ◌⊎◌, inl, inr, ◌+◌, true, not, ◌&&◌, ◌||◌, nat_lt, nat_le, List, []}
use Rattle.std.proofs.Common.{◌∷◌, map, Option, Some, None, is_some, unwrap_or, refl, sym, ◌∙◌, ap, subst, arith}
use Rattle.std.proofs.lemmas.Bool.{and_parts, false≢true, leb-true, ltb-true}
use Rattle.std.proofs.lemmas.Option.{none-some}
use Rattle.link_base.specs.declared.names.Key.{Key}
use Rattle.bearer_map.specs.Contents.{Contents}
use Rattle.pdcp_model.specs.Receiver.{can_report}
use Rattle.pdcp_model.specs.Sender.{has_next, kept_at, next}
use Rattle.node_model.specs.Feeding.{has_room, is_enough, wants_report, GivesReport, FeedsReport, unwanted, dropped, no_room, gives as gives_report}
use Rattle.node_model.specs.Feeding.{FeedsReports, GivesData, FeedsData, rests as rests_data, gives as gives_data, FeedsEach, Feeds, in_key, out_key}
use Rattle.node_model.specs.Names.{NodeName, source, sink}
use Rattle.node_model.specs.State.{Incoming, Outgoing, Node, incoming, outgoing, incoming_at, outgoing_at, id_at, no_incoming, no_outgoing}
use Rattle.node_model.specs.Tables.{settings}
use Rattle.chain_model.specs.Places.{find_node}
use Rattle.chain_model.specs.State.{Chain, node_at, set_node}
use Rattle.chain_model.proofs.Lookups.{here, cases_found, sets_nodes}
use Rattle.item_chain.specs.View.{view}
use Rattle.item_chain.specs.Stands.{Ghost, Stands, Refines}
use Rattle.item_chain.proofs.FeedsData.{data_given, not_true}
use Rattle.item_chain.proofs.FeedsReport.{report_given}
use Rattle.item_chain.proofs.Goings.{goes_on, stays}
use Rattle.item_chain.proofs.Reports.{tells_all}
use Rattle.item_chain.proofs.Taken.{back_source}
use Rattle.item_chain.proofs.Views.{same_node, set_twice}
use Rattle.item_chain.proofs.Given.{given_on}

-- in each chain of these tables that has the old node under its name, and for which a ghost stands, the items go by steps as the new node is set
pub record NodeGoes (t : Contents) (name : NodeName) (old new : Node) : Type 0 where
  pub named : new.name ≡ name
  pub goes : (g : Ghost) (c : Chain) → c.tables ≡ t → find_node c name ≡ Some old → Stands g (view c) → Refines t g (view (set_node c new))

module _ (t : Contents) (name : NodeName) where
  node_rests : (old new : Node) → old.name ≡ name → new ≡ old → NodeGoes t name old new
  node_rests old new named is = record {
    named = ap (λ (n : Node). n.name) is ∙ named;
    goes = λ g c tables found st. stays t g (view c) (view (set_node c new))
        (ap (λ (n : Node). view (set_node c n)) (is ∙ sym (here c name old found)) ∙ same_node c name) st;
  }

  node_on : (a b c : Node) → NodeGoes t name a b → NodeGoes t name b c → NodeGoes t name a c
  node_on a b c p q = record {
    named = q.named;
    goes = λ g x tables found st.
        let one = p.goes g x tables found st in
        let there = subst (λ (m : NodeName). find_node (set_node x b) m ≡ Some b) p.named
        (sets_nodes.own x b a (subst (λ (m : NodeName). find_node x m ≡ Some a) (sym p.named) found)) in
        let two = q.goes one.ghost (set_node x b) tables there one.stands in
        record {
          ghost = two.ghost;
          goes = goes_on one.goes two.goes;
          given = given_on g.ports one.ghost.ports two.ghost.ports one.given two.given;
          stands = subst (λ (y : Chain). Stands two.ghost (view y)) (set_twice x b c (p.named ∙ sym q.named)) two.stands;
        };
  }

  -- a data PDU is given
  data_goes : (old : Node) (key : Key) (new : Node) → old.name ≡ name → has_next (outgoing old key).sender ≡ true → GivesData t old (outgoing old key) new → NodeGoes t name old new
  data_goes old key new named goes x = record {
    named = ap (λ (n : Node). n.name) x.is ∙ ap (λ (n : Node). n.name) x.gives.is ∙ named;
    goes = λ g c tables found st. elim (cases_found (outgoing_at old key)) [
      | inl o ↦
          let is : outgoing old key ≡ o.0 = ap (λ (x : Option Outgoing). unwrap_or x (no_outgoing key)) o.1 in
          let at : node_at c name ≡ old = here c name old found in
          let f = st.ends.outgoings name key o.0 (ap (λ (n : Node). outgoing_at n key) at ∙ o.1) in
          let home : name ≡ source o.0.key = f.home ∙ ap source (sym f.named) in
          let has = ap (λ (m : NodeName). outgoing_at (node_at c m) o.0.key) (sym home) ∙ ap (λ (n : Node). outgoing_at n o.0.key) at ∙ ap (outgoing_at old) f.named ∙ o.1 in
          let gives = subst (λ (m : NodeName). GivesData c.tables (node_at c m) o.0 new) home
          (subst (λ (n : Node). GivesData c.tables n o.0 new) (sym at) (subst (λ (u : Contents). GivesData u old o.0 new) (sym tables)
          (subst (λ (o : Outgoing). GivesData t old o new) is x))) in
          subst (λ (u : Contents). Refines u g (view (set_node c new))) tables (data_given g c st o.0 has new gives (ap (λ (o : Outgoing). has_next o.sender) (sym is) ∙ goes))
      | inr none ↦ absurd (none-some x.sdu
          (subst (λ (o : Outgoing). kept_at o.sender (next o.sender) ≡ Some x.sdu) (ap (λ (x : Option Outgoing). unwrap_or x (no_outgoing key)) none) x.its))
    ];
  }

  -- all that a key has to give, as long as there is room
  data_go : (key : Key) {old new : Node} → old.name ≡ name → FeedsData t key old new → NodeGoes t name old new
  data_go key {old} named (rests_data none) = node_rests old old named refl
  data_go key {old} {new} named (gives_data {mid = mid} some x more) =
      let first = data_goes old key mid named (and_parts (has_next (outgoing old key).sender) (has_room t old key) some).0 x in
      node_on old mid new first (data_go key first.named more)

  each_goes : (old : Node) (keys : List Key) (new : Node) → old.name ≡ name → FeedsEach t old keys new → NodeGoes t name old new
  each_goes old [] new named f = node_rests old new named f
  each_goes old (key ∷ keys) new named f = let first = data_go key named f.1 in node_on old f.0 new first (each_goes f.0 keys new first.named f.2)

  -- a key that a node doesn't receive has nothing to report
  none_wanted : (old : Node) (key : Key) → wants_report t old (no_incoming key) ≡ true → ⊥
  none_wanted old key wants =
      let report = (settings t).report in
      let enough = and_parts (nat_lt 0 report) (is_some (id_at old key.remote) && nat_le (0 + report) 0) wants in
      let reached = and_parts (is_some (id_at old key.remote)) (nat_le (0 + report) 0) enough.1 in
      absurd (omega (arith, ltb-true 0 report enough.0, leb-true (0 + report) 0 reached.1))

  -- a status report is given, or not
  report_goes : (old : Node) (key : Key) (given : List Key) (new : Node) → old.name ≡ name → FeedsReport t old (incoming old key) given new → NodeGoes t name old new
  report_goes old key given new named (unwanted w none is) = node_rests old new named is
  report_goes old key given new named (no_room w can room none is) = node_rests old new named is
  report_goes old key given new named (dropped w cannot none is) = record {
    named = ap (λ (n : Node). n.name) is ∙ named;
    goes = λ g c tables found st. absurd (false≢true (sym cannot ∙ by g c found st (cases_found (incoming_at old key))));
  }
    where
      by : (g : Ghost) (c : Chain) → find_node c name ≡ Some old → Stands g (view c) → ((j : Incoming) × (incoming_at old key ≡ Some j)) ⊎ (incoming_at old key ≡ None)
          → can_report (incoming old key).receiver ≡ true
      by g c found st (inl j) = ap (λ (x : Option Incoming). can_report (unwrap_or x (no_incoming key)).receiver) j.1
          ∙ tells_all g (view c) st name key j.0 (ap (λ (n : Node). incoming_at n key) (here c name old found) ∙ j.1)
      by g c found st (inr none) = ap (λ (x : Option Incoming). can_report (unwrap_or x (no_incoming key)).receiver) none
  report_goes old key given new named (gives_report w can room y one) = record {
    named = ap (λ (n : Node). n.name) y.is ∙ ap (λ (n : Node). n.name) y.gives.is ∙ named;
    goes = λ g c tables found st. elim (cases_found (incoming_at old key)) [
      | inl j ↦
          let is : incoming old key ≡ j.0 = ap (λ (x : Option Incoming). unwrap_or x (no_incoming key)) j.1 in
          let at : node_at c name ≡ old = here c name old found in
          let f = st.ends.incomings name key j.0 (ap (λ (n : Node). incoming_at n key) at ∙ j.1) in
          let home : name ≡ sink j.0.key = f.home ∙ ap sink (sym f.named) in
          let has = ap (λ (m : NodeName). incoming_at (node_at c m) j.0.key) (sym home) ∙ ap (λ (n : Node). incoming_at n j.0.key) at ∙ ap (incoming_at old) f.named ∙ j.1 in
          let gives = subst (λ (m : NodeName). GivesReport c.tables (node_at c m) j.0 new) (home ∙ sym (back_source j.0.key))
          (subst (λ (n : Node). GivesReport c.tables n j.0 new) (sym at) (subst (λ (u : Contents). GivesReport u old j.0 new) (sym tables)
          (subst (λ (j : Incoming). GivesReport t old j new) is y))) in
          let ready = not_true j.0.held_back (and_parts (not j.0.held_back) (j.0.wanted || is_enough (settings t).report (is_some (id_at old j.0.key.remote)) j.0)
          (ap (wants_report t old) (sym is) ∙ w)).0 in
          subst (λ (u : Contents). Refines u g (view (set_node c new))) tables (report_given g c st j.0 has ready new gives)
      | inr none ↦ absurd (none_wanted old key (ap (λ (x : Option Incoming). wants_report t old (unwrap_or x (no_incoming key))) (sym none) ∙ w))
    ];
  }

  reports_go : (old : Node) (keys given : List Key) (new : Node) → old.name ≡ name → FeedsReports t old keys given new → NodeGoes t name old new
  reports_go old [] given new named f = node_rests old new named f.1
  reports_go old (key ∷ keys) given new named f =
      let first = report_goes old key f.0 f.2 named f.3 in
      node_on old f.2 new first (reports_go f.2 keys f.1 new first.named f.4)

  -- a node feeds
  pub feeds_go : (old : Node) (given : List Key) (new : Node) → old.name ≡ name → Feeds t old given new → NodeGoes t name old new
  feeds_go old given new named f =
      let first = reports_go old (map in_key old.incoming) given f.mid named f.reports in
      node_on old f.mid new first (each_goes f.mid (map out_key f.mid.outgoing) new first.named f.data_pdus)
