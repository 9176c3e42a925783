-- Behind its feeding each node is fed, and so is the chain behind each line of a run.
use Rattle.std.proofs.Common.{◌≡◌, ◌⊎◌, inl, inr, ◌+◌, Bool, true, false, ◌&&◌, nat_lt, nat_le, List, [], ◌∷◌, map, find, Option, Some, None, is_some, unwrap_or, refl, sym, ◌∙◌, ap, subst, arith}
use Rattle.std.specs.List.{AllByRecursion}
use Rattle.std.proofs.lemmas.Bool.{cases_Bool, and_parts, false≢true, cond-false, leb-true, ltb-true}
use Rattle.std.proofs.lemmas.Option.{none-some}
use Rattle.link_base.specs.declared.names.Key.{Key}
use Rattle.link_base.specs.declared.names.Way.{Way}
use Rattle.link_base.specs.declared.names.Way.TheVariants.{Ul, Dl}
use Rattle.bearer_map.specs.declared.rows.BearerRow.{BearerRow}
use Rattle.bearer_map.specs.declared.rows.RemoteRow.{RemoteRow}
use Rattle.bearer_map.specs.Contents.{Contents}
use Rattle.pdcp_model.specs.Sender.{has_next}
use Rattle.node_model.specs.Feeding.{has_room, wants_report, FeedsReports, FeedsEach, Feeds, in_key, out_key}
use Rattle.node_model.specs.Names.{NodeName, is_key, is_node}
use Rattle.node_model.specs.Opening.{bearers_of, new_incoming, new_outgoing, new_remote, new_relay, new_gnb}
use Rattle.node_model.specs.State.{Incoming, Outgoing, Node, incoming_at, outgoing_at, id_at, no_node, no_outgoing}
use Rattle.node_model.specs.Tables.{settings}
use Rattle.node_model.proofs.Finding.{each_append, each_found, each_made}
use Rattle.node_model.proofs.Names.{cases_key, key_is}
use Rattle.chain_model.specs.Runs.{entries}
use Rattle.chain_model.specs.State.{Chain, opened}
use Rattle.chain_model.specs.Draining.{Moment}
use Rattle.chain_model.specs.Steps.{FeedsAll}
use Rattle.chain_model.proofs.Lookups.{cases_found}
use Rattle.book_law.specs.Laws.{EachRunIsPast}
use Rattle.book_law.specs.Past.{steps, drained, ended, Passes}
use Rattle.item_chain.specs.Fed.{IsFedNode, IsFed, StepsLeaveFed, PastsAreFed, RunsAreFed}
use Rattle.item_chain.proofs.FedKeys.{HasNoData, HasNoReport, data_stays, report_stays, GivesOf, ReportsOf, data_fed, report_fed}
use Rattle.item_chain.proofs.Room.{HasLessRoom, as_much, less_on}

-- the key is one of these
abbrev Among : List Key → Key → Type 0
Among [] k = ⊥
Among (key ∷ keys) k = (k ≡ key) ⊎ Among keys k

found_in : (rows : List Incoming) (k : Key) (i : Incoming) → find (λ (x : Incoming). is_key k x.key) rows ≡ Some i → Among (map in_key rows) k
found_in [] k i e = absurd (none-some i e)
found_in (x ∷ rows) k i e = elim (cases_Bool (is_key k x.key)) [
  | inl is ↦ inl (key_is k x.key is)
  | inr other ↦ inr (found_in rows k i (sym (cond-false (is_key k x.key) (Some x) (find (λ (x : Incoming). is_key k x.key) rows) other) ∙ e))
]

found_out : (rows : List Outgoing) (k : Key) (o : Outgoing) → find (λ (x : Outgoing). is_key k x.key) rows ≡ Some o → Among (map out_key rows) k
found_out [] k o e = absurd (none-some o e)
found_out (x ∷ rows) k o e = elim (cases_Bool (is_key k x.key)) [
  | inl is ↦ inl (key_is k x.key is)
  | inr other ↦ inr (found_out rows k o (sym (cond-false (is_key k x.key) (Some x) (find (λ (x : Outgoing). is_key k x.key) rows) other) ∙ e))
]

module _ (t : Contents) where
  -- data PDUs of some keys are given
  record EachGiven (old new : Node) : Type 0 where
    pub less : HasLessRoom old new
    pub incoming : new.incoming ≡ old.incoming

  each_data : (keys : List Key) (old new : Node) → FeedsEach t old keys new → EachGiven old new × ((k : Key) → HasNoData t old k ⊎ Among keys k → HasNoData t new k)
  each_data [] old new is = (
    record { less = as_much old new (ap (λ (n : Node). n.ports) is) (ap (λ (n : Node). n.attached) is); incoming = ap (λ (n : Node). n.incoming) is },
    λ k has. elim has [
      | inl none ↦ subst (λ (n : Node). HasNoData t n k) (sym is) none
      | inr among ↦ absurd among
    ],
  )
  each_data (key ∷ keys) old new (mid, one, more) =
      let first = data_fed t key one in
      let rest = each_data keys mid new more in (
        record { less = less_on old mid new first.0.less rest.0.less; incoming = rest.0.incoming ∙ first.0.incoming },
        λ k has. rest.1 k (by first.0 first.1 k has (cases_key k key)),
      )
    where
      by : GivesOf key old mid → HasNoData t mid key → (k : Key) → HasNoData t old k ⊎ ((k ≡ key) ⊎ Among keys k) → (k ≡ key) ⊎ (k ≡ key → ⊥) → HasNoData t mid k ⊎ Among keys k
      by gives none k has (inl same) = inl (subst (HasNoData t mid) (sym same) none)
      by gives none k (inl was) (inr ne) = inl (data_stays t old mid gives.less k (ap (λ (o : Option Outgoing). unwrap_or o (no_outgoing k)) (gives.outgoing k ne)) was)
      by gives none k (inr (inl same)) (inr ne) = absurd (ne same)
      by gives none k (inr (inr among)) (inr ne) = inr among

  -- status reports about some keys are given, or not
  each_report : (keys : List Key) (old : Node) (given : List Key) (new : Node) → FeedsReports t old keys given new
      → (k : Key) → HasNoReport t old k ⊎ Among keys k → HasNoReport t new k
  each_report [] old given new f k (inl none) = subst (λ (n : Node). HasNoReport t n k) (sym f.1) none
  each_report [] old given new f k (inr among) = absurd among
  each_report (key ∷ keys) old given new (first, more, mid, one, rest, are) k has =
      let x = report_fed t key old first mid one in
      each_report keys mid more new rest k (by x.0 x.1 has (cases_key k key))
    where
      by : ReportsOf key old mid → HasNoReport t mid key → HasNoReport t old k ⊎ ((k ≡ key) ⊎ Among keys k) → (k ≡ key) ⊎ (k ≡ key → ⊥) → HasNoReport t mid k ⊎ Among keys k
      by reports none has (inl same) = inl (subst (HasNoReport t mid) (sym same) none)
      by reports none (inl was) (inr ne) = inl (report_stays t old mid reports.less k (reports.incoming k ne) was)
      by reports none (inr (inl same)) (inr ne) = absurd (ne same)
      by reports none (inr (inr among)) (inr ne) = inr among

  -- a node that has fed is fed
  feeds_fed : (old : Node) (given : List Key) (new : Node) → Feeds t old given new → IsFedNode t new
  feeds_fed old given new f =
      let given_pdus = each_data (map out_key f.mid.outgoing) f.mid new f.data_pdus in
      record {
        data_pdus = λ k. given_pdus.1 k (sending k (cases_found (outgoing_at f.mid k)));
        reports = λ k. report_stays t f.mid new given_pdus.0.less k (ap (λ (rows : List Incoming). incoming_at (record new { incoming = rows }) k) given_pdus.0.incoming)
            (each_report (map in_key old.incoming) old given f.mid f.reports k (receiving k (cases_found (incoming_at old k))));
      }
    where
      sending : (k : Key) → ((o : Outgoing) × (outgoing_at f.mid k ≡ Some o)) ⊎ (outgoing_at f.mid k ≡ None) → HasNoData t f.mid k ⊎ Among (map out_key f.mid.outgoing) k
      sending k (inl o) = inr (found_out f.mid.outgoing k o.0 o.1)
      sending k (inr none) = inl (ap (λ (o : Option Outgoing). has_next (unwrap_or o (no_outgoing k)).sender && has_room t f.mid k) none)

      receiving : (k : Key) → ((i : Incoming) × (incoming_at old k ≡ Some i)) ⊎ (incoming_at old k ≡ None) → HasNoReport t old k ⊎ Among (map in_key old.incoming) k
      receiving k (inl i) = inr (found_in old.incoming k i.0 i.1)
      receiving k (inr none) = inl (λ i found wants. absurd (none-some i (sym none ∙ found)))

  -- a node of which no end has anything to give
  fresh : (n : Node) → AllByRecursion (λ (o : Outgoing). has_next o.sender ≡ false) n.outgoing
      → AllByRecursion (λ (i : Incoming). wants_report t n i ≡ false) n.incoming → IsFedNode t n
  fresh n outs ins = record {
    data_pdus = λ k. nothing k (cases_found (outgoing_at n k));
    reports = λ k i found wants. absurd (false≢true
        (sym (each_found (λ (i : Incoming). wants_report t n i ≡ false) (λ (x : Incoming). is_key k x.key) n.incoming i ins found) ∙ wants));
  }
    where
      nothing : (k : Key) → ((o : Outgoing) × (outgoing_at n k ≡ Some o)) ⊎ (outgoing_at n k ≡ None) → HasNoData t n k
      nothing k (inr none) = ap (λ (o : Option Outgoing). has_next (unwrap_or o (no_outgoing k)).sender && has_room t n k) none
      nothing k (inl o) = ap (λ (x : Option Outgoing). has_next (unwrap_or x (no_outgoing k)).sender && has_room t n k) o.1
          ∙ ap (λ (b : Bool). b && has_room t n k) (each_found (λ (o : Outgoing). has_next o.sender ≡ false) (λ (x : Outgoing). is_key k x.key) n.outgoing o.0 outs o.1)

  no_node_fed : (name : NodeName) → IsFedNode t (no_node name)
  no_node_fed name = fresh (no_node name) tt tt

  -- a new receiving end wants no report
  no_wish : (n : Node) (way : Way) (row : BearerRow) → wants_report t n (new_incoming way row) ≡ false
  no_wish n way row = elim (cases_Bool (wants_report t n (new_incoming way row))) [
    | inr e ↦ e
    | inl e ↦
        let report = (settings t).report in
        let on = is_some (id_at n row.remote) in
        let some = and_parts (nat_lt 0 report) (on && nat_le (0 + report) 0) e in
        let reached = and_parts on (nat_le (0 + report) 0) some.1 in
        absurd (omega (arith, ltb-true 0 report some.0, leb-true (0 + report) 0 reached.1))
  ]

  remote_fed : (row : RemoteRow) → IsFedNode t (new_remote t row)
  remote_fed row = fresh (new_remote t row) (each_made (λ (o : Outgoing). has_next o.sender ≡ false) (new_outgoing Ul) (λ b. refl) (bearers_of t row.remote))
      (each_made (λ (i : Incoming). wants_report t (new_remote t row) i ≡ false) (new_incoming Dl) (λ b. no_wish (new_remote t row) Dl b) (bearers_of t row.remote))

  gnb_fed : IsFedNode t (new_gnb t)
  gnb_fed = fresh (new_gnb t) (each_made (λ (o : Outgoing). has_next o.sender ≡ false) (new_outgoing Dl) (λ b. refl) t.bearers)
      (each_made (λ (i : Incoming). wants_report t (new_gnb t) i ≡ false) (new_incoming Ul) (λ b. no_wish (new_gnb t) Ul b) t.bearers)

  -- of fed nodes each name finds one that is fed
  each_fed : (ns : List Node) (name : NodeName) → AllByRecursion (IsFedNode t) ns → IsFedNode t (unwrap_or (find (λ (n : Node). is_node name n.name) ns) (no_node name))
  each_fed ns name all = by (find (λ (n : Node). is_node name n.name) ns) refl
    where
      by : (o : Option Node) → find (λ (n : Node). is_node name n.name) ns ≡ o → IsFedNode t (unwrap_or o (no_node name))
      by None is = no_node_fed name
      by (Some n) is = each_found (IsFedNode t) (λ (n : Node). is_node name n.name) ns n all is

  all_fed : (ns : List Node) (given : List Key) (ms : List Node) → FeedsAll t ns given ms → AllByRecursion (IsFedNode t) ms
  all_fed [] given ms f = subst (AllByRecursion (IsFedNode t)) (sym f.1) tt
  all_fed (n ∷ ns) given ms (m, rest, first, more, one, others, are, is) = subst (AllByRecursion (IsFedNode t)) (sym is) (feeds_fed n first m one, all_fed ns more rest others)

opened_fed : (t : Contents) → IsFed (opened t)
opened_fed t name = each_fed t (opened t).nodes name
    (each_append (IsFedNode t) (map (new_remote t) t.remotes) (new_relay t ∷ new_gnb t ∷ []) (each_made (IsFedNode t) (new_remote t) (remote_fed t) t.remotes)
    (fresh t (new_relay t) tt tt, (gnb_fed t, tt)))

pub steps_leave_fed : StepsLeaveFed
steps_leave_fed old line events reply new s = subst IsFed (sym s.is) (λ name. each_fed s.mid.tables s.nodes name (all_fed s.mid.tables s.mid.nodes s.given s.nodes s.feeds))

passes_fed : (t : Contents) (ms : List Moment) (c : Chain) → Passes t ms c → IsFed c
passes_fed t [] c is = subst IsFed (sym is) (opened_fed t)
passes_fed t (m ∷ ms) c (before, steps s) = steps_leave_fed m.before m.entry.line m.entry.events m.entry.reply c s
passes_fed t (m ∷ ms) c (before, drained line none is whole) = subst IsFed (sym is) (passes_fed t ms m.before before)
passes_fed t (m ∷ ms) c (before, ended line none says is) = subst IsFed (sym is) (passes_fed t ms m.before before)

pub pasts_are_fed : PastsAreFed
pasts_are_fed h c past = passes_fed past.tables past.moments c past.passes

pub runs_are_fed : EachRunIsPast → RunsAreFed
runs_are_fed pasts h stage c leads = pasts_are_fed (entries h) c (pasts h stage c leads)
