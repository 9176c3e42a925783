-- At each moment of a run each COUNT has one copy, of the places of the chain.
use Rattle.std.proofs.Common.{◌≡◌, ◌↔◌, inl, inr, ℕ, ◌+◌, ◌==◌, ◌&&◌, ◌≤◌, Bool, true, false, cond, not, List, [], ◌∷◌, ◌++◌, map, Option, Some, None, Contains, is_some}
use Rattle.std.proofs.Common.{refl, sym, ◌∙◌, ap, subst, arith}
use Rattle.std.specs.List.{AllByRecursion}
use Rattle.std.proofs.lemmas.Bool.{and_parts, eqb-true, true≢false}
use Rattle.link_base.specs.declared.names.Drb.{Drb}
use Rattle.link_base.specs.declared.names.Key.{Key}
use Rattle.link_base.specs.declared.names.Node.{Node as NodeKind}
use Rattle.link_base.specs.declared.names.Node.TheVariants as kinds
use Rattle.link_base.specs.declared.names.Remote.{Remote}
use Rattle.link_base.specs.declared.names.SnSize.{SnSize}
use Rattle.bearer_map.specs.declared.rows.BearerRow.{BearerRow}
use Rattle.bearer_map.specs.Contents.{Contents, bearer_rank}
use Rattle.pdcp_model.specs.HandUp.{Hearing, IsHeardAs}
use Rattle.pdcp_model.specs.Receiver.{stored_at}
use Rattle.script_text.specs.History.{Entry}
use Rattle.node_model.specs.State.{Incoming}
use Rattle.node_model.specs.Tables.{first_count, has_remote}
use Rattle.node_model.proofs.Finding.{find_passes}
use Rattle.node_model.specs.Names.{is_remote}
use Rattle.chain_law.specs.Entities.{next_epoch}
use Rattle.chain_law.proofs.Members.{contained, contains}
use Rattle.chain_model.specs.declared.plan.Plan.{Plan}
use Rattle.chain_model.specs.Carried.{IsRowOf}
use Rattle.chain_model.specs.Draining.{Moment, entry_of}
use Rattle.chain_model.specs.Heard.{IsHeard}
use Rattle.chain_model.specs.OneCopy.{OneCopy, IsHeardNow}
use Rattle.chain_model.specs.Plans.{has_applied as plan_applied, is_open}
use Rattle.chain_model.specs.State.{Chain, opened as opened_of, receiving_at}
use Rattle.chain_model.specs.Told.{epoch_at as told_epoch}
use Rattle.chain_law.specs.Laws.{ComesUp}
use Rattle.chain_law.proofs.Tables.{TablesApart}
use Rattle.book_law.specs.Honest.{HasCount}
use Rattle.book_law.specs.Past.{Passes, IsDeclaration, AreTables}
use Rattle.heard_law.proofs.Along.{passes_told}
use Rattle.table_law.specs.Declared.{AreDeclared}
use Rattle.table_law.proofs.Rows.{one_row}
use Rattle.carried_law.specs.Foundations.{SentLaws, EndLaws}
use Rattle.carried_law.proofs.Completing.{has_heard}
use Rattle.carried_law.proofs.Giving.{once}
use Rattle.item_law.specs.State.{Path, epoch_at, is_heard}
use Rattle.item_law.specs.State.{Plan as ItemPlan}
use Rattle.item_chain.specs.Foundations.{PduLaws}
use Rattle.item_chain.specs.Runs.{PastsAreRemembered, PastsStand, AreRunLines, IsRemembered, chains}
use Rattle.item_chain.specs.View.{view}
use Rattle.item_chain.specs.Stands.{row_of, PlanFits, opened, closed, TablesGood, Ghost, Stands}
use Rattle.item_chain.proofs.Unrouted.{find_among}
use Rattle.item_run.specs.Foundations.{BookLaws}
use Rattle.item_run.specs.OneCopy.{AtEachMoment, HasOneCopyOfEach}
use Rattle.item_run.proofs.AllUp.{row_there}
use Rattle.item_run.proofs.Arriving.{given_here, wait_here}
use Rattle.item_run.proofs.Honest.{inc, inc_fits, inc_is, first_in, heard_has}
use Rattle.item_run.proofs.OneCopies.{heard_or_kept, live_one, live_unheard_here, none_waits, report_names}
use Rattle.item_run.proofs.Quiet.{has_direct}
use Rattle.item_run.proofs.Runs.{past}

---- epochs

-- a closed plan was applied everywhere
all_applied : (p : Plan) → is_open p ≡ false → (k : NodeKind) → plan_applied p k ≡ true
all_applied p shut = by (whole (p.at_remote && (p.at_relay && p.at_gnb)) shut)
  where
    whole : (x : Bool) → not x ≡ false → x ≡ true
    whole true e = refl
    whole false e = absurd (true≢false e)

    by : (p.at_remote && (p.at_relay && p.at_gnb)) ≡ true → (k : NodeKind) → plan_applied p k ≡ true
    by all kinds.Remote = (and_parts p.at_remote (p.at_relay && p.at_gnb) all).0
    by all kinds.Relay = (and_parts p.at_relay p.at_gnb (and_parts p.at_remote (p.at_relay && p.at_gnb) all).1).0
    by all kinds.Gnb = (and_parts p.at_relay p.at_gnb (and_parts p.at_remote (p.at_relay && p.at_gnb) all).1).1

-- an epoch that a history tells is that of the path
same_epoch : (path : Path) (p : Plan) → PlanFits path p → (k : NodeKind) (n : ℕ) → n + 1 ≡ next_epoch p k → n ≡ epoch_at path k
same_epoch path p (opened still plan epoch) k n is = by k is
  where
    of_open : (b : Bool) → n + 1 ≡ cond b (p.epoch + 1) p.epoch → n ≡ cond b (path.epoch + 1) path.epoch
    of_open true e = omega (arith, epoch, e)
    of_open false e = omega (arith, epoch, e)

    by : (k : NodeKind) → n + 1 ≡ next_epoch p k → n ≡ epoch_at path k
    by kinds.Remote e = of_open p.at_remote e ∙ sym (ap (λ (o : Option ItemPlan). epoch_at (record path { plan = o }) kinds.Remote) plan)
    by kinds.Relay e = of_open p.at_relay e ∙ sym (ap (λ (o : Option ItemPlan). epoch_at (record path { plan = o }) kinds.Relay) plan)
    by kinds.Gnb e = of_open p.at_gnb e ∙ sym (ap (λ (o : Option ItemPlan). epoch_at (record path { plan = o }) kinds.Gnb) plan)
same_epoch path p (closed shut plan epoch goal) k n is =
    let e : n + 1 ≡ p.epoch + 1 = is ∙ ap (λ (b : Bool). cond b (p.epoch + 1) p.epoch) (all_applied p shut k) in
    let same : n ≡ path.epoch = omega (arith, e, epoch) in
    same ∙ sym (ap (λ (o : Option ItemPlan). epoch_at (record path { plan = o }) k) plan)

---- what is heard

-- no COUNT below the first one is heard
heard_from : (size : SnSize) (first : ℕ) (hs : List Hearing) (count : ℕ) (sdu : List ℕ) → IsHeardAs size first hs count sdu → first ≤ count
heard_from size first [] count sdu heard = absurd heard
heard_from size first (x ∷ hs) count sdu (inl earlier) = heard_from size first hs count sdu earlier
heard_from size first (x ∷ hs) count sdu (inr (none, same, handed, run, is)) = is.from

module _ (g : Ghost) (c : Chain) (st : Stands g (view c)) (key : Key) (row : BearerRow) (the_row : row_of c.tables key.remote key.drb ≡ Some row) where
  -- what the receiving end has was heard
  has_heard_it : (m : ℕ) → HasCount (receiving_at c key).receiver (first_count row key.way + m) → is_heard g.chain key m ≡ true
  has_heard_it m has = by (subst (λ (j : Incoming). HasCount j.receiver (first_count row key.way + m)) (inc_is g c st key row the_row) has)
    where
      first : (inc g c st key row the_row).receiver.first ≡ first_count row key.way
      first = ap (λ (j : Incoming). j.receiver.first) (sym (inc_is g c st key row the_row)) ∙ first_in g c st key row the_row

      some : {T : Type 0} (o : Option T) → (o ≡ None → ⊥) → is_some o ≡ true
      some None ne = absurd (ne refl)
      some (Some x) ne = refl

      by : HasCount (inc g c st key row the_row).receiver (first_count row key.way + m) → is_heard g.chain key m ≡ true
      by (inl low) = (inc_fits g c st key row the_row).fits.up m (omega (arith, low, first))
      by (inr (n, at, ne)) =
          let fits = (inc_fits g c st key row the_row).fits in
          let place : m ≡ (inc g c st key row the_row).receiver.handed + n = omega (arith, at, first) in
          ap (λ (k : ℕ). is_some (g.chain.heard key k)) place ∙ fits.stored n ∙ some (stored_at (inc g c st key row the_row).receiver n) ne

---- moments

-- the row of a bearer is found
the_only_row : (t : Contents) → AreDeclared t → (key : Key) (row : BearerRow) → IsRowOf t key row → row_of t key.remote key.drb ≡ Some row
the_only_row t declared key row its =
    let found = row_there t key row its in
    let test = λ (b : BearerRow). is_remote key.remote b.remote && (key.drb.0 == b.drb.0) in
    let pass = and_parts (is_remote key.remote found.0.remote) (key.drb.0 == found.0.drb.0) (find_passes test t.bearers found.0 found.1) in
    let rank : bearer_rank found.0 ≡ bearer_rank row = omega (
      arith,
      eqb-true key.remote.0 found.0.remote.0 pass.0,
      eqb-true key.drb.0 found.0.drb.0 pass.1,
      ap (λ (r : Remote). r.0) its.remote,
      ap (λ (d : Drb). d.0) its.drb,
    ) in
    let same : found.0 ≡ row = one_row bearer_rank t.bearers found.0 row declared.bearers_ascend (contained t.bearers found.0 (find_among test t.bearers found.0 found.1))
    (contained t.bearers row its.among) rank in
    found.1 ∙ ap (λ (b : BearerRow). Some b) same

module _ (books : BookLaws) (pasts : PastsStand) (pdus : PduLaws) (sent : SentLaws) (ends : EndLaws) (memory : PastsAreRemembered) (t : Contents) (apart : TablesApart t)
    (are : AreTables t) (good : TablesGood t) (sound : AreDeclared t) (declared : List Entry) (declare : AllByRecursion IsDeclaration declared) (up : ComesUp (opened_of t)) where
  abbrev behind : List Moment → List Entry
  behind ms = map entry_of ms ++ declared

  module _ (ms : List Moment) (c : Chain) (passes : Passes t ms c) (lines : AreRunLines (behind ms)) (row : BearerRow) (key : Key) (its : IsRowOf c.tables key row) where
    tables : c.tables ≡ t
    tables = books.tables (behind ms) c (past books pasts pdus t are good declared declare ms c passes)

    abbrev stood : IsRemembered (chains ms c) c
    stood = memory (behind ms) c (past books pasts pdus t are good declared declare ms c passes) lines (subst TablesGood (sym tables) good)

    abbrev g : Ghost
    g = stood.ghost

    abbrev st : Stands g (view c)
    st = stood.stands

    declares : AreDeclared c.tables
    declares = subst AreDeclared (sym tables) sound

    the_row : row_of c.tables key.remote key.drb ≡ Some row
    the_row = the_only_row c.tables declares key row its

    -- the receiving end has a COUNT where the history tells that it was heard
    counted : (m : ℕ) → HasCount (receiving_at c key).receiver (first_count row key.way + m) ↔ IsHeard t row key (behind ms) (first_count row key.way + m)
    counted m = has_heard sent.heard ends.hearings t apart are declared declare row key (subst (λ (u : Contents). IsRowOf u key row) tables its) ends.has_heard ms c passes
        (once sent ends t apart are declared declare up ms c passes) (first_count row key.way + m) (omega arith)

    told : (m : ℕ) → is_heard g.chain key m ≡ true ↔ IsHeardNow c (behind ms) row key (first_count row key.way + m)
    told m = (
      λ heard. subst (λ (u : Contents). IsHeard u row key (behind ms) (first_count row key.way + m)) (sym tables) ((counted m).0 (heard_has g c st key row the_row m heard)),
      λ it. has_heard_it g c st key row the_row m ((counted m).1 (subst (λ (u : Contents). IsHeard u row key (behind ms) (first_count row key.way + m)) tables it)),
    )

    from : (count : ℕ) → IsHeardNow c (behind ms) row key count → first_count row key.way ≤ count
    from count heard = heard_from row.pdcp (first_count row key.way) heard.0 count heard.2.0 heard.2.1

    epochs : (kind : NodeKind) → told_epoch kind key.remote (behind ms) ≡ epoch_at (g.chain.path key.remote) kind
    epochs kind =
        let parts = and_parts (has_remote c.tables key.remote) (is_some (row_of c.tables key.remote key.drb)) (has_direct g c st declares key.remote key.drb row the_row) in
        let last = st.paths.lasts key.remote parts.0 in
        same_epoch (g.chain.path key.remote) last.0 (st.paths.plans key.remote last.0 last.1) kind (told_epoch kind key.remote (behind ms))
        (((passes_told t are declared declare ms c passes).knows.plans key.remote last.0 last.1).epochs kind)

    among : Contains (chains ms c) c
    among = contains (chains ms c) c (inl refl)

    one_copy_of : OneCopy (chains ms c) c (behind ms) row key
    one_copy_of = record {
      heard_or_kept = heard_or_kept pdus g c st (chains ms c) stood.remembers (behind ms) row key the_row told from epochs;
      live_once = live_one pdus g c st (chains ms c) stood.remembers (behind ms) row key the_row told from epochs;
      live_unheard = live_unheard_here pdus g c st (chains ms c) stood.remembers (behind ms) row key the_row told from epochs;
      none_in_wait = none_waits pdus g c st (chains ms c) stood.remembers (behind ms) row key the_row told from epochs;
      names_heard = λ waits same spot fmc bits live count heard. (ends.tests fmc bits count).0
          (report_names pdus g c st (chains ms c) stood.remembers (behind ms) row key the_row told from epochs waits spot fmc bits live count heard);
      wait_ends = λ none waits. wait_here pdus g c st declares (chains ms c) among stood.remembers (behind ms) row key the_row told none waits;
      given_arrives = λ none waits n lt. given_here pdus g c st declares (chains ms c) among stood.remembers (behind ms) row key the_row told none waits n lt;
    }

  pub at_each : (ms : List Moment) (c : Chain) → Passes t ms c → AreRunLines (behind ms) → AtEachMoment HasOneCopyOfEach declared ms c
  at_each [] c passes lines = λ row key its. one_copy_of [] c passes lines row key its
  at_each (m ∷ ms) c (before, goes) (this, lines) =
      (λ row key its. one_copy_of (m ∷ ms) c (before, goes) (this, lines) row key its, at_each ms m.before before lines)
