-- What is handed up of a key is exactly what the delivered PDUs complete, line by line.
use Rattle.std.proofs.Common.{◌≡◌, inl, inr, ℕ, ◌==◌, Bool, true, false, ◌||◌, List, [], ◌∷◌, ◌++◌, map, refl, sym, ◌∙◌, ap, subst, arith}
use Rattle.std.specs.List.{AllByRecursion, list_any}
use Rattle.std.proofs.lemmas.Bool.{cases_Bool, eq-eqb, eqb-true}
use Rattle.std.proofs.lemmas.Option.{none-some}
use Rattle.link_base.specs.declared.names.Key.{Key}
use Rattle.link_base.specs.declared.names.PortName.TheVariants.{Direct}
use Rattle.link_base.specs.declared.names.Remote.{Remote}
use Rattle.link_base.specs.declared.names.Way.{Way}
use Rattle.link_base.specs.declared.names.Way.TheVariants.{Ul, Dl}
use Rattle.bearer_map.specs.declared.rows.BearerRow.{BearerRow}
use Rattle.bearer_map.specs.declared.rows.RemoteRow.{RemoteRow}
use Rattle.bearer_map.specs.Contents.{Contents, remote_rank}
use Rattle.bearer_map.specs.Order.{has_row}
use Rattle.pdcp_model.specs.HandUp.{Hearing, HandUp as HandUpOf}
use Rattle.script_text.specs.History.{Entry}
use Rattle.rlc_model.specs.Sides.{hearer_of}
use Rattle.node_model.specs.Names.{owner, sink, is_remote}
use Rattle.node_model.specs.Tables.{first_count}
use Rattle.chain_model.specs.Book.{handed, ups}
use Rattle.chain_model.specs.Carried.{IsRowOf}
use Rattle.chain_model.specs.Draining.{Moment, entry_of}
use Rattle.chain_model.specs.Heard.{Completes, CompletesAll, HandsUpExactly}
use Rattle.chain_model.specs.Runs.{entries}
use Rattle.chain_model.specs.State.{Chain, node_at, receiving_at, opened}
use Rattle.chain_law.specs.Laws.{ComesUp, behind, goes_on}
use Rattle.chain_law.proofs.Laws.{comes_hold}
use Rattle.chain_law.proofs.Tables.{TablesApart}
use Rattle.book_law.specs.Hearings.{coming, HearsBy, HearsNone, HearsEach}
use Rattle.book_law.specs.Laws.{TellsHandUps}
use Rattle.book_law.specs.Past.{Goes, steps, drained, ended, Passes, IsDeclaration, AreTables, IsPast}
use Rattle.book_law.proofs.Led.{Led, led}
use Rattle.book_law.proofs.Opened.{member}
use Rattle.book_law.proofs.Tables.{tables_stay}
use Rattle.heard_law.specs.Foundations.{HeardLaws, HearingLaws}
use Rattle.heard_law.specs.HandingUp.{OrderlyHandUpsAreExact}
use Rattle.heard_law.specs.Telling.{has_node, Tells}
use Rattle.heard_law.proofs.Hops.{completes_none}
use Rattle.heard_law.proofs.Keys.{LeadsOnce, hears_completes, none_completed}
use Rattle.heard_law.proofs.Logged.{none_declared, none_shown, Behind, behind_lines, told_behind}

-- lines that declare tables complete nothing, and hand nothing up
module _ (t : Contents) (row : BearerRow) (key : Key) where
  declared_complete : (declared : List Entry) → AllByRecursion IsDeclaration declared → CompletesAll t row key declared []
  declared_complete [] all = refl
  declared_complete (e ∷ h) all = inl (
    (λ hearing z. completes_none z.hop h e (λ number fields now. none_declared z.hop (e ∷ h) all number fields
        (inl now)) z.number z.whole z.completes),
    declared_complete h all.1,
  )

  declared_handed : (declared : List Entry) → AllByRecursion IsDeclaration declared → handed key declared ≡ []
  declared_handed [] all = refl
  declared_handed (e ∷ h) all = ap (λ (sdus : List (List ℕ)). sdus ++ ups key e.events) (declared_handed h all.1) ∙ ap (ups key) all.0.shows

  nothing_up : HandUpOf row.pdcp (first_count row key.way) [] []
  nothing_up = record { each = λ n lt. absurd (omega (arith, lt)); gap = λ sdu is. is }

  declared_exact : (declared : List Entry) → AllByRecursion IsDeclaration declared → HandsUpExactly t row key declared
  declared_exact [] all = ([], refl, nothing_up)
  declared_exact (e ∷ h) all = (
    declared_exact h all.1,
    ([], declared_complete (e ∷ h) all, subst (HandUpOf row.pdcp (first_count row key.way) []) (sym (declared_handed (e ∷ h) all)) nothing_up),
  )

-- a remote that has a row is one of the tables
row_remote : (r : Remote) (rows : List RemoteRow) → has_row remote_rank rows r.0 ≡ true → list_any (λ (row : RemoteRow). is_remote r row.remote) rows ≡ true
row_remote r [] is = is
row_remote r (row ∷ rows) is = elim (cases_Bool (row.remote.0 == r.0)) [
  | inl this ↦ ap (λ (b : Bool). b || list_any (λ (row : RemoteRow). is_remote r row.remote) rows) (eq-eqb r.0 row.remote.0 (sym (eqb-true row.remote.0 r.0 this)))
  | inr other ↦ ap (λ (b : Bool). is_remote r row.remote || b) (row_remote r rows (sym (ap (λ (b : Bool). b || has_row remote_rank rows r.0) other) ∙ is))
      ∙ or_true (is_remote r row.remote)
]
  where
    or_true : (b : Bool) → (b || true) ≡ true
    or_true true = refl
    or_true false = refl

-- at each chain before a line an SDU leads to one target
abbrev AllOnce : List Moment → Type 0
AllOnce ms = AllByRecursion (λ m. LeadsOnce m.before) ms

module _ (laws : HeardLaws) (hearings : HearingLaws) (t : Contents) (apart : TablesApart t) (are : AreTables t) (declared : List Entry)
    (all : AllByRecursion IsDeclaration declared) where
  abbrev history : List Moment → List Entry
  history ms = map entry_of ms ++ declared

  past : (ms : List Moment) (c : Chain) → Passes t ms c → IsPast (history ms) c
  past ms c passes = record { tables = t; are_tables = are; declared = declared; declare = all; moments = ms; are = refl; passes = passes }

  behind_of : (ms : List Moment) (c : Chain) → Passes t ms c → Behind t (history ms) c
  behind_of ms c passes = behind_lines laws t apart are declared all ms c passes

  told_of : (ms : List Moment) (c : Chain) → Passes t ms c → Tells (history ms) c
  told_of ms c passes = told_behind laws t apart are declared all ms c passes

  module _ (row : BearerRow) (key : Key) (its : IsRowOf t key row) where
    -- the key's receiving end is there
    has : has_node t (sink key) ≡ true
    has = by key.way
      where
        by : (way : Way) → has_node t (owner (hearer_of way) (Direct key.remote key.drb)) ≡ true
        by Ul = refl
        by Dl = row_remote key.remote t.remotes (ap (λ (r : Remote). has_row remote_rank t.remotes r.0) (sym its.remote)
            ∙ member (λ (y : BearerRow). has_row remote_rank t.remotes y.remote.0 ≡ true) t.bearers row are.remotes its.among)

    up : (ms : List Moment) (c : Chain) (passes : Passes t ms c) → TellsHandUps ms (history ms) c row key
    up ms c passes = hearings.hand_ups (history ms) c (record { tables = t; are_tables = are; declared = declared; declare = all; moments = ms; are = refl; passes = passes }) row key
        (subst (λ (u : Contents). IsRowOf u key row) (sym (tables_stay t ms c passes)) its)

    size : (ms : List Moment) (c : Chain) → Passes t ms c → (receiving_at c key).receiver.size ≡ row.pdcp
    size ms c passes =
        let u = up ms c passes in
        (hearings.goes_up row.pdcp (first_count row key.way) u.hearings (handed key (history ms)) (receiving_at c key).receiver u.heard).2

    module _ (ms : List Moment) (m : Moment) (new : Chain) (before : Passes t ms m.before) (once : LeadsOnce m.before) where
      has_it : has_node m.before.tables (sink key) ≡ true
      has_it = ap (λ (u : Contents). has_node u (sink key)) (tables_stay t ms m.before before) ∙ has

      -- a line by which the key's receiving end hears none completes none
      line_none : Goes m.before m.entry new → HearsNone key m → (hearing : Hearing) → Completes t row key (history ms) m.entry hearing → ⊥
      line_none (steps s) none hearing z =
          let b = behind_of ms m.before before in
          none_completed laws hearings.one_reading hearings.no_fault t (history ms) m new (told_of ms m.before before) s b.staged (tables_stay t ms m.before before) b.holds once
          row key has_it (size ms m.before before) none hearing z
      line_none (drained line shows is whole) none hearing z =
          completes_none z.hop (history ms) m.entry (none_shown (history ms) m.entry (ap coming line) shows z.hop) z.number z.whole z.completes
      line_none (ended line shows says is) none hearing z =
          completes_none z.hop (history ms) m.entry (none_shown (history ms) m.entry (ap coming line) shows z.hop) z.number z.whole z.completes

      -- what it hears the line completes
      line_completes : Goes m.before m.entry new → (hearing : Hearing) → HearsBy key m hearing → Completes t row key (history ms) m.entry hearing
      line_completes (steps s) hearing y =
          let b = behind_of ms m.before before in
          hears_completes laws hearings.one_reading hearings.no_fault t (history ms) m new (told_of ms m.before before) s b.staged (tables_stay t ms m.before before) b.holds once
          row key has_it (size ms m.before before) hearing y
      line_completes (drained line shows is whole) hearing y = absurd (none-some _ (sym (ap coming line) ∙ y.completes.comes.line))
      line_completes (ended line shows says is) hearing y = absurd (none-some _ (sym (ap coming line) ∙ y.completes.comes.line))

    all_complete : (ms : List Moment) (c : Chain) → Passes t ms c → AllOnce ms → (hs : List Hearing) → HearsEach key ms hs → CompletesAll t row key (history ms) hs
    all_complete [] c passes once hs is = subst (CompletesAll t row key declared) (sym is) (declared_complete t row key declared all)
    all_complete (m ∷ ms) c (before, goes) once hs (inl (none, rest)) = inl (line_none ms m c before once.0 goes none, all_complete ms m.before before once.1 hs rest)
    all_complete (m ∷ ms) c (before, goes) once hs (inr (hearing, earlier, hears, rest, is)) =
        inr (hearing, earlier, line_completes ms m c before once.0 goes hearing hears, all_complete ms m.before before once.1 earlier rest, is)

    -- so at each moment what was handed up is what is to be
    pub exact : (ms : List Moment) (c : Chain) → Passes t ms c → AllOnce ms → HandsUpExactly t row key (map entry_of ms ++ declared)
    exact [] c passes once = declared_exact t row key declared all
    exact (m ∷ ms) c (before, goes) once =
        let u = up (m ∷ ms) c (before, goes) in
        (exact ms m.before before once.1, (u.hearings, all_complete (m ∷ ms) c (before, goes) once u.hearings u.each, u.hand_up))

-- each chain of a run's lines comes up
module _ (t : Contents) (opens : ComesUp (opened t)) where
  comes_up : (ms : List Moment) (c : Chain) → Passes t ms c → ComesUp c
  comes_up [] c is = subst ComesUp (sym is) opens
  comes_up (m ∷ ms) c (before, steps s) = goes_on m.entry.line m.entry.events m.entry.reply (comes_up ms m.before before) s
  comes_up (m ∷ ms) c (before, drained line none is whole) = subst ComesUp (sym is) (comes_up ms m.before before)
  comes_up (m ∷ ms) c (before, ended line none says is) = subst ComesUp (sym is) (comes_up ms m.before before)

  all_once : ((c : Chain) → ComesUp c → LeadsOnce c) → (ms : List Moment) (c : Chain) → Passes t ms c → AllOnce ms
  all_once once [] c passes = tt
  all_once once (m ∷ ms) c (before, goes) = (once m.before (comes_up ms m.before before), all_once once ms m.before before)

pub orderly_hand_ups : HeardLaws → HearingLaws → OrderlyHandUpsAreExact
orderly_hand_ups laws hearings orderly h stage c leads row key its =
    subst (λ (u : Contents). HandsUpExactly u row key (entries h)) (sym tables) (subst (HandsUpExactly p.tables row key) (sym p.are)
    (exact laws hearings p.tables (subst TablesApart tables (comes_hold laws.ports (behind h stage leads)).apart) p.are_tables p.declared p.declare row key
    (subst (λ (u : Contents). IsRowOf u key row) tables its)
    p.moments c p.passes (all_once p.tables (behind l.opens.0 l.opens.1 l.opens.2) once p.moments c p.passes)))
  where
    l : Led h stage c
    l = led h stage c leads

    p : IsPast (entries h) c
    p = l.past

    tables : c.tables ≡ p.tables
    tables = tables_stay p.tables p.moments c p.passes

    once : (c : Chain) → ComesUp c → LeadsOnce c
    once c up name at port sdu a b one other = let o = orderly c up in hearings.one_target c.tables (node_at c name) at port sdu a b o.rows (o.ids name) one other
