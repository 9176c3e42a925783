-- The COUNTs that the receiving end of a key has are those that the history tells as heard.
use Rattle.std.proofs.Common.{◌≡◌, ◌↔◌, inl, inr, ℕ, ◌≤◌, ◌==◌, Bool, true, false, ◌||◌, List, [], ◌∷◌, ◌++◌, map, None, Result, Ok, refl, sym, ◌∙◌, ap, subst}
use Rattle.std.specs.List.{AllByRecursion, list_any}
use Rattle.std.proofs.lemmas.Bool.{cases_Bool, eq-eqb, eqb-true}
use Rattle.std.proofs.lemmas.Option.{none-some, same_Some}
use Rattle.link_base.specs.declared.discard.Discard.{Discard}
use Rattle.link_base.specs.declared.names.Key.{Key}
use Rattle.link_base.specs.declared.names.PortName.TheVariants.{Direct}
use Rattle.link_base.specs.declared.names.Remote.{Remote}
use Rattle.link_base.specs.declared.names.Way.{Way}
use Rattle.link_base.specs.declared.names.Way.TheVariants.{Ul, Dl}
use Rattle.bearer_map.specs.declared.rows.BearerRow.{BearerRow}
use Rattle.bearer_map.specs.declared.rows.RemoteRow.{RemoteRow}
use Rattle.bearer_map.specs.Contents.{Contents, remote_rank}
use Rattle.bearer_map.specs.Order.{has_row}
use Rattle.pdcp_pdu.specs.Pdcp.{Pdcp, Sdu, IsPdcp}
use Rattle.pdcp_model.specs.HandUp.{Hearing, IsHeard as IsHeardOf}
use Rattle.rlc_model.specs.declared.hop.Pdu.{Pdu}
use Rattle.rlc_model.specs.declared.receiver.Heard.TheVariants.{Complete}
use Rattle.rlc_model.specs.Hop.{on_air}
use Rattle.rlc_model.specs.Sides.{hearer_of, sender_of}
use Rattle.script_text.specs.History.{Entry}
use Rattle.node_model.specs.Names.{owner, source, sink, is_remote}
use Rattle.node_model.specs.Routing.{Target, ToPdcp, Leads}
use Rattle.node_model.specs.Tables.{first_count}
use Rattle.chain_model.specs.Book.{handed}
use Rattle.chain_model.specs.Carried.{IsRowOf}
use Rattle.chain_model.specs.Draining.{Moment, entry_of}
use Rattle.chain_model.specs.Heard.{CompletesAt, Completes, CompletesAll, IsHeard}
use Rattle.chain_model.specs.Lines.{hearer}
use Rattle.chain_model.specs.State.{Chain, receiving_at}
use Rattle.chain_model.specs.Steps.{Step}
use Rattle.chain_law.proofs.Tables.{TablesApart}
use Rattle.book_law.specs.Hearings.{coming, HearsBy, HearsNone, HearsEach}
use Rattle.book_law.specs.Honest.{HasCount}
use Rattle.book_law.specs.Laws.{HasWhatWasHeard, TellsHandUps}
use Rattle.book_law.specs.Past.{Goes, steps, drained, ended, Passes, IsDeclaration, AreTables}
use Rattle.book_law.proofs.Opened.{member}
use Rattle.book_law.proofs.Tables.{tables_stay}
use Rattle.heard_law.specs.Foundations.{HeardLaws, HearingLaws}
use Rattle.heard_law.specs.Receiving.{hop_at}
use Rattle.heard_law.specs.Telling.{has_node}
use Rattle.heard_law.proofs.Completing.{is_data, completes_only, completes_answered}
use Rattle.heard_law.proofs.Hops.{completes_none}
use Rattle.heard_law.proofs.Keys.{LeadsOnce, hears_completes, completes_hears, none_completed}
use Rattle.heard_law.proofs.Logged.{none_declared, none_shown, behind_lines, told_behind}

abbrev body_in : Result Target Discard → List ℕ
body_in (Ok (ToPdcp key body)) = body
body_in target = []

abbrev sn_in : Pdcp → ℕ
sn_in (Sdu sn sdu) = sn
sn_in other = 0

abbrev sdu_in : Pdcp → List ℕ
sdu_in (Sdu sn sdu) = sdu
sdu_in other = []

-- a remote that has a row is one of the tables
row_remote : (r : Remote) (rows : List RemoteRow) → has_row remote_rank rows r.0 ≡ true → list_any (λ (row : RemoteRow). is_remote r row.remote) rows ≡ true
row_remote r [] is = is
row_remote r (row ∷ rows) is = elim (cases_Bool (row.remote.0 == r.0)) [
  | inl this ↦ ap (λ (b : Bool). b || list_any (λ (row : RemoteRow). is_remote r row.remote) rows) (eq-eqb r.0 row.remote.0 (sym (eqb-true row.remote.0 r.0 this)))
  | inr other ↦ ap (λ (b : Bool). is_remote r row.remote || b) (row_remote r rows (sym (ap (λ (b : Bool). b || has_row remote_rank rows r.0) other) ∙ is))
      ∙ or_true (is_remote r row.remote)
]
  where
    or_true : (b : Bool) → (b || true) ≡ true
    or_true true = refl
    or_true false = refl

-- each end of a key of the tables is there
module _ (t : Contents) (are : AreTables t) (row : BearerRow) (key : Key) (its : IsRowOf t key row) where
  has_remote_row : list_any (λ (x : RemoteRow). is_remote key.remote x.remote) t.remotes ≡ true
  has_remote_row = row_remote key.remote t.remotes (ap (λ (r : Remote). has_row remote_rank t.remotes r.0) (sym its.remote)
      ∙ member (λ (y : BearerRow). has_row remote_rank t.remotes y.remote.0 ≡ true) t.bearers row are.remotes its.among)

  pub has_sink : has_node t (sink key) ≡ true
  has_sink = by key.way
    where
      by : (way : Way) → has_node t (owner (hearer_of way) (Direct key.remote key.drb)) ≡ true
      by Ul = refl
      by Dl = has_remote_row

  pub has_source : has_node t (source key) ≡ true
  has_source = by key.way
    where
      by : (way : Way) → has_node t (owner (sender_of way) (Direct key.remote key.drb)) ≡ true
      by Ul = has_remote_row
      by Dl = refl

-- at each chain before a line an SDU leads to one target
abbrev pub AllOnce : List Moment → Type 0
AllOnce ms = AllByRecursion (λ m. LeadsOnce m.before) ms

module _ (laws : HeardLaws) (hearings : HearingLaws) (t : Contents) (apart : TablesApart t) (are : AreTables t) (declared : List Entry)
    (all : AllByRecursion IsDeclaration declared) (row : BearerRow) (key : Key) (its : IsRowOf t key row) where
  abbrev history : List Moment → List Entry
  history ms = map entry_of ms ++ declared

  up : (ms : List Moment) (c : Chain) (passes : Passes t ms c) → TellsHandUps ms (history ms) c row key
  up ms c passes = hearings.hand_ups (history ms) c (record { tables = t; are_tables = are; declared = declared; declare = all; moments = ms; are = refl; passes = passes }) row key
      (subst (λ (u : Contents). IsRowOf u key row) (sym (tables_stay t ms c passes)) its)

  pub size_of : (ms : List Moment) (c : Chain) → Passes t ms c → (receiving_at c key).receiver.size ≡ row.pdcp
  size_of ms c passes =
      let u = up ms c passes in
      (hearings.goes_up row.pdcp (first_count row key.way) u.hearings (handed key (history ms)) (receiving_at c key).receiver u.heard).2

  module _ (ms : List Moment) (m : Moment) (new : Chain) (before : Passes t ms m.before) (once : LeadsOnce m.before) where
    has : has_node m.before.tables (sink key) ≡ true
    has = ap (λ (u : Contents). has_node u (sink key)) (tables_stay t ms m.before before) ∙ has_sink t are row key its

    module _ (s : Step m.before m.entry.line m.entry.events m.entry.reply new) where
      hears : (hearing : Hearing) → Completes t row key (history ms) m.entry hearing → HearsBy key m hearing
      hears hearing z =
          let b = behind_lines laws t apart are declared all ms m.before before in
          completes_hears laws hearings.one_reading hearings.no_fault t (history ms) m new (told_behind laws t apart are declared all ms m.before before) s b.staged
          (tables_stay t ms m.before before) b.holds once row key has (size_of ms m.before before) hearing z

      -- the line brings one data PDU to the receiving end
      module _ (a b : Hearing) (x : HearsBy key m a) (y : HearsBy key m b) where
        tables : m.before.tables ≡ t
        tables = tables_stay t ms m.before before

        abbrev pdu : Pdu
        pdu = x.completes.comes.pdu

        same : y.completes.comes.pdu ≡ x.completes.comes.pdu
        same = same_Some _ _ (sym y.completes.comes.shown ∙ ap (on_air m.before.air) (same_Some _ _ (sym y.completes.comes.line ∙ x.completes.comes.line))
            ∙ x.completes.comes.shown)

        completed : CompletesAt (hop_at t y.completes.comes.pdu.port y.completes.comes.pdu.way y.completes.comes.pdu.epoch) (history ms) m.entry y.completes.number y.completes.whole
        completed =
            let behind = behind_lines laws t apart are declared all ms m.before before in
            completes_answered laws t (history ms) m tables behind.holds y.completes.comes new (told_behind laws t apart are declared all ms m.before before) s behind.staged
            (is_data laws t (history ms) m tables behind.holds y.completes.comes (Complete y.completes.number y.completes.whole) refl) y.completes.number y.completes.whole refl

        only : (y.completes.number ≡ x.completes.number) × (y.completes.whole ≡ x.completes.whole)
        only =
            let behind = behind_lines laws t apart are declared all ms m.before before in
            completes_only laws t (history ms) m tables behind.holds x.completes.comes new (told_behind laws t apart are declared all ms m.before before) s behind.staged
            (is_data laws t (history ms) m tables behind.holds x.completes.comes (Complete x.completes.number x.completes.whole) refl) y.completes.number y.completes.whole
            (subst (λ (p : Pdu). CompletesAt (hop_at t p.port p.way p.epoch) (history ms) m.entry y.completes.number y.completes.whole) same completed)

        same_body : y.body ≡ x.body
        same_body = sym (ap body_in (once (owner (hearer_of pdu.way) pdu.port) (hearer_of pdu.way) pdu.port x.completes.whole
            (Ok (ToPdcp key x.body)) (Ok (ToPdcp key y.body)) x.completes.leads
            (subst (λ (sdu : List ℕ). Leads m.before.tables (hearer pdu m.before) (hearer_of pdu.way) pdu.port sdu (Ok (ToPdcp key y.body))) only.1
            (subst (λ (p : Pdu). Leads m.before.tables (hearer p m.before) (hearer_of p.way) p.port y.completes.whole (Ok (ToPdcp key y.body))) same y.completes.leads))))

        one_hearing : a ≡ b
        one_hearing =
            let z = (receiving_at m.before key).receiver.size in
            let one : Sdu a.sn a.sdu ≡ Sdu b.sn b.sdu = hearings.one_reading z (Sdu a.sn a.sdu) (Sdu b.sn b.sdu) x.body x.reads
            (subst (IsPdcp z (Sdu b.sn b.sdu)) same_body y.reads) in
            ap (λ (n : ℕ). record { sn = n; sdu = a.sdu }) (ap sn_in one) ∙ ap (λ (l : List ℕ). record { sn = b.sn; sdu = l }) (ap sdu_in one)

    -- a line that changes nothing completes nothing
    silent : coming m.entry.line ≡ None → m.entry.events ≡ [] → (hearing : Hearing) → Completes t row key (history ms) m.entry hearing → ⊥
    silent line shows hearing z = completes_none z.hop (history ms) m.entry (none_shown (history ms) m.entry line shows z.hop) z.number z.whole z.completes

    one_of : Goes m.before m.entry new → (a b : Hearing) → Completes t row key (history ms) m.entry a → Completes t row key (history ms) m.entry b → a ≡ b
    one_of (steps s) a b x y = one_hearing s a b (hears s a x) (hears s b y)
    one_of (drained line shows is whole) a b x y = absurd (silent (ap coming line) shows a x)
    one_of (ended line shows says is) a b x y = absurd (silent (ap coming line) shows a x)

    line_none : Goes m.before m.entry new → HearsNone key m → (hearing : Hearing) → Completes t row key (history ms) m.entry hearing → ⊥
    line_none (steps s) none hearing z =
        let b = behind_lines laws t apart are declared all ms m.before before in
        none_completed laws hearings.one_reading hearings.no_fault t (history ms) m new (told_behind laws t apart are declared all ms m.before before) s b.staged
        (tables_stay t ms m.before before) b.holds once row key has (size_of ms m.before before) none hearing z
    line_none (drained line shows is whole) none hearing z = silent (ap coming line) shows hearing z
    line_none (ended line shows says is) none hearing z = silent (ap coming line) shows hearing z

    line_completes : Goes m.before m.entry new → (hearing : Hearing) → HearsBy key m hearing → Completes t row key (history ms) m.entry hearing
    line_completes (steps s) hearing y =
        let b = behind_lines laws t apart are declared all ms m.before before in
        hears_completes laws hearings.one_reading hearings.no_fault t (history ms) m new (told_behind laws t apart are declared all ms m.before before) s b.staged
        (tables_stay t ms m.before before) b.holds once row key has (size_of ms m.before before) hearing y
    line_completes (drained line shows is whole) hearing y = absurd (none-some _ (sym (ap coming line) ∙ y.completes.comes.line))
    line_completes (ended line shows says is) hearing y = absurd (none-some _ (sym (ap coming line) ∙ y.completes.comes.line))

  -- lines that declare tables complete nothing
  none_by_declared : (e : Entry) (h : List Entry) → AllByRecursion IsDeclaration (e ∷ h) → (hearing : Hearing) → Completes t row key h e hearing → ⊥
  none_by_declared e h every hearing z = completes_none z.hop h e (λ number fields now. none_declared z.hop (e ∷ h) every number fields (inl now)) z.number z.whole z.completes

  declared_complete : (h : List Entry) → AllByRecursion IsDeclaration h → CompletesAll t row key h []
  declared_complete [] every = refl
  declared_complete (e ∷ h) every = inl (none_by_declared e h every, declared_complete h every.1)

  declared_one : (h : List Entry) → AllByRecursion IsDeclaration h → (hs : List Hearing) → CompletesAll t row key h hs → hs ≡ []
  declared_one [] every hs is = is
  declared_one (e ∷ h) every hs (inl (none, rest)) = declared_one h every.1 hs rest
  declared_one (e ∷ h) every hs (inr (hearing, earlier, z, rest, is)) = absurd (none_by_declared e h every hearing z)

  all_complete : (ms : List Moment) (c : Chain) → Passes t ms c → AllOnce ms → (hs : List Hearing) → HearsEach key ms hs → CompletesAll t row key (history ms) hs
  all_complete [] c passes once hs is = subst (CompletesAll t row key declared) (sym is) (declared_complete declared all)
  all_complete (m ∷ ms) c (before, goes) once hs (inl (none, rest)) = inl (line_none ms m c before once.0 goes none, all_complete ms m.before before once.1 hs rest)
  all_complete (m ∷ ms) c (before, goes) once hs (inr (hearing, earlier, heard, rest, is)) =
      inr (hearing, earlier, line_completes ms m c before once.0 goes hearing heard, all_complete ms m.before before once.1 earlier rest, is)

  -- there is one list of what the lines complete
  one_list : (ms : List Moment) (c : Chain) → Passes t ms c → AllOnce ms → (hs us : List Hearing) → CompletesAll t row key (history ms) hs → CompletesAll t row key (history ms) us
      → hs ≡ us
  one_list [] c passes once hs us x y = declared_one declared all hs x ∙ sym (declared_one declared all us y)
  one_list (m ∷ ms) c (before, goes) once hs us (inl (none, rest)) (inl (other, more)) = one_list ms m.before before once.1 hs us rest more
  one_list (m ∷ ms) c (before, goes) once hs us (inl (none, rest)) (inr (b, others, z, more, is)) = absurd (none b z)
  one_list (m ∷ ms) c (before, goes) once hs us (inr (a, earlier, z, rest, is)) (inl (none, more)) = absurd (none a z)
  one_list (m ∷ ms) c (before, goes) once hs us (inr (a, earlier, x, rest, is)) (inr (b, others, y, more, are_these)) =
      is ∙ ap (λ (h : Hearing). h ∷ earlier) (one_of ms m c before once.0 goes a b x y) ∙ ap (λ (l : List Hearing). b ∷ l) (one_list ms m.before before once.1 earlier others rest more)
      ∙ sym are_these

  -- so the receiving end has a COUNT exactly where it is told as heard
  pub has_heard : HasWhatWasHeard → (ms : List Moment) (c : Chain) → Passes t ms c → AllOnce ms → (count : ℕ) → first_count row key.way ≤ count
      → HasCount (receiving_at c key).receiver count ↔ IsHeard t row key (history ms) count
  has_heard having ms c passes once count low =
      let u = up ms c passes in
      let complete = all_complete ms c passes once u.hearings u.each in
      let has = having row.pdcp (first_count row key.way) u.hearings (handed key (history ms)) (receiving_at c key).receiver u.heard count low in (
        λ counted. (u.hearings, complete, has.0 counted),
        λ heard. has.1 (subst (λ (hs : List Hearing). IsHeardOf row.pdcp (first_count row key.way) hs count) (one_list ms c passes once heard.0 u.hearings heard.1 complete) heard.2),
      )
