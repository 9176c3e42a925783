-- The tables that the lines of a run declare are such that items can stand for their chains; and a run that hasn't come behind its tables has done nothing.
use Rattle.std.proofs.Common.{◌≡◌, ◌==◌, ◌<◌, ◌≤◌, ◌&&◌, true, false, List, [], ◌∷◌, ◌++◌, Some, option_map, append-nil, refl, sym, ◌∙◌, ap, arith}
use Rattle.std.specs.List.{AllByRecursion}
use Rattle.std.proofs.lemmas.Bool.{and_parts, eqb-true}
use Rattle.link_base.specs.declared.limits.TheConstants.{COUNT_END}
use Rattle.link_base.specs.declared.names.Drb.{Drb}
use Rattle.link_base.specs.declared.names.Goal.TheVariants.{Relay as ToRelay}
use Rattle.link_base.specs.declared.names.Key.{Key}
use Rattle.link_base.specs.declared.names.LocalId.{LocalId}
use Rattle.link_base.specs.declared.names.Remote.{Remote}
use Rattle.link_base.specs.declared.names.Way.{Way}
use Rattle.link_base.specs.declared.names.Way.TheVariants.{Ul, Dl}
use Rattle.bearer_map.specs.Contents.{Contents}
use Rattle.bearer_map.specs.declared.rows.BearerRow.{BearerRow}
use Rattle.script_text.specs.declared.line.Line.{Line}
use Rattle.script_text.specs.declared.line.Line.TheVariants.{Submit}
use Rattle.script_text.specs.declared.reply.Reply.TheVariants.{Ok}
use Rattle.script_text.specs.declared.stage.Part.{Part}
use Rattle.script_text.specs.declared.stage.Part.TheVariants.{Start as AtStart, Tables, Running, Ended}
use Rattle.script_text.specs.declared.stage.ScriptStage.{ScriptStage}
use Rattle.script_text.specs.History.{Entry}
use Rattle.script_text.specs.Lines.{part_of}
use Rattle.script_text.specs.Stages.{is_past_go}
use Rattle.node_model.specs.Names.{is_remote}
use Rattle.node_model.specs.Tables.{first_count, has_bearer, map_row}
use Rattle.node_model.proofs.Finding.{each_found, find_passes}
use Rattle.chain_model.specs.Book.{submitted, handed, accepted, ups}
use Rattle.chain_model.specs.Runs.{Turn, entries, contents, LeadsTo, Turns}
use Rattle.chain_model.specs.State.{Chain, opened}
use Rattle.chain_model.specs.Told.{first_goal}
use Rattle.chain_law.proofs.Members.{contained, passes_any}
use Rattle.book_law.specs.Past.{IsDeclaration, IsPast}
use Rattle.book_law.proofs.Led.{led}
use Rattle.book_law.proofs.Opened.{member}
use Rattle.table_law.specs.Declared.{IsBearer, IsMap, AreDeclared}
use Rattle.table_law.specs.Laws.{MapsBeginning}
use Rattle.item_law.specs.State.{HasRow}
use Rattle.item_chain.specs.Stands.{row_of, uu_of, item_tables, TablesGood}
use Rattle.item_chain.proofs.Receives.{some_is}
use Rattle.item_chain.proofs.Unrouted.{find_among}

module _ (t : Contents) (are : AreDeclared t) where
  -- a row that is found is a bearer's
  its_bearer : (remote : Remote) (drb : Drb) (row : BearerRow) → row_of t remote drb ≡ Some row → IsBearer t row
  its_bearer remote drb row found = each_found (IsBearer t) (λ (b : BearerRow). is_remote remote b.remote && (drb.0 == b.drb.0)) t.bearers row are.bearers found

  its_drb : (remote : Remote) (drb : Drb) (row : BearerRow) → row_of t remote drb ≡ Some row → (1 ≤ drb.0) × (drb.0 ≤ 32)
  its_drb remote drb row found =
      let pass = and_parts (is_remote remote row.remote) (drb.0 == row.drb.0)
      (find_passes (λ (b : BearerRow). is_remote remote b.remote && (drb.0 == b.drb.0)) t.bearers row found) in
      let same = eqb-true drb.0 row.drb.0 pass.1 in
      let from = (its_bearer remote drb row found).drb in
      (omega (arith, same, from.0), omega (arith, same, from.1))

  its_counts : (row : BearerRow) → (row.first_ul < COUNT_END) × (row.first_dl < COUNT_END) → (way : Way) → first_count row way ≤ COUNT_END
  its_counts row counts Ul = omega (arith, counts.0)
  its_counts row counts Dl = omega (arith, counts.1)

  mapped : MapsBeginning t → (remote : Remote) (drb : Drb) (id : LocalId) → first_goal t remote ≡ ToRelay id → (item_tables t).bearer remote drb ≡ true
      → HasRow (item_tables t) remote drb
  mapped begins remote drb id goal has =
      let test = λ (b : BearerRow). is_remote remote b.remote && (drb.0 == b.drb.0) in
      let found = some_is (row_of t remote drb) has in
      let there : has_bearer t remote drb ≡ true = passes_any test t.bearers found.0 (contained t.bearers found.0 (find_among test t.bearers found.0 found.1))
      (find_passes test t.bearers found.0 found.1) in
      let row = some_is (map_row t remote drb) (begins remote id goal drb there) in
      record { chan = row.0.uu; is = ap (option_map uu_of) row.1 }

  pub good : MapsBeginning t → TablesGood t
  good begins = record {
    fit = record { apart = are.paths; rows = λ r d u goal has. mapped begins r d u goal has };
    drbs = its_drb;
    firsts = λ remote drb row found way. its_counts row (its_bearer remote drb row found).counts way;
    maps = λ row among. (member (IsMap t) t.maps row are.maps among).only;
    uus = λ row among. (member (IsMap t) t.maps row are.maps among).channels.uu;
    mapped = λ row among. (member (IsMap t) t.maps row are.maps among).drb.1;
  }

-- before go nothing has happened to the chain that the tables open
pub begins : (h : List Turn) (stage : ScriptStage) (c : Chain) → LeadsTo h stage c → is_past_go stage.part ≡ false → c ≡ opened (contents stage)
begins [] stage c leads not_yet = leads.1 ∙ ap (λ (s : ScriptStage). opened (contents s)) (sym leads.0)
begins (t ∷ h) stage c leads not_yet = by (part_of t.entry.line) refl leads.4
  where
    by : (part : Part) → part_of t.entry.line ≡ part → Turns part stage leads.1 t c → c ≡ opened (contents stage)
    by Running is b = absurd (((led (t ∷ h) stage c leads).yet not_yet).0.part is)
    by AtStart is d = d.3
    by Tables is d = d.3
    by Ended is d = d.3

pub past_before : (h : List Turn) (stage : ScriptStage) (c : Chain) → LeadsTo h stage c → is_past_go stage.part ≡ false → (past : IsPast (entries h) c) × (past.moments ≡ [])
past_before h stage c leads not_yet =
    let l = led h stage c leads in (
      record {
        tables = contents stage;
        are_tables = l.are_tables;
        declared = entries h;
        declare = l.yet not_yet;
        moments = [];
        are = refl;
        passes = begins h stage c leads not_yet;
      },
      refl,
    )

pub all_declared : (h : List Turn) (stage : ScriptStage) (c : Chain) → LeadsTo h stage c → is_past_go stage.part ≡ false → AllByRecursion IsDeclaration (entries h)
all_declared h stage c leads not_yet = (led h stage c leads).yet not_yet

-- lines of the tables submit nothing and hand nothing up
accepted_ok : (key : Key) (line : Line) → accepted key line Ok ≡ []
accepted_ok key (Submit of sdu) = refl
accepted_ok key line = refl

pub none_submitted : (key : Key) (h : List Entry) → AllByRecursion IsDeclaration h → submitted key h ≡ []
none_submitted key [] all = refl
none_submitted key (e ∷ h) all = ap (λ l. submitted key h ++ l) (ap (accepted key e.line) all.0.says ∙ accepted_ok key e.line) ∙ append-nil (submitted key h)
    ∙ none_submitted key h all.1

pub none_handed : (key : Key) (h : List Entry) → AllByRecursion IsDeclaration h → handed key h ≡ []
none_handed key [] all = refl
none_handed key (e ∷ h) all = ap (λ l. handed key h ++ ups key l) all.0.shows ∙ append-nil (handed key h) ∙ none_handed key h all.1
