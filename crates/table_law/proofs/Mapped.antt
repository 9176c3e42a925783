-- Behind the end of the tables each bearer that may go over the relay is mapped.
use Rattle.std.proofs.Common.{◌≡◌, ◌⊎◌, inl, inr, ◌==◌, Bool, true, false, cond, not, ◌&&◌, ◌||◌, Ok, Err, refl, sym, ◌∙◌, ap, subst, arith}
use Rattle.std.proofs.lemmas.Bool.{and_parts, eqb-true, eq-eqb, or_cases, false≢true, true≢false}
use Rattle.std.proofs.lemmas.Option.{none-some}
use Rattle.link_base.specs.declared.names.Goal.TheVariants.{Relay}
use Rattle.link_base.specs.declared.names.LocalId.{LocalId}
use Rattle.link_base.specs.declared.names.Remote.{Remote}
use Rattle.bearer_map.specs.declared.rows.BearerRow.{BearerRow}
use Rattle.bearer_map.specs.declared.rows.MapRow.{MapRow}
use Rattle.bearer_map.specs.declared.rows.RemoteRow.{RemoteRow}
use Rattle.bearer_map.specs.declared.rows.TableFault.TheVariants.{NoMap}
use Rattle.bearer_map.specs.Contents.{Contents, bearer_rank, map_rank}
use Rattle.bearer_map.specs.Lines.{begins_direct, has_each_map, is_mapped}
use Rattle.bearer_map.specs.Order.{has_row}
use Rattle.script_text.specs.declared.line.Line.{Line}
use Rattle.script_text.specs.declared.line.Line.TheVariants.{Version, Set, Remote as RemoteLine, Bearer, Uu, Pc5, Map, Start, Path, Go, End}
use Rattle.script_text.specs.declared.stage.Part.{Part}
use Rattle.script_text.specs.declared.stage.Part.TheVariants.{Start as AtStart, Tables, Running, Ended}
use Rattle.script_text.specs.declared.stage.ScriptStage.{ScriptStage}
use Rattle.script_text.specs.Lines.{part_of}
use Rattle.script_text.specs.Stages.{after, is_past_go, part_after, table_line}
use Rattle.node_model.specs.Names.{is_remote}
use Rattle.node_model.proofs.Names.{remote_is}
use Rattle.chain_model.specs.Runs.{contents}
use Rattle.chain_model.specs.Told.{first_goal}
use Rattle.chain_law.proofs.Members.{IsIn, one_passes}
use Rattle.chain_law.proofs.Tables.{stage_part}
use Rattle.table_law.specs.Declared.{AreDeclared, IsBearer, IsMap, IsMapped}
use Rattle.table_law.proofs.Rows.{each_in, each_passes, passes_found, row_of_rank, row_on, same_names, same_pair}
use Rattle.table_law.proofs.Stages.{value, taken, stage_gives, stage_runs}

-- the test by which tables end
abbrev pub PassesEnd : Contents → Type 0
PassesEnd t = is_mapped t.remotes t.bearers t.maps ≡ true

-- a remote all of whose bearers have rows by their ranks is mapped
pub each_is_mapped : (t : Contents) → AreDeclared t → (remote : Remote) → has_each_map remote t.bearers t.maps ≡ true → IsMapped t remote
each_is_mapped t are remote all drb has =
    let found = one_passes (λ (row : BearerRow). is_remote remote row.remote && (drb.0 == row.drb.0)) t.bearers has in
    let names = and_parts (is_remote remote found.0.remote) (drb.0 == found.0.drb.0) found.2 in
    let first = ap (λ (q : Remote). q.0) (remote_is remote found.0.remote names.0) in
    let second = eqb-true drb.0 found.0.drb.0 names.1 in
    let row : (row : MapRow) × IsIn t.maps row × (map_rank row ≡ bearer_rank found.0) = row_of_rank map_rank t.maps (bearer_rank found.0) (elim (or_cases
    (not (found.0.remote.0 == remote.0)) (has_row map_rank t.maps (bearer_rank found.0))
    (each_passes (λ (x : BearerRow). not (x.remote.0 == remote.0) || has_row map_rank t.maps (bearer_rank x)) t.bearers found.0 all found.1)) [
      | inl other ↦ absurd (true≢false (sym other ∙ ap not (eq-eqb found.0.remote.0 remote.0 (sym first))))
      | inr there ↦ there
    ]) in
    let low = (each_in (IsBearer t) t.bearers found.0 are.bearers found.1).drb in
    let its = (each_in (IsMap t) t.maps row.0 are.maps row.1).drb in
    let same = same_pair found.0.remote.0 found.0.drb.0 row.0.remote.0 row.0.drb.0 (omega (arith, low.1)) (omega (arith, its.1)) (sym row.2) in
    passes_found (λ (x : MapRow). is_remote remote x.remote && (drb.0 == x.drb.0)) t.maps row.0 row.1
    (same_names remote.0 drb.0 row.0.remote.0 row.0.drb.0 (first ∙ same.0) (second ∙ same.1))

-- a row of a remote that begins on the relay
pub row_maps : (t : Contents) → PassesEnd t → (row : RemoteRow) → IsIn t.remotes row → (id : LocalId) → row.goal ≡ Relay id → has_each_map row.remote t.bearers t.maps ≡ true
row_maps t ends row among id is = elim (or_cases (begins_direct row.goal) (has_each_map row.remote t.bearers t.maps)
    (each_passes (λ (x : RemoteRow). begins_direct x.goal || has_each_map x.remote t.bearers t.maps) t.remotes row ends among)) [
      | inl direct ↦ absurd (true≢false (sym direct ∙ ap begins_direct is))
      | inr all ↦ all
    ]

pub begins_mapped : (t : Contents) → AreDeclared t → PassesEnd t → (remote : Remote) (id : LocalId) → first_goal t remote ≡ Relay id → IsMapped t remote
begins_mapped t are ends remote id is =
    let on = row_on t remote id is in
    subst (IsMapped t) on.2 (each_is_mapped t are on.0.remote (row_maps t ends on.0 on.1 id on.3))

-- a line before go is go, or leaves its part before go
stays_before : (line : Line) (part : Part) → is_past_go (part_of line) ≡ false → is_past_go part ≡ false → (line ≡ Go) ⊎ (is_past_go (part_after part line) ≡ false)
stays_before (Version number) part line before = inr refl
stays_before Go part line before = inl refl
stays_before End part line before = absurd (true≢false line)
stays_before line part is before = inr before

-- no line stands behind the end
abbrev is_ended : Part → Bool
is_ended Ended = true
is_ended part = false

none_ends : (line : Line) → is_ended (part_of line) ≡ false
none_ends (Version number) = refl
none_ends (Set setting value) = refl
none_ends (RemoteLine r) = refl
none_ends (Bearer r d pdcp direct) = refl
none_ends (Uu c size) = refl
none_ends (Pc5 r c size) = refl
none_ends (Map r d pc5 uu) = refl
none_ends (Start key first) = refl
none_ends (Path r goal) = refl
none_ends Go = refl
none_ends line = refl

go_gives : (t new : Contents) → table_line t Go ≡ Ok new → PassesEnd new
go_gives t new = by (is_mapped t.remotes t.bearers t.maps) refl
  where
    by : (b : Bool) → is_mapped t.remotes t.bearers t.maps ≡ b → cond b (Ok t) (Err NoMap) ≡ Ok new → PassesEnd new
    by true is e = subst PassesEnd (taken t new e) is
    by false is e = absurd (none-some new (ap value e))

-- behind each line behind go the tables have passed their end
pub stage_mapped : (line : Line) (old new : ScriptStage) → part_of line ≡ old.part → after old line ≡ Ok new → (is_past_go old.part ≡ true → PassesEnd (contents old))
    → is_past_go new.part ≡ true → PassesEnd (contents new)
stage_mapped line old new stands enters was past = by (is_past_go old.part) refl
  where
    part : new.part ≡ part_after old.part line
    part = stage_part old line new enters

    first : is_past_go old.part ≡ false → PassesEnd (contents new)
    first before = elim (stays_before line old.part (ap is_past_go stands ∙ before) before) [
      | inl go ↦ stage_gives (λ old new. PassesEnd new) refl Go go_gives old new (ap (after old) (sym go) ∙ enters)
      | inr still ↦ absurd (true≢false (sym past ∙ ap is_past_go part ∙ still))
    ]

    later : is_past_go old.part ≡ true → PassesEnd (contents new)
    later behind = again (part_of line) refl
      where
        again : (p : Part) → part_of line ≡ p → PassesEnd (contents new)
        again Running is = subst PassesEnd (sym (stage_runs line is old new enters)) (was behind)
        again AtStart is = absurd (false≢true (ap is_past_go (sym is ∙ stands) ∙ behind))
        again Tables is = absurd (false≢true (ap is_past_go (sym is ∙ stands) ∙ behind))
        again Ended is = absurd (false≢true (sym (none_ends line) ∙ ap is_ended is))

    by : (b : Bool) → is_past_go old.part ≡ b → PassesEnd (contents new)
    by true is = later is
    by false is = first is
