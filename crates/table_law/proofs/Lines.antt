-- Each line of the tables keeps what is asked of rows.
use Rattle.std.proofs.Common.{◌≡◌, ℕ, ◌≤◌, ◌==◌, Bool, true, false, cond, not, ◌&&◌, ◌||◌, List, length, map, nat_le, is_some, Ok, Err, refl, ◌∙◌, ap, subst, arith}
use Rattle.std.specs.List.{AllByRecursion}
use Rattle.std.proofs.lemmas.Bool.{and_parts, leb-true, not-false}
use Rattle.std.proofs.lemmas.Option.{none-some}
use Rattle.link_base.specs.declared.names.Goal.{Goal}
use Rattle.link_base.specs.declared.names.Goal.TheVariants.{Direct}
use Rattle.link_base.specs.declared.names.Key.{Key}
use Rattle.link_base.specs.declared.names.Remote.{Remote}
use Rattle.link_base.specs.declared.names.Way.{Way}
use Rattle.link_base.specs.declared.names.Way.TheVariants.{Ul, Dl}
use Rattle.bearer_map.specs.declared.rows.BearerRow.{BearerRow}
use Rattle.bearer_map.specs.declared.rows.MapRow.{MapRow}
use Rattle.bearer_map.specs.declared.rows.Pc5Row.{Pc5Row}
use Rattle.bearer_map.specs.declared.rows.RemoteRow.{RemoteRow}
use Rattle.bearer_map.specs.declared.rows.TableFault.TheVariants.{NoMap}
use Rattle.bearer_map.specs.declared.rows.UuRow.{UuRow}
use Rattle.bearer_map.specs.Contents.{Contents, nothing, bearer_rank, bearers_of, key_rank, map_rank, name_rank, pair, pc5_rank, remote_rank, uu_rank}
use Rattle.bearer_map.specs.Order.{has_row, in_order}
use Rattle.bearer_map.specs.Settings.{choice_of, choose, is_setting}
use Rattle.bearer_map.specs.Lines.{begins_at, goes_to, is_chan, is_drb, is_mapped, is_remote, is_size, is_taken, named_key, sn_size_of, with_first}
use Rattle.script_text.specs.declared.line.Line.{Line}
use Rattle.script_text.specs.declared.line.Line.TheVariants.{Set, Remote as RemoteLine, Bearer, Uu, Pc5, Map, Start, Path, Go}
use Rattle.script_text.specs.declared.stage.ScriptStage.{ScriptStage}
use Rattle.script_text.specs.Stages.{after, sn_bits, table_line}
use Rattle.node_bearers.specs.Calls.{HasCounts}
use Rattle.node_model.proofs.Finding.{each_map}
use Rattle.chain_model.specs.Runs.{contents}
use Rattle.chain_law.proofs.Pairs.{each_in_order, each_then, row_stays, row_mapped}
use Rattle.table_law.proofs.Stages.{value, past, taken, stage_gives}

-- what the lines test of a remote
abbrev pub IsNamed : RemoteRow → Type 0
IsNamed row = is_remote row.remote.0 ≡ true

-- of a bearer, whose first COUNTs are COUNTs
pub record IsBearerRow (t : Contents) (row : BearerRow) : Type 0 where
  pub remote : has_row remote_rank t.remotes row.remote.0 ≡ true
  pub drb : is_drb row.drb.0 ≡ true
  pub counts : HasCounts row

-- of a Uu channel
abbrev pub IsUuRow : UuRow → Type 0
IsUuRow row = is_chan row.chan.0 ≡ true

-- of a PC5 channel
pub record IsPc5Row (t : Contents) (row : Pc5Row) : Type 0 where
  pub remote : has_row remote_rank t.remotes row.remote.0 ≡ true
  pub chan : is_chan row.chan.0 ≡ true

-- of a map row
pub record IsMapRow (t : Contents) (row : MapRow) : Type 0 where
  pub drb : is_drb row.drb.0 ≡ true
  pub pc5 : is_chan row.pc5.0 ≡ true
  pub uu : is_chan row.uu.0 ≡ true
  pub its_remote : has_row remote_rank t.remotes row.remote.0 ≡ true
  pub its_bearer : has_row bearer_rank t.bearers (pair row.remote.0 row.drb.0) ≡ true
  pub its_pc5 : has_row pc5_rank t.pc5s (pair row.remote.0 row.pc5.0) ≡ true
  pub its_uu : has_row uu_rank t.uus row.uu.0 ≡ true

-- all rows of tables passed the tests
pub record AreTested (t : Contents) : Type 0 where
  pub remotes : AllByRecursion IsNamed t.remotes
  pub bearers : AllByRecursion (IsBearerRow t) t.bearers
  pub uus : AllByRecursion IsUuRow t.uus
  pub pc5s : AllByRecursion (IsPc5Row t) t.pc5s
  pub maps : AllByRecursion (IsMapRow t) t.maps

-- names that are declared stay so
record Grows (old new : Contents) : Type 0 where
  pub remotes : (n : ℕ) → has_row remote_rank old.remotes n ≡ true → has_row remote_rank new.remotes n ≡ true
  pub bearers : (n : ℕ) → has_row bearer_rank old.bearers n ≡ true → has_row bearer_rank new.bearers n ≡ true
  pub pc5s : (n : ℕ) → has_row pc5_rank old.pc5s n ≡ true → has_row pc5_rank new.pc5s n ≡ true
  pub uus : (n : ℕ) → has_row uu_rank old.uus n ≡ true → has_row uu_rank new.uus n ≡ true

-- tables that differ in other rows alone have the same names
alike : (t u : Contents) → u.remotes ≡ t.remotes → u.bearers ≡ t.bearers → u.pc5s ≡ t.pc5s → u.uus ≡ t.uus → Grows t u
alike t u remotes bearers pc5s uus = record {
  remotes = λ n is. ap (λ (rows : List RemoteRow). has_row remote_rank rows n) remotes ∙ is;
  bearers = λ n is. ap (λ (rows : List BearerRow). has_row bearer_rank rows n) bearers ∙ is;
  pc5s = λ n is. ap (λ (rows : List Pc5Row). has_row pc5_rank rows n) pc5s ∙ is;
  uus = λ n is. ap (λ (rows : List UuRow). has_row uu_rank rows n) uus ∙ is;
}

pub nothing_tested : AreTested nothing
nothing_tested = record { remotes = tt; bearers = tt; uus = tt; pc5s = tt; maps = tt }

-- rows that passed over tables pass over tables that grow from them
tested : (old new : Contents) → Grows old new → AllByRecursion IsNamed new.remotes → AllByRecursion (IsBearerRow old) new.bearers
    → AllByRecursion IsUuRow new.uus → AllByRecursion (IsPc5Row old) new.pc5s → AllByRecursion (IsMapRow old) new.maps → AreTested new
tested old new grows remotes bearers uus pc5s maps = record {
  remotes = remotes;
  bearers = each_then (IsBearerRow old) (IsBearerRow new)
      (λ row is. record { remote = grows.remotes row.remote.0 is.remote; drb = is.drb; counts = is.counts }) new.bearers bearers;
  uus = uus;
  pc5s = each_then (IsPc5Row old) (IsPc5Row new) (λ row is. record { remote = grows.remotes row.remote.0 is.remote; chan = is.chan }) new.pc5s pc5s;
  maps = each_then (IsMapRow old) (IsMapRow new)
      (λ row is. record {
        drb = is.drb;
        pc5 = is.pc5;
        uu = is.uu;
        its_remote = grows.remotes row.remote.0 is.its_remote;
        its_bearer = grows.bearers (pair row.remote.0 row.drb.0) is.its_bearer;
        its_pc5 = grows.pc5s (pair row.remote.0 row.pc5.0) is.its_pc5;
        its_uu = grows.uus row.uu.0 is.its_uu;
      }) new.maps maps;
}

-- a first COUNT changes no name, and is a COUNT
begins_rank : (key : Key) (first : ℕ) (row : BearerRow) → bearer_rank (begins_at key first row) ≡ bearer_rank row
begins_rank key first row = by (bearer_rank row == pair key.remote.0 key.drb.0) key.way
  where
    by : (b : Bool) (way : Way) → bearer_rank (cond b (with_first way first row) row) ≡ bearer_rank row
    by true Ul = refl
    by true Dl = refl
    by false way = refl

begins_tested : (t : Contents) (key : Key) (first : ℕ) → first ≤ 4294967294 → (row : BearerRow) → IsBearerRow t row → IsBearerRow t (begins_at key first row)
begins_tested t key first low row is = by (bearer_rank row == pair key.remote.0 key.drb.0) key.way
  where
    by : (b : Bool) (way : Way) → IsBearerRow t (cond b (with_first way first row) row)
    by true Ul = record { remote = is.remote; drb = is.drb; counts = (omega (arith, low), is.counts.1) }
    by true Dl = record { remote = is.remote; drb = is.drb; counts = (is.counts.0, omega (arith, low)) }
    by false way = is

-- a path changes no name
goes_rank : (remote : Remote) (goal : Goal) (row : RemoteRow) → remote_rank (goes_to remote goal row) ≡ remote_rank row
goes_rank remote goal row = by (row.remote.0 == remote.0)
  where
    by : (b : Bool) → remote_rank (cond b (record row { goal = goal }) row) ≡ remote_rank row
    by true = refl
    by false = refl

goes_named : (remote : Remote) (goal : Goal) (row : RemoteRow) → IsNamed row → IsNamed (goes_to remote goal row)
goes_named remote goal row is = by (row.remote.0 == remote.0)
  where
    by : (b : Bool) → IsNamed (cond b (record row { goal = goal }) row)
    by true = is
    by false = is

line_tested : (line : Line) (t new : Contents) → AreTested t → table_line t line ≡ Ok new → AreTested new
line_tested (Set name setting) t new are e =
    let p = past (not (is_setting name setting)) _ _ new e in
    let q = past (is_some (choice_of name t.choices)) _ _ new p.1 in
    subst AreTested (taken _ new q.1)
    (tested t (record t { choices = choose name setting t.choices }) (alike t _ refl refl refl refl) are.remotes are.bearers are.uus are.pc5s are.maps)
line_tested (RemoteLine r) t new are e =
    let p = past (not (is_remote r.0)) _ _ new e in
    let q = past (has_row remote_rank t.remotes r.0) _ _ new p.1 in
    let s = past (nat_le 8 (length t.remotes)) _ _ new q.1 in
    let row : RemoteRow = record { remote = r; goal = Direct } in
    subst AreTested (taken _ new s.1)
    (tested t (record t { remotes = in_order remote_rank row t.remotes })
    (record { remotes = row_stays remote_rank row t.remotes; bearers = λ n is. is; pc5s = λ n is. is; uus = λ n is. is })
    (each_in_order remote_rank IsNamed row (not-false _ p.0) t.remotes are.remotes) are.bearers are.uus are.pc5s are.maps)
line_tested (Bearer r d pdcp direct) t new are e =
    let p = past (not (is_remote r.0 && is_drb d.0 && is_size (sn_bits pdcp) && is_size (sn_bits direct))) _ _ new e in
    let q = past (has_row bearer_rank t.bearers (pair r.0 d.0)) _ _ new p.1 in
    let s = past (not (has_row remote_rank t.remotes r.0)) _ _ new q.1 in
    let u = past (nat_le 8 (bearers_of r.0 t.bearers)) _ _ new s.1 in
    let row : BearerRow = record { remote = r; drb = d; pdcp = sn_size_of (sn_bits pdcp); direct = sn_size_of (sn_bits direct); first_ul = 0; first_dl = 0 } in
    let names = (and_parts (is_remote r.0 && is_drb d.0) (is_size (sn_bits pdcp))
    (and_parts (is_remote r.0 && is_drb d.0 && is_size (sn_bits pdcp)) (is_size (sn_bits direct)) (not-false _ p.0)).0).0 in
    subst AreTested (taken _ new u.1)
    (tested t (record t { bearers = in_order bearer_rank row t.bearers })
    (record { remotes = λ n is. is; bearers = row_stays bearer_rank row t.bearers; pc5s = λ n is. is; uus = λ n is. is }) are.remotes
    (each_in_order bearer_rank (IsBearerRow t) row
    (record { remote = not-false _ s.0; drb = (and_parts (is_remote r.0) (is_drb d.0) names).1; counts = (omega arith, omega arith) }) t.bearers are.bearers)
    are.uus are.pc5s are.maps)
line_tested (Uu c size) t new are e =
    let p = past (not (is_chan c.0 && is_size (sn_bits size))) _ _ new e in
    let q = past (has_row uu_rank t.uus c.0) _ _ new p.1 in
    let row : UuRow = record { chan = c; size = sn_size_of (sn_bits size) } in
    subst AreTested (taken _ new q.1)
    (tested t (record t { uus = in_order uu_rank row t.uus }) (record { remotes = λ n is. is; bearers = λ n is. is; pc5s = λ n is. is; uus = row_stays uu_rank row t.uus })
    are.remotes are.bearers (each_in_order uu_rank IsUuRow row (and_parts (is_chan c.0) (is_size (sn_bits size)) (not-false _ p.0)).0 t.uus are.uus) are.pc5s are.maps)
line_tested (Pc5 r c size) t new are e =
    let p = past (not (is_remote r.0 && is_chan c.0 && is_size (sn_bits size))) _ _ new e in
    let q = past (has_row pc5_rank t.pc5s (pair r.0 c.0)) _ _ new p.1 in
    let s = past (not (has_row remote_rank t.remotes r.0)) _ _ new q.1 in
    let row : Pc5Row = record { remote = r; chan = c; size = sn_size_of (sn_bits size) } in
    let names = (and_parts (is_remote r.0 && is_chan c.0) (is_size (sn_bits size)) (not-false _ p.0)).0 in
    subst AreTested (taken _ new s.1)
    (tested t (record t { pc5s = in_order pc5_rank row t.pc5s }) (record { remotes = λ n is. is; bearers = λ n is. is; pc5s = row_stays pc5_rank row t.pc5s; uus = λ n is. is })
    are.remotes are.bearers are.uus
    (each_in_order pc5_rank (IsPc5Row t) row (record { remote = not-false _ s.0; chan = (and_parts (is_remote r.0) (is_chan c.0) names).1 }) t.pc5s are.pc5s) are.maps)
line_tested (Map r d pc5 uu) t new are e =
    let p = past (not (is_remote r.0 && is_drb d.0 && is_chan pc5.0 && is_chan uu.0)) _ _ new e in
    let q = past (has_row map_rank t.maps (pair r.0 d.0)) _ _ new p.1 in
    let of_remote : Bool = has_row remote_rank t.remotes r.0 in
    let of_bearer : Bool = has_row bearer_rank t.bearers (pair r.0 d.0) in
    let of_pc5 : Bool = has_row pc5_rank t.pc5s (pair r.0 pc5.0) in
    let of_uu : Bool = has_row uu_rank t.uus uu.0 in
    let s = past (not (of_remote && of_bearer && of_pc5 && of_uu)) _ _ new q.1 in
    let row : MapRow = record { remote = r; drb = d; pc5 = pc5; uu = uu } in
    let three = and_parts (is_remote r.0 && is_drb d.0 && is_chan pc5.0) (is_chan uu.0) (not-false _ p.0) in
    let two = and_parts (is_remote r.0 && is_drb d.0) (is_chan pc5.0) three.0 in
    let there = and_parts (of_remote && of_bearer && of_pc5) of_uu (not-false _ s.0) in
    let these = and_parts (of_remote && of_bearer) of_pc5 there.0 in
    let both = and_parts of_remote of_bearer these.0 in
    subst AreTested (taken _ new s.1)
    (tested t (record t { maps = in_order map_rank row t.maps }) (alike t _ refl refl refl refl) are.remotes are.bearers are.uus are.pc5s
    (each_in_order map_rank (IsMapRow t) row
    (record {
      drb = (and_parts (is_remote r.0) (is_drb d.0) two.0).1;
      pc5 = two.1;
      uu = three.1;
      its_remote = both.0;
      its_bearer = both.1;
      its_pc5 = these.1;
      its_uu = there.1;
    }) t.maps are.maps))
line_tested (Start key first) t new are e =
    let p = past (not (is_remote key.remote.0 && is_drb key.drb.0 && nat_le first 4294967294)) _ _ new e in
    let q = past (has_row key_rank t.starts (key_rank (named_key key.remote.0 key.drb.0 key.way))) _ _ new p.1 in
    let s = past (not (has_row remote_rank t.remotes key.remote.0 && has_row bearer_rank t.bearers (pair key.remote.0 key.drb.0))) _ _ new q.1 in
    let low : first ≤ 4294967294 = leb-true _ _ (and_parts (is_remote key.remote.0 && is_drb key.drb.0) (nat_le first 4294967294) (not-false _ p.0)).1 in
    let begins : BearerRow → BearerRow = begins_at (named_key key.remote.0 key.drb.0 key.way) first in
    subst AreTested (taken _ new s.1)
    (tested t (record t { bearers = map begins t.bearers; starts = in_order key_rank (named_key key.remote.0 key.drb.0 key.way) t.starts })
    (record {
      remotes = λ n is. is;
      bearers = λ n is. row_mapped bearer_rank begins (begins_rank (named_key key.remote.0 key.drb.0 key.way) first) t.bearers n ∙ is;
      pc5s = λ n is. is;
      uus = λ n is. is;
    }) are.remotes
    (each_map (IsBearerRow t) (IsBearerRow t) begins (begins_tested t (named_key key.remote.0 key.drb.0 key.way) first low) t.bearers are.bearers)
    are.uus are.pc5s are.maps)
line_tested (Path r goal) t new are e =
    let p = past (not (is_remote r.0)) _ _ new e in
    let q = past (has_row name_rank t.paths r.0 || is_taken goal t.remotes) _ _ new p.1 in
    let s = past (not (has_row remote_rank t.remotes r.0)) _ _ new q.1 in
    subst AreTested (taken _ new s.1)
    (tested t (record t { remotes = map (goes_to r goal) t.remotes; paths = in_order name_rank r t.paths })
    (record { remotes = λ n is. row_mapped remote_rank (goes_to r goal) (goes_rank r goal) t.remotes n ∙ is; bearers = λ n is. is; pc5s = λ n is. is; uus = λ n is. is })
    (each_map IsNamed IsNamed (goes_to r goal) (goes_named r goal) t.remotes are.remotes) are.bearers are.uus are.pc5s are.maps)
line_tested Go t new are e = by (is_mapped t.remotes t.bearers t.maps) e
  where
    by : (b : Bool) → cond b (Ok t) (Err NoMap) ≡ Ok new → AreTested new
    by true e = subst AreTested (taken t new e) are
    by false e = absurd (none-some new (ap value e))
line_tested line t new are e = subst AreTested (taken t new e) are

pub stage_tested : (line : Line) (old new : ScriptStage) → after old line ≡ Ok new → AreTested (contents old) → AreTested (contents new)
stage_tested line = stage_gives (λ old new. AreTested old → AreTested new) (λ are. are) line (λ t new e are. line_tested line t new are e)
