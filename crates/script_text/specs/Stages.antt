-- How far a script has come, and what each line makes of that.
use Rattle.std.specs.Prelude.{◌≡◌, ℕ, Bool, true, false, Option, None, Some, Result, Ok, Err, if◌then◌else◌}
use Rattle.link_base.specs.declared.names.SnSize.{SnSize}
use Rattle.link_base.specs.declared.names.SnSize.TheVariants.{S12, S18}
use Rattle.bearer_map.specs.declared.rows.TableFault.{TableFault}
use Rattle.bearer_map.specs.declared.rows.TableFault.TheVariants.{NoMap, Memory}
use Rattle.bearer_map.specs.Contents.{Contents, nothing}
use Rattle.bearer_map.specs.Lines.{set_line, remote_line, bearer_line, uu_line, pc5_line, map_line, start_line, path_line, is_mapped}
use Rattle.script_text.specs.declared.stage.Part.{Part}
use Rattle.script_text.specs.declared.stage.Part.TheVariants.{Start as AtStart, Tables, Running, Ended}
use Rattle.script_text.specs.declared.stage.ScriptStage.{ScriptStage}
use Rattle.script_text.specs.declared.line.Line.{Line}
use Rattle.script_text.specs.declared.line.Line.TheVariants.{Version, Set, Remote, Bearer, Uu, Pc5, Map, Start, Path, Go, End}

-- before the first line
abbrev pub first_stage : ScriptStage
first_stage = record { part = AtStart; tables = Some nothing }

-- the line `go` was read
abbrev pub is_past_go : Part → Bool
is_past_go AtStart = false
is_past_go Tables = false
is_past_go Running = true
is_past_go Ended = true

-- once the tables were taken
abbrev pub without_tables : ScriptStage → ScriptStage
without_tables stage = record { part = stage.part; tables = None }

-- how many bits a sequence number has
abbrev pub sn_bits : SnSize → ℕ
sn_bits S12 = 12
sn_bits S18 = 18

-- what a line makes of the tables: the first of its refusals that holds, or the tables behind it
abbrev pub table_line : Contents → Line → Result Contents TableFault
table_line t (Set name value) = set_line t name value
table_line t (Remote r) = remote_line t r.0
table_line t (Bearer r d pdcp direct) = bearer_line t r.0 d.0 (sn_bits pdcp) (sn_bits direct)
table_line t (Uu c size) = uu_line t c.0 (sn_bits size)
table_line t (Pc5 r c size) = pc5_line t r.0 c.0 (sn_bits size)
table_line t (Map r d pc5 uu) = map_line t r.0 d.0 pc5.0 uu.0
table_line t (Start key first) = start_line t key.remote.0 key.drb.0 key.way first
table_line t (Path r goal) = path_line t r.0 goal
table_line t Go = if is_mapped t.remotes t.bearers t.maps then Ok t else Err NoMap
table_line t line = Ok t

-- the tables that a line gives are kept for the lines behind it
abbrev pub kept : Result Contents TableFault → Result (Option Contents) TableFault
kept (Ok t) = Ok (Some t)
kept (Err fault) = Err fault

-- the same, where the tables may have been taken
abbrev pub tables_after : Option Contents → Line → Result (Option Contents) TableFault
tables_after None line = Ok None
tables_after (Some t) line = kept (table_line t line)

-- the part of a script behind a line
abbrev pub part_after : Part → Line → Part
part_after part (Version number) = Tables
part_after part Go = Running
part_after part End = Ended
part_after part line = part

-- the stage with these tables, or their refusal
abbrev pub entered : Part → Result (Option Contents) TableFault → Result ScriptStage TableFault
entered part (Ok tables) = Ok (record { part = part; tables = tables })
entered part (Err fault) = Err fault

-- the stage behind a line of the stage's part, or why the tables refuse it
abbrev pub after : ScriptStage → Line → Result ScriptStage TableFault
after stage line = entered (part_after stage.part line) (tables_after stage.tables line)

-- what reading a line answers and leaves where this is what the line gives. Memory may be wanting for what it gives.
abbrev pub EntersStage : Result Unit TableFault → ScriptStage → ScriptStage → Result ScriptStage TableFault → Type 0
EntersStage (Ok done) old new line = line ≡ Ok new
EntersStage (Err Memory) old new line = new ≡ old
EntersStage (Err fault) old new line = (line ≡ Err fault) × (new ≡ old)
