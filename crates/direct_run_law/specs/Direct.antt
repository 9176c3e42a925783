-- Runs on direct ports alone: the remotes begin there, and no line leads away.
use Rattle.std.specs.Prelude.{◌≡◌, Bool, true, false, List, []}
use Rattle.std.specs.List.{AllByRecursion}
use Rattle.link_base.specs.declared.names.Goal.TheVariants.{Direct as ToDirect}
use Rattle.bearer_map.specs.declared.rows.RemoteRow.{RemoteRow}
use Rattle.bearer_map.specs.Contents.{Contents}
use Rattle.script_text.specs.declared.line.Line.{Line}
use Rattle.script_text.specs.declared.line.Line.TheVariants.{Plan as PlanLine, Apply}
use Rattle.script_text.specs.History.{Entry}

-- each remote of the tables begins on its direct path; there may be channels of the relay
abbrev pub BeginDirect : Contents → Type 0
BeginDirect t = AllByRecursion (λ (row : RemoteRow). row.goal ≡ ToDirect) t.remotes

-- the tables have no channels of the relay
pub record HasNoChannels (t : Contents) : Type 0 where
  pub no_pc5 : t.pc5s ≡ []
  pub no_uu : t.uus ≡ []

-- the line plans a switch of paths, or applies one
abbrev pub switches : Line → Bool
switches (PlanLine remote goal) = true
switches (Apply remote kind) = true
switches line = false

-- no line of a history does
abbrev pub NoneSwitches : List Entry → Type 0
NoneSwitches h = AllByRecursion (λ (e : Entry). switches e.line ≡ false) h
