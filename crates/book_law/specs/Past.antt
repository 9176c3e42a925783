-- A run line by line behind go: the chain before each line that was carried out, those of a drain among them.
use Rattle.std.specs.Prelude.{◌≡◌, true, List, [], ◌∷◌, ◌++◌, map}
use Rattle.std.specs.List.{AllByRecursion}
use Rattle.bearer_map.specs.Contents.{Contents, remote_rank, bearer_rank}
use Rattle.bearer_map.specs.Order.{has_row, IsAscending}
use Rattle.script_text.specs.declared.line.Line.TheVariants.{Drain, End}
use Rattle.script_text.specs.declared.reply.Reply.TheVariants.{Ok}
use Rattle.script_text.specs.declared.stage.Part.TheVariants.{Running}
use Rattle.script_text.specs.Lines.{part_of}
use Rattle.script_text.specs.History.{Entry}
use Rattle.chain_model.specs.State.{Chain, opened}
use Rattle.chain_model.specs.Steps.{Step}
use Rattle.chain_model.specs.Resting.{is_finished}
use Rattle.chain_model.specs.Draining.{Moment, entry_of}

-- what a line behind go does by itself: a step; a drain's own line stands behind those that the drain carried out, and changes nothing; nor does the line end
pub data Goes (old : Chain) (e : Entry) (new : Chain) : Type 0 where
  steps : Step old e.line e.events e.reply new → Goes old e new
  drained : e.line ≡ Drain → e.events ≡ [] → new ≡ old → (e.reply ≡ Ok → is_finished new ≡ true) → Goes old e new
  ended : e.line ≡ End → e.events ≡ [] → e.reply ≡ Ok → new ≡ old → Goes old e new

-- lines carried out one behind another from the chain that the tables open, the last first
abbrev pub Passes : Contents → List Moment → Chain → Type 0
Passes t [] c = c ≡ opened t
Passes t (m ∷ ms) c = Passes t ms m.before × Goes m.before m.entry c

-- a line of the tables, which brings nothing about
pub record IsDeclaration (e : Entry) : Type 0 where
  pub part : part_of e.line ≡ Running → ⊥
  pub shows : e.events ≡ []
  pub says : e.reply ≡ Ok

-- a remote has one row, and a bearer has one, whose remote has one
pub record AreTables (t : Contents) : Type 0 where
  pub remotes_ascend : IsAscending remote_rank t.remotes
  pub bearers : IsAscending bearer_rank t.bearers
  pub remotes : AllByRecursion (λ row. has_row remote_rank t.remotes row.remote.0 ≡ true) t.bearers

-- a history is that of lines carried out from the chain that tables open, behind the lines that declare the tables
pub record IsPast (h : List Entry) (c : Chain) : Type 0 where
  pub tables : Contents
  pub are_tables : AreTables tables
  pub declared : List Entry
  pub declare : AllByRecursion IsDeclaration declared
  pub moments : List Moment
  pub are : h ≡ map entry_of moments ++ declared
  pub passes : Passes tables moments c
