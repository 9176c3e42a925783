-- Runs line by line: each is honest.
use Rattle.std.proofs.Common.{List, [], ◌∷◌, ◌++◌, map, refl, sym, subst}
use Rattle.std.specs.List.{AllByRecursion}
use Rattle.link_base.specs.declared.names.Key.{Key}
use Rattle.bearer_map.specs.Contents.{Contents}
use Rattle.bearer_map.specs.declared.rows.BearerRow.{BearerRow}
use Rattle.script_text.specs.History.{Entry}
use Rattle.chain_model.specs.Carried.{IsRowOf}
use Rattle.chain_model.specs.Draining.{Moment, entry_of}
use Rattle.chain_model.specs.State.{Chain}
use Rattle.book_law.specs.Honest.{AreHonest}
use Rattle.book_law.specs.Past.{Passes, IsDeclaration, AreTables, IsPast}
use Rattle.item_chain.specs.Foundations.{PduLaws}
use Rattle.item_chain.specs.Runs.{PastsStand, AreRunLines}
use Rattle.item_chain.specs.View.{view}
use Rattle.item_chain.specs.Stands.{TablesGood, Ghost, Stands}
use Rattle.item_run.specs.Foundations.{BookLaws}
use Rattle.item_run.proofs.Honest.{honest_line}

module _ (books : BookLaws) (pasts : PastsStand) (pdus : PduLaws) (t : Contents) (are_tables : AreTables t) (good : TablesGood t) (declared : List Entry)
    (declare : AllByRecursion IsDeclaration declared) where
  abbrev pub history : List Moment → List Entry
  history ms = map entry_of ms ++ declared

  abbrev pub past : (ms : List Moment) (c : Chain) → Passes t ms c → IsPast (history ms) c
  past ms c passes = record { tables = t; are_tables = are_tables; declared = declared; declare = declare; moments = ms; are = refl; passes = passes }

  -- a ghost stands for the chain behind lines
  pub stands_behind : (ms : List Moment) (c : Chain) → Passes t ms c → AreRunLines (history ms) → (g : Ghost) × Stands g (view c)
  stands_behind ms c passes lines =
      let p = past ms c passes in
      let r = (pasts (history ms) c p lines (subst TablesGood (sym (books.tables (history ms) c p)) good)).refines in
      (r.ghost, r.stands)

  pub honest_lines : (ms : List Moment) (c : Chain) → Passes t ms c → AreRunLines (history ms) → (row : BearerRow) (key : Key) → IsRowOf t key row → AreHonest row key declared ms
  honest_lines [] c is lines row key its = tt
  honest_lines (m ∷ ms) c (before, goes) (this, lines) row key its =
      let p = past ms m.before before in
      let at : IsRowOf m.before.tables key row = subst (λ (x : Contents). IsRowOf x key row) (sym (books.tables (history ms) m.before p)) its in
      let stood = stands_behind ms m.before before lines in (
        honest_lines ms m.before before lines row key its,
        honest_line pdus stood.0 m stood.1 (history ms) row key (books.keeps (history ms) m.before p row key at).0 (books.hand_ups (history ms) m.before p row key at).number,
      )
