use Rattle.std.proofs.Common.{◌≡◌, ◌++◌, List, [], length, flat_map, get_or, sym, ◌∙◌, ap, arith, rules}
use Rattle.std.specs.List.{cons_option}
use Rattle.std.proofs.lemmas.Bool.{eqb-true}
use Rattle.std.proofs.lemmas.List.{append-nil}
use Rattle.link_base.specs.declared.names.Way.TheVariants.{Ul, Dl}
use Rattle.node_model.specs.Names.{key_of}
use Rattle.node_model.specs.Tables.{keys_of_row}
use Rattle.script_text.specs.declared.event.Event.{Event}
use Rattle.chain_model.specs.Steps.{reporting}
use Rattle.chain_core.proofs.Told.{no_row, row_told, none_reported}
use Rattle.chain_core.proofs.chain.tell_reports.Goals as goal

pub returns-then-is_empty : goal.returns-then-is_empty
returns-then-is_empty c =
    let none = eqb-true (length c.args.given.now) 0 (sym c.is_empty.ensures ∙ c.if-is_empty.true) in
    sym (ap (λ (es : List Event). c.args.log.now ++ es) (none_reported c.args.given.now none (flat_map keys_of_row c.args.bearers.now)) ∙ append-nil c.args.log.now)

pub loop-row-preserved : goal.loop-row-preserved
loop-row-preserved c =
    let l = c.loop-row in
    let f = reporting c.args.given.now in
    let row = get_or c.args.bearers.now l.row-index no_row in
    let first : c.tell_report.new.log ≡ l.log ++ cons_option (f (key_of row.remote row.drb Ul)) [] = search rules in
    let second : c.tell_report-in-loop-row.new.log ≡ c.tell_report.new.log ++ cons_option (f (key_of row.remote row.drb Dl)) [] = search rules in
    row_told f c.args.bearers.now l.row-index no_row c.args.log.now l.log c.tell_report.new.log c.tell_report-in-loop-row.new.log (omega (arith, c.loop-row-test.true)) l.invariant first second
