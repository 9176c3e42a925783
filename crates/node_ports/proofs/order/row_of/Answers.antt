use Rattle.std.proofs.Common.{◌≡◌, ◌<◌, length, get_or, sym, ◌∙◌, ap, arith, rules}
use Rattle.std.proofs.lemmas.List.{get_or_default}
use Rattle.std.proofs.lemmas.List.Sorted.{IsPartitionPoint-from_clause}
use Rattle.node_ports.specs.Order.{is_before}
use Rattle.node_ports.proofs.Places.{parted, no_row}
use Rattle.node_ports.proofs.order.row_of.Goals as goal
use Rattle.node_ports.proofs.order.row_of.Goals.{else-place-rows-via-then-place-rows+else-eq, else-place-rows-via-else-place-rows}

pub returns-then-eq-clause-found : goal.returns-then-eq-clause-found
returns-then-eq-clause-found g c =
    let lt : c.partition_point-place.result < length c.args.rows.now = omega arith in
    let port : c.port.result ≡ c.args.port = search rules in
    record { within = lt; its = λ row. ap g.T.PortRow.port_of (get_or_default c.args.rows.now c.partition_point-place.result row c.index-rows-place.result lt ∙ sym c.index-rows-place.is) ∙ (sym c.port.ensures ∙ port) }

pub returns-else-place-rows-clause-none : goal.returns-else-place-rows-clause-none
returns-else-place-rows-clause-none g c =
    let port_of = g.T.PortRow.port_of in
    let rows = c.args.rows.now in
    let place = c.partition_point-place.result in
    let point = IsPartitionPoint-from_clause (λ row. is_before (port_of row) c.args.port) rows place c.partition_point-place.ensures.partitioned
    (parted port_of rows c.args.port c.requires) (λ a r f called. search rules) in
    no_row port_of rows c.args.port c.requires place point (elim c.else-place-rows.branch [
      | else-place-rows-via-then-place-rows+else-eq w ↦ λ d lt same.
          let read : w.index-rows-place.result ≡ get_or rows place d = w.index-rows-place.is ∙ get_or_default rows place w.index-rows-place.result d lt in
          let name : w.port.result ≡ c.args.port = w.port.ensures ∙ (ap port_of read ∙ same) in
          search rules
      | else-place-rows-via-else-place-rows w ↦ λ d lt same. absurd (omega arith)
    ])
