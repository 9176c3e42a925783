use Rattle.std.proofs.Common.{◌≡◌, take}
use Rattle.std.specs.List.{flat_map}
use Rattle.bearer_map.specs.declared.rows.RemoteRow.{RemoteRow}
use Rattle.node_model.specs.Opening.{attachments}
use Rattle.relay_tests.proofs.premises.ids_of.Given as goal

abbrev pub invariant-loop-row : goal.invariant-loop-row
invariant-loop-row l = l.ids ≡ flat_map (λ (row : RemoteRow). attachments row.remote row.goal) (take l.row-index l.row-items)
