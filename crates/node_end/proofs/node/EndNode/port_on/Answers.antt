use Rattle.std.proofs.Common.{◌≡◌, Option, Some, None, false, sym, ◌∙◌, ap}
use Rattle.std.specs.Prelude.{not, option_map}
use Rattle.std.specs.Option.{is_none}
use Rattle.link_base.specs.declared.names.Key.{Key}
use Rattle.link_base.specs.declared.names.LocalId.{LocalId}
use Rattle.link_base.specs.declared.names.PortName.{PortName}
use Rattle.bearer_map.specs.declared.rows.MapRow.{MapRow}
use Rattle.bearer_map.specs.Contents.{Contents}
use Rattle.node_model.specs.Tables.{map_row, relay_port}
use Rattle.node_model.specs.Feeding.{port_on}
use Rattle.node_end.proofs.node.EndNode.port_on.Goals as goal

on_relay : (t : Contents) (id : Option LocalId) (key : Key) (found : Option MapRow) → is_none id ≡ false → map_row t key.remote key.drb ≡ found → port_on t id key ≡ option_map (relay_port key.way) found
on_relay t None key found some is = absurd cc
on_relay t (Some id) key found some is = ap (option_map (relay_port key.way)) is

pub returns : goal.returns
returns c =
    let found = rw c.maps.ensures.rows at c.map_row.ensures in
    ap (λ (p : PortName). Some p) c.relay_port.ensures
    ∙ sym (on_relay c.args.self.now.tables c.args.id c.args.key (Some c.in_ok-row.row) (ap not (c.is_none.ensures ∙ ap not c.if-is_none.false)) (sym found ∙ c.in_ok-row.was))
