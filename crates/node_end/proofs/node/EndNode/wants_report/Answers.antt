use Rattle.std.proofs.Common.{Bool, Option, is_some, sym, ◌∙◌, ap}
use Rattle.link_base.specs.declared.names.Key.{Key}
use Rattle.link_base.specs.declared.names.LocalId.{LocalId}
use Rattle.bearer_map.specs.declared.settings.Settings.{Settings}
use Rattle.node_model.specs.State.{id_in, incoming}
use Rattle.node_model.specs.Tables.{settings}
use Rattle.node_bearers.specs.Calls.{is_wanted}
use Rattle.node_end.specs.Node.{node_of}
use Rattle.node_end.proofs.Fed.{in_named}
use Rattle.node_end.proofs.node.EndNode.wants_report.Goals as goal

pub returns : goal.returns
returns c =
    let e = c.args.self.now in
    let i = incoming e.bearers c.args.key in
    c.wants_report.ensures
    ∙ ap (λ (s : Settings). is_wanted s.report c.is_some-on_relay.result i) c.settings-every.ensures
    ∙ ap (λ (b : Bool). is_wanted (settings e.tables).report b i)
    (c.is_some-on_relay.ensures ∙ ap (λ (id : Option LocalId). is_some id) c.id_of.ensures ∙ ap (λ (k : Key). is_some (id_in e.ids k.remote)) (sym (in_named (node_of e) c.args.key)))
