use Rattle.std.proofs.Common.{rules, subst}
use Rattle.link_base.specs.declared.names.PortName.{PortName}
use Rattle.node_end.specs.Fed.{Covers}
use Rattle.node_end.specs.Ports.{is_mapped, is_over}
use Rattle.node_end.specs.Routing.{IsChannel}
use Rattle.node_end.proofs.Covering.{channel_over, every_covers}
use Rattle.node_end.proofs.served.Served.over.Goals as goal

pub returns-in-None-channel_of : goal.returns-in-None-channel_of
returns-in-None-channel_of c = λ t knows. rw c.deref-in-None-channel_of.ensures.value (every_covers c.args.bearers.now (is_over t c.args.port) c.args.self.now.every.items knows.every)

pub returns-in-Some-channel_of : goal.returns-in-Some-channel_of
returns-in-Some-channel_of c = λ t knows.
    let n = c.args.bearers.now in
    let channel = c.in-Some-channel_of.channel.now in
    let is_channel : IsChannel c.args.port = search (rules, c.in_default.not-Direct) in
    let covers = c.in-Some-channel_of.ensures.covers t n (rw c.deref-2.ensures.value knows.channels) in
    rw c.deref-in-Some-channel_of.ensures.value
    (channel_over t n c.args.port channel.places.items is_channel (subst (λ (p : PortName). Covers n (is_mapped t.maps p) channel.places.items) c.in-Some-channel_of.ensures.some covers))
