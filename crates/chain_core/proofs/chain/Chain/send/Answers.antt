use Rattle.std.proofs.Common.{◌≡◌, ℕ, List, [], ◌∷◌, ◌++◌, Some, rules, ◌∙◌, ap, subst}
use Rattle.rlc_model.specs.declared.hop.HopGrant.TheVariants.{Sent}
use Rattle.rlc_model.specs.declared.hop.Pdu.{Pdu}
use Rattle.rlc_model.specs.Sides.{sender_of}
use Rattle.script_text.specs.declared.reply.Reply.TheVariants.{Air}
use Rattle.node_model.specs.declared.answers.PortGrant.TheVariants.{Hop}
use Rattle.node_model.specs.Names.{owner}
use Rattle.node_model.specs.Sides.{GrantsPort}
use Rattle.chain_model.specs.State.{Chain}
use Rattle.chain_model.specs.Lines.{Granted}
use Rattle.chain_core.specs.Nodes.{Moves}
use Rattle.chain_core.proofs.Carrying.{chain_at, with_air, moved, sends}
use Rattle.chain_core.proofs.chain.Chain.send.Goals as goal

pub returns-in_ok-ticket-in-Sent : goal.returns-in_ok-ticket-in-Sent
returns-in_ok-ticket-in-Sent c =
    let n = c.self.inside.nodes in
    let air = c.self.inside.air in
    let a = c.args in
    let w = c.in-Sent in
    let moves : Moves (owner (sender_of a.way) a.port) (λ old new. GrantsPort old a.port a.octets (Hop c.in-Hop.epoch (Sent w.status w.number w.bytes)) new) n.nodes c.grant.new.self.nodes = search rules in
    let copied : c.in_ok-copy-in-Sent.copy ≡ w.bytes = search rules in
    let put = c.in_ok-ticket-in-Sent.ensures.ok in
    rw (← c.self.view_is) (subst (λ (d : Chain). Granted (chain_at n air) a.port a.way a.octets [] (Air c.in_ok-ticket-in-Sent.ticket w.status w.number w.bytes) d)
    (ap (with_air c.put.new.self) (moved n c.grant.new.self air c.grant.ensures.tables))
    (sends (chain_at n air) a.port a.way a.octets c.in-Hop.epoch w.status w.number w.bytes c.grant.new.self.nodes c.in_ok-ticket-in-Sent.ticket c.put.new.self moves put.0
    (put.1 ∙ ap (λ (b : List ℕ). let p : Pdu = record { port = a.port; way = a.way; epoch = c.in-Hop.epoch; status = w.status; number = w.number; bytes = b } in air ++ Some p ∷ []) copied)))
