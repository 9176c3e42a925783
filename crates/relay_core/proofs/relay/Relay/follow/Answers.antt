use Rattle.std.proofs.Common.{ℕ, List, sym, subst}
use Rattle.rlc_model.specs.declared.hop.HopHeard.TheVariants.{Status}
use Rattle.relay_core.specs.Ports.{IsOfRelay, relay_side}
use Rattle.relay_core.proofs.AtPlace.{name_at}
use Rattle.relay_core.proofs.Heard.{follows_status}
use Rattle.relay_core.proofs.relay.Relay.follow.Goals as goal

pub returns-in-Status-clause-follows : goal.returns-in-Status-clause-follows
returns-in-Status-clause-follows c = λ side here.
    let n = c.args.self.now.node in
    let name = name_at n.ports c.args.port c.args.place c.requires.place side here in
    rw c.in-Status.is (follows_status c.args.self.now.tables n (relay_side c.args.port) side c.in-Status.status (subst IsOfRelay (sym name) c.requires.of_relay))
