use Rattle.std.proofs.Common.{OnErr, subst}
use Rattle.rlc_model.specs.Sides.{Entity}
use Rattle.rlc_hop.specs.Side.{IsToSend}
use Rattle.node_ports.proofs.entity.RlcEntity.grant.Goals as goal

pub returns-clause-memory : goal.returns-clause-memory
returns-clause-memory c = subst (λ (e : Entity). OnErr c.hop_grant.result (IsToSend e.tx e.rx c.args.octets)) c.self.view_is c.hop_grant.ensures.memory
