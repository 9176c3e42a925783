use Rattle.std.proofs.Common.{OnErr, subst}
use Rattle.rlc_model.specs.Sides.{Entity}
use Rattle.rlc_hop.specs.Side.{HearsNews}
use Rattle.node_ports.proofs.entity.RlcEntity.hear.Goals as goal

pub returns-clause-memory : goal.returns-clause-memory
returns-clause-memory c = subst (λ (e : Entity). OnErr c.hop_hear.result (HearsNews e.tx e.rx c.args.bytes.now)) c.self.view_is c.hop_hear.ensures.memory
