use Rattle.std.proofs.Common.{◌∙◌, ap}
use Rattle.rlc_model.specs.Sides.{Entity}
use Rattle.node_model.specs.Standing.{entity_bears}
use Rattle.std.specs.Prelude.{Some}
use Rattle.node_ports.proofs.Bearing.{answer_is}
use Rattle.node_ports.proofs.entity.RlcEntity.bears.Goals as goal

pub returns : goal.returns
returns c = answer_is c.bears.result c.self.inside.tx c.args.id c.bears.ensures ∙ ap (λ (e : Entity). entity_bears c.args.id (Some e)) c.self.view_is
