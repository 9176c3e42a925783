use Rattle.std.proofs.Common.{map}
use Rattle.srap_header.specs.Srap.{srap_of}
use Rattle.node_model.specs.Feeding.{in_key}
use Rattle.node_end.specs.Node.{name_of, node_of}
use Rattle.node_end.proofs.Heard.{here, leads_ok, leads_err}
use Rattle.node_end.proofs.node.EndNode.address.Goals as goal

pub returns-in-Ok-route : goal.returns-in-Ok-route
returns-in-Ok-route c =
    let e = c.args.self.now in
    let keys = map in_key e.bearers.incoming in
    let v = srap_of c.in-Ok.header in
    let is_here = here e.tables (name_of e.remote) e.ids keys c.requires.end.received c.args.port c.requires.port v.ue v.bearer c.in-Ok-route.key c.in-Ok-route.ensures in
    record {
      leads = leads_ok e.tables (node_of e) keys c.args.port c.requires.port c.args.sdu.now v c.in-Ok-route.key c.in-Ok.ensures.read c.in-Ok-route.ensures;
      received = is_here.received;
      over = is_here.over;
    }

pub returns-in-Err-route : goal.returns-in-Err-route
returns-in-Err-route c =
    let e = c.args.self.now in
    record {
      leads = rw c.route_discard.ensures
          (leads_err e.tables (node_of e) (map in_key e.bearers.incoming) c.args.port c.requires.port c.args.sdu.now (srap_of c.in-Ok.header) c.in-Err-route.fault c.in-Ok.ensures.read c.in-Err-route.ensures);
      received = tt;
      over = tt;
    }
