use Rattle.std.proofs.Common.{sym, subst, Ok, Err}
use Rattle.srap_header.specs.Srap.{srap_of}
use Rattle.relay_core.proofs.Heard.{leads_ok, leads_err}
use Rattle.relay_core.proofs.routing.route_of.Goals as goal

pub returns-in-Ok-onward : goal.returns-in-Ok-onward
returns-in-Ok-onward c = λ n same. leads_ok c.args.tables.now n c.args.from c.args.sdu.now (srap_of c.in-Ok.header) c.in-Ok-onward.route c.requires c.in-Ok.ensures.read (rw same c.in-Ok-onward.ensures)

pub returns-in-Err-onward : goal.returns-in-Err-onward
returns-in-Err-onward c = λ n same. rw c.route_discard.ensures
    (leads_err c.args.tables.now n c.args.from c.args.sdu.now (srap_of c.in-Ok.header) c.in-Err-onward.fault c.requires c.in-Ok.ensures.read (rw same c.in-Err-onward.ensures))
