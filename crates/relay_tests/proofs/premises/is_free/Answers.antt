use Rattle.std.proofs.Common.{◌≡◌, ◌∙◌}
use Rattle.node_model.proofs.Names.{remote_is}
use Rattle.relay_tests.proofs.premises.is_free.Goals as goal

pub returns-in-None : goal.returns-in-None
returns-in-None c = λ is other there. absurd (c.in-None.ensures.none other there)

pub returns-in-Some : goal.returns-in-Some
returns-in-Some c = λ is other there.
    c.remote_of.ensures.each_once.one_remote other c.in-Some.other c.args.id.0 there c.in-Some.ensures.found ∙ remote_is c.in-Some.other c.args.remote is
