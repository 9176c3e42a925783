use Rattle.std.proofs.Common.{◌≡◌, sym, subst, arith}
use Rattle.std.proofs.lemmas.Grind.{common_steps}
use Rattle.rlc_status.specs.Format.{IsPlainStatus, status_bytes}
use Rattle.rlc_status.proofs.Spelling.{plain, is_free}
use Rattle.rlc_status.proofs.encoding.encode_status.Goals as goal

pub returns-clause-plain : goal.returns-clause-plain
returns-clause-plain c =
    let written : c.loop-rest.bytes ≡ status_bytes c.args.size c.args.status.now = grind (arith, common_steps) in
    subst (IsPlainStatus c.args.size c.args.status.now) (sym written) (plain c.args.size c.args.status.now c.requires)

pub returns-clause-spelt : goal.returns-clause-spelt
returns-clause-spelt c = is_free c.args.size c.args.status.now _ (returns-clause-plain c)
