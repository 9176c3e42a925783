use Rattle.std.proofs.Common.{◌≡◌, sym, ◌∙◌, arith}
use Rattle.std.proofs.lemmas.Grind.{common_steps}
use Rattle.rlc_status.specs.Format as format
use Rattle.rlc_status.proofs.Sizes.{length-bytes_of}
use Rattle.rlc_status.proofs.length.status_len.Goals as goal

pub returns-clause-octets : goal.returns-clause-octets
returns-clause-octets c =
    let sum : c.loop-nack.len ≡ format.status_len c.args.size c.args.status.now = grind (arith, common_steps) in
    sum ∙ sym (length-bytes_of c.args.size c.args.status.now)
