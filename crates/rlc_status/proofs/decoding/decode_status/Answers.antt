use Rattle.std.proofs.Common.{arith}
use Rattle.rlc_status.proofs.Answer.{read, fits, refused}
use Rattle.rlc_status.proofs.decoding.decode_status.Goals as goal

pub returns-clause-read : goal.returns-clause-read
returns-clause-read c = read c.args.size c.args.bytes.now c.read_status.result c.read_status.ensures.found c.read_status.ensures.fault

pub returns-clause-refused : goal.returns-clause-refused
returns-clause-refused c = refused c.args.size c.args.bytes.now c.read_status.result c.read_status.ensures.found c.read_status.ensures.fault

pub returns-clause-fits : goal.returns-clause-fits
returns-clause-fits c = fits c.args.size c.args.bytes.now c.read_status.result (λ i. omega (arith, c.type_inv.bytes i)) c.read_status.ensures.found
