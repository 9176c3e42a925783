use Rattle.rlc_status.proofs.Spelling.{plain, is_free}
use Rattle.rlc_status.proofs.Octets.{plain_octets}
use Rattle.rlc_status.proofs.laws.one_spelling.Goals as goal

pub returns : goal.returns
returns c = λ size s fits.
    let spelt = plain size s fits in
    (spelt, is_free size s _ spelt, plain_octets size s)
