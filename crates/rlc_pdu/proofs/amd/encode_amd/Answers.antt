use Rattle.std.proofs.Common.{◌≡◌, rules, subst, sym}
use Rattle.rlc_pdu.specs.Amd.{amd_of, IsAmd, amd_bytes}
use Rattle.rlc_pdu.proofs.Spelling.{spells}
use Rattle.rlc_pdu.proofs.amd.encode_amd.Goals as goal

pub returns-clause-spelt : goal.returns-clause-spelt
returns-clause-spelt c =
    let size = c.args.size in
    let v = amd_of c.args.pdu.now in
    let written : c.append-2.new.self ≡ amd_bytes size v = search rules in
    subst (IsAmd size v) (sym written) (spells size v c.requires)
