use Rattle.std.proofs.Common.{length, ap, arith}
use Rattle.pdcp_model.specs.Sender.{is_reported}
use Rattle.pdcp_tx.specs.Inside.{sender_of}
use Rattle.pdcp_tx.proofs.Kept.{still_long}
use Rattle.pdcp_tx.proofs.Senders.{next_within, confirmed_knows}
use Rattle.pdcp_tx.proofs.pdcp_tx.PdcpTx.hear_report.Goals as goal

pub next_from-self-inside-requires : goal.next_from-self-inside-requires
next_from-self-inside-requires c =
    let a = c.self.inside in
    omega (arith, c.self.invariant.next, next_within (sender_of a) c.self.invariant.sound.turn, ap length c.confirm_reported.ensures, still_long (is_reported c.args.fmc c.args.map.now) a.first a.kept)

pub invariant_of-self : goal.invariant_of-self
invariant_of-self c =
    let a = c.self.inside in
    confirmed_knows (sender_of a) (is_reported c.args.fmc c.args.map.now) c.confirm_reported.new.self a.next c.next_from-self-inside.result c.self.invariant c.confirm_reported.ensures c.next_from-self-inside.ensures
