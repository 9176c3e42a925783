use Rattle.std.proofs.Common.{sym, ◌∙◌, ap, subst, arith}
use Rattle.std.proofs.lemmas.Bool.Decides.{nat_tests}
use Rattle.pdcp_model.specs.Sender.{tx_next}
use Rattle.pdcp_tx.specs.Inside.{sender_of, Knows}
use Rattle.pdcp_tx.proofs.Kept.{Sdus}
use Rattle.pdcp_tx.proofs.Senders.{accepts_sound, accepts_next}
use Rattle.pdcp_tx.proofs.pdcp_tx.PdcpTx.submit.Goals as goal

pub invariant_of-self-2 : goal.invariant_of-self-2
invariant_of-self-2 c =
    let s = sender_of c.self.inside in
    subst (λ (l : Sdus). Knows (record s { kept = l }) c.self.inside.next) (sym c.in_default.ensures.ok)
    (record { sound = accepts_sound s c.args.sdu.now c.self.invariant.sound (grind (arith, nat_tests, c.is_empty.ensures), omega arith) (omega (arith, c.tx_next-count.ensures, ap tx_next c.self.view_is)) (omega arith); next = c.self.invariant.next ∙ sym (accepts_next s c.args.sdu.now c.self.invariant.sound.turn) })
