use Rattle.std.proofs.Common.{ℕ, false, sym, subst}
use Rattle.pdcp_tx.specs.Inside.{sender_of, Knows}
use Rattle.pdcp_tx.proofs.Senders.{back_sound, back_next}
use Rattle.pdcp_tx.proofs.pdcp_tx.PdcpTx.go_on.Goals as goal

pub invariant_of-self : goal.invariant_of-self
invariant_of-self c =
    let s = sender_of c.self.inside in
    subst (λ (n : ℕ). Knows (record s { waits = false; place = n }) n) (sym c.confirmed-self-inside.ensures.value)
    (record { sound = back_sound s false c.self.invariant.sound; next = back_next s })
