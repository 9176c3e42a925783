use Rattle.std.proofs.Common.{◌≡◌, ◌+◌, ◌%◌, false, Some, refl, ◌∙◌, ap, subst}
use Rattle.link_base.specs.SequenceNumbers.{modulus}
use Rattle.pdcp_pdu.specs.Pdcp.{Sdu, pdcp_bytes}
use Rattle.pdcp_model.specs.Sender.{Sender, has_next}
use Rattle.pdcp_tx.specs.Inside.{sender_of}
use Rattle.pdcp_tx.specs.Calls.{GivesNext}
use Rattle.pdcp_tx.proofs.Senders.{none_next, gives_next, data_pdu_long}
use Rattle.pdcp_tx.proofs.pdcp_tx.PdcpTx.next_pdu.Goals as goal

pub returns-in_default-clause-ok : goal.returns-in_default-clause-ok
returns-in_default-clause-ok c = (subst (λ (s : Sender). has_next s ≡ false) c.self.view_is (none_next (sender_of c.self.inside) c.self.inside.next c.self.invariant c.in_default.ensures.none), refl)

pub returns-clause-ok : goal.returns-clause-ok
returns-clause-ok c =
    let a = c.self.inside in
    let s = sender_of a in
    let count = a.first + a.next in
    let bytes =
    c.in_ok-bytes.ensures.bytes
    ∙ ap (λ m. pdcp_bytes a.size (Sdu (count % m) c.as_slice.result.now)) c.modulus.ensures
    ∙ ap (λ sdu. pdcp_bytes a.size (Sdu (count % modulus a.size) sdu)) c.as_slice.ensures
    in
    subst (λ (t : Sender). GivesNext t (Some (count, c.in_ok-bytes.bytes)) (record s { place = a.next + 1 })) c.self.view_is
    (gives_next s a.next c.in-Some.sdu.now count c.in_ok-bytes.bytes c.self.invariant c.if-self.false c.in-Some.ensures.some refl bytes)

pub returns-clause-octets : goal.returns-clause-octets
returns-clause-octets c =
    let body = c.self.invariant.sound.sdus c.self.inside.next c.in-Some.sdu.now c.in-Some.ensures.some in
    rw (c.in_ok-bytes.ensures.bytes, c.as_slice.ensures) (data_pdu_long c.self.inside.size _ c.in-Some.sdu.now body)
