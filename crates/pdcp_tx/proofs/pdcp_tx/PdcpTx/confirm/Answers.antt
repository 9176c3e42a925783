use Rattle.std.proofs.Common.{ℕ, Bool, ◌==◌, length, sym, ◌∙◌, ap, arith}
use Rattle.std.proofs.lemmas.List.{length-set}
use Rattle.pdcp_model.specs.Sender.{Sender, confirms}
use Rattle.pdcp_tx.specs.Inside.{sender_of}
use Rattle.pdcp_tx.proofs.Kept.{Sdus, none, still_one}
use Rattle.pdcp_tx.proofs.Senders.{next_within, confirmed_knows}
use Rattle.pdcp_tx.proofs.pdcp_tx.PdcpTx.confirm.Goals as goal

pub next_from-self-inside-requires : goal.next_from-self-inside-requires
next_from-self-inside-requires c =
    let a = c.self.inside in
    omega (arith, c.self.invariant.next, next_within (sender_of a) c.self.invariant.sound.turn, ap length c.confirm.ensures, length-set a.kept c.from.result none)

pub invariant_of-self : goal.invariant_of-self
invariant_of-self c =
    let a = c.self.inside in
    let p : ℕ → Bool = λ n. n == c.args.count in
    let kept = c.confirm.ensures ∙ sym (still_one c.args.count a.first c.from.result a.kept (omega (arith, ap (λ (s : Sender). s.first) c.self.view_is))) in
    confirmed_knows (sender_of a) p c.confirm.new.self a.next c.next_from-self-inside.result c.self.invariant kept c.next_from-self-inside.ensures

pub returns : goal.returns
returns c =
    let a = c.self.inside in
    let p : ℕ → Bool = λ n. n == c.args.count in
    let kept = c.confirm.ensures ∙ sym (still_one c.args.count a.first c.from.result a.kept (omega (arith, ap (λ (s : Sender). s.first) c.self.view_is))) in
    ap (λ (l : Sdus). record (sender_of a) { kept = l }) kept ∙ ap (λ (s : Sender). confirms s p) c.self.view_is
