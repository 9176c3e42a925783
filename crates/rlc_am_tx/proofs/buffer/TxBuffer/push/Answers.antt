use Rattle.std.proofs.Common.{◌≡◌, ℕ, ◌+◌, ◌<◌, ◌^◌, true, List, [], ◌∷◌, ◌++◌, length, Option, Some, sym, ◌∙◌, ap, subst, arith}
use Rattle.std.specs.Ordering.{nat_cmp}
use Rattle.std.specs.BTreeSet.{contains}
use Rattle.std.proofs.lemmas.List.{length_push}
use Rattle.rlc_model.specs.Tx.{Kept}
use Rattle.rlc_am_tx.specs.Inside.{IsTidy}
use Rattle.rlc_am_tx.proofs.Numbers.{kept_long}
use Rattle.rlc_am_tx.proofs.Pushed.{pushed_tidy}
use Rattle.rlc_am_tx.proofs.buffer.TxBuffer.push.Goals as goal

pub invariant_of-self-2 : goal.invariant_of-self-2
invariant_of-self-2 c =
    let a = c.self.inside in
    let waits : ℕ → Type 0 = λ n. contains nat_cmp a.waiting n ≡ true in
    let items : c.push_back.new.self.items ≡ a.kept_sdus.items ++ Some c.new-kept_sdu.result ∷ [] = c.in-Ok-push_back.ensures.items ∙ ap (λ (l : List (Option Kept)). l ++ Some c.new-kept_sdu.result ∷ []) c.reserve.ensures.items in
    let small : a.next_ack + length a.kept_sdus.items < 2 ^ 62 = omega (arith, kept_long a.next_ack a.kept_sdus.items, ap length c.self.view_is, c.requires.small) in
    let k = c.new-kept_sdu.ensures in
    record {
      tidy = subst (λ (l : List (Option Kept)). IsTidy a.next_ack l (a.unconfirmed + 1) a.unsent waits) (sym items)
          (pushed_tidy a.next_ack a.kept_sdus.items a.unconfirmed a.unsent waits c.new-kept_sdu.result c.self.invariant.tidy
          (record { some = rw k c.requires.some; long = rw k c.requires.long; sent = rw k (omega arith) })
          (ap (λ (s : Kept). s.flags) k) small);
      names = c.make_room.ensures.forgotten;
      room = omega (arith, ap length items, length_push a.kept_sdus.items (Some c.new-kept_sdu.result), c.in-Ok-make_room.ensures.ok);
    }
