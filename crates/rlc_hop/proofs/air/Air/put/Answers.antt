use Rattle.std.proofs.Common.{List, Option, is_some, count_by, ◌+◌, sym, ◌∙◌, ap}
use Rattle.std.specs.List.{prefix_len}
use Rattle.std.specs.Option.{is_none}
use Rattle.rlc_model.specs.declared.hop.Pdu.{Pdu}
use Rattle.rlc_hop.proofs.Lowest.{count_push, front_push}
use Rattle.rlc_hop.proofs.air.Air.put.Goals as goal

pub invariant_of-self-2 : goal.invariant_of-self-2
invariant_of-self-2 c =
    let pushed = sym c.in_ok-push.ensures.items in
    let pdus = c.self.inside.pdus.items in
    record {
      on_air = ap (λ n. n + 1) c.self.invariant.on_air ∙ sym (count_push pdus c.args.pdu) ∙ ap (λ (l : List (Option Pdu)). count_by is_some l) pushed;
      below = c.self.invariant.below ∙ sym (front_push pdus c.args.pdu) ∙ ap (λ (l : List (Option Pdu)). prefix_len is_none l) pushed;
    }
