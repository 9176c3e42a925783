use Rattle.std.proofs.Common.{List, refl, sym, ◌∙◌, subst, arith}
use Rattle.bearer_map.specs.declared.rows.MapRow.{MapRow}
use Rattle.node_end.specs.Fed.{Covers}
use Rattle.node_end.specs.Ports.{is_mapped}
use Rattle.node_end.proofs.Covering.{gathers_push, gathers_skip, gathers_all}
use Rattle.node_end.proofs.served.channel_at.Goals.{then-is_mapped+in_ok-push, else-is_mapped}
use Rattle.node_end.proofs.served.channel_at.Goals as goal

pub loop-place-preserved : goal.loop-place-preserved
loop-place-preserved c =
    let test = is_mapped c.args.maps.now c.args.port in
    let g = c.loop-place.invariant in
    elim c.if-is_mapped.branch [
      | then-is_mapped+in_ok-push w ↦ rw (w.places-is, w.in_ok-push.ensures.items) (gathers_push c.args.bearers.now test c.loop-place.places.items c.loop-place.place g)
      | else-is_mapped w ↦ let fails = sym c.is_mapped.ensures ∙ w.if-is_mapped.false in
          rw w.places-is (gathers_skip c.args.bearers.now test c.loop-place.places.items c.loop-place.place g c.key.result c.key.ensures.sent c.key.ensures.received fails refl)
    ]

pub returns : goal.returns
returns c = record {
  covers = λ t same.
      subst (λ (maps : List MapRow). Covers c.args.bearers.now (is_mapped maps c.args.port) c.loop-place.places.items) (sym same)
      (gathers_all c.args.bearers.now (is_mapped c.args.maps.now c.args.port) c.loop-place.places.items c.loop-place.place
      (omega (arith, c.loop-place-test.false, c.len-place-end.ensures.sent, c.loop-place.auto.place-end)) (omega (arith, c.loop-place-test.false, c.len-place-end.ensures.received, c.loop-place.auto.place-end)) c.loop-place.invariant);
}
