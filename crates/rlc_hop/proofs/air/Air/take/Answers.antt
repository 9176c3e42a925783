use Rattle.std.proofs.Common.{◌≡◌, Option, None, ◌∙◌, ap}
use Rattle.std.proofs.Math.ListN.{set}
use Rattle.rlc_model.specs.declared.hop.Pdu.{Pdu}
use Rattle.rlc_hop.proofs.Lowest.{front_off}
use Rattle.rlc_hop.proofs.air.Air.take.Goals as goal

pub lowest_place-self-inside-requires : goal.lowest_place-self-inside-requires
lowest_place-self-inside-requires c =
    let pdus = c.self.inside.pdus.items in
    let off : c.deref.result.now ≡ set pdus c.in_ok-place.place None = c.deref.ensures.value ∙ ap (λ (o : Option Pdu). set pdus c.in_ok-place.place o) c.take.ensures.after in
    rw (c.self.invariant.below, off) (front_off pdus c.in_ok-place.place)
