use Rattle.std.proofs.Common.{◌∙◌, ap, sym, subst}
use Rattle.rlc_am_rx.specs.Assembly.{Pieces, got_of_pieces}
use Rattle.rlc_am_rx.specs.Elements.{PlacesFit}
use Rattle.rlc_am_rx.specs.Reassembly.{got_of}
use Rattle.rlc_am_rx.proofs.receiver.AmRx.add_gaps.Goals as goal

pub add_gaps-requires : goal.add_gaps-requires
add_gaps-requires c = subst (λ (p : Pieces). PlacesFit (got_of_pieces p)) (sym c.deref.ensures)
    (subst PlacesFit (c.in-Some-Partly.ensures.some ∙ ap got_of c.in-Some-Partly.field-0-is) c.requires.fit)
