use Rattle.std.proofs.Common.{ap, sym, subst}
use Rattle.std.proofs.lemmas.Bool.{both_ways}
use Rattle.rlc_pdu.specs.Amd.{amd_of}
use Rattle.rlc_am_rx.specs.Assembly.{got_of_pieces}
use Rattle.rlc_am_rx.specs.Reassembly.{got_of, PlacesPart, PlacesWhole}
use Rattle.rlc_model.specs.Rx.{Got}
use Rattle.rlc_model.specs.Rx.Got.{Done}
use Rattle.rlc_am_rx.proofs.Placed.{first_placed, whole_placed}
use Rattle.rlc_am_rx.proofs.reassembly.Entry.place.Goals.{in-Whole, in_default}
use Rattle.rlc_am_rx.proofs.reassembly.Entry.place.Goals as goal

pub returns-in_ok-sdu-in-Untouched-clause-ok : goal.returns-in_ok-sdu-in-Untouched-clause-ok
returns-in_ok-sdu-in-Untouched-clause-ok c = elim c.match-matches.branch [
  | in-Whole w ↦ subst (λ (g : Got). PlacesWhole g (amd_of c.args.pdu.now) c.in_ok-sdu-in-Untouched.sdu Done) (ap got_of (sym c.in-Untouched.is))
      (whole_placed (amd_of c.args.pdu.now) c.in_ok-sdu-in-Untouched.sdu w.in-Whole.is c.requires.fits.offset c.in_ok-sdu-in-Untouched.ensures)
  | in_default w ↦ absurd (both_ways c.match-matches.matches w.matches-is c.if-matches.true)
]

pub returns-in_ok-new-in-Untouched-2-clause-ok : goal.returns-in_ok-new-in-Untouched-2-clause-ok
returns-in_ok-new-in-Untouched-2-clause-ok c = elim c.match-matches.branch [
  | in-Whole w ↦ absurd (both_ways c.match-matches.matches c.if-matches.false w.matches-is)
  | in_default w ↦ subst (λ (g : Got). PlacesPart g (amd_of c.args.pdu.now) (got_of_pieces c.in_ok-new-in-Untouched-2.field-0.value)) (ap got_of (sym c.in-Untouched-2.is))
      (rw c.in_ok-new-in-Untouched-2.ensures.ok (first_placed (amd_of c.args.pdu.now) c.in_ok-assembly-in-Untouched-2.assembly c.place.new.self
      c.in_ok-assembly-in-Untouched-2.ensures.held c.in_ok-assembly-in-Untouched-2.ensures.len w.in_default.not-Whole c.requires.fits.offset
      c.in_ok-place-in-Untouched-2.ensures.ok))
]
