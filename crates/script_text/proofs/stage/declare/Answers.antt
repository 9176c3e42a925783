use Rattle.script_text.proofs.stage.declare.Goals as goal

pub returns-in-Bearer : goal.returns-in-Bearer
returns-in-Bearer c = rw c.in-Bearer.is (rw (c.from-in-Bearer.ensures, c.from-in-Bearer-2.ensures, c.bits.ensures, c.bits-in-Bearer.ensures) at c.bearer.ensures)
