use Rattle.player.proofs.command.show_command.Goals as goal

pub returns-in-None : goal.returns-in-None
returns-in-None c = λ form bytes named spells.
    let none = rw c.in-None.is at c.in_ok-bytes.ensures in
    none bytes spells.digits
