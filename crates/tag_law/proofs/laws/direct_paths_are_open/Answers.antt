use Rattle.tag_law.proofs.TheOpen.{paths_are_open}
use Rattle.tag_law.proofs.laws.direct_paths_are_open.Goals as goal

pub returns : goal.returns
returns c = paths_are_open
