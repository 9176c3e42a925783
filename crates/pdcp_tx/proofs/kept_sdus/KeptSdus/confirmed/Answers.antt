use Rattle.std.proofs.Common.{sym, ◌∙◌, ap}
use Rattle.std.specs.List.{prefix_len}
use Rattle.std.specs.Option.{is_none}
use Rattle.pdcp_tx.proofs.Kept.{kept_front}
use Rattle.pdcp_tx.proofs.kept_sdus.KeptSdus.confirmed.Goals as goal

pub returns-clause-value : goal.returns-clause-value
returns-clause-value c = sym (kept_front c.self.inside.confirmed c.self.inside.sdus.items c.self.invariant.front) ∙ ap (prefix_len is_none) c.self.view_is
