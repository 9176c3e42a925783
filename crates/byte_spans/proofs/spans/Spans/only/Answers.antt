use Rattle.std.proofs.Common.{◌∙◌, ◌++◌, ◌∷◌, [], ap}
use Rattle.byte_spans.proofs.Sets.{only_one}
use Rattle.byte_spans.proofs.spans.Spans.only.Goals as goal

pub returns : goal.returns
returns c = (only_one c.args.from c.args.to c.requires.some c.requires.within c.push_reserved.new.self.items (c.push_reserved.ensures.items ∙ ap (λ l. l ++ record { start = c.args.from; end = c.args.to } ∷ []) c.clear.ensures.items)).1
