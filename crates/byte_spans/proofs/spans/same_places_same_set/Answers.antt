use Rattle.std.proofs.Common.{false, ◌∙◌, sym}
use Rattle.std.proofs.lemmas.List.{ext_get_or}
use Rattle.byte_spans.proofs.spans.same_places_same_set.Goals as goal

pub returns : goal.returns
returns c = λ a b p q same. ext_get_or false a b (p ∙ sym q) (λ place _. same place)
