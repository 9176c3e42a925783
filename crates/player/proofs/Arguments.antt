-- The words behind the first argument.
use Rattle.std.proofs.Common.{◌≡◌, [], drop, refl, sym, ◌∙◌, ap}
use Rattle.std.specs.declared.option.Option.{Option}
use Rattle.std.specs.declared.option.Option.TheVariants.{Some, None}
use Rattle.std.specs.declared.vec.IntoIter.{IntoIter}
use Rattle.std.specs.Vec.Iter.{into_iter_items, into_iter_steps}
use Rattle.std.proofs.IntoIterSteps.{All-taken}

-- behind one step stand the items without their first, where there is one
pub behind_first : {X A : Type 0} (s t : IntoIter X A) (first : Option X) → into_iter_steps s first t → into_iter_items t ≡ drop 1 (into_iter_items s)
behind_first s t (Some x) step = sym (ap (drop 1) step.0)
behind_first s t None step =
    let before : [] ≡ into_iter_items s = All-taken s [] (t, (s, refl, step)) in
    let after : [] ≡ into_iter_items t = All-taken t [] (t, (t, refl, (step.1, step.1))) in
    sym after ∙ ap (drop 1) before
