-- Rows of a table in strict order.
use Rattle.std.specs.Prelude.{◌≡◌, Bool, true, List, [], ◌∷◌}
use Rattle.std.specs.List.{AllByRecursion}

-- each row stands before all behind it
abbrev pub AreOrdered : {T : Type 0} → (T → T → Bool) → List T → Type 0
AreOrdered before [] = Unit {0}
AreOrdered before (row ∷ rows) = AllByRecursion (λ other. before row other ≡ true) rows × AreOrdered before rows
