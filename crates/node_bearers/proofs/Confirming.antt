-- A COUNT that no SDU accepted has.
use Rattle.std.proofs.Common.{◌≡◌, ◌⊎◌, ℕ, ◌+◌, ◌<◌, ◌≤◌, Bool, false, List, [], ◌∷◌, length, Option, refl, ap, arith}
use Rattle.std.specs.Prelude.{◌==◌}
use Rattle.std.proofs.lemmas.Bool.Decides.{nat_tests}
use Rattle.pdcp_model.specs.Sender.{still_kept}

-- to confirm it changes nothing
pub none_confirmed : (count at : ℕ) (sdus : List (Option (List ℕ))) → (count < at) ⊎ (at + length sdus ≤ count) → still_kept (λ other. other == count) at sdus ≡ sdus
none_confirmed count at [] outside = refl
none_confirmed count at (sdu ∷ sdus) outside =
    let other : (at == count) ≡ false = grind (arith, nat_tests) in
    rw other (ap (λ ss. sdu ∷ ss) (none_confirmed count (at + 1) sdus (grind arith)))
