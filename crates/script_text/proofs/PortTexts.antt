-- A port is spelt in one way: as it is written.
use Rattle.std.proofs.Common.{◌≡◌, ℕ, ◌+◌, ◌<◌, ◌^◌, lit<, List, [], ◌∷◌, ◌++◌, length, get_or, drop, refl, ◌∙◌, ap, arith, length-drop}
use Rattle.std.specs.Prelude.{◌==◌}
use Rattle.std.specs.Fmt.{decimal}
use Rattle.std.specs.List.{before_first, after_first, position_or_len}
use Rattle.std.proofs.lemmas.Bool.{eqb-true}
use Rattle.std.proofs.lemmas.Fmt.{decimal_nonempty}
use Rattle.std.proofs.lemmas.List.Sums.{split_at_first, passes_at_first}
use Rattle.link_base.specs.declared.names.PortName.{PortName}
use Rattle.link_base.specs.declared.names.PortName.TheVariants.{Direct, Pc5, Uu}
use Rattle.script_text.specs.Words.{IsPort, IsNumber, port_text}

-- what stands behind a point isn't empty, so there is one
there_is : (rest back : List ℕ) → 0 < length back → after_first (λ b. b == 46) rest ≡ back → position_or_len (λ b. b == 46) rest < length rest
there_is rest back some e = omega (arith, some, length-drop (position_or_len (λ b. b == 46) rest + 1) rest, ap length e)

pub parted : (rest front back : List ℕ) → 0 < length back → before_first (λ b. b == 46) rest ≡ front → after_first (λ b. b == 46) rest ≡ back → rest ≡ front ++ 46 ∷ back
parted rest front back some x y =
    let lt = there_is rest back some y in
    let point = eqb-true _ _ (passes_at_first (λ b. b == 46) rest 0 lt) in
    split_at_first (λ b. b == 46) rest 0 lt
    ∙ (ap (λ (v : List ℕ). v ++ (get_or rest (position_or_len (λ b. b == 46) rest) 0 ∷ after_first (λ b. b == 46) rest)) x
    ∙ (ap (λ (c : ℕ). front ++ (c ∷ after_first (λ b. b == 46) rest)) point ∙ ap (λ (v : List ℕ). front ++ (46 ∷ v)) y))

lettered : (w rest : List ℕ) (letter : ℕ) → 0 < letter → get_or w 0 0 ≡ letter → drop 1 w ≡ rest → w ≡ letter ∷ rest
lettered [] rest letter some x y = absurd (omega (arith, some, x))
lettered (b ∷ w) rest letter some x y = ap (λ (c : ℕ). c ∷ w) x ∙ ap (λ (v : List ℕ). letter ∷ v) y

two_numbers : (w back : List ℕ) (m n high : ℕ) → high < 2 ^ 64 → before_first (λ b. b == 46) (drop 1 w) ≡ decimal m → IsNumber 1 high back n → after_first (λ b. b == 46) (drop 1 w) ≡ back → drop 1 w ≡ decimal m ++ 46 ∷ decimal n
two_numbers w back m n high small x num y = parted (drop 1 w) (decimal m) (decimal n) (decimal_nonempty n (omega (arith, small, num.2))) x (y ∙ num.0)

pub port_is : (w : List ℕ) (p : PortName) → IsPort w p → w ≡ port_text p
port_is w (Direct r d) x = lettered w _ 100 (omega arith) x.0 (two_numbers w _ r.0 d.0 32 (lit< tt) x.1.0 x.2 refl)
port_is w (Pc5 r c) x = lettered w _ 112 (omega arith) x.0 (two_numbers w _ r.0 c.0 8 (lit< tt) x.1.0 x.2 refl)
port_is w (Uu c) x = lettered w _ 117 (omega arith) x.0 x.1.0
