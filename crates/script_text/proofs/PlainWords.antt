-- The texts of a line's words have no spaces.
use Rattle.std.proofs.Common.{◌≡◌, ℕ, ◌<◌, ◌≤◌, ◌^◌, ◌-◌, Bool, true, false, cond, List, [], ◌∷◌, ◌++◌, Some, None, refl, ◌∙◌, arith, is_some, ◌⊎◌, inl, inr}
use Rattle.std.specs.Prelude.{nat_le, ◌&&◌}
use Rattle.std.specs.Fmt.{decimal}
use Rattle.std.specs.List.{list_all}
use Rattle.std.specs.Char.{is_ascii_digit}
use Rattle.std.proofs.lemmas.Bool.{leb-true, le-leb}
use Rattle.std.proofs.lemmas.List.Folds.{list_all-append}
use Rattle.std.proofs.lemmas.List.Sums.{list_all-from_AllPass}
use Rattle.hex.specs.Hex.{is_hex_digit, decode_of}
use Rattle.hex.proofs.HexLemmas.{decode_of-ok}
use Rattle.std.specs.Prelude.{Ok}
use Rattle.link_base.specs.declared.names.PortName.{PortName}
use Rattle.link_base.specs.declared.names.PortName.TheVariants.{Direct, Pc5, Uu}
use Rattle.script_text.specs.Words.{IsPort, port_text}
use Rattle.script_text.proofs.Numerals.{numeral}
use Rattle.script_text.proofs.Joined.{plain, is_plain, first_of, second_of, both_of}

between : (low high b : ℕ) → 33 ≤ low → high ≤ 126 → (nat_le low b && nat_le b high) ≡ true → plain b ≡ true
between low high b x y e =
    let above = leb-true low b (first_of (nat_le low b) (nat_le b high) e) in
    let below = leb-true b high (second_of (nat_le low b) (nat_le b high) e) in
    both_of _ _ (le-leb 33 b (omega arith)) (le-leb b 126 (omega arith))

plain_digit : (b : ℕ) → is_ascii_digit b ≡ true → plain b ≡ true
plain_digit b e = between 48 57 b (omega arith) (omega arith) e

plain_all : (p : ℕ → Bool) → ((b : ℕ) → p b ≡ true → plain b ≡ true) → (w : List ℕ) → list_all p w ≡ true → is_plain w ≡ true
plain_all p f [] e = refl
plain_all p f (b ∷ w) e = both_of _ _ (f b (first_of _ _ e)) (plain_all p f w (second_of _ _ e))

pub plain_decimal : (n : ℕ) → n < 2 ^ 64 → is_plain (decimal n) ≡ true
plain_decimal n small = plain_all is_ascii_digit plain_digit (decimal n) (second_of _ _ (first_of _ _ (numeral n small)))

-- which of three tests gave a value
chosen : (a b c : Bool) (x y z : ℕ) → is_some (cond a (Some x) (cond b (Some y) (cond c (Some z) None))) ≡ true → (a ≡ true) ⊎ ((b ≡ true) ⊎ (c ≡ true))
chosen true b c x y z e = inl refl
chosen false true c x y z e = inr (inl refl)
chosen false false true x y z e = inr (inr refl)
chosen false false false x y z e = absurd cc

plain_hex_digit : (b : ℕ) → is_hex_digit b ≡ true → plain b ≡ true
plain_hex_digit b e = elim (chosen (nat_le 65 b && nat_le b 70) (nat_le 97 b && nat_le b 102) (nat_le 48 b && nat_le b 57) (b - 55) (b - 87) (b - 48) e) [
  | inl x ↦ between 65 70 b (omega arith) (omega arith) x
  | inr (inl x) ↦ between 97 102 b (omega arith) (omega arith) x
  | inr (inr x) ↦ between 48 57 b (omega arith) (omega arith) x
]

pub plain_hex : (w bytes : List ℕ) → decode_of w ≡ Ok bytes → is_plain w ≡ true
plain_hex w bytes e = plain_all is_hex_digit plain_hex_digit w (list_all-from_AllPass is_hex_digit w (decode_of-ok w bytes e).1)

pub plain_append : (v w : List ℕ) → is_plain v ≡ true → is_plain w ≡ true → is_plain (v ++ w) ≡ true
plain_append v w x y = list_all-append plain v w ∙ both_of _ _ x y

pub plain_port : (w : List ℕ) (p : PortName) → IsPort w p → is_plain (port_text p) ≡ true
plain_port w (Direct r d) x = plain_append (decimal r.0) _ (plain_decimal r.0 (omega (arith, x.1.2))) (plain_decimal d.0 (omega (arith, x.2.2)))
plain_port w (Pc5 r c) x = plain_append (decimal r.0) _ (plain_decimal r.0 (omega (arith, x.1.2))) (plain_decimal c.0 (omega (arith, x.2.2)))
plain_port w (Uu c) x = plain_decimal c.0 (omega (arith, x.1.2))
