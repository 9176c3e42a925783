-- Words without spaces, joined by spaces and split again.
use Rattle.std.proofs.Common.{◌≡◌, ℕ, suc, ◌+◌, ◌<◌, Bool, true, false, List, [], ◌∷◌, ◌++◌, length, refl, sym, ◌∙◌, ap, arith, length-append, append-nil}
use Rattle.std.specs.Prelude.{nat_le, ◌&&◌, ◌==◌}
use Rattle.std.specs.List.{list_all, onto_first, join_with_byte, AllByRecursion}
use Rattle.std.proofs.lemmas.Bool.{leb-true, le-leb, eqb-true}
use Rattle.std.proofs.lemmas.List.Splits.{slice_split-cons_no, join_with_byte-slice_split}
use Rattle.std.proofs.lemmas.List.Folds.{list_all-append}
use Rattle.script_text.specs.Words.{words_of}
use Rattle.script_text.specs.Fields.{spaced, joined}
use Rattle.script_text.specs.Grammar.{is_printable}

-- a byte of a word: from 33 to 126
abbrev pub plain : ℕ → Bool
plain b = nat_le 33 b && nat_le b 126

abbrev pub is_plain : List ℕ → Bool
is_plain w = list_all plain w

pub first_of : (a b : Bool) → (a && b) ≡ true → a ≡ true
first_of true b e = refl
first_of false b e = e

pub second_of : (a b : Bool) → (a && b) ≡ true → b ≡ true
second_of true b e = e
second_of false b e = absurd cc

pub both_of : (a b : Bool) → a ≡ true → b ≡ true → (a && b) ≡ true
both_of true b x y = y
both_of false b x y = x

-- a byte of a word is no space
no_space : (b : ℕ) → plain b ≡ true → (b == 32) ≡ false
no_space b e =
    let low = leb-true 33 b (first_of (nat_le 33 b) (nat_le b 126) e) in
    elim (b == 32) as (λ v. ((b == 32) ≡ v) → v ≡ false) [ true ↦ λ same. absurd (omega (arith, low, eqb-true b 32 same)) | false ↦ λ same. refl ] refl

split_at : (w rest : List ℕ) → is_plain w ≡ true → words_of (w ++ 32 ∷ rest) ≡ w ∷ words_of rest
split_at [] rest e = refl
split_at (b ∷ w) rest e =
    slice_split-cons_no (λ c. c == 32) b (w ++ 32 ∷ rest) (no_space b (first_of (plain b) (is_plain w) e))
    ∙ ap (onto_first b) (split_at w rest (second_of (plain b) (is_plain w) e))

split_last : (w : List ℕ) → is_plain w ≡ true → words_of w ≡ w ∷ []
split_last [] e = refl
split_last (b ∷ w) e =
    slice_split-cons_no (λ c. c == 32) b w (no_space b (first_of (plain b) (is_plain w) e)) ∙ ap (onto_first b) (split_last w (second_of (plain b) (is_plain w) e))

pub words_of_joined : (w : List ℕ) (ws : List (List ℕ)) → is_plain w ≡ true → AllByRecursion (λ v. is_plain v ≡ true) ws → words_of (joined (w ∷ ws)) ≡ w ∷ ws
words_of_joined w [] e all = ap words_of (append-nil w) ∙ split_last w e
words_of_joined w (v ∷ ws) e all = split_at w (v ++ spaced ws) e ∙ ap (λ (us : List (List ℕ)). w ∷ us) (words_of_joined v ws all.0 all.1)

-- words are printable, and so is a text of words
printable_byte : (b : ℕ) → plain b ≡ true → (nat_le 32 b && nat_le b 126) ≡ true
printable_byte b e =
    let low = leb-true 33 b (first_of (nat_le 33 b) (nat_le b 126) e) in
    both_of (nat_le 32 b) (nat_le b 126) (le-leb 32 b (omega arith)) (second_of (nat_le 33 b) (nat_le b 126) e)

printable_word : (w : List ℕ) → is_plain w ≡ true → is_printable w ≡ true
printable_word [] e = refl
printable_word (b ∷ w) e = both_of _ _ (printable_byte b (first_of (plain b) (is_plain w) e)) (printable_word w (second_of (plain b) (is_plain w) e))

printable_append : (v w : List ℕ) → is_printable v ≡ true → is_printable w ≡ true → is_printable (v ++ w) ≡ true
printable_append v w x y = list_all-append (λ b. nat_le 32 b && nat_le b 126) v w ∙ both_of _ _ x y

printable_spaced : (ws : List (List ℕ)) → AllByRecursion (λ v. is_plain v ≡ true) ws → is_printable (spaced ws) ≡ true
printable_spaced [] all = refl
printable_spaced (w ∷ ws) all = printable_append w (spaced ws) (printable_word w all.0) (printable_spaced ws all.1)

pub printable_joined : (w : List ℕ) (ws : List (List ℕ)) → is_plain w ≡ true → AllByRecursion (λ v. is_plain v ≡ true) ws → is_printable (joined (w ∷ ws)) ≡ true
printable_joined w ws e all = printable_append w (spaced ws) (printable_word w e) (printable_spaced ws all)

-- how many bytes words have, each with the space before it
pub total : List (List ℕ) → ℕ
total [] = 0
total (w ∷ ws) = suc (length w + total ws)

pub total-cons : (w : List ℕ) (ws : List (List ℕ)) → total (w ∷ ws) ≡ suc (length w + total ws)
unfolding total
total-cons w ws = refl

pub total-nil : total [] ≡ 0
unfolding total
total-nil = refl

length-spaced : (ws : List (List ℕ)) → length (spaced ws) ≡ total ws
length-spaced [] = sym total-nil
length-spaced (w ∷ ws) = omega (arith, length-append w (spaced ws), length-spaced ws, total-cons w ws)

pub length-joined : (w : List ℕ) (ws : List (List ℕ)) → suc (length (joined (w ∷ ws))) ≡ total (w ∷ ws)
length-joined w ws = omega (arith, length-append w (spaced ws), length-spaced ws, total-cons w ws)

length-join : (w : List ℕ) (ws : List (List ℕ)) → suc (length (join_with_byte 32 (w ∷ ws))) ≡ total (w ∷ ws)
length-join w [] = omega (arith, total-cons w [], total-nil)
length-join w (v ∷ ws) = omega (arith, length-append w (32 ∷ join_with_byte 32 (v ∷ ws)), length-join v ws, total-cons w (v ∷ ws))

-- a text that isn't empty of words is as long as its words and the spaces between them
total_words : (ws : List (List ℕ)) (text : List ℕ) → 0 < length ws → join_with_byte 32 ws ≡ text → suc (length text) ≡ total ws
total_words [] text some e = absurd (omega (arith, some))
total_words (w ∷ ws) text some e = ap (λ (t : List ℕ). suc (length t)) (sym e) ∙ length-join w ws

pub length-text : (text : List ℕ) → 0 < length (words_of text) → suc (length text) ≡ total (words_of text)
length-text text some = total_words (words_of text) text some (join_with_byte-slice_split 32 text)
