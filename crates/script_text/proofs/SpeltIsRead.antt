-- A text that spells a line which may stand at a stage is read as that line.
use Rattle.std.proofs.Common.{◌≡◌, ℕ, suc, ◌+◌, ◌≤◌, true, false, List, [], ◌∷◌, ◌++◌, length, drop, Some, Ok, codes, refl, sym, ◌∙◌, ap, subst, arith, inl, inr, append-nil, drop-cons}
use Rattle.std.specs.Fmt.{decimal}
use Rattle.std.specs.List.{join_with_byte, AllByRecursion}
use Rattle.std.proofs.Math.ListN.{drop_of_length-le}
use Rattle.std.proofs.lemmas.List.Splits.{join_with_byte-slice_split}
use Rattle.script_text.specs.declared.line.Line.{Line}
use Rattle.script_text.specs.declared.line.Line.TheVariants.{Version}
use Rattle.script_text.specs.declared.stage.Part.{Part}
use Rattle.script_text.specs.declared.stage.ScriptStage.{ScriptStage}
use Rattle.script_text.specs.Words.{words_of, word_at, IsHex}
use Rattle.script_text.specs.Fields.{Field, Number, Hex, Port, IsSpelt, AreSpelt, joined}
use Rattle.script_text.specs.Lines.{is_skipped, Spells, IsLineOf, name, fields, part_of}
use Rattle.script_text.specs.Stages.{after}
use Rattle.script_text.specs.Grammar.{Parses, IsBegun, is_printable, lacks_version}
use Rattle.script_text.proofs.Bounds.{IsBounded, AreBounded, bounded}
use Rattle.script_text.proofs.Joined.{is_plain, printable_joined}
use Rattle.script_text.proofs.PlainWords.{plain_decimal, plain_hex, plain_port}
use Rattle.script_text.proofs.PortTexts.{port_is}
use Rattle.script_text.proofs.OwnTexts.{own}
use Rattle.script_text.proofs.ReadsBack.{plain_name, version_text}
use Rattle.script_text.proofs.Parsed.{taken}

-- a word that holds something has no spaces
plain_hex_word : (w bytes : List ℕ) → IsHex w bytes → is_plain w ≡ true
plain_hex_word w bytes (inl x) = ap is_plain x.0
plain_hex_word w bytes (inr x) = plain_hex w bytes x.1

plain_word : (w : List ℕ) (f : Field) → IsBounded f → IsSpelt w f → is_plain w ≡ true
plain_word w (Number low high n) small x = ap is_plain x.0 ∙ plain_decimal n (omega (arith, small, x.2))
plain_word w (Hex bytes) small x = plain_hex_word w bytes x
plain_word w (Port p) small x = ap is_plain (port_is w p x) ∙ plain_port w p x
plain_word w f small x = ap is_plain x ∙ (own w f small x).plain

plain_words : (k : ℕ) (ws : List (List ℕ)) (fs : List Field) → AreBounded fs → length ws ≡ k + length fs → AreSpelt k ws fs → AllByRecursion (λ v. is_plain v ≡ true) (drop k ws)
plain_words k ws [] small count x = subst (λ (us : List (List ℕ)). AllByRecursion (λ v. is_plain v ≡ true) us) (sym (drop_of_length-le ws (omega (arith, count)))) tt
plain_words k ws (f ∷ fs) small count x =
    subst (λ (us : List (List ℕ)). AllByRecursion (λ v. is_plain v ≡ true) us) (sym (drop-cons ws k [] (omega (arith, count))))
    (plain_word (word_at k ws) f small.0 x.0, plain_words (suc k) ws fs small.1 (omega (arith, count)) x.1)

join_is_joined : (w : List ℕ) (ws : List (List ℕ)) → join_with_byte 32 (w ∷ ws) ≡ joined (w ∷ ws)
join_is_joined w [] = sym (append-nil w)
join_is_joined w (v ∷ ws) = ap (λ (t : List ℕ). w ++ 32 ∷ t) (join_is_joined v ws)

-- the text is the line's name and the words behind it
spelt_words : (ws : List (List ℕ)) (line : Line) → Spells ws line → ws ≡ name line ∷ drop 1 ws
spelt_words ws line x = drop-cons ws 0 [] (omega (arith, x.count)) ∙ ap (λ (w : List ℕ). w ∷ drop 1 ws) x.begins

spelt_text : (text : List ℕ) (line : Line) → Spells (words_of text) line → text ≡ joined (name line ∷ drop 1 (words_of text))
spelt_text text line x =
    sym (join_with_byte-slice_split 32 text) ∙ (ap (join_with_byte 32) (spelt_words (words_of text) line x) ∙ join_is_joined (name line) (drop 1 (words_of text)))

no_name_is_skipped : (line : Line) (ws : List (List ℕ)) → is_skipped (joined (name line ∷ ws)) ≡ false
no_name_is_skipped (Version n) ws = refl
no_name_is_skipped line ws = refl

not_skipped : (text : List ℕ) (line : Line) → Spells (words_of text) line → is_skipped text ≡ false
not_skipped text line x = ap is_skipped (spelt_text text line x) ∙ no_name_is_skipped line (drop 1 (words_of text))

printable : (text : List ℕ) (line : Line) → Spells (words_of text) line → is_printable text ≡ true
printable text line x =
    ap is_printable (spelt_text text line x)
    ∙ printable_joined (name line) (drop 1 (words_of text)) (plain_name line) (plain_words 1 (words_of text) (fields line) (bounded line) (omega (arith, x.count)) x.holds)

-- the version's one number is 1
version_number : (ws : List (List ℕ)) (n : ℕ) → Spells ws (Version n) → drop 1 ws ≡ decimal n ∷ []
version_number ws n x =
    let last : drop 2 ws ≡ [] = drop_of_length-le ws {i = 2} (omega (arith, x.count)) in
    drop-cons ws 1 [] (omega (arith, x.count)) ∙ (ap (λ (w : List ℕ). w ∷ drop 2 ws) x.holds.0.0 ∙ ap (λ (us : List (List ℕ)). decimal n ∷ us) last)

opened : (text : List ℕ) (line : Line) → Spells (words_of text) line → lacks_version (part_of line) text ≡ false
opened text (Version n) x =
    ap (lacks_version (part_of (Version n)))
    (spelt_text text (Version n) x ∙ (ap (λ (ws : List (List ℕ)). joined (codes "relayscript" ∷ ws)) (version_number (words_of text) n x) ∙ version_text n (omega (arith, x.holds.0.1, x.holds.0.2))))
opened text line x = refl

begun : (text : List ℕ) (line : Line) → Spells (words_of text) line → IsBegun (part_of line) text
begun text line x = record { printable = printable text line x; opened = opened text line x; known = record { line = line; stands = refl; begins = x.begins } }

pub spelt_is_read : (stage new : ScriptStage) (text : List ℕ) (line : Line) → length text ≤ 65536 → IsLineOf stage.part (words_of text) line → after stage line ≡ Ok new → Parses stage text (Ok (Some line)) new
spelt_is_read stage new text line short is e =
    taken stage text short (not_skipped text line is.spelt) line (subst (λ (part : Part). IsBegun part text) is.stands (begun text line is.spelt)) is new e
