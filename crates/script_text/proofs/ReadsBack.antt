-- A line that was read is read from its own text as well.
use Rattle.std.proofs.Common.{◌≡◌, ℕ, suc, ◌<◌, ◌≤◌, Bool, true, false, cond, List, [], ◌∷◌, length, map, drop, Some, Ok, codes, refl, sym, ◌∙◌, ap, subst, arith, drop-cons}
use Rattle.std.specs.Fmt.{decimal}
use Rattle.std.proofs.Math.Nat.{lt_of_not-le}
use Rattle.std.proofs.lemmas.List.{length-map}
use Rattle.std.proofs.lemmas.Fmt.{decimal_digit}
use Rattle.script_text.specs.declared.line.Line.{Line as ALine}
use Rattle.script_text.specs.declared.line.Line.TheVariants.{Version as VersionLine}
use Rattle.script_text.specs.declared.reason.Reason.TheVariants.{Line, Text, Version, Word, Form, Range, Twice, Unknown, Limit, Map}
use Rattle.script_text.specs.declared.stage.Part.{Part}
use Rattle.script_text.specs.declared.stage.ScriptStage.{ScriptStage}
use Rattle.script_text.specs.Words.{words_of, word_at}
use Rattle.script_text.specs.Fields.{field_text, joined}
use Rattle.script_text.specs.Lines.{is_skipped, Spells, name, fields, part_of, line_text}
use Rattle.script_text.specs.Grammar.{IsBad, NoneHolds, Parses, IsBegun, lacks_version}
use Rattle.script_text.proofs.Bounds.{bounded}
use Rattle.script_text.proofs.Joined.{is_plain, words_of_joined, printable_joined, length-text, length-joined, total, total-cons}
use Rattle.script_text.proofs.OwnTexts.{relisted, plain_texts, as_long}
use Rattle.script_text.proofs.Parsed.{taken}

pub plain_name : (line : ALine) → is_plain (name line) ≡ true
plain_name (VersionLine n) = refl
plain_name line = refl

not_skipped : (line : ALine) → is_skipped (line_text line) ≡ false
not_skipped (VersionLine n) = refl
not_skipped line = refl

-- the words of a line's text
words_are : (ws : List (List ℕ)) (line : ALine) → Spells ws line → words_of (line_text line) ≡ name line ∷ map field_text (fields line)
words_are ws line x = words_of_joined (name line) (map field_text (fields line)) (plain_name line) (plain_texts 1 ws (fields line) (bounded line) x.holds)

own_words : (ws : List (List ℕ)) (line : ALine) → Spells ws line → Spells (name line ∷ map field_text (fields line)) line
own_words ws line x = record {
  count = ap suc (length-map (fields line) field_text);
  begins = refl;
  holds = relisted 1 (name line ∷ map field_text (fields line)) ws (fields line) (bounded line) x.holds refl;
}

pub text_spells : (ws : List (List ℕ)) (line : ALine) → Spells ws line → Spells (words_of (line_text line)) line
text_spells ws line x = subst (λ (us : List (List ℕ)). Spells us line) (sym (words_are ws line x)) (own_words ws line x)

-- the text is as long as any that spells the line
same_length : (text : List ℕ) (line : ALine) → Spells (words_of text) line → length (line_text line) ≡ length text
same_length text line x =
    let some : 0 < length (words_of text) = omega (arith, x.count) in
    let given = length-text text some in
    let made = length-joined (name line) (map field_text (fields line)) in
    let rest = as_long 1 (words_of text) (fields line) (bounded line) (omega (arith, x.count)) x.holds in
    omega (arith, given, made, rest, total-cons (name line) (map field_text (fields line)), ap length x.begins, ap total (drop-cons (words_of text) 0 [] some), total-cons (word_at 0 (words_of text)) (drop 1 (words_of text)))

pub version_text : (n : ℕ) → n ≡ 1 → line_text (VersionLine n) ≡ codes "relayscript 1"
version_text n e = ap (λ (m : ℕ). joined (codes "relayscript" ∷ decimal m ∷ [])) e ∙ ap (λ (w : List ℕ). joined (codes "relayscript" ∷ w ∷ [])) (decimal_digit 1 (omega arith))

opened : (ws : List (List ℕ)) (line : ALine) → Spells ws line → lacks_version (part_of line) (line_text line) ≡ false
opened ws (VersionLine n) x = ap (lacks_version (part_of (VersionLine n))) (version_text n (omega (arith, x.holds.0.1, x.holds.0.2)))
opened ws line x = refl

pub reads_back : (stage new : ScriptStage) (text : List ℕ) (line : ALine) → Parses stage text (Ok (Some line)) new → Parses stage (line_text line) (Ok (Some line)) new
reads_back stage new text line p =
    let none : NoneHolds (IsBad stage text) (Line ∷ Text ∷ Version ∷ Word ∷ Form ∷ Range ∷ Twice ∷ Unknown ∷ Limit ∷ Map ∷ []) =
    subst (λ (b : Bool). NoneHolds (IsBad stage text) (cond b (Line ∷ []) (Line ∷ Text ∷ Version ∷ Word ∷ Form ∷ Range ∷ Twice ∷ Unknown ∷ Limit ∷ Map ∷ []))) p.0 p.1 in
    let spelt = p.2.spelt in
    let again = text_spells (words_of text) line spelt in
    let bound : length text < 65537 = lt_of_not-le none.0 in
    let short : length (line_text line) ≤ 65536 = omega (arith, bound, same_length text line spelt) in
    let begun : IsBegun stage.part (line_text line) = record {
      printable = printable_joined (name line) (map field_text (fields line)) (plain_name line) (plain_texts 1 (words_of text) (fields line) (bounded line) spelt.holds);
      opened = subst (λ (part : Part). lacks_version part (line_text line) ≡ false) p.2.stands (opened (words_of text) line spelt);
      known = record { line = line; stands = p.2.stands; begins = again.begins };
    } in
    taken stage (line_text line) short (not_skipped line) line begun (record { stands = p.2.stands; spelt = again }) new p.3
