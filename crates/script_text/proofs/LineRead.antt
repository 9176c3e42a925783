-- What the words of a line were read as, and what they are.
use Rattle.std.proofs.Common.{◌≡◌, ℕ, suc, ◌+◌, ◌<◌, ◌≤◌, Bool, true, false, cond, List, [], ◌∷◌, length, drop, codes, Option, None, Some, refl, sym, ◌∙◌, ap, subst, arith, length-drop, ◌⊎◌, inl, inr}
use Rattle.std.specs.Prelude.{◌&&◌, ◌==◌}
use Rattle.std.specs.Str.{bytes_eq}
use Rattle.std.proofs.lemmas.Slice.Eq.{bytes_eq-Decides}
use Rattle.std.proofs.lemmas.List.Splits.{length-slice_split}
use Rattle.link_base.specs.declared.names.Goal.TheVariants.{Direct as Straight, Relay as Over}
use Rattle.bearer_map.specs.declared.settings.SetName.{SetName}
use Rattle.bearer_map.specs.declared.settings.SetName.TheVariants.{Queue, Report as Reports, PollPdu, PollByte, MaxRetx}
use Rattle.script_text.specs.declared.line.Line.{Line}
use Rattle.script_text.specs.declared.line.Line.TheVariants.{Version, Set, Remote, Bearer, Uu, Pc5, Map, Start, Path, Go, Submit, Grant, Deliver, Repeat, Lose, Stage, Expire, Push, Pull, Burst, Report, Plan, Apply, Drain, End}
use Rattle.script_text.specs.declared.reader.Reader.{Reader}
use Rattle.script_text.specs.declared.reason.Reason.{Reason}
use Rattle.script_text.specs.declared.reason.Reason.TheVariants as reasons
use Rattle.script_text.specs.declared.stage.Part.{Part}
use Rattle.script_text.specs.Words.{words_of, word_at, is_numeral}
use Rattle.script_text.specs.Fields.{Field, Number, Size, Hex, Port, Way, Side, Timer, Node, Setting, ToDirect, ToRelay, IsSpelt, AreSpelt}
use Rattle.script_text.specs.Lines.{name, fields, value_of, Spells, IsLineOf, IsNoLineOf}
use Rattle.script_text.specs.Forms.{is_shaped, are_shaped, HasForm, IsFormed, IsNamed}
use Rattle.script_text.specs.Reading.{words_left, next_word, Skips, NoneSpelt, IsLineRead, fault_in}
use Rattle.script_text.proofs.Joined.{first_of, second_of}
use Rattle.script_text.proofs.OneLine.{form, named, form_is, setting_one}
use Rattle.script_text.proofs.ReaderSteps.{FirstUnspelt, AllTaken, all_left, all_spelt, all_formed, all_taken, first_unspelt, long_enough}

same_number : (a b : Line) → name a ≡ name b → form a ≡ form b
same_number a b e = sym (form_is a) ∙ (ap named e ∙ form_is b)

apart : (w : List ℕ) → w ≡ codes "relay" → bytes_eq w (codes "direct") ≡ true → ⊥
apart w e d = let clash = sym d ∙ ap (λ (v : List ℕ). bytes_eq v (codes "direct")) e in cc

value_form : (s : SetName) (n : ℕ) (w : List ℕ) → is_shaped w (value_of s n) ≡ is_numeral w
value_form Queue n w = refl
value_form Reports n w = refl
value_form PollPdu n w = refl
value_form PollByte n w = refl
value_form MaxRetx n w = refl

-- lines with one name that have the form of the same words have the same forms of words
same_form : (ws : List (List ℕ)) (a b : Line) → AllTaken 1 ws (fields a) → name a ≡ name b → HasForm ws b → (length (fields a) ≡ length (fields b)) × (are_shaped 1 ws (fields a) ≡ true)
same_form ws (Version a0) (Version b0) t e x = (refl, x.shaped)
same_form ws (Set a0 a1) (Set b0 b1) t e x =
    (refl, ap (λ (b : Bool). is_shaped (word_at 1 ws) (Setting a0) && (b && true)) (value_form a0 a1 (word_at 2 ws) ∙ sym (value_form b0 b1 (word_at 2 ws))) ∙ x.shaped)
same_form ws (Remote a0) (Remote b0) t e x = (refl, x.shaped)
same_form ws (Bearer a0 a1 a2 a3) (Bearer b0 b1 b2 b3) t e x = (refl, x.shaped)
same_form ws (Uu a0 a1) (Uu b0 b1) t e x = (refl, x.shaped)
same_form ws (Pc5 a0 a1 a2) (Pc5 b0 b1 b2) t e x = (refl, x.shaped)
same_form ws (Map a0 a1 a2 a3) (Map b0 b1 b2 b3) t e x = (refl, x.shaped)
same_form ws (Start a0 a1) (Start b0 b1) t e x = (refl, x.shaped)
same_form ws (Path a0 Straight) (Path b0 Straight) t e x = (refl, x.shaped)
same_form ws (Path a0 (Over a1)) (Path b0 (Over b1)) t e x = (refl, x.shaped)
same_form ws (Path a0 Straight) (Path b0 (Over b1)) t e x = absurd (t.1.0 ((bytes_eq-Decides (word_at 2 ws) (codes "relay")).0 (first_of _ _ (second_of _ _ x.shaped))))
same_form ws (Path a0 (Over a1)) (Path b0 Straight) t e x = absurd (apart (word_at 2 ws) t.1.0 (first_of _ _ (second_of _ _ x.shaped)))
same_form ws Go Go t e x = (refl, x.shaped)
same_form ws (Submit a0 a1) (Submit b0 b1) t e x = (refl, x.shaped)
same_form ws (Grant a0 a1 a2) (Grant b0 b1 b2) t e x = (refl, x.shaped)
same_form ws (Deliver a0) (Deliver b0) t e x = (refl, x.shaped)
same_form ws (Repeat a0) (Repeat b0) t e x = (refl, x.shaped)
same_form ws (Lose a0) (Lose b0) t e x = (refl, x.shaped)
same_form ws (Stage a0) (Stage b0) t e x = (refl, x.shaped)
same_form ws (Expire a0 a1 a2) (Expire b0 b1 b2) t e x = (refl, x.shaped)
same_form ws (Push a0) (Push b0) t e x = (refl, x.shaped)
same_form ws (Pull a0) (Pull b0) t e x = (refl, x.shaped)
same_form ws Burst Burst t e x = (refl, x.shaped)
same_form ws (Report a0) (Report b0) t e x = (refl, x.shaped)
same_form ws (Plan a0 Straight) (Plan b0 Straight) t e x = (refl, x.shaped)
same_form ws (Plan a0 (Over a1)) (Plan b0 (Over b1)) t e x = (refl, x.shaped)
same_form ws (Plan a0 Straight) (Plan b0 (Over b1)) t e x = absurd (t.1.0 ((bytes_eq-Decides (word_at 2 ws) (codes "relay")).0 (first_of _ _ (second_of _ _ x.shaped))))
same_form ws (Plan a0 (Over a1)) (Plan b0 Straight) t e x = absurd (apart (word_at 2 ws) t.1.0 (first_of _ _ (second_of _ _ x.shaped)))
same_form ws (Apply a0 a1) (Apply b0 b1) t e x = (refl, x.shaped)
same_form ws Drain Drain t e x = (refl, x.shaped)
same_form ws End End t e x = (refl, x.shaped)
same_form ws a b t e x = absurd (let same = same_number a b e in omega (arith, same))

-- the fields are of one kind, with the same range
abbrev pub SameKind : Field → Field → Type 0
SameKind (Number low high m) (Number low' high' n) = (low ≡ low') × (high ≡ high')
SameKind (Size a) (Size b) = Unit {0}
SameKind (Hex a) (Hex b) = Unit {0}
SameKind (Port a) (Port b) = Unit {0}
SameKind (Way a) (Way b) = Unit {0}
SameKind (Side a) (Side b) = Unit {0}
SameKind (Timer a) (Timer b) = Unit {0}
SameKind (Node a) (Node b) = Unit {0}
SameKind (Setting a) (Setting b) = Unit {0}
SameKind ToDirect ToDirect = Unit {0}
SameKind ToRelay ToRelay = Unit {0}
SameKind f g = ⊥

abbrev pub SameKinds : List Field → List Field → Type 0
SameKinds [] [] = Unit {0}
SameKinds (f ∷ fs) (g ∷ gs) = SameKind f g × SameKinds fs gs
SameKinds fs gs = ⊥

unlike : (w : List ℕ) (f g : Field) → SameKind f g → NoneSpelt w f → IsSpelt w g → ⊥
unlike w (Number low high m) (Number low' high' n) k none x = none n (x.0, omega (arith, x.1, k.0), omega (arith, x.2, k.1))
unlike w (Size a) (Size b) k none x = none b x
unlike w (Hex a) (Hex b) k none x = none b x
unlike w (Port a) (Port b) k none x = none b x
unlike w (Way a) (Way b) k none x = none b x
unlike w (Side a) (Side b) k none x = none b x
unlike w (Timer a) (Timer b) k none x = none b x
unlike w (Node a) (Node b) k none x = none b x
unlike w (Setting a) (Setting b) k none x = none b x
unlike w ToDirect ToDirect k none x = none x
unlike w ToRelay ToRelay k none x = none x
unlike w f g k none x = absurd k

clash : (k : ℕ) (ws : List (List ℕ)) (fs gs : List Field) → SameKinds fs gs → FirstUnspelt k ws fs → AreSpelt k ws gs → ⊥
clash k ws [] gs same u x = u
clash k ws (f ∷ fs) [] same u x = same
clash k ws (f ∷ fs) (g ∷ gs) same (inl none) x = unlike (word_at k ws) f g same.0 none x.0
clash k ws (f ∷ fs) (g ∷ gs) same (inr u) x = clash (suc k) ws fs gs same.1 u.1 x.1

value_kind : (s : SetName) (m n : ℕ) → SameKind (value_of s m) (value_of s n)
value_kind Queue m n = (refl, refl)
value_kind Reports m n = (refl, refl)
value_kind PollPdu m n = (refl, refl)
value_kind PollByte m n = (refl, refl)
value_kind MaxRetx m n = (refl, refl)

no_set : (ws : List (List ℕ)) (s t : SetName) (m n : ℕ) → FirstUnspelt 1 ws (Setting s ∷ value_of s m ∷ []) → AreSpelt 1 ws (Setting t ∷ value_of t n ∷ []) → ⊥
no_set ws s t m n (inl none) x = none t x.0
no_set ws s t m n (inr (e, inl none)) x =
    let same = setting_one s t (sym e ∙ x.0) in
    unlike (word_at 2 ws) (value_of s m) (value_of t n) (subst (λ (r : SetName). SameKind (value_of s m) (value_of r n)) same (value_kind s m n)) none x.1.0
no_set ws s t m n (inr (e, inr u)) x = u.1

-- words that weren't read as what a line holds spell no line of its name
no_other : (ws : List (List ℕ)) (a b : Line) → AllTaken 1 ws (fields a) → FirstUnspelt 1 ws (fields a) → name a ≡ name b → Spells ws b → ⊥
no_other ws (Version a0) (Version b0) t u e x = clash 1 ws (fields (Version a0)) (fields (Version b0)) ((refl, refl), tt) u x.holds
no_other ws (Set a0 a1) (Set b0 b1) t u e x = no_set ws a0 b0 a1 b1 u x.holds
no_other ws (Remote a0) (Remote b0) t u e x = clash 1 ws (fields (Remote a0)) (fields (Remote b0)) ((refl, refl), tt) u x.holds
no_other ws (Bearer a0 a1 a2 a3) (Bearer b0 b1 b2 b3) t u e x = clash 1 ws (fields (Bearer a0 a1 a2 a3)) (fields (Bearer b0 b1 b2 b3)) ((refl, refl), ((refl, refl), (tt, (tt, tt)))) u x.holds
no_other ws (Uu a0 a1) (Uu b0 b1) t u e x = clash 1 ws (fields (Uu a0 a1)) (fields (Uu b0 b1)) ((refl, refl), (tt, tt)) u x.holds
no_other ws (Pc5 a0 a1 a2) (Pc5 b0 b1 b2) t u e x = clash 1 ws (fields (Pc5 a0 a1 a2)) (fields (Pc5 b0 b1 b2)) ((refl, refl), ((refl, refl), (tt, tt))) u x.holds
no_other ws (Map a0 a1 a2 a3) (Map b0 b1 b2 b3) t u e x = clash 1 ws (fields (Map a0 a1 a2 a3)) (fields (Map b0 b1 b2 b3)) ((refl, refl), ((refl, refl), ((refl, refl), ((refl, refl), tt)))) u x.holds
no_other ws (Start a0 a1) (Start b0 b1) t u e x = clash 1 ws (fields (Start a0 a1)) (fields (Start b0 b1)) ((refl, refl), ((refl, refl), (tt, ((refl, refl), tt)))) u x.holds
no_other ws (Path a0 Straight) (Path b0 Straight) t u e x = clash 1 ws (fields (Path a0 Straight)) (fields (Path b0 Straight)) ((refl, refl), (tt, tt)) u x.holds
no_other ws (Path a0 (Over a1)) (Path b0 (Over b1)) t u e x = clash 1 ws (fields (Path a0 (Over a1))) (fields (Path b0 (Over b1))) ((refl, refl), (tt, ((refl, refl), tt))) u x.holds
no_other ws (Path a0 Straight) (Path b0 (Over b1)) t u e x = t.1.0 x.holds.1.0
no_other ws (Path a0 (Over a1)) (Path b0 Straight) t u e x = apart (word_at 2 ws) t.1.0 ((bytes_eq-Decides (word_at 2 ws) (codes "direct")).1 x.holds.1.0)
no_other ws Go Go t u e x = clash 1 ws (fields Go) (fields Go) tt u x.holds
no_other ws (Submit a0 a1) (Submit b0 b1) t u e x = clash 1 ws (fields (Submit a0 a1)) (fields (Submit b0 b1)) ((refl, refl), ((refl, refl), (tt, (tt, tt)))) u x.holds
no_other ws (Grant a0 a1 a2) (Grant b0 b1 b2) t u e x = clash 1 ws (fields (Grant a0 a1 a2)) (fields (Grant b0 b1 b2)) (tt, (tt, ((refl, refl), tt))) u x.holds
no_other ws (Deliver a0) (Deliver b0) t u e x = clash 1 ws (fields (Deliver a0)) (fields (Deliver b0)) ((refl, refl), tt) u x.holds
no_other ws (Repeat a0) (Repeat b0) t u e x = clash 1 ws (fields (Repeat a0)) (fields (Repeat b0)) ((refl, refl), tt) u x.holds
no_other ws (Lose a0) (Lose b0) t u e x = clash 1 ws (fields (Lose a0)) (fields (Lose b0)) ((refl, refl), tt) u x.holds
no_other ws (Stage a0) (Stage b0) t u e x = clash 1 ws (fields (Stage a0)) (fields (Stage b0)) ((refl, refl), tt) u x.holds
no_other ws (Expire a0 a1 a2) (Expire b0 b1 b2) t u e x = clash 1 ws (fields (Expire a0 a1 a2)) (fields (Expire b0 b1 b2)) (tt, (tt, (tt, tt))) u x.holds
no_other ws (Push a0) (Push b0) t u e x = clash 1 ws (fields (Push a0)) (fields (Push b0)) (tt, tt) u x.holds
no_other ws (Pull a0) (Pull b0) t u e x = clash 1 ws (fields (Pull a0)) (fields (Pull b0)) (tt, tt) u x.holds
no_other ws Burst Burst t u e x = clash 1 ws (fields Burst) (fields Burst) tt u x.holds
no_other ws (Report a0) (Report b0) t u e x = clash 1 ws (fields (Report a0)) (fields (Report b0)) ((refl, refl), ((refl, refl), (tt, tt))) u x.holds
no_other ws (Plan a0 Straight) (Plan b0 Straight) t u e x = clash 1 ws (fields (Plan a0 Straight)) (fields (Plan b0 Straight)) ((refl, refl), (tt, tt)) u x.holds
no_other ws (Plan a0 (Over a1)) (Plan b0 (Over b1)) t u e x = clash 1 ws (fields (Plan a0 (Over a1))) (fields (Plan b0 (Over b1))) ((refl, refl), (tt, ((refl, refl), tt))) u x.holds
no_other ws (Plan a0 Straight) (Plan b0 (Over b1)) t u e x = t.1.0 x.holds.1.0
no_other ws (Plan a0 (Over a1)) (Plan b0 Straight) t u e x = apart (word_at 2 ws) t.1.0 ((bytes_eq-Decides (word_at 2 ws) (codes "direct")).1 x.holds.1.0)
no_other ws (Apply a0 a1) (Apply b0 b1) t u e x = clash 1 ws (fields (Apply a0 a1)) (fields (Apply b0 b1)) ((refl, refl), (tt, tt)) u x.holds
no_other ws Drain Drain t u e x = clash 1 ws (fields Drain) (fields Drain) tt u x.holds
no_other ws End End t u e x = clash 1 ws (fields End) (fields End) tt u x.holds
no_other ws a b t u e x = absurd (let same = same_number a b e in omega (arith, same))

-- what a reader that found this fault says of the words
abbrev pub FaultMeans : Part → List (List ℕ) → Line → Option Reason → Type 0
FaultMeans part ws line None = IsLineOf part ws line
FaultMeans part ws line (Some reasons.Range) = IsFormed part ws × IsNoLineOf part ws
FaultMeans part ws line (Some reasons.Form) = IsFormed part ws → ⊥
FaultMeans part ws line (Some reason) = ⊥

pub some_words : (text : List ℕ) → 1 ≤ length (words_of text)
some_words text = omega (arith, length-slice_split (λ b. b == 32) text)

module _ (part : Part) (text : List ℕ) (line : Line) (old new : Reader) (x : IsLineRead part (word_at 0 (words_of text)) old line new)
    (left : words_left old ≡ drop 1 (words_of text)) (formed : old.is_formed ≡ true) (spelt : old.is_spelt ≡ true) (some : 1 ≤ length (words_of text)) where
  same_name : (b : Line) → word_at 0 (words_of text) ≡ name b → name line ≡ name b
  same_name b e = sym x.begins ∙ e

  taken : AllTaken 1 (words_of text) (fields line)
  taken = all_taken 1 (words_of text) (fields line) old new x.reads left

  and_true : (a b : Bool) → b ≡ true → (a && b) ≡ a
  and_true true b e = e
  and_true false b e = refl

  shapes : new.is_formed ≡ are_shaped 1 (words_of text) (fields line)
  shapes = all_formed 1 (words_of text) (fields line) old new x.reads left ∙ and_true _ _ formed

  behind : words_left new ≡ drop (1 + length (fields line)) (words_of text)
  behind = all_left 1 (words_of text) (fields line) old new x.reads left

  all_read : new.is_done ≡ true → length (words_of text) ≤ 1 + length (fields line)
  all_read d =
      let none : words_left new ≡ [] = ap (λ (b : Bool). cond b [] (words_of new.rest.now)) d in
      let count : length (drop (1 + length (fields line)) (words_of text)) ≡ 0 = ap length (sym behind ∙ none) in
      omega (arith, length-drop (1 + length (fields line)) (words_of text), count)

  some_left : new.is_done ≡ false → 1 + length (fields line) < length (words_of text)
  some_left d =
      let rest : words_left new ≡ words_of new.rest.now = ap (λ (b : Bool). cond b [] (words_of new.rest.now)) d in
      let count : length (drop (1 + length (fields line)) (words_of text)) ≡ length (words_of new.rest.now) = ap length (sym behind ∙ rest) in
      omega (arith, length-drop (1 + length (fields line)) (words_of text), count, some_words new.rest.now)

  as_many : new.is_done ≡ true → are_shaped 1 (words_of text) (fields line) ≡ true → length (words_of text) ≡ suc (length (fields line))
  as_many d e = omega (arith, all_read d, long_enough 1 (words_of text) (fields line) some e)

  formless : IsFormed part (words_of text) → (new.is_done ≡ false) ⊎ (new.is_formed ≡ false) → ⊥
  formless y (inl d) =
      let same = same_form (words_of text) line y.line taken (same_name y.line y.form.begins) y.form in
      omega (arith, some_left d, same.0, y.form.count)
  formless y (inr f) =
      let same = same_form (words_of text) line y.line taken (same_name y.line y.form.begins) y.form in
      let clash = sym f ∙ (shapes ∙ same.1) in
      cc

  go : (d f s : Bool) → new.is_done ≡ d → new.is_formed ≡ f → new.is_spelt ≡ s → FaultMeans part (words_of text) line (cond (d && f) (cond s None (Some reasons.Range)) (Some reasons.Form))
  go true true true d f s = record {
    stands = x.stands;
    spelt = record { count = as_many d (sym shapes ∙ f); begins = x.begins; holds = (all_spelt 1 (words_of text) (fields line) old new x.reads left s).1 };
  }
  go true true false d f s = (
    record { line = line; stands = x.stands; form = record { count = as_many d (sym shapes ∙ f); begins = x.begins; shaped = sym shapes ∙ f } },
    λ b y. no_other (words_of text) line b taken (first_unspelt 1 (words_of text) (fields line) old new x.reads left spelt s) (same_name b y.spelt.begins) y.spelt,
  )
  go true false s d f e = λ y. formless y (inr f)
  go false f s d g e = λ y. formless y (inl d)

  pub fault_means : (fault : Option Reason) → fault ≡ fault_in new → FaultMeans part (words_of text) line fault
  fault_means fault e = subst (λ (o : Option Reason). FaultMeans part (words_of text) line o) (sym e) (go new.is_done new.is_formed new.is_spelt refl refl refl)

-- what a text is whose words were read as a line
pub record IsReadAs (part : Part) (text : List ℕ) (line : Line) (new : Reader) : Type 0 where
  pub known : IsNamed part (word_at 0 (words_of text))
  pub means : (fault : Option Reason) → fault ≡ fault_in new → FaultMeans part (words_of text) line fault

pub read_as_line : (part : Part) (text word : List ℕ) (line : Line) (first old new : Reader) → words_left first ≡ words_of text → first.is_formed ≡ true → first.is_spelt ≡ true
    → word ≡ next_word first → Skips first old → IsLineRead part word old line new → IsReadAs part text line new
read_as_line part text word line first old new words formed spelt same skips x =
    let here : word ≡ word_at 0 (words_of text) = same ∙ ap (word_at 0) words in
    let y = subst (λ (w : List ℕ). IsLineRead part w old line new) here x in
    record {
      known = record { line = line; stands = y.stands; begins = y.begins };
      means = fault_means part text line old new y (skips.left ∙ ap (drop 1) words) (skips.formed ∙ formed) (skips.spelt ∙ spelt) (some_words text);
    }
