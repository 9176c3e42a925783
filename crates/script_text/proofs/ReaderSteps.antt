-- What a reader knows of the words that it read.
use Rattle.std.proofs.Common.{◌≡◌, ℕ, zero, suc, ◌+◌, ◌<◌, ◌≤◌, Bool, true, false, cond, List, [], ◌∷◌, ◌++◌, length, drop, get_or, refl, sym, ◌∙◌, ap, subst, arith, ◌⊎◌, inl, inr}
use Rattle.std.specs.Prelude.{◌&&◌, ◌==◌}
use Rattle.std.specs.List.{All}
use Rattle.std.proofs.lemmas.List.Splits.{slice_split_at, slice_split_none}
use Rattle.std.proofs.lemmas.Bool.{cases_lt, eqb-true}
use Rattle.std.proofs.lemmas.List.Elements.{All-from_get_or}
use Rattle.std.proofs.lemmas.List.{get_or-drop, get_or_past}
use Rattle.script_text.specs.declared.reader.Reader.{Reader}
use Rattle.script_text.specs.Words.{words_of, word_at}
use Rattle.script_text.specs.Splits.{HasNo}
use Rattle.script_text.specs.Fields.{Field, Number, Size, Hex, Port, Way, Side, Timer, Node, Setting, ToDirect, ToRelay, IsSpelt, AreSpelt}
use Rattle.script_text.specs.Forms.{is_shaped, are_shaped}
use Rattle.script_text.specs.Reading.{words_left, next_word, NoneSpelt, Skips, Misspells, IsTakenFor, Reads, ReadsAll}
use Rattle.script_text.proofs.Joined.{first_of, second_of}

-- of these fields one isn't spelt, and those before it are
abbrev pub FirstUnspelt : ℕ → List (List ℕ) → List Field → Type 0
FirstUnspelt k ws [] = ⊥
FirstUnspelt k ws (f ∷ fs) = NoneSpelt (word_at k ws) f ⊎ (IsSpelt (word_at k ws) f × FirstUnspelt (suc k) ws fs)

abbrev pub AllTaken : ℕ → List (List ℕ) → List Field → Type 0
AllTaken k ws [] = Unit {0}
AllTaken k ws (f ∷ fs) = IsTakenFor (word_at k ws) f × AllTaken (suc k) ws fs

word_here : (k : ℕ) (ws : List (List ℕ)) → word_at 0 (drop k ws) ≡ word_at k ws
word_here k ws = get_or-drop k ws 0 [] ∙ ap (λ (n : ℕ). get_or ws n []) (let same : k + 0 ≡ k = omega arith in same)

at_word : (k : ℕ) (ws : List (List ℕ)) (r : Reader) → words_left r ≡ drop k ws → next_word r ≡ word_at k ws
at_word k ws r e = ap (word_at 0) e ∙ word_here k ws

next_drop : (k : ℕ) (ws : List (List ℕ)) → drop 1 (drop k ws) ≡ drop (suc k) ws
next_drop zero ws = refl
next_drop (suc k) [] = refl
next_drop (suc k) (w ∷ ws) = next_drop k ws

behind : (k : ℕ) (ws : List (List ℕ)) (old mid : Reader) → words_left mid ≡ drop 1 (words_left old) → words_left old ≡ drop k ws → words_left mid ≡ drop (suc k) ws
behind k ws old mid x e = x ∙ (ap (drop 1) e ∙ next_drop k ws)

pub all_left : (k : ℕ) (ws : List (List ℕ)) (fs : List Field) (old new : Reader) → ReadsAll old fs new → words_left old ≡ drop k ws → words_left new ≡ drop (k + length fs) ws
all_left k ws [] old new x e = ap words_left x ∙ (e ∙ ap (λ (n : ℕ). drop n ws) (let same : k ≡ k + 0 = omega arith in same))
all_left k ws (f ∷ fs) old new x e =
    all_left (suc k) ws fs x.0 new x.2 (behind k ws old x.0 x.1.left e) ∙ ap (λ (n : ℕ). drop n ws) (let same : suc k + length fs ≡ k + suc (length fs) = omega arith in same)

pub all_spelt : (k : ℕ) (ws : List (List ℕ)) (fs : List Field) (old new : Reader) → ReadsAll old fs new → words_left old ≡ drop k ws → new.is_spelt ≡ true → (old.is_spelt ≡ true) × AreSpelt k ws fs
all_spelt k ws [] old new x e t = (ap (λ (r : Reader). r.is_spelt) (sym x) ∙ t, tt)
all_spelt k ws (f ∷ fs) old new x e t =
    let rest = all_spelt (suc k) ws fs x.0 new x.2 (behind k ws old x.0 x.1.left e) t in
    let here = x.1.spelt rest.0 in
    (here.0, (subst (λ (w : List ℕ). IsSpelt w f) (at_word k ws old e) here.1, rest.1))

both_ways : (a b c : Bool) → (a && (b && c)) ≡ ((b && a) && c)
both_ways true true c = refl
both_ways true false c = refl
both_ways false true c = refl
both_ways false false c = refl

pub all_formed : (k : ℕ) (ws : List (List ℕ)) (fs : List Field) (old new : Reader) → ReadsAll old fs new → words_left old ≡ drop k ws → new.is_formed ≡ (are_shaped k ws fs && old.is_formed)
all_formed k ws [] old new x e = ap (λ (r : Reader). r.is_formed) x
all_formed k ws (f ∷ fs) old new x e =
    all_formed (suc k) ws fs x.0 new x.2 (behind k ws old x.0 x.1.left e)
    ∙ (ap (λ (b : Bool). are_shaped (suc k) ws fs && b) (x.1.formed ∙ ap (λ (w : List ℕ). is_shaped w f && old.is_formed) (at_word k ws old e))
    ∙ both_ways (are_shaped (suc k) ws fs) (is_shaped (word_at k ws) f) old.is_formed)

pub all_taken : (k : ℕ) (ws : List (List ℕ)) (fs : List Field) (old new : Reader) → ReadsAll old fs new → words_left old ≡ drop k ws → AllTaken k ws fs
all_taken k ws [] old new x e = tt
all_taken k ws (f ∷ fs) old new x e =
    (subst (λ (w : List ℕ). IsTakenFor w f) (at_word k ws old e) x.1.taken, all_taken (suc k) ws fs x.0 new x.2 (behind k ws old x.0 x.1.left e))

pub first_unspelt : (k : ℕ) (ws : List (List ℕ)) (fs : List Field) (old new : Reader) → ReadsAll old fs new → words_left old ≡ drop k ws → old.is_spelt ≡ true → new.is_spelt ≡ false → FirstUnspelt k ws fs
first_unspelt k ws [] old new x e t u = let clash = sym t ∙ (ap (λ (r : Reader). r.is_spelt) (sym x) ∙ u) in absurd cc
first_unspelt k ws (f ∷ fs) old new x e t u =
    elim x.0.is_spelt as (λ b. x.0.is_spelt ≡ b → NoneSpelt (word_at k ws) f ⊎ (IsSpelt (word_at k ws) f × FirstUnspelt (suc k) ws fs)) [
      | true ↦ λ yes_here.
          inr (subst (λ (w : List ℕ). IsSpelt w f) (at_word k ws old e) (x.1.spelt yes_here).1, first_unspelt (suc k) ws fs x.0 new x.2 (behind k ws old x.0 x.1.left e) yes_here u)
      | false ↦ λ no_here. inl (subst (λ (w : List ℕ). NoneSpelt w f) (at_word k ws old e) (x.1.unspelt t no_here))
    ] refl

-- where no word is, no field has a form
blank : (f : Field) → is_shaped [] f ≡ false
blank (Number low high n) = refl
blank (Size s) = refl
blank (Hex b) = refl
blank (Port p) = refl
blank (Way w) = refl
blank (Side s) = refl
blank (Timer t) = refl
blank (Node n) = refl
blank (Setting s) = refl
blank ToDirect = refl
blank ToRelay = refl

is_there : (k : ℕ) (ws : List (List ℕ)) (f : Field) → is_shaped (word_at k ws) f ≡ true → k < length ws
is_there k ws f e =
    elim (cases_lt k (length ws)) [
      | inl less ↦ less
      | inr past ↦
          let none : word_at k ws ≡ [] = get_or_past ws k [] past in
          absurd (let clash = sym e ∙ (ap (λ (w : List ℕ). is_shaped w f) none ∙ blank f) in cc)
    ]

pub long_enough : (k : ℕ) (ws : List (List ℕ)) (fs : List Field) → k ≤ length ws → are_shaped k ws fs ≡ true → k + length fs ≤ length ws
long_enough k ws [] room e = omega (arith, room)
long_enough k ws (f ∷ fs) room e =
    let here = is_there k ws f (first_of (is_shaped (word_at k ws) f) (are_shaped (suc k) ws fs) e) in
    let rest = long_enough (suc k) ws fs (omega arith) (second_of (is_shaped (word_at k ws) f) (are_shaped (suc k) ws fs) e) in
    omega (arith, rest)

pub two : (old mid new : Reader) (fs gs : List Field) → ReadsAll old fs mid → ReadsAll mid gs new → ReadsAll old (fs ++ gs) new
two old mid new [] gs x y = subst (λ (r : Reader). ReadsAll r gs new) x y
two old mid new (f ∷ fs) gs x y = (x.0, x.1, two x.0 mid new fs gs x.2 y)

differs : (a b : ℕ) → (a ≡ b → ⊥) → (a == b) ≡ false
differs a b ne = elim (a == b) as (λ v. ((a == b) ≡ v) → v ≡ false) [ true ↦ λ same. absurd (ne (eqb-true a b same)) | false ↦ λ same. refl ] refl

as_all : (byte : ℕ) (bytes : List ℕ) → HasNo byte bytes → All (λ b. (b == byte) ≡ false) bytes
as_all byte bytes none = All-from_get_or (λ b. (b == byte) ≡ false) bytes 0 (λ i lt. differs (get_or bytes i 0) byte (none i lt))

pub first_word : (rest word after : List ℕ) → rest ≡ word ++ 32 ∷ after → HasNo 32 word → words_of rest ≡ word ∷ words_of after
first_word rest word after e none = ap words_of e ∙ slice_split_at (λ b. b == 32) word 32 after (as_all 32 word none) refl

pub last_word : (rest : List ℕ) → HasNo 32 rest → words_of rest ≡ rest ∷ []
last_word rest none = slice_split_none (λ b. b == 32) rest (as_all 32 rest none)

pub head_word : (done : Bool) (ws vs : List (List ℕ)) (w : List ℕ) → done ≡ false → ws ≡ w ∷ vs → w ≡ word_at 0 (cond done [] ws)
head_word done ws vs w d e = sym (ap (λ (b : Bool). word_at 0 (cond b [] ws)) d ∙ ap (word_at 0) e)

pub tail_words : (done : Bool) (ws vs : List (List ℕ)) (w : List ℕ) → done ≡ false → ws ≡ w ∷ vs → cond done [] vs ≡ drop 1 (cond done [] ws)
tail_words done ws vs w d e = ap (λ (b : Bool). cond b [] vs) d ∙ sym (ap (λ (b : Bool). drop 1 (cond b [] ws)) d ∙ ap (drop 1) e)

pub no_more : (done : Bool) (ws : List (List ℕ)) (w : List ℕ) → ws ≡ w ∷ [] → [] ≡ drop 1 (cond done [] ws)
no_more true ws w e = refl
no_more false ws w e = sym (ap (drop 1) e)

-- the word spells the field
pub read_as : (old new : Reader) (f : Field) (w : List ℕ) → Skips old new → w ≡ next_word old → IsSpelt w f → is_shaped w f ≡ true → IsTakenFor w f → Reads old f new
read_as old new f w skips e x shape taken = record {
  left = skips.left;
  formed = skips.formed ∙ sym (ap (λ (b : Bool). b && old.is_formed) (ap (λ (v : List ℕ). is_shaped v f) (sym e) ∙ shape));
  spelt = λ t. (sym skips.spelt ∙ t, subst (λ (v : List ℕ). IsSpelt v f) e x);
  unspelt = λ t u. absurd (let clash = sym t ∙ (sym skips.spelt ∙ u) in cc);
  taken = subst (λ (v : List ℕ). IsTakenFor v f) e taken;
}

-- the word spells nothing of the field's kind
pub misread_as : (old mid new : Reader) (f : Field) (w : List ℕ) → Skips old mid → Misspells (is_shaped w f) mid new → w ≡ next_word old → NoneSpelt w f → IsTakenFor w f → Reads old f new
misread_as old mid new f w skips misspells e none taken = record {
  left = misspells.left ∙ skips.left;
  formed = misspells.formed ∙ (ap (λ (v : List ℕ). is_shaped v f && mid.is_formed) e ∙ ap (λ (b : Bool). is_shaped (next_word old) f && b) skips.formed);
  spelt = λ t. absurd (let clash = sym t ∙ misspells.spelt in cc);
  unspelt = λ t u. subst (λ (v : List ℕ). NoneSpelt v f) e none;
  taken = subst (λ (v : List ℕ). IsTakenFor v f) e taken;
}
