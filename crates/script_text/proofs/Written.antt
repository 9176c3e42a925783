-- How a line's words are written, one behind the other.
use Rattle.std.proofs.Common.{◌≡◌, ℕ, List, [], ◌∷◌, ◌++◌, refl, sym, ◌∙◌, ap, append-nil}
use Rattle.std.proofs.lemmas.List.{append_assoc}
use Rattle.std.specs.Fmt.{decimal}
use Rattle.bearer_map.specs.declared.settings.SetName.{SetName}
use Rattle.bearer_map.specs.declared.settings.SetName.TheVariants.{Queue, Report as Reports, PollPdu, PollByte, MaxRetx}
use Rattle.script_text.specs.Fields.{field_text, spaced, joined}
use Rattle.script_text.specs.Lines.{value_of}

-- words were added, each behind a space
pub record Adds (old : List ℕ) (ws : List (List ℕ)) (new : List ℕ) : Type 0 where
  pub is : new ≡ old ++ spaced ws

pub many : (old new : List ℕ) (ws : List (List ℕ)) → new ≡ old ++ spaced ws → Adds old ws new
many old new ws e = record { is = e }

pub one : (old new v w : List ℕ) → new ≡ old ++ 32 ∷ v → v ≡ w → Adds old (w ∷ []) new
one old new v w e same = record { is = e ∙ ap (λ (u : List ℕ). old ++ 32 ∷ u) (same ∙ sym (append-nil w)) }

spaced_append : (us vs : List (List ℕ)) → spaced (us ++ vs) ≡ spaced us ++ spaced vs
spaced_append [] vs = refl
spaced_append (u ∷ us) vs = ap (λ (t : List ℕ). 32 ∷ u ++ t) (spaced_append us vs) ∙ sym (append_assoc (32 ∷ u) (spaced us) (spaced vs))

pub next : {a b c : List ℕ} {us vs : List (List ℕ)} → Adds a us b → Adds b vs c → Adds a (us ++ vs) c
next {a = a} {b = b} {c = c} {us = us} {vs = vs} x y = record {
  is = y.is ∙ (ap (λ (t : List ℕ). t ++ spaced vs) x.is ∙ (append_assoc a (spaced us) (spaced vs) ∙ ap (λ (t : List ℕ). a ++ t) (sym (spaced_append us vs))));
}

pub whole : (a n : List ℕ) {b c : List ℕ} {ws : List (List ℕ)} → b ≡ a ++ n → Adds b ws c → c ≡ a ++ joined (n ∷ ws)
whole a n {b = b} {c = c} {ws = ws} e x = x.is ∙ (ap (λ (t : List ℕ). t ++ spaced ws) e ∙ append_assoc a n (spaced ws))

pub bare : (a n : List ℕ) {b : List ℕ} → b ≡ a ++ n → b ≡ a ++ joined (n ∷ [])
bare a n {b = b} e = e ∙ ap (λ (t : List ℕ). a ++ t) (sym (append-nil n))

pub value_text : (s : SetName) (v : ℕ) → field_text (value_of s v) ≡ decimal v
value_text Queue v = refl
value_text Reports v = refl
value_text PollPdu v = refl
value_text PollByte v = refl
value_text MaxRetx v = refl
