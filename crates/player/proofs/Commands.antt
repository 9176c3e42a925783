-- What words ask for is one thing.
use Rattle.std.proofs.Common.{◌≡◌, ℕ, ◌<◌, ◌≤◌, ◌-◌, ◌==◌, if◌then◌else◌, map, List, [], ◌∷◌, length, get_or, codes, Result, Ok, refl, sym, ◌∙◌, ap, subst, arith, inl, inr}
use Rattle.link_base.specs.declared.names.SnSize.{SnSize}
use Rattle.link_base.specs.declared.names.SnSize.TheVariants.{S12, S18}
use Rattle.pdu_text.specs.declared.form.Form.{Form}
use Rattle.pdu_text.specs.declared.form.Form.TheVariants.{Amd, Status, Pdcp, Srap}
use Rattle.pdu_text.specs.Forms.{form_text}
use Rattle.script_text.specs.Words.{IsHex}
use Rattle.player.specs.declared.command.Command.{Command}
use Rattle.player.specs.declared.command.Command.TheVariants.{Play, Show, Other}
use Rattle.player.specs.Commands.{IsPlay, IsShow, SpellsBytes, IsCommand, IsShowOf}

-- the size that a form's last character tells
abbrev size_by : ℕ → SnSize
size_by last = if last == 50 then S12 else S18

-- the form that a name's second and last character tell
abbrev form_by : ℕ → ℕ → Form
form_by second last =
    if second == 109 then Amd (size_by last)
    else if second == 116 then Status (size_by last)
    else if second == 100 then Pdcp (size_by last)
    else Srap

-- the form with a name
abbrev form_named : List ℕ → Form
form_named name = form_by (get_or name 1 0) (get_or name (length name - 1) 0)

-- it is the form whose name it is
names_form : (f : Form) → form_named (form_text f) ≡ f
names_form (Amd S12) = refl
names_form (Amd S18) = refl
names_form (Status S12) = refl
names_form (Status S18) = refl
names_form (Pdcp S12) = refl
names_form (Pdcp S18) = refl
names_form Srap = refl

-- a form has a name of its own
pub one_form : (f g : Form) → form_text f ≡ form_text g → f ≡ g
one_form f g e = sym (names_form f) ∙ ap form_named e ∙ names_form g

-- a word spells one string of bytes
pub one_bytes : (word b c : List ℕ) → SpellsBytes word b → SpellsBytes word c → b ≡ c
one_bytes word b c x y = go x.digits y.digits
  where
    same : {E : Type 0} → (let r : Result (List ℕ) E = Ok b in r) ≡ Ok c → b ≡ c
    same e = cc

    go : IsHex word b → IsHex word c → b ≡ c
    go (inl p) q = absurd (x.some p.0)
    go (inr p) (inl q) = absurd (y.some q.0)
    go (inr p) (inr q) = same (sym p.1 ∙ q.1)

-- three words are three words
second_of : (a b c d e f : List ℕ) → (a ∷ b ∷ c ∷ []) ≡ (d ∷ e ∷ f ∷ []) → b ≡ e
second_of a b c d e f x = cc

third_of : (a b c d e f : List ℕ) → (a ∷ b ∷ c ∷ []) ≡ (d ∷ e ∷ f ∷ []) → c ≡ f
third_of a b c d e f x = cc

-- what is to be shown is one PDU
pub one_show : (words : List (List ℕ)) (f g : Form) (b c : List ℕ) → IsShow words f b → IsShow words g c → (f ≡ g) × (b ≡ c)
one_show words f g b c x y =
    let same : (codes "show" ∷ form_text f ∷ x.word ∷ []) ≡ (codes "show" ∷ form_text g ∷ y.word ∷ []) = sym x.is ∙ y.is in (
      one_form f g (second_of _ _ _ _ _ _ same),
      one_bytes y.word b c (subst (λ (w : List ℕ). SpellsBytes w b) (third_of _ _ _ _ _ _ same) x.spells) y.spells,
    )

-- a run isn't one of these
pub no_play : (words : List (List ℕ)) (f : Form) (b : List ℕ) → IsShow words f b → IsPlay words → ⊥
no_play words f b x p = omega (arith, ap length (sym p ∙ x.is))

-- what two words behind `show` ask for, three words ask for
pub shows : (words : List (List ℕ)) (form hex : List ℕ) (command : Command) → words ≡ codes "show" ∷ form ∷ hex ∷ [] → IsShowOf form hex command → IsCommand words command
shows words form hex Play is x = absurd x
shows words form hex (Show f bytes) is x = record { word = hex; is = is ∙ ap (λ (name : List ℕ). codes "show" ∷ name ∷ hex ∷ []) (sym x.0); spells = x.1 }
shows words form hex Other is x = record {
  no_play = λ p. omega (arith, ap length (sym p ∙ is));
  no_show = λ f bytes y.
      let same : (codes "show" ∷ form ∷ hex ∷ []) ≡ (codes "show" ∷ form_text f ∷ y.word ∷ []) = sym is ∙ y.is in
      x f bytes (sym (second_of _ _ _ _ _ _ same)) (subst (λ (w : List ℕ). SpellsBytes w bytes) (sym (third_of _ _ _ _ _ _ same)) y.spells);
}

-- three items of a list are the list
pub three_words : {S : Type 0} (f : S → List ℕ) (xs : List S) (a b c : S) → 3 ≤ length xs → length xs < 4 → a ≡ get_or xs 0 a → b ≡ get_or xs 1 b → c ≡ get_or xs 2 c → map f xs ≡ f a ∷ f b ∷ f c ∷ []
three_words f (x ∷ y ∷ z ∷ []) a b c low high first second third =
    ap (λ (w : List ℕ). w ∷ f y ∷ f z ∷ []) (ap f (sym first)) ∙ (ap (λ (w : List ℕ). f a ∷ w ∷ f z ∷ []) (ap f (sym second)) ∙ ap (λ (w : List ℕ). f a ∷ f b ∷ w ∷ []) (ap f (sym third)))
three_words f (x ∷ y ∷ z ∷ w ∷ xs) a b c low high first second third = absurd (omega (arith, high))
three_words f (x ∷ y ∷ []) a b c low high first second third = absurd (omega (arith, low))
three_words f (x ∷ []) a b c low high first second third = absurd (omega (arith, low))
three_words f [] a b c low high first second third = absurd (omega (arith, low))
