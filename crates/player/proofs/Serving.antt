-- What the top call does where it reads nothing, and where it writes a front.
use Rattle.std.proofs.Common.{◌≡◌, ◌≢◌, ◌⊎◌, ℕ, ◌<◌, ◌≤◌, length, Bool, List, refl, sym, ◌∙◌, subst, arith, inl, inr}
use Rattle.std.proofs.lemmas.Bool.{cases_eq}
use Rattle.std.specs.declared.option.Option.{Option}
use Rattle.std.specs.Io.KnownBytes.{Consumes, IsAtEnd}
use Rattle.link_io.specs.Causes.{IsUsed}
use Rattle.link_io.specs.Bytes.{AppendsFront}
use Rattle.pdu_text.specs.declared.form.Form.{Form}
use Rattle.player.specs.Commands.{IsShow}
use Rattle.player.specs.declared.play.Ending.{Ending}
use Rattle.player.specs.Runs.{IsRun}
use Rattle.player.specs.Outcome.{IsCutOff}
use Rattle.player.proofs.Commands.{one_show}
use Rattle.player.proofs.RunUnderWay.{run_as}

-- no call was made
pub unused : {D : Type 0} {faults : D → ℕ} {can_fail : D → Bool} (x : D) → IsUsed faults can_fail x x
unused x = record { later = omega arith; as_sure = refl; sure = λ e. refl }

-- what is said of one form and its bytes is said of what the words ask for
pub shown_as : (words : List (List ℕ)) (f g : Form) (b c d : List ℕ) (P : Form → List ℕ → Type 0) → IsShow words f b → IsShow words g c → d ≡ c → P g d → P f b
shown_as words f g b c d P x y e p =
    let same = one_show words f g b c x y in
    subst (λ (h : Form). P h b) (sym same.0) (subst (P g) (e ∙ sym same.1) p)

-- a status is 4, or 5, or neither
pub by_status : {A B : Type 0} (status : ℕ) → (status ≢ 4 → status ≢ 5 → (status ≡ 2) × A) → B → (status ≡ 2) ⊎ (((status ≡ 4) ⊎ (status ≡ 5)) × B)
by_status status two front = elim (cases_eq status 4) [
  | inl four ↦ inr (inl four, front)
  | inr not_four ↦ elim (cases_eq status 5) [
    | inl five ↦ inr (inr five, front)
    | inr not_five ↦ inl (two not_four not_five).0
  ]
]

-- a run over what was read, seen in other terms, of which a front was written
pub cuts_off : {left left' written written' : Option (List ℕ)} {input seen text bytes : List ℕ} → Consumes left left' input → length input ≤ 16777217 → (length input < 16777217 → IsAtEnd left') → seen ≡ input → bytes ≡ text
    → (ending : Ending) → IsRun seen ending text → AppendsFront written written' bytes → IsCutOff left left' written written'
cuts_off {input = input} {bytes = bytes} taken limit whole same_input same_text ending run front =
    record { input = input; ending = ending; text = bytes; is_input = record { taken = taken; limit = limit; whole = whole }; is_run = run_as _ _ ending _ _ same_input same_text run; is_front = front }
