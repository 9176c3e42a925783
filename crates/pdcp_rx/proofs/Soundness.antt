-- A receiving side stays sound.
use Rattle.std.proofs.Common.{◌≡◌, ◌≢◌, inl, inr, ℕ, ◌+◌, ◌<◌, ◌≤◌, List, length, get_or, drop, Some, None, refl, sym, ◌∙◌, ap, subst, arith, length-drop}
use Rattle.std.specs.List.{All}
use Rattle.std.proofs.lemmas.Bool.{cases_eq}
use Rattle.std.proofs.lemmas.List.{get_or-drop}
use Rattle.std.proofs.lemmas.Option.{none-some, same_Some}
use Rattle.link_base.specs.declared.names.SnSize.{SnSize}
use Rattle.link_base.specs.declared.limits.TheConstants.{COUNT_END}
use Rattle.pdcp_pdu.specs.Pdcp.{IsBody}
use Rattle.pdcp_model.specs.Receiver.{Receiver, new_receiver, rx_deliv, with_sdu, run, stores, hands_up}
use Rattle.pdcp_model.proofs.Stored.{with_sdu_here, with_sdu_other, with_sdu_long, run_at, run_end, run_long}
use Rattle.pdcp_rx.specs.Receiver.{IsSound}

-- one that has heard nothing is
pub starts_sound : (size : SnSize) (first : ℕ) → first < COUNT_END → IsSound (new_receiver size first)
starts_sound size first lt = record {
  next = refl;
  last = λ n e. absurd (omega (arith, e));
  bodies = λ n sdu e. absurd (none-some sdu e);
  within = omega (arith, lt);
}

module _ (r : Receiver) (sound : IsSound r) (n : ℕ) (sdu : List ℕ) (within : rx_deliv r + n < COUNT_END) (body : IsBody sdu) where
  -- the last SDU is there once one more is stored
  put_last : (k : ℕ) → length (with_sdu n sdu r.stored) ≡ k + 1 → get_or (with_sdu n sdu r.stored) k None ≢ None
  put_last k long none = elim (cases_eq k n) [
    | inl e ↦ none-some sdu (sym none ∙ ap (λ (m : ℕ). get_or (with_sdu n sdu r.stored) m None) e ∙ with_sdu_here n sdu r.stored)
    | inr ne ↦ sound.last k (omega (arith, long, with_sdu_long n sdu r.stored)) (sym (with_sdu_other n sdu r.stored k ne) ∙ none)
  ]

  -- and each has 1 to 9,000 bytes
  put_bodies : (k : ℕ) (x : List ℕ) → get_or (with_sdu n sdu r.stored) k None ≡ Some x → IsBody x
  put_bodies k x e = elim (cases_eq k n) [
    | inl same ↦ subst IsBody (same_Some sdu x (sym (with_sdu_here n sdu r.stored) ∙ ap (λ (m : ℕ). get_or (with_sdu n sdu r.stored) m None) (sym same) ∙ e)) body
    | inr ne ↦ sound.bodies k x (sym (with_sdu_other n sdu r.stored k ne) ∙ e)
  ]

  -- COUNTs stay below the end
  put_within : rx_deliv r + length (with_sdu n sdu r.stored) ≤ COUNT_END
  put_within = omega (arith, sound.within, within, with_sdu_long n sdu r.stored)

  -- an SDU that isn't the next one is stored
  pub stored_sound : 0 < n → IsSound (stores r n sdu)
  stored_sound above = record {
    next = with_sdu_other n sdu r.stored 0 (omega (arith, above)) ∙ sound.next;
    last = put_last;
    bodies = put_bodies;
    within = put_within;
  }

  -- all up to the first gap goes up
  pub handed_sound : IsSound (hands_up (stores r n sdu))
  handed_sound =
      let ys = with_sdu n sdu r.stored in
      let up = length (run ys) in
      let long : length (drop up ys) + up ≡ length ys = omega (arith, length-drop up ys, run_long ys) in
      record {
        next = get_or-drop up ys 0 None ∙ ap (λ (m : ℕ). get_or ys m None) (omega arith) ∙ run_end ys;
        last = λ k e none. put_last (up + k) (omega (arith, e, long)) (sym (get_or-drop up ys k None) ∙ none);
        bodies = λ k x e. put_bodies (up + k) x (sym (get_or-drop up ys k None) ∙ e);
        within = omega (arith, long, put_within);
      }

  -- and each SDU that does has 1 to 9,000 bytes
  pub handed_bodies : All IsBody (run (with_sdu n sdu r.stored))
  handed_bodies k d lt = put_bodies k _ (run_at (with_sdu n sdu r.stored) k d lt)
