-- The next SDU, and those behind it that wait.
use Rattle.std.proofs.Common.{◌≡◌, ◌+◌, ◌<◌, ◌≤◌, ℕ, List, [], ◌∷◌, length, drop, Option, refl, sym, ◌∙◌, ap, subst, arith, length-drop}
use Rattle.std.specs.List.{All}
use Rattle.link_base.specs.declared.limits.TheConstants.{COUNT_END}
use Rattle.pdcp_pdu.specs.Pdcp.{IsBody}
use Rattle.pdcp_model.specs.Receiver.{Receiver, rx_deliv, run, with_sdu}
use Rattle.pdcp_model.proofs.Stored.{run_long}
use Rattle.pdcp_rx.specs.Receiver.{IsSound}
use Rattle.pdcp_rx.proofs.Soundness.{handed_sound, handed_bodies}

-- the next SDU and those behind it that wait are the run once it is stored
pub next_run : (xs : List (Option (List ℕ))) (sdu : List ℕ) → sdu ∷ run (drop 1 xs) ≡ run (with_sdu 0 sdu xs)
next_run [] sdu = refl
next_run (x ∷ xs) sdu = refl

-- and behind them the same is left
pub next_rest : (xs : List (Option (List ℕ))) (sdu : List ℕ) → drop (length (run (drop 1 xs))) (drop 1 xs) ≡ drop (length (run (with_sdu 0 sdu xs))) (with_sdu 0 sdu xs)
next_rest [] sdu = refl
next_rest (x ∷ xs) sdu = refl

-- they are no more than places
pub behind_few : (xs : List (Option (List ℕ))) → length (run (drop 1 xs)) ≤ length xs
behind_few xs = omega (arith, run_long (drop 1 xs), length-drop 1 xs)

module _ (r : Receiver) (sound : IsSound r) (sdu : List ℕ) (within : rx_deliv r < COUNT_END) (body : IsBody sdu) where
  -- once they went up the receiving side is sound
  pub next_sound : (behind : ℕ) (rest : List (Option (List ℕ))) → behind ≡ length (run (drop 1 r.stored)) → rest ≡ drop (length (run (drop 1 r.stored))) (drop 1 r.stored)
      → IsSound (record r { handed = r.handed + (1 + behind); stored = rest })
  next_sound behind rest many left =
      let up : r.handed + (1 + behind) ≡ r.handed + length (run (with_sdu 0 sdu r.stored)) = omega (arith, many, ap length (next_run r.stored sdu)) in
      let stays : rest ≡ drop (length (run (with_sdu 0 sdu r.stored))) (with_sdu 0 sdu r.stored) = left ∙ next_rest r.stored sdu in
      rw (up, stays) (handed_sound r sound 0 sdu (omega (arith, within)) body)

  -- and each has 1 to 9,000 bytes
  pub next_bodies : (sdus : List (List ℕ)) → sdus ≡ sdu ∷ run (drop 1 r.stored) → All IsBody sdus
  next_bodies sdus e = subst (All IsBody) (sym (e ∙ next_run r.stored sdu)) (handed_bodies r sound 0 sdu (omega (arith, within)) body)
