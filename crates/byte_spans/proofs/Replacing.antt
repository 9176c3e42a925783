-- Elements in the place of others.
use Rattle.std.proofs.Common.{◌≡◌, ℕ, ◌+◌, ◌-◌, ◌≤◌, List, [], ◌∷◌, ◌++◌, length, get_or, take, drop, append_assoc, length-append, arith, refl, sym, ap, ◌∙◌, subst}
use Rattle.std.specs.List.{insert, replace_range, remove_range}
use Rattle.std.proofs.lemmas.List.{take_at, drop_at, take_more, take_all, length-take-le, take-take, take-append-le, drop-drop}

module _ {X : Type 0} where
  -- the last is inserted, and the others are put before it
  pub put_last : (xs with : List X) (first stop last : ℕ) (d : X) → first ≤ stop → stop ≤ length xs → length with ≡ last + 1 → last ≡ stop - first
      → replace_range (insert xs stop (get_or with last d)) first (first + length (take last with)) (take last with) ≡ replace_range xs first stop with
  put_last xs with first stop last d order within long is =
      let front : first + length (take last with) ≡ stop = omega (arith, length-take-le last with (omega arith)) in
      let whole : take last with ++ get_or with last d ∷ [] ≡ with = sym (take_more with last d (omega arith)) ∙ take_all (last + 1) with (omega arith) in
      let ahead : take first (take stop xs ++ get_or with last d ∷ drop stop xs) ≡ take first xs = take-append-le first (take stop xs) _ (omega (arith, length-take-le stop xs within)) ∙ take-take first stop xs order in
      let behind : drop stop (take stop xs ++ get_or with last d ∷ drop stop xs) ≡ get_or with last d ∷ drop stop xs = drop_at (take stop xs) _ stop (length-take-le stop xs within) in
      rw (front, ahead, behind) (append_assoc (take first xs) (take last with) (get_or with last d ∷ drop stop xs) ∙ ap (λ l. take first xs ++ l) (sym (append_assoc (take last with) (get_or with last d ∷ []) (drop stop xs)) ∙ ap (λ l. l ++ drop stop xs) whole) ∙ sym (append_assoc (take first xs) with (drop stop xs)))

  -- as many are put, and the others up to `stop` are taken out
  pub put_all : (xs with : List X) (first stop : ℕ) → first + length with ≤ stop → stop ≤ length xs
      → remove_range (replace_range xs first (first + length with) with) (first + length with) stop ≡ replace_range xs first stop with
  put_all xs with first stop order within =
      let front : length (take first xs ++ with) ≡ first + length with = omega (arith, length-append (take first xs) with, length-take-le first xs (omega arith)) in
      let ahead = take_at (take first xs ++ with) (drop (first + length with) xs) (first + length with) front in
      let behind = drop_at (take first xs ++ with) (drop (first + length with) xs) (first + length with) front in
      let more : (first + length with) + (stop - (first + length with)) ≡ stop = omega arith in
      let rest : drop stop ((take first xs ++ with) ++ drop (first + length with) xs) ≡ drop stop xs =
      subst (λ k. drop k ((take first xs ++ with) ++ drop (first + length with) xs) ≡ drop k xs) more
      (sym (drop-drop (stop - (first + length with)) (first + length with) _) ∙ ap (drop (stop - (first + length with))) behind ∙ drop-drop (stop - (first + length with)) (first + length with) xs) in
      rw (ahead, rest) refl
