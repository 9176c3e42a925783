-- What is told of keys, row by row.
use Rattle.std.proofs.Common.{◌≡◌, ℕ, zero, suc, ◌+◌, ◌<◌, List, [], ◌∷◌, ◌++◌, length, map, get_or, take, flat_map, Option, Some, None, refl, sym, ◌∙◌, ap, subst, arith}
use Rattle.std.specs.List.{filter_map, cons_option}
use Rattle.std.proofs.lemmas.List.{append_assoc}
use Rattle.link_base.specs.declared.names.SnSize.TheVariants.{S12}
use Rattle.link_base.specs.declared.names.Key.{Key}
use Rattle.link_base.specs.declared.names.Way.TheVariants.{Ul, Dl}
use Rattle.bearer_map.specs.declared.rows.BearerRow.{BearerRow}
use Rattle.node_model.specs.Names.{key_of}
use Rattle.node_model.specs.Tables.{keys_of_row}
use Rattle.chain_model.specs.Steps.{reporting}

cons_append : {Y : Type 0} (e : Option Y) (xs ys : List Y) → cons_option e (xs ++ ys) ≡ cons_option e xs ++ ys
cons_append None xs ys = refl
cons_append (Some e) xs ys = refl

-- a row that is nowhere
abbrev pub no_row : BearerRow
no_row = record { remote = record { 0 = 0 }; drb = record { 0 = 0 }; pdcp = S12; direct = S12; first_ul = 0; first_dl = 0 }

module _ {Y : Type 0} (f : Key → Option Y) where
  -- what is told of a row
  abbrev pub of_row : BearerRow → List Y
  of_row row = cons_option (f (key_of row.remote row.drb Ul)) [] ++ cons_option (f (key_of row.remote row.drb Dl)) []

  rows_next : (rows : List BearerRow) (i : ℕ) (d : BearerRow) → i < length rows
      → filter_map f (flat_map keys_of_row (take (suc i) rows)) ≡ filter_map f (flat_map keys_of_row (take i rows)) ++ of_row (get_or rows i d)
  rows_next [] i d within = absurd (omega (arith, within))
  rows_next (r ∷ rows) zero d within = cons_append (f (key_of r.remote r.drb Ul)) [] (cons_option (f (key_of r.remote r.drb Dl)) [])
  rows_next (r ∷ rows) (suc i) d within =
      ap (λ es. cons_option (f (key_of r.remote r.drb Ul)) (cons_option (f (key_of r.remote r.drb Dl)) es)) (rows_next rows i d (omega (arith, within)))
      ∙ ap (cons_option (f (key_of r.remote r.drb Ul))) (cons_append (f (key_of r.remote r.drb Dl)) (filter_map f (flat_map keys_of_row (take i rows))) (of_row (get_or rows i d)))
      ∙ cons_append (f (key_of r.remote r.drb Ul)) (cons_option (f (key_of r.remote r.drb Dl)) (filter_map f (flat_map keys_of_row (take i rows)))) (of_row (get_or rows i d))

  -- one more row was told
  pub row_told : (rows : List BearerRow) (i : ℕ) (d : BearerRow) (start log first second : List Y) → i < length rows → log ≡ start ++ filter_map f (flat_map keys_of_row (take i rows))
      → first ≡ log ++ cons_option (f (key_of (get_or rows i d).remote (get_or rows i d).drb Ul)) [] → second ≡ first ++ cons_option (f (key_of (get_or rows i d).remote (get_or rows i d).drb Dl)) []
      → second ≡ start ++ filter_map f (flat_map keys_of_row (take (i + 1) rows))
  row_told rows i d start log first second within so_far is_first is_second =
      let next : suc i ≡ i + 1 = omega arith in
      let ul = cons_option (f (key_of (get_or rows i d).remote (get_or rows i d).drb Ul)) [] in
      let dl = cons_option (f (key_of (get_or rows i d).remote (get_or rows i d).drb Dl)) [] in
      let before = filter_map f (flat_map keys_of_row (take i rows)) in
      subst (λ (n : ℕ). second ≡ start ++ filter_map f (flat_map keys_of_row (take n rows))) next
      (is_second ∙ ap (λ l. l ++ dl) (is_first ∙ ap (λ l. l ++ ul) so_far ∙ append_assoc start before ul) ∙ append_assoc start (before ++ ul) dl
      ∙ ap (λ l. start ++ l) (append_assoc before ul dl ∙ sym (rows_next rows i d within)))

-- where something is told of each key
pub each_told : {Y : Type 0} (f : Key → Y) (ks : List Key) → filter_map (λ k. Some (f k)) ks ≡ map f ks
each_told f [] = refl
each_told f (k ∷ ks) = ap (λ ys. f k ∷ ys) (each_told f ks)

-- where no report was given nothing is told
pub none_reported : (given : List Key) → length given ≡ 0 → (ks : List Key) → filter_map (reporting given) ks ≡ []
none_reported [] none [] = refl
none_reported [] none (k ∷ ks) = none_reported [] none ks
none_reported (g ∷ given) none ks = absurd (omega (arith, none))
