-- Rows in order, by name and by rank.
use Rattle.std.proofs.Common.{◌≡◌, inl, inr, ℕ, ◌<◌, ◌==◌, Bool, true, false, cond, ◌&&◌, List, [], ◌∷◌, find, Option, Some, None, is_some, option_map, unwrap_or, refl}
use Rattle.std.proofs.Common.{sym, ◌∙◌, ap, subst, arith}
use Rattle.std.specs.List.{list_all, AllByRecursion}
use Rattle.std.proofs.lemmas.Bool.{cases_Bool, cond-true, cond-false, and_parts, and_from, leb-true, eqb-true, eq-eqb, true≢false}
use Rattle.std.proofs.lemmas.Option.{none-some, same_Some}
use Rattle.link_base.specs.declared.names.Goal.TheVariants.{Direct as ToDirect, Relay as ToRelay}
use Rattle.link_base.specs.declared.names.LocalId.{LocalId}
use Rattle.link_base.specs.declared.names.Remote.{Remote}
use Rattle.bearer_map.specs.declared.rows.RemoteRow.{RemoteRow}
use Rattle.bearer_map.specs.Contents.{Contents, pair}
use Rattle.bearer_map.specs.Lines.{begins_direct}
use Rattle.bearer_map.specs.Order.{has_row, IsAscending}
use Rattle.bearer_map.specs.Settings.{is_within}
use Rattle.node_model.specs.Names.{is_remote}
use Rattle.node_model.proofs.Finding.{find_passes}
use Rattle.node_model.proofs.Names.{remote_is}
use Rattle.chain_model.specs.Told.{first_goal, goal_of}
use Rattle.chain_law.proofs.Members.{IsIn, none_found, one_passes}
use Rattle.table_law.specs.Declared.{IsFrom}

-- a number that passes the test of a range is in it
pub within_range : (low high n : ℕ) → is_within low high n ≡ true → IsFrom low high n
within_range low high n is = let parts = and_parts _ _ is in (leb-true low n parts.0, leb-true n high parts.1)

-- what holds of each row holds of one
pub each_in : {T : Type 0} (P : T → Type 0) (rows : List T) (x : T) → AllByRecursion P rows → IsIn rows x → P x
each_in P [] x all i = absurd i
each_in P (r ∷ rows) x all (inl e) = subst P e all.0
each_in P (r ∷ rows) x all (inr i) = each_in P rows x all.1 i

-- where each row has it that is there, all have it
pub all_of : {T : Type 0} (P : T → Type 0) (rows : List T) → ((x : T) → IsIn rows x → P x) → AllByRecursion P rows
all_of P [] each = tt
all_of P (r ∷ rows) each = (each r (inl refl), all_of P rows (λ x i. each x (inr i)))

-- rows in order of one rank are one
pub one_row : {T : Type 0} (rank : T → ℕ) (rows : List T) (a b : T) → IsAscending rank rows → IsIn rows a → IsIn rows b → rank a ≡ rank b → a ≡ b
one_row rank [] a b up i j same = absurd i
one_row rank (r ∷ rows) a b up (inl e) (inl f) same = sym e ∙ f
one_row rank (r ∷ rows) a b up (inl e) (inr j) same =
    let above = each_in (λ y. rank r < rank y) rows b up.0 j in let at = ap rank e in absurd (omega (arith, above, at, same))
one_row rank (r ∷ rows) a b up (inr i) (inl f) same =
    let above = each_in (λ y. rank r < rank y) rows a up.0 i in let at = ap rank f in absurd (omega (arith, above, at, same))
one_row rank (r ∷ rows) a b up (inr i) (inr j) same = one_row rank rows a b up.1 i j same

-- the row that a test finds among rows in order, where what passes has its rank
pub only_found : {T : Type 0} (rank : T → ℕ) (test : T → Bool) (rows : List T) (x : T) → IsAscending rank rows → IsIn rows x → test x ≡ true
    → ((y : T) → test y ≡ true → rank y ≡ rank x) → find test rows ≡ Some x
only_found rank test [] x up i is same = absurd i
only_found {T} rank test (r ∷ rows) x up i is same = elim (cases_Bool (test r)) [
  | inl passes ↦ cond-true (test r) (Some r) (find test rows) passes ∙ ap (λ (y : T). Some y) (one_row rank (r ∷ rows) r x up (inl refl) i (same r passes))
  | inr fails ↦ cond-false (test r) (Some r) (find test rows) fails ∙ only_found rank test rows x up.1 (later fails i) is same
]
  where
    later : test r ≡ false → IsIn (r ∷ rows) x → IsIn rows x
    later fails (inl e) = absurd (true≢false (sym is ∙ ap test (sym e) ∙ fails))
    later fails (inr i) = i

-- a rank that is there is that of a row
pub row_of_rank : {T : Type 0} (rank : T → ℕ) (rows : List T) (n : ℕ) → has_row rank rows n ≡ true → (x : T) × IsIn rows x × (rank x ≡ n)
row_of_rank rank rows n has = let one = one_passes (λ row. rank row == n) rows has in (one.0, one.1, eqb-true (rank one.0) n one.2)

-- two names of one rank are one, where the second has a byte
pub same_pair : (a b c d : ℕ) → b < 256 → d < 256 → pair a b ≡ pair c d → (a ≡ c) × (b ≡ d)
same_pair a b c d low high e = (omega (arith, low, high, e), omega (arith, low, high, e))

-- names that are one pass the tests of names
pub same_names : (a b c d : ℕ) → a ≡ c → b ≡ d → ((a == c) && (b == d)) ≡ true
same_names a b c d first second = and_from (a == c) (b == d) (eq-eqb a c first) (eq-eqb b d second)

-- where all pass a test, each does
pub each_passes : {T : Type 0} (test : T → Bool) (rows : List T) (x : T) → list_all test rows ≡ true → IsIn rows x → test x ≡ true
each_passes test [] x all i = absurd i
each_passes test (r ∷ rows) x all (inl e) = ap test (sym e) ∙ (and_parts (test r) (list_all test rows) all).0
each_passes test (r ∷ rows) x all (inr i) = each_passes test rows x (and_parts (test r) (list_all test rows) all).1 i

-- where one passes a test, one is found
pub passes_found : {T : Type 0} (test : T → Bool) (rows : List T) (x : T) → IsIn rows x → test x ≡ true → is_some (find test rows) ≡ true
passes_found {T} test rows x i passes = by (find test rows) refl
  where
    by : (o : Option T) → find test rows ≡ o → is_some o ≡ true
    by None none = absurd (true≢false (sym passes ∙ none_found test rows x none i))
    by (Some y) found = refl

-- what is found is there
pub found_in : {T : Type 0} (test : T → Bool) (rows : List T) (y : T) → find test rows ≡ Some y → IsIn rows y
found_in test [] y e = absurd (none-some y e)
found_in {T} test (x ∷ rows) y e = by (found_in test rows y) (test x) e
  where
    by : (find test rows ≡ Some y → IsIn rows y) → (b : Bool) → cond b (Some x) (find test rows) ≡ Some y → IsIn (x ∷ rows) y
    by more true e = inl (same_Some x y e)
    by more false e = inr (more e)

-- a path over the relay at the start is that of a row
pub row_on : (t : Contents) (r : Remote) (id : LocalId) → first_goal t r ≡ ToRelay id → (row : RemoteRow) × IsIn t.remotes row × (row.remote ≡ r) × (row.goal ≡ ToRelay id)
row_on t r id = by (find (λ (row : RemoteRow). is_remote r row.remote) t.remotes) refl
  where
    by : (o : Option RemoteRow) → find (λ (row : RemoteRow). is_remote r row.remote) t.remotes ≡ o → unwrap_or (option_map goal_of o) ToDirect ≡ ToRelay id
        → (row : RemoteRow) × IsIn t.remotes row × (row.remote ≡ r) × (row.goal ≡ ToRelay id)
    by None found e = absurd (true≢false (ap begins_direct e))
    by (Some row) found e = (
      row,
      found_in (λ (row : RemoteRow). is_remote r row.remote) t.remotes row found,
      sym (remote_is r row.remote (find_passes (λ (row : RemoteRow). is_remote r row.remote) t.remotes row found)),
      e,
    )
