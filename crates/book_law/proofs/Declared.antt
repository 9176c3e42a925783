-- The tables that lines of a script declare: a bearer has one row, and its remote has one.
use Rattle.std.proofs.Common.{◌≡◌, inl, inr, ℕ, ◌<◌, ◌==◌, Bool, true, false, cond, not, ◌&&◌, ◌||◌, is_some, nat_lt, nat_le, List, [], ◌∷◌, length, map, Result, Ok, Err, refl, sym, ◌∙◌, ap, subst, arith}
use Rattle.std.specs.List.{AllByRecursion}
use Rattle.std.proofs.lemmas.Bool.{ltb-true, ltb-false, eqb-false, cases_Bool, true≢false, or_left, or_right, or_cases, or_parts, not-false}
use Rattle.link_base.specs.declared.names.Key.{Key}
use Rattle.link_base.specs.declared.names.Goal.{Goal}
use Rattle.link_base.specs.declared.names.Goal.TheVariants.{Direct}
use Rattle.link_base.specs.declared.names.Remote.{Remote}
use Rattle.link_base.specs.declared.names.Way.{Way}
use Rattle.link_base.specs.declared.names.Way.TheVariants.{Ul, Dl}
use Rattle.bearer_map.specs.declared.rows.RemoteRow.{RemoteRow}
use Rattle.bearer_map.specs.declared.rows.BearerRow.{BearerRow}
use Rattle.bearer_map.specs.declared.rows.TableFault.{TableFault}
use Rattle.bearer_map.specs.declared.rows.TableFault.TheVariants.{Range, Twice, Unknown, Limit, NoMap}
use Rattle.bearer_map.specs.Order.{has_row, in_order, IsAscending}
use Rattle.bearer_map.specs.Contents.{Contents, remote_rank, bearer_rank, uu_rank, pc5_rank, map_rank, key_rank, name_rank, pair, bearers_of}
use Rattle.bearer_map.specs.Settings.{is_setting, choice_of, choose}
use Rattle.bearer_map.specs.Lines.{begins_at, with_first, goes_to, is_mapped, is_remote, is_drb, is_chan, is_size, sn_size_of, is_taken}
use Rattle.script_text.specs.declared.line.Line.{Line}
use Rattle.script_text.specs.declared.line.Line.TheVariants.{Set, Remote as RemoteLine, Bearer, Uu, Pc5, Map, Start, Path, Go}
use Rattle.script_text.specs.Stages.{table_line, sn_bits}
use Rattle.book_law.specs.Past.{AreTables}

module _ {T : Type 0} (rank : T → ℕ) where
  -- what is above a rank is above each lower one
  above : (low high : ℕ) (rows : List T) → low < high → AllByRecursion (λ x. high < rank x) rows → AllByRecursion (λ x. low < rank x) rows
  above low high [] lt all = tt
  above low high (r ∷ rows) lt all = (omega (arith, lt, all.0), above low high rows lt all.1)

  -- what holds of a row and of each of the others holds of each once it is in its order
  pub each_in_order : (P : T → Type 0) (row : T) (rows : List T) → P row → AllByRecursion P rows → AllByRecursion P (in_order rank row rows)
  each_in_order P row [] is all = (is, tt)
  each_in_order P row (r ∷ rows) is all = elim (nat_lt (rank row) (rank r)) as (λ b. AllByRecursion P (cond b (row ∷ r ∷ rows) (r ∷ in_order rank row rows))) [
    | true ↦ (is, all)
    | false ↦ (all.0, each_in_order P row rows is all.1)
  ]

  -- a row with a new rank in its order
  pub order_stays : (row : T) (rows : List T) → IsAscending rank rows → has_row rank rows (rank row) ≡ false → IsAscending rank (in_order rank row rows)
  order_stays row [] up new = (tt, tt)
  order_stays row (r ∷ rows) up new =
      let apart = or_parts (rank r == rank row) (has_row rank rows (rank row)) new in
      let rest = order_stays row rows up.1 apart.1 in
      elim (cases_Bool (nat_lt (rank row) (rank r))) [
        | inl low ↦
            let lt : rank row < rank r = ltb-true _ _ low in
            subst (λ (b : Bool). IsAscending rank (cond b (row ∷ r ∷ rows) (r ∷ in_order rank row rows))) (sym low) ((lt, above (rank row) (rank r) rows lt up.0), up)
        | inr high ↦
            let lt : rank r < rank row = omega (arith, ltb-false _ _ high, eqb-false _ _ apart.0) in
            subst (λ (b : Bool). IsAscending rank (cond b (row ∷ r ∷ rows) (r ∷ in_order rank row rows))) (sym high) (each_in_order (λ x. rank r < rank x) row rows lt up.0, rest)
      ]

  -- rows that are there are there still
  pub row_stays : (row : T) (rows : List T) (n : ℕ) → has_row rank rows n ≡ true → has_row rank (in_order rank row rows) n ≡ true
  row_stays row [] n is = absurd (true≢false (sym is))
  row_stays row (r ∷ rows) n is = elim (nat_lt (rank row) (rank r)) as (λ b. has_row rank (cond b (row ∷ r ∷ rows) (r ∷ in_order rank row rows)) n ≡ true) [
    | true ↦ or_right (rank row == n) (has_row rank (r ∷ rows) n) is
    | false ↦ elim (or_cases (rank r == n) (has_row rank rows n) is) [
      | inl here ↦ or_left (rank r == n) (has_row rank (in_order rank row rows) n) here
      | inr later ↦ or_right (rank r == n) (has_row rank (in_order rank row rows) n) (row_stays row rows n later)
    ]
  ]

  -- rows whose ranks stay
  pub order_mapped : (f : T → T) → ((x : T) → rank (f x) ≡ rank x) → (rows : List T) → IsAscending rank rows → IsAscending rank (map f rows)
  order_mapped f same [] up = tt
  order_mapped f same (r ∷ rows) up = (subst (λ n. AllByRecursion (λ x. n < rank x) (map f rows)) (sym (same r)) (each rows up.0), order_mapped f same rows up.1)
    where
      each : (xs : List T) → AllByRecursion (λ x. rank r < rank x) xs → AllByRecursion (λ x. rank r < rank x) (map f xs)
      each [] all = tt
      each (x ∷ xs) all = (subst (λ n. rank r < n) (sym (same x)) all.0, each xs all.1)

  pub row_mapped : (f : T → T) → ((x : T) → rank (f x) ≡ rank x) → (rows : List T) (n : ℕ) → has_row rank (map f rows) n ≡ has_row rank rows n
  row_mapped f same [] n = refl
  row_mapped f same (r ∷ rows) n = ap (λ m. (m == n) || has_row rank (map f rows) n) (same r) ∙ ap (λ (b : Bool). (rank r == n) || b) (row_mapped f same rows n)

-- each with a weaker claim
each_weaker : {T : Type 0} (P Q : T → Type 0) → ((x : T) → P x → Q x) → (xs : List T) → AllByRecursion P xs → AllByRecursion Q xs
each_weaker P Q f [] all = tt
each_weaker P Q f (x ∷ xs) all = (f x all.0, each_weaker P Q f xs all.1)

-- a line's tables are such, where it isn't refused
pub record Declares (r : Result Contents TableFault) : Type 0 where
  pub are : (t : Contents) → r ≡ Ok t → AreTables t

abbrev tables_in : Result Contents TableFault → Contents → Contents
tables_in (Ok t) other = t
tables_in (Err fault) other = other

abbrev is_done : Result Contents TableFault → Bool
is_done (Ok t) = true
is_done (Err fault) = false

done : (t : Contents) → AreTables t → Declares (Ok t)
done t are = record { are = λ u e. subst AreTables (ap (λ r. tables_in r t) e) are }

refused : (fault : TableFault) → Declares (Err fault)
refused fault = record { are = λ u e. absurd (true≢false (sym (ap is_done e))) }

-- refusals before
when : (b : Bool) (fault : TableFault) (r : Result Contents TableFault) → (b ≡ false → Declares r) → Declares (cond b (Err fault) r)
when true fault r is = refused fault
when false fault r is = is refl

two : (a b : Bool) (f g : TableFault) (u : Contents) → (a ≡ false → b ≡ false → AreTables u) → Declares (cond a (Err f) (cond b (Err g) (Ok u)))
two a b f g u are = when a f (cond b (Err g) (Ok u)) (λ x. when b g (Ok u) (λ y. done u (are x y)))

three : (a b c : Bool) (f g h : TableFault) (u : Contents) → (a ≡ false → b ≡ false → c ≡ false → AreTables u) → Declares (cond a (Err f) (cond b (Err g) (cond c (Err h) (Ok u))))
three a b c f g h u are = when a f (cond b (Err g) (cond c (Err h) (Ok u))) (λ x. two b c g h u (are x))

four : (a b c d : Bool) (f g h i : TableFault) (u : Contents) → (a ≡ false → b ≡ false → c ≡ false → d ≡ false → AreTables u) → Declares (cond a (Err f) (cond b (Err g) (cond c (Err h) (cond d (Err i) (Ok u)))))
four a b c d f g h i u are = when a f (cond b (Err g) (cond c (Err h) (cond d (Err i) (Ok u)))) (λ x. three b c d g h i u (are x))

-- a first COUNT changes no name
begins_rank : (key : Key) (first : ℕ) (row : BearerRow) → bearer_rank (begins_at key first row) ≡ bearer_rank row
begins_rank key first row = by (bearer_rank row == pair key.remote.0 key.drb.0) key.way
  where
    by : (b : Bool) (w : Way) → bearer_rank (cond b (with_first w first row) row) ≡ bearer_rank row
    by true Ul = refl
    by true Dl = refl
    by false w = refl

begins_remote : (key : Key) (first : ℕ) (row : BearerRow) → (begins_at key first row).remote.0 ≡ row.remote.0
begins_remote key first row = by (bearer_rank row == pair key.remote.0 key.drb.0) key.way
  where
    by : (b : Bool) (w : Way) → (cond b (with_first w first row) row).remote.0 ≡ row.remote.0
    by true Ul = refl
    by true Dl = refl
    by false w = refl

goes_rank : (remote : Remote) (goal : Goal) (row : RemoteRow) → remote_rank (goes_to remote goal row) ≡ remote_rank row
goes_rank remote goal row = elim (row.remote.0 == remote.0) as (λ b. remote_rank (cond b (record row { goal = goal }) row) ≡ remote_rank row) [ true ↦ refl | false ↦ refl ]

-- a key by its numbers
abbrev named : Key → Key
named key = record { remote = record { 0 = key.remote.0 }; drb = record { 0 = key.drb.0 }; way = key.way }

module _ (t : Contents) (are : AreTables t) where
  -- tables with the same bearers and remotes
  alike : (u : Contents) → u.bearers ≡ t.bearers → u.remotes ≡ t.remotes → AreTables u
  alike u bearers remotes = record {
    remotes_ascend = subst (IsAscending remote_rank) (sym remotes) are.remotes_ascend;
    bearers = subst (IsAscending bearer_rank) (sym bearers) are.bearers;
    remotes = subst (λ rows. AllByRecursion (λ (row : BearerRow). has_row remote_rank u.remotes row.remote.0 ≡ true) rows) (sym bearers)
        (subst (λ rs. AllByRecursion (λ (row : BearerRow). has_row remote_rank rs row.remote.0 ≡ true) t.bearers) (sym remotes) are.remotes);
  }

  -- with more remotes
  with_remotes : (u : Contents) → u.bearers ≡ t.bearers → IsAscending remote_rank u.remotes → ((n : ℕ) → has_row remote_rank t.remotes n ≡ true → has_row remote_rank u.remotes n ≡ true) → AreTables u
  with_remotes u bearers ascend stays = record {
    remotes_ascend = ascend;
    bearers = subst (IsAscending bearer_rank) (sym bearers) are.bearers;
    remotes = subst (λ rows. AllByRecursion (λ (row : BearerRow). has_row remote_rank u.remotes row.remote.0 ≡ true) rows) (sym bearers)
        (each_weaker (λ (row : BearerRow). has_row remote_rank t.remotes row.remote.0 ≡ true) (λ (row : BearerRow). has_row remote_rank u.remotes row.remote.0 ≡ true) (λ row is. stays row.remote.0 is) t.bearers are.remotes);
  }

  -- with one more bearer
  with_bearer : (u : Contents) (row : BearerRow) → u.remotes ≡ t.remotes → u.bearers ≡ in_order bearer_rank row t.bearers → has_row bearer_rank t.bearers (bearer_rank row) ≡ false → has_row remote_rank t.remotes row.remote.0 ≡ true → AreTables u
  with_bearer u row remotes bearers new known = record {
    remotes_ascend = subst (IsAscending remote_rank) (sym remotes) are.remotes_ascend;
    bearers = subst (IsAscending bearer_rank) (sym bearers) (order_stays bearer_rank row t.bearers are.bearers new);
    remotes = subst (λ rows. AllByRecursion (λ (row : BearerRow). has_row remote_rank u.remotes row.remote.0 ≡ true) rows) (sym bearers)
        (subst (λ rs. AllByRecursion (λ (row : BearerRow). has_row remote_rank rs row.remote.0 ≡ true) (in_order bearer_rank row t.bearers)) (sym remotes)
        (each_in_order bearer_rank (λ (row : BearerRow). has_row remote_rank t.remotes row.remote.0 ≡ true) row t.bearers known are.remotes));
  }

  -- with another first COUNT
  begun_remotes : (key : Key) (first : ℕ) (rows : List BearerRow) → AllByRecursion (λ (row : BearerRow). has_row remote_rank t.remotes row.remote.0 ≡ true) rows
      → AllByRecursion (λ (row : BearerRow). has_row remote_rank t.remotes row.remote.0 ≡ true) (map (begins_at key first) rows)
  begun_remotes key first [] all = tt
  begun_remotes key first (row ∷ rows) all = (ap (has_row remote_rank t.remotes) (begins_remote key first row) ∙ all.0, begun_remotes key first rows all.1)

  begun : (key : Key) (first : ℕ) (u : Contents) → u.remotes ≡ t.remotes → u.bearers ≡ map (begins_at key first) t.bearers → AreTables u
  begun key first u remotes bearers = record {
    remotes_ascend = subst (IsAscending remote_rank) (sym remotes) are.remotes_ascend;
    bearers = subst (IsAscending bearer_rank) (sym bearers) (order_mapped bearer_rank (begins_at key first) (begins_rank key first) t.bearers are.bearers);
    remotes = subst (λ rows. AllByRecursion (λ (row : BearerRow). has_row remote_rank u.remotes row.remote.0 ≡ true) rows) (sym bearers)
        (subst (λ rs. AllByRecursion (λ (row : BearerRow). has_row remote_rank rs row.remote.0 ≡ true) (map (begins_at key first) t.bearers)) (sym remotes) (begun_remotes key first t.bearers are.remotes));
  }

  -- each line of the tables keeps them so
  pub line_declares : (line : Line) → Declares (table_line t line)
  line_declares (Set name value) = two (not (is_setting name value)) (is_some (choice_of name t.choices)) Range Twice (record t { choices = choose name value t.choices }) (λ x y. alike _ refl refl)
  line_declares (RemoteLine r) =
      let row : RemoteRow = record { remote = record { 0 = r.0 }; goal = Direct } in
      three (not (is_remote r.0)) (has_row remote_rank t.remotes r.0) (nat_le 8 (length t.remotes)) Range Twice Limit (record t { remotes = in_order remote_rank row t.remotes })
      (λ x new z. with_remotes _ refl (order_stays remote_rank row t.remotes are.remotes_ascend new) (λ n is. row_stays remote_rank row t.remotes n is))
  line_declares (Bearer r d pdcp direct) =
      let row : BearerRow = record { remote = record { 0 = r.0 }; drb = record { 0 = d.0 }; pdcp = sn_size_of (sn_bits pdcp); direct = sn_size_of (sn_bits direct); first_ul = 0; first_dl = 0 } in
      four (not (is_remote r.0 && is_drb d.0 && is_size (sn_bits pdcp) && is_size (sn_bits direct))) (has_row bearer_rank t.bearers (pair r.0 d.0)) (not (has_row remote_rank t.remotes r.0)) (nat_le 8 (bearers_of r.0 t.bearers)) Range Twice Unknown Limit
      (record t { bearers = in_order bearer_rank row t.bearers }) (λ x new known few. with_bearer _ row refl refl new (not-false _ known))
  line_declares (Uu c size) =
      two (not (is_chan c.0 && is_size (sn_bits size))) (has_row uu_rank t.uus c.0) Range Twice (record t { uus = in_order uu_rank (record { chan = record { 0 = c.0 }; size = sn_size_of (sn_bits size) }) t.uus }) (λ x y. alike _ refl refl)
  line_declares (Pc5 r c size) =
      three (not (is_remote r.0 && is_chan c.0 && is_size (sn_bits size))) (has_row pc5_rank t.pc5s (pair r.0 c.0)) (not (has_row remote_rank t.remotes r.0)) Range Twice Unknown
      (record t { pc5s = in_order pc5_rank (record { remote = record { 0 = r.0 }; chan = record { 0 = c.0 }; size = sn_size_of (sn_bits size) }) t.pc5s }) (λ x y z. alike _ refl refl)
  line_declares (Map r d pc5 uu) =
      three (not (is_remote r.0 && is_drb d.0 && is_chan pc5.0 && is_chan uu.0)) (has_row map_rank t.maps (pair r.0 d.0))
      (not (has_row remote_rank t.remotes r.0 && has_row bearer_rank t.bearers (pair r.0 d.0) && has_row pc5_rank t.pc5s (pair r.0 pc5.0) && has_row uu_rank t.uus uu.0)) Range Twice Unknown
      (record t { maps = in_order map_rank (record { remote = record { 0 = r.0 }; drb = record { 0 = d.0 }; pc5 = record { 0 = pc5.0 }; uu = record { 0 = uu.0 } }) t.maps }) (λ x y z. alike _ refl refl)
  line_declares (Start key first) =
      three (not (is_remote key.remote.0 && is_drb key.drb.0 && nat_le first 4294967294)) (has_row key_rank t.starts (key_rank (named key))) (not (has_row remote_rank t.remotes key.remote.0 && has_row bearer_rank t.bearers (pair key.remote.0 key.drb.0))) Range Twice Unknown
      (record t { bearers = map (begins_at (named key) first) t.bearers; starts = in_order key_rank (named key) t.starts }) (λ x y z. begun (named key) first _ refl refl)
  line_declares (Path r goal) =
      let to : RemoteRow → RemoteRow = goes_to (record { 0 = r.0 }) goal in
      three (not (is_remote r.0)) (has_row name_rank t.paths r.0 || is_taken goal t.remotes) (not (has_row remote_rank t.remotes r.0)) Range Twice Unknown
      (record t { remotes = map to t.remotes; paths = in_order name_rank (record { 0 = r.0 }) t.paths })
      (λ x y z. with_remotes _ refl (order_mapped remote_rank to (goes_rank (record { 0 = r.0 }) goal) t.remotes are.remotes_ascend) (λ n is. row_mapped remote_rank to (goes_rank (record { 0 = r.0 }) goal) t.remotes n ∙ is))
  line_declares Go = elim (is_mapped t.remotes t.bearers t.maps) as (λ b. Declares (cond b (Ok t) (Err NoMap))) [ true ↦ done t are | false ↦ refused NoMap ]
  line_declares line = done t are
