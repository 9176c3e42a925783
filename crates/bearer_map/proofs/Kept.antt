-- What each table line adds keeps the order of rows and their limits.
use Rattle.std.proofs.Common.{◌≡◌, ℕ, ◌<◌, Bool, true, false, cond, List, length, map, refl, sym, ◌∙◌, ap, arith}
use Rattle.std.specs.Prelude.{◌==◌}
use Rattle.std.proofs.lemmas.Bool.{eqb-true}
use Rattle.std.proofs.lemmas.List.{length-map}
use Rattle.link_base.specs.declared.names.Key.{Key}
use Rattle.link_base.specs.declared.names.Goal.{Goal}
use Rattle.link_base.specs.declared.names.Remote.{Remote}
use Rattle.link_base.specs.declared.names.Way.{Way}
use Rattle.link_base.specs.declared.names.Way.TheVariants.{Ul, Dl}
use Rattle.bearer_map.specs.declared.rows.RemoteRow.{RemoteRow}
use Rattle.bearer_map.specs.declared.rows.BearerRow.{BearerRow}
use Rattle.bearer_map.specs.Order.{has_row, in_order}
use Rattle.bearer_map.specs.Contents.{AreRemotes, AreBearers, remote_rank, bearer_rank, bearers_of, pair}
use Rattle.bearer_map.specs.Lines.{begins_at, with_first, goes_to}
use Rattle.bearer_map.proofs.Ordered.{ascending_in_order, length-in_order, few_in_order, ascending_map, sum_by-map_same}

-- what a test found of a slice of the rows
pub absent : {T : Type 0} (rank : T → ℕ) (slice rows : List T) (n m : ℕ) (b : Bool) → b ≡ has_row rank slice n → slice ≡ rows → n ≡ m → b ≡ false → has_row rank rows m ≡ false
absent {T} rank slice rows n m b is same of none = sym (is ∙ (ap (λ (xs : List T). has_row rank xs n) same ∙ ap (λ (k : ℕ). has_row rank rows k) of)) ∙ none

pub one_more_remote : (row : RemoteRow) (rows : List RemoteRow) → AreRemotes rows → has_row remote_rank rows (remote_rank row) ≡ false → length rows < 8 → AreRemotes (in_order remote_rank row rows)
one_more_remote row rows are new room = record { ascend = ascending_in_order remote_rank row rows are.ascend new; few = omega (arith, length-in_order remote_rank row rows) }

pub one_more_bearer : (row : BearerRow) (rows : List BearerRow) → AreBearers rows → has_row bearer_rank rows (bearer_rank row) ≡ false → bearers_of row.remote.0 rows < 8 → AreBearers (in_order bearer_rank row rows)
one_more_bearer row rows are new room = record {
  ascend = ascending_in_order bearer_rank row rows are.ascend new;
  few = λ remote. few_in_order (λ r. r.remote.0 == remote) bearer_rank row rows (are.few remote) (λ same. rw (eqb-true _ _ same) at room);
}

same_bearer : (way : Way) (first : ℕ) (row : BearerRow) → (with_first way first row).remote ≡ row.remote
same_bearer Ul first row = refl
same_bearer Dl first row = refl

same_drb : (way : Way) (first : ℕ) (row : BearerRow) → (with_first way first row).drb ≡ row.drb
same_drb Ul first row = refl
same_drb Dl first row = refl

-- a first COUNT changes no name
begins_remote : (key : Key) (first : ℕ) (row : BearerRow) → (begins_at key first row).remote ≡ row.remote
begins_remote key first row =
    elim (bearer_rank row == pair key.remote.0 key.drb.0) as (λ b. (cond b (with_first key.way first row) row).remote ≡ row.remote) [ true ↦ same_bearer key.way first row | false ↦ refl ]

begins_drb : (key : Key) (first : ℕ) (row : BearerRow) → (begins_at key first row).drb ≡ row.drb
begins_drb key first row =
    elim (bearer_rank row == pair key.remote.0 key.drb.0) as (λ b. (cond b (with_first key.way first row) row).drb ≡ row.drb) [ true ↦ same_drb key.way first row | false ↦ refl ]

pub begun : (key : Key) (first : ℕ) (rows : List BearerRow) → AreBearers rows → AreBearers (map (begins_at key first) rows)
begun key first rows are = record {
  ascend = ascending_map bearer_rank (begins_at key first) (λ row. rw (begins_remote key first row, begins_drb key first row) refl) rows are.ascend;
  few = λ remote. omega (arith, are.few remote, sum_by-map_same (λ row. cond (row.remote.0 == remote) 1 0) (begins_at key first) (λ row. rw (begins_remote key first row) refl) rows);
}

-- a path changes no name
goes_remote : (remote : Remote) (goal : Goal) (row : RemoteRow) → remote_rank (goes_to remote goal row) ≡ remote_rank row
goes_remote remote goal row =
    elim (row.remote.0 == remote.0) as (λ b. remote_rank (cond b (record row { goal = goal }) row) ≡ remote_rank row) [ true ↦ refl | false ↦ refl ]

pub gone : (remote : Remote) (goal : Goal) (rows : List RemoteRow) → AreRemotes rows → AreRemotes (map (goes_to remote goal) rows)
gone remote goal rows are = record {
  ascend = ascending_map remote_rank (goes_to remote goal) (goes_remote remote goal) rows are.ascend;
  few = omega (arith, are.few, length-map rows (goes_to remote goal));
}
