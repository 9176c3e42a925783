-- What the fields of a buffer stand for.
use Rattle.std.specs.Prelude.{◌≡◌, ℕ, ◌+◌, ◌^◌, ◌≤◌, true, List, length, count_by, is_some, Option}
use Rattle.std.specs.List.{prefix_len}
use Rattle.std.specs.Option.{is_none}
use Rattle.std.specs.Ordering.{nat_cmp}
use Rattle.std.specs.BTreeSet.{contains}
use Rattle.rlc_model.specs.Tx.{Kept}
use Rattle.rlc_am_tx.specs.Buffer.{kept_from, IsInOrder}
use Rattle.rlc_am_tx.specs.Naming.{AreForgotten}
use Rattle.rlc_am_tx.specs.Pieces.{AreWaiting}
use Rattle.rlc_am_tx.specs.declared.buffer.TxBuffer.TheInside.{Inside}

-- what a buffer keeps, by number
abbrev pub kept_of : Inside → List (Option Kept)
kept_of a = kept_from a.next_ack a.kept_sdus.items

-- the first SDU has an SDU, the SDUs are counted and sent in order, and the numbers with pending bytes wait
pub record IsTidy (next_ack : ℕ) (kept_sdus : List (Option Kept)) (unconfirmed unsent : ℕ) (Waits : ℕ → Type 0) : Type 0 where
  pub small : next_ack + length kept_sdus ≤ 2 ^ 62
  pub front : prefix_len is_none kept_sdus ≡ 0
  pub count : unconfirmed ≡ count_by is_some kept_sdus
  pub acked : next_ack ≤ unsent
  pub order : IsInOrder (kept_from next_ack kept_sdus) unsent
  pub waiting : AreWaiting (kept_from next_ack kept_sdus) next_ack Waits

-- and nothing is named of an SDU, for each of which there is room to do so
pub record IsBuffer (a : Inside) : Type 0 where
  pub tidy : IsTidy a.next_ack a.kept_sdus.items a.unconfirmed a.unsent (λ n. contains nat_cmp a.waiting n ≡ true)
  pub names : AreForgotten a.names.items
  pub room : length a.kept_sdus.items ≤ length a.names.items
