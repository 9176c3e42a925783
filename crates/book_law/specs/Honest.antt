-- When a run is honest to a key: its receiving end hears of no other SDUs than those that were submitted, and none is confirmed that it hasn't heard. It speaks of
-- no path on which the SDUs go.
use Rattle.std.specs.Prelude.{◌≡◌, ◌≢◌, ◌⊎◌, ℕ, ◌+◌, ◌%◌, ◌<◌, ◌≤◌, List, [], ◌∷◌, ◌++◌, length, map, slice_index_or, None}
use Rattle.link_base.specs.declared.names.Key.{Key}
use Rattle.link_base.specs.SequenceNumbers.{modulus, window}
use Rattle.bearer_map.specs.declared.rows.BearerRow.{BearerRow}
use Rattle.pdcp_model.specs.Receiver.{Receiver, rx_deliv, stored_at}
use Rattle.pdcp_model.specs.HandUp.{Hearing}
use Rattle.script_text.specs.History.{Entry}
use Rattle.node_model.specs.Tables.{first_count}
use Rattle.chain_model.specs.State.{receiving_at}
use Rattle.chain_model.specs.Book.{submitted, handed}
use Rattle.chain_model.specs.Draining.{Moment, entry_of}
use Rattle.book_law.specs.Hearings.{HearsBy}
use Rattle.book_law.specs.Confirmations.{ConfirmsBy}

-- behind a history a data PDU is that of an SDU submitted before: it has the SDU, and the SN of its COUNT; and the COUNT is no more than a window below the one that is
-- handed up next
pub record IsOfSubmitted (row : BearerRow) (key : Key) (h : List Entry) (hearing : Hearing) : Type 0 where
  pub number : ℕ
  pub below : number < length (submitted key h)
  pub sdu : hearing.sdu ≡ slice_index_or (submitted key h) number []
  pub sn : hearing.sn ≡ (first_count row key.way + number) % modulus row.pdcp
  pub recent : length (handed key h) ≤ number + window row.pdcp

-- a receiving side has the SDU of a COUNT: it was handed up, or it is stored
abbrev pub HasCount : Receiver → ℕ → Type 0
HasCount r count = (count < rx_deliv r) ⊎ ((n : ℕ) × (count ≡ rx_deliv r + n) × (stored_at r n ≢ None))

-- a line behind a history is honest to a key: what its receiving end hears is of an SDU submitted, and each COUNT that is confirmed is one that this end has
pub record IsHonestLine (row : BearerRow) (key : Key) (h : List Entry) (m : Moment) : Type 0 where
  pub heard : (hearing : Hearing) → HearsBy key m hearing → IsOfSubmitted row key h hearing
  pub confirmed : (count : ℕ) → ConfirmsBy key m count → HasCount (receiving_at m.before key).receiver count

-- each of these lines is, the last first, behind those that declared the tables
abbrev pub AreHonest : BearerRow → Key → List Entry → List Moment → Type 0
AreHonest row key declared [] = Unit {0}
AreHonest row key declared (m ∷ ms) = AreHonest row key declared ms × IsHonestLine row key (map entry_of ms ++ declared) m
