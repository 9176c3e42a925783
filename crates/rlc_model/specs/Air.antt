-- Which PDUs the air between two entities still hands over: those near enough to be read under their own number.
use Rattle.std.specs.Prelude.{◌≡◌, ℕ, ◌+◌, Bool, false, nat_lt, nat_le, if◌then◌else◌}
use Rattle.link_base.specs.declared.names.SnSize.{SnSize}
use Rattle.link_base.specs.SequenceNumbers.{window}

-- a data PDU is stale where its number lies more than a window below RX_Next, a STATUS PDU where its number lies a window or more below
-- TX_Next_Ack: then its sequence number would be read as another number
abbrev pub is_stale : SnSize → Bool → ℕ → ℕ → Bool
is_stale size status number next = if status then nat_le (number + window size) next else nat_lt (number + window size) next

-- a STATUS PDU, or a data PDU, of this number isn't stale
abbrev pub IsFresh : SnSize → Bool → ℕ → ℕ → Type 0
IsFresh size status number next = is_stale size status number next ≡ false
