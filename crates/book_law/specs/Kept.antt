-- What the two ends of a key hold, beside what the book of a run tells of it.
use Rattle.std.specs.Prelude.{◌≡◌, ℕ, ◌+◌, ◌<◌, ◌≤◌, cond, List, [], ◌∷◌, length, slice_index_or, Some}
use Rattle.link_base.specs.declared.limits.TheConstants.{COUNT_END}
use Rattle.link_base.specs.declared.names.Key.{Key}
use Rattle.link_base.specs.declared.names.Way.{Way}
use Rattle.link_base.specs.SequenceNumbers.{most_unconfirmed}
use Rattle.bearer_map.specs.declared.rows.BearerRow.{BearerRow}
use Rattle.pdcp_pdu.specs.Pdcp.{IsBody}
use Rattle.pdcp_model.specs.Sender.{Sender, kept_at, confirmed, submitted as accepted}
use Rattle.script_text.specs.declared.event.Event.{Event}
use Rattle.script_text.specs.declared.event.Event.TheVariants.{Conf}
use Rattle.script_text.specs.History.{Entry}
use Rattle.node_model.specs.Names.{is_key}
use Rattle.node_model.specs.Tables.{first_count}
use Rattle.chain_model.specs.Book.{confirmed as confirmed_in, AnswersSubmission}

-- the sender of a key of a bearer has accepted these SDUs, and keeps of them those that aren't confirmed. Of these there are no more than may be; each SDU has a length
-- that PDCP allows, and each a COUNT (TS 38.323 clauses 4.3.1, 5.2.1 and 7.1)
pub record KeepsSdus (row : BearerRow) (way : Way) (sdus : List (List ℕ)) (s : Sender) : Type 0 where
  pub size : s.size ≡ row.pdcp
  pub first : s.first ≡ first_count row way
  pub many : accepted s ≡ length sdus
  pub each : (n : ℕ) (sdu : List ℕ) → kept_at s n ≡ Some sdu → (n < length sdus) × (sdu ≡ slice_index_or sdus n [])
  pub few : length sdus ≤ confirmed s + most_unconfirmed row.pdcp
  pub bodies : (n : ℕ) → n < length sdus → IsBody (slice_index_or sdus n [])
  pub counts : (n : ℕ) → n < length sdus → first_count row way + n < COUNT_END

-- each submission of the key is answered so
abbrev pub AnswersEach : BearerRow → Key → List Entry → Type 0
AnswersEach row key [] = Unit {0}
AnswersEach row key (e ∷ h) = AnswersEach row key h × AnswersSubmission row key h e.line e.reply

-- each event of the key's confirmed number raises it
abbrev pub Raises : Key → List Event → ℕ → Type 0
Raises key [] before = Unit {0}
Raises key (Conf of n ∷ events) before = cond (is_key of key) ((before < n) × Raises key events n) (Raises key events before)
Raises key (e ∷ events) before = Raises key events before

-- so does each line
abbrev pub RaisesEach : Key → List Entry → Type 0
RaisesEach key [] = Unit {0}
RaisesEach key (e ∷ h) = RaisesEach key h × Raises key e.events (confirmed_in key h)
