-- What a receiving side is seen as, and what holds of it.
use Rattle.std.specs.Prelude.{◌≡◌, ◌≢◌, ℕ, ◌+◌, ◌<◌, ◌≤◌, List, length, Some, None, All}
use Rattle.link_base.specs.declared.limits.TheConstants.{COUNT_END}
use Rattle.link_base.specs.SequenceNumbers.{Near}
use Rattle.pdcp_pdu.specs.Pdcp.{IsBody}
use Rattle.pdcp_model.specs.declared.answers.PdcpHeard.{PdcpHeard}
use Rattle.pdcp_model.specs.HandUp.{handed_by}
use Rattle.pdcp_model.specs.Receiver.{Receiver, rx_deliv, stored_at, with_sdu, run, stores, hands_up}
use Rattle.pdcp_rx.specs.declared.receiver.PdcpRx.TheInside.{Inside}

-- what callers see of the fields
abbrev pub receiver_of : Inside → Receiver
receiver_of a = record { size = a.size; first = a.first; handed = a.handed; stored = a.stored.items }

-- the next SDU doesn't wait, no gap stands behind the last one that does, each has 1 to 9,000 bytes, and their COUNTs are below the end
pub record IsSound (r : Receiver) : Type 0 where
  pub next : stored_at r 0 ≡ None
  pub last : (n : ℕ) → length r.stored ≡ n + 1 → stored_at r n ≢ None
  pub bodies : (n : ℕ) (sdu : List ℕ) → stored_at r n ≡ Some sdu → IsBody sdu
  pub within : rx_deliv r + length r.stored ≤ COUNT_END

-- the fields are those of a receiving side that is sound
abbrev pub IsReceiver : Inside → Type 0
IsReceiver a = IsSound (receiver_of a)

-- an SDU that comes with this SN has a COUNT, and is neither handed up nor stored
abbrev pub IsNew : Receiver → ℕ → Type 0
IsNew r sn = (n : ℕ) × Near r.size sn (rx_deliv r) (rx_deliv r + n) × (rx_deliv r + n < COUNT_END) × (stored_at r n ≡ None)

-- each SDU that an answer hands up has 1 to 9,000 bytes
abbrev pub HandsUpBodies : PdcpHeard → Type 0
HandsUpBodies answer = All IsBody (handed_by answer)

-- the next SDU is handed up, and those behind it that wait for it
abbrev pub HandsUp : Receiver → List ℕ → List (List ℕ) → Receiver → Type 0
HandsUp old sdu sdus new = (sdus ≡ run (with_sdu 0 sdu old.stored)) × (new ≡ hands_up (stores old 0 sdu))
