-- What holds of each transmitting side, whatever it was called with.
use Rattle.std.specs.Prelude.{◌≡◌, ℕ, ◌+◌, ◌<◌, ◌≤◌, List, Some}
use Rattle.link_base.specs.declared.limits.TheConstants.{COUNT_END}
use Rattle.link_base.specs.SequenceNumbers.{most_unconfirmed}
use Rattle.pdcp_pdu.specs.Pdcp.{IsBody}
use Rattle.pdcp_model.specs.Sender.{Sender, kept_at, submitted, confirmed, tx_next}

-- the first COUNT is one, and TX_NEXT is at most the end of the COUNTs; no more SDUs are unconfirmed than may be; no more had their turn
-- than were accepted; and each one that is kept has 1 to 9,000 bytes
pub record IsSender (s : Sender) : Type 0 where
  pub first : s.first < COUNT_END
  pub end : tx_next s ≤ COUNT_END
  pub limit : submitted s ≤ confirmed s + most_unconfirmed s.size
  pub turn : s.place ≤ submitted s
  pub sdus : (n : ℕ) (sdu : List ℕ) → kept_at s n ≡ Some sdu → IsBody sdu
