-- What the fields of a transmitting side stand for.
use Rattle.std.specs.Prelude.{◌≡◌, ℕ}
use Rattle.pdcp_model.specs.Sender.{Sender, next}
use Rattle.pdcp_tx.specs.Sound.{IsSender}
use Rattle.pdcp_tx.specs.declared.pdcp_tx.PdcpTx.TheInside.{Inside}

abbrev pub sender_of : Inside → Sender
sender_of a = record { size = a.size; first = a.first; kept = a.kept; place = a.place; waits = a.waits }

-- a side keeps to its limits, and the number is the one that is next
pub record Knows (s : Sender) (number : ℕ) : Type 0 where
  pub sound : IsSender s
  pub next : number ≡ next s

abbrev pub KnowsNext : Inside → Type 0
KnowsNext a = Knows (sender_of a) a.next
