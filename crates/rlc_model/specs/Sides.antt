-- The two sides of a port, the ways between them, and what a side has.
use Rattle.std.specs.Prelude.{ℕ}
use Rattle.link_base.specs.declared.names.Side.{Side}
use Rattle.link_base.specs.declared.names.Side.TheVariants.{Low, High}
use Rattle.link_base.specs.declared.names.Way.{Way}
use Rattle.link_base.specs.declared.names.Way.TheVariants.{Ul, Dl}
use Rattle.rlc_model.specs.Rx.{Rx}
use Rattle.rlc_model.specs.Tx.{Tx}

-- the other way
abbrev pub flip : Way → Way
flip Ul = Dl
flip Dl = Ul

-- the other side
abbrev pub across : Side → Side
across Low = High
across High = Low

-- the way in which a side sends
abbrev pub way_from : Side → Way
way_from Low = Ul
way_from High = Dl

-- the side that sends in a way
abbrev pub sender_of : Way → Side
sender_of Ul = Low
sender_of Dl = High

-- the side that hears what goes in a way
abbrev pub hearer_of : Way → Side
hearer_of way = across (sender_of way)

-- what a side has that is open: its transmitter and its receiver, and the epoch in which they are
pub record Entity : Type 0 where
  pub tx : Tx
  pub rx : Rx
  pub epoch : ℕ
