-- The order of ports: direct ports, then PC5 ports, then Uu ports, each by remote and then by bearer or channel.
use Rattle.std.specs.Prelude.{◌≡◌, ℕ, ◌<◌, ◌==◌, Bool, ◌&&◌, ◌||◌, nat_lt, List, length, slice_index_or}
use Rattle.link_base.specs.declared.names.PortName.{PortName}
use Rattle.link_base.specs.declared.names.PortName.TheVariants.{Direct, Pc5, Uu}
use Rattle.node_model.specs.State.{PortSide}

-- the kind of a port in the order of kinds
abbrev pub kind_rank : PortName → ℕ
kind_rank (Direct remote drb) = 0
kind_rank (Pc5 remote chan) = 1
kind_rank (Uu chan) = 2

-- the remote of a port; a Uu port has none, and 0 stands there
abbrev pub remote_rank : PortName → ℕ
remote_rank (Direct remote drb) = remote.0
remote_rank (Pc5 remote chan) = remote.0
remote_rank (Uu chan) = 0

-- the bearer or the channel of a port
abbrev pub number_rank : PortName → ℕ
number_rank (Direct remote drb) = drb.0
number_rank (Pc5 remote chan) = chan.0
number_rank (Uu chan) = chan.0

-- of two numbers each, the first are in order, or they are equal and the rest is in order
abbrev pub first_then : ℕ → ℕ → Bool → Bool
first_then a b rest = nat_lt a b || ((a == b) && rest)

-- one port stands before another
abbrev pub is_before : PortName → PortName → Bool
is_before a b = first_then (kind_rank a) (kind_rank b) (first_then (remote_rank a) (remote_rank b) (nat_lt (number_rank a) (number_rank b)))

-- the same of sides, by their ports
abbrev pub side_before : PortSide → PortSide → Bool
side_before a b = is_before a.name b.name

-- the same of rows of any kind, by the port whose row each is
abbrev pub by_port : {T : Type 0} → (T → PortName) → T → T → Bool
by_port port_of a b = is_before (port_of a) (port_of b)

-- the row of a port stands at this place
pub record IsRowOf {T : Type 0} (port_of : T → PortName) (rows : List T) (port : PortName) (place : ℕ) : Type 0 where
  pub within : place < length rows
  pub its : (row : T) → port_of (slice_index_or rows place row) ≡ port
