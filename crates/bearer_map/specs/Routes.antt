-- Where a PDU goes on by its SRAP header and the link it came from: exactly one egress and key, or exactly one fault
-- (TS 38.351 clauses 5.2 and 5.3).
use Rattle.std.specs.Prelude.{◌≡◌, ◌≢◌, ℕ, ◌+◌, ◌==◌, Bool, ◌&&◌, List, Result, Ok, Err, Contains}
use Rattle.link_base.specs.declared.names.Remote.{Remote}
use Rattle.link_base.specs.declared.names.Chan.{Chan}
use Rattle.link_base.specs.declared.names.Key.{Key}
use Rattle.link_base.specs.declared.names.Way.{Way}
use Rattle.link_base.specs.declared.names.Way.TheVariants.{Ul, Dl}
use Rattle.link_base.specs.declared.names.PortName.TheVariants.{Pc5, Uu}
use Rattle.bearer_map.specs.declared.rows.MapRow.{MapRow}
use Rattle.bearer_map.specs.declared.ids.Attachment.{Attachment}
use Rattle.bearer_map.specs.declared.routes.Route.{Route}
use Rattle.bearer_map.specs.declared.routes.RouteFault.{RouteFault}
use Rattle.bearer_map.specs.declared.routes.RouteFault.TheVariants.{UnknownUe, ForeignUe, UnknownBearer}
use Rattle.bearer_map.specs.Ids.{IsAttached}

-- the row is that of a bearer of the remote; BEARER ID is the bearer's identity minus 1
pub record MapsBearer (maps : List MapRow) (remote : Remote) (bearer : ℕ) (row : MapRow) : Type 0 where
  pub among : Contains maps row
  pub of_remote : row.remote ≡ remote
  pub of_bearer : row.drb.0 ≡ bearer + 1

-- the same as a test
abbrev pub is_row_of : Remote → ℕ → MapRow → Bool
is_row_of remote bearer row = (row.remote.0 == remote.0) && (row.drb.0 == bearer + 1)

-- the row's bearer in one way
abbrev pub key_in : Way → MapRow → Key
key_in way row = record { remote = row.remote; drb = row.drb; way = way }

-- the relay's way up: from its PC5 port of a remote and a channel
abbrev pub UpRoute : List MapRow → List Attachment → Remote → Chan → ℕ → ℕ → Result Route RouteFault → Type 0
UpRoute maps attached remote chan ue bearer (Ok route) = IsAttached attached remote ue × (row : MapRow) × MapsBearer maps remote bearer row × (row.pc5 ≡ chan) × (route ≡ record { egress = Uu row.uu; key = key_in Ul row })
UpRoute maps attached remote chan ue bearer (Err UnknownUe) = (other : Remote) → IsAttached attached other ue → ⊥
UpRoute maps attached remote chan ue bearer (Err ForeignUe) = (other : Remote) × IsAttached attached other ue × (other ≢ remote)
UpRoute maps attached remote chan ue bearer (Err UnknownBearer) = IsAttached attached remote ue × ((row : MapRow) → MapsBearer maps remote bearer row → row.pc5 ≢ chan)

-- from a Uu port of a channel, at the relay or at the gNB: what the row gives of the bearer that is mapped over the
-- channel and belongs to the remote that is attached with the UE ID
abbrev pub FromUu : {A : Type 0} → (MapRow → A) → List MapRow → List Attachment → Chan → ℕ → ℕ → Result A RouteFault → Type 0
FromUu gives maps attached chan ue bearer (Ok x) = (remote : Remote) × IsAttached attached remote ue × (row : MapRow) × MapsBearer maps remote bearer row × (row.uu ≡ chan) × (x ≡ gives row)
FromUu gives maps attached chan ue bearer (Err UnknownUe) = (remote : Remote) → IsAttached attached remote ue → ⊥
FromUu gives maps attached chan ue bearer (Err ForeignUe) = ⊥
FromUu gives maps attached chan ue bearer (Err UnknownBearer) = (remote : Remote) × IsAttached attached remote ue × ((row : MapRow) → MapsBearer maps remote bearer row → row.uu ≢ chan)

-- the relay's way down: to the row's PC5 port
abbrev pub DownRoute : List MapRow → List Attachment → Chan → ℕ → ℕ → Result Route RouteFault → Type 0
DownRoute = FromUu (λ row. record { egress = Pc5 row.remote row.pc5; key = key_in Dl row })

-- the gNB's way up: to the row's bearer
abbrev pub GnbRoute : List MapRow → List Attachment → Chan → ℕ → ℕ → Result Key RouteFault → Type 0
GnbRoute = FromUu (key_in Ul)

-- a remote's way down: from its PC5 port of a channel, with the local identity that is its own
abbrev pub RemoteRoute : List MapRow → ℕ → Remote → Chan → ℕ → ℕ → Result Key RouteFault → Type 0
RemoteRoute maps own remote chan ue bearer (Ok key) = (ue ≡ own) × (row : MapRow) × MapsBearer maps remote bearer row × (row.pc5 ≡ chan) × (key ≡ key_in Dl row)
RemoteRoute maps own remote chan ue bearer (Err UnknownUe) = ue ≢ own
RemoteRoute maps own remote chan ue bearer (Err ForeignUe) = ⊥
RemoteRoute maps own remote chan ue bearer (Err UnknownBearer) = (ue ≡ own) × ((row : MapRow) → MapsBearer maps remote bearer row → row.pc5 ≢ chan)
