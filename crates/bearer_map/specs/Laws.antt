-- What holds of tables and routes alone.
use Rattle.std.specs.Prelude.{◌≡◌, ℕ, List, Result}
use Rattle.link_base.specs.declared.names.Remote.{Remote}
use Rattle.link_base.specs.declared.names.Chan.{Chan}
use Rattle.link_base.specs.declared.names.Key.{Key}
use Rattle.bearer_map.specs.declared.rows.MapRow.{MapRow}
use Rattle.bearer_map.specs.declared.ids.Attachment.{Attachment}
use Rattle.bearer_map.specs.declared.routes.Route.{Route}
use Rattle.bearer_map.specs.declared.routes.RouteFault.{RouteFault}
use Rattle.bearer_map.specs.Order.{IsAscending}
use Rattle.bearer_map.specs.Contents.{map_rank}
use Rattle.bearer_map.specs.Ids.{AreIds}
use Rattle.bearer_map.specs.Routes.{UpRoute, DownRoute, GnbRoute, RemoteRoute}

-- the relay's way up has at most one answer
abbrev pub OneUpRoute : Type 0
OneUpRoute =
    (maps : List MapRow) (attached : List Attachment) (remote : Remote) (chan : Chan) (ue bearer : ℕ) (a b : Result Route RouteFault) → IsAscending map_rank maps → AreIds attached
    → UpRoute maps attached remote chan ue bearer a → UpRoute maps attached remote chan ue bearer b → a ≡ b

-- the relay's way down has at most one answer
abbrev pub OneDownRoute : Type 0
OneDownRoute =
    (maps : List MapRow) (attached : List Attachment) (chan : Chan) (ue bearer : ℕ) (a b : Result Route RouteFault) → IsAscending map_rank maps → AreIds attached
    → DownRoute maps attached chan ue bearer a → DownRoute maps attached chan ue bearer b → a ≡ b

-- the gNB's way up has at most one answer
abbrev pub OneGnbRoute : Type 0
OneGnbRoute =
    (maps : List MapRow) (attached : List Attachment) (chan : Chan) (ue bearer : ℕ) (a b : Result Key RouteFault) → IsAscending map_rank maps → AreIds attached
    → GnbRoute maps attached chan ue bearer a → GnbRoute maps attached chan ue bearer b → a ≡ b

-- a remote's way down has at most one answer
abbrev pub OneRemoteRoute : Type 0
OneRemoteRoute =
    (maps : List MapRow) (own : ℕ) (remote : Remote) (chan : Chan) (ue bearer : ℕ) (a b : Result Key RouteFault) → IsAscending map_rank maps
    → RemoteRoute maps own remote chan ue bearer a → RemoteRoute maps own remote chan ue bearer b → a ≡ b
