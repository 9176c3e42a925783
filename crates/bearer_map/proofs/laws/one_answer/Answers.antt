use Rattle.std.proofs.Common.{◌≡◌, ℕ, List, Result, Ok, Err, refl, sym, ◌∙◌, ap, subst}
use Rattle.link_base.specs.declared.names.Remote.{Remote}
use Rattle.link_base.specs.declared.names.Chan.{Chan}
use Rattle.link_base.specs.declared.names.Key.{Key}
use Rattle.link_base.specs.declared.names.Way.TheVariants.{Ul, Dl}
use Rattle.link_base.specs.declared.names.PortName.TheVariants.{Pc5, Uu}
use Rattle.bearer_map.specs.declared.rows.MapRow.{MapRow}
use Rattle.bearer_map.specs.declared.ids.Attachment.{Attachment}
use Rattle.bearer_map.specs.declared.routes.Route.{Route}
use Rattle.bearer_map.specs.declared.routes.RouteFault.{RouteFault}
use Rattle.bearer_map.specs.declared.routes.RouteFault.TheVariants.{UnknownUe, ForeignUe, UnknownBearer}
use Rattle.bearer_map.specs.Order.{IsAscending}
use Rattle.bearer_map.specs.Contents.{map_rank}
use Rattle.bearer_map.specs.Ids.{AreIds, IsAttached}
use Rattle.bearer_map.specs.Routes.{MapsBearer, key_in, FromUu, UpRoute, RemoteRoute}
use Rattle.bearer_map.proofs.Ascending.{one_row}
use Rattle.bearer_map.proofs.laws.one_answer.Goals as goal

module _ (maps : List MapRow) (attached : List Attachment) (remote : Remote) (chan : Chan) (ue bearer : ℕ) (up : IsAscending map_rank maps) (ids : AreIds attached) where
  abbrev Up : Result Route RouteFault → Type 0
  Up a = UpRoute maps attached remote chan ue bearer a

  up_one : (a b : Result Route RouteFault) → Up a → Up b → a ≡ b
  up_one (Ok x) (Ok y) p q = ap (λ (r : Route). Ok r) (p.4 ∙ (ap (λ (row : MapRow). record { egress = Uu row.uu; key = key_in Ul row }) (one_row maps remote bearer p.1 q.1 up p.2 q.2) ∙ sym q.4))
  up_one (Ok x) (Err UnknownUe) p q = absurd (q remote p.0)
  up_one (Ok x) (Err ForeignUe) p q = absurd (q.2 (ids.one_remote q.0 remote ue q.1 p.0))
  up_one (Ok x) (Err UnknownBearer) p q = absurd (q.1 p.1 p.2 p.3)
  up_one (Err UnknownUe) (Ok y) p q = absurd (p remote q.0)
  up_one (Err UnknownUe) (Err UnknownUe) p q = refl
  up_one (Err UnknownUe) (Err ForeignUe) p q = absurd (p q.0 q.1)
  up_one (Err UnknownUe) (Err UnknownBearer) p q = absurd (p remote q.0)
  up_one (Err ForeignUe) (Ok y) p q = absurd (p.2 (ids.one_remote p.0 remote ue p.1 q.0))
  up_one (Err ForeignUe) (Err UnknownUe) p q = absurd (q p.0 p.1)
  up_one (Err ForeignUe) (Err ForeignUe) p q = refl
  up_one (Err ForeignUe) (Err UnknownBearer) p q = absurd (p.2 (ids.one_remote p.0 remote ue p.1 q.0))
  up_one (Err UnknownBearer) (Ok y) p q = absurd (p.1 q.1 q.2 q.3)
  up_one (Err UnknownBearer) (Err UnknownUe) p q = absurd (q remote p.0)
  up_one (Err UnknownBearer) (Err ForeignUe) p q = absurd (q.2 (ids.one_remote q.0 remote ue q.1 p.0))
  up_one (Err UnknownBearer) (Err UnknownBearer) p q = refl

module _ {A : Type 0} (gives : MapRow → A) (maps : List MapRow) (attached : List Attachment) (chan : Chan) (ue bearer : ℕ) (up : IsAscending map_rank maps) (ids : AreIds attached) where
  abbrev Down : Result A RouteFault → Type 0
  Down a = FromUu gives maps attached chan ue bearer a

  -- a row of one remote with the UE ID is a row of any other
  moved : (r s : Remote) (row : MapRow) → IsAttached attached r ue → IsAttached attached s ue → MapsBearer maps r bearer row → MapsBearer maps s bearer row
  moved r s row m n x = subst (λ (t : Remote). MapsBearer maps t bearer row) (ids.one_remote r s ue m n) x

  down_one : (a b : Result A RouteFault) → Down a → Down b → a ≡ b
  down_one (Ok x) (Ok y) p q = ap (λ (z : A). Ok z) (p.5 ∙ (ap gives (one_row maps p.0 bearer p.2 q.2 up p.3 (moved q.0 p.0 q.2 q.1 p.1 q.3)) ∙ sym q.5))
  down_one (Ok x) (Err UnknownUe) p q = absurd (q p.0 p.1)
  down_one (Ok x) (Err ForeignUe) p q = absurd q
  down_one (Ok x) (Err UnknownBearer) p q = absurd (q.2 p.2 (moved p.0 q.0 p.2 p.1 q.1 p.3) p.4)
  down_one (Err UnknownUe) (Ok y) p q = absurd (p q.0 q.1)
  down_one (Err UnknownUe) (Err UnknownUe) p q = refl
  down_one (Err UnknownUe) (Err ForeignUe) p q = absurd q
  down_one (Err UnknownUe) (Err UnknownBearer) p q = absurd (p q.0 q.1)
  down_one (Err ForeignUe) b p q = absurd p
  down_one (Err UnknownBearer) (Ok y) p q = absurd (p.2 q.2 (moved q.0 p.0 q.2 q.1 p.1 q.3) q.4)
  down_one (Err UnknownBearer) (Err UnknownUe) p q = absurd (q p.0 p.1)
  down_one (Err UnknownBearer) (Err ForeignUe) p q = absurd q
  down_one (Err UnknownBearer) (Err UnknownBearer) p q = refl

module _ (maps : List MapRow) (own : ℕ) (remote : Remote) (chan : Chan) (ue bearer : ℕ) (up : IsAscending map_rank maps) where
  abbrev Own : Result Key RouteFault → Type 0
  Own a = RemoteRoute maps own remote chan ue bearer a

  own_one : (a b : Result Key RouteFault) → Own a → Own b → a ≡ b
  own_one (Ok x) (Ok y) p q = ap (λ (k : Key). Ok k) (p.4 ∙ (ap (key_in Dl) (one_row maps remote bearer p.1 q.1 up p.2 q.2) ∙ sym q.4))
  own_one (Ok x) (Err UnknownUe) p q = absurd (q p.0)
  own_one (Ok x) (Err ForeignUe) p q = absurd q
  own_one (Ok x) (Err UnknownBearer) p q = absurd (q.1 p.1 p.2 p.3)
  own_one (Err UnknownUe) (Ok y) p q = absurd (p q.0)
  own_one (Err UnknownUe) (Err UnknownUe) p q = refl
  own_one (Err UnknownUe) (Err ForeignUe) p q = absurd q
  own_one (Err UnknownUe) (Err UnknownBearer) p q = absurd (p q.0)
  own_one (Err ForeignUe) b p q = absurd p
  own_one (Err UnknownBearer) (Ok y) p q = absurd (p.1 q.1 q.2 q.3)
  own_one (Err UnknownBearer) (Err UnknownUe) p q = absurd (q p.0)
  own_one (Err UnknownBearer) (Err ForeignUe) p q = absurd q
  own_one (Err UnknownBearer) (Err UnknownBearer) p q = refl

pub returns-clause-up : goal.returns-clause-up
returns-clause-up c = λ maps attached remote chan ue bearer a b up ids p q. up_one maps attached remote chan ue bearer up ids a b p q

pub returns-clause-down : goal.returns-clause-down
returns-clause-down c = λ maps attached chan ue bearer a b up ids p q. down_one (λ row. record { egress = Pc5 row.remote row.pc5; key = key_in Dl row }) maps attached chan ue bearer up ids a b p q

pub returns-clause-gnb : goal.returns-clause-gnb
returns-clause-gnb c = λ maps attached chan ue bearer a b up ids p q. down_one (key_in Ul) maps attached chan ue bearer up ids a b p q

pub returns-clause-remote : goal.returns-clause-remote
returns-clause-remote c = λ maps own remote chan ue bearer a b up p q. own_one maps own remote chan ue bearer up a b p q
