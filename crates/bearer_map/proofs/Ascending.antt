-- Rows in order: each rank stands once.
use Rattle.std.proofs.Common.{◌≡◌, ℕ, zero, suc, ◌<◌, List, [], ◌∷◌, sym, ◌∙◌, ap, subst, arith}
use Rattle.std.specs.Prelude.{Contains}
use Rattle.std.specs.List.{AllByRecursion}
use Rattle.link_base.specs.declared.names.Remote.{Remote}
use Rattle.bearer_map.specs.declared.rows.MapRow.{MapRow}
use Rattle.bearer_map.specs.Order.{IsAscending}
use Rattle.bearer_map.specs.Contents.{map_rank}
use Rattle.bearer_map.specs.Routes.{MapsBearer}

-- what holds of each element holds of one of them
member : {X : Type 0} (P : X → Type 0) (xs : List X) (x : X) → AllByRecursion P xs → Contains xs x → P x
member P [] x all m = absurd (omega (arith, m.1))
member P (y ∷ xs) x all (zero, lt, same) = subst P same all.0
member P (y ∷ xs) x all (suc k, lt, same) = member P xs x all.1 (k, omega arith, same)

pub one_of_rank : {X : Type 0} (rank : X → ℕ) (xs : List X) (a b : X) → IsAscending rank xs → Contains xs a → Contains xs b → rank a ≡ rank b → a ≡ b
one_of_rank rank [] a b up m n e = absurd (omega (arith, m.1))
one_of_rank rank (y ∷ xs) a b up (zero, lt, same) (zero, lt', same') e = sym same ∙ same'
one_of_rank rank (y ∷ xs) a b up (zero, lt, same) (suc k, lt', same') e =
    let above : rank y < rank b = member (λ x. rank y < rank x) xs b up.0 (k, omega arith, same') in
    absurd (omega (arith, above, e, ap rank same))
one_of_rank rank (y ∷ xs) a b up (suc k, lt, same) (zero, lt', same') e =
    let above : rank y < rank a = member (λ x. rank y < rank x) xs a up.0 (k, omega arith, same) in
    absurd (omega (arith, above, e, ap rank same'))
one_of_rank rank (y ∷ xs) a b up (suc k, lt, same) (suc k', lt', same') e = one_of_rank rank xs a b up.1 (k, omega arith, same) (k', omega arith, same') e

-- a bearer has one map row
pub one_row : (maps : List MapRow) (remote : Remote) (bearer : ℕ) (a b : MapRow) → IsAscending map_rank maps → MapsBearer maps remote bearer a → MapsBearer maps remote bearer b → a ≡ b
one_row maps remote bearer a b up m n =
    let r : a.remote.0 ≡ b.remote.0 = ap (λ (x : Remote). x.0) (m.of_remote ∙ sym n.of_remote) in
    one_of_rank map_rank maps a b up m.among n.among (omega (arith, r, m.of_bearer, n.of_bearer))
