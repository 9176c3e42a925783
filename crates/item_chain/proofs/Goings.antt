-- Items that go on by steps.
use Rattle.std.proofs.Common.{◌≡◌, inl, ◌∷◌, refl, subst, sym}
use Rattle.bearer_map.specs.Contents.{Contents}
use Rattle.item_law.specs.State.{Tables as ItemTables, Chain as ItemChain}
use Rattle.item_law.specs.Steps.{Step}
use Rattle.item_law.specs.World.{Reaches, steps as happens}
use Rattle.item_chain.specs.View.{View}
use Rattle.item_chain.specs.Stands.{calm, Ghost, Stands, Goes, rests, steps, Refines}
use Rattle.item_chain.proofs.Given.{given_same}

-- a run and one step more
pub reaches_on : (t : ItemTables) (old new : ItemChain) → Reaches t (calm old) → Step t old new → Reaches t (calm new)
reaches_on t old new r s = record { fits = r.fits; before = calm old ∷ r.before; run = (happens s refl (λ q e. inl e), r.run) }

-- a run and some steps more
pub reaches_goes : {t : ItemTables} {old new : ItemChain} → Reaches t (calm old) → Goes t old new → Reaches t (calm new)
reaches_goes r rests = r
reaches_goes {t = t} {new = new} r (steps {mid} more s) = reaches_on t mid new (reaches_goes r more) s

-- one step, no step, and some steps behind others
pub one_step : (t : ItemTables) (old new : ItemChain) → Step t old new → Goes t old new
one_step t old new s = steps rests s

pub goes_on : {t : ItemTables} {a b c : ItemChain} → Goes t a b → Goes t b c → Goes t a c
goes_on first rests = first
goes_on first (steps more s) = steps (goes_on first more) s

-- what changes nothing
pub stays : (t : Contents) (g : Ghost) (v w : View) → w ≡ v → Stands g v → Refines t g w
stays t g v w same st = record { ghost = g; goes = rests; given = given_same g.ports; stands = subst (Stands g) (sym same) st }
