use Rattle.item_law.proofs.laws.Identities.{applied_waits, nothing_of_plan, nothing_under_plan}
use Rattle.item_law.proofs.identity_laws.open_plans_have_given_nothing.Goals as goal

pub returns : goal.returns
returns c = record { waits = applied_waits; epoch = nothing_of_plan; identity = nothing_under_plan }
