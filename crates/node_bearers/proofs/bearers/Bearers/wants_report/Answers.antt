use Rattle.std.proofs.Common.{◌≡◌, ℕ, zero, suc, ◌+◌, Bool, true, false, refl, sym, ◌∙◌, ap, arith}
use Rattle.std.specs.Prelude.{◌&&◌, nat_lt, nat_le}
use Rattle.std.proofs.lemmas.Bool.Decides.{nat_tests}
use Rattle.link_base.specs.declared.names.Key.{Key}
use Rattle.node_model.specs.State.{no_incoming}
use Rattle.node_bearers.specs.Calls.{is_wanted}
use Rattle.node_bearers.proofs.bearers.Bearers.wants_report.Goals as goal

-- of a key that isn't received here none is wanted
never : (a b : Bool) → (a && (b && false)) ≡ false
never false b = refl
never true false = refl
never true true = refl

never_wanted : (every : ℕ) (on_relay : Bool) (key : Key) → is_wanted every on_relay (no_incoming key) ≡ false
never_wanted zero on_relay key = refl
never_wanted (suc n) on_relay key = let more : nat_le (0 + suc n) 0 ≡ false = grind (arith, nat_tests) in rw more (never (nat_lt 0 (suc n)) on_relay)

pub returns-in-Some : goal.returns-in-Some
returns-in-Some c = c.wants_report.ensures c.args.key.way ∙ ap (is_wanted c.args.every c.args.on_relay) (sym c.in-Some.ensures.some)

pub returns-in-None : goal.returns-in-None
returns-in-None c = sym (ap (is_wanted c.args.every c.args.on_relay) c.in-None.ensures.none ∙ never_wanted c.args.every c.args.on_relay c.args.key)
