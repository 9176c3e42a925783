use Rattle.std.proofs.Common.{List, Bool, false, ◌≡◌, true, Option, Some, sym, ◌∙◌, ap, subst}
use Rattle.std.specs.Ordering.{nat_cmp}
use Rattle.std.specs.BTreeSet.{contains}
use Rattle.rlc_model.specs.Tx.{Kept}
use Rattle.rlc_am_tx.specs.Acknowledging.{renewed, MayWait}
use Rattle.rlc_am_tx.specs.Buffer.{IsPending}
use Rattle.rlc_am_tx.specs.Naming.{IsNamingOf}
use Rattle.rlc_am_tx.proofs.NamedBytes.{fits_of}
use Rattle.rlc_am_tx.proofs.Waiting.{none_of, none_pending, none_waits, renewed_pending, waits_still}
use Rattle.rlc_am_tx.proofs.acknowledging.settle.Goals as goal

pub returns-then-is_none-clause-naming : goal.returns-then-is_none-clause-naming
returns-then-is_none-clause-naming c = ap (λ (p : Option (List Bool)). record { named = false; pending = p }) (none_pending c.args.kept_sdu.now c.args.naming.now (none_of c.args.kept_sdu.now c.is_none.result c.is_none.ensures c.if-is_none.true) c.requires.fits)

pub returns-then-is_none-clause-waiting : goal.returns-then-is_none-clause-waiting
returns-then-is_none-clause-waiting c =
    let none = none_of c.args.kept_sdu.now c.is_none.result c.is_none.ensures c.if-is_none.true in
    waits_still (λ n. contains nat_cmp c.args.waiting.now n ≡ true) c.args.number c.args.kept_sdu.now (λ waits. absurd (none_waits c.args.kept_sdu.now c.args.naming.now none c.requires.fits (c.requires.waits waits)))

pub renew-requires : goal.renew-requires
renew-requires c = fits_of c.in-Some.kept_sdu c.args.kept_sdu.now c.args.naming.now c.take-pending.result c.in-Some.is c.take-pending.ensures.value c.requires.fits

pub returns-in-Some-clause-waiting : goal.returns-in-Some-clause-waiting
returns-in-Some-clause-waiting c =
    let k = c.in-Some.kept_sdu in
    let x = c.args.naming.now in
    waits_still (λ n. contains nat_cmp c.args.waiting.now n ≡ true) c.args.number (Some c.renew.new.self) (λ waits.
    subst (λ (y : Kept). IsPending (Some y)) (sym (c.renew.ensures ∙ ap (renewed c.args.threshold k) c.take-pending.ensures.value))
    (renewed_pending c.args.threshold k x (subst (λ (o : Option Kept). IsNamingOf o x) c.in-Some.is c.requires.fits) (subst (λ (o : Option Kept). MayWait o x) c.in-Some.is (c.requires.waits waits))))

pub returns-in_default-clause-waiting : goal.returns-in_default-clause-waiting
returns-in_default-clause-waiting c =
    waits_still (λ n. contains nat_cmp c.args.waiting.now n ≡ true) c.args.number c.args.kept_sdu.now (λ waits. absurd (none_waits c.args.kept_sdu.now c.args.naming.now c.in_default.is c.requires.fits (c.requires.waits waits)))
