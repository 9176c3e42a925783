use Rattle.std.proofs.Common.{◌≡◌, ◌⊎◌, inl, inr, ◌+◌, ◌-◌, true, List, sym, ◌∙◌, subst}
use Rattle.std.proofs.lemmas.Result.{on_err_weaker}
use Rattle.rlc_status.specs.declared.status.Nack.{Nack}
use Rattle.rlc_status.specs.Says.{Some_has, NamesPlace}
use Rattle.rlc_am_tx.specs.Acknowledging.{AreMarks, Plans, GrowsFrom}
use Rattle.rlc_am_tx.specs.Naming.{CanNameOne, ByElements}
use Rattle.rlc_am_tx.proofs.Failing.{on_err, on_ok}
use Rattle.rlc_am_tx.proofs.Planned.{can_grows, one_grows, tags_grow, numbers_of, places_of}
use Rattle.rlc_am_tx.proofs.acknowledging.plan.Goals as goal

pub returns-in_err-name_all-clause-err : goal.returns-in_err-name_all-clause-err
returns-in_err-name_all-clause-err c =
    let a = c.args in
    on_err c.from_residual.result ((a.may_wake ≡ true) ⊎ GrowsFrom a.base a.kept_sdus.now.items a.size a.threshold a.status.now a.ack)
    (inr (can_grows a.base a.kept_sdus.now.items a.size a.threshold a.ack a.status.now a.names.now.items c.requires.below c.requires.forgotten
    (subst (λ (nacks : List Nack). CanNameOne a.kept_sdus.now.items (λ i p. Some_has (λ e. NamesPlace a.size a.ack e (a.base + i) p) nacks) a.names.now.items) c.as_slice.ensures c.in_err-name_all.ensures.err)))

pub returns-in_err-plan_all-clause-err : goal.returns-in_err-plan_all-clause-err
returns-in_err-plan_all-clause-err c =
    let a = c.args in
    let names = c.name_all.new.names.items in
    let by = subst (λ (nacks : List Nack). ByElements a.kept_sdus.now.items a.base a.size a.ack nacks a.names.now.items names) c.as_slice.ensures c.in_ok-name_all.ensures.ok in
    on_err c.from_residual-in_err-plan_all.result ((a.may_wake ≡ true) ⊎ GrowsFrom a.base a.kept_sdus.now.items a.size a.threshold a.status.now a.ack)
    (inr (one_grows a.base a.kept_sdus.now.items a.size a.threshold a.ack a.status.now names c.requires.base c.requires.below
    (numbers_of a.base a.kept_sdus.now.items a.size a.ack a.status.now.nacks a.names.now.items names c.requires.forgotten by)
    (places_of a.base a.kept_sdus.now.items a.size a.ack a.status.now.nacks a.names.now.items names c.requires.forgotten by) by.fits c.in_err-plan_all.ensures.err))

pub returns-clause-ok : goal.returns-clause-ok
returns-clause-ok c =
    let a = c.args in
    let names = c.name_all.new.names.items in
    let by = subst (λ (nacks : List Nack). ByElements a.kept_sdus.now.items a.base a.size a.ack nacks a.names.now.items names) c.as_slice.ensures c.in_ok-name_all.ensures.ok in
    on_ok c.reserve.result (Plans a.kept_sdus.now.items a.base a.size a.ack a.threshold a.status.now names c.reserve.new.self.tags.items c.reserve.new.self.marks.items) (record {
      numbers = numbers_of a.base a.kept_sdus.now.items a.size a.ack a.status.now.nacks a.names.now.items names c.requires.forgotten by;
      places = places_of a.base a.kept_sdus.now.items a.size a.ack a.status.now.nacks a.names.now.items names c.requires.forgotten by;
      fits = by.fits;
      its_tags = c.reserve.ensures.tags ∙ c.in_ok-plan_all.ensures.tags;
      its_marks = subst (AreMarks a.threshold a.base a.kept_sdus.now.items names (a.ack - a.base)) (sym c.reserve.ensures.marks) c.in_ok-plan_all.ensures.marks;
    })

pub returns-clause-err : goal.returns-clause-err
returns-clause-err c =
    let a = c.args in
    let names = c.name_all.new.names.items in
    let by = subst (λ (nacks : List Nack). ByElements a.kept_sdus.now.items a.base a.size a.ack nacks a.names.now.items names) c.as_slice.ensures c.in_ok-name_all.ensures.ok in
    on_err_weaker c.reserve.result (λ why. elim why [
      | inl wakes ↦ inl wakes
      | inr owed ↦ inr (tags_grow a.base a.kept_sdus.now.items a.size a.threshold a.ack a.status.now names c.requires.base c.requires.below
          (numbers_of a.base a.kept_sdus.now.items a.size a.ack a.status.now.nacks a.names.now.items names c.requires.forgotten by)
          (places_of a.base a.kept_sdus.now.items a.size a.ack a.status.now.nacks a.names.now.items names c.requires.forgotten by) by.fits (λ none. owed.1 (c.in_ok-plan_all.ensures.tags ∙ none)))
    ]) c.reserve.ensures.err
