use Rattle.std.proofs.Common.{◌≡◌, ◌⊎◌, ℕ, true, take}
use Rattle.std.specs.Ordering.{nat_cmp}
use Rattle.std.specs.BTreeSet.{contains}
use Rattle.rlc_am_tx.specs.Acknowledging.{told_tags, AreMarks, EntersOf}
use Rattle.rlc_am_tx.proofs.acknowledging.plan_all.Given as goal

abbrev pub invariant-loop-index : goal.invariant-loop-index
invariant-loop-index l = record {
  tags : l.told.tags.items ≡ told_tags (take l.index l.kept_sdus.items) (take l.index l.names.items);
  marks : AreMarks l.threshold l.base l.kept_sdus.items l.names.items l.index l.told.marks.items;
  enters : (n : ℕ) → EntersOf l.kept_sdus.items l.names.items l.index l.base n → contains nat_cmp l.waiting n ≡ true;
  kept : (n : ℕ) → contains nat_cmp l.initial.waiting n ≡ true → contains nat_cmp l.waiting n ≡ true;
  only : (n : ℕ) → contains nat_cmp l.waiting n ≡ true → (contains nat_cmp l.initial.waiting n ≡ true) ⊎ EntersOf l.kept_sdus.items l.names.items l.index l.base n;
}
