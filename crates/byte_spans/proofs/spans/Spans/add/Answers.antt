use Rattle.std.proofs.Common.{◌≡◌, ◌<◌, ◌+◌, ◌-◌, ◌∷◌, [], ◌++◌, length, get_or, take, drop, refl, sym, ap, ◌∙◌, subst, append_assoc, arith, rules}
use Rattle.byte_spans.specs.Spans.{Adds, IsApart, LacksAll}
use Rattle.byte_spans.specs.Ranges.{AreRanges, flags_of, joined_with}
use Rattle.byte_spans.proofs.Order.{nowhere}
use Rattle.byte_spans.proofs.Flags.{number_of_flags}
use Rattle.byte_spans.proofs.Sets.{adds, has_start}
use Rattle.byte_spans.proofs.spans.Spans.add.Goals as goal

pub returns-then-covers-clause-adds : goal.returns-then-covers-clause-adds
returns-then-covers-clause-adds c = record {
  flags = ap length (sym c.self.view_is) ∙ number_of_flags c.self.inside.ranges.items;
  within = c.if-covers.ensures;
  below = λ place before. refl;
  above = λ place after. refl;
}

pub returns-in_err-replace-clause-grows : goal.returns-in_err-replace-clause-grows
returns-in_err-replace-clause-grows c =
    let xs = c.self.inside.ranges.items in
    let same : c.join-joined.result.first ≡ c.join-joined.result.stop = omega (arith, c.in_err-replace.ensures.grows, c.join-joined.ensures.order) in
    let some : 0 < length xs = omega (arith, c.in_err-replace.ensures.full, c.self.invariant.1) in
    let alone : LacksAll (flags_of xs) (c.args.from - 1) (c.args.to + 1) = subst (λ l. LacksAll (flags_of l) (c.args.from - 1) (c.args.to + 1)) c.as_slice.ensures (c.join-joined.ensures.alone same) in
    let apart : IsApart (flags_of xs) c.args.from c.args.to = record { some = ((get_or xs 0 nowhere).start, has_start xs c.self.invariant.0 0 some); none = alone } in
    let seen = subst (λ s. IsApart s c.args.from c.args.to) c.self.view_is apart in
    search (rules, seen)

added : (c : goal.In_ok-replace) → AreRanges c.replace.new.ranges.items × Adds (flags_of c.self.inside.ranges.items) (flags_of c.replace.new.ranges.items) c.args.from c.args.to
added c =
    let xs = c.self.inside.ranges.items in
    let joined = c.join-joined.result in
    let is : take joined.first xs ++ joined.range ∷ drop joined.stop xs ≡ joined_with (record { start = c.args.from; end = c.args.to }) xs =
    subst (λ l. take joined.first l ++ joined.range ∷ drop joined.stop l ≡ joined_with (record { start = c.args.from; end = c.args.to }) l) c.as_slice.ensures c.join-joined.ensures.joined in
    adds xs c.self.invariant.0 c.args.from c.args.to c.requires.some c.requires.within c.replace.new.ranges.items
    (c.in_ok-replace.ensures.ok ∙ append_assoc (take joined.first xs) (joined.range ∷ []) (drop joined.stop xs) ∙ is)

pub invariant_of-self-2 : goal.invariant_of-self-2
invariant_of-self-2 c = ((added c).0, omega (arith, c.in_ok-replace.ensures.room, c.self.invariant.1))

pub returns-clause-adds : goal.returns-clause-adds
returns-clause-adds c = subst (λ s. Adds s (flags_of c.replace.new.ranges.items) c.args.from c.args.to) c.self.view_is (added c).1
