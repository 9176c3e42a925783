use Rattle.std.proofs.Common.{◌≡◌, inl, inr, ℕ, ◌+◌, ◌-◌, ◌<◌, ◌≤◌, true, false, List, length, replicate, Option, None, sym, ◌∙◌, ap, subst, arith, length-append}
use Rattle.std.specs.List.{prefix_len}
use Rattle.std.specs.Option.{is_none}
use Rattle.std.specs.Ordering.{nat_cmp}
use Rattle.std.specs.BTreeSet.{contains}
use Rattle.std.proofs.lemmas.Bool.{cases_lt}
use Rattle.rlc_status.specs.Says.{Some_has, NamesNumber}
use Rattle.rlc_model.specs.Tx.{Kept, at, is_unsent}
use Rattle.rlc_model.specs.Calls.{Grows, wakes}
use Rattle.rlc_am_tx.specs.Acknowledging.{UpdatesAll}
use Rattle.rlc_am_tx.specs.Buffer.{kept_from, IsInOrder}
use Rattle.rlc_am_tx.specs.Inside.{IsTidy}
use Rattle.rlc_am_tx.proofs.Acked.{settled_tidy, unsettled_tidy, counted_tags, pop_list, may_wait, was_idle, tags_or, more_acked}
use Rattle.rlc_am_tx.proofs.Numbers.{kept_front, kept_long}
use Rattle.rlc_am_tx.proofs.Planned.{grows_more}
use Rattle.rlc_am_tx.proofs.Settled.{updates}
use Rattle.rlc_am_tx.proofs.buffer.TxBuffer.acknowledge.Goals as goal

-- no SDU
abbrev not_kept : Option Kept
not_kept = None

pub overflow_sub-count : goal.overflow_sub-count
overflow_sub-count c = omega (arith, kept_front c.self.inside.next_ack c.self.inside.kept_sdus.items c.self.invariant.tidy.front, ap (prefix_len is_none) c.self.view_is, c.requires.from)

pub plan-requires-clause-base : goal.plan-requires-clause-base
plan-requires-clause-base c = omega (arith, kept_front c.self.inside.next_ack c.self.inside.kept_sdus.items c.self.invariant.tidy.front, ap (prefix_len is_none) c.self.view_is, c.requires.from)

pub plan-requires-clause-kept_sdus : goal.plan-requires-clause-kept_sdus
plan-requires-clause-kept_sdus c = omega (arith, kept_long c.self.inside.next_ack c.self.inside.kept_sdus.items, ap length c.self.view_is, c.requires.within)

pub plan-requires-clause-names : goal.plan-requires-clause-names
plan-requires-clause-names c = omega (arith, kept_long c.self.inside.next_ack c.self.inside.kept_sdus.items, ap length c.self.view_is, c.requires.within, c.self.invariant.room)

pub plan-requires-clause-small : goal.plan-requires-clause-small
plan-requires-clause-small c = omega (arith, kept_long c.self.inside.next_ack c.self.inside.kept_sdus.items, ap length c.self.view_is, c.requires.within, c.self.invariant.tidy.small)

pub plan-requires-clause-forgotten : goal.plan-requires-clause-forgotten
plan-requires-clause-forgotten c = c.self.invariant.names

pub plan-requires-clause-no_tags : goal.plan-requires-clause-no_tags
plan-requires-clause-no_tags c = c.new-told.ensures.tags

pub plan-requires-clause-no_marks : goal.plan-requires-clause-no_marks
plan-requires-clause-no_marks c = c.new-told.ensures.marks

pub plan-requires-clause-fits : goal.plan-requires-clause-fits
plan-requires-clause-fits c = c.requires.fits

pub plan-requires-clause-below : goal.plan-requires-clause-below
plan-requires-clause-below c = c.requires.below

pub invariant_of-self : goal.invariant_of-self
invariant_of-self c =
    let a = c.self.inside in
    let base = a.next_ack in
    let names = c.plan.new.names.items in
    record {
      tidy = unsettled_tidy base (c.args.ack - base) a.kept_sdus.items names a.unconfirmed a.unsent (λ n. contains nat_cmp a.waiting n ≡ true) (λ n. contains nat_cmp c.plan.new.waiting n ≡ true) (λ n. contains nat_cmp c.leave_all.new.waiting n ≡ true) c.self.invariant.tidy c.in-Err.ensures.kept c.in-Err.ensures.only c.leave_all.ensures;
      names = λ i. elim (cases_lt i (c.args.ack - base)) [ inl lt ↦ c.forget_all.ensures.first i lt | inr ge ↦ c.forget_all.ensures.rest i ge ∙ c.in-Err.ensures.rest i (omega (arith, ge)) ];
      room = omega (arith, c.forget_all.ensures.long, c.in-Err.ensures.long, c.self.invariant.room);
    }

pub returns-in-Err-clause-memory : goal.returns-in-Err-clause-memory
returns-in-Err-clause-memory c = elim c.in-Err.ensures.err [
  | inl may ↦ let w = c.may_wake-may_wake.ensures.0 may in wakes w.0 w.1.pending w.1.unsent w.1.some
  | inr grows ↦ subst (λ (l : List (Option Kept)). Grows c.args.size c.args.threshold c.args.poll_owed l c.args.status.now c.args.ack) c.self.view_is (grows_more c.args.size c.args.threshold c.args.poll_owed (kept_from c.self.inside.next_ack c.self.inside.kept_sdus.items) c.args.status.now c.args.ack grows)
]

pub settle_all-requires-clause-waits : goal.settle_all-requires-clause-waits
settle_all-requires-clause-waits c i lt waits = may_wait c.self.inside.next_ack (c.args.ack - c.self.inside.next_ack) c.self.inside.kept_sdus.items c.plan.new.names.items (λ n. contains nat_cmp c.self.inside.waiting n ≡ true) (λ n. contains nat_cmp c.plan.new.waiting n ≡ true) c.self.invariant.tidy.waiting c.in_default.ensures.only i waits

pub overflow_sub-self : goal.overflow_sub-self
overflow_sub-self c =
    let from : c.self.inside.next_ack ≤ c.args.ack = omega (arith, kept_front c.self.inside.next_ack c.self.inside.kept_sdus.items c.self.invariant.tidy.front, ap (prefix_len is_none) c.self.view_is, c.requires.from) in
    let enough : c.args.ack ≤ c.self.inside.next_ack + length c.plan.new.names.items = omega (arith, kept_long c.self.inside.next_ack c.self.inside.kept_sdus.items, ap length c.self.view_is, c.requires.within, c.self.invariant.room, c.in_default.ensures.long) in
    let a = c.self.inside in
    let plan = c.in_default.ensures.ok in
    omega (arith, c.len.ensures, counted_tags a.next_ack a.kept_sdus.items c.args.size c.args.ack c.args.threshold c.args.status.now c.plan.new.names.items c.plan.new.told.tags.items c.plan.new.told.marks.items plan c.settle_all.new.kept_sdus.items from enough c.settle_all.ensures.each c.settle_all.ensures.rest c.settle_all.ensures.long a.unconfirmed a.unsent (λ n. contains nat_cmp a.waiting n ≡ true) (λ n. contains nat_cmp c.plan.new.waiting n ≡ true) (λ n. contains nat_cmp c.settle_all.new.waiting n ≡ true) c.self.invariant.tidy c.in_default.ensures.enters c.in_default.ensures.kept c.in_default.ensures.only c.settle_all.ensures.waiting)

pub invariant_of-self-2 : goal.invariant_of-self-2
invariant_of-self-2 c =
    let from : c.self.inside.next_ack ≤ c.args.ack = omega (arith, kept_front c.self.inside.next_ack c.self.inside.kept_sdus.items c.self.invariant.tidy.front, ap (prefix_len is_none) c.self.view_is, c.requires.from) in
    let enough : c.args.ack ≤ c.self.inside.next_ack + length c.plan.new.names.items = omega (arith, kept_long c.self.inside.next_ack c.self.inside.kept_sdus.items, ap length c.self.view_is, c.requires.within, c.self.invariant.room, c.in_default.ensures.long) in
    let a = c.self.inside in
    let base = a.next_ack in
    let few : c.len.result ≡ length c.plan.new.told.tags.items = omega (arith, c.len.ensures) in
    let sent : (n : ℕ) → n < c.args.ack → (Some_has (λ e. NamesNumber c.args.size c.args.ack e n) c.args.status.now.nacks → ⊥) → is_unsent (at (kept_from base a.kept_sdus.items) n) ≡ false = λ n lt none. ap (λ (l : List (Option Kept)). is_unsent (at l n)) c.self.view_is ∙ c.requires.sent n lt none in
    let waits : ℕ → Type 0 = λ n. contains nat_cmp c.settle_all.new.waiting n ≡ true in
    let tidy = settled_tidy base a.kept_sdus.items c.args.size c.args.ack c.args.threshold c.args.status.now c.plan.new.names.items c.plan.new.told.tags.items c.plan.new.told.marks.items c.in_default.ensures.ok c.settle_all.new.kept_sdus.items from enough c.settle_all.ensures.each c.settle_all.ensures.rest c.settle_all.ensures.long a.unconfirmed a.unsent (λ n. contains nat_cmp a.waiting n ≡ true) (λ n. contains nat_cmp c.plan.new.waiting n ≡ true) waits c.self.invariant.tidy c.in_default.ensures.enters c.in_default.ensures.kept c.in_default.ensures.only c.settle_all.ensures.waiting sent c.pop_confirmed.result c.pop_confirmed.new.kept_sdus.items c.pop_confirmed.ensures.kept c.pop_confirmed.ensures.front in
    record {
      tidy = subst (λ m. IsTidy (base + c.pop_confirmed.result) c.pop_confirmed.new.kept_sdus.items (a.unconfirmed - m) a.unsent waits) (sym few) tidy;
      names = λ i. elim (cases_lt i (c.args.ack - base)) [ inl lt ↦ c.settle_all.ensures.forgotten i lt | inr ge ↦ c.settle_all.ensures.others i ge ∙ c.in_default.ensures.rest i (omega (arith, ge)) ];
      room = omega (arith, c.settle_all.ensures.same, c.settle_all.ensures.long, c.in_default.ensures.long, c.self.invariant.room, ap length c.pop_confirmed.ensures.kept, length-append (replicate c.pop_confirmed.result not_kept) c.pop_confirmed.new.kept_sdus.items);
    }

pub returns-clause-ok : goal.returns-clause-ok
returns-clause-ok c =
    let from : c.self.inside.next_ack ≤ c.args.ack = omega (arith, kept_front c.self.inside.next_ack c.self.inside.kept_sdus.items c.self.invariant.tidy.front, ap (prefix_len is_none) c.self.view_is, c.requires.from) in
    let enough : c.args.ack ≤ c.self.inside.next_ack + length c.plan.new.names.items = omega (arith, kept_long c.self.inside.next_ack c.self.inside.kept_sdus.items, ap length c.self.view_is, c.requires.within, c.self.invariant.room, c.in_default.ensures.long) in
    let a = c.self.inside in
    let popped = pop_list a.next_ack c.pop_confirmed.result c.settle_all.new.kept_sdus.items c.pop_confirmed.new.kept_sdus.items c.pop_confirmed.ensures.kept in
    let all = updates a.next_ack a.kept_sdus.items c.args.size c.args.ack c.args.threshold c.args.status.now c.plan.new.names.items c.plan.new.told.tags.items c.plan.new.told.marks.items c.in_default.ensures.ok c.settle_all.new.kept_sdus.items from enough c.settle_all.ensures.each c.settle_all.ensures.rest c.settle_all.ensures.long in
    subst (λ (l : List (Option Kept)). UpdatesAll c.args.size c.args.threshold c.args.ack c.args.status.now l c.plan.new.told.tags.items c.plan.new.told.marks.items (kept_from (a.next_ack + c.pop_confirmed.result) c.pop_confirmed.new.kept_sdus.items)) c.self.view_is
    (subst (UpdatesAll c.args.size c.args.threshold c.args.ack c.args.status.now (kept_from a.next_ack a.kept_sdus.items) c.plan.new.told.tags.items c.plan.new.told.marks.items) (sym popped) all)

pub returns-clause-sent : goal.returns-clause-sent
returns-clause-sent c =
    let from : c.self.inside.next_ack ≤ c.args.ack = omega (arith, kept_front c.self.inside.next_ack c.self.inside.kept_sdus.items c.self.invariant.tidy.front, ap (prefix_len is_none) c.self.view_is, c.requires.from) in
    let enough : c.args.ack ≤ c.self.inside.next_ack + length c.plan.new.names.items = omega (arith, kept_long c.self.inside.next_ack c.self.inside.kept_sdus.items, ap length c.self.view_is, c.requires.within, c.self.invariant.room, c.in_default.ensures.long) in
    let a = c.self.inside in
    let popped = pop_list a.next_ack c.pop_confirmed.result c.settle_all.new.kept_sdus.items c.pop_confirmed.new.kept_sdus.items c.pop_confirmed.ensures.kept in
    let all = updates a.next_ack a.kept_sdus.items c.args.size c.args.ack c.args.threshold c.args.status.now c.plan.new.names.items c.plan.new.told.tags.items c.plan.new.told.marks.items c.in_default.ensures.ok c.settle_all.new.kept_sdus.items from enough c.settle_all.ensures.each c.settle_all.ensures.rest c.settle_all.ensures.long in
    let updated : UpdatesAll c.args.size c.args.threshold c.args.ack c.args.status.now c.args.self.now c.plan.new.told.tags.items c.plan.new.told.marks.items (kept_from (c.self.inside.next_ack + c.pop_confirmed.result) c.pop_confirmed.new.kept_sdus.items) =
    subst (λ (l : List (Option Kept)). UpdatesAll c.args.size c.args.threshold c.args.ack c.args.status.now l c.plan.new.told.tags.items c.plan.new.told.marks.items (kept_from (a.next_ack + c.pop_confirmed.result) c.pop_confirmed.new.kept_sdus.items)) c.self.view_is
    (subst (UpdatesAll c.args.size c.args.threshold c.args.ack c.args.status.now (kept_from a.next_ack a.kept_sdus.items) c.plan.new.told.tags.items c.plan.new.told.marks.items) (sym popped) all) in
    more_acked c.args.size c.args.threshold c.args.ack c.args.status.now c.args.self.now c.plan.new.told.tags.items c.plan.new.told.marks.items (kept_from (c.self.inside.next_ack + c.pop_confirmed.result) c.pop_confirmed.new.kept_sdus.items) a.unsent updated (subst (λ (l : List (Option Kept)). IsInOrder l a.unsent) c.self.view_is c.self.invariant.tidy.order)

pub returns-clause-room : goal.returns-clause-room
returns-clause-room c owed pending unsent some =
    let from : c.self.inside.next_ack ≤ c.args.ack = omega (arith, kept_front c.self.inside.next_ack c.self.inside.kept_sdus.items c.self.invariant.tidy.front, ap (prefix_len is_none) c.self.view_is, c.requires.from) in
    let enough : c.args.ack ≤ c.self.inside.next_ack + length c.plan.new.names.items = omega (arith, kept_long c.self.inside.next_ack c.self.inside.kept_sdus.items, ap length c.self.view_is, c.requires.within, c.self.invariant.room, c.in_default.ensures.long) in
    let a = c.self.inside in
    let popped = pop_list a.next_ack c.pop_confirmed.result c.settle_all.new.kept_sdus.items c.pop_confirmed.new.kept_sdus.items c.pop_confirmed.ensures.kept in
    let all = updates a.next_ack a.kept_sdus.items c.args.size c.args.ack c.args.threshold c.args.status.now c.plan.new.names.items c.plan.new.told.tags.items c.plan.new.told.marks.items c.in_default.ensures.ok c.settle_all.new.kept_sdus.items from enough c.settle_all.ensures.each c.settle_all.ensures.rest c.settle_all.ensures.long in
    let updated : UpdatesAll c.args.size c.args.threshold c.args.ack c.args.status.now c.args.self.now c.plan.new.told.tags.items c.plan.new.told.marks.items (kept_from (c.self.inside.next_ack + c.pop_confirmed.result) c.pop_confirmed.new.kept_sdus.items) =
    subst (λ (l : List (Option Kept)). UpdatesAll c.args.size c.args.threshold c.args.ack c.args.status.now l c.plan.new.told.tags.items c.plan.new.told.marks.items (kept_from (a.next_ack + c.pop_confirmed.result) c.pop_confirmed.new.kept_sdus.items)) c.self.view_is
    (subst (UpdatesAll c.args.size c.args.threshold c.args.ack c.args.status.now (kept_from a.next_ack a.kept_sdus.items) c.plan.new.told.tags.items c.plan.new.told.marks.items) (sym popped) all) in
    c.in_default.ensures.room (elim (tags_or c.plan.new.told.tags.items) [
      | inr tags ↦ inr (owed, tags)
      | inl none ↦ inl (c.may_wake-may_wake.ensures.1 (owed, was_idle c.args.size c.args.threshold c.args.ack c.args.status.now c.args.self.now c.plan.new.told.tags.items c.plan.new.told.marks.items (kept_from (c.self.inside.next_ack + c.pop_confirmed.result) c.pop_confirmed.new.kept_sdus.items) updated none pending unsent some))
    ])
