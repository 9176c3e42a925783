use Rattle.std.proofs.Common.{◌<◌, ◌-◌, inl, inr, ℕ, ◌∙◌, ap, arith}
use Rattle.std.proofs.lemmas.Bool.{both_ways, cases_lt}
use Rattle.byte_spans.specs.Spans.{has}
use Rattle.rlc_am_rx.specs.Assembly.{got_of_pieces}
use Rattle.rlc_am_rx.proofs.Held.{seen_is, some_here, none_here, end_short}
use Rattle.rlc_am_rx.proofs.Writing.{gaps_so_far, gaps_on, gaps_inner}
use Rattle.rlc_am_rx.proofs.assembly.Assembly.add_inner_gaps.Goals as goal

pub overflow_cast-stop : goal.overflow_cast-stop
overflow_cast-stop c =
    let a = c.self.inside in
    omega (arith, c.in-Some.ensures.gap.within, end_short (got_of_pieces c.args.self.now) a.bytes.items a.held (seen_is a c.args.self.now c.self.view_is) c.end-end.result c.end-end.ensures c.requires.small)

pub gap-requires : goal.gap-requires
gap-requires c =
    let a = c.self.inside in
    omega (arith, c.in-Some.ensures.gap.some, c.in-Some.ensures.gap.within, end_short (got_of_pieces c.args.self.now) a.bytes.items a.held (seen_is a c.args.self.now c.self.view_is) c.end-end.result c.end-end.ensures c.requires.small)

pub loop-start-preserved : goal.loop-start-preserved
loop-start-preserved c =
    let a = c.self.inside in
    let g = got_of_pieces c.args.self.now in
    let seen = seen_is a c.args.self.now c.self.view_is in
    let i = c.loop-start.invariant in
    let gap = c.in-Some.ensures.gap in
    let stop = c.in-Some.stop in
    let inner : stop < c.end-end.result = elim (cases_lt stop c.end-end.result) [
      | inl lt ↦ lt
      | inr ge ↦ absurd (both_ways (has a.held (stop - 1)) (gap.gap (stop - 1) (omega (arith, gap.some)) (omega (arith, gap.some)))
          (ap (λ (p : ℕ). has a.held p) (omega (arith, ge, gap.within)) ∙ c.end-end.ensures.last (omega (arith, gap.some, gap.within))))
    ] in
    record {
      within = gap.within;
      so_far = gaps_on c.args.sn g c.in-Some.start stop c.args.nacks.now.items c.loop-start.nacks.items c.push.new.self.items gap.some
          (λ q ge lt. none_here g a.bytes.items a.held seen q (gap.gap q ge lt))
          (some_here g a.bytes.items a.held seen stop (gap.stops inner))
          (rw (← c.gap.ensures) c.in_ok-push.ensures.items)
          (gaps_so_far c.args.sn g c.loop-start.from c.in-Some.start c.args.nacks.now.items c.loop-start.nacks.items gap.after
          (λ q ge lt. some_here g a.bytes.items a.held seen q (gap.before q ge lt)) i.so_far);
    }

pub returns : goal.returns
returns c =
    let a = c.self.inside in
    let g = got_of_pieces c.args.self.now in
    let seen = seen_is a c.args.self.now c.self.view_is in
    let i = c.loop-start.invariant in
    gaps_inner c.args.sn g c.end-end.result c.args.nacks.now.items c.loop-start.nacks.items
    (λ p ge. none_here g a.bytes.items a.held seen p (c.end-end.ensures.above p ge))
    (end_short g a.bytes.items a.held seen c.end-end.result c.end-end.ensures c.requires.small)
    (gaps_so_far c.args.sn g c.loop-start.from c.end-end.result c.args.nacks.now.items c.loop-start.nacks.items i.within
    (λ q ge lt. some_here g a.bytes.items a.held seen q (c.in_default.ensures.none q ge lt)) i.so_far)
