use Rattle.std.proofs.Common.{ℕ, ◌+◌, ◌≤◌, ◌++◌, List, refl, sym, ◌∙◌, ap, subst, arith}
use Rattle.std.specs.Option.{option_to_list}
use Rattle.std.proofs.lemmas.Bool.{false_from_ne_true}
use Rattle.link_base.specs.declared.rlc_words.Tag.{Tag}
use Rattle.link_base.specs.SequenceNumbers.{Near}
use Rattle.rlc_status.specs.Format.{AllFit, StatusFits}
use Rattle.rlc_model.specs.declared.transmitter.StatusHeard.TheVariants.{Acked}
use Rattle.rlc_model.specs.Tx.{Tx, at, is_unsent, tx_next, tx_next_ack}
use Rattle.rlc_model.specs.Retransmission.{IsBeyond, beyond_at, SpeaksBeyond, HearsStatus}
use Rattle.rlc_model.specs.Calls.{Grows}
use Rattle.rlc_am_tx.specs.Polling.{tx_with}
use Rattle.rlc_am_tx.specs.Transmitter.{transmitter_of}
use Rattle.rlc_am_tx.proofs.BeyondAll.{fine_below}
use Rattle.rlc_am_tx.proofs.Failing.{on_err}
use Rattle.rlc_am_tx.proofs.Invariant.{stay_invariant, lowest_invariant, stay_hears, lowest_hears, mark_idle, owed_stays}
use Rattle.rlc_am_tx.proofs.am_tx.AmTx.acknowledge.Goals as goal

pub acknowledge-requires-clause-fits : goal.acknowledge-requires-clause-fits
acknowledge-requires-clause-fits c = subst (λ (t : Tx). AllFit t.size c.args.status.now.nacks) (sym c.self.view_is) c.requires.fits.1

pub acknowledge-requires-clause-from : goal.acknowledge-requires-clause-from
acknowledge-requires-clause-from c = omega (arith, ap tx_next_ack c.self.view_is, c.requires.from)

pub acknowledge-requires-clause-within : goal.acknowledge-requires-clause-within
acknowledge-requires-clause-within c = omega (arith, ap tx_next c.self.view_is, c.requires.within)

pub acknowledge-requires-clause-below : goal.acknowledge-requires-clause-below
acknowledge-requires-clause-below c =
    let a = c.self.inside in
    let st = c.args.status.now in
    let fine = subst (λ (t : Tx). IsBeyond t st → ⊥) (sym c.self.view_is) c.requires.fine in
    let near = subst (λ (t : Tx). Near t.size st.ack (tx_next_ack t + 1) c.args.ack) (sym c.self.view_is) c.requires.near in
    fine_below a.size a.buffer st c.args.ack (λ b. fine (beyond_at c.args.ack near b))

pub acknowledge-requires-clause-sent : goal.acknowledge-requires-clause-sent
acknowledge-requires-clause-sent c n lt none =
    let a = c.self.inside in
    let st = c.args.status.now in
    let fine = subst (λ (t : Tx). IsBeyond t st → ⊥) (sym c.self.view_is) c.requires.fine in
    let near = subst (λ (t : Tx). Near t.size st.ack (tx_next_ack t + 1) c.args.ack) (sym c.self.view_is) c.requires.near in
    false_from_ne_true (is_unsent (at a.buffer n)) (λ open_. fine (beyond_at c.args.ack near (SpeaksBeyond.not_sent n (lt, none) open_)))

pub returns-in_err-tags-clause-memory : goal.returns-in_err-tags-clause-memory
returns-in_err-tags-clause-memory c =
    let t = c.args.self.now in
    let st = c.args.status.now in
    on_err c.from_residual.result (Grows t.size t.max_retx_threshold t.poll_owed t.kept st c.args.ack)
    (subst (λ (x : Tx). Grows x.size x.max_retx_threshold x.poll_owed x.kept st c.args.ack) c.self.view_is c.in_err-tags.ensures.memory)

pub invariant_of-self-then-not-self : goal.invariant_of-self-then-not-self
invariant_of-self-then-not-self c =
    let a = c.self.inside in
    let th = a.max_retx_threshold in
    let st = c.args.status.now in
    let fine = subst (λ (t : Tx). IsBeyond t st → ⊥) (sym c.self.view_is) c.requires.fine in
    let near = subst (λ (t : Tx). Near t.size st.ack (tx_next_ack t + 1) c.args.ack) (sym c.self.view_is) c.requires.near in
    let current : tx_next_ack (transmitter_of a) ≤ c.args.ack = omega (arith, ap tx_next_ack c.self.view_is, c.requires.from) in
    let fits = subst (λ (t : Tx). StatusFits t.size st) (sym c.self.view_is) c.requires.fits in
    let l2 = c.acknowledge.new.self in
    let tags = c.in_ok-tags.field-0.tags.items in
    let marks = c.in_ok-tags.field-0.marks.items in
    let p2 = c.stop_below.new.self in
    stay_invariant a.size th a.buffer l2 a.polling p2 c.args.ack st tags marks c.in_ok-tags.ensures.ok c.stop_below.ensures c.self.invariant c.in_ok-tags.ensures.sent fits
    (stay_hears a.size th a.buffer l2 a.polling p2 c.args.ack st tags marks c.in_ok-tags.ensures.ok c.stop_below.ensures fine near current c.if-not-self.true)

pub returns-then-not-self-clause-ok : goal.returns-then-not-self-clause-ok
returns-then-not-self-clause-ok c =
    let a = c.self.inside in
    let th = a.max_retx_threshold in
    let st = c.args.status.now in
    let fine = subst (λ (t : Tx). IsBeyond t st → ⊥) (sym c.self.view_is) c.requires.fine in
    let near = subst (λ (t : Tx). Near t.size st.ack (tx_next_ack t + 1) c.args.ack) (sym c.self.view_is) c.requires.near in
    let current : tx_next_ack (transmitter_of a) ≤ c.args.ack = omega (arith, ap tx_next_ack c.self.view_is, c.requires.from) in
    let l2 = c.acknowledge.new.self in
    let tags = c.in_ok-tags.field-0.tags.items in
    let marks = c.in_ok-tags.field-0.marks.items in
    let p2 = c.stop_below.new.self in
    let stays = stay_hears a.size th a.buffer l2 a.polling p2 c.args.ack st tags marks c.in_ok-tags.ensures.ok c.stop_below.ensures fine near current c.if-not-self.true in
    subst (λ (t : Tx). HearsStatus t st (Acked c.from_vec.result c.from_vec-then-not-self.result) (tx_with a.size th l2 p2)) c.self.view_is
    (subst (λ (x : List Tag). HearsStatus (transmitter_of a) st (Acked x c.from_vec-then-not-self.result) (tx_with a.size th l2 p2)) (sym c.from_vec.ensures)
    (subst (λ (x : List ℕ). HearsStatus (transmitter_of a) st (Acked tags x) (tx_with a.size th l2 p2)) (sym c.from_vec-then-not-self.ensures) stays))

pub add_mark-requires : goal.add_mark-requires
add_mark-requires c some =
    let a = c.self.inside in
    let l2 = c.acknowledge.new.self in
    let p2 = c.stop_below.new.self in
    let r = c.retransmit_lowest-lowest.ensures (tx_with a.size a.max_retx_threshold l2 p2) refl refl in
    let w = mark_idle (tx_with a.size a.max_retx_threshold l2 p2) c.retransmit_lowest-lowest.result (tx_with a.size a.max_retx_threshold c.retransmit_lowest-lowest.new.self p2) r some in
    c.in_ok-tags.ensures.room (sym (owed_stays a.polling p2 c.args.ack c.stop_below.ensures) ∙ c.if-not-self.false) w.0 w.1 w.2

pub invariant_of-self-2 : goal.invariant_of-self-2
invariant_of-self-2 c =
    let a = c.self.inside in
    let th = a.max_retx_threshold in
    let st = c.args.status.now in
    let fine = subst (λ (t : Tx). IsBeyond t st → ⊥) (sym c.self.view_is) c.requires.fine in
    let near = subst (λ (t : Tx). Near t.size st.ack (tx_next_ack t + 1) c.args.ack) (sym c.self.view_is) c.requires.near in
    let current : tx_next_ack (transmitter_of a) ≤ c.args.ack = omega (arith, ap tx_next_ack c.self.view_is, c.requires.from) in
    let fits = subst (λ (t : Tx). StatusFits t.size st) (sym c.self.view_is) c.requires.fits in
    let l2 = c.acknowledge.new.self in
    let l3 = c.retransmit_lowest-lowest.new.self in
    let tags = c.in_ok-tags.field-0.tags.items in
    let marks = c.in_ok-tags.field-0.marks.items in
    let p2 = c.stop_below.new.self in
    let lowest = option_to_list c.retransmit_lowest-lowest.result in
    let r = c.retransmit_lowest-lowest.ensures (tx_with a.size th l2 p2) refl refl in
    lowest_invariant a.size th a.buffer l2 a.polling p2 c.args.ack st tags marks c.in_ok-tags.ensures.ok c.stop_below.ensures c.self.invariant c.in_ok-tags.ensures.sent fits l3 lowest (marks ++ lowest) r
    (lowest_hears a.size th a.buffer l2 a.polling p2 c.args.ack st tags marks c.in_ok-tags.ensures.ok c.stop_below.ensures fine near current l3 lowest c.if-not-self.false r)

pub returns-clause-ok : goal.returns-clause-ok
returns-clause-ok c =
    let a = c.self.inside in
    let th = a.max_retx_threshold in
    let st = c.args.status.now in
    let fine = subst (λ (t : Tx). IsBeyond t st → ⊥) (sym c.self.view_is) c.requires.fine in
    let near = subst (λ (t : Tx). Near t.size st.ack (tx_next_ack t + 1) c.args.ack) (sym c.self.view_is) c.requires.near in
    let current : tx_next_ack (transmitter_of a) ≤ c.args.ack = omega (arith, ap tx_next_ack c.self.view_is, c.requires.from) in
    let l2 = c.acknowledge.new.self in
    let l3 = c.retransmit_lowest-lowest.new.self in
    let tags = c.in_ok-tags.field-0.tags.items in
    let marks = c.in_ok-tags.field-0.marks.items in
    let p2 = c.stop_below.new.self in
    let lowest = option_to_list c.retransmit_lowest-lowest.result in
    let r = c.retransmit_lowest-lowest.ensures (tx_with a.size th l2 p2) refl refl in
    let hears = lowest_hears a.size th a.buffer l2 a.polling p2 c.args.ack st tags marks c.in_ok-tags.ensures.ok c.stop_below.ensures fine near current l3 lowest c.if-not-self.false r in
    subst (λ (t : Tx). HearsStatus t st (Acked c.from_vec-2.result c.from_vec-3.result) (tx_with a.size th l3 p2)) c.self.view_is
    (subst (λ (x : List Tag). HearsStatus (transmitter_of a) st (Acked x c.from_vec-3.result) (tx_with a.size th l3 p2)) (sym c.from_vec-2.ensures)
    (subst (λ (x : List ℕ). HearsStatus (transmitter_of a) st (Acked tags x) (tx_with a.size th l3 p2)) (sym (c.from_vec-3.ensures ∙ c.add_mark.ensures)) hears))
