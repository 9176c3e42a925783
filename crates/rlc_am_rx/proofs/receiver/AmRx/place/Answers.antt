use Rattle.std.proofs.Common.{◌≡◌, ◌∙◌, ◌≤◌, ◌<◌, ◌-◌, ◌+◌, ◌||◌, ◌≢◌, ◌⊎◌, inl, inr, ℕ, Bool, Option, List, Contains, length, get_or, set, [], None, ap, sym, refl, subst, arith}
use Rattle.std.proofs.lemmas.List.{length-set}
use Rattle.std.specs.VecDeque.{deque_with_item}
use Rattle.link_base.specs.SequenceNumbers.{window}
use Rattle.rlc_pdu.specs.Amd.{amd_of}
use Rattle.std.specs.Bool.{MatchBool}
use Rattle.rlc_model.specs.Numbers.{IsFirst}
use Rattle.rlc_model.specs.Rx.{Rx, Got, got, rx_next, rx_next_highest, IsConflict, Polls, Reassembles}
use Rattle.rlc_model.specs.Rx.Got.{Done, Part}
use Rattle.rlc_law.specs.Receiver.{IsSound}
use Rattle.rlc_law.specs.Receiver.ReceiverCall.{hears}
use Rattle.rlc_law.proofs.Receiver.{stays_sound}
use Rattle.rlc_am_rx.specs.Hearing.{heard_of, PlacesAs}
use Rattle.rlc_am_rx.specs.Polling.{AddsIf}
use Rattle.rlc_am_rx.specs.Reassembly.{got_of, got_at, MovesStatus, PlacesSdu}
use Rattle.rlc_am_rx.specs.declared.receiver.AmRx.TheInside.{Inside}
use Rattle.rlc_am_rx.specs.Receiver.{received_of, receiver_of, EntriesFit}
use Rattle.rlc_am_rx.proofs.Hearing.{hears_placed, sdu_length}
use Rattle.rlc_am_rx.proofs.Entries.{Replaces, got_this, got_other, got_same, got_is, fits_same, replaced, popped_fits, popped_same, next_is, highest_is}
use Rattle.rlc_am_rx.proofs.Numbers.{taken_back}
use Rattle.rlc_am_rx.proofs.Placed.{on_err}
use Rattle.rlc_am_rx.proofs.Placing.{kept_view, kept_ok, placed, polls_placed, polls_within, reassembles, trigger_from_next, entry_here, set_same, not_below, small_window, status_moves}
use Rattle.rlc_am_rx.proofs.State.{next_at, highest_at, entry_at}
use Rattle.rlc_am_rx.proofs.receiver.AmRx.place.Goals as goal

pub invariant_of-self : goal.invariant_of-self
invariant_of-self c = kept_ok c.self.inside _ refl c.self.invariant c.grow.ensures.long c.grow.ensures.same refl

pub returns-in_err-grow-clause-err : goal.returns-in_err-grow-clause-err
returns-in_err-grow-clause-err c = on_err c.from_residual.result _
    (kept_view c.self.inside (record c.self.inside { entries = c.grow.new.entries }) refl c.self.invariant c.grow.ensures.long c.grow.ensures.same refl ∙ c.self.view_is)

pub invariant_of-self-in_err-fresh : goal.invariant_of-self-in_err-fresh
invariant_of-self-in_err-fresh c = kept_ok c.self.inside _ refl c.self.invariant c.grow.ensures.long c.grow.ensures.same c.in_err-fresh.ensures.err.1

pub returns-in_err-fresh-clause-err : goal.returns-in_err-fresh-clause-err
returns-in_err-fresh-clause-err c = on_err c.from_residual-in_err-fresh.result _
    (kept_view c.self.inside (record c.self.inside { entries = c.grow.new.entries; delayed_polls = c.add_if.new.self }) refl c.self.invariant c.grow.ensures.long c.grow.ensures.same c.in_err-fresh.ensures.err.1 ∙ c.self.view_is)

pub place-requires-clause-undone : goal.place-requires-clause-undone
place-requires-clause-undone c =
    let a = c.self.inside in
    let old = c.args.self.now in
    let from : a.rx_next ≤ c.args.number = omega (arith, not_below old c.args.number (amd_of c.args.pdu.now) c.requires.news, next_at a old c.self.invariant c.self.view_is) in
    λ done. c.requires.news (inr (inl (entry_at a old c.self.invariant c.self.view_is c.args.number from
    ∙ entry_here a.entries.items c.grow.new.entries.items (c.args.number - a.rx_next) c.grow.ensures.same (omega (arith, c.in_ok-grow.ensures.ok)) c.index_mut.result.now c.index_mut.ensures.value
    ∙ done)))

pub place-requires-clause-agrees : goal.place-requires-clause-agrees
place-requires-clause-agrees c =
    let a = c.self.inside in
    let old = c.args.self.now in
    let from : a.rx_next ≤ c.args.number = omega (arith, not_below old c.args.number (amd_of c.args.pdu.now) c.requires.news, next_at a old c.self.invariant c.self.view_is) in
    subst (λ (g : Got). IsConflict g (amd_of c.args.pdu.now) → ⊥) (entry_at a old c.self.invariant c.self.view_is c.args.number from
    ∙ entry_here a.entries.items c.grow.new.entries.items (c.args.number - a.rx_next) c.grow.ensures.same (omega (arith, c.in_ok-grow.ensures.ok)) c.index_mut.result.now c.index_mut.ensures.value)
    c.requires.agrees

pub invariant_of-self-in_default : goal.invariant_of-self-in_default
invariant_of-self-in_default c =
    let a = c.self.inside in
    let at = c.args.number - a.rx_next in
    kept_ok a _ refl c.self.invariant (omega (arith, c.grow.ensures.long, length-set c.grow.new.entries.items at c.place.new.self))
    (set_same a.entries.items c.grow.new.entries.items at c.grow.ensures.same (omega (arith, c.in_ok-grow.ensures.ok)) c.index_mut.result.now c.index_mut.ensures.value c.place.new.self c.in_default.ensures.err)
    (taken_back a.delayed_polls c.add_if.new.self c.take_back.new.self c.args.pdu.now.poll c.in_ok-fresh.fresh c.args.number c.add_if.ensures.rises.1 c.take_back.ensures.rises c.in_ok-fresh.ensures.adds c.in_ok-fresh.ensures.fresh c.take_back.ensures.back)

pub returns-in_default-clause-err : goal.returns-in_default-clause-err
returns-in_default-clause-err c =
    let a = c.self.inside in
    let at = c.args.number - a.rx_next in
    kept_view a (record a { entries = deque_with_item c.grow.new.entries at c.place.new.self; delayed_polls = c.take_back.new.self }) refl c.self.invariant (omega (arith, c.grow.ensures.long, length-set c.grow.new.entries.items at c.place.new.self))
    (set_same a.entries.items c.grow.new.entries.items at c.grow.ensures.same (omega (arith, c.in_ok-grow.ensures.ok)) c.index_mut.result.now c.index_mut.ensures.value c.place.new.self c.in_default.ensures.err)
    (taken_back a.delayed_polls c.add_if.new.self c.take_back.new.self c.args.pdu.now.poll c.in_ok-fresh.fresh c.args.number c.add_if.ensures.rises.1 c.take_back.ensures.rises c.in_ok-fresh.ensures.adds c.in_ok-fresh.ensures.fresh c.take_back.ensures.back)
    ∙ c.self.view_is

pub status_after-self-inside-requires-clause-from : goal.status_after-self-inside-requires-clause-from
status_after-self-inside-requires-clause-from c =
    omega (arith, not_below c.args.self.now c.args.number (amd_of c.args.pdu.now) c.requires.news, next_at c.self.inside c.args.self.now c.self.invariant c.self.view_is)

-- the receiver once the PDU is placed
abbrev placed_inside : goal.After-answer_of → Inside
placed_inside c = record c.self.inside {
  rx_next = c.self.inside.rx_next + c.pop_done.result;
  rx_next_highest = c.max-self-inside.result;
  rx_highest_status = c.status_after-self-inside.result;
  rx_next_status_trigger = c.trigger_after-self-inside.result;
  entries = c.pop_done.new.entries;
  status_triggered = c.self.inside.status_triggered || c.take_below.result;
  delayed_polls = c.take_below.new.self;
}

module _ (c : goal.After-answer_of) where
  from : c.self.inside.rx_next ≤ c.args.number
  from = omega (arith, not_below c.args.self.now c.args.number (amd_of c.args.pdu.now) c.requires.news, next_at c.self.inside c.args.self.now c.self.invariant c.self.view_is)

  inside : c.args.number - c.self.inside.rx_next < length c.grow.new.entries.items
  inside = omega (arith, c.in_ok-grow.ensures.ok)

  fit_grown : EntriesFit c.self.inside.rx_next c.self.inside.rx_next_highest c.grow.new.entries.items
  fit_grown = fits_same c.self.inside.rx_next c.self.inside.rx_next_highest c.self.inside.entries.items c.grow.new.entries.items c.self.invariant.entries c.grow.ensures.long c.grow.ensures.same

  rep : Replaces c.self.inside.rx_next c.self.inside.rx_next_highest c.max-self-inside.result c.args.number c.grow.new.entries.items
      (set c.grow.new.entries.items (c.args.number - c.self.inside.rx_next) c.place.new.self)
  rep = replaced c.self.inside.rx_next c.self.inside.rx_next_highest c.max-self-inside.result c.args.number c.grow.new.entries.items
      (set c.grow.new.entries.items (c.args.number - c.self.inside.rx_next) c.place.new.self) fit_grown c.max-self-inside.ensures from inside
      (length-set c.grow.new.entries.items (c.args.number - c.self.inside.rx_next) c.place.new.self)
      (λ k ne. got_other c.grow.new.entries.items (c.args.number - c.self.inside.rx_next) c.place.new.self k ne)

  fit_popped : EntriesFit (c.self.inside.rx_next + c.pop_done.result) c.max-self-inside.result c.pop_done.new.entries.items
  fit_popped = popped_fits c.self.inside.rx_next c.max-self-inside.result c.pop_done.result _ c.pop_done.new.entries.items rep.fits c.pop_done.ensures.done c.pop_done.ensures.long c.pop_done.ensures.rest

  same_popped : received_of (c.self.inside.rx_next + c.pop_done.result) c.max-self-inside.result c.pop_done.new.entries.items
      ≡ received_of c.self.inside.rx_next c.max-self-inside.result (set c.grow.new.entries.items (c.args.number - c.self.inside.rx_next) c.place.new.self)
  same_popped = popped_same c.self.inside.rx_next c.max-self-inside.result c.pop_done.result _ c.pop_done.new.entries.items rep.fits c.pop_done.ensures.done c.pop_done.ensures.long c.pop_done.ensures.rest

  next_new : rx_next (receiver_of (placed_inside c)) ≡ c.self.inside.rx_next + c.pop_done.result
  next_new = next_is (c.self.inside.rx_next + c.pop_done.result) c.max-self-inside.result c.pop_done.new.entries.items c.pop_done.ensures.front

  highest_new : rx_next_highest (receiver_of (placed_inside c)) ≡ c.max-self-inside.result
  highest_new = highest_is (c.self.inside.rx_next + c.pop_done.result) c.max-self-inside.result c.pop_done.new.entries.items fit_popped.order fit_popped.long

  others : (n : ℕ) → n ≢ c.args.number → got (receiver_of (placed_inside c)) n ≡ got c.args.self.now n
  others n ne = ap (λ (l : List Got). get_or l n (Part [] None)) same_popped ∙ rep.others n ne
      ∙ ap (λ (l : List Got). get_or l n (Part [] None)) (got_same c.self.inside.rx_next c.self.inside.rx_next_highest c.self.inside.entries.items c.grow.new.entries.items c.self.invariant.entries fit_grown c.grow.ensures.same)
      ∙ ap (λ (r : Rx). got r n) c.self.view_is

  this : got (receiver_of (placed_inside c)) c.args.number ≡ got_of c.place.new.self
  this = ap (λ (l : List Got). get_or l c.args.number (Part [] None)) same_popped ∙ rep.this
      ∙ got_this c.grow.new.entries.items (c.args.number - c.self.inside.rx_next) c.place.new.self inside

  old_entry : got c.args.self.now c.args.number ≡ got_of c.index_mut.result.now
  old_entry = entry_at c.self.inside c.args.self.now c.self.invariant c.self.view_is c.args.number from
      ∙ entry_here c.self.inside.entries.items c.grow.new.entries.items (c.args.number - c.self.inside.rx_next) c.grow.ensures.same inside c.index_mut.result.now c.index_mut.ensures.value

  reassembly : Reassembles c.args.self.now.rx_next_status_trigger (receiver_of (placed_inside c))
  reassembly = subst (λ (before : Option ℕ). Reassembles before (receiver_of (placed_inside c))) (ap (λ (r : Rx). r.rx_next_status_trigger) c.self.view_is)
      (reassembles (receiver_of (placed_inside c)) c.self.inside.rx_next_status_trigger (c.self.inside.rx_next + c.pop_done.result) c.max-self-inside.result (got_at c.pop_done.new.entries.items 0) (sym next_new) (sym highest_new)
      (sym (got_is (c.self.inside.rx_next + c.pop_done.result) c.max-self-inside.result c.pop_done.new.entries.items fit_popped.spare (rx_next (receiver_of (placed_inside c))) (omega (arith, next_new))
      ∙ ap (got_at c.pop_done.new.entries.items) (omega (arith, next_new))))
      c.trigger_after-self-inside.ensures)

  polls_fit : (k : ℕ) → Contains c.add_if.new.self k → k < c.self.inside.rx_next + c.pop_done.result + window c.self.inside.size
  polls_fit = polls_within c.self.inside c.args.self.now c.args.number (c.self.inside.rx_next + c.pop_done.result) c.args.pdu.now.poll c.add_if.new.self c.self.invariant c.self.view_is
      c.requires.near.high (omega arith) c.in_ok-fresh.ensures.adds

  its_polls : Polls c.args.self.now c.args.number c.args.pdu.now.poll (receiver_of (placed_inside c))
  its_polls = polls_placed c.args.self.now (receiver_of (placed_inside c)) c.args.number c.args.pdu.now.poll c.take_below.result c.add_if.new.self
      (subst (λ (l : List ℕ). AddsIf l c.args.pdu.now.poll c.args.number c.add_if.new.self) (ap (λ (r : Rx). r.delayed_polls) c.self.view_is) c.in_ok-fresh.ensures.adds)
      c.take_below.ensures.drops c.take_below.ensures.some (ap (λ (r : Rx). r.status_triggered || c.take_below.result) c.self.view_is)
      (λ k has. omega (arith, polls_fit k has, next_new)) c.take_below.ensures.rises

  placed_so : PlacesAs c.args.self.now c.args.number (amd_of c.args.pdu.now) (heard_of c.args.number c.in-Ok.sdu) (receiver_of (placed_inside c))
  placed_so = placed c.args.self.now (receiver_of (placed_inside c)) c.args.number (amd_of c.args.pdu.now) others
      (omega (arith, highest_new, c.max-self-inside.ensures, highest_at c.self.inside c.args.self.now c.self.invariant c.self.view_is))
      (ap (λ (r : Rx). r.size) c.self.view_is) (ap (λ (r : Rx). r.status_prohibit_runs) c.self.view_is) reassembly its_polls c.in-Ok.sdu
      (subst (λ (g : Got). PlacesSdu g (amd_of c.args.pdu.now) c.in-Ok.sdu (got (receiver_of (placed_inside c)) c.args.number)) (sym old_entry)
      (subst (λ (g : Got). PlacesSdu (got_of c.index_mut.result.now) (amd_of c.args.pdu.now) c.in-Ok.sdu g) (sym this) c.in-Ok.ensures.ok))
      (subst (λ (b : Bool). MatchBool b (((c.args.number ≡ c.args.self.now.rx_highest_status) × IsFirst (λ n. got (receiver_of (placed_inside c)) n ≢ Done) (c.args.number + 1) c.status_after-self-inside.result)
      ⊎ ((c.args.number ≢ c.args.self.now.rx_highest_status) × (c.status_after-self-inside.result ≡ c.args.self.now.rx_highest_status))) (c.status_after-self-inside.result ≡ c.args.self.now.rx_highest_status)) c.is_some.ensures
      (status_moves (receiver_of (placed_inside c)) c.args.self.now c.self.inside.rx_next c.max-self-inside.result c.args.number _ c.is_some.result c.status_after-self-inside.result rep.fits same_popped from refl
      (subst (λ (s : ℕ). MovesStatus c.self.inside.rx_next (set c.grow.new.entries.items (c.args.number - c.self.inside.rx_next) c.place.new.self) c.args.number c.is_some.result s c.status_after-self-inside.result)
      (ap (λ (r : Rx). r.rx_highest_status) c.self.view_is) c.status_after-self-inside.ensures)))

pub invariant_of-self-2 : goal.invariant_of-self-2
invariant_of-self-2 c =
    let old = c.args.self.now in
    let heard = hears_placed old c.args.pdu.now c.args.number (heard_of c.args.number c.in-Ok.sdu) (receiver_of (placed_inside c)) c.requires.near c.requires.news c.requires.agrees (placed_so c) in
    record {
      sound = stays_sound old (receiver_of (placed_inside c)) (subst IsSound c.self.view_is c.self.invariant.sound) (hears (amd_of c.args.pdu.now) (heard_of c.args.number c.in-Ok.sdu) c.requires.fits heard);
      small = omega (arith, c.max-self-inside.ensures, c.self.invariant.small, c.requires.near.high, c.requires.base, small_window old.size);
      entries = fit_popped c;
      front = c.pop_done.ensures.front;
      trigger = λ t is. omega (arith, trigger_from_next c.args.self.now.rx_next_status_trigger (receiver_of (placed_inside c)) t (reassembly c) is, next_new c);
      polls = λ k has. polls_fit c k ((c.take_below.ensures.drops k).0 has).0;
    }

pub returns-clause-ok : goal.returns-clause-ok
returns-clause-ok c = rw c.answer_of.ensures (placed_so c)

pub returns-clause-length : goal.returns-clause-length
returns-clause-length c = sdu_length c.args.self.now c.args.self.now.size c.args.number (amd_of c.args.pdu.now) c.answer_of.result (receiver_of (placed_inside c))
    ((subst IsSound c.self.view_is c.self.invariant.sound).parts) c.requires.fits c.requires.agrees (rw c.answer_of.ensures (placed_so c))
