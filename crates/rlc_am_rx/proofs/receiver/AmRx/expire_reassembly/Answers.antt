use Rattle.std.proofs.Common.{◌≡◌, ◌+◌, inl, inr, ℕ, true, List, Contains, ap, sym, subst, ◌∙◌, arith}
use Rattle.std.proofs.lemmas.Option.{none-some, same_Some}
use Rattle.rlc_model.specs.Rx.{Rx, got, ExpiresReassembly}
use Rattle.rlc_law.specs.Receiver.{IsSound}
use Rattle.rlc_law.specs.Receiver.ReceiverCall.{expires_reassembly}
use Rattle.rlc_law.proofs.Receiver.{stays_sound}
use Rattle.rlc_am_rx.specs.Reassembly.{got_at}
use Rattle.rlc_am_rx.specs.Receiver.{receiver_of}
use Rattle.rlc_am_rx.proofs.Entries.{next_is}
use Rattle.rlc_am_rx.proofs.Placing.{starts_again}
use Rattle.rlc_am_rx.proofs.State.{highest_at, entry_at, first_at}
use Rattle.rlc_am_rx.proofs.receiver.AmRx.expire_reassembly.Goals as goal

expires : (c : goal.After-self-3-1)
    → ExpiresReassembly c.args.self.now (receiver_of (record c.self.inside { rx_highest_status = c.self.inside.rx_next + c.first_open-at.result; rx_next_status_trigger = c.trigger_from-self-inside.result; status_triggered = true; delayed_polls = c.take_below.new.self }))
expires c =
    let a = c.self.inside in
    let r = c.args.self.now in
    let i = c.self.invariant in
    let at = c.first_open-at.result in
    let polls = ap (λ (r : Rx). r.delayed_polls) c.self.view_is in
    let drops = c.take_below.ensures.drops in
    let first = c.first_open-at.ensures in
    let here : got r (a.rx_next + at) ≡ got_at a.entries.items at = entry_at a r i c.self.view_is (a.rx_next + at) (omega arith)
    ∙ ap (got_at a.entries.items) (omega arith) in
    record {
      trigger = c.in-Some.trigger;
      runs = ap (λ (r : Rx). r.rx_next_status_trigger) (sym c.self.view_is) ∙ c.in-Some.is;
      highest_status = first_at a r i.entries c.self.view_is c.in-Some.trigger at (i.trigger c.in-Some.trigger c.in-Some.is) first.after first.before first.here;
      reassembly = starts_again r (a.rx_next + at) a.rx_next_highest (got_at a.entries.items at) c.trigger_from-self-inside.result (sym (highest_at a r i c.self.view_is)) (sym here) c.trigger_from-self-inside.ensures;
      is = ap (λ (r : Rx). record r { rx_highest_status = a.rx_next + at; status_triggered = true; rx_next_status_trigger = c.trigger_from-self-inside.result; delayed_polls = c.take_below.new.self }) c.self.view_is;
      delays = λ k. (
        λ h. let d = (drops k).0 h in (
          subst (λ (l : List ℕ). Contains l k) polls d.0,
          λ due. elim due [
            | inl lt ↦ d.1 lt
            | inr ge ↦ omega (arith, ge, i.polls k d.0, next_is a.rx_next a.rx_next_highest a.entries.items i.front)
          ],
        ),
        λ h. (drops k).1 (subst (λ (l : List ℕ). Contains l k) (sym polls) h.0, λ lt. h.1 (inl lt)),
      );
      rises = c.take_below.ensures.rises;
    }

pub invariant_of-self : goal.invariant_of-self
invariant_of-self c =
    let i = c.self.invariant in
    record {
      sound = stays_sound c.args.self.now _ (subst IsSound c.self.view_is i.sound) (expires_reassembly (expires c));
      small = i.small;
      entries = i.entries;
      front = i.front;
      trigger = λ t is. elim c.trigger_from-self-inside.ensures [
        | inl starts ↦ omega (arith, same_Some _ _ (sym is ∙ starts.1), i.entries.order)
        | inr rests ↦ absurd (none-some _ (sym rests.1 ∙ is))
      ];
      polls = λ k h. i.polls k ((c.take_below.ensures.drops k).0 h).0;
    }

pub returns : goal.returns
returns c = expires c
