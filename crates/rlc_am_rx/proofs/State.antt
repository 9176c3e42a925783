-- What is seen of a receiver, from its fields.
use Rattle.std.proofs.Common.{◌≡◌, ◌≢◌, ◌↔◌, inl, inr, ℕ, ◌+◌, ◌-◌, ◌<◌, ◌≤◌, List, [], length, get_or, Option, Some, None, Bor, IfSome, IfNone, IsSome, refl, sym, ◌∙◌, ap, arith}
use Rattle.std.proofs.lemmas.Bool.{cases_lt, true≢false}
use Rattle.rlc_model.specs.Rx.{Rx, Got, got, rx_next, rx_next_highest}
use Rattle.rlc_model.specs.Numbers.{IsFirst}
use Rattle.rlc_model.specs.Rx.Got.{Done, Part}
use Rattle.rlc_am_rx.specs.declared.reassembly.Entry.{Entry}
use Rattle.rlc_am_rx.specs.declared.receiver.AmRx.TheInside.{Inside}
use Rattle.rlc_am_rx.specs.Reassembly.{got_of, got_at}
use Rattle.rlc_am_rx.specs.Receiver.{receiver_of, EntriesFit, IsReceiver}
use Rattle.rlc_am_rx.proofs.Entries.{next_is, highest_is, got_is, got_here, got_behind}

module _ (a : Inside) (r : Rx) (i : IsReceiver a) (view_is : receiver_of a ≡ r) where
  pub next_at : rx_next r ≡ a.rx_next
  next_at = ap rx_next (sym view_is) ∙ next_is a.rx_next a.rx_next_highest a.entries.items i.front

  pub highest_at : rx_next_highest r ≡ a.rx_next_highest
  highest_at = ap rx_next_highest (sym view_is) ∙ highest_is a.rx_next a.rx_next_highest a.entries.items i.entries.order i.entries.long

  -- what is got of a number is got of its entry
  pub entry_at : (n : ℕ) → a.rx_next ≤ n → got r n ≡ got_at a.entries.items (n - a.rx_next)
  entry_at n le = ap (λ (q : Rx). got q n) (sym view_is) ∙ got_is a.rx_next a.rx_next_highest a.entries.items i.entries.spare n le

-- of a place that has an entry that is got, and of another nothing
pub got_some : (items : List Entry) (at long : ℕ) (g : Got) (o : Option (Bor Entry)) → long ≡ length items → g ≡ got_at items at
    → (IsSome o ↔ (at < long)) → IfSome o (λ x. x.now ≡ get_or items at x.now) → IfSome o (λ x. g ≡ got_of x.now)
got_some items at long g None same is inside found = tt
got_some items at long g (Some x) same is inside found = is ∙ got_here items at x.now (omega (arith, same, inside.0 refl)) found

pub got_none : (items : List Entry) (at long : ℕ) (g : Got) (o : Option (Bor Entry)) → long ≡ length items → g ≡ got_at items at
    → (IsSome o ↔ (at < long)) → IfNone o (g ≡ Part [] None)
got_none items at long g None same is inside = elim (cases_lt at long) [
  | inl lt ↦ absurd (true≢false (sym (inside.1 lt)))
  | inr le ↦ is ∙ got_behind items at (omega (arith, le, same))
]
got_none items at long g (Some x) same is inside = tt

-- the first number from n on that isn't complete, from the first place
pub first_at : (a : Inside) (r : Rx) → EntriesFit a.rx_next a.rx_next_highest a.entries.items → receiver_of a ≡ r → (n at : ℕ) → a.rx_next ≤ n
    → n - a.rx_next ≤ at → ((i : ℕ) → n - a.rx_next ≤ i → i < at → got_at a.entries.items i ≡ Done) → got_at a.entries.items at ≢ Done
    → IsFirst (λ m. got r m ≢ Done) n (a.rx_next + at)
first_at a r fit view_is n at from after before here = record {
  from = omega (arith, from, after);
  has = λ is. here (sym (same (a.rx_next + at) at (omega arith) (omega arith)) ∙ is);
  none = λ m ge lt open_m. open_m (same m (m - a.rx_next) (omega (arith, from, ge)) (omega (arith, from, ge))
      ∙ before (m - a.rx_next) (omega (arith, ge)) (omega (arith, lt, from, ge)));
}
  where
    same : (m i : ℕ) → a.rx_next ≤ m → i ≡ m - a.rx_next → got r m ≡ got_at a.entries.items i
    same m i le is = ap (λ (q : Rx). got q m) (sym view_is) ∙ got_is a.rx_next a.rx_next_highest a.entries.items fit.spare m le
        ∙ ap (got_at a.entries.items) (sym is)
