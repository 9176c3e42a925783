-- When a data PDU brings nothing new.
use Rattle.std.proofs.Common.{◌≡◌, ◌↔◌, inl, inr, ℕ, ◌≤◌, ◌<◌, Bool, true, [], length, None, refl, sym, ◌∙◌, subst, arith}
use Rattle.rlc_pdu.specs.Amd.{Amd}
use Rattle.rlc_model.specs.Rx.{Rx, Got, got, rx_next, BringsNothing, IsRepeat}
use Rattle.rlc_model.specs.Rx.Got.{Done, Part}
use Rattle.rlc_am_rx.specs.Assembly.{Pieces, got_of_pieces}
use Rattle.rlc_am_rx.proofs.Entries.{part_not_done}

-- a number from RX_Next on that isn't complete: the PDU is a repeat where it brings nothing new of the SDU
only_bytes : (r : Rx) (x : ℕ) (v : Amd) (g : Got) → rx_next r ≤ x → got r x ≡ g → (g ≡ Done → ⊥) → IsRepeat r x v → BringsNothing g v
only_bytes r x v g from is undone (inl low) = absurd (omega (arith, low, from))
only_bytes r x v g from is undone (inr (inl done)) = absurd (undone (sym is ∙ done))
only_bytes r x v g from is undone (inr (inr nothing)) = subst (λ (h : Got). BringsNothing h v) is nothing

pub repeat_where : (r : Rx) (x : ℕ) (v : Amd) (p : Pieces) (b : Bool) → rx_next r ≤ x → got r x ≡ got_of_pieces p
    → b ≡ true ↔ BringsNothing (got_of_pieces p) v → b ≡ true ↔ IsRepeat r x v
repeat_where r x v p b from is nothing = (
  λ on. inr (inr (subst (λ (h : Got). BringsNothing h v) (sym is) (nothing.0 on))),
  λ h. nothing.1 (only_bytes r x v (got_of_pieces p) from is part_not_done h),
)

-- where nothing is got, nothing is a repeat
pub nothing_repeated : (r : Rx) (x : ℕ) (v : Amd) → rx_next r ≤ x → got r x ≡ Part [] None → 0 < length v.body → IsRepeat r x v → ⊥
nothing_repeated r x v from is some h = (only_bytes r x v (Part [] None) from is part_not_done h).0 v.so (omega arith) (omega (arith, some)) refl
