-- The places at which an SDU stands, by the two lists of ports.
use Rattle.std.proofs.Common.{◌≡◌, ℕ, zero, suc, ◌<◌, Bool, true, false, cond, ◌&&◌, List, [], ◌∷◌}
use Rattle.std.proofs.Common.{length, get_or, map, Option, Some, None, is_some, refl, sym, ◌∙◌, ap, arith, inl, inr}
use Rattle.std.specs.Prelude.{find, option_map}
use Rattle.std.specs.List.{list_any}
use Rattle.std.specs.Bool.{MatchBool}
use Rattle.std.proofs.lemmas.Bool.{cases_Bool, or_cases, or_left, or_right, true≢false, eq-eqb, eqb-true, MatchBool-at_true, MatchBool-at_false}
use Rattle.std.proofs.lemmas.Option.{none-some}
use Rattle.link_base.specs.declared.names.LocalId.{LocalId}
use Rattle.link_base.specs.declared.names.PortName.{PortName}
use Rattle.rlc_model.specs.Rx.{Rx}
use Rattle.rlc_model.specs.Tx.{Tx, Kept, at}
use Rattle.rlc_model.specs.Calls.{Bears}
use Rattle.node_model.specs.State.{PortSide}
use Rattle.relay_core.specs.declared.ports.IngressPort.{IngressPort}
use Rattle.relay_core.specs.declared.ports.EgressPort.{EgressPort}
use Rattle.relay_core.specs.Ports.{ArePort, Pairwise, entity_by, side_of, sides_of, ingress_name}
use Rattle.node_model.specs.Standing.{tag_bears, kept_bears, entity_bears}
use Rattle.relay_core.specs.Standing.{tx_bears, is_uu, in_slot, in_queue, in_uu, first_port, ingress_bears, queue_bears, uu_bears, egress_name}

module _ (id : LocalId) where
  -- an SDU that bears the identity is among those kept
  any_from : (l : List (Option Kept)) (n : ℕ) (k : Kept) → at l n ≡ Some k → k.tag.ue ≡ Some id → list_any (kept_bears id) l ≡ true
  any_from [] n k is ue = absurd (none-some k is)
  any_from (x ∷ l) zero k is ue = or_left (kept_bears id x) (list_any (kept_bears id) l) (ap (kept_bears id) is ∙ (ap (tag_bears id) ue ∙ eq-eqb id.0 id.0 refl))
  any_from (x ∷ l) (suc n) k is ue = or_right (kept_bears id x) (list_any (kept_bears id) l) (any_from l n k is ue)

  tag_is : (tag : Option LocalId) → tag_bears id tag ≡ true → tag ≡ Some id
  tag_is None bears = absurd (true≢false (sym bears))
  tag_is (Some ue) bears = ap (λ (n : ℕ). let it : Option LocalId = Some (record { 0 = n }) in it) (sym (eqb-true id.0 ue.0 bears))

  kept_is : (x : Option Kept) → kept_bears id x ≡ true → (k : Kept) × (x ≡ Some k) × (k.tag.ue ≡ Some id)
  kept_is None bears = absurd (true≢false (sym bears))
  kept_is (Some k) bears = (k, refl, tag_is k.tag.ue bears)

  any_to : (l : List (Option Kept)) → list_any (kept_bears id) l ≡ true → (n : ℕ) × (k : Kept) × (at l n ≡ Some k) × (k.tag.ue ≡ Some id)
  any_to [] any = absurd (true≢false (sym any))
  any_to (x ∷ l) any = elim (or_cases (kept_bears id x) (list_any (kept_bears id) l) any) [
    | inl here ↦ let it = kept_is x here in (0, it.0, it.1, it.2)
    | inr later ↦ let it = any_to l later in (suc it.0, it.1, it.2, it.3)
  ]

  pub bears_same : (tx : Tx) (b : Bool) → MatchBool b (Bears tx id) (Bears tx id → ⊥) → b ≡ list_any (kept_bears id) tx.kept
  bears_same tx true m = let it = MatchBool-at_true (Bears tx id) (Bears tx id → ⊥) refl m in sym (any_from tx.kept it.0 it.1 it.2 it.3)
  bears_same tx false m = elim (cases_Bool (list_any (kept_bears id) tx.kept)) [
    | inl any ↦ absurd (MatchBool-at_false (Bears tx id) (Bears tx id → ⊥) refl m (any_to tx.kept any))
    | inr none ↦ sym none
  ]

entity_same : (id : LocalId) (rx : Option Rx) (tx : Option Tx) (epoch : ℕ) → is_some tx ≡ is_some rx → tx_bears id tx ≡ entity_bears id (entity_by rx tx epoch)
entity_same id (Some rx) (Some tx) epoch opens = refl
entity_same id None None epoch opens = refl
entity_same id (Some rx) None epoch opens = refl
entity_same id None (Some tx) epoch opens = absurd cc

module _ (capacity : ℕ) (names : List PortName) (id : LocalId) where
  pub slots_same : (is : List IngressPort) (es : List EgressPort) → Pairwise (ArePort capacity names) is es
      → option_map ingress_name (find (ingress_bears id) is) ≡ first_port (in_slot id) (sides_of is es)
  slots_same [] es all = refl
  slots_same (i ∷ is) [] all = absurd all
  slots_same (i ∷ is) (e ∷ es) all = elim (cases_Bool (ingress_bears id i)) [
    | inl is_here ↦ rw is_here refl
    | inr fails ↦ rw fails (slots_same is es all.1)
  ]

  pub queues_same : (is : List IngressPort) (es : List EgressPort) → Pairwise (ArePort capacity names) is es
      → option_map egress_name (find (queue_bears id) es) ≡ first_port (in_queue id) (sides_of is es)
  queues_same [] [] all = refl
  queues_same [] (e ∷ es) all = absurd all
  queues_same (i ∷ is) [] all = absurd all
  queues_same (i ∷ is) (e ∷ es) all = elim (cases_Bool (queue_bears id e)) [
    | inl is_here ↦ rw is_here (ap (λ (n : PortName). Some n) all.0.name)
    | inr fails ↦ rw fails (queues_same is es all.1)
  ]

  uu_same : (i : IngressPort) (e : EgressPort) → ArePort capacity names i e → uu_bears id e ≡ in_uu id (side_of i e)
  uu_same i e are = ap (λ (n : PortName). is_uu n && tx_bears id e.tx) are.name ∙ ap (λ (b : Bool). is_uu i.name && b) (entity_same id i.rx e.tx i.epoch are.opens)

  pub uus_same : (is : List IngressPort) (es : List EgressPort) → Pairwise (ArePort capacity names) is es
      → option_map egress_name (find (uu_bears id) es) ≡ first_port (in_uu id) (sides_of is es)
  uus_same [] [] all = refl
  uus_same [] (e ∷ es) all = absurd all
  uus_same (i ∷ is) [] all = absurd all
  uus_same (i ∷ is) (e ∷ es) all = elim (cases_Bool (in_uu id (side_of i e))) [
    | inl is_here ↦ rw (uu_same i e all.0 ∙ is_here, is_here) (ap (λ (n : PortName). Some n) all.0.name)
    | inr fails ↦ rw (uu_same i e all.0 ∙ fails, fails) (uus_same is es all.1)
  ]
