-- A quiet chain: its transmitters, slots, queues and senders have nothing.
use Rattle.std.proofs.Common.{◌≡◌, inl, inr, ℕ, zero, suc, ◌+◌, ◌-◌, ◌==◌, ◌<◌, ◌≤◌, ◌&&◌, Bool, true, false, cond, not, nat_lt, List, [], ◌∷◌, count_by, drop, find, length, Option, Some, None, is_none, is_some, option_map, option_and_then, refl, sym, ◌∙◌, ap, arith}
use Rattle.std.specs.List.{list_all, prefix_len, slice_index_or}
use Rattle.std.specs.Option.{unwrap_or}
use Rattle.std.proofs.lemmas.Bool.{cases_Bool, cond-true, cond-false, false≢true, and_parts, eqb-true, ltb-false}
use Rattle.std.proofs.lemmas.List.Sums.{sum_by-cons, prefix_len_passes}
use Rattle.std.proofs.lemmas.Option.{none-some, same_Some}
use Rattle.link_base.specs.declared.names.Key.{Key}
use Rattle.link_base.specs.declared.names.PortName.{PortName}
use Rattle.link_base.specs.declared.names.Side.{Side}
use Rattle.rlc_model.specs.Sides.{Entity}
use Rattle.rlc_model.specs.Tx.{Kept, unconfirmed}
use Rattle.pdcp_model.specs.Sender.{Sender, has_next, kept_at, next, submitted}
use Rattle.node_model.specs.declared.parcel.Parcel.{Parcel}
use Rattle.node_model.specs.Feeding.{wants_report}
use Rattle.node_model.specs.Names.{NodeName, is_key, is_node, is_port, owner}
use Rattle.node_model.specs.State.{Incoming, Node, Outgoing, PortSide, side_at, entity_of, slot_of, slot_at, queue_of, queue_at, outgoing_at, no_node}
use Rattle.node_model.specs.Switching.{unconfirmed_in}
use Rattle.chain_model.specs.Resting.{is_quiet, is_quiet_node, is_quiet_side, is_quiet_sender}
use Rattle.chain_model.specs.State.{Chain, entity_on, node_at}
use Rattle.item_chain.proofs.Receives.{dropped}

-- what is found has what each has
found_passes : {T : Type 0} (test all : T → Bool) (xs : List T) (x : T) → list_all all xs ≡ true → find test xs ≡ Some x → all x ≡ true
found_passes test all [] x each e = absurd (none-some x e)
found_passes test all (y ∷ ys) x each e =
    let parts = and_parts (all y) (list_all all ys) each in
    elim (cases_Bool (test y)) [
      | inl here ↦ ap all (sym (same_Some y x (sym (cond-true (test y) (Some y) (find test ys) here) ∙ e))) ∙ parts.0
      | inr other ↦ found_passes test all ys x parts.1 (sym (cond-false (test y) (Some y) (find test ys) other) ∙ e)
    ]

-- where nothing is kept, nothing is at any number
none_kept : (xs : List (Option Kept)) → count_by is_some xs ≡ 0 → (k : ℕ) → slice_index_or xs k None ≡ None
none_kept [] none k = refl
none_kept (None ∷ xs) none zero = refl
none_kept (None ∷ xs) none (suc k) = none_kept xs (omega (arith, none, sum_by-cons (λ (o : Option Kept). cond (is_some o) 1 0) None xs)) k
none_kept (Some x ∷ xs) none k = absurd (omega (arith, none, sum_by-cons (λ (o : Option Kept). cond (is_some o) 1 0) (Some x) xs))

-- a sender doesn't wait, and each SDU from its place on is confirmed
pub record SenderRests (s : Sender) : Type 0 where
  pub waits : s.waits ≡ false
  pub gone : (k : ℕ) → s.place ≤ k → k < length s.kept → kept_at s k ≡ None

module _ (c : Chain) (quiet : is_quiet c ≡ true) where
  quiet_nodes : list_all (is_quiet_node c.tables) c.nodes ≡ true
  quiet_nodes = (and_parts (count_by is_some c.air == 0) (list_all (is_quiet_node c.tables) c.nodes) quiet).1

  quiet_node : (x : NodeName) → is_quiet_node c.tables (node_at c x) ≡ true
  quiet_node x = by (find (λ (n : Node). is_node x n.name) c.nodes) refl
    where
      by : (o : Option Node) → find (λ (n : Node). is_node x n.name) c.nodes ≡ o → is_quiet_node c.tables (unwrap_or o (no_node x)) ≡ true
      by None is = refl
      by (Some n) is = found_passes (λ (n : Node). is_node x n.name) (is_quiet_node c.tables) c.nodes n quiet_nodes is

  module _ (x : NodeName) where
    abbrev n : Node
    n = node_at c x

    parts : (list_all is_quiet_side n.ports ≡ true) × ((list_all is_quiet_sender n.outgoing && list_all (λ (i : Incoming). not (wants_report c.tables n i)) n.incoming) ≡ true)
    parts = and_parts (list_all is_quiet_side n.ports)
        (list_all is_quiet_sender n.outgoing && list_all (λ (i : Incoming). not (wants_report c.tables n i)) n.incoming) (quiet_node x)

    record SideRests (s : PortSide) : Type 0 where
      pub sent : unconfirmed_in s.entity ≡ 0
      pub slot : s.slot ≡ None
      pub queue : s.queue ≡ []

    side_rests : (q : PortName) (s : PortSide) → side_at n q ≡ Some s → SideRests s
    side_rests q s is =
        let all = found_passes (λ (s : PortSide). is_port q s.name) is_quiet_side n.ports s parts.0 is in
        let first = and_parts (unconfirmed_in s.entity == 0) (is_none s.slot && (length s.queue == 0)) all in
        let second = and_parts (is_none s.slot) (length s.queue == 0) first.1 in
        record { sent = eqb-true (unconfirmed_in s.entity) 0 first.0; slot = no_slot s.slot second.0; queue = no_queue s.queue (eqb-true (length s.queue) 0 second.1) }
      where
        no_slot : (o : Option Parcel) → is_none o ≡ true → o ≡ None
        no_slot None none = refl
        no_slot (Some parcel) none = absurd (false≢true none)

        no_queue : (xs : List Parcel) → length xs ≡ 0 → xs ≡ []
        no_queue [] none = refl
        no_queue (parcel ∷ xs) none = absurd (omega (arith, none))

    pub slot_rests : (q : PortName) → slot_at n q ≡ None
    slot_rests q = by (side_at n q) refl
      where
        by : (o : Option PortSide) → side_at n q ≡ o → option_and_then slot_of o ≡ None
        by None is = refl
        by (Some s) is = (side_rests q s is).slot

    pub queue_rests : (q : PortName) → queue_at n q ≡ []
    queue_rests q = by (side_at n q) refl
      where
        by : (o : Option PortSide) → side_at n q ≡ o → unwrap_or (option_map queue_of o) [] ≡ []
        by None is = refl
        by (Some s) is = (side_rests q s is).queue

    sent_in : (q : PortName) (e : Entity) → option_and_then entity_of (side_at n q) ≡ Some e → unconfirmed e.tx ≡ 0
    sent_in q e is = by (side_at n q) refl is
      where
        by : (o : Option PortSide) → side_at n q ≡ o → option_and_then entity_of o ≡ Some e → unconfirmed e.tx ≡ 0
        by None here is = absurd (none-some e is)
        by (Some s) here is = ap unconfirmed_in (sym is) ∙ (side_rests q s here).sent

    pub sender_rests : (key : Key) (o : Outgoing) → outgoing_at n key ≡ Some o → SenderRests o.sender
    sender_rests key o is = record { waits = waits; gone = gone }
      where
        s : Sender
        s = o.sender

        all : (not s.waits && not (has_next s)) ≡ true
        all = found_passes (λ (o : Outgoing). is_key key o.key) is_quiet_sender n.outgoing o
            (and_parts (list_all is_quiet_sender n.outgoing) (list_all (λ (i : Incoming). not (wants_report c.tables n i)) n.incoming) parts.1).0 is

        not_true : (b : Bool) → not b ≡ true → b ≡ false
        not_true true e = absurd (false≢true e)
        not_true false e = refl

        waits : s.waits ≡ false
        waits = not_true s.waits (and_parts (not s.waits) (not (has_next s)) all).0

        none_next : nat_lt (next s) (submitted s) ≡ false
        none_next = ap (λ (b : Bool). not b && nat_lt (next s) (submitted s)) (sym waits) ∙ not_true (has_next s) (and_parts (not s.waits) (not (has_next s)) all).1

        none_of : (x : Option (List ℕ)) → is_none x ≡ true → x ≡ None
        none_of None e = refl
        none_of (Some x) e = absurd (false≢true e)

        gone : (k : ℕ) → s.place ≤ k → k < length s.kept → kept_at s k ≡ None
        gone k from lt =
            let at : s.place + (k - s.place) ≡ k = omega (arith, from) in
            let behind : submitted s ≤ next s = ltb-false (next s) (submitted s) none_next in
            let far : k - s.place < prefix_len is_none (drop s.place s.kept) = omega (arith, from, lt, behind) in
            ap (kept_at s) (sym at) ∙ sym (dropped s.place s.kept (k - s.place)) ∙ none_of _ (prefix_len_passes is_none (drop s.place s.kept) (k - s.place) None far)

  -- each transmitter of an open side has all confirmed
  pub tx_rests : (at : Side) (q : PortName) (e : Entity) → entity_on c at q ≡ Some e → (k : ℕ) → slice_index_or e.tx.kept k None ≡ None
  tx_rests at q e is k = none_kept e.tx.kept (sent_in (owner at q) q e is) k
