-- Numbers are bounded by the data PDUs that were made.
use Rattle.std.proofs.Common.{inl, inr, ◌+◌, ◌-◌, ◌<◌, ◌≤◌, List, [], ◌∷◌, length, ap, arith}
use Rattle.std.specs.List.{Contains}
use Rattle.std.proofs.lemmas.Bool.{cases_lt, cases_eq}
use Rattle.std.proofs.lemmas.List.Sums.{prefix_len-le-length}
use Rattle.link_base.specs.SequenceNumbers.{window}
use Rattle.rlc_model.specs.Heard.{Data}
use Rattle.rlc_model.specs.Tx.{tx_next, tx_next_ack, is_sent}
use Rattle.rlc_model.specs.Rx.{is_done}
use Rattle.rlc_law.specs.Laws.{NumbersBounded}
use Rattle.rlc_law.proofs.Lists.{contains_nil, contains_cases}
use Rattle.rlc_law.proofs.Base.{below_next_ack, at_next_ack, next_ack_le}
use Rattle.rlc_law.proofs.Inductive.{reaches_inv}
use Rattle.rlc_law.proofs.Order.{InOrder, reaches_ordered}

-- behind a PDU of number n stand those of all numbers below it
number_below : (pdus : List Data) → InOrder pdus → (d : Data) → Contains pdus d → d.number < length pdus
number_below [] order d among = absurd (contains_nil d among)
number_below (y ∷ ys) order d among = elim (contains_cases y ys d among) [
  | inr behind ↦ omega (arith, number_below ys order.1 d behind)
  | inl here ↦ elim (cases_eq d.number 0) [
    | inl none ↦ omega (arith, none)
    | inr some ↦
        let e = order.0 (d.number - 1) (omega (arith, some, ap (λ (d : Data). d.number) here)) in
        omega (arith, some, number_below ys order.1 e.0 e.1, e.2)
  ]
]

pub numbers_bounded : NumbersBounded
numbers_bounded h r = (ack, within, omega (arith, prefix_len-le-length is_done h.rx.received, (reaches_inv h r).rx.long, (reaches_inv h r).tx.long))
  where
    ack : tx_next_ack h.tx ≤ length h.pdus
    ack = elim (cases_eq (tx_next_ack h.tx) 0) [
      | inl none ↦ omega (arith, none)
      | inr some ↦
          let o = reaches_ordered h r in
          let below : tx_next_ack h.tx - 1 < tx_next_ack h.tx = omega (arith, some) in
          let d = o.made (tx_next_ack h.tx - 1) (omega (arith, some, next_ack_le h.tx), ap is_sent (below_next_ack h.tx (tx_next_ack h.tx - 1) below)) in
          omega (arith, some, number_below h.pdus o.order d.0 d.1, d.2)
    ]

    within : tx_next h.tx ≤ length h.pdus + window h.tx.size
    within = elim (cases_lt (tx_next_ack h.tx) (tx_next h.tx)) [
      | inl lt ↦ let k = at_next_ack h.tx lt in omega (arith, (reaches_inv h r).tx.within (tx_next_ack h.tx) k.0 k.1, ack)
      | inr le ↦ omega (arith, ack)
    ]
