-- The next move of a port.
use Rattle.std.proofs.Common.{◌⊎◌, inl, inr, ◌<◌, arith}
use Rattle.std.proofs.lemmas.Bool.{cases_Bool, cases_lt}
use Rattle.link_base.specs.declared.names.Way.{Way}
use Rattle.link_base.specs.declared.names.Way.TheVariants.{Ul, Dl}
use Rattle.rlc_model.specs.declared.hop.Move.{Move}
use Rattle.rlc_model.specs.Rx.{Rx, status_due}
use Rattle.rlc_model.specs.Tx.{Tx, tx_next_ack, unconfirmed}
use Rattle.rlc_law.proofs.Base.{at_next_ack}
use Rattle.rlc_rest.specs.Moves.{NothingWaits, WayMove, sends, makes_status, prohibits, polls, NextMove, up, down, MovesWhileUnconfirmed, DownIsStatus, PollRuns}
use Rattle.rlc_rest.proofs.Bounds.{some_unconfirmed}
use Rattle.rlc_rest.proofs.Running.{progresses}
use Rattle.rlc_rest.proofs.Waits.{cases_pending, cases_unsent}

-- there is a move for each way
way_move : (way : Way) (t : Tx) (r : Rx) → (move : Move) × WayMove way t r move
way_move way t r = elim (cases_pending t) [
  | inl waits ↦ (_, sends (inl waits))
  | inr none ↦ elim (cases_unsent t) [
    | inl waits ↦ (_, sends (inr waits))
    | inr no_more ↦ rests (record { pending = none; unsent = no_more })
  ]
]
  where
    rests : NothingWaits t → (move : Move) × WayMove way t r move
    rests none = elim (cases_Bool (status_due r)) [
      | inl due ↦ (_, makes_status none due)
      | inr held ↦ elim (cases_Bool r.status_triggered) [
        | inl triggered ↦ (_, prohibits none triggered held)
        | inr quiet ↦ (_, polls none quiet)
      ]
    ]

pub moves_while_unconfirmed : MovesWhileUnconfirmed
moves_while_unconfirmed low_tx low_rx high_tx high_rx = (λ m. to m.0 m.1, from)
  where
    to : (move : Move) → NextMove low_tx low_rx high_tx high_rx move → (0 < unconfirmed low_tx) ⊎ (0 < unconfirmed high_tx)
    to move (up some moves) = inl some
    to move (down none some moves) = inr some

    from : (0 < unconfirmed low_tx) ⊎ (0 < unconfirmed high_tx) → (move : Move) × NextMove low_tx low_rx high_tx high_rx move
    from some = elim (cases_lt 0 (unconfirmed low_tx)) [
      | inl here ↦ let m = way_move Ul low_tx high_rx in (m.0, up here m.1)
      | inr none ↦ elim some [
        | inl here ↦ absurd (omega (arith, here, none))
        | inr there ↦ let m = way_move Dl high_tx low_rx in (m.0, down (omega (arith, none)) there m.1)
      ]
    ]

pub down_is_status : DownIsStatus
down_is_status low_tx low_rx high_tx high_rx some (up unconfirmed_one (makes_status none due)) = due
down_is_status low_tx low_rx high_tx high_rx some (down none other moves) = absurd (omega (arith, some, none))

pub poll_runs : PollRuns
poll_runs h run none some =
    let k = at_next_ack h.tx (some_unconfirmed h.tx some) in
    elim ((progresses h run).some (tx_next_ack h.tx) k.0 k.1) [
      | inl runs ↦ runs
      | inr (inl waits) ↦ absurd (none.unsent waits)
      | inr (inr (inl owed)) ↦ absurd (none.pending owed.1)
      | inr (inr (inr each)) ↦ let p = each (tx_next_ack h.tx) k.0 k.1 in absurd (none.pending (p.0, p.1, p.3))
    ]
