-- The transmitting side of the PDCP entity of an AM DRB: what it holds, and its steps (TS 38.323 clauses 5.1.2, 5.2.1, 5.3, 5.4.2 and 7.1).
use Rattle.std.specs.Prelude.{◌⊎◌, ℕ, ◌+◌, ◌-◌, ◌%◌, ◌<◌, ◌≤◌, ◌==◌, Bool, true, false, not, ◌&&◌, ◌||◌, if◌then◌else◌, nat_lt, nat_le, List, [], ◌∷◌, ◌++◌, length, drop, slice_index_or, Option, Some, None}
use Rattle.std.specs.List.{prefix_len}
use Rattle.std.specs.Option.{is_none}
use Rattle.link_base.specs.declared.names.SnSize.{SnSize}
use Rattle.link_base.specs.declared.limits.TheConstants.{LONGEST_PDCP_SDU, COUNT_END}
use Rattle.link_base.specs.SequenceNumbers.{modulus, most_unconfirmed}
use Rattle.pdcp_pdu.specs.Pdcp.{Pdcp, Sdu}
use Rattle.pdcp_pdu.specs.Reports.{bit_of, Reports}
use Rattle.pdcp_model.specs.declared.answers.SubmitFault.{SubmitFault}
use Rattle.pdcp_model.specs.declared.answers.SubmitFault.TheVariants.{Empty, Long, Spent, Full}

-- what a transmitting side holds: the size of its SNs; its first COUNT; each SDU accepted so far, in order of COUNT, or None once its
-- delivery is confirmed; how many of them have had their turn to be given to RLC since the entity was last re-established; and whether it
-- waits for a status report before it gives more (5.1.2)
pub record Sender : Type 0 where
  pub size : SnSize
  pub first : ℕ
  pub kept : List (Option (List ℕ))
  pub place : ℕ
  pub waits : Bool

-- a transmitting side that has accepted nothing
abbrev pub new_sender : SnSize → ℕ → Sender
new_sender size first = record { size = size; first = first; kept = []; place = 0; waits = false }

-- the SDU of a number, which is its COUNT less the first one, where it is kept
abbrev pub kept_at : Sender → ℕ → Option (List ℕ)
kept_at s n = slice_index_or s.kept n None

-- how many SDUs were accepted
abbrev pub submitted : Sender → ℕ
submitted s = length s.kept

-- how many of the SDUs accepted first are all confirmed
abbrev pub confirmed : Sender → ℕ
confirmed s = prefix_len is_none s.kept

-- TX_NEXT: the COUNT of the next SDU (7.1)
abbrev pub tx_next : Sender → ℕ
tx_next s = s.first + submitted s

-- the first reason why an SDU isn't accepted: it is empty, it is too long, no COUNT is left, or as many SDUs as may be are unconfirmed
abbrev pub submit_fault : Sender → List ℕ → Option SubmitFault
submit_fault s sdu =
    if length sdu == 0 then Some Empty
    else if nat_lt LONGEST_PDCP_SDU (length sdu) then Some Long
    else if nat_le COUNT_END (tx_next s) then Some Spent
    else if submitted s == confirmed s + most_unconfirmed s.size then Some (Full (confirmed s))
    else None

-- an SDU is accepted with the COUNT TX_NEXT (5.2.1)
abbrev pub accepts : Sender → List ℕ → Sender
accepts s sdu = record s { kept = s.kept ++ Some sdu ∷ [] }

-- the number that is next to be given to RLC: the first from the place on whose SDU is kept
abbrev pub next : Sender → ℕ
next s = s.place + prefix_len is_none (drop s.place s.kept)

-- the side doesn't wait, and has an SDU to give
abbrev pub has_next : Sender → Bool
has_next s = not s.waits && nat_lt (next s) (submitted s)

-- the PDCP data PDU of a number and its SDU: its SN is that of its COUNT (5.2.1 and 6.2.2)
abbrev pub data_pdu : Sender → ℕ → List ℕ → Pdcp
data_pdu s n sdu = Sdu ((s.first + n) % modulus s.size) sdu

-- the next number was given to RLC
abbrev pub gave_next : Sender → Sender
gave_next s = record s { place = next s + 1 }

-- of SDUs, the first of which has this COUNT, those that are still kept once each is confirmed whose COUNT passes the test
abbrev pub still_kept : (ℕ → Bool) → ℕ → List (Option (List ℕ)) → List (Option (List ℕ))
still_kept is_confirmed count [] = []
still_kept is_confirmed count (sdu ∷ sdus) = (if is_confirmed count then None else sdu) ∷ still_kept is_confirmed (count + 1) sdus

-- delivery of each COUNT that passes the test is confirmed, and its SDU is discarded (5.3)
abbrev pub confirms : Sender → (ℕ → Bool) → Sender
confirms s is_confirmed = record s { kept = still_kept is_confirmed s.first s.kept }

-- a status report says that the SDU with this COUNT was received (6.3.9 and 6.3.10)
abbrev pub is_reported : ℕ → List ℕ → ℕ → Bool
is_reported fmc map count = nat_lt count fmc || (nat_lt fmc count && (bit_of map (count - fmc) == 1))

-- a status report speaks of a COUNT that wasn't submitted
abbrev pub IsBeyond : Sender → ℕ → List ℕ → Type 0
IsBeyond s fmc map = (tx_next s < fmc) ⊎ ((count : ℕ) × (tx_next s ≤ count) × Reports fmc map count)

-- a wait ends, and the place goes back to the least number whose SDU is kept (5.1.2)
abbrev pub goes_on : Sender → Sender
goes_on s = if s.waits then record s { waits = false; place = confirmed s } else s

-- a status report is heard: what it says was received is confirmed, and a wait ends (5.4.2)
abbrev pub hears_report : Sender → ℕ → List ℕ → Sender
hears_report s fmc map = goes_on (confirms s (is_reported fmc map))

-- the entity is re-established: it waits for a status report (5.1.2)
abbrev pub begins_wait : Sender → Sender
begins_wait s = record s { waits = true }
