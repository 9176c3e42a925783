-- Worked runs of the steps, from empty entities with 12-bit SNs.
use Rattle.std.specs.Prelude.{◌≡◌, ℕ, Bool, true, false, List, [], ◌∷◌, None}
use Rattle.link_base.specs.declared.names.SnSize.TheVariants.{S12}
use Rattle.link_base.specs.declared.rlc_words.Tag.{Tag}
use Rattle.rlc_pdu.specs.declared.amd.Si.TheVariants.{Whole, First, Last, Middle}
use Rattle.rlc_pdu.specs.Amd.{Amd}
use Rattle.rlc_status.specs.declared.status.Status.{Status}
use Rattle.rlc_status.specs.Format.{status_bytes}
use Rattle.rlc_model.specs.declared.receiver.Heard.TheVariants.{Stored, Complete}
use Rattle.rlc_model.specs.declared.receiver.Made.TheVariants as made
use Rattle.rlc_model.specs.declared.transmitter.TxGrant.TheVariants.{Sent, Idle, Small}
use Rattle.rlc_model.specs.declared.transmitter.StatusHeard.TheVariants.{Acked}
use Rattle.rlc_model.specs.Tx.{Tx, empty_tx, Gives, Grants}
use Rattle.rlc_model.specs.Rx.{Rx, empty_rx, status_due, Hears, ExpiresReassembly, ExpiresProhibit}
use Rattle.rlc_model.specs.Made.{Makes}
use Rattle.rlc_model.specs.Retransmission.{HearsStatus}

-- an empty transmitter that polls after 32 PDUs and not by bytes, and an empty receiver
abbrev pub t0 : Tx
t0 = empty_tx S12 32 0 32

abbrev pub r0 : Rx
r0 = empty_rx S12

-- an SDU of twelve bytes
abbrev pub twelve : List ℕ
twelve = 128 ∷ 0 ∷ 1 ∷ 2 ∷ 3 ∷ 4 ∷ 5 ∷ 6 ∷ 7 ∷ 8 ∷ 9 ∷ 10 ∷ []

-- grants of 5, 8 and 100 octets send its first, middle and last segment, the last one with a poll. A whole header and one byte
-- have 3 octets, or 5 behind the first byte
abbrev pub SendsSegments : Type 0
SendsSegments = (tag : Tag) → (t1 : Tx) × (t2 : Tx) × (t3 : Tx) × (t4 : Tx) × Gives t0 tag twelve 0 t1
    × Grants t1 2 (Small 3) t1
    × Grants t1 5 (Sent 0 (144 ∷ 0 ∷ 128 ∷ 0 ∷ 1 ∷ [])) t2
    × Grants t2 4 (Small 5) t2
    × Grants t2 8 (Sent 0 (176 ∷ 0 ∷ 0 ∷ 3 ∷ 2 ∷ 3 ∷ 4 ∷ 5 ∷ [])) t3
    × Grants t3 100 (Sent 0 (224 ∷ 0 ∷ 0 ∷ 7 ∷ 6 ∷ 7 ∷ 8 ∷ 9 ∷ 10 ∷ [])) t4
    × Grants t4 100 Idle t4

-- heard last, first, middle they complete the SDU, and the poll triggers a STATUS then
abbrev pub HearsSegments : Type 0
HearsSegments = (r1 : Rx) × (r2 : Rx) × (r3 : Rx)
    × Hears r0 (record { sn = 0; poll = true; si = Last; so = 7; body = 6 ∷ 7 ∷ 8 ∷ 9 ∷ 10 ∷ [] }) Stored r1
    × Hears r1 (record { sn = 0; poll = false; si = First; so = 0; body = 128 ∷ 0 ∷ 1 ∷ [] }) Stored r2
    × Hears r2 (record { sn = 0; poll = false; si = Middle; so = 3; body = 2 ∷ 3 ∷ 4 ∷ 5 ∷ [] }) (Complete 0 twelve) r3
    × (status_due r2 ≡ false) × (status_due r3 ≡ true)

-- three SDUs, of which the second will be lost and asked for
abbrev pub sdu0 : List ℕ
sdu0 = 128 ∷ 0 ∷ 97 ∷ []

abbrev pub sdu1 : List ℕ
sdu1 = 128 ∷ 1 ∷ 98 ∷ []

abbrev pub sdu2 : List ℕ
sdu2 = 128 ∷ 2 ∷ 99 ∷ []

abbrev pub whole : ℕ → Bool → List ℕ → Amd
whole sn poll sdu = record { sn = sn; poll = poll; si = Whole; so = 0; body = sdu }

-- a STATUS that asks for number 1, and one that asks for nothing
abbrev pub asks : Status
asks = record { ack = 3; nacks = record { sn = 1; part = None; range = None } ∷ [] }

abbrev pub confirms : Status
confirms = record { ack = 3; nacks = [] }

-- the receiver hears the first and the third, and t-Reassembly runs out. The STATUS that it makes has the octets 0003800010.
-- Once the second is heard too, and t-StatusProhibit has run out, the next one has the octets 000300
abbrev pub AsksForMissing : Type 0
AsksForMissing = (r1 : Rx) × (r2 : Rx) × (r3 : Rx) × (r4 : Rx) × (r5 : Rx) × (r6 : Rx) × (r7 : Rx)
    × Hears r0 (whole 0 false sdu0) (Complete 0 sdu0) r1
    × Hears r1 (whole 2 true sdu2) (Complete 2 sdu2) r2
    × (status_due r2 ≡ false)
    × ExpiresReassembly r2 r3
    × Makes r3 100 (made.Full asks 3) r4
    × (status_bytes S12 asks ≡ 0 ∷ 3 ∷ 128 ∷ 0 ∷ 16 ∷ [])
    × Hears r4 (whole 1 true sdu1) (Complete 1 sdu1) r5
    × (status_due r5 ≡ false)
    × ExpiresProhibit r5 r6
    × Makes r6 100 (made.Full confirms 3) r7
    × (status_bytes S12 confirms ≡ 0 ∷ 3 ∷ 0 ∷ [])

-- the transmitter sends the three, the last one with a poll. The first STATUS confirms the first and the third, and the second is
-- sent again with a poll; the second STATUS confirms it
abbrev pub SendsAgain : Type 0
SendsAgain = (tag0 tag1 tag2 : Tag) → (t1 : Tx) × (t2 : Tx) × (t3 : Tx) × (t4 : Tx) × (t5 : Tx) × (t6 : Tx) × (t7 : Tx) × (t8 : Tx) × (t9 : Tx)
    × Gives t0 tag0 sdu0 0 t1 × Gives t1 tag1 sdu1 1 t2 × Gives t2 tag2 sdu2 2 t3
    × Grants t3 100 (Sent 0 (128 ∷ 0 ∷ sdu0)) t4
    × Grants t4 100 (Sent 1 (128 ∷ 1 ∷ sdu1)) t5
    × Grants t5 100 (Sent 2 (192 ∷ 2 ∷ sdu2)) t6
    × HearsStatus t6 asks (Acked (tag0 ∷ tag2 ∷ []) []) t7
    × Grants t7 100 (Sent 1 (192 ∷ 1 ∷ sdu1)) t8
    × HearsStatus t8 confirms (Acked (tag1 ∷ []) []) t9
